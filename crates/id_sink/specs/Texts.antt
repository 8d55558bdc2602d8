-- The texts of numbers, places, values, structures and cells (docs/LANGUAGE.md, "Output"). Bytes are those of ASCII
-- text.
use Rattle.std.specs.Prelude.{ℕ, ℤ, ◌==◌, Bool as Truth, true, false, List, [], ◌++◌}
use Rattle.std.specs.Prelude.{codes, decimal, slice_get}
use Rattle.std.specs.Option.{option_map_or}
use Rattle.std.specs.List.{flat_map}
use Rattle.std.specs.Fmt.{signed_decimal}
use Rattle.id_text.specs.Places.{line_of, column_of}
use Rattle.id_source.specs.declared.PathStep.{PathStep}
use Rattle.id_source.specs.declared.Path.{Path}
use Rattle.id_source.specs.declared.SourceValue.{SourceValue}
use Rattle.id_source.specs.declared.SourceValue.TheVariants.{Int, Bool, Name}
use Rattle.id_source.specs.declared.Site.{Site}
use Rattle.id_source.specs.declared.Shape.{Shape}
use Rattle.id_source.specs.declared.Ask.{Ask}

-- a line and a column
abbrev pub line_column_text : ℕ → ℕ → List ℕ
line_column_text line column = decimal line ++ (codes ":" ++ decimal column)

-- a place as its line and column
abbrev pub place_text : List ℕ → ℕ → List ℕ
place_text text at = line_column_text (line_of text at) (column_of text at)

-- whether a `{` stands at the place
abbrev pub has_brace : List ℕ → ℕ → Truth
has_brace text at = option_map_or (λ b. b == 123) (slice_get text at) false

-- the iteration that a loop's step tells; a call's tells none
abbrev pub iteration_text : Truth → ℕ → List ℕ
iteration_text true k = codes "#" ++ decimal k
iteration_text false k = []

-- a step of a path: a loop's where the text has `{` at its place, and else a call's
abbrev pub step_text : List ℕ → PathStep → List ℕ
step_text text s = codes "/" ++ (place_text text s.place ++ iteration_text (has_brace text s.place) s.number)

-- the steps one after another
abbrev pub steps_text : List ℕ → List PathStep → List ℕ
steps_text text steps = flat_map (step_text text) steps

-- where something is: its path, and its place
abbrev pub point_text : List ℕ → Path → ℕ → List ℕ
point_text text p place = steps_text text p.steps ++ (codes "@" ++ place_text text place)

-- a truth value
abbrev pub truth_text : Truth → List ℕ
truth_text true = codes "true"
truth_text false = codes "false"

-- a path and a place: the name of a structure
abbrev pub site_text : List ℕ → Site → List ℕ
site_text text s = point_text text s.path s.place

-- a value
abbrev pub value_text : List ℕ → SourceValue → List ℕ
value_text text (Int n) = signed_decimal n
value_text text (Bool b) = truth_text b
value_text text (Name s) = site_text text s

-- a value behind a point or a cell
abbrev pub equal_text : List ℕ → SourceValue → List ℕ
equal_text text v = codes " = " ++ value_text text v

-- a point with its value, and the end of the line
abbrev pub point_value_text : List ℕ → Path → ℕ → SourceValue → List ℕ
point_value_text text p place v = point_text text p place ++ (equal_text text v ++ codes "\n")

-- the bounds of a structure, and the end of the line
abbrev pub bounds_text : ℤ → ℤ → List ℕ
bounds_text low high = signed_decimal low ++ (codes ".." ++ (signed_decimal high ++ codes "\n"))

-- the name of a structure and its bounds, and the end of the line
abbrev pub shape_text : List ℕ → Shape → List ℕ
shape_text text s = site_text text s.name ++ (codes " " ++ bounds_text s.low s.high)

-- a cell of a structure: its name, and the index
abbrev pub cell_text : List ℕ → Site → ℤ → List ℕ
cell_text text s i = site_text text s ++ (codes "[" ++ (signed_decimal i ++ codes "]"))

-- a cell and the value that it holds
abbrev pub filled_text : List ℕ → Site → ℤ → SourceValue → List ℕ
filled_text text s i v = cell_text text s i ++ equal_text text v

-- behind the name of a structure an index, the value that its cell holds, and the end of the line
abbrev pub content_text : List ℕ → ℤ → SourceValue → List ℕ
content_text text i v = (codes "[" ++ (signed_decimal i ++ codes "]")) ++ (equal_text text v ++ codes "\n")

-- the same of a number
abbrev pub number_content_text : ℤ → ℤ → List ℕ
number_content_text i n = codes "[" ++ (signed_decimal i ++ (codes "] = " ++ (signed_decimal n ++ codes "\n")))

-- a fetch and the cell that it asks for, and the end of the line
abbrev pub ask_text : List ℕ → Ask → List ℕ
ask_text text a = site_text text a.fetch ++ (codes " of " ++ (cell_text text a.name a.index ++ codes "\n"))
