-- The texts of points, values and cells stand within a line.
use Rattle.std.proofs.Common.{◌≡◌, ℕ, ℤ, Bool, true, false, List, [], ◌∷◌, ◌++◌, refl}
use Rattle.std.specs.Prelude.{codes, decimal}
use Rattle.std.specs.Fmt.{signed_decimal}
use Rattle.id_text.specs.Places.{column_of, is_within_line, line_of}
use Rattle.id_source.specs.declared.PathStep.{PathStep}
use Rattle.id_source.specs.declared.Path.{Path}
use Rattle.id_source.specs.declared.Site.{Site}
use Rattle.id_source.specs.declared.SourceValue.{SourceValue}
use Rattle.id_source.specs.declared.SourceValue.TheVariants.{Int, Bool as SourceBool, Name}
use Rattle.id_sink.specs.Texts.{cell_text, equal_text, filled_text, has_brace, iteration_text, place_text, point_text}
use Rattle.id_sink.specs.Texts.{site_text, step_text, steps_text, truth_text, value_text}
use Rattle.id_sink.proofs.LinesLemmas.{all_pass, all_pass-append}
use Rattle.id_sink.proofs.DigitsLemmas.{decimal_within, signed_within}

-- all of the bytes stand within a line
abbrev pub IsWithin : List ℕ → Type 0
IsWithin xs = all_pass is_within_line xs ≡ true

add : (xs ys : List ℕ) → IsWithin xs → IsWithin ys → IsWithin (xs ++ ys)
add xs ys h k = all_pass-append is_within_line xs ys h k

place_within : (text : List ℕ) (e : ℕ) → IsWithin (place_text text e)
place_within text e =
    add (decimal (line_of text e)) (58 ∷ decimal (column_of text e)) (decimal_within (line_of text e))
    (decimal_within (column_of text e))

iteration_within : (b : Bool) (k : ℕ) → IsWithin (iteration_text b k)
iteration_within true k = decimal_within k
iteration_within false k = refl

step_within : (text : List ℕ) (s : PathStep) → IsWithin (step_text text s)
step_within text s =
    add (place_text text s.place) (iteration_text (has_brace text s.place) s.number) (place_within text s.place)
    (iteration_within (has_brace text s.place) s.number)

steps_within : (text : List ℕ) (ss : List PathStep) → IsWithin (steps_text text ss)
steps_within text [] = refl
steps_within text (s ∷ ss) = add (step_text text s) (steps_text text ss) (step_within text s) (steps_within text ss)

pub point_within : (text : List ℕ) (p : Path) (e : ℕ) → IsWithin (point_text text p e)
point_within text p e =
    add (steps_text text p.steps) (64 ∷ place_text text e) (steps_within text p.steps) (place_within text e)

truth_within : (b : Bool) → IsWithin (truth_text b)
truth_within true = refl
truth_within false = refl

pub value_within : (text : List ℕ) (v : SourceValue) → IsWithin (value_text text v)
value_within text (Int n) = signed_within n
value_within text (SourceBool b) = truth_within b
value_within text (Name s) = point_within text s.path s.place

pub cell_within : (text : List ℕ) (s : Site) (i : ℤ) → IsWithin (cell_text text s i)
cell_within text s i =
    add (site_text text s) (91 ∷ (signed_decimal i ++ codes "]")) (point_within text s.path s.place)
    (add (signed_decimal i) (codes "]") (signed_within i) refl)

pub filled_within : (text : List ℕ) (s : Site) (i : ℤ) (v : SourceValue) → IsWithin (filled_text text s i v)
filled_within text s i v = add (cell_text text s i) (equal_text text v) (cell_within text s i) (value_within text v)
