-- The texts of what lacks a value (docs/LANGUAGE.md, "Output").
use Rattle.std.specs.Prelude.{ℕ, Bool as Truth, true, false, List, [], ◌∷◌, ◌++◌, Option, None, Some, codes, decimal}
use Rattle.std.specs.List.{flat_map}
use Rattle.id_source.specs.declared.SourceValue.{SourceValue}
use Rattle.id_facts.specs.declared.cells.Point.{Point}
use Rattle.id_facts.specs.declared.facts.RowValue.{RowValue}
use Rattle.id_why.specs.declared.known.Cell.{Cell}
use Rattle.id_why.specs.declared.lines.Line.{Line}
use Rattle.id_why.specs.declared.reasons.Reasons.{Reasons}
use Rattle.id_sink.specs.Texts.{cell_text, site_text, value_text}
use Rattle.id_print.specs.Texts.{answer_text}
use Rattle.id_print.specs.Pens.{PenView, name_in, site_in, value_in}

-- the answer of the source that this is
abbrev pub answer_in : PenView → Option RowValue → Option SourceValue
answer_in v None = None
answer_in v (Some w) = Some (value_in v w)

-- a thing behind a blank
abbrev pub thing_text : PenView → Point → List ℕ
thing_text v t = codes " " ++ site_text v.text (site_in v t.path t.row)

-- things, each behind a blank
abbrev pub things_text : PenView → List Point → List ℕ
things_text v ts = flat_map (thing_text v) ts

-- a cell behind a blank
abbrev pub asked_text : PenView → Cell → List ℕ
asked_text v c = codes " " ++ cell_text v.text (name_in v c.name) c.index

-- cells, each behind a blank
abbrev pub cells_text : PenView → List Cell → List ℕ
cells_text v cs = flat_map (asked_text v) cs

-- a value behind a blank
abbrev pub given_text : PenView → RowValue → List ℕ
given_text v w = codes " " ++ value_text v.text (value_in v w)

-- values, each behind a blank
abbrev pub values_text : PenView → List RowValue → List ℕ
values_text v ws = flat_map (given_text v) ws

-- the stores that may fill a cell
abbrev pub stores_text : PenView → List Point → List ℕ
stores_text v [] = codes " of none"
stores_text v (t ∷ ts) = codes " of" ++ things_text v (t ∷ ts)

-- what a thing waits for: of a fetch its cell, and then the stores that may fill that
abbrev pub wanted_text : PenView → List Cell → List Point → List ℕ
wanted_text v [] ts = things_text v ts
wanted_text v (c ∷ cs) ts = cells_text v (c ∷ cs) ++ stores_text v ts

-- whether it waits for nothing: it has all that it needs
abbrev pub has_all : List Cell → List Point → Truth
has_all [] [] = true
has_all cs ts = false

-- what is said of a thing that fails on what it has
abbrev pub fails_text : PenView → Line → List ℕ
fails_text v l = codes "fails" ++ (thing_text v l.thing ++ (codes " on" ++ values_text v l.values.items))

-- what is said of a thing that waits
abbrev pub waits_text : PenView → Line → List ℕ
waits_text v l =
    codes "waits" ++ (thing_text v l.thing ++ (codes " for" ++ wanted_text v l.cells.items l.needs.items))

-- what is said of a thing that has all that it needs, or not
abbrev pub line_by : PenView → Line → Truth → List ℕ
line_by v l true = fails_text v l
line_by v l false = waits_text v l

-- what is said of the thing of a line
abbrev pub body_text : PenView → Line → List ℕ
body_text v l = line_by v l (has_all l.cells.items l.needs.items)

-- a line, with its end
abbrev pub line_text : PenView → Line → List ℕ
line_text v l = body_text v l ++ codes "\n"

-- lines, in order
abbrev pub lines_text : PenView → List Line → List ℕ
lines_text v ls = flat_map (line_text v) ls

-- nothing where the facts have ended, and else that more follow behind this round
abbrev pub end_text : Truth → ℕ → List ℕ
end_text true n = []
end_text false n = codes "more facts follow behind round " ++ (decimal n ++ codes "\n")

-- the answer of round n, what lacks a value, and whether more follows
abbrev pub reasons_text : PenView → ℕ → Reasons → List ℕ
reasons_text v n w = answer_text v.text (answer_in v w.answer) ++ (lines_text v w.lines.items ++ end_text w.ended n)
