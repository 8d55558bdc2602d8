-- The texts that are printed (docs/LANGUAGE.md, "Output"). Bytes are those of ASCII text.
use Rattle.std.specs.Prelude.{ℕ, ℤ, List, ◌++◌, Option, None, Some}
use Rattle.std.specs.Prelude.{codes}
use Rattle.std.specs.List.{flat_map}
use Rattle.id_source.specs.declared.SourceValue.{SourceValue}
use Rattle.id_source.specs.declared.Site.{Site}
use Rattle.id_source.specs.declared.Put.{Put}
use Rattle.id_source.specs.declared.Ask.{Ask}
use Rattle.id_value.specs.declared.FaultKind.{FaultKind}
use Rattle.id_value.specs.declared.FaultKind.TheVariants.{Overflow, DivisionByZero, BadBounds, OutOfBounds}
use Rattle.id_source.specs.declared.SourceFault.{SourceFault}
use Rattle.id_source.specs.declared.SourceFault.TheVariants.{Operator, SecondStore}
use Rattle.id_source.specs.declared.NameValue.{NameValue}
use Rattle.id_source.specs.declared.Fact.{Fact}
use Rattle.id_source.specs.declared.Fact.TheVariants.{On, Has}
use Rattle.id_source.specs.declared.Fact.TheVariants as fact
use Rattle.id_print.specs.declared.helds.Held.{Held}
use Rattle.id_print.specs.declared.helds.Held.TheVariants as held
use Rattle.id_sink.specs.Texts.{point_text, site_text, value_text, point_value_text, shape_text}
use Rattle.id_sink.specs.Texts.{cell_text, filled_text, ask_text}

-- an answer that may be missing
abbrev pub answer_value_text : List ℕ → Option SourceValue → List ℕ
answer_value_text text None = codes "none"
answer_value_text text (Some v) = value_text text v

-- the line of the answer
abbrev pub answer_text : List ℕ → Option SourceValue → List ℕ
answer_text text v = codes "answer " ++ (answer_value_text text v ++ codes "\n")

-- the line of a structure, or of a cell of one
abbrev pub held_text : List ℕ → Held → List ℕ
held_text text (held.Array s) = codes "array " ++ shape_text text s
held_text text (held.Cell c) = codes "cell " ++ (filled_text text c.name c.index c.value ++ codes "\n")

-- the lines of structures and cells, one after another
abbrev pub helds_text : List ℕ → List Held → List ℕ
helds_text text hs = flat_map (held_text text) hs

-- the line of a fetch that waits
abbrev pub waiting_text : List ℕ → Ask → List ℕ
waiting_text text a = codes "waiting " ++ ask_text text a

-- the lines of fetches that wait, one after another
abbrev pub waitings_text : List ℕ → List Ask → List ℕ
waitings_text text asks = flat_map (waiting_text text) asks

-- the line of a name
abbrev pub name_text : List ℕ → NameValue → List ℕ
name_text text n = codes "name " ++ point_value_text text n.path n.place n.value

-- the lines of names, one after another
abbrev pub names_text : List ℕ → List NameValue → List ℕ
names_text text ns = flat_map (name_text text) ns

-- the lines of what a run has shown: its answer, these names, and the structures with their cells
abbrev pub shown_text : List ℕ → Option SourceValue → List NameValue → List Held → List ℕ
shown_text text v ns hs = answer_text text v ++ (names_text text ns ++ helds_text text hs)

-- the lines of a run that fell quiet: what it has shown, and the fetches that wait
abbrev pub quiet_text : List ℕ → Option SourceValue → List NameValue → List Held → List Ask → List ℕ
quiet_text text v ns hs asks = shown_text text v ns hs ++ waitings_text text asks

-- the lines of a run that was stopped
abbrev pub stopped_text : List ℕ → Option SourceValue → List NameValue → List Held → List ℕ
stopped_text text v ns hs = codes "stopped\n" ++ shown_text text v ns hs

-- what went wrong
abbrev pub kind_text : FaultKind → List ℕ
kind_text Overflow = codes "overflow"
kind_text DivisionByZero = codes "division by zero"
kind_text BadBounds = codes "bad bounds"
kind_text OutOfBounds = codes "out of bounds"

-- what a fault's line begins with
abbrev pub fault_head_text : FaultKind → List ℕ
fault_head_text k = codes "fault " ++ (kind_text k ++ codes " at ")

-- two stores, and the end of the line
abbrev pub stores_text : List ℕ → Site → Site → List ℕ
stores_text text a b = site_text text a ++ (codes " and " ++ (site_text text b ++ codes "\n"))

-- a cell with two stores, and the end of the line
abbrev pub second_text : List ℕ → Site → ℤ → Site → Site → List ℕ
second_text text s i a b = cell_text text s i ++ (codes " at " ++ stores_text text a b)

-- the line of a fault
abbrev pub fault_text : List ℕ → SourceFault → List ℕ
fault_text text (Operator k s) = fault_head_text k ++ (site_text text s ++ codes "\n")
fault_text text (SecondStore s i a b) = codes "fault second store of " ++ second_text text s i a b

-- what is put into a cell, and by which store, and the end of the line
abbrev pub put_text : List ℕ → Put → List ℕ
put_text text p = filled_text text p.name p.index p.value ++ (codes " by " ++ (site_text text p.store ++ codes "\n"))

-- the line of a fact
abbrev pub fact_text : List ℕ → Fact → List ℕ
fact_text text (On p e) = codes "on " ++ (point_text text p e ++ codes "\n")
fact_text text (Has p e v) = codes "has " ++ point_value_text text p e v
fact_text text (fact.Shape s) = codes "shape " ++ shape_text text s
fact_text text (fact.Put p) = codes "put " ++ put_text text p
fact_text text (fact.Ask a) = codes "ask " ++ ask_text text a

-- the lines of facts, one after another
abbrev pub facts_text : List ℕ → List Fact → List ℕ
facts_text text fs = flat_map (fact_text text) fs
