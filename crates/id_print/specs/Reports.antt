-- The text of a report (docs/LANGUAGE.md, "Output").
use Rattle.std.specs.Prelude.{ℕ, Bool, if◌then◌else◌, List, []}
use Rattle.id_source.specs.declared.NameValue.{NameValue}
use Rattle.id_print.specs.Texts.{quiet_text, stopped_text, fault_text}
use Rattle.id_print.specs.declared.ending.Ending.{Ending}
use Rattle.id_print.specs.declared.ending.Ending.TheVariants.{Quiet, Stopped, Fault}
use Rattle.id_print.specs.declared.run_reports.Report.{Report}
use Rattle.std.specs.Prelude.{ℕ, List}

-- the names where they are asked for, and none where they are not
abbrev pub asked : Bool → List NameValue → List NameValue
asked names ns = if names then ns else []

-- the lines of a report, by its ending: a fault is all that is shown
abbrev pub ending_text : List ℕ → Report → List NameValue → Ending → List ℕ
ending_text text r ns Quiet = quiet_text text r.answer ns r.structures r.waiting
ending_text text r ns Stopped = stopped_text text r.answer ns r.structures
ending_text text r ns (Fault f) = fault_text text f

-- the text of a report, with its names where they are asked for
abbrev pub report_text : List ℕ → Bool → Report → List ℕ
report_text text names r = ending_text text r (asked names r.names) r.ending
