-- Lemmas on specs/Reasoned.antt.
use Rattle.std.proofs.Common.{ℕ, List, Result}
use Rattle.id_check.specs.declared.checked.Checked.{Checked}
use Rattle.id_sink.specs.declared.sink.PrintError.{PrintError}
use Rattle.id_sink.specs.Told.{SinkView, Prints}
use Rattle.id_why.specs.declared.reasons.Reasons.{Reasons}
use Rattle.id_print.specs.Reasons.{reasons_text}
use Rattle.id_engine.specs.Commands.{HasShown, Why, reasons}
use Rattle.id_engine.specs.Reasoned.{AreReasonsOf}

-- what is printed of what lacks a value is what the command shows
pub HasShown-reasons : (text : List ℕ) (ws : List (List ℕ)) (round : ℕ) (P : Checked) (r : Reasons) (old new : SinkView)
    (result : Result (Unit {0}) PrintError) → AreReasonsOf text ws round P r
    → Prints old new (reasons_text (record { text = text; checked = P; facts = r.paths }) round r) result
    → HasShown (Why round ws) text old new 0 result
HasShown-reasons text ws round P r old new result h printed = record {
  program = P;
  is_program = h.is_program;
  output = reasons_text (record { text = text; checked = P; facts = r.paths }) round r;
  shows = reasons r h.are_inputs h.are;
  printed = printed;
}
