-- The text and the program are those of the prepared text.
use Rattle.std.proofs.Common.{List, ℕ, subst}
use Rattle.id_check.specs.declared.checked.Checked.{Checked}
use Rattle.id_sink.specs.Told.{Prints}
use Rattle.id_print.specs.Reasons.{reasons_text}
use Rattle.id_engine.proofs.why.print_reasoned.Goals as goal

pub returns : goal.returns
returns g c =
    let r = c.args.reasoned.reasons in
    let P = c.args.reasoned.prepared.compiled.checked in
    let F : List ℕ → Checked → Type 0 =
    λ t Q. Prints (g.W.Sink.told c.args.out.now) (g.W.Sink.told c.write_reasons.new.sink)
    (reasons_text (record { text = t; checked = Q; facts = r.paths }) c.args.round r) c.write_reasons.result in
    subst (λ (t : List ℕ). F t P) c.text.ensures.value
    (subst (λ (Q : Checked). F c.text.result.now Q) c.checked.ensures c.write_reasons.ensures)
