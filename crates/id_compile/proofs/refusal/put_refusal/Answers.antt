use Rattle.std.proofs.Common.{codes, ◌++◌}
use Rattle.id_compile.specs.Refusals.{cause_text, detail_text}
use Rattle.id_sink.proofs.SinkLemmas.{Prints-stop, Prints-then}
use Rattle.id_compile.proofs.refusal.put_refusal.Goals as goal

pub returns-in_err-put : goal.returns-in_err-put
returns-in_err-put g c =
    let r = c.args.refusal.now in
    Prints-stop _ _ _ (cause_text r.cause ++ (detail_text c.args.text.now r.detail ++ codes "\n")) _ _
    c.in_err-put.ensures c.from_residual.ensures.0

pub returns-in_err-put_cause : goal.returns-in_err-put_cause
returns-in_err-put_cause g c =
    let r = c.args.refusal.now in
    Prints-then _ _ _ _ _ _ _ c.in_ok-put.ensures
    (Prints-stop _ _ _ (detail_text c.args.text.now r.detail ++ codes "\n") _ _ c.in_err-put_cause.ensures
    c.from_residual-in_err-put_cause.ensures.0)

pub returns-in_err-put_detail : goal.returns-in_err-put_detail
returns-in_err-put_detail g c =
    Prints-then _ _ _ _ _ _ _ c.in_ok-put.ensures (Prints-then _ _ _ _ _ _ _ c.in_ok-put_cause.ensures
    (Prints-stop _ _ _ (codes "\n") _ _ c.in_err-put_detail.ensures c.from_residual-in_err-put_detail.ensures.0))

pub returns : goal.returns
returns g c =
    Prints-then _ _ _ _ _ _ _ c.in_ok-put.ensures (Prints-then _ _ _ _ _ _ _ c.in_ok-put_cause.ensures
    (Prints-then _ _ _ _ _ _ _ c.in_ok-put_detail.ensures c.put-2.ensures))
