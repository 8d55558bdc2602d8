-- One part behind the other, where there are more facts.
use Rattle.std.proofs.Common.{codes, decimal, ◌++◌, ap, sym}
use Rattle.id_sink.proofs.SinkLemmas.{Prints-stop, Prints-then}
use Rattle.id_sink.proofs.TextsLemmas.{same_text}
use Rattle.id_print.specs.Reasons.{end_text}
use Rattle.id_print.proofs.reasons.put_end.Goals as goal

pub returns-in_err-put : goal.returns-in_err-put
returns-in_err-put g c =
    same_text _ _ _ _ _ (ap (λ b. end_text b c.args.n) (sym c.if-ended.false))
    (Prints-stop _ _ _ (decimal c.args.n ++ codes "\n") _ _ c.in_err-put.ensures c.from_residual.ensures.0)

pub returns-in_err-put_number : goal.returns-in_err-put_number
returns-in_err-put_number g c =
    same_text _ _ _ _ _ (ap (λ b. end_text b c.args.n) (sym c.if-ended.false))
    (Prints-then _ _ _ _ _ _ _ c.in_ok-put.ensures
    (Prints-stop _ _ _ (codes "\n") _ _ c.in_err-put_number.ensures c.from_residual-in_err-put_number.ensures.0))

pub returns-in_ok-put_number : goal.returns-in_ok-put_number
returns-in_ok-put_number g c =
    same_text _ _ _ _ _ (ap (λ b. end_text b c.args.n) (sym c.if-ended.false))
    (Prints-then _ _ _ _ _ _ _ c.in_ok-put.ensures
    (Prints-then _ _ _ _ _ _ _ c.in_ok-put_number.ensures c.put-else-ended.ensures))
