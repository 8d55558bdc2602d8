use Rattle.std.proofs.Common.{codes, ◌++◌}
use Rattle.id_compile.specs.Refusals.{kind_text}
use Rattle.id_sink.proofs.SinkLemmas.{Prints-stop, Prints-then}
use Rattle.id_compile.proofs.refusal.put_kinds.Goals as goal

pub returns-in_err-put : goal.returns-in_err-put
returns-in_err-put g c =
    Prints-stop _ _ _ (kind_text c.args.wanted ++ (codes " found " ++ kind_text c.args.found)) _ _ c.in_err-put.ensures
    c.from_residual.ensures.0

pub returns-in_err-put_kind : goal.returns-in_err-put_kind
returns-in_err-put_kind g c =
    Prints-then _ _ _ _ _ _ _ c.in_ok-put.ensures
    (Prints-stop _ _ _ (codes " found " ++ kind_text c.args.found) _ _ c.in_err-put_kind.ensures
    c.from_residual-in_err-put_kind.ensures.0)

pub returns-in_err-put-2 : goal.returns-in_err-put-2
returns-in_err-put-2 g c =
    Prints-then _ _ _ _ _ _ _ c.in_ok-put.ensures (Prints-then _ _ _ _ _ _ _ c.in_ok-put_kind.ensures
    (Prints-stop _ _ _ (kind_text c.args.found) _ _ c.in_err-put-2.ensures c.from_residual-in_err-put-2.ensures.0))

pub returns : goal.returns
returns g c =
    Prints-then _ _ _ _ _ _ _ c.in_ok-put.ensures (Prints-then _ _ _ _ _ _ _ c.in_ok-put_kind.ensures
    (Prints-then _ _ _ _ _ _ _ c.in_ok-put-2.ensures c.put_kind-2.ensures))
