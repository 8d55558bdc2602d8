use Rattle.std.proofs.Common.{◌++◌, ◌+◌}
use Rattle.std.specs.Prelude.{codes, decimal}
use Rattle.id_sink.proofs.SinkLemmas.{Prints-stop, Prints-then}
use Rattle.id_engine.proofs.judge.put_other.Goals as goal

pub returns-in_err-put : goal.returns-in_err-put
returns-in_err-put g c =
    Prints-stop _ _ _ (decimal (c.args.position + 1) ++ (codes ": " ++ (c.args.why.now ++ codes "\n"))) _ _
    c.in_err-put.ensures
    c.from_residual.ensures.0

pub returns-in_err-put_long : goal.returns-in_err-put_long
returns-in_err-put_long g c = Prints-then _ _ _ _ _ _ _ c.in_ok-put.ensures
    (Prints-stop _ _ _ (codes ": " ++ (c.args.why.now ++ codes "\n")) _ _ c.in_err-put_long.ensures
    c.from_residual-in_err-put_long.ensures.0)

pub returns-in_err-put-2 : goal.returns-in_err-put-2
returns-in_err-put-2 g c =
    Prints-then _ _ _ _ _ _ _ c.in_ok-put.ensures (Prints-then _ _ _ _ _ _ _ c.in_ok-put_long.ensures
    (Prints-stop _ _ _ (c.args.why.now ++ codes "\n") _ _ c.in_err-put-2.ensures
    c.from_residual-in_err-put-2.ensures.0))

pub returns-in_err-put-3 : goal.returns-in_err-put-3
returns-in_err-put-3 g c =
    Prints-then _ _ _ _ _ _ _ c.in_ok-put.ensures (Prints-then _ _ _ _ _ _ _ c.in_ok-put_long.ensures
    (Prints-then _ _ _ _ _ _ _ c.in_ok-put-2.ensures
    (Prints-stop _ _ _ (codes "\n") _ _ c.in_err-put-3.ensures c.from_residual-in_err-put-3.ensures.0)))

pub returns : goal.returns
returns g c = Prints-then _ _ _ _ _ _ _ c.in_ok-put.ensures (Prints-then _ _ _ _ _ _ _ c.in_ok-put_long.ensures
    (Prints-then _ _ _ _ _ _ _ c.in_ok-put-2.ensures (Prints-then _ _ _ _ _ _ _ c.in_ok-put-3.ensures c.put-4.ensures)))
