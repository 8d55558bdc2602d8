use Rattle.std.proofs.Common.{◌++◌}
use Rattle.std.specs.Prelude.{decimal}
use Rattle.id_sink.proofs.SinkLemmas.{Prints-stop, Prints-then}
use Rattle.id_sink.proofs.texts.put_numbers.Goals as goal

pub returns-in_err-put_long : goal.returns-in_err-put_long
returns-in_err-put_long g c =
    Prints-stop _ _ _ (c.args.between.now ++ decimal c.args.second) _ _ c.in_err-put_long.ensures
    c.from_residual.ensures.0

pub returns-in_err-put : goal.returns-in_err-put
returns-in_err-put g c = Prints-then _ _ _ _ _ _ _ c.in_ok-put_long.ensures
    (Prints-stop _ _ _ (decimal c.args.second) _ _ c.in_err-put.ensures c.from_residual-in_err-put.ensures.0)

pub returns : goal.returns
returns g c =
    Prints-then _ _ _ _ _ _ _ c.in_ok-put_long.ensures
    (Prints-then _ _ _ _ _ _ _ c.in_ok-put.ensures c.put_long-2.ensures)
