use Rattle.std.proofs.Common.{codes, ◌++◌}
use Rattle.std.specs.Prelude.{decimal}
use Rattle.id_sink.proofs.SinkLemmas.{Prints-stop, Prints-then}
use Rattle.id_trace.proofs.trace.put_structure.Goals as goal

pub returns-in_err-put : goal.returns-in_err-put
returns-in_err-put g c =
    Prints-stop _ _ _ (decimal c.args.structure.element ++ (codes "." ++ decimal c.args.structure.serial)) _ _
    c.in_err-put.ensures c.from_residual.ensures.0

pub returns : goal.returns
returns g c = Prints-then _ _ _ _ _ _ _ c.in_ok-put.ensures c.put_numbers.ensures
