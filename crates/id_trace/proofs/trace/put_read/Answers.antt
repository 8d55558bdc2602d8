use Rattle.std.proofs.Common.{◌++◌}
use Rattle.id_trace.specs.Traces.{cell_text, from_text}
use Rattle.id_sink.proofs.SinkLemmas.{Prints-stop, Prints-then}
use Rattle.id_trace.proofs.trace.put_read.Goals as goal

pub returns-in_err-put : goal.returns-in_err-put
returns-in_err-put g c =
    Prints-stop _ _ _ (cell_text c.args.cell ++ from_text c.args.reply) _ _ c.in_err-put.ensures
    c.from_residual.ensures.0

pub returns-in_err-put_cell : goal.returns-in_err-put_cell
returns-in_err-put_cell g c =
    Prints-then _ _ _ _ _ _ _ c.in_ok-put.ensures
    (Prints-stop _ _ _ (from_text c.args.reply) _ _ c.in_err-put_cell.ensures
    c.from_residual-in_err-put_cell.ensures.0)

pub returns : goal.returns
returns g c =
    Prints-then _ _ _ _ _ _ _ c.in_ok-put.ensures
    (Prints-then _ _ _ _ _ _ _ c.in_ok-put_cell.ensures c.put_from.ensures)
