use Rattle.id_engine.proofs.PrintedLemmas.{PrintsEvents-cut, PrintsEvents-whole}
use Rattle.id_engine.proofs.run.print_events.Goals as goal

pub returns-in-Ok : goal.returns-in-Ok
returns-in-Ok g c =
    PrintsEvents-whole _ _ _ _ _ _ c.write_run.result c.status_of.result c.write_run.ensures c.in-Ok.is
    c.status_of.ensures

pub returns : goal.returns
returns g c = PrintsEvents-cut _ _ _ _ _ _ c.write_run.result c.in-Err.field-0 c.write_run.ensures c.in-Err.is
