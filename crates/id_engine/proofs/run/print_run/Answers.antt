use Rattle.std.proofs.Common.{refl}
use Rattle.id_engine.specs.Reports.PrintsRun.{unprinted}
use Rattle.id_engine.proofs.PrintedLemmas.{PrintsRun-events}
use Rattle.id_engine.proofs.run.print_run.Goals as goal

pub returns-in-Ok : goal.returns-in-Ok
returns-in-Ok g c = PrintsRun-events _ _ _ _ _ _ _ _ c.print_events.result c.in-Ok.ensures c.print_events.ensures

pub returns-in-Err : goal.returns-in-Err
returns-in-Err g c = unprinted refl
