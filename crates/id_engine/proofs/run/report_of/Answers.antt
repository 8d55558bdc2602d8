use Rattle.std.proofs.Common.{refl}
use Rattle.id_engine.proofs.run.report_of.Goals as goal

pub returns-in-Ok : goal.returns-in-Ok
returns-in-Ok c = record { same = c.give_back.ensures; report = c.in-Ok.ensures; memory = tt }

pub returns-in-Err : goal.returns-in-Err
returns-in-Err c = record { same = c.give_back.ensures; report = tt; memory = refl }
