-- What a run shows is sound at its end.
use Rattle.id_laws.proofs.Completeness.EveryRun.{soundness}
use Rattle.id_laws.proofs.sound.Goals as goal

pub returns : goal.returns
returns c = soundness
