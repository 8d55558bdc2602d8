-- Where a run is quiet it has shown everything.
use Rattle.id_laws.proofs.Completeness.EveryRun.{completeness}
use Rattle.id_laws.proofs.complete.Goals as goal

pub returns : goal.returns
returns c = completeness
