-- Each context and each structure of a run is made by one event.
use Rattle.id_runs.proofs.Serials.{all_numbered}
use Rattle.id_laws.proofs.serials.Goals as goal

pub returns : goal.returns
returns c = all_numbered
