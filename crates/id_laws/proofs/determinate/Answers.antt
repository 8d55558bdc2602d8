-- What each of two quiet runs shows is exactly what the source has.
use Rattle.id_laws.proofs.Completeness.DeterminateLemmas.{determined}
use Rattle.id_laws.proofs.determinate.Goals as goal

pub returns : goal.returns
returns c = determined
