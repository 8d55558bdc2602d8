-- Each message has a key of its own among those of its live activation, whose path is no other's.
use Rattle.id_laws.proofs.Bounding.BoundsLemmas as bounds
use Rattle.id_laws.proofs.bounds.bounded.Goals as goal

pub returns : goal.returns
returns c = bounds.bounded
