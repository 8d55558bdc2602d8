-- What a source Has at a path and a place, it Has there alone.
use Rattle.id_source.proofs.Coherence.{coherence}
use Rattle.id_laws.proofs.coherent.Goals as goal

pub returns : goal.returns
returns c = coherence
