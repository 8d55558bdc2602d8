-- Nothing new follows in any later round.
use Rattle.id_laws.proofs.Bounding.EndedLemmas.{ended_facts}
use Rattle.id_laws.proofs.bounds.ended_facts.Goals as goal

pub returns : goal.returns
returns c = ended_facts
