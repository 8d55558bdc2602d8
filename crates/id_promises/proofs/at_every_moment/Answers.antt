-- A front of the events is the list of a run of deliveries, and each of these is sound.
use Rattle.id_promises.proofs.MomentsLemmas.{AllMoments-laws}
use Rattle.id_promises.proofs.at_every_moment.Goals as goal

pub returns : goal.returns
returns c = AllMoments-laws c.sound.ensures c.legal_lists.ensures
