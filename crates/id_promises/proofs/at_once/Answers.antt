-- The rows of a program say how many messages its instructions may have, and a round that adds nothing how many paths.
use Rattle.id_promises.proofs.FoundEnoughLemmas.{AtOnce-laws}
use Rattle.id_promises.proofs.at_once.Goals as goal

pub returns : goal.returns
returns c = AtOnce-laws c.bounded.ensures c.sound.ensures c.complete.ensures
