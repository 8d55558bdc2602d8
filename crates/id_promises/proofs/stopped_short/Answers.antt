-- A message that is held back counts against the paths that pay for all messages.
use Rattle.id_promises.proofs.HeldBackLemmas.{StoppedShort-laws}
use Rattle.id_promises.proofs.stopped_short.Goals as goal

pub returns : goal.returns
returns c = StoppedShort-laws c.bounded.ensures
