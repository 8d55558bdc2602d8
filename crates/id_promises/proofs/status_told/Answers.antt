-- With enough steps no run stops at them: it falls quiet or shows a fault, and each tells of its source.
use Rattle.id_promises.proofs.StatusLemmas.{StatusTold-laws}
use Rattle.id_promises.proofs.status_told.Goals as goal

pub returns : goal.returns
returns c = StatusTold-laws c.bounded.ensures c.sound.ensures c.complete.ensures
