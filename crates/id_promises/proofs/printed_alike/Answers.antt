-- It follows from *Sound* and *Determinate*.
use Rattle.id_promises.proofs.AlikeLemmas.{PrintedAlike-laws}
use Rattle.id_promises.proofs.printed_alike.Goals as goal

pub returns : goal.returns
returns c = PrintedAlike-laws c.sound.ensures c.determinate.ensures
