-- A door may go to another thread.
use Rattle.id_elements.proofs.SendLemmas.{Door-send}
use Rattle.id_elements.proofs.running.doors_cross.Goals as goal

pub returns : goal.returns
returns c = Door-send _ c.may_cross.ensures
