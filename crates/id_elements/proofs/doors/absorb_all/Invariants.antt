use Rattle.id_elements.proofs.ListsLemmas.{IsMerging}
use Rattle.id_elements.proofs.doors.absorb_all.Given as goal

abbrev pub invariant-loop-other : goal.invariant-loop-other
invariant-loop-other l = IsMerging l.fn.doors.items l.fn.theirs.items l.theirs.items l.doors.items

abbrev pub decreases-loop-other : goal.decreases-loop-other
decreases-loop-other l = goal.left-loop-other l
