-- The first of the heads so far with the least stamp.
use Rattle.std.proofs.Common.{take}
use Rattle.id_observe.proofs.MergedLemmas.{IsCandidate}
use Rattle.id_observe.proofs.merge.earliest.Given as goal

abbrev pub invariant-loop-index : goal.invariant-loop-index
invariant-loop-index l = IsCandidate (take l.index l.heads) l.first
