-- So much is merged, and what is left gets less.
use Rattle.std.proofs.Common.{length}
use Rattle.std.specs.List.{flat_map}
use Rattle.id_observe.proofs.MergedLemmas.{IsMerging, lefts}
use Rattle.id_observe.proofs.merge.merged_places.Given as goal

abbrev pub invariant-loop-index : goal.invariant-loop-index
invariant-loop-index l = IsMerging l.records l.heads.items l.places.items

abbrev pub decreases-loop-index : goal.decreases-loop-index
decreases-loop-index l = length (flat_map (λ r. r) (lefts l.records l.heads.items))
