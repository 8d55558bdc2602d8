-- What stands behind the logs that were looked at tells the rest.
use Rattle.std.proofs.Common.{◌≡◌, drop, map}
use Rattle.id_merge.specs.Lines.{rank}
use Rattle.id_merge.specs.Merging.{first_least, least_from}
use Rattle.id_merge.proofs.merged.first_least.Given as goal

abbrev pub invariant-loop-i : goal.invariant-loop-i
invariant-loop-i g l =
    least_from l.i l.place l.least (drop l.i (map rank (map (λ h. drop h.from h.bytes.items) l.heads))) ≡ first_least (map (λ h. drop h.from h.bytes.items) l.fn.heads)
