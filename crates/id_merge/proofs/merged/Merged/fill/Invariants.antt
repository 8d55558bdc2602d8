-- What is known of the logs is still so.
use Rattle.std.proofs.Common.{drop, map}
use Rattle.id_merge.specs.Heads.{IsStill, told_behind}
use Rattle.id_merge.specs.Merging.{merged_ahead}
use Rattle.id_merge.proofs.merged.Merged.fill.Given as goal

abbrev pub invariant-loop : goal.invariant-loop
invariant-loop g l =
    IsStill (merged_ahead l.fn.self.inside (map (λ h. told_behind (g.L.Log.ahead h.log) (drop h.from h.bytes.items) h.over) l.fn.self.heads.items))
    (merged_ahead l.self.inside (map (λ h. told_behind (g.L.Log.ahead h.log) (drop h.from h.bytes.items) h.over) l.self.heads.items))
