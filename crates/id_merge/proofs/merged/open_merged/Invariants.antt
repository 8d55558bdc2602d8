-- The first logs are open, and of the others the same is known.
use Rattle.std.proofs.Common.{◌≡◌, ℕ, List, drop, map, take}
use Rattle.id_merge.specs.Heads.{told_behind}
use Rattle.id_merge.proofs.merged.open_merged.Given as goal

abbrev pub invariant-loop-i : goal.invariant-loop-i
invariant-loop-i g l =
    (map (λ h. told_behind (g.T.Log.Log.ahead h.log) (drop h.from h.bytes.items) h.over) l.heads.items
    ≡ map (λ n. g.T.Logs.told l.fn.logs n.now) (take l.i l.fn.names))
    × ((n : List ℕ) → g.T.Logs.told l.logs n ≡ g.T.Logs.told l.fn.logs n)
