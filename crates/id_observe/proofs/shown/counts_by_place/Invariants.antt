-- The instructions so far are counted.
use Rattle.std.proofs.Common.{◌≡◌, ℕ, count_by, nat_eq, unwrap_or, take}
use Rattle.std.specs.HashMap.{get}
use Rattle.id_observe.specs.Observed.{claims}
use Rattle.id_observe.proofs.shown.counts_by_place.Given as goal

abbrev pub invariant-loop-instr : goal.invariant-loop-instr
invariant-loop-instr l =
    (p : ℕ) → unwrap_or (get nat_eq l.counts p) 0 ≡ count_by (claims p) (take l.instr-index l.instr-items)
