-- As many places as the records so far have events, or the most that there are.
use Rattle.std.proofs.Common.{◌≡◌, ◌-◌, ◌^◌, length, min, take}
use Rattle.std.specs.List.{flat_map}
use Rattle.id_observe.proofs.merge.room.Given as goal

abbrev pub invariant-loop-events : goal.invariant-loop-events
invariant-loop-events l = l.count ≡ min (length (flat_map (λ r. r) (take l.events-index l.records))) (2 ^ 64 - 1)
