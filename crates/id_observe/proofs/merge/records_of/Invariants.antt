-- The records so far are there, those of elements that replay, and there is room for the rest.
use Rattle.std.proofs.Common.{◌≡◌, ◌≤◌, length, map, take, vec_len, vec_capacity}
use Rattle.std.specs.List.{All}
use Rattle.id_step.specs.Replays.{Replays}
use Rattle.id_observe.proofs.merge.records_of.Given as goal

abbrev pub invariant-loop-element : goal.invariant-loop-element
invariant-loop-element l =
    (vec_len l.records ≡ l.element-index)
    × (length l.elements ≤ vec_capacity l.records)
    × (l.records.items ≡ map (λ e. e.state.events) (take l.element-index l.elements))
    × All Replays (take l.element-index l.elements)
