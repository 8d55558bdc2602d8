-- The elements so far have their numbers and are fresh, and there is room for the rest.
use Rattle.std.proofs.Common.{◌≡◌, ◌≤◌, length, map, replicate, vec_len, vec_capacity}
use Rattle.id_step.specs.Steps.{fresh}
use Rattle.id_core.specs.Machines.{AllKeep, AreElements}
use Rattle.id_core.proofs.machine.fresh_elements.Given as goal

abbrev pub invariant-loop-number : goal.invariant-loop-number
invariant-loop-number l =
    (length l.elements.items ≡ l.number)
    × (vec_len l.elements ≡ l.number)
    × (l.count.number ≤ vec_capacity l.elements)
    × AreElements l.graph l.count.number l.elements.items
    × AllKeep l.keeps l.elements.items
    × (map (λ e. e.state) l.elements.items ≡ replicate l.number fresh)
