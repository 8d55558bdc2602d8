use Rattle.std.proofs.Common.{◌≡◌, ◌+◌, ◌-◌, ◌*◌, ◌≤◌, drop, length, map}
use Rattle.std.specs.List.{flat_map}
use Rattle.id_bank.specs.Cells.{filled_at}
use Rattle.id_bank.specs.Slots.{cells_left}
use Rattle.id_bank.proofs.Cells.next.Given as goal

-- what was to come at the start still is
abbrev pub invariant-loop-self : goal.invariant-loop-self
invariant-loop-self l = record {
  left : l.self-inside.left ≤ 8;
  count : l.self-inside.count ≡ length l.fn.self;
  same : flat_map filled_at
      (cells_left l.self-inside.left (map (λ e. (e.0, e.1.now)) (drop l.self-inside.page l.self-inside.pages.items)))
      ≡ l.fn.self;
}

abbrev pub decreases-loop-self : goal.decreases-loop-self
decreases-loop-self l = 9 * (l.self-inside.pages.len - l.self-inside.page) + l.self-inside.left
