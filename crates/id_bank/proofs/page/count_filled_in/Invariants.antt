use Rattle.std.proofs.Common.{◌≡◌, ◌≤◌, ℤ, length}
use Rattle.std.specs.List.{flat_map}
use Rattle.id_tag.specs.declared.Structure.{Structure}
use Rattle.id_bank.specs.Cells.{filled_at}
use Rattle.id_bank.specs.Slots.{cells_below}
use Rattle.id_bank.proofs.page.count_filled_in.Given as goal

-- those at the places so far are counted
abbrev pub invariant-loop-offset : goal.invariant-loop-offset
invariant-loop-offset l = record {
  bound : l.count ≤ l.offset;
  counted : (p : ℤ × Structure) → l.count ≡ length (flat_map filled_at (cells_below l.offset p l.slots));
}
