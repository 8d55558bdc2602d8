use Rattle.std.proofs.Common.{◌≡◌, ◌<◌, ℕ, length, get_or}
use Rattle.std.specs.Prelude.{Some, count_by}
use Rattle.id_check.specs.Kinds.{Link}
use Rattle.id_check.specs.Kinds.{Nowhere}
use Rattle.id_value.specs.List.{Among}
use Rattle.id_check.specs.Chains.{IsGoing, IsPassing, goes_to, is_going_on, rows_of}
use Rattle.id_check.proofs.kinds.settle.Given as goal

abbrev pub invariant-loop-next : goal.invariant-loop-next
invariant-loop-next l = record {
  long : length l.links.items ≡ length l.initial.links.items;
  at : l.at < length l.links.items;
  below : (p : ℕ) → Among p (rows_of l.passed.items) → p < length l.links.items;
  targets : (i j : ℕ) → i < length l.links.items → goes_to (get_or l.links.items i Nowhere) ≡ Some j
      → j < length l.links.items;
  passing : (f : ℕ → Link) → IsGoing f (length l.initial.links.items) l.start l.initial.links.items →
      IsPassing f (length l.initial.links.items) l.start l.passed.items l.at l.links.items;
}

abbrev pub decreases-loop-next : goal.decreases-loop-next
decreases-loop-next l = count_by is_going_on l.links.items
