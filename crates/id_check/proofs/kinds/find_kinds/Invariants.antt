use Rattle.std.proofs.Common.{◌≡◌, ◌<◌, ℕ, [], length, get_or}
use Rattle.std.specs.Prelude.{None, Some}
use Rattle.id_check.specs.Kinds.{Nowhere}
use Rattle.id_table.specs.Lent.{list_of}
use Rattle.id_check.specs.Kinds.{link_at}
use Rattle.id_check.specs.Chains.{IsGoing, IsKind, goes_to}
use Rattle.id_check.proofs.kinds.find_kinds.Given as goal

abbrev pub invariant-loop-i : goal.invariant-loop-i
invariant-loop-i l = record {
  passed : l.passed.items ≡ [];
  targets : (i j : ℕ) → i < length l.links.items → goes_to (get_or l.links.items i Nowhere) ≡ Some j
      → j < length l.links.items;
  going : IsGoing (link_at (list_of l.fn.rows) (λ i. get_or l.binders i None)) (length (list_of l.fn.rows)) l.i
      l.links.items;
  long : length l.kinds.items ≡ l.i;
  kinds : (i : ℕ) → i < l.i
      → IsKind (link_at (list_of l.fn.rows) (λ j. get_or l.binders j None)) i (get_or l.kinds.items i None);
}
