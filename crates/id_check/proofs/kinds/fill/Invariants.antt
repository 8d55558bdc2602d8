use Rattle.std.proofs.Common.{◌≡◌, ◌⊎◌, ◌<◌, ℕ, length, get_or, vec_len}
use Rattle.id_check.specs.Kinds.{Link}
use Rattle.id_check.specs.Kinds.{Nowhere}
use Rattle.id_value.specs.List.{Among}
use Rattle.id_check.specs.Chains.{IsEnd, IsFilling, rows_of}
use Rattle.id_check.proofs.kinds.fill.Given as goal

abbrev pub invariant-loop-pass : goal.invariant-loop-pass
invariant-loop-pass l = record {
  below : (p : ℕ) → Among p (rows_of l.passed.items) → p < length l.links.items;
  long : length l.links.items ≡ length l.initial.links.items;
  is_end : IsEnd l.link;
  same : (i : ℕ)
      → IsEnd (get_or l.links.items i Nowhere)
      ⊎ (get_or l.links.items i Nowhere ≡ get_or l.initial.links.items i Nowhere);
  filling : (f : ℕ → Link) (n m q : ℕ) → IsFilling f n m l.initial.passed.items q l.fn.end l.initial.links.items
      → (r : ℕ) × IsFilling f n m l.passed.items r l.link l.links.items;
}

abbrev pub decreases-loop-pass : goal.decreases-loop-pass
decreases-loop-pass l = vec_len l.passed
