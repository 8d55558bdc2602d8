use Rattle.std.proofs.Common.{◌≡◌, length, get_or, ℕ, []}
use Rattle.id_desugar.proofs.imports.none_yet.Given as goal

abbrev pub invariant-loop-row : goal.invariant-loop-row
invariant-loop-row l = (length l.lists.items ≡ l._row) × ((h : ℕ) → get_or l.lists.items h [] ≡ [])
