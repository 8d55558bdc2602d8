-- No edge so far.
use Rattle.std.proofs.Common.{◌≡◌, ℕ, length}
use Rattle.id_value.specs.List.{Among}
use Rattle.id_source.specs.Links.{targets}
use Rattle.id_source.proofs.edges.Edges.new.Given as goal

abbrev pub invariant-loop-row : goal.invariant-loop-row
invariant-loop-row l = record {
  wide : length l.rows.items ≡ l._row;
  none : (a b : ℕ) → Among b (targets l.rows.items a) → ⊥;
}
