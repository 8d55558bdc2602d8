-- The heads of the rows so far, by place, and then those of the places so far.
use Rattle.std.proofs.Common.{◌≡◌, ◌<◌, ℕ, None, get_or, length}
use Rattle.id_check.specs.Scopes.{first_of}
use Rattle.id_desugar.specs.Regions.{head_at, loop_heads_by}
use Rattle.id_desugar.proofs.order.find_loops.Given as goal

abbrev pub invariant-loop-row : goal.invariant-loop-row
invariant-loop-row l = record {
  many : length l.placed ≡ l.reach;
  each : (p : ℕ) → p < l.reach → get_or l.placed p None ≡ first_of (head_at l.checked p) l.row;
}

abbrev pub invariant-loop-place : goal.invariant-loop-place
invariant-loop-place l = l.heads.items ≡ loop_heads_by l.checked l.place
