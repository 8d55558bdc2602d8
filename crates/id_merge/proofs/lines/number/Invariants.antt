-- The number goes on to that of all digits.
use Rattle.std.proofs.Common.{◌≡◌, ◌≤◌, length}
use Rattle.id_merge.specs.Lines.{number_from}
use Rattle.id_merge.proofs.lines.number.Given as goal

abbrev pub invariant-loop-first : goal.invariant-loop-first
invariant-loop-first l = (number_from l.fn.most l.n l.rest ≡ number_from l.fn.most 0 l.fn.bytes) × (l.n ≤ l.fn.most)

abbrev pub decreases-loop-first : goal.decreases-loop-first
decreases-loop-first l = length l.rest
