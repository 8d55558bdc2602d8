-- What stands behind the digits is that behind those of the rest.
use Rattle.std.proofs.Common.{◌≡◌, length}
use Rattle.id_merge.specs.Lines.{behind_digits}
use Rattle.id_merge.proofs.lines.behind_digits.Given as goal

abbrev pub invariant-loop-first : goal.invariant-loop-first
invariant-loop-first l = behind_digits l.rest ≡ behind_digits l.fn.bytes

abbrev pub decreases-loop-first : goal.decreases-loop-first
decreases-loop-first l = length l.rest
