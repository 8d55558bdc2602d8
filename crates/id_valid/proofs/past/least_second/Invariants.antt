use Rattle.std.proofs.Common.{◌==◌, ◌+◌, take}
use Rattle.std.specs.List.{list_any}
use Rattle.id_valid.specs.Past.{Least}
use Rattle.id_valid.proofs.past.least_second.Given as goal

-- the least of those so far
abbrev pub invariant-loop-block : goal.invariant-loop-block
invariant-loop-block l = Least (λ k. list_any (λ b. b.first + 1 == k) (take l.block-index l.block-items)) l.end l.least
