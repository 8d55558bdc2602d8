use Rattle.std.proofs.Common.{◌==◌, take}
use Rattle.std.specs.List.{list_any}
use Rattle.id_valid.specs.Past.{Least}
use Rattle.id_valid.proofs.past.least_entry.Given as goal

-- the least of those so far
abbrev pub invariant-loop-block : goal.invariant-loop-block
invariant-loop-block l = Least (λ k. list_any (λ b. list_any (λ e. e == k) b.entries) (take l.block-index l.block-items)) l.end l.least
