use Rattle.std.proofs.Common.{◌==◌, take}
use Rattle.std.specs.List.{list_any}
use Rattle.id_valid.specs.Past.{Least}
use Rattle.id_valid.proofs.past.least_of.Given as goal

-- the least of those so far
abbrev pub invariant-loop-number : goal.invariant-loop-number
invariant-loop-number l = Least (λ k. list_any (λ e. e == k) (take l.number-index l.numbers)) l.end l.least
