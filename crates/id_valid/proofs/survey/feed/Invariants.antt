use Rattle.std.proofs.Common.{cond, sum_by, take}
use Rattle.id_valid.specs.Roles.{is_dest}
use Rattle.id_valid.specs.Survey.{Adds}
use Rattle.id_valid.proofs.survey.feed.Given as goal

-- the arcs to the destinations so far are added
abbrev pub invariant-loop-dest : goal.invariant-loop-dest
invariant-loop-dest l = Adds l.initial.counts l.counts (λ k. sum_by (λ d. cond (is_dest k l.port d) 1 0) (take l.dest-index l.dests))
