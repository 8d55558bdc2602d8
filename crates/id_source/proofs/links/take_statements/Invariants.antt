-- The statements that have gone stand from the row on, each with its edge; the list gets shorter.
use Rattle.std.proofs.Common.{vec_len}
use Rattle.id_source.specs.Links.{Takes}
use Rattle.id_source.proofs.links.take_statements.Given as goal

abbrev pub invariant-loop-statement : goal.invariant-loop-statement
invariant-loop-statement l = Takes l.initial.turns l.turns l.initial.waiting.items l.waiting.items l.first l.from

abbrev pub decreases-loop-statement : goal.decreases-loop-statement
decreases-loop-statement l = vec_len l.waiting
