-- What the rows so far turn On, and the bindings that still wait for their blocks.
use Rattle.id_source.specs.Links.{AreOpen, AreTurnsTo}
use Rattle.id_source.proofs.links.turns.Given as goal

abbrev pub invariant-loop-n : goal.invariant-loop-n
invariant-loop-n l = record {
  turns : AreTurnsTo l.rows l.n l.turns;
  waiting : AreOpen l.rows l.n l.waiting.items;
}
