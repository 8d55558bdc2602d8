-- The facts so far are found.
use Rattle.std.proofs.Common.{◌≡◌}
use Rattle.id_why.specs.Known.{AreIndexedTo, known_facts}
use Rattle.id_why.proofs.known.Known.new.Given as goal

abbrev pub invariant-loop-number : goal.invariant-loop-number
invariant-loop-number l = record {
  facts : known_facts l.known ≡ l.facts;
  indexed : AreIndexedTo l.checked l.number l.known;
}
