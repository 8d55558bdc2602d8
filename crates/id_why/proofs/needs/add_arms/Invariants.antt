-- The things so far, and those of the rest.
use Rattle.std.proofs.Common.{◌≡◌, ◌++◌, drop}
use Rattle.id_why.specs.Found.{arms}
use Rattle.id_why.proofs.needs.add_arms.Given as goal

abbrev pub invariant-loop-test : goal.invariant-loop-test
invariant-loop-test l =
    l.found.items ++ arms l.path l.then l.otherwise (drop l.test-index l.tests) ≡ l.initial.found.items
    ++ arms l.path l.then l.otherwise l.tests
