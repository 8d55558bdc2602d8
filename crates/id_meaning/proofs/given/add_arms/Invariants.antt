-- The facts so far, and those of the rest.
use Rattle.std.proofs.Common.{◌≡◌, ◌++◌, drop}
use Rattle.id_meaning.specs.Given.{arms}
use Rattle.id_meaning.proofs.given.add_arms.Given as goal

abbrev pub invariant-loop-test : goal.invariant-loop-test
invariant-loop-test l =
    l.found.items ++ arms l.lookup.cells.now l.lookup.followed l.point.path l.point.row l.then l.otherwise
    (drop l.test-index l.tests)
    ≡ l.initial.found.items ++
    arms l.lookup.cells.now l.lookup.followed l.point.path l.point.row l.then l.otherwise l.tests
