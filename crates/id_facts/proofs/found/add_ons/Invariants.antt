-- The facts so far, and those of the rest.
use Rattle.std.proofs.Common.{◌≡◌, ◌++◌, drop}
use Rattle.id_facts.specs.Firsts.{ons}
use Rattle.id_facts.proofs.found.add_ons.Given as goal

abbrev pub invariant-loop-row : goal.invariant-loop-row
invariant-loop-row l =
    l.found.items ++ ons l.path (drop l.row-index l.rows) ≡ l.initial.found.items ++ ons l.path l.rows
