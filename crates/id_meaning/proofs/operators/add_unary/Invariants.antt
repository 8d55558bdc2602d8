-- The facts so far, and those of the rest.
use Rattle.std.proofs.Common.{◌≡◌, ◌++◌, drop}
use Rattle.id_meaning.specs.Given.{unaries}
use Rattle.id_meaning.proofs.operators.add_unary.Given as goal

abbrev pub invariant-loop-operand : goal.invariant-loop-operand
invariant-loop-operand l =
    l.found.items ++ unaries l.point.path l.point.row l.op (drop l.operand-index l.operands) ≡ l.initial.found.items
    ++ unaries l.point.path l.point.row l.op l.operands
