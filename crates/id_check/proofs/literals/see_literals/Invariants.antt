use Rattle.id_check.specs.Literals.{AreLiterals}
use Rattle.id_check.proofs.literals.see_literals.Given as goal

abbrev pub invariant-loop-i : goal.invariant-loop-i
invariant-loop-i l = AreLiterals l.rows l.i
