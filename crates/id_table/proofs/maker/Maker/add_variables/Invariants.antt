use Rattle.std.proofs.Common.{◌≡◌, drop}
use Rattle.id_table.specs.Rows.{add_variables}
use Rattle.id_table.specs.Making.{parts, stmts_tree}
use Rattle.id_table.proofs.maker.Maker.add_variables.Given as goal

abbrev pub invariant-loop-statement : goal.invariant-loop-statement
invariant-loop-statement l =
    add_variables l.stand (parts l.self) (stmts_tree (drop l.statement-index l.statements))
    ≡ add_variables l.stand (parts l.initial.self) (stmts_tree l.statements)
