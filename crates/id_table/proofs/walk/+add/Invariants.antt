use Rattle.std.proofs.Common.{◌≡◌, ◌≤◌, ◌+◌, ◌*◌, drop}
use Rattle.id_table.specs.Rows.{add, add_arguments, add_nexts}
use Rattle.id_table.specs.Making.{exprs_tree, parts, stmts_tree}
use Rattle.id_table.proofs.walk.+add.Given as goal

abbrev pub invariant-add_statements-loop-statement : goal.invariant-add_statements-loop-statement
invariant-add_statements-loop-statement l =
    add l.stand (parts l.maker) (stmts_tree (drop l.statement-index l.statements)) ≡ add l.stand (parts l.initial.maker) (stmts_tree l.statements)

abbrev pub decreases-add_expr : goal.decreases-add_expr
decreases-add_expr l = 4 * goal.size-add_expr l

abbrev pub decreases-add_unary : goal.decreases-add_unary
decreases-add_unary l = 4 * goal.size-add_unary l + 1

abbrev pub decreases-add_pair : goal.decreases-add_pair
decreases-add_pair l = 4 * goal.size-add_pair l + 1

abbrev pub decreases-add_store : goal.decreases-add_store
decreases-add_store l = 4 * goal.size-add_store l + 1

abbrev pub decreases-add_conditional : goal.decreases-add_conditional
decreases-add_conditional l = 4 * goal.size-add_conditional l + 1

abbrev pub decreases-add_call : goal.decreases-add_call
decreases-add_call l = 4 * goal.size-add_call l + 3

abbrev pub decreases-add_arguments : goal.decreases-add_arguments
decreases-add_arguments l = 4 * goal.size-add_arguments l + 2

abbrev pub decreases-add_argument : goal.decreases-add_argument
decreases-add_argument l = 4 * goal.size-add_argument l + 1

abbrev pub invariant-add_arguments-loop-argument : goal.invariant-add_arguments-loop-argument
invariant-add_arguments-loop-argument l = record {
  counted : l.index ≡ l.argument-index;
  rest : add_arguments l.stand l.place l.enter l.index (parts l.maker) (exprs_tree (drop l.argument-index l.args))
      ≡ add_arguments l.stand l.place l.enter 0 (parts l.initial.maker) (exprs_tree l.args);
}

abbrev pub decreases-add_block : goal.decreases-add_block
decreases-add_block l = 4 * goal.size-add_block l + 3

abbrev pub decreases-add_binding : goal.decreases-add_binding
decreases-add_binding l = 4 * goal.size-add_binding l + 1

abbrev pub decreases-add_statements : goal.decreases-add_statements
decreases-add_statements l = 4 * goal.size-add_statements l + 2

abbrev pub decreases-add_statement : goal.decreases-add_statement
decreases-add_statement l = 4 * goal.size-add_statement l + 1

abbrev pub decreases-add_loop : goal.decreases-add_loop
decreases-add_loop l = 4 * goal.size-add_loop l + 3

abbrev pub decreases-add_body : goal.decreases-add_body
decreases-add_body l = 4 * goal.size-add_body l + 3

abbrev pub decreases-add_for : goal.decreases-add_for
decreases-add_for l = 4 * goal.size-add_for l + 3

abbrev pub decreases-add_counting : goal.decreases-add_counting
decreases-add_counting l = 4 * goal.size-add_counting l + 3

abbrev pub decreases-add_loop_statements : goal.decreases-add_loop_statements
decreases-add_loop_statements l = 4 * goal.size-add_loop_statements l + 2

abbrev pub decreases-add_next : goal.decreases-add_next
decreases-add_next l = 4 * goal.size-add_next l + 1

abbrev pub invariant-add_loop_statements-loop-statement : goal.invariant-add_loop_statements-loop-statement
invariant-add_loop_statements-loop-statement l = record {
  counted : l.index ≤ l.carried + l.statement-index;
  rest : add_nexts l.stand l.index (parts l.maker) (stmts_tree (drop l.statement-index l.statements))
      ≡ add_nexts l.stand l.carried (parts l.initial.maker) (stmts_tree l.statements);
}
