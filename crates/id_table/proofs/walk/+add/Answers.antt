use Rattle.std.proofs.Common.{◌+◌, sym, ap, ◌∙◌, drop, length, arith}
use Rattle.std.proofs.lemmas.List.{drop_all}
use Rattle.std.proofs.lemmas.Result.{on_ok_weaker}
use Rattle.id_grammar.specs.declared.tree.Expr.TheFolds.{the_lemmas}
use Rattle.id_grammar.specs.Tree.{tree_of, stmt_tree}
use Rattle.id_table.specs.declared.row.Node.TheVariants.{Body}
use Rattle.id_table.specs.Rows.{add, add_arguments, add_nexts, begin_for, begin_loop, with_row}
use Rattle.id_table.specs.Making.{add_body, add_counting, exprs_tree, parts, stmts_tree}
use Rattle.id_table.proofs.MakingLemmas.{added_as, done_as, unary_row, pair_row, conditional_row, call_row, argument_row, block_row, binding_row, store_row}
use Rattle.id_table.proofs.MakingLemmas.{next_row, body_row, counting_row, loop_row, for_row, statement_step, other_step, next_step}
use Rattle.id_table.proofs.MakingLemmas.{call_tree, block_tree, loop_tree, counted_tree, unary_tree, binary_tree, array_tree, fetch_tree, conditional_tree, store_tree}
use Rattle.id_table.proofs.walk.+add.Goals.{add_loop_statements-in-Next+in_ok-add_next-in-Next}
use Rattle.id_table.proofs.walk.+add.Goals.{add_loop_statements-in_default+in_ok-add_statement-in_default}
use Rattle.id_table.proofs.walk.+add.Goals as goal

pub add_expr-returns-in-Unary : goal.add_expr-returns-in-Unary
add_expr-returns-in-Unary t c =
    let a = c.in-Unary in
    let d = c.deref in
    added_as c.add_unary.result (parts c.add_unary.new.maker) _ _
    (ap (add c.args.stand (parts c.args.maker.now)) (unary_tree c.args.expr.now a.op a.place a.operand d.result.now d.ensures a.is))
    c.add_unary.ensures

pub add_expr-returns-in-Binary : goal.add_expr-returns-in-Binary
add_expr-returns-in-Binary t c =
    let a = c.in-Binary in
    let d = c.deref-in-Binary in
    added_as c.add_pair.result (parts c.add_pair.new.maker) _ _
    (ap (add c.args.stand (parts c.args.maker.now)) (binary_tree c.args.expr.now a.op a.place a.inside d.result.now d.ensures a.is))
    c.add_pair.ensures

pub add_expr-returns-in-If : goal.add_expr-returns-in-If
add_expr-returns-in-If t c =
    let a = c.in-If in
    let d = c.deref-in-If in
    added_as c.add_conditional.result (parts c.add_conditional.new.maker) _ _
    (ap (add c.args.stand (parts c.args.maker.now)) (conditional_tree c.args.expr.now a.place a.inside d.result.now d.ensures a.is))
    c.add_conditional.ensures

pub add_expr-returns-in-Call : goal.add_expr-returns-in-Call
add_expr-returns-in-Call t c =
    let a = c.in-Call in
    let d = c.deref-in-Call in
    added_as c.add_call.result (parts c.add_call.new.maker) _ _
    (ap (add c.args.stand (parts c.args.maker.now)) (call_tree c.args.expr.now a.place a.inside d.result.now d.ensures a.is))
    c.add_call.ensures

pub add_expr-returns-in-Block : goal.add_expr-returns-in-Block
add_expr-returns-in-Block t c =
    let a = c.in-Block in
    let d = c.deref-in-Block in
    added_as c.add_block.result (parts c.add_block.new.maker) _ _
    (ap (add c.args.stand (parts c.args.maker.now)) (block_tree c.args.expr.now a.place a.inside d.result.now d.ensures a.is))
    c.add_block.ensures

pub add_expr-returns-in-Loop : goal.add_expr-returns-in-Loop
add_expr-returns-in-Loop t c =
    let a = c.in-Loop in
    let d = c.deref-in-Loop in
    added_as c.add_loop.result (parts c.add_loop.new.maker) _ _
    (ap (add c.args.stand (parts c.args.maker.now)) (loop_tree c.args.expr.now a.place a.inside d.result.now d.ensures a.is))
    c.add_loop.ensures

pub add_expr-returns-in-For : goal.add_expr-returns-in-For
add_expr-returns-in-For t c =
    let a = c.in-For in
    let d = c.deref-in-For in
    added_as c.add_for.result (parts c.add_for.new.maker) _ _
    (ap (add c.args.stand (parts c.args.maker.now)) (counted_tree c.args.expr.now a.place a.inside d.result.now d.ensures a.is))
    c.add_for.ensures

pub add_expr-returns-in-Array : goal.add_expr-returns-in-Array
add_expr-returns-in-Array t c =
    let a = c.in-Array in
    let d = c.deref-in-Array in
    added_as c.add_pair-in-Array.result (parts c.add_pair-in-Array.new.maker) _ _
    (ap (add c.args.stand (parts c.args.maker.now)) (array_tree a.nested c.args.expr.now a.place a.inside d.result.now d.ensures a.is))
    c.add_pair-in-Array.ensures

pub add_expr-returns-in-Fetch : goal.add_expr-returns-in-Fetch
add_expr-returns-in-Fetch t c =
    let a = c.in-Fetch in
    let d = c.deref-in-Fetch in
    added_as c.add_pair-in-Fetch.result (parts c.add_pair-in-Fetch.new.maker) _ _
    (ap (add c.args.stand (parts c.args.maker.now)) (fetch_tree c.args.expr.now a.place a.inside d.result.now d.ensures a.is))
    c.add_pair-in-Fetch.ensures

pub add_unary-returns : goal.add_unary-returns
add_unary-returns t c =
    let U = parts c.add_expr.new.maker in
    added_as c.push.result (parts c.push.new.self) _ _
    (unary_row c.args.stand (parts c.args.maker.now) U c.args.op (tree_of c.args.operand.now) c.args.place c.len-first.result c.in_ok-operand.operand
    (omega arith) c.in_ok-operand.ensures)
    c.push.ensures.added

pub add_pair-returns : goal.add_pair-returns
add_pair-returns t c =
    let U = parts c.add_expr.new.maker in
    let V = parts c.add_expr-2.new.maker in
    let v = c.args.inside.now in
    added_as c.push.result (parts c.push.new.self) _ _
    (pair_row c.args.stand (parts c.args.maker.now) U V c.args.form (tree_of v.first) (tree_of v.second) c.pair_node.result c.args.place c.len-start.result
    c.in_ok-first.first c.in_ok-second.second c.pair_node.ensures (omega arith) c.in_ok-first.ensures c.in_ok-second.ensures)
    c.push.ensures.added

pub add_conditional-returns : goal.add_conditional-returns
add_conditional-returns t c =
    let v = c.args.inside.now in
    added_as c.push_if.result (parts c.push_if.new.self) _ _
    (conditional_row c.args.stand c.in_ok-side.side c.other_side.result (parts c.args.maker.now) (parts c.add_expr.new.maker)
    (parts c.push_sides.new.self) (parts c.add_expr-2.new.maker) (parts c.add_expr-3.new.maker) (tree_of v.first) (tree_of v.second) (tree_of v.third)
    c.args.place c.len-first.result c.in_ok-test.test c.in_ok-then.then c.in_ok-otherwise.otherwise (omega arith) c.in_ok-test.ensures
    c.in_ok-side.ensures.added c.in_ok-side.ensures.side c.in_ok-then.ensures c.other_side.ensures c.in_ok-otherwise.ensures)
    c.push_if.ensures

pub add_call-returns : goal.add_call-returns
add_call-returns t c =
    let T = parts c.args.maker.now in
    let E = parts c.push_enter.new.self in
    let es = c.args.inside.now.args.items in
    let s = c.as_slice-args.ensures.value in
    added_as c.push.result (parts c.push.new.self) _ _
    (call_row c.args.stand T E (parts c.add_arguments.new.maker) c.args.inside.now.name es c.args.place c.in_ok-enter.enter _
    c.in_ok-enter.ensures.number c.in_ok-enter.ensures.added
    (c.in_ok-add_arguments.ensures ∙ ap (λ v. add_arguments c.args.stand c.args.place c.in_ok-enter.enter 0 E (exprs_tree v)) s)
    (ap length s))
    c.push.ensures.added

pub add_argument-returns : goal.add_argument-returns
add_argument-returns t c =
    done_as c.push_arg.result (parts c.push_arg.new.self) _ _
    (argument_row c.args.stand (parts c.args.maker.now) (parts c.add_expr.new.maker) (tree_of c.args.argument.now) c.args.place c.args.enter
    c.args.index c.in_ok-value.value c.in_ok-value.ensures)
    c.push_arg.ensures

pub add_block-returns : goal.add_block-returns
add_block-returns t c =
    let T = parts c.args.maker.now in
    let U = parts c.add_statements.new.maker in
    let v = c.args.inside.now in
    added_as c.push.result (parts c.push.new.self) _ _
    (block_row c.args.stand T U (parts c.add_expr.new.maker) (stmts_tree v.statements.items) (tree_of v.body) c.args.place c.len-first.result
    c.in_ok-body.body (omega arith) (c.in_ok-add_statements.ensures ∙ ap (λ ss. add c.args.stand T (stmts_tree ss)) c.as_slice.ensures.value)
    c.in_ok-body.ensures)
    c.push.ensures.added

pub add_statements-loop-statement-preserved : goal.add_statements-loop-statement-preserved
add_statements-loop-statement-preserved t c =
    let s = c.args.stand in
    let T = parts c.loop-statement.maker in
    statement_step s c.loop-statement.statement-index T (parts c.add_statement.new.maker) (add s (parts c.args.maker.now) (stmts_tree c.args.statements.now))
    c.args.statements.now c.statement-item.result c.loop-statement-test.true
    (c.in_ok-add_statement.ensures ∙ ap (λ x. add s T (stmt_tree x)) c.statement-item.is) c.loop-statement.invariant

pub add_binding-returns : goal.add_binding-returns
add_binding-returns t c =
    done_as c.push_binding.result (parts c.push_binding.new.self) _ _
    (binding_row c.args.stand (parts c.args.maker.now) (parts c.add_expr.new.maker) c.args.name.now (tree_of c.args.value.now) c.args.place
    c.len-first.result c.in_ok-value.value (omega arith) c.in_ok-value.ensures)
    c.push_binding.ensures

pub add_store-returns : goal.add_store-returns
add_store-returns t c =
    let v = c.args.inside.now in
    done_as c.put.result (parts c.put.new.self) _ _
    (store_row c.args.stand (parts c.args.maker.now) (parts c.add_expr.new.maker) (parts c.add_expr-2.new.maker) (parts c.push.new.self)
    (parts c.add_expr-3.new.maker) (tree_of v.first) (tree_of v.second) (tree_of v.third) c.args.place c.len-first.result c.in_ok-target.target
    c.in_ok-index.index c.in_ok-address.address c.in_ok-value.value (omega arith) c.in_ok-target.ensures c.in_ok-index.ensures
    c.in_ok-address.ensures.added.parts c.in_ok-address.ensures.number c.in_ok-value.ensures)
    c.put.ensures

pub add_next-returns : goal.add_next-returns
add_next-returns t c =
    done_as c.push_next.result (parts c.push_next.new.self) _ _
    (next_row c.args.stand (parts c.args.maker.now) (parts c.push_use.new.self) (parts c.add_expr.new.maker) c.args.name.now
    (tree_of c.args.expr.now) c.args.place c.len-outer.result c.in_ok-number.number c.args.index c.in_ok-value.value (omega arith)
    c.in_ok-number.ensures.added c.in_ok-number.ensures.number c.in_ok-value.ensures)
    c.push_next.ensures

pub add_loop_statements-loop-statement-preserved : goal.add_loop_statements-loop-statement-preserved
add_loop_statements-loop-statement-preserved t c =
    let s = c.args.stand in
    let T = parts c.loop-statement.maker in
    let V = add_nexts s c.args.carried (parts c.args.maker.now) (stmts_tree c.args.statements.now) in
    let xs = c.args.statements.now in
    let k = c.loop-statement.index in
    let i = c.loop-statement.statement-index in
    let d = c.statement-item.result in
    elim c.match-statement.branch [
      | add_loop_statements-in-Next+in_ok-add_next-in-Next w ↦ record {
        counted = omega (arith, c.loop-statement.invariant.counted, w.index-is);
        rest = ap (λ n. add_nexts s n (parts c.match-statement.maker) (stmts_tree (drop (i + 1) xs))) w.index-is
            ∙ next_step s k i T (parts c.match-statement.maker) V xs w.in-Next.name w.in-Next.value w.in-Next.place d c.loop-statement-test.true
            (sym c.statement-item.is ∙ w.in-Next.is) (ap parts w.maker-is ∙ w.in_ok-add_next-in-Next.ensures) c.loop-statement.invariant.rest;
      }
      | add_loop_statements-in_default+in_ok-add_statement-in_default w ↦ record {
        counted = omega (arith, c.loop-statement.invariant.counted, w.index-is);
        rest = ap (λ n. add_nexts s n (parts c.match-statement.maker) (stmts_tree (drop (i + 1) xs))) w.index-is
            ∙ other_step s k i T (parts c.match-statement.maker) V xs d c.loop-statement-test.true c.statement-item.is w.in_default.not-Next
            (ap parts w.maker-is ∙ w.in_ok-add_statement-in_default.ensures) c.loop-statement.invariant.rest;
      }
    ]

pub add_loop_statements-returns : goal.add_loop_statements-returns
add_loop_statements-returns t c =
    let s = c.args.stand in
    let N = parts c.loop-statement.maker in
    let k = c.loop-statement.index in
    let none = drop_all c.loop-statement.statement-index c.args.statements.now c.loop-statement-test.false in
    done_as c.put.result (parts c.put.new.self) _ _
    (ap (λ U. with_row U s c.args.place c.args.begun Body)
    (ap (λ ys. add_nexts s k N (stmts_tree ys)) (sym none) ∙ c.loop-statement.invariant.rest))
    c.put.ensures

pub add_body-returns : goal.add_body-returns
add_body-returns t c =
    let begun = c.in_ok-begun.ensures in
    on_ok_weaker c.add_loop_statements.result
    (body_row c.args.stand (parts c.args.maker.now) (parts c.push_turn.new.self) (parts c.add_loop_statements.new.maker)
    (stmts_tree c.args.statements.now) c.args.place c.in_ok-begun.begun begun.0 begun.1)
    c.add_loop_statements.ensures

pub add_counting-returns : goal.add_counting-returns
add_counting-returns t c =
    on_ok_weaker c.add_loop_statements.result
    (counting_row c.args.stand (parts c.args.maker.now) (parts c.begin_counting.new.self) (parts c.add_loop_statements.new.maker)
    c.args.name.now c.args.index (stmts_tree c.args.statements.now) c.args.place c.in_ok-begun.begun c.in_ok-begun.ensures)
    c.add_loop_statements.ensures

pub add_loop-returns : goal.add_loop-returns
add_loop-returns t c =
    let T = parts c.args.maker.now in
    let W = parts c.push_sides.new.self in
    let v = c.args.round.now in
    let p = c.args.place in
    let s = c.as_slice-statements.ensures.value in
    let b = c.in_ok-body.body in
    added_as c.end_loop.result (parts c.end_loop.new.self) _ _
    (loop_row c.args.stand c.in_ok-inside.inside b c.other_side-behind.result T (parts c.begin_loop.new.self) (parts c.add_expr.new.maker) W
    (parts c.add_body.new.maker) (parts c.add_expr-2.new.maker) (tree_of v.test) (stmts_tree v.statements.items) (tree_of v.last) p
    c.len-start.result c.len-entered.result c.in_ok-test.test c.len-closed.result c.in_ok-last.last (omega arith)
    (c.in_ok-inside.ensures.added ∙ ap (λ ss. begin_loop c.args.stand T (stmts_tree ss) p) s) c.in_ok-inside.ensures.inside (omega arith)
    c.in_ok-test.ensures c.in_ok-body.ensures.added c.in_ok-body.ensures.side
    (c.in_ok-add_body.ensures ∙ ap (λ ss. add_body b W (stmts_tree ss) p) s) c.other_side-behind.ensures (omega arith)
    c.in_ok-last.ensures)
    c.end_loop.ensures

pub add_for-returns : goal.add_for-returns
add_for-returns t c =
    let A = parts c.put.new.self in
    let W = parts c.begin_for.new.self in
    let v = c.args.round.now in
    let p = c.args.place in
    let s = c.as_slice-statements.ensures.value in
    let b = c.in_ok-body.body in
    added_as c.end_loop.result (parts c.end_loop.new.self) _ _
    (for_row c.args.stand b c.other_side-behind.result (parts c.args.maker.now) (parts c.add_expr.new.maker) (parts c.add_expr-2.new.maker) A W
    (parts c.add_counting.new.maker) (parts c.add_expr-3.new.maker) v.name v.index (tree_of v.low) (tree_of v.high) (stmts_tree v.statements.items)
    (tree_of v.last) p c.len-first.result c.len-start.result c.in_ok-low.low c.in_ok-high.high c.len-closed.result c.in_ok-last.last (omega arith)
    c.in_ok-low.ensures c.in_ok-high.ensures c.in_ok-put.ensures (omega arith)
    (c.in_ok-body.ensures.added ∙ ap (λ ss. begin_for c.args.stand A (stmts_tree ss) v.index p) s) c.in_ok-body.ensures.side
    (c.in_ok-add_counting.ensures ∙ ap (λ ss. add_counting b W v.name v.index (stmts_tree ss) p) s) c.other_side-behind.ensures (omega arith)
    c.in_ok-last.ensures)
    c.end_loop.ensures

-- what the function of the form adds
pub add_expr-returns-in-Literal : goal.add_expr-returns-in-Literal
add_expr-returns-in-Literal t c =
    added_as c.add_literal.result (parts c.add_literal.new.self) _ _
    (ap (λ e. add c.args.stand (parts c.args.maker.now) (tree_of e)) (sym c.in-Literal.is)) c.add_literal.ensures

pub add_expr-returns-in-Name : goal.add_expr-returns-in-Name
add_expr-returns-in-Name t c =
    added_as c.add_name.result (parts c.add_name.new.self) _ _
    (ap (λ e. add c.args.stand (parts c.args.maker.now) (tree_of e)) (sym c.in-Name.is)) c.add_name.ensures

pub add_statement-returns-in-Binding : goal.add_statement-returns-in-Binding
add_statement-returns-in-Binding t c =
    done_as c.add_binding.result (parts c.add_binding.new.maker) _ _
    (ap (λ d. add c.args.stand (parts c.args.maker.now) (stmt_tree d)) (sym c.in-Binding.is)) c.add_binding.ensures

pub add_statement-returns-in-Next : goal.add_statement-returns-in-Next
add_statement-returns-in-Next t c =
    done_as c.add_binding-in-Next.result (parts c.add_binding-in-Next.new.maker) _ _
    (ap (λ d. add c.args.stand (parts c.args.maker.now) (stmt_tree d)) (sym c.in-Next.is)) c.add_binding-in-Next.ensures

pub add_statement-returns-in-Store : goal.add_statement-returns-in-Store
add_statement-returns-in-Store t c =
    let a = c.in-Store in
    let d = c.deref in
    done_as c.add_store.result (parts c.add_store.new.maker) _ _
    (ap (add c.args.stand (parts c.args.maker.now)) (store_tree c.args.statement.now a.place a.inside d.result.now d.ensures a.is))
    c.add_store.ensures

-- each call goes to a part, or to a later function of its rank
pub add_expr-add_unary-requires : goal.add_expr-add_unary-requires
add_expr-add_unary-requires t c = grind (the_lemmas, arith)

pub add_expr-add_pair-requires : goal.add_expr-add_pair-requires
add_expr-add_pair-requires t c = grind (the_lemmas, arith)

pub add_expr-add_pair-requires-in-Array : goal.add_expr-add_pair-requires-in-Array
add_expr-add_pair-requires-in-Array t c = grind (the_lemmas, arith)

pub add_expr-add_pair-requires-in-Fetch : goal.add_expr-add_pair-requires-in-Fetch
add_expr-add_pair-requires-in-Fetch t c = grind (the_lemmas, arith)

pub add_expr-add_conditional-requires : goal.add_expr-add_conditional-requires
add_expr-add_conditional-requires t c = grind (the_lemmas, arith)

pub add_expr-add_call-requires : goal.add_expr-add_call-requires
add_expr-add_call-requires t c = grind (the_lemmas, arith)

pub add_expr-add_block-requires : goal.add_expr-add_block-requires
add_expr-add_block-requires t c = grind (the_lemmas, arith)

pub add_expr-add_loop-requires : goal.add_expr-add_loop-requires
add_expr-add_loop-requires t c = grind (the_lemmas, arith)

pub add_expr-add_for-requires : goal.add_expr-add_for-requires
add_expr-add_for-requires t c = grind (the_lemmas, arith)

pub add_pair-add_expr-requires : goal.add_pair-add_expr-requires
add_pair-add_expr-requires t c = grind (the_lemmas, arith)

pub add_pair-add_expr-requires-2 : goal.add_pair-add_expr-requires-2
add_pair-add_expr-requires-2 t c = grind (the_lemmas, arith)

pub add_conditional-add_expr-requires : goal.add_conditional-add_expr-requires
add_conditional-add_expr-requires t c = grind (the_lemmas, arith)

pub add_conditional-add_expr-requires-2 : goal.add_conditional-add_expr-requires-2
add_conditional-add_expr-requires-2 t c = grind (the_lemmas, arith)

pub add_conditional-add_expr-requires-3 : goal.add_conditional-add_expr-requires-3
add_conditional-add_expr-requires-3 t c = grind (the_lemmas, arith)

pub add_call-add_arguments-requires : goal.add_call-add_arguments-requires
add_call-add_arguments-requires t c = grind (the_lemmas, arith)

pub add_arguments-add_argument-requires : goal.add_arguments-add_argument-requires
add_arguments-add_argument-requires t c = grind (the_lemmas, arith)

pub add_block-add_statements-requires : goal.add_block-add_statements-requires
add_block-add_statements-requires t c = grind (the_lemmas, arith)

pub add_block-add_expr-requires : goal.add_block-add_expr-requires
add_block-add_expr-requires t c = grind (the_lemmas, arith)

pub add_statements-add_statement-requires : goal.add_statements-add_statement-requires
add_statements-add_statement-requires t c = grind (the_lemmas, arith)

pub add_statement-add_store-requires : goal.add_statement-add_store-requires
add_statement-add_store-requires t c = grind (the_lemmas, arith)

pub add_statement-add_binding-requires : goal.add_statement-add_binding-requires
add_statement-add_binding-requires t c = grind (the_lemmas, arith)

pub add_statement-add_binding-requires-in-Next : goal.add_statement-add_binding-requires-in-Next
add_statement-add_binding-requires-in-Next t c = grind (the_lemmas, arith)

pub add_loop-add_expr-requires : goal.add_loop-add_expr-requires
add_loop-add_expr-requires t c = grind (the_lemmas, arith)

pub add_loop-add_expr-requires-2 : goal.add_loop-add_expr-requires-2
add_loop-add_expr-requires-2 t c = grind (the_lemmas, arith)

pub add_loop-add_body-requires : goal.add_loop-add_body-requires
add_loop-add_body-requires t c = grind (the_lemmas, arith)

pub add_for-add_expr-requires : goal.add_for-add_expr-requires
add_for-add_expr-requires t c = grind (the_lemmas, arith)

pub add_for-add_expr-requires-2 : goal.add_for-add_expr-requires-2
add_for-add_expr-requires-2 t c = grind (the_lemmas, arith)

pub add_for-add_expr-requires-3 : goal.add_for-add_expr-requires-3
add_for-add_expr-requires-3 t c = grind (the_lemmas, arith)

pub add_for-add_counting-requires : goal.add_for-add_counting-requires
add_for-add_counting-requires t c = grind (the_lemmas, arith)

pub add_loop_statements-add_next-requires : goal.add_loop_statements-add_next-requires
add_loop_statements-add_next-requires t c = grind (the_lemmas, arith)

pub add_loop_statements-add_statement-requires : goal.add_loop_statements-add_statement-requires
add_loop_statements-add_statement-requires t c = grind (the_lemmas, arith)

pub add_store-add_expr-requires : goal.add_store-add_expr-requires
add_store-add_expr-requires t c = grind (the_lemmas, arith)

pub add_store-add_expr-requires-2 : goal.add_store-add_expr-requires-2
add_store-add_expr-requires-2 t c = grind (the_lemmas, arith)

pub add_store-add_expr-requires-3 : goal.add_store-add_expr-requires-3
add_store-add_expr-requires-3 t c = grind (the_lemmas, arith)

pub add_unary-add_expr-requires : goal.add_unary-add_expr-requires
add_unary-add_expr-requires t c = (omega arith, tt)

pub add_argument-add_expr-requires : goal.add_argument-add_expr-requires
add_argument-add_expr-requires t c = (omega arith, tt)

pub add_next-add_expr-requires : goal.add_next-add_expr-requires
add_next-add_expr-requires t c = (omega arith, tt)

pub add_binding-add_expr-requires : goal.add_binding-add_expr-requires
add_binding-add_expr-requires t c = (omega arith, tt)
