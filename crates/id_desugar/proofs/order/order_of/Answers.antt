-- Each head of a loop stands before the last row.
use Rattle.std.proofs.Common.{◌∙◌, arith, subst}
use Rattle.id_value.specs.List.{Among}
use Rattle.id_desugar.proofs.HeadsLemmas.{head_inner, loop_heads-is}
use Rattle.id_desugar.proofs.order.order_of.Goals as goal

pub push_loops-requires-clause-loops : goal.push_loops-requires-clause-loops
push_loops-requires-clause-loops c h a =
    let P = c.args.loops.now.checked.now in
    let w = loop_heads-is P h (subst (Among h) (c.as_slice.ensures.value ∙ c.args.loops.now.headed) a) in
    let low = head_inner P h w.0 w.1 in
    omega (arith, low, c.len-count.ensures)
