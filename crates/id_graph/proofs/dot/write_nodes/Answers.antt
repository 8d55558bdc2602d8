use Rattle.std.proofs.Common.{◌++◌, arith, false, refl}
use Rattle.std.proofs.lemmas.Grind.{common_steps}
use Rattle.id_graph.specs.Dot.{is_begun, node_text, nodes_text, start_text}
use Rattle.id_graph.proofs.PieceLemmas.{two_by_one, walk_done, walk_on}
use Rattle.id_graph.proofs.dot.write_nodes.Goals as goal

pub loop-number-init : goal.loop-number-init
loop-number-init c = refl

pub offset_bounds-instr-items-number : goal.offset_bounds-instr-items-number
offset_bounds-instr-items-number c = grind (arith, common_steps)

pub bounds-instr-items-number : goal.bounds-instr-items-number
bounds-instr-items-number c = c.loop-number-test.true

pub loop-number-preserved : goal.loop-number-preserved
loop-number-preserved c =
    let t = c.args.lines.now in
    let bs = c.args.graph.now.blocks in
    let k = c.loop-number.number in
    let i = c.instr-item.result in
    let below = rw c.instrs-instr-items.ensures.value at c.loop-number-test.true in
    let start = rw (c.requires.begun.at k false below) at c.in_ok-write_start.ensures in
    walk_on (nodes_text t bs) (λ n i. start_text t (is_begun bs n) n i.place ++ node_text t n i) (λ n i is. refl) k c.instrs-instr-items.result.now i
    _ _ _ c.loop-number-test.true c.instr-item.is c.loop-number.invariant
    (two_by_one _ _ _ (start_text t (is_begun bs k) k i.place) (node_text t k i) start c.in_ok-write_node.ensures)

pub returns : goal.returns
returns c =
    let whole =
    walk_done (nodes_text c.args.lines.now c.args.graph.now.blocks) (λ n. refl) c.loop-number.number c.instrs-instr-items.result.now _ _ c.loop-number-test.false
    c.loop-number.invariant
    in rw c.instrs-instr-items.ensures.value at whole
