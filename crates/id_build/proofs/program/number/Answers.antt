-- Each row is there once, and has the next number.
use Rattle.std.proofs.Common.{◌+◌, ℕ, ◌<◌, List, ap, arith, get_or, length, take_all, ◌∙◌}
use Rattle.std.proofs.lemmas.Grind.{common_steps}
use Rattle.id_build.specs.Made.{first_in, pieces_in}
use Rattle.id_build.proofs.FillLemmas.{Among-get_or, count_in-next, first_in-next, pieces_in-take, zeros}
use Rattle.std.proofs.Math.ListN.{length-set}
use Rattle.id_build.proofs.BuildableLemmas.{is_order}
use Rattle.id_build.proofs.OrderLemmas.{length-pieces_in}
use Rattle.id_build.proofs.program.number.Goals as goal

-- at first there are no instructions, and all numbers are 0
pub loop-n-init : goal.loop-n-init
loop-n-init c = record {
  count = omega arith;
  many = omega (arith, c.in_ok-firsts.ensures.len, c.len.ensures);
  firsts = λ m l. zeros 0 m c.in_ok-firsts.firsts.items (λ k. grind (arith, common_steps));
  few = omega arith;
}

pub overflow_cast-count : goal.overflow_cast-count
overflow_cast-count c = grind (arith, common_steps)

pub index_mut-requires : goal.index_mut-requires
index_mut-requires c =
    let k = c.args.kernel.now in
    let order = c.as_slice-order.result.now in
    let o = is_order k.checked.now order (c.as_slice-order.ensures.value ∙ k.ordered) in
    let h = o.within (get_or order c.loop-n.n-index 0) (Among-get_or order c.loop-n.n-index (omega arith)) in
    omega (arith, h, c.loop-n.invariant.many, c.loop-n.firsts.ok.0)

pub returns-then-count-gt1000000-clause-large : goal.returns-then-count-gt1000000-clause-large
returns-then-count-gt1000000-clause-large c = λ e.
    (let k = c.args.kernel.now in
    let P = k.checked.now in
    let order = c.as_slice-order.result.now in
    let i : c.loop-n.n-index < length order = omega arith in
    let next = count_in-next P order c.loop-n.n-index i in
    let few = pieces_in-take P (c.loop-n.n-index + 1) order in
    let all = ap (λ (o : List ℕ). length (pieces_in P o)) (c.as_slice-order.ensures.value ∙ k.ordered) in
    omega (arith, next, few, all, length-pieces_in P, c.loop-n.invariant.count, c.made_count-count.ensures.count))

pub loop-n-preserved : goal.loop-n-preserved
loop-n-preserved c =
    let k = c.args.kernel.now in
    let P = k.checked.now in
    let order = c.as_slice-order.result.now in
    let o = is_order P order (c.as_slice-order.ensures.value ∙ k.ordered) in
    let i = c.loop-n.n-index in
    let h : i < length order = omega arith in
    let n = get_or order i 0 in
    let low = o.within n (Among-get_or order i h) in
    let many = c.loop-n.invariant.many in
    record {
      count = omega (arith, c.loop-n.invariant.count, count_in-next P order i h, c.made_count-count.ensures.count);
      many = omega (arith, length-set {A = ℕ});
      firsts = first_in-next P order c.loop-n.firsts.items i c.loop-n.count o.differ h (omega (arith, low, many))
          c.loop-n.invariant.count
          c.loop-n.invariant.firsts;
      few = omega arith;
    }

-- at last those of all rows
pub returns-clause-count : goal.returns-clause-count
returns-clause-count c =
    let k = c.args.kernel.now in
    let P = k.checked.now in
    let order = c.as_slice-order.result.now in
    c.loop-n.invariant.count
    ∙ ap (λ o. length (pieces_in P o)) (take_all c.loop-n.n-index order c.loop-n-test.false
    ∙ c.as_slice-order.ensures.value ∙ k.ordered) ∙ length-pieces_in P

pub returns-clause-firsts : goal.returns-clause-firsts
returns-clause-firsts c =
    let k = c.args.kernel.now in
    let P = k.checked.now in
    let order = c.as_slice-order.result.now in
    let all = take_all c.loop-n.n-index order c.loop-n-test.false ∙ c.as_slice-order.ensures.value ∙ k.ordered in
    record {
      many = c.loop-n.invariant.many;
      at = λ n l. c.loop-n.invariant.firsts n l ∙ ap (λ o. first_in P 0 o n) all;
    }

pub returns-clause-small : goal.returns-clause-small
returns-clause-small c = omega (arith, returns-clause-count c, c.loop-n.invariant.few)
