-- One more block.
use Rattle.std.proofs.Common.{◌≡◌, suc, ◌+◌, ◌++◌, ap, arith, get_or, sym, ◌∙◌, append-nil, append_assoc, take_all}
use Rattle.std.specs.Prelude.{take}
use Rattle.id_desugar.specs.Regions.{in_block, loops_by, those}
use Rattle.id_desugar.proofs.NotesLemmas.{among_at}
use Rattle.id_desugar.proofs.OrderLemmas.{loops_by-next, loops_by-none}
use Rattle.id_desugar.proofs.order.push_loops.Goals as goal

pub loop-head-preserved : goal.loop-head-preserved
loop-head-preserved c =
    let P = c.args.checked.now in
    let n = c.args.last in
    let hs = c.args.loops.now in
    let i = c.loop-head.head-index in
    let h = get_or hs i 0 in
    let old = c.args.order.now.items in
    let next : suc i ≡ i + 1 = omega arith in
    c.in_ok-push_block.ensures ∙ ap (λ z. z ++ those (in_block P h) n) c.loop-head.invariant
    ∙ append_assoc old (loops_by P n (take i hs)) (those (in_block P h) n)
    ∙ ap (λ z. old ++ z) (sym (loops_by-next P n i hs c.loop-head-test.true) ∙ ap (λ k. loops_by P n (take k hs)) next)

pub loop-head-init : goal.loop-head-init
loop-head-init c = sym (append-nil c.args.order.now.items)

pub returns-then-is_empty : goal.returns-then-is_empty
returns-then-is_empty c =
    let old = c.args.order.now.items in
    let none =
    loops_by-none c.args.checked.now c.args.last c.args.loops.now (sym c.is_empty.ensures ∙ c.if-is_empty.true) in
    sym (ap (λ z. old ++ z) none ∙ append-nil old)

pub find_chains-requires : goal.find_chains-requires
find_chains-requires c = record { last = c.requires.last }

pub push_block-requires : goal.push_block-requires
push_block-requires c = record {
  last = c.requires.last;
  head = c.requires.loops (get_or c.args.loops.now c.loop-head.head-index 0)
      (among_at c.args.loops.now c.loop-head.head-index c.loop-head-test.true);
  chains = c.in_ok-chains.ensures;
}

pub returns : goal.returns
returns c =
    c.loop-head.invariant
    ∙ ap (λ hs. c.args.order.now.items ++ loops_by c.args.checked.now c.args.last hs)
    (take_all c.loop-head.head-index c.args.loops.now c.loop-head-test.false)
