-- The chain goes on, or ends.
use Rattle.std.proofs.Common.{◌+◌, ◌<◌, ◌∷◌, ◌++◌, [], Some, None, ap, sym, ◌∙◌, subst, arith, append-nil, append_assoc}
use Rattle.std.proofs.Common.{get_or}
use Rattle.id_desugar.specs.Gathering.{IsFirstFrom}
use Rattle.id_desugar.specs.Regions.{in_block, those}
use Rattle.id_desugar.proofs.OrderLemmas.{AreReached, AreReached-from, next_of_block, rest, rest-less, those-yes}
use Rattle.id_desugar.proofs.order.push_block.Goals as goal

pub loop-at-init : goal.loop-at-init
loop-at-init c =
    let P = c.args.checked.now in
    let h = c.args.head in
    let old = c.args.order.now.items in
    AreReached-from (in_block P h) 0 c.args.last old old c.get-at.result (omega arith)
    (subst (IsFirstFrom (in_block P h) 0 c.args.last) (sym c.get-at.ensures.row)
    (c.requires.chains.first h (omega (arith, c.requires.head, c.requires.last))))
    (sym (append-nil old))

pub loop-at-smaller : goal.loop-at-smaller
loop-at-smaller c =
    let P = c.args.checked.now in
    let N = c.args.chains.now.nexts in
    let f = in_block P c.args.head in
    let n = c.args.last in
    let row = c.in-Some.row in
    let r : AreReached f n c.args.order.now.items c.loop-at.order.items (Some row) =
    subst (AreReached f n c.args.order.now.items c.loop-at.order.items) c.in-Some.is c.loop-at.invariant in
    let low = r.0 in
    let is = c.get-at-in-Some.ensures.row in
    subst (λ z. rest n c.get-at-in-Some.result < rest n z) (sym c.in-Some.is)
    (subst (λ z. rest n z < rest n (Some row)) (sym is)
    (rest-less f n row (get_or N row None) low
    (next_of_block P c.args.head n row c.args.chains.now.firsts N c.requires.chains low r.1)))

pub loop-at-preserved : goal.loop-at-preserved
loop-at-preserved c =
    let P = c.args.checked.now in
    let N = c.args.chains.now.nexts in
    let f = in_block P c.args.head in
    let n = c.args.last in
    let old = c.args.order.now.items in
    let row = c.in-Some.row in
    let r : AreReached f n old c.loop-at.order.items (Some row) =
    subst (AreReached f n old c.loop-at.order.items) c.in-Some.is c.loop-at.invariant in
    let low = r.0 in
    let is = c.get-at-in-Some.ensures.row in
    let new = c.in_ok-push.ensures.items ∙ ap (λ z. z ++ row ∷ []) r.2 ∙ append_assoc old (those f row) (row ∷ [])
    ∙ ap (λ z. old ++ z) (sym (those-yes f row r.1)) in
    subst (AreReached f n old c.push.new.self.items) (sym is)
    (AreReached-from f (row + 1) n old c.push.new.self.items (get_or N row None) (omega (arith, low))
    (next_of_block P c.args.head n row c.args.chains.now.firsts N c.requires.chains low r.1) new)
