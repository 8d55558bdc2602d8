-- The arc of one more of what hands on is pushed.
use Rattle.std.proofs.Common.{◌≡◌, ◌∙◌, ◌+◌, ◌<◌, ◌≤◌, ◌++◌, ◌∷◌, [], ℕ, List, add-zero, ap, append-nil, arith, get_or}
use Rattle.std.proofs.Common.{length, map, refl, subst, sym}
use Rattle.std.proofs.lemmas.List.{map-append}
use Rattle.id_desugar.specs.Regions.{carried, imports_of}
use Rattle.id_instr.specs.declared.dests.Port.TheVariants.{Zero}
use Rattle.id_build.specs.declared.arc.Arc.{Arc}
use Rattle.id_build.specs.Made.{arc_of, number_by}
use Rattle.id_build.specs.Rows.{carried_feeds, feed, name_in, trigger_of, turn_feeds}
use Rattle.id_build.proofs.PushedLemmas.{added, arc_is, rest_done, turn_feeds-next}
use Rattle.id_build.proofs.feeds.push_turn.Goals as goal

pub loop-binder-preserved : goal.loop-binder-preserved
loop-binder-preserved c =
    let P = c.args.slots.now.kernel.now.checked.now in
    let F = c.args.slots.now.firsts.items in
    let n = c.args.n in
    let r = c.args.region in
    let i = c.loop-binder.binder-index in
    let k = 1 + length (carried P c.args.head) in
    let bs = imports_of P c.args.head in
    let list : c.imports_at-binder-items.result.now ≡ bs = c.imports_at-binder-items.ensures in
    let less : i < length bs = subst (λ (l : List ℕ). i < length l) list c.loop-binder-test.true in
    let xs = c.loop-binder.arcs.items in
    let ys = c.push_arc-in-loop-binder.new.arcs.items in
    let to : c.loop-binder.to + 1 ≡ number_by F n (k + i) = omega (arith, c.loop-binder.invariant.to) in
    let here : c.name_in.result ≡ name_in P r (get_or bs i 0) =
    c.name_in.ensures.origin ∙ ap (λ (l : List ℕ). name_in P r (get_or l i 0)) list in
    let one = c.in_ok-push_arc-2.ensures ∙ ap (λ z. xs ++ z ∷ [])
    (arc_is F F n (k + i) (c.loop-binder.to + 1) (name_in P r (get_or bs i 0)) c.name_in.result Zero
    refl to here) in
    record {
      list = turn_feeds-next P F n r k i bs xs ys _ less c.loop-binder.invariant.list one;
      to = omega (arith, c.loop-binder.invariant.to);
    }

pub loop-binder-init : goal.loop-binder-init
loop-binder-init c =
    let P = c.args.slots.now.kernel.now.checked.now in
    let F = c.args.slots.now.firsts.items in
    let n = c.args.n in
    let r = c.args.region in
    let h = c.args.head in
    let k = 1 + length (carried P h) in
    let xs = c.args.arcs.now.items in
    let ys = c.push_arc.new.arcs.items in
    let zs = c.push_carried_turns.new.arcs.items in
    let first : c.number_at-first.result ≡ number_by F n 0 =
    c.number_at-first.ensures.number in
    let one = c.in_ok-push_arc.ensures ∙ ap (λ z. xs ++ z ∷ [])
    (arc_is F F n 0 c.number_at-first.result (trigger_of r) c.trigger_of.result Zero refl first c.trigger_of.ensures) in
    let B : List Arc = map (arc_of F n) (carried_feeds P n r h) in
    let C : List Arc = map (arc_of F n) (turn_feeds P r k (imports_of P h)) in
    let two : zs ≡ ys ++ B = c.in_ok-push_carried_turns.ensures in
    record {
      list = ap (λ z. zs ++ map (arc_of F n) (turn_feeds P r z (imports_of P h))) (add-zero k)
          ∙ added xs ys zs (zs ++ C) (zs ++ C) (arc_of F n (feed (trigger_of r) 0 Zero)) B C [] one two refl
          (sym (append-nil (zs ++ C)))
          ∙ ap (λ z. xs ++ arc_of F n (feed (trigger_of r) 0 Zero) ∷ (B ++ z)) (append-nil C)
          ∙ ap (λ z. xs ++ arc_of F n (feed (trigger_of r) 0 Zero) ∷ z)
          (sym (map-append (arc_of F n) (carried_feeds P n r h) (turn_feeds P r k (imports_of P h))));
      to = omega (arith, first, c.carried_count.ensures.count);
    }

pub returns : goal.returns
returns c =
    let P = c.args.slots.now.kernel.now.checked.now in
    let bs = imports_of P c.args.head in
    let end : length bs ≤ c.loop-binder.binder-index =
    omega (arith, c.loop-binder-test.false, ap length c.imports_at-binder-items.ensures) in
    rest_done
    (λ z. map (arc_of c.args.slots.now.firsts.items c.args.n)
    (turn_feeds P c.args.region (1 + length (carried P c.args.head) + c.loop-binder.binder-index) z))
    c.loop-binder.binder-index bs c.loop-binder.arcs.items _ refl end c.loop-binder.invariant.list
