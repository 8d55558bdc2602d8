-- The arcs are pushed one after another.
use Rattle.std.proofs.Common.{◌≡◌, ◌∙◌, ◌+◌, ◌++◌, ◌∷◌, [], List, ap, append-nil, arith, refl, sym}
use Rattle.std.proofs.lemmas.Result.{on_ok_weaker}
use Rattle.id_instr.specs.declared.dests.Port.TheVariants.{Zero, One}
use Rattle.id_build.specs.declared.arc.Feed.{Feed}
use Rattle.id_build.specs.Made.{number_by}
use Rattle.id_build.specs.Rows.{block, feed, name_in, output, part_of, trigger_of}
use Rattle.id_build.proofs.PushedLemmas.{then_one, then_two}
use Rattle.id_build.proofs.feeds.push_count.Goals as goal

pub returns : goal.returns
returns c =
    let P = c.args.slots.now.kernel.now.checked.now in
    let F = c.args.slots.now.firsts.items in
    let n = c.args.n in
    let r = c.args.region in
    let xs = c.args.arcs.now.items in
    let h = block P n in
    let x = output (h + 1) in
    let b = name_in P r (h + 2) in
    let head : c.row_at-head.result.block ≡ h = ap (λ q. q.block) c.row_at-head.ensures in
    let first : c.number_at-first.result ≡ number_by F n 0 =
    c.number_at-first.ensures.number in
    let index = c.output-index.ensures ∙ ap (λ z. output (z + 1)) head in
    let bound = c.name_in-bound.ensures.origin ∙ ap (λ z. name_in P r (z + 2)) head in
    let fs : List Feed = feed x 0 Zero ∷ feed b 0 One ∷ [] in
    let gs : List Feed = fs ++ feed (output n) 1 Zero ∷ feed (trigger_of r) 1 One ∷ [] in
    let hs : List Feed = gs ++ feed (output n) 2 Zero ∷ feed x 2 One ∷ [] in
    let ks : List Feed = hs ++ feed (part_of n 1) 3 Zero ∷ [] in
    let a = then_two F F n 0 _ x _ b _ [] xs xs c.push_two.new.arcs.items refl first index bound (sym (append-nil xs))
    c.in_ok-push_two.ensures in
    let d = then_two F _ n 1 _ (output n) _ (trigger_of r) _ fs xs _ c.push_two-2.new.arcs.items refl
    (omega (arith, first)) c.output.ensures
    c.trigger_of.ensures a c.in_ok-push_two-2.ensures in
    let e = then_two F _ n 2 _ (output n) _ x _ gs xs _ c.push_two-3.new.arcs.items refl (omega (arith, first))
    c.output-2.ensures
    index d c.in_ok-push_two-3.ensures in
    let g = then_one F _ n 3 _ (part_of n 1) _ Zero hs xs _ c.push_arc.new.arcs.items refl (omega (arith, first))
    c.part_of.ensures e
    c.in_ok-push_arc.ensures in
    on_ok_weaker c.push_two-4.result
    (λ k. then_two F _ n 4 _ (part_of n 2) _ (part_of n 3) _ ks xs _ c.push_two-4.new.arcs.items refl
    (omega (arith, first)) c.part_of-2.ensures
    c.part_of-3.ensures g k)
    c.push_two-4.ensures
