-- The two arcs of each of the three are pushed.
use Rattle.std.proofs.Common.{◌≡◌, ◌∙◌, ◌-◌, ◌++◌, ◌∷◌, [], List, ap, append-nil, arith, map, refl, sym}
use Rattle.std.proofs.lemmas.Result.{on_ok_weaker}
use Rattle.id_table.specs.declared.row.Node.TheVariants.{Bounds}
use Rattle.id_instr.specs.declared.dests.Port.TheVariants.{Zero, One}
use Rattle.id_build.specs.declared.arc.Feed.{Feed}
use Rattle.id_build.specs.Made.{arc_of, number_by}
use Rattle.id_build.specs.Rows.{bounds_feeds, feed, node, origin, output, part_of}
use Rattle.id_build.proofs.PushedLemmas.{then_two}
use Rattle.id_build.proofs.feeds.push_bounds_sends.Goals as goal

pub returns-in_ok-push_two-in-Bounds-2 : goal.returns-in_ok-push_two-in-Bounds-2
returns-in_ok-push_two-in-Bounds-2 c =
    let P = c.args.slots.now.kernel.now.checked.now in
    let F = c.args.slots.now.firsts.items in
    let n = c.args.n in
    let xs = c.args.arcs.now.items in
    let a = c.in-Bounds.low in
    let b = c.in-Bounds.high in
    let m : c.saturating_sub-bounds.result ≡ n - 1 = omega (arith, c.saturating_sub-bounds.ensures) in
    let is : node P (n - 1) ≡ Bounds a b =
    ap (node P) (sym m) ∙ ap (λ r. r.node) (sym c.row_at.ensures) ∙ c.in-Bounds.is in
    let first : c.number_at-first.result ≡ number_by F n 0 =
    c.number_at-first.ensures.number in
    let fs : List Feed = feed (output n) 1 Zero ∷ feed (part_of (n - 1) 1) 1 One ∷ [] in
    let gs : List Feed = fs ++ feed (output n) 2 Zero ∷ feed (origin P b) 2 One ∷ [] in
    let begun = then_two F F n 1 _ (output n) _ (part_of (n - 1) 1) _ [] xs xs c.push_two.new.arcs.items
    refl (omega (arith, first)) c.output.ensures (c.part_of.ensures ∙ ap (λ z. part_of z 1) m) (sym (append-nil xs))
    c.in_ok-push_two-in-Bounds.ensures in
    let more =
    then_two F _ n 2 _ (output n) _ (origin P b) _ fs xs c.push_two.new.arcs.items c.push_two-in-Bounds.new.arcs.items
    refl (omega (arith, first)) c.output-in-Bounds.ensures c.origin.ensures.origin begun
    c.in_ok-push_two-in-Bounds-2.ensures in
    on_ok_weaker c.push_two-in-Bounds-2.result
    (λ e. then_two F _ n 3 _ (output n) _ (output (n - 1)) _ gs xs c.push_two-in-Bounds.new.arcs.items
    c.push_two-in-Bounds-2.new.arcs.items
    refl (omega (arith, first)) c.output-in-Bounds-2.ensures (c.output-in-Bounds-3.ensures ∙ ap output m) more e
    ∙ sym (ap (λ z. xs ++ map (arc_of F n) (bounds_feeds P n z)) is))
    c.push_two-in-Bounds-2.ensures
