-- The arc of one more entry is pushed.
use Rattle.std.proofs.Common.{◌≡◌, ◌∙◌, ◌+◌, ◌<◌, ◌≤◌, ◌++◌, ◌∷◌, [], add-zero, ap, arith, length, map, refl}
use Rattle.id_desugar.specs.Regions.{carried, imports_of}
use Rattle.id_instr.specs.declared.dests.Port.TheVariants.{Zero}
use Rattle.id_build.specs.Made.{arc_of, number_by}
use Rattle.id_build.specs.Rows.{entry_feeds, part_of, turn_row}
use Rattle.id_build.proofs.PushedLemmas.{arc_is, entry_feeds-next, rest_done}
use Rattle.id_build.proofs.feeds.push_entries.Goals as goal

pub loop-part-preserved : goal.loop-part-preserved
loop-part-preserved c =
    let P = c.args.slots.now.kernel.now.checked.now in
    let F = c.args.slots.now.firsts.items in
    let n = c.args.n in
    let k = c.loop-part.part in
    let bs = imports_of P c.args.head in
    let m = turn_row P c.args.head in
    let xs = c.loop-part.arcs.items in
    let ys = c.push_arc.new.arcs.items in
    let less : k < length bs = omega (arith, c.loop-part-test.true, ap length c.imports_at-part-end.ensures) in
    let to : c.number_at-first.result + k ≡ number_by F n k =
    omega (arith, c.number_at-first.ensures.number) in
    let j = 1 + length (carried P c.args.head) in
    let up : k + (1 + c.carried_count-handed.result) ≡ j + k = omega (arith, c.carried_count-handed.ensures.count) in
    let turn =
    c.part_of.ensures ∙ ap (λ z. part_of z (k + (1 + c.carried_count-handed.result))) c.turn_row-turn.ensures
    ∙ ap (part_of m) up in
    let one = c.in_ok-push_arc.ensures ∙ ap (λ z. xs ++ z ∷ [])
    (arc_is F F n k (c.number_at-first.result + k) (part_of m (j + k)) _ Zero
    refl to turn) in
    entry_feeds-next F n m j k bs xs ys _ less c.loop-part.invariant one

pub loop-part-init : goal.loop-part-init
loop-part-init c =
    let P = c.args.slots.now.kernel.now.checked.now in
    let h = c.args.head in
    ap (λ z. c.args.arcs.now.items
    ++ map (arc_of c.args.slots.now.firsts.items c.args.n) (entry_feeds (turn_row P h) z 0 (imports_of P h)))
    (add-zero (1 + length (carried P h)))

pub returns : goal.returns
returns c =
    let P = c.args.slots.now.kernel.now.checked.now in
    let end : length (imports_of P c.args.head) ≤ c.loop-part.part =
    omega (arith, c.loop-part-test.false, ap length c.imports_at-part-end.ensures) in
    rest_done
    (λ z. map (arc_of c.args.slots.now.firsts.items c.args.n)
    (entry_feeds (turn_row P c.args.head) (1 + length (carried P c.args.head) + c.loop-part.part) c.loop-part.part z))
    c.loop-part.part
    (imports_of P c.args.head) c.loop-part.arcs.items _ refl end c.loop-part.invariant
