-- The arcs are pushed one after another.
use Rattle.std.proofs.Common.{◌≡◌, ◌∙◌, ◌+◌, ◌-◌, ◌++◌, ◌∷◌, [], List, Bool, true, cond, ap, append-nil, arith, map}
use Rattle.std.proofs.Common.{refl, sym}
use Rattle.std.proofs.lemmas.Result.{on_ok_weaker}
use Rattle.id_desugar.specs.Regions.{has_index}
use Rattle.id_instr.specs.declared.dests.Port.TheVariants.{Zero}
use Rattle.id_build.specs.declared.arc.Feed.{Feed}
use Rattle.id_build.specs.Made.{arc_of, number_by}
use Rattle.id_build.specs.Rows.{feed, name_in, output, part_of}
use Rattle.id_build.proofs.PushedLemmas.{then_one}
use Rattle.id_build.proofs.feeds.push_carried_turns.Goals as goal

pub returns : goal.returns
returns c =
    let P = c.args.slots.now.kernel.now.checked.now in
    let F = c.args.slots.now.firsts.items in
    let n = c.args.n in
    let r = c.args.region in
    let h = c.args.head in
    let xs = c.args.arcs.now.items in
    let has : has_index P h ≡ true = sym c.has_index.ensures ∙ c.if-not-has_index.false in
    let m : c.saturating_sub-count.result ≡ n - 1 = omega (arith, c.saturating_sub-count.ensures) in
    let first : c.number_at-first.result ≡ number_by F n 0 =
    c.number_at-first.ensures.number in
    let fs : List Feed = feed (part_of (n - 1) 4) 1 Zero ∷ [] in
    let gs : List Feed = fs ++ feed (name_in P r (h + 2)) 2 Zero ∷ [] in
    let all : List Feed = gs ++ feed (output (n - 1)) 3 Zero ∷ [] in
    let a = then_one F F n 1 _ (part_of (n - 1) 4) _ Zero [] xs xs c.push_arc.new.arcs.items refl (omega (arith, first))
    (c.part_of.ensures ∙ ap (λ z. part_of z 4) m) (sym (append-nil xs)) c.in_ok-push_arc.ensures in
    let b = then_one F _ n 2 _ (name_in P r (h + 2)) _ Zero fs xs _ c.push_arc-2.new.arcs.items refl
    (omega (arith, first)) c.name_in-bound.ensures.origin a
    c.in_ok-push_arc-2.ensures in
    on_ok_weaker c.push_arc-3.result
    (λ e. then_one F _ n 3 _ (output (n - 1)) _ Zero gs xs _ c.push_arc-3.new.arcs.items refl (omega (arith, first))
    (c.output.ensures ∙ ap output m) b e
    ∙ ap (λ (t : Bool). xs ++ map (arc_of F n) (cond t all [])) (sym has))
    c.push_arc-3.ensures
