-- Two arcs are pushed, one after another.
use Rattle.std.proofs.Common.{◌≡◌, refl}
use Rattle.std.proofs.lemmas.Result.{on_ok_weaker}
use Rattle.id_instr.specs.declared.dests.Port.TheVariants.{Zero}
use Rattle.id_build.specs.Made.{number_by}
use Rattle.id_build.specs.Rows.{origin}
use Rattle.id_build.proofs.PushedLemmas.{two_arcs}
use Rattle.id_build.proofs.feeds.push_arms.Goals as goal

pub returns : goal.returns
returns c =
    let P = c.args.slots.now.kernel.now.checked.now in
    let F = c.args.slots.now.firsts.items in
    let n = c.args.n in
    let xs = c.args.arcs.now.items in
    let first : c.number_at-first.result ≡ number_by F n 0 =
    c.number_at-first.ensures.number in
    on_ok_weaker c.push_arc-2.result
    (two_arcs F F _ n 0 0 _ _ (origin P c.args.then) (origin P c.args.otherwise) _ _ Zero Zero xs _ _ refl refl first
    first
    c.origin.ensures.origin c.origin-2.ensures.origin c.in_ok-push_arc.ensures) c.push_arc-2.ensures
