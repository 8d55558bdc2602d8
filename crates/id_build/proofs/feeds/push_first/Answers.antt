-- The arc that is pushed is that of the feed.
use Rattle.std.proofs.Common.{◌≡◌, refl}
use Rattle.std.proofs.lemmas.Result.{on_ok_weaker}
use Rattle.id_instr.specs.declared.dests.Port.TheVariants.{Zero}
use Rattle.id_build.specs.Made.{number_by}
use Rattle.id_build.proofs.PushedLemmas.{one_arc}
use Rattle.id_build.proofs.feeds.push_first.Goals as goal

pub returns : goal.returns
returns c =
    let F = c.args.slots.now.firsts.items in
    let n = c.args.n in
    let first : c.number_at-first.result ≡ number_by F n 0 =
    c.number_at-first.ensures.number in
    on_ok_weaker c.push_arc.result (one_arc F F n 0 _ c.args.origin _ Zero c.args.arcs.now.items _ refl first refl)
    c.push_arc.ensures
