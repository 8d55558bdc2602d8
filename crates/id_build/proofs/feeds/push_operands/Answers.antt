-- The arcs that are pushed are those of the two feeds.
use Rattle.std.proofs.Common.{◌≡◌, refl}
use Rattle.std.proofs.lemmas.Result.{on_ok_weaker}
use Rattle.id_build.specs.Made.{number_by}
use Rattle.id_build.specs.Rows.{origin}
use Rattle.id_build.proofs.PushedLemmas.{two_are}
use Rattle.id_build.proofs.feeds.push_operands.Goals as goal

pub returns : goal.returns
returns c =
    let P = c.args.slots.now.kernel.now.checked.now in
    let F = c.args.slots.now.firsts.items in
    let n = c.args.n in
    let xs = c.args.arcs.now.items in
    let first : c.number_at-first.result ≡ number_by F n 0 =
    c.number_at-first.ensures.number in
    on_ok_weaker c.push_two.result
    (two_are F F n 0 _ (origin P c.args.left) _ (origin P c.args.right) _ xs _ refl first c.origin-left.ensures.origin
    c.origin-right.ensures.origin)
    c.push_two.ensures
