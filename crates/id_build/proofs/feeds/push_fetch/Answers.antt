-- The address's two arcs are pushed, and then that of the `fetch`.
use Rattle.std.proofs.Common.{◌≡◌, ◌+◌, arith, refl}
use Rattle.std.proofs.lemmas.Result.{on_ok_weaker}
use Rattle.id_instr.specs.declared.dests.Port.TheVariants.{Zero}
use Rattle.id_build.specs.Made.{number_by}
use Rattle.id_build.specs.Rows.{output}
use Rattle.id_build.proofs.PushedLemmas.{one_arc, third}
use Rattle.id_build.proofs.feeds.push_fetch.Goals as goal

pub returns : goal.returns
returns c =
    let F = c.args.slots.now.firsts.items in
    let n = c.args.n in
    let xs = c.args.arcs.now.items in
    let ys = c.push_operands.new.arcs.items in
    let first : c.number_at-first.result ≡ number_by F n 0 =
    c.number_at-first.ensures.number in
    let second : c.number_at-first.result + 1 ≡ number_by F n 1 = omega (arith, first) in
    on_ok_weaker c.push_arc.result
    (λ e. third xs ys c.push_arc.new.arcs.items _ _ _ c.in_ok-push_operands.ensures
    (one_arc F _ n 1 _ (output n) _ Zero ys _ refl second c.output.ensures e))
    c.push_arc.ensures
