-- The operands' two arcs are pushed, and then the two of the switch.
use Rattle.std.proofs.Common.{◌≡◌, ◌+◌, ◌∷◌, [], arith, refl}
use Rattle.std.proofs.lemmas.Result.{on_ok_weaker}
use Rattle.id_instr.specs.declared.dests.Port.TheVariants.{Zero, One}
use Rattle.id_build.specs.Made.{number_by}
use Rattle.id_build.specs.Rows.{feed, origin, output}
use Rattle.id_build.proofs.PushedLemmas.{then_two}
use Rattle.id_build.proofs.feeds.push_bounds.Goals as goal

pub returns : goal.returns
returns c =
    let P = c.args.slots.now.kernel.now.checked.now in
    let F = c.args.slots.now.firsts.items in
    let n = c.args.n in
    let a = origin P c.args.low in
    let b = origin P c.args.high in
    let first : c.number_at-first.result ≡ number_by F n 0 =
    c.number_at-first.ensures.number in
    let second : c.number_at-first.result + 1 ≡ number_by F n 1 = omega (arith, first) in
    on_ok_weaker c.push_two.result
    (λ e. then_two F _ n 1 _ (output n) _ a _ (feed a 0 Zero ∷ feed b 0 One ∷ []) c.args.arcs.now.items
    c.push_operands.new.arcs.items
    c.push_two.new.arcs.items refl second c.output.ensures c.origin.ensures.origin c.in_ok-push_operands.ensures e)
    c.push_two.ensures
