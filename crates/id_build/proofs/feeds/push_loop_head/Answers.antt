-- Two arcs are pushed, one after another.
use Rattle.std.proofs.Common.{◌≡◌, ◌∙◌, ◌+◌, ◌-◌, ap, arith, refl}
use Rattle.std.proofs.lemmas.Result.{on_ok_weaker}
use Rattle.id_desugar.specs.Ends.{end_of}
use Rattle.id_instr.specs.declared.dests.Port.TheVariants.{Zero, One}
use Rattle.id_build.specs.Made.{number_by}
use Rattle.id_build.specs.Rows.{output, turn_row}
use Rattle.id_build.proofs.PushedLemmas.{two_arcs}
use Rattle.id_build.proofs.feeds.push_loop_head.Goals as goal

pub returns : goal.returns
returns c =
    let P = c.args.slots.now.kernel.now.checked.now in
    let F = c.args.slots.now.firsts.items in
    let n = c.args.n in
    let first : c.number_at-first.result ≡ number_by F n 0 =
    c.number_at-first.ensures.number in
    let second : c.number_at-first.result + 1 ≡ number_by F n 1 = omega (arith, first) in
    let turn = c.output.ensures ∙ ap output c.turn_row-turn.ensures in
    let back : c.saturating_sub-reset.result ≡ end_of P n - 2 =
    omega (arith, c.saturating_sub-reset.ensures, c.end_of.ensures) in
    let reset = c.output-2.ensures ∙ ap output back in
    on_ok_weaker c.push_arc-2.result
    (two_arcs F F _ n 0 1 _ _ (output (turn_row P n)) (output (end_of P n - 2)) _ _ Zero One c.args.arcs.now.items _ _
    refl refl first second turn
    reset c.in_ok-push_arc.ensures) c.push_arc-2.ensures
