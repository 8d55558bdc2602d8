-- What they give so far, and what the rest do.
use Rattle.std.proofs.Common.{refl}
use Rattle.id_meaning.specs.Effects.{all_woken, woken}
use Rattle.id_source.proofs.TurnsLemmas.{gathered-all, gathered-more, on_ok}
use Rattle.id_meaning.proofs.rules.Rules.add_all_woken.Goals as goal

pub loop-wait-init : goal.loop-wait-init
loop-wait-init c = refl

pub loop-wait-preserved : goal.loop-wait-preserved
loop-wait-preserved c =
    gathered-more
    (all_woken c.args.self.now.checked.now c.args.self.now.links.now c.args.self.now.cells.now c.args.point.path
    c.args.point.row c.args.value)
    (woken c.args.self.now.checked.now c.args.self.now.links.now c.args.self.now.cells.now c.args.point.path
    c.args.point.row
    c.args.value) (λ _ _. refl) c.args.waits.now c.loop-wait.wait-index _ _ _ _
    c.loop-wait-test.true c.in_ok-add_woken.ensures c.loop-wait.invariant

pub returns-in_err-add_woken : goal.returns-in_err-add_woken
returns-in_err-add_woken c = on_ok _ c.from_residual.result c.from_residual.ensures.0

pub returns : goal.returns
returns c =
    gathered-all
    (all_woken c.args.self.now.checked.now c.args.self.now.links.now c.args.self.now.cells.now c.args.point.path
    c.args.point.row c.args.value) refl c.args.waits.now c.loop-wait.wait-index _ _
    c.loop-wait-test.false c.loop-wait.invariant
