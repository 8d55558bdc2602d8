-- What they give so far, and what the rest do.
use Rattle.std.proofs.Common.{refl}
use Rattle.id_meaning.specs.Effects.{all_passes, entered, pass_by}
use Rattle.id_source.proofs.TurnsLemmas.{gathered-all, gathered-more, on_ok}
use Rattle.id_meaning.proofs.rules.Rules.add_all_passes.Goals as goal

pub loop-row-init : goal.loop-row-init
loop-row-init c = refl

pub loop-row-preserved : goal.loop-row-preserved
loop-row-preserved c =
    gathered-more (all_passes c.args.self.now.checked.now c.args.self.now.cells.now c.args.enter.path c.args.value
    c.args.enter.row c.args.index)
    (λ n. pass_by c.args.self.now.checked.now c.args.enter.row c.args.index c.args.value (entered
    c.args.self.now.checked.now c.args.self.now.cells.now c.args.enter.path n)) (λ _ _. refl)
    c.args.rows.now c.loop-row.row-index _ _ _ _ c.loop-row-test.true (rw c.entered-call.ensures at
    c.in_ok-add_pass_by.ensures) c.loop-row.invariant

pub returns-in_err-add_pass_by : goal.returns-in_err-add_pass_by
returns-in_err-add_pass_by c = on_ok _ c.from_residual.result c.from_residual.ensures.0

pub returns : goal.returns
returns c =
    gathered-all
    (all_passes c.args.self.now.checked.now c.args.self.now.cells.now c.args.enter.path c.args.value c.args.enter.row
    c.args.index) refl c.args.rows.now
    c.loop-row.row-index _ _ c.loop-row-test.false c.loop-row.invariant
