-- What they give so far, and what the rest do.
use Rattle.std.proofs.Common.{refl}
use Rattle.id_meaning.specs.Effects.{gain, gains}
use Rattle.id_source.proofs.TurnsLemmas.{gathered-all, gathered-more, on_ok}
use Rattle.id_meaning.proofs.rules.Rules.add_gains.Goals as goal

pub loop-reader-init : goal.loop-reader-init
loop-reader-init c = refl

pub loop-reader-preserved : goal.loop-reader-preserved
loop-reader-preserved c =
    gathered-more
    (gains c.args.self.now.checked.now c.args.self.now.links.now c.args.self.now.cells.now c.args.point.path
    c.args.point.row c.args.value)
    (gain c.args.self.now.checked.now c.args.self.now.links.now c.args.self.now.cells.now c.args.point.path
    c.args.point.row
    c.args.value) (λ _ _. refl) c.args.rows.now c.loop-reader.reader-index
    _ _ _ _ c.loop-reader-test.true c.in_ok-add_gain.ensures c.loop-reader.invariant

pub returns-in_err-add_gain : goal.returns-in_err-add_gain
returns-in_err-add_gain c = on_ok _ c.from_residual.result c.from_residual.ensures.0

pub returns : goal.returns
returns c =
    gathered-all
    (gains c.args.self.now.checked.now c.args.self.now.links.now c.args.self.now.cells.now c.args.point.path
    c.args.point.row c.args.value) refl c.args.rows.now
    c.loop-reader.reader-index _ _ c.loop-reader-test.false c.loop-reader.invariant
