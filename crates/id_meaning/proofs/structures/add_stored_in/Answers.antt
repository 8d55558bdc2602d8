-- What they give so far, and what the rest do.
use Rattle.std.proofs.Common.{refl}
use Rattle.id_meaning.specs.Given.{stored, stored_by}
use Rattle.id_source.proofs.TurnsLemmas.{gathered-all, gathered-more, on_ok}
use Rattle.id_meaning.proofs.structures.add_stored_in.Goals as goal

pub loop-index-init : goal.loop-index-init
loop-index-init c = refl

pub loop-index-preserved : goal.loop-index-preserved
loop-index-preserved c =
    gathered-more (λ ws. stored c.args.point.path c.args.point.row c.args.name c.args.shapes.now ws c.args.values.now)
    (stored_by c.args.point.path c.args.point.row c.args.name c.args.shapes.now c.args.values.now) (λ _ _. refl)
    c.args.indices.now
    c.loop-index.index-index _ _ _ _
    c.loop-index-test.true c.in_ok-add_stored_by.ensures c.loop-index.invariant

pub returns-in_err-add_stored_by : goal.returns-in_err-add_stored_by
returns-in_err-add_stored_by c = on_ok _ c.from_residual.result c.from_residual.ensures.0

pub returns : goal.returns
returns c =
    gathered-all (λ ws. stored c.args.point.path c.args.point.row c.args.name c.args.shapes.now ws c.args.values.now)
    refl
    c.args.indices.now c.loop-index.index-index
    _ _ c.loop-index-test.false c.loop-index.invariant
