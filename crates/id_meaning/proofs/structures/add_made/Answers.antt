-- What they give so far, and what the rest do.
use Rattle.std.proofs.Common.{refl, of_z, to_z, w64}
use Rattle.std.proofs.lemmas.Int.{to_z-of_z}
use Rattle.id_meaning.specs.Given.{made, made_by}
use Rattle.id_source.proofs.TurnsLemmas.{gathered-all, gathered-more, on_ok}
use Rattle.id_meaning.proofs.structures.add_made.Goals as goal

pub loop-high-init : goal.loop-high-init
loop-high-init c = refl

pub loop-high-preserved : goal.loop-high-preserved
loop-high-preserved c =
    let n = to_z w64 (of_z w64 c.args.low) in
    gathered-more (made c.args.point.path c.args.point.row c.args.spot n)
    (made_by c.args.point.path c.args.point.row c.args.spot n)
    (λ _ _. refl) c.args.highs.now
    c.loop-high.high-index _ _ _ _ c.loop-high-test.true c.in_ok-add_made_by.ensures c.loop-high.invariant

pub returns-in_err-add_made_by : goal.returns-in_err-add_made_by
returns-in_err-add_made_by c = on_ok _ c.from_residual.result c.from_residual.ensures.0

pub returns : goal.returns
returns c =
    let n = to_z w64 (of_z w64 c.args.low) in
    rw (to_z-of_z w64 c.args.low c.ranges.low) at
    (gathered-all (made c.args.point.path c.args.point.row c.args.spot n) refl c.args.highs.now c.loop-high.high-index _
    _
    c.loop-high-test.false c.loop-high.invariant)
