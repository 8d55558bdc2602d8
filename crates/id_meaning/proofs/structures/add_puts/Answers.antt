-- What they give so far, and what the rest do.
use Rattle.std.proofs.Common.{[], ◌∷◌, refl, of_z, to_z, w64}
use Rattle.std.proofs.lemmas.Int.{to_z-of_z}
use Rattle.id_facts.specs.declared.facts.RowFact.TheVariants.{Put}
use Rattle.id_meaning.specs.Given.{put_in}
use Rattle.id_source.proofs.TurnsLemmas.{gathered-all, gathered-more, on_ok}
use Rattle.id_meaning.proofs.structures.add_puts.Goals as goal

pub loop-value-init : goal.loop-value-init
loop-value-init c = refl

pub loop-value-preserved : goal.loop-value-preserved
loop-value-preserved c =
    let j = to_z w64 (of_z w64 c.args.index) in
    gathered-more (put_in c.args.point.path c.args.point.row c.args.name j)
    (λ v. Put c.args.point.path c.args.point.row c.args.name j v ∷ [])
    (λ _ _. refl) c.args.values.now
    c.loop-value.value-index _ _ _ _ c.loop-value-test.true c.in_ok-push.ensures.items c.loop-value.invariant

pub returns-in_err-push : goal.returns-in_err-push
returns-in_err-push c = on_ok _ c.from_residual.result c.from_residual.ensures.0

pub returns : goal.returns
returns c =
    let j = to_z w64 (of_z w64 c.args.index) in
    rw (to_z-of_z w64 c.args.index c.ranges.index) at
    (gathered-all (put_in c.args.point.path c.args.point.row c.args.name j) refl c.args.values.now
    c.loop-value.value-index _ _ c.loop-value-test.false c.loop-value.invariant)
