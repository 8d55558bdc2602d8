-- What they give so far, and what the rest do.
use Rattle.std.proofs.Common.{[], ◌∷◌, refl}
use Rattle.id_facts.specs.declared.facts.RowFact.TheVariants.{On}
use Rattle.id_facts.specs.Firsts.{ons}
use Rattle.id_source.proofs.TurnsLemmas.{gathered-all, gathered-more, on_ok}
use Rattle.id_facts.proofs.found.add_ons.Goals as goal

pub loop-row-init : goal.loop-row-init
loop-row-init c = refl

pub loop-row-preserved : goal.loop-row-preserved
loop-row-preserved c =
    gathered-more (ons c.args.path) (λ n. On c.args.path n ∷ []) (λ _ _. refl) c.args.rows.now c.loop-row.row-index _ _
    _ _ c.loop-row-test.true
    c.in_ok-push.ensures.items c.loop-row.invariant

pub returns-in_err-push : goal.returns-in_err-push
returns-in_err-push c = on_ok _ c.from_residual.result c.from_residual.ensures.0

pub returns : goal.returns
returns c =
    gathered-all (ons c.args.path) refl c.args.rows.now c.loop-row.row-index _ _ c.loop-row-test.false
    c.loop-row.invariant
