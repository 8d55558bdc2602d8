-- What they give so far, and what the rest do.
use Rattle.std.proofs.Common.{refl}
use Rattle.id_facts.specs.declared.facts.RowValue.TheVariants.{Name}
use Rattle.id_source.specs.Links.{targets}
use Rattle.id_meaning.specs.Effects.{gains, reached}
use Rattle.id_source.proofs.TurnsLemmas.{gathered-all, gathered-more, on_ok}
use Rattle.id_meaning.proofs.rules.Rules.add_reached.Goals as goal

pub loop-point-init : goal.loop-point-init
loop-point-init c = refl

pub loop-point-preserved : goal.loop-point-preserved
loop-point-preserved c =
    gathered-more (reached c.args.self.now.checked.now c.args.self.now.links.now c.args.self.now.cells.now c.args.name)
    (λ q. gains c.args.self.now.checked.now c.args.self.now.links.now c.args.self.now.cells.now q.path q.row (Name
    c.args.name) (targets c.args.self.now.links.now.reads.rows.items q.row))
    (λ _ _. refl) c.args.points.now c.loop-point.point-index _ _ _ _ c.loop-point-test.true (rw c.of-rows.ensures at
    c.in_ok-add_gains.ensures)
    c.loop-point.invariant

pub returns-in_err-add_gains : goal.returns-in_err-add_gains
returns-in_err-add_gains c = on_ok _ c.from_residual.result c.from_residual.ensures.0

pub returns : goal.returns
returns c =
    gathered-all (reached c.args.self.now.checked.now c.args.self.now.links.now c.args.self.now.cells.now c.args.name)
    refl c.args.points.now c.loop-point.point-index _ _
    c.loop-point-test.false c.loop-point.invariant
