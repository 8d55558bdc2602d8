-- What the facts so far tell, and what the rest does.
use Rattle.std.proofs.Common.{ap, ◌∙◌}
use Rattle.std.specs.Prelude.{pos}
use Rattle.id_facts.specs.declared.facts.Sort.TheVariants.{Shapes}
use Rattle.id_facts.specs.Cells.{bounds_by, chain, items}
use Rattle.id_facts.specs.RowFacts.{chain_by}
use Rattle.id_source.proofs.TurnsLemmas.{gathered-none, if_err}
use Rattle.id_facts.proofs.ToldLemmas.{listed-none, listed-some, told-all, told-more}
use Rattle.id_facts.proofs.cells.Cells.shapes.Goals as goal
use Rattle.id_facts.proofs.cells.Cells.shapes.Goals.{in-Some+in_ok-push, in_default}

pub loop-number-init : goal.loop-number-init
loop-number-init c = gathered-none _ _ c.new-shapes.ensures.items

pub loop-number-preserved : goal.loop-number-preserved
loop-number-preserved c =
    let cells = c.args.self.now in
    let same = c.of-number-items.ensures ∙ ap (chain cells) c.chain_by.ensures.chain in
    let told_by = c.bounds_at.ensures ∙ ap (bounds_by c.args.name) c.fact.ensures in
    told-more (bounds_by c.args.name) (items cells) (chain cells (chain_by Shapes c.args.name (pos 0)))
    c.of-number-items.result.now c.loop-number.number-index _ _ _ _ same
    c.loop-number-test.true
    (elim c.match-bounds_at.branch [
      | in-Some+in_ok-push w ↦ listed-some c.bounds_at.result _ w.in-Some.bounds _ _ told_by w.in-Some.is
          (ap (λ v. v.items) w.shapes-is ∙ w.in_ok-push.ensures.items)
      | in_default w ↦ listed-none c.bounds_at.result _ _ _ told_by w.in_default.is (ap (λ v. v.items) w.shapes-is)
    ])
    c.loop-number.invariant

pub returns-in_err-push : goal.returns-in_err-push
returns-in_err-push c = if_err _ c.from_residual.result c.from_residual.ensures.0

pub returns : goal.returns
returns c =
    let cells = c.args.self.now in
    let same = c.of-number-items.ensures ∙ ap (chain cells) c.chain_by.ensures.chain in
    told-all (bounds_by c.args.name) (items cells) (chain cells (chain_by Shapes c.args.name (pos 0)))
    c.of-number-items.result.now c.loop-number.number-index _ _ same
    c.loop-number-test.false c.loop-number.invariant
