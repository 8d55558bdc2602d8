-- What the facts so far tell, and what the rest does.
use Rattle.std.proofs.Common.{ap, of_z, to_z, w64, ◌∙◌}
use Rattle.std.proofs.lemmas.Int.{to_z-of_z}
use Rattle.id_facts.specs.declared.facts.Sort.TheVariants.{Asks}
use Rattle.id_facts.specs.Cells.{ask_by, chain, items}
use Rattle.id_facts.specs.RowFacts.{chain_by}
use Rattle.id_source.proofs.TurnsLemmas.{gathered-none, if_err}
use Rattle.id_facts.proofs.ToldLemmas.{listed-none, listed-some, told-all, told-more}
use Rattle.id_facts.proofs.cells.Cells.asks.Goals as goal
use Rattle.id_facts.proofs.cells.Cells.asks.Goals.{in-Some+in_ok-push, in_default}

pub loop-number-init : goal.loop-number-init
loop-number-init c = gathered-none _ _ c.new-points.ensures.items

pub loop-number-preserved : goal.loop-number-preserved
loop-number-preserved c =
    let j = to_z w64 (of_z w64 c.args.index) in
    let cells = c.args.self.now in
    let same = c.of-number-items.ensures ∙ ap (chain cells) c.chain_by.ensures.chain in
    let told_by = c.ask_at.ensures ∙ ap (ask_by c.args.name j) c.fact.ensures in
    told-more (ask_by c.args.name j) (items cells) (chain cells (chain_by Asks c.args.name j))
    c.of-number-items.result.now c.loop-number.number-index _ _ _ _ same
    c.loop-number-test.true
    (elim c.match-ask_at.branch [
      | in-Some+in_ok-push w ↦ listed-some c.ask_at.result _ w.in-Some.point _ _ told_by w.in-Some.is
          (ap (λ v. v.items) w.points-is ∙ w.in_ok-push.ensures.items)
      | in_default w ↦ listed-none c.ask_at.result _ _ _ told_by w.in_default.is (ap (λ v. v.items) w.points-is)
    ])
    c.loop-number.invariant

pub returns-in_err-push : goal.returns-in_err-push
returns-in_err-push c = if_err _ c.from_residual.result c.from_residual.ensures.0

pub returns : goal.returns
returns c =
    let j = to_z w64 (of_z w64 c.args.index) in
    let cells = c.args.self.now in
    let same = c.of-number-items.ensures ∙ ap (chain cells) c.chain_by.ensures.chain in
    let all =
    told-all (ask_by c.args.name j) (items cells) (chain cells (chain_by Asks c.args.name j))
    c.of-number-items.result.now c.loop-number.number-index _ _ same c.loop-number-test.false
    c.loop-number.invariant in
    rw (to_z-of_z w64 c.args.index c.ranges.index) at all
