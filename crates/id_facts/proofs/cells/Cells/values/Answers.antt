-- What the facts so far tell, and what the rest does.
use Rattle.std.proofs.Common.{ap, arith, sym, ◌∙◌}
use Rattle.std.proofs.lemmas.Grind.{common_steps}
use Rattle.id_facts.specs.Cells.{chain, items, or_these, told, value_by}
use Rattle.id_facts.specs.RowFacts.{chain_at}
use Rattle.id_source.proofs.TurnsLemmas.{gathered-none, if_err}
use Rattle.id_facts.proofs.ToldLemmas.{listed-none, listed-some, told-all, told-more}
use Rattle.id_facts.proofs.cells.Cells.values.Goals as goal
use Rattle.id_facts.proofs.cells.Cells.values.Goals.{in-Some-value_at+in_ok-push-2, in_default-value_at}

pub returns-in_err-push : goal.returns-in_err-push
returns-in_err-push c = if_err _ c.from_residual.result c.from_residual.ensures.0

pub returns-in_err-push-2 : goal.returns-in_err-push-2
returns-in_err-push-2 c = if_err _ c.from_residual-in_err-push-2.result c.from_residual-in_err-push-2.ensures.0

pub returns-in-Some : goal.returns-in-Some
returns-in-Some c = grind (arith, common_steps)

pub loop-number-init : goal.loop-number-init
loop-number-init c = gathered-none _ _ c.new-values.ensures.items

pub loop-number-preserved : goal.loop-number-preserved
loop-number-preserved c =
    let cells = c.args.self.now in
    let asked = value_by c.args.path c.args.row in
    let same = c.of-number-items.ensures ∙ ap (chain cells) c.chain_at.ensures.chain in
    let told_by = c.value_at-in-loop-number.ensures ∙ ap asked c.fact.ensures in
    told-more asked (items cells) (chain cells (chain_at c.args.path c.args.row)) c.of-number-items.result.now
    c.loop-number.number-index _ _ _ _ same
    c.loop-number-test.true
    (elim c.match-value_at-2.branch [
      | in-Some-value_at+in_ok-push-2 w ↦ listed-some c.value_at-in-loop-number.result _ w.in-Some-value_at.value _ _
          told_by w.in-Some-value_at.is
          (ap (λ v. v.items) w.values-is ∙ w.in_ok-push-2.ensures.items)
      | in_default-value_at w ↦ listed-none c.value_at-in-loop-number.result _ _ _ told_by w.in_default-value_at.is
          (ap (λ v. v.items) w.values-is)
    ])
    c.loop-number.invariant

pub returns : goal.returns
returns c =
    let cells = c.args.self.now in
    let asked = value_by c.args.path c.args.row in
    let is = chain cells (chain_at c.args.path c.args.row) in
    let same = c.of-number-items.ensures ∙ ap (chain cells) c.chain_at.ensures.chain in
    told-all asked (items cells) is c.of-number-items.result.now c.loop-number.number-index _ _ same
    c.loop-number-test.false c.loop-number.invariant
    ∙ ap (λ x. or_these x (told asked (items cells) is)) (sym c.in_default.is ∙ c.value_at.ensures)
