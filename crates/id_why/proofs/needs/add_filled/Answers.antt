-- What the facts so far tell, and what the rest do.
use Rattle.std.proofs.Common.{ap, refl, ◌∙◌}
use Rattle.id_why.specs.Found.{filler}
use Rattle.id_why.specs.Known.{known_facts}
use Rattle.id_facts.proofs.ToldLemmas.{listed-none, listed-some, told-more}
use Rattle.id_why.proofs.needs.add_filled.Goals as goal
use Rattle.id_why.proofs.needs.add_filled.Goals.{in-Some+in_ok-push, in_default}

pub loop-number-preserved : goal.loop-number-preserved
loop-number-preserved c =
    let by = filler c.args.checked.now c.args.known.now c.args.cell in
    let told_by = c.in_ok-point.ensures ∙ ap by c.fact-fact.ensures in
    told-more by (known_facts c.args.known.now) c.args.numbers.now c.args.numbers.now c.loop-number.number-index _ _ _ _
    refl
    c.loop-number-test.true
    (elim c.match-branch-2.branch [
      | in-Some+in_ok-push w ↦ listed-some c.in_ok-point.field-0 _ w.in-Some.point _ _ told_by w.in-Some.is
          (ap (λ v. v.items) w.found-is ∙ w.in_ok-push.ensures.items)
      | in_default w ↦ listed-none c.in_ok-point.field-0 _ _ _ told_by w.in_default.is (ap (λ v. v.items) w.found-is)
    ])
    c.loop-number.invariant
