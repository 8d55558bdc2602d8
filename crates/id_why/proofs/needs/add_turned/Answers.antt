-- What the facts so far tell, and what the rest do.
use Rattle.std.proofs.Common.{ap, refl, ◌∙◌}
use Rattle.id_why.specs.Found.{turn_by}
use Rattle.id_why.specs.Known.{known_facts}
use Rattle.id_source.proofs.TurnsLemmas.{gathered-none, on_ok}
use Rattle.id_facts.proofs.ToldLemmas.{listed-none, listed-some, told-all, told-more}
use Rattle.id_why.proofs.needs.add_turned.Goals as goal
use Rattle.id_why.proofs.needs.add_turned.Goals.{in-Some+in_ok-push, in_default}

pub loop-number-init : goal.loop-number-init
loop-number-init c = refl

pub loop-number-preserved : goal.loop-number-preserved
loop-number-preserved c =
    let by = turn_by c.args.spot c.args.last c.args.test in
    let told_by = c.turn_by.ensures ∙ ap by c.fact.ensures in
    told-more by (known_facts c.args.known.now) c.args.numbers.now c.args.numbers.now c.loop-number.number-index _ _ _ _
    refl
    c.loop-number-test.true
    (elim c.match-turn_by.branch [
      | in-Some+in_ok-push w ↦ listed-some c.turn_by.result _ w.in-Some.point _ _ told_by w.in-Some.is
          (ap (λ v. v.items) w.found-is ∙ w.in_ok-push.ensures.items)
      | in_default w ↦ listed-none c.turn_by.result _ _ _ told_by w.in_default.is (ap (λ v. v.items) w.found-is)
    ])
    c.loop-number.invariant

pub returns-in_err-push : goal.returns-in_err-push
returns-in_err-push c = on_ok _ c.from_residual.result c.from_residual.ensures.0

pub returns : goal.returns
returns c =
    told-all (turn_by c.args.spot c.args.last c.args.test) (known_facts c.args.known.now) c.args.numbers.now
    c.args.numbers.now
    c.loop-number.number-index _ _ refl c.loop-number-test.false c.loop-number.invariant
