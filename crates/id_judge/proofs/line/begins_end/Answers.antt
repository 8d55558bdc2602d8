-- One of three ends stands there, or none.
use Rattle.id_record.specs.declared.step.Step.TheVariants.{Went}
use Rattle.id_judge.proofs.GivenLemmas.{not_false}
use Rattle.id_judge.proofs.TextLemmas.{fault_end, last_end, one_end}
use Rattle.id_judge.proofs.line.begins_end.Goals as goal

pub returns-then-begins : goal.returns-then-begins
returns-then-begins c = one_end c.args.text.now Went (c.begins.ensures.0 c.if-begins.true)

pub returns-then-begins-2 : goal.returns-then-begins-2
returns-then-begins-2 c = fault_end c.args.text.now (c.begins-2.ensures.0 c.if-begins-2.true)

pub returns : goal.returns
returns c =
    last_end c.args.text.now c.begins-3.result (λ b. not_false c.begins.result c.if-begins.false (c.begins.ensures.1 b))
    (λ b. not_false c.begins-2.result c.if-begins-2.false (c.begins-2.ensures.1 b)) c.begins-3.ensures
