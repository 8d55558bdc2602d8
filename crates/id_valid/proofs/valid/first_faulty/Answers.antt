use Rattle.std.proofs.Common.{refl, subst}
use borrow.Author.Count.{below_more}
use Rattle.id_instr.specs.Graph.{Parts}
use Rattle.id_valid.specs.Validator.{IsSound}
use Rattle.id_valid.proofs.ValidatorLemmas.{FirstFaulty-past}
use Rattle.id_valid.proofs.valid.first_faulty.Goals as goal

-- one more sound instruction
pub loop-number-preserved : goal.loop-number-preserved
loop-number-preserved c =
    let P : Parts → Type 0 = λ g. IsSound g c.loop-number.number
    in below_more (IsSound c.args.graph.now) _ c.loop-number.invariant
    (subst P c.in_ok-survey.ensures (c.if-not-is_sound.ensures.0 refl))

-- all instructions up to the end are sound
pub returns : goal.returns
returns c = FirstFaulty-past _ c.loop-number.number _ (rw (← c.instrs-number-end.ensures.value) c.loop-number-test.false) c.loop-number.invariant
    c.first_past.ensures
