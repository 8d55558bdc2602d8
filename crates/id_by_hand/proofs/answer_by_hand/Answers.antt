use Rattle.id_by_hand.proofs.RunLemmas.{answered_of}
use Rattle.id_by_hand.proofs.answer_by_hand.Goals as goal

pub returns-in-Ok : goal.returns-in-Ok
returns-in-Ok c =
    answered_of _ _ c.in-Ok.prepared.compiled.checked c.in-Ok.prepared.inputs.values c.answer_of.result
    c.in-Ok.ensures.program
    c.in-Ok.ensures.inputs c.answer_of.ensures
