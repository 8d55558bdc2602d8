use Rattle.std.proofs.Common.{arith}
use Rattle.id_elements.proofs.FinishLemmas.{held_one_more}
use Rattle.id_elements.proofs.finish.first_free.Goals as goal

pub loop-position-preserved : goal.loop-position-preserved
loop-position-preserved c =
    held_one_more c.args.machine.now.count c.args.steps c.args.machine.now.world c.loop-position.position
    c.loop-position.invariant
    (c.is_held_back.ensures.held c.if-not-is_held_back.false)

pub returns-clause-held : goal.returns-clause-held
returns-clause-held c = λ j m lt at. c.loop-position.invariant j m (omega (arith, lt)) at
