-- What fires is what came, where this waited before.
use Rattle.std.proofs.Common.{subst}
use Rattle.id_ops.specs.declared.plain_fired.PlainFired.{PlainFired}
use Rattle.id_step.specs.Firings.{IsPlainFiring}
use Rattle.id_step.proofs.storage.Storage.take_one.Goals as goal

pub put_out-requires-clause-came : goal.put_out-requires-clause-came
put_out-requires-clause-came g c =
    let a = c.args in
    let x = c.in-Some-Out in
    let w = a.self.now.waiting in
    (w, subst (λ (p : PlainFired). IsPlainFiring a.instr.now.op w w a.token.now p) x.field-0-is (x.ensures w))

pub move_to-requires-clause-came : goal.move_to-requires-clause-came
move_to-requires-clause-came g c =
    let a = c.args in
    let x = c.in-Some-Moved in
    let w = a.self.now.waiting in
    (w, subst (λ (p : PlainFired). IsPlainFiring a.instr.now.op w w a.token.now p) x.field-0-is (x.ensures w))

pub ask-requires-clause-came : goal.ask-requires-clause-came
ask-requires-clause-came g c =
    let a = c.args in
    let x = c.in-Some-Asked in
    let w = a.self.now.waiting in
    (w, subst (λ (p : PlainFired). IsPlainFiring a.instr.now.op w w a.token.now p) x.field-0-is (x.ensures w))

pub take_full-requires-clause-came : goal.take_full-requires-clause-came
take_full-requires-clause-came g c = (c.args.self.now.waiting, c.operand_of-operands.ensures c.args.self.now.waiting)
