-- What fires is what came, where this waited before.
use Rattle.std.proofs.Common.{subst}
use Rattle.id_ops.specs.declared.plain_fired.PlainFired.{PlainFired}
use Rattle.id_step.specs.Firings.{IsPlainFiring}
use Rattle.id_step.proofs.storage.Storage.take_two.Goals as goal

pub put_out-requires-clause-came : goal.put_out-requires-clause-came
put_out-requires-clause-came g c =
    let a = c.args in
    let x = c.in-Some-Out in
    let w = c.requires.came.0 in (
      w,
      subst (λ (p : PlainFired). IsPlainFiring a.instr.now.op w a.self.now.waiting a.token.now p) x.field-0-is
          (x.ensures w _ c.requires.came.1),
    )

pub returns-in-Some-Out-clause-comes : goal.returns-in-Some-Out-clause-comes
returns-in-Some-Out-clause-comes g c = λ w comes.
    let a = c.args in
    let x = c.in-Some-Out in
    c.put_out.ensures.comes w
    (subst (λ (p : PlainFired). IsPlainFiring a.instr.now.op w a.self.now.waiting a.token.now p) x.field-0-is
    (x.ensures w _ comes))

pub put_out-requires-in-Some-Side-clause-came : goal.put_out-requires-in-Some-Side-clause-came
put_out-requires-in-Some-Side-clause-came g c =
    let a = c.args in
    let x = c.in-Some-Side in
    let w = c.requires.came.0 in (
      w,
      subst (λ (p : PlainFired). IsPlainFiring a.instr.now.op w a.self.now.waiting a.token.now p) x.field-0-is
          (x.ensures w _ c.requires.came.1),
    )

pub returns-in-Some-Side-clause-comes : goal.returns-in-Some-Side-clause-comes
returns-in-Some-Side-clause-comes g c = λ w comes.
    let a = c.args in
    let x = c.in-Some-Side in
    c.put_out-in-Some-Side.ensures.comes w
    (subst (λ (p : PlainFired). IsPlainFiring a.instr.now.op w a.self.now.waiting a.token.now p) x.field-0-is
    (x.ensures w _ comes))

pub put_out-requires-in-Some-Addressed-clause-came : goal.put_out-requires-in-Some-Addressed-clause-came
put_out-requires-in-Some-Addressed-clause-came g c =
    let a = c.args in
    let x = c.in-Some-Addressed in
    let w = c.requires.came.0 in (
      w,
      subst (λ (p : PlainFired). IsPlainFiring a.instr.now.op w a.self.now.waiting a.token.now p) x.field-0-is
          (x.ensures w _ c.requires.came.1),
    )

pub returns-in-Some-Addressed-clause-comes : goal.returns-in-Some-Addressed-clause-comes
returns-in-Some-Addressed-clause-comes g c = λ w comes.
    let a = c.args in
    let x = c.in-Some-Addressed in
    c.put_out-in-Some-Addressed.ensures.comes w
    (subst (λ (p : PlainFired). IsPlainFiring a.instr.now.op w a.self.now.waiting a.token.now p) x.field-0-is
    (x.ensures w _ comes))

pub send_on-requires-clause-came : goal.send_on-requires-clause-came
send_on-requires-clause-came g c =
    let a = c.args in
    let x = c.in-Some-Sent in
    let w = c.requires.came.0 in (
      w,
      subst (λ (p : PlainFired). IsPlainFiring a.instr.now.op w a.self.now.waiting a.token.now p) x.field-0-is
          (x.ensures w _ c.requires.came.1),
    )

pub returns-in-Some-Sent-clause-comes : goal.returns-in-Some-Sent-clause-comes
returns-in-Some-Sent-clause-comes g c = λ w comes.
    let a = c.args in
    let x = c.in-Some-Sent in
    c.send_on.ensures.comes w
    (subst (λ (p : PlainFired). IsPlainFiring a.instr.now.op w a.self.now.waiting a.token.now p) x.field-0-is
    (x.ensures w _ comes))

pub fill-requires-clause-came : goal.fill-requires-clause-came
fill-requires-clause-came g c =
    let a = c.args in
    let x = c.in-Some-Stored in
    let w = c.requires.came.0 in (
      w,
      subst (λ (p : PlainFired). IsPlainFiring a.instr.now.op w a.self.now.waiting a.token.now p) x.field-0-is
          (x.ensures w _ c.requires.came.1),
    )

pub returns-in-Some-Stored-clause-comes : goal.returns-in-Some-Stored-clause-comes
returns-in-Some-Stored-clause-comes g c = λ w comes.
    let a = c.args in
    let x = c.in-Some-Stored in
    c.fill.ensures.comes w
    (subst (λ (p : PlainFired). IsPlainFiring a.instr.now.op w a.self.now.waiting a.token.now p) x.field-0-is
    (x.ensures w _ comes))
