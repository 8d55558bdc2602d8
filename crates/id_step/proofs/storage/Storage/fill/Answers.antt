-- What is recorded and sent is the element step, by what was fired where this waited before.
use Rattle.std.proofs.Common.{refl}
use Rattle.id_ops.specs.declared.plain_fired.PlainFired.TheVariants.{Stored}
use Rattle.id_step.proofs.ArmsLemmas.{took_fired}
use Rattle.id_step.proofs.storage.Storage.fill.Goals as goal

pub returns-clause-comes : goal.returns-clause-comes
returns-clause-comes g c = λ w comes.
    let a = c.args in
    took_fired a.self.now _ a.instr.now a.token.now a.stamp (Stored a.cell a.value) _ _ _ _ w c.requires.ready.own
    c.requires.ready.next
    c.requires.ready.short.stamp_is c.note_fired-mark.ensures.recorded refl
    (rw (c.push_write_reserved.ensures.messages, c.like.ensures, c.note_fired-mark.ensures.mark) refl) comes
