-- What is recorded and sent is the element step, by what was fired where this waited before.
use Rattle.std.proofs.Common.{◌++◌, map, sym, ap, ◌∙◌}
use Rattle.id_tag.specs.Plains.{tag_in, whole}
use Rattle.id_record.specs.Sends.{numbered, token_to}
use Rattle.id_step.specs.Stretches.{with_next}
use Rattle.id_step.specs.declared.sending.Mark.{Mark}
use Rattle.id_step.proofs.ArmsLemmas.{puts_near, puts_none, took_fired}
use Rattle.id_step.proofs.storage.Storage.put_out.Goals as goal

pub returns-then-put_near-clause-comes : goal.returns-then-put_near-clause-comes
returns-then-put_near-clause-comes g c = λ w comes.
    let a = c.args in
    took_fired a.self.now _ a.instr.now a.token.now a.stamp a.fired _ _ _ _ w c.requires.ready.own c.requires.ready.next
    c.requires.ready.short.stamp_is c.note_fired-mark.ensures.recorded
    (ap (λ b. with_next b c.put_near.new.near.messages c.put_near.new.token) (sym c.if-put_near.true)
    ∙ c.put_near.ensures.messages
    ∙ ap (λ (m : Mark). a.near.now.messages
    ++ numbered m.sender m.position m.stamp 0 (map (token_to (tag_in a.token.now) (whole a.value)) a.dests.now))
    c.note_fired-mark.ensures.mark
    ∙ puts_near a.fired a.instr.now a.token.now a.dests.now a.value _ _ _ _ c.requires.puts)
    (puts_none a.fired a.instr.now a.dests.now a.value _ _ c.requires.puts) comes

pub returns-else-put_near-clause-comes : goal.returns-else-put_near-clause-comes
returns-else-put_near-clause-comes g c = λ w comes.
    let a = c.args in
    took_fired a.self.now _ a.instr.now a.token.now a.stamp a.fired _ _ _ _ w c.requires.ready.own c.requires.ready.next
    c.requires.ready.short.stamp_is c.note_fired-mark.ensures.recorded
    (ap (λ b. with_next b c.put_near.new.near.messages c.put_near.new.token) (sym c.if-put_near.false)
    ∙ c.put_near.ensures.messages
    ∙ ap (λ (m : Mark). a.near.now.messages
    ++ numbered m.sender m.position m.stamp 0 (map (token_to (tag_in a.token.now) (whole a.value)) a.dests.now))
    c.note_fired-mark.ensures.mark
    ∙ puts_near a.fired a.instr.now a.token.now a.dests.now a.value _ _ _ _ c.requires.puts)
    (puts_none a.fired a.instr.now a.dests.now a.value _ _ c.requires.puts) comes
