-- The block that is entered has a second instruction, and what starts it and what goes on are the element step.
use Rattle.std.proofs.Common.{◌≡◌, ℕ, Some, true, false, ap, arith, refl, sym, subst, ◌∙◌}
use Rattle.std.proofs.lemmas.Grind.{common_steps}
use Rattle.std.specs.Prelude.{option_map}
use Rattle.id_tag.specs.declared.Context.{Context}
use Rattle.id_tag.specs.declared.Message.{Message}
use Rattle.id_tag.specs.Plains.{context_of, element_of, message_of, serial_of, tag_in}
use Rattle.id_ops.specs.declared.Fired.TheVariants.{Entered}
use Rattle.id_ops.specs.declared.Fresh.{Fresh}
use Rattle.id_record.specs.Events.{full_step, tag_of}
use Rattle.id_record.specs.Sends.{HasSecond}
use Rattle.id_record.specs.declared.step.Step.TheVariants as step
use Rattle.id_record.specs.declared.step.Verdict.TheVariants.{Went}
use Rattle.id_record.proofs.SendsLemmas.{HasSecond-valid}
use Rattle.id_step.specs.Handled.{IsRecorded, token_outcome}
use Rattle.id_step.specs.Steps.{fresh_numbers}
use Rattle.id_step.specs.Stretches.{with_next}
use Rattle.id_step.proofs.ArmsLemmas.{took_entered}
use Rattle.id_step.proofs.storage.Storage.enter.Goals as goal

context_same : (e s : ℕ) (x : Context) → e ≡ x.element → s ≡ x.serial → record { element = e; serial = s } ≡ x
context_same e s x one two = rw (one, two) refl

pub take_full-requires-clause-came : goal.take_full-requires-clause-came
take_full-requires-clause-came g c = (c.args.self.now.waiting, c.operand_of-operands.ensures c.args.self.now.waiting)

pub send_start-requires-clause-second : goal.send_start-requires-clause-second
send_start-requires-clause-second g c =
    let a = c.args in
    subst (λ o. HasSecond (Some o)) c.requires.enters.enters
    (HasSecond-valid a.self.now.log.graph a.token.now.instr (Some a.instr.now.op) c.requires.makes.graph
    c.requires.makes.valid
    (ap (option_map (λ i. i.op)) c.requires.ready.own))

pub returns-then-put_near-clause-became : goal.returns-then-put_near-clause-became
returns-then-put_near-clause-became g c =
    let a = c.args in
    let d = a.self.now in
    let i = a.instr.now in
    let t = a.token.now in
    let here = c.in-Some-Some in
    let x : Context = context_of here.name in
    let fresh = c.fresh_numbers.result.context in
    let same : x ≡ fresh =
    context_same (element_of here.name) (serial_of here.name) fresh (grind (arith, common_steps))
    (grind (arith, common_steps)) in
    let own : context_of here.own ≡ (tag_in t).context =
    context_same (element_of here.own) (serial_of here.own) (tag_in t).context (grind (arith, common_steps))
    (grind (arith, common_steps)) in
    let new : (fresh_numbers d.log.element d.contexts d.structures).context ≡ x =
    ap (λ e. (fresh_numbers e d.contexts d.structures).context) (sym c.element.ensures)
    ∙ ap (λ (f : Fresh). f.context) (sym c.fresh_numbers.ensures) ∙ sym same in
    let done : IsRecorded d c.note.new.self (message_of t) a.stamp
    (token_outcome d i (tag_in t) (Entered x) step.Went) =
    subst (λ (y : Context). IsRecorded d c.note.new.self (message_of t) a.stamp
    (token_outcome d i (tag_in t) (Entered y) step.Went)) (sym same)
    (subst (λ (m : Message). IsRecorded d c.note.new.self m a.stamp
    (token_outcome d i (tag_of m.payload) (Entered fresh) (full_step m.payload Went)))
    c.message.ensures
    (subst (λ k. IsRecorded d c.note.new.self c.message.result k
    (token_outcome d i (tag_of c.message.result.payload) (Entered fresh) (full_step c.message.result.payload Went)))
    c.from-3.ensures c.note.ensures)) in
    took_entered d _ i t a.stamp a.block a.reply x _ _ _ _ c.requires.ready.own c.requires.ready.next
    c.requires.ready.short.stamp_is c.requires.port c.requires.enters new done
    (ap (λ b. with_next b c.put_near.new.near.messages c.put_near.new.token) (sym c.if-put_near.true)
    ∙ c.put_near.ensures.messages ∙ rw (c.element-2.ensures, c.len.ensures, c.as_slice-dests.ensures) refl)
    (rw (
      c.send_start.ensures.messages,
      c.like.ensures,
      own,
      c.requires.enters.enters,
      c.element-2.ensures,
      c.len.ensures,
      c.as_slice-dests.ensures,
    ) refl)

pub returns-else-put_near-clause-became : goal.returns-else-put_near-clause-became
returns-else-put_near-clause-became g c =
    let a = c.args in
    let d = a.self.now in
    let i = a.instr.now in
    let t = a.token.now in
    let here = c.in-Some-Some in
    let x : Context = context_of here.name in
    let fresh = c.fresh_numbers.result.context in
    let same : x ≡ fresh =
    context_same (element_of here.name) (serial_of here.name) fresh (grind (arith, common_steps))
    (grind (arith, common_steps)) in
    let own : context_of here.own ≡ (tag_in t).context =
    context_same (element_of here.own) (serial_of here.own) (tag_in t).context (grind (arith, common_steps))
    (grind (arith, common_steps)) in
    let new : (fresh_numbers d.log.element d.contexts d.structures).context ≡ x =
    ap (λ e. (fresh_numbers e d.contexts d.structures).context) (sym c.element.ensures)
    ∙ ap (λ (f : Fresh). f.context) (sym c.fresh_numbers.ensures) ∙ sym same in
    let done : IsRecorded d c.note.new.self (message_of t) a.stamp
    (token_outcome d i (tag_in t) (Entered x) step.Went) =
    subst (λ (y : Context). IsRecorded d c.note.new.self (message_of t) a.stamp
    (token_outcome d i (tag_in t) (Entered y) step.Went)) (sym same)
    (subst (λ (m : Message). IsRecorded d c.note.new.self m a.stamp
    (token_outcome d i (tag_of m.payload) (Entered fresh) (full_step m.payload Went)))
    c.message.ensures
    (subst (λ k. IsRecorded d c.note.new.self c.message.result k
    (token_outcome d i (tag_of c.message.result.payload) (Entered fresh) (full_step c.message.result.payload Went)))
    c.from-3.ensures c.note.ensures)) in
    took_entered d _ i t a.stamp a.block a.reply x _ _ _ _ c.requires.ready.own c.requires.ready.next
    c.requires.ready.short.stamp_is c.requires.port c.requires.enters new done
    (ap (λ b. with_next b c.put_near.new.near.messages c.put_near.new.token) (sym c.if-put_near.false)
    ∙ c.put_near.ensures.messages ∙ rw (c.element-2.ensures, c.len.ensures, c.as_slice-dests.ensures) refl)
    (rw (
      c.send_start.ensures.messages,
      c.like.ensures,
      own,
      c.requires.enters.enters,
      c.element-2.ensures,
      c.len.ensures,
      c.as_slice-dests.ensures,
    ) refl)
