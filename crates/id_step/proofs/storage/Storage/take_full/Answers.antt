-- What is recorded and sent is the element step, by what came of the token where this waited before.
use Rattle.std.proofs.Common.{[], refl}
use Rattle.id_tag.specs.Plains.{message_of, tag_in}
use Rattle.id_step.specs.Handled.{outputs_at, token_sends}
use Rattle.id_step.specs.Storage.{fired_by}
use Rattle.id_step.specs.Steps.{fired_verdict}
use Rattle.id_record.specs.Events.{full_step}
use Rattle.id_step.proofs.ShortLemmas.{step_full}
use Rattle.id_step.proofs.StretchesLemmas.{spreads_full, took_well}
use Rattle.id_step.proofs.TakesLemmas.{treats}
use Rattle.id_step.proofs.storage.Storage.take_full.Goals as goal

pub returns-in-Went-clause-comes : goal.returns-in-Went-clause-comes
returns-in-Went-clause-comes g c = λ w comes.
    let done = c.conclude_full.ensures in
    let d = c.args.self.now in
    let t = c.args.token.now in
    let i = c.args.instr.now in
    let o = c.args.operands in
    let xs = outputs_at d c.args.stamp (token_sends i (tag_in t) (fired_by d i t o)) in
    took_well _ _ (message_of t) (tag_in t) _ _ _ _
    (full_step (message_of t).payload (fired_verdict (fired_by d i t o))) _ done.step c.in-Went.is (record {
      sent = xs;
      takes = treats w d _ t i _ _ _ [] xs (step_full _ _ _ _ _ _ o c.requires.ready.own comes)
          c.requires.ready.next c.requires.ready.short.stamp_is done.recorded refl;
      spreads =
          spreads_full (message_of t) _ _ _ c.give_back.new.list.messages _ xs c.give_back.ensures.empty
          c.give_back.ensures.messages done.sent;
    })

pub returns-in-Failed-clause-comes : goal.returns-in-Failed-clause-comes
returns-in-Failed-clause-comes g c = λ w comes.
    let done = c.conclude_full.ensures in
    let d = c.args.self.now in
    let t = c.args.token.now in
    let i = c.args.instr.now in
    let o = c.args.operands in
    let xs = outputs_at d c.args.stamp (token_sends i (tag_in t) (fired_by d i t o)) in (
      full_step (message_of t).payload (fired_verdict (fired_by d i t o)),
      record {
        sent = xs;
        takes = treats w d _ t i _ _ _ [] xs (step_full _ _ _ _ _ _ o c.requires.ready.own comes)
            c.requires.ready.next c.requires.ready.short.stamp_is done.recorded refl;
        spreads =
            spreads_full (message_of t) _ _ _ c.give_back.new.list.messages _ xs c.give_back.ensures.empty
            c.give_back.ensures.messages done.sent;
      },
    )
