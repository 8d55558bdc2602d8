-- The messages that were looked at are the same, or two differ.
use Rattle.id_judge.proofs.GivenLemmas.{differ, none_true, not_false, same_further}
use Rattle.id_judge.proofs.given.are_sent.Goals as goal

pub returns-then-not-same_message : goal.returns-then-not-same_message
returns-then-not-same_message c =
    none_true
    (differ c.args.outputs.now c.args.messages.now c.loop-number.number c.message-sent.result c.message_at-wanted.result
    c.message-sent.ensures
    c.message_at-wanted.ensures
    (λ e. not_false c.same_message.result c.if-not-same_message.true (c.same_message.ensures.1 e)))

pub loop-number-preserved : goal.loop-number-preserved
loop-number-preserved c =
    same_further c.args.outputs.now c.args.messages.now c.loop-number.number c.message-sent.result
    c.message_at-wanted.result c.loop-number.invariant
    c.message-sent.ensures c.message_at-wanted.ensures (c.same_message.ensures.0 c.if-not-same_message.false)
