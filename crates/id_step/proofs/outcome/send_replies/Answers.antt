-- One more reply has one more token, with the next number, and stands in the record.
use Rattle.std.proofs.Common.{append_assoc, ◌∙◌, arith}
use Rattle.id_record.proofs.SendsLemmas.{replies-more, reply-added}
use Rattle.id_step.proofs.outcome.send_replies.Goals as goal

pub loop-number-preserved : goal.loop-number-preserved
loop-number-preserved c =
    let e = c.args.envelope in
    let i = c.loop-number.invariant in
    let more =
    replies-more e.number e.position e.stamp c.args.value c.args.readers.now c.loop-number.number _ c.token_at.result
    c.loop-number-test.true
    c.token_at.ensures in
    record {
      room = omega (arith, c.push_back_reserved.ensures.room, i.room);
      messages = rw (c.push_back_reserved.ensures.messages, i.messages, more, c.message.ensures, append_assoc);
      added = reply-added c.args.log.now.replies c.loop-number.log.replies _ c.args.readers.now c.loop-number.number _
          c.loop-number-test.true i.added
          c.add_reply.ensures.replies;
      left = omega (arith, i.left, c.add_reply.ensures.room_for_replies);
      events = c.add_reply.ensures.events ∙ i.events;
      element = c.add_reply.ensures.element ∙ i.element;
      graph = c.add_reply.ensures.graph ∙ i.graph;
      lines = c.add_reply.ensures.room ∙ i.lines;
      keeps = c.add_reply.ensures.keeps ∙ i.keeps;
    }
