use Rattle.std.proofs.Common.{◌≡◌, ◌++◌, ◌∙◌, ap, arith, reverse}
use Rattle.id_elements.proofs.PassingLemmas.{IsSending-more, IsSentOn-sent}
use Rattle.id_elements.proofs.passing.send_some.Goals as goal

pub loop-preserved : goal.loop-preserved
loop-preserved c = record {
  sending =
      IsSending-more c.args.near.home.number c.args.sent c.loop.counter c.args.own.now.messages c.args.back.now.messages
      c.args.letters.now.items
      c.loop.own.messages c.loop.back.messages c.loop.letters.items c.loop.invariant.sending
      c.send_last.new.own.messages c.send_last.new.back.messages c.send_last.new.letters.items
      c.in_ok-send_last.ensures.sent;
  room = omega (arith, c.loop.invariant.room, c.in_ok-send_last.ensures.room);
}

-- all were sent on, and what is for the element has come back
pub returns : goal.returns
returns c =
    let done : c.loop.counter ≡ c.args.sent = omega arith in
    IsSentOn-sent c.args.near.home.number c.args.sent c.loop.counter c.args.own.now.messages c.args.back.now.messages
    c.args.letters.now.items
    c.loop.own.messages c.loop.back.messages c.loop.letters.items c.loop.invariant.sending
    c.take_back.new.own.messages c.take_back.new.back.messages done
    (c.take_back.ensures.own ∙ ap (λ ms. ms ++ reverse c.loop.back.messages) c.in_ok-reserve-2.ensures.messages)
    c.take_back.ensures.empty
