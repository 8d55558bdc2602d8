-- One more destination has one more token, with the next number.
use Rattle.std.proofs.Common.{append_assoc, arith}
use Rattle.id_record.proofs.SendsLemmas.{numbered-more}
use Rattle.id_step.proofs.outcome.send_all.Goals as goal

pub loop-number-preserved : goal.loop-number-preserved
loop-number-preserved c =
    let e = c.args.envelope in
    let more =
    numbered-more e.number e.position e.stamp c.args.tag c.args.value c.args.dests.now c.loop-number.number _
    c.token_to.result
    c.loop-number-test.true c.token_to.ensures in (
      omega (arith, c.push_back_reserved.ensures.room, c.loop-number.invariant.0),
      rw (c.push_back_reserved.ensures.messages, c.loop-number.invariant.1, more, c.message.ensures, append_assoc),
    )
