use Rattle.std.proofs.Common.{◌≡◌, ◌+◌, length, ap, ◌∙◌, arith, length-append}
use Rattle.id_elements.proofs.PassingLemmas.{last_back}
use Rattle.id_elements.proofs.passing.take_back.Goals as goal

pub loop-back-preserved : goal.loop-back-preserved
loop-back-preserved c =
    let put = c.move_last.ensures.moved in
    let e : length c.loop-back.back.messages ≡ length c.move_last.new.from.messages + 1 =
    ap length put.from_is ∙ length-append c.move_last.new.from.messages _ in
    record {
      room = omega (arith, e, c.loop-back.invariant.room, c.move_last.ensures.room);
      all = last_back c.loop-back.own.messages c.loop-back.back.messages c.move_last.new.to.messages
          c.move_last.new.from.messages put ∙ c.loop-back.invariant.all;
    }
