-- One message more is in flight, or lost.
use Rattle.std.proofs.Common.{sym}
use Rattle.std.proofs.lemmas.Bool.{false≢true}
use Rattle.id_judge.proofs.DeliverLemmas.{fit_more, sent_more}
use Rattle.id_judge.proofs.bench.send.Goals as goal

pub loop-message-preserved-then-is_err : goal.loop-message-preserved-then-is_err
loop-message-preserved-then-is_err c = record {
  same = λ is. absurd (false≢true (sym is));
  fit = λ g a b. fit_more c.add.result g _ _ _ _ c.in-Some.message c.add.ensures.ok c.add.ensures.err
      c.in-Some.ensures.messages (c.loop-message.invariant.fit g a b);
}

pub loop-message-preserved : goal.loop-message-preserved
loop-message-preserved c = record {
  same = λ is. sent_more c.add.result c.is_err.result c.is_err.ensures.value c.if-is_err.false _ _ _ _ _
      c.in-Some.message c.add.ensures.ok c.in-Some.ensures.messages (c.loop-message.invariant.same is);
  fit = λ g a b. fit_more c.add.result g _ _ _ _ c.in-Some.message c.add.ensures.ok c.add.ensures.err
      c.in-Some.ensures.messages (c.loop-message.invariant.fit g a b);
}
