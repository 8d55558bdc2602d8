-- Where the message stands at no position, it is not among them.
use Rattle.std.proofs.Common.{arith}
use Rattle.id_judge.proofs.GivenLemmas.{none_more, not_among, not_false}
use Rattle.id_judge.proofs.pool.Pool.search.Goals as goal

pub loop-position-preserved : goal.loop-position-preserved
loop-position-preserved c =
    none_more c.args.self.now c.args.message.now c.message-stands.result c.loop-position.position
    c.loop-position.invariant c.message-stands.ensures
    (λ e. not_false c.same_message.result c.if-same_message.false (c.same_message.ensures.1 e))

pub returns-clause-none : goal.returns-clause-none
returns-clause-none c =
    not_among c.args.self.now c.args.message.now c.loop-position.position (omega (
      arith,
      c.loop-position-test.false,
      c.len-position-end.ensures,
    )) c.loop-position.invariant
