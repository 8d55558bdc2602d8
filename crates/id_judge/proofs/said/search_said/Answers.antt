-- Where the message is said at no position, it is not said.
use Rattle.std.proofs.Common.{arith}
use Rattle.id_judge.proofs.TextLemmas.{none_at_all}
use Rattle.id_judge.proofs.said.search_said.Goals as goal

pub returns-clause-none : goal.returns-clause-none
returns-clause-none c =
    none_at_all c.args.flight.now c.args.body.now c.loop-position.position (omega (
      arith,
      c.loop-position-test.false,
      c.len-position-end.ensures,
    ))
    c.loop-position.invariant
