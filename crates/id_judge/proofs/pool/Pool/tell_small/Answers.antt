-- The pool keeps it.
use Rattle.std.proofs.Common.{subst}
use Rattle.id_judge.specs.Lines.{AreSmall}
use Rattle.id_judge.proofs.pool.Pool.tell_small.Goals as goal

pub returns : goal.returns
returns c = subst AreSmall c.self.view_is c.self.invariant
