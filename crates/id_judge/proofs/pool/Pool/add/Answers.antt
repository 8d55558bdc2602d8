-- One message more that a machine has.
use Rattle.std.proofs.Common.{sym, subst}
use Rattle.id_judge.specs.Lines.{AreSmall}
use Rattle.id_judge.proofs.SmallLemmas.{small_more}
use Rattle.id_judge.proofs.pool.Pool.add.Goals as goal

pub invariant_of-self-2 : goal.invariant_of-self-2
invariant_of-self-2 c =
    subst AreSmall (sym c.in_ok-push.ensures.items)
    (small_more c.self.inside.messages.items c.args.message c.self.invariant c.tell_small.ensures)
