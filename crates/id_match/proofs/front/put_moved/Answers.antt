-- a slot that keeps something is put into its place
use Rattle.std.proofs.Common.{refl}
use Rattle.id_match.proofs.FrontLemmas.{moved_to, none_moved}
use Rattle.id_match.proofs.front.put_moved.Goals as goal

pub returns-then-is_empty-clause-under : goal.returns-then-is_empty-clause-under
returns-then-is_empty-clause-under c = λ empty t. none_moved c.args.front.now.items c.args.slot (c.if-is_empty.ensures.0 refl) t

pub returns-else-is_empty-clause-under : goal.returns-else-is_empty-clause-under
returns-else-is_empty-clause-under c = λ free t. moved_to c.args.front.now.items c.put.new.front.items c.args.slot (c.put.ensures.free free)
    (c.put.ensures.put free) t
