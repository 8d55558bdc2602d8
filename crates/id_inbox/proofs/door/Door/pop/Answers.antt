use Rattle.id_inbox.proofs.Rules.{learns, takes}
use Rattle.id_inbox.proofs.door.Door.pop.Goals as goal

pub pop_as-requires-clause-rule : goal.pop_as-requires-clause-rule
pop_as-requires-clause-rule g c = (takes _ _ (rw (← c.self.view_is) at c.requires), learns _ _)
