use Rattle.id_inbox.proofs.Rules.{sends}
use Rattle.id_inbox.proofs.door.Door.push.Goals as goal

pub push_as-requires-clause-rule : goal.push_as-requires-clause-rule
push_as-requires-clause-rule g c = λ n. sends n _ _ _ (rw (← c.self.view_is) at c.requires)
