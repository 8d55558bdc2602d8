use Rattle.id_inbox.proofs.Rules.{forks}
use Rattle.id_inbox.proofs.door.Door.split.Goals as goal

pub another-pass-requires-clause-rule : goal.another-pass-requires-clause-rule
another-pass-requires-clause-rule c = forks _ _ (rw (← c.self.view_is) at c.requires)
