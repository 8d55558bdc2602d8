use Rattle.id_inbox.proofs.Rules.{merges}
use Rattle.id_inbox.proofs.door.Door.absorb.Goals as goal

pub absorb-requires-clause-rule : goal.absorb-requires-clause-rule
absorb-requires-clause-rule c = merges _ _ _ _
