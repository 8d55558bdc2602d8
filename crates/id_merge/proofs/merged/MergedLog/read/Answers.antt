-- The logs are read on in, and then bytes of them are given on.
use Rattle.id_merge.proofs.KnownLemmas.{Gives-still}
use Rattle.id_merge.proofs.merged.MergedLog.read.Goals as goal

pub returns-in-Ok-clause-gives : goal.returns-in-Ok-clause-gives
returns-in-Ok-clause-gives g c = Gives-still _ _ _ _ c.in-Ok.ensures.still c.give.ensures.gives
