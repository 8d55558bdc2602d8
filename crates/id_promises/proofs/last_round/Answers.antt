-- A quiet run has shown all but what things have at finitely many paths, so its source's facts are finitely many.
use Rattle.id_laws.proofs.Bounding.Ending.{at_end}
use Rattle.id_promises.proofs.QuietRoundLemmas.{LastRound-laws}
use Rattle.id_promises.proofs.last_round.Goals as goal

pub returns : goal.returns
returns c = LastRound-laws at_end c.complete.ensures
