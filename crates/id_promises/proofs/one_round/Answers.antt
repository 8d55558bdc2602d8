-- A round of a text is one list, whatever the places of its program's lists in memory.
use Rattle.id_promises.proofs.OneRoundLemmas.{OneRound-text}
use Rattle.id_promises.proofs.one_round.Goals as goal

pub returns : goal.returns
returns c = OneRound-text
