-- What a quiet run shows is exactly what is so of its source, and the sources of one text mean the same.
use Rattle.id_promises.proofs.OneAnswerLemmas.{OneAnswer-laws}
use Rattle.id_promises.proofs.one_answer.Goals as goal

pub returns : goal.returns
returns c = OneAnswer-laws c.sound.ensures c.complete.ensures
