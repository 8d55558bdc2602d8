-- A text has one graph, a trace of it is that of one legal list, and what that leads to has one report.
use Rattle.id_promises.proofs.JudgedAlikeLemmas.{JudgedAlike-laws}
use Rattle.id_promises.proofs.judged_alike.Goals as goal

pub returns : goal.returns
returns c = JudgedAlike-laws c.sound.ensures c.legal_lists.ensures c.clear_lines.ensures
