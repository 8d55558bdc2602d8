-- No facts hang in no chains.
use Rattle.id_facts.proofs.ChainsLemmas.{chained-none}
use Rattle.id_facts.proofs.cells.Cells.new.Goals as goal

pub returns-clause-chained : goal.returns-clause-chained
returns-clause-chained c = chained-none _ c.new.ensures.items c.in_ok-new.ensures
