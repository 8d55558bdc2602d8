-- the entries are as many as are counted
use Rattle.std.proofs.Common.{◌∙◌, sym, ap}
use Rattle.std.specs.FinMap.{len}
use Rattle.id_match.proofs.EntriesLemmas.{length-entries_of}
use Rattle.id_match.proofs.rear.Rear.len.Goals as goal

pub returns-clause-listed : goal.returns-clause-listed
returns-clause-listed c = c.self.invariant.1 ∙ ap len c.self.view_is ∙ sym (length-entries_of c.args.self.now)
