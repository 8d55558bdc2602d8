-- `split_once` cuts at the first `=`.
use Rattle.id_source.proofs.InputsLemmas.{cut_split}
use Rattle.id_source.proofs.inputs.cut.Goals as goal

pub returns : goal.returns
returns c = cut_split c.args.word.now _ (assumption c)
