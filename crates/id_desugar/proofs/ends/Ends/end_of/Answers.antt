-- What is noted for any number.
use Rattle.std.proofs.Common.{◌∙◌}
use Rattle.id_desugar.proofs.EndsLemmas.{end_of-kept}
use Rattle.id_desugar.proofs.ends.Ends.end_of.Goals as goal

pub returns : goal.returns
returns c =
    c.get_or_first.ensures
    ∙ end_of-kept c.args.self.now.checked.now c.args.self.now.column c.args.head c.args.self.now.ended
