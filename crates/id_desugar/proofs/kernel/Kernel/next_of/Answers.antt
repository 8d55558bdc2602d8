-- What is noted for any number.
use Rattle.std.proofs.Common.{◌∙◌}
use Rattle.id_desugar.proofs.EndsLemmas.{next_of-kept}
use Rattle.id_desugar.proofs.kernel.Kernel.next_of.Goals as goal

pub returns : goal.returns
returns c =
    c.get_or_first.ensures
    ∙ next_of-kept c.args.self.now.checked.now c.args.self.now.nexts c.args.variable c.args.self.now.nexted
