-- The bytes stand in front, or do not.
use Rattle.std.proofs.lemmas.Bool.Decides.{Decides-eqb}
use Rattle.std.proofs.lemmas.Slice.Eq.{strip_prefix_is}
use Rattle.id_judge.proofs.TextLemmas.{if_other, if_past}
use Rattle.id_judge.proofs.line.past.Goals as goal

pub returns-clause-some : goal.returns-clause-some
returns-clause-some c =
    if_past c.args.text.now c.args.bytes.now c.strip_prefix.result
    (strip_prefix_is Decides-eqb c.args.text.now c.args.bytes.now c.strip_prefix.result c.strip_prefix.ensures.cases)

pub returns-clause-none : goal.returns-clause-none
returns-clause-none c =
    if_other c.args.text.now c.args.bytes.now c.strip_prefix.result
    (strip_prefix_is Decides-eqb c.args.text.now c.args.bytes.now c.strip_prefix.result c.strip_prefix.ensures.cases)
