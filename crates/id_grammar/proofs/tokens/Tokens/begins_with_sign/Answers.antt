use Rattle.std.proofs.Common.{arith}
use Rattle.std.proofs.lemmas.Grind.{common_steps}
use Rattle.id_grammar.proofs.tokens.Tokens.begins_with_sign.Goals as goal

pub returns : goal.returns
returns c = grind (arith, common_steps)
