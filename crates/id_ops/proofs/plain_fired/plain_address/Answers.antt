-- The structure is of the kind that is taken.
use Rattle.std.proofs.Common.{arith}
use Rattle.std.proofs.lemmas.Grind.{common_steps}
use Rattle.id_ops.proofs.plain_fired.plain_address.Goals as goal

pub returns-in_ok-plain_cell-in-Structure-Int-clause-fired : goal.returns-in_ok-plain_cell-in-Structure-Int-clause-fired
returns-in_ok-plain_cell-in-Structure-Int-clause-fired c = λ t. grind (arith, common_steps)
