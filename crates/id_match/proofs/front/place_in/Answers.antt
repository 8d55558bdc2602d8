use Rattle.std.proofs.Common.{arith}
use Rattle.std.proofs.lemmas.Grind.{common_steps}
use Rattle.id_match.specs.Front.{place_in}
use Rattle.id_match.proofs.front.place_in.Goals as goal

pub returns-clause-exact : goal.returns-clause-exact
unfolding place_in
returns-clause-exact c = grind (arith, common_steps)
