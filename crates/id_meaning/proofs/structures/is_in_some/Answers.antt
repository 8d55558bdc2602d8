-- The index is inside one of these bounds, or one of the rest.
use Rattle.std.proofs.Common.{arith, refl}
use Rattle.std.proofs.lemmas.Grind.{common_steps}
use Rattle.id_meaning.proofs.structures.is_in_some.Goals as goal

pub loop-bounds-init : goal.loop-bounds-init
loop-bounds-init c = refl

pub returns-then-is_inside : goal.returns-then-is_inside
returns-then-is_inside c = grind (arith, common_steps)

pub loop-bounds-preserved : goal.loop-bounds-preserved
loop-bounds-preserved c = grind (arith, common_steps)

pub returns : goal.returns
returns c = grind (arith, common_steps)
