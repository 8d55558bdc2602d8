use Rattle.std.proofs.Common.{refl}
use Rattle.id_tree.proofs.program.definition.Goals as goal

pub returns : goal.returns
returns c = rw (c.new.ensures, c.fitted.ensures, c.into_expr.ensures) refl
