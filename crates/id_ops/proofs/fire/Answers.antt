-- What holds of the table holds of what it gives.
use Rattle.std.proofs.Common.{◌≢◌, sym, subst}
use Rattle.id_ops.specs.declared.Fired.{Fired}
use Rattle.id_ops.specs.declared.Fired.TheVariants.{Nothing}
use Rattle.id_ops.specs.Operands.{IsOfKind, Suits}
use Rattle.id_ops.proofs.OperandsLemmas.{fires-from_Suits, Suits-from_fires, IsOfKind-fired}
use Rattle.id_ops.proofs.fire.Goals as goal

pub returns-clause-fires : goal.returns-clause-fires
returns-clause-fires c =
    let a = c.args in
    subst (λ (f : Fired). Suits a.instr.now.op a.operands → f ≢ Nothing) (sym c.fire_op.ensures) (fires-from_Suits a.instr.now.op a.tag a.operands a.fresh)

pub returns-clause-suits : goal.returns-clause-suits
returns-clause-suits c =
    let a = c.args in
    subst (λ (f : Fired). f ≢ Nothing → Suits a.instr.now.op a.operands) (sym c.fire_op.ensures) (Suits-from_fires a.instr.now.op a.tag a.operands a.fresh)

pub returns-clause-kind : goal.returns-clause-kind
returns-clause-kind c =
    let a = c.args in
    subst (IsOfKind a.instr.now.op) (sym c.fire_op.ensures) (IsOfKind-fired a.instr.now.op a.tag a.operands a.fresh)
