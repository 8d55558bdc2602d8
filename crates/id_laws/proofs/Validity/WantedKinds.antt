-- The operands of the operators of a checked program are of the kinds that the operators' instructions take.
use Rattle.std.proofs.Common.{◌≡◌, ◌⊎◌, inl, inr, ℕ, Some, refl, ◌∙◌}
use Rattle.id_value.specs.declared.Kind.{Kind}
use Rattle.id_value.specs.declared.Kind.TheVariants.{Int, Bool}
use Rattle.id_value.specs.declared.Comparison.{Comparison}
use Rattle.id_value.specs.declared.BinaryOp.{BinaryOp}
use Rattle.id_value.specs.declared.BinaryOp.TheVariants as class
use Rattle.id_value.specs.declared.Comparison.TheVariants.{Lt, Le, Gt, Ge, Eq, Ne}
use Rattle.id_value.specs.declared.Logic.TheVariants.{And, Or}
use Rattle.id_instr.specs.Ports.{operand_kind, outcome_kind}
use Rattle.id_table.specs.declared.row.Node.TheVariants.{Binary}
use Rattle.id_check.specs.declared.checked.Checked.{Checked}
use Rattle.id_check.specs.Kinds.{binary_kind}
use Rattle.id_check.specs.Programs.{Stands, kind}
use Rattle.id_check.proofs.WantedLemmas.{arithmetic_row, logic_row, order_row, equality_row}
use Rattle.id_build.specs.Rows.{binary_op, port_of}

-- the operands of an operator between them are of one kind, which the instruction takes
pub record Operands (P : Checked) (o : BinaryOp) (a b : ℕ) : Type 0 where
  pub kind_of : Kind
  pub left : kind P a ≡ Some kind_of
  pub right : kind P b ≡ Some kind_of
  pub taken : operand_kind (binary_op o (port_of kind_of)) ≡ port_of kind_of
  pub sent : outcome_kind (binary_op o (port_of kind_of)) ≡ port_of (binary_kind o)

module _ (P : Checked) (n a b : ℕ) where
  equals_of : (o : Comparison) → ((kind P a ≡ Some Int) ⊎ (kind P a ≡ Some Bool)) × (kind P b ≡ kind P a)
      → (operand_kind (binary_op (class.Comparison o) (port_of Int)) ≡ port_of Int) →
      (operand_kind (binary_op (class.Comparison o) (port_of Bool)) ≡ port_of Bool)
      → (outcome_kind (binary_op (class.Comparison o) (port_of Int)) ≡ port_of Bool) →
      (outcome_kind (binary_op (class.Comparison o) (port_of Bool)) ≡ port_of Bool)
      → Operands P (class.Comparison o) a b
  equals_of o z t u v w = by z.0
    where
      by : (kind P a ≡ Some Int) ⊎ (kind P a ≡ Some Bool) → Operands P (class.Comparison o) a b
      by (inl e) = record { kind_of = Int; left = e; right = z.1 ∙ e; taken = t; sent = v }
      by (inr e) = record { kind_of = Bool; left = e; right = z.1 ∙ e; taken = u; sent = w }

  pub operands_of : (o : BinaryOp) → Stands P n (Binary o a b) → Operands P o a b
  operands_of (class.Arithmetic o) h =
      let z = arithmetic_row P n a b o h in record { kind_of = Int; left = z.0; right = z.1; taken = refl; sent = refl }
  operands_of (class.Logic And) h =
      let z = logic_row P n a b And h in record { kind_of = Bool; left = z.0; right = z.1; taken = refl; sent = refl }
  operands_of (class.Logic Or) h =
      let z = logic_row P n a b Or h in record { kind_of = Bool; left = z.0; right = z.1; taken = refl; sent = refl }
  operands_of (class.Comparison Lt) h =
      let z = order_row P n a b Lt refl h in
      record { kind_of = Int; left = z.0; right = z.1; taken = refl; sent = refl }
  operands_of (class.Comparison Le) h =
      let z = order_row P n a b Le refl h in
      record { kind_of = Int; left = z.0; right = z.1; taken = refl; sent = refl }
  operands_of (class.Comparison Gt) h =
      let z = order_row P n a b Gt refl h in
      record { kind_of = Int; left = z.0; right = z.1; taken = refl; sent = refl }
  operands_of (class.Comparison Ge) h =
      let z = order_row P n a b Ge refl h in
      record { kind_of = Int; left = z.0; right = z.1; taken = refl; sent = refl }
  operands_of (class.Comparison Eq) h = equals_of Eq (equality_row P n a b Eq refl h) refl refl refl refl
  operands_of (class.Comparison Ne) h = equals_of Ne (equality_row P n a b Ne refl h) refl refl refl refl
