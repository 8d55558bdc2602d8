-- What each operator of the machine does agrees with what the operator of the language gives, or it does nothing.
use Rattle.std.proofs.Common.{◌≡◌, ◌⊎◌, inl, inr, refl}
use Rattle.id_value.specs.declared.Constant.{Constant}
use Rattle.id_value.specs.declared.Constant.TheVariants as constant
use Rattle.id_value.specs.declared.UnaryOp.{UnaryOp}
use Rattle.id_value.specs.declared.BinaryOp.{BinaryOp}
use Rattle.id_value.specs.declared.BinaryOp.TheVariants as class
use Rattle.id_value.specs.declared.Comparison.{Comparison}
use Rattle.id_value.specs.declared.Comparison.TheVariants as compares
use Rattle.id_value.specs.declared.Logic.TheVariants as logic
use Rattle.id_value.specs.declared.Truth.TheVariants as truth
use Rattle.id_value.specs.declared.Outcome.{Outcome}
use Rattle.id_value.specs.Results.{result_of_unary, result_of_binary}
use Rattle.id_instr.specs.declared.instr.Dyadic.{Dyadic}
use Rattle.id_instr.specs.declared.instr.Dyadic.TheVariants as dyadic
use Rattle.id_instr.specs.declared.instr.PortKind.{PortKind}
use Rattle.id_instr.specs.declared.instr.PortKind.TheVariants as port
use Rattle.id_tag.specs.declared.Structure.{Structure}
use Rattle.id_tag.specs.declared.Value.{Value}
use Rattle.id_tag.specs.declared.Value.TheVariants as value
use Rattle.id_ops.specs.declared.Operands.TheVariants.{One, Two}
use Rattle.id_ops.specs.declared.Fired.{Fired}
use Rattle.id_ops.specs.declared.Fired.TheVariants.{Nothing}
use Rattle.id_ops.specs.Operators.{constant_value, fired_by, fired_unary, fired_binary}
use Rattle.id_build.specs.Rows.{binary_op}

-- the firing does nothing, or what the outcome says
abbrev pub Agrees : Fired → Outcome → Type 0
Agrees f y = (f ≡ Nothing) ⊎ (f ≡ fired_by y)

pub agree_unary : (o : UnaryOp) (c : Constant) → fired_unary o (One (constant_value c)) ≡ fired_by (result_of_unary o c)
agree_unary o (constant.Int n) = refl
agree_unary o (constant.Bool b) = refl

-- an operator on two values does nothing with one
pub alone_nothing : (o : Dyadic) (v : Value) → fired_binary o (One v) ≡ Nothing
alone_nothing (dyadic.Arithmetic o) v = refl
alone_nothing (dyadic.Comparison o) v = refl
alone_nothing (dyadic.Truth o) v = refl

-- no operator does anything with a structure
pub unary_nothing : (o : UnaryOp) (s : Structure) → fired_unary o (One (value.Structure s)) ≡ Nothing
unary_nothing o s = refl

pub left_nothing : (o : Dyadic) (s : Structure) (w : Value) → fired_binary o (Two (value.Structure s) w) ≡ Nothing
left_nothing (dyadic.Arithmetic o) s w = refl
left_nothing (dyadic.Comparison o) s w = refl
left_nothing (dyadic.Truth o) s w = refl

pub right_nothing : (o : Dyadic) (v : Value) (s : Structure) → fired_binary o (Two v (value.Structure s)) ≡ Nothing
right_nothing (dyadic.Arithmetic o) (value.Int n) s = refl
right_nothing (dyadic.Arithmetic o) _ s = refl
right_nothing (dyadic.Comparison o) (value.Int n) s = refl
right_nothing (dyadic.Comparison o) _ s = refl
right_nothing (dyadic.Truth o) (value.Bool b) s = refl
right_nothing (dyadic.Truth o) _ s = refl

compared : (o : Comparison) (c d : Constant)
    → Agrees (fired_binary (dyadic.Comparison o) (Two (constant_value c) (constant_value d)))
    (result_of_binary (class.Comparison o) c d)
compared compares.Lt (constant.Int a) (constant.Int b) = inr refl
compared compares.Lt (constant.Int a) (constant.Bool b) = inl refl
compared compares.Lt (constant.Bool a) (constant.Int b) = inl refl
compared compares.Lt (constant.Bool a) (constant.Bool b) = inl refl
compared compares.Le (constant.Int a) (constant.Int b) = inr refl
compared compares.Le (constant.Int a) (constant.Bool b) = inl refl
compared compares.Le (constant.Bool a) (constant.Int b) = inl refl
compared compares.Le (constant.Bool a) (constant.Bool b) = inl refl
compared compares.Gt (constant.Int a) (constant.Int b) = inr refl
compared compares.Gt (constant.Int a) (constant.Bool b) = inl refl
compared compares.Gt (constant.Bool a) (constant.Int b) = inl refl
compared compares.Gt (constant.Bool a) (constant.Bool b) = inl refl
compared compares.Ge (constant.Int a) (constant.Int b) = inr refl
compared compares.Ge (constant.Int a) (constant.Bool b) = inl refl
compared compares.Ge (constant.Bool a) (constant.Int b) = inl refl
compared compares.Ge (constant.Bool a) (constant.Bool b) = inl refl
compared compares.Eq (constant.Int a) (constant.Int b) = inr refl
compared compares.Eq (constant.Int a) (constant.Bool b) = inl refl
compared compares.Eq (constant.Bool a) (constant.Int b) = inl refl
compared compares.Eq (constant.Bool a) (constant.Bool b) = inl refl
compared compares.Ne (constant.Int a) (constant.Int b) = inr refl
compared compares.Ne (constant.Int a) (constant.Bool b) = inl refl
compared compares.Ne (constant.Bool a) (constant.Int b) = inl refl
compared compares.Ne (constant.Bool a) (constant.Bool b) = inl refl

equal : (c d : Constant)
    → Agrees (fired_binary (dyadic.Truth truth.Eqb) (Two (constant_value c) (constant_value d)))
    (result_of_binary (class.Comparison compares.Eq) c d)
equal (constant.Int a) (constant.Int b) = inl refl
equal (constant.Int a) (constant.Bool b) = inl refl
equal (constant.Bool a) (constant.Int b) = inl refl
equal (constant.Bool a) (constant.Bool b) = inr refl

differ : (c d : Constant)
    → Agrees (fired_binary (dyadic.Truth truth.Neb) (Two (constant_value c) (constant_value d)))
    (result_of_binary (class.Comparison compares.Ne) c d)
differ (constant.Int a) (constant.Int b) = inl refl
differ (constant.Int a) (constant.Bool b) = inl refl
differ (constant.Bool a) (constant.Int b) = inl refl
differ (constant.Bool a) (constant.Bool b) = inr refl

both : (c d : Constant)
    → Agrees (fired_binary (dyadic.Truth truth.And) (Two (constant_value c) (constant_value d)))
    (result_of_binary (class.Logic logic.And) c d)
both (constant.Int a) (constant.Int b) = inl refl
both (constant.Int a) (constant.Bool b) = inl refl
both (constant.Bool a) (constant.Int b) = inl refl
both (constant.Bool a) (constant.Bool b) = inr refl

either : (c d : Constant)
    → Agrees (fired_binary (dyadic.Truth truth.Or) (Two (constant_value c) (constant_value d)))
    (result_of_binary (class.Logic logic.Or) c d)
either (constant.Int a) (constant.Int b) = inl refl
either (constant.Int a) (constant.Bool b) = inl refl
either (constant.Bool a) (constant.Int b) = inl refl
either (constant.Bool a) (constant.Bool b) = inr refl

pub agree_binary : (o : BinaryOp) (k : PortKind) (c d : Constant)
    → Agrees (fired_binary (binary_op o k) (Two (constant_value c) (constant_value d))) (result_of_binary o c d)
agree_binary (class.Arithmetic o) k (constant.Int a) (constant.Int b) = inr refl
agree_binary (class.Arithmetic o) k (constant.Int a) (constant.Bool b) = inl refl
agree_binary (class.Arithmetic o) k (constant.Bool a) (constant.Int b) = inl refl
agree_binary (class.Arithmetic o) k (constant.Bool a) (constant.Bool b) = inl refl
agree_binary (class.Logic logic.And) k c d = both c d
agree_binary (class.Logic logic.Or) k c d = either c d
agree_binary (class.Comparison compares.Lt) k c d = compared compares.Lt c d
agree_binary (class.Comparison compares.Le) k c d = compared compares.Le c d
agree_binary (class.Comparison compares.Gt) k c d = compared compares.Gt c d
agree_binary (class.Comparison compares.Ge) k c d = compared compares.Ge c d
agree_binary (class.Comparison compares.Eq) port.Signal c d = compared compares.Eq c d
agree_binary (class.Comparison compares.Eq) port.Int c d = compared compares.Eq c d
agree_binary (class.Comparison compares.Eq) port.Bool c d = equal c d
agree_binary (class.Comparison compares.Eq) port.Structure c d = compared compares.Eq c d
agree_binary (class.Comparison compares.Eq) port.Structures c d = compared compares.Eq c d
agree_binary (class.Comparison compares.Eq) port.Address c d = compared compares.Eq c d
agree_binary (class.Comparison compares.Eq) port.Addresses c d = compared compares.Eq c d
agree_binary (class.Comparison compares.Eq) port.Context c d = compared compares.Eq c d
agree_binary (class.Comparison compares.Eq) port.Continuation c d = compared compares.Eq c d
agree_binary (class.Comparison compares.Ne) port.Signal c d = compared compares.Ne c d
agree_binary (class.Comparison compares.Ne) port.Int c d = compared compares.Ne c d
agree_binary (class.Comparison compares.Ne) port.Bool c d = differ c d
agree_binary (class.Comparison compares.Ne) port.Structure c d = compared compares.Ne c d
agree_binary (class.Comparison compares.Ne) port.Structures c d = compared compares.Ne c d
agree_binary (class.Comparison compares.Ne) port.Address c d = compared compares.Ne c d
agree_binary (class.Comparison compares.Ne) port.Addresses c d = compared compares.Ne c d
agree_binary (class.Comparison compares.Ne) port.Context c d = compared compares.Ne c d
agree_binary (class.Comparison compares.Ne) port.Continuation c d = compared compares.Ne c d
