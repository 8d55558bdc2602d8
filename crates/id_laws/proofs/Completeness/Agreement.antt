-- The operators of the language and those of the machine agree.
use Rattle.std.proofs.Common.{◌≡◌, refl, ◌∙◌, ap}
use Rattle.id_value.specs.declared.Constant.{Constant}
use Rattle.id_value.specs.declared.Constant.TheVariants.{Int, Bool}
use Rattle.id_value.specs.declared.UnaryOp.{UnaryOp}
use Rattle.id_value.specs.declared.Comparison.TheVariants.{Lt, Le, Gt, Ge, Eq, Ne}
use Rattle.id_value.specs.declared.Logic.TheVariants.{And, Or}
use Rattle.id_value.specs.declared.BinaryOp.{BinaryOp}
use Rattle.id_value.specs.declared.BinaryOp.TheVariants as class
use Rattle.id_value.specs.Results.{result_of_unary, result_of_binary}
use Rattle.id_instr.specs.declared.instr.PortKind.{PortKind}
use Rattle.id_instr.specs.declared.instr.Op.TheVariants.{Unary, Binary}
use Rattle.id_tag.specs.declared.Tag.{Tag}
use Rattle.id_ops.specs.declared.Operands.TheVariants.{One, Two}
use Rattle.id_ops.specs.declared.Fresh.{Fresh}
use Rattle.id_ops.specs.Operators.{fired, fired_by, constant_value}
use Rattle.id_source.specs.Sources.{constant_kind}
use Rattle.id_build.specs.Rows.{binary_op, port_of}

-- each operator of the language is made as one of the machine that comes to the same, on any values
pub agree_unary : (o : UnaryOp) (c : Constant) (t : Tag) (f : Fresh)
    → fired (Unary o) t (One (constant_value c)) f ≡ fired_by (result_of_unary o c)
agree_unary o (Int n) t f = refl
agree_unary o (Bool b) t f = refl

agree_binary : (o : BinaryOp) (c d : Constant) (t : Tag) (f : Fresh)
    → fired (Binary (binary_op o (port_of (constant_kind c)))) t (Two (constant_value c) (constant_value d)) f
    ≡ fired_by (result_of_binary o c d)
agree_binary (class.Arithmetic o) (Int a) (Int b) t f = refl
agree_binary (class.Arithmetic o) (Int a) (Bool b) t f = refl
agree_binary (class.Arithmetic o) (Bool a) (Int b) t f = refl
agree_binary (class.Arithmetic o) (Bool a) (Bool b) t f = refl
agree_binary (class.Comparison Lt) (Int a) (Int b) t f = refl
agree_binary (class.Comparison Lt) (Int a) (Bool b) t f = refl
agree_binary (class.Comparison Lt) (Bool a) (Int b) t f = refl
agree_binary (class.Comparison Lt) (Bool a) (Bool b) t f = refl
agree_binary (class.Comparison Le) (Int a) (Int b) t f = refl
agree_binary (class.Comparison Le) (Int a) (Bool b) t f = refl
agree_binary (class.Comparison Le) (Bool a) (Int b) t f = refl
agree_binary (class.Comparison Le) (Bool a) (Bool b) t f = refl
agree_binary (class.Comparison Gt) (Int a) (Int b) t f = refl
agree_binary (class.Comparison Gt) (Int a) (Bool b) t f = refl
agree_binary (class.Comparison Gt) (Bool a) (Int b) t f = refl
agree_binary (class.Comparison Gt) (Bool a) (Bool b) t f = refl
agree_binary (class.Comparison Ge) (Int a) (Int b) t f = refl
agree_binary (class.Comparison Ge) (Int a) (Bool b) t f = refl
agree_binary (class.Comparison Ge) (Bool a) (Int b) t f = refl
agree_binary (class.Comparison Ge) (Bool a) (Bool b) t f = refl
agree_binary (class.Comparison Eq) (Int a) (Int b) t f = refl
agree_binary (class.Comparison Eq) (Int a) (Bool b) t f = refl
agree_binary (class.Comparison Eq) (Bool a) (Int b) t f = refl
agree_binary (class.Comparison Eq) (Bool a) (Bool b) t f = refl
agree_binary (class.Comparison Ne) (Int a) (Int b) t f = refl
agree_binary (class.Comparison Ne) (Int a) (Bool b) t f = refl
agree_binary (class.Comparison Ne) (Bool a) (Int b) t f = refl
agree_binary (class.Comparison Ne) (Bool a) (Bool b) t f = refl
agree_binary (class.Logic And) (Int a) (Int b) t f = refl
agree_binary (class.Logic And) (Int a) (Bool b) t f = refl
agree_binary (class.Logic And) (Bool a) (Int b) t f = refl
agree_binary (class.Logic And) (Bool a) (Bool b) t f = refl
agree_binary (class.Logic Or) (Int a) (Int b) t f = refl
agree_binary (class.Logic Or) (Int a) (Bool b) t f = refl
agree_binary (class.Logic Or) (Bool a) (Int b) t f = refl
agree_binary (class.Logic Or) (Bool a) (Bool b) t f = refl

-- `==` and `<>` are made by the kind of the ports that take the left operand's value
pub agree_at : (o : BinaryOp) (c d : Constant) (t : Tag) (f : Fresh) (k : PortKind) → k ≡ port_of (constant_kind c)
    → fired (Binary (binary_op o k)) t (Two (constant_value c) (constant_value d)) f ≡ fired_by (result_of_binary o c d)
agree_at o c d t f k e =
    ap (λ z. fired (Binary (binary_op o z)) t (Two (constant_value c) (constant_value d)) f) e ∙ agree_binary o c d t f
