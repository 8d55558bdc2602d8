-- What the operators give (docs/MEANING.md, "Operators").
use Rattle.std.specs.Prelude.{ℤ, pos, negsuc, neg_ℤ, ◌+ℤ◌, ◌-ℤ◌, ◌*ℤ◌, int_le, int_lt, int_div}
use Rattle.std.specs.Prelude.{int_rem, Bool as Two}
use Rattle.std.specs.Prelude.{not, ◌&&◌, ◌||◌, if◌then◌else◌}
use Rattle.std.specs.Ordering.{int_eq}
use Rattle.std.specs.Bool.{beq}
use Rattle.id_value.specs.declared.Constant.{Constant}
use Rattle.id_value.specs.declared.Constant.TheVariants.{Int, Bool}
use Rattle.id_value.specs.declared.UnaryOp.{UnaryOp}
use Rattle.id_value.specs.declared.UnaryOp.TheVariants.{Neg, Not}
use Rattle.id_value.specs.declared.Arithmetic.{Arithmetic}
use Rattle.id_value.specs.declared.Arithmetic.TheVariants.{Add, Sub, Mul, Div, Rem}
use Rattle.id_value.specs.declared.Comparison.{Comparison}
use Rattle.id_value.specs.declared.Comparison.TheVariants.{Lt, Le, Gt, Ge, Eq, Ne}
use Rattle.id_value.specs.declared.Logic.TheVariants.{And, Or}
use Rattle.id_value.specs.declared.BinaryOp.{BinaryOp}
use Rattle.id_value.specs.declared.BinaryOp.TheVariants as class
use Rattle.id_value.specs.declared.Truth.{Truth}
use Rattle.id_value.specs.declared.Truth.TheVariants as truth
use Rattle.id_value.specs.declared.FaultKind.TheVariants.{Overflow, DivisionByZero}
use Rattle.id_value.specs.declared.Outcome.{Outcome}
use Rattle.id_value.specs.declared.Outcome.TheVariants.{Gives, Fails, Lacks}

-- whether the number is one of the language: at least -9223372036854775808 and at most 9223372036854775807
abbrev pub is_whole : ℤ → Two
is_whole n = int_le (negsuc 9223372036854775807) n && int_le n (pos 9223372036854775807)

-- the number, where it is one of the language
abbrev pub whole : ℤ → Outcome
whole n = if is_whole n then Gives (Int n) else Fails Overflow

-- the outcome of a division by b, where b is not 0
abbrev pub divided : ℤ → Outcome → Outcome
divided b outcome = if int_eq b (pos 0) then Fails DivisionByZero else outcome

-- the remainder of a by b, where the quotient is a number of the language
abbrev pub remainder : ℤ → ℤ → Outcome
remainder a b = if is_whole (int_div a b) then Gives (Int (int_rem a b)) else Fails Overflow

-- the exact result of two numbers, where `div` drops the fraction and `rem` has the sign of a
abbrev pub calculated : Arithmetic → ℤ → ℤ → Outcome
calculated Add a b = whole (a +ℤ b)
calculated Sub a b = whole (a -ℤ b)
calculated Mul a b = whole (a *ℤ b)
calculated Div a b = divided b (whole (int_div a b))
calculated Rem a b = divided b (remainder a b)

-- whether two numbers compare so
abbrev pub compared : Comparison → ℤ → ℤ → Two
compared Lt a b = int_lt a b
compared Le a b = int_le a b
compared Gt a b = int_lt b a
compared Ge a b = int_le b a
compared Eq a b = int_eq a b
compared Ne a b = not (int_eq a b)

-- whether two truth values are equal, differ, both hold, or one holds
abbrev pub decided : Truth → Two → Two → Two
decided truth.Eqb a b = beq a b
decided truth.Neb a b = not (beq a b)
decided truth.And a b = a && b
decided truth.Or a b = a || b

-- an operator before its operand: the number with the other sign, the other truth value
abbrev pub result_of_unary : UnaryOp → Constant → Outcome
result_of_unary Neg (Int a) = whole (neg_ℤ a)
result_of_unary Not (Bool a) = Gives (Bool (not a))
result_of_unary _ _ = Lacks

-- an operator between its operands: numbers are calculated with and compared, truth values decided
abbrev pub result_of_binary : BinaryOp → Constant → Constant → Outcome
result_of_binary (class.Arithmetic o) (Int a) (Int b) = calculated o a b
result_of_binary (class.Comparison o) (Int a) (Int b) = Gives (Bool (compared o a b))
result_of_binary (class.Comparison Eq) (Bool a) (Bool b) = Gives (Bool (decided truth.Eqb a b))
result_of_binary (class.Comparison Ne) (Bool a) (Bool b) = Gives (Bool (decided truth.Neb a b))
result_of_binary (class.Logic And) (Bool a) (Bool b) = Gives (Bool (decided truth.And a b))
result_of_binary (class.Logic Or) (Bool a) (Bool b) = Gives (Bool (decided truth.Or a b))
result_of_binary _ _ _ = Lacks
