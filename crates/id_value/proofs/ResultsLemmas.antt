-- Lemmas on specs/Results.antt: what calculations come to.
use Rattle.std.proofs.Common.{ℤ, pos, ◌+ℤ◌, ◌-ℤ◌, ◌*ℤ◌, Bool as Two, true, false, cond}
use Rattle.std.specs.Prelude.{int_div, int_rem}
use Rattle.std.specs.Ordering.{int_eq}
use Rattle.id_value.specs.declared.Arithmetic.{Arithmetic}
use Rattle.id_value.specs.declared.Arithmetic.TheVariants.{Add, Sub, Mul, Div, Rem}
use Rattle.id_value.specs.declared.Constant.TheVariants.{Int, Bool}
use Rattle.id_value.specs.declared.FaultKind.TheVariants.{Overflow, DivisionByZero}
use Rattle.id_value.specs.declared.Outcome.{Outcome}
use Rattle.id_value.specs.declared.Outcome.TheVariants.{Gives, Fails, Lacks}
use Rattle.id_value.specs.Results.{is_whole, whole, remainder, calculated}

-- the outcome is a number or a fault
abbrev pub IsNumberOrFault : Outcome → Type 0
IsNumberOrFault (Gives (Int n)) = Unit {0}
IsNumberOrFault (Gives (Bool b)) = ⊥
IsNumberOrFault (Fails k) = Unit {0}
IsNumberOrFault Lacks = ⊥

number-if : (n : ℤ) (b : Two) → IsNumberOrFault (cond b (Gives (Int n)) (Fails Overflow))
number-if n true = tt
number-if n false = tt

unless-zero : (o : Outcome) (b : Two) → IsNumberOrFault o → IsNumberOrFault (cond b (Fails DivisionByZero) o)
unless-zero o true h = tt
unless-zero o false h = h

pub whole-number : (n : ℤ) → IsNumberOrFault (whole n)
whole-number n = number-if n (is_whole n)

-- an exact result is a number, or the calculation fails
pub calculated-number : (o : Arithmetic) (a b : ℤ) → IsNumberOrFault (calculated o a b)
calculated-number Add a b = whole-number (a +ℤ b)
calculated-number Sub a b = whole-number (a -ℤ b)
calculated-number Mul a b = whole-number (a *ℤ b)
calculated-number Div a b = unless-zero (whole (int_div a b)) (int_eq b (pos 0)) (whole-number (int_div a b))
calculated-number Rem a b = unless-zero (remainder a b) (int_eq b (pos 0)) (number-if (int_rem a b) (is_whole (int_div a b)))
