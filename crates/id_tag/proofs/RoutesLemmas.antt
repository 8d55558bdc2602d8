-- Lemmas on specs/Routes.antt.
use Rattle.std.proofs.Common.{◌≡◌, ℕ, ℤ, pos, negsuc, ◌+◌, ◌%◌, ◌<◌, ◌+ℤ◌, true, int_le, refl, arith}
use Rattle.std.proofs.Math.Nat.{mod-lt}
use Rattle.std.specs.Int.{int_rem_euclid}
use Rattle.std.specs.Int.RustNames.{unsigned_abs}
use Rattle.id_tag.specs.declared.Payload.{Payload}
use Rattle.id_tag.specs.declared.Payload.TheVariants.{Token, Read, Write}
use Rattle.id_tag.specs.Routes.{offset_of, route_of}

-- the remainder of a number from 0 on is that of a number without a sign
pub rem_from_0 : (z : ℤ) (n : ℕ) → int_le (pos 0) z ≡ true → unsigned_abs z % n ≡ unsigned_abs (int_rem_euclid z (pos n))
rem_from_0 (pos a) n h = refl
rem_from_0 (negsuc a) n h = cc

rem_below : (z : ℤ) (n : ℕ) → 0 < n → unsigned_abs (int_rem_euclid z (pos n)) < n
rem_below (pos a) n some = mod-lt a some
rem_below (negsuc a) n some = omega arith

-- a message goes to one of the elements
pub route_of_below : (x : Payload) (count : ℕ) → 0 < count → route_of x count < count
route_of_below (Token t p v) count some = mod-lt (t.context.element + t.context.serial + t.iteration) some
route_of_below (Read c t) count some = rem_below (pos (c.structure.element + c.structure.serial) +ℤ offset_of c) count some
route_of_below (Write c v t) count some = rem_below (pos (c.structure.element + c.structure.serial) +ℤ offset_of c) count some
