-- Stamps: the next one, and how it fits.
use Rattle.std.proofs.Common.{◌≡◌, ◌≢◌, ℕ, ◌+◌, ◌-◌, ◌<◌, ◌≤◌, ◌^◌, ◌==◌, ◌||◌, Bool, true, false, List, Some}
use Rattle.std.proofs.Common.{slice_get, refl, sym, ◌∙◌, arith}
use Rattle.std.specs.Prelude.{max}
use Rattle.std.proofs.lemmas.Bool.Decides.{nat_tests}
use Rattle.std.proofs.lemmas.Bool.{true≢false}

same_some : {A : Type 0} (x y : A) → Some x ≡ Some y → x ≡ y
same_some x y h = cc

-- neither of two tests passes
neither : (a b : Bool) → (a || b) ≡ false → (a ≡ false) × (b ≡ false)
neither true b h = absurd (true≢false h)
neither false b h = (refl, h)

not_last : (n : ℕ) → (n == 2 ^ 64 - 1) ≡ false → n ≢ 2 ^ 64 - 1
not_last n h = grind (arith, nat_tests)

pub room : (s t : ℕ) → ((s == 2 ^ 64 - 1) || (t == 2 ^ 64 - 1)) ≡ false → s < 2 ^ 64 → t < 2 ^ 64
    → (s + 1 < 2 ^ 64) × (t + 1 < 2 ^ 64)
room s t h p q =
    let n = neither (s == 2 ^ 64 - 1) (t == 2 ^ 64 - 1) h in
    (omega (arith, not_last s n.0, p), omega (arith, not_last t n.1, q))

pub next_of : (xs : List ℕ) (n s last stamp next : ℕ) → slice_get xs n ≡ Some s → slice_get xs n ≡ Some last
    → last < stamp → next ≡ stamp + 1 → next ≡ max s stamp + 1
next_of xs n s last stamp next at read lt is =
    let same : s ≡ last = same_some s last (sym at ∙ read) in omega (arith, same, lt, is)

pub next_of_other : (xs : List ℕ) (n s last stamp next : ℕ) → slice_get xs n ≡ Some s → slice_get xs n ≡ Some last
    → stamp ≤ last → next ≡ last + 1 → next ≡ max s stamp + 1
next_of_other xs n s last stamp next at read le is =
    let same : s ≡ last = same_some s last (sym at ∙ read) in omega (arith, same, le, is)
