-- The last bits of a number are what is left of it, divided by a power of two (src/goals.rt).
use Rattle.std.proofs.Common.{◌≡◌, ◌⊎◌, ℕ, zero, suc, ◌+◌, ◌-◌, ◌*◌, ◌/◌, ◌%◌, ◌^◌, ◌<◌, ◌≤◌, sym, ap, subst, ◌∙◌}
use Rattle.std.proofs.Common.{arith, ⊎_elim}
use Rattle.std.specs.Prelude.{min}
use Rattle.std.specs.Int.Bits.{and_self, and_step, bit_and}
use Rattle.std.proofs.lemmas.Nat.{and_mask}

cases_bit : (b : ℕ) → b < 2 → (b ≡ 0) ⊎ (b ≡ 1)
cases_bit b lt = grind arith

-- no bit of a number stands in the one before it: then it is a power of two. As long as it is even, it is halved
power_within : (most n : ℕ) → n ≤ most → 0 < n → bit_and n (n - 1) ≡ 0 → (k : ℕ) × (n ≡ 2 ^ k)
power_within zero n le lt none = absurd (omega arith)
power_within (suc most) n le lt none =
    ⊎_elim
    (λ (even : n % 2 ≡ 0).
    let half : (n - 1) / 2 ≡ n / 2 - 1 = omega (arith, even) in
    let step : bit_and n (n - 1) ≡ bit_and (n / 2) ((n - 1) / 2) * 2 + min (n % 2) ((n - 1) % 2) = and_step n (n - 1) in
    let same : bit_and (n / 2) ((n - 1) / 2) ≡ bit_and (n / 2) (n / 2 - 1) = ap (bit_and (n / 2)) half in
    let rest : bit_and (n / 2) (n / 2 - 1) ≡ 0 = omega (arith, step, same, none) in
    let found = power_within most (n / 2) (omega arith) (omega (arith, even)) rest in
    let f : n / 2 ≡ 2 ^ found.0 = found.1 in
    (suc found.0, omega (arith, f, even)))
    (λ (odd : n % 2 ≡ 1).
    let half : (n - 1) / 2 ≡ n / 2 = omega (arith, odd) in
    let step : bit_and n (n - 1) ≡ bit_and (n / 2) ((n - 1) / 2) * 2 + min (n % 2) ((n - 1) % 2) = and_step n (n - 1) in
    let same : bit_and (n / 2) ((n - 1) / 2) ≡ n / 2 = ap (bit_and (n / 2)) half ∙ and_self (n / 2) in
    (0, omega (arith, step, same, none, odd)))
    (cases_bit (n % 2) (omega arith))

pub power : (n : ℕ) → 0 < n → bit_and n (n - 1) ≡ 0 → (k : ℕ) × (n ≡ 2 ^ k)
power n lt none = power_within n n (omega arith) lt none

-- the last bits
pub last_bits : (sum n : ℕ) → ((k : ℕ) × (n ≡ 2 ^ k)) → bit_and sum (n - 1) ≡ sum % n
last_bits sum n p = subst (λ (m : ℕ). bit_and sum (m - 1) ≡ sum % m) (sym p.1) (and_mask sum p.0)
