-- The tests of a valid graph, of a port, of a destination and of whether one of four holds, read as what they say.
use Rattle.std.proofs.Common.{◌≡◌, ℕ, ◌==◌, ◌&&◌, ◌||◌, Bool, true, false, refl, arith}
use Rattle.std.proofs.lemmas.Bool.Decides.{nat_tests}
use Rattle.id_instr.specs.declared.dests.Dest.{Dest}
use Rattle.id_instr.specs.declared.dests.Port.{Port}
use Rattle.id_instr.specs.declared.dests.Port.TheVariants.{Zero, One}
use Rattle.id_valid.specs.Roles.{same_port, is_dest}

pub same_number : (m n : ℕ) → m ≡ n → (m == n) ≡ true
same_number m n e = grind (arith, nat_tests)

pub number_is : (m n : ℕ) → (m == n) ≡ true → m ≡ n
number_is m n e = grind (arith, nat_tests)

pub same_port-itself : (p : Port) → same_port p p ≡ true
same_port-itself Zero = refl
same_port-itself One = refl

pub ports_same : (p q : Port) → same_port p q ≡ true → p ≡ q
ports_same Zero Zero e = refl
ports_same Zero One e = cc
ports_same One Zero e = cc
ports_same One One e = refl

pub both_true : (a b : Bool) → (a && b) ≡ true → (a ≡ true) × (b ≡ true)
both_true true b e = (refl, e)
both_true false b e = cc

pub second_of : (a b c d : Bool) → b ≡ true → (a || b || c || d) ≡ true
second_of true b c d e = refl
second_of false b c d e = rw e refl

pub third_of : (a b c d : Bool) → c ≡ true → (a || b || c || d) ≡ true
third_of true b c d e = refl
third_of false true c d e = refl
third_of false false true d e = refl
third_of false false false d e = cc

pub fourth_of : (a b c d : Bool) → d ≡ true → (a || b || c || d) ≡ true
fourth_of true b c d e = refl
fourth_of false true c d e = refl
fourth_of false false true d e = refl
fourth_of false false false d e = e

pub still : {a : Bool} (b : Bool) → a ≡ true → (a || b) ≡ true
still b e = rw e refl

pub or_last : (a : Bool) {b : Bool} → b ≡ true → (a || b) ≡ true
or_last true e = refl
or_last false e = e

abbrev pub dest : ℕ → Port → Dest
dest n p = record { instr = n; port = p }

pub is_dest-itself : (n : ℕ) (p : Port) → is_dest n p (dest n p) ≡ true
is_dest-itself n p = rw (same_number n n refl) (same_port-itself p)

pub dest_is : (n : ℕ) (p : Port) (d : Dest) → is_dest n p d ≡ true → d ≡ dest n p
dest_is n p d e =
    let both = both_true (d.instr == n) (same_port d.port p) e in
    let at = number_is d.instr n both.0 in
    let by = ports_same d.port p both.1 in
    (λ i. record { instr = at i; port = by i })
