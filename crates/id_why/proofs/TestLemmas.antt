-- What tests tell.
use Rattle.std.proofs.Common.{◌≡◌, ◌⊎◌, ◌||◌, ◌&&◌, inl, inr, ℕ, ℤ, Bool as Truth, true, false, Option, None, Some}
use Rattle.std.proofs.Common.{refl, ap, sym, ◌∙◌}
use Rattle.std.proofs.Common.{if◌then◌else◌}
use Rattle.std.specs.Bool.{beq}
use Rattle.std.specs.Ordering.{int_eq}
use Rattle.std.proofs.lemmas.Bool.{eqb-true}
use Rattle.std.proofs.lemmas.Bool.Decides.{Decides-int_eq}
use Rattle.id_facts.specs.declared.facts.RowValue.{RowValue}
use Rattle.id_facts.specs.declared.facts.RowValue.TheVariants.{Int, Bool, Name}
use Rattle.id_facts.specs.RowFacts.{same_value}
use Rattle.id_facts.proofs.OneLemmas.{eq-itself}

pub or-true : (a b : Truth) → a || b ≡ true → (a ≡ true) ⊎ (b ≡ true)
or-true true b h = inl refl
or-true false b h = inr h

pub or-left : (a b : Truth) → a ≡ true → a || b ≡ true
or-left true b h = refl
or-left false b h = cc

pub or-right : (a b : Truth) → b ≡ true → a || b ≡ true
or-right true b h = refl
or-right false b h = h

pub if-some : {A : Type 0} (b : Truth) (x y : A) → (if b then Some x else None) ≡ Some y → (b ≡ true) × (x ≡ y)
if-some true x y e = (refl, let q : x ≡ y = cc in q)
if-some false x y e = cc

pub some-one : {A : Type 0} (x y : A) → Some x ≡ Some y → x ≡ y
some-one x y e = cc

bit-true : (b c : Truth) → beq b c ≡ true → b ≡ c
bit-true true true h = refl
bit-true true false h = cc
bit-true false true h = cc
bit-true false false h = refl

bit-itself : (b : Truth) → beq b b ≡ true
bit-itself true = refl
bit-itself false = refl

-- two values are one where they compare so
pub value-one : (v w : RowValue) → same_value v w ≡ true → v ≡ w
value-one (Int m) (Int n) h = ap Int ((Decides-int_eq m n).0 h)
value-one (Bool b) (Bool c) h = ap Bool (bit-true b c h)
value-one (Name i) (Name j) h = ap Name (eqb-true i j h)
value-one (Int m) (Bool c) h = cc
value-one (Int m) (Name j) h = cc
value-one (Bool b) (Int n) h = cc
value-one (Bool b) (Name j) h = cc
value-one (Name i) (Int n) h = cc
value-one (Name i) (Bool c) h = cc

pub value-same : (v : RowValue) → same_value v v ≡ true
value-same (Int n) = (Decides-int_eq n n).1 refl
value-same (Bool b) = bit-itself b
value-same (Name i) = eq-itself i
