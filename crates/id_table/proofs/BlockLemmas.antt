-- Which blocks are round a row.
use Rattle.std.proofs.Common.{◌≡◌, ◌⊎◌, inl, inr, ◌<◌, ◌≤◌, ℕ, zero, suc, Bool, true, false, ◌&&◌, ◌||◌, List, length, refl, sym, ap, ◌∙◌, arith}
use Rattle.std.proofs.lemmas.Bool.{cases_lt, false≢true, leb-true, ltb-true, le-leb, lt-ltb}
use Rattle.std.proofs.lemmas.Bool.Decides.{nat_tests}
use Rattle.std.specs.Prelude.{nat_lt, nat_le}
use Rattle.id_table.specs.declared.row.Row.{Row}
use Rattle.id_table.specs.Rows.{at}
use Rattle.id_table.specs.Tables.{around, has_statements, is_statement}
use Rattle.id_table.specs.Turns.{in_block, IsStatement}

or_false : (a b : Bool) → a ≡ false → b ≡ false → a || b ≡ false
or_false true b h e = absurd (false≢true (sym h))
or_false false b h e = e

or_cases : (a b : Bool) → a || b ≡ true → (a ≡ true) ⊎ ((a ≡ false) × (b ≡ true))
or_cases true b h = inl refl
or_cases false b h = inr (refl, h)

or_true : (a b : Bool) → b ≡ true → a || b ≡ true
or_true true b h = refl
or_true false b h = h

or_left : (a b : Bool) → a ≡ true → a || b ≡ true
or_left true b h = refl
or_left false b h = absurd (false≢true h)

and_false : (a b : Bool) → b ≡ false → a && b ≡ false
and_false true b h = h
and_false false b h = refl

pub and_true : (a b : Bool) → a ≡ true → b ≡ true → a && b ≡ true
and_true true b h e = e
and_true false b h e = absurd (false≢true h)

pub and_both : (a b : Bool) → a && b ≡ true → (a ≡ true) × (b ≡ true)
and_both true b h = (refl, h)
and_both false b h = absurd (false≢true h)

module _ (R : List Row) where
  pub around-true : (s i : ℕ) → (at R s).first ≤ i → i < s → around R s i ≡ true
  around-true s i h l = and_true (nat_le (at R s).first i) (nat_lt i s) (le-leb (at R s).first i h) (lt-ltb i s l)

  pub around-before : (s i : ℕ) → s ≤ i → around R s i ≡ false
  around-before s i h = let no : nat_lt i s ≡ false = grind (arith, nat_tests) in and_false (nat_le (at R s).first i) (nat_lt i s) no

  pub around-behind : (s i : ℕ) → i < (at R s).first → around R s i ≡ false
  around-behind s i h = let no : nat_le (at R s).first i ≡ false = grind (arith, nat_tests) in ap (λ b. b && nat_lt i s) no

  pub around-within : (s i : ℕ) → around R s i ≡ true → ((at R s).first ≤ i) × (i < s)
  around-within s i h = let p = and_both (nat_le (at R s).first i) (nat_lt i s) h in (leb-true (at R s).first i p.0, ltb-true i s p.1)

  -- no row up to this one is a block round it
  pub in_block-before : (i v : ℕ) → v ≤ suc i → in_block R i v ≡ false
  in_block-before i zero h = refl
  in_block-before i (suc v) h = or_false (in_block R i v) _ (in_block-before i v (omega arith))
      (and_false (has_statements (at R v).node) (around R v i) (around-before v i (omega arith)))

  -- rows that begin behind it are not round it
  pub in_block-behind : (i u v : ℕ) → u ≤ v → in_block R i u ≡ false → ((k : ℕ) → u ≤ k → k < v → i < (at R k).first) → in_block R i v ≡ false
  in_block-behind i u zero h e f = refl
  in_block-behind i u (suc v) h e f = elim (cases_lt v u) [
    | inl l ↦ let same : suc v ≡ u = omega arith in ap (in_block R i) same ∙ e
    | inr l ↦ or_false (in_block R i v) _ (in_block-behind i u v l e (λ k a b. f k a (omega arith)))
        (and_false (has_statements (at R v).node) (around R v i) (around-behind v i (f v l (omega arith))))
  ]

  pub in_block-more : (i u v : ℕ) → u ≤ v → in_block R i u ≡ true → in_block R i v ≡ true
  in_block-more i u zero h e = let same : u ≡ zero = omega arith in sym (ap (in_block R i) same) ∙ e
  in_block-more i u (suc v) h e = elim (cases_lt v u) [
    | inl l ↦ let same : suc v ≡ u = omega arith in ap (in_block R i) same ∙ e
    | inr l ↦ or_left (in_block R i v) _ (in_block-more i u v l e)
  ]

  pub in_block-here : (i v : ℕ) → has_statements (at R v).node ≡ true → (at R v).first ≤ i → i < v → in_block R i (suc v) ≡ true
  in_block-here i v b f l = or_true (in_block R i v) _ (and_true (has_statements (at R v).node) (around R v i) b (around-true v i f l))

  -- a binding or a store that has a block round it stands right in one
  pub statement_of : (b v : ℕ) → v ≤ length R → is_statement (at R b).node ≡ true → in_block R b v ≡ true → (s : ℕ) × (s < length R) × IsStatement R s b
  statement_of b zero h n e = absurd (false≢true e)
  statement_of b (suc v) h n e = elim (or_cases (in_block R b v) _ e) [
    | inl i ↦ statement_of b v (omega arith) n i
    | inr p ↦ let a = and_both (has_statements (at R v).node) (around R v b) p.1 in
        (v, omega arith, record { block = a.0; statement = n; inside = a.1; right = p.0 })
  ]
