-- The list of the binders that no scope has taken.
use Rattle.std.proofs.Common.{◌≡◌, ◌⊎◌, inl, inr, ◌+◌, ◌<◌, ◌≤◌, ℕ, Bool, true, false, List, [], ◌∷◌, ◌++◌}
use Rattle.std.proofs.Common.{length, get_or, take, refl, ap, sym, ◌∙◌, subst, add-one, arith}
use Rattle.std.specs.Prelude.{◌||◌}
use Rattle.std.proofs.lemmas.Bool.{cases_lt, false≢true}
use Rattle.std.proofs.lemmas.List.{get_or-take, get_or_append_left, get_or_push, length_push}
use Rattle.std.proofs.Common.{length-take-le}
use Rattle.id_table.specs.declared.row.Row.{Row}
use Rattle.id_table.specs.Rows.{at}
use Rattle.id_check.specs.Scopes.{confines, held, is_scope, sees_own}
use Rattle.id_check.specs.Names.{AreHeld, IsOpen}
use Rattle.id_check.proofs.ScopesLemmas.{confines_none, keeps_no_scope, or_false}

or_left : (a b : Bool) → (a || b) ≡ false → a ≡ false
or_left true b e = e
or_left false b e = refl

-- what no scope up to s has closed, no scope before it has
held_before : (R : List Row) (b s : ℕ) → held R b (s + 1) ≡ false → held R b s ≡ false
held_before R b s e = or_left (held R b s) (confines R s b) (sym (ap (held R b) (add-one s)) ∙ e)

pub open_later : (R : List Row) (n s : ℕ) (ps : List ℕ) → IsOpen R n s ps → IsOpen R n (s + 1) ps
open_later R n s ps h = record { below = h.below; order = h.order; all = λ b c d e. h.all b c d (held_before R b s e) }

-- a row that is no scope holds none
pub held_no_scope : (R : List Row) (s : ℕ) (hs : List Bool) → is_scope (at R s).node ≡ false → AreHeld R s hs
    → AreHeld R (s + 1) hs
held_no_scope R s hs e h = record {
  long = h.long;
  each = λ i less. h.each i less
      ∙ sym (ap (held R i) (add-one s)
      ∙ or_false (held R i s) (confines R s i) (confines_none R s i (keeps_no_scope R s i e)));
}

pub open_below : (R : List Row) (s j : ℕ) (hs : List Bool) (ps : List ℕ) → s < length R → length hs ≡ length R
    → IsOpen R s s ps → j < length ps → get_or ps j 0 < length hs
open_below R s j hs ps row long o less = let b = o.below j less in omega arith

-- the last ones that are held are left out
pub open_kept : (R : List Row) (s k : ℕ) (hs : List Bool) (ps : List ℕ) → s < length R → AreHeld R (s + 1) hs
    → k ≤ length ps → ((j : ℕ) → k ≤ j → j < length ps → get_or hs (get_or ps j 0) false ≡ true) → IsOpen R s s ps
    → IsOpen R s (s + 1) (take k ps)
open_kept R s k hs ps row h fit behind o = record {
  below = λ j c. let d : j < k =
      subst (λ n. j < n) long c in subst (λ z. z < s) (sym (get_or-take k ps j 0 d)) (o.below j (omega arith));
  order = λ i j c d.
      let e : j < k = subst (λ n. j < n) long d in
      let f : i < k = omega arith in
      subst (λ z. z < get_or (take k ps) j 0) (sym (get_or-take k ps i 0 f))
      (subst (λ z. get_or ps i 0 < z) (sym (get_or-take k ps j 0 e)) (o.order i j c (omega arith)));
  all = λ b c d e. let w = o.all b c d (held_before R b s e) in one b c e w.0 w.1 w.2 (cases_lt w.0 k);
}
  where
    long : length (take k ps) ≡ k
    long = length-take-le k ps fit

    one : (b : ℕ) → b < s → held R b (s + 1) ≡ false → (j : ℕ) → j < length ps → get_or ps j 0 ≡ b → (j < k) ⊎ (k ≤ j)
        → (i : ℕ) × (i < length (take k ps)) × (get_or (take k ps) i 0 ≡ b)
    one b c e j d f (inl g) = (j, subst (λ n. j < n) (sym long) g, get_or-take k ps j 0 g ∙ f)
    one b c e j d f (inr g) =
        absurd (false≢true (sym (h.each b (omega arith) ∙ e) ∙ (sym (ap (λ z. get_or hs z false) f) ∙ behind j g d)))

-- one more row, which may see its own scope
pub open_same : (R : List Row) (n t : ℕ) (ps : List ℕ) → sees_own (at R n).node ≡ true → IsOpen R n t ps
    → IsOpen R (n + 1) t ps
open_same R n t ps e h = record {
  below = λ j c. let d = h.below j c in omega arith;
  order = h.order;
  all = λ b c d f. one b d f (cases_lt b n) c;
}
  where
    one : (b : ℕ) → sees_own (at R b).node ≡ false → held R b t ≡ false → (b < n) ⊎ (n ≤ b) → b < n + 1
        → (j : ℕ) × (j < length ps) × (get_or ps j 0 ≡ b)
    one b d f (inl g) c = h.all b g d f
    one b d f (inr g) c =
        let same : b ≡ n = omega arith in
        absurd (false≢true (sym d ∙ (ap (λ z. sees_own (at R z).node) same ∙ e)))

pub open_more : (R : List Row) (n t : ℕ) (ps : List ℕ) → IsOpen R n t ps → IsOpen R (n + 1) t (ps ++ n ∷ [])
open_more R n t ps h = record {
  below = λ j c. below j (cases_lt j (length ps)) c;
  order = λ i j c d. order i j c d (cases_lt j (length ps));
  all = λ b c d f. one b d f (cases_lt b n) c;
}
  where
    long : length (ps ++ n ∷ []) ≡ length ps + 1
    long = length_push ps n

    left : (j : ℕ) → j < length ps → get_or (ps ++ n ∷ []) j 0 ≡ get_or ps j 0
    left j c = get_or_append_left ps (n ∷ []) 0 j c

    last : (j : ℕ) → j ≡ length ps → get_or (ps ++ n ∷ []) j 0 ≡ n
    last j c = get_or_push ps n 0 j (sym c)

    below : (j : ℕ) → (j < length ps) ⊎ (length ps ≤ j) → j < length (ps ++ n ∷ []) → get_or (ps ++ n ∷ []) j 0 < n + 1
    below j (inl c) d = let e = left j c in let f = h.below j c in omega arith
    below j (inr c) d = let g = long in let e = last j (omega arith) in omega arith

    order : (i j : ℕ) → i < j → j < length (ps ++ n ∷ []) → (j < length ps) ⊎ (length ps ≤ j)
        → get_or (ps ++ n ∷ []) i 0 < get_or (ps ++ n ∷ []) j 0
    order i j c d (inl e) = let f = left i (omega arith) in let g = left j e in let k = h.order i j c e in omega arith
    order i j c d (inr e) =
        let l = long in
        let m : i < length ps = omega arith in
        let f = left i m in
        let g = last j (omega arith) in
        let k = h.below i m in
        omega arith

    one : (b : ℕ) → sees_own (at R b).node ≡ false → held R b t ≡ false → (b < n) ⊎ (n ≤ b) → b < n + 1
        → (j : ℕ) × (j < length (ps ++ n ∷ [])) × (get_or (ps ++ n ∷ []) j 0 ≡ b)
    one b d f (inl g) c =
        let w = h.all b g d f in
        let l = long in
        let low = w.1 in
        (w.0, omega arith, left w.0 w.1 ∙ w.2)
    one b d f (inr g) c =
        let l = long in
        let same : n ≡ b = omega arith in
        (length ps, omega arith, last (length ps) refl ∙ same)

-- before any row is passed there is none
pub open_none : (R : List Row) → IsOpen R 0 0 []
open_none R = record {
  below = λ j c. absurd (omega arith);
  order = λ i j c d. absurd (omega arith);
  all = λ b c d e. absurd (omega arith);
}
