-- Which uses wait for their binder, where one more waits, or one gets it.
use Rattle.std.proofs.Common.{◌≡◌, ◌≢◌, ◌⊎◌, inl, inr, ◌+◌, ◌<◌, ◌≤◌, ℕ, zero, suc, Bool, true, false, List, Option}
use Rattle.std.proofs.Common.{Some, None, get_or, set, length, refl, ap, sym, ◌∙◌, subst, add-one, arith}
use Rattle.std.specs.Prelude.{◌&&◌, nat_le, if◌then◌else◌}
use Rattle.std.specs.Option.{option_or}
use Rattle.std.proofs.lemmas.Bool.{cases_eq, cases_lt, false≢true}
use Rattle.std.proofs.lemmas.Bool.Decides.{nat_tests}
use Rattle.std.proofs.lemmas.List.{length-set, get_or-set_same, get_or-set_other}
use Rattle.id_table.specs.declared.row.Row.{Row}
use Rattle.id_table.specs.Rows.{at}
use Rattle.id_table.specs.Tables.{around}
use Rattle.id_check.specs.Scopes.{is_free, is_name}
use Rattle.id_check.specs.Names.{AreWaiting, IsBehind, given, is_in_sight, is_outside, is_waiting, key_of, last_of}
use Rattle.id_check.specs.Names.{limit, not_before, reach, use_before}

-- ---- the last number of which something is true

pub last_of-some : (f : ℕ → Bool) (n u : ℕ) → last_of f n ≡ Some u
    → (u < n) × (f u ≡ true) × ((v : ℕ) → u < v → v < n → f v ≡ false)
last_of-some f zero u e = cc
last_of-some f (suc n) u e = by (f n) refl e (last_of-some f n u)
  where
    same : (k : ℕ) → Some k ≡ Some u → k ≡ u
    same k d = cc

    above : (v : ℕ) → f n ≡ false → u < v → v < suc n → ((v : ℕ) → u < v → v < n → f v ≡ false) → (v < n) ⊎ (n ≤ v)
        → f v ≡ false
    above v g b c r (inl d) = r v b d
    above v g b c r (inr d) = let e : v ≡ n = omega arith in ap f e ∙ g

    by : (t : Bool) → f n ≡ t → (if t then Some n else last_of f n) ≡ Some u
        → (last_of f n ≡ Some u → (u < n) × (f u ≡ true) × ((v : ℕ) → u < v → v < n → f v ≡ false))
        → (u < suc n) × (f u ≡ true) × ((v : ℕ) → u < v → v < suc n → f v ≡ false)
    by true g h r =
        let d = same n h in
        (omega arith, ap f (sym d) ∙ g, λ v b c. absurd (omega arith))
    by false g h r =
        let w = r h in
        let low = w.0 in
        (omega arith, w.1, λ v b c. above v g b c w.2 (cases_lt v n))

pub last_of-none : (f : ℕ → Bool) (n : ℕ) → last_of f n ≡ None → (v : ℕ) → v < n → f v ≡ false
last_of-none f zero e v b = absurd (omega arith)
last_of-none f (suc n) e v b = by (f n) refl e (λ h c. last_of-none f n h v c)
  where
    low : f n ≡ false → (v < n → f v ≡ false) → (v < n) ⊎ (n ≤ v) → f v ≡ false
    low g r (inl c) = r c
    low g r (inr c) = let e : v ≡ n = omega arith in ap f e ∙ g

    by : (t : Bool) → f n ≡ t → (if t then Some n else last_of f n) ≡ None → (last_of f n ≡ None → v < n → f v ≡ false)
        → f v ≡ false
    by true g h r = let d : Some n ≡ None = h in cc
    by false g h r = low g (r h) (cases_lt v n)

last_of-same : (f g : ℕ → Bool) (n : ℕ) → ((v : ℕ) → v < n → f v ≡ g v) → last_of f n ≡ last_of g n
last_of-same f g zero h = refl
last_of-same f g (suc n) h =
    ap (λ t. if t then Some n else last_of f n) (h n (omega arith))
    ∙ ap (λ o. if g n then Some n else o) (last_of-same f g n (λ v b. h v (omega arith)))

last_of-past : (f : ℕ → Bool) (u n : ℕ) → u ≤ n → ((v : ℕ) → u ≤ v → v < n → f v ≡ false) → last_of f n ≡ last_of f u
last_of-past f u zero b h = let e : u ≡ zero = omega arith in ap (last_of f) (sym e)
last_of-past f u (suc n) b h = by (cases_lt n u) (λ c. last_of-past f u n c (λ v d k. h v d (omega arith)))
  where
    by : (n < u) ⊎ (u ≤ n) → (u ≤ n → last_of f n ≡ last_of f u) → last_of f (suc n) ≡ last_of f u
    by (inl c) r = let e : u ≡ suc n = omega arith in ap (last_of f) (sym e)
    by (inr c) r = ap (λ t. if t then Some n else last_of f n) (h n c (omega arith)) ∙ r c

-- ---- the last use before a row that waits is before it

pub reach-less : (f : ℕ → Bool) (u : ℕ) → reach (last_of f u) < reach (Some u)
reach-less f u = by (last_of f u) refl
  where
    by : (o : Option ℕ) → last_of f u ≡ o → reach o < reach (Some u)
    by None e = omega arith
    by (Some v) e = let c = (last_of-some f u v e).0 in omega arith

-- ---- a use that gets its binder

and_first : (a b : Bool) → (a && b) ≡ true → a ≡ true
and_first true b e = refl
and_first false b e = e

and_none : (a b : Bool) → a ≡ false → (a && b) ≡ false
and_none true b e = cc
and_none false b e = refl

and_never : (a b : Bool) → b ≡ false → (a && b) ≡ false
and_never true b e = e
and_never false b e = refl

is_name-once : (x y : ℕ) (o : Option ℕ) → is_name x o ≡ true → y ≢ x → is_name y o ≡ false
is_name-once x y None e d = refl
is_name-once x y (Some z) e d = grind (arith, nat_tests)

-- a row waits for one name
waits_once : (R : List Row) (os : List (Option ℕ)) (x y u : ℕ) → is_waiting R os x u ≡ true → y ≢ x
    → is_waiting R os y u ≡ false
waits_once R os x y u e d =
    and_none (is_name y (key_of (at R u).node)) (is_free (get_or os u None))
    (is_name-once x y (key_of (at R u).node)
    (and_first (is_name x (key_of (at R u).node)) (is_free (get_or os u None)) e) d)

-- another row waits as before
waits_other : (R : List Row) (os : List (Option ℕ)) (o : Option ℕ) (y u v : ℕ) → v ≢ u
    → is_waiting R (set os u o) y v ≡ is_waiting R os y v
waits_other R os o y u v d = ap (λ p. is_name y (key_of (at R v).node) && is_free p) (get_or-set_other os u v o None d)

-- the row waits no more
waits_not : (R : List Row) (os : List (Option ℕ)) (b y u : ℕ) → u < length os
    → is_waiting R (set os u (Some b)) y u ≡ false
waits_not R os b y u less =
    and_never (is_name y (key_of (at R u).node)) (is_free (get_or (set os u (Some b)) u None))
    (ap is_free (get_or-set_same os u (Some b) None less))

not_true : (t : Bool) → (t ≡ true → ⊥) → t ≡ false
not_true true h = absurd (h refl)
not_true false h = refl

-- the last use before a row that gets its binder is the same
last_below : (R : List Row) (os : List (Option ℕ)) (b y u v : ℕ) → v ≤ u
    → last_of (is_waiting R os y) v ≡ last_of (is_waiting R (set os u (Some b)) y) v
last_below R os b y u v c = last_of-same (is_waiting R os y) (is_waiting R (set os u (Some b)) y) v
    (λ k d. sym (waits_other R os (Some b) y u k (λ f. omega arith)))

-- and so is that of another name
last_other : (R : List Row) (os : List (Option ℕ)) (b x y u v : ℕ) → u < length os → is_waiting R os x u ≡ true → y ≢ x
    → last_of (is_waiting R os y) v ≡ last_of (is_waiting R (set os u (Some b)) y) v
last_other R os b x y u v low w d =
    last_of-same (is_waiting R os y) (is_waiting R (set os u (Some b)) y) v (λ k c. one k (cases_eq k u))
  where
    one : (k : ℕ) → (k ≡ u) ⊎ (k ≢ u) → is_waiting R os y k ≡ is_waiting R (set os u (Some b)) y k
    one k (inl f) =
        ap (is_waiting R os y) f
        ∙ (waits_once R os x y u w d
        ∙ (sym (waits_not R os b y u low) ∙ ap (is_waiting R (set os u (Some b)) y) (sym f)))
    one k (inr f) = sym (waits_other R os (Some b) y u k f)

-- where none waited between it and a row, the last before that is now the last before it
last_past : (R : List Row) (os : List (Option ℕ)) (b x u n : ℕ) → u < length os → u < n
    → ((v : ℕ) → u < v → v < n → is_waiting R os x v ≡ false)
    → last_of (is_waiting R (set os u (Some b)) x) n ≡ last_of (is_waiting R (set os u (Some b)) x) u
last_past R os b x u n low less h =
    last_of-past (is_waiting R (set os u (Some b)) x) u n (omega arith) (λ v c d. one v c d (cases_eq v u))
  where
    one : (v : ℕ) → u ≤ v → v < n → (v ≡ u) ⊎ (v ≢ u) → is_waiting R (set os u (Some b)) x v ≡ false
    one v c d (inl f) = ap (is_waiting R (set os u (Some b)) x) f ∙ waits_not R os b x u low
    one v c d (inr f) = waits_other R os (Some b) x u v f ∙ h v (omega arith) d

-- the last use that waits gets its binder
pub waiting_set : (R : List Row) (n m x u b : ℕ) (os ls es : List (Option ℕ)) → n ≤ length R → x < m
    → get_or ls x None ≡ Some u → AreWaiting R n m os ls es
    → AreWaiting R n m (set os u (Some b)) (set ls x (get_or es u None)) es
waiting_set R n m x u b os ls es fit less e h = record {
  long_binders = length-set os u (Some b) ∙ h.long_binders;
  long_last = length-set ls x (get_or es u None) ∙ h.long_last;
  long_earlier = h.long_earlier;
  last = λ y c. last y c (cases_eq y x);
  earlier = λ y v c d w. earlier y v c d w (cases_eq v u);
}
  where
    it : (u < n) × (is_waiting R os x u ≡ true) × ((v : ℕ) → u < v → v < n → is_waiting R os x v ≡ false)
    it = last_of-some (is_waiting R os x) n u (sym (h.last x less) ∙ e)

    low : u < length os
    low = let c = it.0 in let d = h.long_binders in omega arith

    last : (y : ℕ) → y < m → (y ≡ x) ⊎ (y ≢ x)
        → get_or (set ls x (get_or es u None)) y None ≡ last_of (is_waiting R (set os u (Some b)) y) n
    last y c (inl f) =
        let here : get_or (set ls x (get_or es u None)) x None ≡ last_of (is_waiting R (set os u (Some b)) x) n =
        get_or-set_same ls x (get_or es u None) None (subst (λ k. x < k) (sym h.long_last) less)
        ∙ (h.earlier x u less it.0 it.1
        ∙ (last_below R os b x u u (omega arith) ∙ sym (last_past R os b x u n low it.0 it.2))) in
        subst (λ z. get_or (set ls x (get_or es u None)) z None ≡ last_of (is_waiting R (set os u (Some b)) z) n)
        (sym f) here
    last y c (inr f) =
        get_or-set_other ls x y (get_or es u None) None f ∙ (h.last y c ∙ last_other R os b x y u n low it.1 f)

    earlier : (y v : ℕ) → y < m → v < n → is_waiting R (set os u (Some b)) y v ≡ true → (v ≡ u) ⊎ (v ≢ u)
        → get_or es v None ≡ last_of (is_waiting R (set os u (Some b)) y) v
    earlier y v c d w (inl f) =
        absurd (false≢true (sym (ap (is_waiting R (set os u (Some b)) y) f ∙ waits_not R os b y u low) ∙ w))
    earlier y v c d w (inr f) = one (sym (waits_other R os (Some b) y u v f) ∙ w) (cases_eq y x) (cases_lt u v)
      where
        one : is_waiting R os y v ≡ true → (y ≡ x) ⊎ (y ≢ x) → (u < v) ⊎ (v ≤ u)
            → get_or es v None ≡ last_of (is_waiting R (set os u (Some b)) y) v
        one g (inl k) (inl a) = absurd (false≢true (sym (it.2 v a d) ∙ (ap (λ z. is_waiting R os z v) (sym k) ∙ g)))
        one g (inr k) (inl a) = h.earlier y v c d g ∙ last_other R os b x y u v low it.1 k
        one g k (inr a) = h.earlier y v c d g ∙ last_below R os b y u v a

-- two tests agree behind a number of which both are true
last_of-cut : (f g : ℕ → Bool) (l n : ℕ) → l < n → f l ≡ true → g l ≡ true → ((v : ℕ) → l < v → v < n → f v ≡ g v)
    → last_of f n ≡ last_of g n
last_of-cut f g l zero less e d h = absurd (omega arith)
last_of-cut f g l (suc n) less e d h = by (cases_lt l n) (λ c. last_of-cut f g l n c e d (λ v b k. h v b (omega arith)))
  where
    by : (l < n) ⊎ (n ≤ l) → (l < n → last_of f n ≡ last_of g n) → last_of f (suc n) ≡ last_of g (suc n)
    by (inl c) r =
        ap (λ t. if t then Some n else last_of f n) (h n c (omega arith)) ∙ ap (λ o. if g n then Some n else o) (r c)
    by (inr c) r =
        let k : n ≡ l = omega arith in
        ap (λ t. if t then Some n else last_of f n) (ap f k ∙ e)
        ∙ sym (ap (λ t. if t then Some n else last_of g n) (ap g k ∙ d))

-- the use before another one that waits gets its binder
pub waiting_cut : (R : List Row) (n m x u b l : ℕ) (os ls es : List (Option ℕ)) → n ≤ length R → x < m → l < n
    → is_waiting R os x l ≡ true → get_or es l None ≡ Some u
    → AreWaiting R n m os ls es → AreWaiting R n m (set os u (Some b)) ls (set es l (get_or es u None))
waiting_cut R n m x u b l os ls es fit less in_rows waits e h = record {
  long_binders = length-set os u (Some b) ∙ h.long_binders;
  long_last = h.long_last;
  long_earlier = length-set es l (get_or es u None) ∙ h.long_earlier;
  last = λ y c. last y c (cases_eq y x);
  earlier = λ y v c d w. earlier y v c d w (cases_eq v l) (cases_eq y x);
}
  where
    it : (u < l) × (is_waiting R os x u ≡ true) × ((v : ℕ) → u < v → v < l → is_waiting R os x v ≡ false)
    it = last_of-some (is_waiting R os x) l u (sym (h.earlier x l less in_rows waits) ∙ e)

    low : u < length os
    low = let c = it.0 in let d = h.long_binders in omega arith

    still : is_waiting R (set os u (Some b)) x l ≡ true
    still = waits_other R os (Some b) x u l (λ f. let c = it.0 in omega arith) ∙ waits

    behind : (v : ℕ) → l < v → last_of (is_waiting R os x) v ≡ last_of (is_waiting R (set os u (Some b)) x) v
    behind v c =
        last_of-cut (is_waiting R os x) (is_waiting R (set os u (Some b)) x) l v c waits still
        (λ k d f. sym (waits_other R os (Some b) x u k (λ g. let a = it.0 in omega arith)))

    last : (y : ℕ) → y < m → (y ≡ x) ⊎ (y ≢ x) → get_or ls y None ≡ last_of (is_waiting R (set os u (Some b)) y) n
    last y c (inl f) =
        h.last y c
        ∙ subst (λ z. last_of (is_waiting R os z) n ≡ last_of (is_waiting R (set os u (Some b)) z) n) (sym f)
        (behind n in_rows)
    last y c (inr f) = h.last y c ∙ last_other R os b x y u n low it.1 f

    here : get_or (set es l (get_or es u None)) l None ≡ last_of (is_waiting R (set os u (Some b)) x) l
    here =
        get_or-set_same es l (get_or es u None) None (subst (λ k. l < k) (sym h.long_earlier) (omega arith))
        ∙ (h.earlier x u less (let c = it.0 in omega arith) it.1
        ∙ (last_below R os b x u u (omega arith) ∙ sym (last_past R os b x u l low it.0 it.2)))

    earlier : (y v : ℕ) → y < m → v < n → is_waiting R (set os u (Some b)) y v ≡ true → (v ≡ l) ⊎ (v ≢ l)
        → (y ≡ x) ⊎ (y ≢ x)
        → get_or (set es l (get_or es u None)) v None ≡ last_of (is_waiting R (set os u (Some b)) y) v
    earlier y v c d w (inl f) (inl g) =
        subst (λ z. get_or (set es l (get_or es u None)) v None ≡ last_of (is_waiting R (set os u (Some b)) z) v)
        (sym g)
        (subst (λ z. get_or (set es l (get_or es u None)) z None ≡ last_of (is_waiting R (set os u (Some b)) x) z)
        (sym f) here)
    earlier y v c d w (inl f) (inr g) =
        absurd (false≢true (sym (waits_once R (set os u (Some b)) x y l still g)
        ∙ (ap (is_waiting R (set os u (Some b)) y) (sym f) ∙ w)))
    earlier y v c d w (inr f) k = get_or-set_other es l v (get_or es u None) None f ∙ other (cases_eq v u)
      where
        one : is_waiting R os y v ≡ true → (y ≡ x) ⊎ (y ≢ x) → (u < v) ⊎ (v ≤ u) → (v < l) ⊎ (l ≤ v)
            → get_or es v None ≡ last_of (is_waiting R (set os u (Some b)) y) v
        one g (inl q) (inl a) (inl p) =
            absurd (false≢true (sym (it.2 v a p) ∙ (ap (λ z. is_waiting R os z v) (sym q) ∙ g)))
        one g (inl q) (inl a) (inr p) =
            h.earlier y v c d g
            ∙ subst (λ z. last_of (is_waiting R os z) v ≡ last_of (is_waiting R (set os u (Some b)) z) v) (sym q)
            (behind v (strictly f p))
          where
            strictly : v ≢ l → l ≤ v → l < v
            strictly a b = elim (cases_lt l v) [ inl c ↦ c | inr c ↦ absurd (a (omega arith)) ]
        one g (inr q) (inl a) p = h.earlier y v c d g ∙ last_other R os b x y u v low it.1 q
        one g q (inr a) p = h.earlier y v c d g ∙ last_below R os b y u v a

        other : (v ≡ u) ⊎ (v ≢ u) → get_or es v None ≡ last_of (is_waiting R (set os u (Some b)) y) v
        other (inl g) =
            absurd (false≢true (sym (ap (is_waiting R (set os u (Some b)) y) g ∙ waits_not R os b y u low) ∙ w))
        other (inr g) = one (sym (waits_other R os (Some b) y u v g) ∙ w) k (cases_lt u v) (cases_lt v l)

-- what comes next waits as the last one before the limit
pub next_last : (R : List Row) (n m x : ℕ) (o : Option ℕ) (os ls es : List (Option ℕ)) → x < m
    → AreWaiting R n m os ls es → IsBehind R os n x o → use_before ls es x o ≡ last_of (is_waiting R os x) (limit n o)
next_last R n m x None os ls es less h b = h.last x less
next_last R n m x (Some l) os ls es less h b = h.earlier x l less b.0 b.1

pub limit_low : (R : List Row) (n x : ℕ) (o : Option ℕ) (os : List (Option ℕ)) → IsBehind R os n x o → limit n o ≤ n
limit_low R n x None os b = omega arith
limit_low R n x (Some l) os b = let c = b.0 in omega arith

-- what comes next is a use that waits, and the last one before the limit
pub record IsNextUse (R : List Row) (n x u : ℕ) (o : Option ℕ) (os : List (Option ℕ)) : Type 0 where
  pub low : u < n
  pub before : u < limit n o
  pub waits : is_waiting R os x u ≡ true
  pub last : (v : ℕ) → u < v → v < limit n o → is_waiting R os x v ≡ false

pub next_use : (R : List Row) (n m x u : ℕ) (o : Option ℕ) (os ls es : List (Option ℕ)) → x < m
    → AreWaiting R n m os ls es → IsBehind R os n x o → use_before ls es x o ≡ Some u → IsNextUse R n x u o os
next_use R n m x u o os ls es less h b e =
    let w = last_of-some (is_waiting R os x) (limit n o) u (sym (next_last R n m x o os ls es less h b) ∙ e) in
    record { low = let c = limit_low R n x o os b in let d = w.0 in omega arith; before = w.0; waits = w.1; last = w.2 }

-- what gets its binder is taken out
pub waiting_out : (R : List Row) (n m x u b : ℕ) (o : Option ℕ) (os ls es : List (Option ℕ)) → n ≤ length R → x < m
    → IsBehind R os n x o → use_before ls es x o ≡ Some u
    → AreWaiting R n m os ls es → (w : IsNextUse R n x u o os) → IsBehind R (set os u (Some b)) n x o
waiting_out R n m x u b None os ls es fit less k e h w = tt
waiting_out R n m x u b (Some l) os ls es fit less k e h w =
    (k.0, waits_other R os (Some b) x u l (λ f. let c = w.before in omega arith) ∙ k.1)

-- fewer are to come then
pub reach_out : (R : List Row) (n x u b : ℕ) (o : Option ℕ) (os : List (Option ℕ)) → u < length os
    → IsNextUse R n x u o os → reach (last_of (is_waiting R (set os u (Some b)) x) (limit n o)) < reach (Some u)
reach_out R n x u b o os low w =
    subst (λ p. reach p < reach (Some u)) (sym (last_past R os b x u (limit n o) low w.before w.last))
    (reach-less (is_waiting R (set os u (Some b)) x) u)

-- ---- one more use waits

pub waiting_more : (R : List Row) (n m x : ℕ) (os ls es : List (Option ℕ)) → n < length R → x < m
    → key_of (at R n).node ≡ Some x → get_or os n None ≡ None
    → AreWaiting R n m os ls es → AreWaiting R (n + 1) m os (set ls x (Some n)) (set es n (get_or ls x None))
waiting_more R n m x os ls es fit less e free h =
    subst (λ k. AreWaiting R k m os (set ls x (Some n)) (set es n (get_or ls x None))) (sym (add-one n)) (record {
      long_binders = h.long_binders;
      long_last = length-set ls x (Some n) ∙ h.long_last;
      long_earlier = length-set es n (get_or ls x None) ∙ h.long_earlier;
      last = λ y c. last y c (cases_eq y x);
      earlier = λ y v c d w. earlier y v c d w (cases_eq v n);
    })
  where
    name : is_name x (Some x) ≡ true
    name = grind (arith, nat_tests)

    it : is_waiting R os x n ≡ true
    it = ap (λ o. is_name x o && is_free (get_or os n None)) e
        ∙ (ap (λ t. t && is_free (get_or os n None)) name ∙ ap is_free free)

    last : (y : ℕ) → y < m → (y ≡ x) ⊎ (y ≢ x) → get_or (set ls x (Some n)) y None ≡ last_of (is_waiting R os y) (suc n)
    last y c (inl f) =
        let here : get_or (set ls x (Some n)) x None ≡ last_of (is_waiting R os x) (suc n) =
        get_or-set_same ls x (Some n) None (subst (λ k. x < k) (sym h.long_last) less) ∙
        sym (ap (λ t. if t then Some n else last_of (is_waiting R os x) n) it) in
        subst (λ z. get_or (set ls x (Some n)) z None ≡ last_of (is_waiting R os z) (suc n)) (sym f) here
    last y c (inr f) =
        get_or-set_other ls x y (Some n) None f ∙ (h.last y c ∙
        sym (ap (λ t. if t then Some n else last_of (is_waiting R os y) n) (waits_once R os x y n it f)))

    earlier : (y v : ℕ) → y < m → v < suc n → is_waiting R os y v ≡ true → (v ≡ n) ⊎ (v ≢ n)
        → get_or (set es n (get_or ls x None)) v None ≡ last_of (is_waiting R os y) v
    earlier y v c d w (inl f) = one (cases_eq y x)
      where
        one : (y ≡ x) ⊎ (y ≢ x) → get_or (set es n (get_or ls x None)) v None ≡ last_of (is_waiting R os y) v
        one (inl k) =
            ap (λ z. get_or (set es n (get_or ls x None)) z None) f
            ∙ (get_or-set_same es n (get_or ls x None) None (subst (λ z. n < z) (sym h.long_earlier) fit)
            ∙ (h.last x less
            ∙ (ap (λ z. last_of (is_waiting R os z) n) (sym k) ∙ ap (last_of (is_waiting R os y)) (sym f))))
        one (inr k) = absurd (false≢true (sym (ap (is_waiting R os y) f ∙ waits_once R os x y n it k) ∙ w))
    earlier y v c d w (inr f) = get_or-set_other es n v (get_or ls x None) None f ∙ h.earlier y v c (omega arith) w

-- the row uses no name
pub waiting_same : (R : List Row) (n m : ℕ) (os ls es : List (Option ℕ)) → key_of (at R n).node ≡ None
    → AreWaiting R n m os ls es → AreWaiting R (n + 1) m os ls es
waiting_same R n m os ls es e h = subst (λ k. AreWaiting R k m os ls es) (sym (add-one n)) (record {
  long_binders = h.long_binders;
  long_last = h.long_last;
  long_earlier = h.long_earlier;
  last = λ y c. h.last y c ∙ sym (ap (λ t. if t then Some n else last_of (is_waiting R os y) n) (none y));
  earlier = λ y v c d w. earlier y v c d w (cases_eq v n);
})
  where
    none : (y : ℕ) → is_waiting R os y n ≡ false
    none y = ap (λ o. is_name y o && is_free (get_or os n None)) e

    earlier : (y v : ℕ) → y < m → v < suc n → is_waiting R os y v ≡ true → (v ≡ n) ⊎ (v ≢ n)
        → get_or es v None ≡ last_of (is_waiting R os y) v
    earlier y v c d w (inl f) = absurd (false≢true (sym (ap (is_waiting R os y) f ∙ none y) ∙ w))
    earlier y v c d w (inr f) = h.earlier y v c (omega arith) w

-- ---- the uses of a name in a scope get their binder, from the last one back

pub not_before-some : (f u : ℕ) (o : Option ℕ) → not_before f o ≡ Some u → (o ≡ Some u) × (f ≤ u)
not_before-some f u None e = cc
not_before-some f u (Some v) e = by (nat_le f v) refl e
  where
    by : (t : Bool) → nat_le f v ≡ t → (if t then Some v else None) ≡ Some u → (Some v ≡ Some u) × (f ≤ u)
    by true g h = let d : v ≡ u = same v h in (h, let k : f ≤ v = grind (arith, nat_tests) in omega arith)
      where
        same : (v : ℕ) → Some v ≡ Some u → v ≡ u
        same v h = cc
    by false g h = let d : None ≡ Some u = h in cc

not_before-none : (f u : ℕ) (o : Option ℕ) → not_before f o ≡ None → o ≡ Some u → u < f
not_before-none f u None e g = let d : None ≡ Some u = g in cc
not_before-none f u (Some v) e g = by (nat_le f v) refl e
  where
    same : (v : ℕ) → Some v ≡ Some u → v ≡ u
    same v h = cc

    by : (t : Bool) → nat_le f v ≡ t → (if t then Some v else None) ≡ None → u < f
    by true k h = let d : Some v ≡ None = h in cc
    by false k h = let d : v ≡ u = same v g in let l : v < f = grind (arith, nat_tests) in omega arith

and_second : (a b : Bool) → (a && b) ≡ true → b ≡ true
and_second true b e = e
and_second false b e = cc

and_both : (a b : Bool) → a ≡ true → b ≡ true → (a && b) ≡ true
and_both true b e f = f
and_both false b e f = e

around_is : (R : List Row) (s i : ℕ) → (at R s).first ≤ i → i < s → around R s i ≡ true
around_is R s i e f = grind (arith, nat_tests)

around_from : (R : List Row) (s i : ℕ) → around R s i ≡ true → (at R s).first ≤ i
around_from R s i e = grind (arith, nat_tests)

around_below : (R : List Row) (s i : ℕ) → around R s i ≡ true → i < s
around_below R s i e = grind (arith, nat_tests)

free_none : (o : Option ℕ) → is_free o ≡ true → o ≡ None
free_none None e = refl
free_none (Some x) e = let d : false ≡ true = e in cc

-- a use gets its binder, or has it from before, or stays as it was
abbrev pub IsGiven : List Row → ℕ → ℕ → ℕ → List (Option ℕ) → List (Option ℕ) → ℕ → Type 0
IsGiven R s x b ps os i =
    (get_or os i None ≡ get_or ps i None)
    ⊎ ((get_or ps i None ≡ None) × (given R s x b i ≡ Some b) × (get_or os i None ≡ Some b))

pub given_set : (R : List Row) (s x b u i : ℕ) (ps os : List (Option ℕ)) → (at R s).first ≤ u → u < s → u < length os
    → is_waiting R os x u ≡ true → is_outside R s u ≡ true → IsGiven R s x b ps os i
    → IsGiven R s x b ps (set os u (Some b)) i
given_set R s x b u i ps os behind below less e out h = one (cases_eq i u) h
  where
    name : is_name x (key_of (at R u).node) ≡ true
    name = and_first (is_name x (key_of (at R u).node)) (is_free (get_or os u None)) e

    none : get_or os u None ≡ None
    none = free_none (get_or os u None) (and_second (is_name x (key_of (at R u).node)) (is_free (get_or os u None)) e)

    it : given R s x b u ≡ Some b
    it =
        ap (λ t. if t then Some b else None) (and_both (is_name x (key_of (at R u).node)) (is_in_sight R s u) name
        (and_both (around R s u) (is_outside R s u) (around_is R s u behind below) out))

    here : IsGiven R s x b ps os u → IsGiven R s x b ps (set os u (Some b)) u
    here (inl f) = inr (sym f ∙ none, it, get_or-set_same os u (Some b) None less)
    here (inr f) = let d : None ≡ Some b = sym none ∙ f.2 in cc

    one : (i ≡ u) ⊎ (i ≢ u) → IsGiven R s x b ps os i → IsGiven R s x b ps (set os u (Some b)) i
    one (inl f) g = subst (IsGiven R s x b ps (set os u (Some b))) (sym f) (here (subst (IsGiven R s x b ps os) f g))
    one (inr f) (inl g) = inl (get_or-set_other os u i (Some b) None f ∙ g)
    one (inr f) (inr g) = inr (g.0, g.1, get_or-set_other os u i (Some b) None f ∙ g.2)

-- those that wait from the limit on do not see the scope
abbrev pub ArePassed : List Row → ℕ → ℕ → Option ℕ → List (Option ℕ) → Type 0
ArePassed R s x o os = (i : ℕ) → limit s o ≤ i → i < s → is_waiting R os x i ≡ true → is_outside R s i ≡ false

pub passed_out : (R : List Row) (s x u b : ℕ) (o : Option ℕ) (os : List (Option ℕ)) → IsNextUse R s x u o os
    → ArePassed R s x o os → ArePassed R s x o (set os u (Some b))
passed_out R s x u b o os w h =
    λ i c d e. h i c d (sym (waits_other R os (Some b) x u i (λ f. let g = w.before in omega arith)) ∙ e)

pub passed_on : (R : List Row) (s x u : ℕ) (o : Option ℕ) (os : List (Option ℕ)) → IsNextUse R s x u o os
    → is_outside R s u ≡ false → ArePassed R s x o os → ArePassed R s x (Some u) os
passed_on R s x u o os w shut h = λ i c d e. one i c d e (cases_lt i (limit s o)) (cases_lt u i)
  where
    one : (i : ℕ) → u ≤ i → i < s → is_waiting R os x i ≡ true → (i < limit s o) ⊎ (limit s o ≤ i) → (u < i) ⊎ (i ≤ u)
        → is_outside R s i ≡ false
    one i c d e (inr f) g = h i f d e
    one i c d e (inl f) (inl g) = absurd (false≢true (sym (w.last i g f) ∙ e))
    one i c d e (inl f) (inr g) = let k : i ≡ u = omega arith in ap (is_outside R s) k ∙ shut

pub given_all : (R : List Row) (s m x b i : ℕ) (o : Option ℕ) (ps os ls es : List (Option ℕ)) → x < m
    → AreWaiting R s m os ls es → IsBehind R os s x o → ArePassed R s x o os
    → not_before (at R s).first (use_before ls es x o) ≡ None
    → IsGiven R s x b ps os i → get_or os i None ≡ option_or (get_or ps i None) (given R s x b i)
given_all R s m x b i o ps os ls es less h k passed e (inr g) =
    g.2 ∙ sym (ap (λ p. option_or p (given R s x b i)) g.0 ∙ g.1)
given_all R s m x b i o ps os ls es less h k passed e (inl g) = g ∙ sym (stay (get_or ps i None) refl)
  where
    none : get_or ps i None ≡ None → (is_name x (key_of (at R i).node) && is_in_sight R s i) ≡ true → ⊥
    none f t =
        let name = and_first (is_name x (key_of (at R i).node)) (is_in_sight R s i) t in
        let sight = and_second (is_name x (key_of (at R i).node)) (is_in_sight R s i) t in
        let round = and_first (around R s i) (is_outside R s i) sight in
        let out = and_second (around R s i) (is_outside R s i) sight in
        let waits : is_waiting R os x i ≡ true =
        and_both (is_name x (key_of (at R i).node)) (is_free (get_or os i None)) name (ap is_free (g ∙ f)) in
        end (around_from R s i round) (around_below R s i round) out waits (cases_lt i (limit s o))
        (use_before ls es x o) refl
      where
        last : use_before ls es x o ≡ last_of (is_waiting R os x) (limit s o)
        last = next_last R s m x o os ls es less h k

        end : (at R s).first ≤ i → i < s → is_outside R s i ≡ true → is_waiting R os x i ≡ true
            → (i < limit s o) ⊎ (limit s o ≤ i) → (p : Option ℕ) → use_before ls es x o ≡ p → ⊥
        end a c q w (inr d) p f = false≢true (sym (passed i d c w) ∙ q)
        end a c q w (inl d) None f =
            false≢true (sym (last_of-none (is_waiting R os x) (limit s o) (sym last ∙ f) i d) ∙ w)
        end a c q w (inl d) (Some u) f =
            let low : u < (at R s).first = not_before-none (at R s).first u (use_before ls es x o) e f in
            false≢true (sym ((last_of-some (is_waiting R os x) (limit s o) u (sym last ∙ f)).2 i (omega arith) d) ∙ w)

    stay : (p : Option ℕ) → get_or ps i None ≡ p → option_or p (given R s x b i) ≡ p
    stay None f =
        ap (λ t. if t then Some b else None) (not_true (is_name x (key_of (at R i).node) && is_in_sight R s i) (none f))
    stay (Some z) f = refl
