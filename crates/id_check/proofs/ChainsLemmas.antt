-- One step along a chain, and the kind that is given to the rows on it.
use Rattle.std.proofs.Common.{◌≡◌, ◌≢◌, ◌⊎◌, inl, inr, ◌+◌, ◌<◌, ◌≤◌, ℕ, List, [], ◌∷◌, ◌++◌, Option, get_or, set}
use Rattle.std.proofs.Common.{length, refl, ap, sym, ◌∙◌, subst, arith}
use Rattle.std.specs.Prelude.{None, Some, Bool, if◌then◌else◌, true, false}
use Rattle.std.proofs.lemmas.Bool.{cases_eq, cases_lt}
use Rattle.std.proofs.lemmas.List.{map-append, same_from_push, length_push, get_or_append_left, get_or_push, length-set}
use Rattle.std.proofs.lemmas.List.{get_or-set_same, get_or-set_other}
use Rattle.id_value.specs.declared.Kind.{Kind}
use Rattle.id_value.specs.declared.Kind.TheVariants.{Int}
use Rattle.id_check.specs.Kinds.{Link, Fixed, To, Within, Nowhere, EndsIn, in_kind, in_nothing, further, within}
use Rattle.id_check.specs.Kinds.{kind_within}
use Rattle.id_value.specs.List.{Among}
use Rattle.id_check.specs.Chains.{IsKind, ends, endless, IsEnd, IsFilling, IsFound, IsGoing, IsPassing, IsState}
use Rattle.id_check.specs.Chains.{IsTrail, begun, goes_on, goes_to, kind_of, link_of_pass, link_through, link_within}
use Rattle.id_check.specs.Chains.{rows_of}
use Rattle.id_check.specs.declared.kinds.Pass.{Pass}
use Rattle.id_value.proofs.AmongLemmas.{Among-left, Among-right, Among-either, Among-one}

to_same : (a b : ℕ) → To a ≡ To b → a ≡ b
to_same a b e = cc

some_same : (a b : ℕ) → Some a ≡ Some b → a ≡ b
some_same a b e = cc

within_same : (a b : ℕ) → Within a ≡ Within b → a ≡ b
within_same a b e = cc

-- behind a row whose chain goes on, the chain ends as it does
pub after : {l : ℕ → Link} {p : ℕ} {o : Option Kind} (q : ℕ) → EndsIn l p o → l p ≡ To q → EndsIn l q o
after q (in_kind k e) f = let d : Fixed k ≡ To q = sym e ∙ f in cc
after q (in_nothing e) f = let d : Nowhere ≡ To q = sym e ∙ f in cc
after {l} {p} {o} q (further j e g) f = subst (λ z. EndsIn l z o) (to_same j q (sym e ∙ f)) g
after q (within j e g) f = let d : Within j ≡ To q = sym e ∙ f in cc

-- behind a row that has the kind of the elements of another, the chain ends in a kind within which its own is
pub after_within : {l : ℕ → Link} {p : ℕ} {o : Option Kind} (q : ℕ) → EndsIn l p o → l p ≡ Within q
    → (w : Option Kind) × EndsIn l q w × (o ≡ Some (kind_within w))
after_within q (in_kind k e) f = let d : Fixed k ≡ Within q = sym e ∙ f in cc
after_within q (in_nothing e) f = let d : Nowhere ≡ Within q = sym e ∙ f in cc
after_within q (further j e g) f = let d : To j ≡ Within q = sym e ∙ f in cc
after_within {l} q (within {o = w} j e g) f = (w, subst (λ z. EndsIn l z w) (within_same j q (sym e ∙ f)) g, refl)

pub lead_one : (l : ℕ → Link) (p q : ℕ) → l p ≡ To q → (o : Option Kind) → IsKind l q o → IsKind l p o
lead_one l p q e _ (ends h) = ends (further q e h)
lead_one l p q e _ (endless h) = endless (λ o g. h o (after q g e))

pub lead_within : (l : ℕ → Link) (p q : ℕ) → l p ≡ Within q → (o : Option Kind) → IsKind l q o
    → IsKind l p (Some (kind_within o))
lead_within l p q e _ (ends h) = ends (within q e h)
lead_within l p q e _ (endless h) = endless (λ o g. let w = after_within q g e in h w.0 w.1)

-- a row that was passed has the kind that follows from that of the row behind it
pub found_through : (l : ℕ → Link) (r q : ℕ) (b : Bool) (k : Link) → l r ≡ (if b then Within q else To q)
    → IsFound l q k → IsFound l r (if b then link_within k else k)
found_through l r q false k e f = record { is_end = f.is_end; kind = lead_one l r q e (kind_of k) f.kind }
found_through l r q true k e f = record { is_end = tt; kind = lead_within l r q e (kind_of k) f.kind }

kind_end : (l : ℕ → Link) (i : ℕ) (k : Link) → k ≡ l i → IsEnd k → IsKind l i (kind_of k)
kind_end l i (Fixed k) e t = ends (in_kind k (sym e))
kind_end l i (To j) e t = absurd t
kind_end l i (Within j) e t = absurd t
kind_end l i Nowhere e t = ends (in_nothing (sym e))

pub found_from : (l : ℕ → Link) (m i : ℕ) (k : Link) → IsState l m i k → IsEnd k → IsFound l i k
found_from l m i k (inl h) t = record { is_end = t; kind = kind_end l i k h.1 t }
found_from l m i k (inr h) t = h

-- a chain that stays in a list does not end
closed_endless : (l : ℕ → Link) (ps : List ℕ) → ((p : ℕ) → Among p ps → (j : ℕ) × (goes_to (l p) ≡ Some j) × Among j ps)
    → (i : ℕ) (o : Option Kind) → EndsIn l i o →
    Among i ps → ⊥
closed_endless l ps h i _ (in_kind k e) a = let w = h i a in let d : None ≡ Some w.0 = ap goes_to (sym e) ∙ w.1 in cc
closed_endless l ps h i _ (in_nothing e) a = let w = h i a in let d : None ≡ Some w.0 = ap goes_to (sym e) ∙ w.1 in cc
closed_endless l ps h i o (further j e g) a =
    let w = h i a in
    closed_endless l ps h j o g (subst (λ z. Among z ps) (some_same w.0 j (sym w.1 ∙ ap goes_to e)) w.2)
closed_endless l ps h i _ (within {o = v} j e g) a =
    let w = h i a in
    closed_endless l ps h j v g (subst (λ z. Among z ps) (some_same w.0 j (sym w.1 ∙ ap goes_to e)) w.2)

or_same : (j q : ℕ) (ps : List ℕ) → Among q ps → Among j ps ⊎ (j ≡ q) → Among j ps
or_same j q ps a (inl h) = h
or_same j q ps a (inr e) = subst (λ z. Among z ps) (sym e) a

-- one more row is passed
rows_push : (ps : List Pass) (p : Pass) → rows_of (ps ++ p ∷ []) ≡ rows_of ps ++ p.row ∷ []
rows_push ps p = map-append (λ (x : Pass). x.row) ps (p ∷ [])

pub row_left : (i : ℕ) (qs ps : List Pass) (p : Pass) → qs ≡ ps ++ p ∷ [] → Among i (rows_of ps) → Among i (rows_of qs)
row_left i qs ps p e a =
    subst (Among i) (sym (ap rows_of e ∙ rows_push ps p)) (Among-left i (rows_of ps) (p.row ∷ []) a)

pub row_last : (qs ps : List Pass) (p : Pass) → qs ≡ ps ++ p ∷ [] → Among p.row (rows_of qs)
row_last qs ps p e =
    subst (Among p.row) (sym (ap rows_of e ∙ rows_push ps p)) (Among-right p.row (rows_of ps) (p.row ∷ []) (inl refl))

pub row_either : (i : ℕ) (qs ps : List Pass) (p : Pass) → qs ≡ ps ++ p ∷ [] → Among i (rows_of qs)
    → Among i (rows_of ps) ⊎ (i ≡ p.row)
row_either i qs ps p e a =
    elim (Among-either i (rows_of ps) (p.row ∷ []) (subst (Among i) (ap rows_of e ∙ rows_push ps p) a))
    [ inl b ↦ inl b | inr b ↦ inr (Among-one i p.row b) ]

pass_to : (b : Bool) (q : ℕ) → goes_to (if b then Within q else To q) ≡ Some q
pass_to false q = refl
pass_to true q = refl

closed_push : (l : ℕ → Link) (qs ps : List Pass) (r : Pass) (q p : ℕ) → qs ≡ ps ++ r ∷ [] → l r.row ≡ link_of_pass r q
    → (Among p (rows_of ps) → (j : ℕ) × (goes_to (l p) ≡ Some j) × (Among j (rows_of ps) ⊎ (j ≡ r.row)))
    → Among p (rows_of ps) ⊎ (p ≡ r.row) → (j : ℕ) × (goes_to (l p) ≡ Some j) × (Among j (rows_of qs) ⊎ (j ≡ q))
closed_push l qs ps r q p e s h (inl b) =
    let w = h b in
    let there : Among w.0 (rows_of qs) =
    elim w.2 [
      | inl c ↦ row_left w.0 qs ps r e c
      | inr c ↦ subst (λ z. Among z (rows_of qs)) (sym c) (row_last qs ps r e)
    ] in
    (w.0, w.1, inl there)
closed_push l qs ps r q p e s h (inr c) = (q, ap (λ z. goes_to (l z)) c ∙ ap goes_to s ∙ pass_to r.within q, inr refl)

-- the chain of a row that was passed goes on to a row that was passed, or to the row behind them
closed_trail : (l : ℕ → Link) (ps : List Pass) (q : ℕ) → IsTrail l ps q → (p : ℕ) → Among p (rows_of ps)
    → (j : ℕ) × (goes_to (l p) ≡ Some j) × (Among j (rows_of ps) ⊎ (j ≡ q))
closed_trail l _ q begun p a = absurd a
closed_trail l qs q (goes_on ps r e t s) p a =
    closed_push l qs ps r q p e s (closed_trail l ps r.row t p) (row_either p qs ps r e a)

-- the link that a chain comes to gives the row there its kind
pub met : (l : ℕ → Link) (n m : ℕ) (ps : List Pass) (q : ℕ) (ks : List Link) → IsPassing l n m ps q ks
    → IsEnd (get_or ks q Nowhere) →
    IsFound l q (get_or ks q Nowhere)
met l n m ps q ks h t = at (h.states q h.next)
  where
    at : IsState l m q (get_or ks q Nowhere) ⊎ (Among q (rows_of ps) × (get_or ks q Nowhere ≡ Fixed Int))
        → IsFound l q (get_or ks q Nowhere)
    at (inl s) = found_from l m q (get_or ks q Nowhere) s t
    at (inr a) = subst (IsFound l q) (sym a.1) (record {
      is_end = tt;
      kind = endless (λ o g. closed_endless l (rows_of ps) (λ p b. let w = closed_trail l ps q h.trail p b in
          (w.0, w.1, or_same w.0 q (rows_of ps) a.0 w.2)) q o g a.0);
    })

-- where a link goes on it does not end
pub ends_not : (k : Link) (j : ℕ) → goes_to k ≡ Some j → IsEnd k → ⊥
ends_not (Fixed k) j e t = cc
ends_not (To j) i e t = t
ends_not (Within j) i e t = t
ends_not Nowhere j e t = cc

-- where a link goes on it is as it was
as_it_was : (l : ℕ → Link) (m q j : ℕ) (ps : List ℕ) (k : Link) → IsState l m q k ⊎ (Among q ps × (k ≡ Fixed Int))
    → goes_to k ≡ Some j → k ≡ l q
as_it_was l m q j ps k (inl (inl h)) e = h.1
as_it_was l m q j ps k (inl (inr h)) e = absurd (ends_not k j e h.is_end)
as_it_was l m q j ps k (inr h) e = let d : None ≡ Some j = sym (ap goes_to h.1) ∙ e in cc

pub passing_step : (l : ℕ → Link) (n m : ℕ) (ps : List Pass) (b : Bool) (q j : ℕ) (ks : List Link)
    → IsPassing l n m ps q ks → goes_to (get_or ks q Nowhere) ≡ Some j
    → get_or ks q Nowhere ≡ link_of_pass (record { row = q; within = b }) j → j < n
    → IsPassing l n m (ps ++ record { row = q; within = b } ∷ []) j (set ks q (Fixed Int))
passing_step l n m ps b q j ks h g e less = record {
  long = length-set ks q (Fixed Int) ∙ h.long;
  next = less;
  states = λ i b. state i (cases_eq i q) (h.states i b);
  below = λ p a. low p (row_either p qs ps pass refl a);
  trail = goes_on ps pass refl h.trail on;
  start = begin h.start;
}
  where
    pass : Pass
    pass = record { row = q; within = b }

    qs : List Pass
    qs = ps ++ pass ∷ []

    on : l q ≡ link_of_pass pass j
    on = sym (as_it_was l m q j (rows_of ps) (get_or ks q Nowhere) (h.states q h.next) g) ∙ e

    mine : Among q (rows_of qs)
    mine = row_last qs ps pass refl

    state : (i : ℕ) → (i ≡ q) ⊎ (i ≢ q)
        → IsState l m i (get_or ks i Nowhere) ⊎ (Among i (rows_of ps) × (get_or ks i Nowhere ≡ Fixed Int))
        → IsState l m i (get_or (set ks q (Fixed Int)) i Nowhere)
        ⊎ (Among i (rows_of qs) × (get_or (set ks q (Fixed Int)) i Nowhere ≡ Fixed Int))
    state i (inl c) s =
        let low : q < length ks = subst (λ z. q < z) (sym h.long) h.next in
        inr (
          subst (λ z. Among z (rows_of qs)) (sym c) mine,
          ap (λ z. get_or (set ks q (Fixed Int)) z Nowhere) c ∙ get_or-set_same ks q (Fixed Int) Nowhere low,
        )
    state i (inr c) (inl s) = inl (subst (IsState l m i) (sym (get_or-set_other ks q i (Fixed Int) Nowhere c)) s)
    state i (inr c) (inr s) = inr (row_left i qs ps pass refl s.0, get_or-set_other ks q i (Fixed Int) Nowhere c ∙ s.1)

    low : (p : ℕ) → Among p (rows_of ps) ⊎ (p ≡ q) → p < n
    low p (inl a) = h.below p a
    low p (inr c) = subst (λ z. z < n) (sym c) h.next

    begin : (m ≡ q) ⊎ Among m (rows_of ps) → (m ≡ j) ⊎ Among m (rows_of qs)
    begin (inl c) = inr (subst (λ z. Among z (rows_of qs)) (sym c) mine)
    begin (inr a) = inr (row_left m qs ps pass refl a)

-- a walk begins
pub passing_start : (l : ℕ → Link) (n m : ℕ) (ks : List Link) → m < n → IsGoing l n m ks → IsPassing l n m [] m ks
passing_start l n m ks less h = record {
  long = h.long;
  next = less;
  states = λ i b. inl (h.states i b);
  below = λ p a. absurd a;
  trail = begun;
  start = inl refl;
}

-- the rows that were passed are to have the links that follow from the one that was met
pub filling_start : (l : ℕ → Link) (n m : ℕ) (ps : List Pass) (q : ℕ) (ks : List Link) → IsPassing l n m ps q ks
    → IsEnd (get_or ks q Nowhere) →
    IsFilling l n (m + 1) ps q (get_or ks q Nowhere) ks
filling_start l n m ps q ks h t = record {
  long = h.long;
  states = λ i b. state i (cases_eq i m) (h.states i b);
  trail = h.trail;
  found = it;
}
  where
    it : IsFound l q (get_or ks q Nowhere)
    it = met l n m ps q ks h t

    begin : (i : ℕ) → i ≡ m → (m ≡ q) ⊎ Among m (rows_of ps)
        → IsState l (m + 1) i (get_or ks i Nowhere) ⊎ Among i (rows_of ps)
    begin i e (inl c) = inl (inr (subst (λ z. IsFound l z (get_or ks z Nowhere)) (sym (e ∙ c)) it))
    begin i e (inr a) = inr (subst (λ z. Among z (rows_of ps)) (sym e) a)

    state : (i : ℕ) → (i ≡ m) ⊎ (i ≢ m)
        → IsState l m i (get_or ks i Nowhere) ⊎ (Among i (rows_of ps) × (get_or ks i Nowhere ≡ Fixed Int)) →
        IsState l (m + 1) i (get_or ks i Nowhere) ⊎ Among i (rows_of ps)
    state i (inl c) s = begin i c h.start
    state i (inr c) (inl (inl s)) = let low = s.0 in inl (inl (omega arith, s.1))
    state i (inr c) (inl (inr s)) = inl (inr s)
    state i (inr c) (inr s) = inr s.0

-- the last of the rows that were passed, and those before it
last_of : (l : ℕ → Link) (ps qs : List Pass) (p : Pass) (q : ℕ) → ps ≡ qs ++ p ∷ [] → IsTrail l ps q
    → IsTrail l qs p.row × (l p.row ≡ link_of_pass p q)
last_of l _ qs p q e begun = let d : 0 ≡ length qs + 1 = ap length e ∙ length_push qs p in absurd (omega arith)
last_of l ps qs p q e (goes_on rs r f t s) =
    let same = same_from_push rs qs r p (sym f ∙ e) in (
      subst (λ z. IsTrail l z p.row) same.0 (subst (λ (z : Pass). IsTrail l rs z.row) same.1 t),
      subst (λ (z : Pass). l z.row ≡ link_of_pass z q) same.1 s,
    )

pub filling_step : (l : ℕ → Link) (n m : ℕ) (ps qs : List Pass) (p : Pass) (q : ℕ) (k : Link) (ks : List Link)
    → p.row < length ks → ps ≡ qs ++ p ∷ [] →
    IsFilling l n m ps q k ks → IsFilling l n m qs p.row (link_through p k) (set ks p.row (link_through p k))
filling_step l n m ps qs p q k ks less e h = record {
  long = length-set ks p.row on ∙ h.long;
  states = λ i b. state i (cases_eq i p.row) (h.states i b);
  trail = last.0;
  found = mine;
}
  where
    on : Link
    on = link_through p k

    last : IsTrail l qs p.row × (l p.row ≡ link_of_pass p q)
    last = last_of l ps qs p q e h.trail

    mine : IsFound l p.row on
    mine = found_through l p.row q p.within k last.1 h.found

    state : (i : ℕ) → (i ≡ p.row) ⊎ (i ≢ p.row) → IsState l m i (get_or ks i Nowhere) ⊎ Among i (rows_of ps)
        → IsState l m i (get_or (set ks p.row on) i Nowhere) ⊎ Among i (rows_of qs)
    state i (inl c) s = inl (inr (subst (λ z. IsFound l z (get_or (set ks p.row on) z Nowhere)) (sym c)
        (subst (IsFound l p.row) (sym (get_or-set_same ks p.row on Nowhere less)) mine)))
    state i (inr c) (inl s) = inl (subst (IsState l m i) (sym (get_or-set_other ks p.row i on Nowhere c)) s)
    state i (inr c) (inr a) = elim (row_either i ps qs p e a) [ inl b ↦ inr b | inr b ↦ absurd (c b) ]

pub filling_end : (l : ℕ → Link) (n m q : ℕ) (k : Link) (ks : List Link) → IsFilling l n m [] q k ks → IsGoing l n m ks
filling_end l n m q k ks h =
    record { long = h.long; states = λ i b. elim (h.states i b) [ inl s ↦ s | inr a ↦ absurd a ] }

ends_once : {l : ℕ → Link} {i : ℕ} {o p : Option Kind} → EndsIn l i o → EndsIn l i p → o ≡ p
ends_once (in_kind k e) (in_kind m f) = let d : Fixed k ≡ Fixed m = sym e ∙ f in cc
ends_once (in_kind k e) (in_nothing f) = let d : Fixed k ≡ Nowhere = sym e ∙ f in cc
ends_once (in_kind k e) (further j f g) = let d : Fixed k ≡ To j = sym e ∙ f in cc
ends_once (in_kind k e) (within j f g) = let d : Fixed k ≡ Within j = sym e ∙ f in cc
ends_once (in_nothing e) (in_kind m f) = let d : Nowhere ≡ Fixed m = sym e ∙ f in cc
ends_once (in_nothing e) (in_nothing f) = refl
ends_once (in_nothing e) (further j f g) = let d : Nowhere ≡ To j = sym e ∙ f in cc
ends_once (in_nothing e) (within j f g) = let d : Nowhere ≡ Within j = sym e ∙ f in cc
ends_once (further j e g) h = ends_once g (after j h e)
ends_once (within j e g) h = let w = after_within j h e in ap (λ z. Some (kind_within z)) (ends_once g w.1) ∙ sym w.2

-- a row has one kind
pub IsKind-once : {l : ℕ → Link} {i : ℕ} {o p : Option Kind} → IsKind l i o → IsKind l i p → o ≡ p
IsKind-once (ends g) (ends h) = ends_once g h
IsKind-once (ends g) (endless h) = absurd (h _ g)
IsKind-once (endless h) (ends g) = absurd (h _ g)
IsKind-once (endless g) (endless h) = refl

-- what a chain comes to in one step, if that is known
pub IsState-after : (l : ℕ → Link) (i j : ℕ) (x k : Link) (b : Bool) → l i ≡ x
    → ((q : ℕ) → goes_to x ≡ Some q → (r : ℕ) → x ≡ link_of_pass (record { row = r; within = b }) q)
    → goes_to x ≡ Some j → IsState l 0 j k → IsEnd k → IsState l 0 i (if b then link_within k else k)
IsState-after l i j x k b e h g s t = inr (found_through l i j b k (e ∙ h j g i) (found_from l 0 j k s t))

-- the kind of a row that is settled
pub kind_settled : (l : ℕ → Link) (i : ℕ) (k : Link) → IsState l (i + 1) i k → IsKind l i (kind_of k)
kind_settled l i k (inl s) = let low = s.0 in absurd (omega arith)
kind_settled l i k (inr s) = s.kind

-- one more row of which it is known where its chain goes on, or what it comes to
pub IsGoing-push : (l : ℕ → Link) (n : ℕ) (ks js : List Link) (k : Link) → js ≡ ks ++ k ∷ [] → IsGoing l n 0 ks
    → IsState l 0 n k → IsGoing l (n + 1) 0 js
IsGoing-push l n ks js k e h s = record {
  long = ap length e ∙ length_push ks k ∙ ap (λ m. m + 1) h.long;
  states = λ i b. subst (λ zs. IsState l 0 i (get_or zs i Nowhere)) (sym e) (by i b (cases_lt i n));
}
  where
    by : (i : ℕ) → i < n + 1 → (i < n) ⊎ (n ≤ i) → IsState l 0 i (get_or (ks ++ k ∷ []) i Nowhere)
    by i b (inl c) =
        subst (IsState l 0 i) (sym (get_or_append_left ks (k ∷ []) Nowhere i (omega (arith, h.long)))) (h.states i c)
    by i b (inr c) =
        let same : i ≡ n = omega arith in
        subst (IsState l 0 i) (sym (get_or_push ks k Nowhere i (omega (arith, h.long))))
        (subst (λ z. IsState l 0 z k) (sym same) s)

-- where a row's link goes on it is as it was
pub targets_state : (l : ℕ → Link) (m i j : ℕ) (k : Link) → IsState l m i k → goes_to k ≡ Some j
    → goes_to (l i) ≡ Some j
targets_state l m i j k (inl h) e = sym (ap goes_to h.1) ∙ e
targets_state l m i j k (inr h) e = absurd (ends_not k j e h.is_end)

-- the kind of one more row is known
pub IsKind-push : (l : ℕ → Link) (n : ℕ) (xs ys : List (Option Kind)) (o : Option Kind) → length xs ≡ n
    → ys ≡ xs ++ o ∷ [] → IsKind l n o → ((i : ℕ) → i < n → IsKind l i (get_or xs i None)) → (i : ℕ) → i < n + 1
    → IsKind l i (get_or ys i None)
IsKind-push l n xs ys o long e k h i less = subst (λ zs. IsKind l i (get_or zs i None)) (sym e) (by (cases_lt i n))
  where
    by : (i < n) ⊎ (n ≤ i) → IsKind l i (get_or (xs ++ o ∷ []) i None)
    by (inl c) = subst (IsKind l i) (sym (get_or_append_left xs (o ∷ []) None i (omega (arith, long)))) (h i c)
    by (inr c) =
        let same : i ≡ n = omega arith in
        subst (IsKind l i) (sym (get_or_push xs o None i (omega (arith, long))))
        (subst (λ z. IsKind l z o) (sym same) k)
