-- Lemmas on specs/Names.antt: lists in order, by a comparison that tells the order.
use Rattle.std.proofs.Common.{◌≡◌, ℕ, ℤ, ◌<ℤ◌, zero, suc, ◌<◌, Bool, false, List, [], ◌∷◌, length, get_or, Ordering}
use Rattle.std.proofs.Common.{Less, Equal, Greater, ◌⊎◌, inl, inr, refl, sym, ap, subst, ◌∙◌, arith}
use Rattle.std.proofs.lemmas.Int.{ints}
use Rattle.std.specs.Prelude.{AllPairs, IsPermutation, Contains}
use Rattle.std.specs.List.{IsDistinct, AllByRecursion}
use Rattle.std.specs.List.Sorted.{IsSortedBy}
use Rattle.std.specs.Ordering.{nat_cmp, int_cmp, ordering_then, ordering_reverse, is_lt, is_eq}
use Rattle.std.specs.Cmp.{IsTotalOrder}
use Rattle.std.specs.Cmp.Lexicographic.{slice_cmp, lists_total}
use Rattle.std.proofs.lemmas.Bool.{false≢true}
use Rattle.std.proofs.lemmas.Cmp.{int_ranked, nat_cmp_total, int_cmp_total, on_total, then_total, tied_itself}
use Rattle.std.proofs.lemmas.List.Sorted.{ranks_by, sorted_far, Contains-permutation}
use Rattle.std.proofs.lemmas.Map.Keys.{IsDistinct-IsPermutation}
use Rattle.id_source.specs.declared.Path.{Path}
use Rattle.id_source.specs.declared.Site.{Site}
use Rattle.id_source.specs.declared.NameValue.{NameValue}
use Rattle.id_value.specs.List.{Among, AllDiffer}
use Rattle.id_source.specs.Orders.{NamesRise, Rises, SiteBefore, step_cmp}
use Rattle.id_print.specs.declared.helds.Held.{Held}
use Rattle.id_print.specs.declared.helds.Held.TheVariants.{Array, Cell}
use Rattle.id_print.specs.Names.{IsOrderOf, AreApartBy, NameBefore, HeldBefore, WaitBefore, LineBefore, AtOnePoint}
use Rattle.id_print.specs.Names.{OfOneThing, OfOneFetch}
use Rattle.id_print.specs.Names.{site_cmp, name_cmp, line_cmp, held_cmp, ask_cmp, held_name}
use Rattle.id_source.proofs.PathOrderLemmas.{less_number, less_steps, number_less, same_number, same_steps, step_total}
use Rattle.id_source.proofs.PathOrderLemmas.{steps_less, then_equal, then_less}

-- the comparison is less exactly where the first comes before the second, and equal only where one is as the other
pub record Tells {A : Type 0} (c : A → A → Ordering) (B C : A → A → Type 0) : Type 0 where
  pub total : IsTotalOrder c
  pub less : (x y : A) → B x y → c x y ≡ Less
  pub before : (x y : A) → c x y ≡ Less → B x y
  pub tied : (x y : A) → c x y ≡ Equal → C x y

-- whether the first comes before the second, as the sort asks
abbrev pub first_lt : {A : Type 0} → (A → A → Ordering) → A → A → Bool
first_lt c x y = is_lt (c x y)

-- whether they tie
abbrev pub both_tie : {A : Type 0} → (A → A → Ordering) → A → A → Bool
both_tie c x y = is_eq (c x y)

less_lt : {A : Type 0} (c : A → A → Ordering) (B C : A → A → Type 0) → Tells c B C → (x y : A) → first_lt c x y ≡ false
    → B x y → ⊥
less_lt c B C t x y e h = false≢true (sym e ∙ ap is_lt (t.less x y h))

-- what a sort by that test leaves is in order
pub in_order-from_sort : {A : Type 0} (c : A → A → Ordering) (B C : A → A → Type 0) → Tells c B C → (xs : List A)
    → IsSortedBy (first_lt c) xs →
    AllPairs (λ x y. ¬ B y x) xs
in_order-from_sort c B C t xs up i j d below within =
    less_lt c B C t (get_or xs j d) (get_or xs i d)
    (sorted_far (first_lt c) (ranks_by t.total (λ x. x)) xs up i j d (omega arith) within)

is_eq-reverse : (o : Ordering) → is_eq (ordering_reverse o) ≡ is_eq o
is_eq-reverse Less = refl
is_eq-reverse Equal = refl
is_eq-reverse Greater = refl

both_tie-flips : {A : Type 0} (c : A → A → Ordering) → IsTotalOrder c → (x y : A) → both_tie c x y ≡ both_tie c y x
both_tie-flips c t x y = ap is_eq (t.antisymm x y) ∙ is_eq-reverse (c y x)

-- things at a tie are one, and this one is not among the others
no_tie : {A : Type 0} (c : A → A → Ordering) (B C : A → A → Type 0) → Tells c B C → (x : A) (xs : List A)
    → (Among x xs → ⊥) → ((y : A) → Among y xs → C x y → x ≡ y) → (y : A) → Among y xs → both_tie c x y ≡ false
no_tie c B C t x xs alone one y among = at (c x y) refl
  where
    at : (o : Ordering) → c x y ≡ o → is_eq o ≡ false
    at Less e = refl
    at Equal e = let same = one y among (t.tied x y e) in absurd (alone (subst (λ z. Among z xs) (sym same) among))
    at Greater e = refl

each_among : {A : Type 0} (P : A → Type 0) (xs : List A) → ((y : A) → Among y xs → P y) → AllByRecursion P xs
each_among P [] h = tt
each_among P (x ∷ xs) h = (h x (inl refl), each_among P xs (λ y among. h y (inr among)))

ties_differ : {A : Type 0} (c : A → A → Ordering) (B C : A → A → Type 0) → Tells c B C → (xs : List A) → AllDiffer xs
    → ((x y : A) → Among x xs → Among y xs → C x y → x ≡ y) → IsDistinct (both_tie c) xs
unfolding IsDistinct
ties_differ c B C t [] differ one = tt
ties_differ c B C t (x ∷ xs) differ one = (
  each_among (λ y. both_tie c x y ≡ false) xs
      (no_tie c B C t x xs differ.0 (λ y among. one x y (inl refl) (inr among))),
  ties_differ c B C t xs differ.1 (λ y z a b. one y z (inr a) (inr b)),
)

-- things in order of which none tie rise
rise : {A : Type 0} (c : A → A → Ordering) (B C : A → A → Type 0) → Tells c B C → (xs : List A)
    → AllPairs (λ x y. ¬ B y x) xs → IsDistinct (both_tie c) xs →
    Rises B xs
unfolding IsDistinct
rise c B C t [] up apart = tt
rise c B C t (x ∷ []) up apart = tt
rise c B C t (x ∷ y ∷ xs) up apart = (
  at (c x y) refl,
  rise c B C t (y ∷ xs) (λ i j d below within. up (suc i) (suc j) d (omega arith) (omega arith)) apart.1,
)
  where
    at : (o : Ordering) → c x y ≡ o → B x y
    at Less e = t.before x y e
    at Equal e = absurd (false≢true (sym apart.0.0 ∙ ap is_eq e))
    at Greater e =
        absurd (up 0 1 x (omega arith) (omega arith) (t.before y x (t.total.antisymm y x ∙ ap ordering_reverse e)))

-- things that are apart rise where they are sorted
pub Rises-sorted : {A : Type 0} (c : A → A → Ordering) (B C : A → A → Type 0) → Tells c B C → (sorted xs : List A)
    → IsOrderOf B sorted xs → AreApartBy C xs →
    Rises B sorted
Rises-sorted c B C t sorted xs up apart =
    rise c B C t sorted up.in_order (IsDistinct-IsPermutation (both_tie c) (both_tie-flips c t.total) xs sorted up.same
    (ties_differ c B C t xs apart.differ apart.one))

-- names that rise by their order
pub NamesRise-Rises : (ns : List NameValue) → Rises NameBefore ns → NamesRise ns
NamesRise-Rises [] h = tt
NamesRise-Rises (n ∷ []) h = tt
NamesRise-Rises (n ∷ m ∷ ns) h = (h.0, NamesRise-Rises (m ∷ ns) h.1)

-- what the comparison of two sites says

same_path : (p q : Path) → slice_cmp step_cmp p.steps q.steps ≡ Equal → p ≡ q
same_path p q e = let steps = same_steps p.steps q.steps e in λ i. record { steps = steps i }

pub site_total : IsTotalOrder site_cmp
site_total = then_total (on_total (λ s. s.path.steps) (lists_total step_total)) (on_total (λ s. s.place) nat_cmp_total)

site_less : (s t : Site) → SiteBefore s t → site_cmp s t ≡ Less
site_less s t (inl h) = ap (λ o. ordering_then o (nat_cmp s.place t.place)) (steps_less s.path.steps t.path.steps h)
site_less s t (inr h) =
    ap (λ o. ordering_then o (nat_cmp s.place t.place)) (ap (λ p. slice_cmp step_cmp s.path.steps p.steps) (sym h.0) ∙
    tied_itself (lists_total step_total) s.path.steps)
    ∙ number_less s.place t.place h.1

less_site : (s t : Site) → site_cmp s t ≡ Less → SiteBefore s t
less_site s t e = at (then_less (slice_cmp step_cmp s.path.steps t.path.steps) (nat_cmp s.place t.place) e)
  where
    at : (slice_cmp step_cmp s.path.steps t.path.steps ≡ Less)
        ⊎ ((slice_cmp step_cmp s.path.steps t.path.steps ≡ Equal) × (nat_cmp s.place t.place ≡ Less)) →
        SiteBefore s t
    at (inl h) = inl (less_steps s.path.steps t.path.steps h)
    at (inr h) = inr (same_path s.path t.path h.0, less_number s.place t.place h.1)

site_tied : (s t : Site) → site_cmp s t ≡ Equal → (s.path ≡ t.path) × (s.place ≡ t.place)
site_tied s t e =
    let both = then_equal (slice_cmp step_cmp s.path.steps t.path.steps) (nat_cmp s.place t.place) e in
    (same_path s.path t.path both.0, same_number s.place t.place both.1)

same_site : (s t : Site) → site_cmp s t ≡ Equal → s ≡ t
same_site s t e =
    let both = site_tied s t e in
    let path = both.0 in
    let place = both.1 in
    λ i. record { path = path i; place = place i }

-- of two names

abbrev name_site : NameValue → Site
name_site n = record { path = n.path; place = n.place }

pub names_told : Tells name_cmp NameBefore AtOnePoint
names_told = record {
  total = on_total name_site site_total;
  less = λ n m. site_less (name_site n) (name_site m);
  before = λ n m. less_site (name_site n) (name_site m);
  tied = λ n m. site_tied (name_site n) (name_site m);
}

-- of two fetches
pub asks_told : Tells ask_cmp WaitBefore OfOneFetch
asks_told = record {
  total = on_total (λ a. a.fetch) site_total;
  less = λ a b. site_less a.fetch b.fetch;
  before = λ a b. less_site a.fetch b.fetch;
  tied = λ a b. same_site a.fetch b.fetch;
}

-- of two lines

line_antisymm : (h k : Held) → line_cmp h k ≡ ordering_reverse (line_cmp k h)
line_antisymm (Array s) (Array t) = refl
line_antisymm (Array s) (Cell p) = refl
line_antisymm (Cell p) (Array s) = refl
line_antisymm (Cell p) (Cell q) = int_cmp_total.antisymm p.index q.index

line_trans : (h k l : Held) → line_cmp h k ≡ Less → line_cmp k l ≡ Less → line_cmp h l ≡ Less
line_trans (Array s) (Array t) l e f = cc
line_trans (Array s) (Cell p) (Array t) e f = cc
line_trans (Array s) (Cell p) (Cell q) e f = refl
line_trans (Cell p) (Array s) l e f = cc
line_trans (Cell p) (Cell q) (Array s) e f = cc
line_trans (Cell p) (Cell q) (Cell r) e f = int_cmp_total.trans p.index q.index r.index e f

line_congr : (h k l : Held) → line_cmp h k ≡ Equal → line_cmp h l ≡ line_cmp k l
line_congr (Array s) (Array t) (Array u) e = refl
line_congr (Array s) (Array t) (Cell p) e = refl
line_congr (Array s) (Cell p) l e = cc
line_congr (Cell p) (Array s) l e = cc
line_congr (Cell p) (Cell q) (Array s) e = refl
line_congr (Cell p) (Cell q) (Cell r) e = int_cmp_total.congr p.index q.index r.index e

line_total : IsTotalOrder line_cmp
line_total = record { antisymm = line_antisymm; trans = line_trans; congr = line_congr }

less_integer : (m n : ℤ) → int_cmp m n ≡ Less → m <ℤ n
less_integer m n e = int_ranked m n Less (sym e)

same_integer : (m n : ℤ) → int_cmp m n ≡ Equal → m ≡ n
same_integer m n e = int_ranked m n Equal (sym e)

no_circle : (m n : ℤ) → m <ℤ n → n <ℤ m → ⊥
no_circle m n h k = omega (arith, ints)

integer_less : (m n : ℤ) → m <ℤ n → int_cmp m n ≡ Less
integer_less m n h = at (int_cmp m n) refl
  where
    at : (o : Ordering) → int_cmp m n ≡ o → int_cmp m n ≡ Less
    at Less e = e
    at Equal e =
        let same =
        same_integer m n e in
        absurd (no_circle m n h (subst (λ (z : ℤ). z <ℤ m) same (subst (λ (z : ℤ). m <ℤ z) (sym same) h)))
    at Greater e = let back : n <ℤ m = int_ranked m n Greater (sym e) in absurd (no_circle m n h back)

line_less : (h k : Held) → LineBefore h k → line_cmp h k ≡ Less
line_less (Array s) (Array t) h = absurd h
line_less (Array s) (Cell p) h = refl
line_less (Cell p) (Array s) h = absurd h
line_less (Cell p) (Cell q) h = integer_less p.index q.index h

less_line : (h k : Held) → line_cmp h k ≡ Less → LineBefore h k
less_line (Array s) (Array t) e = cc
less_line (Array s) (Cell p) e = tt
less_line (Cell p) (Array s) e = cc
less_line (Cell p) (Cell q) e = less_integer p.index q.index e

held_total : IsTotalOrder held_cmp
held_total = then_total (on_total held_name site_total) line_total

held_less : (h k : Held) → HeldBefore h k → held_cmp h k ≡ Less
held_less h k (inl b) = ap (λ o. ordering_then o (line_cmp h k)) (site_less (held_name h) (held_name k) b)
held_less h k (inr b) =
    ap (λ o. ordering_then o (line_cmp h k)) (ap (site_cmp (held_name h)) (sym b.0)
    ∙ tied_itself site_total (held_name h)) ∙ line_less h k b.1

less_held : (h k : Held) → held_cmp h k ≡ Less → HeldBefore h k
less_held h k e = at (then_less (site_cmp (held_name h) (held_name k)) (line_cmp h k) e)
  where
    at : (site_cmp (held_name h) (held_name k) ≡ Less)
        ⊎ ((site_cmp (held_name h) (held_name k) ≡ Equal) × (line_cmp h k ≡ Less)) → HeldBefore h k
    at (inl b) = inl (less_site (held_name h) (held_name k) b)
    at (inr b) = inr (same_site (held_name h) (held_name k) b.0, less_line h k b.1)

lines_tied : (h k : Held) → held_name h ≡ held_name k → line_cmp h k ≡ Equal → OfOneThing h k
lines_tied (Array s) (Array t) n e = n
lines_tied (Array s) (Cell p) n e = cc
lines_tied (Cell p) (Array s) n e = cc
lines_tied (Cell p) (Cell q) n e = (n, same_integer p.index q.index e)

held_tied : (h k : Held) → held_cmp h k ≡ Equal → OfOneThing h k
held_tied h k e =
    let both =
    then_equal (site_cmp (held_name h) (held_name k)) (line_cmp h k) e in
    lines_tied h k (same_site (held_name h) (held_name k) both.0) both.1

pub helds_told : Tells held_cmp HeldBefore OfOneThing
helds_told = record { total = held_total; less = held_less; before = less_held; tied = held_tied }

contains_among : {A : Type 0} (x : A) (ys : List A) → Among x ys → Contains ys x
contains_among x [] h = absurd h
contains_among x (y ∷ ys) (inl h) = (0, omega arith, sym h)
contains_among x (y ∷ ys) (inr h) = let at = contains_among x ys h in (suc at.0, omega (arith, at.1), at.2)

among_contained : {A : Type 0} (x : A) (ys : List A) (k : ℕ) → k < length ys → get_or ys k x ≡ x → Among x ys
among_contained x [] k below e = absurd (omega arith)
among_contained x (y ∷ ys) zero below e = inl (sym e)
among_contained x (y ∷ ys) (suc k) below e = inr (among_contained x ys k (omega arith) e)

-- what is among things is among them in another order
pub Among-IsPermutation : {A : Type 0} (xs ys : List A) → IsPermutation xs ys → (x : A) → Among x xs → Among x ys
Among-IsPermutation xs ys moved x among =
    let at = Contains-permutation xs ys x moved (contains_among x xs among) in among_contained x ys at.0 at.1 at.2
