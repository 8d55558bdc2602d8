-- Facts in order, and that what a sort of them leaves rises.
use Rattle.std.proofs.Common.{◌≡◌, ℕ, suc, ℤ, Bool as Truth, true, false, List, [], ◌∷◌, Ordering, Less, Equal, Greater}
use Rattle.std.proofs.Common.{◌⊎◌, inl, inr}
use Rattle.std.proofs.Common.{refl, sym, ap, ◌∙◌, subst, arith}
use Rattle.std.specs.Prelude.{AllPairs, ◌<ℤ◌}
use Rattle.std.specs.List.{IsDistinct}
use Rattle.std.specs.List.Sorted.{IsSortedBy}
use Rattle.std.specs.Ordering.{bool_cmp, int_cmp, nat_cmp, on, ordering_then, ordering_reverse, is_lt, is_eq, then_cmp}
use Rattle.std.specs.Cmp.{IsTotalOrder, bool_cmp_total}
use Rattle.std.specs.Cmp.Lexicographic.{slice_cmp, lists_total}
use Rattle.std.proofs.lemmas.Bool.{false≢true}
use Rattle.std.proofs.lemmas.Cmp.{int_cmp_total, int_ranked, nat_cmp_total, on_total, then_total, tied_itself}
use Rattle.std.proofs.lemmas.List.Sorted.{ranks_by, sorted_far}
use Rattle.id_source.specs.declared.PathStep.{PathStep}
use Rattle.id_source.specs.declared.Path.{Path}
use Rattle.id_source.specs.declared.Site.{Site}
use Rattle.id_source.specs.declared.Shape.{Shape}
use Rattle.id_source.specs.declared.Put.{Put}
use Rattle.id_source.specs.declared.Ask.{Ask}
use Rattle.id_source.specs.declared.SourceValue.{SourceValue}
use Rattle.id_source.specs.declared.SourceValue.TheVariants.{Int, Bool, Name}
use Rattle.id_source.specs.declared.Fact.{Fact}
use Rattle.id_source.specs.declared.Fact.TheVariants as fact
use Rattle.id_source.specs.Orders.{AskBefore, CellBefore, FactBefore, FactsRise, PointBefore, PutBefore, ShapeBefore}
use Rattle.id_source.specs.Orders.{SiteBefore, ValueBefore}
use Rattle.id_source.specs.Orders.{kind_of, step_cmp}
use Rattle.id_facts.specs.Listed.{ask_cmp, cell_cmp, fact_cmp, point_cmp, put_cmp, shape_cmp, site_cmp, sort_of}
use Rattle.id_facts.specs.Listed.{value_cmp}
use Rattle.id_source.proofs.PathOrderLemmas.{less_number, less_steps, same_number, same_steps, step_total, then_equal}
use Rattle.id_source.proofs.PathOrderLemmas.{then_less}

-- ---- comparisons in turn

-- a comparison that has no second one
then_nothing : (o : Ordering) → ordering_then o Equal ≡ o
then_nothing Less = refl
then_nothing Equal = refl
then_nothing Greater = refl

-- one that is less by two in turn is so by the first or by the second
turn_less : {A B : Type 0} (o p : Ordering) → ordering_then o p ≡ Less → (o ≡ Less → A) → (o ≡ Equal → p ≡ Less → B)
    → A ⊎ B
turn_less o p h f g = elim (then_less o p h) [ inl k ↦ inl (f k) | inr k ↦ inr (g k.0 k.1) ]

-- one that is as another, which is a total order
same_total : {K : Type 0} (R T : K → K → Ordering) → ((x y : K) → R x y ≡ T x y) → IsTotalOrder T → IsTotalOrder R
same_total {K = K} R T e t =
    let P : (K → K → Ordering) → Type 0 = λ Q. IsTotalOrder Q in subst P (λ i. λ x y. sym (e x y) i) t

-- ---- points

path_from : List PathStep → Path
path_from ss = record { steps = ss }

same_path : (p q : Path) → p.steps ≡ q.steps → p ≡ q
unfolding path_from
same_path p q e = ap path_from e

less_point : (p q : Path) (d e : ℕ) → point_cmp p d q e ≡ Less → PointBefore p d q e
less_point p q d e h =
    turn_less (slice_cmp step_cmp p.steps q.steps) (nat_cmp d e) h (λ k. less_steps p.steps q.steps k)
    (λ k l. (same_path p q (same_steps p.steps q.steps k), less_number d e l))

same_point : (p q : Path) (d e : ℕ) → point_cmp p d q e ≡ Equal → (p ≡ q) × (d ≡ e)
same_point p q d e h =
    let k = then_equal (slice_cmp step_cmp p.steps q.steps) (nat_cmp d e) h in
    (same_path p q (same_steps p.steps q.steps k.0), same_number d e k.1)

site_total : IsTotalOrder site_cmp
site_total = then_total (on_total (λ s. s.path.steps) (lists_total step_total)) (on_total (λ s. s.place) nat_cmp_total)

less_site : (s t : Site) → site_cmp s t ≡ Less → SiteBefore s t
less_site s t h = less_point s.path t.path s.place t.place h

same_site : (s t : Site) → site_cmp s t ≡ Equal → s ≡ t
same_site s t h =
    let k = same_point s.path t.path s.place t.place h in
    let p = k.0 in
    let e = k.1 in
    λ i. record { path = p i; place = e i }

-- ---- numbers and truth values

less_int : (m n : ℤ) → int_cmp m n ≡ Less → m <ℤ n
less_int m n e = int_ranked m n Less (sym e)

same_int : (m n : ℤ) → int_cmp m n ≡ Equal → m ≡ n
same_int m n e = int_ranked m n Equal (sym e)

same_truth : (b c : Truth) → bool_cmp b c ≡ Equal → b ≡ c
same_truth false false h = refl
same_truth false true h = cc
same_truth true false h = cc
same_truth true true h = refl

-- ---- values

-- what a value is, as the list of one thing, or else none
ints : SourceValue → List ℤ
ints (Int n) = n ∷ []
ints (Bool b) = []
ints (Name s) = []

truths : SourceValue → List Truth
truths (Int n) = []
truths (Bool b) = b ∷ []
truths (Name s) = []

names : SourceValue → List Site
names (Int n) = []
names (Bool b) = []
names (Name s) = s ∷ []

-- values compare as their sorts do, and then as these lists
by_lists : SourceValue → SourceValue → Ordering
by_lists =
    then_cmp (on sort_of nat_cmp)
    (then_cmp (on ints (slice_cmp int_cmp)) (then_cmp (on truths (slice_cmp bool_cmp)) (on names (slice_cmp site_cmp))))

as_lists : (v w : SourceValue) → value_cmp v w ≡ by_lists v w
unfolding by_lists ints truths names
as_lists (Int m) (Int n) = sym (then_nothing _ ∙ then_nothing _)
as_lists (Int m) (Bool c) = refl
as_lists (Int m) (Name t) = refl
as_lists (Bool b) (Int n) = refl
as_lists (Bool b) (Bool c) = sym (then_nothing _ ∙ then_nothing _)
as_lists (Bool b) (Name t) = refl
as_lists (Name s) (Int n) = refl
as_lists (Name s) (Bool c) = refl
as_lists (Name s) (Name t) = sym (then_nothing _)

value_total : IsTotalOrder value_cmp
unfolding by_lists
value_total =
    same_total value_cmp by_lists as_lists
    (then_total (on_total sort_of nat_cmp_total)
    (then_total (on_total ints (lists_total int_cmp_total))
    (then_total (on_total truths (lists_total bool_cmp_total)) (on_total names (lists_total site_total)))))

less_value : (v w : SourceValue) → value_cmp v w ≡ Less → ValueBefore v w
less_value (Int m) (Int n) h = less_int m n h
less_value (Int m) (Bool c) h = tt
less_value (Int m) (Name t) h = tt
less_value (Bool b) (Int n) h = cc
less_value (Bool false) (Bool false) h = cc
less_value (Bool false) (Bool true) h = tt
less_value (Bool true) (Bool false) h = cc
less_value (Bool true) (Bool true) h = cc
less_value (Bool false) (Name t) h = tt
less_value (Bool true) (Name t) h = tt
less_value (Name s) (Int n) h = cc
less_value (Name s) (Bool c) h = cc
less_value (Name s) (Name t) h = less_site s t h

same_value : (v w : SourceValue) → value_cmp v w ≡ Equal → v ≡ w
same_value (Int m) (Int n) h = ap (λ k. Int k) (same_int m n h)
same_value (Int m) (Bool c) h = cc
same_value (Int m) (Name t) h = cc
same_value (Bool b) (Int n) h = cc
same_value (Bool b) (Bool c) h = ap (λ k. Bool k) (same_truth b c h)
same_value (Bool b) (Name t) h = cc
same_value (Name s) (Int n) h = cc
same_value (Name s) (Bool c) h = cc
same_value (Name s) (Name t) h = ap (λ k. Name k) (same_site s t h)

-- ---- shapes, puts and asks

shape_total : IsTotalOrder shape_cmp
shape_total =
    then_total (on_total (λ s. s.name) site_total)
    (then_total (on_total (λ s. s.low) int_cmp_total) (on_total (λ s. s.high) int_cmp_total))

less_shape : (s t : Shape) → shape_cmp s t ≡ Less → ShapeBefore s t
less_shape s t h =
    turn_less (site_cmp s.name t.name) (ordering_then (int_cmp s.low t.low) (int_cmp s.high t.high)) h
    (λ k. less_site s.name t.name k)
    (λ k l. (
      same_site s.name t.name k,
      turn_less (int_cmp s.low t.low) (int_cmp s.high t.high) l (λ m. less_int s.low t.low m)
          (λ m n. (same_int s.low t.low m, less_int s.high t.high n)),
    ))

same_shape : (s t : Shape) → shape_cmp s t ≡ Equal → s ≡ t
same_shape s t h =
    let a = then_equal (site_cmp s.name t.name) (ordering_then (int_cmp s.low t.low) (int_cmp s.high t.high)) h in
    let b = then_equal (int_cmp s.low t.low) (int_cmp s.high t.high) a.1 in
    let x = same_site s.name t.name a.0 in
    let y = same_int s.low t.low b.0 in
    let z = same_int s.high t.high b.1 in
    λ i. record { name = x i; low = y i; high = z i }

less_cell : (s t : Site) (i j : ℤ) → cell_cmp s i t j ≡ Less → CellBefore s i t j
less_cell s t i j h =
    turn_less (site_cmp s t) (int_cmp i j) h (λ k. less_site s t k) (λ k l. (same_site s t k, less_int i j l))

same_cell : (s t : Site) (i j : ℤ) → cell_cmp s i t j ≡ Equal → (s ≡ t) × (i ≡ j)
same_cell s t i j h = let k = then_equal (site_cmp s t) (int_cmp i j) h in (same_site s t k.0, same_int i j k.1)

put_total : IsTotalOrder put_cmp
put_total =
    then_total (then_total (on_total (λ p. p.name) site_total) (on_total (λ p. p.index) int_cmp_total))
    (then_total (on_total (λ p. p.store) site_total) (on_total (λ p. p.value) value_total))

less_put : (p q : Put) → put_cmp p q ≡ Less → PutBefore p q
less_put p q h =
    turn_less (cell_cmp p.name p.index q.name q.index)
    (ordering_then (site_cmp p.store q.store) (value_cmp p.value q.value)) h
    (λ k. less_cell p.name q.name p.index q.index k)
    (λ k l. (let c = same_cell p.name q.name p.index q.index k in (
      c.0,
      c.1,
      turn_less (site_cmp p.store q.store) (value_cmp p.value q.value) l (λ m. less_site p.store q.store m)
          (λ m n. (same_site p.store q.store m, less_value p.value q.value n)),
    )))

same_put : (p q : Put) → put_cmp p q ≡ Equal → p ≡ q
same_put p q h =
    let a = then_equal (cell_cmp p.name p.index q.name q.index)
    (ordering_then (site_cmp p.store q.store) (value_cmp p.value q.value)) h in
    let b = same_cell p.name q.name p.index q.index a.0 in
    let c = then_equal (site_cmp p.store q.store) (value_cmp p.value q.value) a.1 in
    let x = b.0 in
    let y = b.1 in
    let z = same_site p.store q.store c.0 in
    let v = same_value p.value q.value c.1 in
    λ i. record { name = x i; index = y i; value = v i; store = z i }

ask_total : IsTotalOrder ask_cmp
ask_total =
    then_total (on_total (λ a. a.fetch) site_total)
    (then_total (on_total (λ a. a.name) site_total) (on_total (λ a. a.index) int_cmp_total))

less_ask : (a b : Ask) → ask_cmp a b ≡ Less → AskBefore a b
less_ask a b h =
    turn_less (site_cmp a.fetch b.fetch) (cell_cmp a.name a.index b.name b.index) h (λ k. less_site a.fetch b.fetch k)
    (λ k l. (same_site a.fetch b.fetch k, less_cell a.name b.name a.index b.index l))

same_ask : (a b : Ask) → ask_cmp a b ≡ Equal → a ≡ b
same_ask a b h =
    let k = then_equal (site_cmp a.fetch b.fetch) (cell_cmp a.name a.index b.name b.index) h in
    let c = same_cell a.name b.name a.index b.index k.1 in
    let x = same_site a.fetch b.fetch k.0 in
    let y = c.0 in
    let z = c.1 in
    λ i. record { fetch = x i; name = y i; index = z i }

-- ---- facts

-- what a fact says, as the list of one thing of its kind, or else none
ons : Fact → List Site
ons (fact.On p d) = record { path = p; place = d } ∷ []
ons (fact.Has p d v) = []
ons (fact.Shape s) = []
ons (fact.Put p) = []
ons (fact.Ask a) = []

hass : Fact → List (Site × SourceValue)
hass (fact.On p d) = []
hass (fact.Has p d v) = (record { path = p; place = d }, v) ∷ []
hass (fact.Shape s) = []
hass (fact.Put p) = []
hass (fact.Ask a) = []

shapes : Fact → List Shape
shapes (fact.On p d) = []
shapes (fact.Has p d v) = []
shapes (fact.Shape s) = s ∷ []
shapes (fact.Put p) = []
shapes (fact.Ask a) = []

puts : Fact → List Put
puts (fact.On p d) = []
puts (fact.Has p d v) = []
puts (fact.Shape s) = []
puts (fact.Put p) = p ∷ []
puts (fact.Ask a) = []

asks : Fact → List Ask
asks (fact.On p d) = []
asks (fact.Has p d v) = []
asks (fact.Shape s) = []
asks (fact.Put p) = []
asks (fact.Ask a) = a ∷ []

had_cmp : Site × SourceValue → Site × SourceValue → Ordering
had_cmp = then_cmp (on (λ h. h.0) site_cmp) (on (λ h. h.1) value_cmp)

-- facts compare as their kinds do, and then as these lists
by_kinds : Fact → Fact → Ordering
by_kinds =
    then_cmp (on kind_of nat_cmp)
    (then_cmp (on ons (slice_cmp site_cmp))
    (then_cmp (on hass (slice_cmp had_cmp))
    (then_cmp (on shapes (slice_cmp shape_cmp))
    (then_cmp (on puts (slice_cmp put_cmp)) (on asks (slice_cmp ask_cmp))))))

-- two facts are of one kind, or compare as their kinds do
pairs : (C : Fact → Fact → Type 0) → ((p q : Path) (d e : ℕ) → C (fact.On p d) (fact.On q e))
    → ((p q : Path) (d e : ℕ) (v w : SourceValue) → C (fact.Has p d v) (fact.Has q e w))
    → ((s t : Shape) → C (fact.Shape s) (fact.Shape t)) → ((p q : Put) → C (fact.Put p) (fact.Put q))
    → ((a b : Ask) → C (fact.Ask a) (fact.Ask b))
    → ((f g : Fact) → (nat_cmp (kind_of f) (kind_of g) ≡ Equal → ⊥) → fact_cmp f g ≡ nat_cmp (kind_of f) (kind_of g)
    → C f g) → (f g : Fact) → C f g
pairs C on has shape put ask other (fact.On p d) (fact.On q e) = on p q d e
pairs C on has shape put ask other (fact.On p d) (fact.Has q e w) = other (fact.On p d) (fact.Has q e w) (λ h. cc) refl
pairs C on has shape put ask other (fact.On p d) (fact.Shape t) = other (fact.On p d) (fact.Shape t) (λ h. cc) refl
pairs C on has shape put ask other (fact.On p d) (fact.Put q) = other (fact.On p d) (fact.Put q) (λ h. cc) refl
pairs C on has shape put ask other (fact.On p d) (fact.Ask b) = other (fact.On p d) (fact.Ask b) (λ h. cc) refl
pairs C on has shape put ask other (fact.Has p d v) (fact.On q e) = other (fact.Has p d v) (fact.On q e) (λ h. cc) refl
pairs C on has shape put ask other (fact.Has p d v) (fact.Has q e w) = has p q d e v w
pairs C on has shape put ask other (fact.Has p d v) (fact.Shape t) =
    other (fact.Has p d v) (fact.Shape t) (λ h. cc) refl
pairs C on has shape put ask other (fact.Has p d v) (fact.Put q) = other (fact.Has p d v) (fact.Put q) (λ h. cc) refl
pairs C on has shape put ask other (fact.Has p d v) (fact.Ask b) = other (fact.Has p d v) (fact.Ask b) (λ h. cc) refl
pairs C on has shape put ask other (fact.Shape s) (fact.On q e) = other (fact.Shape s) (fact.On q e) (λ h. cc) refl
pairs C on has shape put ask other (fact.Shape s) (fact.Has q e w) =
    other (fact.Shape s) (fact.Has q e w) (λ h. cc) refl
pairs C on has shape put ask other (fact.Shape s) (fact.Shape t) = shape s t
pairs C on has shape put ask other (fact.Shape s) (fact.Put q) = other (fact.Shape s) (fact.Put q) (λ h. cc) refl
pairs C on has shape put ask other (fact.Shape s) (fact.Ask b) = other (fact.Shape s) (fact.Ask b) (λ h. cc) refl
pairs C on has shape put ask other (fact.Put p) (fact.On q e) = other (fact.Put p) (fact.On q e) (λ h. cc) refl
pairs C on has shape put ask other (fact.Put p) (fact.Has q e w) = other (fact.Put p) (fact.Has q e w) (λ h. cc) refl
pairs C on has shape put ask other (fact.Put p) (fact.Shape t) = other (fact.Put p) (fact.Shape t) (λ h. cc) refl
pairs C on has shape put ask other (fact.Put p) (fact.Put q) = put p q
pairs C on has shape put ask other (fact.Put p) (fact.Ask b) = other (fact.Put p) (fact.Ask b) (λ h. cc) refl
pairs C on has shape put ask other (fact.Ask a) (fact.On q e) = other (fact.Ask a) (fact.On q e) (λ h. cc) refl
pairs C on has shape put ask other (fact.Ask a) (fact.Has q e w) = other (fact.Ask a) (fact.Has q e w) (λ h. cc) refl
pairs C on has shape put ask other (fact.Ask a) (fact.Shape t) = other (fact.Ask a) (fact.Shape t) (λ h. cc) refl
pairs C on has shape put ask other (fact.Ask a) (fact.Put q) = other (fact.Ask a) (fact.Put q) (λ h. cc) refl
pairs C on has shape put ask other (fact.Ask a) (fact.Ask b) = ask a b

-- what is not tied by a comparison is so by it and a second one
first_only : (o p : Ordering) → (o ≡ Equal → ⊥) → ordering_then o p ≡ o
first_only Less p h = refl
first_only Equal p h = absurd (h refl)
first_only Greater p h = refl

as_kinds : (f g : Fact) → fact_cmp f g ≡ by_kinds f g
unfolding by_kinds ons hass shapes puts asks had_cmp
as_kinds =
    pairs (λ f g. fact_cmp f g ≡ by_kinds f g) (λ p q d e. sym (then_nothing _ ∙ then_nothing _))
    (λ p q d e v w. sym (then_nothing _ ∙ then_nothing _))
    (λ s t. sym (then_nothing _ ∙ then_nothing _)) (λ p q. sym (then_nothing _ ∙ then_nothing _))
    (λ a b. sym (then_nothing _))
    (λ f g n h. h ∙ sym (first_only (nat_cmp (kind_of f) (kind_of g)) _ n))

-- facts are in a total order
pub fact_total : IsTotalOrder fact_cmp
unfolding by_kinds had_cmp
fact_total =
    same_total fact_cmp by_kinds as_kinds
    (then_total (on_total kind_of nat_cmp_total)
    (then_total (on_total ons (lists_total site_total))
    (then_total
    (on_total hass (lists_total (then_total (on_total (λ h. h.0) site_total) (on_total (λ h. h.1) value_total))))
    (then_total (on_total shapes (lists_total shape_total))
    (then_total (on_total puts (lists_total put_total)) (on_total asks (lists_total ask_total)))))))

-- a fact that compares less comes before the other
pub less_fact : (f g : Fact) → fact_cmp f g ≡ Less → FactBefore f g
less_fact =
    pairs (λ f g. fact_cmp f g ≡ Less → FactBefore f g) (λ p q d e h. inr (less_point p q d e h))
    (λ p q d e v w h. inr (turn_less (point_cmp p d q e) (value_cmp v w) h (λ k. less_point p q d e k)
    (λ k l. (let s = same_point p q d e k in (s.0, s.1, less_value v w l)))))
    (λ s t h. inr (less_shape s t h)) (λ p q h. inr (less_put p q h)) (λ a b h. inr (less_ask a b h))
    (λ f g n k h. inl (less_number (kind_of f) (kind_of g) (sym k ∙ h)))

-- facts that tie are one
pub same_fact : (f g : Fact) → fact_cmp f g ≡ Equal → f ≡ g
same_fact =
    pairs (λ f g. fact_cmp f g ≡ Equal
    → f ≡ g) (λ p q d e h. (let s = same_point p q d e h in ap (λ r. fact.On r d) s.0 ∙ ap (λ r. fact.On q r) s.1))
    (λ p q d e v w h. (
    let k = then_equal (point_cmp p d q e) (value_cmp v w) h in
    let s = same_point p q d e k.0 in
    ap (λ r. fact.Has r d v) s.0 ∙ ap (λ r. fact.Has q r v) s.1 ∙ ap (λ r. fact.Has q e r) (same_value v w k.1)))
    (λ s t h. ap (λ r. fact.Shape r) (same_shape s t h)) (λ p q h. ap (λ r. fact.Put r) (same_put p q h))
    (λ a b h. ap (λ r. fact.Ask r) (same_ask a b h))
    (λ f g n k h. absurd (n (sym k ∙ h)))

-- ---- lists of facts

-- whether two facts are one
abbrev pub is_same : Fact → Fact → Truth
is_same f g = is_eq (fact_cmp f g)

pub is_same-flips : (f g : Fact) → is_same f g ≡ is_same g f
is_same-flips f g = ap is_eq (fact_total.antisymm f g) ∙ at (fact_cmp g f)
  where
    at : (o : Ordering) → is_eq (ordering_reverse o) ≡ is_eq o
    at Less = refl
    at Equal = refl
    at Greater = refl

pub is_same-itself : (f : Fact) → is_same f f ≡ true
is_same-itself f = ap is_eq (tied_itself fact_total f)

pub is_same-one : (f g : Fact) → is_same f g ≡ true → f ≡ g
is_same-one f g h = same_fact f g (at (fact_cmp f g) h)
  where
    at : (o : Ordering) → is_eq o ≡ true → o ≡ Equal
    at Less h = cc
    at Equal h = refl
    at Greater h = cc

-- whether the first comes before the second, as the sort asks
abbrev pub fact_lt : Fact → Fact → Truth
fact_lt f g = is_lt (fact_cmp f g)

-- what a sort by that test leaves goes up
pub up-from_sort : (fs : List Fact) → IsSortedBy fact_lt fs → AllPairs (λ f g. fact_lt g f ≡ false) fs
up-from_sort fs up i j d below within =
    sorted_far fact_lt (ranks_by fact_total (λ f. f)) fs up i j d (omega arith) within

-- facts that go up, none of them twice, rise
pub FactsRise-up : (fs : List Fact) → AllPairs (λ f g. fact_lt g f ≡ false) fs → IsDistinct is_same fs → FactsRise fs
unfolding IsDistinct
FactsRise-up [] up apart = tt
FactsRise-up (f ∷ []) up apart = tt
FactsRise-up (f ∷ g ∷ fs) up apart = (
  at (fact_cmp f g) refl,
  FactsRise-up (g ∷ fs) (λ i j d below within. up (suc i) (suc j) d (omega arith) (omega arith)) apart.1,
)
  where
    at : (o : Ordering) → fact_cmp f g ≡ o → FactBefore f g
    at Less e = less_fact f g e
    at Equal e = absurd (false≢true (sym apart.0.0 ∙ ap is_eq e))
    at Greater e =
        let back : fact_lt g f ≡ true = ap is_lt (fact_total.antisymm g f ∙ ap ordering_reverse e) in
        absurd (false≢true (sym (up 0 1 f (omega arith) (omega arith)) ∙ back))
