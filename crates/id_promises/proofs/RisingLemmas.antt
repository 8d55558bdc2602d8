-- Lists that rise by an order by which nothing is before itself: those with the same members are one, and facts,
-- values,
-- names and lines have such orders.
use Rattle.std.proofs.Common.{◌≡◌, ◌⊎◌, inl, inr, ℕ, ℤ, ◌<ℤ◌, true, false, List, [], ◌∷◌, Ordering, Less, Equal, refl}
use Rattle.std.proofs.Common.{sym, ap, subst, ◌∙◌, arith}
use Rattle.std.specs.Prelude.{pos}
use Rattle.std.proofs.lemmas.Cmp.{tied_itself}
use Rattle.std.proofs.lemmas.Int.{ints}
use Rattle.id_value.specs.List.{Among}
use Rattle.id_source.specs.declared.Ask.{Ask}
use Rattle.id_source.specs.declared.Fact.{Fact}
use Rattle.id_source.specs.declared.Fact.TheVariants as fact
use Rattle.id_source.specs.declared.Path.{Path}
use Rattle.id_source.specs.declared.Put.{Put}
use Rattle.id_source.specs.declared.Site.{Site}
use Rattle.id_source.specs.declared.SourceValue.{SourceValue}
use Rattle.id_source.specs.declared.SourceValue.TheVariants.{Int, Bool, Name}
use Rattle.id_source.specs.Orders.{AskBefore, CellBefore, FactBefore, FactsRise, LikeBefore, PutBefore, Rises}
use Rattle.id_source.specs.Orders.{ShapeBefore, SiteBefore, ValueBefore, kind_of}
use Rattle.id_print.proofs.NamesLemmas.{Tells, asks_told}

-- nothing is before itself, and what is before something is before all that is behind that
pub record IsStrict {A : Type 0} (B : A → A → Type 0) : Type 0 where
  pub not_itself : (x : A) → B x x → ⊥
  pub trans : (x y z : A) → B x y → B y z → B x z

-- an order that a comparison tells is so
pub IsStrict-told : {A : Type 0} (c : A → A → Ordering) (B C : A → A → Type 0) → Tells c B C → IsStrict B
IsStrict-told c B C t = record {
  not_itself =
      λ x h. let less : c x x ≡ Less = t.less x x h in let tied : c x x ≡ Equal = tied_itself t.total x in absurd cc;
  trans = λ x y z h k. t.before x z (t.total.trans x y z (t.less x y h) (t.less y z k));
}

-- ---- lists that rise

module _ {A : Type 0} (B : A → A → Type 0) (s : IsStrict B) where
  -- the first is before all others
  pub first_before : (x : A) (xs : List A) → Rises B (x ∷ xs) → (y : A) → Among y xs → B x y
  first_before x [] up y h = absurd h
  first_before x (z ∷ zs) up y (inl e) = let P : A → Type 0 = λ w. B x w in subst P (sym e) up.0
  first_before x (z ∷ zs) up y (inr h) = s.trans x z y up.0 (first_before z zs up.1 y h)

  pub rest_rises : (x : A) (xs : List A) → Rises B (x ∷ xs) → Rises B xs
  rest_rises x [] up = tt
  rest_rises x (y ∷ xs) up = up.1

  same_first : (x y : A) (xs ys : List A) → Rises B (x ∷ xs) → Rises B (y ∷ ys) → Among x (y ∷ ys) → Among y (x ∷ xs)
      → x ≡ y
  same_first x y xs ys up high (inl e) k = e
  same_first x y xs ys up high (inr h) (inl e) = sym e
  same_first x y xs ys up high (inr h) (inr k) =
      absurd (s.not_itself x (s.trans x y x (first_before x xs up y k) (first_before y ys high x h)))

  -- what is among one list is behind the first of the other, where the firsts are one
  pub behind : (x y : A) (xs ys : List A) → x ≡ y → Rises B (x ∷ xs) → (z : A) → Among z xs → Among z (y ∷ ys)
      → Among z ys
  behind x y xs ys same up z h (inl e) =
      let P : A → Type 0 = λ w. Among w xs in
      absurd (s.not_itself x (first_before x xs up x (subst P (e ∙ sym same) h)))
  behind x y xs ys same up z h (inr k) = k

  -- two lists that rise and have the same members are one
  pub one_list : (xs ys : List A) → Rises B xs → Rises B ys → ((x : A) → Among x xs → Among x ys)
      → ((x : A) → Among x ys → Among x xs) → xs ≡ ys
  one_list [] [] up high to from = refl
  one_list [] (y ∷ ys) up high to from = absurd (from y (inl refl))
  one_list (x ∷ xs) [] up high to from = absurd (to x (inl refl))
  one_list (x ∷ xs) (y ∷ ys) up high to from =
      let first : x ≡ y = same_first x y xs ys up high (to x (inl refl)) (from y (inl refl)) in
      let rest : xs ≡ ys = one_list xs ys (rest_rises x xs up) (rest_rises y ys high)
      (λ z h. behind x y xs ys first up z h (to z (inr h)))
      (λ z h. behind y x ys xs (sym first) high z h (from z (inr h))) in
      λ i. first i ∷ rest i

-- ---- orders

-- by a key, and then among those with one key
module _ {A K : Type 0} (f : A → K) (B : K → K → Type 0) (C : A → A → Type 0) (s : IsStrict B) (t : IsStrict C) where
  abbrev Then : A → A → Type 0
  Then x y = B (f x) (f y) ⊎ ((f x ≡ f y) × C x y)

  then_itself : (x : A) → Then x x → ⊥
  then_itself x (inl h) = s.not_itself (f x) h
  then_itself x (inr h) = t.not_itself x h.1

  then_trans : (x y z : A) → Then x y → Then y z → Then x z
  then_trans x y z (inl h) (inl k) = inl (s.trans (f x) (f y) (f z) h k)
  then_trans x y z (inl h) (inr k) = let P : K → Type 0 = λ w. B (f x) w in inl (subst P k.0 h)
  then_trans x y z (inr h) (inl k) = let P : K → Type 0 = λ w. B w (f z) in inl (subst P (sym h.0) k)
  then_trans x y z (inr h) (inr k) = inr (h.0 ∙ k.0, t.trans x y z h.1 k.1)

  IsStrict-then : IsStrict Then
  IsStrict-then = record { not_itself = then_itself; trans = then_trans }

-- what is so of keys is so of what has them
IsStrict-on : {A K : Type 0} (f : A → K) (B : K → K → Type 0) → IsStrict B → IsStrict (λ (x y : A). B (f x) (f y))
IsStrict-on f B s =
    record { not_itself = λ x h. s.not_itself (f x) h; trans = λ x y z h k. s.trans (f x) (f y) (f z) h k }

-- an order that is as another
IsStrict-as : {A : Type 0} (B C : A → A → Type 0) → IsStrict C → ((x y : A) → B x y → C x y)
    → ((x y : A) → C x y → B x y) → IsStrict B
IsStrict-as B C s to from = record {
  not_itself = λ x h. s.not_itself x (to x x h);
  trans = λ x y z h k. from x z (s.trans x y z (to x y h) (to y z k));
}

int_itself : (m : ℤ) → m <ℤ m → ⊥
int_itself m h = omega (arith, ints)

int_trans : (l m n : ℤ) → l <ℤ m → m <ℤ n → l <ℤ n
int_trans l m n h k = omega (arith, ints)

abbrev IntBefore : ℤ → ℤ → Type 0
IntBefore m n = m <ℤ n

int_strict : IsStrict IntBefore
int_strict = record { not_itself = int_itself; trans = int_trans }

fetch_of : Site → Ask
fetch_of s = record { fetch = s; name = s; index = pos 0 }

pub site_strict : IsStrict SiteBefore
unfolding fetch_of
site_strict = IsStrict-on fetch_of _ (IsStrict-told _ _ _ asks_told)

-- ---- values, shapes, puts and asks

value_itself : (v : SourceValue) → ValueBefore v v → ⊥
value_itself (Int m) h = int_itself m h
value_itself (Bool false) h = h
value_itself (Bool true) h = h
value_itself (Name s) h = site_strict.not_itself s h

value_trans : (u v w : SourceValue) → ValueBefore u v → ValueBefore v w → ValueBefore u w
value_trans (Int l) (Int m) (Int n) h k = int_trans l m n h k
value_trans (Int l) v (Bool c) h k = tt
value_trans (Int l) v (Name t) h k = tt
value_trans (Int l) (Bool false) (Int n) h k = absurd k
value_trans (Int l) (Bool true) (Int n) h k = absurd k
value_trans (Int l) (Name s) (Int n) h k = absurd k
value_trans (Bool false) (Int m) w h k = absurd h
value_trans (Bool true) (Int m) w h k = absurd h
value_trans (Bool true) (Bool false) w h k = absurd h
value_trans (Bool true) (Bool true) w h k = absurd h
value_trans (Bool false) (Bool false) w h k = absurd h
value_trans (Bool false) (Bool true) (Int n) h k = absurd k
value_trans (Bool false) (Bool true) (Bool false) h k = absurd k
value_trans (Bool false) (Bool true) (Bool true) h k = absurd k
value_trans (Bool b) v (Name t) h k = tt
value_trans (Bool b) (Name s) (Int n) h k = absurd k
value_trans (Bool b) (Name s) (Bool c) h k = absurd k
value_trans (Name r) (Int m) w h k = absurd h
value_trans (Name r) (Bool b) w h k = absurd h
value_trans (Name r) (Name s) (Int n) h k = absurd k
value_trans (Name r) (Name s) (Bool c) h k = absurd k
value_trans (Name r) (Name s) (Name t) h k = site_strict.trans r s t h k

value_strict : IsStrict ValueBefore
value_strict = record { not_itself = value_itself; trans = value_trans }

shape_strict : IsStrict ShapeBefore
shape_strict = IsStrict-then (λ s. s.name) SiteBefore _ site_strict
    (IsStrict-then (λ s. s.low) IntBefore _ int_strict (IsStrict-on (λ s. s.high) IntBefore int_strict))

-- a cell is a name with an index
abbrev Place : Type 0
Place = Site × ℤ

PlaceBefore : Place → Place → Type 0
PlaceBefore x y = CellBefore x.0 x.1 y.0 y.1

place_strict : IsStrict PlaceBefore
unfolding PlaceBefore
place_strict = IsStrict-then (λ x. x.0) SiteBefore _ site_strict (IsStrict-on (λ x. x.1) IntBefore int_strict)

-- two in turn are one of both
pair_same : {A B : Type 0} (x y : A × B) → x.0 ≡ y.0 → x.1 ≡ y.1 → x ≡ y
pair_same x y e d = λ i. (e i, d i)

abbrev put_place : Put → Place
put_place p = (p.name, p.index)

abbrev StoreBefore : Put → Put → Type 0
StoreBefore p q = SiteBefore p.store q.store ⊎ ((p.store ≡ q.store) × ValueBefore p.value q.value)

store_strict : IsStrict StoreBefore
store_strict =
    IsStrict-then (λ p. p.store) SiteBefore _ site_strict (IsStrict-on (λ p. p.value) ValueBefore value_strict)

PutThen : Put → Put → Type 0
PutThen p q = PlaceBefore (put_place p) (put_place q) ⊎ ((put_place p ≡ put_place q) × StoreBefore p q)

put_strict : IsStrict PutBefore
unfolding PutThen PlaceBefore
put_strict =
    IsStrict-as PutBefore PutThen (IsStrict-then put_place PlaceBefore StoreBefore place_strict store_strict) to from
  where
    to : (p q : Put) → PutBefore p q → PutThen p q
    to p q (inl h) = inl h
    to p q (inr h) = inr (pair_same (put_place p) (put_place q) h.0 h.1, h.2)

    from : (p q : Put) → PutThen p q → PutBefore p q
    from p q (inl h) = inl h
    from p q (inr h) = inr (ap (λ (x : Place). x.0) h.0, ap (λ (x : Place). x.1) h.0, h.1)

ask_strict : IsStrict AskBefore
unfolding PlaceBefore
ask_strict =
    IsStrict-then (λ a. a.fetch) SiteBefore _ site_strict
    (IsStrict-on (λ a. (a.name, a.index)) PlaceBefore place_strict)

-- ---- facts

-- a point is that of a site
abbrev point : Path → ℕ → Site
point p d = record { path = p; place = d }

point_site : {p q : Path} {d e : ℕ} → p ≡ q → d ≡ e → point p d ≡ point q e
point_site a b = λ i. record { path = a i; place = b i }

abbrev Had : Type 0
Had = Site × SourceValue

HadThen : Had → Had → Type 0
HadThen x y = SiteBefore x.0 y.0 ⊎ ((x.0 ≡ y.0) × ValueBefore x.1 y.1)

had_strict : IsStrict HadThen
unfolding HadThen
had_strict = IsStrict-then (λ x. x.0) SiteBefore _ site_strict (IsStrict-on (λ x. x.1) ValueBefore value_strict)

had : Path → ℕ → SourceValue → Had
had p d v = (point p d, v)

had_to : (p q : Path) (d e : ℕ) (v w : SourceValue) → LikeBefore (fact.Has p d v) (fact.Has q e w)
    → HadThen (had p d v) (had q e w)
unfolding HadThen had
had_to p q d e v w (inl h) = inl h
had_to p q d e v w (inr h) = inr (point_site h.0 h.1, h.2)

had_from : (p q : Path) (d e : ℕ) (v w : SourceValue) → HadThen (had p d v) (had q e w)
    → LikeBefore (fact.Has p d v) (fact.Has q e w)
unfolding HadThen had
had_from p q d e v w (inl h) = inl h
had_from p q d e v w (inr h) = inr (ap (λ (s : Site). s.path) h.0, ap (λ (s : Site). s.place) h.0, h.1)

like_itself : (f : Fact) → LikeBefore f f → ⊥
like_itself (fact.On p d) h = site_strict.not_itself (point p d) h
like_itself (fact.Has p d v) h = had_strict.not_itself (had p d v) (had_to p p d d v v h)
like_itself (fact.Shape s) h = shape_strict.not_itself s h
like_itself (fact.Put p) h = put_strict.not_itself p h
like_itself (fact.Ask a) h = ask_strict.not_itself a h

like_trans : (f g k : Fact) → LikeBefore f g → LikeBefore g k → LikeBefore f k
like_trans (fact.On p d) (fact.On q e) (fact.On r c) a b =
    site_strict.trans (point p d) (point q e) (point r c) a b
like_trans (fact.Has p d v) (fact.Has q e w) (fact.Has r c u) a b =
    had_from p r d c v u
    (had_strict.trans (had p d v) (had q e w) (had r c u) (had_to p q d e v w a) (had_to q r e c w u b))
like_trans (fact.Shape s) (fact.Shape t) (fact.Shape u) a b = shape_strict.trans s t u a b
like_trans (fact.Put p) (fact.Put q) (fact.Put r) a b = put_strict.trans p q r a b
like_trans (fact.Ask x) (fact.Ask y) (fact.Ask z) a b = ask_strict.trans x y z a b
like_trans (fact.On p d) (fact.On q e) _ a b = absurd b
like_trans (fact.Has p d v) (fact.Has q e w) _ a b = absurd b
like_trans (fact.Shape s) (fact.Shape t) _ a b = absurd b
like_trans (fact.Put p) (fact.Put q) _ a b = absurd b
like_trans (fact.Ask x) (fact.Ask y) _ a b = absurd b
like_trans (fact.On p d) _ k a b = absurd a
like_trans (fact.Has p d v) _ k a b = absurd a
like_trans (fact.Shape s) _ k a b = absurd a
like_trans (fact.Put p) _ k a b = absurd a
like_trans (fact.Ask x) _ k a b = absurd a

like_strict : IsStrict LikeBefore
like_strict = record { not_itself = like_itself; trans = like_trans }

-- what is before something of one kind is of that kind
like_kind : (f g : Fact) → LikeBefore f g → kind_of f ≡ kind_of g
like_kind (fact.On p d) (fact.On q e) h = refl
like_kind (fact.Has p d v) (fact.Has q e w) h = refl
like_kind (fact.Shape s) (fact.Shape t) h = refl
like_kind (fact.Put p) (fact.Put q) h = refl
like_kind (fact.Ask x) (fact.Ask y) h = refl
like_kind (fact.On p d) _ h = absurd h
like_kind (fact.Has p d v) _ h = absurd h
like_kind (fact.Shape s) _ h = absurd h
like_kind (fact.Put p) _ h = absurd h
like_kind (fact.Ask x) _ h = absurd h

fact_itself : (f : Fact) → FactBefore f f → ⊥
fact_itself f (inl h) = omega (arith, h)
fact_itself f (inr h) = like_itself f h

fact_trans : (f g k : Fact) → FactBefore f g → FactBefore g k → FactBefore f k
fact_trans f g k (inl a) (inl b) = inl (omega (arith, a, b))
fact_trans f g k (inl a) (inr b) = inl (omega (arith, a, like_kind g k b))
fact_trans f g k (inr a) (inl b) = inl (omega (arith, like_kind f g a, b))
fact_trans f g k (inr a) (inr b) = inr (like_trans f g k a b)

pub fact_strict : IsStrict FactBefore
fact_strict = record { not_itself = fact_itself; trans = fact_trans }

pub FactsRise-Rises : (fs : List Fact) → FactsRise fs → Rises FactBefore fs
FactsRise-Rises [] h = tt
FactsRise-Rises (f ∷ []) h = tt
FactsRise-Rises (f ∷ g ∷ fs) h = (h.0, FactsRise-Rises (g ∷ fs) h.1)
