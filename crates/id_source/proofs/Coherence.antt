-- A source without a fault is coherent.
use Rattle.std.proofs.Common.{◌≡◌, ◌⊎◌, ℤ, inl, inr, ℕ, zero, suc, pos, ◌+◌, ◌+ℤ◌, int_le, int_lt, Bool as Truth, true}
use Rattle.std.proofs.Common.{false, Some, arith, List, [], ◌∷◌, length, refl, ap, sym, ◌∙◌, subst}
use Rattle.std.specs.Prelude.{slice_get}
use Rattle.std.proofs.lemmas.Bool.{cases_lt, false≢true}
use Rattle.id_value.specs.declared.Constant.{Constant}
use Rattle.id_value.specs.declared.Constant.TheVariants as constant
use Rattle.id_value.specs.declared.Outcome.{Outcome}
use Rattle.id_value.specs.declared.Outcome.TheVariants.{Gives}
use Rattle.id_value.specs.Results.{result_of_unary, result_of_binary}
use Rattle.id_table.specs.declared.row.Node.{Node}
use Rattle.id_table.specs.declared.row.Node.TheVariants.{Param, Literal, Name, Unary, Binary, If, Call, Switches, Next}
use Rattle.id_table.specs.declared.row.Node.TheVariants.{Loop, Block, Binding}
use Rattle.id_table.specs.declared.row.Node.TheVariants.{Array, Fetch, Store, Bounds, Index}
use Rattle.id_table.specs.Loops.{bounds_row, index_row}
use Rattle.id_table.specs.Rows.{at}
use Rattle.id_table.specs.Tables.{is_thing}
use Rattle.id_table.specs.Turns.{params_at}
use Rattle.id_check.specs.Programs.{Stands, place, rows}
use Rattle.id_check.proofs.ProgramsLemmas.{table_of}
use Rattle.id_source.specs.declared.Path.{Path}
use Rattle.id_source.specs.declared.SourceValue.{SourceValue}
use Rattle.id_source.specs.declared.SourceValue.TheVariants.{Bool}
use Rattle.id_source.specs.declared.SourceValue.TheVariants as value
use Rattle.id_source.specs.declared.Site.{Site}
use Rattle.id_source.specs.declared.SourceFault.TheVariants.{SecondStore}
use Rattle.id_source.specs.declared.Fact.{Fact}
use Rattle.id_source.specs.declared.Fact.TheVariants.{Has}
use Rattle.id_source.specs.Sources.{Source, value_of}
use Rattle.id_source.specs.Facts.{ForStands, GoesOn, by_predicate, by_bounds, by_index}
use Rattle.id_source.specs.Facts.{LoopStands, below, without, between, Rule}
use Rattle.id_source.specs.Facts.{StoreStands, ask, put, second_store, shape, site}
use Rattle.id_source.specs.Rounds.{Every, FaultFree, Rounds, Holds, IsCoherent}
use Rattle.id_source.proofs.CheckedLemmas.{apart_of, loop-of, within-there}
use Rattle.id_source.proofs.LiveLemmas.{GoesIn, IsFetch, all-fine, false-there, true-below}
use Rattle.id_source.proofs.ParamsLemmas.{once, one_input, params-differ}
use Rattle.id_source.proofs.StepsLemmas.{below-once, none-below}
use Rattle.id_source.proofs.RoundsLemmas.{again}
use Rattle.id_source.proofs.SitesLemmas.{site-order}
use Rattle.id_source.proofs.HasLemmas.{Fetches, Follows, FollowsParam, IsAsked, IsBegun, IsCounted, IsFetched, IsFirst}
use Rattle.id_source.proofs.HasLemmas.{IsLater, IsLeft, IsMade, IsNext, IsPassed, IsPut, asked_by, follows_at}
use Rattle.id_source.proofs.HasLemmas.{follows_by, made_by, one_argument, one_arm, one_call, one_test, put_by}

-- a value is that of one constant
same-constant : (c d : Constant) → value_of c ≡ value_of d → c ≡ d
same-constant (constant.Int m) (constant.Int n) e = let q : m ≡ n = cc in ap (λ k. constant.Int k) q
same-constant (constant.Bool b) (constant.Bool c) e = let q : b ≡ c = cc in ap (λ k. constant.Bool k) q
same-constant (constant.Int m) (constant.Bool c) e = cc
same-constant (constant.Bool b) (constant.Int n) e = cc

every_holds : (S : Source) (n : ℕ) (fs : List Fact) → Every (Rounds S n) fs → Every (Holds S) fs
every_holds S n [] h = tt
every_holds S n (f ∷ fs) h = (record { round = n; there = h.0 }, every_holds S n fs h.1)

-- what a source has follows by a rule from what it has
pub record Because (S : Source) (f : Fact) : Type 0 where
  pub premises : List Fact
  pub rule : Rule S premises f
  pub hold : Every (Holds S) premises

pub because : (S : Source) (n : ℕ) (f : Fact) → Rounds S n f → Because S f
because S zero f h = absurd h
because S (suc n) f (inl h) = because S n f h
because S (suc n) f (inr t) = record { premises = t.0; rule = t.1; hold = every_holds S n t.0 t.2 }

one_outcome : {v w : Constant} (a b : Outcome) → a ≡ b → a ≡ Gives v → b ≡ Gives w → v ≡ w
one_outcome a b e p q = cc

-- the values of a place are those of earlier rounds' one value
abbrev Earlier : Source → ℕ → Type 0
Earlier S n = (p : Path) (e : ℕ) (v w : SourceValue) → Rounds S n (Has p e v) → Holds S (Has p e w) → v ≡ w

-- what calls pass on at a path is one value
one_passed : (S : Source) (m : ℕ) → Earlier S m → (b : ℕ) (p : Path) (v w : SourceValue) → IsPassed S (Rounds S m) b p v
    → IsPassed S (Holds S) b p w → v ≡ w
one_passed S m early b p v w h k =
    let P = S.checked in
    let R = rows P in
    let z = below-once h.outer k.outer (place P h.call) (place P k.call) 0 0 (sym h.path ∙ k.path) in
    let x = h.is_call.stands in
    let y = k.is_call.stands in
    let n : h.call ≡ k.call =
    (apart_of P).apart h.call k.call x.within y.within (ap is_thing x.node) (ap is_thing y.node) z.1 in
    let c = one_call h.is_call k.is_call n in
    let hs = params_at R h.is_call.head in
    let i : h.index ≡ k.index =
    once hs b h.index k.index (params-differ R h.is_call.head (length R)) h.param
    (ap (λ g. slice_get (params_at R g) k.index) c.head ∙ k.param) in
    let a : h.value ≡ k.value =
    one_argument S h.row k.row h.is_call.enter k.is_call.enter h.index k.index h.value k.value h.argument k.argument
    c.enter i in
    let A : Path → Type 0 = λ q. Holds S (Has q (place P k.value) w) in
    let B : ℕ → Type 0 = λ j. Holds S (Has h.outer (place P j) w) in
    early h.outer (place P h.value) v w h.has (subst B (sym a) (subst A (sym z.0) k.has))

one_param : (S : Source) (m : ℕ) → Earlier S m → (b : ℕ) (p : Path) (v w : SourceValue)
    → FollowsParam S (Rounds S m) b p v → FollowsParam S (Holds S) b p w
    → v ≡ w
one_param S m early b p v w (inl h) (inl k) = h.3 ∙ ap value_of (one_input h.2 k.2) ∙ sym k.3
one_param S m early b p v w (inl h) (inr k) = absurd (none-below k.outer (place S.checked k.call) 0 (sym h.1 ∙ k.path))
one_param S m early b p v w (inr h) (inl k) = absurd (none-below h.outer (place S.checked h.call) 0 (sym k.1 ∙ h.path))
one_param S m early b p v w (inr h) (inr k) = one_passed S m early b p v w h k

-- a `next` is of one loop
one_loop : (S : Source) (m o a : ℕ) (x y : IsNext S m o a) → x.row ≡ y.row
one_loop S m o a x y =
    let P = S.checked in
    let q : x.head ≡ y.head = sym x.next.block ∙ y.next.block in
    let L : ℕ → Type 0 = λ h. Stands P y.row (Loop h y.switches y.last) in
    let s = subst L (sym q) y.loop in
    (table_of P).one_loop x.row y.row x.head (loop-of P x.row x.head x.switches x.last x.loop)
    (loop-of P y.row x.head y.switches y.last s)

one_first : (S : Source) (n : ℕ) → Earlier S n → (m o a : ℕ) (p : Path) (v w : SourceValue)
    → IsFirst S (Rounds S n) m o a p v → IsFirst S (Holds S) m o a p w
    → v ≡ w
one_first S n early m o a p v w h k =
    let P = S.checked in
    let r = one_loop S m o a h.of k.of in
    let z = below-once h.outer k.outer (place P h.of.row) (place P k.of.row) 0 0 (sym h.path ∙ k.path) in
    let s : Some k.outside ≡ Some h.outside = sym k.binder ∙ h.binder in
    let c : k.outside ≡ h.outside = cc in
    let A : ℕ → Type 0 = λ i. Holds S (Has (without (between S i k.outside) k.outer) (place P k.outside) w) in
    let B : Path → Type 0 = λ q. Holds S (Has (without (between S h.of.row k.outside) q) (place P k.outside) w) in
    let C : ℕ → Type 0 = λ i. Holds S (Has (without (between S h.of.row i) h.outer) (place P i) w) in
    early (without (between S h.of.row h.outside) h.outer) (place P h.outside) v w h.has
    (subst C c (subst B (sym z.0) (subst A (sym r) k.has)))

one_later : (S : Source) (n : ℕ) → Earlier S n → (m o a : ℕ) (p : Path) (v w : SourceValue)
    → IsLater S (Rounds S n) m o a p v → IsLater S (Holds S) m o a p w
    → v ≡ w
one_later S n early m o a p v w h k =
    let P = S.checked in
    let L = place P h.of.row in
    let z = below-once h.outer k.outer L (place P k.of.row) (suc h.number) (suc k.number) (sym h.path ∙ k.path) in
    let i : h.number ≡ k.number = (let e = z.2 in omega arith) in
    let A : ℕ → Type 0 = λ e. Holds S (Has (below k.outer e k.number) (place P a) w) in
    let B : Path → Type 0 = λ q. Holds S (Has (below q L k.number) (place P a) w) in
    let C : ℕ → Type 0 = λ j. Holds S (Has (below h.outer L j) (place P a) w) in
    early (below h.outer L h.number) (place P a) v w h.has
    (subst C (sym i) (subst B (sym z.0) (subst A (sym z.1) k.has)))

-- no variable Has a first value and a later one at one path
first_or_later : (S : Source) (F G : Fact → Type 0) (m o a : ℕ) (p : Path) (v w : SourceValue) → IsFirst S F m o a p v
    → IsLater S G m o a p w → ⊥
first_or_later S F G m o a p v w h k =
    let z = below-once h.outer k.outer (place S.checked h.of.row) (place S.checked k.of.row) 0 (suc k.number)
    (sym h.path ∙ k.path) in
    let e = z.2 in
    omega arith

one_variable : (S : Source) (n : ℕ) → Earlier S n → (m o a : ℕ) (p : Path) (v w : SourceValue)
    → IsFirst S (Rounds S n) m o a p v ⊎ IsLater S (Rounds S n) m o a p v
    → IsFirst S (Holds S) m o a p w ⊎ IsLater S (Holds S) m o a p w → v ≡ w
one_variable S n early m o a p v w (inl h) (inl k) = one_first S n early m o a p v w h k
one_variable S n early m o a p v w (inl h) (inr k) = absurd (first_or_later S (Rounds S n) (Holds S) m o a p v w h k)
one_variable S n early m o a p v w (inr h) (inl k) = absurd (first_or_later S (Holds S) (Rounds S n) m o a p w v k h)
one_variable S n early m o a p v w (inr h) (inr k) = one_later S n early m o a p v w h k

-- a loop has one predicate
one_predicate : (S : Source) (n h g w x t u l m : ℕ) → LoopStands S.checked n h w t l → LoopStands S.checked n g x u m
    → t ≡ u
one_predicate S n h g w x t u l m s r =
    let e : Loop h w l ≡ Loop g x m = sym s.loop.node ∙ r.loop.node in
    let q : w ≡ x = cc in
    let k : Switches t ≡ Switches u =
    sym s.switches.node ∙ ap (λ i. (at (rows S.checked) i).node) q ∙ r.switches.node in
    cc

-- a loop with a predicate has no index
no_predicate : (S : Source) (n w x a b l h t k : ℕ) → LoopStands S.checked n h w t l → ForStands S.checked n w x a b k
    → ⊥
no_predicate S n w x a b l h t k s r =
    false≢true (sym s.predicate ∙ within-there S.checked w t x r.name s.switches.node r.index r.behind)

-- a `for` has one index and one pair of bounds
record IsSameFor (x a b y c d : ℕ) : Type 0 where
  pub index : x ≡ y
  pub lower : a ≡ c
  pub upper : b ≡ d

one_for : (S : Source) (n m w x a b l v y c d k : ℕ) → ForStands S.checked n w x a b l → ForStands S.checked m v y c d k
    → n ≡ m → IsSameFor x a b y c d
one_for S n m w x a b l v y c d k s r q =
    let R = rows S.checked in
    let e : Loop s.head w l ≡ Loop r.head v k = sym s.loop.node ∙ ap (λ i. (at R i).node) q ∙ r.loop.node in
    let h : s.head ≡ r.head = cc in
    let z : w ≡ v = cc in
    let f : Bounds a b ≡ Bounds c d = sym s.bounds.node ∙ ap (λ i. (at R (bounds_row i)).node) h ∙ r.bounds.node in
    let i : a ≡ c = cc in
    let j : b ≡ d = cc in
    record { index = s.behind ∙ ap index_row z ∙ sym r.behind; lower = i; upper = j }

-- an index Has one first value
one_begun : (S : Source) (m : ℕ) → Earlier S m → (x : ℕ) (p : Path) (v w : SourceValue) → IsBegun S (Rounds S m) x p v
    → IsBegun S (Holds S) x p w → v ≡ w
one_begun S m early x p v w h k =
    let P = S.checked in
    let z = below-once h.outer k.outer (place P h.row) (place P k.row) 0 0 (sym h.path ∙ k.path) in
    let s = h.loop.loop in
    let r = k.loop.loop in
    let n = (apart_of P).apart h.row k.row s.within r.within (ap is_thing s.node) (ap is_thing r.node) z.1 in
    let c = one_for S h.row k.row h.switches x h.lower h.upper h.last k.switches x k.lower k.upper k.last h.loop k.loop
    n in
    let A : Path → Type 0 = λ q. Holds S (Has q (place P k.lower) (value.Int k.low)) in
    let B : ℕ → Type 0 = λ i. Holds S (Has h.outer (place P i) (value.Int k.low)) in
    h.gives ∙ early h.outer (place P h.lower) (value.Int h.low) (value.Int k.low) h.has
    (subst B (sym c.lower) (subst A (sym z.0) k.has)) ∙ sym k.gives

int_same : (i j : ℤ) → value.Int i ≡ value.Int j → i ≡ j
int_same i j e = cc

-- and one in each later iteration
one_counted : (S : Source) (m : ℕ) → Earlier S m → (x : ℕ) (p : Path) (v w : SourceValue)
    → IsCounted S (Rounds S m) x p v → IsCounted S (Holds S) x p w → v ≡ w
one_counted S m early x p v w h k =
    let P = S.checked in
    let L = place P h.row in
    let z = below-once h.outer k.outer L (place P k.row) (suc h.number) (suc k.number) (sym h.path ∙ k.path) in
    let i : h.number ≡ k.number = (let e = z.2 in omega arith) in
    let A : ℕ → Type 0 = λ e. Holds S (Has (below k.outer e k.number) (place P x) (value.Int k.index)) in
    let B : Path → Type 0 = λ q. Holds S (Has (below q L k.number) (place P x) (value.Int k.index)) in
    let C : ℕ → Type 0 = λ j. Holds S (Has (below h.outer L j) (place P x) (value.Int k.index)) in
    let e = early (below h.outer L h.number) (place P x) (value.Int h.index) (value.Int k.index) h.has
    (subst C (sym i) (subst B (sym z.0) (subst A (sym z.1) k.has))) in
    h.gives ∙ ap (λ j. value.Int (j +ℤ pos 1)) (int_same h.index k.index e) ∙ sym k.gives

begun_or_counted : (S : Source) (F G : Fact → Type 0) (x : ℕ) (p : Path) (v w : SourceValue) → IsBegun S F x p v
    → IsCounted S G x p w → ⊥
begun_or_counted S F G x p v w h k =
    let z = below-once h.outer k.outer (place S.checked h.row) (place S.checked k.row) 0 (suc k.number) (sym h.path
    ∙ k.path) in
    let e = z.2 in
    omega arith

one_index : (S : Source) (m : ℕ) → Earlier S m → (x : ℕ) (p : Path) (v w : SourceValue)
    → IsBegun S (Rounds S m) x p v ⊎ IsCounted S (Rounds S m) x p v
    → IsBegun S (Holds S) x p w ⊎ IsCounted S (Holds S) x p w → v ≡ w
one_index S m early x p v w (inl h) (inl k) = one_begun S m early x p v w h k
one_index S m early x p v w (inl h) (inr k) = absurd (begun_or_counted S (Rounds S m) (Holds S) x p v w h k)
one_index S m early x p v w (inr h) (inl k) = absurd (begun_or_counted S (Holds S) (Rounds S m) x p w v k h)
one_index S m early x p v w (inr h) (inr k) = one_counted S m early x p v w h k

truth-same : (b c : Truth) → Bool b ≡ Bool c → b ≡ c
truth-same b c e = cc

-- in one iteration a loop either goes on or not
one_way : (S : Source) (m : ℕ) → Earlier S m → (n w : ℕ) (p : Path) (k : ℕ) (b c : Truth) {fs gs : List Fact}
    → GoesOn S n w p k b fs → GoesOn S n w p k c gs → Every (Rounds S m) fs → Every (Holds S) gs → b ≡ c
one_way S m early n w p k b c (by_predicate {h = h} {t = t} {l = l} i s) (by_predicate {h = g} {t = u} {l = j} d r) x
    y =
    let L = place S.checked n in
    let q = one_predicate S n h g w w t u l j s r in
    let A : ℕ → Type 0 = λ e. Holds S (Has (below p L k) (place S.checked e) (Bool c)) in
    truth-same b c (early (below p L k) (place S.checked t) (Bool b) (Bool c) x.0 (subst A (sym q) y.0))
one_way S m early n w p k b c (by_predicate {h = h} {t = t} {l = l} i s) (by_bounds {x = x} {a = u} {b = v} {l = j} r e)
    f g =
    absurd (no_predicate S n w x u v l h t j s r)
one_way S m early n w p k b c (by_predicate {h = h} {t = t} {l = l} i s) (by_index {x = x} {a = u} {b = v} {l =
    j} d r e) f g =
    absurd (no_predicate S n w x u v l h t j s r)
one_way S m early n w p k b c (by_bounds {x = x} {a = u} {b = v} {l = j} r e) (by_predicate {h = h} {t = t} {l = l} i s)
    f g =
    absurd (no_predicate S n w x u v l h t j s r)
one_way S m early n w p k b c (by_index {x = x} {a = u} {b = v} {l = j} d r e) (by_predicate {h = h} {t = t} {l =
    l} i s) f g =
    absurd (no_predicate S n w x u v l h t j s r)
one_way S m early n w p k b c (by_bounds {x = x} {a = u} {b = v} {l = l} {lo = lo} {hi = hi} s e)
    (by_bounds {x = y} {a = d} {b = i} {l = j} {lo = low} {hi = high} r q) f g =
    let P = S.checked in
    let z = one_for S n n w x u v l w y d i j s r refl in
    let A : ℕ → Type 0 = λ h. Holds S (Has p (place P h) (value.Int low)) in
    let B : ℕ → Type 0 = λ h. Holds S (Has p (place P h) (value.Int high)) in
    let a = int_same lo low (early p (place P u) (value.Int lo) (value.Int low) f.1.0 (subst A (sym z.lower) g.1.0)) in
    let h = int_same hi high
    (early p (place P v) (value.Int hi) (value.Int high) f.1.1.0 (subst B (sym z.upper) g.1.1.0)) in
    sym e ∙ ap (λ k. int_le k hi) a ∙ ap (λ k. int_le low k) h ∙ q
one_way S m early n w p k b c (by_index {x = x} {a = u} {b = v} {l = l} {i = ix} {hi = hi} o s e)
    (by_index {x = y} {a = d} {b = i} {l = j} {i = iy} {hi = high} t r q) f g =
    let P = S.checked in
    let z = one_for S n n w x u v l w y d i j s r refl in
    let h = below p (place P n) o in
    let A : ℕ → Type 0 = λ m. Holds S (Has h (place P m) (value.Int iy)) in
    let B : ℕ → Type 0 = λ m. Holds S (Has p (place P m) (value.Int high)) in
    let a = int_same ix iy (early h (place P x) (value.Int ix) (value.Int iy) f.0 (subst A (sym z.index) g.0)) in
    let c = int_same hi high
    (early p (place P v) (value.Int hi) (value.Int high) f.1.0 (subst B (sym z.upper) g.1.0)) in
    sym e ∙ ap (λ k. int_lt k hi) a ∙ ap (λ k. int_lt iy k) c ∙ q

-- a loop is left in one iteration: in those before it it goes on, and there it does not
one_left : (S : Source) (m : ℕ) → Earlier S m → (n l : ℕ) (p : Path) (v w : SourceValue) → IsLeft S (Rounds S m) n l p v
    → IsLeft S (Holds S) n l p w → v ≡ w
one_left S m early n l p v w h k =
    let P = S.checked in
    let L = place P n in
    let r = k.has.round in
    let e : Loop k.head k.switches l ≡ Loop h.head h.switches l = sym k.loop.node ∙ h.loop.node in
    let q : k.switches ≡ h.switches = cc in
    let mine = false-there S m (all-fine S m) n h.head h.switches l h.number p v h.loop h.has in
    let A : ℕ → Type 0 = λ s. GoesIn S (Rounds S r) n s p k.number false in
    let other = subst A q (false-there S r (all-fine S r) n k.head k.switches l k.number p w k.loop k.has.there) in
    let W = h.switches in
    elim (cases_lt h.number k.number) [
      | inl c ↦
          let x = true-below S r (all-fine S r) n W h.number false p k.number c other in
          absurd (false≢true
          (one_way S m early n W p h.number false true mine.goes x.goes mine.hold (every_holds S r x.facts x.hold)))
      | inr c ↦ elim (cases_lt k.number h.number) [
        | inl d ↦
            let x = true-below S m (all-fine S m) n W k.number false p h.number d mine in
            absurd (false≢true
            (sym (one_way S m early n W p k.number true false x.goes other.goes x.hold
            (every_holds S r other.facts other.hold))))
        | inr d ↦
            let e : k.number ≡ h.number = omega arith in
            let A : ℕ → Type 0 = λ i. Holds S (Has (below p L i) (place P l) w) in
            early (below p L h.number) (place P l) v w h.has (subst A e k.has)
      ]
    ]

-- ---- what is asked for and put

asked-round : (S : Source) (n : ℕ) (f s : Site) (j : ℤ) → Rounds S n (ask f s j) → IsAsked S (Rounds S n) f s j
asked-round S n f s j h = let r = again S n (ask f s j) h in asked_by (Rounds S n) r.1 r.2

asked-held : (S : Source) (f s : Site) (j : ℤ) → Holds S (ask f s j) → IsAsked S (Holds S) f s j
asked-held S f s j h = let b = because S h.round (ask f s j) h.there in asked_by (Holds S) b.rule b.hold

fetches-round : (S : Source) (n : ℕ) → Fetches S (Rounds S n)
fetches-round S n f s j h = (asked-round S n f s j h).fetch

fetches-held : (S : Source) → Fetches S (Holds S)
fetches-held S f s j h = (asked-held S f s j h).fetch

put-round : (S : Source) (n : ℕ) (s a : Site) (j : ℤ) (v : SourceValue) → Rounds S n (put s j v a)
    → IsPut S (Rounds S n) a v
put-round S n s a j v h = let r = again S n (put s j v a) h in put_by (Rounds S n) r.1 r.2

put-held : (S : Source) (s a : Site) (j : ℤ) (v : SourceValue) → Holds S (put s j v a) → IsPut S (Holds S) a v
put-held S s a j v h = let b = because S h.round (put s j v a) h.there in put_by (Holds S) b.rule b.hold

made-round : (S : Source) (n : ℕ) (s : Site) (lo hi : ℤ) → Rounds S n (shape s lo hi) → IsMade S (Rounds S n) s lo hi
made-round S n s lo hi h = let r = again S n (shape s lo hi) h in made_by (Rounds S n) r.1 r.2

made-held : (S : Source) (s : Site) (lo hi : ℤ) → Holds S (shape s lo hi) → IsMade S (Holds S) s lo hi
made-held S s lo hi h = let b = because S h.round (shape s lo hi) h.there in made_by (Holds S) b.rule b.hold

-- one fetch asks for one cell
record IsSameCell (s t : Site) (i j : ℤ) : Type 0 where
  pub name : s ≡ t
  pub index : i ≡ j

one_fetch : (S : Source) (f : Site) (x y : IsFetch S f) → (x.target ≡ y.target) × (x.index ≡ y.index)
one_fetch S f x y =
    let R = rows S.checked in
    let q : x.row ≡ y.row =
    (apart_of S.checked).apart x.row y.row x.stands.within y.stands.within (ap is_thing x.stands.node)
    (ap is_thing y.stands.node) (x.here ∙ sym y.here) in
    let k : Fetch x.target x.index ≡ Fetch y.target y.index =
    sym x.stands.node ∙ ap (λ i. (at R i).node) q ∙ y.stands.node in
    let t : x.target ≡ y.target = cc in
    let i : x.index ≡ y.index = cc in
    (t, i)

one_cell : (S : Source) (n : ℕ) → Earlier S n → (f s t : Site) (i j : ℤ) → IsAsked S (Rounds S n) f s i
    → IsAsked S (Holds S) f t j → IsSameCell s t i j
one_cell S n early f s t i j x y =
    let q = one_fetch S f x.fetch y.fetch in
    let A : ℕ → Type 0 = λ e. Holds S (Has f.path (place S.checked e) (value.Name t)) in
    let B : ℕ → Type 0 = λ e. Holds S (Has f.path (place S.checked e) (value.Int j)) in
    let a = early f.path (place S.checked x.fetch.target) (value.Name s) (value.Name t) x.target
    (subst A (sym q.0) y.target) in
    let b = early f.path (place S.checked x.fetch.index) (value.Int i) (value.Int j) x.index
    (subst B (sym q.1) y.index) in
    let name : s ≡ t = cc in
    let index : i ≡ j = cc in
    record { name = name; index = index }

-- without a fault one store puts something into a cell
one_store : (S : Source) → FaultFree S → (s a b : Site) (j : ℤ) (v w : SourceValue) → Holds S (put s j v a)
    → Holds S (put s j w b) → a ≡ b
one_store S free s a b j v w h k = elim (site-order a b) [
  | inl x ↦
      absurd (free (SecondStore s j a b) (record {
        premises = put s j v a ∷ put s j w b ∷ [];
        rule = second_store x;
        hold = (h, (k, tt));
      }))
  | inr (inl x) ↦ x
  | inr (inr x) ↦
      absurd (free (SecondStore s j b a) (record {
        premises = put s j w b ∷ put s j v a ∷ [];
        rule = second_store x;
        hold = (k, (h, tt));
      }))
]

-- and one value
one_value : (S : Source) (x y : ℕ) (m l t u i j : ℕ) → StoreStands S.checked m t i x → StoreStands S.checked l u j y
    → place S.checked m ≡ place S.checked l →
    x ≡ y
one_value S x y m l t u i j g h e =
    let R = rows S.checked in
    let q : m ≡ l =
    (apart_of S.checked).apart m l g.store.within h.store.within (ap is_thing g.store.node) (ap is_thing h.store.node)
    e in
    let k : Store g.address x ≡ Store h.address y = sym g.store.node ∙ ap (λ c. (at R c).node) q ∙ h.store.node in
    cc

one_put : (S : Source) (n : ℕ) → Earlier S n → (a : Site) (v w : SourceValue) → IsPut S (Rounds S n) a v
    → IsPut S (Holds S) a w → v ≡ w
one_put S n early a v w x y =
    let q : x.value ≡ y.value =
    one_value S x.value y.value x.row y.row x.target y.target x.index y.index x.stands y.stands (x.here ∙ sym y.here) in
    let A : ℕ → Type 0 = λ e. Holds S (Has a.path (place S.checked e) w) in
    early a.path (place S.checked x.value) v w x.has (subst A (sym q) y.has)

-- a fetch Has one value
one_fetched : (S : Source) → FaultFree S → (m : ℕ) → Earlier S m → (n : ℕ) (p : Path) (v w : SourceValue)
    → IsFetched S (Rounds S m) n p v → IsFetched S (Holds S) n p w → v ≡ w
one_fetched S free m early n p v w x y =
    let f = site p (place S.checked n) in
    let c = one_cell S m early f x.name y.name x.cell y.cell (asked-round S m f x.name x.cell x.asks)
    (asked-held S f y.name y.cell y.asks) in
    let A : Site → Type 0 = λ s. Holds S (put s y.cell w y.store) in
    let B : ℤ → Type 0 = λ j. Holds S (put x.name j w y.store) in
    let k = subst B (sym c.index) (subst A (sym c.name) y.puts) in
    let q : x.store ≡ y.store =
    one_store S free x.name x.store y.store x.cell v w (record { round = m; there = x.puts }) k in
    let C : Site → Type 0 = λ s. Holds S (put x.name x.cell w s) in
    one_put S m early x.store v w (put-round S m x.name x.store x.cell v x.puts)
    (put-held S x.name x.store x.cell w (subst C (sym q) k))

-- what follows at a node is one value
one_at_node : (S : Source) → FaultFree S → (m : ℕ) → Earlier S m → (n : ℕ) (z : Node) (p : Path) (v w : SourceValue)
    → Follows S (Rounds S m) n z p v → Follows S (Holds S) n z p w → v ≡ w
one_at_node S free m early n (Literal c) p v w h k = h ∙ sym k
one_at_node S free m early n (Unary o a) p v w h k =
    let c = same-constant h.0 k.0 (early p _ _ _ h.2 k.2) in
    let x = one_outcome _ _ (ap (λ d. result_of_unary o d) c) h.3 k.3 in
    h.4 ∙ ap value_of x ∙ sym k.4
one_at_node S free m early n (Binary o a b) p v w h k =
    let c = same-constant h.0 k.0 (early p _ _ _ h.3 k.3) in
    let d = same-constant h.1 k.1 (early p _ _ _ h.4 k.4) in
    let x = one_outcome _ _ (λ i. result_of_binary o (c i) (d i)) h.5 k.5 in
    h.6 ∙ ap value_of x ∙ sym k.6
one_at_node S free m early n (Name y) p v w h k =
    let s : Some k.0 ≡ Some h.0 = sym k.1 ∙ h.1 in
    let q : k.0 ≡ h.0 = cc in
    let P : ℕ → Type 0 = λ b. Holds S (Has (without (between S n b) p) (place S.checked b) w) in
    early (without (between S n h.0) p) (place S.checked h.0) v w h.2 (subst P q k.2)
one_at_node S free m early n (If s x y) p v w h k =
    let t = one_test k.3 h.3 in
    let there : Holds S (Has p (place S.checked h.0) (value_of (constant.Bool k.1))) =
    subst (λ i. Holds S (Has p (place S.checked i) (value_of (constant.Bool k.1)))) t k.4 in
    let c = same-constant (constant.Bool h.1) (constant.Bool k.1) (early p _ _ _ h.4 there) in
    let b : h.1 ≡ k.1 = cc in
    let a = one_arm k.3 h.3 (sym b) in
    early p _ v w h.5 (subst (λ i. Holds S (Has p (place S.checked i) w)) a k.5)
one_at_node S free m early n (Call e c) p v w h k =
    let q = one_call h.0 k.0 refl in
    let F : ℕ → Type 0 = λ b. Holds S (Has (below p (place S.checked n) 0) (place S.checked b) w) in
    early (below p (place S.checked n) 0) (place S.checked h.0.body) v w h.1 (subst F (sym q.body) k.1)
one_at_node S free m early n (Block b) p v w h k = early p _ v w h k
one_at_node S free m early n (Loop g x l) p v w h k = one_left S m early n l p v w h k
one_at_node S free m early n (Next y i o a) p v w h k = one_variable S m early n o a p v w h k
one_at_node S free m early n (Index y) p v w h k = one_index S m early n p v w h k
one_at_node S free m early n (Binding y a) p v w h k = early p _ v w h k
one_at_node S free m early n (Array nested a b) p v w h k = h ∙ sym k
one_at_node S free m early n (Fetch t i) p v w h k = one_fetched S free m early n p v w h k
one_at_node S free m early n (Param y k) p v w h l = one_param S m early n p v w h l
one_at_node S free m early n _ p v w h k = absurd h

one_by_round : (S : Source) → FaultFree S → (n : ℕ) → Earlier S n
one_by_round S free zero p e v w h k = absurd h
one_by_round S free (suc n) p e v w (inl h) k = one_by_round S free n p e v w h k
one_by_round S free (suc n) p e v w (inr t) k =
    let f = follows_by (Rounds S n) (fetches-round S n) t.1 t.2 in
    let b = because S k.round _ k.there in
    let g = follows_by (Holds S) (fetches-held S) b.rule b.hold in
    one_at_node S free n (one_by_round S free n) f.row f.node p v w f.follows
    (follows_at (Holds S) f.row f.node f.stands f.thing f.here g)

-- each path and place has at most one value
pub one-value : (S : Source) → FaultFree S → (p : Path) (e : ℕ) (v w : SourceValue) → Holds S (Has p e v)
    → Holds S (Has p e w) → v ≡ w
one-value S free p e v w h k = one_by_round S free h.round p e v w h.there k

-- each structure has one shape
one-shape : (S : Source) → FaultFree S → (s : Site) (lo hi low high : ℤ) → Holds S (shape s lo hi)
    → Holds S (shape s low high) → (lo ≡ low) × (hi ≡ high)
one-shape S free s lo hi low high h k =
    let R = rows S.checked in
    let x = made-held S s lo hi h in
    let y = made-held S s low high k in
    let q : x.row ≡ y.row =
    (apart_of S.checked).apart x.row y.row x.stands.within y.stands.within (ap is_thing x.stands.node)
    (ap is_thing y.stands.node) (x.here ∙ sym y.here) in
    let e : Array x.nested x.low x.high ≡ Array y.nested y.low y.high =
    sym x.stands.node ∙ ap (λ i. (at R i).node) q ∙ y.stands.node in
    let l : x.low ≡ y.low = cc in
    let m : x.high ≡ y.high = cc in
    let A : ℕ → Type 0 = λ i. Holds S (Has s.path (place S.checked i) (value.Int low)) in
    let B : ℕ → Type 0 = λ i. Holds S (Has s.path (place S.checked i) (value.Int high)) in
    let a = one-value S free s.path (place S.checked x.low) (value.Int lo) (value.Int low) x.lowest
    (subst A (sym l) y.lowest) in
    let b = one-value S free s.path (place S.checked x.high) (value.Int hi) (value.Int high) x.highest
    (subst B (sym m) y.highest) in
    let c : lo ≡ low = cc in
    let d : hi ≡ high = cc in
    (c, d)

-- and into each cell one store puts one value
one-cell : (S : Source) → FaultFree S → (s : Site) (j : ℤ) (v w : SourceValue) (a b : Site) → Holds S (put s j v a)
    → Holds S (put s j w b) → (v ≡ w) × (a ≡ b)
one-cell S free s j v w a b h k =
    let q = one_store S free s a b j v w h k in
    let C : Site → Type 0 = λ c. Holds S (put s j w c) in
    let x = put-held S s a j v h in
    let n = x.has.round in
    let y = put-held S s a j w (subst C (sym q) k) in
    let r : x.value ≡ y.value =
    one_value S x.value y.value x.row y.row x.target y.target x.index y.index x.stands y.stands (x.here ∙ sym y.here) in
    let A : ℕ → Type 0 = λ e. Holds S (Has a.path (place S.checked e) w) in
    (one-value S free a.path (place S.checked x.value) v w x.has (subst A (sym r) y.has), q)

-- a source without a fault is coherent
pub coherence : (S : Source) → FaultFree S → IsCoherent S
coherence S free = record { values = one-value S free; shapes = one-shape S free; puts = one-cell S free }
