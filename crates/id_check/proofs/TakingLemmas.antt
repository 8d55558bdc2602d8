-- A scope takes its binders, row by row.
use Rattle.std.proofs.Common.{◌≡◌, ◌≢◌, ◌⊎◌, inl, inr, ◌+◌, ◌<◌, ◌≤◌, ℕ, zero, suc, Bool, true, false, List, Option}
use Rattle.std.proofs.Common.{Some, None, length, get_or, set, refl, ap, sym, ◌∙◌, subst, add-one, arith}
use Rattle.std.specs.Prelude.{◌&&◌, ◌||◌, if◌then◌else◌}
use Rattle.std.specs.Option.{option_or}
use Rattle.std.proofs.lemmas.Bool.{cases_eq, cases_lt}
use Rattle.std.proofs.lemmas.Bool.Decides.{nat_tests}
use Rattle.std.proofs.lemmas.List.{get_or_default, get_or_past, length-set}
use Rattle.id_table.specs.declared.row.Row.{Row}
use Rattle.id_table.specs.Rows.{at}
use Rattle.id_check.specs.declared.scope.Bound.{Bound}
use Rattle.id_check.specs.Scopes.{binder_at, binder_in, binds, bound_name, confines, held, is_free, is_name, is_scope}
use Rattle.id_check.specs.Scopes.{keeps, sees, sees_own, used_name}
use Rattle.id_check.specs.Causes.{repeated, second, seconds}
use Rattle.id_check.specs.Names.{AreBound, AreHeld, AreNames, AreTaken, IsBinding, IsFresh, IsOpen, IsTaking, again}
use Rattle.id_check.specs.Names.{in_scope, newly, seen}
use Rattle.id_check.proofs.FillsLemmas.{fill_done, fill_rest}
use Rattle.id_check.proofs.ScopesLemmas.{binder_at-step, binder_in-open, binder_in-shut, binds_open, binds_none}
use Rattle.id_check.proofs.ScopesLemmas.{binds_shut, keeps_below, keeps_no_scope, confines_none, keeps_behind}
use Rattle.id_check.proofs.ScopesLemmas.{keeps_own, name_same}
use Rattle.id_check.proofs.ScopesLemmas.{or_false, or_first, or_none, or_true, second-open, seconds-shut}

-- ---- it begins

seen-none : (R : List Row) (s i : ℕ) (o : Option ℕ) → seen R s zero i o ≡ None
seen-none R s i None = refl
seen-none R s i (Some x) = by (sees R s i)
  where
    by : (t : Bool) → (if t then binder_in R s x zero else None) ≡ None
    by true = refl
    by false = refl

pub taking_start : (R : List Row) (s : ℕ) (bs : List (Option Bound)) (os : List (Option ℕ)) → IsFresh s bs
    → AreBound R s os → IsTaking R s 0 bs os
taking_start R s bs os f b = record {
  bound = record { each = λ x c. f.each x s (omega arith) };
  later = λ x t c. f.each x t (omega arith);
  binders = record {
    long = b.long;
    each = λ i c. b.each i c
        ∙ sym (or_none (binder_at R s i) (seen R s 0 i (used_name (at R i).node))
        (seen-none R s i (used_name (at R i).node)));
  };
}

-- ---- it ends

pub taking_end : (R : List Row) (s : ℕ) (bs : List (Option Bound)) (os : List (Option ℕ)) → IsTaking R s s bs os
    → IsFresh (s + 1) bs × AreBound R (s + 1) os
taking_end R s bs os h = (
  record { each = λ x t c. h.later x t (omega arith) },
  subst (λ n. AreBound R n os) (sym (add-one s)) (record {
    long = h.binders.long;
    each =
        λ i c. h.binders.each i c ∙ sym (binder_at-step R s i);
  }),
)

-- one scope more is passed
pub taking_next : (R : List Row) (s : ℕ) (bs : List (Option Bound)) (os : List (Option ℕ)) → IsTaking R s s bs os
    → IsTaking R (s + 1) 0 bs os
taking_next R s bs os h = let end = taking_end R s bs os h in taking_start R (s + 1) bs os end.0 end.1

-- what is bound where a scope begins
pub taking_bound : (R : List Row) (s : ℕ) (bs : List (Option Bound)) (os : List (Option ℕ)) → IsTaking R s 0 bs os
    → AreBound R s os
taking_bound R s bs os h = record {
  long = h.binders.long;
  each = λ i c. h.binders.each i c
      ∙ or_none (binder_at R s i) (seen R s 0 i (used_name (at R i).node)) (seen-none R s i (used_name (at R i).node));
}

-- ---- a row that the scope does not take

-- nothing changes at the row b
pub record IsShut (R : List Row) (s b : ℕ) : Type 0 where
  pub binds : (x : ℕ) → binds R s x b ≡ false
  pub held : (held R b s || confines R s b) ≡ held R b s

pub shut_held : (R : List Row) (s b : ℕ) → held R b s ≡ true → IsShut R s b
shut_held R s b e = record { binds = λ x. binds_shut R s x b e; held = or_first (held R b s) (confines R s b) e }

pub shut_kept : (R : List Row) (s b : ℕ) → keeps R s b ≡ false → IsShut R s b
shut_kept R s b e =
    record { binds = λ x. binds_none R s x b e; held = or_false (held R b s) (confines R s b) (confines_none R s b e) }

seen-shut : (R : List Row) (s b i : ℕ) (o : Option ℕ) → ((x : ℕ) → binds R s x b ≡ false)
    → seen R s (suc b) i o ≡ seen R s b i o
seen-shut R s b i None h = refl
seen-shut R s b i (Some x) h = ap (λ o. if sees R s i then o else None) (sym (binder_in-shut R s x b (h x)))

pub taking_shut : (R : List Row) (s b : ℕ) (bs : List (Option Bound)) (os : List (Option ℕ))
    → ((x : ℕ) → binds R s x b ≡ false) → IsTaking R s b bs os
    → IsTaking R s (suc b) bs os
taking_shut R s b bs os u h = record {
  bound = record { each = λ x c. h.bound.each x c ∙ binder_in-shut R s x b (u x) };
  later = h.later;
  binders = record {
    long = h.binders.long;
    each = λ i c. h.binders.each i c ∙
        ap (option_or (binder_at R s i)) (sym (seen-shut R s b i (used_name (at R i).node) u));
  };
}

-- the rows from n up to m are not taken
pub taking_gap : (R : List Row) (s n m : ℕ) (bs : List (Option Bound)) (os : List (Option ℕ)) → n ≤ m
    → ((b : ℕ) → n ≤ b → b < m → IsShut R s b) → IsTaking R s n bs os → IsTaking R s m bs os
taking_gap R s n zero bs os less u h = let e : n ≡ zero = omega arith in subst (λ k. IsTaking R s k bs os) e h
taking_gap R s n (suc m) bs os less u h =
    by (cases_lt m n) (λ c. taking_gap R s n m bs os c (λ b d e. u b d (omega arith)) h)
  where
    by : (m < n) ⊎ (n ≤ m) → (n ≤ m → IsTaking R s m bs os) → IsTaking R s (suc m) bs os
    by (inl c) r = let e : n ≡ suc m = omega arith in subst (λ k. IsTaking R s k bs os) e h
    by (inr c) r = taking_shut R s m bs os (u m c (omega arith)).binds (r c)

-- a row that is no scope takes nothing
pub taking_none : (R : List Row) (s : ℕ) (bs : List (Option Bound)) (os : List (Option ℕ))
    → is_scope (at R s).node ≡ false → IsTaking R s 0 bs os → IsTaking R (s + 1) 0 bs os
taking_none R s bs os e h =
    taking_next R s bs os (taking_gap R s 0 s bs os (omega arith) (λ b c d. shut_kept R s b (keeps_no_scope R s b e)) h)

pub seconds_gap : (R : List Row) (s n m : ℕ) → n ≤ m → ((b : ℕ) → n ≤ b → b < m → IsShut R s b)
    → seconds R s m ≡ seconds R s n
seconds_gap R s n zero less u = let e : n ≡ zero = omega arith in ap (seconds R s) (sym e)
seconds_gap R s n (suc m) less u = by (cases_lt m n) (λ c. seconds_gap R s n m c (λ b d e. u b d (omega arith)))
  where
    by : (m < n) ⊎ (n ≤ m) → (n ≤ m → seconds R s m ≡ seconds R s n) → seconds R s (suc m) ≡ seconds R s n
    by (inl c) r = let e : n ≡ suc m = omega arith in ap (seconds R s) (sym e)
    by (inr c) r = seconds-shut R s m (u m c (omega arith)).binds ∙ r c

-- a row that is not in the list of those that no scope has closed is not taken
pub shut_between : (R : List Row) (s k b : ℕ) (ps : List ℕ) → IsOpen R s s ps → b < s
    → ((j : ℕ) → j < k → j < length ps → get_or ps j 0 < b) → b < get_or ps k s → IsShut R s b
shut_between R s k b ps h less before behind = by (held R b s) refl (sees_own (at R b).node) refl
  where
    out : (j : ℕ) → j < length ps → get_or ps j 0 ≡ b → ⊥
    out j c e = at_one (cases_lt j k)
      where
        at_one : (j < k) ⊎ (k ≤ j) → ⊥
        at_one (inl d) = let f = before j d c in omega arith
        at_one (inr d) = on (cases_lt k j)
          where
            here : get_or ps k s ≡ get_or ps k 0
            here = get_or_default ps k s 0 (omega arith)

            on : (k < j) ⊎ (j ≤ k) → ⊥
            on (inl f) = let g = h.order k j f c in let i = here in omega arith
            on (inr f) = let g : k ≡ j = omega arith in let i = here ∙ ap (λ z. get_or ps z 0) g in omega arith

    by : (t : Bool) → held R b s ≡ t → (o : Bool) → sees_own (at R b).node ≡ o → IsShut R s b
    by true e o f = shut_held R s b e
    by false e true f = shut_kept R s b (keeps_own R s b f)
    by false e false f = let w = h.all b less f e in absurd (out w.0 w.1 w.2)

-- where the list of rows goes on is no later than s
within : (ps : List ℕ) (s k : ℕ) → ((j : ℕ) → j < length ps → get_or ps j 0 < s) → get_or ps k s ≤ s
within ps s k h = by (cases_lt k (length ps))
  where
    by : (k < length ps) ⊎ (length ps ≤ k) → get_or ps k s ≤ s
    by (inl c) = let e = get_or_default ps k s 0 c in let d = h k c in omega arith
    by (inr c) = let e = get_or_past ps k s c in omega arith

-- before the first row that the list has in the scope nothing is taken
pub shut_start : (R : List Row) (s k b : ℕ) (ps : List ℕ) → IsOpen R s s ps
    → ((j : ℕ) → j < k → get_or ps j 0 < (at R s).first) → b < get_or ps k s
    → IsShut R s b
shut_start R s k b ps h f less = by (cases_lt b (at R s).first)
  where
    by : (b < (at R s).first) ⊎ ((at R s).first ≤ b) → IsShut R s b
    by (inl c) = shut_kept R s b (keeps_below R s b c)
    by (inr c) =
        let e = within ps s k h.below in
        shut_between R s k b ps h (omega arith) (λ j d g. let i = f j d in omega arith) less

before : (ps : List ℕ) → ((j k : ℕ) → j < k → k < length ps → get_or ps j 0 < get_or ps k 0) → (j k : ℕ) → j < k + 1
    → k < length ps → get_or ps j 0 ≤ get_or ps k 0
before ps h j k less low = by (cases_lt j k)
  where
    by : (j < k) ⊎ (k ≤ j) → get_or ps j 0 ≤ get_or ps k 0
    by (inl c) = let d = h j k c low in omega arith
    by (inr c) = let e : j ≡ k = omega arith in let d = ap (λ z. get_or ps z 0) e in omega arith

-- nor between two rows of the list
pub shut_next : (R : List Row) (s k : ℕ) (ps : List ℕ) → IsOpen R s s ps → k < length ps
    → (get_or ps k 0 + 1 ≤ get_or ps (k + 1) s)
    × ((a : ℕ) → get_or ps k 0 + 1 ≤ a → a < get_or ps (k + 1) s → IsShut R s a)
shut_next R s k ps o less = (
  next (cases_lt (k + 1) (length ps)),
  λ a d e. let end = within ps s (k + 1) o.below in shut_between R s (k + 1) a ps o (omega arith)
      (λ j f g. let h = before ps o.order j k f less in omega arith) e,
)
  where
    next : (k + 1 < length ps) ⊎ (length ps ≤ k + 1) → get_or ps k 0 + 1 ≤ get_or ps (k + 1) s
    next (inl d) =
        let e = get_or_default ps (k + 1) s 0 d in
        let f = o.order k (k + 1) (omega arith) d in
        omega arith
    next (inr d) =
        let e = get_or_past ps (k + 1) s d in
        let f = o.below k less in
        omega arith

-- ---- a row that the scope takes

is_name-not : (x y : ℕ) → y ≢ x → is_name y (Some x) ≡ false
is_name-not x y e = grind (arith, nat_tests)

is_name-other : (x y : ℕ) → y ≢ x → is_name x (Some y) ≡ false
is_name-other x y e = grind (arith, nat_tests)

-- what a row gets where the row b binds x in s
seen_more : (R : List Row) (s b x i : ℕ) (bs : List (Option Bound)) (p : Option ℕ) → keeps R s b ≡ true
    → held R b s ≡ false → bound_name (at R b).node ≡ Some x
    → in_scope s (get_or bs x None) ≡ binder_in R s x b → (o : Option ℕ) → used_name (at R i).node ≡ o
    → option_or (option_or p (seen R s b i o)) (newly R s b bs (Some x) i) ≡ option_or p (seen R s (suc b) i o)
seen_more R s b x i bs p is bare bound noted None e =
    or_none (option_or p None) (newly R s b bs (Some x) i)
    (ap (λ o. if is_free (in_scope s (get_or bs x None)) && (sees R s i && is_name x o) then Some b else None) e
    ∙ ap (λ t. if t then Some b else None) (and_last (is_free (in_scope s (get_or bs x None))) (sees R s i)))
  where
    and_last : (a c : Bool) → a && (c && false) ≡ false
    and_last true true = refl
    and_last true false = refl
    and_last false c = refl
seen_more R s b x i bs p is bare bound noted (Some y) e = one (cases_eq y x)
  where
    bind : (z : ℕ) → binds R s z b ≡ is_name z (Some x)
    bind z = binds_open R s z b is bare ∙ ap (is_name z) bound

    -- what the row gets in the end, by the tests of names
    both : (f g : Bool) → is_name x (Some y) ≡ f → is_name y (Some x) ≡ g
        → option_or (option_or p (if sees R s i then binder_in R s y b else None)) (if is_free (binder_in R s x b)
        && (sees R s i && f) then Some b else None)
        ≡ option_or p (if sees R s i then option_or (binder_in R s y b) (if g then Some b else None) else None)
        → option_or (option_or p (seen R s b i (Some y))) (newly R s b bs (Some x) i)
        ≡ option_or p (seen R s (suc b) i (Some y))
    both f g d k q =
        ap (λ o. option_or (option_or p (if sees R s i then binder_in R s y b else None))
        (if is_free o && (sees R s i && is_name x (used_name (at R i).node)) then Some b else None)) noted
        ∙ ap (λ t. option_or (option_or p (if sees R s i then binder_in R s y b else None))
        (if is_free (binder_in R s x b) && (sees R s i && t) then Some b else None))
        (ap (is_name x) e ∙ d)
        ∙ q
        ∙ ap (λ t. option_or p (if sees R s i then option_or (binder_in R s y b) (if t then Some b else None)
        else None)) (sym (bind y ∙ k))

    -- the names differ
    other : (l q : Bool) (o : Option ℕ)
        → option_or (option_or p (if l then o else None)) (if q && (l && false) then Some b else None)
        ≡ option_or p (if l then option_or o None else None)
    other true true o = or_none (option_or p o) None refl ∙ ap (option_or p) (sym (or_none o None refl))
    other true false o = or_none (option_or p o) None refl ∙ ap (option_or p) (sym (or_none o None refl))
    other false true o = or_none (option_or p None) None refl
    other false false o = or_none (option_or p None) None refl

    -- the name is x
    mine : (l : Bool) (p o : Option ℕ)
        → option_or (option_or p (if l then o else None)) (if is_free o && (l && true) then Some b else None)
        ≡ option_or p (if l then option_or o (Some b) else None)
    mine true None None = refl
    mine true None (Some a) = refl
    mine true (Some z) None = refl
    mine true (Some z) (Some a) = refl
    mine false None None = refl
    mine false None (Some a) = refl
    mine false (Some z) None = refl
    mine false (Some z) (Some a) = refl

    one : (y ≡ x) ⊎ (y ≢ x)
        → option_or (option_or p (seen R s b i (Some y))) (newly R s b bs (Some x) i)
        ≡ option_or p (seen R s (suc b) i (Some y))
    one (inr d) =
        both false false (is_name-other x y d) (is_name-not x y d)
        (other (sees R s i) (is_free (binder_in R s x b)) (binder_in R s y b))
    one (inl d) =
        let same = ap (λ z. is_name x (Some z)) d ∙ name_same x in
        let also = ap (λ z. is_name z (Some x)) d ∙ name_same x in
        both true true same also
        (subst (λ z. option_or (option_or p (if sees R s i then binder_in R s y b else None))
        (if is_free (binder_in R s z b) && (sees R s i && true) then Some b else None)
        ≡ option_or p (if sees R s i then option_or (binder_in R s y b) (Some b) else None)) d
        (mine (sees R s i) p (binder_in R s y b)))

newly-none : (R : List Row) (s b i : ℕ) (bs : List (Option Bound)) (o : Option ℕ) → o ≡ None → newly R s b bs o i ≡ None
newly-none R s b i bs None e = refl
newly-none R s b i bs (Some x) e = let d : Some x ≡ None = e in cc

-- the scope takes the row b
pub taking_open : (R : List Row) (s b m : ℕ) (bs cs : List (Option Bound)) (os qs : List (Option ℕ)) → b < length R
    → keeps R s b ≡ true → held R b s ≡ false → AreNames R m → length bs ≡ m → length cs ≡ length bs
    → IsTaking R s b bs os → ((x : ℕ) → x < length bs → in_scope s (get_or cs x None) ≡
    option_or (in_scope s (get_or bs x None)) (if is_name x (bound_name (at R b).node) then Some b else None))
    → ((x t : ℕ) → s < t → in_scope t (get_or bs x None) ≡ None → in_scope t (get_or cs x None) ≡ None)
    → length qs ≡ length R
    → ((i : ℕ) → i < length R
    → get_or qs i None ≡ option_or (get_or os i None) (newly R s b bs (bound_name (at R b).node) i))
    → IsTaking R s (b + 1) cs qs
taking_open R s b m bs cs os qs less is bare names size long h bound later size2 binders =
    subst (λ n. IsTaking R s n cs qs) (sym (add-one b)) (record {
      bound = record {
        each = λ x c. let d = subst (λ k. x < k) long c in
            bound x d
            ∙ (ap (λ p. option_or p (if is_name x (bound_name (at R b).node) then Some b else None)) (h.bound.each x d)
            ∙ binder_in-open R s x b is bare);
      };
      later = λ x t c. later x t c (h.later x t c);
      binders = record {
        long = size2;
        each = λ i c. binders i c
            ∙ (ap (λ o. option_or o (newly R s b bs (bound_name (at R b).node) i)) (h.binders.each i c) ∙
            by i (bound_name (at R b).node) refl);
      };
    })
  where
    by : (i : ℕ) (o : Option ℕ) → bound_name (at R b).node ≡ o
        → option_or (option_or (binder_at R s i) (seen R s b i (used_name (at R i).node)))
        (newly R s b bs (bound_name (at R b).node) i)
        ≡ option_or (binder_at R s i) (seen R s (suc b) i (used_name (at R i).node))
    by i None e =
        or_none (option_or (binder_at R s i) (seen R s b i (used_name (at R i).node)))
        (newly R s b bs (bound_name (at R b).node) i)
        (newly-none R s b i bs (bound_name (at R b).node) e)
        ∙ ap (option_or (binder_at R s i))
        (sym (seen-shut R s b i (used_name (at R i).node) (λ x. binds_open R s x b is bare ∙ ap (is_name x) e)))
    by i (Some x) e =
        ap (λ o. option_or (option_or (binder_at R s i) (seen R s b i (used_name (at R i).node))) (newly R s b bs o i))
        e
        ∙ seen_more R s b x i bs (binder_at R s i) is bare e
        (h.bound.each x (subst (λ k. x < k) (sym size) (names.bound b x less e)))
        (used_name (at R i).node) refl

-- the cause that is noted there
pub again-second : (R : List Row) (s b : ℕ) (bs : List (Option Bound)) → keeps R s b ≡ true → held R b s ≡ false →
    ((x : ℕ) → bound_name (at R b).node ≡ Some x → x < length bs)
    → IsBinding R s b bs → again R s b bs (bound_name (at R b).node) ≡ second R s b (bound_name (at R b).node)
again-second R s b bs e f n h =
    second-open R s b (bound_name (at R b).node) (again R s b bs (bound_name (at R b).node)) refl e f
    (λ x g. ap (again R s b bs) g ∙ ap (repeated R b) (h.each x (n x g)))
    (λ g. ap (again R s b bs) g)

-- ---- the scope closes what is seen no further out

pub taken_start : (R : List Row) (s : ℕ) (hs : List Bool) → AreHeld R s hs → AreTaken R s 0 hs
taken_start R s hs h = record { long = h.long; done = λ i c. absurd (omega arith); rest = λ i c d. h.each i d }

pub taken_end : (R : List Row) (s : ℕ) (hs : List Bool) → AreTaken R s s hs → AreHeld R (s + 1) hs
taken_end R s hs h =
    subst (λ n. AreHeld R n hs) (sym (add-one s)) (record { long = h.long; each = λ i c. one i c (cases_lt i s) })
  where
    one : (i : ℕ) → i < length R → (i < s) ⊎ (s ≤ i) → get_or hs i false ≡ (held R i s || confines R s i)
    one i c (inl d) = h.done i d c
    one i c (inr d) =
        h.rest i d c ∙ sym (or_false (held R i s) (confines R s i) (confines_none R s i (keeps_behind R s i d)))

-- nothing changes at the row b
pub taken_same : (R : List Row) (s b : ℕ) (hs : List Bool) → (held R b s || confines R s b) ≡ held R b s
    → AreTaken R s b hs → AreTaken R s (suc b) hs
taken_same R s b hs u h =
    record { long = h.long; done = λ i c d. done i c d (cases_lt i b); rest = λ i c d. h.rest i (omega arith) d }
  where
    done : (i : ℕ) → i < suc b → i < length R → (i < b) ⊎ (b ≤ i) → get_or hs i false ≡ (held R i s || confines R s i)
    done i c d (inl e) = h.done i e d
    done i c d (inr e) =
        let same : i ≡ b = omega arith in
        h.rest i e d ∙ sym (subst (λ k. (held R k s || confines R s k) ≡ held R k s) (sym same) u)

-- nor at the rows from n up to m
pub taken_gap : (R : List Row) (s n m : ℕ) (hs : List Bool) → n ≤ m → ((b : ℕ) → n ≤ b → b < m → IsShut R s b)
    → AreTaken R s n hs → AreTaken R s m hs
taken_gap R s n zero hs less u h = let e : n ≡ zero = omega arith in subst (λ k. AreTaken R s k hs) e h
taken_gap R s n (suc m) hs less u h = by (cases_lt m n) (λ c. taken_gap R s n m hs c (λ b d e. u b d (omega arith)) h)
  where
    by : (m < n) ⊎ (n ≤ m) → (n ≤ m → AreTaken R s m hs) → AreTaken R s (suc m) hs
    by (inl c) r = let e : n ≡ suc m = omega arith in subst (λ k. AreTaken R s k hs) e h
    by (inr c) r = taken_same R s m hs (u m c (omega arith)).held (r c)

-- the row b is closed
pub taken_more : (R : List Row) (s b : ℕ) (hs : List Bool) → b < length R → confines R s b ≡ true → AreTaken R s b hs
    → AreTaken R s (suc b) (set hs b true)
taken_more R s b hs less is h = record {
  long = length-set hs b true ∙ h.long;
  done = λ i c d. fill_done false (λ k. held R k s || confines R s k) hs b (length R) true h.long less
      (sym (or_true (held R b s) (confines R s b) is)) h.done
      i (omega arith) d;
  rest = λ i c d. fill_rest false (λ k. held R k s) hs b (length R) true h.rest i (omega arith) d;
}
