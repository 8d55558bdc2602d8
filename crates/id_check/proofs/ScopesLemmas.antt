-- Which rows a scope holds, and what one more scope changes.
use Rattle.std.proofs.Common.{◌≡◌, ◌<◌, ◌≤◌, ℕ, zero, suc, Bool, true, false, not, nat_le, nat_lt, List, [], ◌++◌}
use Rattle.std.proofs.Common.{Option, Some, None, refl, ap, sym, ◌∙◌, subst, append-nil, arith}
use Rattle.std.specs.Prelude.{◌&&◌, ◌||◌, if◌then◌else◌}
use Rattle.std.specs.Option.{option_or}
use Rattle.std.proofs.lemmas.Bool.{false≢true}
use Rattle.std.proofs.lemmas.Bool.Decides.{nat_tests}
use Rattle.id_table.specs.declared.row.Row.{Row}
use Rattle.id_table.specs.Rows.{at}
use Rattle.id_table.specs.Tables.{around, is_binding, is_def, is_index, is_next, is_param}
use Rattle.id_check.specs.declared.cause.CheckCause.{CheckCause}
use Rattle.id_table.specs.declared.row.Node.{Node}
use Rattle.id_table.specs.declared.row.Node.TheVariants.{Param, Block, Binding, Def, Program, NextUse, Next, Index}
use Rattle.id_table.specs.declared.row.Node.TheVariants.{Body, Span}
use Rattle.id_check.specs.Names.{seen}
use Rattle.id_check.specs.Scopes.{closes, confines, is_next_use, keeps, looks, sees, sees_own, takes}
use Rattle.id_check.specs.Scopes.{binder_at, binder_by, binder_in, binder_of, binds, bound_name, first_of, held}
use Rattle.id_check.specs.Scopes.{is_name, is_scope, used_name}
use Rattle.id_check.specs.Causes.{repeated, second, seconds}

-- ---- tests

inside : (a : Bool) (f i s : ℕ) → a ≡ true → f ≤ i → i < s → (a && (nat_le f i && nat_lt i s)) ≡ true
inside a f i s e g h = grind (arith, nat_tests)

below : (a : Bool) (f i s : ℕ) → i < f → (a && (nat_le f i && nat_lt i s)) ≡ false
below a f i s h = grind (arith, nat_tests)

behind : (a : Bool) (f i s : ℕ) → s ≤ i → (a && (nat_le f i && nat_lt i s)) ≡ false
behind a f i s h = grind (arith, nat_tests)

unseen : (a b : Bool) (f i s : ℕ) → s ≤ i → ((a && (nat_le f i && nat_lt i s)) && b) ≡ false
unseen a b f i s h = grind (arith, nat_tests)

no_scope : (a : Bool) (f i s : ℕ) → a ≡ false → (a && (nat_le f i && nat_lt i s)) ≡ false
no_scope a f i s e = grind (arith, nat_tests)

pub or_false : (a b : Bool) → b ≡ false → (a || b) ≡ a
or_false true b e = refl
or_false false b e = e

pub or_true : (a b : Bool) → b ≡ true → (a || b) ≡ true
or_true true b e = refl
or_true false b e = e

pub or_first : (a b : Bool) → a ≡ true → (a || b) ≡ a
or_first true b e = refl
or_first false b e = cc

open_one : (a b q : Bool) → a ≡ true → b ≡ false → ((a && not b) && q) ≡ q
open_one true false q e f = refl
open_one true true q e f = cc
open_one false b q e f = cc

shut_one : (a b q : Bool) → b ≡ true → ((a && not b) && q) ≡ false
shut_one true true q e = refl
shut_one true false q e = cc
shut_one false b q e = refl

none_one : (a b q : Bool) → a ≡ false → ((a && not b) && q) ≡ false
none_one false b q e = refl
none_one true b q e = cc

pub or_none : (o p : Option ℕ) → p ≡ None → option_or o p ≡ o
or_none None p e = e
or_none (Some a) p e = refl

-- ---- what a scope keeps

pub keeps_inside : (R : List Row) (s b : ℕ) → takes (at R s).node (at R b).node ≡ true → (at R s).first ≤ b → b < s
    → keeps R s b ≡ true
keeps_inside R s b e g h = inside (takes (at R s).node (at R b).node) (at R s).first b s e g h

around_is : (a : Bool) (f i s : ℕ) → f ≤ i → i < s → (a && (nat_le f i && nat_lt i s)) ≡ a
around_is a f i s g h = grind (arith, nat_tests)

pub keeps_is : (R : List Row) (s b : ℕ) → (at R s).first ≤ b → b < s → keeps R s b ≡ takes (at R s).node (at R b).node
keeps_is R s b g h = around_is (takes (at R s).node (at R b).node) (at R s).first b s g h

pub keeps_below : (R : List Row) (s b : ℕ) → b < (at R s).first → keeps R s b ≡ false
keeps_below R s b h = below (takes (at R s).node (at R b).node) (at R s).first b s h

pub keeps_behind : (R : List Row) (s b : ℕ) → s ≤ b → keeps R s b ≡ false
keeps_behind R s b h = behind (takes (at R s).node (at R b).node) (at R s).first b s h

pub keeps_not : (R : List Row) (s b : ℕ) → takes (at R s).node (at R b).node ≡ false → keeps R s b ≡ false
keeps_not R s b e = no_scope (takes (at R s).node (at R b).node) (at R s).first b s e

takes-none : (m n : Node) → is_scope m ≡ false → takes m n ≡ false
takes-none (Block b) n e = cc
takes-none Body n e = cc
takes-none Span n e = cc
takes-none (Def x h k b) n e = cc
takes-none Program n e = cc
takes-none _ n e = refl

takes-neither : (m n : Node) → is_binding n ≡ false → is_param n ≡ false → is_def n ≡ false → is_next n ≡ false
    → is_next_use n ≡ false → is_index n ≡ false →
    takes m n ≡ false
takes-neither (Block b) n e f g i j k = e
takes-neither Body n e f g i j k = ap (λ t. t || is_index n) (ap (λ t. t || is_next n) e ∙ i) ∙ k
takes-neither Span n e f g i j k = ap (λ t. t || is_next_use n) i ∙ j
takes-neither (Def x h y b) n e f g i j k = f
takes-neither Program n e f g i j k = g
takes-neither _ n e f g i j k = refl

-- what sees its own scope is in none
takes-own : (m n : Node) → sees_own n ≡ true → takes m n ≡ false
takes-own m (Param x k) e = absurd (false≢true e)
takes-own m (Binding x a) e = absurd (false≢true e)
takes-own m (Next x k o v) e = absurd (false≢true e)
takes-own m (Index x) e = absurd (false≢true e)
takes-own m (NextUse x) e = absurd (false≢true e)
takes-own m (Def x h k b) e = absurd (false≢true e)
takes-own m n e = takes-neither m n refl refl refl refl refl refl

-- without the middle one
or_outer : (a b c : Bool) → ((a || b) || c) ≡ false → (a || c) ≡ false
or_outer true b c e = e
or_outer false true c e = cc
or_outer false false c e = e

-- what a part closes it takes
closes-none : (m n : Node) → takes m n ≡ false → closes m n ≡ false
closes-none Body n e = or_outer (is_binding n) (is_next n) (is_index n) e
closes-none _ n e = e

looks-none : (m n : Node) → is_scope m ≡ false → looks m n ≡ false
looks-none (Block b) n e = cc
looks-none Body n e = cc
looks-none Span n e = cc
looks-none (Def x h k b) n e = cc
looks-none Program n e = cc
looks-none _ n e = refl

-- a row that sees its own scope is kept by none
pub keeps_own : (R : List Row) (s b : ℕ) → sees_own (at R b).node ≡ true → keeps R s b ≡ false
keeps_own R s b e = keeps_not R s b (takes-own (at R s).node (at R b).node e)

pub keeps_no_scope : (R : List Row) (s b : ℕ) → is_scope (at R s).node ≡ false → keeps R s b ≡ false
keeps_no_scope R s b e = keeps_not R s b (takes-none (at R s).node (at R b).node e)

-- ---- what a scope closes

implied : (a c r : Bool) → (a ≡ false → c ≡ false) → (a && r) ≡ false → (c && r) ≡ false
implied false c r h e = ap (λ t. t && r) (h refl)
implied true true r h e = e
implied true false r h e = refl

pub confines_none : (R : List Row) (s b : ℕ) → keeps R s b ≡ false → confines R s b ≡ false
confines_none R s b e = implied (takes (at R s).node (at R b).node) (closes (at R s).node (at R b).node) (around R s b)
    (closes-none (at R s).node (at R b).node) e

pub confines_is : (R : List Row) (s b : ℕ) → (at R s).first ≤ b → b < s
    → confines R s b ≡ closes (at R s).node (at R b).node
confines_is R s b g h = around_is (closes (at R s).node (at R b).node) (at R s).first b s g h

-- ---- what a scope binds

pub binds_open : (R : List Row) (s x b : ℕ) → keeps R s b ≡ true → held R b s ≡ false
    → binds R s x b ≡ is_name x (bound_name (at R b).node)
binds_open R s x b e f = open_one (keeps R s b) (held R b s) (is_name x (bound_name (at R b).node)) e f

pub binds_shut : (R : List Row) (s x b : ℕ) → held R b s ≡ true → binds R s x b ≡ false
binds_shut R s x b e = shut_one (keeps R s b) (held R b s) (is_name x (bound_name (at R b).node)) e

pub binds_none : (R : List Row) (s x b : ℕ) → keeps R s b ≡ false → binds R s x b ≡ false
binds_none R s x b e = none_one (keeps R s b) (held R b s) (is_name x (bound_name (at R b).node)) e

-- no row below that is held: nothing is bound
pub binder_in-none : (R : List Row) (s x n : ℕ) → ((b : ℕ) → b < n → keeps R s b ≡ false) → binder_in R s x n ≡ None
binder_in-none R s x zero h = refl
binder_in-none R s x (suc n) h =
    let one : (if binds R s x n then Some n else None) ≡ None =
    ap (λ t. if t then Some n else None) (binds_none R s x n (h n (omega arith))) in
    or_none (binder_in R s x n) (if binds R s x n then Some n else None) one
    ∙ binder_in-none R s x n (λ b less. h b (omega arith))

pub binder_in-open : (R : List Row) (s x b : ℕ) → keeps R s b ≡ true → held R b s ≡ false
    → option_or (binder_in R s x b) (if is_name x (bound_name (at R b).node) then Some b else None)
    ≡ binder_in R s x (suc b)
binder_in-open R s x b e f =
    ap (λ t. option_or (binder_in R s x b) (if t then Some b else None)) (sym (binds_open R s x b e f))

pub binder_in-shut : (R : List Row) (s x b : ℕ) → binds R s x b ≡ false → binder_in R s x b ≡ binder_in R s x (suc b)
binder_in-shut R s x b e =
    sym (or_none (binder_in R s x b) (if binds R s x b then Some b else None) (ap (λ t. if t then Some b else None) e))

-- ---- second binders

pub second-none : (R : List Row) (s b : ℕ) (o : Option ℕ) → ((x : ℕ) → binds R s x b ≡ false) → second R s b o ≡ []
second-none R s b None h = refl
second-none R s b (Some x) h = ap (λ t. if t then repeated R b (binder_in R s x b) else []) (h x)

pub seconds-none : (R : List Row) (s n : ℕ) → ((b : ℕ) → b < n → keeps R s b ≡ false) → seconds R s n ≡ []
seconds-none R s zero h = refl
seconds-none R s (suc n) h =
    ap (λ cs. cs ++ second R s n (bound_name (at R n).node)) (seconds-none R s n (λ b less. h b (omega arith)))
    ∙ second-none R s n (bound_name (at R n).node) (λ x. binds_none R s x n (h n (omega arith)))

pub seconds-shut : (R : List Row) (s b : ℕ) → ((x : ℕ) → binds R s x b ≡ false) → seconds R s (suc b) ≡ seconds R s b
seconds-shut R s b h =
    ap (λ cs. seconds R s b ++ cs) (second-none R s b (bound_name (at R b).node) h) ∙ append-nil (seconds R s b)

pub name_same : (x : ℕ) → is_name x (Some x) ≡ true
name_same x = grind (arith, nat_tests)

-- the cause at a row that is open to the scope
pub second-open : (R : List Row) (s b : ℕ) (o : Option ℕ) (cs : List CheckCause) → o ≡ bound_name (at R b).node
    → keeps R s b ≡ true → held R b s ≡ false → ((x : ℕ) → o ≡ Some x → cs ≡ repeated R b (binder_in R s x b))
    → (o ≡ None → cs ≡ []) → cs ≡ second R s b o
second-open R s b None cs e f g h i = i refl
second-open R s b (Some x) cs e f g h i =
    let is : binds R s x b ≡ true = binds_open R s x b f g ∙ ap (is_name x) (sym e) ∙ name_same x in
    h x refl ∙ ap (λ t. if t then repeated R b (binder_in R s x b) else []) (sym is)

-- ---- what a name means

binder_at-more : (R : List Row) (s i : ℕ) (o : Option ℕ)
    → binder_by R i o (suc s) ≡ option_or (binder_by R i o s) (seen R s s i o)
binder_at-more R s i None = refl
binder_at-more R s i (Some x) = refl

-- what one more scope gives
pub binder_at-step : (R : List Row) (s i : ℕ)
    → binder_at R (suc s) i ≡ option_or (binder_at R s i) (seen R s s i (used_name (at R i).node))
binder_at-step R s i = binder_at-more R s i (used_name (at R i).node)

-- a row that is no scope gives none
pub binder_at-no_scope : (R : List Row) (s i : ℕ) → is_scope (at R s).node ≡ false
    → binder_at R (suc s) i ≡ binder_at R s i
binder_at-no_scope R s i e =
    binder_at-step R s i
    ∙ or_none (binder_at R s i) (seen R s s i (used_name (at R i).node)) (by (used_name (at R i).node))
  where
    shut : (a b c : Bool) → a ≡ false → ((a && b) && c) ≡ false
    shut false b c f = refl
    shut true b c f = cc

    by : (o : Option ℕ) → seen R s s i o ≡ None
    by None = refl
    by (Some x) =
        ap (λ t. if t then binder_in R s x s else None)
        (shut (looks (at R s).node (at R i).node) (around R s i) (sees_own (at R i).node || held R i s)
        (looks-none (at R s).node (at R i).node e))

-- no scope before a row is round it
pub binder_at-none : (R : List Row) (n i : ℕ) → n ≤ suc i → binder_at R n i ≡ None
binder_at-none R n i h = by (used_name (at R i).node)
  where
    none : (x m : ℕ) → m ≤ suc i → binder_of R x i m ≡ None
    none x zero k = refl
    none x (suc m) k =
        let out : sees R m i ≡ false =
        unseen (looks (at R m).node (at R i).node) (sees_own (at R i).node || held R i m) (at R m).first i m
        (omega arith) in
        or_none (binder_of R x i m) (if sees R m i then binder_in R m x m
        else None) (ap (λ t. if t then binder_in R m x m else None) out) ∙
        none x m (omega arith)

    by : (o : Option ℕ) → binder_by R i o n ≡ None
    by None = refl
    by (Some x) = none x n h

-- ---- a binder is a row

if_some : (t : Bool) (o : Option ℕ) (b : ℕ) → (if t then o else None) ≡ Some b → o ≡ Some b
if_some true o b e = e
if_some false o b e = cc

pub first_of-some : (f : ℕ → Option ℕ) (n y : ℕ) → first_of f n ≡ Some y → (k : ℕ) × (k < n) × (f k ≡ Some y)
first_of-some f zero y e = cc
first_of-some f (suc n) y e = by (first_of f n) refl e (λ g. first_of-some f n y g)
  where
    by : (o : Option ℕ) → first_of f n ≡ o → option_or o (f n) ≡ Some y
        → (first_of f n ≡ Some y → (k : ℕ) × (k < n) × (f k ≡ Some y))
        → (k : ℕ) × (k < suc n) × (f k ≡ Some y)
    by None g h r = (n, omega arith, h)
    by (Some z) g h r = let w = r (g ∙ h) in let less = w.1 in (w.0, omega arith, w.2)

pub binder_in-below : (R : List Row) (s x n b : ℕ) → binder_in R s x n ≡ Some b → b < n
binder_in-below R s x n b e =
    let w = first_of-some (λ k. if binds R s x k then Some k else None) n b e in
    let same : w.0 ≡ b = same_some w.0 b (if_some (binds R s x w.0) (Some w.0) b w.2) in
    subst (λ k. k < n) same w.1
  where
    same_some : (k b : ℕ) → Some k ≡ Some b → k ≡ b
    same_some k b f = cc

pub binder_at-below : (R : List Row) (n i b : ℕ) → binder_at R n i ≡ Some b → b < n
binder_at-below R n i b e = by (used_name (at R i).node) e
  where
    by : (o : Option ℕ) → binder_by R i o n ≡ Some b → b < n
    by None f = cc
    by (Some x) f =
        let w = first_of-some (λ s. if sees R s i then binder_in R s x s else None) n b f in
        let less : b < w.0 = binder_in-below R w.0 x w.0 b (if_some (sees R w.0 i) (binder_in R w.0 x w.0) b w.2) in
        let low = w.1 in
        omega arith
