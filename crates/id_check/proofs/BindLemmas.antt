-- What a scope binds by a row, where it has bound the name already, or has not.
use Rattle.std.proofs.Common.{◌≡◌, ◌≢◌, ◌⊎◌, inl, inr, ◌<◌, ℕ, ◌+◌, Bool, true, false, refl, List, [], Option, Some}
use Rattle.std.proofs.Common.{None, get_or, set, length, ap, sym, ◌∙◌, arith}
use Rattle.std.specs.Prelude.{◌&&◌, ◌||◌, if◌then◌else◌}
use Rattle.std.specs.Option.{option_or}
use Rattle.std.proofs.lemmas.Bool.{cases_eq}
use Rattle.std.proofs.lemmas.Bool.Decides.{nat_tests}
use Rattle.std.proofs.lemmas.List.{get_or_default, get_or-set_same, get_or-set_other}
use Rattle.id_table.specs.declared.row.Row.{Row}
use Rattle.id_table.specs.declared.row.Node.{Node}
use Rattle.id_table.specs.declared.row.Node.TheVariants.{Name, Enter, Block, Def, Program, NextUse, Body, Span}
use Rattle.id_table.specs.Rows.{at}
use Rattle.id_table.specs.Tables.{around}
use Rattle.id_check.specs.declared.scope.Bound.{Bound}
use Rattle.id_check.specs.Scopes.{held, is_free, is_name, looks, sees, sees_own, used_name}
use Rattle.id_check.specs.Causes.{repeated}
use Rattle.id_check.specs.Names.{again, given, in_scope, key_of, newly, sought}
use Rattle.id_check.proofs.ScopesLemmas.{or_none}

-- what stands in the list may be read with another default
pub read_at : (bs : List (Option Bound)) (x : ℕ) (v : Option Bound) → v ≡ get_or bs x v → x < length bs
    → v ≡ get_or bs x None
read_at bs x v e less = e ∙ get_or_default bs x v None less

own_scope : (s b : ℕ) → in_scope s (Some (record { scope = s; binder = b })) ≡ Some b
own_scope s b = grind (arith, nat_tests)

other_scope : (s t b : ℕ) → s < t → in_scope t (Some (record { scope = s; binder = b })) ≡ None
other_scope s t b less = grind (arith, nat_tests)

-- what a scope further out has bound stays
pub later_set : (s b x y t : ℕ) (bs : List (Option Bound)) → x < length bs → s < t
    → in_scope t (get_or bs y None) ≡ None
    → in_scope t (get_or (set bs x (Some (record { scope = s; binder = b }))) y None) ≡ None
later_set s b x y t bs less far e = by (cases_eq y x)
  where
    by : (y ≡ x) ⊎ (y ≢ x) → in_scope t (get_or (set bs x (Some (record { scope = s; binder = b }))) y None) ≡ None
    by (inl q) =
        ap (λ k. in_scope t (get_or (set bs x (Some (record { scope = s; binder = b }))) k None)) q
        ∙ (ap (in_scope t) (get_or-set_same bs x (Some (record { scope = s; binder = b })) None less)
        ∙ other_scope s t b far)
    by (inr q) = ap (in_scope t) (get_or-set_other bs x y (Some (record { scope = s; binder = b })) None q) ∙ e

own_name : (x y : ℕ) → y ≡ x → is_name y (Some x) ≡ true
own_name x y e = grind (arith, nat_tests)

other_name : (x y : ℕ) → y ≢ x → is_name y (Some x) ≡ false
other_name x y e = grind (arith, nat_tests)

value_key : (x y k : ℕ) (r q : Bool) → Some (x + x) ≡ Some k
    → (((true && r) && q) && is_name x (Some y)) ≡ (is_name k (Some (y + y)) && (r && q))
value_key x y k true true e = let d : x + x ≡ k = cc in grind (arith, nat_tests)
value_key x y k true false e = let d : x + x ≡ k = cc in grind (arith, nat_tests)
value_key x y k false q e = let d : x + x ≡ k = cc in grind (arith, nat_tests)

procedure_key : (x y k : ℕ) (r q : Bool) → Some (x + x + 1) ≡ Some k
    → (((true && r) && q) && is_name x (Some y)) ≡ (is_name k (Some (y + y + 1)) && (r && q))
procedure_key x y k true true e = let d : x + x + 1 ≡ k = cc in grind (arith, nat_tests)
procedure_key x y k true false e = let d : x + x + 1 ≡ k = cc in grind (arith, nat_tests)
procedure_key x y k false q e = let d : x + x + 1 ≡ k = cc in grind (arith, nat_tests)

odd_key : (x y k : ℕ) (r : Bool) → Some (x + x) ≡ Some k → false ≡ (is_name k (Some (y + y + 1)) && r)
odd_key x y k r e =
    let d : x + x ≡ k =
    cc in let f : is_name k (Some (y + y + 1)) ≡ false = grind (arith, nat_tests) in sym (ap (λ t. t && r) f)

even_key : (x y k : ℕ) (r : Bool) → Some (x + x + 1) ≡ Some k → false ≡ (is_name k (Some (y + y)) && r)
even_key x y k r e =
    let d : x + x + 1 ≡ k =
    cc in let f : is_name k (Some (y + y)) ≡ false = grind (arith, nat_tests) in sym (ap (λ t. t && r) f)

-- what looks in a scope for a name has its key there
key_is : (m n : Node) (x k : ℕ) (r q : Bool) → sought m x ≡ Some k
    → (((looks m n && r) && q) && is_name x (used_name n)) ≡ (is_name k (key_of n) && (r && q))
key_is (Block b) (Name y) x k r q e = value_key x y k r q e
key_is (Block b) (NextUse y) x k r q e = value_key x y k r q e
key_is (Block b) (Enter y) x k r q e = odd_key x y k (r && q) e
key_is (Block b) _ x k r q e = refl
key_is Body (Name y) x k r q e = value_key x y k r q e
key_is Body (NextUse y) x k r q e = value_key x y k r q e
key_is Body (Enter y) x k r q e = odd_key x y k (r && q) e
key_is Body _ x k r q e = refl
key_is Span (Name y) x k r q e = value_key x y k r q e
key_is Span (NextUse y) x k r q e = value_key x y k r q e
key_is Span (Enter y) x k r q e = odd_key x y k (r && q) e
key_is Span _ x k r q e = refl
key_is (Def z h j b) (Name y) x k r q e = value_key x y k r q e
key_is (Def z h j b) (NextUse y) x k r q e = value_key x y k r q e
key_is (Def z h j b) (Enter y) x k r q e = odd_key x y k (r && q) e
key_is (Def z h j b) _ x k r q e = refl
key_is Program (Name y) x k r q e = even_key x y k (r && q) e
key_is Program (NextUse y) x k r q e = even_key x y k (r && q) e
key_is Program (Enter y) x k r q e = procedure_key x y k r q e
key_is Program _ x k r q e = refl
key_is _ n x k r q e = let d : None ≡ Some k = e in cc

key_none : (m n : Node) (x : ℕ) (r q p : Bool) → sought m x ≡ None → (((looks m n && r) && q) && p) ≡ false
key_none (Block b) n x r q p e = let d : Some (x + x) ≡ None = e in cc
key_none Body n x r q p e = let d : Some (x + x) ≡ None = e in cc
key_none Span n x r q p e = let d : Some (x + x) ≡ None = e in cc
key_none (Def z h j b) n x r q p e = let d : Some (x + x) ≡ None = e in cc
key_none Program n x r q p e = let d : Some (x + x + 1) ≡ None = e in cc
key_none _ n x r q p e = refl

module _ (R : List Row) (s b x : ℕ) (bs : List (Option Bound)) (o : Option ℕ) (is : o ≡ Some x) where
  -- whether the row i sees the scope, and uses the name
  abbrev looked : ℕ → Bool
  looked i = sees R s i && is_name x (used_name (at R i).node)

  -- the name has an earlier binder in the scope
  module _ (a : ℕ) (bound : in_scope s (get_or bs x None) ≡ Some a) where
    pub again-bound : again R s b bs o ≡ repeated R b (Some a)
    again-bound = ap (again R s b bs) is ∙ ap (repeated R b) bound

    pub bound_same : (y : ℕ) → in_scope s (get_or bs y None)
        ≡ option_or (in_scope s (get_or bs y None)) (if is_name y o then Some b else None)
    bound_same y = by (cases_eq y x)
      where
        by : (y ≡ x) ⊎ (y ≢ x) → in_scope s (get_or bs y None)
            ≡ option_or (in_scope s (get_or bs y None)) (if is_name y o then Some b else None)
        by (inl e) =
            let q = ap (λ k. in_scope s (get_or bs k None)) e ∙ bound in
            q ∙ sym (ap (λ z. option_or z (if is_name y o then Some b else None)) q)
        by (inr e) =
            sym (or_none (in_scope s (get_or bs y None)) (if is_name y o then Some b else None)
            (ap (λ q. if is_name y q then Some b else None) is
            ∙ ap (λ t. if t then Some b else None) (other_name x y e)))

    pub newly-bound : (i : ℕ) (p : Option ℕ) → p ≡ option_or p (newly R s b bs o i)
    newly-bound i p =
        sym (or_none p (newly R s b bs o i)
        (ap (λ q. newly R s b bs q i) is ∙ ap (λ q. if is_free q && looked i then Some b else None) bound))

  -- the name has none
  module _ (free : in_scope s (get_or bs x None) ≡ None) where
    pub again-free : again R s b bs o ≡ []
    again-free = ap (again R s b bs) is ∙ ap (repeated R b) free

    newly-looked : (i : ℕ) → newly R s b bs o i ≡ (if looked i then Some b else None)
    newly-looked i = ap (λ q. newly R s b bs q i) is ∙ ap (λ q. if is_free q && looked i then Some b else None) free

    pub newly-given : (k i : ℕ) → sought (at R s).node x ≡ Some k → newly R s b bs o i ≡ given R s k b i
    newly-given k i e = newly-looked i ∙ ap (λ t. if t then Some b else None)
        (key_is (at R s).node (at R i).node x k (around R s i) (sees_own (at R i).node || held R i s) e)

    pub newly-free : (i : ℕ) (p : Option ℕ) → sought (at R s).node x ≡ None → p ≡ option_or p (newly R s b bs o i)
    newly-free i p e =
        sym (or_none p (newly R s b bs o i) (newly-looked i
        ∙ ap (λ t. if t then Some b
        else None) (key_none (at R s).node (at R i).node x (around R s i) (sees_own (at R i).node || held R i s)
        (is_name x (used_name (at R i).node)) e)))

    pub bound_more : x < length bs → (y : ℕ) → y < length bs
        → in_scope s (get_or (set bs x (Some (record { scope = s; binder = b }))) y None) ≡
        option_or (in_scope s (get_or bs y None)) (if is_name y o then Some b else None)
    bound_more less y c = by (cases_eq y x)
      where
        by : (y ≡ x) ⊎ (y ≢ x)
            → in_scope s (get_or (set bs x (Some (record { scope = s; binder = b }))) y None) ≡
            option_or (in_scope s (get_or bs y None)) (if is_name y o then Some b else None)
        by (inl e) =
            ap (λ k. in_scope s (get_or (set bs x (Some (record { scope = s; binder = b }))) k None)) e
            ∙ (ap (in_scope s) (get_or-set_same bs x (Some (record { scope = s; binder = b })) None less)
            ∙ (own_scope s b
            ∙ sym (ap (λ k. option_or (in_scope s (get_or bs k None)) (if is_name y o then Some b else None)) e
            ∙ (ap (λ q. option_or q (if is_name y o then Some b else None)) free
            ∙ (ap (λ q. if is_name y q then Some b else None) is
            ∙ ap (λ t. if t then Some b else None) (own_name x y e))))))
        by (inr e) =
            ap (in_scope s) (get_or-set_other bs x y (Some (record { scope = s; binder = b })) None e)
            ∙ sym (or_none (in_scope s (get_or bs y None)) (if is_name y o then Some b else None)
            (ap (λ q. if is_name y q then Some b else None) is
            ∙ ap (λ t. if t then Some b else None) (other_name x y e)))

-- what a row that binds no name leaves
pub bound_kept : (o : Option ℕ) (s b y : ℕ) (bs : List (Option Bound)) → o ≡ None → in_scope s (get_or bs y None)
    ≡ option_or (in_scope s (get_or bs y None)) (if is_name y o then Some b else None)
bound_kept o s b y bs is =
    sym (or_none (in_scope s (get_or bs y None)) (if is_name y o then Some b
    else None) (ap (λ q. if is_name y q then Some b else None) is))

-- the key by which the uses of a name are sought is one of those that are counted
pub sought_below : (m : Node) (x k n : ℕ) → sought m x ≡ Some k → x < n → k < n + n
sought_below (Block b) x k n e h = let d : x + x ≡ k = cc in omega arith
sought_below Body x k n e h = let d : x + x ≡ k = cc in omega arith
sought_below Span x k n e h = let d : x + x ≡ k = cc in omega arith
sought_below (Def z y j b) x k n e h = let d : x + x ≡ k = cc in omega arith
sought_below Program x k n e h = let d : x + x + 1 ≡ k = cc in omega arith
sought_below _ x k n e h = let d : None ≡ Some k = e in cc

-- so is that by which a row waits
pub key_below : (m : Node) (k n : ℕ) → key_of m ≡ Some k → ((x : ℕ) → used_name m ≡ Some x → x < n) → k < n + n
key_below (Name y) k n e h = let d : y + y ≡ k = cc in let less = h y refl in omega arith
key_below (NextUse y) k n e h = let d : y + y ≡ k = cc in let less = h y refl in omega arith
key_below (Enter y) k n e h = let d : y + y + 1 ≡ k = cc in let less = h y refl in omega arith
key_below _ k n e h = let d : None ≡ Some k = e in cc
