-- Each cause is at the place of a thing of the program.
use Rattle.std.proofs.Common.{◌≡◌, inl, inr, ◌+◌, ◌<◌, ◌≤◌, ℕ, zero, suc, Bool as Truth, true, false, List, [], ◌∷◌}
use Rattle.std.proofs.Common.{◌++◌, Option, Some, None, length, refl, ap, sym, ◌∙◌, subst, arith}
use Rattle.std.specs.Prelude.{◌&&◌, not, nat_eq, nat_lt, if◌then◌else◌}
use mathlib.Core.HLevel.{⊥_prop}
use Rattle.std.proofs.Math.Logic.{∥∥₁_elim}
use Rattle.id_value.specs.List.{Among}
use Rattle.id_value.proofs.AmongLemmas.{Among-either, Among-one}
use Rattle.id_value.specs.declared.Kind.{Kind}
use Rattle.id_value.specs.declared.Kind.TheVariants.{Int, Bool, Array, Nested}
use Rattle.id_value.specs.Kinds.{is_array, same_kind}
use Rattle.id_value.specs.declared.BinaryOp.{BinaryOp}
use Rattle.id_value.specs.declared.BinaryOp.TheVariants as class
use Rattle.id_value.specs.declared.Comparison.TheVariants.{Lt, Le, Gt, Ge, Eq, Ne}
use Rattle.id_table.specs.declared.row.Row.{Row}
use Rattle.id_table.specs.declared.row.Node.{Node}
use Rattle.id_table.specs.declared.row.Node.TheVariants.{Param, Literal, Name, Unary, Binary, Split, If, Enter}
use Rattle.id_table.specs.declared.row.Node.TheVariants.{Arg, Call, Block, Binding, Def, Switches, NextUse, Next, Loop}
use Rattle.id_table.specs.declared.row.Node.TheVariants.{Bounds, Within, Index, Fetch, Address, Store}
use Rattle.id_table.specs.declared.row.Node.TheVariants as node
use Rattle.id_grammar.specs.Tree.{Tree}
use Rattle.id_tree.specs.Distinct.{HasPlace}
use Rattle.id_table.specs.Rows.{at, rows_of}
use Rattle.id_table.specs.Tables.{HasOperand, is_expression, is_param, is_thing, is_within}
use Rattle.id_table.specs.Turns.{IsTable, params_at, params_below}
use Rattle.id_table.proofs.PlacesLemmas.{HasPlace-rows_of}
use Rattle.id_table.proofs.RegionLemmas.{HasPart-operand}
use Rattle.id_check.specs.declared.cause.CheckCause.{CheckCause}
use Rattle.id_check.specs.declared.cause.CheckCause.TheVariants.{NoMain, MainKind, Duplicate, Unknown, WrongCount}
use Rattle.id_check.specs.declared.cause.CheckCause.TheVariants.{WrongKind, TooManyParams, Memory}
use Rattle.id_check.specs.Scopes.{binder_in, binds, bound_name, is_name, keeps, held, user_of}
use Rattle.id_check.specs.Kinds.{unary_kind}
use Rattle.id_check.specs.Causes.{HasFirst, IsInside, IsRefusedFor, array_param, callee, causes, causes_below}
use Rattle.id_check.specs.Causes.{causes_in, count_at, duplicates, is_count, is_array_param, repeated}
use Rattle.id_check.specs.Causes.{second, seconds, unknown, unless_array, unless_found, wrong, wrong_argument}
use Rattle.id_check.specs.Causes.{wrong_both}
use Rattle.id_check.specs.Causes.{wrong_cell, wrong_count, wrong_equals, wrong_like, wrong_operands, wrong_params}
use Rattle.id_check.proofs.LinksLemmas.{part_of}
use Rattle.id_check.proofs.ScopesLemmas.{binder_in-below, first_of-some}

-- a thing stands at the place
abbrev IsThingAt : List Row → ℕ → Type 0
IsThingAt R e = (i : ℕ) × (i < length R) × (is_thing (at R i).node ≡ true) × ((at R i).place ≡ e)

-- the cause is at the places of things
abbrev pub IsStanding : List Row → CheckCause → Type 0
IsStanding R NoMain = ⊥
IsStanding R (MainKind e) = IsThingAt R e
IsStanding R (Duplicate e first) = IsThingAt R e × IsThingAt R first
IsStanding R (Unknown e) = IsThingAt R e
IsStanding R (WrongCount e) = IsThingAt R e
IsStanding R (WrongKind e wanted found) = IsThingAt R e
IsStanding R (TooManyParams e) = IsThingAt R e
IsStanding R Memory = ⊥

one : (R : List Row) (c d : CheckCause) → IsStanding R d → Among c (d ∷ []) → IsStanding R c
one R c d h a = subst (IsStanding R) (sym (Among-one c d a)) h

-- ---- second binders

bound_thing : (n : Node) (x : ℕ) → bound_name n ≡ Some x → is_thing n ≡ true
bound_thing (Param y k) x e = refl
bound_thing (Binding y a) x e = refl
bound_thing (Next y k o v) x e = refl
bound_thing (Index y) x e = refl
bound_thing (Def y h k b) x e = refl
bound_thing _ x e = let d : None ≡ Some x = e in cc

and_second : (a b : Truth) → (a && b) ≡ true → b ≡ true
and_second true b e = e
and_second false b e = cc

if_same : (t : Truth) (k a : ℕ) → (if t then Some k else None) ≡ Some a → (t ≡ true) × (k ≡ a)
if_same true k a e = (refl, same k a e)
  where
    same : (k a : ℕ) → Some k ≡ Some a → k ≡ a
    same k a f = cc
if_same false k a e = let d : None ≡ Some a = e in cc

named : (x : ℕ) (o : Option ℕ) → is_name x o ≡ true → (y : ℕ) × (o ≡ Some y)
named x None e = let d : false ≡ true = e in cc
named x (Some y) e = (y, refl)

-- a binder in a scope is a thing
binder_thing : (R : List Row) (s x n a : ℕ) → binder_in R s x n ≡ Some a → is_thing (at R a).node ≡ true
binder_thing R s x n a e =
    let w = first_of-some (λ b. if binds R s x b then Some b else None) n a e in
    let t = if_same (binds R s x w.0) w.0 a w.2 in
    let it : binds R s x a ≡ true = subst (λ b. binds R s x b ≡ true) t.1 t.0 in
    let y = named x (bound_name (at R a).node)
    (and_second (keeps R s a && not (held R a s)) (is_name x (bound_name (at R a).node)) it) in
    bound_thing (at R a).node y.0 y.1

second_standing : (R : List Row) (s b : ℕ) (o : Option ℕ) (c : CheckCause) → b < length R → bound_name (at R b).node ≡ o
    → Among c (second R s b o) → IsStanding R c
second_standing R s b None c less e a = absurd a
second_standing R s b (Some x) c less e a = by (binds R s x b) a
  where
    again : (p : Option ℕ) → binder_in R s x b ≡ p → Among c (repeated R b p) → IsStanding R c
    again None f g = absurd g
    again (Some d) f g =
        let low = binder_in-below R s x b d f in
        one R c (Duplicate (at R b).place (at R d).place) (
          (b, less, bound_thing (at R b).node x e, refl),
          (d, omega arith, binder_thing R s x b d f, refl),
        ) g

    by : (t : Truth) → Among c (if t then repeated R b (binder_in R s x b) else []) → IsStanding R c
    by true g = again (binder_in R s x b) refl g
    by false g = absurd g

seconds_standing : (R : List Row) (s n : ℕ) (c : CheckCause) → n ≤ length R → Among c (seconds R s n) → IsStanding R c
seconds_standing R s zero c less a = absurd a
seconds_standing R s (suc n) c less a =
    elim (Among-either c (seconds R s n) (second R s n (bound_name (at R n).node)) a) [
      | inl b ↦ seconds_standing R s n c (omega arith) b
      | inr b ↦ second_standing R s n (bound_name (at R n).node) c (omega arith) refl b
    ]

duplicates_standing : (R : List Row) (n : ℕ) (c : CheckCause) → n ≤ length R → Among c (duplicates R n) → IsStanding R c
duplicates_standing R zero c less a = absurd a
duplicates_standing R (suc n) c less a = elim (Among-either c (duplicates R n) (seconds R n n) a) [
  | inl b ↦ duplicates_standing R n c (omega arith) b
  | inr b ↦ seconds_standing R n n c (omega arith) b
]

-- ---- parts of another kind

-- an expression is a thing
expression_thing : (n : Node) → is_expression n ≡ true → is_thing n ≡ true
expression_thing (Literal v) e = refl
expression_thing (Name x) e = refl
expression_thing (Unary o a) e = refl
expression_thing (Binary o a b) e = refl
expression_thing (If s x y) e = refl
expression_thing (Call s c) e = refl
expression_thing (Loop h w l) e = refl
expression_thing (node.Array nested a b) e = refl
expression_thing (Fetch t i) e = refl
expression_thing (Block b) e = refl
expression_thing _ e = let d : false ≡ true = e in cc

-- a thing stands at the row
abbrev IsThing : List Row → ℕ → Type 0
IsThing R a = (a < length R) × (is_thing (at R a).node ≡ true)

-- so does one at each operand
operand_thing : (R : List Row) (i a : ℕ) (n : Node) → IsTable R → i < length R → (at R i).node ≡ n → HasOperand n a
    → IsThing R a
operand_thing R i a n t less e h = (
  part_of a t.formed less e (HasPart-operand n a h),
  expression_thing (at R a).node (t.operand_is i a less (subst (λ z. HasOperand z a) (sym e) h)),
)

placed_standing : (R : List Row) (κ : ℕ → Option Kind) (wanted : Kind) (a : ℕ) (c : CheckCause)
    → IsThingAt R (at R a).place → Among c (wrong R κ wanted a) → IsStanding R c
placed_standing R κ wanted a c h g = by (κ a) g
  where
    at_kind : (found : Kind) (t : Truth) → Among c (if t then [] else (WrongKind (at R a).place wanted found ∷ []))
        → IsStanding R c
    at_kind found true f = absurd f
    at_kind found false f = one R c (WrongKind (at R a).place wanted found) h f

    by : (o : Option Kind) → Among c (unless_found wanted o (at R a).place) → IsStanding R c
    by None f = absurd f
    by (Some found) f = at_kind found (same_kind found wanted) f

wrong_standing : (R : List Row) (κ : ℕ → Option Kind) (wanted : Kind) (a : ℕ) (c : CheckCause) → IsThing R a
    → Among c (wrong R κ wanted a) → IsStanding R c
wrong_standing R κ wanted a c h g = placed_standing R κ wanted a c (a, h.0, h.1, refl) g

-- the predicate of a loop stands where a thing does, and what a `for` has in its place where the loop does
test_placed : (R : List Row) (w t : ℕ) → IsTable R → w < length R → (at R w).node ≡ Switches t
    → IsThingAt R (at R t).place
test_placed R w t f less e = by (at R t).node refl
  where
    within : t < length R
    within = part_of t f.formed less e refl

    expression : is_within (at R t).node ≡ false → IsThingAt R (at R t).place
    expression g = (t, within, expression_thing (at R t).node (f.test_is w t less e g), refl)

    by : (n : Node) → (at R t).node ≡ n → IsThingAt R (at R t).place
    by (Within k) g =
        let z = f.within_of t k within g in
        let x = f.loop_is z.0 (at R t).block z.1 in
        (z.0, z.1.within, ap is_thing z.1.node, sym ((x.place_carried).within z.2 t z.3))
    by n g = expression (ap is_within g)

both_standing : (R : List Row) (κ : ℕ → Option Kind) (wanted : Kind) (a b : ℕ) (c : CheckCause) → IsThing R a
    → IsThing R b → Among c (wrong_both R κ wanted a b) → IsStanding R c
both_standing R κ wanted a b c h k g = elim (Among-either c (wrong R κ wanted a) (wrong R κ wanted b) g) [
  | inl f ↦ wrong_standing R κ wanted a c h f
  | inr f ↦ wrong_standing R κ wanted b c k f
]

unless_array_standing : (R : List Row) (κ : ℕ → Option Kind) (a : ℕ) (c : CheckCause) → IsThing R a
    → Among c (unless_array (κ a) (at R a).place) → IsStanding R c
unless_array_standing R κ a c h g = by (κ a) g
  where
    at_kind : (found : Kind) (t : Truth) → Among c (if t then [] else (WrongKind (at R a).place Array found ∷ []))
        → IsStanding R c
    at_kind found true f = absurd f
    at_kind found false f = one R c (WrongKind (at R a).place Array found) (a, h.0, h.1, refl) f

    by : (o : Option Kind) → Among c (unless_array o (at R a).place) → IsStanding R c
    by None f = absurd f
    by (Some found) f = at_kind found (is_array found) f

cell_standing : (R : List Row) (κ : ℕ → Option Kind) (a b : ℕ) (c : CheckCause) → IsThing R a → IsThing R b
    → Among c (wrong_cell R κ a b) → IsStanding R c
cell_standing R κ a b c h k g = elim (Among-either c (unless_array (κ a) (at R a).place) (wrong R κ Int b) g) [
  | inl f ↦ unless_array_standing R κ a c h f
  | inr f ↦ wrong_standing R κ Int b c k f
]

equals_standing : (R : List Row) (κ : ℕ → Option Kind) (a b : ℕ) (c : CheckCause) → IsThing R a → IsThing R b
    → (o : Option Kind) → Among c (wrong_equals R κ o a b) → IsStanding R c
equals_standing R κ a b c h k None g = absurd g
equals_standing R κ a b c h k (Some Int) g = wrong_standing R κ Int b c k g
equals_standing R κ a b c h k (Some Bool) g = wrong_standing R κ Bool b c k g
equals_standing R κ a b c h k (Some Array) g = one R c (WrongKind (at R a).place Int Array) (a, h.0, h.1, refl) g
equals_standing R κ a b c h k (Some Nested) g = one R c (WrongKind (at R a).place Int Nested) (a, h.0, h.1, refl) g

like_standing : (R : List Row) (κ : ℕ → Option Kind) (b : ℕ) (c : CheckCause) → IsThing R b → (o : Option Kind)
    → Among c (wrong_like R κ o b) → IsStanding R c
like_standing R κ b c h None g = absurd g
like_standing R κ b c h (Some k) g = wrong_standing R κ k b c h g

operands_standing : (R : List Row) (κ : ℕ → Option Kind) (p : BinaryOp) (a b : ℕ) (c : CheckCause) → IsThing R a
    → IsThing R b → Among c (wrong_operands R κ p a b) → IsStanding R c
operands_standing R κ (class.Arithmetic o) a b c h k g = both_standing R κ Int a b c h k g
operands_standing R κ (class.Logic o) a b c h k g = both_standing R κ Bool a b c h k g
operands_standing R κ (class.Comparison Eq) a b c h k g = equals_standing R κ a b c h k (κ a) g
operands_standing R κ (class.Comparison Ne) a b c h k g = equals_standing R κ a b c h k (κ a) g
operands_standing R κ (class.Comparison Lt) a b c h k g = both_standing R κ Int a b c h k g
operands_standing R κ (class.Comparison Le) a b c h k g = both_standing R κ Int a b c h k g
operands_standing R κ (class.Comparison Gt) a b c h k g = both_standing R κ Int a b c h k g
operands_standing R κ (class.Comparison Ge) a b c h k g = both_standing R κ Int a b c h k g

-- ---- parameters

and_first : (a b : Truth) → (a && b) ≡ true → a ≡ true
and_first true b e = refl
and_first false b e = e

pub params_among : (R : List Row) (h n p : ℕ) → Among p (params_below R h n) → (p < n) × (is_param (at R p).node ≡ true)
params_among R h zero p a = absurd a
params_among R h (suc n) p a = by (is_param (at R n).node && nat_eq (at R n).block h) refl a (params_among R h n p)
  where
    more : (p < n) × (is_param (at R p).node ≡ true) → (p < suc n) × (is_param (at R p).node ≡ true)
    more w = let low = w.0 in (omega arith, w.1)

    last : (is_param (at R n).node && nat_eq (at R n).block h) ≡ true → p ≡ n
        → (p < suc n) × (is_param (at R p).node ≡ true)
    last e f = (
      omega arith,
      ap (λ z. is_param (at R z).node) f ∙ and_first (is_param (at R n).node) (nat_eq (at R n).block h) e,
    )

    by : (t : Truth) → (is_param (at R n).node && nat_eq (at R n).block h) ≡ t
        → Among p (if t then params_below R h n ++ n ∷ [] else params_below R h n)
        → (Among p (params_below R h n) → (p < n) × (is_param (at R p).node ≡ true))
        → (p < suc n) × (is_param (at R p).node ≡ true)
    by true e b r =
        elim (Among-either p (params_below R h n) (n ∷ []) b) [ inl d ↦ more (r d) | inr d ↦ last e (Among-one p n d) ]
    by false e b r = more (r b)

param_thing : (n : Node) → is_param n ≡ true → is_thing n ≡ true
param_thing (Param y k) e = refl
param_thing _ e = let d : false ≡ true = e in cc

array_standing : (R : List Row) (ps : List ℕ) (c : CheckCause)
    → ((p : ℕ) → Among p ps → (p < length R) × (is_param (at R p).node ≡ true))
    → Among c (array_param R ps) → IsStanding R c
array_standing R [] c h a = absurd a
array_standing R (x ∷ xs) c h a = by (is_array_param (at R x).node) a (array_standing R xs c (λ p b. h p (inr b)))
  where
    by : (t : Truth) → Among c (if t then (MainKind (at R x).place ∷ []) else array_param R xs)
        → (Among c (array_param R xs) → IsStanding R c) → IsStanding R c
    by true b r =
        let w = h x (inl refl) in one R c (MainKind (at R x).place) (x, w.0, param_thing (at R x).node w.1, refl) b
    by false b r = r b

-- ---- each row

count_standing : (R : List Row) (o : Option ℕ) (n e : ℕ) (c : CheckCause) → IsThingAt R e
    → Among c (wrong_count R o n e) → IsStanding R c
count_standing R None n e c t b = absurd b
count_standing R (Some h) n e c t b = by (nat_eq n (length (params_at R h))) b
  where
    by : (q : Truth) → Among c (if q then [] else (WrongCount e ∷ [])) → IsStanding R c
    by true b = absurd b
    by false b = one R c (WrongCount e) t b

argument_standing : (R : List Row) (κ : ℕ → Option Kind) (o n : Option ℕ) (k v : ℕ) (c : CheckCause) → IsThing R v
    → Among c (wrong_argument R κ o n k v) → IsStanding R c
argument_standing R κ None n k v c t b = absurd b
argument_standing R κ (Some h) n k v c t b = by (is_count R h n) b
  where
    by : (q : Truth) → Among c (if q then wrong_like R κ (κ (h + 1 + k)) v else []) → IsStanding R c
    by true b = like_standing R κ v c t (κ (h + 1 + k)) b
    by false b = absurd b

causes_in_standing : (R : List Row) (β : ℕ → Option ℕ) (κ : ℕ → Option Kind) (i : ℕ) (c : CheckCause) → IsTable R
    → i < length R → Among c (causes_in R κ (β (user_of i (at R i).node)) (at R i).place (at R i).node) → IsStanding R c
causes_in_standing R β κ i c t less a = by (at R i).node refl a
  where
    thing : (a : ℕ) (n : Node) → (at R i).node ≡ n → HasOperand n a → IsThing R a
    thing a n e h = operand_thing R i a n t less e h

    here : is_thing (at R i).node ≡ true → IsThingAt R (at R i).place
    here t = (i, less, t, refl)

    -- a call stands where its `Enter` does
    call_here : (x : ℕ) → (at R i).node ≡ Enter x → IsThingAt R (at R i).place
    call_here x e =
        let w = t.has_call i x less e in
        (w.0, w.1.within, ap is_thing w.1.node, sym (t.enter_of w.0 i w.1).place)

    -- the use of a first value stands where its `next` does
    next_here : (x : ℕ) → (at R i).node ≡ NextUse x → IsThingAt R (at R i).place
    next_here x e =
        let w = t.use_of i x less e in
        let s = w.2 in
        let n = t.next_in w.0 (at R i).block w.1 x s in
        (w.0, s.within, ap is_thing s.node, sym ((n.2).outer_place) ∙ ap (λ z. (at R z).place) w.3)

    no_binder : (o : Option ℕ) → IsThingAt R (at R i).place → Among c (unknown o (at R i).place) → IsStanding R c
    no_binder None t b = one R c (Unknown (at R i).place) t b
    no_binder (Some z) t b = absurd b

    main : (t : Truth) (d : ℕ) → Among c (if t then array_param R (params_at R d) else []) → IsStanding R c
    main true d b = array_standing R (params_at R d) c (params_among R d (length R)) b
    main false d b = absurd b

    many : (t : Truth) → is_thing (at R i).node ≡ true → Among c (if t then (TooManyParams (at R i).place ∷ []) else [])
        → IsStanding R c
    many true e b = one R c (TooManyParams (at R i).place) (here e) b
    many false e b = absurd b

    by : (n : Node) → (at R i).node ≡ n → Among c (causes_in R κ (β (user_of i n)) (at R i).place n) → IsStanding R c
    by (Name x) e b = no_binder (β i) (here (ap is_thing e)) b
    by (Enter x) e b = no_binder (β i) (call_here x e) b
    by (Arg s k v) e b =
        argument_standing R κ (callee R (β s)) (count_at R (length R) s) k v c (thing v (Arg s k v) e refl) b
    by (Call s n) e b = count_standing R (callee R (β s)) n (at R i).place c (here (ap is_thing e)) b
    by (Unary p a) e b = wrong_standing R κ (unary_kind p) a c (thing a (Unary p a) e refl) b
    by (Binary p x y) e b =
        operands_standing R κ p x y c (thing x (Binary p x y) e (inl refl)) (thing y (Binary p x y) e (inr refl)) b
    by (Split t) e b = wrong_standing R κ Bool t c (thing t (Split t) e refl) b
    by (If s x y) e b = like_standing R κ y c (thing y (If s x y) e (inr refl)) (κ x) b
    by (Bounds x y) e b =
        both_standing R κ Int x y c (thing x (Bounds x y) e (inl refl)) (thing y (Bounds x y) e (inr refl)) b
    by (Switches k) e b = placed_standing R κ Bool k c (test_placed R i k t less e) b
    by (NextUse x) e b = no_binder (β i) (next_here x e) b
    by (Next x k u v) e b = like_standing R κ v c (thing v (Next x k u v) e refl) (κ u) b
    by (node.Array nested x y) e b =
        both_standing R κ Int x y c (thing x (node.Array nested x y) e (inl refl))
        (thing y (node.Array nested x y) e (inr refl)) b
    by (Fetch x y) e b = cell_standing R κ x y c (thing x (Fetch x y) e (inl refl)) (thing y (Fetch x y) e (inr refl)) b
    by (Address x y) e b =
        cell_standing R κ x y c (thing x (Address x y) e (inl refl)) (thing y (Address x y) e (inr refl)) b
    by (Store x y) e b = like_standing R κ y c (thing y (Store x y) e refl) (κ x) b
    by (Def x d k y) e b = elim (Among-either c (wrong R κ k y) (wrong_params R x (at R i).place (params_at R d)) b) [
      | inl g ↦ wrong_standing R κ k y c (thing y (Def x d k y) e refl) g
      | inr g ↦ elim (Among-either c (if nat_eq x 0 then array_param R (params_at R d) else [])
          (if nat_lt 16 (length (params_at R d)) then (TooManyParams (at R i).place ∷ []) else []) g) [
            | inl j ↦ main (nat_eq x 0) d j
            | inr j ↦ many (nat_lt 16 (length (params_at R d))) (ap is_thing e) j
          ]
    ]
    by _ e b = absurd b

below_standing : (R : List Row) (β : ℕ → Option ℕ) (κ : ℕ → Option Kind) (n : ℕ) (c : CheckCause) → IsTable R
    → n ≤ length R → Among c (causes_below R β κ n) → IsStanding R c
below_standing R β κ zero c f less a = absurd a
below_standing R β κ (suc n) c f less a = elim (Among-either c (causes_below R β κ n)
    (causes_in R κ (β (user_of n (at R n).node)) (at R n).place (at R n).node) a) [
      | inl b ↦ below_standing R β κ n c f (omega arith) b
      | inr b ↦ causes_in_standing R β κ n c f (omega arith) b
    ]

-- a cause in a program is at the places of things
pub causes_standing : (R : List Row) (β : ℕ → Option ℕ) (κ : ℕ → Option Kind) (c : CheckCause) → IsTable R
    → Among c (causes R β κ) → IsStanding R c
causes_standing R β κ c f a = elim (Among-either c (duplicates R (length R)) (causes_below R β κ (length R)) a) [
  | inl b ↦ duplicates_standing R (length R) c (omega arith) b
  | inr b ↦ below_standing R β κ (length R) c f (omega arith) b
]

-- ---- the first cause

pub IsRefusedFor-first : (R : List Row) (c : CheckCause) → ∥ IsTable R ∥₁ → HasFirst R c → IsRefusedFor R c
IsRefusedFor-first R NoMain t h =
    absurd (∥∥₁_elim t ⊥_prop (λ f. causes_standing R h.binders h.kinds NoMain f h.first.among))
IsRefusedFor-first R (MainKind e) f h = h
IsRefusedFor-first R (Duplicate e d) f h = h
IsRefusedFor-first R (Unknown e) f h = h
IsRefusedFor-first R (WrongCount e) f h = h
IsRefusedFor-first R (WrongKind e k j) f h = h
IsRefusedFor-first R (TooManyParams e) f h = h
IsRefusedFor-first R Memory f h = tt

has_place : (t : Tree) (e : ℕ) → IsThingAt (rows_of t) e → HasPlace t e
has_place t e w = subst (HasPlace t) w.3 (HasPlace-rows_of t w.0 w.1 w.2)

standing : (R : List Row) (c : CheckCause) → IsTable R → HasFirst R c → IsStanding R c
standing R c f h = causes_standing R h.binders h.kinds c f h.first.among

-- a program is refused for a cause at places of its tree
pub IsInside-refused : (t : Tree) (c : CheckCause) → IsTable (rows_of t) → IsRefusedFor (rows_of t) c → IsInside t c
IsInside-refused t NoMain f h = tt
IsInside-refused t (MainKind e) f h = has_place t e (standing (rows_of t) (MainKind e) f h)
IsInside-refused t (Duplicate e d) f h =
    let w = standing (rows_of t) (Duplicate e d) f h in (has_place t e w.0, has_place t d w.1)
IsInside-refused t (Unknown e) f h = has_place t e (standing (rows_of t) (Unknown e) f h)
IsInside-refused t (WrongCount e) f h = has_place t e (standing (rows_of t) (WrongCount e) f h)
IsInside-refused t (WrongKind e k j) f h = has_place t e (standing (rows_of t) (WrongKind e k j) f h)
IsInside-refused t (TooManyParams e) f h = has_place t e (standing (rows_of t) (TooManyParams e) f h)
IsInside-refused t Memory f h = tt
