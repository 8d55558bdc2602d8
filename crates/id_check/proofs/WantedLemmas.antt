-- What is true of the rows of a checked program: what each is made of has the kinds that it wants.
use Rattle.std.proofs.Common.{◌≡◌, ◌⊎◌, inl, inr, ◌+◌, ◌<◌, ◌≤◌, ℕ, zero, suc}
use Rattle.std.proofs.Common.{Bool as Truth, true, false, List, [], ◌∷◌, ◌++◌, Option, Some, None, length}
use Rattle.std.proofs.Common.{refl, ap, sym, ◌∙◌, arith}
use Rattle.std.specs.Prelude.{nat_eq, nat_lt, if◌then◌else◌}
use Rattle.std.specs.Option.{option_or}
use Rattle.std.proofs.lemmas.Bool.{cases_lt, eqb-true, false≢true}
use Rattle.std.proofs.lemmas.Bool.Decides.{Decides-eqb, nat_tests}
use Rattle.std.proofs.lemmas.List.{get_or_past}
use Rattle.id_value.specs.List.{Among}
use Rattle.id_value.specs.declared.Kind.{Kind}
use Rattle.id_value.specs.declared.Kind.TheVariants.{Int, Bool, Array, Nested}
use Rattle.id_value.specs.Kinds.{array_kind as array_kind_of, same_kind}
use Rattle.id_value.specs.declared.UnaryOp.{UnaryOp}
use Rattle.id_value.specs.declared.BinaryOp.{BinaryOp}
use Rattle.id_value.specs.declared.BinaryOp.TheVariants as class
use Rattle.id_value.specs.declared.Arithmetic.{Arithmetic}
use Rattle.id_value.specs.declared.Logic.{Logic}
use Rattle.id_value.specs.declared.Comparison.{Comparison}
use Rattle.id_value.specs.declared.Comparison.TheVariants.{Lt, Le, Gt, Ge, Eq, Ne}
use Rattle.id_table.specs.declared.row.Row.{Row}
use Rattle.id_table.specs.declared.row.Node.{Node}
use Rattle.id_table.specs.declared.row.Node.TheVariants.{Head, Param, Unary, Binary, Split, If, Arg, Call, Def}
use Rattle.id_table.specs.declared.row.Node.TheVariants.{Switches, NextUse, Next, Loop, Bounds, Carried, Within, Index}
use Rattle.id_table.specs.declared.row.Node.TheVariants.{Fetch, Address, Store}
use Rattle.id_table.specs.declared.row.Node.TheVariants as node
use Rattle.id_table.specs.Loops.{IsLoopOf}
use Rattle.id_table.specs.Rows.{at, no_row}
use Rattle.id_table.specs.Tables.{HasOperand, is_binder, is_expression, is_param, is_within}
use Rattle.id_table.specs.Turns.{params_at}
use Rattle.id_check.specs.declared.cause.CheckCause.TheVariants.{MainKind, TooManyParams, WrongCount, WrongKind}
use Rattle.id_check.specs.declared.checked.Checked.{Checked}
use Rattle.id_check.specs.Causes.{array_param, callee, count_at, count_in, head_in, is_count, is_array_param}
use Rattle.id_check.specs.Causes.{unless_array, unless_found, wrong, wrong_argument, wrong_both, wrong_cell}
use Rattle.id_check.specs.Causes.{wrong_count, wrong_equals, wrong_like, wrong_params}
use Rattle.id_check.specs.Kinds.{kind_within, link_of_name, unary_kind}
use Rattle.id_check.specs.Programs.{Calls, Stands, binder, kind, rows}
use Rattle.id_check.specs.Scopes.{first_of}
use Rattle.id_check.proofs.LinksLemmas.{part_of}
use Rattle.id_table.proofs.BlocksLemmas.{Among-from_params_at, param_at}
use Rattle.id_check.proofs.ProgramsLemmas.{IsBoundAt, binder_has_kind, both_nil, bound_use_row, has_kind, kind_along}
use Rattle.id_check.proofs.ProgramsLemmas.{kind_element, kind_fixed, next_use_row, none_in, part_row, table_of}

-- ---- the wanted kinds

same_is : (j k : Kind) → same_kind j k ≡ true → j ≡ k
same_is Int Int e = refl
same_is Bool Bool e = refl
same_is Array Array e = refl
same_is Int Bool e = absurd (false≢true e)
same_is Int Array e = absurd (false≢true e)
same_is Bool Int e = absurd (false≢true e)
same_is Bool Array e = absurd (false≢true e)
same_is Array Int e = absurd (false≢true e)
same_is Array Bool e = absurd (false≢true e)
same_is Nested Nested e = refl
same_is Int Nested e = absurd (false≢true e)
same_is Bool Nested e = absurd (false≢true e)
same_is Array Nested e = absurd (false≢true e)
same_is Nested Int e = absurd (false≢true e)
same_is Nested Bool e = absurd (false≢true e)
same_is Nested Array e = absurd (false≢true e)

-- an expression of which a kind is wanted has it, where there is no cause
wanted_kind : (P : Checked) (k : Kind) (a : ℕ) → a < length (rows P) → is_expression (at (rows P) a).node ≡ true
    → wrong (rows P) (kind P) k a ≡ [] → kind P a ≡ Some k
wanted_kind P k a less e f =
    let w = has_kind P a less e in
    w.1 ∙ ap (λ z. Some z)
    (same_is w.0 k (by (same_kind w.0 k) (sym (ap (λ o. unless_found k o (at (rows P) a).place) w.1) ∙ f)))
  where
    by : (t : Truth) → (if t then [] else (WrongKind (at (rows P) a).place k (has_kind P a less e).0 ∷ [])) ≡ []
        → t ≡ true
    by true g = refl
    by false g = cc

-- the operand of an operator before it
pub unary_row : (P : Checked) (i a : ℕ) (p : UnaryOp) → Stands P i (Unary p a) → kind P a ≡ Some (unary_kind p)
unary_row P i a p h =
    let w = part_row P i a (Unary p a) h refl in wanted_kind P (unary_kind p) a w.0 w.1 (none_in P i (Unary p a) h)

both_wanted : (P : Checked) (i a b : ℕ) (p : BinaryOp) (k : Kind) → Stands P i (Binary p a b)
    → wrong_both (rows P) (kind P) k a b ≡ [] → (kind P a ≡ Some k) × (kind P b ≡ Some k)
both_wanted P i a b p k h e =
    let v = part_row P i a (Binary p a b) h (inl refl) in
    let w = part_row P i b (Binary p a b) h (inr refl) in
    let n = both_nil (wrong (rows P) (kind P) k a) (wrong (rows P) (kind P) k b) e in
    (wanted_kind P k a v.0 v.1 n.0, wanted_kind P k b w.0 w.1 n.1)

-- the operands of arithmetic are numbers
pub arithmetic_row : (P : Checked) (i a b : ℕ) (o : Arithmetic) → Stands P i (Binary (class.Arithmetic o) a b)
    → (kind P a ≡ Some Int) × (kind P b ≡ Some Int)
arithmetic_row P i a b o h =
    both_wanted P i a b (class.Arithmetic o) Int h (none_in P i (Binary (class.Arithmetic o) a b) h)

-- those of a connective are truth values
pub logic_row : (P : Checked) (i a b : ℕ) (o : Logic) → Stands P i (Binary (class.Logic o) a b)
    → (kind P a ≡ Some Bool) × (kind P b ≡ Some Bool)
logic_row P i a b o h = both_wanted P i a b (class.Logic o) Bool h (none_in P i (Binary (class.Logic o) a b) h)

-- whether the comparison is `==` or `<>`
abbrev pub is_equality : Comparison → Truth
is_equality Eq = true
is_equality Ne = true
is_equality _ = false

-- those of the other comparisons are numbers
pub order_row : (P : Checked) (i a b : ℕ) (o : Comparison) → is_equality o ≡ false
    → Stands P i (Binary (class.Comparison o) a b) → (kind P a ≡ Some Int) × (kind P b ≡ Some Int)
order_row P i a b Lt e h =
    both_wanted P i a b (class.Comparison Lt) Int h (none_in P i (Binary (class.Comparison Lt) a b) h)
order_row P i a b Le e h =
    both_wanted P i a b (class.Comparison Le) Int h (none_in P i (Binary (class.Comparison Le) a b) h)
order_row P i a b Gt e h =
    both_wanted P i a b (class.Comparison Gt) Int h (none_in P i (Binary (class.Comparison Gt) a b) h)
order_row P i a b Ge e h =
    both_wanted P i a b (class.Comparison Ge) Int h (none_in P i (Binary (class.Comparison Ge) a b) h)
order_row P i a b Eq e h = let d : true ≡ false = e in cc
order_row P i a b Ne e h = let d : true ≡ false = e in cc

equal_kinds : (P : Checked) (i a b : ℕ) (p : BinaryOp) → Stands P i (Binary p a b)
    → wrong_equals (rows P) (kind P) (kind P a) a b ≡ [] → ((kind P a ≡ Some Int) ⊎ (kind P a ≡ Some Bool))
    × (kind P b ≡ kind P a)
equal_kinds P i a b p h e = by v.0 v.1
  where
    v : (k : Kind) × (kind P a ≡ Some k)
    v = let w = part_row P i a (Binary p a b) h (inl refl) in has_kind P a w.0 w.1

    right : (k : Kind) → wrong (rows P) (kind P) k b ≡ [] → kind P b ≡ Some k
    right k f = let w = part_row P i b (Binary p a b) h (inr refl) in wanted_kind P k b w.0 w.1 f

    by : (k : Kind) → kind P a ≡ Some k → ((kind P a ≡ Some Int) ⊎ (kind P a ≡ Some Bool)) × (kind P b ≡ kind P a)
    by Int f = (inl f, right Int (sym (ap (λ o. wrong_equals (rows P) (kind P) o a b) f) ∙ e) ∙ sym f)
    by Bool f = (inr f, right Bool (sym (ap (λ o. wrong_equals (rows P) (kind P) o a b) f) ∙ e) ∙ sym f)
    by Array f =
        let d : WrongKind (at (rows P) a).place Int Array ∷ [] ≡ [] =
        sym (ap (λ o. wrong_equals (rows P) (kind P) o a b) f) ∙ e in cc
    by Nested f =
        let d : WrongKind (at (rows P) a).place Int Nested ∷ [] ≡ [] =
        sym (ap (λ o. wrong_equals (rows P) (kind P) o a b) f) ∙ e in cc

-- those of `==` and `<>` are both numbers or both truth values
pub equality_row : (P : Checked) (i a b : ℕ) (o : Comparison) → is_equality o ≡ true
    → Stands P i (Binary (class.Comparison o) a b) → ((kind P a ≡ Some Int) ⊎ (kind P a ≡ Some Bool))
    × (kind P b ≡ kind P a)
equality_row P i a b Eq e h =
    equal_kinds P i a b (class.Comparison Eq) h (none_in P i (Binary (class.Comparison Eq) a b) h)
equality_row P i a b Ne e h =
    equal_kinds P i a b (class.Comparison Ne) h (none_in P i (Binary (class.Comparison Ne) a b) h)
equality_row P i a b Lt e h = absurd (false≢true e)
equality_row P i a b Le e h = absurd (false≢true e)
equality_row P i a b Gt e h = absurd (false≢true e)
equality_row P i a b Ge e h = absurd (false≢true e)

-- ---- arrays

-- such kinds are wanted of two operands of a row
two_wanted : (P : Checked) (i a b : ℕ) (n : Node) (j k : Kind) → Stands P i n → HasOperand n a → HasOperand n b
    → wrong (rows P) (kind P) j a ++ wrong (rows P) (kind P) k b ≡ [] → (kind P a ≡ Some j) × (kind P b ≡ Some k)
two_wanted P i a b n j k h f g e =
    let v = part_row P i a n h f in
    let w = part_row P i b n h g in
    let z = both_nil (wrong (rows P) (kind P) j a) (wrong (rows P) (kind P) k b) e in
    (wanted_kind P j a v.0 v.1 z.0, wanted_kind P k b w.0 w.1 z.1)

-- the bounds of an array are numbers
pub array_row : {nested : Truth} (P : Checked) (i a b : ℕ) → Stands P i (node.Array nested a b)
    → (kind P a ≡ Some Int) × (kind P b ≡ Some Int)
array_row {nested} P i a b h =
    two_wanted P i a b (node.Array nested a b) Int Int h (inl refl) (inr refl) (none_in P i (node.Array nested a b) h)

-- and so are those of an index
pub bounds_row : (P : Checked) (i a b : ℕ) → Stands P i (node.Bounds a b)
    → (kind P a ≡ Some Int) × (kind P b ≡ Some Int)
bounds_row P i a b h =
    two_wanted P i a b (node.Bounds a b) Int Int h (inl refl) (inr refl) (none_in P i (node.Bounds a b) h)

-- where an array is wanted and there is no cause, the kind is one of arrays
array_is : (k : Kind) (e : ℕ) → unless_array (Some k) e ≡ [] → (nested : Truth) × (k ≡ array_kind_of nested)
array_is Int e f = let d : WrongKind e Array Int ∷ [] ≡ [] = f in cc
array_is Bool e f = let d : WrongKind e Array Bool ∷ [] ≡ [] = f in cc
array_is Array e f = (false, refl)
array_is Nested e f = (true, refl)

cell_wanted : (P : Checked) (i t j : ℕ) (n : Node) → Stands P i n → HasOperand n t → HasOperand n j
    → wrong_cell (rows P) (kind P) t j ≡ [] → (nested : Truth) × (kind P t ≡ Some (array_kind_of nested))
    × (kind P j ≡ Some Int)
cell_wanted P i t j n h f g e =
    let v = part_row P i t n h f in
    let w = part_row P i j n h g in
    let k = has_kind P t v.0 v.1 in
    let place = (at (rows P) t).place in
    let z = both_nil (unless_array (kind P t) place) (wrong (rows P) (kind P) Int j) e in
    let x = array_is k.0 place (sym (ap (λ o. unless_array o place) k.1) ∙ z.0) in
    (x.0, k.1 ∙ ap (λ o. Some o) x.1, wanted_kind P Int j w.0 w.1 z.1)

-- the target of a fetch is an array, and its index a number
pub fetch_row : (P : Checked) (i t j : ℕ) → Stands P i (Fetch t j)
    → (nested : Truth) × (kind P t ≡ Some (array_kind_of nested)) × (kind P j ≡ Some Int)
fetch_row P i t j h = cell_wanted P i t j (Fetch t j) h (inl refl) (inr refl) (none_in P i (Fetch t j) h)

-- and so are those of a store
pub address_row : (P : Checked) (i t j : ℕ) → Stands P i (Address t j)
    → (nested : Truth) × (kind P t ≡ Some (array_kind_of nested)) × (kind P j ≡ Some Int)
address_row P i t j h = cell_wanted P i t j (Address t j) h (inl refl) (inr refl) (none_in P i (Address t j) h)

-- an array is one, and a fetch and an address have the kind of its elements
pub array_kind : {nested : Truth} (P : Checked) (i a b : ℕ) → Stands P i (node.Array nested a b)
    → kind P i ≡ Some (array_kind_of nested)
array_kind {nested} P i a b h = kind_fixed P i (node.Array nested a b) (array_kind_of nested) h refl

pub fetch_kind : (P : Checked) (i t j : ℕ) → Stands P i (Fetch t j) → kind P i ≡ Some (kind_within (kind P t))
fetch_kind P i t j h = kind_element P i t (Fetch t j) h refl

pub address_kind : (P : Checked) (i t j : ℕ) → Stands P i (Address t j) → kind P i ≡ Some (kind_within (kind P t))
address_kind P i t j h = kind_element P i t (Address t j) h refl

-- the value of a store has the kind of its address
pub store_row : (P : Checked) (i a v t j : ℕ) → Stands P i (Store a v) → Stands P a (Address t j) → kind P v ≡ kind P a
store_row P i a v t j h g =
    let k = address_kind P a t j g in
    let w = part_row P i v (Store a v) h refl in
    wanted_kind P (kind_within (kind P t)) v w.0 w.1 (sym (ap (λ o. wrong_like (rows P) (kind P) o v) k)
    ∙ none_in P i (Store a v) h) ∙ sym k

-- ---- conditionals

-- the predicate of a conditional is a truth value
pub split_row : (P : Checked) (i t : ℕ) → Stands P i (Split t) → kind P t ≡ Some Bool
split_row P i t h = let w = part_row P i t (Split t) h refl in wanted_kind P Bool t w.0 w.1 (none_in P i (Split t) h)

-- its arms have its kind
pub if_row : (P : Checked) (i s x y : ℕ) → Stands P i (If s x y) → (kind P x ≡ kind P i) × (kind P y ≡ kind P i)
if_row P i s x y h = (sym along, other ∙ sym along)
  where
    along : kind P i ≡ kind P x
    along = kind_along P i x (If s x y) h refl

    first : (k : Kind) × (kind P x ≡ Some k)
    first = let w = part_row P i x (If s x y) h (inl refl) in has_kind P x w.0 w.1

    other : kind P y ≡ kind P x
    other =
        let w = part_row P i y (If s x y) h (inr refl) in
        wanted_kind P first.0 y w.0 w.1 (sym (ap (λ o. wrong_like (rows P) (kind P) o y) first.1)
        ∙ none_in P i (If s x y) h) ∙ sym first.1

-- ---- loops

-- what is carried on for an index has its kind, the flag of a `for` is a truth value, and an index a number
pub carried_kind : (P : Checked) (i : ℕ) (k : Kind) → Stands P i (Carried k) → kind P i ≡ Some k
carried_kind P i k h = kind_fixed P i (Carried k) k h refl

pub within_kind : (P : Checked) (i f : ℕ) → Stands P i (Within f) → kind P i ≡ Some Bool
within_kind P i f h = kind_fixed P i (Within f) Bool h refl

pub index_kind : (P : Checked) (i x : ℕ) → Stands P i (Index x) → kind P i ≡ Some Int
index_kind P i x h = kind_fixed P i (Index x) Int h refl

-- its bounds are numbers
pub bounds_kinds : (P : Checked) (i a b : ℕ) → Stands P i (Bounds a b) → (kind P a ≡ Some Int) × (kind P b ≡ Some Int)
bounds_kinds P i a b h = two_wanted P i a b (Bounds a b) Int Int h (inl refl) (inr refl) (none_in P i (Bounds a b) h)

-- the predicate of a loop is a truth value, and so is what a `for` has in its place
pub switches_row : (P : Checked) (w t : ℕ) → Stands P w (Switches t) → kind P t ≡ Some Bool
switches_row P w t h = by (at (rows P) t).node refl
  where
    within : t < length (rows P)
    within = part_of t P.table.formed h.within h.node refl

    expression : is_within (at (rows P) t).node ≡ false → kind P t ≡ Some Bool
    expression e = wanted_kind P Bool t within ((table_of P).test_is w t h.within h.node e) (none_in P w (Switches t) h)

    by : (n : Node) → (at (rows P) t).node ≡ n → kind P t ≡ Some Bool
    by (Within f) e = within_kind P t f (record { within = within; node = e })
    by n e = expression (ap is_within e)

-- a loop has the kind of its last expression
pub loop_row : (P : Checked) (n h w l : ℕ) → Stands P n (Loop h w l) → kind P n ≡ kind P l
loop_row P n h w l s = kind_along P n l (Loop h w l) s refl

-- a loop's variable has the kind of what its name means outside, and so has what it is next
pub next_row : (P : Checked) (m x k o v : ℕ) → Stands P m (Next x k o v)
    → (b : ℕ) × (n : ℕ) × IsLoopOf (rows P) n (at (rows P) o).block × IsBoundAt P o x b n × (kind P m ≡ kind P b)
    × (kind P v ≡ kind P m)
next_row P m x k o v h =
    let u = next_use_row P m x k o v h in
    let w = bound_use_row P o x u in
    let along = kind_along P m o (Next x k o v) h refl in
    let first = binder_has_kind P m h.within (ap is_binder h.node) in
    let z = part_row P m v (Next x k o v) h refl in (
      w.0,
      w.1,
      w.2,
      w.3,
      along ∙ kind_along P o w.0 (NextUse x) u (ap link_of_name (w.3).binder),
      wanted_kind P first.0 v z.0 z.1 (sym (ap (λ q. wrong_like (rows P) (kind P) q v) (sym along ∙ first.1))
          ∙ none_in P m (Next x k o v) h) ∙ sym first.1,
    )

-- ---- calls

-- the number that a function gives first, where it gives one alone
first_of-only : (f : ℕ → Option ℕ) (n m c : ℕ) → m < n → f m ≡ Some c → ((i : ℕ) (d : ℕ) → f i ≡ Some d → i ≡ m)
    → first_of f n ≡ Some c
first_of-only f zero m c less e once = absurd (omega arith)
first_of-only f (suc n) m c less e once = elim (cases_lt m n) [
  | inl l ↦ ap (λ o. option_or o (f n)) (first_of-only f n m c l e once)
  | inr l ↦ let z : m ≡ n = omega arith in
      ap (λ o. option_or o (f n)) (none n (λ i w d g. let y = once i d g in omega arith)) ∙ ap f (sym z) ∙ e
]
  where
    none : (k : ℕ) → ((i : ℕ) → i < k → (d : ℕ) → f i ≡ Some d → ⊥) → first_of f k ≡ None
    none zero h = refl
    none (suc k) h = ap (λ o. option_or o (f k)) (none k (λ i w. h i (omega arith))) ∙ no (f k) refl
      where
        no : (o : Option ℕ) → f k ≡ o → f k ≡ None
        no None g = g
        no (Some d) g = absurd (h k (omega arith) d g)

-- where a number is given for a call's `Enter`, that call stands there
counted_call : (n : Node) (e c : ℕ) → count_in e n ≡ Some c → n ≡ Call e c
counted_call (Call f d) e c g = by (nat_eq f e) refl g
  where
    by : (t : Truth) → nat_eq f e ≡ t → (if t then Some d else None) ≡ Some c → Call f d ≡ Call e c
    by true w q = let x : f ≡ e = eqb-true f e w in let y : d ≡ c = cc in ap (λ k. Call k d) x ∙ ap (Call e) y
    by false w q = let x : None ≡ Some c = q in cc
counted_call _ e c g = let x : None ≡ Some c = g in cc

-- the number of arguments that was found for an `Enter` is its call's
count_row : (P : Checked) (i e c : ℕ) → Stands P i (Call e c) → count_at (rows P) (length (rows P)) e ≡ Some c
count_row P i e c h =
    first_of-only (λ k. count_in e (at (rows P) k).node) (length (rows P)) i c h.within
    (ap (count_in e) h.node ∙ ap (λ t. if t then Some c else None) (eqb-refl e))
    (λ k d g. only k d (counted_call (at (rows P) k).node e d g))
  where
    eqb-refl : (n : ℕ) → nat_eq n n ≡ true
    eqb-refl n = (Decides-eqb n n).1 refl

    only : (k d : ℕ) → (at (rows P) k).node ≡ Call e d → k ≡ i
    only k d g = elim (cases_lt k (length (rows P))) [
      | inl l ↦ (table_of P).one_call k i e (record { count = d; within = l; node = g })
          (record { count = c; within = h.within; node = h.node })
      | inr l ↦ let x : Head ≡ Call e d =
          sym (ap (λ (r : Row). r.node) (get_or_past (rows P) k no_row l)) ∙ g in
          absurd (false≢true (ap is_expression x))
    ]

equal_count : (R : List Row) (h c e : ℕ) → wrong_count R (Some h) c e ≡ [] → c ≡ length (params_at R h)
equal_count R h c e f = by (nat_eq c (length (params_at R h))) refl f
  where
    by : (t : Truth) → nat_eq c (length (params_at R h)) ≡ t → (if t then [] else (WrongCount e ∷ [])) ≡ []
        → c ≡ length (params_at R h)
    by true g q = eqb-true c (length (params_at R h)) g
    by false g q = let x : WrongCount e ∷ [] ≡ [] = q in cc

callee_head : (P : Checked) (e d h : ℕ) → Calls P e d h → callee (rows P) (binder P e) ≡ Some h
callee_head P e d h w = ap (callee (rows P)) w.binder ∙ ap head_in w.definition.node

-- a call has as many arguments as its procedure has parameters, and the kind of the procedure's result
pub call_row : (P : Checked) (i e c d h : ℕ) → Stands P i (Call e c) → (w : Calls P e d h)
    → (c ≡ length (params_at (rows P) h)) × (kind P i ≡ Some w.result)
call_row P i e c d h s w = (
  equal_count (rows P) h c (at (rows P) i).place
      (sym (ap (λ o. wrong_count (rows P) o c (at (rows P) i).place) (callee_head P e d h w)) ∙
      none_in P i (Call e c) s),
  kind_along P i d (Call e c) s (ap link_of_name w.binder)
      ∙ kind_fixed P d (Def w.name h w.result w.body) w.result w.definition refl,
)

-- the call that an argument belongs to
pub record IsArgument (P : Checked) (m e k v : ℕ) : Type 0 where
  pub call : ℕ
  pub count : ℕ
  pub stands : Stands P call (Call e count)
  pub low : k < count

pub argument_call : (P : Checked) (m e k v : ℕ) → Stands P m (Arg e k v) → IsArgument P m e k v
argument_call P m e k v s =
    let a = (table_of P).arg_of m e k (record { value = v; within = s.within; node = s.node }) in
    record {
      call = a.row;
      count = a.call.count;
      stands = record { within = a.call.within; node = a.call.node };
      low =
          a.stands.index;
    }

-- an argument has the kind of the parameter of its index, which is the row so far behind the head
pub argument_row : (P : Checked) (m e k v d h : ℕ) → Stands P m (Arg e k v) → Calls P e d h
    → Among (h + 1 + k) (params_at (rows P) h) × (kind P v ≡ kind P (h + 1 + k))
argument_row P m e k v d h s w = (param, same)
  where
    a : IsArgument P m e k v
    a = argument_call P m e k v s

    count : a.count ≡ length (params_at (rows P) h)
    count = (call_row P a.call e a.count d h a.stands w).0

    param : Among (h + 1 + k) (params_at (rows P) h)
    param = param_at (rows P) (table_of P) h d
        (record {
          name = w.name;
          result = w.result;
          body = w.body;
          within = w.definition.within;
          node =
              w.definition.node;
        }) k (omega (arith, a.low, count))

    none : wrong_like (rows P) (kind P) (kind P (h + 1 + k)) v ≡ []
    none =
        ap (λ t. if t then wrong_like (rows P) (kind P) (kind P (h + 1 + k)) v else []) (sym
        (ap (is_count (rows P) h) (count_row P a.call e a.count a.stands)
        ∙ (Decides-eqb a.count (length (params_at (rows P) h))).1 count))
        ∙ sym (ap (λ o. wrong_argument (rows P) (kind P) o (count_at (rows P) (length (rows P)) e) k v)
        (callee_head P e d h w)) ∙ none_in P m (Arg e k v) s

    same : kind P v ≡ kind P (h + 1 + k)
    same =
        let q = Among-from_params_at (rows P) h (h + 1 + k) param in
        let z = binder_has_kind P (h + 1 + k) q.0 (param_binder (at (rows P) (h + 1 + k)).node q.1) in
        let u = part_row P m v (Arg e k v) s refl in
        wanted_kind P z.0 v u.0 u.1 (sym (ap (λ o. wrong_like (rows P) (kind P) o v) z.1) ∙ none) ∙ sym z.1
      where
        param_binder : (n : Node) → is_param n ≡ true → is_binder n ≡ true
        param_binder (Param x j) g = refl
        param_binder _ g = absurd (false≢true g)

-- ---- definitions

def_none : (P : Checked) (i x d b : ℕ) (k : Kind) → Stands P i (Def x d k b)
    → (wrong (rows P) (kind P) k b ≡ []) × (wrong_params (rows P) x (at (rows P) i).place (params_at (rows P) d) ≡ [])
def_none P i x d b k h =
    both_nil (wrong (rows P) (kind P) k b) (wrong_params (rows P) x (at (rows P) i).place (params_at (rows P) d))
    (none_in P i (Def x d k b) h)

-- the body of a definition has the kind of its result
pub def_row : (P : Checked) (i x d b : ℕ) (k : Kind) → Stands P i (Def x d k b) → kind P b ≡ Some k
def_row P i x d b k h =
    let w = part_row P i b (Def x d k b) h refl in wanted_kind P k b w.0 w.1 (def_none P i x d b k h).0

no_array : (R : List Row) (ps : List ℕ) (p : ℕ) → array_param R ps ≡ [] → Among p ps
    → is_array_param (at R p).node ≡ false
no_array R [] p e a = absurd a
no_array R (x ∷ xs) p e a = by (is_array_param (at R x).node) refl e a (no_array R xs p)
  where
    by : (t : Truth) → is_array_param (at R x).node ≡ t
        → (if t then (MainKind (at R x).place ∷ []) else array_param R xs) ≡ [] → (p ≡ x) ⊎ Among p xs
        → (array_param R xs ≡ [] → Among p xs → is_array_param (at R p).node ≡ false)
        → is_array_param (at R p).node ≡ false
    by true f g b r = cc
    by false f g (inl b) r = ap (λ z. is_array_param (at R z).node) b ∙ f
    by false f g (inr b) r = r g b

-- `main` takes no array
pub main_row : (P : Checked) (i d b p : ℕ) (k : Kind) → Stands P i (Def 0 d k b) → Among p (params_at (rows P) d)
    → is_array_param (at (rows P) p).node ≡ false
main_row P i d b p k h a =
    no_array (rows P) (params_at (rows P) d) p
    (both_nil (array_param (rows P) (params_at (rows P) d))
    (if nat_lt 16 (length (params_at (rows P) d)) then (TooManyParams (at (rows P) i).place ∷ [])
    else []) (def_none P i 0 d b k h).1).0 a

-- a definition has at most 16 parameters
pub few_params : (P : Checked) (i x d b : ℕ) (k : Kind) → Stands P i (Def x d k b) → length (params_at (rows P) d) ≤ 16
few_params P i x d b k h =
    by (nat_lt 16 (length (params_at (rows P) d))) refl
    (both_nil (if nat_eq x 0 then array_param (rows P) (params_at (rows P) d) else [])
    (if nat_lt 16 (length (params_at (rows P) d)) then (TooManyParams (at (rows P) i).place ∷ [])
    else []) (def_none P i x d b k h).1).1
  where
    by : (t : Truth) → nat_lt 16 (length (params_at (rows P) d)) ≡ t
        → (if t then (TooManyParams (at (rows P) i).place ∷ []) else []) ≡ []
        → length (params_at (rows P) d) ≤ 16
    by true e f = cc
    by false e f = grind (arith, nat_tests)
