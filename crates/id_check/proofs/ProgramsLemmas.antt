-- What is true of a checked program: its names have binders, and its expressions and binders have kinds.
use Rattle.std.proofs.Common.{◌≡◌, ◌⊎◌, inl, inr, ◌<◌, ◌≤◌, ℕ, zero, suc, Bool as Truth, true, false, List, []}
use Rattle.std.proofs.Common.{◌∷◌, ◌++◌, Option, Some, None, length, refl, ap, sym, ◌∙◌, subst, arith}
use Rattle.std.specs.Prelude.{◌&&◌, ◌||◌, not, if◌then◌else◌}
use Rattle.std.proofs.lemmas.Bool.{cases_lt, false≢true}
use Rattle.std.proofs.lemmas.Bool.Decides.{nat_tests}
use Rattle.id_value.specs.declared.Kind.{Kind}
use Rattle.id_value.specs.declared.Kind.TheVariants.{Int, Bool, Array, Nested}
use Rattle.id_value.specs.Kinds.{array_kind as array_kind_of}
use Rattle.id_table.specs.declared.row.Row.{Row}
use Rattle.id_table.specs.declared.row.Node.{Node}
use Rattle.id_table.specs.declared.row.Node.TheVariants.{Head, Param, Literal, Name, Unary, Binary, Split, If, Enter}
use Rattle.id_table.specs.declared.row.Node.TheVariants.{Arg, Call, Block, Binding, Def, Program}
use Rattle.id_table.specs.declared.row.Node.TheVariants.{Start, LoopHead, Variable, Entries, Switches, Turn, NextUse}
use Rattle.id_table.specs.declared.row.Node.TheVariants.{Next, Body, Reset, Loop}
use Rattle.id_table.specs.declared.row.Node.TheVariants.{Bounds, Carried, Within, Count, Index, Span}
use Rattle.id_table.specs.declared.row.Node.TheVariants.{Fetch, Address, Store}
use Rattle.id_table.specs.declared.row.Node.TheVariants as node
use Rattle.id_table.specs.Loops.{IsLoopOf}
use Rattle.id_table.specs.Rows.{at}
use Rattle.id_table.specs.Tables.{HasOperand, around, is_binder, is_def, is_expression, is_in_loop}
use Rattle.id_table.specs.Regions.{Lies}
use Rattle.id_table.specs.Turns.{IsTable}
use Rattle.id_table.proofs.RegionLemmas.{HasPart-operand}
use Rattle.id_table.proofs.TableLemmas.{IsTable-rows_of}
use Rattle.id_check.specs.declared.cause.CheckCause.TheVariants.{Unknown}
use Rattle.id_check.specs.declared.checked.Checked.{Checked}
use Rattle.id_check.specs.declared.cause.CheckCause.{CheckCause}
use Rattle.id_check.specs.Causes.{causes_below, causes_in, duplicates, unknown}
use Rattle.id_check.specs.declared.kinds.Link.{Link}
use Rattle.id_check.specs.declared.kinds.Link.TheVariants.{Fixed, To, Nowhere}
use Rattle.id_check.specs.declared.kinds.Link.TheVariants as link
use Rattle.id_check.specs.Chains.{goes_to}
use Rattle.id_check.specs.Kinds.{AreKinds, EndsIn, binary_kind, constant_kind, in_kind, in_nothing, further, within}
use Rattle.id_check.specs.Kinds.{kind_within, link_at, link_of, link_of_name, unary_kind}
use Rattle.id_check.specs.Programs.{Calls, Stands, binder, kind, region, rows, tree}
use Rattle.id_check.specs.Scopes.{binder_by, binder_in, binder_of, binds, bound_name, held, is_name}
use Rattle.id_check.specs.Scopes.{is_next_use, keeps, looks, sees, sees_own, takes, used_name, user_of, uses_procedure}
use Rattle.id_check.specs.Scopes.{uses_value}
use Rattle.id_check.proofs.ChainsLemmas.{after, after_within}
use Rattle.id_check.proofs.HomesLemmas.{bound_home, home, seen_outside}
use Rattle.id_check.proofs.LinksLemmas.{link_below, part_of}
use Rattle.id_check.proofs.NotedLemmas.{IsProgramTree-tree_in}
use Rattle.id_check.proofs.ScopesLemmas.{binder_at-below, first_of-some}
use Rattle.id_table.proofs.BlocksLemmas.{not_last}

-- ---- the table

-- the rows are the table of a program's tree
pub table_of : (P : Checked) → IsTable (rows P)
table_of P = subst IsTable (sym P.tabled) (IsTable-rows_of (tree P) (IsProgramTree-tree_in P.tree.known))

-- ---- kinds

option_kind : (o p : Option Kind) → ((o ≡ p → ⊥) → ⊥) → o ≡ p
option_kind None None h = refl
option_kind None (Some k) h = absurd (h (λ e. cc))
option_kind (Some j) None h = absurd (h (λ e. cc))
option_kind (Some Int) (Some Int) h = refl
option_kind (Some Int) (Some Bool) h = absurd (h (λ e. cc))
option_kind (Some Int) (Some Array) h = absurd (h (λ e. cc))
option_kind (Some Bool) (Some Int) h = absurd (h (λ e. cc))
option_kind (Some Bool) (Some Bool) h = refl
option_kind (Some Bool) (Some Array) h = absurd (h (λ e. cc))
option_kind (Some Array) (Some Int) h = absurd (h (λ e. cc))
option_kind (Some Array) (Some Bool) h = absurd (h (λ e. cc))
option_kind (Some Array) (Some Array) h = refl
option_kind (Some Int) (Some Nested) h = absurd (h (λ e. cc))
option_kind (Some Bool) (Some Nested) h = absurd (h (λ e. cc))
option_kind (Some Array) (Some Nested) h = absurd (h (λ e. cc))
option_kind (Some Nested) (Some Int) h = absurd (h (λ e. cc))
option_kind (Some Nested) (Some Bool) h = absurd (h (λ e. cc))
option_kind (Some Nested) (Some Array) h = absurd (h (λ e. cc))
option_kind (Some Nested) (Some Nested) h = refl

-- the kinds of rows are the only ones
pub kind_once : (R : List Row) (β : ℕ → Option ℕ) (κ μ : ℕ → Option Kind) → AreKinds R β κ → AreKinds R β μ → (i : ℕ)
    → i < length R → κ i ≡ μ i
kind_once R β κ μ g h i less = option_kind (κ i) (μ i) (λ d.
    let endless : (o : Option Kind) → EndsIn (link_at R β) i o → ⊥ =
    λ o e. d (g.ends i o less e ∙ sym (h.ends i o less e)) in
    d (g.endless i less endless ∙ sym (h.endless i less endless)))

-- the kind is one all along a chain
kind_to : (R : List Row) (β : ℕ → Option ℕ) (κ : ℕ → Option Kind) (i j : ℕ) → AreKinds R β κ → i < length R
    → j < length R → link_at R β i ≡ To j → κ i ≡ κ j
kind_to R β κ i j h less low e = option_kind (κ i) (κ j) (λ d.
    let endless : (o : Option Kind) → EndsIn (link_at R β) j o → ⊥ =
    λ o f. d (h.ends i o less (further j e f) ∙ sym (h.ends j o low f)) in
    d (h.endless i less (λ o f. endless o (after j f e)) ∙ sym (h.endless j low endless)))

-- and that of the elements of an array follows from the array's
kind_into : (R : List Row) (β : ℕ → Option ℕ) (κ : ℕ → Option Kind) (i j : ℕ) → AreKinds R β κ → i < length R
    → j < length R → link_at R β i ≡ link.Within j → κ i ≡ Some (kind_within (κ j))
kind_into R β κ i j h less low e = option_kind (κ i) (Some (kind_within (κ j))) (λ d.
    let endless : (o : Option Kind) → EndsIn (link_at R β) j o → ⊥ =
    λ o f. d (h.ends i (Some (kind_within o)) less (within j e f)
    ∙ ap (λ z. Some (kind_within z)) (sym (h.ends j o low f))) in
    d (h.endless i less (λ o f. let w = after_within j f e in endless w.0 w.1)
    ∙ ap (λ z. Some (kind_within z)) (sym (h.endless j low endless))))

-- a row's binder is a row
pub binder_below : (P : Checked) (i b : ℕ) → i < length (rows P) → binder P i ≡ Some b → b < length (rows P)
binder_below P i b less e = binder_at-below (rows P) (length (rows P)) i b (sym (P.bound.each i less) ∙ e)

-- where the chain of the row i goes on, if it has this node
abbrev pub link_in : Checked → ℕ → Node → Link
link_in P i n = link_of (binder P (user_of i n)) n

-- the kind is one all along a chain: where that of a row goes on to another row
pub kind_along : (P : Checked) (i j : ℕ) (n : Node) → Stands P i n → link_in P i n ≡ To j → kind P i ≡ kind P j
kind_along P i j n h e =
    let link : link_at (rows P) (binder P) i ≡ To j = ap (link_in P i) h.node ∙ e in
    kind_to (rows P) (binder P) (kind P) i j P.kinded h.within
    (link_below (rows P) (binder P) P.table.formed (binder_below P) i j h.within (ap goes_to link)) link

-- and into an array, whose elements' kind the row has
pub kind_element : (P : Checked) (i j : ℕ) (n : Node) → Stands P i n → link_in P i n ≡ link.Within j
    → kind P i ≡ Some (kind_within (kind P j))
kind_element P i j n h e =
    let on : link_at (rows P) (binder P) i ≡ link.Within j = ap (link_in P i) h.node ∙ e in
    kind_into (rows P) (binder P) (kind P) i j P.kinded h.within
    (link_below (rows P) (binder P) P.table.formed (binder_below P) i j h.within (ap goes_to on)) on

-- where it ends in a kind
pub kind_fixed : (P : Checked) (i : ℕ) (n : Node) (k : Kind) → Stands P i n → link_in P i n ≡ Fixed k
    → kind P i ≡ Some k
kind_fixed P i n k h e = P.kinded.ends i (Some k) h.within (in_kind k (ap (link_in P i) h.node ∙ e))

-- ---- no cause

pub both_nil : {A : Type 0} (xs ys : List A) → xs ++ ys ≡ [] → (xs ≡ []) × (ys ≡ [])
both_nil [] ys e = (refl, e)
both_nil (x ∷ xs) ys e = cc

-- the causes in the row i
abbrev causes_of : List Row → (ℕ → Option ℕ) → (ℕ → Option Kind) → ℕ → List CheckCause
causes_of R β κ i = causes_in R κ (β (user_of i (at R i).node)) (at R i).place (at R i).node

below_nil : (R : List Row) (β : ℕ → Option ℕ) (κ : ℕ → Option Kind) (n i : ℕ) → causes_below R β κ n ≡ [] → i < n
    → causes_of R β κ i ≡ []
below_nil R β κ zero i e less = absurd (omega arith)
below_nil R β κ (suc n) i e less =
    let w = both_nil (causes_below R β κ n) (causes_of R β κ n) e in
    one w.1 (cases_lt i n) (below_nil R β κ n i w.0)
  where
    one : causes_of R β κ n ≡ [] → (i < n) ⊎ (n ≤ i) → (i < n → causes_of R β κ i ≡ []) → causes_of R β κ i ≡ []
    one f (inl c) r = r c
    one f (inr c) r = let same : i ≡ n = omega arith in subst (λ k. causes_of R β κ k ≡ []) (sym same) f

-- a row of a checked program has no cause
pub none_in : (P : Checked) (i : ℕ) (n : Node) → Stands P i n
    → causes_in (rows P) (kind P) (binder P (user_of i n)) (at (rows P) i).place n ≡ []
none_in P i n h =
    subst (λ z. causes_in (rows P) (kind P) (binder P (user_of i z)) (at (rows P) i).place z ≡ []) h.node
    (below_nil (rows P) (binder P) (kind P) (length (rows P)) i
    (both_nil (duplicates (rows P) (length (rows P))) (causes_below (rows P) (binder P) (kind P) (length (rows P)))
    P.accepted).1 h.within)

-- ---- names

and_first : (a b : Truth) → (a && b) ≡ true → a ≡ true
and_first true b e = refl
and_first false b e = e

and_second : (a b : Truth) → (a && b) ≡ true → b ≡ true
and_second true b e = e
and_second false b e = cc

if_some : (t : Truth) (o : Option ℕ) (b : ℕ) → (if t then o else None) ≡ Some b → (t ≡ true) × (o ≡ Some b)
if_some true o b e = (refl, e)
if_some false o b e = let d : None ≡ Some b = e in cc

same_some : (k b : ℕ) → Some k ≡ Some b → k ≡ b
same_some k b f = cc

named : (x : ℕ) (o : Option ℕ) → is_name x o ≡ true → o ≡ Some x
named x None e = let d : false ≡ true = e in cc
named x (Some y) e = let f : y ≡ x = grind (arith, nat_tests) in ap (λ z. Some z) f

not_true : (t : Truth) → not t ≡ true → t ≡ false
not_true true e = cc
not_true false e = refl

-- the row i sees the row b, which binds x, in the scope s
pub record IsSeenIn (R : List Row) (i x b s : ℕ) : Type 0 where
  pub within : s < length R
  pub look : looks (at R s).node (at R i).node ≡ true
  pub round : around R s i ≡ true
  pub out : (sees_own (at R i).node || held R i s) ≡ true
  pub taken : takes (at R s).node (at R b).node ≡ true
  pub inside : around R s b ≡ true
  pub bare : held R b s ≡ false
  pub name : bound_name (at R b).node ≡ Some x

-- a binder is seen in a scope
pub seen_in : (P : Checked) (i x b : ℕ) (n : Node) → Stands P i n → used_name n ≡ Some x → binder P i ≡ Some b
    → (s : ℕ) × IsSeenIn (rows P) i x b s
seen_in P i x b n h u e = (
  s,
  record {
    within = v.1;
    look = and_first (looks (at R s).node (at R i).node) (around R s i) sight;
    round = and_second (looks (at R s).node (at R i).node) (around R s i) sight;
    out = and_second (looks (at R s).node (at R i).node && around R s i) (sees_own (at R i).node || held R i s) w.0;
    taken = and_first (takes (at R s).node (at R b).node) (around R s b) kept;
    inside = and_second (takes (at R s).node (at R b).node) (around R s b) kept;
    bare = not_true (held R b s) (and_second (keeps R s b) (not (held R b s)) free);
    name = named x (bound_name (at R b).node)
        (and_second (keeps R s b && not (held R b s)) (is_name x (bound_name (at R b).node)) it);
  },
)
  where
    R : List Row
    R = rows P

    means : binder_of R x i (length R) ≡ Some b
    means = sym (ap (λ m. binder_by R i (used_name m) (length R)) h.node ∙ ap (λ o. binder_by R i o (length R)) u)
        ∙ (sym (P.bound.each i h.within) ∙ e)

    v : (s : ℕ) × (s < length R) × ((if sees R s i then binder_in R s x s else None) ≡ Some b)
    v = first_of-some (λ s. if sees R s i then binder_in R s x s else None) (length R) b means

    s : ℕ
    s = v.0

    w : (sees R s i ≡ true) × (binder_in R s x s ≡ Some b)
    w = if_some (sees R s i) (binder_in R s x s) b v.2

    it : binds R s x b ≡ true
    it =
        let k = first_of-some (λ k. if binds R s x k then Some k else None) s b w.1 in
        let t = if_some (binds R s x k.0) (Some k.0) b k.2 in
        subst (λ z. binds R s x z ≡ true) (same_some k.0 b t.1) t.0

    free : (keeps R s b && not (held R b s)) ≡ true
    free = and_first (keeps R s b && not (held R b s)) (is_name x (bound_name (at R b).node)) it

    kept : keeps R s b ≡ true
    kept = and_first (keeps R s b) (not (held R b s)) free

    sight : (looks (at R s).node (at R i).node && around R s i) ≡ true
    sight = and_first (looks (at R s).node (at R i).node && around R s i) (sees_own (at R i).node || held R i s) w.0

-- what a scope that looks for names of values takes and binds a name is a binder
taken_binder : (m n : Node) (x : ℕ) → looks m (Name 0) ≡ true → takes m n ≡ true → bound_name n ≡ Some x
    → is_binder n ≡ true
taken_binder (Block b) (Binding y a) x e f g = refl
taken_binder Body (Binding y a) x e f g = refl
taken_binder Body (Next y k o v) x e f g = refl
taken_binder Body (Index y) x e f g = refl
taken_binder Span (Next y k o v) x e f g = refl
taken_binder Span (NextUse y) x e f g = let d : None ≡ Some x = g in cc
taken_binder (Def z h k b) (Param y j) x e f g = refl
taken_binder (Block b) n x e f g = absurd (false≢true f)
taken_binder Body n x e f g = absurd (false≢true f)
taken_binder Span n x e f g = absurd (false≢true f)
taken_binder (Def z h k b) n x e f g = absurd (false≢true f)
taken_binder _ n x e f g = absurd (false≢true e)

looks_any : (m n : Node) → uses_value n ≡ true → looks m n ≡ true → looks m (Name 0) ≡ true
looks_any (Block b) n u e = refl
looks_any Body n u e = refl
looks_any Span n u e = refl
looks_any (Def z h k b) n u e = refl
looks_any Program n u e = absurd (false≢true (sym (no_procedure n u) ∙ e))
  where
    no_procedure : (n : Node) → uses_value n ≡ true → uses_procedure n ≡ false
    no_procedure (Name x) e = refl
    no_procedure (NextUse x) e = refl
    no_procedure _ e = absurd (false≢true e)
looks_any _ n u e = absurd (false≢true e)

-- the name x that the row i uses has its binder at the row b, whose value is at home where the row j stands, or further
-- out
pub record IsBoundAt (P : Checked) (i x b j : ℕ) : Type 0 where
  pub binder : binder P i ≡ Some b
  pub within : b < length (rows P)
  pub is_binder : is_binder (at (rows P) b).node ≡ true
  pub name : bound_name (at (rows P) b).node ≡ Some x
  pub stands : Lies (rows P) (home (rows P) b) (region P j)

-- the binder is so where its scope is round j
bound_at : (P : Checked) (i x b j s : ℕ) (n : Node) → Stands P i n → uses_value n ≡ true → binder P i ≡ Some b
    → IsSeenIn (rows P) i x b s → around (rows P) s j ≡ true
    → ((at (rows P) j).node ≡ Start → ⊥) → IsBoundAt P i x b j
bound_at P i x b j s n h u e w round other =
    let look = looks_any (at (rows P) s).node (at (rows P) i).node (ap uses_value h.node ∙ u) w.look in
    record {
      binder = e;
      within = binder_below P i b h.within e;
      is_binder = taken_binder (at (rows P) s).node (at (rows P) b).node x look w.taken w.name;
      name = w.name;
      stands = bound_home (rows P) (table_of P) s b j x
          (not_last (rows P) (table_of P) (λ m. looks m (Name 0)) refl s w.within look) look w.taken w.name
          w.inside w.bare round other;
    }

has_binder : (P : Checked) (i : ℕ) (n : Node) → Stands P i n
    → causes_in (rows P) (kind P) (binder P (user_of i n)) (at (rows P) i).place n
    ≡ unknown (binder P i) (at (rows P) i).place → (b : ℕ) × (binder P i ≡ Some b)
has_binder P i n h e = by (binder P i) refl (sym e ∙ none_in P i n h)
  where
    by : (o : Option ℕ) → binder P i ≡ o → unknown o (at (rows P) i).place ≡ [] → (b : ℕ) × (binder P i ≡ Some b)
    by None e f = let d : Unknown (at (rows P) i).place ∷ [] ≡ [] = f in cc
    by (Some b) e f = (b, e)

-- a name of a checked program has a binder
pub bound_name_row : (P : Checked) (i x : ℕ) → Stands P i (Name x) → (b : ℕ) × IsBoundAt P i x b i
bound_name_row P i x h =
    let e = has_binder P i (Name x) h refl in
    let w = seen_in P i x e.0 (Name x) h refl e.1 in (
      e.0,
      bound_at P i x e.0 i w.0 (Name x) h refl e.1 w.1 (w.1).round
          (λ f. absurd (false≢true (sym (ap is_expression f) ∙ ap is_expression h.node))),
    )

-- and so has a loop's variable outside of the loop
pub bound_use_row : (P : Checked) (o x : ℕ) → Stands P o (NextUse x)
    → (b : ℕ) × (n : ℕ) × IsLoopOf (rows P) n (at (rows P) o).block × IsBoundAt P o x b n
bound_use_row P o x h =
    let e = has_binder P o (NextUse x) h refl in
    let w = seen_in P o x e.0 (NextUse x) h refl e.1 in
    let l = (table_of P).loop_of o h.within (ap is_in_loop h.node) in
    let s = seen_outside (rows P) (table_of P) o x l.0 w.0 h.node
    (not_last (rows P) (table_of P) is_in_loop refl o h.within (ap is_in_loop h.node)) l.1 l.2
    (w.1).within (sym (ap (looks (at (rows P) w.0).node) h.node) ∙ (w.1).look) (w.1).round
    (subst (λ m. (sees_own m || held (rows P) o w.0) ≡ true) h.node (w.1).out) in (
      e.0,
      l.0,
      l.1,
      bound_at P o x e.0 l.0 w.0 (NextUse x) h refl e.1 w.1 s
          (λ f. absurd (false≢true (sym (ap is_expression f) ∙ ap is_expression (l.1).node))),
    )

-- what takes the names of procedures takes definitions
taken_def : (m n : Node) (x : ℕ) → looks m (Enter x) ≡ true → takes m n ≡ true → is_def n ≡ true
taken_def Program n x e f = f
taken_def (Block b) n x e f = absurd (false≢true e)
taken_def Body n x e f = absurd (false≢true e)
taken_def Span n x e f = absurd (false≢true e)
taken_def (Def z h k b) n x e f = absurd (false≢true e)
taken_def _ n x e f = absurd (false≢true e)

def_named : (n : Node) (x : ℕ) → is_def n ≡ true → bound_name n ≡ Some x
    → (h : ℕ) × (k : Kind) × (b : ℕ) × (n ≡ Def x h k b)
def_named (Def y h k b) x e f = (h, k, b, ap (λ z. Def z h k b) (same_some y x f))
def_named _ x e f = absurd (false≢true e)

-- the `Enter` of a call in a checked program has the definition of its procedure as binder
pub enter_row : (P : Checked) (e x : ℕ) → Stands P e (Enter x) → (d : ℕ) × (h : ℕ) × Calls P e d h
enter_row P i x h =
    let e = has_binder P i (Enter x) h refl in
    let b = e.0 in
    let v = seen_in P i x b (Enter x) h refl e.1 in
    let w = v.1 in
    let look : looks (at (rows P) v.0).node (Enter x) ≡ true =
    sym (ap (looks (at (rows P) v.0).node) h.node) ∙ w.look in
    let d = def_named (at (rows P) b).node x (taken_def (at (rows P) v.0).node (at (rows P) b).node x look w.taken)
    w.name in (
      b,
      d.0,
      record {
        name = x;
        result = d.1;
        body = d.2;
        enter = h;
        binder = e.1;
        definition = record { within = binder_below P i b h.within e.1; node = d.3 };
      },
    )

-- and so has that of each call
pub callee_row : (P : Checked) (i e c : ℕ) → Stands P i (Call e c) → (d : ℕ) × (h : ℕ) × Calls P e d h
callee_row P i e c h =
    let z = (table_of P).enter_of i e (record { count = c; within = h.within; node = h.node }) in
    enter_row P e z.name (record { within = omega (arith, z.before, h.within); node = z.node })

-- ---- each expression and each binder has a kind

-- the operands of a row are expressions
pub part_row : (P : Checked) (i a : ℕ) (n : Node) → Stands P i n → HasOperand n a
    → (a < length (rows P)) × (is_expression (at (rows P) a).node ≡ true)
part_row P i a n h e = (
  part_of a P.table.formed h.within h.node (HasPart-operand n a e),
  (table_of P).operand_is i a h.within (subst (λ z. HasOperand z a) (sym h.node) e),
)

-- a kind is given to a row of this node
abbrev IsValued : Node → Type 0
IsValued n = (is_expression n || (is_binder n || (is_def n || is_next_use n))) ≡ true

or_left : (a b : Truth) → a ≡ true → (a || b) ≡ true
or_left true b e = refl
or_left false b e = absurd (false≢true e)

or_right : (a b : Truth) → b ≡ true → (a || b) ≡ true
or_right true b e = refl
or_right false b e = e

valued_expression : (n : Node) → is_expression n ≡ true → IsValued n
valued_expression n e = or_left (is_expression n) (is_binder n || (is_def n || is_next_use n)) e

valued_binder : (n : Node) → is_binder n ≡ true → IsValued n
valued_binder n e =
    or_right (is_expression n) (is_binder n || (is_def n || is_next_use n))
    (or_left (is_binder n) (is_def n || is_next_use n) e)

valued_def : (n : Node) → is_def n ≡ true → IsValued n
valued_def n e =
    or_right (is_expression n) (is_binder n || (is_def n || is_next_use n))
    (or_right (is_binder n) (is_def n || is_next_use n) (or_left (is_def n) (is_next_use n) e))

valued_use : (n : Node) → is_next_use n ≡ true → IsValued n
valued_use n e =
    or_right (is_expression n) (is_binder n || (is_def n || is_next_use n))
    (or_right (is_binder n) (is_def n || is_next_use n) (or_right (is_def n) (is_next_use n) e))

to_same : (a b : ℕ) → To a ≡ To b → a ≡ b
to_same a b e = cc

nowhere : (P : Checked) (i : ℕ) (n : Node) → Stands P i n → IsValued n → link_in P i n ≡ Nowhere → ⊥
nowhere P i Head h v e = false≢true v
nowhere P i Program h v e = false≢true v
nowhere P i (Def x d k b) h v e = let c : Fixed k ≡ Nowhere = e in cc
nowhere P i (Name x) h v e =
    let w = bound_name_row P i x h in
    let d : To w.0 ≡ Nowhere = sym (ap link_of_name w.1.binder) ∙ e in cc
nowhere P i (Param x k) h v e = let d : Fixed k ≡ Nowhere = e in cc
nowhere P i (Literal c) h v e = let d : Fixed (constant_kind c) ≡ Nowhere = e in cc
nowhere P i (Unary p a) h v e = let d : Fixed (unary_kind p) ≡ Nowhere = e in cc
nowhere P i (Binary p a b) h v e = let d : Fixed (binary_kind p) ≡ Nowhere = e in cc
nowhere P i (Split t) h v e = false≢true v
nowhere P i (If s x y) h v e = let d : To x ≡ Nowhere = e in cc
nowhere P i (Enter x) h v e = false≢true v
nowhere P i (Arg s j a) h v e = false≢true v
nowhere P i (Call s c) h v e =
    let w = callee_row P i s c h in
    let d : To w.0 ≡ Nowhere = sym (ap link_of_name w.2.binder) ∙ e in cc
nowhere P i (Block b) h v e = let d : To b ≡ Nowhere = e in cc
nowhere P i (Binding x a) h v e = let d : To a ≡ Nowhere = e in cc
nowhere P i (NextUse x) h v e =
    let w = bound_use_row P i x h in
    let d : To w.0 ≡ Nowhere = sym (ap link_of_name (w.3).binder) ∙ e in cc
nowhere P i (Next x k o a) h v e = let d : To o ≡ Nowhere = e in cc
nowhere P i (Loop g w l) h v e = let d : To l ≡ Nowhere = e in cc
nowhere P i (Bounds a b) h v e = false≢true v
nowhere P i Start h v e = false≢true v
nowhere P i (LoopHead s) h v e = false≢true v
nowhere P i (Carried k) h v e = false≢true v
nowhere P i Variable h v e = false≢true v
nowhere P i Entries h v e = false≢true v
nowhere P i (Within f) h v e = false≢true v
nowhere P i (Switches t) h v e = false≢true v
nowhere P i Count h v e = false≢true v
nowhere P i Turn h v e = false≢true v
nowhere P i (Index x) h v e = let d : Fixed Int ≡ Nowhere = e in cc
nowhere P i Body h v e = false≢true v
nowhere P i (Reset a) h v e = false≢true v
nowhere P i Span h v e = false≢true v
nowhere P i (node.Array nested a b) h v e = let d : Fixed (array_kind_of nested) ≡ Nowhere = e in cc
nowhere P i (Fetch t j) h v e = let d : link.Within t ≡ Nowhere = e in cc
nowhere P i (Address t j) h v e = false≢true v
nowhere P i (Store a x) h v e = false≢true v

-- the use of a first value stands before its `next`
pub next_use_row : (P : Checked) (m x k o v : ℕ) → Stands P m (Next x k o v) → Stands P o (NextUse x)
next_use_row P m x k o v h =
    let q = (table_of P).next_in m (at (rows P) m).block k x (record {
      outer = o;
      value = v;
      within = h.within;
      block =
          refl;
      node = h.node;
    }) in
    record { within = part_of o P.table.formed h.within h.node (inl refl); node = (q.2).outer }

-- a chain goes on to a row that gives a value
goes : (P : Checked) (i j : ℕ) (n : Node) → Stands P i n → link_in P i n ≡ To j
    → (j < length (rows P)) × IsValued (at (rows P) j).node
goes P i j Head h e = let d : Nowhere ≡ To j = e in cc
goes P i j Program h e = let d : Nowhere ≡ To j = e in cc
goes P i j (Def x d k b) h e = let c : Fixed k ≡ To j = e in cc
goes P i j (Name x) h e =
    let w = bound_name_row P i x h in
    let same : w.0 ≡ j = to_same w.0 j (sym (ap link_of_name w.1.binder) ∙ e) in
    subst (λ b. (b < length (rows P)) × IsValued (at (rows P) b).node) same (
      w.1.within,
      valued_binder (at (rows P) w.0).node w.1.is_binder,
    )
goes P i j (Param x k) h e = let d : Fixed k ≡ To j = e in cc
goes P i j (Literal c) h e = let d : Fixed (constant_kind c) ≡ To j = e in cc
goes P i j (Unary p a) h e = let d : Fixed (unary_kind p) ≡ To j = e in cc
goes P i j (Binary p a b) h e = let d : Fixed (binary_kind p) ≡ To j = e in cc
goes P i j (Split t) h e = let d : Nowhere ≡ To j = e in cc
goes P i j (Enter x) h e = let d : Nowhere ≡ To j = e in cc
goes P i j (Arg s k a) h e = let d : Nowhere ≡ To j = e in cc
goes P i j (Call s c) h e =
    let w = callee_row P i s c h in
    let same : w.0 ≡ j = to_same w.0 j (sym (ap link_of_name w.2.binder) ∙ e) in
    let d = w.2.definition in
    subst (λ b. (b < length (rows P)) × IsValued (at (rows P) b).node) same (
      d.within,
      valued_def (at (rows P) w.0).node (ap is_def d.node),
    )
goes P i j (If s x y) h e =
    let w = part_row P i x (If s x y) h (inl refl) in
    subst (λ a. (a < length (rows P)) × IsValued (at (rows P) a).node) (to_same x j e) (
      w.0,
      valued_expression (at (rows P) x).node w.1,
    )
goes P i j (Block b) h e =
    let w = part_row P i b (Block b) h refl in
    subst (λ a. (a < length (rows P)) × IsValued (at (rows P) a).node) (to_same b j e) (
      w.0,
      valued_expression (at (rows P) b).node w.1,
    )
goes P i j (Binding x b) h e =
    let w = part_row P i b (Binding x b) h refl in
    subst (λ a. (a < length (rows P)) × IsValued (at (rows P) a).node) (to_same b j e) (
      w.0,
      valued_expression (at (rows P) b).node w.1,
    )
goes P i j (NextUse x) h e =
    let w = bound_use_row P i x h in
    let same : w.0 ≡ j = to_same w.0 j (sym (ap link_of_name (w.3).binder) ∙ e) in
    subst (λ b. (b < length (rows P)) × IsValued (at (rows P) b).node) same (
      (w.3).within,
      valued_binder (at (rows P) w.0).node (w.3).is_binder,
    )
goes P i j (Next x k o v) h e =
    let w = next_use_row P i x k o v h in
    subst (λ b. (b < length (rows P)) × IsValued (at (rows P) b).node) (to_same o j e) (
      w.within,
      valued_use (at (rows P) o).node (ap is_next_use w.node),
    )
goes P i j (Loop g w l) h e =
    let z = part_row P i l (Loop g w l) h refl in
    subst (λ a. (a < length (rows P)) × IsValued (at (rows P) a).node) (to_same l j e) (
      z.0,
      valued_expression (at (rows P) l).node z.1,
    )
goes P i j (Bounds a b) h e = let d : Nowhere ≡ To j = e in cc
goes P i j Start h e = let d : Nowhere ≡ To j = e in cc
goes P i j (LoopHead s) h e = let d : Nowhere ≡ To j = e in cc
goes P i j (Carried k) h e = let d : Fixed k ≡ To j = e in cc
goes P i j Variable h e = let d : Nowhere ≡ To j = e in cc
goes P i j Entries h e = let d : Nowhere ≡ To j = e in cc
goes P i j (Within f) h e = let d : Fixed Bool ≡ To j = e in cc
goes P i j (Switches t) h e = let d : Nowhere ≡ To j = e in cc
goes P i j Count h e = let d : Nowhere ≡ To j = e in cc
goes P i j Turn h e = let d : Nowhere ≡ To j = e in cc
goes P i j (Index x) h e = let d : Fixed Int ≡ To j = e in cc
goes P i j Body h e = let d : Nowhere ≡ To j = e in cc
goes P i j (Reset a) h e = let d : Nowhere ≡ To j = e in cc
goes P i j Span h e = let d : Nowhere ≡ To j = e in cc
goes P i j (node.Array nested a b) h e = let d : Fixed (array_kind_of nested) ≡ To j = e in cc
goes P i j (Fetch t k) h e = let d : link.Within t ≡ To j = e in cc
goes P i j (Address t k) h e = let d : link.Within t ≡ To j = e in cc
goes P i j (Store a x) h e = let d : Nowhere ≡ To j = e in cc

-- its chain ends in a kind, if it ends
no_nothing : (P : Checked) (i : ℕ) (o : Option Kind) → EndsIn (link_at (rows P) (binder P)) i o → o ≡ None
    → i < length (rows P) → IsValued (at (rows P) i).node → ⊥
no_nothing P i _ (in_kind k e) f less v = let d : Some k ≡ None = f in cc
no_nothing P i _ (in_nothing e) f less v = nowhere P i (at (rows P) i).node (record { within = less; node = refl }) v e
no_nothing P i o (further j e g) f less v =
    let w = goes P i j (at (rows P) i).node (record { within = less; node = refl }) e in
    no_nothing P j o g f w.0 w.1
no_nothing P i _ (within {o = w} j e g) f less v = let d : Some (kind_within w) ≡ None = f in cc

kinded : (P : Checked) (i : ℕ) → i < length (rows P) → IsValued (at (rows P) i).node → (o : Option Kind) → kind P i ≡ o
    → (k : Kind) × (kind P i ≡ Some k)
kinded P i less v (Some k) e = (k, e)
kinded P i less v None e =
    let d : Some Int ≡ None =
    sym (P.kinded.endless i less (λ o g. no_nothing P i o g (sym (P.kinded.ends i o less g) ∙ e) less v)) ∙ e in cc

-- each expression of a checked program has a kind
pub has_kind : (P : Checked) (i : ℕ) → i < length (rows P) → is_expression (at (rows P) i).node ≡ true
    → (k : Kind) × (kind P i ≡ Some k)
has_kind P i less e = kinded P i less (valued_expression (at (rows P) i).node e) (kind P i) refl

-- and so has each binder
pub binder_has_kind : (P : Checked) (i : ℕ) → i < length (rows P) → is_binder (at (rows P) i).node ≡ true
    → (k : Kind) × (kind P i ≡ Some k)
binder_has_kind P i less e = kinded P i less (valued_binder (at (rows P) i).node e) (kind P i) refl
