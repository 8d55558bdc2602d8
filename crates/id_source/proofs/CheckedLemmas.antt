-- What holds of each checked program.
use Rattle.std.proofs.Common.{◌≡◌, ◌<◌, ◌-◌, ◌+◌, inl, ℕ, true, length, Some, List, ap, refl, subst, sym, ◌∙◌, arith}
use Rattle.std.proofs.lemmas.Bool.{false≢true}
use Rattle.id_table.specs.declared.row.Row.{Row}
use Rattle.id_table.specs.declared.row.Node.{Node}
use Rattle.id_table.specs.declared.row.Node.TheVariants.{Param, Literal, Name, Unary, Binary, If, Call, Next, NextUse}
use Rattle.id_table.specs.declared.row.Node.TheVariants.{Loop, Block, Binding, Array, Fetch, Store, Switches, Within}
use Rattle.id_table.specs.declared.row.Node.TheVariants.{Index}
use Rattle.id_table.specs.Loops.{IsLoop, IsLoopOf, IsNextOf, IsTest, predicate, flag, AreBounds, Begins, plainly}
use Rattle.id_table.specs.Loops.{with_bounds, bounds_row, index_row}
use Rattle.id_table.specs.Rows.{arm_at, at}
use Rattle.id_table.specs.Tables.{AreApart, HasPart, is_binder, is_expression, is_param, is_store, is_thing, is_within}
use Rattle.id_table.proofs.PlacesLemmas.{AreApart-rows_of, HasPlace-rows_of}
use Rattle.id_tree.specs.Distinct.{HasPlace}
use Rattle.id_check.specs.declared.checked.Checked.{Checked}
use Rattle.id_check.specs.Scopes.{depth_at}
use Rattle.id_check.specs.Programs.{Stands, binder, depth, place, rows, tree}
use Rattle.id_source.specs.Sources.{Source}
use Rattle.id_source.specs.Facts.{ForStands, LoopStands, NextStands, between}
use Rattle.id_source.specs.Links.{far_from}
use Rattle.id_check.proofs.ProgramsLemmas.{binder_below, bound_name_row, bound_use_row, table_of}

-- which nodes are things
pub thing-expression : (z : Node) → is_expression z ≡ true → is_thing z ≡ true
thing-expression (Literal v) h = refl
thing-expression (Name x) h = refl
thing-expression (Unary o a) h = refl
thing-expression (Binary o a b) h = refl
thing-expression (If s x y) h = refl
thing-expression (Call e c) h = refl
thing-expression (Loop h w l) k = refl
thing-expression (Block b) h = refl
thing-expression (Array nested a b) h = refl
thing-expression (Fetch t i) h = refl
thing-expression _ h = absurd (false≢true h)

pub thing-store : (z : Node) → is_store z ≡ true → is_thing z ≡ true
thing-store (Store a v) h = refl
thing-store _ h = absurd (false≢true h)

pub thing-binder : (z : Node) → is_binder z ≡ true → is_thing z ≡ true
thing-binder (Param x k) h = refl
thing-binder (Binding x a) h = refl
thing-binder (Next x k o v) h = refl
thing-binder (Index x) h = refl
thing-binder _ h = absurd (false≢true h)

pub thing-param : (z : Node) → is_param z ≡ true → is_thing z ≡ true
thing-param (Param x k) h = refl
thing-param _ h = absurd (false≢true h)

-- no two things of it have one place
pub apart_of : (P : Checked) → AreApart (rows P)
apart_of P =
    let F : List Row → Type 0 = λ R. AreApart R in subst F (sym P.tabled) (AreApart-rows_of (tree P) P.distinct)

-- things stand at places of its tree
pub placed_of : (P : Checked) (n : ℕ) → n < length (rows P) → is_thing (at (rows P) n).node ≡ true
    → HasPlace (tree P) (place P n)
placed_of P =
    let F : List Row → Type 0 =
    λ R. (n : ℕ) → n < length R → is_thing (at R n).node ≡ true → HasPlace (tree P) (at R n).place in
    subst F (sym P.tabled) (HasPlace-rows_of (tree P))

-- a name's binder is a binder
pub binder_of : (P : Checked) (n x b : ℕ) → Stands P n (Name x) → binder P n ≡ Some b
    → (b < length (rows P)) × (is_binder (at (rows P) b).node ≡ true)
binder_of P n x b h k =
    let r = bound_name_row P n x h in
    let e : Some r.0 ≡ Some b = sym r.1.binder ∙ k in
    let q : r.0 ≡ b = cc in
    let F : ℕ → Type 0 = λ i. is_binder (at (rows P) i).node ≡ true in
    (binder_below P n b h.within k, subst F q r.1.is_binder)

-- how many loops stand between a row and its binder
pub far-between : (S : Source) (n c : ℕ) → n < length (rows S.checked) → c < length (rows S.checked)
    → far_from S.checked n (Some c) ≡ between S n c
far-between S n c l m =
    let R = rows S.checked in
    ap (λ i. i - depth S.checked c) (S.checked.deep n l) ∙ ap (λ i. depth_at R n - i) (S.checked.deep c m)

-- ---- loops

-- the `next` of a loop
abbrev pub next-of : (P : Checked) (m h o v : ℕ) (x : NextStands P m h o v) → IsNextOf (rows P) m h x.index x.name
next-of P m h o v x = record { outer = o; value = v; within = x.next.within; block = x.block; node = x.next.node }

abbrev pub loop-of : (P : Checked) (n h w l : ℕ) → Stands P n (Loop h w l) → IsLoopOf (rows P) n h
loop-of P n h w l s = record { switches = w; last = l; within = s.within; node = s.node }

pub loop-rows : (P : Checked) (n h w l : ℕ) → Stands P n (Loop h w l) → IsLoop (rows P) n h w l
loop-rows P n h w l s = (table_of P).loop_is n h (loop-of P n h w l s)

same-switches : (R : List Row) (n m h : ℕ) (c : IsLoopOf R n h) (d : IsLoopOf R m h) → n ≡ m → c.switches ≡ d.switches
same-switches R n m h c d e =
    let k : Loop h c.switches c.last ≡ Loop h d.switches d.last = sym c.node ∙ ap (λ i. (at R i).node) e ∙ d.node in
    cc

-- it stands right in the body
pub next-region : (P : Checked) (n h w l m o v : ℕ) → Stands P n (Loop h w l) → NextStands P m h o v
    → (at (rows P) m).region ≡ arm_at w true
next-region P n h w l m o v s x =
    let R = rows P in
    let y = (table_of P).next_in m h x.index x.name (next-of P m h o v x) in
    let c = loop-of P n h w l s in
    let e = (table_of P).one_loop y.0 n h y.1 c in
    y.2.region ∙ ap (λ i. arm_at i true) (same-switches R y.0 n h y.1 c e)

region-head : (i j : ℕ) → arm_at i true ≡ arm_at j true → i ≡ j
region-head i j e = ap (λ r. r.head) e

-- and what stands right in the body as a `next` is one of the loop
pub next-loop : (P : Checked) (n h w l m x k o v : ℕ) → Stands P n (Loop h w l) → m < length (rows P)
    → (at (rows P) m).node ≡ Next x k o v → (at (rows P) m).region ≡ arm_at w true
    → NextStands P m h o v
next-loop P n h w l m x k o v s b e r =
    let R = rows P in
    let g = (at R m).block in
    let y = (table_of P).next_in m g k x (record { outer = o; value = v; within = b; block = refl; node = e }) in
    let q : y.1.switches ≡ w = region-head y.1.switches w (sym y.2.region ∙ r) in
    let z = (table_of P).loop_is y.0 g y.1 in
    let c = loop-rows P n h w l s in
    let same : g ≡ h = sym z.test.block ∙ ap (λ i. (at R i).block) q ∙ c.test.block in
    record { name = x; index = k; next = record { within = b; node = e }; block = same }

-- the predicate of a loop is an expression
pub test-row : (P : Checked) (n h w t l : ℕ) → LoopStands P n h w t l
    → (t < length (rows P)) × (is_expression (at (rows P) t).node ≡ true)
test-row P n h w t l s =
    let T = table_of P in
    let H : Node → Type 0 = λ z. HasPart z t in
    let f = (T.formed.each w s.switches.within).parts t (subst H (sym s.switches.node) refl) in
    let b = s.switches.within in
    (omega (arith, f.1), T.test_is w t b s.switches.node s.predicate)

-- what the switches of a `for` follow is no predicate
is-flag : (R : List Row) (h t c : ℕ) → IsTest R h t c → c ≡ 3 → is_within (at R t).node ≡ true
is-flag R h t c (predicate e) q = absurd (omega (arith, q))
is-flag R h t c (flag e) q = ap is_within e

no-expression : (z : Node) → is_expression z ≡ true → is_within z ≡ true → ⊥
no-expression (Within f) e k = false≢true e
no-expression _ e k = false≢true k

carried-three : (R : List Row) (h t c : ℕ) → IsTest R h t c → is_within (at R t).node ≡ true → c ≡ 3
carried-three R h t c (predicate e) q = absurd (no-expression (at R t).node e q)
carried-three R h t c (flag e) q = refl

pub within-there : (P : Checked) (w t x y : ℕ) → (at (rows P) w).node ≡ Switches t → Stands P x (Index y)
    → x ≡ index_row w → is_within (at (rows P) t).node ≡ true
within-there P w t x y s i e =
    let R = rows P in
    let z = (table_of P).index_of x y i.within i.node in
    let c = (table_of P).loop_is z.0 (at R x).block z.1 in
    let f : z.1.switches + 3 ≡ w + 3 = z.3 ∙ e in
    let q : z.1.switches ≡ w = omega (arith, f) in
    let k : Switches c.test.test ≡ Switches t = sym c.test.node ∙ ap (λ j. (at R j).node) q ∙ s in
    let u : c.test.test ≡ t = cc in
    subst (λ j. is_within (at R j).node ≡ true) u (is-flag R (at R x).block c.test.test c.carried c.test.test_is z.2)

-- its bounds stand where it does
bounds-by : (R : List Row) (s n c : ℕ) → Begins R s n c → c ≡ 3 → (i : ℕ) × (i + 1 ≡ s) × AreBounds R i n
bounds-by R s n c (plainly e) q = absurd (omega (arith, q))
bounds-by R s n c (with_bounds {c = i} e a) q = (i, e, a)

pub bounds-region : (P : Checked) (n w x a b l : ℕ) (s : ForStands P n w x a b l)
    → (at (rows P) (bounds_row s.head)).region ≡ (at (rows P) n).region
bounds-region P n w x a b l s =
    let R = rows P in
    let c = loop-rows P n s.head w l s.loop in
    let k = carried-three R s.head c.test.test c.carried c.test.test_is
    (within-there P w c.test.test x s.name c.test.node s.index s.behind) in
    let d = bounds-by R c.start n c.carried c.from k in
    let q : bounds_row s.head ≡ d.0 = (let e = c.begins in let f = d.1 in omega arith) in
    ap (λ j. (at R j).region) q ∙ d.2.beside.region

-- the binder of the use that it makes of its name outside is a binder
pub use_binder : (P : Checked) (m h o v c : ℕ) → NextStands P m h o v → binder P o ≡ Some c
    → (c < length (rows P)) × (is_binder (at (rows P) c).node ≡ true)
use_binder P m h o v c x e =
    let y = (table_of P).next_in m h x.index x.name (next-of P m h o v x) in
    let H : Node → Type 0 = λ z. HasPart z o in
    let w = ((table_of P).formed.each m x.next.within).parts o (subst H (sym x.next.node) (inl refl)) in
    let l = x.next.within in
    let u : Stands P o (NextUse x.name) = record { within = omega (arith, w.1); node = y.2.outer } in
    let r = bound_use_row P o x.name u in
    let f : Some r.0 ≡ Some c = sym r.3.binder ∙ e in
    let q : r.0 ≡ c = cc in
    let F : ℕ → Type 0 = λ i. is_binder (at (rows P) i).node ≡ true in
    (binder_below P o c u.within e, subst F q r.3.is_binder)
