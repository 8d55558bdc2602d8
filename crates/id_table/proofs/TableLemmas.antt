-- The rows of a program's tree are a table.
use Rattle.std.proofs.Common.{◌≡◌, inl, inr, ◌+◌, ◌-◌, ◌<◌, ◌≤◌, ℕ, suc, Bool, true, false}
use Rattle.std.proofs.Common.{List, [], length, refl, sym, ap, ◌∙◌, subst, arith}
use Rattle.std.proofs.Common.{◌⊎◌, ◌∷◌, ◌++◌}
use Rattle.std.proofs.lemmas.Bool.{cases_lt, false≢true}
use Rattle.std.proofs.lemmas.List.{get_or_push, length_push}
use Rattle.id_value.specs.declared.Kind.{Kind}
use Rattle.id_grammar.specs.Tree.{Tree}
use Rattle.id_table.specs.declared.row.Row.{Row}
use Rattle.id_table.specs.declared.row.Region.{Region}
use Rattle.id_table.specs.declared.row.Node.{Node}
use Rattle.id_table.specs.declared.row.Node.TheVariants.{Head, Split, If, Enter, Arg, Block, Call, Def, Program, Start}
use Rattle.id_table.specs.declared.row.Node.TheVariants.{LoopHead, Variable, Entries, Switches, Turn, NextUse, Next}
use Rattle.id_table.specs.declared.row.Node.TheVariants.{Body, Reset, Loop, Address, Store, Bounds, Carried, Within}
use Rattle.id_table.specs.declared.row.Node.TheVariants.{Count, Index, Span}
use Rattle.id_table.specs.Names.{first_names}
use Rattle.id_table.specs.Rows.{Parts, add, arm_at, at, in_top, no_row, rows_of, size, top}
use Rattle.id_table.specs.Tables.{AreInBlocks, Formed, HasNear, HasOperand, HasPart, IsFormed, IsNested, begins_block, can_be_on}
use Rattle.id_table.specs.Tables.{has_statements, is_address, is_carried, is_in_loop, is_loop, is_next, is_statement}
use Rattle.id_table.specs.Tables.{is_store, is_arg, is_block, is_call, is_def, is_enter, is_expression, is_head, is_if}
use Rattle.id_table.specs.Tables.{is_split, is_switches, is_top, is_variable, is_within}
use Rattle.id_table.specs.Loops.{AreCarried, Begins, InSide, IsLoop, IsLoopOf, IsNextIn, IsNextOf, IsTest, IsTurn}
use Rattle.id_table.specs.Loops.{StandsAt, an_index, behind_count, flag, nothing, plainly, predicate, right}
use Rattle.id_table.specs.Loops.{with_bounds}
use Rattle.id_table.specs.Stores.{IsAddressOf, IsStoreOf}
use Rattle.id_table.specs.Calls.{AreArgs, IsArgIn, IsArgOf, IsCallOf, IsEnterOf}
use Rattle.id_table.specs.Regions.{AreArms, InArm, IsIfOf, IsSplitOf, Lies, here, in_arm, in_loop, in_side}
use Rattle.id_table.specs.Trees.{IsProgramTree}
use Rattle.id_table.specs.Turns.{AreParamsOf, IsDefOf, IsTable}
use Rattle.id_table.proofs.BlockLemmas.{around-within}
use Rattle.id_table.proofs.HasLemmas.{Has-itself, Has-push, at-push, push-size, row_for}
use Rattle.id_table.proofs.RowLemmas.{Belongs, body_low, gives_itself}
use Rattle.id_table.proofs.ProcedureLemmas.{StandsIn}
use Rattle.id_table.proofs.AddedLemmas.{Are-add}

abbrev is_start : Node → Bool
is_start Start = true
is_start _ = false

abbrev start_or : ℕ → Node → ℕ
start_or d (LoopHead t) = t
start_or d _ = d

abbrev reset_or : ℕ → Node → ℕ
reset_or d (Reset v) = v
reset_or d _ = d

abbrev test_or : ℕ → Node → ℕ
test_or d (Switches t) = t
test_or d _ = d

abbrev is_turn : Node → Bool
is_turn Turn = true
is_turn _ = false

abbrev is_bounds : Node → Bool
is_bounds (Bounds a b) = true
is_bounds _ = false

abbrev is_span : Node → Bool
is_span Span = true
is_span _ = false

carried_node : (n : Node) → is_carried n ≡ true → (k : Kind) × (n ≡ Carried k)
carried_node (Carried k) e = (k, refl)
carried_node _ e = absurd (false≢true e)

carried_no_variable : (n : Node) → is_carried n ≡ true → is_variable n ≡ true → ⊥
carried_no_variable (Carried k) e f = false≢true f
carried_no_variable _ e f = false≢true e

-- what gives the value of a row that is no block, and not in the place of a predicate
itself : (n : Node) → is_block n ≡ false → is_within n ≡ false → gives_itself n ≡ true
itself (Block b) e f = absurd (false≢true (sym e))
itself (Within g) e f = absurd (false≢true (sym f))
itself _ e f = refl

variable_node : (n : Node) → is_variable n ≡ true → n ≡ Variable
variable_node Variable e = refl
variable_node _ e = absurd (false≢true e)

-- a side of the switches of a loop begins behind them
InSide-low : (w b n i : ℕ) (side : Bool) → w < b → InSide w b n side i → w < i
InSide-low w b n i true l h = h.0
InSide-low w b n i false l h = omega (arith, h.0)

-- an expression can be On, and so can a store
expression_on : (n : Node) → is_expression n ≡ true → can_be_on n ≡ true
expression_on (Store a v) e = absurd (false≢true e)
expression_on _ e = e

store_on : (n : Node) → is_store n ≡ true → can_be_on n ≡ true
store_on (Store a v) e = refl
store_on _ e = absurd (false≢true e)

-- a node of which something is true that is false of heads is no head
no_head : (f : Node → Bool) → f Head ≡ false → ((t : ℕ) → f (LoopHead t) ≡ false) → (n : Node) → f n ≡ true → begins_block n ≡ false
no_head f a b Head e = absurd (false≢true (sym a ∙ e))
no_head f a b (LoopHead t) e = absurd (false≢true (sym (b t) ∙ e))
no_head f a b _ e = refl

-- an arm begins behind its split
InArm-low : (s x n i : ℕ) (b : Bool) → s < x → InArm s x n b i → s < i
InArm-low s x n i true l h = h.0
InArm-low s x n i false l h = omega (arith, h.0)

-- each split, each loop and each pair of switches stands in a region that begins before it
record Begun (F : List Row) : Type 0 where
  split : (u : ℕ) → u < length F → is_split (at F u).node ≡ true → (at F u).region.head < u
  loop : (u s : ℕ) → u < length F → (at F u).node ≡ LoopHead s → (at F s).region.head < u
  switches : (u : ℕ) → u < length F → is_switches (at F u).node ≡ true → (at F u).region.head < u

-- what lies in a region begins no earlier
Lies-head : (F : List Row) (q r : Region) → Begun F → Lies F q r → q.head ≤ r.head
Lies-head F q r before here = omega arith
Lies-head F q r before (in_arm {s} w e l) = let z = before.split s w e in let y = Lies-head F q (at F s).region before l in omega arith
Lies-head F q r before (in_loop {h} {s} w e l) = let z = before.loop h s w e in let y = Lies-head F q (at F s).region before l in omega arith
Lies-head F q r before (in_side {w = u} w e l) = let z = before.switches u w e in let y = Lies-head F q (at F u).region before l in omega arith

-- a table whose rows but the last stand in procedures, and whose last row is `Program`
record Ends (F : List Row) (n : ℕ) : Type 0 where
  size : length F ≡ suc n
  rows : (i : ℕ) → i < n → StandsIn F i (at F i)
  last : at F n ≡ record { place = 0; first = 0; block = 0; region = top 0; value = n; node = Program }

module _ (F : List Row) (n : ℕ) (h : Ends F n) where
  ends_node : (at F n).node ≡ Program
  ends_node = ap (λ (r : Row). r.node) h.last

  -- what is true of each row in a procedure and of the last row is true of each
  by_row : (P : ℕ → Row → Type 0) → ((i : ℕ) → StandsIn F i (at F i) → P i (at F i)) → P n (at F n) → (i : ℕ) → i < length F → P i (at F i)
  by_row P each end i b = elim (cases_lt i n) [
    | inl l ↦ each i (h.rows i l)
    | inr l ↦ let e : n ≡ i = omega (arith, h.size) in
        subst (λ k. P k (at F k)) e end
  ]

  -- and where it cannot be true of `Program`
  in_procedure : (i : ℕ) → i < length F → ((at F i).node ≡ Program → ⊥) → StandsIn F i (at F i)
  in_procedure i b other = elim (cases_lt i n) [
    | inl l ↦ h.rows i l
    | inr l ↦ let e : i ≡ n = omega (arith, h.size) in
        absurd (other (ap (λ k. (at F k).node) e ∙ ends_node))
  ]

  not_end : (f : Node → Bool) → f Program ≡ false → (i : ℕ) → f (at F i).node ≡ true → (at F i).node ≡ Program → ⊥
  not_end f e i t p = false≢true (sym e ∙ sym (ap f p) ∙ t)

  Formed-ends : IsFormed F
  Formed-ends = record {
    each = by_row (λ i r. Formed i r) (λ i s. record { first = s.first; parts = s.fits.formed })
        (subst (Formed n) (sym h.last) (record { first = omega arith; parts = λ a e. absurd e }));
  }

  Nested-ends : IsNested F
  Nested-ends = record {
    each = λ i j l b f. by_row (λ k r. (m : ℕ) → r.first ≤ m → m < k → r.first ≤ (at F m).first) (λ k s. s.nested)
        (subst (λ (r : Row). (m : ℕ) → r.first ≤ m → m < n → r.first ≤ (at F m).first) (sym h.last) (λ m g k. omega arith)) j b i f l;
  }

  def_here : (i : ℕ) → i + 1 < length F → StandsIn F i (at F i)
  def_here i b = h.rows i (omega (arith, h.size))

  head_at : (i x g b : ℕ) (k : Kind) → i < length F → (at F i).node ≡ Def x g k b
      → ((at F g).node ≡ Head) × ((at F i).first ≡ g) × (is_expression (at F b).node ≡ true)
  head_at i x g b k l e = (in_procedure i l (not_end is_def refl i (ap is_def e))).head_is x g b k e

  -- of two definitions of one head none is behind the other
  no_later : (m k g : ℕ) → IsDefOf F m g → IsDefOf F k g → m < k → ⊥
  no_later m k g d e l =
      let s = in_procedure k e.within (not_end is_def refl k (ap is_def e.node)) in
      let f = (head_at k e.name g e.body e.result e.within e.node).1 in
      let before = ((in_procedure m d.within (not_end is_def refl m (ap is_def d.node))).fits.formed g
      (subst (λ x. HasPart x g) (sym d.node) (inl refl))).1 in
      false≢true (sym (s.alone (ap is_def e.node) m (omega arith) l) ∙ ap is_def d.node)

  -- a row of a conditional belongs to the others of it
  belongs : (i : ℕ) (m : Node) → i < length F → (at F i).node ≡ m → (m ≡ Program → ⊥) → Belongs F i m
  belongs i m l e other = subst (Belongs F i) e (in_procedure i l (λ p. other (sym e ∙ p))).fits.belongs

  branches : (i u : ℕ) (c : IsIfOf F i u) → IsSplitOf F u i × AreArms F u c.then c.otherwise i
  branches i u c = belongs i (If u c.then c.otherwise) c.within c.node (λ p. false≢true (sym (ap is_if p)))

  -- the region of a row that is no head begins before it
  region_before : (u : ℕ) → u < length F → ((at F u).node ≡ Program → ⊥) → begins_block (at F u).node ≡ false → (at F u).region.head < u
  region_before u l other e =
      let q = in_procedure u l other in
      elim q.region [
        | inl r ↦ elim (cases_lt (at F u).block u) [
          | inl f ↦ omega (arith, f, ap (λ (z : Region). z.head) r)
          | inr f ↦ let z : u ≡ (at F u).block = omega (arith, f, q.block.0) in
              absurd (false≢true (sym e ∙ ap (λ k. begins_block (at F k).node) z ∙ q.block.1))
        ]
        | inr (inl k) ↦
            let a = (branches k.row k.split k.conditional).1 in
            let b = InArm-low k.split k.conditional.then k.row u k.side a.low k.among in
            omega (arith, b, ap (λ (z : Region). z.head) k.region)
        | inr (inr k) ↦
            let b = InSide-low k.loop.switches k.body k.row u k.side (body_low k.body_is) k.among in
            omega (arith, b, ap (λ (z : Region). z.head) k.region)
      ]

  loop_rows : (i u : ℕ) (c : IsLoopOf F i u) → IsLoop F i u c.switches c.last
  loop_rows i u c = belongs i (Loop u c.switches c.last) c.within c.node (λ p. false≢true (sym (ap is_loop p)))

  loop_low : (i u : ℕ) → IsLoopOf F i u → u < i
  loop_low i u c = let z = loop_rows i u c in omega (arith, z.before_test.low, z.test.low, z.test.behind, body_low z.body_is, z.last_is.low, z.last_is.ends)

  -- a part of a loop stands where it ought to
  part_of_loop : (i : ℕ) (m : Node) → i < length F → (at F i).node ≡ m → is_in_loop m ≡ true
      → (n : ℕ) × (c : IsLoopOf F n (at F i).block)
      × (let z = loop_rows n (at F i).block c in StandsAt (at F i).block z.entries c.switches z.turn z.body n m i)
  part_of_loop i m l e is =
      let q = in_procedure i l (not_end is_in_loop refl i (ap is_in_loop e ∙ is)) in
      let w = q.loop_of (ap is_in_loop e ∙ is) in
      let z = loop_rows w.0 (at F i).block w.1 in
      let before : i + 1 < w.0 = elim (cases_lt (i + 1) w.0) [
        | inl f ↦ f
        | inr f ↦ let same : w.1.last + 2 ≡ i = omega (arith, w.2, z.last_is.ends) in
            absurd (false≢true (sym (ap is_in_loop z.last_is.span) ∙ ap (λ k. is_in_loop (at F k).node) same ∙ ap is_in_loop e ∙ is))
      ] in
      (w.0, w.1, subst (λ k. StandsAt (at F i).block z.entries w.1.switches z.turn z.body w.0 k i) e (z.stands i q.block.0 before refl))

  -- a `Reset` before the `Span` of a loop names its last expression
  reset_last : (i v m u : ℕ) (c : IsLoopOf F m u) → (at F i).node ≡ Reset v → i + 2 ≡ m → c.last ≡ v
  reset_last i v m u c e q =
      let z = (loop_rows m u c).last_is in
      let same : c.last + 1 ≡ i = omega (arith, z.ends, q) in
      ap (reset_or 0) (sym z.node ∙ ap (λ k. (at F k).node) same ∙ e)

  -- the entry of what is carried on is in a loop with an index, and one of the three behind its head
  carried_three : (u e c i : ℕ) → AreCarried F u c → ((j : ℕ) → u + c < j → j < e → is_variable (at F j).node ≡ true) → u < i → i < e
      → is_carried (at F i).node ≡ true → (c ≡ 3) × (i ≤ u + 3)
  carried_three u e c i nothing each low high is = absurd (carried_no_variable (at F i).node is (each i (omega arith) high))
  carried_three u e c i (an_index a b d) each low high is = elim (cases_lt (u + 3) i) [
    | inl l ↦ absurd (carried_no_variable (at F i).node is (each i l high))
    | inr l ↦ (refl, l)
  ]

  carried_at : (i : ℕ) → i < length F → is_carried (at F i).node ≡ true
      → (m : ℕ) × (c : IsLoopOf F m (at F i).block) × ((loop_rows m (at F i).block c).carried ≡ 3) × (i ≤ (at F i).block + 3)
  carried_at i l is =
      let k = carried_node (at F i).node is in
      let w = part_of_loop i (Carried k.0) l k.1 refl in
      let z = loop_rows w.0 (at F i).block w.1 in
      let y = carried_three (at F i).block z.entries z.carried i z.before_test.carried z.before_test.variable w.2.0 w.2.1 is in
      (w.0, w.1, y.0, y.1)

  within_three : (u t c f : ℕ) → IsTest F u t c → (at F t).node ≡ Within f → c ≡ 3
  within_three u t c f (predicate is) e = absurd (false≢true (sym (ap is_expression e) ∙ is))
  within_three u t c f (flag is) e = refl

  within_at : (i f : ℕ) → i < length F → (at F i).node ≡ Within f
      → (m : ℕ) × (c : IsLoopOf F m (at F i).block) × ((loop_rows m (at F i).block c).carried ≡ 3) × (i + 1 ≡ c.switches)
  within_at i f l e =
      let w = part_of_loop i (Within f) l e refl in
      let z = loop_rows w.0 (at F i).block w.1 in
      let same : i ≡ z.test.test = omega (arith, w.2, z.test.behind) in
      (w.0, w.1, within_three (at F i).block z.test.test z.carried f z.test.test_is (sym (ap (λ k. (at F k).node) same) ∙ e), w.2)

  count_three : (w t c : ℕ) → IsTurn F w t c → (at F t).node ≡ Turn → (at F (w + 1)).node ≡ Count → c ≡ 3
  count_three w t c (right s) e f = absurd (false≢true (sym (ap is_turn f) ∙ ap (λ k. is_turn (at F k).node) (sym s) ∙ ap is_turn e))
  count_three w t c (behind_count s a b) e f = refl

  count_at : (i : ℕ) → i < length F → (at F i).node ≡ Count
      → (m : ℕ) × (c : IsLoopOf F m (at F i).block) × ((loop_rows m (at F i).block c).carried ≡ 3) × (c.switches + 1 ≡ i)
  count_at i l e =
      let w = part_of_loop i Count l e refl in
      let z = loop_rows w.0 (at F i).block w.1 in
      let three = count_three w.1.switches z.turn z.carried z.body_is.turns z.body_is.turn (ap (λ k. (at F k).node) (sym w.2) ∙ e) in
      (w.0, w.1, three, sym w.2)

  index_at : (i x : ℕ) → i < length F → (at F i).node ≡ Index x
      → (m : ℕ) × (c : IsLoopOf F m (at F i).block) × ((loop_rows m (at F i).block c).carried ≡ 3) × (c.switches + 3 ≡ i)
  index_at i x l e =
      let w = part_of_loop i (Index x) l e refl in
      let z = loop_rows w.0 (at F i).block w.1 in
      let y = belongs i (Index x) l e (λ p. false≢true (sym (ap is_in_loop p))) in
      let same : w.1.switches + 1 ≡ y.0 = omega (arith, w.2, y.2) in
      let three = count_three w.1.switches z.turn z.carried z.body_is.turns z.body_is.turn (ap (λ k. (at F k).node) same ∙ y.1) in
      (w.0, w.1, three, sym w.2)

  bounds_three : (u m c i : ℕ) → Begins F u m c → i + 1 ≡ u → (at F m).first ≤ i → c ≡ 3
  bounds_three u m c i (plainly e) q l = absurd (omega (arith, e))
  bounds_three u m c i (with_bounds e b) q l = refl

  bounds_at : (i a b : ℕ) → i < length F → (at F i).node ≡ Bounds a b
      → (m : ℕ) × (c : IsLoopOf F m (i + 2)) × ((loop_rows m (i + 2) c).carried ≡ 3)
  bounds_at i a b l e =
      let w = belongs i (Bounds a b) l e (λ p. false≢true (sym (ap is_bounds p))) in
      let z = loop_rows w.0 (i + 2) w.1 in
      (w.0, w.1, bounds_three z.start w.0 z.carried i z.from (omega (arith, z.begins)) w.2)

  -- the predicate of a `while` is an expression
  test_expression : (u t c : ℕ) → IsTest F u t c → is_within (at F t).node ≡ false → is_expression (at F t).node ≡ true
  test_expression u t c (predicate is) e = is
  test_expression u t c (flag is) e = absurd (false≢true (sym e ∙ ap is_within is))

  test_at : (w t : ℕ) → w < length F → (at F w).node ≡ Switches t → is_within (at F t).node ≡ false → is_expression (at F t).node ≡ true
  test_at w t l e off =
      let c = belongs w (Switches t) l e (λ p. false≢true (sym (ap is_switches p))) in
      let z = (loop_rows c.loop (at F w).block c.of).test in
      let same : z.test ≡ t = ap (test_or 0) (sym z.node ∙ ap (λ k. (at F k).node) c.own ∙ e) in
      test_expression (at F w).block t (loop_rows c.loop (at F w).block c.of).carried
      (subst (λ k. IsTest F (at F w).block k (loop_rows c.loop (at F w).block c.of).carried) same z.test_is) off

  loop_at : (u t : ℕ) → u < length F → (at F u).node ≡ LoopHead t → (n : ℕ) × IsLoopOf F n u
  loop_at u t l e = belongs u (LoopHead t) l e (λ p. false≢true (sym (ap begins_block p)))

  -- the region of a loop begins before its head
  loop_before : (u s : ℕ) → u < length F → (at F u).node ≡ LoopHead s → (at F s).region.head < u
  loop_before u s l e =
      let c = loop_at u s l e in
      let z = loop_rows c.0 u c.1 in
      let node = z.start_of.node in
      let low : z.start < length F = omega (arith, z.begins, l) in
      let y = region_before z.start low (λ p. false≢true (sym (ap is_start (sym node ∙ p)))) (ap begins_block node) in
      let same : s ≡ z.start = omega (arith, z.begins, ap (start_or 0) (sym e ∙ z.before_test.head)) in
      let q = ap (λ k. (at F k).region.head) same in
      omega (arith, y, q, z.begins)

  loop_once : (m k u : ℕ) → IsLoopOf F m u → IsLoopOf F k u → m ≡ k
  loop_once m k u d e = elim (cases_lt m k) [
    | inl l ↦ absurd ((loop_rows k u e).alone m d.switches d.last (loop_low m u d) l d.node)
    | inr l ↦ elim (cases_lt k m) [
      | inl f ↦ absurd ((loop_rows m u d).alone k e.switches e.last (loop_low k u e) f e.node)
      | inr f ↦ omega arith
    ]
  ]

  -- a `next` statement stands in the body of its loop
  next_inside : (m u k x : ℕ) (s : IsNextOf F m u k x) → (n : ℕ) × (c : IsLoopOf F n u) × IsNextIn F n m u c.switches k x s.outer
  next_inside m u k x s =
      let q = belongs m (Next x k s.outer s.value) s.within s.node (λ p. false≢true (sym (ap is_next p))) in
      subst (λ g. (n : ℕ) × (c : IsLoopOf F n g) × IsNextIn F n m g c.switches k x s.outer) s.block (q.loop, q.of, q.inside)

  next_low : (m u k x : ℕ) (s : IsNextOf F m u k x) → u < m
  next_low m u k x s =
      let q = next_inside m u k x s in
      let z = loop_rows q.0 u q.1 in
      let f = ((in_procedure m s.within (not_end is_next refl m (ap is_next s.node))).fits.formed s.outer
      (subst (λ y. HasPart y s.outer) (sym s.node) (inl refl))).1 in
      omega (arith, f, q.2.before, z.before_test.low, z.test.low, z.test.behind)

  next_once : (m l u k x y : ℕ) → IsNextOf F m u k x → IsNextOf F l u k y → m ≡ l
  next_once m l u k x y a b =
      let v = next_inside m u k x a in
      let w = next_inside l u k y b in
      let same = loop_once w.0 v.0 u w.1 v.1 in
      (loop_rows v.0 u v.1).once m l k x y (next_low m u k x a) v.2.behind (next_low l u k y b) (omega (arith, w.2.behind, same)) a b

  begun : Begun F
  begun = record {
    split = λ u l e. region_before u l (not_end is_split refl u e) (no_head is_split refl (λ t. refl) (at F u).node e);
    loop = loop_before;
    switches = λ u l e. region_before u l (not_end is_switches refl u e) (no_head is_switches refl (λ t. refl) (at F u).node e);
  }

  -- of two conditionals of one split none is behind the other
  no_later_if : (m k u : ℕ) → IsIfOf F m u → IsIfOf F k u → m < k → ⊥
  no_later_if m k u d e l =
      let a = branches m u d in
      let b = branches k u e in
      let low : u < m = omega (arith, a.1.low, a.1.next, a.1.ends) in
      let in_one : (side : Bool) → InArm u e.then k side m → ⊥ = λ side among.
      let z = Lies-head F (arm_at u side) (at F u).region begun (subst (Lies F (arm_at u side)) (sym a.0.region) (b.1.each side m among)) in
      let y = begun.split u (omega (arith, low, d.within)) (ap is_split a.0.node) in
      omega arith in
      elim (cases_lt e.then m) [ inl f ↦ in_one false (f, l) | inr f ↦ in_one true (low, f) ]

  -- the parameters of a definition
  params_at_def : (i g : ℕ) → IsDefOf F i g → AreParamsOf F g i
  params_at_def i g d =
      let first = (head_at i d.name g d.body d.result d.within d.node).1 in
      subst (λ h. AreParamsOf F h i) first ((in_procedure i d.within (not_end is_def refl i (ap is_def d.node))).params (ap is_def d.node))

  in_call : (i u : ℕ) (c : IsCallOf F i u) → IsEnterOf F u i × AreArgs F u i c.count
  in_call i u c = belongs i (Call u c.count) c.within c.node (λ p. false≢true (sym (ap is_call p)))

  arg_belongs : (i u k : ℕ) (a : IsArgOf F i u k) → IsArgIn F i u k a.value
  arg_belongs i u k a = belongs i (Arg u k a.value) a.within a.node (λ p. false≢true (sym (ap is_arg p)))

  call_once : (m k u : ℕ) → IsCallOf F m u → IsCallOf F k u → m ≡ k
  call_once m k u d e = elim (cases_lt m k) [
    | inl l ↦ absurd (later m k d e l)
    | inr l ↦ elim (cases_lt k m) [ inl f ↦ absurd (later k m e d f) | inr f ↦ omega arith ]
  ]
    where
      -- of two calls of one `Enter` none is behind the other
      later : (m k : ℕ) (d : IsCallOf F m u) → IsCallOf F k u → m < k → ⊥
      later m k d e l = (in_call k u e).1.alone m d.count (in_call m u d).0.before l d.node

  arg_once : (m l u k : ℕ) → IsArgOf F m u k → IsArgOf F l u k → m ≡ l
  arg_once m l u k a b =
      let v = arg_belongs m u k a in
      let w = arg_belongs l u k b in
      let same = call_once w.row v.row u w.call v.call in
      (in_call v.row u v.call).1.once m l k v.stands.after v.stands.before w.stands.after (omega (arith, w.stands.before, same)) a b

  address_in : (i a : ℕ) (c : IsStoreOf F i a) → IsAddressOf F a i c.value
  address_in i a c = belongs i (Store a c.value) c.within c.node (λ p. false≢true (sym (ap is_store p)))

  store_once : (m k a : ℕ) → IsStoreOf F m a → IsStoreOf F k a → m ≡ k
  store_once m k a d e = elim (cases_lt m k) [
    | inl l ↦ absurd (later m k d e l)
    | inr l ↦ elim (cases_lt k m) [ inl f ↦ absurd (later k m e d f) | inr f ↦ omega arith ]
  ]
    where
      -- of two stores of one `Address` none is behind the other: it would stand in the other's value, which begins behind the `Address`
      later : (m k : ℕ) (d : IsStoreOf F m a) → IsStoreOf F k a → m < k → ⊥
      later m k d e l =
          let x = address_in m a d in
          let y = address_in k a e in
          let less = (Formed-ends.each a (omega (arith, x.before, x.value_behind, d.within))).first in
          elim (cases_lt m e.value) [
            | inl f ↦
                let z = Nested-ends.each m e.value f (omega (arith, y.value_behind, e.within)) (omega (arith, y.value_first, x.before, x.value_behind)) in
                omega (arith, z, y.value_first, x.first, less)
            | inr f ↦ let z : e.value ≡ m = omega (arith, f, l, y.value_behind) in
                omega (arith, ap (λ j. (at F j).first) z, y.value_first, x.first, less)
          ]

  IsTable-ends : IsTable F
  IsTable-ends = record {
    formed = Formed-ends;
    nested = Nested-ends;
    ends = let e : length F - 1 ≡ n = omega (arith, h.size) in ap (λ k. (at F k).node) e ∙ ends_node;
    ends_once = λ i b e. elim (cases_lt i n) [ inl l ↦ absurd ((h.rows i l).no_program e) | inr l ↦ omega (arith, h.size) ];
    some = omega (arith, h.size);
    block = λ i b. (def_here i b).block;
    region = λ i b. (def_here i b).region;
    at_top = λ i b e. (in_procedure i b (not_end is_top refl i e)).fits.at_top e;
    head_block = λ i b e. (in_procedure i b (not_end begins_block refl i e)).fits.heads e;
    inside = λ j i b a. let w = around-within F j i a in (def_here j b).inside i w.0 w.1;
    part_stands = λ i a l e. (in_procedure i l (λ p. subst (λ m. HasNear m a) p e)).fits.part_stands a e;
    statement_stands = λ s b l e.
        let w = around-within F s b e.inside in
        let q = in_procedure s l (not_end has_statements refl s e.block) in
        q.fits.statements e.block b w.0 w.1 e.statement e.right;
    operand_is = λ i a l e. (in_procedure i l (λ p. subst (λ m. HasOperand m a) p e)).fits.operand_is a e;
    test_is = λ w t l e off. test_at w t l e off;
    head_place = λ i g d. (in_procedure i d.within (not_end is_def refl i (ap is_def d.node))).head_place d.name g d.body d.result d.node;
    head_is = λ i x g b k l e. head_at i x g b k l e;
    params = λ i g d. params_at_def i g d;
    has_def = λ g l e. let s = in_procedure g l (not_end is_head refl g (ap is_head e)) in
        let own = s.fits.heads (ap begins_block e) in
        (s.def_of.row, subst (IsDefOf F s.def_of.row) (sym (s.def_of.block (ap (λ k. is_head (at F k).node) own ∙ ap is_head e)) ∙ own) s.def_of.def);
    def_of = λ i b. (def_here i b).def_of;
    one_def = λ m k g d e. elim (cases_lt m k) [
      | inl l ↦ absurd (no_later m k g d e l)
      | inr l ↦ elim (cases_lt k m) [ inl f ↦ absurd (no_later k m g e d f) | inr f ↦ omega arith ]
    ];
    has_if = λ u t l e. belongs u (Split t) l e (λ p. false≢true (sym (ap is_split p)));
    one_if = λ m k u d e. elim (cases_lt m k) [
      | inl l ↦ absurd (no_later_if m k u d e l)
      | inr l ↦ elim (cases_lt k m) [ inl f ↦ absurd (no_later_if k m u e d f) | inr f ↦ omega arith ]
    ];
    split_of = λ i u c. (branches i u c).0;
    arms = λ i u c. (branches i u c).1;
    has_call = λ u x l e. belongs u (Enter x) l e (λ p. false≢true (sym (ap is_enter p)));
    one_call = λ m k u d e. call_once m k u d e;
    enter_of = λ i u c. (in_call i u c).0;
    arg_of = λ i u k a. arg_belongs i u k a;
    args_of = λ i u c. (in_call i u c).1;
    one_arg = λ m l u k a b. arg_once m l u k a b;
    has_store = λ a t i l e. belongs a (Address t i) l e (λ p. false≢true (sym (ap is_address p)));
    one_store = λ m k a d e. store_once m k a d e;
    address_of = λ i a c. address_in i a c;
    in_loop = λ i t b e. (def_here i b).in_loop t e;
    has_loop = λ u t l e. loop_at u t l e;
    switches_of = λ u t l e. let c = belongs u (Switches t) l e (λ p. false≢true (sym (ap is_switches p))) in (c.loop, c.of, c.own);
    entries_of = λ i l e. let w = part_of_loop i Entries l e refl in (w.0, w.1, sym w.2);
    turn_of = λ i l e. let w = part_of_loop i Turn l e refl in (w.0, w.1, sym w.2);
    bounds_of = λ i a b l e. bounds_at i a b l e;
    carried_of = λ i l e. carried_at i l e;
    within_of = λ i f l e. within_at i f l e;
    count_of = λ i l e. count_at i l e;
    index_of = λ i x l e. index_at i x l e;
    body_of = λ i l e. let w = part_of_loop i Body l e refl in (w.0, w.1, sym w.2);
    reset_of = λ i v l e. let w = part_of_loop i (Reset v) l e refl in (w.0, w.1, reset_last i v w.0 (at F i).block w.1 e w.2, w.2);
    one_loop = λ m k u d e. loop_once m k u d e;
    loop_is = λ i u c. loop_rows i u c;
    start_of_loop = λ u l e. belongs u Start l e (λ p. false≢true (sym (ap is_start p)));
    span_of_loop = λ i l e. belongs i Span l e (λ p. false≢true (sym (ap is_span p)));
    loop_of = λ i l e. (in_procedure i l (not_end is_in_loop refl i e)).loop_of e;
    use_of = λ o x l e. let v = belongs o (NextUse x) l e (λ p. false≢true (sym (ap is_in_loop p))) in (v.row, v.index, v.next, v.own);
    next_in = λ m u k x s. next_inside m u k x s;
    has_next = λ i l e.
        let v = belongs i Variable l (variable_node (at F i).node e) (λ p. false≢true (sym (ap is_variable p))) in
        (v.row, v.index, v.name, v.next, v.own);
    one_next = λ m l u k x y a b. next_once m l u k x y a b;
    value_block = λ i b l e. (in_procedure i l (not_end is_block refl i (ap is_block e))).fits.value_block b e;
    value_within = λ i f l e. belongs i (Within f) l e (λ p. false≢true (sym (ap is_in_loop p)));
    value_self = by_row (λ i r. is_block r.node ≡ false → is_within r.node ≡ false → r.value ≡ i)
        (λ i s alone out. s.fits.value_self (itself (at F i).node alone out)) (λ _ _. ap (λ (r : Row). r.value) h.last);
    value_stands = λ i l e.
        let v = (in_procedure i l (not_end is_expression refl i e)).fits.value e in
        (v.within, v.expression, v.no_block, v.region, v.block);
    turned = λ i l e. (in_procedure i l (not_end is_expression refl i e)).turned (expression_on (at F i).node e);
    store_turned = λ i l e. (in_procedure i l (not_end is_store refl i e)).turned (store_on (at F i).node e);
    in_a_block = λ i l e. (in_procedure i l (not_end is_statement refl i e)).in_a_block e;
  }

-- the rows of a program's tree are a table
pub IsTable-rows_of : (t : Tree) → IsProgramTree t → IsTable (rows_of t)
IsTable-rows_of t d =
    let start : Parts = record { rows = []; names = first_names } in
    let T = add (in_top 0) start t in
    let F = rows_of t in
    let r = row_for T.rows (in_top 0) 0 0 Program in
    let rows = Are-add F (in_top 0) start d (Has-push F T.rows r (Has-itself F)) in
    IsTable-ends F (size T) (record { size = push-size T.rows r; rows = λ i l. rows i (omega arith) l; last = at-push F T.rows r (Has-itself F) })

-- ---- blocks

start_is : (s t : ℕ) → LoopHead s ≡ LoopHead t → s ≡ t
start_is s t e = cc

-- each row of a table stands behind the head of its block
pub AreInBlocks-table : (t : Tree) → IsTable (rows_of t) → AreInBlocks (rows_of t)
AreInBlocks-table t table = record {
  head = λ i less. by i less (cases_lt (i + 1) (length (rows_of t)));
  start = λ h s less e.
      let c = table.has_loop h s less e in
      let l = table.loop_is c.0 h c.1 in
      let is : s ≡ h - 1 = start_is s (h - 1) (sym e ∙ (l.before_test).head) in
      let low = l.begins in
      omega arith;
}
  where
    T : Parts
    T = add (in_top 0) (record { rows = []; names = first_names }) t

    last : (r : Row) (i : ℕ) → length T.rows ≡ i → (at (T.rows ++ r ∷ []) i).block ≡ r.block
    last r i e = ap (λ (q : Row). q.block) (get_or_push T.rows r no_row i e)

    by : (i : ℕ) → i < length (rows_of t) → (i + 1 < length (rows_of t)) ⊎ (length (rows_of t) ≤ i + 1) → (at (rows_of t) i).block ≤ i
    by i less (inl c) = (table.block i c).0
    by i less (inr c) =
        let long : length (rows_of t) ≡ length T.rows + 1 = length_push T.rows _ in
        let zero_block : (at (rows_of t) i).block ≡ 0 = last _ i (omega arith) in
        omega arith
