-- The regions of a table lie in one another, and the rows of an arm are those that stand in its region or further in.
use Rattle.std.proofs.Common.{◌≡◌, ◌⊎◌, inl, inr, ◌+◌, ◌-◌, ◌<◌, ◌≤◌, ℕ, Bool, true, false, List, length, refl, sym, ap, ◌∙◌, subst, arith}
use Rattle.std.proofs.lemmas.Bool.{cases_lt, false≢true}
use Rattle.id_table.specs.declared.row.Region.{Region}
use Rattle.id_table.specs.declared.row.Row.{Row}
use Rattle.id_table.specs.declared.row.Node.{Node}
use Rattle.id_table.specs.declared.row.Node.TheVariants.{Bounds, Loop, Split, Start, If, LoopHead, Store, Switches}
use Rattle.id_table.specs.Rows.{arm_at, at, top}
use Rattle.id_table.specs.Tables.{HasNear, HasOperand, HasPart, begins_block, is_if, is_loop, is_split, is_switches, is_top}
use Rattle.id_table.specs.Loops.{AreBounds, Begins, InSide, IsLoopOf, StandsInSide, bounds_row, plainly, with_bounds}
use Rattle.id_table.specs.Regions.{InArm, IsIfOf, Lies, here, in_arm, in_loop, in_side}
use Rattle.id_table.specs.Turns.{IsTable, Root, TurnedIn, Turns, argument, body, left, of_otherwise, of_procedure, of_then}
use Rattle.id_table.specs.Turns.{operand, part, right, root, statement, test, of_last, of_next, of_statement, of_store, of_test}
use Rattle.id_table.specs.Turns.{address_index, address_target, fetch_index, fetched, high, index_high, index_low, low, stored, stored_value}
use Rattle.id_table.proofs.BlockLemmas.{around-within}
use Rattle.id_table.proofs.BlocksLemmas.{not_last}
use Rattle.id_table.proofs.RowLemmas.{Lies-both, body_low, near_part, operand_part}

-- what lies in a region that lies in another lies in that
pub Lies-trans : (R : List Row) {p q r : Region} → Lies R p q → Lies R q r → Lies R p r
Lies-trans R l m = Lies-both R l m

abbrev start_or : ℕ → Node → ℕ
start_or d (LoopHead t) = t
start_or d _ = d

split_no_switches : (n : Node) → is_split n ≡ true → is_switches n ≡ true → ⊥
split_no_switches (Split t) e f = false≢true f
split_no_switches _ e f = false≢true e

-- of two regions that a region lies in, one lies in the other
pub Lies-chain : (R : List Row) {p q r : Region} → Lies R p r → Lies R q r → Lies R p q ⊎ Lies R q p
Lies-chain R here m = inr m
Lies-chain R l here = inl l
Lies-chain R (in_arm w e l) (in_arm v f m) = Lies-chain R l m
Lies-chain R (in_arm {s} w e l) (in_loop v f m) = absurd (false≢true (sym (ap is_split f) ∙ e))
Lies-chain R (in_arm {s} w e l) (in_side v f m) = absurd (split_no_switches (at R s).node e f)
Lies-chain R (in_loop w e l) (in_arm v f m) = absurd (false≢true (sym (ap is_split e) ∙ f))
Lies-chain R {p} (in_loop w e l) (in_loop v f m) = let z = ap (start_or 0) (sym e ∙ f) in Lies-chain R (subst (λ k. Lies R p (at R k).region) z l) m
Lies-chain R (in_loop w e l) (in_side v f m) = absurd (false≢true (sym (ap is_switches e) ∙ f))
Lies-chain R (in_side {w = s} w e l) (in_arm v f m) = absurd (split_no_switches (at R s).node f e)
Lies-chain R (in_side w e l) (in_loop v f m) = absurd (false≢true (sym (ap is_switches f) ∙ e))
Lies-chain R (in_side w e l) (in_side v f m) = Lies-chain R l m

-- such a part of a node is one of its parts
pub HasPart-operand : (n : Node) (a : ℕ) → HasOperand n a → HasPart n a
HasPart-operand = operand_part

pub HasPart-near : (n : Node) (a : ℕ) → HasNear n a → HasPart n a
HasPart-near = near_part

abbrev is_start : Node → Bool
is_start Start = true
is_start _ = false

-- a loop with an index begins with its bounds
Begins-bounds : {R : List Row} {s n c : ℕ} → Begins R s n c → c ≡ 3 → (k : ℕ) × (k + 1 ≡ s) × AreBounds R k n
Begins-bounds (plainly e) z = absurd (omega arith)
Begins-bounds (with_bounds {c = k} e b) z = (k, e, b)

abbrev then_or : ℕ → Node → ℕ
then_or d (If s x y) = x
then_or d _ = d

-- a node that is a split
split_node : (n : Node) → is_split n ≡ true → (t : ℕ) × (n ≡ Split t)
split_node (Split t) e = (t, refl)
split_node _ e = absurd (false≢true e)

-- a node that is switches
switches_node : (n : Node) → is_switches n ≡ true → (t : ℕ) × (n ≡ Switches t)
switches_node (Switches t) e = (t, refl)
switches_node _ e = absurd (false≢true e)

-- a side of the switches of a loop begins behind them
side_low : (w b n i : ℕ) (side : Bool) → w < b → InSide w b n side i → w < i
side_low w b n i true l h = h.0
side_low w b n i false l h = omega (arith, h.0)

-- between two rows of an arm are rows of it
InArm-between : (s x n i j k : ℕ) (b : Bool) → InArm s x n b i → InArm s x n b k → i ≤ j → j ≤ k → InArm s x n b j
InArm-between s x n i j k true f g l m = (omega (arith, f.0), omega (arith, g.1))
InArm-between s x n i j k false f g l m = (omega (arith, f.0), omega (arith, g.1))

module _ (R : List Row) (t : IsTable R) where
  -- a conditional is not the last row
  pub if_not_last : (n s : ℕ) → IsIfOf R n s → n + 1 < length R
  if_not_last n s c = not_last R t is_if refl n c.within (ap is_if c.node)

  -- a row right in an arm's region is one of the arm
  pub InArm-region : (n s i : ℕ) (b : Bool) (c : IsIfOf R n s) → i + 1 < length R → (at R i).region ≡ arm_at s b → InArm s c.then n b i
  InArm-region n s i b c l e = elim (t.region i l) [
    | inl k ↦
        let same : (at R i).block ≡ s = ap (λ (r : Region). r.head) (sym k ∙ e) in
        let z = t.split_of n s c in
        absurd (false≢true (sym (ap begins_block z.node) ∙ ap (λ j. begins_block (at R j).node) (sym same) ∙ (t.block i l).1))
    | inr (inr k) ↦
        let one : k.loop.switches ≡ s = ap (λ (r : Region). r.head) (sym k.region ∙ e) in
        let z = t.split_of n s c in
        absurd (false≢true (sym (ap is_split (t.loop_is k.row (at R i).block k.loop).test.node) ∙ ap (λ j. is_split (at R j).node) one
        ∙ ap is_split z.node))
    | inr (inl k) ↦
        let one : k.split ≡ s = ap (λ (r : Region). r.head) (sym k.region ∙ e) in
        let side : k.side ≡ b = ap (λ (r : Region). r.side) (sym k.region ∙ e) in
        in_this k.split k.row k.side one side k.conditional k.among
  ]
    where
      in_this : (u m : ℕ) (a : Bool) → u ≡ s → a ≡ b → (d : IsIfOf R m u) → InArm u d.then m a i → InArm s c.then n b i
      in_this u m a one side d among =
          let row : m ≡ n = t.one_if m n s (subst (IsIfOf R m) one d) c in
          let arm : d.then ≡ c.then = ap (then_or 0) (sym d.node ∙ ap (λ j. (at R j).node) row ∙ c.node) in
          subst (λ x. InArm s x n b i) arm
          (subst (λ j. InArm s d.then j b i) row (subst (λ y. InArm s d.then m y i) side (subst (λ j. InArm j d.then m a i) one among)))

  -- an arm stands between the split and the conditional
  pub InArm-within : (n s i : ℕ) (b : Bool) (c : IsIfOf R n s) → InArm s c.then n b i → (s < i) × (i < n)
  InArm-within n s i true c h = let a = t.arms n s c in (h.0, omega (arith, h.1, a.next, a.ends))
  InArm-within n s i false c h = let a = t.arms n s c in (omega (arith, h.0, a.low), h.1)

  -- each row between them is one of an arm
  pub InArm-either : (n s i : ℕ) (c : IsIfOf R n s) → s < i → i < n → (b : Bool) × InArm s c.then n b i
  InArm-either n s i c l m = elim (cases_lt c.then i) [ inl k ↦ (false, (k, m)) | inr k ↦ (true, (l, k)) ]

  -- and none of both
  pub InArm-apart : (n s i : ℕ) (c : IsIfOf R n s) → InArm s c.then n true i → InArm s c.then n false i → ⊥
  InArm-apart n s i c f g = omega (arith, f.1, g.0)

  loop_not_last : (m h : ℕ) → IsLoopOf R m h → m + 1 < length R
  loop_not_last m h d = not_last R t is_loop refl m d.within (ap is_loop d.node)

  -- the `Start` that a loop's head names is the row before it
  start_at : (m h u : ℕ) → IsLoopOf R m h → (at R h).node ≡ LoopHead u → u + 1 ≡ h
  start_at m h u d e = let x = t.loop_is m h d in omega (arith, x.begins, ap (start_or 0) (sym e ∙ x.before_test.head))

  no_switches : (i u : ℕ) (k : StandsInSide R i) → k.loop.switches ≡ u → is_switches (at R u).node ≡ true
  no_switches i u k z = ap (λ j. is_switches (at R j).node) (sym z) ∙ ap is_switches (t.loop_is k.row (at R i).block k.loop).test.node

  -- a row right in a loop's region stands between its head and the loop
  top_within : (h u m i : ℕ) → h < length R → (at R h).node ≡ LoopHead u → IsLoopOf R m h → i + 1 < length R → (at R i).region ≡ top h → (h ≤ i) × (i < m)
  top_within h u m i w is d l e = elim (t.region i l) [
    | inl k ↦
        let same : (at R i).block ≡ h = ap (λ (r : Region). r.head) (sym k ∙ e) in
        let x = t.in_loop i u l (ap (λ j. (at R j).node) same ∙ is) in
        let one = t.one_loop x.0 m h (subst (IsLoopOf R x.0) same x.1) d in
        (omega (arith, (t.block i l).0, same), omega (arith, x.2, one))
    | inr (inl k) ↦
        let z : k.split ≡ h = ap (λ (r : Region). r.head) (sym k.region ∙ e) in
        absurd (false≢true (sym (ap is_split is) ∙ ap (λ j. is_split (at R j).node) (sym z) ∙ ap is_split (t.split_of k.row k.split k.conditional).node))
    | inr (inr k) ↦
        let z : k.loop.switches ≡ h = ap (λ (r : Region). r.head) (sym k.region ∙ e) in
        absurd (false≢true (sym (ap is_switches is) ∙ no_switches i h k z))
  ]

  -- and one right in a side of its switches between those and the loop
  side_within : (u m i : ℕ) (a : Bool) → is_switches (at R u).node ≡ true → IsLoopOf R m (at R u).block → i + 1 < length R → (at R i).region ≡ arm_at u a
      → (u < i) × (i < m)
  side_within u m i a is d l e = elim (t.region i l) [
    | inl k ↦
        let same : (at R i).block ≡ u = ap (λ (r : Region). r.head) (sym k ∙ e) in
        let z = switches_node (at R u).node is in
        absurd (false≢true (sym (ap begins_block z.1) ∙ ap (λ j. begins_block (at R j).node) (sym same) ∙ (t.block i l).1))
    | inr (inl k) ↦
        let z : k.split ≡ u = ap (λ (r : Region). r.head) (sym k.region ∙ e) in
        absurd (split_no_switches (at R u).node (ap (λ j. is_split (at R j).node) (sym z) ∙ ap is_split (t.split_of k.row k.split k.conditional).node) is)
    | inr (inr k) ↦
        let z : k.loop.switches ≡ u = ap (λ (r : Region). r.head) (sym k.region ∙ e) in
        let x = t.loop_is k.row (at R i).block k.loop in
        let same : (at R i).block ≡ (at R u).block = sym x.test.block ∙ ap (λ j. (at R j).block) z in
        let y = t.in_loop i ((at R i).block - 1) l x.before_test.head in
        let one = t.one_loop y.0 m (at R u).block (subst (IsLoopOf R y.0) same y.1) d in
        (omega (arith, z, side_low k.loop.switches k.body k.row i k.side (body_low k.body_is) k.among), omega (arith, y.2, one))
  ]

  module _ (n s : ℕ) (b : Bool) (c : IsIfOf R n s) where
    mutual
      lies-row : {r : Region} → Lies R (arm_at s b) r → (i : ℕ) → i + 1 < length R → (at R i).region ≡ r → InArm s c.then n b i
      lies-row here i l e = InArm-region n s i b c l e
      lies-row (in_arm {s = u} {b = a} w is m) i l e =
          let z = split_node (at R u).node is in
          let d = t.has_if u z.0 w z.1 in
          let inner = InArm-within d.0 u i a d.1 (InArm-region d.0 u i a d.1 l e) in
          let from = lies-row m u (omega (arith, inner.0, l)) refl in
          let to = lies-row m d.0 (if_not_last d.0 u d.1) (sym (t.split_of d.0 u d.1).region) in
          InArm-between s c.then n u i d.0 b from to (omega (arith, inner.0)) (omega (arith, inner.1))
      lies-row (in_loop {h} {s = u} w is m) i l e =
          let d = t.has_loop h u w is in
          let low = top_within h u d.0 i w is d.1 l e in
          let same = start_at d.0 h u d.1 is in
          let from = lies-row m u (omega (arith, same, low.0, l)) refl in
          let x = t.loop_is d.0 h d.1 in
          let start : x.start ≡ u = omega (arith, same, x.begins) in
          let to = lies-row m d.0 (loop_not_last d.0 h d.1) (sym x.start_of.beside.region ∙ ap (λ k. (at R k).region) start) in
          InArm-between s c.then n u i d.0 b from to (omega (arith, same, low.0)) (omega (arith, low.1))
      lies-row (in_side {w = u} {b = a} w is m) i l e =
          let z = switches_node (at R u).node is in
          let d = t.switches_of u z.0 w z.1 in
          let x = t.loop_is d.0 (at R u).block d.1 in
          let region = ap (λ k. (at R k).region) (sym d.2) ∙ x.test.region in
          let low = side_within u d.0 i a is d.1 l e in
          let from = lies-row m u (omega (arith, low.0, l)) refl in
          let to = lies-loop m (at R u).block ((at R u).block - 1) d.0 x.before_test.head d.1 region in
          InArm-between s c.then n u i d.0 b from to (omega (arith, low.0)) (omega (arith, low.1))

      -- a loop whose region lies in an arm ends there
      lies-loop : {r : Region} → Lies R (arm_at s b) r → (h u m : ℕ) → (at R h).node ≡ LoopHead u → IsLoopOf R m h → r ≡ top h → InArm s c.then n b m
      lies-loop here h u m e d q =
          let z : s ≡ h = ap (λ (r : Region). r.head) q in
          absurd (false≢true (sym (ap is_split e) ∙ ap (λ j. is_split (at R j).node) (sym z) ∙ ap is_split (t.split_of n s c).node))
      lies-loop (in_arm {s = v} w is l) h u m e d q =
          let z : v ≡ h = ap (λ (r : Region). r.head) q in
          absurd (false≢true (sym (ap is_split e) ∙ ap (λ j. is_split (at R j).node) (sym z) ∙ is))
      lies-loop (in_side {w = v} w is l) h u m e d q =
          let z : v ≡ h = ap (λ (r : Region). r.head) q in
          absurd (false≢true (sym (ap is_switches e) ∙ ap (λ j. is_switches (at R j).node) (sym z) ∙ is))
      lies-loop (in_loop {h = v} {s = y} w is l) h u m e d q =
          let z : v ≡ h = ap (λ (r : Region). r.head) q in
          let x = t.loop_is m h d in
          let same = start_at m h y d (ap (λ j. (at R j).node) (sym z) ∙ is) in
          let start : x.start ≡ y = omega (arith, same, x.begins) in
          lies-row l m (loop_not_last m h d) (sym x.start_of.beside.region ∙ ap (λ k. (at R k).region) start)

    -- a row that stands in an arm's region or further in is one of the arm
    pub InArm-lies : (i : ℕ) → i + 1 < length R → Lies R (arm_at s b) (at R i).region → InArm s c.then n b i
    InArm-lies i l m = lies-row m i l refl

    -- a conditional in an arm ends there, as its split stands there
    pub InArm-inner : (m u : ℕ) → IsIfOf R m u → InArm s c.then n b u → InArm s c.then n b m
    InArm-inner m u d h =
        let same = (t.split_of m u d).region in
        InArm-lies m (if_not_last m u d) (subst (Lies R (arm_at s b)) same ((t.arms n s c).each b u h))

    -- a region that a split stands in does not lie in its arms
    pub Lies-split : Lies R (arm_at s b) (at R s).region → ⊥
    Lies-split m =
        let z = t.split_of n s c in
        let p = (t.formed.each n c.within).parts s (subst (λ x. HasPart x s) (sym c.node) (inl refl)) in
        let h = InArm-within n s s b c (InArm-lies s (omega (arith, p.1, c.within)) m) in
        omega (arith, h.0)

  -- what stands where the split of a conditional does, or further out, stands before the arms or behind them
  pub outside_arms : (n s i : ℕ) → IsIfOf R n s → Lies R (at R i).region (at R s).region → (i ≤ s) ⊎ (n ≤ i)
  outside_arms n s i c m = elim (cases_lt s i) [
    | inr k ↦ inl k
    | inl k ↦ elim (cases_lt i n) [
      | inr l ↦ inr l
      | inl l ↦ let a = InArm-either n s i c k l in
          absurd (Lies-split n s a.0 c (Lies-both R ((t.arms n s c).each a.0 i a.1) m))
    ]
  ]

  -- what stands where the address of a store does stands where the store does
  address_stands : (n b a : ℕ) {v : ℕ} → n < length R → HasPart (Store b v) b → (at R n).node ≡ Store b v → HasNear (at R b).node a
      → (at R a).region ≡ (at R n).region
  address_stands n b a l h e f =
      let p = (t.formed.each n l).parts b (subst (λ m. HasPart m b) (sym e) h) in
      (t.part_stands b a (omega (arith, p.1, l)) f).1 ∙ (t.part_stands n b l (subst (λ m. HasNear m b) (sym e) h)).1

  -- the bounds of an index stand where the loop does
  bounds_stand : (n h w l a b c : ℕ) → n < length R → (at R n).node ≡ Loop h w l → (at R (bounds_row h)).node ≡ Bounds a b → HasNear (Bounds a b) c
      → (at R c).region ≡ (at R n).region
  bounds_stand n h w l a b c m e f p =
      let d : IsLoopOf R n h = record { switches = w; last = l; within = m; node = e } in
      let x = t.loop_is n h d in
      let head = (t.formed.each n m).parts h (subst (λ k. HasPart k h) (sym e) (inl refl)) in
      let two : bounds_row h + 2 ≡ h = elim (cases_lt h 2) [
        | inr g ↦ omega arith
        | inl g ↦ let z : x.start ≡ bounds_row h = omega (arith, x.begins) in
            absurd (false≢true (sym (ap is_start f) ∙ ap (λ k. is_start (at R k).node) (sym z) ∙ ap is_start x.start_of.node))
      ] in
      let inside : bounds_row h < length R = omega (arith, head.1, m) in
      let own = t.bounds_of (bounds_row h) a b inside f in
      let same : own.0 ≡ n = t.one_loop own.0 n h (subst (IsLoopOf R own.0) two own.1) d in
      let y = t.loop_is own.0 (bounds_row h + 2) own.1 in
      let k = Begins-bounds y.from own.2 in
      let at_bounds : k.0 ≡ bounds_row h = omega (arith, k.1, y.begins) in
      let near : (at R c).region ≡ (at R (bounds_row h)).region = (t.part_stands (bounds_row h) c inside (subst (λ q. HasNear q c) (sym f) p)).1 in
      let row : (at R k.0).region ≡ (at R own.0).region = k.2.beside.region in
      let here : (at R (bounds_row h)).region ≡ (at R k.0).region = ap (λ q. (at R q).region) (sym at_bounds) in
      let there : (at R own.0).region ≡ (at R n).region = ap (λ q. (at R q).region) same in
      near ∙ here ∙ row ∙ there

  -- what another expression or store turns on stands where that does
  pub Turns-stands : (n a : ℕ) → n < length R → Turns R n a → (at R a).region ≡ (at R n).region
  Turns-stands n a l (operand e) = (t.part_stands n a l (subst (λ m. HasNear m a) (sym e) refl)).1
  Turns-stands n a l (left e) = (t.part_stands n a l (subst (λ m. HasNear m a) (sym e) (inl refl))).1
  Turns-stands n a l (right e) = (t.part_stands n a l (subst (λ m. HasNear m a) (sym e) (inr refl))).1
  Turns-stands n a l (test {s} e f) =
      let p = (t.formed.each n l).parts s (subst (λ m. HasPart m s) (sym e) (inl refl)) in
      (t.part_stands s a (omega (arith, p.1, l)) (subst (λ m. HasNear m a) (sym f) refl)).1
      ∙ (t.part_stands n s l (subst (λ m. HasNear m s) (sym e) refl)).1
  Turns-stands n a l (argument {e = s} {c} {m} {k} e b f) =
      let w = t.arg_of m s k (record { value = a; within = b; node = f }) in
      let same = t.one_call w.row n s w.call (record { count = c; within = l; node = e }) in
      (t.part_stands m a b (subst (λ z. HasNear z a) (sym f) (inr refl))).1 ∙ w.stands.region ∙ ap (λ z. (at R z).region) same
  Turns-stands n a l (body e) = (t.part_stands n a l (subst (λ m. HasNear m a) (sym e) refl)).1
  Turns-stands n a l (statement {m} is s e) =
      let w = around-within R n m s.inside in
      (t.part_stands m a (omega (arith, w.1, l)) (subst (λ m. HasNear m a) (sym e) refl)).1 ∙ (t.statement_stands n m l s).1
  Turns-stands n a l (index_low {h} {w} {l = v} {b = c} e f) = bounds_stand n h w v a c a l e f (inl refl)
  Turns-stands n a l (index_high {h} {w} {l = v} {a = c} e f) = bounds_stand n h w v c a a l e f (inr refl)
  Turns-stands n a l (low e) = (t.part_stands n a l (subst (λ m. HasNear m a) (sym e) (inl refl))).1
  Turns-stands n a l (high e) = (t.part_stands n a l (subst (λ m. HasNear m a) (sym e) (inr refl))).1
  Turns-stands n a l (fetched e) = (t.part_stands n a l (subst (λ m. HasNear m a) (sym e) (inl refl))).1
  Turns-stands n a l (fetch_index e) = (t.part_stands n a l (subst (λ m. HasNear m a) (sym e) (inr refl))).1
  Turns-stands n a l (address_target {a = b} e f) = address_stands n b a l (inl refl) e (subst (λ m. HasNear m a) (sym f) (inl refl))
  Turns-stands n a l (address_index {a = b} e f) = address_stands n b a l (inl refl) e (subst (λ m. HasNear m a) (sym f) (inr refl))
  Turns-stands n a l (stored_value e) = (t.part_stands n a l (subst (λ m. HasNear m a) (sym e) (inr refl))).1
  Turns-stands n a l (stored is s e) = (t.statement_stands n a l s).1

  -- a root of a region stands right in it
  pub Root-stands : (r : Region) (e : ℕ) → Root R r e → (at R e).region ≡ r
  Root-stands r e (of_procedure {n} {x} {h} {b} {k} l d) =
      let p = (t.formed.each n l).parts h (subst (λ m. HasPart m h) (sym d) (inl refl)) in
      let head = (t.head_is n x h b k l d).0 in
      let within : h < length R = omega (arith, p.1, l) in
      let body = (t.part_stands n b l (subst (λ m. HasNear m b) (sym d) (inr refl))).1 in
      let own = (t.part_stands n h l (subst (λ m. HasNear m h) (sym d) (inl refl))).1 in
      body ∙ sym own ∙ t.at_top h within (ap is_top head) ∙ ap top (t.head_block h within (ap begins_block head))
  Root-stands r e (of_then {n} {s} {x} {y} l d) = (t.arms n s (record { then = x; otherwise = y; within = l; node = d })).then_stands
  Root-stands r e (of_otherwise {n} {s} {x} {y} l d) = (t.arms n s (record { then = x; otherwise = y; within = l; node = d })).otherwise_stands
  Root-stands r e (of_test {w} l d _) = (t.part_stands w e l (subst (λ m. HasNear m e) (sym d) refl)).1
  Root-stands r e (of_statement {n} {m} l is s d) =
      let w = around-within R n m s.inside in
      (t.part_stands m e (omega (arith, w.1, l)) (subst (λ m. HasNear m e) (sym d) refl)).1 ∙ (t.statement_stands n m l s).1
  Root-stands r e (of_store {n} l is s d) = (t.statement_stands n e l s).1
  Root-stands r e (of_next {m} l d) = (t.part_stands m e l (subst (λ m. HasNear m e) (sym d) (inr refl))).1
  Root-stands r e (of_last {n} {h} {w} l d) = (t.loop_is n h (record { switches = w; last = e; within = l; node = d })).last_is.region

  -- an expression that is turned on with a region stands right in it
  pub TurnedIn-stands : (r : Region) (e : ℕ) → TurnedIn R r e → (at R e).region ≡ r
  TurnedIn-stands r e (root x) = Root-stands r e x
  TurnedIn-stands r e (part {n} u l x) = Turns-stands n e l x ∙ TurnedIn-stands r n u
