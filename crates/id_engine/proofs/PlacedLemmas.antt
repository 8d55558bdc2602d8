-- The instructions of a program's graph stand at places of the program, and those lie in its text.
use Rattle.std.proofs.Common.{◌≡◌, ℕ, zero, suc, ◌+◌, ◌-◌, ◌<◌, ◌≤◌, true, false, List, [], ◌∷◌, ◌++◌, All, length, map}
use Rattle.std.proofs.Common.{inl, inr}
use Rattle.std.proofs.Common.{Some, refl, sym, ap, subst, ◌∙◌, arith}
use Rattle.std.specs.Prelude.{slice_get}
use Rattle.std.proofs.lemmas.Bool.{cases_eq}
use Rattle.id_table.specs.Names.{first_names}
use Rattle.id_table.specs.declared.row.Row.{Row}
use Rattle.id_table.specs.Rows.{add, at, in_top, value_of}
use Rattle.id_value.specs.declared.Kind.{Kind}
use Rattle.std.proofs.lemmas.Option.{slice_get-get_or}
use Rattle.id_table.specs.declared.row.Node.{Node}
use Rattle.id_table.specs.declared.row.Node.TheVariants.{Head, Param, Literal, Name, Unary, Binary, Split, If, Enter}
use Rattle.id_table.specs.declared.row.Node.TheVariants.{Arg, Call, Block, Binding, Def, Program}
use Rattle.id_table.specs.declared.row.Node.TheVariants.{Start, LoopHead, Variable, Entries, Switches, Turn, NextUse}
use Rattle.id_table.specs.declared.row.Node.TheVariants.{Next, Body, Reset, Loop}
use Rattle.id_table.specs.declared.row.Node.TheVariants.{Array as ArrayRow, Fetch, Address, Store}
use Rattle.id_table.specs.declared.row.Node.TheVariants.{Bounds, Carried, Within, Count, Index, Span}
use Rattle.id_table.specs.Stores.{IsStoreOf}
use Rattle.id_table.specs.Tables.{is_carried, is_thing, is_variable}
use Rattle.id_table.specs.Calls.{IsArgIn, IsCallOf}
use Rattle.id_table.specs.Loops.{AreBounds, Begins, IsLoopOf, IsTurn, behind_count, index_row, plainly, right}
use Rattle.id_table.specs.Loops.{with_bounds}
use Rattle.id_table.specs.Regions.{IsIfOf}
use Rattle.id_table.specs.Turns.{IsDefOf}
use Rattle.id_check.specs.declared.checked.Checked.{Checked}
use Rattle.id_check.specs.Causes.{defines_main}
use Rattle.id_check.specs.Programs.{place, rows, tree}
use Rattle.id_instr.specs.Graph.{Parts}
use Rattle.id_instr.specs.declared.instr.Instr.{Instr}
use Rattle.id_instr.specs.declared.instr.Op.{Op}
use Rattle.id_instr.specs.declared.instr.Op.TheVariants.{Merge, Next as NextOp, Switch}
use Rattle.id_instr.specs.declared.instr.PortKind.{PortKind}
use Rattle.id_source.proofs.CheckedLemmas.{placed_of}
use Rattle.id_build.specs.declared.arc.Form.{Form}
use Rattle.id_build.specs.declared.arc.Piece.{Piece}
use Rattle.id_desugar.specs.Regions.{carried, imports_of}
use Rattle.id_build.proofs.EndsLemmas.{not_last}
use Rattle.id_build.specs.Rows.{Entry, block, for_each, loop_entries, made_of, node, piece, send_to}
use Rattle.id_build.specs.Schemas.{Makes, Schemas}
use Rattle.id_check.proofs.ProgramsLemmas.{table_of}
use Rattle.id_compile.specs.Programs.{IsPlacedWithin}

-- a piece of a list of a few, which have one place, has it
one_place : (a : Piece) (k : ℕ) (f : Form) (e : ℕ) → slice_get (a ∷ []) k ≡ Some (piece f e) → e ≡ a.place
one_place a zero f e h = let is : a ≡ piece f e = cc in sym (ap (λ (p : Piece). p.place) is)
one_place a (suc k) f e h = absurd cc

two_place : (a b : Piece) (k : ℕ) (f : Form) (e : ℕ) → b.place ≡ a.place → slice_get (a ∷ b ∷ []) k ≡ Some (piece f e)
    → e ≡ a.place
two_place a b zero f e same h = let is : a ≡ piece f e = cc in sym (ap (λ (p : Piece). p.place) is)
two_place a b (suc k) f e same h = one_place b k f e h ∙ same

three_place : (a b c : Piece) (k : ℕ) (f : Form) (e : ℕ) → b.place ≡ a.place → c.place ≡ a.place
    → slice_get (a ∷ b ∷ c ∷ []) k ≡ Some (piece f e) → e ≡ a.place
three_place a b c zero f e same also h = let is : a ≡ piece f e = cc in sym (ap (λ (p : Piece). p.place) is)
three_place a b c (suc k) f e same also h = two_place b c k f e (also ∙ sym same) h ∙ same

five_place : (a b c d g : Piece) (k : ℕ) (f : Form) (e : ℕ) → b.place ≡ a.place → c.place ≡ a.place → d.place ≡ a.place
    → g.place ≡ a.place → slice_get (a ∷ b ∷ c ∷ d ∷ g ∷ []) k ≡ Some (piece f e) → e ≡ a.place
five_place a b c d g zero f e second third fourth last h =
    let is : a ≡ piece f e = cc in sym (ap (λ (p : Piece). p.place) is)
five_place a b c d g (suc zero) f e second third fourth last h =
    let is : b ≡ piece f e = cc in sym (ap (λ (p : Piece). p.place) is) ∙ second
five_place a b c d g (suc (suc k)) f e second third fourth last h =
    three_place c d g k f e (fourth ∙ sym third) (last ∙ sym third) h ∙ third

the_piece : (a c : Piece) → Some a ≡ Some c → a ≡ c
the_piece a c h = cc

-- a piece for one of some binders has the place of all, and so has a `send` to one of some entries
for_each_place : (P : Checked) (o : PortKind → Op) (q : ℕ) (bs : List ℕ) (k : ℕ) (f : Form) (e : ℕ)
    → slice_get (for_each P o q bs) k ≡ Some (piece f e) → e ≡ q
for_each_place P o q [] k f e h = absurd cc
for_each_place P o q (b ∷ bs) zero f e h = sym (ap (λ (p : Piece). p.place) (the_piece _ _ h))
for_each_place P o q (b ∷ bs) (suc k) f e h = for_each_place P o q bs k f e h

sends_place : (P : Checked) (q : ℕ) (es : List Entry) (k : ℕ) (f : Form) (e : ℕ)
    → slice_get (map (send_to P q) es) k ≡ Some (piece f e) → e ≡ q
sends_place P q [] k f e h = absurd cc
sends_place P q (y ∷ ys) zero f e h = sym (ap (λ (p : Piece). p.place) (the_piece _ _ h))
sends_place P q (y ∷ ys) (suc k) f e h = sends_place P q ys k f e h

-- a piece of a list has a place that its first has, where the others have it
all_place : (a : Piece) (ps : List Piece)
    → ((k : ℕ) (f : Form) (e : ℕ) → slice_get ps k ≡ Some (piece f e) → e ≡ a.place)
    → (k : ℕ) (f : Form) (e : ℕ) → slice_get (a ∷ ps) k ≡ Some (piece f e) → e ≡ a.place
all_place a ps rest zero f e h = sym (ap (λ (p : Piece). p.place) (the_piece _ _ h))
all_place a ps rest (suc k) f e h = rest k f e h

-- main is a thing
main_thing : (x : Node) → defines_main x ≡ true → is_thing x ≡ true
main_thing (Def x h k b) e = refl
main_thing _ e = absurd (no e)
  where
    no : false ≡ true → ⊥
    no e = cc

-- the rows before the last one, and that
abbrev rows_before : Checked → List Row
rows_before P = (add (in_top 0) (record { rows = []; names = first_names }) (tree P)).rows

abbrev last_row : Checked → Row
last_row P = record {
  place = 0;
  first = 0;
  block = (in_top 0).block;
  region = (in_top 0).region;
  value = value_of (rows_before P) Program;
  node = Program;
}

module _ {size : ℕ} {P : Checked} (h : IsPlacedWithin size P) where
  thing_within : (n : ℕ) → n < length (rows P) → is_thing (node P n) ≡ true → place P n ≤ size
  thing_within n l t = h.within (place P n) (placed_of P n l t)

  def_within : (n b : ℕ) → IsDefOf (rows P) n b → place P n ≤ size
  def_within n b d = thing_within n d.within (ap is_thing d.node)

  -- a head has the place of its definition
  head_within : (n : ℕ) → n < length (rows P) → node P n ≡ Head → place P n ≤ size
  head_within n l is =
      let d = (table_of P).has_def n l is in
      subst (λ (q : ℕ). q ≤ size) (sym ((table_of P).head_place d.0 n d.1)) (def_within d.0 n d.1)

  -- the switches of a conditional have its place
  split_within : (n t : ℕ) → n < length (rows P) → node P n ≡ Split t → place P n ≤ size
  split_within n t l is =
      let c = (table_of P).has_if n t l is in
      let d : IsIfOf (rows P) c.0 n = c.1 in
      subst (λ (q : ℕ). q ≤ size) (sym ((table_of P).split_of c.0 n d).place)
      (thing_within c.0 d.within (ap is_thing d.node))

  -- a call's `Enter` and its arguments have its place
  call_within : (n e : ℕ) → IsCallOf (rows P) n e → place P n ≤ size
  call_within n e c = thing_within n c.within (ap is_thing c.node)

  enter_within : (n x : ℕ) → n < length (rows P) → node P n ≡ Enter x → place P n ≤ size
  enter_within n x l is =
      let c = (table_of P).has_call n x l is in
      subst (λ (q : ℕ). q ≤ size) (sym ((table_of P).enter_of c.0 n c.1).place) (call_within c.0 n c.1)

  arg_within : (n e k v : ℕ) → n < length (rows P) → node P n ≡ Arg e k v → place P n ≤ size
  arg_within n e k v l is =
      let a : IsArgIn (rows P) n e k v = (table_of P).arg_of n e k (record { value = v; within = l; node = is }) in
      subst (λ (q : ℕ). q ≤ size) (sym (a.stands).place) (call_within a.row e a.call)

  -- a store's `Address` has its place
  address_within : (n t i : ℕ) → n < length (rows P) → node P n ≡ Address t i → place P n ≤ size
  address_within n t i l is =
      let c = (table_of P).has_store n t i l is in
      let d : IsStoreOf (rows P) c.0 n = c.1 in
      subst (λ (q : ℕ). q ≤ size) (sym ((table_of P).address_of c.0 n d).place)
      (thing_within c.0 d.within (ap is_thing d.node))

  -- the `Turn` is behind the switches, and behind what counts where a loop has an index; the bounds of one stand before
  turns_behind : {w t c : ℕ} → IsTurn (rows P) w t c → w < t
  turns_behind (right e) = omega (arith, e)
  turns_behind (behind_count e count index) = omega (arith, e)

  turn_behind_count : {w t c : ℕ} → IsTurn (rows P) w t c → c ≡ 3 → t ≡ w + 2
  turn_behind_count (right e) three = absurd cc
  turn_behind_count (behind_count e count index) three = e

  -- the index is behind what counts
  index_there : {w t c : ℕ} → IsTurn (rows P) w t c → c ≡ 3 → (x : ℕ) × (node P (index_row w) ≡ Index x) × (t ≡ w + 2)
  index_there (right e) three = absurd cc
  index_there (behind_count {x = x} e count index) three = (x, index, e)

  its_bounds : {s n c : ℕ} → Begins (rows P) s n c → c ≡ 3 → (b : ℕ) × (b + 1 ≡ s) × AreBounds (rows P) b n
  its_bounds (plainly e) three = absurd cc
  its_bounds (with_bounds {c = b} e x) three = (b, e, x)

  -- the markers of a loop have its place
  loop_within : (n g : ℕ) → IsLoopOf (rows P) n g → place P n ≤ size
  loop_within n g c = thing_within n c.within (ap is_thing c.node)

  marker_within : (n m j : ℕ) → place P m ≤ size → j ≡ n → place P j ≡ place P m → place P n ≤ size
  marker_within n m j le is same = subst (λ (i : ℕ). place P i ≤ size) is (subst (λ (q : ℕ). q ≤ size) (sym same) le)

  start_within : (n : ℕ) → n < length (rows P) → node P n ≡ Start → place P n ≤ size
  start_within n l is =
      let c = (table_of P).start_of_loop n l is in
      let d = (table_of P).loop_is c.0 (n + 1) c.1 in
      marker_within n c.0 d.start (loop_within c.0 (n + 1) c.1) (omega (arith, d.begins)) ((d.start_of).beside).place

  loop_head_within : (n s : ℕ) → n < length (rows P) → node P n ≡ LoopHead s → place P n ≤ size
  loop_head_within n s l is =
      let c = (table_of P).has_loop n s l is in
      let d = (table_of P).loop_is c.0 n c.1 in
      marker_within n c.0 n (loop_within c.0 n c.1) refl (d.place).head

  entries_within : (n : ℕ) → n < length (rows P) → node P n ≡ Entries → place P n ≤ size
  entries_within n l is =
      let c = (table_of P).entries_of n l is in
      let d = (table_of P).loop_is c.0 (block P n) c.1 in
      marker_within n c.0 d.entries (loop_within c.0 (block P n) c.1) c.2 (d.place).entries

  switches_within : (n t : ℕ) → n < length (rows P) → node P n ≡ Switches t → place P n ≤ size
  switches_within n t l is =
      let c = (table_of P).switches_of n t l is in
      let d = (table_of P).loop_is c.0 (block P n) c.1 in
      marker_within n c.0 (c.1).switches (loop_within c.0 (block P n) c.1) c.2 (d.place).switches

  turn_within : (n : ℕ) → n < length (rows P) → node P n ≡ Turn → place P n ≤ size
  turn_within n l is =
      let c = (table_of P).turn_of n l is in
      let d = (table_of P).loop_is c.0 (block P n) c.1 in
      marker_within n c.0 d.turn (loop_within c.0 (block P n) c.1) c.2
      ((d.place).begins d.turn (omega (arith, turns_behind (d.body_is).turns)) (omega arith))

  -- those of a loop with an index, but for the index's entry, which has the place of the index
  bounds_within : (n a b : ℕ) → n < length (rows P) → node P n ≡ Bounds a b → place P n ≤ size
  bounds_within n a b l is =
      let c = (table_of P).bounds_of n a b l is in
      let d = (table_of P).loop_is c.0 (n + 2) c.1 in
      let z = its_bounds d.from c.2 in
      marker_within n c.0 z.0 (loop_within c.0 (n + 2) c.1) (omega (arith, z.1, d.begins)) ((z.2).beside).place

  index_within : (n x : ℕ) → n < length (rows P) → node P n ≡ Index x → place P n ≤ size
  index_within n x l is = thing_within n l (ap is_thing is)

  carried_within : (n : ℕ) (k : Kind) → n < length (rows P) → node P n ≡ Carried k → place P n ≤ size
  carried_within n k l is =
      let c = (table_of P).carried_of n l (ap is_carried is) in
      let h = block P n in
      let d = (table_of P).loop_is c.0 h c.1 in
      let inner =
      (table_of P).block n (not_last P (table_of P) n l (λ f. (let bad : Carried k ≡ Program = sym is ∙ f in cc))) in
      let three = c.2 in
      let whole = loop_within c.0 h c.1 in
      let there = index_there (d.body_is).turns three in
      let index : place P (index_row (c.1).switches) ≤ size =
      index_within (index_row (c.1).switches) there.0
      (omega (arith, there.2, (d.body_is).low, (d.last_is).low, (d.last_is).ends, (c.1).within)) there.1 in
      elim (cases_eq n h) [
        | inl same ↦ absurd (let bad : LoopHead (h - 1) ≡ Carried k =
            sym (d.before_test).head ∙ ap (node P) (sym same) ∙ is in cc)
        | inr other ↦ elim (cases_eq n (h + 1)) [
          | inl first ↦ marker_within n (index_row (c.1).switches) (h + 1) index (sym first)
              ((d.place_carried).index three)
          | inr behind ↦ elim (cases_eq n (h + 2)) [
            | inl second ↦ marker_within n c.0 (h + 2) whole (sym second) ((d.place_carried).bound three)
            | inr far ↦ marker_within n c.0 (h + 3) whole (omega (arith, other, behind, far, inner.0, c.3))
                ((d.place_carried).flag three)
          ]
        ]
      ]

  count_within : (n : ℕ) → n < length (rows P) → node P n ≡ Count → place P n ≤ size
  count_within n l is =
      let c = (table_of P).count_of n l is in
      let d = (table_of P).loop_is c.0 (block P n) c.1 in
      let there = turn_behind_count (d.body_is).turns c.2 in
      marker_within n c.0 n (loop_within c.0 (block P n) c.1) refl
      ((d.place).begins n (omega (arith, c.3)) (omega (arith, c.3, there)))

  reset_within : (n v : ℕ) → n < length (rows P) → node P n ≡ Reset v → place P n ≤ size
  reset_within n v l is =
      let c = (table_of P).reset_of n v l is in
      let d = (table_of P).loop_is c.0 (block P n) c.1 in
      marker_within n c.0 n (loop_within c.0 (block P n) c.1) refl ((d.place).reset n c.3)

  -- a variable of a loop has the place of its `next` statement
  variable_within : (n : ℕ) → n < length (rows P) → node P n ≡ Variable → place P n ≤ size
  variable_within n l is =
      let c = (table_of P).has_next n l (ap is_variable is) in
      let s = c.3 in
      let x = (table_of P).next_in c.0 (block P n) c.1 c.2 s in
      marker_within n c.0 (block P n + 1 + c.1) (thing_within c.0 s.within (ap is_thing s.node)) c.4 (x.2).place

  -- the places of what a row makes
  made_within : (n k : ℕ) (f : Form) (e : ℕ) → Makes P n k f e → e ≤ size
  made_within n k f e m = go (node P n) refl m.at
    where
      own : e ≡ place P n → is_thing (node P n) ≡ true → e ≤ size
      own same t = subst (λ (q : ℕ). q ≤ size) (sym same) (thing_within n m.within t)

      its : e ≡ place P n → place P n ≤ size → e ≤ size
      its same le = subst (λ (q : ℕ). q ≤ size) (sym same) le

      go : (x : Node) → node P n ≡ x → slice_get (made_of P n (place P n) x) k ≡ Some (piece f e) → e ≤ size
      go Head is at = its (two_place _ _ k f e refl at) (head_within n m.within is)
      go (Param y j) is at = own (one_place _ k f e at) (ap is_thing is)
      go (Literal c) is at = own (one_place _ k f e at) (ap is_thing is)
      go (Name y) is at = absurd cc
      go (Unary o a) is at = own (one_place _ k f e at) (ap is_thing is)
      go (Binary o a b) is at = own (one_place _ k f e at) (ap is_thing is)
      go (Split t) is at =
          its (all_place _ _ (for_each_place P Switch (place P n) (imports_of P n)) k f e at)
          (split_within n t m.within is)
      go (If s x y) is at = own (one_place _ k f e at) (ap is_thing is)
      go (Enter y) is at = its (one_place _ k f e at) (enter_within n y m.within is)
      go (Arg s i v) is at = its (one_place _ k f e at) (arg_within n s i v m.within is)
      go (Call s c) is at = own (one_place _ k f e at) (ap is_thing is)
      go Start is at =
          its (all_place _ _ (sends_place P (place P n) (loop_entries P (n + 1))) k f e at) (start_within n m.within is)
      go (LoopHead s) is at = its (two_place _ _ k f e refl at) (loop_head_within n s m.within is)
      go Variable is at = its (one_place _ k f e at) (variable_within n m.within is)
      go Entries is at =
          its (for_each_place P Merge (place P n) (imports_of P (block P n)) k f e at) (entries_within n m.within is)
      go (Switches t) is at =
          its (all_place _ _ (for_each_place P Switch (place P n) (imports_of P n)) k f e at)
          (switches_within n t m.within is)
      go Turn is at =
          its (all_place _ _ (for_each_place P NextOp (place P n) (carried P (block P n) ++ imports_of P (block P n))) k
          f e at) (turn_within n m.within is)
      go (Bounds a b) is at = its (two_place _ _ k f e refl at) (bounds_within n a b m.within is)
      go (Carried j) is at = its (one_place _ k f e at) (carried_within n j m.within is)
      go (Within j) is at = absurd cc
      go Count is at = its (five_place _ _ _ _ _ k f e refl refl refl refl at) (count_within n m.within is)
      go (Index y) is at = absurd cc
      go Span is at = absurd cc
      go (NextUse y) is at = absurd cc
      go (Next y j o v) is at = own (one_place _ k f e at) (ap is_thing is)
      go Body is at = absurd cc
      go (Reset v) is at = its (one_place _ k f e at) (reset_within n v m.within is)
      go (Loop g w l) is at = own (one_place _ k f e at) (ap is_thing is)
      go (ArrayRow nested a b) is at = own (one_place _ k f e at) (ap is_thing is)
      go (Fetch t i) is at = own (three_place _ _ _ k f e refl refl at) (ap is_thing is)
      go (Address t i) is at = its (one_place _ k f e at) (address_within n t i m.within is)
      go (Store a v) is at = own (one_place _ k f e at) (ap is_thing is)
      go (Block b) is at = absurd cc
      go (Binding y a) is at = own (one_place _ k f e at) (ap is_thing is)
      go (Def y x j b) is at = absurd cc
      go Program is at =
          subst (λ (q : ℕ). q ≤ size) (sym (one_place _ k f e at))
          (thing_within P.main (P.is_main).within (main_thing (node P P.main) (P.is_main).node))

  one_there : (is : List Instr) (k : ℕ) (i j : Instr) → slice_get is k ≡ Some i → slice_get is k ≡ Some j → i ≡ j
  one_there is k i j a b = let e : Some i ≡ Some j = sym a ∙ b in cc

  -- the instructions of a schemas' graph have their places in the text
  pub instrs_within : (g : Parts) → Schemas P g → All (λ i. i.place ≤ size) g.instrs
  instrs_within g s = λ k d within. (
      let n = s.numbered in
      let at = slice_get-get_or g.instrs k d within in
      let x = n.only k _ at in
      let made = n.made x.row x.part x.form x.place x.makes in
      let same = one_there g.instrs k _ _ (subst (λ (j : ℕ). slice_get g.instrs j ≡ Some made.instr) x.is made.at) at in
      subst (λ (i : Instr). i.place ≤ size) same
      (subst (λ (q : ℕ). q ≤ size) (sym made.place) (made_within x.row x.part x.form x.place x.makes)))
