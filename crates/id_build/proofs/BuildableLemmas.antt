-- A checked program is one that a graph can be built of.
use Rattle.std.proofs.Common.{◌≡◌, inl, inr, ℕ, zero, suc, ◌+◌, ◌-◌, ◌<◌, ◌≤◌, Bool as Truth, true, false, List, ◌++◌}
use Rattle.std.proofs.Common.{length, map, refl, ap, sym, subst, ◌∙◌, arith, length-append}
use Rattle.std.proofs.lemmas.Bool.{cases_eq, cases_lt, false≢true}
use Rattle.id_value.proofs.AmongLemmas.{Among-either, Among-from_map}
use Rattle.id_value.specs.declared.Kind.{Kind}
use Rattle.id_table.specs.declared.row.Region.{Region}
use Rattle.id_table.specs.declared.row.Row.{Row}
use Rattle.id_table.specs.declared.row.Node.{Node}
use Rattle.id_table.specs.declared.row.Node.TheVariants.{Head, Literal, Name, Unary as UnaryNode, Binary as BinaryNode}
use Rattle.id_table.specs.declared.row.Node.TheVariants.{Split, If, Enter, Arg, Call, Block, Binding, Program}
use Rattle.id_table.specs.declared.row.Node.TheVariants.{Start, LoopHead, Variable, Entries, Switches, Turn, Next}
use Rattle.id_table.specs.declared.row.Node.TheVariants.{Reset, Loop}
use Rattle.id_table.specs.declared.row.Node.TheVariants.{Array, Fetch, Address, Store}
use Rattle.id_table.specs.declared.row.Node.TheVariants.{Bounds, Carried, Within, Count}
use Rattle.id_table.specs.Rows.{arm_at, at, top}
use Rattle.id_table.specs.Tables.{HasNear, HasOperand, HasPart, is_block, is_carried, is_enter, is_expression, is_top}
use Rattle.id_table.specs.Tables.{is_within}
use Rattle.id_table.specs.Loops.{IsLoop, IsLoopOf, IsTest, flag, predicate}
use Rattle.id_table.specs.Regions.{IsIfOf}
use Rattle.id_table.specs.Turns.{IsDefOf}
use Rattle.id_table.proofs.RegionLemmas.{HasPart-operand}
use Rattle.id_check.specs.declared.checked.Checked.{Checked}
use Rattle.id_check.specs.Programs.{place, rows, region}
use Rattle.id_check.proofs.ProgramsLemmas.{table_of}
use Rattle.id_desugar.specs.Ends.{end_of, next_of}
use Rattle.id_desugar.specs.Regions.{carried, has_index, imports_of, nexts_of, order_of}
use Rattle.id_instr.specs.declared.instr.Op.TheVariants.{Next as NextOp}
use Rattle.id_build.specs.Rows.{block, body_of, entering, entries_row, first_binder, made_of, node, output, part_of}
use Rattle.id_build.specs.Rows.{turn_row}
use Rattle.id_build.proofs.CallsLemmas.{enter_of_arg}
use Rattle.id_build.proofs.EndsLemmas.{HeadOf, body_region, end_is, of_arm, of_loop, of_procedure, of_side, not_last}
use Rattle.id_build.proofs.EndsLemmas.{region_of}
use Rattle.id_build.proofs.LoopsLemmas.{bounds_there, carried_index, carried_is, carried_nodes, entries_node}
use Rattle.id_build.proofs.LoopsLemmas.{entries_stand, entries_within, index_carried}
use Rattle.id_build.proofs.LoopsLemmas.{next_is, reset_is, start_head, switches_high, switches_low, turn_block, turn_is}
use Rattle.id_build.proofs.LoopsLemmas.{turn_nodes}
use Rattle.id_build.proofs.ImportsLemmas.{first_seen, loop_seen, name_seen, split_seen, switches_seen, turn_seen}
use Rattle.id_build.proofs.ImportsLemmas.{upper_seen}
use Rattle.id_build.proofs.OrderLemmas.{IsOrder, IsOrder-order_of}
use Rattle.id_build.proofs.RowLemmas.{AllSeen, Gives, Heads, HasEntries, IsBuildable, IsEntered, IsOrigin, IsPart}
use Rattle.id_build.proofs.RowLemmas.{IsSeen, IsTurned, IsValue, Suits, SuitsBounds, SuitsCarried, for_each-at}

value_is : (n : Node) → is_expression n ≡ true → is_block n ≡ false → IsValue n
value_is (Literal v) e b = tt
value_is (Name x) e b = tt
value_is (UnaryNode o a) e b = tt
value_is (BinaryNode o a b) e f = tt
value_is (If s x y) e f = tt
value_is (Call s c) e f = tt
value_is (Loop h w l) e f = tt
value_is (Array nested a b) e f = tt
value_is (Fetch a b) e f = tt
value_is (Block b) e f = cc
value_is _ e f = absurd (false≢true e)

-- an expression that stands in a region is a part there
part : (P : Checked) (r : Region) (a : ℕ) → a < length (rows P) → is_expression (node P a) ≡ true → region P a ≡ r
    → IsPart P r a
part P r a l e i =
    let v = (table_of P).value_stands a l e in
    record {
      within = omega (arith, v.0, l);
      value = value_is (node P (at (rows P) a).value) v.1 v.2;
      region_of =
          v.3 ∙ i;
    }

-- an operand stands before its row
before : (P : Checked) (n a : ℕ) (x : Node) → n < length (rows P) → node P n ≡ x → HasOperand x a → a < length (rows P)
before P n a x l e h =
    let low = ((table_of P).formed.each n l).parts a (subst (λ z. HasPart z a) (sym e) (HasPart-operand x a h)) in
    omega (arith, low.1, l)

-- an operand that stands where its row does is a part there
operand : (P : Checked) (n a : ℕ) (x : Node) → n < length (rows P) → node P n ≡ x → HasOperand x a → HasNear x a
    → IsPart P (region P n) a
operand P n a x l e h near =
    part P (region P n) a (before P n a x l e h) ((table_of P).operand_is n a l (subst (λ z. HasOperand z a) (sym e) h))
    ((table_of P).part_stands n a l (subst (λ z. HasNear z a) (sym e) near)).1

-- the body of a definition is a part where its head turns it on
def_part : (P : Checked) (n h : ℕ) → IsDefOf (rows P) n h → IsPart P (top h) (body_of (node P n))
def_part P n h d =
    let b = body_region P (table_of P) n h d in
    let is = (table_of P).head_is n d.name h d.body d.result d.within d.node in
    subst (IsPart P (top h)) (sym (ap body_of d.node)) (part P (top h) d.body b.0 is.2 b.1)

-- the region of a row that is not the last is turned on by its head
turned : (P : Checked) (n : ℕ) → n < length (rows P) → (node P n ≡ Program → ⊥) → IsTurned P (region P n)
turned P n l other =
    let r = region_of P (table_of P) n l other in
    record { within = r.below; heads = by (region P n) r.head }
  where
    by : (r : Region) → HeadOf P (table_of P) r → Heads (node P r.head) r.side
    by r (of_procedure head is) = subst (λ x. Heads x r.side) (sym head) (ap (λ (z : Region). z.side) is)
    by r (of_loop head is) = subst (λ x. Heads x r.side) (sym head) (ap (λ (z : Region). z.side) is)
    by r (of_arm split) = subst (λ x. Heads x r.side) (sym split) tt
    by r (of_side switches) = subst (λ x. Heads x r.side) (sym switches) tt

-- what an argument names as its `Enter` is one
enter_part : (P : Checked) (n s k v : ℕ) → n < length (rows P) → node P n ≡ Arg s k v → IsEntered P s
enter_part P n s k v l e =
    let low = ((table_of P).formed.each n l).parts s (subst (λ z. HasPart z s) (sym e) (inl refl)) in
    let z = enter_of_arg P n s k v l e in
    record { within = omega (arith, low.1, l); is_enter = ap is_enter z.1 }

-- the first instruction of a row of such a node sends
abbrev FirstSends : Node → Type 0
FirstSends Start = Unit {0}
FirstSends Turn = Unit {0}
FirstSends (Next x k o v) = Unit {0}
FirstSends (Reset v) = Unit {0}
FirstSends (Fetch a b) = Unit {0}
FirstSends (Bounds a b) = Unit {0}
FirstSends (Carried k) = Unit {0}
FirstSends Count = Unit {0}
FirstSends (Address a b) = Unit {0}
FirstSends _ = ⊥

first_gives : (P : Checked) (m e : ℕ) (n : Node) → FirstSends n → Gives (made_of P m e n) 0 true
first_gives P m e Start h = record { piece = _; at = refl; gives = λ _. refl }
first_gives P m e Turn h = record { piece = _; at = refl; gives = λ _. refl }
first_gives P m e (Next x k o v) h = record { piece = _; at = refl; gives = λ _. refl }
first_gives P m e (Reset v) h = record { piece = _; at = refl; gives = λ _. refl }
first_gives P m e (Bounds a b) h = record { piece = _; at = refl; gives = λ _. refl }
first_gives P m e (Carried k) h = record { piece = _; at = refl; gives = λ _. refl }
first_gives P m e Count h = record { piece = _; at = refl; gives = λ _. refl }
first_gives P m e (Fetch a b) h = record { piece = _; at = refl; gives = λ _. refl }
first_gives P m e (Address a b) h = record { piece = _; at = refl; gives = λ _. refl }
first_gives P m e _ h = absurd h

first_origin : (P : Checked) (m : ℕ) (n : Node) → m < length (rows P) → node P m ≡ n → FirstSends n
    → IsOrigin P (output m)
first_origin P m n l e h =
    record {
      within = l;
      gives =
          subst (λ x. Gives (made_of P m (place P m) x) 0 true) (sym e) (first_gives P m (place P m) n h);
    }

-- the loop whose entries stand at a row
pub entries_head : (P : Checked) (n : ℕ) → n < length (rows P) → node P n ≡ Entries →
    (block P n < length (rows P)) × (node P (block P n) ≡ LoopHead (block P n - 1))
entries_head P n l e =
    let c = (table_of P).entries_of n l e in
    let x = (table_of P).loop_is c.0 (block P n) c.1 in (
      let low = switches_low x in let high = switches_high x in omega (arith, low, high, (c.1).within),
      x.before_test.head,
    )

-- a part of a row that sends is an origin
part_origin_at : (P : Checked) (m k : ℕ) (n : Node) → m < length (rows P) → node P m ≡ n
    → Gives (made_of P m (place P m) n) k true → IsOrigin P (part_of m k)
part_origin_at P m k n l e g =
    record { within = l; gives = subst (λ x. Gives (made_of P m (place P m) x) k true) (sym e) g }

-- each part of what hands on is an origin
turn_origin : (P : Checked) (h s k : ℕ) → h < length (rows P) → node P h ≡ LoopHead s
    → k < length (carried P h ++ imports_of P h) → IsOrigin P (part_of (turn_row P h) (1 + k))
turn_origin P h s k l e less =
    let m = turn_row P h in
    let b = turn_block P h s l e in
    let here = subst (λ g. k < length (carried P g ++ imports_of P g)) (sym b.1) less in
    let z = for_each-at P NextOp (place P m) (carried P (block P m) ++ imports_of P (block P m)) k here in
    let up : suc k ≡ 1 + k = omega arith in
    let G : ℕ → Type 0 = λ j. Gives (made_of P m (place P m) Turn) j true in
    let gives : Gives (made_of P m (place P m) Turn) (suc k) true = record { piece = _; at = z.1; gives = λ _. refl } in
    part_origin_at P m (1 + k) Turn b.0 (turn_is P h s l e) (subst G up gives)

-- that of an import stands behind those of what is carried on
import_origin : (P : Checked) (h s k : ℕ) → h < length (rows P) → node P h ≡ LoopHead s → k < length (imports_of P h)
    → IsOrigin P (part_of (turn_row P h) (1 + length (carried P h) + k))
import_origin P h s k l e less =
    let up : 1 + (length (carried P h) + k) ≡ 1 + length (carried P h) + k = omega arith in
    subst (λ j. IsOrigin P (part_of (turn_row P h) j)) up
    (turn_origin P h s (length (carried P h) + k) l e
    (omega (arith, less, length-append (carried P h) (imports_of P h))))

-- the row of a loop's block is no head of one where it is none
module _ (P : Checked) (n h : ℕ) (c : IsLoopOf (rows P) n h) where
  abbrev the_rows : IsLoop (rows P) n h c.switches c.last
  the_rows = (table_of P).loop_is n h c

  head_in : h < length (rows P)
  head_in = let low = switches_low the_rows in let high = switches_high the_rows in omega (arith, low, high, c.within)

  -- the parts of what an index needs
  module _ (three : the_rows.carried ≡ 3) where
    many_are : length (carried P h) ≡ 3
    many_are = carried_is P h the_rows.entries the_rows.carried the_rows.before_test ∙ three

    count_row : (node P (c.switches + 1) ≡ Count) × (c.switches + 2 ≡ the_rows.turn)
    count_row = let z = turn_nodes the_rows.body_is.turns three in (z.1, sym z.0)

    carried_at : (i : ℕ) → h < i → i ≤ h + 3 → (block P i ≡ h) × (region P i ≡ top h)
    carried_at i low high =
        the_rows.before_test.stands i (omega (arith, low)) (omega (arith, high, the_rows.before_test.low, three))

    carried_in : (i : ℕ) → i ≤ h + 3 → i < length (rows P)
    carried_in i high =
        let low =
        switches_low the_rows in let end = switches_high the_rows in omega (arith, high, low, end, three, c.within)

    begin_region : (i : ℕ) → c.switches < i → i ≤ c.switches + 2 → region P i ≡ arm_at c.switches true
    begin_region i low high = (the_rows.body_is.begins i low (omega (arith, high, count_row.1))).1

    bound_seen_at : (i : ℕ) → c.switches < i → i ≤ c.switches + 2 → IsSeen P (region P i) (h + 2)
    bound_seen_at i low high = upper_seen P n h i c the_rows three (begin_region i low high)

count_gives : (P : Checked) (m e k : ℕ) → k < 5 → Gives (made_of P m e Count) k true
count_gives P m e zero l = record { piece = _; at = refl; gives = λ _. refl }
count_gives P m e (suc zero) l = record { piece = _; at = refl; gives = λ _. tt }
count_gives P m e (suc (suc zero)) l = record { piece = _; at = refl; gives = λ _. tt }
count_gives P m e (suc (suc (suc zero))) l = record { piece = _; at = refl; gives = λ _. refl }
count_gives P m e (suc (suc (suc (suc zero)))) l = record { piece = _; at = refl; gives = λ _. refl }
count_gives P m e (suc (suc (suc (suc (suc k))))) l = absurd (omega (arith, l))

count_origin : (P : Checked) (m k : ℕ) → m < length (rows P) → node P m ≡ Count → k < 5 → IsOrigin P (part_of m k)
count_origin P m k l e less = part_origin_at P m k Count l e (count_gives P m (place P m) k less)

-- what the switches of a loop follow is a part where they stand
test_part : (P : Checked) (w t : ℕ) → w < length (rows P) → node P w ≡ Switches t → IsPart P (region P w) t
test_part P w t l e = go (is_within (node P t)) refl
  where
    near : region P t ≡ region P w
    near = ((table_of P).part_stands w t l (subst (λ z. HasNear z t) (sym e) refl)).1

    inside : t < length (rows P)
    inside = let low =
        ((table_of P).formed.each w l).parts t (subst (λ z. HasPart z t) (sym e) refl) in omega (arith, low.1, l)

    within_is : (m : Node) → is_within m ≡ true → (f : ℕ) × (m ≡ Within f)
    within_is (Within f) k = (f, refl)
    within_is _ k = absurd (false≢true k)

    flag_of : (h f u c : ℕ) → IsTest (rows P) h u c → c ≡ 3 → u ≡ t → node P t ≡ Within f → f ≡ h + 3
    flag_of h f u c (predicate k) three same is = absurd (omega (arith, three))
    flag_of h f u c (flag k) three same is =
        let bad : Within f ≡ Within (h + 3) = sym is ∙ ap (node P) (sym same) ∙ k in
        cc

    by_flag : (f : ℕ) → node P t ≡ Within f → IsPart P (region P w) t
    by_flag f is =
        let z = (table_of P).within_of t f inside is in
        let h = block P t in
        let y = the_rows P z.0 h z.1 in
        let same : y.test.test ≡ t = omega (arith, y.test.behind, z.3) in
        let at : f ≡ h + 3 = flag_of h f y.test.test y.carried y.test.test_is z.2 same is in
        let value : (at_rows t).value ≡ h + 3 = (table_of P).value_within t f inside is ∙ at in
        let c = carried_nodes y.before_test.carried z.2 in
        let switches_here : region P w ≡ top h = sym near ∙ (table_of P).at_top t inside (ap is_top is) in
        record {
          within = omega (arith, value, carried_in P z.0 h z.1 z.2 (h + 3) (omega arith));
          value = subst IsValue (sym (ap (node P) value ∙ c.2)) tt;
          region_of =
              ap (region P) value ∙ (carried_at P z.0 h z.1 z.2 (h + 3) (omega arith) (omega arith)).1
              ∙ sym switches_here;
        }
      where
        at_rows : ℕ → Row
        at_rows i = at (rows P) i

    go : (b : Truth) → is_within (node P t) ≡ b → IsPart P (region P w) t
    go false k = part P (region P w) t inside ((table_of P).test_is w t l e k) near
    go true k = let z = within_is (node P t) k in by_flag z.0 z.1

-- the region of a loop's `Start` sees what enters the loop
entering_seen : (P : Checked) (n : ℕ) → n < length (rows P) → node P n ≡ Start
    → AllSeen P (region P n) (entering P (n + 1))
entering_seen P n l e b h =
    let z = start_head P n l e in
    elim (Among-either b (map (first_binder P) (nexts_of P (n + 1))) (imports_of P (n + 1)) h) [
      | inl i ↦
          let m = Among-from_map (first_binder P) b (nexts_of P (n + 1)) i in
          subst (IsSeen P (region P n)) (sym m.2) (first_seen P n m.0 l e m.1)
      | inr i ↦ loop_seen P (n + 1) n b z.0 z.1 i
    ]

-- what feeds the sends of what a loop carries on comes from its bounds
bounds_suit : (P : Checked) (n : ℕ) → n < length (rows P) → node P n ≡ Start
    → SuitsBounds P n (region P n) (node P (n - 1))
bounds_suit P n l e = go (node P (n - 1)) refl
  where
    some : (a b : ℕ) → node P (n - 1) ≡ Bounds a b → (n - 1) + 2 ≡ n + 1
    some a b f = elim (cases_lt 0 n) [
      | inl k ↦ omega (arith, k)
      | inr k ↦
          let same : n - 1 ≡ n = omega (arith, k) in
          let bad : Bounds a b ≡ Start = sym f ∙ ap (node P) same ∙ e in
          cc
    ]

    by_bounds : (a b : ℕ) → node P (n - 1) ≡ Bounds a b
        → (has_index P (n + 1) ≡ true) × IsOrigin P (part_of (n - 1) 1) × IsPart P (region P n) b
        × IsOrigin P (output (n - 1))
    by_bounds a b f =
        let m = n - 1 in
        let low : m < length (rows P) = omega (arith, l) in
        let z = (table_of P).bounds_of m a b low f in
        let same = some a b f in
        let y = the_rows P z.0 (m + 2) z.1 in
        let has : has_index P (m + 2) ≡ true = carried_index P (m + 2) y.entries y.carried y.before_test z.2 in
        let d = bounds_there y.from z.2 in
        let start : y.start ≡ n = omega (arith, y.begins, same) in
        let at : d.0 ≡ m = omega (arith, d.1, start) in
        let here : region P m ≡ region P n =
        ap (region P) (sym at) ∙ d.2.beside.region ∙ sym y.start_of.beside.region ∙ ap (region P) start in (
          subst (λ h. has_index P h ≡ true) same has,
          part_origin_at P m 1 (Bounds a b) low f (record { piece = _; at = refl; gives = λ _. tt }),
          subst (λ r. IsPart P r b) here (operand P m b (Bounds a b) low f (inr refl) (inr refl)),
          first_origin P m (Bounds a b) low f tt,
        )

    go : (x : Node) → node P (n - 1) ≡ x → SuitsBounds P n (region P n) x
    go (Bounds a b) f = by_bounds a b f
    go _ f = tt

-- the entry of what a loop carries on is fed by what hands it on
carried_suit : (P : Checked) (n : ℕ) {k : Kind} → n < length (rows P) → node P n ≡ Carried k
    → IsOrigin P (part_of (turn_row P (block P n)) (n - block P n))
carried_suit P n {k} l e =
    let z = (table_of P).carried_of n l (ap is_carried e) in
    let h = block P n in
    let y = the_rows P z.0 h z.1 in
    let head = y.before_test.head in
    let inner =
    (table_of P).block n (not_last P (table_of P) n l (λ f. (let bad : Carried k ≡ Program = sym e ∙ f in cc))) in
    let behind : h < n = elim (cases_eq h n) [
      | inl same ↦ (let bad : LoopHead (h - 1) ≡ Carried k = sym head ∙ ap (node P) same ∙ e in cc)
      | inr other ↦ omega (arith, other, inner.0)
    ] in
    let at : 1 + (n - h - 1) ≡ n - h = omega (arith, behind) in
    subst (λ j. IsOrigin P (part_of (turn_row P h) j)) at
    (turn_origin P h (h - 1) (n - h - 1) (head_in P z.0 h z.1) head
    (omega (arith, z.3, behind, many_are P z.0 h z.1 z.2, length-append (carried P h) (imports_of P h))))

-- the block of what a loop carries on begins a few rows before, and that of what hands on at a row
pub carried_head : (P : Checked) (n : ℕ) {k : Kind} → n < length (rows P) → node P n ≡ Carried k
    → (block P n < length (rows P)) × (n ≤ block P n + 3)
carried_head P n l e = let z = (table_of P).carried_of n l (ap is_carried e) in (head_in P z.0 (block P n) z.1, z.3)

pub turn_head : (P : Checked) (n : ℕ) → n < length (rows P) → node P n ≡ Turn → block P n < length (rows P)
turn_head P n l e = let z = (table_of P).turn_of n l e in head_in P z.0 (block P n) z.1

-- what counts has the index, its upper bound and its trigger
count_suit : (P : Checked) (n : ℕ) → n < length (rows P) → node P n ≡ Count
    → IsOrigin P (output (block P n + 1)) × IsSeen P (region P n) (block P n + 2) × IsTurned P (region P n)
    × IsOrigin P (output n) × IsOrigin P (part_of n 1) × IsOrigin P (part_of n 2) × IsOrigin P (part_of n 3)
count_suit P n l e =
    let z = (table_of P).count_of n l e in
    let h = block P n in
    let y = the_rows P z.0 h z.1 in
    let c = carried_nodes y.before_test.carried z.2 in (
      first_origin P (h + 1) (Carried _) (carried_in P z.0 h z.1 z.2 (h + 1) (omega arith)) c.0 tt,
      bound_seen_at P z.0 h z.1 z.2 n (omega (arith, z.3)) (omega (arith, z.3)),
      turned P n l (λ f. (let bad : Count ≡ Program = sym e ∙ f in cc)),
      count_origin P n 0 l e (omega arith),
      count_origin P n 1 l e (omega arith),
      count_origin P n 2 l e (omega arith),
      count_origin P n 3 l e (omega arith),
    )

-- what hands on has what counts before it, where the loop has an index
turn_suit : (P : Checked) (n : ℕ) → n < length (rows P) → node P n ≡ Turn → SuitsCarried P n (region P n) (block P n)
turn_suit P n l e has =
    let z = (table_of P).turn_of n l e in
    let h = block P n in
    let y = the_rows P z.0 h z.1 in
    let three = index_carried P h y.entries y.carried y.before_test has in
    let r = count_row P z.0 h z.1 three in
    let at : n ≡ (z.1).switches + 2 = sym z.2 ∙ sym r.1 in
    let before : (z.1).switches + 1 ≡ n - 1 = omega (arith, at) in
    let count : node P (n - 1) ≡ Count = ap (node P) (sym before) ∙ r.0 in
    let low : n - 1 < length (rows P) = omega (arith, l) in (
      count_origin P (n - 1) 4 low count (omega arith),
      bound_seen_at P z.0 h z.1 three n (omega (arith, at)) (omega (arith, at)),
      count_origin P (n - 1) 0 low count (omega arith),
    )

-- what a store names as its `Address` is one, and sends
address_origin : (P : Checked) (n a v : ℕ) → n < length (rows P) → node P n ≡ Store a v → IsOrigin P (output a)
address_origin P n a v l e =
    let low = ((table_of P).formed.each n l).parts a (subst (λ z. HasPart z a) (sym e) (inl refl)) in
    let z = (table_of P).address_of n a (record { value = v; within = l; node = e }) in
    first_origin P a (Address z.target z.index) (omega (arith, low.1, l)) z.node tt

suits : (P : Checked) (n : ℕ) (x : Node) → n < length (rows P) → node P n ≡ x → Suits P n (region P n) x
suits P n Head l e = def_part P (end_of P n) n (end_is P (table_of P) n l e)
suits P n (Literal v) l e = turned P n l (λ f. (let bad : Literal v ≡ Program = sym e ∙ f in cc))
suits P n (UnaryNode o a) l e = operand P n a (UnaryNode o a) l e refl refl
suits P n (BinaryNode o a b) l e = (
  operand P n a (BinaryNode o a b) l e (inl refl) (inl refl),
  operand P n b (BinaryNode o a b) l e (inr refl) (inr refl),
)
suits P n (Split t) l e = (
  operand P n t (Split t) l e refl refl,
  turned P n l (λ f. (let bad : Split t ≡ Program = sym e ∙ f in cc)),
  λ b h. split_seen P n t b l e h,
)
suits P n (If s x y) l e =
    let c : IsIfOf (rows P) n s = record { then = x; otherwise = y; within = l; node = e } in
    let arms = (table_of P).arms n s c in
    let is : (a : ℕ) → HasOperand (If s x y) a → is_expression (node P a) ≡
    true = λ a h. (table_of P).operand_is n a l (subst (λ z. HasOperand z a) (sym e) h) in (
      part P (arm_at s true) x (before P n x (If s x y) l e (inl refl)) (is x (inl refl)) arms.then_stands,
      part P (arm_at s false) y (before P n y (If s x y) l e (inr refl)) (is y (inr refl)) arms.otherwise_stands,
    )
suits P n (Enter x) l e = turned P n l (λ f. (let bad : Enter x ≡ Program = sym e ∙ f in cc))
suits P n (Arg s k v) l e = (
  enter_part P n s k v l e,
  operand P n v (Arg s k v) l e refl (inr refl),
)
suits P n (Binding x a) l e = operand P n a (Binding x a) l e refl refl
suits P n Start l e = (
  turned P n l (λ f. (let bad : Start ≡ Program = sym e ∙ f in cc)),
  first_origin P n Start l e tt,
  entering_seen P n l e,
  bounds_suit P n l e,
)
suits P n (Bounds a b) l e = (
  operand P n a (Bounds a b) l e (inl refl) (inl refl),
  operand P n b (Bounds a b) l e (inr refl) (inr refl),
  first_origin P n (Bounds a b) l e tt,
)
suits P n (Carried k) l e = carried_suit P n l e
suits P n Count l e = count_suit P n l e
suits P n (LoopHead s) l e =
    let r = reset_is P n s l e in (
      first_origin P (turn_row P n) Turn (turn_block P n s l e).0 (turn_is P n s l e) tt,
      first_origin P (end_of P n - 2) (Reset _) r.0 r.1 tt,
    )
suits P n Variable l e = let z = next_is P n l e in first_origin P (next_of P n) (Next _ _ _ _) z.within z.node tt
suits P n Entries l e =
    λ k less. (let z = entries_head P n l e in import_origin P (block P n) (block P n - 1) k z.0 z.1 less)
suits P n (Switches t) l e = (
  test_part P n t l e,
  turned P n l (λ f. (let bad : Switches t ≡ Program = sym e ∙ f in cc)),
  λ b h. switches_seen P n t b l e h,
)
suits P n Turn l e = (
  turned P n l (λ f. (let bad : Turn ≡ Program = sym e ∙ f in cc)),
  (λ b h. turn_seen P n b l e h),
  turn_suit P n l e,
)
suits P n (Next x k o v) l e = operand P n v (Next x k o v) l e refl (inr refl)
suits P n (Reset v) l e = operand P n v (Reset v) l e refl refl
suits P n (Array nested a b) l e = (
  operand P n a (Array nested a b) l e (inl refl) (inl refl),
  operand P n b (Array nested a b) l e (inr refl) (inr refl),
)
suits P n (Fetch a b) l e = (
  operand P n a (Fetch a b) l e (inl refl) (inl refl),
  operand P n b (Fetch a b) l e (inr refl) (inr refl),
  first_origin P n (Fetch a b) l e tt,
)
suits P n (Address a b) l e =
    (operand P n a (Address a b) l e (inl refl) (inl refl), operand P n b (Address a b) l e (inr refl) (inr refl))
suits P n (Store a v) l e = (address_origin P n a v l e, operand P n v (Store a v) l e refl (inr refl))
suits P n _ l e = tt

-- each loop has its entries
entered : (P : Checked) (h s : ℕ) → h < length (rows P) → node P h ≡ LoopHead s → HasEntries P h
entered P h s l e =
    let low : h < h + 1 = omega arith in
    let stands = entries_stand P h s l e (entries_row P h) (omega arith) (omega arith) in
    record { within = entries_within P h s l e; node = entries_node P h s l e; block = stands.0; region = stands.1 }

-- a checked program is one that a graph can be built of
pub IsBuildable-checked : (P : Checked) → IsBuildable P
IsBuildable-checked P =
    record { suits = λ n l. suits P n (node P n) l refl; named = λ v x l e. name_seen P v x l e; entered = entered P }

-- the order of its rows, however it is written
pub is_order : (P : Checked) (order : List ℕ) → order ≡ order_of P → IsOrder P order
is_order P order e = subst (IsOrder P) (sym e) (IsOrder-order_of P (table_of P).some)
