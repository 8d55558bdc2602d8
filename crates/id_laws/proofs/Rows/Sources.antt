-- What feeds a part is a part, and not the answer's.
use Rattle.std.proofs.Common.{◌≡◌, ◌⊎◌, inl, inr, ℕ, suc, ◌+◌, ◌-◌, ◌<◌, Bool as Truth, true, false, length, get_or}
use Rattle.std.proofs.Common.{refl, sym, ◌∙◌, ap, subst, arith}
use Rattle.std.specs.Prelude.{◌||◌}
use Rattle.id_table.specs.declared.row.Region.{Region}
use Rattle.id_table.specs.declared.row.Node.{Node}
use Rattle.id_table.specs.declared.row.Node.TheVariants.{Head, Param, Literal, Name, Unary, Binary, Split, If, Enter}
use Rattle.id_table.specs.declared.row.Node.TheVariants.{Arg, Call, Block}
use Rattle.id_table.specs.declared.row.Node.TheVariants.{Binding, Program, Start, LoopHead, Variable, Entries, Switches}
use Rattle.id_table.specs.declared.row.Node.TheVariants.{Turn, Next, Reset, Loop}
use Rattle.id_table.specs.declared.row.Node.TheVariants.{Array, Fetch, Address, Store, Bounds, Carried, Count, Index}
use Rattle.id_value.specs.declared.Kind.{Kind}
use Rattle.id_build.specs.declared.arc.Form.{Form}
use Rattle.id_build.specs.Rows as pieces
use Rattle.id_table.specs.Rows.{arm_at, at, top}
use Rattle.id_table.specs.Tables.{HasPart, HasOperand, begins_block, is_binder, is_block, is_carried, is_expression}
use Rattle.id_table.specs.Tables.{is_within}
use Rattle.id_check.specs.declared.checked.Checked.{Checked}
use Rattle.id_check.specs.Programs.{region, rows}
use Rattle.id_instr.specs.declared.dests.Port.{Port}
use Rattle.id_instr.specs.declared.dests.Port.TheVariants.{Zero, One}
use Rattle.id_build.specs.declared.arc.Origin.{Origin}
use Rattle.id_desugar.specs.Ends.{end_of}
use Rattle.id_desugar.specs.Regions.{has_index, imports_of}
use Rattle.id_build.specs.Rows.{label, label_by, block, node, output, name_in, named_in, origin_of, origin}
use Rattle.id_build.specs.Rows.{trigger_of, body_of, turn_row, next_of, entering, entries_row}
use Rattle.id_build.specs.Schemas.{Feeds}
use Rattle.id_laws.specs.Topics.{of_fetch, of_store, IsPart}
use Rattle.id_laws.proofs.Rows.Assumed.{IsKnown, is_handed}
use Rattle.id_laws.proofs.Paths.Counted.{bound_first, bound_side, bound_top, flag_origin}
use Rattle.id_laws.proofs.Rows.Loops.{LoopOf, IsCounted, carried_loop, carried_within, count_loop, count_region}
use Rattle.id_laws.proofs.Rows.Loops.{counted_of, loop_of_head, loop_of_row}
use Rattle.id_laws.proofs.Rows.Loops.{own_switches, reset_node, reset_within, switches_node, switches_within, turn_at}
use Rattle.id_laws.proofs.Rows.Loops.{turn_in, turn_is, turn_node}
use Rattle.id_laws.proofs.Rows.Loops.{turn_region_at, turn_within, within_counted}
use Rattle.id_build.proofs.LoopsLemmas.{entries_node, entries_stand, entries_within, next_is}
use Rattle.id_laws.proofs.Rows.Arcs.{starts, enters, constant, unary, binary, turns_on, hands, joins, opens, gets}
use Rattle.id_laws.proofs.Rows.Arcs.{names, part_of, fed}
use Rattle.id_laws.proofs.Rows.Arcs.{Arc, to_back, to_literal, to_unary, to_left, to_right, to_test, to_trigger}
use Rattle.id_laws.proofs.Rows.Arcs.{to_import_test, to_import, to_then, to_else}
use Rattle.id_laws.proofs.Rows.Arcs.{to_enter, to_context, to_argument, to_label, to_loop_context, to_entering, to_head}
use Rattle.id_laws.proofs.Rows.Arcs.{to_loop_back}
use Rattle.id_laws.proofs.Rows.Arcs.{to_variable, to_entry, to_turn, to_turn_name, to_next, to_reset, to_low, to_high}
use Rattle.id_laws.proofs.Rows.Arcs.{to_target, to_index, to_fetch, to_store, to_stored, allocates, addresses}
use Rattle.id_laws.proofs.Rows.Arcs.{gets_reply}
use Rattle.id_laws.proofs.Rows.Arcs.{gets_last, takes_in, varies, moves_on, moves_name, advances, resets}
use Rattle.id_laws.proofs.Rows.Arcs.{Does, bounds_meet, begins_index, carries, meets_bound, goes_further, hands_index}
use Rattle.id_laws.proofs.Rows.Arcs.{has_one, adds_one}
use Rattle.id_laws.proofs.Rows.Arcs.{to_carried_context, to_first_index, to_first_bound, to_first_flag, to_next_index}
use Rattle.id_laws.proofs.Rows.Arcs.{to_next_bound, to_next_flag}
use Rattle.id_laws.proofs.Rows.Arcs.{to_lower, to_upper, to_first_test, to_first, to_carried, to_index_now, to_bound}
use Rattle.id_laws.proofs.Rows.Arcs.{to_further_test, to_further}
use Rattle.id_laws.proofs.Rows.Arcs.{to_last_test, to_last, to_one, to_add, to_add_one, carries_on, turned}
use Rattle.id_laws.proofs.Rows.Arcs.{behind_turned, three_turned}
use Rattle.id_laws.proofs.Rows.Calls.{arg_at}
use Rattle.id_laws.proofs.Rows.Stores.{address_at}
use Rattle.id_laws.proofs.Rows.Conditionals.{arm_of, arms_test, conditional, no_within, test_at}
use Rattle.id_build.proofs.EndsLemmas.{end_is}
use Rattle.id_build.proofs.NamesSeen.{Sees, Comes, from_label, from_switch, from_entry, comes, listed}
use Rattle.id_laws.specs.Activations.{Begins, Tests, of_arms, of_turns, of_call, of_loop}
use Rattle.id_laws.proofs.Rows.Regions.{as_tests, index_loop, label_row, HeadOf, of_block, of_tests, region_of}

-- whether what comes from a row of this node goes to another iteration
abbrev pub is_mover : Node → Truth
is_mover Turn = true
is_mover (Next x k o v) = true
is_mover (Reset v) = true
is_mover _ = false

-- the origin is a part of a row that is not the last, and gives what it gives under its own tag
pub record IsSource (P : Checked) (s : Origin) : Type 0 where
  pub is_part : IsPart P s.row s.part
  pub not_answer : node P s.row ≡ Program → ⊥
  pub stays : is_mover (node P s.row) ≡ false

-- what comes from there comes from an iteration of a loop: to its trigger, its way back, or an entry
pub data Returns (P : Checked) (n : ℕ) : ℕ → Port → Origin → Type 0 where
  to_trigger_again : {t : ℕ} → node P n ≡ LoopHead t → Returns P n 0 Zero (output (turn_row P n))
  to_result : {t : ℕ} → node P n ≡ LoopHead t → Returns P n 1 One (output (end_of P n - 2))
  to_variable_again : node P n ≡ Variable → Returns P n 0 Zero (output (next_of P n))
  to_entry_again : (k : ℕ) → node P n ≡ Entries → k < length (imports_of P (block P n))
      → Returns P n k Zero (pieces.part_of (turn_row P (block P n)) (suc (carries_on P (block P n) + k)))
  to_carried_again : {k : Kind} → node P n ≡ Carried k
      → Returns P n 0 Zero (pieces.part_of (turn_row P (block P n)) (n - block P n))

-- whether a row of this node has entries of a block
abbrev pub is_entry : Node → Truth
is_entry (Param x k) = true
is_entry Variable = true
is_entry (Carried k) = true
is_entry Entries = true
is_entry _ = false

-- what comes from there comes under its own tag: to no entry, and to a head as its result alone
pub record Stays (P : Checked) (n : ℕ) (p : Port) (s : Origin) : Type 0 where
  pub source : IsSource P s
  pub no_entry : is_entry (node P n) ≡ false
  pub at_head : begins_block (node P n) ≡ true → p ≡ One

-- the origin is a part of a row that is not the last
pub record IsFeed (P : Checked) (s : Origin) : Type 0 where
  pub is_part : IsPart P s.row s.part
  pub not_answer : node P s.row ≡ Program → ⊥

true_false : true ≡ false → ⊥
true_false h = cc

binder_handed : (m : Node) → is_binder m ≡ true → is_handed m ≡ true
binder_handed m e = ap (λ t. t || is_carried m) e

module _ (P : Checked) (known : IsKnown P) where
  -- the entry of what a loop carries on
  pub carried_source : {k : Kind} (i : ℕ) → i < length (rows P) → node P i ≡ Carried k → IsSource P (output i)
  carried_source {k} i within is = record {
    is_part = part_of within (carries is);
    not_answer = λ z. let bad : Carried k ≡ Program = sym is ∙ z in cc;
    stays = ap is_mover is;
  }

  label_source : (b : ℕ) → b < length (rows P) → is_binder (node P b) ≡ true → IsSource P (output (label P b))
  label_source b within e = go (node P b) refl e
    where
      own : label P b ≡ b → IsPart P b 0 → (node P b ≡ Program → ⊥) → is_mover (node P b) ≡ false
          → IsSource P (output (label P b))
      own same part other stays =
          subst (λ z. IsSource P (output z)) (sym same) (record { is_part = part; not_answer = other; stays = stays })

      go : (m : Node) → node P b ≡ m → is_binder m ≡ true → IsSource P (output (label P b))
      go (Param x k) is h =
          own (ap (label_by (block P b) b) is) (part_of within (enters is)) (λ z. let bad : Param x k ≡ Program =
          sym is ∙ z in cc)
          (ap is_mover is)
      go (Binding x a) is h =
          own (ap (label_by (block P b) b) is) (part_of within (names is)) (λ z. let bad : Binding x a ≡ Program =
          sym is ∙ z in cc)
          (ap is_mover is)
      go (Next x k o v) is h =
          let z = (known.table).next_in b (block P b) k x (record {
            outer = o;
            value = v;
            within = within;
            block = refl;
            node = is;
          }) in
          let same : label P b ≡ block P b + 1 + k = ap (label_by (block P b) b) is in
          let there : node P (label P b) ≡ Variable = ap (node P) same ∙ z.2.variable in
          let r = label_row known within (ap is_binder is) in
          record { is_part = part_of r.within (varies there); not_answer = r.other; stays = ap is_mover there }
      go (Index x) is h =
          let z = index_loop known within is in
          let same : label P b ≡ block P b + 1 = ap (label_by (block P b) b) is in
          subst (λ i. IsSource P (output i)) (sym same)
          (carried_source (block P b + 1) (carried_within P known (block P b) z.0 z.1 (block P b + 1) (omega arith))
          z.1.entry)
      go _ is h = absurd (true_false (sym h))

  -- switches are no answer
  pub tests_other : {n t : ℕ} → Tests P n t → node P n ≡ Program → ⊥
  tests_other (of_arms {e = t} is) z = let bad : Split t ≡ Program = sym is ∙ z in cc
  tests_other (of_turns {e = t} is) z = let bad : Switches t ≡ Program = sym is ∙ z in cc

  tests_stay : {n t : ℕ} → Tests P n t → is_mover (node P n) ≡ false
  tests_stay (of_arms is) = ap is_mover is
  tests_stay (of_turns is) = ap is_mover is

  -- what a loop carries on has its label where it stands
  handed_label : (b : ℕ) → b < length (rows P) → is_handed (node P b) ≡ true → IsSource P (output (label P b))
  handed_label b within e = go (node P b) refl e
    where
      go : (m : Node) → node P b ≡ m → is_handed m ≡ true → IsSource P (output (label P b))
      go (Param x k) is h = label_source b within (ap is_binder is)
      go (Binding x a) is h = label_source b within (ap is_binder is)
      go (Next x k o v) is h = label_source b within (ap is_binder is)
      go (Index x) is h = label_source b within (ap is_binder is)
      go (Carried k) is h =
          subst (λ i. IsSource P (output i)) (sym (ap (label_by (block P b) b) is)) (carried_source b within is)
      go _ is h = absurd (true_false (sym h))

  handed_source : (r : Region) (b : ℕ) → b < length (rows P) → is_handed (node P b) ≡ true → Sees P b r
      → IsSource P (name_in P r b)
  handed_source r b within binds sees = by (comes P r b sees)
    where
      by : Comes P r b → IsSource P (name_in P r b)
      by (from_label is from) = subst (IsSource P) (sym from) (handed_label b within binds)
      by (from_switch n t k c less is few there rest at from) =
          let tests = as_tests is in
          subst (IsSource P) (sym from) (record {
            is_part = part_of less (hands k tests few);
            not_answer =
                tests_other tests;
            stays = tests_stay tests;
          })
      by (from_entry h t k less is few there rest at from) =
          let e = entries_node P h t less is in
          let at_block = (entries_stand P h t less is (entries_row P h) (omega arith) (omega arith)).0 in
          let few' = subst (λ g. k < length (imports_of P g)) (sym at_block) few in
          subst (IsSource P) (sym from) (record {
            is_part = part_of (entries_within P h t less is) (takes_in k e few');
            not_answer = λ z. let bad : Entries ≡ Program = sym e ∙ z in cc;
            stays = ap is_mover e;
          })

  named_source : (r : Region) (b : ℕ) → b < length (rows P) → is_binder (node P b) ≡ true → Sees P b r
      → IsSource P (name_in P r b)
  named_source r b within binds sees = handed_source r b within (binder_handed (node P b) binds) sees

  -- where the upper bound of a loop with an index comes from, at its top and in its sides
  pub bound_source : (h : ℕ) (x : LoopOf P h) (c : IsCounted P x.all) → IsSource P (name_in P (top h) (h + 2))
  bound_source h x c =
      subst (IsSource P) (sym (bound_top P known h x c))
      (carried_source (h + 2) (carried_within P known h x c (h + 2) (omega arith)) c.bound)

  pub side_source : (h : ℕ) (x : LoopOf P h) (c : IsCounted P x.all) (b : Truth)
      → IsSource P (name_in P (arm_at (x.the).switches b) (h + 2))
  side_source h x c b =
      let w = (x.the).switches in
      let tests : Tests P w ((x.all).test).test = of_turns (switches_node P known h x) in
      let few : 0 < length (imports_of P w) = omega (arith, ap length (bound_first P known h x c)) in
      subst (IsSource P) (sym (bound_side P known h x c b)) (record {
        is_part = part_of (switches_within P known h x) (hands 0 tests few);
        not_answer = tests_other tests;
        stays = tests_stay tests;
      })

  giver_source : (w : ℕ) → w < length (rows P) → is_expression (node P w) ≡ true → is_block (node P w) ≡ false
      → IsSource P (origin_of P w (region P w) (node P w))
  giver_source w within expression no_block = go (node P w) refl
    where
      at_node : (m : Node) → node P w ≡ m → IsSource P (origin_of P w (region P w) m)
          → IsSource P (origin_of P w (region P w) (node P w))
      at_node m is x = subst (λ z. IsSource P (origin_of P w (region P w) z)) (sym is) x

      go : (m : Node) → node P w ≡ m → IsSource P (origin_of P w (region P w) (node P w))
      go (Name x) is =
          let b = known.bound w x within is in
          let from : origin_of P w (region P w) (Name x) ≡ name_in P (region P w) b.0 =
          ap (named_in P (region P w) w) b.1 in
          at_node (Name x) is (subst (IsSource P) (sym from) (named_source (region P w) b.0 b.2 b.3 b.4))
      go (Literal c) is = at_node (Literal c) is (record {
        is_part = part_of within (constant is);
        not_answer = λ z. let bad : Literal c ≡ Program = sym is ∙ z in cc;
        stays = ap is_mover is;
      })
      go (Unary o x) is = at_node (Unary o x) is (record {
        is_part = part_of within (unary is);
        not_answer = λ z. let bad : Unary o x ≡ Program = sym is ∙ z in cc;
        stays = ap is_mover is;
      })
      go (Binary o x y) is = at_node (Binary o x y) is (record {
        is_part = part_of within (binary is);
        not_answer = λ z. let bad : Binary o x y ≡ Program = sym is ∙ z in cc;
        stays = ap is_mover is;
      })
      go (If s x y) is = at_node (If s x y) is (record {
        is_part = part_of within (joins is);
        not_answer = λ z. let bad : If s x y ≡ Program = sym is ∙ z in cc;
        stays = ap is_mover is;
      })
      go (Call s c) is = at_node (Call s c) is (record {
        is_part = part_of within (gets is);
        not_answer = λ z. let bad : Call s c ≡ Program = sym is ∙ z in cc;
        stays = ap is_mover is;
      })
      go (Loop g u l) is = at_node (Loop g u l) is (record {
        is_part = part_of within (gets_last is);
        not_answer = λ z. let bad : Loop g u l ≡ Program = sym is ∙ z in cc;
        stays = ap is_mover is;
      })
      go (Array nested x y) is =
          at_node (Array nested x y) is (record {
            is_part = part_of within (allocates is);
            not_answer = λ z. let bad : Array nested x y ≡ Program = sym is
                ∙ z in cc;
            stays = ap is_mover is;
          })
      go (Fetch x y) is =
          at_node (Fetch x y) is (record {
            is_part = part_of within (gets_reply is);
            not_answer = λ z. let bad : Fetch x y ≡ Program = sym is
                ∙ z in cc;
            stays = ap is_mover is;
          })
      go (Block b) is = let bad : true ≡ false = sym (ap is_block is) ∙ no_block in cc
      go _ is = absurd (true_false (sym expression ∙ ap is_expression is))

  pub origin_source : (e : ℕ) → e < length (rows P) → is_expression (node P e) ≡ true → IsSource P (origin P e)
  origin_source e within expression =
      let stands = (known.table).value_stands e within expression in
      giver_source (at (rows P) e).value (omega (arith, within, stands.0)) stands.1 stands.2

  operand_source : (n e : ℕ) (m : Node) → n < length (rows P) → node P n ≡ m → HasPart m e → HasOperand m e
      → IsSource P (origin P e)
  operand_source n e m within is part operand =
      let less = (((known.table).formed).each n within).parts e (subst (λ z. HasPart z e) (sym is) part) in
      origin_source e (omega (arith, within, less.1))
      (known.operands n e within (subst (λ z. HasOperand z e) (sym is) operand))

  result_source : (h : ℕ) → h < length (rows P) → node P h ≡ Head
      → IsSource P (origin P (body_of (node P (end_of P h))))
  result_source h within is =
      let def = end_is P (known.table) h within is in
      let body_is : body_of (node P (end_of P h)) ≡ def.body = ap body_of def.node in
      let parts =
      (((known.table).formed).each (end_of P h) def.within).parts def.body
      (subst (λ z. HasPart z def.body) (sym def.node) (inr refl)) in
      let expression = ((known.table).head_is (end_of P h) def.name h def.body def.result def.within def.node).2 in
      subst (IsSource P) (ap (origin P) (sym body_is))
      (origin_source def.body (omega (arith, def.within, parts.1)) expression)

  head_stays : (m : Node) → begins_block m ≡ true → is_mover m ≡ false
  head_stays Head e = refl
  head_stays (LoopHead t) e = refl
  head_stays _ e = absurd (true_false (sym e))

  trigger_source : (n : ℕ) → n < length (rows P) → (node P n ≡ Program → ⊥) → IsSource P (trigger_of (region P n))
  trigger_source n within other = let r = region_of known within other in by (region P n) r.below r.head
    where
      by : (r : Region) → r.head < length (rows P) → HeadOf P r → IsSource P (trigger_of r)
      by r below (of_block is top_is) = record {
        is_part = part_of below (starts is);
        not_answer = λ z. true_false (sym is ∙ ap begins_block z);
        stays = head_stays (node P r.head) is;
      }
      by r below (of_tests (of_arms {e = t} is)) = record {
        is_part = part_of below (turns_on (of_arms is));
        not_answer = λ z. let bad : Split t ≡ Program = sym is ∙ z in cc;
        stays = ap is_mover is;
      }
      by r below (of_tests (of_turns {e = t} is)) = record {
        is_part = part_of below (turns_on (of_turns is));
        not_answer = λ z. let bad : Switches t ≡ Program = sym is ∙ z in cc;
        stays = ap is_mover is;
      }

  pub begins_other : {n h q : ℕ} → Begins P n h q → node P n ≡ Program → ⊥
  begins_other (of_call {x = x} is) z = let bad : Enter x ≡ Program = sym is ∙ z in cc
  begins_other (of_loop is) z = let bad : Start ≡ Program = sym is ∙ z in cc

  test_source : (n t : ℕ) → n < length (rows P) → Tests P n t → IsSource P (origin P t)
  test_source n t within (of_arms is) =
      let z = test_at known within (of_arms is) in
      origin_source t z.within (z.expression (no_within (node P t) (arms_test known within is)))
  test_source n t within (of_turns is) = go (is_within (node P t)) refl
    where
      go : (b : Truth) → is_within (node P t) ≡ b → IsSource P (origin P t)
      go false e = let z = test_at known within (of_turns is) in origin_source t z.within (z.expression e)
      go true e =
          let l = loop_of_row known (Switches t) within is refl in
          let h = block P n in
          let w_is = own_switches P known n t within is l in
          let both : Switches t ≡ Switches ((l.all).test).test =
          sym is ∙ ap (node P) (sym w_is) ∙ switches_node P known h l in
          let test : t ≡ ((l.all).test).test = cc in
          let c = within_counted e l test in
          subst (IsSource P) (sym (ap (origin P) test ∙ flag_origin P known h l c))
          (carried_source (h + 3) (carried_within P known h l c (h + 3) (omega arith)) c.flag)

  arm_source : (n s x y : ℕ) (b : Truth) → n < length (rows P) → node P n ≡ If s x y
      → IsSource P (origin P (arm_of b x y))
  arm_source n s x y b within is =
      let c = conditional known within is in origin_source (arm_of b x y) (c.arm_within b) (c.arm_expression b)

  -- what comes to a row of such a node
  steady : {n : ℕ} {p : Port} {s : Origin} (m : Node) → node P n ≡ m → is_entry m ≡ false → begins_block m ≡ false
      → IsSource P s → Stays P n p s
  steady m is no_entry no_head source = record {
    source = source;
    no_entry = ap is_entry is ∙ no_entry;
    at_head = λ b. absurd (true_false (sym b ∙ ap begins_block is ∙ no_head));
  }

  at_switches : {n t : ℕ} {p : Port} {s : Origin} → Tests P n t → IsSource P s → Stays P n p s
  at_switches (of_arms {e = t} is) source = steady (Split t) is refl refl source
  at_switches (of_turns {e = t} is) source = steady (Switches t) is refl refl source

  at_begin : {n h q : ℕ} {p : Port} {s : Origin} → Begins P n h q → IsSource P s → Stays P n p s
  at_begin (of_call {x = x} is) source = steady (Enter x) is refl refl source
  at_begin (of_loop is) source = steady Start is refl refl source

  count_source : {n part : ℕ} {f : Form} {b : Truth} → n < length (rows P) → node P n ≡ Count → Does P n part f
      → IsSource P (record { row = n; part = part; side = b })
  count_source within is does =
      record {
        is_part = part_of within does;
        not_answer = λ z. let bad : Count ≡ Program = sym is ∙ z in cc;
        stays =
            ap is_mover is;
      }

  -- what counts stands right before what hands on
  pub turn_counts : {n : ℕ} → n < length (rows P) → node P n ≡ Turn → has_index P (block P n) ≡ true
      → (n - 1 < length (rows P)) × (node P (n - 1) ≡ Count)
  turn_counts {n} within is has =
      let l = loop_of_row known Turn within is refl in
      let c = counted_of P l.all has in
      let at : n ≡ (l.all).turn = turn_at known within is l ∙ turn_is P known (block P n) l in
      let before : n - 1 ≡ (l.the).switches + 1 = omega (arith, at, c.turn) in
      (omega (arith, within), ap (node P) before ∙ c.count)

  by_arc : {n part : ℕ} {p : Port} {s : Origin} → n < length (rows P) → Arc P n part p s
      → Stays P n p s ⊎ Returns P n part p s
  by_arc {n} within (to_back is) =
      inl (record { source = result_source n within is; no_entry = ap is_entry is; at_head = λ b. refl })
  by_arc {n} within (to_literal {c = c} is) =
      inl (steady _ is refl refl (trigger_source n within (λ e. let bad : Program ≡ Literal c = sym e ∙ is in cc)))
  by_arc {n} within (to_unary {o = o} {a = e} is) =
      inl (steady _ is refl refl (operand_source n e (Unary o e) within is refl refl))
  by_arc {n} within (to_left {o = o} {a = e} {b = f} is) =
      inl (steady _ is refl refl (operand_source n e (Binary o e f) within is (inl refl) (inl refl)))
  by_arc {n} within (to_right {o = o} {a = e} {b = f} is) =
      inl (steady _ is refl refl (operand_source n f (Binary o e f) within is (inr refl) (inr refl)))
  by_arc {n} within (to_test {t = t} is) = inl (at_switches is (test_source n t within is))
  by_arc {n} within (to_trigger {t = t} is) = inl (at_switches is (trigger_source n within (tests_other is)))
  by_arc {n} within (to_import_test {t = t} k is less) = inl (at_switches is (test_source n t within is))
  by_arc {n} within (to_import {t = t} k is less) =
      let b = get_or (imports_of P n) k 0 in
      let z = known.imported n t b within is (listed (imports_of P n) k less) in
      inl (at_switches is (handed_source (region P n) b z.0 z.1 z.2))
  by_arc {n} within (to_then {s = s} {x = x} {y = y} is) =
      inl (steady _ is refl refl (arm_source n s x y true within is))
  by_arc {n} within (to_else {s = s} {x = x} {y = y} is) =
      inl (steady _ is refl refl (arm_source n s x y false within is))
  by_arc {n} within (to_enter is) = inl (at_begin is (trigger_source n within (begins_other is)))
  by_arc {n} within (to_context {e = e} is) =
      let z = arg_at known within is in
      inl (steady _ is refl refl (record {
        is_part = part_of z.enter_within (opens (of_call z.enter));
        not_answer = λ q. let bad : Enter z.name ≡ Program = sym z.enter ∙ q in cc;
        stays = ap is_mover z.enter;
      }))
  by_arc {n} within (to_argument {e = e} {k = k} {v = v} is) =
      inl (steady _ is refl refl (operand_source n v (Arg e k v) within is (inr refl) refl))
  by_arc {n} within (to_label {x = x} {a = e} is) =
      inl (steady _ is refl refl (operand_source n e (Binding x e) within is refl refl))
  by_arc {n} within (to_loop_context k is less) = inl (steady _ is refl refl
      (record {
        is_part = part_of within (opens (of_loop is));
        not_answer = begins_other (of_loop is);
        stays =
            ap is_mover is;
      }))
  by_arc {n} within (to_entering k is less) =
      let b = get_or (entering P (n + 1)) k 0 in
      let z = known.loop_names n within is b (listed (entering P (n + 1)) k less) in
      inl (steady Start is refl refl (named_source (region P n) b z.0 z.1 z.2))
  by_arc {n} within (to_carried_context k is at has less) = inl (steady _ is refl refl
      (record {
        is_part = part_of within (opens (of_loop is));
        not_answer = begins_other (of_loop is);
        stays =
            ap is_mover is;
      }))
  by_arc {n} within (to_first_index {a = a} {b = b} is at has) = inl (steady Start is refl refl (record {
    is_part = part_of (omega (arith, within)) (begins_index at);
    not_answer = λ z. let bad : Bounds a b ≡ Program = sym at ∙ z in cc;
    stays = ap is_mover at;
  }))
  by_arc {n} within (to_first_bound {a = a} {b = b} is at has) =
      inl (steady Start is refl refl
      (operand_source (n - 1) b (Bounds a b) (omega (arith, within)) at (inr refl) (inr refl)))
  by_arc {n} within (to_first_flag {a = a} {b = b} is at has) = inl (steady Start is refl refl (record {
    is_part = part_of (omega (arith, within)) (bounds_meet at);
    not_answer = λ z. let bad : Bounds a b ≡ Program = sym at ∙ z in cc;
    stays = ap is_mover at;
  }))
  by_arc {n} within (to_head is) = inr (to_trigger_again is)
  by_arc {n} within (to_loop_back is) = inr (to_result is)
  by_arc {n} within (to_variable is) = inr (to_variable_again is)
  by_arc {n} within (to_entry k is less) = inr (to_entry_again k is less)
  by_arc {n} within (to_turn is) =
      inl (steady _ is refl refl (trigger_source n within (λ e. let bad : Program ≡ Turn = sym e ∙ is in cc)))
  by_arc {n} within (to_turn_name k is less) =
      let b = get_or (imports_of P (block P n)) k 0 in
      let z = known.turn_names n within is b (listed (imports_of P (block P n)) k less) in
      inl (steady Turn is refl refl (named_source (region P n) b z.0 z.1 z.2))
  by_arc {n} within (to_next_index is has) =
      let z = turn_counts within is has in inl (steady Turn is refl refl (record {
        is_part = part_of z.0 (adds_one z.1);
        not_answer = λ q. let bad : Count ≡ Program = sym z.1 ∙ q in cc;
        stays = ap is_mover z.1;
      }))
  by_arc {n} within (to_next_bound is has) =
      let l = loop_of_row known Turn within is refl in
      let c = counted_of P l.all has in
      inl (steady Turn is refl refl
      (subst (λ r. IsSource P (name_in P r (block P n + 2))) (sym (turn_region_at known within is l))
      (side_source (block P n) l c true)))
  by_arc {n} within (to_next_flag is has) = let z = turn_counts within is has in inl (steady Turn is refl refl (record {
    is_part = part_of z.0 (meets_bound z.1);
    not_answer = λ q. let bad : Count ≡ Program = sym z.1 ∙ q in cc;
    stays = ap is_mover z.1;
  }))
  by_arc {n} within (to_next {x = x} {k = k} {o = o} {v = v} is) =
      inl (steady _ is refl refl (operand_source n v (Next x k o v) within is (inr refl) refl))
  by_arc {n} within (to_reset {v = v} is) =
      inl (steady _ is refl refl (operand_source n v (Reset v) within is refl refl))
  by_arc {n} within (to_low {nested = nested} {a = e} {b = f} is) =
      inl (steady _ is refl refl (operand_source n e (Array nested e f) within is (inl refl) (inl refl)))
  by_arc {n} within (to_high {nested = nested} {a = e} {b = f} is) =
      inl (steady _ is refl refl (operand_source n f (Array nested e f) within is (inr refl) (inr refl)))
  by_arc {n} within (to_target {t = t} {i = i} (of_fetch is)) =
      inl (steady _ is refl refl (operand_source n t (Fetch t i) within is (inl refl) (inl refl)))
  by_arc {n} within (to_target {t = t} {i = i} (of_store is)) =
      inl (steady _ is refl refl (operand_source n t (Address t i) within is (inl refl) (inl refl)))
  by_arc {n} within (to_index {t = t} {i = i} (of_fetch is)) =
      inl (steady _ is refl refl (operand_source n i (Fetch t i) within is (inr refl) (inr refl)))
  by_arc {n} within (to_index {t = t} {i = i} (of_store is)) =
      inl (steady _ is refl refl (operand_source n i (Address t i) within is (inr refl) (inr refl)))
  by_arc {n} within (to_fetch {t = t} {i = i} is) =
      inl (steady _ is refl refl (record {
        is_part = part_of within (addresses (of_fetch is));
        not_answer = λ z. let bad : Fetch t i ≡ Program = sym is
            ∙ z in cc;
        stays = ap is_mover is;
      }))
  by_arc {n} within (to_store {a = e} {v = v} is) =
      let z = address_at known within is in
      inl (steady _ is refl refl (record {
        is_part = part_of z.within (addresses (of_store z.node));
        not_answer = λ q. let bad : Address z.target
            z.index ≡ Program = sym z.node ∙ q in cc;
        stays = ap is_mover z.node;
      }))
  by_arc {n} within (to_stored {a = e} {v = v} is) =
      inl (steady _ is refl refl (operand_source n v (Store e v) within is (inr refl) refl))
  by_arc {n} within (to_lower {a = e} {b = f} is) =
      inl (steady _ is refl refl (operand_source n e (Bounds e f) within is (inl refl) (inl refl)))
  by_arc {n} within (to_upper {a = e} {b = f} is) =
      inl (steady _ is refl refl (operand_source n f (Bounds e f) within is (inr refl) (inr refl)))
  by_arc {n} within (to_first_test {a = e} {b = f} is) = inl (steady _ is refl refl (record {
    is_part = part_of within (bounds_meet is);
    not_answer = λ z. let bad : Bounds e f ≡ Program = sym is ∙ z in cc;
    stays = ap is_mover is;
  }))
  by_arc {n} within (to_first {a = e} {b = f} is) =
      inl (steady _ is refl refl (operand_source n e (Bounds e f) within is (inl refl) (inl refl)))
  by_arc {n} within (to_carried is) = inr (to_carried_again is)
  by_arc {n} within (to_index_now is) = let z = count_loop known within is in
      inl (steady _ is refl refl
      (carried_source (block P n + 1) (carried_within P known (block P n) z.0 z.1 (block P n + 1) (omega arith))
      z.1.entry))
  by_arc {n} within (to_bound is) = let z = count_loop known within is in
      inl (steady _ is refl refl
      (subst (λ r. IsSource P (name_in P r (block P n + 2))) (sym (count_region known within is z.0 z.1))
      (side_source (block P n) z.0 z.1 true)))
  by_arc {n} within (to_further_test is) = inl (steady _ is refl refl (count_source within is (meets_bound is)))
  by_arc {n} within (to_further is) =
      inl (steady _ is refl refl (trigger_source n within (λ e. let bad : Program ≡ Count = sym e ∙ is in cc)))
  by_arc {n} within (to_last_test is) = inl (steady _ is refl refl (count_source within is (meets_bound is)))
  by_arc {n} within (to_last is) = let z = count_loop known within is in
      inl (steady _ is refl refl
      (carried_source (block P n + 1) (carried_within P known (block P n) z.0 z.1 (block P n + 1) (omega arith))
      z.1.entry))
  by_arc {n} within (to_one is) = inl (steady _ is refl refl (count_source within is (goes_further is)))
  by_arc {n} within (to_add is) = inl (steady _ is refl refl (count_source within is (hands_index is)))
  by_arc {n} within (to_add_one is) = inl (steady _ is refl refl (count_source within is (has_one is)))

  -- what feeds a part gives under its own tag, save to a loop from its iterations
  pub fed_from : {s : Origin} {n part : ℕ} {p : Port} → Feeds P s n part p → Stays P n p s ⊎ Returns P n part p s
  fed_from h = by_arc h.within (fed h)

  returned_feed : {n part : ℕ} {p : Port} {s : Origin} → n < length (rows P) → Returns P n part p s → IsFeed P s
  returned_feed {n} within (to_trigger_again {t = t} is) =
      let l = loop_of_head known within is in
      let turn = turn_node P known n l in
      record {
        is_part = part_of (turn_within P known n l) (moves_on turn);
        not_answer = λ z. let bad : Turn ≡ Program =
            sym turn ∙ z in cc;
      }
  returned_feed {n} within (to_result {t = t} is) =
      let l = loop_of_head known within is in
      let reset = reset_node P known n l in
      record {
        is_part = part_of (reset_within P known n l) (resets reset);
        not_answer =
            λ z. let bad : Reset _ ≡ Program = sym reset ∙ z in cc;
      }
  returned_feed {n} within (to_variable_again is) =
      let x = next_is P n within is in
      record {
        is_part = part_of x.within (advances x.node);
        not_answer =
            λ z. let bad : Next x.name x.index x.outer x.value ≡ Program = sym x.node ∙ z in cc;
      }
  returned_feed {n} within (to_entry_again k is less) =
      let l = loop_of_row known Entries within is refl in
      let turn = turn_node P known (block P n) l in
      let few =
      subst (λ g. carries_on P (block P n) + k < length (turned P g)) (sym (turn_in P known (block P n) l))
      (behind_turned P (block P n) k less) in
      record {
        is_part = part_of (turn_within P known (block P n) l) (moves_name (carries_on P (block P n) + k) turn few);
        not_answer = λ z. let bad : Turn ≡ Program = sym turn ∙ z in cc;
      }
  returned_feed {n} within (to_carried_again {k = kind} is) =
      let z = carried_loop known within is in
      let l = z.loop in
      let turn = turn_node P known (block P n) l in
      let part : n - block P n ≡ suc (n - (block P n + 1)) = omega (arith, z.low) in
      let few = subst (λ g. n - (block P n + 1) < length (turned P g)) (sym (turn_in P known (block P n) l))
      (three_turned P (block P n) (z.counted).has (n - (block P n + 1)) (omega (arith, z.high, z.low))) in
      record {
        is_part = subst (IsPart P (turn_row P (block P n))) (sym part)
            (part_of (turn_within P known (block P n) l) (moves_name (n - (block P n + 1)) turn few));
        not_answer = λ q. let bad : Turn ≡ Program = sym turn ∙ q in cc;
      }

  -- what feeds a part
  pub feeds_source : {s : Origin} {n part : ℕ} {p : Port} → Feeds P s n part p → IsFeed P s
  feeds_source h = elim (fed_from h) [
    | inl x ↦ record { is_part = (x.source).is_part; not_answer = (x.source).not_answer }
    | inr x ↦ returned_feed h.within x
  ]

  -- what comes from an iteration goes to another
  pub returned_mover : {n part : ℕ} {p : Port} {s : Origin} → n < length (rows P) → Returns P n part p s
      → is_mover (node P s.row) ≡ true
  returned_mover {n} within (to_trigger_again {t = t} is) =
      ap is_mover (turn_node P known n (loop_of_head known within is))
  returned_mover {n} within (to_result {t = t} is) = ap is_mover (reset_node P known n (loop_of_head known within is))
  returned_mover {n} within (to_variable_again is) = ap is_mover (next_is P n within is).node
  returned_mover {n} within (to_carried_again is) =
      ap is_mover (turn_node P known (block P n) (carried_loop known within is).loop)
  returned_mover {n} within (to_entry_again k is less) =
      ap is_mover (turn_node P known (block P n) (loop_of_row known Entries within is refl))

  -- and what goes to another comes from one
  pub mover_returns : {s : Origin} {n part : ℕ} {p : Port} → Feeds P s n part p → is_mover (node P s.row) ≡ true
      → Returns P n part p s
  mover_returns h mover = elim (fed_from h) [
    | inl x ↦ absurd (true_false (sym mover ∙ (x.source).stays))
    | inr x ↦ x
  ]
