-- The rows of the messages that an activation may have stand in the block that its context was opened for.
use Rattle.std.proofs.Common.{◌≡◌, inl, inr, ℕ, zero, suc, ◌+◌, ◌-◌, ◌<◌, Bool as Truth, true, false, List, length}
use Rattle.std.proofs.Common.{get_or, refl, sym, ◌∙◌, ap, subst, arith}
use Rattle.std.specs.Prelude.{if◌then◌else◌}
use Rattle.id_value.specs.declared.Kind.{Kind}
use Rattle.id_value.specs.declared.Kind.TheVariants as kinds
use Rattle.id_table.specs.Rows.{arm_at, top}
use Rattle.id_table.specs.Loops.{bounds_row}
use Rattle.id_value.proofs.AmongLemmas.{Among-from_at}
use Rattle.id_table.specs.declared.row.Region.{Region}
use Rattle.id_table.specs.declared.row.Node.{Node}
use Rattle.id_table.specs.declared.row.Node.TheVariants.{Head, Param, Program, LoopHead, Variable}
use Rattle.id_table.specs.declared.row.Node.TheVariants.{Entries, Fetch, Bounds, Carried, Count, Start, Turn}
use Rattle.id_table.specs.Tables.{HasNear, begins_block, is_expression}
use Rattle.id_table.specs.Turns.{params_at}
use Rattle.id_check.specs.declared.checked.Checked.{Checked}
use Rattle.id_check.specs.Programs.{region, rows}
use Rattle.id_instr.specs.declared.dests.Port.{Port}
use Rattle.id_instr.specs.declared.dests.Port.TheVariants.{Zero, One}
use Rattle.id_instr.specs.Graph.{Parts}
use Rattle.id_tag.specs.declared.Context.{Context}
use Rattle.id_tag.specs.declared.Value.{Value}
use Rattle.id_source.specs.Sources.{Source}
use Rattle.id_desugar.specs.Ends.{end_of}
use Rattle.id_desugar.specs.Regions.{has_index, imports_of}
use Rattle.id_build.specs.declared.arc.Form.{Form}
use Rattle.id_build.specs.Rows.{Entry, block, called, entering, node, param_of}
use Rattle.id_build.specs.Schemas.{Numbered}
use Rattle.id_build.proofs.EndsLemmas.{body_region, end_is}
use Rattle.id_build.proofs.LoopsLemmas.{entries_node}
use Rattle.id_runs.specs.Activations.{Activation, at_iteration, main_activation}
use Rattle.id_runs.specs.Events.{Event}
use Rattle.id_runs.specs.Serials.{ContextsApart}
use Rattle.id_laws.specs.Activations.{Begins, Live, ReturnsTo, Tests, of_call, of_loop, of_arms, of_turns, at_start}
use Rattle.id_laws.specs.Activations.{entered}
use Rattle.id_laws.specs.Activations.{to_answer, to_row}
use Rattle.id_laws.specs.Topics.{NameIn, bounded_sent, counted_of, entry_wants, further_wants, handed_of, switches_of}
use Rattle.id_laws.specs.Topics.{Tells, of_fetch, of_store, result_at, result_of, split_of, topic_at, wants}
use Rattle.id_laws.specs.Ways.{Way, by_arc, by_move, by_send, by_enter, by_continuation, by_back, by_reply, SendsTo}
use Rattle.id_laws.specs.Ways.{of_argument, of_entry}
use Rattle.id_laws.proofs.Rows.Arcs.{Does, starts, returns, enters, constant, unary, binary, turns_on, hands, joins}
use Rattle.id_laws.proofs.Rows.Arcs.{names, answers}
use Rattle.id_laws.proofs.Rows.Arcs.{opens, passes, gets, sends_in, gives_back, varies, takes_in, moves_on, moves_name}
use Rattle.id_laws.proofs.Rows.Arcs.{advances, resets}
use Rattle.id_laws.proofs.Rows.Arcs.{gets_last, allocates, addresses, fetches, gets_reply, stores}
use Rattle.id_laws.proofs.Rows.Arcs.{bounds_meet, begins_index, carries, meets_bound, goes_further, hands_index}
use Rattle.id_laws.proofs.Rows.Arcs.{has_one, adds_one}
use Rattle.id_laws.proofs.Rows.Assumed.{IsKnown}
use Rattle.id_laws.proofs.Paths.Begun.{begun_at, one_head}
use Rattle.id_laws.proofs.Rows.Feeders.{answer_unfed}
use Rattle.id_laws.proofs.Rows.Blocks.{a_param}
use Rattle.id_laws.proofs.Telling.LoopEntries.{GivenAs, as_carried, as_first, as_import, given_as}
use Rattle.id_laws.proofs.Rows.Loops.{IsCounted, LoopOf, bounds_mean, bounds_region, counted_of as as_counted}
use Rattle.id_laws.proofs.Rows.Loops.{head_block as own_block, last_region, loop_by, loop_of_head}
use Rattle.id_laws.proofs.Rows.Loops.{loop_of_row, loop_of_start, result_is, switches_same}
use Rattle.id_laws.proofs.Paths.Opened.{OpenedFor, for_main, for_begun, live_block}
use Rattle.id_laws.proofs.Rows.Regions.{region_of}
use Rattle.id_laws.proofs.Paths.Seats.{not_main, one_opening}

true_false : true ≡ false → ⊥
true_false h = cc

module _ (S : Source) (known : IsKnown S.checked) (number : ℕ → ℕ → ℕ) (run : List Event) where
  abbrev P : Checked
  P = S.checked

  -- the activation's context was opened for the block with this head
  abbrev InBlock : Activation → ℕ → Type 0
  InBlock a h = OpenedFor S number run a.context h

  -- where a row's region is live the context was opened for the row's block
  pub row_block : {a : Activation} {n : ℕ} → n < length (rows P) → (node P n ≡ Program → ⊥)
      → Live S number run a (region P n) → InBlock a (block P n)
  row_block {a} within other live =
      subst (InBlock a) (region_of known within other).block (live_block S known number run live)

  -- so it was where the region of a part is that stands where the row does
  near_block : {a : Activation} {n : ℕ} (e : ℕ) → n < length (rows P) → (node P n ≡ Program → ⊥) → HasNear (node P n) e
      → Live S number run a (region P e) → InBlock a (block P n)
  near_block {a} {n} e within other near live =
      row_block within other (subst (Live S number run a) ((known.table).part_stands n e within near).1 live)

  -- and where what the block gives returns somewhere
  return_block : {c : Context} {h : ℕ} {a : Activation} {n : ℕ} → ReturnsTo S number run c h a n
      → OpenedFor S number run c (block P h)
  return_block to_answer = live_block S known number run at_start
  return_block (to_row within begins live opened) = live_block S known number run (entered within begins live opened)

  -- and where the region of what the block gives is live
  body_block : {c : Context} {k n : ℕ} → n < length (rows P) → node P n ≡ Head
      → Live S number run (at_iteration c k) (region P (result_of P n))
      → OpenedFor S number run c (block P n)
  body_block {c} {k} {n} within is live =
      let d = end_is P (known.table) n within is in
      let stands = body_region P (known.table) (end_of P n) n d in
      let body_is : result_of P n ≡ d.body = ap result_at d.node in
      live_block S known number run
      (subst (Live S number run (at_iteration c k)) (ap (region P) body_is ∙ stands.1) live)

  last_block : {c : Context} {k n s : ℕ} → n < length (rows P) → node P n ≡ LoopHead s
      → Live S number run (at_iteration c k) (region P (result_of P n))
      → OpenedFor S number run c (block P n)
  last_block {c} {k} {n} within is live =
      let l = loop_of_head known within is in
      let there = ap (region P) (result_is P known n l) ∙ last_region P known n l in
      subst (OpenedFor S number run c) (((l.all).test).block
      ∙ sym ((known.table).head_block n within (ap begins_block is)))
      (live_block S known number run (subst (Live S number run (at_iteration c k)) there live))

  -- ---- by parts

  module _ (a : Activation) (v : Value) (n : ℕ) (within : n < length (rows P)) where
    -- where the row is of this node, what is told to the part is
    at_node : {m : Node} (part : ℕ) (p : Port) → node P n ≡ m → Tells S number run a (topic_at P n part p) v
        → Tells S number run a (wants P n (region P n) m part p) v
    at_node {m} part p is h = subst (λ z. Tells S number run a (wants P n (region P n) z part p) v) is h

    -- an operand, or the region's trigger or a name in it
    own : {m : Node} → node P n ≡ m → (m ≡ Program → ⊥) → Live S number run a (region P n) → InBlock a (block P n)
    own is other live = row_block within (λ e. other (sym is ∙ e)) live

    near : {m : Node} (e : ℕ) → node P n ≡ m → (m ≡ Program → ⊥) → HasNear m e → Live S number run a (region P e)
        → InBlock a (block P n)
    near e is other part live =
        near_block e within (λ z. other (sym is ∙ z)) (subst (λ z. HasNear z e) (sym is) part) live

    head_block : (m : Node) (p : Port) → node P n ≡ m → begins_block m ≡ true
        → Tells S number run a (topic_at P n 0 p) v → InBlock a (block P n)
    head_block Head Zero is e h = live_block S known number run (at_node 0 Zero is h).1
    head_block Head One is e h = absurd (at_node 0 One is h)
    head_block (LoopHead s) Zero is e h = live_block S known number run (at_node 0 Zero is h).1
    head_block (LoopHead s) One is e h = absurd (at_node 0 One is h)
    head_block _ p is e h = absurd (true_false (sym e))

    split_live : (r : Region) (bs : List ℕ) (k : ℕ) → Tells S number run a (split_of r bs k) v → Live S number run a r
    split_live r bs zero h = h.1
    split_live r bs (suc k) h = h.0

    handed_live : (r : Region) (bs : List ℕ) (k : ℕ) → Tells S number run a (handed_of P r (block P n) bs k) v
        → Live S number run a r
    handed_live r bs k h = by (has_index P (block P n)) k h
      where
        by : (b : Truth) (k : ℕ) → Tells S number run a (if b then counted_of r (block P n) bs k else split_of r bs k) v
            → Live S number run a r
        by true zero h = h.1
        by true (suc zero) h = h.0
        by true (suc (suc k)) h = h.0
        by false k h = split_live r bs k h

    -- the top of the row's loop, its body, and where it stands
    top_block : Live S number run a (top (block P n)) → LoopOf P (block P n) → InBlock a (block P n)
    top_block live l = subst (InBlock a) (own_block P known (block P n) l) (live_block S known number run live)

    body_live : Live S number run a (arm_at (switches_of P (block P n)) true) → LoopOf P (block P n)
        → InBlock a (block P n)
    body_live live l =
        subst (InBlock a) (ap (block P) (switches_same P known (block P n) l) ∙ ((l.all).test).block)
        (live_block S known number run live)

    further_block : (k : ℕ) → node P n ≡ Turn → Tells S number run a (topic_at P n k Zero) v → InBlock a (block P n)
    further_block k is h = by (has_index P (block P n)) k (at_node k Zero is h)
      where
        l : LoopOf P (block P n)
        l = loop_of_row known Turn within is refl

        by : (b : Truth) (k : ℕ)
            → Tells S number run a (if b then further_wants P (region P n) (block P n) k
            else split_of (region P n) (imports_of P (block P n)) k) v
            → InBlock a (block P n)
        by true zero h = own is (λ e. cc) h.1
        by true (suc zero) h = body_live ((h.0).live) l
        by true (suc (suc zero)) h = own is (λ e. cc) h.0
        by true (suc (suc (suc zero))) h = body_live ((h.0).live) l
        by true (suc (suc (suc (suc k)))) h = own is (λ e. cc) h.0
        by false k h = own is (λ e. cc) (split_live (region P n) (imports_of P (block P n)) k h)

    sent_block : (k : ℕ) → node P n ≡ Start → Tells S number run a (topic_at P n (suc k) One) v → InBlock a (block P n)
    sent_block k is h = by (has_index P (n + 1)) k (at_node (suc k) One is h)
      where
        back : n + 1 - 1 ≡ n
        back = omega arith

        here : Live S number run a (region P (n + 1 - 1)) → InBlock a (block P n)
        here live = own is (λ e. cc) (subst (λ m. Live S number run a (region P m)) back live)

        by : (b : Truth) (k : ℕ)
            → Tells S number run a (if b then bounded_sent P n (region P n) k
            else NameIn (region P n) (get_or (entering P (n + 1)) k 0)) v
            → InBlock a (block P n)
        by true zero h = here h.0
        by true (suc zero) h = own is (λ e. cc) h.0
        by true (suc (suc zero)) h = here h.0
        by true (suc (suc (suc k))) h = own is (λ e. cc) h.0
        by false k h = own is (λ e. cc) h.0

    carried_block : {k : Kind} → node P n ≡ Carried k → Tells S number run a (topic_at P n 0 Zero) v
        → InBlock a (block P n)
    carried_block {k} is h = by (n - (block P n + 1)) (at_node 0 Zero is h)
      where
        l : LoopOf P (block P n)
        l = loop_of_row known (Carried k) within is refl

        by : (j : ℕ) → Tells S number run a (entry_wants (block P n) j) v → InBlock a (block P n)
        by zero h = top_block h.live l
        by (suc zero) h = top_block h.0 l
        by (suc (suc j)) h = top_block h.live l

    -- the bounds of an index stand where the `Start` behind them does
    bounds_block : {e f : ℕ} → node P n ≡ Bounds e f → Live S number run a (region P (n + 2 - 1))
        → InBlock a (block P n)
    bounds_block {e} {f} is live =
        let z = (known.table).bounds_of n e f within is in
        let l = loop_by known z.1 in
        let c = as_counted P l.all (bounds_mean known l (ap (node P) low ∙ is)) in
        own is (λ g. cc)
        (subst (Live S number run a) (sym (ap (region P) (sym low) ∙ bounds_region P known (n + 2) l c)) live)
      where
        low : bounds_row (n + 2) ≡ n
        low = omega arith

    count_in : node P n ≡ Count → LoopOf P (block P n)
    count_in is = loop_of_row known Count within is refl

    tests_block : {t : ℕ} (part : ℕ) (p : Port) → Tests P n t → Tells S number run a (topic_at P n part p) v
        → InBlock a (block P n)
    tests_block part Zero (of_arms is) h = own is (λ e. cc) (at_node part Zero is h).live
    tests_block part One (of_arms is) h =
        own is (λ e. cc) (split_live (region P n) (imports_of P n) part (at_node part One is h))
    tests_block part Zero (of_turns is) h = own is (λ e. cc) (at_node part Zero is h).live
    tests_block part One (of_turns is) h =
        own is (λ e. cc) (handed_live (region P n) (imports_of P n) part (at_node part One is h))

    -- a message for a part of a row tells that the context was opened for the row's block
    pub part_block : {part : ℕ} {o : Form} (p : Port) → Does P n part o → (node P n ≡ Program → ⊥)
        → Tells S number run a (topic_at P n part p) v → InBlock a (block P n)
    part_block p (starts is) other h = head_block (node P n) p refl is h
    part_block Zero (returns is) other h = return_block (at_node 1 Zero is h).returns
    part_block One (returns is) other h = body_block within is (at_node 1 One is h).live
    part_block Zero (enters is) other h = own is (λ e. cc) (at_node 0 Zero is h).0
    part_block One (enters is) other h = absurd (at_node 0 One is h)
    part_block Zero (constant is) other h = own is (λ e. cc) (at_node 0 Zero is h).1
    part_block One (constant is) other h = absurd (at_node 0 One is h)
    part_block Zero (unary {a = e} is) other h = near e is (λ e. cc) refl (at_node 0 Zero is h).0
    part_block One (unary is) other h = absurd (at_node 0 One is h)
    part_block Zero (binary {a = e} is) other h = near e is (λ e. cc) (inl refl) (at_node 0 Zero is h).0
    part_block One (binary {b = e} is) other h = near e is (λ e. cc) (inr refl) (at_node 0 One is h).0
    part_block p (turns_on is) other h = tests_block 0 p is h
    part_block p (hands k is less) other h = tests_block (suc k) p is h
    part_block Zero (joins is) other h = own is (λ e. cc) (at_node 0 Zero is h).0
    part_block One (joins is) other h = absurd (at_node 0 One is h)
    part_block Zero (opens (of_call is)) other h = own is (λ e. cc) (at_node 0 Zero is h).1
    part_block One (opens (of_call is)) other h = absurd (at_node 0 One is h)
    part_block Zero (opens (of_loop is)) other h = own is (λ e. cc) (at_node 0 Zero is h).1
    part_block One (opens (of_loop is)) other h = absurd (at_node 0 One is h)
    part_block Zero (passes {e = e} is) other h = near e is (λ e. cc) (inl refl) (at_node 0 Zero is h).live
    part_block One (passes {v = e} is) other h = near e is (λ e. cc) (inr refl) (at_node 0 One is h).0
    part_block Zero (gets is) other h = own is (λ e. cc) (at_node 0 Zero is h).0
    part_block One (gets is) other h = absurd (at_node 0 One is h)
    part_block Zero (names {a = e} is) other h = near e is (λ e. cc) refl (at_node 0 Zero is h).0
    part_block One (names is) other h = absurd (at_node 0 One is h)
    part_block Zero (sends_in k q is at) other h = own is (λ e. cc) (at_node (suc k) Zero is h).live
    part_block One (sends_in k q is at) other h = sent_block k is h
    part_block Zero (gives_back is) other h = return_block (at_node 1 Zero is h).returns
    part_block One (gives_back is) other h = last_block within is (at_node 1 One is h).live
    part_block Zero (varies is) other h = own is (λ e. cc) (at_node 0 Zero is h).0
    part_block One (varies is) other h = absurd (at_node 0 One is h)
    part_block Zero (takes_in k is less) other h = own is (λ e. cc) (at_node k Zero is h).0
    part_block One (takes_in k is less) other h = absurd (at_node k One is h)
    part_block Zero (moves_on is) other h = further_block 0 is h
    part_block One (moves_on is) other h = absurd (at_node 0 One is h)
    part_block Zero (moves_name k is less) other h = further_block (suc k) is h
    part_block One (moves_name k is less) other h = absurd (at_node (suc k) One is h)
    part_block Zero (advances {v = e} is) other h = near e is (λ e. cc) (inr refl) (at_node 0 Zero is h).0
    part_block One (advances is) other h = absurd (at_node 0 One is h)
    part_block Zero (resets {v = e} is) other h = near e is (λ e. cc) refl (at_node 0 Zero is h).0
    part_block One (resets is) other h = absurd (at_node 0 One is h)
    part_block Zero (gets_last is) other h = own is (λ e. cc) (at_node 0 Zero is h).0
    part_block One (gets_last is) other h = absurd (at_node 0 One is h)
    part_block Zero (allocates {a = e} is) other h = near e is (λ e. cc) (inl refl) (at_node 0 Zero is h).0
    part_block One (allocates {b = e} is) other h = near e is (λ e. cc) (inr refl) (at_node 0 One is h).0
    part_block Zero (addresses {t = e} (of_fetch is)) other h = near e is (λ e. cc) (inl refl) (at_node 0 Zero is h).0
    part_block One (addresses {i = e} (of_fetch is)) other h = near e is (λ e. cc) (inr refl) (at_node 0 One is h).0
    part_block Zero (addresses {t = e} (of_store is)) other h = near e is (λ e. cc) (inl refl) (at_node 0 Zero is h).0
    part_block One (addresses {i = e} (of_store is)) other h = near e is (λ e. cc) (inr refl) (at_node 0 One is h).0
    part_block Zero (fetches is) other h = own is (λ e. cc) (at_node 1 Zero is h).live
    part_block One (fetches is) other h = absurd (at_node 1 One is h)
    part_block Zero (gets_reply is) other h = own is (λ e. cc) (at_node 2 Zero is h).0
    part_block One (gets_reply is) other h = absurd (at_node 2 One is h)
    part_block Zero (stores {a = e} is) other h = near e is (λ e. cc) (inl refl) (at_node 0 Zero is h).live
    part_block One (stores {v = e} is) other h = near e is (λ e. cc) (inr refl) (at_node 0 One is h).0
    part_block Zero (bounds_meet {a = e} is) other h = near e is (λ e. cc) (inl refl) (at_node 0 Zero is h).0
    part_block One (bounds_meet {b = e} is) other h = near e is (λ e. cc) (inr refl) (at_node 0 One is h).0
    part_block Zero (begins_index is) other h = bounds_block is (at_node 1 Zero is h).0
    part_block One (begins_index {a = e} is) other h = near e is (λ e. cc) (inl refl) (at_node 1 One is h).0
    part_block Zero (carries is) other h = carried_block is h
    part_block One (carries is) other h = absurd (at_node 0 One is h)
    part_block Zero (meets_bound is) other h = body_live (at_node 0 Zero is h).0 (count_in is)
    part_block One (meets_bound is) other h = own is (λ e. cc) (at_node 0 One is h).0
    part_block Zero (goes_further is) other h = body_live ((at_node 1 Zero is h).0.live) (count_in is)
    part_block One (goes_further is) other h = own is (λ e. cc) (at_node 1 One is h).1
    part_block Zero (hands_index is) other h = body_live ((at_node 2 Zero is h).0.live) (count_in is)
    part_block One (hands_index is) other h = body_live (at_node 2 One is h).0 (count_in is)
    part_block Zero (has_one is) other h = body_live ((at_node 3 Zero is h).1.live) (count_in is)
    part_block One (has_one is) other h = absurd (at_node 3 One is h)
    part_block Zero (adds_one is) other h = body_live ((at_node 4 Zero is h).counts.live) (count_in is)
    part_block One (adds_one is) other h = body_live ((at_node 4 One is h).1.live) (count_in is)
    part_block p (answers is) other h = absurd (other is)

  -- ---- of one context

  module _ (g : Parts) (numbered : Numbered P g number) (apart : ContextsApart run) where
    -- a context was opened for one block
    pub one_block : {c : Context} {h h' : ℕ} → OpenedFor S number run c h → OpenedFor S number run c h' → h ≡ h'
    one_block (for_main e is) (for_main e' is') = is ∙ sym is'
    one_block (for_main e is) (for_begun within begins live o) =
        absurd (not_main S known g number numbered run apart o e)
    one_block (for_begun within begins live o) (for_main e is) =
        absurd (not_main S known g number numbered run apart o e)
    one_block {h' = h'} (for_begun within begins live o) (for_begun {q = q'} within' begins' live' o') =
        let one = one_opening S known g number numbered run apart within within' begins begins' o o' refl in
        (one_head begins (subst (λ z. Begins P z h' q') (sym one.1) begins')).0

    -- ---- the answer

    -- what a loop carries on is no row of the answer
    no_carried : {g : ℕ} (l : LoopOf P g) (c : IsCounted P l.all) (k : ℕ) → k < 3 → node P (g + 1 + k) ≡ Program → ⊥
    no_carried {g} l c zero few e =
        let at : g + 1 + 0 ≡ g + 1 =
        omega arith in let bad : Carried kinds.Int ≡ Program = sym c.entry ∙ sym (ap (node P) at) ∙ e in cc
    no_carried {g} l c (suc zero) few e =
        let at : g + 1 + 1 ≡ g + 2 =
        omega arith in let bad : Carried kinds.Int ≡ Program = sym c.bound ∙ sym (ap (node P) at) ∙ e in cc
    no_carried {g} l c (suc (suc zero)) few e =
        let at : g + 1 + 2 ≡ g + 3 =
        omega arith in let bad : Carried kinds.Bool ≡ Program = sym c.flag ∙ sym (ap (node P) at) ∙ e in cc
    no_carried l c (suc (suc (suc k))) few e = absurd (omega (arith, few))

    -- what goes into a context goes to no row of the answer
    sent_apart : {m k i n part : ℕ} → SendsTo P m k i n part → node P n ≡ Program → ⊥
    sent_apart (of_argument {e = e} {k = k} {v = v} within is) end =
        let b = param_of P e k in
        let x = a_param (rows P) (called P e) (length (rows P)) b
        (Among-from_at b (params_at (rows P) (called P e)) k (known.passed _ e k v within is).0) in
        let bad : Param (x.param).name (x.param).kind ≡ Program = sym (x.param).is ∙ end in
        cc
    sent_apart {m = m} (of_entry k q within is at) end = by (given_as P (m + 1) k q at)
      where
        by : GivenAs P (m + 1) k q → ⊥
        by (as_carried has few entry) =
            let l = loop_of_start known within is in
            let c = as_counted P l.all has in
            no_carried l c k few (sym (ap (λ (z : Entry). node P z.row) entry) ∙ end)
        by (as_first w j less at_w low high here count entry first) =
            let bad : Variable ≡ Program = sym at_w ∙ sym (ap (λ (z : Entry). node P z.row) entry) ∙ end in
            cc
        by (as_import j less here entry there) =
            let l = loop_of_start known within is in
            let bad : Entries ≡ Program = sym (entries_node P (m + 1) ((m + 1) - 1) l.within l.head)
            ∙ sym (ap (λ (z : Entry). node P z.row) entry) ∙ end in
            cc

    no_head : (n : ℕ) → begins_block (node P n) ≡ true → node P n ≡ Program → ⊥
    no_head n e is = true_false (sym e ∙ ap begins_block is)

    -- what comes to the answer comes under main's activation
    pub answer_main : {e : Event} {a : Activation} {n part : ℕ} {p : Port} {v : Value} → Way S number run e a n part p v
        → node P n ≡ Program → a ≡ main_activation
    answer_main (by_arc a s n part p v feeds x at) is = absurd (answer_unfed is feeds)
    answer_main (by_move a s k n part p v feeds x at) is = absurd (answer_unfed is feeds)
    answer_main (by_send a c m j i n part v sends o x at) is = absurd (sent_apart sends is)
    answer_main (by_enter a i h q c within begins x at) is = absurd (no_head h (begun_at known within begins).head is)
    answer_main (by_continuation a i h q c within begins x at) is =
        absurd (no_head h (begun_at known within begins).head is)
    answer_main (by_back c h a n v back x at) is = by back is
      where
        by : {c : Context} {h : ℕ} {a : Activation} {n : ℕ} → ReturnsTo S number run c h a n → node P n ≡ Program
            → a ≡ main_activation
        by to_answer is = refl
        by (to_row within begins live opened) is =
            absurd (true_false (sym (begun_at known within begins).expression ∙ ap is_expression is))
    answer_main (by_reply a n t i v within fetch replies) is =
        absurd (let bad : Fetch t i ≡ Program = sym fetch ∙ is in cc)
