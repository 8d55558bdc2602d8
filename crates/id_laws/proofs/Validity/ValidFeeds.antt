-- Each port of a graph of the schemas is fed: by an arc unless it needs none, and by several only at a merge.
use Rattle.std.proofs.Common.{◌≡◌, ◌⊎◌, inl, inr, ℕ, zero, suc, ◌+◌, ◌-◌, ◌<◌, ◌≤◌}
use Rattle.std.proofs.Common.{◌==◌, ◌&&◌, ◌||◌, Bool, true, false, cond, Some, List, [], ◌∷◌, get_or}
use Rattle.std.proofs.Common.{length, map, slice_get, refl, sym, ◌∙◌, ap, subst, arith, length-append}
use Rattle.std.specs.Prelude.{if◌then◌else◌}
use Rattle.std.specs.Option.{IsSome}
use Rattle.std.specs.List.{count_by}
use Rattle.std.proofs.lemmas.List.Sums.{sum_by-append}
use Rattle.std.proofs.lemmas.Bool.{cases_lt}
use Rattle.id_value.specs.declared.Kind.{Kind}
use Rattle.id_value.specs.List.{Among}
use Rattle.id_value.proofs.AmongLemmas.{Among-map, Among-left, Among-right, Among-either, Among-from_at}
use Rattle.id_table.specs.declared.row.Row.{Row}
use Rattle.id_table.specs.declared.row.Node.{Node}
use Rattle.id_table.specs.declared.row.Node.TheVariants.{Head, Param, Literal, Unary as UnaryNode, Binary as BinaryNode}
use Rattle.id_table.specs.declared.row.Node.TheVariants.{Split, If, Binding, Program, Enter as EnterNode, Arg, Call}
use Rattle.id_table.specs.declared.row.Node.TheVariants.{Start, LoopHead, Variable, Entries, Switches, Turn}
use Rattle.id_table.specs.declared.row.Node.TheVariants.{Next as NextNode, Reset as ResetNode, Loop, Def, Array, Fetch}
use Rattle.id_table.specs.declared.row.Node.TheVariants.{Address, Store, Bounds, Carried, Count}
use Rattle.id_table.specs.Rows.{at}
use Rattle.id_table.specs.Tables.{begins_block, is_param}
use Rattle.id_table.specs.Turns.{params_at}
use Rattle.id_table.specs.Loops.{IsLoopOf}
use Rattle.id_table.specs.declared.row.Region.{Region}
use Rattle.id_check.specs.declared.checked.Checked.{Checked}
use Rattle.id_check.specs.Programs.{region, rows}
use Rattle.id_instr.specs.declared.dests.Port.{Port}
use Rattle.id_instr.specs.declared.dests.Port.TheVariants.{Zero, One}
use Rattle.id_instr.specs.declared.dests.Dest.{Dest}
use Rattle.id_instr.specs.declared.instr.Op.{Op}
use Rattle.id_instr.specs.declared.instr.Op.TheVariants.{Const, Unary, Binary, Merge, Switch, Back, Enter, Send, Next}
use Rattle.id_instr.specs.declared.instr.Op.TheVariants.{Reset, Alloc, Address as AddressOp, Fetch as FetchOp}
use Rattle.id_instr.specs.declared.instr.Op.TheVariants.{Store as StoreOp}
use Rattle.id_instr.specs.declared.instr.Instr.{Instr}
use Rattle.id_instr.specs.declared.instr.Block.{Block}
use Rattle.id_instr.specs.Ports.{port_kind, two_sides}
use Rattle.id_instr.specs.Graph.{Parts, arcs, arcs_on, false_arcs}
use Rattle.id_build.specs.declared.arc.Origin.{Origin}
use Rattle.id_desugar.specs.Ends.{end_of, next_of}
use Rattle.id_desugar.specs.Regions.{carried, has_index, imports_of}
use Rattle.id_build.specs.Rows.{node, answer_row, body_of, name_in, feed, feeds_of, origin, trigger_of, called, op_by}
use Rattle.id_build.specs.Rows.{output, Entry, block, entering, entries, entry_feeds, import_feeds, loop_entries}
use Rattle.id_build.specs.Rows.{param_entry, part_of, turn_feeds, turn_row, bounds_feeds, carried_feeds, entries_by}
use Rattle.id_build.specs.declared.arc.Feed.{Feed}
use Rattle.id_build.specs.Schemas.{Feeds, HasSide, Numbered, Sends, block_of}
use Rattle.id_valid.specs.Roles.{op_at, merge_kind, is_first, is_second, is_entry, is_reply, replies_to, same_port}
use Rattle.id_valid.specs.Roles.{is_dest, arcs_into, needs_no_arc}
use Rattle.id_valid.specs.Validator.{IsFed}
use Rattle.id_laws.specs.Activations.{Tests, of_arms, of_turns, Begins, of_call, of_loop}
use Rattle.id_laws.specs.Topics.{Addresses, of_fetch, of_store, IsPart}
use Rattle.id_laws.proofs.Rows.Arcs.{Does, starts, returns, enters, constant, unary, binary, turns_on, hands, joins}
use Rattle.id_laws.proofs.Rows.Arcs.{names}
use Rattle.id_laws.proofs.Rows.Arcs.{answers, makes, sends_in, gives_back, varies, takes_in, moves_on, moves_name}
use Rattle.id_laws.proofs.Rows.Arcs.{advances}
use Rattle.id_laws.proofs.Rows.Arcs.{resets, gets_last, allocates, addresses, fetches, bounds_meet, begins_index}
use Rattle.id_laws.proofs.Rows.Arcs.{carries}
use Rattle.id_laws.proofs.Rows.Arcs.{meets_bound, goes_further, hands_index, has_one, adds_one, turned, carries_on}
use Rattle.id_laws.proofs.Rows.Arcs.{none_carried, three_carried, gets_reply, stores, target_part, opens, passes, gets}
use Rattle.id_laws.proofs.Rows.Feeders.{FromArm, import_listed, imports_fed, one_feed}
use Rattle.id_laws.proofs.Rows.Blocks.{all_listed, param_listed}
use Rattle.id_laws.proofs.Rows.LoopRows.{entered_as}
use Rattle.id_build.proofs.EndsLemmas.{loop_same, not_last}
use Rattle.id_build.proofs.LoopsLemmas.{switches_high, switches_low}
use Rattle.id_laws.proofs.Rows.Loops.{counted_of, loop_of_start}
use Rattle.id_laws.proofs.Rows.Assumed.{IsKnown}
use Rattle.id_laws.proofs.Rows.Tokens.{one_part}
use Rattle.id_laws.proofs.Validity.ValidCounts.{any_among, sum_at, sum_once, count_among, count_some, count_once}
use Rattle.id_laws.proofs.Validity.ValidTests.{same_number, second_of, third_of, fourth_of, still, or_last, dest}
use Rattle.id_laws.proofs.Validity.ValidTests.{is_dest-itself, dest_is}
use Rattle.id_build.specs.declared.arc.Form.{Form}
use Rattle.id_laws.proofs.Rows.Calls.{enter_at}
use Rattle.id_laws.proofs.Validity.ValidRoles.{block_among, entry_there, stands}

true_false : true ≡ false → ⊥
true_false h = cc

-- what has a false side has two
false_side : (o : Op) → HasSide o false → two_sides o ≡ true
false_side (Switch k) h = refl
false_side (Back k) h = absurd h
false_side (Const v) h = absurd (true_false (sym h))
false_side (Unary f) h = absurd (true_false (sym h))
false_side (Binary f) h = absurd (true_false (sym h))
false_side (Enter b r) h = absurd (true_false (sym h))
false_side (Send k t) h = absurd h
false_side (Merge k) h = absurd (true_false (sym h))
false_side (Next k) h = absurd (true_false (sym h))
false_side (Reset k) h = absurd (true_false (sym h))
false_side (Alloc nested) h = absurd (true_false (sym h))
false_side (AddressOp nested) h = absurd (true_false (sym h))
false_side (FetchOp nested r) h = absurd h
false_side (StoreOp nested) h = absurd h

-- what is on a side that an operator has counts
side_counts : (i : Instr) (d : Dest) (b : Bool) → HasSide i.op b → Among d (arcs_on b i) → Among d (arcs i)
side_counts i d true h among = Among-left d (arcs_on true i) (false_arcs i) among
side_counts i d false h among =
    Among-right d (arcs_on true i) (false_arcs i)
    (subst (λ t. Among d (cond t (arcs_on false i) [])) (sym (false_side i.op h)) among)

of_false : (t : Bool) (ds : List Dest) (d : Dest) → Among d (cond t ds []) → Among d ds
of_false true ds d h = h
of_false false ds d h = absurd h

-- and what counts is on a side
pub counts_side : (i : Instr) (d : Dest) → Among d (arcs i) → (b : Bool) × Among d (arcs_on b i)
counts_side i d h =
    elim (Among-either d (arcs_on true i) (false_arcs i) h) [
      | inl k ↦ (true, k)
      | inr k ↦ (false, of_false (two_sides i.op) (arcs_on false i) d k)
    ]

no_program : {x : ℕ} {k : Kind} → Param x k ≡ Program → ⊥
no_program h = cc

-- what feeds the port of the part of the row n
record HasFeed (P : Checked) (n part : ℕ) (p : Port) : Type 0 where
  from : Origin
  feeds : Feeds P from n part p

feeds_at : (P : Checked) (s : Origin) (n part : ℕ) (p : Port) (m : Node) → n < length (rows P) → node P n ≡ m
    → Among (feed s part p) (feeds_of P n (region P n) m) → HasFeed P n part p
feeds_at P s n part p m within is h =
    let among = subst (λ z. Among (feed s part p) (feeds_of P n (region P n) z)) (sym is) h in
    record { from = s; feeds = record { within = within; among = among } }

module _ (P : Checked) (known : IsKnown P) (g : Parts) (number : ℕ → ℕ → ℕ) (numbered : Numbered P g number) where
  abbrev R : List Row
  R = rows P

  -- the port needs no arc, or the schemas have one into it
  Served : ℕ → ℕ → Port → Type 0
  Served n part p = (needs_no_arc g (number n part) p ≡ true) ⊎ HasFeed P n part p

  answer_served : (n : ℕ) (p : Port) → n < length R → node P n ≡ Program → needs_no_arc g (number n 0) p ≡ true
  answer_served n p within is =
      let last = (known.table).ends_once n within is in
      let row : n ≡ answer_row P = omega (arith, last) in
      let free : (number n 0 == 0) ≡ true =
      same_number (number n 0) 0 (ap (λ z. number z 0) row ∙ numbered.answer_first) in
      rw free refl

  first_served : (n : ℕ) (p : Port) → n < length R → begins_block (node P n) ≡ true
      → needs_no_arc g (number n 0) p ≡ true
  first_served n p within is =
      let k = number n 0 in
      still (is_reply g k)
      (second_of (k == 0) (is_first g k) (is_entry g k) (is_second g k && same_port p Zero)
      (any_among (λ (b : Block). b.first == k) (block_of P number n) g.blocks
      (block_among P known g number numbered n within is) (same_number k k refl)))

  second_served : (n : ℕ) → n < length R → begins_block (node P n) ≡ true → needs_no_arc g (number n 1) Zero ≡ true
  second_served n within is =
      let k = number n 1 in
      let second : is_second g k ≡ true =
      any_among (λ (b : Block). b.first + 1 == k) (block_of P number n) g.blocks
      (block_among P known g number numbered n within is)
      (same_number (number n 0 + 1) k (sym (numbered.second_behind n (all_listed P n within is)))) in
      still (is_reply g k)
      (fourth_of (k == 0) (is_first g k) (is_entry g k) (is_second g k && same_port Zero Zero) (rw second refl))

  -- a parameter stands in the block of a procedure
  param_block : (b x : ℕ) (k : Kind) → b < length R → node P b ≡ Param x k
      → (block P b < length R) × (node P (block P b) ≡ Head)
  param_block b x k within is =
      let t = known.table in
      let d = t.def_of b (not_last P t b within (λ e. no_program (sym is ∙ e))) in
      let ps = t.params d.row d.head d.def in
      let head = (t.head_is d.row (d.def).name d.head (d.def).body (d.def).result (d.def).within (d.def).node).0 in
      let above : d.head < b = (by_cases d.head b d.low (λ e. no_head (sym (ap (node P) e ∙ is) ∙ head))) in
      let below : b < d.row = (by_cases b d.row d.high (λ e. no_def (sym is ∙ ap (node P) e ∙ (d.def).node))) in
      let few : b ≤ d.head + ps.count = elim (cases_lt (d.head + ps.count) b) [
        | inl k ↦ absurd (true_false (sym (ap is_param is) ∙ ps.rest b k below))
        | inr k ↦ k
      ] in
      let here : block P b ≡ d.head = ps.block b above few in
      let low : d.head < length R = omega (arith, above, within) in
      (omega (arith, here, low), ap (node P) here ∙ head)
    where
      no_head : Param x k ≡ Head → ⊥
      no_head e = cc

      no_def : {y h c : ℕ} {j : Kind} → Param x k ≡ Def y h j c → ⊥
      no_def e = cc

      by_cases : (i j : ℕ) → i ≤ j → (i ≡ j → ⊥) → i < j
      by_cases i j l other = omega (arith, l, other)

  entry_served : (b x : ℕ) (k : Kind) → b < length R → node P b ≡ Param x k → needs_no_arc g (number b 0) Zero ≡ true
  entry_served b x k within is =
      let n = number b 0 in
      let h = block P b in
      let z = param_block b x k within is in
      let listed : Among (param_entry b) (map param_entry (params_at R h)) = Among-map param_entry b (params_at R h)
      (param_listed R h (length R) b x k within is refl) in
      let among : Among (param_entry b) (entries P h) =
      subst (λ m. Among (param_entry b) (entries_by P h m)) (sym z.1) listed in
      let entry : is_entry g n ≡ true =
      entry_there P known g number numbered h (param_entry b) z.0 (ap begins_block z.1) among in
      still (is_reply g n)
      (third_of (n == 0) (is_first g n) (is_entry g n) (is_second g n && same_port Zero Zero) entry)

  -- what a fetch gives comes as a reply, since it names its merge
  reply_served : (n t i : ℕ) (p : Port) → n < length R → node P n ≡ Fetch t i → needs_no_arc g (number n 2) p ≡ true
  reply_served n t i p within is =
      let k = number n 2 in
      let m = numbered.made n 1 _ _ (makes within (fetches is)) in
      let reply : is_reply g k ≡ true =
      any_among (λ (i : Instr). replies_to i.op k) m.instr g.instrs (Among-from_at m.instr g.instrs (number n 1) m.at)
      (ap (λ o. replies_to o k) m.op ∙ same_number k k refl) in
      or_last ((k == 0) || is_first g k || is_entry g k || (is_second g k && same_port p Zero)) reply

  call_served : (n e c : ℕ) (p : Port) → n < length R → node P n ≡ Call e c → needs_no_arc g (number n 0) p ≡ true
  call_served n e c p within is =
      let k = number n 0 in
      let z = enter_at known within is in
      let m = numbered.made e 0 _ _ (makes z.within (opens (of_call z.node))) in
      let op_is : (m.instr).op ≡ Enter (number (called P e) 0) k =
      m.op ∙ ap (λ q. Enter (number (called P e) 0) (number q 0)) z.ends in
      let reply : is_reply g k ≡ true =
      any_among (λ (i : Instr). replies_to i.op k) m.instr g.instrs (Among-from_at m.instr g.instrs (number e 0) m.at)
      (ap (λ o. replies_to o k) op_is ∙ same_number k k refl) in
      or_last ((k == 0) || is_first g k || is_entry g k || (is_second g k && same_port p Zero)) reply

  -- what a loop gives comes as a reply, since its `Start` names it
  loop_served : (n h w l : ℕ) (p : Port) → n < length R → node P n ≡ Loop h w l → needs_no_arc g (number n 0) p ≡ true
  loop_served n h w l p within is =
      let k = number n 0 in
      let t = known.table in
      let c : IsLoopOf R n h = record { switches = w; last = l; within = within; node = is } in
      let x = t.loop_is n h c in
      let s = x.start in
      let low = switches_low x in
      let high = switches_high x in
      let less : s < length R = omega (arith, x.begins, low, high, within) in
      let ends : end_of P (s + 1) ≡ n = ap (end_of P) x.begins ∙ loop_same P t n h c in
      let m = numbered.made s 0 _ _ (makes less (opens (of_loop (x.start_of).node))) in
      let op_is : (m.instr).op ≡ Enter (number (s + 1) 0) k =
      m.op ∙ ap (λ q. Enter (number (s + 1) 0) (number q 0)) ends in
      let reply : is_reply g k ≡ true =
      any_among (λ (i : Instr). replies_to i.op k) m.instr g.instrs (Among-from_at m.instr g.instrs (number s 0) m.at)
      (ap (λ o. replies_to o k) op_is ∙ same_number k k refl) in
      or_last ((k == 0) || is_first g k || is_entry g k || (is_second g k && same_port p Zero)) reply

  -- the feeds of a loop's entries, of the sends to these, and of what hands imports on
  entry_listed : (w i j : ℕ) (bs : List ℕ) (k : ℕ) → k < length bs
      → Among (feed (part_of w (i + k)) (j + k) Zero) (entry_feeds w i j bs)
  entry_listed w i j [] k h = absurd (omega (arith, h))
  entry_listed w i j (b ∷ bs) zero h =
      let at : i + 0 ≡ i = omega arith in
      let there : j + 0 ≡ j = omega arith in
      inl (λ z. feed (part_of w (at z)) (there z) Zero)
  entry_listed w i j (b ∷ bs) (suc k) h =
      let at : (i + 1) + k ≡ i + suc k = omega arith in
      let there : (j + 1) + k ≡ j + suc k = omega arith in
      inr (subst (λ (z : ℕ × ℕ). Among (feed (part_of w z.0) z.1 Zero) (entry_feeds w (i + 1) (j + 1) bs)) {x =
      ((i + 1) + k, (j + 1) + k)}
      {y = (i + suc k, j + suc k)} (λ z. (at z, there z)) (entry_listed w (i + 1) (j + 1) bs k (omega (arith, h))))

  entry_fed : (n k : ℕ) → n < length R → node P n ≡ Entries → k < length (imports_of P (block P n)) → HasFeed P n k Zero
  entry_fed n k within is less =
      let w = turn_row P (block P n) in
      let bs = imports_of P (block P n) in
      let j = 1 + carries_on P (block P n) in
      let at : 0 + k ≡ k = omega arith in
      feeds_at P (part_of w (j + k)) n k Zero Entries within is
      (subst (λ m. Among (feed (part_of w (j + k)) m Zero) (entry_feeds w j 0 bs)) at (entry_listed w j 0 bs k less))

  turn_listed : (r : Region) (j : ℕ) (bs : List ℕ) (k : ℕ) → k < length bs
      → Among (feed (name_in P r (get_or bs k 0)) (j + k) Zero) (turn_feeds P r j bs)
  turn_listed r j [] k h = absurd (omega (arith, h))
  turn_listed r j (b ∷ bs) zero h = let at : j + 0 ≡ j = omega arith in inl (λ i. feed (name_in P r b) (at i) Zero)
  turn_listed r j (b ∷ bs) (suc k) h =
      let at : (j + 1) + k ≡ j + suc k = omega arith in
      inr (subst (λ m. Among (feed (name_in P r (get_or bs k 0)) m Zero) (turn_feeds P r (j + 1) bs)) at
      (turn_listed r (j + 1) bs k (omega (arith, h))))

  -- what hands on what the loop carries on, and its imports
  carried_turns : (n k : ℕ) → n < length R → node P n ≡ Turn → has_index P (block P n) ≡ true → k < 3
      → HasFeed P n (suc k) Zero
  carried_turns n k within is has less = go k less
    where
      h : ℕ
      h = block P n

      first : List Feed
      first = carried_feeds P n (region P n) h

      rest : List Feed
      rest = turn_feeds P (region P n) (1 + carries_on P h) (imports_of P h)

      three : List Feed
      three = feed (part_of (n - 1) 4) 1 Zero ∷ feed (name_in P (region P n) (h + 2)) 2 Zero
          ∷ feed (output (n - 1)) 3 Zero ∷ []

      by : (s : Origin) (part : ℕ) → Among (feed s part Zero) three → HasFeed P n part Zero
      by s part among =
          feeds_at P s n part Zero Turn within is
          (inr (Among-left (feed s part Zero) first rest
          (subst (λ (t : Bool). Among (feed s part Zero) (if t then three else [])) (sym has) among)))

      go : (j : ℕ) → j < 3 → HasFeed P n (suc j) Zero
      go zero l = by (part_of (n - 1) 4) 1 (inl refl)
      go (suc zero) l = by (name_in P (region P n) (h + 2)) 2 (inr (inl refl))
      go (suc (suc zero)) l = by (output (n - 1)) 3 (inr (inr (inl refl)))
      go (suc (suc (suc j))) l = absurd (omega (arith, l))

  turn_fed : (n k : ℕ) → n < length R → node P n ≡ Turn → k < length (turned P (block P n)) → HasFeed P n (suc k) Zero
  turn_fed n k within is less =
      elim (cases_lt k (carries_on P h)) [
        | inl early ↦ among_three (has_index P h) refl early
        | inr late ↦
            let j = k - carries_on P h in
            let few : j < length bs = omega (arith, late, less, length-append (carried P h) bs) in
            let at : (1 + carries_on P h) + j ≡ suc k = omega (arith, late) in
            let s = name_in P (region P n) (get_or bs j 0) in
            let first = carried_feeds P n (region P n) h in
            let rest = turn_feeds P (region P n) (1 + carries_on P h) bs in
            feeds_at P s n (suc k) Zero Turn within is
            (inr (Among-right (feed s (suc k) Zero) first rest
            (subst (λ m. Among (feed s m Zero) rest) at (turn_listed (region P n) (1 + carries_on P h) bs j few))))
      ]
    where
      h : ℕ
      h = block P n

      bs : List ℕ
      bs = imports_of P h

      among_three : (t : Bool) → has_index P h ≡ t → k < carries_on P h → HasFeed P n (suc k) Zero
      among_three true has early =
          let three : carries_on P h ≡ 3 = ap length (three_carried P h has) in
          carried_turns n k within is has (omega (arith, early, three))
      among_three false none early =
          let no : carries_on P h ≡ 0 = ap length (none_carried P h none) in
          absurd (omega (arith, early, no))

  -- the sends to the entries of what it carries on
  carried_sends : (n k : ℕ) → n < length R → node P n ≡ Start → has_index P (n + 1) ≡ true → k < 3
      → HasFeed P n (suc k) Zero × HasFeed P n (suc k) One
  carried_sends n k within is has less =
      let l = loop_of_start known within is in
      let c = counted_of P l.all has in
      let row : c.row ≡ n - 1 = omega (arith, c.before, (l.all).begins) in
      go (c.bounds).lower (c.bounds).upper (ap (node P) (sym row) ∙ (c.bounds).node) k less
    where
      rest : List Feed
      rest = import_feeds P (output n) (region P n) (1 + carries_on P (n + 1)) (entering P (n + 1))

      by : {a b : ℕ} (s : Origin) (part : ℕ) (p : Port) → node P (n - 1) ≡ Bounds a b
          → Among (feed s part p) (bounds_feeds P n (Bounds a b)) → HasFeed P n part p
      by s part p at among =
          feeds_at P s n part p Start within is
          (inr (Among-left (feed s part p) (bounds_feeds P n (node P (n - 1))) rest
          (subst (λ m. Among (feed s part p) (bounds_feeds P n m)) (sym at) among)))

      go : (a b : ℕ) → node P (n - 1) ≡ Bounds a b → (j : ℕ) → j < 3
          → HasFeed P n (suc j) Zero × HasFeed P n (suc j) One
      go a b at zero l = (by (output n) 1 Zero at (inl refl), by (part_of (n - 1) 1) 1 One at (inr (inl refl)))
      go a b at (suc zero) l =
          (by (output n) 2 Zero at (inr (inr (inl refl))), by (origin P b) 2 One at (inr (inr (inr (inl refl)))))
      go a b at (suc (suc zero)) l = (
        by (output n) 3 Zero at (inr (inr (inr (inr (inl refl))))),
        by (output (n - 1)) 3 One at (inr (inr (inr (inr (inr (inl refl)))))),
      )
      go a b at (suc (suc (suc j))) l = absurd (omega (arith, l))

  send_fed : (n k : ℕ) (q : Entry) → n < length R → node P n ≡ Start → slice_get (loop_entries P (n + 1)) k ≡ Some q
      → HasFeed P n (suc k) Zero × HasFeed P n (suc k) One
  send_fed n k q within is there =
      elim (cases_lt k (carries_on P h)) [
        | inl early ↦ among_three (has_index P h) refl early
        | inr late ↦
            let j = k - carries_on P h in
            let less = (entered_as P h k q there).less in
            let few : j < length bs = omega (arith, late, less, length-append (carried P h) bs) in
            let at : (1 + carries_on P h) + j ≡ suc k = omega (arith, late) in
            let s = name_in P (region P n) (get_or bs j 0) in
            let first = bounds_feeds P n (node P (n - 1)) in
            let rest = import_feeds P (output n) (region P n) (1 + carries_on P h) bs in
            let listed = import_listed P (output n) (region P n) (1 + carries_on P h) bs j few in (
              feeds_at P (output n) n (suc k) Zero Start within is
                  (inr (Among-right (feed (output n) (suc k) Zero) first rest
                  (subst (λ m. Among (feed (output n) m Zero) rest) at listed.0))),
              feeds_at P s n (suc k) One Start within is
                  (inr (Among-right (feed s (suc k) One) first rest
                  (subst (λ m. Among (feed s m One) rest) at listed.1))),
            )
      ]
    where
      h : ℕ
      h = n + 1

      bs : List ℕ
      bs = entering P h

      among_three : (t : Bool) → has_index P h ≡ t → k < carries_on P h
          → HasFeed P n (suc k) Zero × HasFeed P n (suc k) One
      among_three true has early =
          let three : carries_on P h ≡ 3 = ap length (three_carried P h has) in
          carried_sends n k within is has (omega (arith, early, three))
      among_three false none early =
          let no : carries_on P h ≡ 0 = ap length (none_carried P h none) in
          absurd (omega (arith, early, no))

  -- what feeds the switches of a trigger, and what makes a context
  test_fed : (n t : ℕ) → n < length R → Tests P n t → HasFeed P n 0 Zero × HasFeed P n 0 One
  test_fed n t within (of_arms is) = (
    feeds_at P (origin P t) n 0 Zero (Split t) within is (inl refl),
    feeds_at P (trigger_of (region P n)) n 0 One (Split t) within is (inr (inl refl)),
  )
  test_fed n t within (of_turns is) = (
    feeds_at P (origin P t) n 0 Zero (Switches t) within is (inl refl),
    feeds_at P (trigger_of (region P n)) n 0 One (Switches t) within is (inr (inl refl)),
  )

  begin_fed : (n h q : ℕ) → n < length R → Begins P n h q → HasFeed P n 0 Zero
  begin_fed n h q within (of_call {x = x} is) =
      feeds_at P (trigger_of (region P n)) n 0 Zero (EnterNode x) within is (inl refl)
  begin_fed n h q within (of_loop is) = feeds_at P (trigger_of (region P n)) n 0 Zero Start within is (inl refl)

  cell_fed : (n t i : ℕ) → n < length R → Addresses P n t i → HasFeed P n 0 Zero × HasFeed P n 0 One
  cell_fed n t i within (of_fetch is) = (
    feeds_at P (origin P t) n 0 Zero (Fetch t i) within is (inl refl),
    feeds_at P (origin P i) n 0 One (Fetch t i) within is (inr (inl refl)),
  )
  cell_fed n t i within (of_store is) = (
    feeds_at P (origin P t) n 0 Zero (Address t i) within is (inl refl),
    feeds_at P (origin P i) n 0 One (Address t i) within is (inr (inl refl)),
  )

  served : {n part : ℕ} {o : Form} → n < length R → Does P n part o → (p : Port) → IsSome (port_kind (op_by number o) p)
      → Served n part p
  unfolding Served
  served {n} within (answers is) p h = inl (answer_served n p within is)
  served {n} within (starts is) p h = inl (first_served n p within is)
  served {n} within (returns is) Zero h = inl (second_served n within (ap begins_block is))
  served {n} within (returns is) One h =
      inr (feeds_at P (origin P (body_of (node P (end_of P n)))) n 1 One Head within is (inl refl))
  served {n} within (enters {x = x} {k = k} is) Zero h = inl (entry_served n x k within is)
  served within (enters is) One h = cc
  served {n} within (constant {c = c} is) Zero h =
      inr (feeds_at P (trigger_of (region P n)) n 0 Zero (Literal c) within is (inl refl))
  served within (constant is) One h = cc
  served {n} within (unary {o = o} {a = a} is) Zero h =
      inr (feeds_at P (origin P a) n 0 Zero (UnaryNode o a) within is (inl refl))
  served within (unary is) One h = cc
  served {n} within (binary {o = o} {a = a} {b = b} is) Zero h =
      inr (feeds_at P (origin P a) n 0 Zero (BinaryNode o a b) within is (inl refl))
  served {n} within (binary {o = o} {a = a} {b = b} is) One h =
      inr (feeds_at P (origin P b) n 0 One (BinaryNode o a b) within is (inr (inl refl)))
  served {n} within (turns_on {t = t} is) Zero h = inr (test_fed n t within is).0
  served {n} within (turns_on {t = t} is) One h = inr (test_fed n t within is).1
  served {n} within (hands {t = t} k is less) Zero h =
      inr (record { from = origin P t; feeds = (imports_fed P n t k within is less).0 })
  served {n} within (hands {t = t} k is less) One h = inr
      (record {
        from = name_in P (region P n) (get_or (imports_of P n) k 0);
        feeds =
            (imports_fed P n t k within is less).1;
      })
  served {n} within (joins {s = s} {x = x} {y = y} is) Zero h =
      inr (feeds_at P (origin P x) n 0 Zero (If s x y) within is (inl refl))
  served within (joins is) One h = cc
  served {n} within (opens {h = b} {q = q} is) Zero h = inr (begin_fed n b q within is)
  served within (opens is) One h = cc
  served {n} within (passes {e = e} {k = k} {v = v} is) Zero h =
      inr (feeds_at P (output e) n 0 Zero (Arg e k v) within is (inl refl))
  served {n} within (passes {e = e} {k = k} {v = v} is) One h =
      inr (feeds_at P (origin P v) n 0 One (Arg e k v) within is (inr (inl refl)))
  served {n} within (gets {e = e} {c = c} is) p h = inl (call_served n e c p within is)
  served {n} within (names {x = x} {a = a} is) Zero h =
      inr (feeds_at P (origin P a) n 0 Zero (Binding x a) within is (inl refl))
  served within (names is) One h = cc
  served {n} within (sends_in k q is at) Zero h = inr (send_fed n k q within is at).0
  served {n} within (sends_in k q is at) One h = inr (send_fed n k q within is at).1
  served {n} within (gives_back is) Zero h = inl (second_served n within (ap begins_block is))
  served {n} within (gives_back {s = s} is) One h =
      inr (feeds_at P (output (end_of P n - 2)) n 1 One (LoopHead s) within is (inr (inl refl)))
  served {n} within (varies is) Zero h = inr (feeds_at P (output (next_of P n)) n 0 Zero Variable within is (inl refl))
  served within (varies is) One h = cc
  served {n} within (takes_in k is less) Zero h = inr (entry_fed n k within is less)
  served within (takes_in k is less) One h = cc
  served {n} within (moves_on is) Zero h = inr (feeds_at P (trigger_of (region P n)) n 0 Zero Turn within is (inl refl))
  served within (moves_on is) One h = cc
  served {n} within (moves_name k is less) Zero h = inr (turn_fed n k within is less)
  served within (moves_name k is less) One h = cc
  served {n} within (advances {x = x} {k = k} {o = o} {v = v} is) Zero h =
      inr (feeds_at P (origin P v) n 0 Zero (NextNode x k o v) within is (inl refl))
  served within (advances is) One h = cc
  served {n} within (resets {v = v} is) Zero h =
      inr (feeds_at P (origin P v) n 0 Zero (ResetNode v) within is (inl refl))
  served within (resets is) One h = cc
  served {n} within (gets_last {h = b} {w = w} {l = l} is) p h = inl (loop_served n b w l p within is)
  served {n} within (allocates {nested = nested} {a = a} {b = b} is) Zero h =
      inr (feeds_at P (origin P a) n 0 Zero (Array nested a b) within is (inl refl))
  served {n} within (allocates {nested = nested} {a = a} {b = b} is) One h =
      inr (feeds_at P (origin P b) n 0 One (Array nested a b) within is (inr (inl refl)))
  served {n} within (addresses {t = t} {i = i} is) Zero h = inr (cell_fed n t i within is).0
  served {n} within (addresses {t = t} {i = i} is) One h = inr (cell_fed n t i within is).1
  served {n} within (fetches {t = t} {i = i} is) Zero h =
      inr (feeds_at P (output n) n 1 Zero (Fetch t i) within is (inr (inr (inl refl))))
  served within (fetches is) One h = cc
  served {n} within (gets_reply {t = t} {i = i} is) p h = inl (reply_served n t i p within is)
  served {n} within (stores {a = a} {v = v} is) Zero h =
      inr (feeds_at P (output a) n 0 Zero (Store a v) within is (inl refl))
  served {n} within (stores {a = a} {v = v} is) One h =
      inr (feeds_at P (origin P v) n 0 One (Store a v) within is (inr (inl refl)))
  served {n} within (bounds_meet {a = a} {b = b} is) Zero h =
      inr (feeds_at P (origin P a) n 0 Zero (Bounds a b) within is (inl refl))
  served {n} within (bounds_meet {a = a} {b = b} is) One h =
      inr (feeds_at P (origin P b) n 0 One (Bounds a b) within is (inr (inl refl)))
  served {n} within (begins_index {a = a} {b = b} is) Zero h =
      inr (feeds_at P (output n) n 1 Zero (Bounds a b) within is (inr (inr (inl refl))))
  served {n} within (begins_index {a = a} {b = b} is) One h =
      inr (feeds_at P (origin P a) n 1 One (Bounds a b) within is (inr (inr (inr (inl refl)))))
  served {n} within (carries {k = k} is) Zero h =
      inr (feeds_at P (part_of (turn_row P (block P n)) (n - block P n)) n 0 Zero (Carried k) within is (inl refl))
  served within (carries is) One h = cc
  served {n} within (meets_bound is) Zero h =
      inr (feeds_at P (output (block P n + 1)) n 0 Zero Count within is (inl refl))
  served {n} within (meets_bound is) One h =
      inr (feeds_at P (name_in P (region P n) (block P n + 2)) n 0 One Count within is (inr (inl refl)))
  served {n} within (goes_further is) Zero h =
      inr (feeds_at P (output n) n 1 Zero Count within is (inr (inr (inl refl))))
  served {n} within (goes_further is) One h =
      inr (feeds_at P (trigger_of (region P n)) n 1 One Count within is (inr (inr (inr (inl refl)))))
  served {n} within (hands_index is) Zero h =
      inr (feeds_at P (output n) n 2 Zero Count within is (inr (inr (inr (inr (inl refl))))))
  served {n} within (hands_index is) One h =
      inr (feeds_at P (output (block P n + 1)) n 2 One Count within is (inr (inr (inr (inr (inr (inl refl)))))))
  served {n} within (has_one is) Zero h =
      inr (feeds_at P (part_of n 1) n 3 Zero Count within is (inr (inr (inr (inr (inr (inr (inl refl))))))))
  served within (has_one is) One h = cc
  served {n} within (adds_one is) Zero h =
      inr (feeds_at P (part_of n 2) n 4 Zero Count within is (inr (inr (inr (inr (inr (inr (inr (inl refl)))))))))
  served {n} within (adds_one is) One h =
      inr (feeds_at P (part_of n 3) n 4 One Count within is (inr (inr (inr (inr (inr (inr (inr (inr (inl refl))))))))))

  -- an arc into a port counts
  fed_counts : (n part : ℕ) (p : Port) → HasFeed P n part p → 1 ≤ arcs_into g (number n part) p
  fed_counts n part p f =
      let s = numbered.sends f.from n part p f.feeds in
      let k = number n part in
      let from = number (f.from).row (f.from).part in
      let lists =
      side_counts s.instr (dest k p) (f.from).side (numbered.sides from s.instr (f.from).side (dest k p) s.at s.lists)
      s.lists in
      let here : 1 ≤ count_by (is_dest k p) (arcs s.instr) =
      count_among (is_dest k p) (dest k p) (arcs s.instr) lists (is_dest-itself k p) in
      omega (arith, here, sum_at (λ (i : Instr). count_by (is_dest k p) (arcs i)) g.instrs from s.instr s.at)

  alone : {x y : Origin} {n : ℕ} → ((FromArm P n x × FromArm P n y) → ⊥) → (x ≡ y) ⊎ (FromArm P n x × FromArm P n y)
      → x ≡ y
  alone never (inl e) = e
  alone never (inr arms) = absurd (never arms)

  test_no_if : {n t s x y : ℕ} → Tests P n t → node P n ≡ If s x y → ⊥
  test_no_if {t = t} {s = s} {x = x} {y = y} (of_arms is) e = let bad : If s x y ≡ Split t = sym e ∙ is in cc
  test_no_if {t = t} {s = s} {x = x} {y = y} (of_turns is) e = let bad : If s x y ≡ Switches t = sym e ∙ is in cc

  cell_no_if : {n t i s x y : ℕ} → Addresses P n t i → node P n ≡ If s x y → ⊥
  cell_no_if {t = t} {i = i} {s = s} {x = x} {y = y} (of_fetch is) e = let bad : If s x y ≡ Fetch t i = sym e ∙ is in cc
  cell_no_if {t = t} {i = i} {s = s} {x = x} {y = y} (of_store is) e =
      let bad : If s x y ≡ Address t i = sym e ∙ is in cc

  begin_no_if : {n h q s x y : ℕ} → Begins P n h q → node P n ≡ If s x y → ⊥
  begin_no_if {s = s} {x = x} {y = y} (of_call {x = z} is) e = let bad : If s x y ≡ EnterNode z = sym e ∙ is in cc
  begin_no_if {s = s} {x = x} {y = y} (of_loop is) e = let bad : If s x y ≡ Start = sym e ∙ is in cc

  count_no_if : (n : ℕ) {s x y : ℕ} → node P n ≡ Count → node P n ≡ If s x y → ⊥
  count_no_if n {s = s} {x = x} {y = y} is e = let bad : If s x y ≡ Count = sym e ∙ is in cc

  -- a part is fed from one origin at each port, or is a merge
  one_or_merge : {n part : ℕ} {o : Form} → Does P n part o →
      IsSome (merge_kind (op_by number o)) ⊎ ((x y : Origin) (p : Port) → Feeds P x n part p → Feeds P y n part p
      → x ≡ y)
  one_or_merge (starts is) = inl refl
  one_or_merge (returns is) =
      inr (λ x y p h k. alone (λ a. let bad : If (a.0).split (a.0).then (a.0).otherwise ≡ Head = sym (a.0).node ∙ is in
      cc)
      (one_feed h k))
  one_or_merge (enters is) = inl refl
  one_or_merge (constant {c = c} is) = inr (λ x y p h k. alone
      (λ a. let bad : If (a.0).split (a.0).then (a.0).otherwise ≡ Literal c = sym (a.0).node ∙ is in cc) (one_feed h k))
  one_or_merge (unary {o = o} {a = e} is) = inr (λ x y p h k. alone
      (λ a. let bad : If (a.0).split (a.0).then (a.0).otherwise ≡ UnaryNode o e = sym (a.0).node ∙ is in
      cc) (one_feed h k))
  one_or_merge (binary {o = o} {a = e} {b = f} is) = inr
      (λ x y p h k. alone (λ a. let bad : If (a.0).split (a.0).then (a.0).otherwise ≡ BinaryNode o e f =
      sym (a.0).node ∙ is in cc) (one_feed h k))
  one_or_merge (turns_on is) = inr (λ x y p h k. alone (λ a. test_no_if is (a.0).node) (one_feed h k))
  one_or_merge (hands j is less) = inr (λ x y p h k. alone (λ a. test_no_if is (a.0).node) (one_feed h k))
  one_or_merge (joins is) = inl refl
  one_or_merge (opens is) = inr (λ y z p h k. alone (λ a. begin_no_if is (a.0).node) (one_feed h k))
  one_or_merge (passes {e = e} {k = i} {v = v} is) = inr
      (λ y z p h k. alone (λ a. let bad : If (a.0).split (a.0).then (a.0).otherwise ≡ Arg e i v = sym (a.0).node ∙ is in
      cc) (one_feed h k))
  one_or_merge (gets is) = inl refl
  one_or_merge (names is) = inl refl
  one_or_merge (answers is) = inl refl
  one_or_merge (sends_in j q is at) =
      inr (λ y z p h k. alone (λ a. let bad : If (a.0).split (a.0).then (a.0).otherwise ≡ Start = sym (a.0).node ∙ is in
      cc)
      (one_feed h k))
  one_or_merge (gives_back {s = s} is) = inr (λ y z p h k. alone
      (λ a. let bad : If (a.0).split (a.0).then (a.0).otherwise ≡ LoopHead s = sym (a.0).node ∙ is in
      cc) (one_feed h k))
  one_or_merge (varies is) = inl refl
  one_or_merge (takes_in j is less) = inl refl
  one_or_merge (moves_on is) =
      inr (λ y z p h k. alone (λ a. let bad : If (a.0).split (a.0).then (a.0).otherwise ≡ Turn = sym (a.0).node ∙ is in
      cc)
      (one_feed h k))
  one_or_merge (moves_name j is less) =
      inr (λ y z p h k. alone (λ a. let bad : If (a.0).split (a.0).then (a.0).otherwise ≡ Turn = sym (a.0).node ∙ is in
      cc)
      (one_feed h k))
  one_or_merge (advances {x = x} {k = i} {o = o} {v = v} is) = inr
      (λ y z p h k. alone (λ a. let bad : If (a.0).split (a.0).then (a.0).otherwise ≡ NextNode x i o v =
      sym (a.0).node ∙ is in cc) (one_feed h k))
  one_or_merge (resets {v = v} is) = inr (λ y z p h k. alone
      (λ a. let bad : If (a.0).split (a.0).then (a.0).otherwise ≡ ResetNode v = sym (a.0).node ∙ is in
      cc) (one_feed h k))
  one_or_merge (gets_last is) = inl refl
  one_or_merge (allocates {nested = nested} {a = e} {b = f} is) =
      inr (λ y z p h k. alone (λ a. let bad : If (a.0).split (a.0).then (a.0).otherwise ≡ Array nested e f =
      sym (a.0).node ∙ is in cc) (one_feed h k))
  one_or_merge (addresses is) = inr (λ y z p h k. alone (λ a. cell_no_if is (a.0).node) (one_feed h k))
  one_or_merge (fetches {t = t} {i = i} is) =
      inr (λ y z p h k. alone (λ a. let bad : If (a.0).split (a.0).then (a.0).otherwise ≡ Fetch t i =
      sym (a.0).node ∙ is in cc) (one_feed h k))
  one_or_merge (gets_reply is) = inl refl
  one_or_merge (stores {a = e} {v = f} is) =
      inr (λ y z p h k. alone (λ a. let bad : If (a.0).split (a.0).then (a.0).otherwise ≡ Store e f =
      sym (a.0).node ∙ is in cc) (one_feed h k))
  one_or_merge (bounds_meet {a = e} {b = f} is) =
      inr (λ y z p h k. alone (λ a. let bad : If (a.0).split (a.0).then (a.0).otherwise ≡ Bounds e f =
      sym (a.0).node ∙ is in cc) (one_feed h k))
  one_or_merge (begins_index {a = e} {b = f} is) =
      inr (λ y z p h k. alone (λ a. let bad : If (a.0).split (a.0).then (a.0).otherwise ≡ Bounds e f =
      sym (a.0).node ∙ is in cc) (one_feed h k))
  one_or_merge (carries is) = inl refl
  one_or_merge {n} (meets_bound is) = inr (λ y z p h k. alone (λ a. count_no_if n is (a.0).node) (one_feed h k))
  one_or_merge {n} (goes_further is) = inr (λ y z p h k. alone (λ a. count_no_if n is (a.0).node) (one_feed h k))
  one_or_merge {n} (hands_index is) = inr (λ y z p h k. alone (λ a. count_no_if n is (a.0).node) (one_feed h k))
  one_or_merge {n} (has_one is) = inr (λ y z p h k. alone (λ a. count_no_if n is (a.0).node) (one_feed h k))
  one_or_merge {n} (adds_one is) = inr (λ y z p h k. alone (λ a. count_no_if n is (a.0).node) (one_feed h k))

  module _ (n : ℕ) (p : Port) (row part : ℕ) (here : IsPart P row part) (is : number row part ≡ n)
      (one : (x y : Origin) → Feeds P x row part p → Feeds P y row part p → x ≡ y) where
    -- instructions that send to the port are one, on one side
    one_sender : (m k : ℕ) (b c : Bool) → Sends g m b (dest n p) → Sends g k c (dest n p) → (m ≡ k) × (b ≡ c)
    one_sender m k b c x y =
        let u = numbered.no_more m b (dest n p) x in
        let v = numbered.no_more k c (dest n p) y in
        let to_u = one_part numbered (target_part u.feeds) here (u.goes ∙ sym is) in
        let to_v = one_part numbered (target_part v.feeds) here (v.goes ∙ sym is) in
        let same : u.origin ≡ v.origin =
        one u.origin v.origin
        (subst (λ (z : ℕ × ℕ). Feeds P u.origin z.0 z.1 p) {x = (u.row, u.part)} {y =
        (row, part)} (λ i. (to_u.0 i, to_u.1 i)) u.feeds)
        (subst (λ (z : ℕ × ℕ). Feeds P v.origin z.0 z.1 p) {x = (v.row, v.part)} {y =
        (row, part)} (λ i. (to_v.0 i, to_v.1 i)) v.feeds) in (
          sym u.from ∙ ap (λ (s : Origin). number s.row s.part) same ∙ v.from,
          sym u.on ∙ ap (λ (s : Origin). s.side) same ∙ v.on,
        )

    -- an instruction of which an arc into the port is counted sends to it
    counts_send : (m : ℕ) (i : Instr) (b : Bool) → slice_get g.instrs m ≡ Some i
        → 1 ≤ count_by (is_dest n p) (arcs_on b i) → Sends g m b (dest n p)
    counts_send m i b at h =
        let t = count_some (is_dest n p) (arcs_on b i) h in
        record { instr = i; at = at; lists = subst (λ (d : Dest). Among d (arcs_on b i)) (dest_is n p t.0 t.2) t.1 }

    on_side_once : (m : ℕ) (i : Instr) (b : Bool) → slice_get g.instrs m ≡ Some i
        → count_by (is_dest n p) (arcs_on b i) ≤ 1
    on_side_once m i b at =
        count_once (is_dest n p) (arcs_on b i) (numbered.once m i b at) (λ x y e d. dest_is n p x e
        ∙ sym (dest_is n p y d))

    fewer : (t : Bool) (ds : List Dest) → count_by (is_dest n p) (cond t ds []) ≤ count_by (is_dest n p) ds
    fewer true ds = omega arith
    fewer false ds = omega arith

    each_once : (m : ℕ) (i : Instr) → slice_get g.instrs m ≡ Some i → count_by (is_dest n p) (arcs i) ≤ 1
    each_once m i at =
        let f = is_dest n p in
        let whole = sum_by-append (λ x. cond (f x) 1 0) (arcs_on true i) (false_arcs i) in
        let less = fewer (two_sides i.op) (arcs_on false i) in
        by (count_by f (arcs_on true i)) (count_by f (arcs_on false i)) (count_by f (false_arcs i)) refl refl whole less
        (on_side_once m i true at)
        (on_side_once m i false at)
      where
        by : (a b c : ℕ) → count_by (is_dest n p) (arcs_on true i) ≡ a → count_by (is_dest n p) (arcs_on false i) ≡ b
            → count_by (is_dest n p) (arcs i) ≡ a + c → c ≤ b
            → a ≤ 1 → b ≤ 1 → count_by (is_dest n p) (arcs i) ≤ 1
        by zero b c e f whole less x y = omega (arith, whole, less, y)
        by (suc a) zero c e f whole less x y = omega (arith, whole, less, x)
        by (suc a) (suc b) c e f whole less x y =
            let z = one_sender m m true false (counts_send m i true at (omega (arith, e)))
            (counts_send m i false at (omega (arith, f))) in
            absurd (true_false z.1)

    some_side : (m : ℕ) (i : Instr) → slice_get g.instrs m ≡ Some i → 1 ≤ count_by (is_dest n p) (arcs i)
        → (b : Bool) × Sends g m b (dest n p)
    some_side m i at h =
        let t = count_some (is_dest n p) (arcs i) h in
        let side = counts_side i t.0 t.1 in (
          side.0,
          record {
            instr = i;
            at = at;
            lists =
                subst (λ (d : Dest). Among d (arcs_on side.0 i)) (dest_is n p t.0 t.2) side.1;
          },
        )

    fed_once : arcs_into g n p ≤ 1
    fed_once =
        sum_once (λ (i : Instr). count_by (is_dest n p) (arcs i)) g.instrs each_once
        (λ m k i j at to a b. let x = some_side m i at a in let y = some_side k j to b in
        (one_sender m k x.0 y.0 x.1 y.1).0)

  pub fed : (n : ℕ) (o : Op) (p : Port) → op_at g n ≡ Some o → IsSome (port_kind o p) → IsFed g n o p
  unfolding Served
  fed n o p at h =
      let s = stands P known g number numbered n o (slice_get g.instrs n) refl at in
      record {
        fed = λ needs. elim (served s.within s.does p (subst (λ z. IsSome (port_kind z p)) (sym s.op_is) h)) [
          | inl free ↦ absurd (true_false (sym free ∙ ap (λ k. needs_no_arc g k p) s.is ∙ needs))
          | inr f ↦ subst (λ k. 0 < arcs_into g k p) s.is (let some = fed_counts s.row s.part p f in omega arith)
        ];
        once = λ many. elim (one_or_merge s.does) [
          | inl merges ↦ subst (λ z. IsSome (merge_kind z)) s.op_is merges
          | inr one ↦ absurd (omega (
            arith,
            many,
            fed_once n p s.row s.part (record { form = _; place = _; makes = makes s.within s.does }) s.is
                (λ x y. one x y p),
          ))
        ];
      }
