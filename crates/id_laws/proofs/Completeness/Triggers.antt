-- In a quiet run the trigger of each live region has spoken, and names come there from their labels.
use Rattle.std.proofs.Common.{◌≡◌, ℕ, suc, ◌<◌, inl, inr, Bool as Truth, true, List, length, get_or, refl, sym, ◌∙◌, ap}
use Rattle.std.proofs.Common.{subst, arith, Some, ◌+◌}
use Rattle.id_table.specs.declared.row.Region.{Region}
use Rattle.id_table.specs.declared.row.Node.TheVariants.{Head, Program, Split, Start, Switches, LoopHead}
use Rattle.id_table.specs.Loops.{depth, loops_from}
use Rattle.id_table.specs.Rows.{arm_at, top}
use Rattle.id_table.specs.Tables.{HasPart, begins_block, is_binder}
use Rattle.id_check.specs.declared.checked.Checked.{Checked}
use Rattle.id_check.specs.Scopes.{loops_between}
use Rattle.id_check.specs.Programs.{place, region, rows}
use Rattle.id_instr.specs.declared.dests.Port.TheVariants.{Zero, One as Second}
use Rattle.id_instr.specs.declared.instr.Op.TheVariants.{Merge, Switch, Enter as EnterOp}
use Rattle.id_instr.specs.declared.instr.PortKind.TheVariants as kinds
use Rattle.id_instr.specs.Graph.{Parts}
use Rattle.id_tag.specs.declared.Value.{Value}
use Rattle.id_tag.specs.declared.Value.TheVariants.{Signal, Bool as TruthValue, Continuation}
use Rattle.id_tag.specs.Kinds.{kind_of, same_kind}
use Rattle.id_ops.specs.declared.Operands.TheVariants.{One, Two}
use Rattle.id_core.specs.Machines.{World}
use Rattle.id_source.specs.declared.Path.{Path}
use Rattle.id_source.specs.Sources.{Source}
use Rattle.id_source.specs.Facts.{below, without}
use Rattle.id_desugar.specs.Regions.{imports_of, nexts_of}
use Rattle.id_build.specs.declared.arc.Origin.{Origin}
use Rattle.id_build.specs.Rows.{block, entering, entries_row, home as home_of, label, node, name_in, origin, output}
use Rattle.id_build.specs.Rows.{port_at, trigger_of}
use Rattle.id_build.specs.Schemas.{Feeds, Numbered}
use Rattle.id_runs.specs.Activations.{Activation, main_activation, at_iteration, tag_in}
use Rattle.id_runs.specs.Events.{Event}
use Rattle.id_runs.specs.Runs.{Reach, handled}
use Rattle.id_runs.specs.OneMessage.{Exclusive}
use Rattle.id_laws.specs.Activations.{path_at, Begins, Tests, of_call, of_loop, of_arms, of_turns, Live, at_start}
use Rattle.id_laws.specs.Activations.{on_side, entered, again, PathOf, Speaks, main_head, Opens}
use Rattle.id_laws.specs.Ways.{signal}
use Rattle.id_laws.proofs.Rows.Arcs.{starts, turns_on, opens, makes}
use Rattle.id_laws.proofs.Completeness.Counting.{chosen_said, handed_on}
use Rattle.id_laws.proofs.Rows.Assumed.{IsKnown}
use Rattle.id_laws.proofs.Rows.Calls.{called_head}
use Rattle.id_laws.proofs.Rows.Loops.{LoopOf, loop_of_start}
use Rattle.id_laws.proofs.Rows.LoopFacts.{entering_long, entry_does, entry_within, import_entering, start_of_head}
use Rattle.id_laws.proofs.Rows.LoopFacts.{switches_of, taken_entry, turn_sees}
use Rattle.id_laws.proofs.Completeness.LoopFirings.{entered_in, merge_out, name_again, turned_again}
use Rattle.id_laws.proofs.Paths.Iterations.{loop_between, seen_depth, without_below, without_moved}
use Rattle.id_laws.proofs.Completeness.Firings.{IsSettled, alone_fired, both_fired, came, spoken, spoken_on}
use Rattle.id_laws.proofs.Completeness.Firings.{start_handled, sent_handled}
use Rattle.id_build.proofs.NamesSeen.{Sees, Comes, from_label, from_switch, from_entry, comes, listed}
use Rattle.id_laws.proofs.Rows.Speakers.{fed_as}
use Rattle.id_laws.proofs.Telling.TurnedOn.{without_none}
use Rattle.std.specs.Prelude.{option_map}
use Rattle.id_tag.specs.declared.Context.{Context}
use Rattle.id_valid.specs.Roles.{op_at}
use Rattle.id_tag.specs.declared.Payload.TheVariants.{Token}
use Rattle.id_instr.specs.declared.instr.Instr.{Instr}
use Rattle.id_laws.proofs.Paths.Begun.{begun_at}
use Rattle.id_laws.proofs.Rows.Blocks.{all_listed}
use Rattle.id_laws.proofs.Rows.Conditionals.{tests_no_block}
use Rattle.id_laws.proofs.Rows.Regions.{as_tests, home_depth, home_row, region_of, same_depth}
use Rattle.id_laws.proofs.Rows.Sources.{tests_other}
use Rattle.id_laws.proofs.Paths.Seats.{OneSeat, entered_path, live_path, one_path, paths_apart}
use Rattle.id_laws.proofs.Paths.Opened.{main_first, one_seats}
use Rattle.id_runs.proofs.Serials.{contexts_apart}
use Rattle.id_laws.proofs.Telling.StartTells.{opening_live}
use Rattle.id_laws.proofs.Telling.FiringMeans.{IsBacked}
use Rattle.id_runs.proofs.OneMessage.{fired_once}
use Rattle.id_value.specs.List.{Among}
use Rattle.id_laws.proofs.Paths.Started.{first_sent, second_sent}

module _ (S : Source) (g : Parts) (number : ℕ → ℕ
    → ℕ) (numbered : Numbered S.checked g number) (known : IsKnown S.checked) (count : ℕ)
    (only : Exclusive g S.inputs count)
    (s : World) (run : List Event) (r : Reach g S.inputs count s run) (quiet : IsSettled S s) where
  abbrev P : Checked
  P = S.checked

  abbrev main : ℕ
  main = main_head P

  pub main_is : node P main ≡ Head
  main_is = let d = known.main in ((known.table).head_is P.main d.name main d.body d.result d.within d.node).0

  pub main_within : main < length (rows P)
  main_within = let d = known.main in let f = (known.table).formed in
      omega (
        arith,
        d.within,
        ((f.each P.main d.within).parts main (subst (λ m. HasPart m main) (sym d.node) (inl refl))).1,
      )

  backed : IsBacked S run
  backed = record { once = fired_once g S.inputs count only s run r; wholes = λ p e i. quiet.wholes }

  -- two live activations of one path are one
  pub one_activation : {a a' : Activation} {q q' : Region} {p : Path} → Live S number run a q → Live S number run a' q'
      → PathOf S number run a p → PathOf S number run a' p → a ≡ a'
  one_activation x y h k =
      paths_apart S known g number numbered run (contexts_apart g S.inputs count s run r)
      (fired_once g S.inputs count only s run r)
      (λ a n i q c within is o. main_first S known number run g numbered (contexts_apart g S.inputs count s run r)
      (opening_live S known g number numbered run count s r backed a n i q c within is o)) h k
      (main_first S known number run g numbered (contexts_apart g S.inputs count s run r) x)
      (main_first S known number run g numbered (contexts_apart g S.inputs count s run r) y)

  -- what begins a context names the first instruction of its block, and that of where the block's value goes
  opener_names : {n h q : ℕ} → n < length (rows P) → Begins P n h q
      → op_at g (number n 0) ≡ Some (EnterOp (number h 0) (number q 0))
  opener_names {n} within is =
      let m = numbered.made n 0 _ _ (makes within (opens is)) in
      ap (option_map (λ (i : Instr). i.op)) m.at ∙ ap (λ z. Some z) m.op

  -- in a context that was made in a live region the first instruction of its block has fired
  first_fired : {a : Activation} {n h q : ℕ} {c : Context} → n < length (rows P) → Begins P n h q
      → Opens S number run a n c → Speaks S number run (at_iteration c 0) (trigger_of (top h)) Signal
  first_fired {a} {n} {h} {q} {c} within is o =
      let z = begun_at known within is in
      let came_in =
      sent_handled S g number numbered known count only s run r quiet o
      (Token (tag_in (at_iteration c 0) (number h 0)) Zero Signal)
      (first_sent g (tag_in a (number n 0)) c (number h 0) (number q 0) (opener_names within is)) in
      let fired_so =
      alone_fired S g number numbered known count only s run r quiet (at_iteration c 0) h 0 (Merge kinds.Signal) Zero
      Signal z.head_within
      (starts z.head) refl came_in in
      spoken S g number numbered known count only s run r quiet (at_iteration c 0) h 0 (Merge kinds.Signal) (One Signal)
      Signal fired_so (λ f. refl)

  -- and the way back has come to its second
  pub second_came : {a : Activation} {n h q : ℕ} {c : Context} → n < length (rows P) → Begins P n h q
      → Opens S number run a n c
      → Among (Token (tag_in (at_iteration c 0) (number h 1)) Zero (Continuation (tag_in a (number q 0)))) (handled run)
  second_came {a} {n} {h} {q} {c} within is o =
      let v = Continuation (tag_in a (number q 0)) in
      let z = begun_at known within is in
      let out =
      sent_handled S g number numbered known count only s run r quiet o
      (Token (tag_in (at_iteration c 0) (number h 0 + 1)) Zero v)
      (second_sent g (tag_in a (number n 0)) c (number h 0) (number q 0) (opener_names within is)) in
      subst (λ k. Among (Token (tag_in (at_iteration c 0) k) Zero v) (handled run))
      (sym (numbered.second_behind h (all_listed P h z.head_within z.head))) out

  -- what feeds the first of a row's switches
  switch_fed : {n t : ℕ} → Tests P n t → n < length (rows P)
      → Feeds P (origin P t) n 0 Zero × Feeds P (trigger_of (region P n)) n 0 Second
  switch_fed {n} {t} (of_arms is) within = (
    fed_as P known (origin P t) n 0 Zero (Split t) within is (inl refl),
    fed_as P known (trigger_of (region P n)) n 0 Second (Split t) within is (inr (inl refl)),
  )
  switch_fed {n} {t} (of_turns is) within = (
    fed_as P known (origin P t) n 0 Zero (Switches t) within is (inl refl),
    fed_as P known (trigger_of (region P n)) n 0 Second (Switches t) within is (inr (inl refl)),
  )

  -- where that of the switches' region has spoken and the predicate has, the trigger of the side speaks
  side_turned : {a : Activation} {n t : ℕ} {b : Truth} → n < length (rows P) → Tests P n t
      → Speaks S number run a (trigger_of (region P n)) Signal
      → Speaks S number run a (origin P t) (TruthValue b) → Speaks S number run a (trigger_of (arm_at n b)) Signal
  side_turned {a} {n} {t} {b} within tests on says =
      let fed = switch_fed tests within in
      let test =
      came S g number numbered known count only s run r quiet a (origin P t) n 0 Zero (TruthValue b) says fed.0 in
      let trigger =
      came S g number numbered known count only s run r quiet a (trigger_of (region P n)) n 0 Second Signal on fed.1 in
      let fired_so =
      both_fired S g number numbered known count only s run r quiet a n 0 (Switch kinds.Signal) (TruthValue b) Signal
      within
      (turns_on tests) refl test trigger in
      spoken_on S g number numbered known count only s run r quiet a n 0 (Switch kinds.Signal)
      (Two (TruthValue b) Signal) b Signal fired_so (λ f. refl)

  -- the trigger of each live region has spoken
  pub live_turned : {a : Activation} {q : Region} → Live S number run a q → Speaks S number run a (trigger_of q) Signal
  live_turned at_start =
      let came_in = start_handled S g number numbered known count only s run r quiet (signal) in
      let fired_so =
      alone_fired S g number numbered known count only s run r quiet main_activation main 0 (Merge kinds.Signal) Zero
      Signal main_within
      (starts (ap begins_block main_is)) refl came_in in
      spoken S g number numbered known count only s run r quiet main_activation main 0 (Merge kinds.Signal) (One Signal)
      Signal fired_so (λ f. refl)
  live_turned (on_side within tests live chosen goes) =
      side_turned within tests (live_turned live)
      (chosen_said S g number numbered known count only s run r quiet within tests chosen)
  live_turned (entered within is live opened) = first_fired within is opened
  live_turned (again {c = c} {k = k} {n = n} {e = t} within is live chosen goes) =
      let z = switches_of known within is in
      let says = chosen_said S g number numbered known count only s run r quiet within (of_turns is) chosen in
      let side = side_turned within (of_turns is) (live_turned live) says in
      let on = subst (λ w. Speaks S number run (at_iteration c k) (trigger_of (arm_at w true)) Signal) (sym z.switches)
      side in
      subst (λ q. Speaks S number run (at_iteration c (suc k)) (trigger_of q) Signal) (sym z.right)
      (turned_again S g number numbered known count only s run r quiet z.loop c k on)

  -- where the name is bound, as the region sees it: what its label has spoken there, of its kind, comes to the region
  pub record Home (a : Activation) (q : Region) (b : ℕ) : Type 0 where
    pub activation : Activation
    pub home_region : Region
    pub live : Live S number run activation home_region
    pub path : (p : Path) → PathOf S number run a p
        → PathOf S number run activation (without (loops_between (rows P) q.head b) p)
    pub comes : (v : Value) → same_kind (kind_of v) (port_at P b) ≡ true
        → Speaks S number run activation (output (label P b)) v → Speaks S number run a (name_in P q b) v

  at_label : (a : Activation) (b : ℕ) → b < length (rows P) → is_binder (node P b) ≡ true
      → Live S number run a (region P (home_of P b)) → name_in P (region P (home_of P b)) b ≡ output (label P b)
      → Home a (region P (home_of P b)) b
  at_label a b within binds live from = record {
    activation = a;
    home_region = region P (home_of P b);
    live = live;
    path = λ p x. subst (PathOf S number run a)
        (sym (ap (λ d. without d p) (home_depth known within binds) ∙ without_none p)) x;
    comes = λ v fits x. subst (λ z. Speaks S number run a z v) (sym from) x;
  }

  -- a name comes to a side of switches as it comes to where they stand
  handed_home : {a : Activation} {m e : ℕ} {d : Truth} (b : ℕ) (n t k : ℕ) (c : Truth) → m < length (rows P)
      → Tests P m e → Speaks S number run a (origin P e) (TruthValue d) → k < length (imports_of P n)
      → get_or (imports_of P n) k 0 ≡ b → arm_at m d ≡ arm_at n c
      → name_in P (arm_at m d) b ≡ record { row = n; part = suc k; side = c } → Home a (region P m) b
      → Home a (arm_at m d) b
  handed_home {a} {m} {e} {d} b n t k c inside tests says less there at from h =
      let head : m ≡ n = ap (λ (z : Region). z.head) at in
      let side : d ≡ c = ap (λ (z : Region). z.side) at in
      let less' : k < length (imports_of P m) = subst (λ z. k < length (imports_of P z)) (sym head) less in
      let there' : get_or (imports_of P m) k 0 ≡ b = ap (λ z. get_or (imports_of P z) k 0) head ∙ there in
      let from' : name_in P (arm_at m d) b ≡ record { row = m; part = suc k; side = d } = from ∙
      (λ i. record { row = sym head i; part = suc k; side = sym side i }) in
      let deep = same_depth P (region P m).head m b (region_of known inside (tests_other P known tests)).block in
      record {
        activation = h.activation;
        home_region = h.home_region;
        live = h.live;
        path = λ p x. subst (λ j. PathOf S number run h.activation (without j p)) deep (h.path p x);
        comes = λ v fits x.
            subst (λ z. Speaks S number run a z v) (sym from')
            (handed_on S g number numbered known count only s run r quiet a m e k d v inside tests less'
            (ap (λ z. same_kind (kind_of v) (port_at P z)) there' ∙ fits) says
            (subst (λ z. Speaks S number run a (name_in P (region P m) z) v) (sym there') (h.comes v fits x)));
      }

  -- where an import comes from in a loop
  abbrev entry_of : ℕ → ℕ → Origin
  entry_of h j = record { row = entries_row P h; part = j; side = true }

  -- a name comes into the loop that a live `Start` has begun as it comes to where that stands
  entered_home : {a : Activation} {n : ℕ} {c : Context} (b j : ℕ) → b < length (rows P) → is_binder (node P b) ≡ true
      → n < length (rows P) → node P n ≡ Start → Live S number run a (region P n) → Opens S number run a n c
      → j < length (imports_of P (n + 1)) → get_or (imports_of P (n + 1)) j 0 ≡ b
      → Sees P b (region P n)
      → name_in P (top (n + 1)) b ≡ entry_of (n + 1) j → Home a (region P n) b → Home (at_iteration c 0) (top (n + 1)) b
  entered_home {a} {n} {c} b j inside binds within is live opened less there sees from h =
      let x = loop_of_start known within is in
      let g' = n + 1 in
      let k = length (nexts_of P g') + j in
      let deep = loop_between known within is inside binds sees in
      let near =
      same_depth P (region P n).head n b (region_of known within (λ e. let bad : Start ≡ Program = sym is ∙ e in
      cc)).block in
      let up = live_path live in
      let long = entering_long P g' in
      let few : k < length (entering P g') = omega (arith, long, less) in
      let name : get_or (entering P g') k 0 ≡ b = import_entering P g' j ∙ there in
      let kind_is : port_at P (get_or (imports_of P g') j 0) ≡ port_at P b = ap (port_at P) there in
      record {
        activation = h.activation;
        home_region = h.home_region;
        live = h.live;
        path = λ p y.
            let is_path : p ≡ below up.0 (place P n) 0 =
            one_path seats y (entered_path 0 within (of_loop is) opened up.1) in
            let out : without (loops_between (rows P) g' b) p
            ≡ without (loops_between (rows P) (region P n).head b) up.0 =
            ap (without (loops_between (rows P) g' b)) is_path ∙ ap (λ d. without d (below up.0 (place P n) 0)) deep
            ∙ without_below (loops_between (rows P) n b) up.0 (place P n) 0 ∙ ap (λ d. without d up.0) (sym near) in
            subst (PathOf S number run h.activation) (sym out) (h.path up.0 up.1);
        comes = λ v fits y.
            let e = entries_row P g' in
            let ok : same_kind (kind_of v) (port_at P (get_or (imports_of P g') j 0)) ≡ true =
            ap (same_kind (kind_of v)) kind_is ∙ fits in
            let name_said =
            subst (λ z. Speaks S number run a (name_in P (region P n) z) v) (sym name) (h.comes v fits y) in
            let came_in = entered_in S g number numbered known count only s run r quiet a n k c
            (record { binder = get_or (imports_of P g') j 0; row = e; part = j }) v within is opened few
            (taken_entry P g' j less) ok name_said in
            let merge = Merge (port_at P (get_or (imports_of P g') j 0)) in
            let fired_so =
            alone_fired S g number numbered known count only s run r quiet (at_iteration c 0) e j merge Zero v
            (entry_within known x)
            (entry_does known x j less) refl came_in in
            let out =
            spoken S g number numbered known count only s run r quiet (at_iteration c 0) e j merge (One v) v fired_so
            (λ f. merge_out S g number numbered known count only s run r quiet
            (port_at P (get_or (imports_of P g') j 0)) v ok) in
            subst (λ z. Speaks S number run (at_iteration c 0) z v) (sym from) out;
      }
    where
      seats : OneSeat S number run
      seats = one_seats S known number run g numbered (contexts_apart g S.inputs count s run r)

  -- so it does into a block that an `Enter` or `Start` has begun, if its head hands it in
  begun_home : {a : Activation} {n q q' h t : ℕ} {c : Context} (b j : ℕ) → b < length (rows P)
      → is_binder (node P b) ≡ true → n < length (rows P) → Begins P n q q'
      → Live S number run a (region P n) → Opens S number run a n c → h < length (rows P) → node P h ≡ LoopHead t
      → j < length (imports_of P h) → get_or (imports_of P h) j 0 ≡ b → Sees P b (region P t) → top q ≡ top h
      → name_in P (top q) b ≡ entry_of h j → (Sees P b (region P n) → Home a (region P n) b)
      → Home (at_iteration c 0) (top q) b
  begun_home {t = t} b j inside binds within (of_call e) live opened less is few there rest at from more =
      let bad : Head ≡ LoopHead t = sym (called_head known within e).1 ∙ ap (λ (q : Region). node P q.head) at ∙ is in
      cc
  begun_home {n = n} {h = h} {t = t} b j inside binds within (of_loop e) live opened less is few there rest at from
      more =
      let head : n + 1 ≡ h = ap (λ (q : Region). q.head) at in
      let start : t ≡ n = omega (arith, head, (start_of_head known less is).2) in
      let sees = subst (λ i. Sees P b (region P i)) start rest in
      entered_home b j inside binds within e live opened (subst (λ i. j < length (imports_of P i)) (sym head) few)
      (ap (λ i. get_or (imports_of P i) j 0) head ∙ there) sees (from ∙ ap (λ i. entry_of i j) (sym head)) (more sees)

  -- the label of what a loop imports stands in no side of its switches
  not_inside : {h t w b : ℕ} → h < length (rows P) → node P h ≡ LoopHead t → w < length (rows P) → block P w ≡ h
      → b < length (rows P) → is_binder (node P b) ≡ true
      → Sees P b (region P t) → region P (home_of P b) ≡ arm_at w true → ⊥
  not_inside {h} {t} {w} {b} less is within of_block inside binds sees right =
      let z = start_of_head known less is in
      let l = home_row known inside binds in
      let own_block : block P b ≡ h =
      sym l.block ∙ sym (region_of known l.within l.other).block ∙ ap (λ (q : Region). block P q.head) right
      ∙ of_block in
      let head_block : block P h ≡ h = (known.table).head_block h less (ap begins_block is) in
      let same : depth (rows P) b ≡ depth (rows P) h =
      ap (λ i. loops_from (rows P) (length (rows P)) (node P i)) (own_block ∙ sym head_block) in
      let near : depth (rows P) (region P t).head ≡ depth (rows P) t =
      ap (λ i. loops_from (rows P) (length (rows P)) (node P i)) (region_of known z.0 (λ e. let bad : Start ≡ Program =
      sym z.1 ∙ e in cc)).block in
      omega (arith, seen_depth known inside binds sees, known.loop_depth h t less is, same, near)

  -- what comes to a loop comes to the side of its body
  side_comes : {a : Activation} {h t w e : ℕ} (b : ℕ) (x : LoopOf P h) → h < length (rows P) → node P h ≡ LoopHead t
      → w < length (rows P) → node P w ≡ Switches e
      → (x.the).switches ≡ w → region P w ≡ top h → block P w ≡ h → b < length (rows P) → is_binder (node P b) ≡ true
      → Among b (imports_of P h) → Sees P b (region P t)
      → Speaks S number run a (origin P e) (TruthValue true) → (v : Value) → same_kind (kind_of v) (port_at P b) ≡ true
      → Speaks S number run a (name_in P (region P w) b) v → Speaks S number run a (name_in P (arm_at w true) b) v
  side_comes {a} {h} {t} {w} {e} b x less is within is' same right of_block inside binds among sees says v fits name =
      by (comes P (arm_at w true) b (turn_sees known x same within is' right among))
    where
      by : Comes P (arm_at w true) b → Speaks S number run a (name_in P (arm_at w true) b) v
      by (from_label at from) = absurd (not_inside less is within of_block inside binds sees at)
      by (from_switch n t' k c less_n switches few there rest at from) =
          let head : w ≡ n = ap (λ (z : Region). z.head) at in
          let side : true ≡ c = ap (λ (z : Region). z.side) at in
          let few' : k < length (imports_of P w) = subst (λ z. k < length (imports_of P z)) (sym head) few in
          let there' : get_or (imports_of P w) k 0 ≡ b = ap (λ z. get_or (imports_of P z) k 0) head ∙ there in
          let from' : name_in P (arm_at w true) b ≡ record { row = w; part = suc k; side = true } = from ∙
          (λ i. record { row = sym head i; part = suc k; side = sym side i }) in
          subst (λ z. Speaks S number run a z v) (sym from')
          (handed_on S g number numbered known count only s run r quiet a w e k true v within (of_turns is') few'
          (ap (λ z. same_kind (kind_of v) (port_at P z)) there' ∙ fits) says
          (subst (λ z. Speaks S number run a (name_in P (region P w) z) v) (sym there') name))
      by (from_entry h' t' k less_h head few there rest at from) =
          let bad : Switches e ≡ LoopHead t' = sym is' ∙ ap (λ (q : Region). node P q.head) at ∙ head in
          cc

  -- and comes to its next iteration
  again_home : {c : Context} {k h t w e : ℕ} (b j : ℕ) (x : LoopOf P h) → h < length (rows P) → node P h ≡ LoopHead t
      → w < length (rows P) → node P w ≡ Switches e
      → (x.the).switches ≡ w → region P w ≡ top h → block P w ≡ h → b < length (rows P) → is_binder (node P b) ≡ true
      → j < length (imports_of P h) → get_or (imports_of P h) j 0 ≡ b → Sees P b (region P t)
      → name_in P (region P w) b ≡ entry_of h j → Speaks S number run (at_iteration c k) (origin P e) (TruthValue true)
      → Home (at_iteration c k) (region P w) b → Home (at_iteration c (suc k)) (region P w) b
  again_home {c} {k} {h} {t} {w} {e} b j x less is within is' same right of_block inside binds few there sees from says
      home_is =
      let start = start_of_head known less is in
      let deep : loops_between (rows P) (region P w).head b ≡ suc (loops_between (rows P) t b) =
      ap (λ (q : Region). loops_between (rows P) q.head b) right ∙ ap (λ i. loops_between (rows P) i b) (sym start.2) ∙
      loop_between known start.0 start.1 inside binds sees in
      let among : Among b (imports_of P h) =
      subst (λ i. Among i (imports_of P h)) there (listed (imports_of P h) j few) in
      record {
        activation = home_is.activation;
        home_region = home_is.home_region;
        live = home_is.live;
        path = λ p y.
            let before : PathOf S number run (at_iteration c k) (path_at y.seat k) =
            record { seat = y.seat; of_context = y.of_context; is = refl } in
            let out : without (loops_between (rows P) (region P w).head b) (path_at y.seat k)
            ≡ without (loops_between (rows P) (region P w).head b) p =
            ap (λ d. without d (path_at y.seat k)) deep ∙ without_moved y.seat (loops_between (rows P) t b) k (suc k)
            ∙ (λ i. without (sym deep i) (sym y.is i)) in
            subst (PathOf S number run home_is.activation) out (home_is.path (path_at y.seat k) before);
        comes = λ v fits y.
            let ok : same_kind (kind_of v) (port_at P (get_or (imports_of P h) j 0)) ≡ true =
            ap (λ i. same_kind (kind_of v) (port_at P i)) there ∙ fits in
            let said : Speaks S number run (at_iteration c k)
            (name_in P (arm_at (x.the).switches true) (get_or (imports_of P h) j 0)) v =
            subst (λ (z : ℕ × ℕ). Speaks S number run (at_iteration c k) (name_in P (arm_at z.0 true) z.1) v) {x =
            (w, b)}
            {y = ((x.the).switches, get_or (imports_of P h) j 0)}
            (λ i. (sym same i, sym there i))
            (side_comes b x less is within is' same right of_block inside binds among sees says v fits
            (home_is.comes v fits y)) in
            subst (λ z. Speaks S number run (at_iteration c (suc k)) z v) (sym from)
            (name_again S g number numbered known count only s run r quiet x c k j v few ok said);
      }

  -- each name that a live region sees comes there from its binder's label
  pub home : {a : Activation} {q : Region} (b : ℕ) → b < length (rows P) → is_binder (node P b) ≡ true
      → Live S number run a q → Sees P b q → Home a q b
  home b inside binds live sees = by live (comes P _ b sees)
    where
      by : {a : Activation} {q : Region} → Live S number run a q → Comes P q b → Home a q b
      by {a} {q} live (from_label is from) =
          subst (λ z. Home a z b) is
          (at_label a b inside binds (subst (Live S number run a) (sym is) live) (ap (λ z. name_in P z b) is ∙ from))
      by at_start (from_entry h t k less is few there rest at from) =
          let bad : Head ≡ LoopHead t = sym main_is ∙ ap (λ (q : Region). node P q.head) at ∙ is in
          cc
      by (on_side within tests live chosen goes) (from_entry h t k less is few there rest at from) =
          absurd (tests_no_block tests (ap (λ (q : Region). begins_block (node P q.head)) at ∙ ap begins_block is))
      by (entered {n = n} within begins live opened) (from_entry h t k less is few there rest at from) =
          begun_home b k inside binds within begins live opened less is few there rest at from
          (λ sees. by live (comes P (region P n) b sees))
      by (again {n = n} {e = e} within is' live chosen goes) (from_entry h t k less is few there rest at from) =
          let z = switches_of known within is' in
          let says = chosen_said S g number numbered known count only s run r quiet within (of_turns is') chosen in
          let head : block P n ≡ h = ap (λ (q : Region). q.head) (sym z.right ∙ at) in
          let x : (l : LoopOf P h) × ((l.the).switches ≡ n) =
          subst (λ i. (l : LoopOf P i) × ((l.the).switches ≡ n)) head (z.loop, z.switches) in
          again_home b k x.0 less is within is' x.1 at head inside binds few there rest from says
          (by live (from_entry h t k less is few there rest at from))
      by at_start (from_switch n t k c within is less there rest at from) =
          absurd (tests_no_block (as_tests is) (ap (λ (z : Region). begins_block (node P z.head)) (sym at)
          ∙ ap begins_block main_is))
      by (entered within begins live opened) (from_switch n t k c less_n is less there rest at from) =
          absurd (tests_no_block (as_tests is) (ap (λ (z : Region). begins_block (node P z.head)) (sym at)
          ∙ (begun_at known within begins).head))
      by (again {n = m} {e = e} within is' live chosen goes) (from_switch n t k c less_n is less there rest at from) =
          let z = switches_of known within is' in
          absurd (tests_no_block (as_tests is) (ap (λ (q : Region). begins_block (node P q.head)) (sym at ∙ z.right)
          ∙ ap begins_block (z.loop).head))
      by {a} {q} (on_side {n = m} {e = e} {b = d} within tests live chosen goes)
          (from_switch n t k c less_n is less there rest at from) =
          handed_home b n t k c within tests
          (chosen_said S g number numbered known count only s run r quiet within tests chosen) less there at from
          (by live (comes P (region P m) b
          (subst (λ z. Sees P b (region P z)) (sym (ap (λ (z : Region). z.head) at)) rest)))
