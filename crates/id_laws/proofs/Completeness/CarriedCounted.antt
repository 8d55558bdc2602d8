-- In a quiet run what a loop with an index runs is carried: its bounds, its index, and whether it goes on.
use Rattle.std.proofs.Common.{◌≡◌, inl, inr, ℕ, suc, ◌+◌, ◌-◌, ◌<◌, arith, Bool as Truth, true, cond, List, length}
use Rattle.std.proofs.Common.{refl, sym}
use Rattle.std.proofs.Common.{◌∙◌, ap, subst}
use Rattle.id_value.specs.List.{Among}
use Rattle.id_table.specs.declared.row.Node.TheVariants.{Loop}
use Rattle.id_table.specs.declared.row.Node.TheVariants.{Bounds, Count, Index}
use Rattle.id_table.specs.Loops.{bounds_row, index_row}
use Rattle.std.proofs.Common.{ℤ}
use Rattle.std.specs.Prelude.{int_le, int_lt, ◌+ℤ◌, pos}
use Rattle.id_value.specs.Results.{is_whole}
use Rattle.id_value.specs.declared.Outcome.TheVariants.{Gives, Fails}
use Rattle.id_value.specs.declared.FaultKind.TheVariants.{Overflow}
use Rattle.id_value.specs.declared.Comparison.TheVariants.{Le, Lt}
use Rattle.id_value.specs.declared.Arithmetic.TheVariants.{Add}
use Rattle.id_instr.specs.declared.instr.Dyadic.TheVariants as dyadic
use Rattle.id_instr.specs.declared.instr.PortKind.TheVariants as ports
use Rattle.id_ops.specs.Operators.{fired_by}
use Rattle.id_table.specs.declared.row.Region.{Region}
use Rattle.id_table.specs.Rows.{arm_at, top}
use Rattle.id_table.specs.Tables.{HasNear, HasOperand, is_thing}
use Rattle.id_check.specs.declared.checked.Checked.{Checked}
use Rattle.id_check.specs.Programs.{Stands, place, region, rows}
use Rattle.id_instr.specs.declared.dests.Port.{Port}
use Rattle.id_instr.specs.declared.dests.Port.TheVariants.{Zero, One}
use Rattle.id_instr.specs.declared.instr.Op.TheVariants as op
use Rattle.id_instr.specs.Graph.{Parts}
use Rattle.id_tag.specs.declared.Value.TheVariants as value
use Rattle.id_ops.specs.declared.Operands.TheVariants.{One as Alone, Two as Both}
use Rattle.id_value.specs.declared.Constant.TheVariants as constants
use Rattle.id_core.specs.Machines.{World}
use Rattle.id_source.specs.declared.Path.{Path}
use Rattle.id_source.specs.declared.SourceValue.TheVariants as source
use Rattle.id_source.specs.Sources.{Source, AreInputs}
use Rattle.id_source.specs.Facts.{below, ForStands, GoesOn, by_predicate, by_bounds}
use Rattle.id_source.specs.Facts as facts
use Rattle.id_source.specs.Rounds.{Every, Holds}
use Rattle.id_source.specs.declared.Fact.{Fact}
use Rattle.id_build.specs.declared.arc.Origin.{Origin}
use Rattle.id_build.specs.Rows.{block, name_in, label, node, feed, feeds_of, origin, output, trigger_of}
use Rattle.id_build.specs.Rows.{home as home_of, home_by, label_by, part_of}
use Rattle.id_build.specs.Schemas.{Feeds, Numbered}
use Rattle.id_runs.specs.Activations.{Activation, at_iteration}
use Rattle.id_runs.specs.Events.{Event}
use Rattle.id_runs.specs.Runs.{Reach}
use Rattle.id_runs.specs.OneMessage.{Exclusive}
use Rattle.id_laws.specs.Activations.{Live, by_index, of_turns}
use Rattle.id_laws.specs.Activations.{Chosen, has_said}
use Rattle.id_laws.specs.Activations.{Goes, PathOf, Speaks, Opens}
use Rattle.id_laws.specs.Topics.{number_stands}
use Rattle.id_laws.specs.Carried.{Here, Carried, CarriedHas, speaker}
use Rattle.id_laws.proofs.Rows.Arcs.{bounds_meet, begins_index, meets_bound, goes_further, hands_index, has_one}
use Rattle.id_laws.proofs.Rows.Arcs.{adds_one}
use Rattle.id_laws.proofs.Rows.Assumed.{IsKnown}
use Rattle.id_laws.proofs.Paths.Iterations.{turned_again as live_again}
use Rattle.id_laws.proofs.Rows.Loops.{LoopOf, start_region}
use Rattle.id_laws.proofs.Rows.Loops.{IsCounted, bounds_mean, bounds_node, bounds_region, counted_of, counts_stands}
use Rattle.id_laws.proofs.Rows.Loops.{counts_within}
use Rattle.id_laws.proofs.Paths.Counted.{flag_origin, index_block}
use Rattle.id_build.proofs.RegionsLemmas.{index_loop, index_region}
use Rattle.id_laws.proofs.Completeness.Counting.{bound_home, bound_inside, flag_first, flag_next, index_first}
use Rattle.id_laws.proofs.Completeness.Counting.{index_next}
use Rattle.id_laws.proofs.Rows.LoopFacts.{loop_is}
use Rattle.id_laws.proofs.Paths.Opened.{loop_path, one_seats}
use Rattle.id_runs.proofs.Serials.{contexts_apart}
use Rattle.id_laws.proofs.Rows.Conditionals.{arm_live}
use Rattle.id_laws.proofs.Validity.HasKinds.{operand_of}
use Rattle.id_laws.proofs.Completeness.Firings.{IsSettled, alone_fired, both_fired, came, spoken, spoken_on}
use Rattle.id_laws.proofs.Completeness.Triggers.{live_turned}
use Rattle.id_laws.proofs.Rows.Speakers.{binder_speaks, fed_as}
use Rattle.id_laws.proofs.Paths.Seats.{below_is}
use Rattle.id_laws.proofs.Completeness.CarriedValues.{stands_constant}
use Rattle.id_tag.specs.declared.Context.{Context}
use Rattle.id_desugar.specs.Ends.{end_of}
use Rattle.id_laws.proofs.Completeness.CarriedThings.{thing_here, here_is, live_at, same_here, said_at}
use Rattle.id_laws.proofs.Completeness.CarriedRegions.{Starting, Tested, by_test_tested, iteration, side_live, starting}

module _ (S : Source) (g : Parts) (number : ℕ → ℕ
    → ℕ) (numbered : Numbered S.checked g number) (known : IsKnown S.checked)
    (inputs : AreInputs S.checked S.inputs) (count : ℕ) (only : Exclusive g S.inputs count) (s : World)
    (run : List Event)
    (r : Reach g S.inputs count s run) (quiet : IsSettled S s) where
  abbrev P : Checked
  P = S.checked

  abbrev H : Path → ℕ → Type 0
  H p e = Here S number run p e

  abbrev Starts : Path → ℕ → ℕ → Activation → Type 0
  Starts p n h a = Starting S g number numbered known inputs count only s run r quiet p n h a

  abbrev T : Path → ℕ → ℕ → ℕ → Truth → Type 0
  T p n k w b = Tested S g number numbered known inputs count only s run r quiet p n k w b

  -- the loop of its rule
  record ForLoop (n w x a b l : ℕ) (y : ForStands P n w x a b l) : Type 0 where
    loop : LoopOf P y.head
    counted : IsCounted P loop.all
    switches : (loop.the).switches ≡ w
    row : n ≡ end_of P y.head
    lower : (counted.bounds).lower ≡ a
    upper : (counted.bounds).upper ≡ b
    index : x ≡ index_row w
    within : w < length (rows P)
    right : region P w ≡ top y.head
    side : region P x ≡ arm_at w true

  for_loop : {n w x a b l : ℕ} (y : ForStands P n w x a b l) → ForLoop n w x a b l y
  for_loop {w = w} {x = x} {a = a} {b = b} y =
      let z = loop_is known y.loop in
      let c = counted_of P (z.loop).all (bounds_mean known z.loop (y.bounds).node) in
      let both : Bounds (c.bounds).lower (c.bounds).upper ≡ Bounds a b =
      sym (bounds_node P known y.head z.loop c) ∙ (y.bounds).node in
      record {
        loop = z.loop;
        counted = c;
        switches = z.switches;
        row = z.row;
        lower = cc;
        upper = cc;
        index = y.behind;
        within = z.within;
        right = z.right;
        side = index_region P x y.name (y.index).within (y.index).node ∙ ap (λ v. arm_at v true) switches;
      }
    where
      switches : ((index_loop P x y.name (y.index).within (y.index).node).1).switches ≡ w
      switches = let q = index_loop P x y.name (y.index).within (y.index).node in omega (arith, q.3, y.behind)

  -- its bounds stand where it does
  loop_beside : {n w x a b l : ℕ} (y : ForStands P n w x a b l) → ForLoop n w x a b l y
      → region P (bounds_row y.head) ≡ region P n
  loop_beside y z =
      bounds_region P known y.head z.loop z.counted ∙ start_region P known y.head z.loop ∙ ap (region P) (sym z.row)

  -- its flag has spoken what chooses a side
  flag_chosen : {n w x a b l : ℕ} {y : ForStands P n w x a b l} (z : ForLoop n w x a b l y) {e : Activation} {d : Truth}
      → Speaks S number run e (output (y.head + 3)) (value.Bool d)
      → Chosen S number run e w d
  flag_chosen {y = y} z {e} {d} says =
      let c = z.counted in
      let test = (((z.loop).all).test).test in
      has_said (of_turns (ap (node P) (sym z.switches) ∙ (((z.loop).all).test).node))
      (subst (λ o. Speaks S number run e o (value.Bool d)) (sym (flag_origin P known y.head z.loop c)) says)

  -- what an expression where the loop stands has spoken
  bound_spoken : {n w x a b l : ℕ} {p : Path} {i : ℤ} (y : ForStands P n w x a b l) (e : ℕ) → HasOperand (Bounds a b) e
      → (d : Activation) → PathOf S number run d p
      → Live S number run d (region P (bounds_row y.head)) → CarriedHas S number run p (place P e) (source.Int i)
      → Speaks S number run d (origin P e) (value.Int i)
  bound_spoken {p = p} {i = i} y e operand d path live has =
      let within = (y.bounds).within in
      let part = subst (λ m. HasOperand m e) (sym (y.bounds).node) operand in
      let inner = operand_of S known inputs (bounds_row y.head) e within part in
      let expression = known.operands (bounds_row y.head) e within part in
      let stands =
      (known.table).part_stands (bounds_row y.head) e within (subst (λ m. HasNear m e) (sym (y.bounds).node) operand) in
      let here = thing_here S g number numbered known inputs count only s run r quiet d path e inner.0 expression
      (subst (Live S number run d) (sym stands.1) live) in
      subst (Speaks S number run d (origin P e)) (stands_constant (constants.Int i) has.stands)
      (said_at S g number numbered known inputs count only s run r quiet here e inner.0 expression has)

  -- the bounds stand where the loop does
  pub bounds_here : {n w x a b l : ℕ} {p : Path} (y : ForStands P n w x a b l) (e : ℕ) → HasOperand (Bounds a b) e
      → H p (place P n) → H p (place P e)
  bounds_here {n} {a = a} {b = b} y e operand on =
      let z = for_loop y in
      let row = bounds_row y.head in
      let within = (y.bounds).within in
      let part = subst (λ m. HasOperand m e) (sym (y.bounds).node) operand in
      let inner = operand_of S known inputs row e within part in
      let stands = (known.table).part_stands row e within (subst (λ m. HasNear m e) (sym (y.bounds).node) operand) in
      same_here S g number numbered known inputs count only s run r quiet on e inner.0
      (known.operands row e within part)
      (subst (Live S number run on.activation) (sym (stands.1 ∙ loop_beside y z))
      (live_at S g number numbered known inputs count only s run r quiet on y.loop refl refl))

  -- the bounds were compared where the loop is On
  record Compared (p : Path) (n h : ℕ) (c : Truth) (i : ℤ) : Type 0 where
    activation : Activation
    starting : Starts p n h activation
    said : Speaks S number run activation (output (bounds_row h)) (value.Bool c)
    lower : ℕ
    upper : ℕ
    bounds : node P (bounds_row h) ≡ Bounds lower upper
    low : Speaks S number run activation (origin P lower) (value.Int i)

  compared : {n w x a b l : ℕ} {p : Path} {lo hi : ℤ} (y : ForStands P n w x a b l) → H p (place P n)
      → CarriedHas S number run p (place P a) (source.Int lo) → CarriedHas S number run p (place P b) (source.Int hi)
      → Compared p n y.head (int_le lo hi) lo
  compared {a = a} {b = b} {lo = lo} {hi = hi} y on low high =
      let z = for_loop y in
      let at = starting S g number numbered known inputs count only s run r quiet on y.loop in
      let d = on.activation in
      let h = y.head in
      let row = bounds_row h in
      let live = subst (Live S number run d) (sym (loop_beside y z))
      (live_at S g number numbered known inputs count only s run r quiet on y.loop refl refl) in
      let low_said = bound_spoken y a (inl refl) d on.path_of live low in
      let high_said = bound_spoken y b (inr refl) d on.path_of live high in
      let left =
      came S g number numbered known count only s run r quiet d (origin P a) row 0 Zero (value.Int lo) low_said
      (fed_as P known (origin P a) row 0 Zero (Bounds a b) (y.bounds).within (y.bounds).node (inl refl)) in
      let right =
      came S g number numbered known count only s run r quiet d (origin P b) row 0 One (value.Int hi) high_said
      (fed_as P known (origin P b) row 0 One (Bounds a b) (y.bounds).within (y.bounds).node (inr (inl refl))) in
      let fired_so =
      both_fired S g number numbered known count only s run r quiet d row 0 (op.Binary (dyadic.Comparison Le))
      (value.Int lo) (value.Int hi)
      (y.bounds).within (bounds_meet (y.bounds).node) refl left right in
      record {
        activation = d;
        starting = at;
        said = spoken S g number numbered known count only s run r quiet d row 0 (op.Binary (dyadic.Comparison Le))
            (Both (value.Int lo) (value.Int hi))
            (value.Bool (int_le lo hi)) fired_so (λ f. refl);
        lower = a;
        upper = b;
        bounds = (y.bounds).node;
        low = low_said;
      }

  starts_at : {p : Path} {n h : ℕ} {a : Activation} (z : Starts p n h a) → Opens S number run a (h - 1) z.context
  starts_at {h = h} {a = a} z =
      let same : z.start ≡ h - 1 = omega (arith, z.head) in subst (λ i. Opens S number run a i z.context) same z.opens

  -- in the first iteration the loop goes on by its bounds
  by_bounds_tested : {n w x a b l : ℕ} {p : Path} {lo hi : ℤ} {c : Truth} (y : ForStands P n w x a b l)
      → int_le lo hi ≡ c → H p (place P n) → CarriedHas S number run p (place P a) (source.Int lo)
      → CarriedHas S number run p (place P b) (source.Int hi) → Goes S (below p (place P n) 0) w c → T p n 0 w c
  by_bounds_tested {c = c} y is on low high side =
      let z = for_loop y in
      let k = compared y on low high in
      let at = k.starting in
      let said = subst (λ b. Speaks S number run k.activation (output (bounds_row y.head)) (value.Bool b)) is k.said in
      record {
        context = at.context;
        live = subst (Live S number run (at_iteration at.context 0)) (sym z.right) at.live;
        chosen = flag_chosen z
            (flag_first S g number numbered known count only s run r quiet z.loop z.counted k.activation at.context c
            (starts_at at) said);
        goes = record { path = _; path_of = at.path_of 0; goes = side };
        path_of = at.path_of;
      }

  -- what counts in an iteration with an index
  record Counted (p : Path) (n k h w : ℕ) (i hi : ℤ) : Type 0 where
    context : Context
    body : Live S number run (at_iteration context k) (arm_at w true)
    index : Speaks S number run (at_iteration context k) (output (h + 1)) (value.Int i)
    compare : Speaks S number run (at_iteration context k) (output (w + 1)) (value.Bool (int_lt i hi))
    path_of : (j : ℕ) → PathOf S number run (at_iteration context j) (below p (place P n) j)

  counted_at : {n w x a b l : ℕ} {i hi : ℤ} (p : Path) (k : ℕ) (y : ForStands P n w x a b l)
      → CarriedHas S number run (below p (place P n) k) (place P x) (source.Int i)
      → CarriedHas S number run p (place P b) (source.Int hi) → Counted p n k y.head w i hi
  counted_at {n} {w} {x} {a} {b} {i = i} {hi = hi} p k y has high =
      let z = for_loop y in
      let h = y.head in
      let cn = w + 1 in
      let row_is = here_is S g number numbered known inputs count only s run r quiet has.here y.index refl in
      let own : home_of P x ≡ x = ap (home_by (block P x) x) (y.index).node in
      let in_h : block P x ≡ h =
      ap (block P) (z.index ∙ ap index_row (sym z.switches)) ∙ index_block P known h z.loop z.counted in
      let body =
      subst (Live S number run (has.here).activation) (ap (λ j. region P (home_of P j)) row_is ∙ ap (region P) own
      ∙ z.side) (has.here).live in
      let it = iteration S g number numbered known inputs count only s run r quiet (has.here).path_of body in
      let e = at_iteration it.context k in
      let label_is : label P x ≡ h + 1 = ap (label_by (block P x) x) (y.index).node ∙ ap (λ j. j + 1) in_h in
      let index_said : Speaks S number run e (output (h + 1)) (value.Int i) =
      subst (λ (q : Activation × Origin). Speaks S number run q.0 q.1 (value.Int i)) {x =
      ((has.here).activation, speaker P (has.here).row)} {y = (e, output (h + 1))}
      (λ j. (
        it.is j,
        (ap (speaker P) row_is ∙ binder_speaks P known x (Index y.name) (y.index).node refl ∙ ap output label_is) j,
      ))
      (subst (Speaks S number run (has.here).activation (speaker P (has.here).row))
      (stands_constant (constants.Int i) has.stands) has.spoken) in
      let arm = arm_live known it.live refl (of_turns (ap (node P) (sym z.switches) ∙ (((z.loop).all).test).node)) in
      let bound = bound_home S g number numbered known count only s run r quiet z.loop z.counted arm.live z.right in
      let outer = bound.outer in
      let up = loop_path S known number run
      (one_seats S known number run g numbered (contexts_apart g S.inputs count s run r)) z.loop outer (it.path_of k) in
      let parts = below_is p up.path (place P n) (place P (end_of P h)) k k up.is in
      let path : PathOf S number run outer.outer p = subst (PathOf S number run outer.outer) (sym parts.0) up.path_of in
      let start : outer.start ≡ h - 1 = omega (arith, outer.head) in
      let live =
      subst (Live S number run outer.outer) (ap (region P) start ∙ sym (bounds_region P known h z.loop z.counted))
      outer.live in
      let high_said = bound_spoken y b (inr refl) outer.outer path live high in
      let came_up =
      bound.comes hi
      (subst (λ j. Speaks S number run outer.outer (origin P j) (value.Int hi)) (sym z.upper) high_said) in
      let chosen = subst (λ j. Chosen S number run e j true) (sym z.switches) arm.chosen in
      let inside = bound_inside S g number numbered known count only s run r quiet z.loop z.counted hi chosen came_up in
      let less : cn < length (rows P) =
      subst (λ j. j + 1 < length (rows P)) z.switches (counts_within P known h z.loop z.counted _ (omega arith)) in
      let at : node P cn ≡ Count = ap (λ j. node P (j + 1)) (sym z.switches) ∙ (z.counted).count in
      let stand = counts_stands P known h z.loop z.counted (((z.loop).the).switches + 1) (omega arith) (omega arith) in
      let of_h : block P cn ≡ h = ap (λ j. block P (j + 1)) (sym z.switches) ∙ stand.0 in
      let of_arm : region P cn ≡ arm_at ((z.loop).the).switches true =
      ap (λ j. region P (j + 1)) (sym z.switches) ∙ stand.1 in
      let left =
      came S g number numbered known count only s run r quiet e (output (h + 1)) cn 0 Zero (value.Int i) index_said
      (subst (λ j. Feeds P (output (j + 1)) cn 0 Zero) of_h
      (fed_as P known (output (block P cn + 1)) cn 0 Zero Count less at (inl refl))) in
      let from = name_in P (arm_at ((z.loop).the).switches true) (h + 2) in
      let right_came = came S g number numbered known count only s run r quiet e from cn 0 One (value.Int hi) inside
      (subst (λ (q : Region × ℕ). Feeds P (name_in P q.0 (q.1 + 2)) cn 0 One) {x = (region P cn, block P cn)} {y =
      (arm_at ((z.loop).the).switches true, h)}
      (λ j. (of_arm j, of_h j))
      (fed_as P known (name_in P (region P cn) (block P cn + 2)) cn 0 One Count less at (inr (inl refl)))) in
      let fired_so =
      both_fired S g number numbered known count only s run r quiet e cn 0 (op.Binary (dyadic.Comparison Lt))
      (value.Int i) (value.Int hi)
      less (meets_bound at) refl left right_came in
      record {
        context = it.context;
        body = it.live;
        index = index_said;
        compare =
            spoken S g number numbered known count only s run r quiet e cn 0 (op.Binary (dyadic.Comparison Lt))
            (Both (value.Int i) (value.Int hi))
            (value.Bool (int_lt i hi)) fired_so (λ f. refl);
        path_of = it.path_of;
      }

  -- in each other one by what counts in the one before
  by_index_tested : {n w x a b l : ℕ} {i hi : ℤ} {c : Truth} (p : Path) (k : ℕ) (y : ForStands P n w x a b l)
      → int_lt i hi ≡ c → CarriedHas S number run (below p (place P n) k) (place P x) (source.Int i)
      → CarriedHas S number run p (place P b) (source.Int hi) → Goes S (below p (place P n) (suc k)) w c
      → T p n (suc k) w c
  by_index_tested {c = c} p k y is has high side =
      let z = for_loop y in
      let m = counted_at p k y has high in
      let test = ap (node P) (sym z.switches) ∙ (((z.loop).all).test).node in
      let said =
      subst (λ (q : ℕ × Truth). Speaks S number run (at_iteration m.context k) (output (q.0 + 1)) (value.Bool q.1)) {x =
      (_, _)}
      {y = (((z.loop).the).switches, c)} (λ j. (sym z.switches j, is j)) m.compare in
      record {
        context = m.context;
        live = live_again known z.within test m.body;
        chosen = flag_chosen z
            (flag_next S g number numbered known count only s run r quiet z.loop z.counted m.context k c said);
        goes = record { path = _; path_of = m.path_of (suc k); goes = side };
        path_of = m.path_of;
      }

  -- what came to the entry of the index it Has, where the body is live
  index_has : {n w x a b l : ℕ} {i : ℤ} (p : Path) (k : ℕ) (y : ForStands P n w x a b l) (z : ForLoop n w x a b l y)
      (t : T p n k w true) → Speaks S number run (at_iteration t.context k) (output (y.head + 1)) (value.Int i)
      → CarriedHas S number run (below p (place P n) k) (place P x) (source.Int i)
  index_has {n} {w} {x} {i = i} p k y z t says =
      let e = at_iteration t.context k in
      let h = y.head in
      let in_h : block P x ≡ h =
      ap (block P) (z.index ∙ ap index_row (sym z.switches)) ∙ index_block P known h z.loop z.counted in
      let own : home_of P x ≡ x = ap (home_by (block P x) x) (y.index).node in
      let label_is : label P x ≡ h + 1 = ap (label_by (block P x) x) (y.index).node ∙ ap (λ j. j + 1) in_h in
      let live = side_live S g number numbered known inputs count only s run r quiet y.loop t in
      record {
        here = record {
          activation = e;
          path_of = t.path_of k;
          row = x;
          within = (y.index).within;
          thing = ap is_thing (y.index).node;
          place = refl;
          live = subst (Live S number run e) (sym (ap (region P) own ∙ z.side)) live;
        };
        value = value.Int i;
        stands = number_stands i;
        spoken = subst (λ o. Speaks S number run e o (value.Int i))
            (sym (binder_speaks P known x (Index y.name) (y.index).node refl ∙ ap output label_is)) says;
      }

  -- the first index is the lower bound
  pub index_begins_carried : {n w x a b l : ℕ} {p : Path} {lo hi : ℤ} (y : ForStands P n w x a b l)
      → int_le lo hi ≡ true → H p (place P n) → CarriedHas S number run p (place P a) (source.Int lo)
      → CarriedHas S number run p (place P b) (source.Int hi) → Goes S (below p (place P n) 0) w true
      → CarriedHas S number run (below p (place P n) 0) (place P x) (source.Int lo)
  index_begins_carried {a = a} {b = b} {p = p} {lo = lo} {hi = hi} y is on low high side =
      let z = for_loop y in
      let k = compared y on low high in
      let at = k.starting in
      let d = k.activation in
      let row = bounds_row y.head in
      let said = subst (λ c. Speaks S number run d (output row) (value.Bool c)) is k.said in
      let test =
      came S g number numbered known count only s run r quiet d (output row) row 1 Zero (value.Bool true) said
      (fed_as P known (output row) row 1 Zero (Bounds a b) (y.bounds).within (y.bounds).node (inr (inr (inl refl)))) in
      let both : Bounds k.lower k.upper ≡ Bounds a b = sym k.bounds ∙ (y.bounds).node in
      let same : k.lower ≡ a = cc in
      let low_said = subst (λ j. Speaks S number run d (origin P j) (value.Int lo)) same k.low in
      let first =
      came S g number numbered known count only s run r quiet d (origin P a) row 1 One (value.Int lo) low_said
      (fed_as P known (origin P a) row 1 One (Bounds a b) (y.bounds).within (y.bounds).node
      (inr (inr (inr (inl refl))))) in
      let fired_so =
      both_fired S g number numbered known count only s run r quiet d row 1 (op.Switch ports.Int) (value.Bool true)
      (value.Int lo)
      (y.bounds).within (begins_index (y.bounds).node) refl test first in
      let goes_in =
      spoken_on S g number numbered known count only s run r quiet d row 1 (op.Switch ports.Int)
      (Both (value.Bool true) (value.Int lo)) true
      (value.Int lo) fired_so (λ f. refl) in
      let t : T p _ 0 _ true = record {
        context = at.context;
        live = subst (Live S number run (at_iteration at.context 0)) (sym z.right) at.live;
        chosen = flag_chosen z
            (flag_first S g number numbered known count only s run r quiet z.loop z.counted d at.context true
            (starts_at at) said);
        goes = record { path = _; path_of = at.path_of 0; goes = side };
        path_of = at.path_of;
      } in
      index_has p 0 y z t
      (index_first S g number numbered known count only s run r quiet z.loop z.counted d at.context lo (starts_at at)
      goes_in)

  -- and each other one is one more than the one before
  pub index_counts_carried : {n w x a b l : ℕ} {i hi : ℤ} (p : Path) (k : ℕ) (y : ForStands P n w x a b l)
      → int_lt i hi ≡ true → is_whole (i +ℤ pos 1) ≡ true
      → CarriedHas S number run (below p (place P n) k) (place P x) (source.Int i)
      → CarriedHas S number run p (place P b) (source.Int hi) → Goes S (below p (place P n) (suc k)) w true
      → CarriedHas S number run (below p (place P n) (suc k)) (place P x) (source.Int (i +ℤ pos 1))
  index_counts_carried {n} {w} {x} {a} {b} {l} {i} {hi} p k y is fits has high side =
      let z = for_loop y in
      let m = counted_at p k y has high in
      let e = at_iteration m.context k in
      let h = y.head in
      let cn = w + 1 in
      let less : cn < length (rows P) =
      subst (λ j. j + 1 < length (rows P)) z.switches (counts_within P known h z.loop z.counted _ (omega arith)) in
      let at : node P cn ≡ Count = ap (λ j. node P (j + 1)) (sym z.switches) ∙ (z.counted).count in
      let stand = counts_stands P known h z.loop z.counted (((z.loop).the).switches + 1) (omega arith) (omega arith) in
      let of_h : block P cn ≡ h = ap (λ j. block P (j + 1)) (sym z.switches) ∙ stand.0 in
      let of_arm : region P cn ≡ arm_at w true =
      ap (λ j. region P (j + 1)) (sym z.switches) ∙ stand.1 ∙ ap (λ j. arm_at j true) z.switches in
      let said = subst (λ c. Speaks S number run e (output cn) (value.Bool c)) is m.compare in
      let on = live_turned S g number numbered known count only s run r quiet m.body in
      let fed : (t : Origin) (part : ℕ) (q : Port) → Among (feed t part q) (feeds_of P cn (region P cn) Count)
      → Feeds P t cn part q =
      λ t part q among. fed_as P known t cn part q Count less at among in
      let go_on =
      both_fired S g number numbered known count only s run r quiet e cn 1 (op.Switch ports.Signal) (value.Bool true)
      value.Signal less
      (goes_further at) refl
      (came S g number numbered known count only s run r quiet e (output cn) cn 1 Zero (value.Bool true) said
      (fed (output cn) 1 Zero (inr (inr (inl refl)))))
      (came S g number numbered known count only s run r quiet e (trigger_of (arm_at w true)) cn 1 One value.Signal on
      (subst (λ q. Feeds P (trigger_of q) cn 1 One) of_arm
      (fed (trigger_of (region P cn)) 1 One (inr (inr (inr (inl refl))))))) in
      let further =
      spoken_on S g number numbered known count only s run r quiet e cn 1 (op.Switch ports.Signal)
      (Both (value.Bool true) value.Signal) true
      value.Signal go_on (λ f. refl) in
      let hand_on =
      both_fired S g number numbered known count only s run r quiet e cn 2 (op.Switch ports.Int) (value.Bool true)
      (value.Int i) less
      (hands_index at) refl
      (came S g number numbered known count only s run r quiet e (output cn) cn 2 Zero (value.Bool true) said
      (fed (output cn) 2 Zero (inr (inr (inr (inr (inl refl)))))))
      (came S g number numbered known count only s run r quiet e (output (h + 1)) cn 2 One (value.Int i) m.index
      (subst (λ j. Feeds P (output (j + 1)) cn 2 One) of_h
      (fed (output (block P cn + 1)) 2 One (inr (inr (inr (inr (inr (inl refl))))))))) in
      let last =
      spoken_on S g number numbered known count only s run r quiet e cn 2 (op.Switch ports.Int)
      (Both (value.Bool true) (value.Int i)) true
      (value.Int i) hand_on (λ f. refl) in
      let one_fired =
      alone_fired S g number numbered known count only s run r quiet e cn 3 (op.Const (constants.Int (pos 1))) Zero
      value.Signal less
      (has_one at) refl
      (came S g number numbered known count only s run r quiet e (part_of cn 1) cn 3 Zero value.Signal further
      (fed (part_of cn 1) 3 Zero (inr (inr (inr (inr (inr (inr (inl refl))))))))) in
      let one_more =
      spoken S g number numbered known count only s run r quiet e cn 3 (op.Const (constants.Int (pos 1)))
      (Alone value.Signal)
      (value.Int (pos 1)) one_fired (λ f. refl) in
      let add_fired =
      both_fired S g number numbered known count only s run r quiet e cn 4 (op.Binary (dyadic.Arithmetic Add))
      (value.Int i) (value.Int (pos 1)) less
      (adds_one at) refl
      (came S g number numbered known count only s run r quiet e (part_of cn 2) cn 4 Zero (value.Int i) last
      (fed (part_of cn 2) 4 Zero (inr (inr (inr (inr (inr (inr (inr (inl refl))))))))))
      (came S g number numbered known count only s run r quiet e (part_of cn 3) cn 4 One (value.Int (pos 1)) one_more
      (fed (part_of cn 3) 4 One (inr (inr (inr (inr (inr (inr (inr (inr (inl refl))))))))))) in
      let sum =
      spoken S g number numbered known count only s run r quiet e cn 4 (op.Binary (dyadic.Arithmetic Add))
      (Both (value.Int i) (value.Int (pos 1)))
      (value.Int (i +ℤ pos 1)) add_fired
      (λ f. ap (λ c. fired_by (cond c (Gives (constants.Int (i +ℤ pos 1))) (Fails Overflow))) fits) in
      let v = ((z.loop).the).switches in
      let next = index_next S g number numbered known count only s run r quiet z.loop z.counted m.context k (i +ℤ pos 1)
      (subst (λ j. Speaks S number run e (part_of (j + 1) 4) (value.Int (i +ℤ pos 1))) (sym z.switches) sum) in
      let test = ap (node P) (sym z.switches) ∙ (((z.loop).all).test).node in
      let flag = flag_next S g number numbered known count only s run r quiet z.loop z.counted m.context k true
      (subst (λ j. Speaks S number run e (output (j + 1)) (value.Bool true)) (sym z.switches) said) in
      let t : T p n (suc k) w true = record {
        context = m.context;
        live = live_again known z.within test m.body;
        chosen = flag_chosen z flag;
        goes = record { path = _; path_of = m.path_of (suc k); goes = side };
        path_of = m.path_of;
      } in
      index_has p (suc k) y z t next

  -- by these facts it was found
  pub tested : {n h w l : ℕ} {fs : List Fact} (p : Path) (k : ℕ) (b : Truth) → Stands P n (Loop h w l)
      → GoesOn S n w p k b fs → Every (Carried S number run) fs → Every (Holds S) fs → T p n k w b
  tested p k b x (by_predicate j y) c holds =
      by_test_tested S g number numbered known inputs count only s run r quiet p k b y c.0 holds.0
  tested p k b x (by_bounds y is) c holds = by_bounds_tested y is c.0 c.1.0 c.1.1.0 (by_index (by_bounds y is) holds)
  tested p k b x (facts.by_index j y is) c holds =
      by_index_tested p j y is c.0 c.1.0 (by_index (facts.by_index j y is) holds)
