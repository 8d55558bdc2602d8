-- In a quiet run each fact of the source is carried.
use Rattle.std.proofs.Common.{◌≡◌, inl, inr, ℕ, zero, suc, ◌<◌, Bool as Truth, true, false, cond, ℤ, Some, List, []}
use Rattle.std.proofs.Common.{◌∷◌, length, refl, sym, ◌∙◌, ap, subst, unwrap_or}
use Rattle.std.specs.Prelude.{◌&&◌}
use Rattle.std.specs.Bool.{beq}
use Rattle.id_value.proofs.AmongLemmas.{Among-from_at}
use Rattle.id_table.specs.declared.row.Node.TheVariants.{Param, Literal, Name, Unary, Binary, Binding, Program, Array}
use Rattle.id_table.specs.declared.row.Node.TheVariants.{Fetch, Address, Store}
use Rattle.id_table.specs.Rows.{top}
use Rattle.id_table.specs.Tables.{HasNear, HasOperand, is_binder, is_expression, is_thing}
use Rattle.id_check.specs.declared.checked.Checked.{Checked}
use Rattle.id_check.specs.Programs.{Stands, place, region, rows}
use Rattle.id_instr.specs.declared.dests.Port.TheVariants.{Zero, One}
use Rattle.id_instr.specs.declared.instr.Op.TheVariants as op
use Rattle.id_instr.specs.Graph.{Parts}
use Rattle.id_instr.specs.Held.{held_kind}
use Rattle.id_check.specs.Kinds.{kind_within}
use Rattle.id_value.specs.Bounds.{are_good, is_inside}
use Rattle.id_value.specs.declared.FaultKind.TheVariants.{BadBounds, OutOfBounds}
use Rattle.id_bank.specs.declared.cell.WriteAnswer.TheVariants.{Second}
use Rattle.id_tag.specs.declared.Cell.{Cell}
use Rattle.id_tag.specs.declared.Structure.{Structure}
use Rattle.id_tag.specs.declared.Tag.{Tag}
use Rattle.id_tag.specs.Kinds.{kind_of, same_kind}
use Rattle.id_tag.specs.declared.Value.{Value}
use Rattle.id_tag.specs.declared.Value.TheVariants as value
use Rattle.id_tag.specs.declared.Payload.TheVariants.{Read, Write}
use Rattle.id_ops.specs.declared.Operands.TheVariants.{One as Alone, Two}
use Rattle.id_ops.specs.declared.Fired.TheVariants.{Out, Asked, Stored, Failed, Nothing}
use Rattle.id_ops.specs.Operators.{address_in, constant_value, fired_address, fired_fetch, fired_store}
use Rattle.id_value.specs.declared.Constant.{Constant}
use Rattle.id_value.specs.declared.Constant.TheVariants as constants
use Rattle.id_core.specs.Machines.{World}
use Rattle.id_source.specs.declared.Path.{Path}
use Rattle.id_source.specs.declared.Site.{Site}
use Rattle.id_source.specs.declared.SourceValue.{SourceValue}
use Rattle.id_source.specs.declared.SourceValue.TheVariants as source
use Rattle.id_source.specs.declared.Fact.{Fact}
use Rattle.id_source.specs.declared.Fact.TheVariants.{Has}
use Rattle.id_source.specs.Sources.{Source, AreInputs, IsInput, body_of, main_body, main_params, value_of}
use Rattle.id_source.specs.Facts.{outermost, Rule, main_on, param_has, literal_has, operand_on, left_on, right_on}
use Rattle.id_source.specs.Facts.{unary_has}
use Rattle.id_source.specs.Facts.{binary_has, name_has, test_on, arm_on, conditional_has, statement_on, body_on}
use Rattle.id_source.specs.Facts.{block_has, binding_has, argument_on}
use Rattle.id_source.specs.Facts.{callee_on, argument_has, call_has, without}
use Rattle.id_source.specs.Facts as facts
use Rattle.id_source.specs.Facts.{by_predicate, by_bounds, lower_on, upper_on, index_begins, index_counts}
use Rattle.id_laws.specs.Activations.{by_index}
use Rattle.id_source.specs.Facts.{loop_test_on, first_has, turn_on, loop_statement_on, next_on, next_has, last_on}
use Rattle.id_source.specs.Facts.{loop_has}
use Rattle.id_source.specs.Facts.{StoreStands, site, shape, store_on, loop_store_on, bounds_low_on, bounds_high_on}
use Rattle.id_source.specs.Facts.{shape_made, array_has}
use Rattle.id_source.specs.Facts.{fetch_target_on, fetch_index_on, asks, fetch_has, store_target_on, store_index_on}
use Rattle.id_source.specs.Facts.{store_value_on, puts}
use Rattle.id_source.specs.Rounds.{Every, Rounds, Holds}
use Rattle.id_build.specs.declared.arc.Origin.{Origin}
use Rattle.id_build.specs.Rows.{home as home_of, label, node, origin, output, trigger_of, binary_op, holds_array}
use Rattle.id_build.specs.Rows.{port_at}
use Rattle.id_build.specs.Schemas.{Feeds, Numbered}
use Rattle.id_runs.specs.Activations.{Activation, main_activation, tag_in, at_iteration}
use Rattle.id_runs.specs.Events.{Event, FiresAs}
use Rattle.id_runs.specs.Runs.{Reach}
use Rattle.id_runs.specs.OneMessage.{Exclusive}
use Rattle.id_laws.specs.Activations.{Live, at_start, again, PathOf, Speaks, main_head}
use Rattle.id_laws.specs.Carried.{Here, CarriedHas, CarriedShape, CarriedPut, CarriedAsk, Carried, speaker}
use Rattle.id_laws.specs.Ways.{input}
use Rattle.id_laws.proofs.Completeness.Agreement.{agree_unary, agree_at}
use Rattle.id_laws.proofs.Rows.Arcs.{enters, constant, unary, binary, names, allocates, addresses, fetches, gets_reply}
use Rattle.id_laws.proofs.Rows.Arcs.{stores}
use Rattle.id_laws.proofs.Rows.Assumed.{IsKnown}
use Rattle.id_laws.proofs.Rows.LoopFacts.{loop_is}
use Rattle.id_laws.proofs.Validity.PortsTake.{Takes, takes_constant}
use Rattle.id_laws.proofs.Rows.Regions.{region_of, same_depth}
use Rattle.id_laws.proofs.Rows.Blocks.{a_param}
use Rattle.id_build.proofs.EndsLemmas as ends
use Rattle.id_laws.proofs.Validity.HasKinds.{port_taking, binder_thing, operand_of, Has_kind}
use Rattle.id_laws.proofs.Completeness.Firings.{IsSettled, alone_fired, both_fired, came, spoken, start_handled}
use Rattle.id_laws.proofs.Completeness.Firings.{alone_formed, sent_handled}
use Rattle.id_build.proofs.NamesSeen.{Sees}
use Rattle.id_laws.proofs.Validity.ValidPorts.{element_nested}
use Rattle.id_laws.proofs.Completeness.Triggers.{Home, home, live_turned, one_activation}
use Rattle.id_laws.proofs.Rows.Speakers.{own_origin, name_origin, block_origin, expression_speaks, binder_speaks}
use Rattle.id_laws.proofs.Rows.Speakers.{fed_as, fetch_origin}
use Rattle.id_laws.proofs.Paths.Seats.{main_path}
use Rattle.id_laws.proofs.Telling.TurnedOn.{holds_by}
use Rattle.id_build.specs.declared.arc.Form.TheVariants.{FetchAt}
use Rattle.id_laws.proofs.Completeness.CarriedValues.{gives_out, expression_plain, home_plain, merged, named_kind}
use Rattle.id_laws.proofs.Completeness.CarriedValues.{stands_constant, value_fits}
use Rattle.id_laws.proofs.Telling.FiringMeans.{constant_stands}
use Rattle.id_laws.specs.Topics.{Addresses, of_fetch, of_store, Named, StandsFor, number_stands, truth_stands}
use Rattle.id_laws.specs.Topics.{name_stands}
use Rattle.id_laws.proofs.Rows.Stores.{address_at, stored_port, target_operand}
use Rattle.id_laws.proofs.Completeness.OnCells.{was_read, was_written}
use Rattle.id_runs.specs.Cells.{ReadBy, WrittenBy}
use Rattle.id_runs.proofs.Answered.{answer_handled}
use Rattle.id_runs.proofs.Givings.{same_firing}
use Rattle.id_runs.proofs.OneMessage.{fired_once}
use Rattle.id_laws.proofs.Rows.Calls.{arg_at, call_at, enter_at}
use Rattle.id_value.specs.declared.Kind.TheVariants as sort
use Rattle.id_value.specs.Kinds.{is_array}
use Rattle.id_laws.proofs.Completeness.CarriedThings.{thing_here, here_is, live_at, same_here, operand_here, said_at}
use Rattle.id_laws.proofs.Completeness.CarriedThings.{operand_spoken, constant_spoken, has_spoken, own_has}
use Rattle.id_laws.proofs.Completeness.CarriedRegions.{arm_rows, test_here, arm_here, merge_has, calling, callee_at}
use Rattle.id_laws.proofs.Completeness.CarriedRegions.{argument_carried, call_carried, starting}
use Rattle.id_laws.proofs.Completeness.CarriedRegions.{loop_test_here, first_carried, side_live, side_here, next_value}
use Rattle.id_laws.proofs.Completeness.CarriedRegions.{next_operand, next_carried, last_at}
use Rattle.id_laws.proofs.Completeness.CarriedRegions.{last_operand, loop_carried}
use Rattle.id_laws.proofs.Completeness.CarriedCounted.{bounds_here, index_begins_carried, index_counts_carried, tested}

some_is : {A : Type 0} {x y : A} → Some x ≡ Some y → x ≡ y
some_is h = cc

same_truth : (b c : Truth) → c ≡ b → beq b c ≡ true
same_truth b c e = ap (beq b) e ∙ itself b
  where
    itself : (d : Truth) → beq d d ≡ true
    itself false = refl
    itself true = refl

-- where the instruction is for structures as this one, it makes an address of it
pub address_made : {h : Truth} (c : Structure) (j : ℤ) → h ≡ c.nested
    → fired_address h (Two (value.Structure c) (value.Int j)) ≡ address_in c j
address_made {h} c j e = ap (λ b. cond b (address_in c j) Nothing) (same_truth c.nested h e)

-- and asks for a cell of it
cell_asked : {h : Truth} (c : Cell) (r : ℕ) (t : Tag) → h ≡ c.structure.nested
    → fired_fetch h r t (Alone (value.Address c))
    ≡ Asked c (record { context = t.context; iteration = t.iteration; instr = r })
cell_asked {h} c r t e =
    ap (λ b. cond b (Asked c (record { context = t.context; iteration = t.iteration; instr = r })) Nothing)
    (same_truth c.structure.nested h e)

-- and stores what such a cell holds
cell_stored : {h : Truth} (c : Cell) (v : Value) (t : Tag) → h ≡ c.structure.nested
    → same_kind (kind_of v) (held_kind h) ≡ true → fired_store h t (Two (value.Address c) v) ≡ Stored c v t
cell_stored {h} c v t e fits =
    (λ i. cond (same_truth c.structure.nested h e i && fits i) (Stored c v t) Nothing)

module _ (S : Source) (g : Parts) (number : ℕ → ℕ
    → ℕ) (numbered : Numbered S.checked g number) (known : IsKnown S.checked)
    (inputs : AreInputs S.checked S.inputs) (count : ℕ) (only : Exclusive g S.inputs count) (s : World)
    (run : List Event)
    (r : Reach g S.inputs count s run) (quiet : IsSettled S s)
    (first : (c : Cell) (v : Value) (w x : Tag) → WrittenBy run c v w (Second x) → ⊥) where
  abbrev P : Checked
  P = S.checked

  abbrev C : Fact → Type 0
  C f = Carried S number run f

  abbrev H : Path → ℕ → Type 0
  H p e = Here S number run p e

  -- main's body stands in main's region
  pub body_region : (main_body P < length (rows P)) × (is_expression (node P (main_body P)) ≡ true)
      × (region P (main_body P) ≡ top (main_head P))
  body_region =
      let d = known.main in
      let t = known.table in
      let is : main_body P ≡ d.body = ap body_of d.node in
      let stands = ends.body_region P t P.main (main_head P) d in
      let heads = t.head_is P.main d.name (main_head P) d.body d.result d.within d.node in
      subst (λ b. (b < length (rows P)) × (is_expression (node P b) ≡ true) × (region P b ≡ top (main_head P))) (sym is)
      (stands.0, heads.2, stands.1)

  -- an input came to the label of its parameter
  input_carried : (b : ℕ) (c : Constant) → IsInput S b c → CarriedHas S number run outermost (place P b) (value_of c)
  input_carried b c x =
      let z = a_param (rows P) (main_head P) (length (rows P)) b (Among-from_at b (main_params P) x.number x.param) in
      let param = z.param in
      let live =
      subst (Live S number run main_activation)
      (sym (known.params b param.name param.kind z.within param.is ∙ ap top z.block)) at_start in
      let stands : Stands P b (Param param.name param.kind) = record { within = z.within; node = param.is } in
      own_has S g number numbered known inputs count only s run r quiet b (Param param.name param.kind)
      (constant_stands S number run c) main_activation main_path stands refl refl refl live (enters param.is)
      (port_taking S known inputs b outermost (value_of c) z.within (ap is_thing param.is)
      (holds_by S [] _ (param_has x) tt))
      (start_handled S g number numbered known count only s run r quiet (input b c x))

  -- ---- structures and cells

  -- a store of a live region is carried
  store_here : {p : Path} (b : Activation) → PathOf S number run b p → (m d v : ℕ) → m < length (rows P)
      → node P m ≡ Store d v → Live S number run b (region P m)
      → H p (place P m)
  store_here b path m d v within is live = record {
    activation = b;
    path_of = path;
    row = m;
    within = within;
    thing = ap is_thing is;
    place = refl;
    live = subst (λ k. Live S number run b (region P k)) (sym (home_plain P m (Store d v) is refl)) live;
  }

  -- what a store's parts, which stand where its `Address` does, are carried at
  pub address_part : {p : Path} {m t i x : ℕ} (h : H p (place P m)) (y : StoreStands P m t i x) (e : ℕ)
      → HasNear (Address t i) e → HasOperand (Address t i) e → (e < length (rows P)) × (is_expression (node P e) ≡ true)
      × Live S number run h.activation (region P e)
  address_part {m = m} {t = t} {i = i} h y e near operand =
      let d = y.address in
      let a = address_at known (y.store).within (y.store).node in
      let has = subst (λ z. HasOperand z e) (sym (y.parts).node) operand in
      let inner = operand_of S known inputs d e (y.parts).within has in
      let stands =
      (known.table).part_stands d e (y.parts).within (subst (λ z. HasNear z e) (sym (y.parts).node) near) in (
        inner.0,
        known.operands d e (y.parts).within has,
        subst (Live S number run h.activation) (sym (stands.1 ∙ a.region))
            (live_at S g number numbered known inputs count only s run r quiet h y.store refl refl),
      )

  -- what an On `array` has made
  record Allocated (p : Path) (n : ℕ) (lo hi : ℤ) (a : Activation) : Type 0 where
    structure : Structure
    low : lo ≡ structure.low
    high : hi ≡ structure.high
    named : Named S number run structure (site p (place P n))
    says : Speaks S number run a (output n) (value.Structure structure)

  allocated : {p : Path} {n e f : ℕ} {nested : Truth} {lo hi : ℤ} (h : H p (place P n)) → Stands P n (Array nested e f)
      → are_good lo hi ≡ true → CarriedHas S number run p (place P e) (source.Int lo)
      → CarriedHas S number run p (place P f) (source.Int hi) → Holds S
      (shape (site p (place P n)) lo hi)
      → Allocated p n lo hi h.activation
  allocated {p} {n} {e} {f} {nested} {lo} {hi} h x good low high holds =
      let a = h.activation in
      let left = came S g number numbered known count only s run r quiet a (origin P e) n 0 Zero (value.Int lo)
      (constant_spoken S g number numbered known inputs count only s run r quiet (constants.Int lo) h e x refl
      (inl refl) low)
      (fed_as P known (origin P e) n 0 Zero (Array nested e f) x.within x.node (inl refl)) in
      let right = came S g number numbered known count only s run r quiet a (origin P f) n 0 One (value.Int hi)
      (constant_spoken S g number numbered known inputs count only s run r quiet (constants.Int hi) h f x refl
      (inr refl) high)
      (fed_as P known (origin P f) n 0 One (Array nested e f) x.within x.node (inr (inl refl))) in
      let fired_so =
      both_fired S g number numbered known count only s run r quiet a n 0 (op.Alloc nested) (value.Int lo)
      (value.Int hi) x.within
      (allocates x.node) refl left right in
      let made : Structure =
      record {
        element = (fired_so.fresh).element;
        serial = (fired_so.fresh).structure;
        low = lo;
        high = hi;
        nested =
            nested;
      } in
      let fires : FiresAs run (tag_in a (number n 0)) (Out (value.Structure made)) =
      subst (λ b. FiresAs run (tag_in a (number n 0)) (cond b (Out (value.Structure made)) (Failed BadBounds))) good
      fired_so.fires in
      record {
        structure = made;
        low = refl;
        high = refl;
        named = record {
          activation = a;
          row = n;
          low = e;
          high = f;
          within = x.within;
          node = x.node;
          live = live_at S g number numbered known inputs count only s run r quiet h x refl refl;
          made = fires;
          path_of = h.path_of;
          place = refl;
          holds = holds;
        };
        says = record { fired = Out (value.Structure made); fires = fires; gives = (refl, refl) };
      }

  -- one name is of one structure
  pub one_structure : {a b : Structure} {x : Site} → Named S number run a x → Named S number run b x → a ≡ b
  one_structure {a} {b} {x} h k =
      let same = one_activation S g number numbered known count only s run r quiet h.live k.live h.path_of k.path_of in
      let row =
      (known.apart).apart h.row k.row h.within k.within (ap is_thing h.node) (ap is_thing k.node) (sym h.place
      ∙ k.place) in
      let at : tag_in h.activation (number h.row 0) ≡ tag_in k.activation (number k.row 0) =
      (λ i. tag_in (same i) (number (row i) 0)) in
      let here = subst (λ t. FiresAs run t (Out (value.Structure a))) at h.made in
      one_made (same_firing here k.made (fired_once g S.inputs count only s run r _ _ _ here k.made))
    where
      one_made : Out (value.Structure a) ≡ Out (value.Structure b) → a ≡ b
      one_made e = cc

  -- what stands for a name is a structure of it
  pub structure_of : {w : Value} {v : SourceValue} {x : Site} → StandsFor S number run w v → v ≡ source.Name x
      → (c : Structure) × (w ≡ value.Structure c) × Named S number run c x
  structure_of (number_stands n) e = cc
  structure_of (truth_stands b) e = cc
  structure_of (name_stands c y named) e =
      let same : y ≡ _ = name_is e in (c, refl, subst (Named S number run c) same named)
    where
      name_is : {y z : Site} → source.Name y ≡ source.Name z → y ≡ z
      name_is e = cc

  -- what names a cell of a structure is for the cells of such structures
  pub cells_of : {n t i : ℕ} {c : Structure} {x : Site} {p : Path} → n < length (rows P) → Addresses P n t i
      → Named S number run c x → Holds S (Has p (place P t) (source.Name x)) → holds_array P n ≡ c.nested
  cells_of {n} {t} {i} {c} {x} {p} within parts named holds =
      let inner = operand_of S known inputs n t within (target_operand parts) in
      let target = named_kind known named (Has_kind S known inputs t p (source.Name x) inner.0 inner.1 holds) in
      ap (λ o. is_array (unwrap_or o sort.Int)) (known.cell_kind n t i within parts
      ∙ ap (λ o. Some (kind_within o)) target) ∙ element_nested c.nested

  -- the row n that names a cell has given its address, where its parts have spoken what they Have
  record Addressed (n : ℕ) (a : Activation) (x : Site) (j : ℤ) : Type 0 where
    structure : Structure
    of_cells : holds_array P n ≡ structure.nested
    named : Named S number run structure x
    says : Speaks S number run a (output n) (value.Address (record { structure = structure; index = j }))

  addressed : {p : Path} {n t i : ℕ} {x : Site} {j lo hi : ℤ} {w : Value} (a : Activation) → n < length (rows P)
      → Addresses P n t i → is_inside lo hi j ≡ true
      → Feeds P (origin P t) n 0 Zero → Feeds P (origin P i) n 0 One → Holds S (Has p (place P t) (source.Name x))
      → StandsFor S number run w (source.Name x) → Speaks S number run a (origin P t) w
      → Speaks S number run a (origin P i) (value.Int j) → CarriedShape S number run x lo hi → Addressed n a x j
  addressed {n = n} {t = t} {i = i} {x = x} {j = j} {lo = lo} {hi = hi} {w =
      w} a within parts inside to_target to_index holds stands target index shaped =
      let c = structure_of stands refl in
      let same : shaped.structure ≡ c.0 = one_structure shaped.named c.2 in
      let low : lo ≡ (c.0).low = shaped.low ∙ ap (λ (y : Structure). y.low) same in
      let high : hi ≡ (c.0).high = shaped.high ∙ ap (λ (y : Structure). y.high) same in
      let good : is_inside (c.0).low (c.0).high j ≡ true = (λ k. is_inside (sym low k) (sym high k) j) ∙ inside in
      let left = came S g number numbered known count only s run r quiet a (origin P t) n 0 Zero (value.Structure c.0)
      (subst (Speaks S number run a (origin P t)) c.1 target) to_target in
      let right =
      came S g number numbered known count only s run r quiet a (origin P i) n 0 One (value.Int j) index to_index in
      let fired_so =
      both_fired S g number numbered known count only s run r quiet a n 0 (op.Address (holds_array P n))
      (value.Structure c.0) (value.Int j) within
      (addresses parts) refl left right in
      let cell : Cell = record { structure = c.0; index = j } in
      let of_cells = cells_of within parts c.2 holds in
      let fires : FiresAs run (tag_in a (number n 0)) (Out (value.Address cell)) =
      subst (FiresAs run (tag_in a (number n 0))) (address_made c.0 j of_cells
      ∙ ap (λ b. cond b (Out (value.Address cell)) (Failed OutOfBounds)) good)
      fired_so.fires in
      record {
        structure = c.0;
        of_cells = of_cells;
        named = c.2;
        says =
            record { fired = Out (value.Address cell); fires = fires; gives = (refl, refl) };
      }

  -- an On fetch has asked
  ask_carried : {p : Path} {n t i : ℕ} {x : Site} {j lo hi : ℤ} (h : H p (place P n)) → Stands P n (Fetch t i)
      → is_inside lo hi j ≡ true → Holds S (Has p (place P t) (source.Name x))
      → (c : CarriedHas S number run p (place P t) (source.Name x))
      → CarriedHas S number run p (place P i) (source.Int j) → CarriedShape S number run x lo hi
      → CarriedAsk S number run (site p (place P n)) x j
  ask_carried {p} {n} {t} {i} {x} {j} h y inside holds target index shaped =
      let a = h.activation in
      let z = addressed a y.within (of_fetch y.node) inside
      (fed_as P known (origin P t) n 0 Zero (Fetch t i) y.within y.node (inl refl))
      (fed_as P known (origin P i) n 0 One (Fetch t i) y.within y.node (inr (inl refl))) holds target.stands
      (operand_spoken S g number numbered known inputs count only s run r quiet h t y refl (inl refl) target)
      (constant_spoken S g number numbered known inputs count only s run r quiet (constants.Int j) h i y refl (inr refl)
      index) shaped in
      let cell : Cell = record { structure = z.structure; index = j } in
      let to = came S g number numbered known count only s run r quiet a (output n) n 1 Zero (value.Address cell) z.says
      (fed_as P known (output n) n 1 Zero (Fetch t i) y.within y.node (inr (inr (inl refl)))) in
      let fired_so =
      alone_formed S g number numbered known count only s run r quiet a n 1 (FetchAt (holds_array P n) n) Zero
      (value.Address cell) y.within
      (fetches y.node) refl to in
      let asks_so =
      subst (FiresAs run (tag_in a (number n 1))) (cell_asked cell (number n 2) (tag_in a (number n 1)) z.of_cells)
      fired_so.fires in
      let asked =
      sent_handled S g number numbered known count only s run r quiet asks_so (Read cell (tag_in a (number n 2)))
      (inl refl) in
      let read = was_read run cell (tag_in a (number n 2)) asked in
      let row_is = here_is S g number numbered known inputs count only s run r quiet h y refl in
      record {
        here = h;
        target = t;
        index = i;
        node = ap (node P) row_is ∙ y.node;
        structure = z.structure;
        named = z.named;
        answer = read.0;
        read = subst (λ k. ReadBy run cell (tag_in a (number k 2)) read.0) (sym row_is) read.1;
      }

  -- an On store has put its value
  put_carried : {p : Path} {m t i e : ℕ} {x : Site} {j lo hi : ℤ} {v : SourceValue} (h : H p (place P m))
      (y : StoreStands P m t i e) → is_inside lo hi j ≡ true → Holds S (Has p (place P t) (source.Name x))
      → Holds S (Has p (place P e) v)
      → CarriedHas S number run p (place P t) (source.Name x) → CarriedHas S number run p (place P i) (source.Int j)
      → CarriedHas S number run p (place P e) v → CarriedShape S number run x lo hi
      → CarriedPut S number run x j v (site p (place P m))
  put_carried {p} {m} {t} {i} {e} {x} {j} {v = v} h y inside target_holds holds target index stored shaped =
      let a = h.activation in
      let d = y.address in
      let within = (y.store).within in
      let is = (y.store).node in
      let in_target = address_part h y t (inl refl) (inl refl) in
      let in_index = address_part h y i (inr refl) (inr refl) in
      let says_index : Speaks S number run a (origin P i) (value.Int j) =
      subst (Speaks S number run a (origin P i)) (stands_constant (constants.Int j) index.stands)
      (said_at S g number numbered known inputs count only s run r quiet h i in_index.0 in_index.1 index) in
      let z = addressed a (y.parts).within (of_store (y.parts).node) inside
      (fed_as P known (origin P t) d 0 Zero (Address t i) (y.parts).within (y.parts).node
      (inl refl))
      (fed_as P known (origin P i) d 0 One (Address t i) (y.parts).within (y.parts).node (inr (inl refl))) target_holds
      target.stands
      (said_at S g number numbered known inputs count only s run r quiet h t in_target.0 in_target.1 target) says_index
      shaped in
      let cell : Cell = record { structure = z.structure; index = j } in
      let to = came S g number numbered known count only s run r quiet a (output d) m 0 Zero (value.Address cell) z.says
      (fed_as P known (output d) m 0 Zero (Store d e) within is (inl refl)) in
      let inner = operand_of S known inputs m e within (subst (λ q. HasOperand q e) (sym is) refl) in
      let taken =
      subst (Takes P v) (stored_port known within is) (port_taking S known inputs e p v inner.0 inner.1 holds) in
      let fits = value_fits known stored.stands (held_kind (holds_array P d)) taken in
      let said =
      operand_spoken S g number numbered known inputs count only s run r quiet h e y.store refl refl stored in
      let value_in = came S g number numbered known count only s run r quiet a (origin P e) m 0 One stored.value said
      (fed_as P known (origin P e) m 0 One (Store d e) within is (inr (inl refl))) in
      let fired_so =
      both_fired S g number numbered known count only s run r quiet a m 0 (op.Store (holds_array P d))
      (value.Address cell) stored.value within
      (stores is) refl to value_in in
      let own = tag_in a (number m 0) in
      let stores_so = subst (FiresAs run own) (cell_stored cell stored.value own z.of_cells fits) fired_so.fires in
      let put =
      sent_handled S g number numbered known count only s run r quiet stores_so (Write cell stored.value own)
      (inl refl) in
      let written = was_written run cell stored.value own put in
      let row_is = here_is S g number numbered known inputs count only s run r quiet h y.store refl in
      record {
        here = h;
        address = d;
        stored = e;
        node = ap (node P) row_is ∙ is;
        structure = z.structure;
        named = z.named;
        value = stored.value;
        stands = stored.stands;
        answer = written.0;
        written = subst (λ k. WrittenBy run cell stored.value (tag_in a (number k 0)) written.0) (sym row_is) written.1;
      }

  -- what was put into the cell that a fetch asks for came to the fetch
  fetch_carried : {f x y : Site} {j : ℤ} {v : SourceValue} → CarriedAsk S number run f x j
      → CarriedPut S number run x j v y → Holds S (Has f.path f.place v)
      → CarriedHas S number run f.path f.place v
  fetch_carried {f} {x} {y} {j} {v} ask put holds =
      let h = ask.here in
      let a = h.activation in
      let n = h.row in
      let same : put.structure ≡ ask.structure = one_structure put.named ask.named in
      let cell : Cell = record { structure = ask.structure; index = j } in
      let written = subst (λ c. WrittenBy run (record { structure = c; index = j }) put.value
      (tag_in (put.here).activation (number (put.here).row 0)) put.answer) same put.written in
      let reply = tag_in a (number n 2) in
      let came_in =
      answer_handled g S.inputs count s run r quiet.empty cell reply _ put.value ask.answer put.answer ask.read written
      (λ q e. first cell put.value _ q (subst (WrittenBy run cell put.value _) e written)) in
      let of_kind =
      port_taking S known inputs n f.path v h.within h.thing (subst (λ z. Holds S (Has f.path z v)) h.place holds) in
      let fired_so =
      alone_fired S g number numbered known count only s run r quiet a n 2 (op.Merge (port_at P n)) Zero put.value
      h.within
      (gets_reply ask.node) refl came_in in
      let out =
      spoken S g number numbered known count only s run r quiet a n 2 (op.Merge (port_at P n)) (Alone put.value)
      put.value fired_so
      (λ q. merged known put.stands (port_at P n) of_kind) in
      let from : speaker P n ≡ record { row = n; part = 2; side = true } =
      expression_speaks P known n (Fetch ask.target ask.index) ask.node refl
      ∙ fetch_origin P known n ask.target ask.index h.within ask.node in
      record {
        here = h;
        value = put.value;
        stands = put.stands;
        spoken =
            subst (λ z. Speaks S number run a z put.value) (sym from) out;
      }

  -- where the premises of a rule are carried, so is what follows
  carried_by : {fs : List Fact} {f : Fact} → Rule S fs f → Every (Holds S) fs → Every C fs → C f
  carried_by main_on holds c = (
      let b = body_region in
      thing_here S g number numbered known inputs count only s run r quiet main_activation main_path (main_body P) b.0
      b.1
      (subst (Live S number run main_activation) (sym b.2) at_start)
      )
  carried_by (param_has {b = b} {c = k} x) holds c = input_carried b k x
  carried_by (literal_has {n = n} {c = k} x) holds c =
      let h = c.0 in
      let a = h.activation in
      let live = live_at S g number numbered known inputs count only s run r quiet h x refl refl in
      let signal =
      came S g number numbered known count only s run r quiet a (trigger_of (region P n)) n 0 Zero value.Signal
      (live_turned S g number numbered known count only s run r quiet live)
      (fed_as P known (trigger_of (region P n)) n 0 Zero (Literal k) x.within x.node (inl refl)) in
      let fired_so =
      alone_fired S g number numbered known count only s run r quiet a n 0 (op.Const k) Zero value.Signal x.within
      (constant x.node) refl signal in
      let out =
      spoken S g number numbered known count only s run r quiet a n 0 (op.Const k) (Alone value.Signal)
      (constant_value k) fired_so (λ f. refl) in
      has_spoken S g number numbered known inputs count only s run r quiet h x refl refl
      (constant_stands S number run k)
      (subst (λ z. Speaks S number run a z (constant_value k))
      (sym (own_origin P known n (Literal k) x.within x.node refl refl (λ q. refl))) out)
  carried_by (operand_on {a = a} x) holds c =
      operand_here S g number numbered known inputs count only s run r quiet c.0 a x refl refl refl refl
  carried_by (left_on {a = a} x) holds c =
      operand_here S g number numbered known inputs count only s run r quiet c.0 a x refl refl (inl refl) (inl refl)
  carried_by (right_on {b = b} x) holds c =
      operand_here S g number numbered known inputs count only s run r quiet c.0 b x refl refl (inr refl) (inr refl)
  carried_by (unary_has {n = n} {a = m} {o = o} {x = y} k x result) holds c =
      let h = c.0 in
      let a = h.activation in
      let operand = came S g number numbered known count only s run r quiet a (origin P m) n 0 Zero (constant_value k)
      (constant_spoken S g number numbered known inputs count only s run r quiet k h m x refl refl c.1.0)
      (fed_as P known (origin P m) n 0 Zero (Unary o m) x.within x.node (inl refl)) in
      let fired_so =
      alone_fired S g number numbered known count only s run r quiet a n 0 (op.Unary o) Zero (constant_value k) x.within
      (unary x.node) refl operand in
      let out =
      spoken S g number numbered known count only s run r quiet a n 0 (op.Unary o) (Alone (constant_value k))
      (constant_value y) fired_so
      (λ f. agree_unary o k (tag_in a (number n 0)) f ∙ gives_out result) in
      has_spoken S g number numbered known inputs count only s run r quiet h x refl refl
      (constant_stands S number run y)
      (subst (λ z. Speaks S number run a z (constant_value y))
      (sym (own_origin P known n (Unary o m) x.within x.node refl refl (λ q. refl))) out)
  carried_by (binary_has {n = n} {a = m} {b = l} {o = o} {p = p} {x = y} k d x result) holds c =
      let h = c.0 in
      let a = h.activation in
      let left = came S g number numbered known count only s run r quiet a (origin P m) n 0 Zero (constant_value k)
      (constant_spoken S g number numbered known inputs count only s run r quiet k h m x refl (inl refl) c.1.0)
      (fed_as P known (origin P m) n 0 Zero (Binary o m l) x.within x.node (inl refl)) in
      let right = came S g number numbered known count only s run r quiet a (origin P l) n 0 One (constant_value d)
      (constant_spoken S g number numbered known inputs count only s run r quiet d h l x refl (inr refl) c.1.1.0)
      (fed_as P known (origin P l) n 0 One (Binary o m l) x.within x.node (inr (inl refl))) in
      let made = op.Binary (binary_op o (port_at P m)) in
      let fired_so =
      both_fired S g number numbered known count only s run r quiet a n 0 made (constant_value k) (constant_value d)
      x.within
      (binary x.node) refl left right in
      let inner = operand_of S known inputs n m x.within (subst (λ z. HasOperand z m) (sym x.node) (inl refl)) in
      let out =
      spoken S g number numbered known count only s run r quiet a n 0 made (Two (constant_value k) (constant_value d))
      (constant_value y) fired_so
      (λ f. agree_at o k d (tag_in a (number n 0)) f (port_at P m)
      (takes_constant P k (port_taking S known inputs m p (value_of k) inner.0 inner.1 holds.1.0))
      ∙ gives_out result) in
      has_spoken S g number numbered known inputs count only s run r quiet h x refl refl
      (constant_stands S number run y)
      (subst (λ z. Speaks S number run a z (constant_value y))
      (sym (own_origin P known n (Binary o m l) x.within x.node refl refl (λ q. refl))) out)
  carried_by (name_has {n = n} {x = y} {b = b} {p = p} {v = v} x binds) holds c =
      let h = c.0 in
      let a = h.activation in
      let has = c.1.0 in
      let k = known.bound n y x.within x.node in
      let same : k.0 ≡ b = some_is (sym k.1 ∙ binds) in
      let b_within = subst (λ z. z < length (rows P)) same k.2 in
      let b_binds = subst (λ z. is_binder (node P z) ≡ true) same k.3 in
      let seen = subst (λ z. Sees P z (region P n)) same k.4 in
      let fits =
      value_fits known has.stands (port_at P b)
      (port_taking S known inputs b _ v b_within (binder_thing (node P b) b_binds) holds.1.0) in
      let row_is =
      here_is S g number numbered known inputs count only s run r quiet has.here (record {
        within = b_within;
        node =
            refl;
      })
      (binder_thing (node P b) b_binds) in
      let t : Home S g number numbered known count only s run r quiet a (region P n) b =
      home S g number numbered known count only s run r quiet b b_within b_binds
      (live_at S g number numbered known inputs count only s run r quiet h x refl refl) seen in
      let deep =
      same_depth P (region P n).head n b (region_of known x.within (λ e. let bad : Name y ≡ Program = sym x.node ∙ e in
      cc)).block in
      let one =
      one_activation S g number numbered known count only s run r quiet (has.here).live t.live (has.here).path_of
      (subst (λ d. PathOf S number run t.activation (without d p)) deep (t.path p h.path_of)) in
      let said : Speaks S number run t.activation (output (label P b)) has.value =
      subst (λ (z : Activation × Origin). Speaks S number run z.0 z.1 has.value) {x =
      ((has.here).activation, speaker P (has.here).row)}
      {y = (t.activation, output (label P b))}
      (λ i. (one i, (ap (speaker P) row_is ∙ binder_speaks P known b (node P b) refl b_binds) i)) has.spoken in
      has_spoken S g number numbered known inputs count only s run r quiet h x refl refl has.stands
      (subst (λ z. Speaks S number run a z has.value) (sym (name_origin P known n y b x.within x.node binds))
      (t.comes has.value fits said))
  carried_by (test_on chooses) holds c =
      test_here S g number numbered known inputs count only s run r quiet
      (arm_rows S g number numbered known inputs count only s run r quiet chooses) c.0
  carried_by (arm_on {b = b} chooses) holds c =
      arm_here S g number numbered known inputs count only s run r quiet
      (arm_rows S g number numbered known inputs count only s run r quiet chooses) c.0 c.1.0 holds.1.0
  carried_by (conditional_has {n = n} {b = b} {v = v} chooses) holds c =
      merge_has S g number numbered known inputs count only s run r quiet
      (arm_rows S g number numbered known inputs count only s run r quiet chooses) c.0 c.1.1.0
      (holds_by S _ _ (conditional_has chooses) holds)
  carried_by (argument_on {n = n} {v = v} x y) holds c =
      let h = c.0 in
      let arg = arg_at known y.within y.node in
      let z = enter_at known x.within x.node in
      let d = call_at known z.within z.node in
      let there : region P v ≡ region P n = arg.value_region ∙ d.region ∙ ap (region P) z.ends in
      same_here S g number numbered known inputs count only s run r quiet h v arg.within arg.expression
      (subst (Live S number run h.activation) (sym there)
      (live_at S g number numbered known inputs count only s run r quiet h x refl refl))
  carried_by (callee_on x bound def) holds c =
      (let z = enter_at known x.within x.node in callee_at S g number numbered known inputs count only s run r quiet
      (calling S g number numbered known inputs count only s run r quiet c.0 x) z.within z.node bound def)
  carried_by (argument_has x y bound def param) holds c =
      argument_carried S g number numbered known inputs count only s run r quiet c.0 x y bound def param c.1.0 holds.1.0
  carried_by (call_has x bound def) holds c =
      call_carried S g number numbered known inputs count only s run r quiet c.0 x bound def c.1.0 holds.1.0
      (holds_by S _ _ (call_has x bound def) holds)
  carried_by (statement_on {n = n} {m = m} {a = a} x statement y) holds c =
      let h = c.0 in
      let inner = operand_of S known inputs m a y.within (subst (λ z. HasOperand z a) (sym y.node) refl) in
      let to_binding = (known.table).statement_stands n m x.within statement in
      let to_part = (known.table).part_stands m a y.within (subst (λ z. HasNear z a) (sym y.node) refl) in
      same_here S g number numbered known inputs count only s run r quiet h a inner.0
      (known.operands m a y.within (subst (λ z. HasOperand z a) (sym y.node) refl))
      (subst (Live S number run h.activation) (sym (to_part.1 ∙ to_binding.1))
      (live_at S g number numbered known inputs count only s run r quiet h x refl refl))
  carried_by (store_on {n = n} {m = m} {a = d} {x = v} x statement y) holds c =
      let h = c.0 in
      let to_store = (known.table).statement_stands n m x.within statement in
      store_here h.activation h.path_of m d v y.within y.node
      (subst (Live S number run h.activation) (sym to_store.1)
      (live_at S g number numbered known inputs count only s run r quiet h x refl refl))
  carried_by (loop_store_on {m = m} q k x goes y) holds c =
      let z = tested S g number numbered known inputs count only s run r quiet q k true x goes c holds in
      let to_body = (known.table).statement_stands y.body m (y.ends).within y.statement in
      store_here (at_iteration z.context k) (z.path_of k) m y.address y.value (y.store).within (y.store).node
      (subst (Live S number run (at_iteration z.context k)) (sym (to_body.1 ∙ y.side))
      (side_live S g number numbered known inputs count only s run r quiet x z))
  carried_by (bounds_low_on {a = a} x) holds c =
      operand_here S g number numbered known inputs count only s run r quiet c.0 a x refl refl (inl refl) (inl refl)
  carried_by (bounds_high_on {b = b} x) holds c =
      operand_here S g number numbered known inputs count only s run r quiet c.0 b x refl refl (inr refl) (inr refl)
  carried_by (shape_made x good) holds c =
      let z = allocated c.0 x good c.1.0 c.1.1.0 (holds_by S _ _ (shape_made x good) holds) in
      record { structure = z.structure; named = z.named; low = z.low; high = z.high }
  carried_by (array_has {n = n} {a = e} {b = f} {nested = nested} x good) holds c =
      let h = c.0 in
      let z = allocated h x good c.1.0 c.1.1.0 (holds_by S _ _ (shape_made x good) holds) in
      has_spoken S g number numbered known inputs count only s run r quiet h x refl refl
      (name_stands z.structure _ z.named)
      (subst (λ q. Speaks S number run h.activation q (value.Structure z.structure))
      (sym (own_origin P known n (Array nested e f) x.within x.node refl refl (λ q. refl))) z.says)
  carried_by (fetch_target_on {t = t} x) holds c =
      operand_here S g number numbered known inputs count only s run r quiet c.0 t x refl refl (inl refl) (inl refl)
  carried_by (fetch_index_on {i = i} x) holds c =
      operand_here S g number numbered known inputs count only s run r quiet c.0 i x refl refl (inr refl) (inr refl)
  carried_by (asks x inside) holds c = ask_carried c.0 x inside holds.1.0 c.1.0 c.1.1.0 c.1.1.1.0
  carried_by (fetch_has {f = f} {s = x} {a = y} {j = j} {v = v}) holds c =
      fetch_carried c.0 c.1.0 (holds_by S _ _ (fetch_has {f = f} {s = x} {a = y} {j = j} {v = v}) holds)
  carried_by (store_target_on {t = t} y) holds c =
      (let z = address_part c.0 y t (inl refl) (inl refl) in
      same_here S g number numbered known inputs count only s run r quiet c.0 t z.0 z.1 z.2)
  carried_by (store_index_on {i = i} y) holds c =
      (let z = address_part c.0 y i (inr refl) (inr refl) in
      same_here S g number numbered known inputs count only s run r quiet c.0 i z.0 z.1 z.2)
  carried_by (store_value_on {x = v} y) holds c =
      operand_here S g number numbered known inputs count only s run r quiet c.0 v y.store refl refl (inr refl) refl
  carried_by (puts y inside) holds c =
      put_carried c.0 y inside holds.1.0 holds.1.1.1.0 c.1.0 c.1.1.0 c.1.1.1.0 c.1.1.1.1.0
  carried_by (body_on {b = b} x) holds c =
      operand_here S g number numbered known inputs count only s run r quiet c.0 b x refl refl refl refl
  carried_by (block_has {n = n} {b = b} {v = v} x) holds c =
      has_spoken S g number numbered known inputs count only s run r quiet c.0 x refl refl (c.1.0).stands
      (subst (λ z. Speaks S number run (c.0).activation z (c.1.0).value)
      (sym (block_origin P known n b x.within x.node))
      (operand_spoken S g number numbered known inputs count only s run r quiet c.0 b x refl refl c.1.0))
  carried_by (loop_test_on x) holds c =
      let z = starting S g number numbered known inputs count only s run r quiet c.0 x.loop in
      loop_test_here S g number numbered known inputs count only s run r quiet x (at_iteration z.context 0)
      (z.path_of 0)
      (subst (Live S number run (at_iteration z.context 0)) (sym (loop_is known x.loop).right) z.live)
  carried_by (first_has x y bound) holds c =
      first_carried S g number numbered known inputs count only s run r quiet c.0 x y bound c.1.0 holds.1.0
      (holds_by S _ _ (first_has x y bound) holds)
  carried_by (lower_on {a = a} x) holds c =
      bounds_here S g number numbered known inputs count only s run r quiet x a (inl refl) c.0
  carried_by (upper_on {b = b} x) holds c =
      bounds_here S g number numbered known inputs count only s run r quiet x b (inr refl) c.0
  carried_by (index_begins x below) holds c =
      index_begins_carried S g number numbered known inputs count only s run r quiet x below c.0 c.1.0 c.1.1.0
      (by_index (by_bounds x below) holds)
  carried_by (index_counts q k x below) holds c =
      index_counts_carried S g number numbered known inputs count only s run r quiet q k x below
      (quiet.wholes (holds_by S _ _ (index_counts q k x below) holds)) c.0 c.1.0
      (by_index (facts.by_index k x below) holds)
  carried_by (turn_on q k x) holds c =
      let z = tested S g number numbered known inputs count only s run r quiet q k true x.loop (by_predicate k x) c
      holds in
      let l = loop_is known x.loop in
      loop_test_here S g number numbered known inputs count only s run r quiet x (at_iteration z.context (suc k))
      (z.path_of (suc k))
      (again l.within l.is z.live z.chosen z.goes)
  carried_by (loop_statement_on {m = m} {a = a} q k x goes y) holds c =
      let operand = subst (λ z. HasOperand z a) (sym (y.binding).node) refl in
      let inner = operand_of S known inputs m a (y.binding).within operand in
      let to_body = (known.table).statement_stands y.body m (y.ends).within y.statement in
      let to_part =
      (known.table).part_stands m a (y.binding).within (subst (λ z. HasNear z a) (sym (y.binding).node) refl) in
      side_here S g number numbered known inputs count only s run r quiet a x
      (tested S g number numbered known inputs count only s run r quiet q k true x goes c holds) inner.0
      (known.operands m a (y.binding).within operand)
      (to_part.1 ∙ to_body.1 ∙ y.side)
  carried_by (next_on {m = m} {v = v} q k x goes y) holds c =
      let inner =
      operand_of S known inputs m v (y.next).within
      (next_operand S g number numbered known inputs count only s run r quiet y) in
      side_here S g number numbered known inputs count only s run r quiet v x
      (tested S g number numbered known inputs count only s run r quiet q k true x goes c holds) inner.0
      (known.operands m v (y.next).within (next_operand S g number numbered known inputs count only s run r quiet y))
      (next_value S g number numbered known inputs count only s run r quiet x y)
  carried_by (next_has q k x y) holds c =
      next_carried S g number numbered known inputs count only s run r quiet q k x y c.0
      (holds_by S _ _ (next_has q k x y) holds)
  carried_by (last_on {n = n} {l = l} q k x goes) holds c =
      let inner =
      operand_of S known inputs n l x.within
      (last_operand S g number numbered known inputs count only s run r quiet x) in
      side_here S g number numbered known inputs count only s run r quiet l x
      (tested S g number numbered known inputs count only s run r quiet q k false x goes c holds) inner.0
      (known.operands n l x.within (last_operand S g number numbered known inputs count only s run r quiet x))
      (last_at S g number numbered known inputs count only s run r quiet x)
  carried_by (loop_has q k x) holds c =
      loop_carried S g number numbered known inputs count only s run r quiet q k x c.0 holds.0
      (holds_by S _ _ (loop_has q k x) holds)
  carried_by (binding_has {n = n} {x = y} {a = m} {p = p} {v = v} x) holds c =
      let has = c.0 in
      let operand = subst (λ z. HasOperand z m) (sym x.node) refl in
      let expression = known.operands n m x.within operand in
      let inner = operand_of S known inputs n m x.within operand in
      let row_is =
      here_is S g number numbered known inputs count only s run r quiet has.here (record {
        within = inner.0;
        node =
            refl;
      }) inner.1 in
      let a = (has.here).activation in
      let own = home_plain P m (node P m) refl (expression_plain (node P m) expression) in
      let live = subst (Live S number run a)
      (ap (λ k. region P (home_of P k)) row_is ∙ ap (region P) own
      ∙ ((known.table).part_stands n m x.within (subst (λ z. HasNear z m) (sym x.node) refl)).1)
      (has.here).live in
      let said : Speaks S number run a (origin P m) has.value =
      subst (λ z. Speaks S number run a z has.value) (ap (speaker P) row_is
      ∙ expression_speaks P known m (node P m) refl expression) has.spoken in
      let to = came S g number numbered known count only s run r quiet a (origin P m) n 0 Zero has.value said
      (fed_as P known (origin P m) n 0 Zero (Binding y m) x.within x.node (inl refl)) in
      own_has S g number numbered known inputs count only s run r quiet n (Binding y m) has.stands a (has.here).path_of
      x refl refl refl live (names x.node)
      (port_taking S known inputs n p v x.within (ap is_thing x.node) (holds_by S _ _ (binding_has x) holds)) to

  every_carried : (n : ℕ) → ((f : Fact) → Rounds S n f → C f) → (fs : List Fact) → Every (Rounds S n) fs → Every C fs
  every_carried n one [] h = tt
  every_carried n one (f ∷ fs) h = (one f h.0, every_carried n one fs h.1)

  every_holds : (n : ℕ) (fs : List Fact) → Every (Rounds S n) fs → Every (Holds S) fs
  every_holds n [] h = tt
  every_holds n (f ∷ fs) h = (record { round = n; there = h.0 }, every_holds n fs h.1)

  carried_round : (n : ℕ) (f : Fact) → Rounds S n f → C f
  carried_round zero f h = absurd h
  carried_round (suc n) f (inl h) = carried_round n f h
  carried_round (suc n) f (inr t) = carried_by t.1 (every_holds n t.0 t.2) (every_carried n (carried_round n) t.0 t.2)

  -- each fact of the source is carried
  pub carried : (f : Fact) → Holds S f → C f
  carried f h = carried_round h.round f h.there
