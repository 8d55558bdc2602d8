-- A quiet run of a schemas' graph has shown everything.
use Rattle.std.proofs.Common.{◌≡◌, inl, inr, ℕ, ◌<◌, Bool as Truth, true, false, cond, Option, Some, None, List, []}
use Rattle.std.proofs.Common.{◌∷◌, length, slice_get, ℤ, refl, sym}
use Rattle.std.proofs.Common.{◌∙◌, ap, subst, unwrap_or}
use Rattle.std.specs.Option.{option_and_then}
use Rattle.id_value.specs.declared.Kind.{Kind}
use Rattle.id_value.specs.declared.Kind.TheVariants as kinds
use Rattle.id_value.specs.Bounds.{is_inside}
use Rattle.id_value.specs.declared.Constant.TheVariants as constants
use Rattle.id_value.specs.declared.FaultKind.{FaultKind}
use Rattle.id_value.specs.declared.FaultKind.TheVariants.{BadBounds, OutOfBounds}
use Rattle.id_value.specs.List.{Among}
use Rattle.id_value.proofs.AmongLemmas.{Among-from_at}
use Rattle.id_table.specs.declared.row.Node.TheVariants.{Head, Unary, Binary, Array, Fetch, Address}
use Rattle.id_table.specs.Rows.{top}
use Rattle.id_table.specs.Tables.{HasOperand, is_binder}
use Rattle.id_check.specs.declared.checked.Checked.{Checked}
use Rattle.id_check.specs.Programs.{kind as kind_at, place, rows}
use Rattle.id_instr.specs.declared.dests.Port.{Port}
use Rattle.id_instr.specs.declared.dests.Port.TheVariants.{Zero, One}
use Rattle.id_instr.specs.declared.instr.Op.{Op}
use Rattle.id_instr.specs.declared.instr.Op.TheVariants as op
use Rattle.id_instr.specs.declared.instr.PortKind.{PortKind}
use Rattle.id_instr.specs.declared.instr.Instr.{Instr}
use Rattle.id_instr.specs.Ports.{two_ports}
use Rattle.id_instr.specs.Graph.{Parts}
use Rattle.id_tag.specs.Kinds.{kind_of, same_kind}
use Rattle.id_bank.specs.declared.cell.WriteAnswer.TheVariants.{Second}
use Rattle.id_tag.specs.declared.Cell.{Cell}
use Rattle.id_tag.specs.declared.Structure.{Structure}
use Rattle.id_tag.specs.declared.Tag.{Tag}
use Rattle.id_source.specs.declared.Path.{Path}
use Rattle.id_tag.specs.declared.Value.{Value}
use Rattle.id_tag.specs.declared.Value.TheVariants as value
use Rattle.id_tag.specs.declared.Payload.{Payload}
use Rattle.id_tag.specs.declared.Payload.TheVariants.{Token}
use Rattle.id_ops.specs.declared.Operands.{Operands}
use Rattle.id_ops.specs.declared.Operands.TheVariants.{One as Alone, Two}
use Rattle.id_ops.specs.declared.Fresh.{Fresh}
use Rattle.id_ops.specs.declared.Fired.{Fired}
use Rattle.id_ops.specs.declared.Fired.TheVariants.{Out, Side, Sent, Moved, Asked, Stored, Failed, Nothing, Entered}
use Rattle.id_ops.specs.Operators.{constant_value, fired, fired_by, fired_merge}
use Rattle.id_valid.specs.Validator.{is_value}
use Rattle.id_record.specs.declared.step.Step.TheVariants.{Went, Fault}
use Rattle.id_record.specs.declared.step.Fault.TheVariants.{Operator}
use Rattle.id_core.specs.Events.{EventView}
use Rattle.id_core.specs.Machines.{World, IsQuiet, main_tag}
use Rattle.id_core.specs.Observed as shown
use Rattle.id_source.specs.declared.Site.{Site}
use Rattle.id_laws.proofs.Telling.Wholes.{AreWhole, wholes}
use Rattle.id_source.specs.declared.SourceValue.{SourceValue}
use Rattle.id_source.specs.declared.SourceValue.TheVariants as source
use Rattle.id_source.specs.declared.SourceFault.{SourceFault}
use Rattle.id_source.specs.declared.NameValue.{NameValue}
use Rattle.id_source.specs.declared.Fact.{Fact}
use Rattle.id_source.specs.declared.Fact.TheVariants.{Has}
use Rattle.id_source.specs.Names.{IsNameValue}
use Rattle.id_source.specs.Sources.{Source, AreInputs, body_of, main_body, value_of}
use Rattle.id_source.specs.Facts.{outermost, FaultRule, unary_fails, binary_fails, bad_bounds, out_of_fetch}
use Rattle.id_source.specs.Facts.{out_of_store, second_store}
use Rattle.id_source.specs.Rounds.{Every, Holds, FaultFree, Answers, IsAnswer}
use Rattle.id_build.specs.declared.arc.Origin.{Origin}
use Rattle.id_desugar.specs.Ends.{end_of}
use Rattle.id_build.specs.Rows.{label, node, answer_row, binary_op, holds_array, origin, output, port_at, port_of}
use Rattle.id_build.specs.Rows.{result_of}
use Rattle.id_build.specs.Rows as built
use Rattle.id_build.specs.Schemas.{Feeds, Numbered}
use Rattle.id_runs.specs.Activations.{Activation, main_activation, tag_in}
use Rattle.id_runs.specs.Events.{Event, FiresAs, GivesOn, fired_event, payload_of}
use Rattle.id_runs.specs.Cells.{WrittenBy}
use Rattle.id_runs.specs.Runs.{Reach, handled}
use Rattle.id_runs.specs.OneMessage.{Exclusive}
use Rattle.id_runs.proofs.Meeting.{one_value}
use Rattle.id_runs.proofs.Waiting.{has_fired, OperandsHandled, one_handled, two_handled}
use Rattle.id_runs.proofs.RecordsOfRuns.{to_record, among_events, among_filter_map, filter_map_has, quiet_went}
use Rattle.id_laws.specs.Laws.{IsComplete, events}
use Rattle.id_laws.specs.Activations.{Live, at_start, Speaks, main_head}
use Rattle.id_laws.specs.Carried.{Here, CarriedHas, CarriedShape, Carried, speaker}
use Rattle.id_laws.specs.Topics.{Addresses, of_fetch, of_store, StandsFor}
use Rattle.id_laws.proofs.Soundness.Naming.{stands_shown}
use Rattle.id_laws.specs.Ways.{way_back}
use Rattle.id_laws.proofs.Completeness.Agreement.{agree_unary, agree_at}
use Rattle.id_laws.proofs.Rows.Arcs.{returns, unary, binary, allocates, addresses}
use Rattle.id_laws.proofs.Rows.Assumed.{IsKnown}
use Rattle.id_laws.proofs.Telling.FiringMeans.{IsBacked}
use Rattle.id_runs.proofs.OneMessage.{fired_once}
use Rattle.id_laws.proofs.Completeness.CarriedFacts.{address_made, address_part, carried, cells_of, one_structure}
use Rattle.id_laws.proofs.Completeness.CarriedFacts.{body_region, structure_of}
use Rattle.id_laws.proofs.Completeness.CarriedThings.{constant_spoken, here_is, operand_spoken, said_at}
use Rattle.id_laws.proofs.Completeness.CarriedValues.{sent_in, stands_constant}
use Rattle.id_build.proofs.EndsLemmas.{end_is}
use Rattle.id_laws.proofs.Completeness.Firings.{IsSettled, PartFired, alone_fired, both_fired, came, sent_handled}
use Rattle.id_laws.proofs.Completeness.Firings.{start_handled}
use Rattle.id_laws.proofs.Validity.HasKinds.{port_taking, operand_of, binder_thing, expression_thing}
use Rattle.id_laws.proofs.Validity.PortsTake.{Takes, takes_constant}
use Rattle.id_laws.proofs.Rows.Speakers.{expression_speaks, binder_speaks, fed_as}
use Rattle.id_laws.proofs.Soundness.Observing.{message_handled}
use Rattle.id_laws.proofs.Completeness.QuietCells.{asks_shown, cells_shown, no_second as two_stores, none_found}
use Rattle.id_laws.proofs.Completeness.QuietCells.{structures_shown, waiting_only, waiting_shown}
use Rattle.id_laws.proofs.Soundness.SoundAnswer.{answer_tells, brought_is, sound_answer}
use Rattle.id_laws.proofs.Labelling.LabelsShow.{label_is, label_made, label_place}
use Rattle.id_laws.proofs.Completeness.Triggers.{one_activation, main_is, main_within}
use Rattle.id_laws.proofs.Paths.Seats.{main_path}
use Rattle.id_laws.proofs.Paths.TagPaths.{path_shown}
use Rattle.id_runs.proofs.Enters.{entered_by}

some_is : {A : Type 0} {x y : A} → Some x ≡ Some y → x ≡ y
some_is h = cc

none_some : {A : Type 0} {x : A} → None ≡ Some x → ⊥
none_some h = cc

first_of_some : {A : Type 0} (xs : List A) (x : A) → Among x xs → (y : A) × (slice_get xs 0 ≡ Some y)
first_of_some [] x h = absurd h
first_of_some (y ∷ xs) x h = (y, refl)

-- the event that handled a message
handled_by : (run : List Event) (x : Payload) → Among x (handled run) → (e : Event) × Among e run × (x ≡ payload_of e)
handled_by [] x h = absurd h
handled_by (e ∷ run) x (inl is) = (e, inl refl, is)
handled_by (e ∷ run) x (inr h) = let t = handled_by run x h in (t.0, inr t.1, t.2)

went_failed : {k : FaultKind} {t : Tag} → Fault (Operator k t) ≡ Went → ⊥
went_failed h = cc

true_false : true ≡ false → ⊥
true_false h = cc

-- ports for values of a kind are for values
value_passes : (k : Kind) → is_value (port_of k) ≡ true
value_passes kinds.Int = refl
value_passes kinds.Bool = refl
value_passes kinds.Array = refl
value_passes kinds.Nested = refl

out_is : {u v : Value} → Out u ≡ Out v → u ≡ v
out_is h = cc

nothing_out : {v : Value} → Nothing ≡ Out v → ⊥
nothing_out h = cc

-- a merge has one side
merged_no_side : (b c : Truth) (v u : Value) → Side c u ≡ cond b (Out v) Nothing → ⊥
merged_no_side true c v u h = cc
merged_no_side false c v u h = cc

merge_no_side : (k : PortKind) (ops : Operands) (c : Truth) (u : Value) → Side c u ≡ fired_merge k ops → ⊥
merge_no_side k (Alone v) c u h = merged_no_side (same_kind (kind_of v) k) c v u h
merge_no_side k (Two v w) c u h = cc

-- what a merge lets out came in
merged_is : (b : Truth) (v u : Value) → cond b (Out v) Nothing ≡ Out u → v ≡ u
merged_is true v u e = out_is e
merged_is false v u e = absurd (nothing_out e)

module _ (S : Source) (g : Parts) (number : ℕ → ℕ
    → ℕ) (numbered : Numbered S.checked g number) (known : IsKnown S.checked)
    (inputs : AreInputs S.checked S.inputs)
    (are : AreWhole S)
    (count : ℕ) (only : Exclusive g S.inputs count) (s : World) (run : List Event) (r : Reach g S.inputs count s run)
    (quiet : IsQuiet s) where
  abbrev P : Checked
  P = S.checked

  abbrev main : ℕ
  main = main_head P

  abbrev back_tag : Tag
  back_tag = tag_in main_activation (number (answer_row P) 0)

  -- so its facts are carried
  settled : IsSettled S s
  settled = record { empty = quiet.empty; wholes = wholes S are }

  backed : IsBacked S run
  backed = record { once = fired_once g S.inputs count only s run r; wholes = λ p e i. wholes S are }

  -- no write found another
  no_second : (c : Cell) (v : Value) (w x : Tag) → WrittenBy run c v w (Second x) → ⊥
  no_second = none_found S g number numbered known inputs are count only s run r quiet

  abbrev name_of : Structure → Site
  name_of = shown.structure_in g s.elements

  -- a value that stands for one is shown as that one
  value_shown : {w : Value} {v : SourceValue} → StandsFor S number run w v → shown.source_value name_of w ≡ Some v
  value_shown h = stands_shown S known g number numbered count s run r backed h

  answer_tag : back_tag ≡ main_tag 0
  answer_tag = ap main_tag numbered.answer_first

  -- ---- the answer

  main_end : end_of P main ≡ P.main
  main_end =
      (known.table).one_def (end_of P main) P.main main
      (end_is P (known.table) main (main_within S g number numbered known count only s run r settled)
      (main_is S g number numbered known count only s run r settled)) known.main

  main_kind : result_of (node P (end_of P main)) ≡ (known.main).result
  main_kind = ap (λ n. result_of (node P n)) main_end ∙ ap result_of (known.main).node

  main_body_is : built.body_of (node P (end_of P main)) ≡ main_body P
  main_body_is =
      ap (λ n. built.body_of (node P n)) main_end ∙ ap built.body_of (known.main).node
      ∙ sym (ap body_of (known.main).node)

  -- the value that main's body Has came to the answer
  answer_sent : (v : SourceValue) → Answers S v
      → (w : Value) × StandsFor S number run w v × Among (Token (main_tag 0) Zero w) (handled run)
  answer_sent v has =
      let b = body_region S g number numbered known inputs count only s run r settled no_second in
      let thing = expression_thing (node P (main_body P)) b.1 in
      let d = known.main in
      let body_is : main_body P ≡ d.body = ap body_of d.node in
      let taken = port_taking S known inputs (main_body P) outermost v b.0 thing has in
      let result_is : port_at P (main_body P) ≡ port_of d.result =
      ap (λ o. port_of (unwrap_or o kinds.Int)) (ap (kind_at P) body_is ∙ known.result_kind P.main main d) in
      let c : CarriedHas S number run outermost (place P (main_body P)) v =
      carried S g number numbered known inputs count only s run r settled no_second _
      has in
      let row_is =
      here_is S g number numbered known inputs count only s run r settled (c.here)
      (record { within = b.0; node = refl }) thing in
      let start : Live S number run main_activation (top main) = at_start in
      let one =
      one_activation S g number numbered known count only s run r settled (c.here).live start (c.here).path_of
      main_path in
      let from : speaker P (c.here).row ≡ origin P (main_body P) = ap (speaker P) row_is ∙
      expression_speaks P known (main_body P) (node P (main_body P)) refl b.1 in
      let said : Speaks S number run main_activation (origin P (built.body_of (node P (end_of P main)))) c.value =
      subst (λ (z : Activation × Origin). Speaks S number run z.0 z.1 c.value) {x =
      ((c.here).activation, speaker P (c.here).row)}
      {y = (main_activation, origin P (built.body_of (node P (end_of P main))))}
      (λ i. (one i, (from ∙ ap (origin P) (sym main_body_is)) i)) c.spoken in
      let is = main_is S g number numbered known count only s run r settled in
      let within = main_within S g number numbered known count only s run r settled in
      let result = came S g number numbered known count only s run r settled main_activation
      (origin P (built.body_of (node P (end_of P main)))) main 1 One c.value said
      (fed_as P known (origin P (built.body_of (node P (end_of P main)))) main 1 One Head within is (inl refl)) in
      let continuation = start_handled S g number numbered known count only s run r settled way_back in
      let k = result_of (node P (end_of P main)) in
      let fired_so =
      both_fired S g number numbered known count only s run r settled main_activation main 1 (op.Back (port_of k))
      (value.Continuation back_tag) c.value within (returns is) refl continuation result in
      let gone =
      sent_in known c.stands (port_of k) back_tag (subst (Takes P v) (result_is ∙ ap port_of (sym main_kind)) taken) in
      let out = sent_handled S g number numbered known count only s run r settled
      (subst (λ f. FiresAs run (tag_in main_activation (number main 1)) f) gone fired_so.fires)
      (Token back_tag Zero c.value) (inl refl) in
      (c.value, c.stands, subst (λ t. Among (Token t Zero c.value) (handled run)) answer_tag out)

  -- so it is the answer that is shown
  answer_shown : (v : SourceValue) → Answers S v → shown.answer g s ≡ Some v
  answer_shown v has =
      let sent = answer_sent v has in
      let w = sent.0 in
      let came_in = sent.2 in
      let h = handled_by run _ came_in in
      let record_it = to_record g S.inputs count s run r h.0 h.1 in
      let payload_is : (record_it.0).message.payload ≡ Token (main_tag 0) Zero w = (record_it.2).payload ∙ sym h.2 in
      let listed =
      filter_map_has (λ (u : EventView). shown.brought u.message.payload) (events s) record_it.0 w
      (among_events s record_it.0 record_it.1)
      (ap shown.brought payload_is) in
      let first = first_of_some (shown.answers (events s)) w listed in
      let event = among_filter_map (λ (u : EventView). shown.brought u.message.payload) (events s) first.0
      (Among-from_at first.0 (shown.answers (events s)) 0 first.1) in
      let brought = brought_is (event.0).message.payload first.0 event.2 in
      let also : Among (Token (main_tag 0) brought.0 first.0) (handled run) =
      subst (λ x. Among x (handled run)) brought.1
      (message_handled g S.inputs count s run r event.0 event.1) in
      let port_is = (answer_tells S known g number numbered count s run r backed brought.0 first.0 also).0 in
      let same : first.0 ≡ w = one_value g S.inputs count only s run r (main_tag 0) Zero first.0 w
      (subst (λ p. Among (Token (main_tag 0) p first.0) (handled run)) port_is also) came_in in
      ap (option_and_then (shown.source_value name_of)) first.1 ∙ ap (shown.source_value name_of) same
      ∙ value_shown sent.1

  answer_exact : (o : Option SourceValue) → shown.answer g s ≡ o → IsAnswer S o
  answer_exact (Some v) e = sound_answer S known g number numbered count s run r backed v e
  answer_exact None e = λ v has. none_some (sym e ∙ answer_shown v has)

  -- ---- faults

  -- no event has failed
  no_failure : (a : Activation) (n part : ℕ) (o : Op) (ops : Operands) (k : FaultKind)
      → PartFired S g number numbered known count only s run r settled a n part o ops
      → ((f : Fresh) → fired o (tag_in a (number n part)) ops f ≡ Failed k) → ⊥
  no_failure a n part o ops k x fails =
      let t = tag_in a (number n part) in
      let y : FiresAs run t (Failed k) = subst (λ f. FiresAs run t f) (fails x.fresh) x.fires in
      went_failed (quiet_went g S.inputs count s run r quiet (fired_event y) y.among)

  -- each fact of the source is carried
  carry : (f : Fact) → Holds S f → Carried S number run f
  carry f h = carried S g number numbered known inputs count only s run r settled no_second f h

  -- no index is outside
  never_outside : {w : Value} {y : Site} {p : Path} {j lo hi : ℤ} (a : Activation) (n t i : ℕ) → n < length (rows P)
      → Addresses P n t i → is_inside lo hi j ≡ false → Holds S (Has p (place P t) (source.Name y))
      → CarriedShape S number run y lo hi → Feeds P (origin P t) n 0 Zero → Feeds P (origin P i) n 0 One
      → StandsFor S number run w (source.Name y) → Speaks S number run a (origin P t) w
      → Speaks S number run a (origin P i) (value.Int j) → ⊥
  never_outside {w} {y} {p} {j} {lo} {hi} a n t i within parts out holds shaped to_target to_index stands target index =
      let c = structure_of S g number numbered known inputs count only s run r settled no_second stands refl in
      let same : shaped.structure ≡ c.0 =
      one_structure S g number numbered known inputs count only s run r settled no_second shaped.named c.2 in
      let low : lo ≡ (c.0).low = shaped.low ∙ ap (λ (y : Structure). y.low) same in
      let high : hi ≡ (c.0).high = shaped.high ∙ ap (λ (y : Structure). y.high) same in
      let bad : is_inside (c.0).low (c.0).high j ≡ false = (λ k. is_inside (sym low k) (sym high k) j) ∙ out in
      let left = came S g number numbered known count only s run r settled a (origin P t) n 0 Zero (value.Structure c.0)
      (subst (Speaks S number run a (origin P t)) c.1 target) to_target in
      let right =
      came S g number numbered known count only s run r settled a (origin P i) n 0 One (value.Int j) index to_index in
      let made = op.Address (holds_array P n) in
      let of_cells =
      cells_of S g number numbered known inputs count only s run r settled no_second within parts c.2 holds in
      no_failure a n 0 made (Two (value.Structure c.0) (value.Int j)) OutOfBounds
      (both_fired S g number numbered known count only s run r settled a n 0 made (value.Structure c.0) (value.Int j)
      within
      (addresses parts) refl left right)
      (λ q. address_made c.0 j of_cells
      ∙ ap (λ b. cond b (Out (value.Address (record { structure = c.0; index = j }))) (Failed OutOfBounds)) bad)

  no_fault_by : {fs : List Fact} {f : SourceFault} → FaultRule S fs f → Every (Holds S) fs → ⊥
  no_fault_by (unary_fails {n = n} {a = m} {o = o} {p = p} {k = k} c x is) h =
      let on : Here S number run p (place P n) =
      carried S g number numbered known inputs count only s run r settled no_second _ h.0 in
      let has : CarriedHas S number run p (place P m) (value_of c) =
      carried S g number numbered known inputs count only s run r settled no_second _
      h.1.0 in
      let a = on.activation in
      let operand = came S g number numbered known count only s run r settled a (origin P m) n 0 Zero (constant_value c)
      (constant_spoken S g number numbered known inputs count only s run r settled c on m x refl refl has)
      (fed_as P known (origin P m) n 0 Zero (Unary o m) x.within x.node (inl refl)) in
      no_failure a n 0 (op.Unary o) (Alone (constant_value c)) k
      (alone_fired S g number numbered known count only s run r settled a n 0 (op.Unary o) Zero
      (constant_value c) x.within (unary x.node) refl operand)
      (λ f. agree_unary o c (tag_in a (number n 0)) f ∙ ap fired_by is)
  no_fault_by (binary_fails {n = n} {a = m} {b = l} {o = o} {p = p} {k = k} c d x is) h =
      let on : Here S number run p (place P n) =
      carried S g number numbered known inputs count only s run r settled no_second _ h.0 in
      let has : CarriedHas S number run p (place P m) (value_of c) =
      carried S g number numbered known inputs count only s run r settled no_second _
      h.1.0 in
      let has' : CarriedHas S number run p (place P l) (value_of d) =
      carried S g number numbered known inputs count only s run r settled no_second _
      h.1.1.0 in
      let a = on.activation in
      let left = came S g number numbered known count only s run r settled a (origin P m) n 0 Zero (constant_value c)
      (constant_spoken S g number numbered known inputs count only s run r settled c on m x refl (inl refl) has)
      (fed_as P known (origin P m) n 0 Zero (Binary o m l) x.within x.node (inl refl)) in
      let right = came S g number numbered known count only s run r settled a (origin P l) n 0 One (constant_value d)
      (constant_spoken S g number numbered known inputs count only s run r settled d on l x refl (inr refl) has')
      (fed_as P known (origin P l) n 0 One (Binary o m l) x.within x.node (inr (inl refl))) in
      let made = op.Binary (binary_op o (port_at P m)) in
      let inner = operand_of S known inputs n m x.within (subst (λ z. HasOperand z m) (sym x.node) (inl refl)) in
      no_failure a n 0 made (Two (constant_value c) (constant_value d)) k
      (both_fired S g number numbered known count only s run r settled a n 0 made (constant_value c) (constant_value d)
      x.within
      (binary x.node) refl left right)
      (λ f. agree_at o c d (tag_in a (number n 0)) f (port_at P m)
      (takes_constant P c (port_taking S known inputs m p (value_of c) inner.0 inner.1 h.1.0)) ∙ ap fired_by is)
  no_fault_by (bad_bounds {n = n} {a = e} {b = f} {nested = nested} {p = p} {lo = lo} {hi = hi} x bad) h =
      let on : Here S number run p (place P n) = carry _ h.0 in
      let low : CarriedHas S number run p (place P e) (source.Int lo) = carry _ h.1.0 in
      let high : CarriedHas S number run p (place P f) (source.Int hi) = carry _ h.1.1.0 in
      let a = on.activation in
      let left = came S g number numbered known count only s run r settled a (origin P e) n 0 Zero (value.Int lo)
      (constant_spoken S g number numbered known inputs count only s run r settled (constants.Int lo) on e x refl
      (inl refl) low)
      (fed_as P known (origin P e) n 0 Zero (Array nested e f) x.within x.node (inl refl)) in
      let right = came S g number numbered known count only s run r settled a (origin P f) n 0 One (value.Int hi)
      (constant_spoken S g number numbered known inputs count only s run r settled (constants.Int hi) on f x refl
      (inr refl) high)
      (fed_as P known (origin P f) n 0 One (Array nested e f) x.within x.node (inr (inl refl))) in
      no_failure a n 0 (op.Alloc nested) (Two (value.Int lo) (value.Int hi)) BadBounds
      (both_fired S g number numbered known count only s run r settled a n 0 (op.Alloc nested) (value.Int lo)
      (value.Int hi) x.within
      (allocates x.node) refl left right)
      (λ q. ap (λ b. cond b
      (Out (value.Structure (record {
        element = q.element;
        serial = q.structure;
        low = lo;
        high = hi;
        nested =
            nested;
      }))) (Failed BadBounds)) bad)
  no_fault_by (out_of_fetch {n = n} {t = t} {i = i} {p = p} {s = y} {j = j} {lo = lo} {hi = hi} x out) h =
      let on : Here S number run p (place P n) = carry _ h.0 in
      let target : CarriedHas S number run p (place P t) (source.Name y) = carry _ h.1.0 in
      let index : CarriedHas S number run p (place P i) (source.Int j) = carry _ h.1.1.0 in
      never_outside on.activation n t i x.within (of_fetch x.node) out h.1.0 (carry _ h.1.1.1.0)
      (fed_as P known (origin P t) n 0 Zero (Fetch t i) x.within x.node (inl refl))
      (fed_as P known (origin P i) n 0 One (Fetch t i) x.within x.node (inr (inl refl)))
      target.stands
      (operand_spoken S g number numbered known inputs count only s run r settled on t x refl (inl refl) target)
      (constant_spoken S g number numbered known inputs count only s run r settled (constants.Int j) on i x refl
      (inr refl) index)
  no_fault_by (out_of_store {m = m} {t = t} {i = i} {x = e} {p = p} {s = y} {j = j} {lo = lo} {hi = hi} x out) h =
      let on : Here S number run p (place P m) = carry _ h.0 in
      let target : CarriedHas S number run p (place P t) (source.Name y) = carry _ h.1.0 in
      let index : CarriedHas S number run p (place P i) (source.Int j) = carry _ h.1.1.0 in
      let in_target =
      address_part S g number numbered known inputs count only s run r settled no_second on x t (inl refl) (inl refl) in
      let in_index =
      address_part S g number numbered known inputs count only s run r settled no_second on x i (inr refl) (inr refl) in
      never_outside on.activation x.address t i (x.parts).within (of_store (x.parts).node) out h.1.0 (carry _ h.1.1.1.0)
      (fed_as P known (origin P t) x.address 0 Zero (Address t i) (x.parts).within (x.parts).node (inl refl))
      (fed_as P known (origin P i) x.address 0 One (Address t i) (x.parts).within (x.parts).node (inr (inl refl)))
      target.stands
      (said_at S g number numbered known inputs count only s run r settled on t in_target.0 in_target.1 target)
      (subst (Speaks S number run on.activation (origin P i)) (stands_constant (constants.Int j) index.stands)
      (said_at S g number numbered known inputs count only s run r settled on i in_index.0 in_index.1 index))
  no_fault_by (second_store before) h =
      two_stores S g number numbered known inputs are count only s run r quiet before h.0 h.1.0

  no_source_fault : FaultFree S
  no_source_fault f fault = no_fault_by fault.rule fault.hold

  -- ---- names

  -- what the label of a binder has spoken was brought to it
  label_brought : (a : Activation) (b : ℕ) (w : Value) → b < length (rows P) → is_binder (node P b) ≡ true
      → Speaks S number run a (output (label P b)) w
      → (p : Port) × Among (Token (tag_in a (number (label P b) 0)) p w) (handled run)
  label_brought a b w within binds x = by x.fired x.fires x.gives
    where
      t : Tag
      t = tag_in a (number (label P b) 0)

      merge_out : (k : PortKind) (ops : Operands) (two : Truth) (u : Value) → two ≡ false
          → OperandsHandled run t two ops → Out u ≡ fired_merge k ops
          → (p : Port) × Among (Token t p u) (handled run)
      merge_out k ops two u one (one_handled p v is few h) e = (
        p,
        subst (λ z. Among (Token t p z) (handled run))
            (merged_is (same_kind (kind_of v) k) v u (sym (e ∙ ap (fired_merge k) is))) h,
      )
      merge_out k ops two u one (two_handled v v' is few h h') e = absurd (true_false (sym few ∙ one))

      no_merge : {k : PortKind} {x y : ℕ} → op.Merge k ≡ op.Enter x y → ⊥
      no_merge h = cc

      by : (f : Fired) → FiresAs run t f → GivesOn f true w → (p : Port) × Among (Token t p w) (handled run)
      by (Out u) y gives =
          let z = has_fired g S.inputs count s run r y in
          let m = label_made P known g number numbered b within binds in
          let same : z.instr ≡ m.instr = some_is (sym z.at ∙ m.at) in
          let op_is : (z.instr).op ≡ op.Merge (port_at P b) = ap (λ (i : Instr). i.op) same ∙ m.op in
          let out : Out u ≡ fired_merge (port_at P b) y.operands =
          z.is ∙ ap (λ o. fired o t y.operands z.fresh) op_is in
          let got =
          merge_out (port_at P b) y.operands (two_ports (z.instr).op) u (ap two_ports op_is) z.handled_are out in
          (got.0, subst (λ v. Among (Token t got.0 v) (handled run)) (sym gives.1) got.1)
      by (Side c u) y gives =
          let z = has_fired g S.inputs count s run r y in
          let m = label_made P known g number numbered b within binds in
          let same : z.instr ≡ m.instr = some_is (sym z.at ∙ m.at) in
          let op_is : (z.instr).op ≡ op.Merge (port_at P b) = ap (λ (i : Instr). i.op) same ∙ m.op in
          absurd (merge_no_side (port_at P b) y.operands c u (z.is ∙ ap (λ o. fired o t y.operands z.fresh) op_is))
      by (Entered c) y gives =
          let z = has_fired g S.inputs count s run r y in
          let m = label_made P known g number numbered b within binds in
          let same : z.instr ≡ m.instr = some_is (sym z.at ∙ m.at) in
          let op_is : (z.instr).op ≡ op.Merge (port_at P b) = ap (λ (i : Instr). i.op) same ∙ m.op in
          let enters = entered_by (z.instr).op t y.operands z.fresh c (sym z.is) in
          absurd (no_merge (sym op_is ∙ enters.is))
      by (Sent u v) y gives = absurd gives
      by (Moved k v) y gives = absurd gives
      by (Asked c u) y gives = absurd gives
      by (Stored c v u) y gives = absurd gives
      by (Failed k) y gives = absurd gives
      by Nothing y gives = absurd gives

  abbrev tag_path : Tag → Path
  tag_path = shown.path_in g s.elements

  -- a token that brings a binder's value to its label shows the name
  label_shows : (n : NameValue) (b : ℕ) (a : Activation) (p : Port) (w : Value) → StandsFor S number run w n.value
      → b < length (rows P) → is_binder (node P b) ≡ true → place P b ≡ n.place
      → tag_path (tag_in a (number (label P b) 0)) ≡ n.path → is_value (port_at P b) ≡ true
      → shown.name_in g tag_path name_of (Token (tag_in a (number (label P b) 0)) p w) ≡ Some n
  label_shows n b a p w stands within binds here path merges =
      let at = tag_in a (number (label P b) 0) in
      (λ i. cond (label_is P known g number numbered b within binds merges i)
      (shown.name_at g (number (label P b) 0) (tag_path at) (value_shown stands i)) None)
      ∙ (λ i. Some (record {
        path = path i;
        place = (label_place P known g number numbered b within binds ∙ here) i;
        value = n.value;
      }))

  -- what a binder Has came to its label, and is shown
  names_shown : (n : NameValue) → IsNameValue S n → Among n (shown.names g s)
  names_shown n name =
      let x = name.binder in
      let b = x.row in
      let thing = binder_thing (node P b) x.binds in
      let holds = subst (λ e. Holds S (Has n.path e n.value)) (sym x.here) name.holds in
      let c : CarriedHas S number run n.path (place P b) n.value =
      carried S g number numbered known inputs count only s run r settled no_second _ holds in
      let row_is =
      here_is S g number numbered known inputs count only s run r settled c.here (record {
        within = x.within;
        node =
            refl;
      }) thing in
      let a = (c.here).activation in
      let said : Speaks S number run a (output (label P b)) c.value =
      subst (λ z. Speaks S number run a z c.value) (ap (speaker P) row_is
      ∙ binder_speaks P known b (node P b) refl x.binds) c.spoken in
      let brought = label_brought a b c.value x.within x.binds said in
      let h = handled_by run _ brought.1 in
      let record_it = to_record g S.inputs count s run r h.0 h.1 in
      let payload_is : (record_it.0).message.payload ≡ Token (tag_in a (number (label P b) 0)) brought.0 c.value =
      (record_it.2).payload ∙ sym h.2 in
      let taken = port_taking S known inputs b n.path n.value x.within thing holds in
      let merges = ap is_value taken.2 ∙ value_passes taken.0 in
      let path_is =
      path_shown S known g number numbered count s run r backed (tag_in a (number (label P b) 0)) n.path (c.here).live
      (c.here).path_of in
      filter_map_has (λ (u : EventView). shown.name_in g tag_path name_of u.message.payload) (events s) record_it.0 n
      (among_events s record_it.0 record_it.1)
      (ap (shown.name_in g tag_path name_of) payload_is
      ∙ label_shows n b a brought.0 c.value c.stands x.within x.binds x.here path_is merges)

  -- a quiet run has shown everything
  pub complete_at : IsComplete S g s
  complete_at = record {
    answer = answer_exact (shown.answer g s) refl;
    names = names_shown;
    structures = structures_shown S g number numbered known inputs are count only s run r quiet;
    cells = cells_shown S g number numbered known inputs are count only s run r quiet;
    asks = asks_shown S g number numbered known inputs are count only s run r quiet;
    waiting = waiting_shown S g number numbered known inputs are count only s run r quiet;
    only_waiting = waiting_only S g number numbered known inputs are count only s run r quiet;
    no_fault = no_source_fault;
  }
