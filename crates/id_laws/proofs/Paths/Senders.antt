-- Each token that an event sends came one of the ways, each read was asked by a fetch, and each write stored by a
-- store.
use Rattle.std.proofs.Common.{◌≡◌, ◌⊎◌, inl, inr, ℕ, ℤ, ◌+◌, ◌<◌, ◌-◌, length, arith, Bool as Truth, true, false}
use Rattle.std.proofs.Common.{cond, Some, List, slice_get, refl, sym, ◌∙◌, ap, subst}
use Rattle.std.specs.Bool.{beq}
use Rattle.id_value.specs.declared.FaultKind.TheVariants.{BadBounds, OutOfBounds}
use Rattle.id_value.specs.Bounds.{are_good, is_inside}
use Rattle.id_value.specs.declared.Outcome.{Outcome}
use Rattle.id_value.specs.declared.Outcome.TheVariants.{Gives, Fails, Lacks}
use Rattle.id_value.specs.declared.Constant.TheVariants as constants
use Rattle.id_value.specs.Results.{result_of_unary, calculated}
use Rattle.std.specs.Prelude.{option_map}
use Rattle.id_value.specs.List.{Among}
use Rattle.id_value.proofs.AmongLemmas.{Among-map}
use Rattle.id_table.specs.declared.row.Node.TheVariants.{Fetch, Store}
use Rattle.id_table.specs.Tables.{begins_block}
use Rattle.id_check.specs.Programs.{region, rows}
use Rattle.id_instr.specs.declared.dests.Port.{Port}
use Rattle.id_instr.specs.declared.dests.Port.TheVariants.{Zero}
use Rattle.id_instr.specs.declared.dests.Dest.{Dest}
use Rattle.id_instr.specs.declared.instr.Instr.{Instr}
use Rattle.id_instr.specs.declared.instr.Dyadic.TheVariants as class
use Rattle.id_instr.specs.declared.instr.Op.{Op}
use Rattle.id_instr.specs.declared.instr.Op.TheVariants as op
use Rattle.id_instr.specs.declared.instr.PortKind.{PortKind}
use Rattle.id_instr.specs.Graph.{Parts}
use Rattle.id_instr.specs.Ports.{two_ports}
use Rattle.id_tag.specs.Kinds.{kind_of, same_kind}
use Rattle.id_tag.specs.declared.Context.{Context}
use Rattle.id_tag.specs.declared.Tag.{Tag}
use Rattle.id_tag.specs.declared.Value.{Value}
use Rattle.id_tag.specs.declared.Value.TheVariants.{Signal, Int, Bool, Structure as Made, Address as At}
use Rattle.id_tag.specs.declared.Value.TheVariants.{Context as Opened, Continuation}
use Rattle.id_tag.specs.declared.Payload.{Payload}
use Rattle.id_tag.specs.declared.Payload.TheVariants.{Token, Read, Write}
use Rattle.id_tag.specs.declared.Cell.{Cell}
use Rattle.id_tag.specs.declared.Structure.{Structure}
use Rattle.id_ops.specs.declared.Operands.{Operands}
use Rattle.id_ops.specs.declared.Operands.TheVariants.{One as Alone, Two}
use Rattle.id_ops.specs.declared.Fresh.{Fresh}
use Rattle.id_ops.specs.declared.Fired.{Fired}
use Rattle.id_ops.specs.declared.Fired.TheVariants.{Out, Side, Entered, Sent, Moved, Asked, Stored, Failed, Nothing}
use Rattle.id_ops.specs.Operators.{address_in, fired, fired_by, fired_enter, fired_next, fired_reset}
use Rattle.id_ops.specs.Operators.{may_hold, tag_within}
use Rattle.id_valid.specs.Roles.{op_at}
use Rattle.id_record.specs.Sends.{beside, moved_to}
use Rattle.id_core.specs.Steps.{token_to}
use Rattle.id_record.specs.Records.{dests_at, sent_by}
use Rattle.id_core.specs.Machines.{World}
use Rattle.id_source.specs.Sources.{Source}
use Rattle.id_build.specs.Rows.{node, op_by}
use Rattle.id_build.specs.Schemas.{Numbered, IsNumber}
use Rattle.id_runs.specs.Activations.{Activation, at_iteration, tag_in, activation_of}
use Rattle.id_runs.specs.Events.{Event, Looked, FiresAs, GivesOn, fired_event, payload_of, sends_of}
use Rattle.id_runs.specs.Cells.{Replies, cell_at}
use Rattle.id_runs.specs.Runs.{Reach, handled}
use Rattle.id_runs.proofs.Givings.{SentAs, along as along_arc, moving, to_tag, sent_as, to_start, reading, writing}
use Rattle.id_runs.proofs.Messages.{SentFrom, by_firing, by_answer, sent_from}
use Rattle.id_runs.proofs.Asks.{asked_by, stored_by}
use Rattle.id_runs.proofs.Cells.{cells_exact}
use Rattle.id_runs.proofs.CellLaws.{reply_sound}
use Rattle.id_runs.proofs.Waiting.{has_fired, HasFired, OperandsHandled, one_handled, two_handled}
use Rattle.id_laws.specs.Activations.{Begins, Opens, ReturnsTo, to_answer, to_row}
use Rattle.id_laws.specs.Topics.{AllTell, IsPart, Tells, Told, ToldRead, ShownContext, ShownWayBack}
use Rattle.id_laws.specs.Ways.{Way, by_arc, by_move, by_send, by_enter, by_continuation, by_back, by_reply, SendsTo}
use Rattle.id_laws.proofs.Paths.Begun.{begun_at}
use Rattle.id_laws.proofs.Rows.Blocks.{all_listed}
use Rattle.id_laws.proofs.Rows.Arcs.{answers, doing, gets_reply, part_of, target_part}
use Rattle.id_laws.proofs.Rows.Assumed.{IsKnown}
use Rattle.id_laws.proofs.Paths.Sendings.{Passing, is_back, is_enter, is_fetch, is_send, is_store, head_parts}
use Rattle.id_laws.proofs.Paths.Sendings.{returns_at}
use Rattle.id_laws.proofs.Paths.Sendings.{sending_part, sent_part, wants_back, wants_context}
use Rattle.id_laws.proofs.Rows.Tokens.{told_at}
use Rattle.id_laws.proofs.Paths.Sent.{sends_there}
use Rattle.id_laws.proofs.Paths.Started.{Starts, first, second, starts_as}

-- ---- only a `back` sends to a tag of its own

-- a `back` has taken this continuation
pub record SentBack (o : Op) (ops : Operands) (u : Tag) (v : Value) : Type 0 where
  pub kind : PortKind
  pub back : o ≡ op.Back kind
  pub operands : ops ≡ Two (Continuation u) v

merge_sends : (v : Value) (b : Truth) (u : Tag) (w : Value) → cond b (Out v) Nothing ≡ Sent u w → ⊥
merge_sends v true u w h = cc
merge_sends v false u w h = cc

switch_sends : (c : Truth) (v : Value) (b : Truth) (u : Tag) (w : Value) → cond b (Side c v) Nothing ≡ Sent u w → ⊥
switch_sends c v true u w h = cc
switch_sends c v false u w h = cc

result_sends : (y : Outcome) (u : Tag) (w : Value) → fired_by y ≡ Sent u w → ⊥
result_sends (Gives c) u w h = cc
result_sends (Fails k) u w h = cc
result_sends Lacks u w h = cc

back_sends : (k : PortKind) (t : Tag) (v : Value) (b : Truth) (u : Tag) (w : Value)
    → cond b (Sent t v) Nothing ≡ Sent u w → (t ≡ u) × (v ≡ w)
back_sends k t v true u w h = (cc, cc)
back_sends k t v false u w h = cc

-- a `send` has taken this context
pub record SentIn (o : Op) (ops : Operands) (u : Tag) (v : Value) : Type 0 where
  pub kind : PortKind
  pub target : ℕ
  pub send : o ≡ op.Send kind target
  pub context : Context
  pub operands : ops ≡ Two (Opened context) v
  pub goes : u ≡ tag_within context target

enter_sends : (c : Context) (ops : Operands) (u : Tag) (w : Value) → fired_enter c ops ≡ Sent u w → ⊥
enter_sends c (Alone Signal) u w h = cc
enter_sends c _ u w h = cc

moves_sends : (k : ℕ) (v : Value) (b : Truth) (u : Tag) (w : Value) → cond b (Moved k v) Nothing ≡ Sent u w → ⊥
moves_sends k v true u w h = cc
moves_sends k v false u w h = cc

next_sends : (k : PortKind) (j : ℕ) (ops : Operands) (u : Tag) (w : Value) → fired_next k j ops ≡ Sent u w → ⊥
next_sends k j (Alone v) u w h = moves_sends (j + 1) v (same_kind (kind_of v) k) u w h
next_sends k j (Two v x) u w h = cc

reset_sends : (k : PortKind) (ops : Operands) (u : Tag) (w : Value) → fired_reset k ops ≡ Sent u w → ⊥
reset_sends k (Alone v) u w h = moves_sends 0 v (same_kind (kind_of v) k) u w h
reset_sends k (Two v x) u w h = cc

structure_sends : (x : Structure) (b : Truth) (u : Tag) (w : Value)
    → cond b (Out (Made x)) (Failed BadBounds) ≡ Sent u w → ⊥
structure_sends x true u w h = cc
structure_sends x false u w h = cc

index_sends : (s : Structure) (i : ℤ) (b : Truth) (u : Tag) (w : Value)
    → cond b (Out (At (record { structure = s; index = i }))) (Failed OutOfBounds) ≡ Sent u w → ⊥
index_sends s i true u w h = cc
index_sends s i false u w h = cc

address_sends : (s : Structure) (i : ℤ) (b : Truth) (u : Tag) (w : Value)
    → cond b (address_in s i) Nothing ≡ Sent u w → ⊥
address_sends s i true u w h = index_sends s i (is_inside s.low s.high i) u w h
address_sends s i false u w h = cc

fetch_sends : (c : Cell) (r : Tag) (b : Truth) (u : Tag) (w : Value) → cond b (Asked c r) Nothing ≡ Sent u w → ⊥
fetch_sends c r true u w h = cc
fetch_sends c r false u w h = cc

store_sends : (c : Cell) (v : Value) (t : Tag) (b : Truth) (u : Tag) (w : Value)
    → cond b (Stored c v t) Nothing ≡ Sent u w → ⊥
store_sends c v t true u w h = cc
store_sends c v t false u w h = cc

pub sent_back : (o : Op) (t : Tag) (ops : Operands) (f : Fresh) (u : Tag) (w : Value) → fired o t ops f ≡ Sent u w
    → SentBack o ops u w ⊎ SentIn o ops u w
sent_back (op.Const c) t (Alone Signal) f u w h = cc
sent_back (op.Const c) t _ f u w h = cc
sent_back (op.Unary o) t (Alone (Int n)) f u w h = absurd (result_sends (result_of_unary o (constants.Int n)) u w h)
sent_back (op.Unary o) t (Alone (Bool b)) f u w h = absurd (result_sends (result_of_unary o (constants.Bool b)) u w h)
sent_back (op.Unary o) t _ f u w h = cc
sent_back (op.Binary (class.Arithmetic o)) t (Two (Int a) (Int b)) f u w h =
    absurd (result_sends (calculated o a b) u w h)
sent_back (op.Binary (class.Comparison o)) t (Two (Int a) (Int b)) f u w h = cc
sent_back (op.Binary (class.Truth o)) t (Two (Bool a) (Bool b)) f u w h = cc
sent_back (op.Binary o) t _ f u w h = cc
sent_back (op.Merge k) t (Alone v) f u w h = absurd (merge_sends v (same_kind (kind_of v) k) u w h)
sent_back (op.Merge k) t (Two v x) f u w h = cc
sent_back (op.Switch k) t (Two (Bool b) v) f u w h = absurd (switch_sends b v (same_kind (kind_of v) k) u w h)
sent_back (op.Switch k) t _ f u w h = cc
sent_back (op.Back k) t (Two (Continuation y) v) f u w h =
    let b = back_sends k y v (same_kind (kind_of v) k) u w h in
    inl (record { kind = k; back = refl; operands = (λ i. Two (Continuation (b.0 i)) (b.1 i)) })
sent_back (op.Back k) t _ f u w h = cc
sent_back (op.Enter b r) t ops f u w h = absurd (enter_sends f.context ops u w h)
sent_back (op.Send k n) t (Two (Opened c) v) f u w h =
    let b = back_sends k (tag_within c n) v (same_kind (kind_of v) k) u w h in
    inr (record {
      kind = k;
      target = n;
      send = refl;
      context = c;
      operands = ap (λ z. Two (Opened c) z) b.1;
      goes =
          sym b.0;
    })
sent_back (op.Send k n) t _ f u w h = cc
sent_back (op.Next k) t ops f u w h = absurd (next_sends k t.iteration ops u w h)
sent_back (op.Reset k) t ops f u w h = absurd (reset_sends k ops u w h)
sent_back (op.Alloc nested) t (Two (Int a) (Int b)) f u w h = absurd (structure_sends _ (are_good a b) u w h)
sent_back (op.Alloc nested) t _ f u w h = cc
sent_back (op.Address nested) t (Two (Made s) (Int i)) f u w h = absurd (address_sends s i (beq s.nested nested) u w h)
sent_back (op.Address nested) t _ f u w h = cc
sent_back (op.Fetch nested r) t (Alone (At d)) f u w h =
    absurd (fetch_sends d _ (beq d.structure.nested nested) u w h)
sent_back (op.Fetch nested r) t _ f u w h = cc
sent_back (op.Store nested) t (Two (At d) v) f u w h = absurd (store_sends d v t (may_hold nested d v) u w h)
sent_back (op.Store nested) t _ f u w h = cc

-- ---- the ways

-- the event has sent the message a way
pub record CameBy (S : Source) (number : ℕ → ℕ → ℕ) (run : List Event) (e : Event) (x : Payload) : Type 0 where
  pub activation : Activation
  pub row : ℕ
  pub part : ℕ
  pub port : Port
  pub value : Value
  pub is : x ≡ Token (tag_in activation (number row part)) port value
  pub is_part : IsPart S.checked row part
  pub way : Way S number run e activation row part port value

-- the event has asked for a cell, for the fetch of a row
pub record AskedBy (S : Source) (number : ℕ → ℕ → ℕ) (run : List Event) (e : Event) (x : Payload) : Type 0 where
  pub activation : Activation
  pub row : ℕ
  pub target : ℕ
  pub index : ℕ
  pub within : row < length (rows S.checked)
  pub node : node S.checked row ≡ Fetch target index
  pub cell : Cell
  pub is : x ≡ Read cell (tag_in activation (number row 2))
  pub fires : FiresAs run (tag_in activation (number row 1)) (Asked cell (tag_in activation (number row 2)))
  pub event_is : fired_event fires ≡ e

-- the event has stored a value into a cell, for the store of a row
pub record StoredBy (S : Source) (number : ℕ → ℕ → ℕ) (run : List Event) (e : Event) (x : Payload) : Type 0 where
  pub activation : Activation
  pub row : ℕ
  pub address : ℕ
  pub stored : ℕ
  pub within : row < length (rows S.checked)
  pub node : node S.checked row ≡ Store address stored
  pub cell : Cell
  pub value : Value
  pub is : x ≡ Write cell value (tag_in activation (number row 0))
  pub fires : FiresAs run (tag_in activation (number row 0)) (Stored cell value (tag_in activation (number row 0)))
  pub event_is : fired_event fires ≡ e

-- how the event has sent the message
pub data SentSo (S : Source) (number : ℕ → ℕ → ℕ) (run : List Event) (e : Event) (x : Payload) : Type 0 where
  as_token : CameBy S number run e x → SentSo S number run e x
  as_read : AskedBy S number run e x → SentSo S number run e x
  as_write : StoredBy S number run e x → SentSo S number run e x

-- a firing, with its event, under an equal tag
pub moved_firing : {run : List Event} {t u : Tag} {f : Fired} {e : Event} (x : FiresAs run t f) → fired_event x ≡ e
    → t ≡ u → (y : FiresAs run u f) × (fired_event y ≡ e)
moved_firing {run} {t} {u} {f} {e} x is same = subst (λ z. (y : FiresAs run z f) × (fired_event y ≡ e)) same (x, is)

continuation_is : {t u : Tag} → Continuation t ≡ Continuation u → t ≡ u
continuation_is h = cc

one_instr : {i j : Instr} → Some i ≡ Some j → i ≡ j
one_instr h = cc

first_operand : {v w v' w' : Value} → Two v w ≡ Two v' w' → v ≡ v'
first_operand h = cc

pub last_row : {n : ℕ} → 0 < n → n - 1 < n
last_row h = omega (arith, h)

-- what a block gives goes to a part
pub return_part : (S : Source) (number : ℕ → ℕ → ℕ) (run : List Event) → IsKnown S.checked
    → {c : Context} {h : ℕ} {a : Activation} {n : ℕ} → ReturnsTo S number run c h a n → IsPart S.checked n 0
return_part S number run known to_answer = part_of (last_row (known.table).some) (answers (known.table).ends)
return_part S number run known (to_row within is live opened) = returns_at known within is

module _ (S : Source) (g : Parts) (number : ℕ → ℕ
    → ℕ) (numbered : Numbered S.checked g number) (count : ℕ) (s : World) (run : List Event)
    (r : Reach g S.inputs count s run)
    (known : IsKnown S.checked) (tell : AllTell S number run s) where
  along : (e : Event) (x : Payload) (t : Tag) (y : Fired) (b : Truth) (v : Value) (f : FiresAs run t y)
      → fired_event f ≡ e → GivesOn y b v → (d : Dest) → Among d (dests_at g t.instr b)
      → x ≡ token_to t v d → CameBy S number run e x
  along e x t f' b v f is gives d among says =
      let arc = numbered.no_more t.instr b d (sends_there g t.instr b d _ refl among) in
      let a = activation_of t in
      let from = arc.origin in
      let y = moved_firing f is (ap (λ n. tag_in a n) (sym arc.from)) in
      record {
        activation = a;
        row = arc.row;
        part = arc.part;
        port = d.port;
        value = v;
        is = says ∙ ap (λ n. Token (tag_in a n) d.port v) (sym arc.goes);
        is_part = target_part arc.feeds;
        way = by_arc a from arc.row arc.part d.port v arc.feeds (record {
          fired = f';
          fires = y.0;
          gives =
              subst (λ c. GivesOn f' c v) (sym arc.on) gives;
        })
            y.1;
      }

  goes_on : (e : Event) (x : Payload) (t : Tag) (k : ℕ) (v : Value) (f : FiresAs run t (Moved k v)) → fired_event f ≡ e
      → (d : Dest) → Among d (dests_at g t.instr true) → x ≡ token_to (moved_to t k) v d → CameBy S number run e x
  goes_on e x t k v f is d among says =
      let arc = numbered.no_more t.instr true d (sends_there g t.instr true d _ refl among) in
      let a = activation_of t in
      let y = moved_firing f is (ap (λ n. tag_in a n) (sym arc.from)) in
      record {
        activation = at_iteration a.context k;
        row = arc.row;
        part = arc.part;
        port = d.port;
        value = v;
        is = says ∙ ap (λ n. Token (tag_in (at_iteration a.context k) n) d.port v) (sym arc.goes);
        is_part = target_part arc.feeds;
        way = by_move a arc.origin k arc.row arc.part d.port v arc.feeds (record { on = arc.on; fires = y.0 }) y.1;
      }

  -- a `back` sends to where its block returns
  goes_back : (e : Event) (a : Activation) (h : ℕ) (u : Tag) (v : Value)
      → (f : FiresAs run (tag_in a (number h 1)) (Sent u v)) → fired_event f ≡ e
      → ShownWayBack S number run a h (Continuation u) → (x : Payload) → x ≡ Token u Zero v → CameBy S number run e x
  goes_back e a h u v f is back x says =
      let to : u ≡ tag_in back.caller (number back.row 0) = continuation_is (back.is) in
      let first : tag_in a (number h 1) ≡ tag_in (at_iteration a.context 0) (number h 1) =
      (λ i. record { context = a.context; iteration = back.at_first i; instr = number h 1 }) in
      let y = moved_firing f is first in
      let z = subst (λ t. (y : FiresAs run (tag_in (at_iteration a.context 0) (number h 1)) (Sent t v))
      × (fired_event y ≡ e)) to y in
      record {
        activation = back.caller;
        row = back.row;
        part = 0;
        port = Zero;
        value = v;
        is = says ∙ ap (λ t. Token t Zero v) to;
        is_part = return_part S number run known back.returns;
        way = by_back a.context h back.caller back.row v back.returns z.0 z.1;
      }

  back_told : (t : Tag) (n : ℕ) (u : Tag) → n < length (rows S.checked) → IsPart S.checked n 1
      → begins_block (node S.checked n) ≡ true → number n 1 ≡ t.instr
      → Among (Token t Zero (Continuation u)) (handled run)
      → ShownWayBack S number run (activation_of t) n (Continuation u)
  back_told t n u within is_part is at h =
      let a = activation_of t in
      let told : Told S number run (Token (tag_in a (number n 1)) Zero (Continuation u)) = subst
      (λ m. Told S number run (Token (tag_in a m) Zero (Continuation u))) (sym at) (tell _ (inr h)) in
      let wanted = told_at S g number run numbered a n 1 Zero (Continuation u) is_part told in
      subst (λ z. Tells S number run a z (Continuation u))
      (wants_back S.checked n (region S.checked n) (node S.checked n) is) wanted

  -- the form of operator that has fired
  fired_form : (t : Tag) {f : Fired} {ops : Operands} (y : HasFired g run t f ops)
      (z : IsNumber S.checked number t.instr) → op_by number z.form ≡ (y.instr).op
  fired_form t y z =
      let m = numbered.made z.row z.part z.form z.place z.makes in
      let both : Some m.instr ≡ Some y.instr = sym m.at ∙ ap (slice_get g.instrs) z.is ∙ y.at in
      sym m.op ∙ ap (λ (i : Instr). i.op) (one_instr both)

  -- what a `back` has sent went back
  came_back : (e : Event) (x : Payload) (t u : Tag) (v : Value) (f : FiresAs run t (Sent u v)) → fired_event f ≡ e
      → x ≡ Token u Zero v → (y : HasFired g run t (Sent u v) f.operands) → SentBack (y.instr).op f.operands u v
      → CameBy S number run e x
  came_back e x t u v f is says y b = by y.handled_are
    where
      z : IsNumber S.checked number t.instr
      z = numbered.only t.instr y.instr y.at

      head : (z.part ≡ 1) × (begins_block (node S.checked z.row) ≡ true)
      head = is_back S.checked number z.part z.row z.form (doing z.makes).does (fired_form t y z ∙ b.back)

      at : number z.row 1 ≡ t.instr
      at = ap (number z.row) (sym head.0) ∙ z.is

      first_part : z.part ≡ 1 → IsPart S.checked z.row 1
      first_part e = subst (IsPart S.checked z.row) e (record { form = z.form; place = z.place; makes = z.makes })

      by : OperandsHandled run t (two_ports (y.instr).op) f.operands → CameBy S number run e x
      by (one_handled p w e' two h) = let bad : Alone w ≡ Two (Continuation u) v = sym e' ∙ b.operands in cc
      by (two_handled w w' e' two h h') =
          let same : Two w w' ≡ Two (Continuation u) v = sym e' ∙ b.operands in
          let came = subst (λ c. Among (Token t Zero c) (handled run)) (first_operand same) h in
          let a = activation_of t in
          let moved = moved_firing f is (ap (tag_in a) (sym at)) in
          goes_back e a z.row u v moved.0 moved.1
          (back_told t z.row u (z.makes).within (first_part head.0) head.1 at came) x says

  -- a token with a context, for what sends into it
  context_told : (t : Tag) (n part i row to : ℕ) (c : Context) → SendsTo S.checked n part i row to
      → number n part ≡ t.instr → Among (Token t Zero (Opened c)) (handled run)
      → ShownContext S number run (activation_of t) i (Opened c)
  context_told t n part i row to c sends at h =
      let a = activation_of t in
      let told : Told S number run (Token (tag_in a (number n part)) Zero (Opened c)) =
      subst (λ m. Told S number run (Token (tag_in a m) Zero (Opened c)))
      (sym at) (tell _ (inr h)) in
      let wanted = told_at S g number run numbered a n part Zero (Opened c) (sending_part known sends) told in
      subst (λ z. Tells S number run a z (Opened c)) (wants_context sends) wanted

  opened_is : {c d : Context} → Opened c ≡ Opened d → c ≡ d
  opened_is h = cc

  -- what a `send` has sent went into the context
  came_in : (e : Event) (x : Payload) (t u : Tag) (v : Value) (f : FiresAs run t (Sent u v)) → fired_event f ≡ e
      → x ≡ Token u Zero v → (y : HasFired g run t (Sent u v) f.operands) → SentIn (y.instr).op f.operands u v
      → CameBy S number run e x
  came_in e x t u v f is says y b = by y.handled_are
    where
      z : IsNumber S.checked number t.instr
      z = numbered.only t.instr y.instr y.at

      sending : Passing S.checked number z.row z.part b.target
      sending =
          is_send S.checked number z.part z.row z.form b.kind b.target (z.makes).within (doing z.makes).does
          (fired_form t y z ∙ b.send)

      by : OperandsHandled run t (two_ports (y.instr).op) f.operands → CameBy S number run e x
      by (one_handled p w e' two h) = let bad : Alone w ≡ Two (Opened b.context) v = sym e' ∙ b.operands in cc
      by (two_handled w w' e' two h h') =
          let same : Two w w' ≡ Two (Opened b.context) v = sym e' ∙ b.operands in
          let came = subst (λ c. Among (Token t Zero c) (handled run)) (first_operand same) h in
          let a = activation_of t in
          let told =
          context_told t z.row z.part sending.opener sending.row sending.part b.context sending.sends z.is came in
          let c = told.context in
          let goes : u ≡ tag_in (at_iteration c 0) (number sending.row sending.part) =
          b.goes ∙ (λ i. tag_within (opened_is told.is i) (sending.goes i)) in
          let moved = moved_firing f is (ap (tag_in a) (sym z.is)) in
          let sent =
          subst (λ k. (q : FiresAs run (tag_in a (number z.row z.part)) (Sent k v)) × (fired_event q ≡ e)) goes moved in
          record {
            activation = at_iteration c 0;
            row = sending.row;
            part = sending.part;
            port = Zero;
            value = v;
            is = says ∙ ap (λ k. Token k Zero v) goes;
            is_part = sent_part known sending.sends;
            way = by_send a c z.row z.part sending.opener sending.row sending.part v sending.sends told.opens sent.0
                sent.1;
          }

  came_to_tag : (e : Event) (x : Payload) (t u : Tag) (v : Value) (f : FiresAs run t (Sent u v)) → fired_event f ≡ e
      → x ≡ Token u Zero v → CameBy S number run e x
  came_to_tag e x t u v f is says =
      let y = has_fired g S.inputs count s run r f in
      elim (sent_back (y.instr).op t f.operands y.fresh u v (sym y.is)) [
        | inl b ↦ came_back e x t u v f is says y b
        | inr b ↦ came_in e x t u v f is says y b
      ]

  -- ---- what starts a block

  -- the row whose `Enter` or `Start` has fired
  record Opening (t : Tag) (c : Context) (e : Event) (b back : ℕ) : Type 0 where
    row : ℕ
    head : ℕ
    end : ℕ
    within : row < length (rows S.checked)
    begins : Begins S.checked row head end
    opened : Opens S number run (activation_of t) row c
    is : fired_event opened ≡ e
    first : b ≡ number head 0
    returns_to : back ≡ number end 0

  opening : (e : Event) (t : Tag) (c : Context) (f : FiresAs run t (Entered c)) → fired_event f ≡ e → (b back : ℕ)
      → op_at g t.instr ≡ Some (op.Enter b back) → Opening t c e b back
  opening e t c f is b back names_are =
      let y = has_fired g S.inputs count s run r f in
      let z = numbered.only t.instr y.instr y.at in
      let op_is : Some (y.instr).op ≡ Some (op.Enter b back) =
      sym (ap (option_map (λ (i : Instr). i.op)) y.at) ∙ names_are in
      let x = is_enter S.checked number z.part z.row z.form b back (doing z.makes).does (fired_form t y z
      ∙ some_op op_is) in
      let at : number z.row 0 ≡ t.instr = ap (number z.row) (sym x.first_part) ∙ z.is in
      let moved = moved_firing f is (ap (tag_in (activation_of t)) (sym at)) in
      record {
        row = z.row;
        head = x.head;
        end = x.end;
        within = (z.makes).within;
        begins = x.begins;
        opened = moved.0;
        is = moved.1;
        first = x.first;
        returns_to = x.returns_to;
      }
    where
      some_op : {o q : Op} → Some o ≡ Some q → o ≡ q
      some_op h = cc

  came_first : (e : Event) (x : Payload) (t : Tag) (c : Context) (b back : ℕ) → Opening t c e b back
      → x ≡ Token (tag_within c b) Zero Signal →
      CameBy S number run e x
  came_first e x t c b back o says = record {
    activation = at_iteration c 0;
    row = o.head;
    part = 0;
    port = Zero;
    value = Signal;
    is = says ∙ ap (λ k. Token (tag_within c k) Zero Signal) o.first;
    is_part = (head_parts known o.within o.begins).0;
    way = by_enter (activation_of t) o.row o.head o.end c o.within o.begins o.opened o.is;
  }

  came_second : (e : Event) (x : Payload) (t : Tag) (c : Context) (b back : ℕ) → Opening t c e b back
      → x ≡ Token (tag_within c (b + 1)) Zero (Continuation (beside t back)) → CameBy S number run e x
  came_second e x t c b back o says =
      let begun = begun_at known o.within o.begins in
      let second : b + 1 ≡ number o.head 1 =
      ap (λ k. k + 1) o.first
      ∙ sym (numbered.second_behind o.head (all_listed S.checked o.head begun.head_within begun.head)) in
      let to : beside t back ≡ tag_in (activation_of t) (number o.end 0) = ap (beside t) o.returns_to in
      record {
        activation = at_iteration c 0;
        row = o.head;
        part = 1;
        port = Zero;
        value = Continuation (tag_in (activation_of t) (number o.end 0));
        is = says ∙ (λ i. Token (tag_within c (second i)) Zero (Continuation (to i)));
        is_part = (head_parts known o.within o.begins).1;
        way = by_continuation (activation_of t) o.row o.head o.end c o.within o.begins o.opened o.is;
      }

  -- what a `fetch` has asked for
  came_asking : (e : Event) (x : Payload) (t : Tag) (c : Cell) (u : Tag) (f : FiresAs run t (Asked c u))
      → fired_event f ≡ e → x ≡ Read c u → AskedBy S number run e x
  came_asking e x t c u f is says =
      let y = has_fired g S.inputs count s run r f in
      let asks = asked_by (y.instr).op t f.operands y.fresh c u (sym y.is) in
      let z = numbered.only t.instr y.instr y.at in
      let row =
      is_fetch S.checked number z.part z.row z.form u.instr (doing z.makes).does (fired_form t y z ∙ asks.fetch) in
      let a = activation_of t in
      let own : t ≡ tag_in a (number z.row 1) = ap (tag_in a) (sym z.is ∙ ap (number z.row) row.second) in
      let reply : u ≡ tag_in a (number z.row 2) = asks.reply ∙ ap (tag_in a) row.reply in
      let moved = moved_firing f is own in
      let sent =
      subst (λ k. (q : FiresAs run (tag_in a (number z.row 1)) (Asked c k)) × (fired_event q ≡ e)) reply moved in
      record {
        activation = a;
        row = z.row;
        target = row.target;
        index = row.index;
        within = (z.makes).within;
        node = row.node;
        cell = c;
        is = says ∙ ap (Read c) reply;
        fires = sent.0;
        event_is = sent.1;
      }

  -- what a `store` has stored
  came_storing : (e : Event) (x : Payload) (t : Tag) (c : Cell) (v : Value) (u : Tag) (f : FiresAs run t (Stored c v u))
      → fired_event f ≡ e → x ≡ Write c v u → StoredBy S number run e x
  came_storing e x t c v u f is says =
      let y = has_fired g S.inputs count s run r f in
      let puts = stored_by (y.instr).op t f.operands y.fresh c v u (sym y.is) in
      let z = numbered.only t.instr y.instr y.at in
      let row = is_store S.checked number z.part z.row z.form (doing z.makes).does (fired_form t y z ∙ puts.store) in
      let a = activation_of t in
      let own : t ≡ tag_in a (number z.row 0) = ap (tag_in a) (sym z.is ∙ ap (number z.row) row.first) in
      let origin : u ≡ tag_in a (number z.row 0) = puts.origin ∙ own in
      let moved = moved_firing f is own in
      let sent =
      subst (λ k. (q : FiresAs run (tag_in a (number z.row 0)) (Stored c v k)) × (fired_event q ≡ e)) origin moved in
      record {
        activation = a;
        row = z.row;
        address = row.address;
        stored = row.stored;
        within = (z.makes).within;
        node = row.node;
        cell = c;
        value = v;
        is = says ∙ ap (Write c v) origin;
        fires = sent.0;
        event_is = sent.1;
      }

  -- the answer to a read goes to the fetch that has asked
  came_answering : (e : Event) (x : Payload) (t : Tag) (v : Value) → x ≡ Token t Zero v → Replies run t v e
      → CameBy S number run e x
  came_answering e x t v says answer =
      let z = reply_sound run (cell_at count s) (cells_exact g S.inputs count s run r) t v e answer in
      let asks = (z.1).1 in
      let told : ToldRead S number run z.0 t =
      tell (Read z.0 t) (inr (Among-map payload_of (Looked asks.element z.0 t (z.1).0) run asks.among)) in
      record {
        activation = told.activation;
        row = told.row;
        part = 2;
        port = Zero;
        value = v;
        is = says ∙ ap (λ u. Token u Zero v) told.is;
        is_part = part_of told.within (gets_reply told.node);
        way = by_reply told.activation told.row told.target told.index v told.within told.node
            (subst (λ u. Replies run u v e) told.is answer);
      }

  by_fired : (e : Event) (x : Payload) (t : Tag) (f : Fired) (y : FiresAs run t f) → fired_event y ≡ e
      → Among x (sent_by g t f) → SentSo S number run e x
  by_fired e x t f y is h = by (sent_as g t f x h)
    where
      starting : (c : Context) (z : FiresAs run t (Entered c)) → fired_event z ≡ e → Starts (op_at g t.instr) t c x
          → CameBy S number run e x
      starting c z same (first b back names_are says) =
          came_first e x t c b back (opening e t c z same b back names_are) says
      starting c z same (second b back names_are says) =
          came_second e x t c b back (opening e t c z same b back names_are) says

      so : {k : Fired} → f ≡ k → (w : FiresAs run t k) × (fired_event w ≡ e)
      so fired_so = subst (λ z. (w : FiresAs run t z) × (fired_event w ≡ e)) fired_so (y, is)

      by : SentAs g t f x → SentSo S number run e x
      by (along_arc b v d gives among says) = as_token (along e x t f b v y is gives d among says)
      by (moving k v d fired_so among says) = let z = so fired_so in as_token (goes_on e x t k v z.0 z.1 d among says)
      by (to_tag u v fired_so says) = let z = so fired_so in as_token (came_to_tag e x t u v z.0 z.1 says)
      by (to_start c fired_so h) =
          let z = so fired_so in as_token (starting c z.0 z.1 (starts_as t c x (op_at g t.instr) h))
      by (reading c u fired_so says) = let z = so fired_so in as_read (came_asking e x t c u z.0 z.1 says)
      by (writing c v u fired_so says) = let z = so fired_so in as_write (came_storing e x t c v u z.0 z.1 says)

  -- each message that an event sends it has sent so
  pub sent_so : (e : Event) → Among e run → (x : Payload) → Among x (sends_of g e) → SentSo S number run e x
  sent_so e among x h = by (sent_from g run e among x h)
    where
      by : SentFrom g run e x → SentSo S number run e x
      by (by_firing t f y is out) = by_fired e x t f y is out
      by (by_answer t v says answer) = as_token (came_answering e x t v says answer)
