-- No two events of a run send to one port under one tag, ask for one fetch or store for one store, and none sends to
-- what the start sends to.
use Rattle.std.proofs.Common.{◌≡◌, ℕ, ℤ, Bool as Truth, true, false, Option, Some, None, List, [], slice_get, refl, sym}
use Rattle.std.proofs.Common.{◌∙◌, ap, subst}
use Rattle.std.specs.Option.{option_map_or}
use Rattle.id_value.specs.List.{Among, AllDiffer}
use Rattle.id_table.specs.declared.row.Region.{Region}
use Rattle.id_table.specs.declared.row.Node.{Node}
use Rattle.id_table.specs.declared.row.Node.TheVariants.{Head, LoopHead}
use Rattle.id_table.specs.Tables.{begins_block}
use Rattle.id_check.specs.declared.checked.Checked.{Checked}
use Rattle.id_check.specs.Programs.{region, place}
use Rattle.id_instr.specs.declared.dests.Port.{Port}
use Rattle.id_instr.specs.declared.dests.Port.TheVariants.{Zero, One}
use Rattle.id_instr.specs.declared.instr.Instr.{Instr}
use Rattle.id_instr.specs.Ports.{two_ports}
use Rattle.id_instr.specs.Graph.{Parts, arcs_on}
use Rattle.id_tag.specs.declared.Context.{Context}
use Rattle.id_tag.specs.declared.Tag.{Tag}
use Rattle.id_tag.specs.declared.Value.{Value}
use Rattle.id_tag.specs.declared.Payload.{Payload}
use Rattle.id_tag.specs.declared.Payload.TheVariants.{Token}
use Rattle.id_ops.specs.declared.Fired.TheVariants.{Entered}
use Rattle.id_record.specs.Records.{dests_at}
use Rattle.id_core.specs.Events.{tag_of}
use Rattle.id_core.specs.Machines.{World}
use Rattle.id_value.specs.Results.{is_whole}
use Rattle.id_source.specs.declared.Path.{Path}
use Rattle.id_source.specs.declared.SourceValue.TheVariants as source
use Rattle.id_source.specs.declared.Fact.TheVariants.{Has}
use Rattle.id_source.specs.Rounds.{Holds}
use Rattle.id_source.specs.Sources.{Source}
use Rattle.id_build.specs.Rows.{node, op_by}
use Rattle.id_build.specs.Schemas.{Numbered}
use Rattle.id_runs.specs.Activations.{Activation, main_activation, tag_in, activation_of}
use Rattle.id_runs.specs.Events.{Event, Took, Looked, Wrote, Waits, Blocked, Fires, FiresOnce, sends_of, FiresAs}
use Rattle.id_runs.specs.Events.{Enters, payload_of}
use Rattle.id_runs.specs.Keys.{Key, AtPort, ByFetch, ByStore, key_of}
use Rattle.id_runs.specs.Cells.{Replies, cell_at}
use Rattle.id_runs.proofs.Cells.{cells_exact}
use Rattle.id_runs.proofs.CellLaws.{one_reply}
use Rattle.id_runs.specs.Runs.{Reach, Moving, starting}
use Rattle.id_runs.specs.OneMessage.{Exclusive, Few}
use Rattle.id_runs.proofs.Messages.{one_firing}
use Rattle.id_laws.specs.Activations.{of_call, of_loop}
use Rattle.id_laws.specs.Activations.{SeatOf, made_seat, Below, path_at}
use Rattle.id_laws.specs.Topics.{AllTell, AllSpeak, Tells, topic_at, wants}
use Rattle.id_laws.specs.Ways.{Way, StartsAt}
use Rattle.id_laws.proofs.Rows.Arcs.{bounds_meet, begins_index, carries, meets_bound, goes_further, hands_index}
use Rattle.id_laws.proofs.Rows.Arcs.{has_one, adds_one}
use Rattle.id_laws.proofs.Rows.Arcs.{Does, starts, returns, enters, constant, unary, binary, turns_on, hands, joins}
use Rattle.id_laws.proofs.Rows.Arcs.{names, answers, doing}
use Rattle.id_laws.proofs.Rows.Arcs.{opens, passes, gets}
use Rattle.id_laws.proofs.Rows.Arcs.{sends_in, gives_back, varies, takes_in, moves_on, moves_name, advances, resets}
use Rattle.id_laws.proofs.Rows.Arcs.{gets_last, allocates, addresses, fetches, gets_reply, stores, part_of}
use Rattle.id_laws.proofs.Paths.Sendings.{is_enter}
use Rattle.id_laws.proofs.Paths.Steps.{stepping}
use Rattle.id_laws.proofs.Rows.Assumed.{IsKnown}
use Rattle.id_laws.proofs.Telling.FiringMeans.{IsBacked}
use Rattle.id_laws.proofs.Paths.Senders.{CameBy, AskedBy, StoredBy, SentSo, as_token, as_read, as_write, sent_so}
use Rattle.id_laws.proofs.Rows.Start.{Started, started, starts_once}
use Rattle.id_laws.proofs.Rows.Tokens.{one_part}
use Rattle.id_build.specs.declared.arc.Form.{Form}
use Rattle.id_laws.proofs.Paths.Seats.{seat_other, live_path}
use Rattle.id_laws.proofs.Telling.StartTells.{seats, opening_live}
use Rattle.id_runs.proofs.Enters.{entered_by}
use Rattle.id_laws.proofs.Telling.AllTell.{fired_part}
use Rattle.id_runs.proofs.Serials.{contexts_apart}
use Rattle.id_runs.proofs.SentOnce.{sent_once}
use Rattle.id_runs.proofs.Waiting.{has_fired}
use Rattle.id_record.specs.Events.{tag_of}
use Rattle.id_laws.proofs.Paths.OneWay.{not_started, one_way}

same_port : {t u : Tag} {p q : Port} {v w : Value} → Token t p v ≡ Token u q w → p ≡ q
same_port h = cc

true_false : true ≡ false → ⊥
true_false h = cc

some_is : {A : Type 0} {x y : A} → Some x ≡ Some y → x ≡ y
some_is h = cc

-- ---- an event sends one message for a key

abbrev tag_of_key : Key → Tag
tag_of_key (AtPort t p) = t
tag_of_key (ByFetch t) = t
tag_of_key (ByStore t) = t

abbrev port_of_key : Key → Port
port_of_key (AtPort t p) = p
port_of_key (ByFetch t) = Zero
port_of_key (ByStore t) = Zero

module _ (P : Checked) (g : Parts) (number : ℕ → ℕ → ℕ) (numbered : Numbered P g number) where
  differ_at : (m : ℕ) (b : Truth) (o : Option Instr) → slice_get g.instrs m ≡ o
      → AllDiffer (option_map_or (arcs_on b) o [])
  differ_at m b None is = tt
  differ_at m b (Some i) is = numbered.once m i b is

  differ_each : (m : ℕ) (b : Truth) → AllDiffer (dests_at g m b)
  differ_each m b = differ_at m b (slice_get g.instrs m) refl

-- ---- each port gets one token

head_alone : (S : Source) (number : ℕ → ℕ
    → ℕ) (run : List Event) (a : Activation) (v : Value) (n : ℕ) (r : Region) (m : Node) → begins_block m ≡ true
    → Tells S number run a (wants S.checked n r m 0 One) v → ⊥
head_alone S number run a v n r Head e w = w
head_alone S number run a v n r (LoopHead t) e w = w
head_alone S number run a v n r _ e w = true_false (sym e)

-- a part with a second port has an operator of two ports
second_port : (S : Source) (number : ℕ → ℕ
    → ℕ) (run : List Event) (a : Activation) (v : Value) (n part : ℕ) (r : Region) (o : Form)
    → Does S.checked n part o → two_ports (op_by number o) ≡ false
    → Tells S number run a (wants S.checked n r (node S.checked n) part One) v → ⊥
second_port S number run a v n part r o (starts is) one h = head_alone S number run a v n r (node S.checked n) is h
second_port S number run a v n part r o (returns is) one h = true_false one
second_port S number run a v n part r o (enters is) one h =
    subst (λ z. Tells S number run a (wants S.checked n r z 0 One) v) is h
second_port S number run a v n part r o (constant is) one h =
    subst (λ z. Tells S number run a (wants S.checked n r z 0 One) v) is h
second_port S number run a v n part r o (unary is) one h =
    subst (λ z. Tells S number run a (wants S.checked n r z 0 One) v) is h
second_port S number run a v n part r o (binary is) one h = true_false one
second_port S number run a v n part r o (turns_on is) one h = true_false one
second_port S number run a v n part r o (hands j is less) one h = true_false one
second_port S number run a v n part r o (joins is) one h =
    subst (λ z. Tells S number run a (wants S.checked n r z 0 One) v) is h
second_port S number run a v n part r o (opens (of_call is)) one h =
    subst (λ z. Tells S number run a (wants S.checked n r z 0 One) v) is h
second_port S number run a v n part r o (opens (of_loop is)) one h =
    subst (λ z. Tells S number run a (wants S.checked n r z 0 One) v) is h
second_port S number run a v n part r o (passes is) one h = true_false one
second_port S number run a v n part r o (gets is) one h =
    subst (λ z. Tells S number run a (wants S.checked n r z 0 One) v) is h
second_port S number run a v n part r o (names is) one h =
    subst (λ z. Tells S number run a (wants S.checked n r z 0 One) v) is h
second_port S number run a v n part r o (sends_in j q is at) one h = true_false one
second_port S number run a v n part r o (gives_back is) one h = true_false one
second_port S number run a v n part r o (varies is) one h =
    subst (λ z. Tells S number run a (wants S.checked n r z 0 One) v) is h
second_port S number run a v n part r o (takes_in j is less) one h =
    subst (λ z. Tells S number run a (wants S.checked n r z part One) v) is h
second_port S number run a v n part r o (moves_on is) one h =
    subst (λ z. Tells S number run a (wants S.checked n r z 0 One) v) is h
second_port S number run a v n part r o (moves_name j is less) one h =
    subst (λ z. Tells S number run a (wants S.checked n r z part One) v) is h
second_port S number run a v n part r o (advances is) one h =
    subst (λ z. Tells S number run a (wants S.checked n r z 0 One) v) is h
second_port S number run a v n part r o (resets is) one h =
    subst (λ z. Tells S number run a (wants S.checked n r z 0 One) v) is h
second_port S number run a v n part r o (gets_last is) one h =
    subst (λ z. Tells S number run a (wants S.checked n r z 0 One) v) is h
second_port S number run a v n part r o (allocates is) one h = true_false one
second_port S number run a v n part r o (addresses is) one h = true_false one
second_port S number run a v n part r o (fetches is) one h =
    subst (λ z. Tells S number run a (wants S.checked n r z 1 One) v) is h
second_port S number run a v n part r o (gets_reply is) one h =
    subst (λ z. Tells S number run a (wants S.checked n r z 2 One) v) is h
second_port S number run a v n part r o (stores is) one h = true_false one
second_port S number run a v n part r o (bounds_meet is) one h = true_false one
second_port S number run a v n part r o (begins_index is) one h = true_false one
second_port S number run a v n part r o (carries is) one h =
    subst (λ z. Tells S number run a (wants S.checked n r z 0 One) v) is h
second_port S number run a v n part r o (meets_bound is) one h = true_false one
second_port S number run a v n part r o (goes_further is) one h = true_false one
second_port S number run a v n part r o (hands_index is) one h = true_false one
second_port S number run a v n part r o (has_one is) one h =
    subst (λ z. Tells S number run a (wants S.checked n r z 3 One) v) is h
second_port S number run a v n part r o (adds_one is) one h = true_false one
second_port S number run a v n part r o (answers is) one h =
    subst (λ z. Tells S number run a (wants S.checked n r z 0 One) v) is h

module _ (S : Source) (g : Parts) (number : ℕ → ℕ
    → ℕ) (numbered : Numbered S.checked g number) (known : IsKnown S.checked) (count : ℕ)
    (tell : (s : World) (run : List Event) → Reach g S.inputs count s run → IsBacked S run → AllTell S number run s)
    (speak : (s : World) (run : List Event) → Reach g S.inputs count s run → IsBacked S run → AllSpeak S number run)
    (wholes : (p : Path) (e : ℕ) (i : ℤ) → Holds S (Has p e (source.Int i)) → is_whole i ≡ true) where
  backed : {run : List Event} → FiresOnce run → IsBacked S run
  backed once = record { once = once; wholes = wholes }

  -- a token for an operator of one port is for port 0
  first_port : (s : World) (run : List Event) → Reach g S.inputs count s run → FiresOnce run
      → (t : Tag) (p : Port) (v : Value) (i : Instr) → Moving s run (Token t p v) → slice_get g.instrs t.instr ≡ Some i
      → two_ports i.op ≡ false → p ≡ Zero
  first_port s run r once t Zero v i moves at one = refl
  first_port s run r once t One v i moves at one =
      let x = tell s run r (backed once) (Token t One v) moves in
      let part = x.is_part in
      let d = doing part.makes in
      let m = numbered.made x.row x.part part.form part.place part.makes in
      let number_is : t.instr ≡ number x.row x.part = ap (λ (y : Payload). (tag_of y).instr) x.is in
      let both : Some m.instr ≡ Some i = sym m.at ∙ ap (slice_get g.instrs) (sym number_is) ∙ at in
      let op_is : i.op ≡ op_by number part.form = ap (λ (z : Instr). z.op) (sym (some_is both)) ∙ m.op in
      let port_is : One ≡ x.port = same_port x.is in
      absurd (second_port S number run x.activation x.value x.row x.part (region S.checked x.row) part.form d.does
      (ap two_ports (sym op_is) ∙ one)
      (subst (λ q. Tells S number run x.activation (topic_at S.checked x.row x.part q) x.value) (sym port_is) x.tells))

  -- the answer to a read is sent once
  replies_once : (s : World) (run : List Event) → Reach g S.inputs count s run → Few run
      → (t : Tag) (v v' : Value) (e e' : Event) → Replies run t v e
      → Replies run t v' e' → e ≡ e'
  replies_once s run r few = one_reply run (cell_at count s) (cells_exact g S.inputs count s run r) few

  -- two events that send tokens to one port are one
  one_token : (s : World) (run : List Event) → Reach g S.inputs count s run → Few run → FiresOnce run
      → (e e' : Event) (x y : Payload) → CameBy S number run e x → CameBy S number run e' y → key_of x ≡ key_of y
      → e ≡ e'
  one_token s run r few once e e' x y a b same =
      let keys : AtPort (tag_in a.activation (number a.row a.part)) a.port ≡
      AtPort (tag_in b.activation (number b.row b.part)) b.port = sym (ap key_of a.is) ∙ same ∙ ap key_of b.is in
      let tags = ap tag_of_key keys in
      let parts = one_part numbered a.is_part b.is_part (ap (λ (t : Tag). t.instr) tags) in
      let acts : a.activation ≡ b.activation = ap activation_of tags in
      let ports : a.port ≡ b.port = ap port_of_key keys in
      one_way S number run known (seats S known g number numbered run count s r) once (speak s run r (backed once))
      (stepping S g number numbered count s run r (tell s run r (backed once))) g numbered
      (contexts_apart g S.inputs count s run r)
      (replies_once s run r few) e e' a.activation a.row a.part a.port a.value b.value a.way
      (subst (λ (z : Activation × (ℕ × (ℕ × Port))). Way S number run e' z.0 z.1.0 z.1.1.0 z.1.1.1 b.value) {x =
      (b.activation, (b.row, (b.part, b.port)))}
      {y = (a.activation, (a.row, (a.part, a.port)))}
      (λ i. (sym acts i, (sym parts.0 i, (sym parts.1 i, sym ports i)))) b.way)

  -- so are two that ask for one fetch, and two that store for one store
  one_asker : (run : List Event) → FiresOnce run → (e e' : Event) (x y : Payload) → AskedBy S number run e x
      → AskedBy S number run e' y → key_of x ≡ key_of y → e ≡ e'
  one_asker run once e e' x y a b same =
      let keys : ByFetch (tag_in a.activation (number a.row 2)) ≡ ByFetch (tag_in b.activation (number b.row 2)) =
      sym (ap key_of a.is) ∙ same
      ∙ ap key_of b.is in
      let tags = ap tag_of_key keys in
      let parts =
      one_part numbered (part_of a.within (gets_reply a.node)) (part_of b.within (gets_reply b.node))
      (ap (λ (t : Tag). t.instr) tags) in
      let acts : a.activation ≡ b.activation = ap activation_of tags in
      sym a.event_is ∙ one_firing once (λ i. tag_in (acts i) (number (parts.0 i) 1)) a.fires b.fires ∙ b.event_is

  one_storer : (run : List Event) → FiresOnce run → (e e' : Event) (x y : Payload) → StoredBy S number run e x
      → StoredBy S number run e' y → key_of x ≡ key_of y → e ≡ e'
  one_storer run once e e' x y a b same =
      let keys : ByStore (tag_in a.activation (number a.row 0)) ≡ ByStore (tag_in b.activation (number b.row 0)) =
      sym (ap key_of a.is) ∙ same
      ∙ ap key_of b.is in
      sym a.event_is ∙ one_firing once (ap tag_of_key keys) a.fires b.fires ∙ b.event_is

  port_no_fetch : {t u : Tag} {p : Port} → AtPort t p ≡ ByFetch u → ⊥
  port_no_fetch e = cc

  port_no_store : {t u : Tag} {p : Port} → AtPort t p ≡ ByStore u → ⊥
  port_no_store e = cc

  fetch_no_store : {t u : Tag} → ByFetch t ≡ ByStore u → ⊥
  fetch_no_store e = cc

  -- two events that send for one key are one
  one_sender : (s : World) (run : List Event) → Reach g S.inputs count s run → Few run → FiresOnce run → (e e' : Event)
      → Among e run → Among e' run → (x y : Payload)
      → Among x (sends_of g e) → Among y (sends_of g e') → key_of x ≡ key_of y → e ≡ e'
  one_sender s run r few once e e' among among' x y h k same =
      by (sent_so S g number numbered count s run r known (tell s run r (backed once)) e among x h)
      (sent_so S g number numbered count s run r known (tell s run r (backed once)) e' among' y k)
    where
      by : SentSo S number run e x → SentSo S number run e' y → e ≡ e'
      by (as_token a) (as_token b) = one_token s run r few once e e' x y a b same
      by (as_read a) (as_read b) = one_asker run once e e' x y a b same
      by (as_write a) (as_write b) = one_storer run once e e' x y a b same
      by (as_token a) (as_read b) = absurd (port_no_fetch (sym (ap key_of a.is) ∙ same ∙ ap key_of b.is))
      by (as_token a) (as_write b) = absurd (port_no_store (sym (ap key_of a.is) ∙ same ∙ ap key_of b.is))
      by (as_read a) (as_token b) = absurd (port_no_fetch (sym (ap key_of b.is) ∙ sym same ∙ ap key_of a.is))
      by (as_read a) (as_write b) = absurd (fetch_no_store (sym (ap key_of a.is) ∙ same ∙ ap key_of b.is))
      by (as_write a) (as_token b) = absurd (port_no_store (sym (ap key_of b.is) ∙ sym same ∙ ap key_of a.is))
      by (as_write a) (as_read b) = absurd (fetch_no_store (sym (ap key_of b.is) ∙ sym same ∙ ap key_of a.is))

  -- no event sends for a key of the start
  not_at_start : (s : World) (run : List Event) → Reach g S.inputs count s run → Few run → FiresOnce run → (e : Event)
      → Among e run → (x y : Payload) → Among x (sends_of g e) → Among y (starting g S.inputs) → key_of x ≡ key_of y → ⊥
  not_at_start s run r few once e among x y h start same =
      by (sent_so S g number numbered count s run r known (tell s run r (backed once)) e among x h)
    where
      b : Started S g number numbered known y
      b = started S g number numbered known y start

      of_token : CameBy S number run e x → ⊥
      of_token a =
          let keys : AtPort (tag_in a.activation (number a.row a.part)) a.port
          ≡ AtPort (tag_in main_activation (number b.row b.part)) b.port = sym
          (ap key_of a.is) ∙ same ∙ ap key_of b.is in
          let parts = one_part numbered a.is_part b.is_part (ap (λ (j : Key). (tag_of_key j).instr) keys) in
          let ports : a.port ≡ b.port = ap port_of_key keys in
          not_started S number run known (seats S known g number numbered run count s r) once
          (speak s run r (backed once))
          (stepping S g number numbered count s run r (tell s run r (backed once))) g numbered
          (contexts_apart g S.inputs count s run r)
          (replies_once s run r few) e a.activation a.row a.part a.port a.value b.value a.way
          (subst (λ (z : ℕ × (ℕ × Port)). StartsAt S number z.0 z.1.0 z.1.1 b.value) {x =
          (b.row, (b.part, b.port))} {y = (a.row, (a.part, a.port))}
          (λ i. (sym parts.0 i, (sym parts.1 i, sym ports i))) b.starts_at)
          (ap (λ (j : Key). activation_of (tag_of_key j)) keys)

      by : SentSo S number run e x → ⊥
      by (as_token a) = of_token a
      by (as_read a) = port_no_fetch (sym (ap key_of b.is) ∙ sym same ∙ ap key_of a.is)
      by (as_write a) = port_no_store (sym (ap key_of b.is) ∙ sym same ∙ ap key_of a.is)

  -- an `Enter` makes another context than its own
  elsewhere_by : (s : World) (run : List Event) → Reach g S.inputs count s run → FiresOnce run → (t : Tag) (c : Context)
      → FiresAs run t (Entered c) → c ≡ t.context → ⊥
  elsewhere_by s run r once t c o e =
      let h = has_fired g S.inputs count s run r o in
      let y = fired_part numbered h in
      let made = entered_by (op_by number y.form) t o.operands y.fresh c (sym y.is) in
      let row = is_enter S.checked number y.part y.row y.form made.block made.reply y.does made.is in
      let within = ((y.is_part).makes).within in
      let first : number y.row y.part ≡ number y.row 0 = ap (number y.row) row.first_part in
      let at : t ≡ tag_in (activation_of t) (number y.row 0) = sym y.at ∙ ap (tag_in (activation_of t)) first in
      let opened = subst (λ u. FiresAs run u (Entered c)) at o in
      let live =
      opening_live S known g number numbered run count s r (backed once) (activation_of t) y.row row.head row.end c
      within row.begins opened in
      let path = (live_path live).1 in
      let one = seats S known g number numbered run count s r in
      let lower = Below (path_at path.seat t.iteration) (place S.checked y.row) in
      seat_other path.seat t.iteration (place S.checked y.row)
      (one.one t.context path.seat lower path.of_context
      (subst (λ d. SeatOf S number run d lower) e (made_seat within row.begins opened path.of_context)))

  elsewhere : (s : World) (run : List Event) → Reach g S.inputs count s run → FiresOnce run → (e : Event) → Among e run
      → (c : Context) → Enters e c → c ≡ (tag_of (payload_of e)).context → ⊥
  elsewhere s run r once (Took n t p v Waits) among c entering same = absurd entering
  elsewhere s run r once (Took n t p v Blocked) among c entering same = absurd entering
  elsewhere s run r once (Looked n d t a) among c entering same = absurd entering
  elsewhere s run r once (Wrote n d v w a) among c entering same = absurd entering
  elsewhere s run r once (Took n t p v (Fires ops f)) among c entering same =
      elsewhere_by s run r once t c
      (subst (FiresAs run t) entering (record { element = n; port = p; value = v; operands = ops; among = among })) same

  -- so in any run one event alone, or the start alone, sends for each key
  pub exclusive : Exclusive g S.inputs count
  exclusive = record {
    first_port = first_port;
    sends_once =
        λ s run r few once e among k. sent_once g S.inputs count (differ_each S.checked g number numbered) s run r few e
        among k
        (elsewhere s run r once e among);
    starts_once = starts_once S g number numbered known;
    not_at_start = λ s run r few once e among x y h k. not_at_start s run r few once e among x y h k;
    one_sender = λ s run r few once e e' among among' x y h k. one_sender s run r few once e e' among among' x y h k;
  }
