-- What the instruction of an expression has sent under a tag brings a value that the expression Has at the tag's path.
use Rattle.std.proofs.Common.{◌≡◌, inr, ℕ, zero, suc, Bool as Truth, true, false, List, refl, sym, ◌∙◌, ap, subst, inl}
use Rattle.id_value.specs.List.{Among}
use Rattle.id_value.proofs.AmongLemmas.{Among-map, Among-from_map}
use Rattle.id_table.specs.declared.row.Node.{Node}
use Rattle.id_table.specs.declared.row.Node.TheVariants.{Literal, Unary, Binary, If, Program, Call, Head, LoopHead}
use Rattle.id_table.specs.declared.row.Node.TheVariants.{Turn, Next, Reset, Loop, Array, Fetch}
use Rattle.id_table.specs.Tables.{begins_block, is_expression}
use Rattle.id_check.specs.declared.checked.Checked.{Checked}
use Rattle.id_check.specs.Programs.{place, region}
use Rattle.id_instr.specs.declared.dests.Dest.{Dest}
use Rattle.id_instr.specs.declared.instr.Op.TheVariants as op
use Rattle.id_instr.specs.Graph.{Parts}
use Rattle.id_tag.specs.declared.Tag.{Tag}
use Rattle.id_tag.specs.declared.Value.{Value}
use Rattle.id_tag.specs.declared.Message.{Message}
use Rattle.id_tag.specs.declared.Cell.{Cell}
use Rattle.id_tag.specs.declared.Structure.{Structure}
use Rattle.id_tag.specs.declared.Payload.TheVariants.{Token}
use Rattle.id_instr.specs.declared.dests.Port.TheVariants.{Zero}
use Rattle.id_ops.specs.declared.Fired.{Fired}
use Rattle.id_ops.specs.declared.Fired.TheVariants.{Out, Side, Sent, Moved, Asked, Stored, Failed, Nothing, Entered}
use Rattle.id_core.specs.Events.{EventView, tag_of}
use Rattle.id_record.specs.Records.{dests_at, sent_by}
use Rattle.id_core.specs.Steps.{token_to}
use Rattle.id_core.specs.Machines.{World}
use Rattle.id_core.specs.Observed as shown
use Rattle.id_source.specs.declared.Path.{Path}
use Rattle.id_source.specs.declared.Site.{Site}
use Rattle.id_source.specs.declared.Fact.TheVariants.{Has}
use Rattle.id_source.specs.Sources.{Source}
use Rattle.id_source.specs.Rounds.{Holds}
use Rattle.id_build.specs.declared.arc.Form.{Form}
use Rattle.id_build.specs.Rows.{node, op_by}
use Rattle.id_build.specs.Schemas.{Makes, Numbered}
use Rattle.id_runs.specs.Activations.{Activation, activation_of, tag_in}
use Rattle.id_runs.specs.Cells.{at_once, by_fill}
use Rattle.id_runs.specs.Events.{Event, FiresAs, payload_of, sends_of}
use Rattle.id_runs.specs.Runs.{Reach}
use Rattle.id_runs.proofs.Asks.{asked_by, stored_by}
use Rattle.id_runs.proofs.Messages.{SentFrom, by_firing, by_answer, moving, sent_from}
use Rattle.id_runs.proofs.Serials.{structures_apart}
use Rattle.id_laws.specs.Laws.{Carries, events, giving_part, value_in}
use Rattle.id_laws.specs.Topics.{IsPart, ValueOf, Tells, Told, ToldRead, of_fetch, of_store, speaks_of, topic_of, wants}
use Rattle.id_laws.specs.Activations.{Begins, of_call, of_loop, of_arms, of_turns}
use Rattle.id_laws.proofs.Rows.Assumed.{IsKnown}
use Rattle.id_laws.proofs.Paths.Movers.{moved_by}
use Rattle.id_laws.proofs.Rows.Sources.{is_mover}
use Rattle.id_laws.proofs.Rows.Arcs.{sends_in, gives_back, varies, takes_in, moves_on, moves_name, advances, resets}
use Rattle.id_laws.proofs.Rows.Arcs.{gets_last, allocates, addresses, fetches, gets_reply, stores, part_of}
use Rattle.id_laws.proofs.Rows.Arcs.{Does, starts, returns, enters, constant, unary, binary, turns_on, hands, joins}
use Rattle.id_laws.proofs.Rows.Arcs.{names}
use Rattle.id_laws.proofs.Rows.Arcs.{bounds_meet, begins_index, carries, meets_bound, goes_further, hands_index}
use Rattle.id_laws.proofs.Rows.Arcs.{has_one, adds_one}
use Rattle.id_laws.proofs.Rows.Arcs.{answers, doing, place_shown, opens, passes, gets}
use Rattle.id_laws.proofs.Rows.Tokens.{one_part, told_at}
use Rattle.id_laws.proofs.Paths.Sendings.{is_fetch, is_store}
use Rattle.id_laws.proofs.Paths.Sites.{read_told, written_told}
use Rattle.id_laws.proofs.Soundness.Naming.{shown_holds, stands_shown}
use Rattle.id_laws.proofs.Paths.Senders.{sent_back}
use Rattle.id_laws.proofs.Telling.FiringMeans.{IsBacked, Means}
use Rattle.id_laws.proofs.Telling.AllTell.{FiredPart, firing_tells}
use Rattle.id_laws.proofs.Telling.StartTells.{all_tell, seats}
use Rattle.id_laws.proofs.Soundness.Observing.{handled_event}
use Rattle.id_laws.proofs.Paths.TagPaths.{path_shown}

true_false : true ≡ false → ⊥
true_false h = cc

-- an expression that makes an instruction speaks of its value by the part that gives it, and shows its place
pub record Expresses (P : Checked) (n part : ℕ) : Type 0 where
  pub topic : (b : Truth) → topic_of P (record { row = n; part = part; side = b }) ≡ ValueOf n
  pub shows : place_shown P (place P n) (node P n) ≡ place P n
  pub not_answer : node P n ≡ Program → ⊥
  pub gives : part ≡ giving_part (node P n)

expresses : (P : Checked) (n part : ℕ) (o : Form) → Does P n part o → is_expression (node P n) ≡ true
    → part ≡ giving_part (node P n) → Expresses P n part
expresses P n part o d e gives = go d gives
  where
    by : (j : ℕ) (m : Node) → node P n ≡ m → ((b : Truth) → speaks_of P n (region P n) m j b ≡ ValueOf n)
        → place_shown P (place P n) m ≡ place P n → j ≡ giving_part m
        → Expresses P n j
    by j m is t p x = record {
      gives = x ∙ ap giving_part (sym is);
      topic = λ b. ap (λ z. speaks_of P n (region P n) z j b) is ∙ t b;
      shows = ap (place_shown P (place P n)) is ∙ p;
      not_answer = λ z. let bad : false ≡ true = ap is_expression (sym z) ∙ e in cc;
    }

    no : {m : Node} {A : Type 0} → node P n ≡ m → is_expression m ≡ false → A
    no is f = let bad : true ≡ false = sym e ∙ ap is_expression is ∙ f in cc

    no_head : (m : Node) → begins_block m ≡ true → is_expression m ≡ true → ⊥
    no_head Head b x = true_false (sym x)
    no_head (LoopHead t) b x = true_false (sym x)
    no_head _ b x = true_false (sym b)

    other_part : {j k t i : ℕ} → node P n ≡ Fetch t i → j ≡ giving_part (node P n) → (j ≡ 2 → ⊥) → Expresses P n k
    other_part is h bad = absurd (bad (h ∙ ap giving_part is))

    go : {j : ℕ} {q : Form} → Does P n j q → j ≡ giving_part (node P n) → Expresses P n j
    go (starts is) h = absurd (no_head (node P n) is e)
    go (returns is) h = no is refl
    go (enters is) h = no is refl
    go (constant {c = c} is) h = by 0 (Literal c) is (λ b. refl) refl refl
    go (unary {o = u} {a = a} is) h = by 0 (Unary u a) is (λ b. refl) refl refl
    go (binary {o = u} {a = a} {b = b} is) h = by 0 (Binary u a b) is (λ b. refl) refl refl
    go (turns_on (of_arms is)) h = no is refl
    go (turns_on (of_turns is)) h = no is refl
    go (hands j (of_arms is) less) h = no is refl
    go (hands j (of_turns is) less) h = no is refl
    go (joins {s = s} {x = x} {y = y} is) h = by 0 (If s x y) is (λ b. refl) refl refl
    go (opens (of_call is)) h = no is refl
    go (opens (of_loop is)) h = no is refl
    go (passes is) h = no is refl
    go (gets {e = s} {c = c} is) h = by 0 (Call s c) is (λ b. refl) refl refl
    go (names is) h = no is refl
    go (sends_in j q is at) h = no is refl
    go (gives_back is) h = no is refl
    go (varies is) h = no is refl
    go (takes_in j is less) h = no is refl
    go (moves_on is) h = no is refl
    go (moves_name j is less) h = no is refl
    go (advances is) h = no is refl
    go (resets is) h = no is refl
    go (gets_last {h = i} {w = w} {l = l} is) h = by 0 (Loop i w l) is (λ b. refl) refl refl
    go (allocates {nested = nested} {a = a} {b = b} is) h = by 0 (Array nested a b) is (λ b. refl) refl refl
    go (addresses (of_fetch is)) h = other_part is h (λ z. cc)
    go (addresses (of_store is)) h = no is refl
    go (fetches is) h = other_part is h (λ z. cc)
    go (gets_reply {t = t} {i = i} is) h = by 2 (Fetch t i) is (λ b. refl) refl refl
    go (stores is) h = no is refl
    go (bounds_meet is) h = no is refl
    go (begins_index is) h = no is refl
    go (carries is) h = no is refl
    go (meets_bound is) h = no is refl
    go (goes_further is) h = no is refl
    go (hands_index is) h = no is refl
    go (has_one is) h = no is refl
    go (adds_one is) h = no is refl
    go (answers is) h = no is refl

-- an expression is no `back`, no `send` and no `enter`
no_back : (P : Checked) (number : ℕ → ℕ → ℕ) {n part : ℕ} {o : Form} {k : _} → Does P n part o
    → is_expression (node P n) ≡ true →
    op_by number o ≡ op.Back k → ⊥
no_back P number (starts is) e b = cc
no_back P number (returns is) e b = let bad : true ≡ false = sym e ∙ ap is_expression is in cc
no_back P number (enters is) e b = cc
no_back P number (constant is) e b = cc
no_back P number (unary is) e b = cc
no_back P number (binary is) e b = cc
no_back P number (turns_on is) e b = cc
no_back P number (hands j is less) e b = cc
no_back P number (joins is) e b = cc
no_back P number (opens is) e b = cc
no_back P number (passes is) e b = cc
no_back P number (gets is) e b = cc
no_back P number (names is) e b = cc
no_back P number (sends_in j q is at) e b = cc
no_back P number (gives_back is) e b = let bad : true ≡ false = sym e ∙ ap is_expression is in cc
no_back P number (varies is) e b = cc
no_back P number (takes_in j is less) e b = cc
no_back P number (moves_on is) e b = cc
no_back P number (moves_name j is less) e b = cc
no_back P number (advances is) e b = cc
no_back P number (resets is) e b = cc
no_back P number (gets_last is) e b = cc
no_back P number (allocates is) e b = cc
no_back P number (addresses is) e b = cc
no_back P number (fetches is) e b = cc
no_back P number (gets_reply is) e b = cc
no_back P number (stores is) e b = cc
no_back P number (bounds_meet is) e b = cc
no_back P number (begins_index is) e b = cc
no_back P number (carries is) e b = cc
no_back P number (meets_bound is) e b = cc
no_back P number (goes_further is) e b = cc
no_back P number (hands_index is) e b = cc
no_back P number (has_one is) e b = cc
no_back P number (adds_one is) e b = cc
no_back P number (answers is) e b = cc

no_send : (P : Checked) (number : ℕ → ℕ → ℕ) {n part : ℕ} {o : Form} {k : _} {m : ℕ} → Does P n part o
    → is_expression (node P n) ≡ true →
    op_by number o ≡ op.Send k m → ⊥
no_send P number (starts is) e b = cc
no_send P number (returns is) e b = cc
no_send P number (enters is) e b = cc
no_send P number (constant is) e b = cc
no_send P number (unary is) e b = cc
no_send P number (binary is) e b = cc
no_send P number (turns_on is) e b = cc
no_send P number (hands j is less) e b = cc
no_send P number (joins is) e b = cc
no_send P number (opens is) e b = cc
no_send P number (passes is) e b = let bad : true ≡ false = sym e ∙ ap is_expression is in cc
no_send P number (gets is) e b = cc
no_send P number (names is) e b = cc
no_send P number (sends_in j q is at) e b = let bad : true ≡ false = sym e ∙ ap is_expression is in cc
no_send P number (gives_back is) e b = cc
no_send P number (varies is) e b = cc
no_send P number (takes_in j is less) e b = cc
no_send P number (moves_on is) e b = cc
no_send P number (moves_name j is less) e b = cc
no_send P number (advances is) e b = cc
no_send P number (resets is) e b = cc
no_send P number (gets_last is) e b = cc
no_send P number (allocates is) e b = cc
no_send P number (addresses is) e b = cc
no_send P number (fetches is) e b = cc
no_send P number (gets_reply is) e b = cc
no_send P number (stores is) e b = cc
no_send P number (bounds_meet is) e b = cc
no_send P number (begins_index is) e b = cc
no_send P number (carries is) e b = cc
no_send P number (meets_bound is) e b = cc
no_send P number (goes_further is) e b = cc
no_send P number (hands_index is) e b = cc
no_send P number (has_one is) e b = cc
no_send P number (adds_one is) e b = cc
no_send P number (answers is) e b = cc

one_two : suc zero ≡ suc (suc zero) → ⊥
one_two e = cc

-- what begins a context, and what goes to another iteration, is none
begins_no_expression : {P : Checked} {n h q : ℕ} → Begins P n h q → is_expression (node P n) ≡ false
begins_no_expression (of_call is) = ap is_expression is
begins_no_expression (of_loop is) = ap is_expression is

mover_no_expression : (m : Node) → is_mover m ≡ true → is_expression m ≡ false
mover_no_expression Turn h = refl
mover_no_expression (Next x k o v) h = refl
mover_no_expression (Reset v) h = refl
mover_no_expression _ h = absurd (true_false (sym h))

module _ (S : Source) (known : IsKnown S.checked) (g : Parts) (number : ℕ → ℕ
    → ℕ) (numbered : Numbered S.checked g number) (count : ℕ) (s : World)
    (run : List Event) (r : Reach g S.inputs count s run) (backed : IsBacked S run) where
  abbrev P : Checked
  P = S.checked

  abbrev tag_path : Tag → Path
  tag_path = shown.path_in g s.elements

  abbrev name_of : Structure → Site
  name_of = shown.structure_in g s.elements

  -- a message that brings what the expression has
  brings : (n e : ℕ) (t : Tag) (v : Value) → Tells S number run (activation_of t) (ValueOf n) v → e ≡ place P n
      → (m : Message) → value_in name_of m.payload ≡ shown.source_value name_of v → Carries S name_of (tag_path t) e m
  brings n e t v here place_is m says =
      let w = here.1 in
      let path_is = path_shown S known g number numbered count s run r backed t w.path here.0 w.path_of in
      let stands = stands_shown S known g number numbered count s run r backed w.stands in
      record {
        value = w.value;
        brings = says ∙ stands;
        holds = subst (λ (z : Path × ℕ). Holds S (Has z.0 z.1 w.value)) (λ i. (sym path_is i, sym place_is i))
            (shown_holds S known g number numbered count s run r backed w stands);
      }

  -- a token that brings what an instruction of the expression has spoken
  brought_by : (n e k : ℕ) (t : Tag) (b : Truth) (v : Value) (row part : ℕ) → row ≡ n → Expresses P n k → e ≡ place P n
      → Tells S number run (activation_of t) (topic_of P (record { row = row; part = part; side = b })) v → part ≡ k
      → (m : Message) (d : Dest) → m.payload ≡ token_to t v d → Carries S name_of (tag_path t) e m
  brought_by n e k t b v row part at x place_is told first m d says =
      brings n e t v
      (subst (λ z. Tells S number run (activation_of t) z v)
      ((λ i. topic_of P (record { row = at i; part = first i; side = b })) ∙ x.topic b)
      told) place_is m (ap (value_in name_of) says)

  -- what an instruction of the expression sends
  carried_by : (n e k : ℕ) (t : Tag) (f : Fired) (z : FiresAs run t f) (y : FiredPart P g number t f z.operands)
      → y.row ≡ n → Expresses P n k → is_expression (node P n) ≡ true
      → e ≡ place P n
      → Means S number run (activation_of t) y.row y.part f → y.part ≡ k → (m : Message)
      → Among m.payload (sent_by g t f) → Carries S name_of (tag_path t) e m
  carried_by n e k t (Out v) z y row x expression place_is means part m out =
      let to = Among-from_map (token_to t v) m.payload (dests_at g t.instr true) out in
      brought_by n e k t true v y.row y.part row x place_is (means (λ z. x.not_answer (ap (node P) (sym row) ∙ z))
      (subst (λ u. FiresAs run u (Out v)) (sym y.at) z)) part m to.0 to.2
  carried_by n e k t (Side b v) z y row x expression place_is means part m out =
      let to = Among-from_map (token_to t v) m.payload (dests_at g t.instr b) out in
      brought_by n e k t b v y.row y.part row x place_is means part m to.0 to.2
  carried_by n e k t (Entered c) z y row x expression place_is means part m out =
      absurd (true_false (sym expression ∙ ap (λ z. is_expression (node P z)) (sym row)
      ∙ begins_no_expression means.begins))
  carried_by n e k t (Moved j v) z y row x expression place_is means part m out =
      absurd (true_false (sym expression ∙ ap (λ z. is_expression (node P z)) (sym row)
      ∙ mover_no_expression (node P y.row)
      (moved_by P number y.does t z.operands y.fresh (sym y.is))))
  carried_by n e k t (Sent u v) z y row x expression place_is means part m out =
      elim (sent_back (op_by number y.form) t z.operands y.fresh u v (sym y.is)) [
        | inl b ↦ absurd (no_back P number y.does (ap (λ z. is_expression (node P z)) row ∙ expression) b.back)
        | inr b ↦ absurd (no_send P number y.does (ap (λ z. is_expression (node P z)) row ∙ expression) b.send)
      ]
  carried_by n e k t (Asked c u) z y row x expression place_is means part m out =
      let is = asked_by (op_by number y.form) t z.operands y.fresh c u (sym y.is) in
      let fetch = is_fetch P number y.part y.row y.form u.instr y.does is.fetch in
      let two : giving_part (node P n) ≡ 2 = ap (λ q. giving_part (node P q)) (sym row) ∙ ap giving_part fetch.node in
      absurd (one_two (sym fetch.second ∙ part ∙ x.gives ∙ two))
  carried_by n e k t (Stored c v u) z y row x expression place_is means part m out =
      let is = stored_by (op_by number y.form) t z.operands y.fresh c v u (sym y.is) in
      let store = is_store P number y.part y.row y.form y.does is.store in
      absurd (true_false (sym expression ∙ ap (λ q. is_expression (node P q)) (sym row) ∙ ap is_expression store.node))
  carried_by n e k t (Failed j) z y row x expression place_is means part m out = absurd out
  carried_by n e k t Nothing z y row x expression place_is means part m out = absurd out

  pub sound_values : (n : ℕ) (f : Form) (e : ℕ) (v : EventView) (m : Message) → Makes P n (giving_part (node P n)) f e
      → is_expression (node P n) ≡ true → Among v (events s)
      → (tag_of v.message.payload).instr ≡ number n (giving_part (node P n)) → Among m v.outputs
      → Carries S name_of (tag_path (tag_of v.message.payload)) e m
  sound_values n f e v m makes expression among at out =
      let known_event = handled_event g S.inputs count s run r v among in
      let sends =
      subst (Among m.payload) (known_event.2).outputs (Among-map (λ (y : Message). y.payload) m v.outputs out) in
      by known_event.0 known_event.1 (ap tag_of (sym (known_event.2).payload)) sends
      (sent_from g run known_event.0 known_event.1 m.payload sends)
    where
      k : ℕ
      k = giving_part (node P n)

      here : IsPart P n k
      here = record { form = f; place = e; makes = makes }

      x : Expresses P n k
      x = expresses P n k f (doing makes).does expression refl

      place_is : e ≡ place P n
      place_is = (doing makes).place_is ∙ x.shows

      -- the row at the tag of the event
      row_is : {row part : ℕ} {a : Activation} {t : Tag} → IsPart P row part → t ≡ tag_in a (number row part)
          → t ≡ tag_of v.message.payload → (row ≡ n) × (part ≡ k)
      row_is is_part is same = one_part numbered is_part here (ap (λ (t : Tag). t.instr) (sym is ∙ same) ∙ at)

      of_firing : (t : Tag) (h : Fired) (z : FiresAs run t h) → t ≡ tag_of v.message.payload
          → Among m.payload (sent_by g t h) → Carries S name_of (tag_path (tag_of v.message.payload)) e m
      of_firing t h z tag_is goes =
          let told = firing_tells S known g number numbered run (seats S known g number numbered run count s r)
          (structures_apart g S.inputs count s run r) backed run r
          (λ x h. all_tell S known g number numbered run count s r backed x (inr h)) z in
          let y = told.0 in
          let one = row_is y.is_part (sym y.at) tag_is in
          subst (λ (t : Tag). Carries S name_of (tag_path t) e m) tag_is
          (carried_by n e k t h z y one.0 x expression place_is told.1 one.1 m goes)

      -- the answer to a read is that of the fetch for which it was read
      of_read : (c : Cell) (t : Tag) (w : Value) → ToldRead S number run c t → t ≡ tag_of v.message.payload
          → m.payload ≡ Token t Zero w → Told S number run (Token t Zero w)
          → Carries S name_of (tag_path (tag_of v.message.payload)) e m
      of_read c t w fetch tag_is says told =
          let part = part_of fetch.within (gets_reply fetch.node) in
          let one = row_is part fetch.is tag_is in
          let tells = told_at S g number run numbered fetch.activation fetch.row 2 Zero w part
          (subst (λ u. Told S number run (Token u Zero w)) fetch.is told) in
          let value : Tells S number run fetch.activation (ValueOf fetch.row) w = subst
          (λ q. Tells S number run fetch.activation (wants P fetch.row (region P fetch.row) q 2 Zero) w) fetch.node
          tells in
          let acts : fetch.activation ≡ activation_of t = ap activation_of (sym fetch.is) in
          subst (λ (t : Tag). Carries S name_of (tag_path t) e m) tag_is
          (brings n e t w
          (subst (λ (q : Activation × ℕ). Tells S number run q.0 (ValueOf q.1) w) (λ i. (acts i, one.0 i)) value)
          place_is m
          (ap (value_in name_of) says))

      told_on : (h : Event) → Among h run → Among m.payload (sends_of g h) → (t : Tag) (w : Value)
          → m.payload ≡ Token t Zero w → Told S number run (Token t Zero w)
      told_on h a goes t w says =
          subst (Told S number run) says (all_tell S known g number numbered run count s r backed m.payload
          (moving g S.inputs count s run r m.payload (inr (record { event = h; among = a; sends = goes }))))

      by : (h : Event) → Among h run → tag_of (payload_of h) ≡ tag_of v.message.payload → Among m.payload (sends_of g h)
          → SentFrom g run h m.payload → Carries S name_of (tag_path (tag_of v.message.payload)) e m
      by h a tag_is goes (by_firing t f z is out) = of_firing t f z (ap (λ q. tag_of (payload_of q)) is ∙ tag_is) out
      by h a tag_is goes (by_answer t w says (at_once j c among)) =
          of_read c t w
          (read_told S known g number numbered count s run r backed (record { element = j; among = among })) tag_is says
          (told_on h a goes t w says)
      by h a tag_is goes (by_answer t w says (by_fill j c u ts among there)) =
          let store =
          written_told S known g number numbered count s run r backed (record { element = j; among = among }) in
          let one = row_is (part_of store.within (stores store.node)) store.is tag_is in
          absurd (true_false (sym expression ∙ ap (λ q. is_expression (node P q)) (sym one.0)
          ∙ ap is_expression store.node))
