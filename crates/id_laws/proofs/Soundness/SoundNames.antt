-- What a run of a schemas' graph shows that binders Have, they Have, and it shows one value at most for each path and
-- place.
use Rattle.std.proofs.Common.{◌≡◌, inl, inr, ℕ, ◌≤◌, ◌<◌, Bool as Truth, true, false, cond, Option, Some, None, List}
use Rattle.std.proofs.Common.{[], ◌∷◌, length, map, option_map, refl, sym, ◌∙◌, ap}
use Rattle.std.proofs.Common.{◌+◌, ◌-◌, subst, arith}
use Rattle.std.specs.List.{filter_map, cons_option}
use Rattle.id_value.specs.List.{Among, AllDiffer}
use Rattle.id_value.proofs.AmongLemmas.{Among-map}
use Rattle.id_table.specs.declared.row.Node.{Node}
use Rattle.id_table.specs.declared.row.Node.TheVariants.{Param, Binding, Next, Variable, Carried, Index}
use Rattle.id_value.specs.declared.Kind.TheVariants as kinds
use Rattle.id_table.specs.Loops.{index_row}
use Rattle.id_table.specs.Tables.{HasNear, is_binder}
use Rattle.id_check.specs.declared.checked.Checked.{Checked}
use Rattle.id_check.specs.Programs.{place, region, rows}
use Rattle.id_check.specs.Scopes.{loops_between}
use Rattle.id_instr.specs.declared.dests.Port.{Port}
use Rattle.id_instr.specs.declared.dests.Port.TheVariants.{Zero, One}
use Rattle.id_instr.specs.Graph.{Parts}
use Rattle.id_tag.specs.declared.Tag.{Tag}
use Rattle.id_tag.specs.declared.Value.{Value}
use Rattle.id_tag.specs.declared.Payload.{Payload}
use Rattle.id_tag.specs.declared.Payload.TheVariants.{Token, Read, Write}
use Rattle.id_tag.specs.declared.Structure.{Structure}
use Rattle.id_core.specs.Events.{EventView}
use Rattle.id_core.specs.Machines.{World}
use Rattle.id_core.specs.Observed as shown
use Rattle.id_source.specs.declared.Path.{Path}
use Rattle.id_source.specs.declared.Site.{Site}
use Rattle.id_source.specs.declared.SourceValue.{SourceValue}
use Rattle.id_source.specs.declared.NameValue.{NameValue}
use Rattle.id_source.specs.declared.Fact.TheVariants.{Has}
use Rattle.id_source.specs.Sources.{Source}
use Rattle.id_source.specs.Facts.{binding_has, site}
use Rattle.id_source.specs.Rounds.{Holds}
use Rattle.id_source.specs.Names.{IsNameValue}
use Rattle.id_build.specs.Rows.{block, home, home_by, label, label_by, node}
use Rattle.id_build.specs.Schemas.{Numbered}
use Rattle.id_runs.specs.Activations.{Activation, tag_in}
use Rattle.id_runs.specs.Events.{Event}
use Rattle.id_runs.specs.Keys.{Key, AtPort, key_of}
use Rattle.id_runs.specs.Runs.{Reach, handled}
use Rattle.id_runs.specs.OneMessage.{count_for}
use Rattle.id_runs.proofs.Keys.{hit, hit_itself, counts, count_cons}
use Rattle.id_runs.proofs.RecordsOfRuns.{among_filter_map, told, told_once}
use Rattle.id_runs.proofs.Serials.{contexts_apart}
use Rattle.id_runs.specs.OneMessage.{Exclusive}
use Rattle.id_laws.specs.Laws.{events}
use Rattle.id_laws.specs.Activations.{Live, PathOf}
use Rattle.id_laws.specs.Topics.{NameIn, Shown, ShownIndex, Tells, Told, ToldToken, entry_wants, topic_at, wants}
use Rattle.id_laws.proofs.Rows.Assumed.{IsKnown}
use Rattle.id_laws.proofs.Telling.FiringMeans.{IsBacked}
use Rattle.id_laws.proofs.Rows.LoopRows.{variable_of_next}
use Rattle.id_desugar.specs.Ends.{next_of}
use Rattle.id_laws.proofs.Validity.HasKinds.{binder_thing}
use Rattle.id_laws.proofs.Labelling.LabelsShow.{label_place}
use Rattle.id_laws.proofs.Rows.Loops.{carried_stands, index_at, switches_same}
use Rattle.id_laws.proofs.Rows.Regions.{home_depth, index_loop}
use Rattle.id_laws.proofs.Telling.StartTells.{opening_live}
use Rattle.id_laws.proofs.Telling.TurnedOn.{holds_by}
use Rattle.id_laws.proofs.Rows.Start.{main_is_head, main_within}
use Rattle.id_laws.proofs.Labelling.LabelsBind.{label_binds}
use Rattle.id_laws.proofs.Paths.OneSender.{exclusive}
use Rattle.id_laws.proofs.Telling.StartTells.{all_tell, all_speak}
use Rattle.id_laws.proofs.Soundness.Observing.{message_handled}
use Rattle.id_laws.proofs.Soundness.Naming.{shown_holds}
use Rattle.id_laws.proofs.Paths.Opened.{main_first}
use Rattle.id_laws.proofs.Paths.Seats.{paths_apart}
use Rattle.id_laws.proofs.Paths.TagPaths.{path_shown}

-- a message that shows what a binder Has, where each tag has this path and each structure this name: a token for a
-- label
pub record Names (g : Parts) (path : Tag → Path) (name : Structure → Site) (x : Payload) (n : NameValue) : Type 0 where
  pub tag : Tag
  pub port : Port
  pub token : Value
  pub value : SourceValue
  pub is : x ≡ Token tag port token
  pub label : shown.is_label g tag.instr ≡ true
  pub brings : shown.source_value name token ≡ Some value
  pub shows : n ≡ record { path = path tag; place = shown.place_of g tag.instr; value = value }

names_is : (g : Parts) (path : Tag → Path) (name : Structure → Site) (x : Payload) (n : NameValue)
    → shown.name_in g path name x ≡ Some n → Names g path name x n
names_is g path name (Read c t) n e = cc
names_is g path name (Write c v t) n e = cc
names_is g path name (Token t p v) n e = go (shown.is_label g t.instr) (shown.source_value name v) refl refl e
  where
    go : (b : Truth) (o : Option SourceValue) → shown.is_label g t.instr ≡ b → shown.source_value name v ≡ o
        → cond b (shown.name_at g t.instr (path t) o) None ≡ Some n → Names g path name (Token t p v) n
    go false o f h e = cc
    go true None f h e = cc
    go true (Some u) f h e =
        record { tag = t; port = p; token = v; value = u; is = refl; label = f; brings = h; shows = cc }

token_parts : {t u : Tag} {p q : Port} {v w : Value} → Token t p v ≡ Token u q w → (t ≡ u) × ((p ≡ q) × (v ≡ w))
token_parts e = (cc, (cc, cc))

-- what events show differs, where two that show one thing handled messages of one key, and no key has two
pub shown_differ : {B : Type 0} (f : EventView → Option B) (vs : List EventView)
    → ((v w : EventView) (y : B) → Among v vs → Among w vs → f v ≡ Some y → f w ≡ Some y
    → key_of v.message.payload ≡ key_of w.message.payload) → ((k : Key) → count_for k (told vs) ≤ 1)
    → AllDiffer (filter_map f vs)
shown_differ f [] same few = tt
shown_differ {B} f (v ∷ vs) same few =
    go (f v) refl
    (shown_differ f vs (λ u w y h k. same u w y (inr h) (inr k))
    (λ k. omega (arith, few k, count_cons k v.message.payload (told vs))))
  where
    go : (o : Option B) → f v ≡ o → AllDiffer (filter_map f vs) → AllDiffer (cons_option o (filter_map f vs))
    go None e rest = rest
    go (Some y) e rest = (
      λ h. let t = among_filter_map f vs y h in
          let k = key_of v.message.payload in
          let first : hit k v.message.payload ≡ 1 = hit_itself k v.message.payload refl in
          let second =
          counts k (t.0).message.payload (told vs) (Among-map (λ (u : EventView). u.message.payload) t.0 vs t.1)
          (sym (same v t.0 y (inl refl) (inr t.1) e t.2)) in
          omega (arith, few k, count_cons k v.message.payload (told vs)),
      rest,
    )

-- what is named of a filtered list, at once
pub map_filter : {A B C : Type 0} (h : B → C) (f : A → Option B) (xs : List A)
    → map h (filter_map f xs) ≡ filter_map (λ x. option_map h (f x)) xs
map_filter h f [] = refl
map_filter {A} {B} {C} h f (x ∷ xs) = go (f x) (map_filter h f xs)
  where
    go : (o : Option B) → map h (filter_map f xs) ≡ filter_map (λ y. option_map h (f y)) xs
        → map h (cons_option o (filter_map f xs))
        ≡ cons_option (option_map h o) (filter_map (λ y. option_map h (f y)) xs)
    go None e = e
    go (Some y) e = ap (λ ys. h y ∷ ys) e

pub some_is : {A : Type 0} {x y : A} → Some x ≡ Some y → x ≡ y
some_is e = cc

-- what a mapped option gives comes of what the option gives
pub option_some : {A B : Type 0} (h : A → B) (o : Option A) (y : B) → option_map h o ≡ Some y
    → (x : A) × (o ≡ Some x) × (y ≡ h x)
option_some h None y e = cc
option_some h (Some x) y e = (x, refl, sym (some_is e))

true_false : true ≡ false → ⊥
true_false h = cc

module _ (S : Source) (known : IsKnown S.checked) (g : Parts) (number : ℕ → ℕ
    → ℕ) (numbered : Numbered S.checked g number) (count : ℕ) (s : World)
    (run : List Event) (r : Reach g S.inputs count s run) (backed : IsBacked S run) where
  abbrev P : Checked
  P = S.checked

  abbrev T : Activation → ℕ → Node → Port → Value → Type 0
  T a b m p v = Tells S number run a (wants P b (region P b) m 0 p) v

  abbrev tag_path : Tag → Path
  tag_path = shown.path_in g s.elements

  abbrev name_of : Structure → Site
  name_of = shown.structure_in g s.elements

  -- a token for a binder's label, at port 0, with what the binder Has at the activation's path
  record Label (b : ℕ) (a : Activation) (p : Port) (v : Value) : Type 0 where
    port : p ≡ Zero
    live : Live S number run a (region P (label P b))
    path : Path
    path_of : PathOf S number run a path
    has : (w : SourceValue) → shown.source_value name_of v ≡ Some w → Holds S (Has path (place P b) w)

  -- what is told of a name in the region of its label, where that is at home
  named_label : (b : ℕ) (a : Activation) (v : Value) → b < length (rows P) → is_binder (node P b) ≡ true
      → home P b ≡ label P b →
      Tells S number run a (NameIn (region P (label P b)) b) v
      → Label b a Zero v
  named_label b a v within binds same w =
      let none = ap (λ i. loops_between (rows P) (region P i).head b) (sym same) ∙ home_depth known within binds in
      let shown_at = subst (λ d. Shown S number run a d (place P b) v) none w.1 in
      record {
        port = refl;
        live = w.0;
        path = shown_at.path;
        path_of = shown_at.path_of;
        has = λ u e. shown_holds S known g number numbered count s run r backed
            shown_at e;
      }

  at_label : (b : ℕ) → b < length (rows P) → is_binder (node P b) ≡ true → (a : Activation) (p : Port) (v : Value)
      → T a (label P b) (node P (label P b)) p v → Label b a p v
  at_label b within binds a p v = by (node P b) refl p
    where
      own : (m : Node) → node P b ≡ m → label P b ≡ b → (q : Port) → T a (label P b) (node P (label P b)) q v
          → T a b m q v
      own m is same q w =
          subst (λ z. Tells S number run a (wants P b (region P b) z 0 q) v) is
          (subst (λ z. T a z (node P z) q v) same w)

      at_variable : (q : Port) → home P b ≡ label P b → T a (label P b) Variable q v → next_of P (label P b) ≡ b
          → Label b a q v
      at_variable Zero own_home w same =
          named_label b a v within binds own_home
          (subst (λ j. Tells S number run a (NameIn (region P (label P b)) j) v) same w)
      at_variable One own_home w same = absurd w

      -- the entry of an index has what that Has, where the loop goes on
      at_index : {x : ℕ} (q : Port) → node P b ≡ Index x → T a (block P b + 1) (Carried kinds.Int) q v → Label b a q v
      at_index Zero is w =
          let l = index_loop known within is in
          let h = block P b in
          let stand = carried_stands P known h l.0 l.1 (h + 1) (omega arith) (omega arith) in
          let first : h + 1 - (h + 1) ≡ 0 = omega arith in
          let shows : ShownIndex S number run a h v =
          subst (λ t. Tells S number run a t v) ((λ i. entry_wants (stand.0 i) (h + 1 - (stand.0 i + 1)))
          ∙ ap (entry_wants h) first) w in
          let same : label P b ≡ h + 1 = ap (label_by h b) is in
          let here : b ≡ index_row (l.0.the).switches = index_at known within is l.0 in
          let place_is = ap (place P) (ap index_row (switches_same P known h l.0) ∙ sym here) in
          record {
            port = refl;
            live = subst (Live S number run a) (sym (ap (region P) same ∙ stand.1)) shows.live;
            path = (shows.shown).path;
            path_of = (shows.shown).path_of;
            has = λ u e.
                subst (λ z. Holds S (Has (shows.shown).path z u)) place_is
                (shown_holds S known g number numbered count s run r backed shows.shown e);
          }
      at_index One is w = absurd w

      by : (m : Node) → node P b ≡ m → (q : Port) → T a (label P b) (node P (label P b)) q v → Label b a q v
      by (Param x k) is Zero w =
          let same = ap (label_by (block P b) b) is in
          named_label b a v within binds (ap (home_by (block P b) b) is ∙ sym same)
          (subst (λ z. Tells S number run a (NameIn (region P z) b) v) (sym same) (own (Param x k) is same Zero w))
      by (Param x k) is One w = absurd (own (Param x k) is (ap (label_by (block P b) b) is) One w)
      by (Binding x e) is Zero w =
          let same = ap (label_by (block P b) b) is in
          let u = own (Binding x e) is same Zero w in
          let live =
          subst (Live S number run a) ((known.table).part_stands b e within (subst (λ z. HasNear z e) (sym is) refl)).1
          u.0 in
          record {
            port = refl;
            live = subst (λ z. Live S number run a (region P z)) (sym same) live;
            path = (u.1).path;
            path_of = (u.1).path_of;
            has = λ z f. holds_by S _ _ (binding_has (record { within = within; node = is }))
                (shown_holds S known g number numbered count s run r backed u.1 f, tt);
          }
      by (Binding x e) is One w = absurd (own (Binding x e) is (ap (label_by (block P b) b) is) One w)
      by (Next x k o e) is q w =
          let z = variable_of_next P b x k o e within is in
          let here : label P b ≡ block P b + 1 + k = ap (label_by (block P b) b) is in
          at_variable q (ap (home_by (block P b) b) is ∙ sym here)
          (subst (λ y. T a (label P b) y q v) (ap (node P) here ∙ z.node) w)
          (ap (next_of P) here ∙ z.next)
      by (Index x) is q w =
          let l = index_loop known within is in
          let same : label P b ≡ block P b + 1 = ap (label_by (block P b) b) is in
          at_index q is
          (subst (λ (z : ℕ × Node). T a z.0 z.1 q v) {x = (label P b, node P (label P b))} {y =
          (block P b + 1, Carried kinds.Int)}
          (λ i. (same i, (ap (node P) same ∙ l.1.entry) i)) w)
      by _ is q w = absurd (true_false (sym binds ∙ ap is_binder is))

  -- what shows a name came to its binder's label, under an activation of its path
  record Came (n : NameValue) (x : Payload) : Type 0 where
    row : ℕ
    within : row < length (rows P)
    binds : is_binder (node P row) ≡ true
    place_is : n.place ≡ place P row
    activation : Activation
    live : Live S number run activation (region P (label P row))
    path_of : PathOf S number run activation n.path
    key : key_of x ≡ AtPort (tag_in activation (number (label P row) 0)) Zero
    has : Holds S (Has n.path (place P row) n.value)

  came_to : (n : NameValue) (x : Payload) → Among x (handled run) → shown.name_in g tag_path name_of x ≡ Some n
      → Came n x
  came_to n x among e =
      let y = names_is g tag_path name_of x n e in
      let z : ToldToken S number run (Token y.tag y.port y.token) = subst (Told S number run) y.is
      (all_tell S known g number numbered run count s r backed x (inr among)) in
      let parts = token_parts (sym z.is) in
      let tag_is : tag_in z.activation (number z.row z.part) ≡ y.tag = parts.0 in
      let port_is : z.port ≡ y.port = parts.1.0 in
      let token_is : z.value ≡ y.token = parts.1.1 in
      let instr_is : number z.row z.part ≡ (y.tag).instr = ap (λ (t : Tag). t.instr) tag_is in
      let found =
      label_binds P known g number numbered (main_is_head S g number numbered known)
      (main_within S g number numbered known) z.row z.part
      z.is_part (ap (shown.is_label g) instr_is ∙ y.label) in
      let b = found.binder in
      let tells =
      subst (λ (k : ℕ × ℕ). Tells S number run z.activation (topic_at P k.0 k.1 z.port) z.value) {x =
      (z.row, z.part)} {y = (label P b, 0)}
      (λ i. (sym found.is i, found.first i)) z.tells in
      let at = at_label b found.within found.binds z.activation z.port z.value tells in
      let shown_there : shown.place_of g (y.tag).instr ≡ place P b =
      ap (shown.place_of g) (sym instr_is ∙ (λ i. number (sym found.is i) (found.first i))) ∙
      label_place P known g number numbered b found.within found.binds in
      let value_is : n.value ≡ y.value = ap (λ (w : NameValue). w.value) y.shows in
      let path_is : n.path ≡ at.path =
      ap (λ (w : NameValue). w.path) y.shows
      ∙ ap tag_path (sym tag_is)
      ∙ path_shown S known g number numbered count s run r backed (tag_in z.activation (number z.row z.part)) at.path
      at.live at.path_of in
      record {
        row = b;
        within = found.within;
        binds = found.binds;
        place_is = ap (λ (w : NameValue). w.place) y.shows ∙ shown_there;
        activation = z.activation;
        live = at.live;
        path_of = subst (PathOf S number run z.activation) (sym path_is) at.path_of;
        key = ap key_of (y.is ∙ z.is)
            ∙ (λ i. AtPort (tag_in z.activation (number (sym found.is i) (found.first i))) (at.port i));
        has = subst (λ (w : Path × SourceValue). Holds S (Has w.0 (place P b) w.1))
            (λ i. (sym path_is i, sym value_is i))
            (at.has y.value (ap (shown.source_value name_of) token_is ∙ y.brings));
      }

  event_came : (n : NameValue) (v : EventView) → Among v (events s)
      → shown.name_in g tag_path name_of v.message.payload ≡ Some n → Came n v.message.payload
  event_came n v among e = came_to n v.message.payload (message_handled g S.inputs count s run r v among) e

  pub sound_names : (n : NameValue) → Among n (shown.names g s) → IsNameValue S n
  sound_names n among =
      let event =
      among_filter_map (λ (u : EventView). shown.name_in g tag_path name_of u.message.payload) (events s) n among in
      let x = event_came n event.0 event.1 event.2 in
      record {
        binder = record { row = x.row; within = x.within; binds = x.binds; here = sym x.place_is };
        holds = subst (λ e. Holds S (Has n.path e n.value)) (sym x.place_is) x.has;
      }

  abbrev only : Exclusive g S.inputs count
  only =
      exclusive S g number numbered known count (λ t hs q. all_tell S known g number numbered hs count t q)
      (λ t hs q. all_speak S known g number numbered hs count t q) backed.wholes

  -- where a name is shown
  abbrev site_of : NameValue → Site
  site_of n = site n.path n.place

  pub names_differ : AllDiffer (map site_of (shown.names g s))
  names_differ =
      subst AllDiffer
      (sym (map_filter site_of (λ (u : EventView). shown.name_in g tag_path name_of u.message.payload) (events s)))
      (shown_differ (λ (u : EventView). option_map site_of (shown.name_in g tag_path name_of u.message.payload))
      (events s) one
      (told_once g S.inputs count only s run r))
    where
      one : (v w : EventView) (y : Site) → Among v (events s) → Among w (events s) →
          option_map site_of (shown.name_in g tag_path name_of v.message.payload) ≡ Some y
          → option_map site_of (shown.name_in g tag_path name_of w.message.payload) ≡ Some y
          → key_of v.message.payload ≡ key_of w.message.payload
      one v w y h k e f =
          let a = option_some site_of (shown.name_in g tag_path name_of v.message.payload) y e in
          let b = option_some site_of (shown.name_in g tag_path name_of w.message.payload) y f in
          let x = event_came a.0 v h a.1 in
          let z = event_came b.0 w k b.1 in
          let paths : (a.0).path ≡ (b.0).path = ap (λ (q : Site). q.path) (sym a.2 ∙ b.2) in
          let places : (a.0).place ≡ (b.0).place = ap (λ (q : Site). q.place) (sym a.2 ∙ b.2) in
          let same : x.row ≡ z.row =
          (known.apart).apart x.row z.row x.within z.within (binder_thing (node P x.row) x.binds)
          (binder_thing (node P z.row) z.binds)
          (sym x.place_is ∙ places ∙ z.place_is) in
          let apart = contexts_apart g S.inputs count s run r in
          let under : x.activation ≡ z.activation =
          paths_apart S known g number numbered run apart backed.once
          (λ a m i q c within is o. main_first S known number run g numbered apart
          (opening_live S known g number numbered run count s r backed a m i q c within is o))
          x.path_of (subst (PathOf S number run z.activation) (sym paths) z.path_of)
          (main_first S known number run g numbered apart x.live)
          (main_first S known number run g numbered apart z.live) in
          x.key ∙ (λ i. AtPort (tag_in (under i) (number (label P (same i)) 0)) Zero) ∙ sym z.key
