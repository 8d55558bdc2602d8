-- The structures and cells that a run of a schemas' graph shows, and what its fetches ask for, are the source's, each
-- once.
use Rattle.std.proofs.Common.{◌≡◌, inl, inr, ℕ, ℤ, true, Option, Some, None, List, [], ◌∷◌, map, refl, sym, ◌∙◌, ap}
use Rattle.std.proofs.Common.{subst}
use Rattle.std.specs.Prelude.{option_map}
use Rattle.std.specs.List.{filter_map, cons_option}
use Rattle.id_value.specs.List.{Among, AllDiffer}
use Rattle.id_value.proofs.AmongLemmas.{Among-map, Among-from_map}
use Rattle.id_table.specs.declared.row.Node.TheVariants.{Array, Program}
use Rattle.id_check.specs.declared.checked.Checked.{Checked}
use Rattle.id_check.specs.Programs.{region}
use Rattle.id_instr.specs.declared.instr.Instr.{Instr}
use Rattle.id_instr.specs.declared.instr.Op.TheVariants as op
use Rattle.id_instr.specs.Graph.{Parts}
use Rattle.id_valid.specs.Roles.{op_at}
use Rattle.id_tag.specs.declared.Structure.{Structure}
use Rattle.id_tag.specs.declared.Tag.{Tag}
use Rattle.id_tag.specs.declared.Value.{Value}
use Rattle.id_tag.specs.declared.Value.TheVariants as value
use Rattle.id_tag.specs.declared.Payload.{Payload}
use Rattle.id_tag.specs.declared.Payload.TheVariants.{Token, Read, Write}
use Rattle.id_ops.specs.declared.Fired.TheVariants.{Out}
use Rattle.id_bank.specs.declared.cell.Filled.{Filled}
use Rattle.id_bank.specs.declared.cell.Reader.{Reader}
use Rattle.id_core.specs.Events.{EventView, tag_of}
use Rattle.id_core.specs.Machines.{World}
use Rattle.id_core.specs.Observed as shown
use Rattle.id_source.specs.declared.Path.{Path}
use Rattle.id_source.specs.declared.Site.{Site}
use Rattle.id_source.specs.declared.Shape.{Shape}
use Rattle.id_source.specs.declared.Put.{Put}
use Rattle.id_source.specs.declared.Ask.{Ask}
use Rattle.id_source.specs.declared.SourceValue.{SourceValue}
use Rattle.id_source.specs.declared.Fact.TheVariants as fact
use Rattle.id_source.specs.Facts.{shape}
use Rattle.id_source.specs.Sources.{Source}
use Rattle.id_source.specs.Rounds.{Holds}
use Rattle.id_build.specs.Rows.{op_by}
use Rattle.id_build.specs.Schemas.{Numbered}
use Rattle.id_observe.specs.Paths.{made}
use Rattle.id_observe.specs.Paths.{name_by}
use Rattle.id_runs.specs.Activations.{activation_of}
use Rattle.id_runs.specs.Cells.{cell_at}
use Rattle.id_runs.specs.Events.{Event, FiresAs, fired_event, payload_of}
use Rattle.id_runs.specs.Keys.{ByFetch, key_of}
use Rattle.id_runs.specs.Runs.{Reach, handled}
use Rattle.id_runs.proofs.Banks.{filled_differ, filled_held, filled_in, reader_held, readers_differ, readers_in}
use Rattle.id_runs.proofs.Cells.{cells_exact}
use Rattle.id_runs.proofs.CellLaws.{filled, waits_unfilled}
use Rattle.id_runs.proofs.Made.{MadeBy, made_shown, made_under}
use Rattle.id_runs.proofs.RecordsOfRuns.{among_filter_map, told_once}
use Rattle.id_runs.proofs.Serials.{structures_apart}
use Rattle.id_laws.specs.Laws.{events}
use Rattle.id_laws.specs.Topics.{Named, StandsFor, number_stands, truth_stands, name_stands, ToldRead, ToldWrite, Tells}
use Rattle.id_laws.specs.Topics.{ValueOf, speaks_of}
use Rattle.id_laws.proofs.Rows.Arcs.{doing}
use Rattle.id_laws.proofs.Rows.Assumed.{IsKnown}
use Rattle.id_laws.proofs.Telling.FiringMeans.{IsBacked}
use Rattle.id_laws.proofs.Telling.AllTell.{firing_tells}
use Rattle.id_laws.proofs.Soundness.Naming.{name_shown, stands_shown}
use Rattle.id_laws.proofs.Soundness.Observing.{message_handled}
use Rattle.id_laws.proofs.Paths.Sendings.{is_alloc}
use Rattle.id_laws.proofs.Paths.Sites.{ask_shown, few_handled, one_fetch, one_name, only, put_shown, read_told}
use Rattle.id_laws.proofs.Paths.Sites.{written_told}
use Rattle.id_laws.proofs.Soundness.SoundNames.{map_filter, option_some, shown_differ, some_is}
use Rattle.id_laws.proofs.Telling.StartTells.{all_tell, seats}

-- ---- lists

map_map : {A B C : Type 0} (h : B → C) (f : A → B) (xs : List A) → map h (map f xs) ≡ map (λ x. h (f x)) xs
map_map h f [] = refl
map_map h f (x ∷ xs) = ap (λ ys. h (f x) ∷ ys) (map_map h f xs)

-- where images are one only for one thing of the list, they differ as the things do
images_differ : {A B C : Type 0} (f : A → B) (h : A → C) (xs : List A)
    → ((x y : A) → Among x xs → Among y xs → f x ≡ f y → h x ≡ h y) → AllDiffer (map h xs)
    → AllDiffer (map f xs)
images_differ f h [] one differ = tt
images_differ f h (x ∷ xs) one differ = (
  λ a. let z = Among-from_map f (f x) xs a in
      differ.0 (subst (λ w. Among w (map h xs)) (sym (one x z.0 (inl refl) (inr z.1) z.2)) (Among-map h z.0 xs z.1)),
  images_differ f h xs (λ y z a b e. one y z (inr a) (inr b) e) differ.1,
)

-- a part of a list by its images
filter_differ : {A B C : Type 0} (f : A → Option B) (h : B → C) (k : A → C) (xs : List A)
    → ((x : A) (y : B) → f x ≡ Some y → h y ≡ k x) → AllDiffer (map k xs)
    → AllDiffer (map h (filter_map f xs))
filter_differ f h k [] same differ = tt
filter_differ {A} {B} {C} f h k (x ∷ xs) same differ = go (f x) refl (filter_differ f h k xs same differ.1)
  where
    go : (o : Option B) → f x ≡ o → AllDiffer (map h (filter_map f xs))
        → AllDiffer (map h (cons_option o (filter_map f xs)))
    go None e rest = rest
    go (Some y) e rest = (
      λ a.
          let z = Among-from_map h (h y) (filter_map f xs) a in
          let w = among_filter_map f xs z.0 z.1 in
          differ.0 (subst (λ c. Among c (map k xs)) (sym (same w.0 z.0 w.2) ∙ sym z.2 ∙ same x y e)
          (Among-map k w.0 xs w.1)),
      rest,
    )

array_no_program : {nested : _} {low high : ℕ} → Array nested low high ≡ Program → ⊥
array_no_program e = cc

-- what stands for a structure is its name
structure_named : {S : Source} {number : ℕ → ℕ → ℕ} {run : List Event} {v : Value} {w : SourceValue} {z : Structure}
    → StandsFor S number run v w → v ≡ value.Structure z
    → (x : Site) × Named S number run z x
structure_named (number_stands n) e = cc
structure_named (truth_stands b) e = cc
structure_named {S} {number} {run} {z = z} (name_stands y x named) e =
    let same : y ≡ z = cc in
    (x, subst (λ q. Named S number run q x) same named)

module _ (S : Source) (known : IsKnown S.checked) (g : Parts) (number : ℕ → ℕ
    → ℕ) (numbered : Numbered S.checked g number) (count : ℕ) (s : World)
    (run : List Event) (r : Reach g S.inputs count s run) (backed : IsBacked S run) where
  abbrev P : Checked
  P = S.checked

  abbrev tag_path : Tag → Path
  tag_path = shown.path_in g s.elements

  abbrev site_of : Tag → Site
  site_of = shown.site_at g tag_path

  abbrev name_of : Structure → Site
  name_of = shown.structure_in g s.elements

  -- ---- structures

  -- a structure that an `alloc` has made under the tag has a name, the site of that
  record Making (t : Tag) (z : Structure) : Type 0 where
    name : Site
    named : Named S number run z name
    site_is : site_of t ≡ name

  making : {t : Tag} {z : Structure} → FiresAs run t (Out (value.Structure z))
      → op_at g t.instr ≡ Some (op.Alloc z.nested) → Making t z
  making {t} {z} y at =
      let m = firing_tells S known g number numbered run (seats S known g number numbered run count s r)
      (structures_apart g S.inputs count s run r) backed run r
      (λ q h. all_tell S known g number numbered run count s r backed q (inr h)) y in
      let p = m.0 in
      let part = p.is_part in
      let k = numbered.made p.row p.part part.form part.place part.makes in
      let op_is : op_by number part.form ≡ op.Alloc z.nested =
      sym k.op ∙ some_is (sym (ap (option_map (λ (i : Instr). i.op)) k.at) ∙ ap (λ (u : Tag). op_at g u.instr) p.at
      ∙ at) in
      let row = is_alloc P number p.part p.row part.form (doing part.makes).does op_is in
      let tells =
      m.1 (λ e. array_no_program (sym row.node ∙ e))
      (subst (λ u. FiresAs run u (Out (value.Structure z))) (sym p.at) y) in
      let told : Tells S number run (activation_of t) (ValueOf p.row) (value.Structure z) =
      subst (λ q. Tells S number run (activation_of t) (speaks_of P p.row (region P p.row) q p.part true)
      (value.Structure z)) row.node tells in
      let x = structure_named (told.1).stands refl in
      record {
        name = x.0;
        named = x.1;
        site_is =
            sym (ap (name_by g tag_path) (made_under g S.inputs count s run r y at))
            ∙ name_shown S known g number numbered count s run r backed z x.0 x.1;
      }

  -- what an event shows of a structure that it made
  record Shaped (v : EventView) (x : Shape) : Type 0 where
    structure : Structure
    by : MadeBy g S.inputs count s run r v structure
    making_is : Making by.tag structure
    is : x ≡ record { name = site_of (tag_of v.message.payload); low = structure.low; high = structure.high }
    name_is : x.name ≡ making_is.name

  shaped : (v : EventView) (x : Shape) → Among v (events s) → shown.shape_of g tag_path v ≡ Some x → Shaped v x
  shaped v x among e =
      let o = option_some (λ (z : Structure). record {
        name = site_of (tag_of v.message.payload);
        low = z.low;
        high =
            z.high;
      }) (made g v) x e in
      let m = made_shown g S.inputs count s run r v among o.0 o.1 in
      let n = making m.fires m.alloc in
      record {
        structure = o.0;
        by = m;
        making_is = n;
        is = o.2;
        name_is =
            ap (λ (y : Shape). y.name) o.2 ∙ ap site_of m.at ∙ n.site_is;
      }

  pub sound_structures : (x : Shape) → Among x (shown.structures g s) → Holds S (fact.Shape x)
  sound_structures x among =
      let event = among_filter_map (shown.shape_of g tag_path) (events s) x among in
      let y = shaped event.0 x event.1 event.2 in
      let low_is = ap (λ (z : Shape). z.low) y.is in
      let high_is = ap (λ (z : Shape). z.high) y.is in
      subst (λ (z : Site × (ℤ × ℤ)). Holds S (shape z.0 z.1.0 z.1.1)) {x =
      ((y.making_is).name, ((y.structure).low, (y.structure).high))}
      {y = (x.name, (x.low, x.high))}
      (λ i. (sym y.name_is i, (sym low_is i, sym high_is i))) ((y.making_is).named).holds

  pub structures_differ : AllDiffer (map (λ (x : Shape). x.name) (shown.structures g s))
  structures_differ =
      subst AllDiffer (sym (map_filter (λ (x : Shape). x.name) (shown.shape_of g tag_path) (events s)))
      (shown_differ (λ v. option_map (λ (x : Shape). x.name) (shown.shape_of g tag_path v)) (events s) one
      (told_once g S.inputs count (only S known g number numbered count s run r backed) s run r))
    where
      one : (v w : EventView) (y : Site) → Among v (events s) → Among w (events s)
          → option_map (λ (x : Shape). x.name) (shown.shape_of g tag_path v) ≡ Some y
          → option_map (λ (x : Shape). x.name) (shown.shape_of g tag_path w) ≡ Some y
          → key_of v.message.payload ≡ key_of w.message.payload
      one v w y h k e f =
          let a = option_some (λ (x : Shape). x.name) (shown.shape_of g tag_path v) y e in
          let b = option_some (λ (x : Shape). x.name) (shown.shape_of g tag_path w) y f in
          let p = shaped v a.0 h a.1 in
          let q = shaped w b.0 k b.1 in
          let same =
          one_name S known g number numbered count s run r backed (p.making_is).named (q.making_is).named (sym p.name_is
          ∙ sym a.2 ∙ b.2 ∙ q.name_is) in
          let event : fired_event (p.by).fires ≡ fired_event (q.by).fires =
          structures_apart g S.inputs count s run r _ _ ((p.by).fires).among ((q.by).fires).among p.structure
          q.structure ((p.by).alloc, refl)
          ((q.by).alloc, refl)
          (ap (λ (z : Structure). z.element) same) (ap (λ (z : Structure). z.serial) same) in
          ap key_of ((p.by).shows).payload ∙ ap (λ z. key_of (payload_of z)) event
          ∙ sym (ap key_of ((q.by).shows).payload)

  -- ---- cells

  -- what a bank lists was written
  written : (f : Filled) → Among f (filled_in s) → ToldWrite S number run f.cell f.value f.origin
  written f h =
      let z = filled run (cell_at count s) (cells_exact g S.inputs count s run r) f.cell f.value f.origin
      (filled_held g S.inputs count s run r f h) in
      written_told S known g number numbered count s run r backed z.1

  abbrev as_put : Filled → SourceValue → Put
  as_put f v = record { name = name_of (f.cell).structure; index = (f.cell).index; value = v; store = site_of f.origin }

  pub sound_cells : (x : Put) → Among x (shown.cells g s) → Holds S (fact.Put x)
  sound_cells x among =
      let f = among_filter_map (shown.put_of g tag_path name_of) (filled_in s) x among in
      let o = option_some (as_put f.0) (shown.source_value name_of (f.0).value) x f.2 in
      let told = written f.0 f.1 in
      let value_is : told.value ≡ o.0 =
      some_is (sym (stands_shown S known g number numbered count s run r backed told.stands) ∙ o.1) in
      subst (λ y. Holds S (fact.Put y)) (ap (as_put f.0) value_is ∙ sym o.2)
      (put_shown S known g number numbered count s run r backed told)

  abbrev place_of_cell : Filled → Site × ℤ
  place_of_cell f = (name_of (f.cell).structure, (f.cell).index)

  pub cells_differ : AllDiffer {A = Site × ℤ} (map (λ (x : Put). (x.name, x.index)) (shown.cells g s))
  cells_differ =
      filter_differ (shown.put_of g tag_path name_of) (λ (x : Put). (x.name, x.index)) place_of_cell (filled_in s)
      (λ f y e. ap (λ (x : Put). (x.name, x.index)) (option_some (as_put f) (shown.source_value name_of f.value) y e).2)
      (images_differ place_of_cell (λ (f : Filled). f.cell) (filled_in s) one (filled_differ g S.inputs count s run r))
    where
      one : (f h : Filled) → Among f (filled_in s) → Among h (filled_in s) → place_of_cell f ≡ place_of_cell h
          → f.cell ≡ h.cell
      one f h a b e =
          let x = written f a in
          let y = written h b in
          let named = name_shown S known g number numbered count s run r backed in
          let same = one_name S known g number numbered count s run r backed x.named y.named
          (sym (named _ x.name x.named) ∙ ap (λ (z : Site × ℤ). z.0) e ∙ named _ y.name y.named) in
          let index = ap (λ (z : Site × ℤ). z.1) e in
          (λ i. record { structure = same i; index = index i })

  -- ---- what fetches ask for

  abbrev as_ask : Reader → Ask
  as_ask = shown.ask_of g tag_path name_of

  reader_is : (x : Payload) (y : Reader) → shown.reader_in x ≡ Some y → x ≡ Read y.cell y.reply
  reader_is (Token t p v) y e = cc
  reader_is (Read c t) y e = ap (λ (z : Reader). Read z.cell z.reply) (some_is e)
  reader_is (Write c v t) y e = cc

  asked : (v : EventView) (y : Reader) → Among v (events s) → shown.reader_in v.message.payload ≡ Some y
      → ToldRead S number run y.cell y.reply
  asked v y among e =
      let h = subst (λ x. Among x (handled run)) (reader_is v.message.payload y e)
      (message_handled g S.inputs count s run r v among) in
      all_tell S known g number numbered run count s r backed (Read y.cell y.reply) (inr h)

  pub sound_asks : (x : Ask) → Among x (shown.asks g s) → Holds S (fact.Ask x)
  sound_asks x among =
      let y = Among-from_map as_ask x (filter_map (λ (u : EventView). shown.reader_in u.message.payload) (events s))
      among in
      let event = among_filter_map (λ (u : EventView). shown.reader_in u.message.payload) (events s) y.0 y.1 in
      subst (λ z. Holds S (fact.Ask z)) (sym y.2)
      (ask_shown S known g number numbered count s run r backed (asked event.0 y.0 event.1 event.2))

  pub asks_differ : AllDiffer (map (λ (x : Ask). x.fetch) (shown.asks g s))
  asks_differ =
      subst AllDiffer
      (sym (map_map (λ (x : Ask). x.fetch) as_ask
      (filter_map (λ (u : EventView). shown.reader_in u.message.payload) (events s))
      ∙ map_filter (λ (y : Reader). site_of y.reply) (λ (u : EventView). shown.reader_in u.message.payload) (events s)))
      (shown_differ (λ v. option_map (λ (y : Reader). site_of y.reply) (shown.reader_in v.message.payload)) (events s)
      one
      (told_once g S.inputs count (only S known g number numbered count s run r backed) s run r))
    where
      one : (v w : EventView) (y : Site) → Among v (events s) → Among w (events s)
          → option_map (λ (z : Reader). site_of z.reply) (shown.reader_in v.message.payload) ≡ Some y
          → option_map (λ (z : Reader). site_of z.reply) (shown.reader_in w.message.payload) ≡ Some y
          → key_of v.message.payload ≡ key_of w.message.payload
      one v w y h k e f =
          let a = option_some (λ (z : Reader). site_of z.reply) (shown.reader_in v.message.payload) y e in
          let b = option_some (λ (z : Reader). site_of z.reply) (shown.reader_in w.message.payload) y f in
          let same =
          one_fetch S known g number numbered count s run r backed (asked v a.0 h a.1) (asked w b.0 k b.1) (sym a.2
          ∙ b.2) in
          ap key_of (reader_is v.message.payload a.0 a.1) ∙ ap ByFetch same
          ∙ sym (ap key_of (reader_is w.message.payload b.0 b.1))

  -- what waits was asked for
  waits : (y : Reader) → Among y (readers_in s) → ToldRead S number run y.cell y.reply
  waits y h =
      let z = reader_held g S.inputs count s run r y h in
      read_told S known g number numbered count s run r backed (waits_unfilled run (cell_at count s)
      (cells_exact g S.inputs count s run r) y.cell y.reply z.0 z.1 z.2).0

  pub sound_waiting : (x : Ask) → Among x (shown.waiting g s) → Holds S (fact.Ask x)
  sound_waiting x among =
      let y = Among-from_map as_ask x (readers_in s) among in
      subst (λ z. Holds S (fact.Ask z)) (sym y.2)
      (ask_shown S known g number numbered count s run r backed (waits y.0 y.1))

  pub waiting_differ : AllDiffer (map (λ (x : Ask). x.fetch) (shown.waiting g s))
  waiting_differ =
      subst AllDiffer (sym (map_map (λ (x : Ask). x.fetch) as_ask (readers_in s)))
      (images_differ (λ (y : Reader). site_of y.reply) (λ (y : Reader). y.reply) (readers_in s)
      (λ y z a b e. one_fetch S known g number numbered count s run r backed (waits y a) (waits z b) e)
      (readers_differ g S.inputs count s run r (few_handled S known g number numbered count s run r backed)))
