-- A quiet run of a schemas' graph has shown each structure, each cell and each fetch of the source, and which of them
-- wait.
use Rattle.std.proofs.Common.{◌≡◌, inl, inr, ℕ, ℤ, Bool, true, false, cond, Option, Some, List, [], ◌∷◌, refl, sym, ◌∙◌}
use Rattle.std.proofs.Common.{ap, subst, arith}
use Rattle.std.specs.Prelude.{option_map}
use Rattle.std.specs.List.{filter_map}
use Rattle.id_value.specs.List.{Among}
use Rattle.id_value.proofs.AmongLemmas.{Among-map, Among-from_map}
use Rattle.id_table.specs.Tables.{is_next}
use Rattle.id_check.specs.declared.checked.Checked.{Checked}
use Rattle.id_check.specs.Programs.{place, region}
use Rattle.id_instr.specs.Graph.{Parts}
use Rattle.id_tag.specs.declared.Cell.{Cell}
use Rattle.id_tag.specs.declared.Structure.{Structure}
use Rattle.id_tag.specs.declared.Tag.{Tag}
use Rattle.id_tag.specs.declared.Value.{Value}
use Rattle.id_tag.specs.declared.Payload.TheVariants.{Write}
use Rattle.id_tag.specs.Tags.{same_tag}
use Rattle.id_bank.specs.declared.cell.WriteAnswer.TheVariants.{Readers, Second}
use Rattle.id_bank.specs.Cells.{CellState}
use Rattle.id_bank.specs.declared.cell.Reader.{Reader}
use Rattle.id_record.specs.declared.step.Step.TheVariants.{Went}
use Rattle.id_record.specs.declared.step.Verdict.TheVariants as verdict
use Rattle.id_record.specs.Events.{full_step}
use Rattle.id_core.specs.Events.{EventView, tag_of}
use Rattle.id_core.specs.Machines.{World, IsQuiet}
use Rattle.id_core.specs.Observed as shown
use Rattle.id_source.specs.declared.Path.{Path}
use Rattle.id_source.specs.declared.PathStep.{PathStep}
use Rattle.id_source.specs.declared.Site.{Site}
use Rattle.id_source.specs.declared.Shape.{Shape}
use Rattle.id_source.specs.declared.Put.{Put}
use Rattle.id_source.specs.declared.Ask.{Ask}
use Rattle.id_laws.proofs.Telling.Wholes.{AreWhole, wholes}
use Rattle.id_source.specs.declared.SourceValue.{SourceValue}
use Rattle.id_source.specs.declared.Fact.{Fact}
use Rattle.id_source.specs.declared.Fact.TheVariants as fact
use Rattle.id_source.specs.Facts.{put}
use Rattle.id_source.specs.Orders.{SiteBefore, StepBefore, StepsBefore}
use Rattle.id_source.specs.Sources.{Source, AreInputs}
use Rattle.id_source.specs.Rounds.{Holds, IsWaiting}
use Rattle.id_build.specs.Rows.{node}
use Rattle.id_build.specs.Schemas.{Numbered}
use Rattle.id_observe.specs.Paths.{name_by}
use Rattle.id_runs.specs.Activations.{tag_in}
use Rattle.id_runs.specs.Cells.{WrittenBy, cell_at}
use Rattle.id_runs.specs.Events.{Event, Looked, Wrote}
use Rattle.id_runs.specs.OneMessage.{Exclusive}
use Rattle.id_runs.specs.Runs.{Reach}
use Rattle.id_runs.proofs.Banks.{filled_in, held_filled, held_reader, reader_held, readers_in}
use Rattle.id_runs.proofs.Cells.{cells_exact}
use Rattle.id_runs.proofs.CellLaws.{fills, one_fill, reads, same_write, waits_unfilled, writes}
use Rattle.id_runs.proofs.Made.{made_under, shown_made}
use Rattle.id_runs.proofs.RecordsOfRuns.{among_events, filter_map_has, quiet_went, to_record}
use Rattle.id_laws.specs.Laws.{events}
use Rattle.id_laws.specs.Activations.{Live}
use Rattle.id_laws.specs.Carried.{Carried, CarriedAsk, CarriedPut, CarriedShape, Here}
use Rattle.id_laws.specs.Topics.{IsPart, Named}
use Rattle.id_laws.proofs.Rows.Arcs.{gets_reply, part_of, place_shown, stores}
use Rattle.id_laws.proofs.Rows.Assumed.{IsKnown}
use Rattle.id_laws.proofs.Telling.FiringMeans.{IsBacked}
use Rattle.id_runs.proofs.OneMessage.{fired_once}
use Rattle.id_laws.proofs.Completeness.CarriedFacts.{carried}
use Rattle.id_laws.proofs.Completeness.CarriedValues.{home_plain}
use Rattle.id_laws.proofs.Completeness.Firings.{IsSettled}
use Rattle.id_laws.proofs.Soundness.Naming.{array_op, name_shown, site_shown, stands_shown}
use Rattle.id_laws.proofs.Paths.Sites.{one_name, put_shown, read_told, written_told}
use Rattle.id_laws.proofs.Soundness.SoundCells.{sound_waiting}

-- a write that found another came to no good
found_bad : (c : Cell) (v : Value) (w x : Tag) (b : Bool)
    → full_step (Write c v w) (cond b verdict.Stuck (verdict.Second x)) ≡ Went → ⊥
found_bad c v w x true e = cc
found_bad c v w x false e = cc

-- a site does not come before itself
step_itself : (t : PathStep) → StepBefore t t → ⊥
step_itself t (inl h) = omega (arith, h)
step_itself t (inr h) = omega (arith, h.1)

steps_itself : (ss : List PathStep) → StepsBefore ss ss → ⊥
steps_itself [] h = h
steps_itself (t ∷ ss) (inl h) = step_itself t h
steps_itself (t ∷ ss) (inr h) = steps_itself ss h.1

before_itself : (a : Site) → SiteBefore a a → ⊥
before_itself a (inl h) = steps_itself a.path.steps h
before_itself a (inr h) = omega (arith, h.1)

module _ (S : Source) (g : Parts) (number : ℕ → ℕ
    → ℕ) (numbered : Numbered S.checked g number) (known : IsKnown S.checked)
    (inputs : AreInputs S.checked S.inputs)
    (are : AreWhole S)
    (count : ℕ) (only : Exclusive g S.inputs count) (s : World) (run : List Event) (r : Reach g S.inputs count s run)
    (quiet : IsQuiet s) where
  abbrev P : Checked
  P = S.checked

  abbrev tag_path : Tag → Path
  tag_path = shown.path_in g s.elements

  abbrev site_of : Tag → Site
  site_of = shown.site_at g tag_path

  abbrev name_of : Structure → Site
  name_of = shown.structure_in g s.elements

  abbrev cell : Cell → Option CellState
  cell = cell_at count s

  -- so its facts are carried
  settled : IsSettled S s
  settled = record { empty = quiet.empty; wholes = wholes S are }

  backed : IsBacked S run
  backed = record { once = fired_once g S.inputs count only s run r; wholes = λ p e i. wholes S are }

  -- no write has found another
  pub none_found : (c : Cell) (v : Value) (w x : Tag) → WrittenBy run c v w (Second x) → ⊥
  none_found c v w x y =
      found_bad c v w x (same_tag x w)
      (quiet_went g S.inputs count s run r quiet (Wrote y.element c v w (Second x)) y.among)

  carries : (f : Fact) → Holds S f → Carried S number run f
  carries f h = carried S g number numbered known inputs count only s run r settled none_found f h

  named_as : (z : Structure) (x : Site) → Named S number run z x → name_of z ≡ x
  named_as = name_shown S known g number numbered count s run r backed

  -- where a part of what is here stands
  site_here : {x : Site} (h : Here S number run x.path x.place) (part : ℕ) → IsPart P h.row part
      → is_next (node P h.row) ≡ false → place_shown P (place P h.row) (node P h.row) ≡ place P h.row
      → site_of (tag_in h.activation (number h.row part)) ≡ x
  site_here {x} h part is_part plain shows =
      let live =
      subst (λ n. Live S number run h.activation (region P n)) (home_plain P h.row (node P h.row) refl plain) h.live in
      site_shown S known g number numbered count s run r backed h.activation h.row part x.path is_part live h.path_of
      ∙ (λ i. record { path = x.path; place = (shows ∙ sym h.place) i })

  -- ---- structures

  pub structures_shown : (x : Shape) → Holds S (fact.Shape x) → Among x (shown.structures g s)
  structures_shown x holds =
      let c : CarriedShape S number run x.name x.low x.high = carries (fact.Shape x) holds in
      let n = c.named in
      let alloc = array_op S known g number numbered count s run r backed n.within n.node in
      let m = shown_made g S.inputs count s run r n.made alloc in
      let at : site_of (tag_of (m.0).message.payload) ≡ x.name =
      ap site_of m.3 ∙ sym (ap (name_by g tag_path) (made_under g S.inputs count s run r n.made alloc))
      ∙ named_as c.structure x.name n in
      filter_map_has (shown.shape_of g tag_path) (events s) m.0 x m.1
      (ap (option_map (λ (z : Structure). record {
        name = site_of (tag_of (m.0).message.payload);
        low = z.low;
        high =
            z.high;
      })) m.2
      ∙ (λ i. Some (record { name = at i; low = sym c.low i; high = sym c.high i })))

  -- ---- cells

  -- what is put was written, and filled its cell
  put_written : {x y : Site} {j : ℤ} {v : SourceValue} (c : CarriedPut S number run x j v y)
      → (ts : List Tag)
      × WrittenBy run (record { structure = c.structure; index = j }) c.value
      (tag_in (c.here).activation (number (c.here).row 0))
      (Readers ts)
  put_written {j = j} c =
      let k : Cell = record { structure = c.structure; index = j } in
      let w = tag_in (c.here).activation (number (c.here).row 0) in
      elim (writes run cell (cells_exact g S.inputs count s run r) k c.value w c.answer c.written) [
        | inl z ↦ (z.0, z.2)
        | inr z ↦ absurd (none_found k c.value w z.0 (subst (WrittenBy run k c.value w) z.2 c.written))
      ]

  store_here : {x y : Site} {j : ℤ} {v : SourceValue} (c : CarriedPut S number run x j v y)
      → site_of (tag_in (c.here).activation (number (c.here).row 0)) ≡ y
  store_here c =
      site_here c.here 0 (part_of (c.here).within (stores c.node)) (ap is_next c.node)
      (ap (place_shown P (place P (c.here).row)) c.node)

  pub cells_shown : (x : Put) → Holds S (fact.Put x) → Among x (shown.cells g s)
  cells_shown x holds =
      let c : CarriedPut S number run x.name x.index x.value x.store = carries (fact.Put x) holds in
      let k : Cell = record { structure = c.structure; index = x.index } in
      let w = tag_in (c.here).activation (number (c.here).row 0) in
      let y = put_written c in
      let held = fills run cell (cells_exact g S.inputs count s run r) k c.value w y.0 y.1 in
      let named = named_as c.structure x.name c.named in
      filter_map_has (shown.put_of g tag_path name_of) (filled_in s) _ x
      (held_filled g S.inputs count s run r k c.value w held)
      (ap (option_map (λ (u : SourceValue). record {
        name = name_of c.structure;
        index = x.index;
        value = u;
        store =
            site_of w;
      }))
      (stands_shown S known g number numbered count s run r backed c.stands)
      ∙ (λ i. Some (record { name = named i; index = x.index; value = x.value; store = store_here c i })))

  -- two stores do not put into one cell
  pub no_second : {x a b : Site} {j : ℤ} {v w : SourceValue} → SiteBefore a b → Holds S (put x j v a)
      → Holds S (put x j w b) → ⊥
  no_second {x} {a} {b} {j} {v} {w} before first second =
      let c : CarriedPut S number run x j v a = carries (put x j v a) first in
      let d : CarriedPut S number run x j w b = carries (put x j w b) second in
      let same = one_name S known g number numbered count s run r backed d.named c.named refl in
      let y = put_written c in
      let z = put_written d in
      let z' = subst
      (λ (q : Structure). WrittenBy run (record { structure = q; index = j }) d.value
      (tag_in (d.here).activation (number (d.here).row 0))
      (Readers z.0)) same z.1 in
      let event = one_fill run cell (cells_exact g S.inputs count s run r) _ c.value d.value _ _ y.0 z.0 y.1 z' in
      let tags = (same_write event).1.0 in
      before_itself b (subst (λ q. SiteBefore q b) (sym (store_here c) ∙ ap site_of tags ∙ store_here d) before)

  -- ---- what fetches ask for

  abbrev as_ask : Reader → Ask
  as_ask = shown.ask_of g tag_path name_of

  fetch_here : {x y : Site} {j : ℤ} (c : CarriedAsk S number run y x j)
      → site_of (tag_in (c.here).activation (number (c.here).row 2)) ≡ y
  fetch_here c =
      site_here c.here 2 (part_of (c.here).within (gets_reply c.node)) (ap is_next c.node)
      (ap (place_shown P (place P (c.here).row)) c.node)

  asks_as : (x : Ask) (c : CarriedAsk S number run x.fetch x.name x.index)
      → as_ask (record {
        cell = record { structure = c.structure; index = x.index };
        reply =
            tag_in (c.here).activation (number (c.here).row 2);
      }) ≡ x
  asks_as x c = (λ i. record { fetch = fetch_here c i; name = named_as c.structure x.name c.named i; index = x.index })

  pub asks_shown : (x : Ask) → Holds S (fact.Ask x) → Among x (shown.asks g s)
  asks_shown x holds =
      let c : CarriedAsk S number run x.fetch x.name x.index = carries (fact.Ask x) holds in
      let k : Cell = record { structure = c.structure; index = x.index } in
      let t = tag_in (c.here).activation (number (c.here).row 2) in
      let y : Reader = record { cell = k; reply = t } in
      let h = to_record g S.inputs count s run r (Looked (c.read).element k t c.answer) (c.read).among in
      let listed =
      filter_map_has (λ (u : EventView). shown.reader_in u.message.payload) (events s) h.0 y (among_events s h.0 h.1)
      (ap shown.reader_in (h.2).payload) in
      subst (λ z. Among z (shown.asks g s)) (asks_as x c) (Among-map as_ask y
      (filter_map (λ (u : EventView). shown.reader_in u.message.payload) (events s)) listed)

  -- a fetch of a cell into which nothing is put waits
  pub waiting_shown : (x : Ask) → IsWaiting S x → Among x (shown.waiting g s)
  waiting_shown x waits =
      let c : CarriedAsk S number run x.fetch x.name x.index = carries (fact.Ask x) waits.asks in
      let k : Cell = record { structure = c.structure; index = x.index } in
      let t = tag_in (c.here).activation (number (c.here).row 2) in
      let y : Reader = record { cell = k; reply = t } in
      elim (reads run cell (cells_exact g S.inputs count s run r) k t c.answer c.read) [
        | inl z ↦
            let told = written_told S known g number numbered count s run r backed z.3 in
            let named = named_as c.structure x.name c.named in
            absurd (waits.unfilled told.value (site_of z.1)
            (subst (λ q. Holds S (put q x.index told.value (site_of z.1))) named
            (put_shown S known g number numbered count s run r backed told)))
        | inr z ↦
            subst (λ q. Among q (shown.waiting g s)) (asks_as x c)
            (Among-map as_ask y (readers_in s) (held_reader g S.inputs count s run r k z.0 t z.1 z.2))
      ]

  -- and only such a one
  pub waiting_only : (x : Ask) → Among x (shown.waiting g s) → IsWaiting S x
  waiting_only x among =
      record { asks = sound_waiting S known g number numbered count s run r backed x among; unfilled = unfilled }
    where
      unfilled : (v : SourceValue) (b : Site) → Holds S (put x.name x.index v b) → ⊥
      unfilled v b holds =
          let c : CarriedPut S number run x.name x.index v b = carries (put x.name x.index v b) holds in
          let y = Among-from_map as_ask x (readers_in s) among in
          let held = reader_held g S.inputs count s run r y.0 y.1 in
          let waits =
          waits_unfilled run cell (cells_exact g S.inputs count s run r) (y.0).cell (y.0).reply held.0 held.1 held.2 in
          let told = read_told S known g number numbered count s run r backed waits.0 in
          let names : x.name ≡ told.name =
          ap (λ (z : Ask). z.name) y.2 ∙ named_as ((y.0).cell).structure told.name told.named in
          let same = one_name S known g number numbered count s run r backed c.named told.named names in
          let index = ap (λ (z : Ask). z.index) y.2 in
          waits.1 c.value _ c.answer
          (subst (λ (z : Cell). WrittenBy run z c.value (tag_in (c.here).activation (number (c.here).row 0)) c.answer)
          (λ i. record { structure = same i; index = index i }) c.written)
