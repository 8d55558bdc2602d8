-- What stands at one path and place in a run is one thing under one activation; where fetches and stores stand.
use Rattle.std.proofs.Common.{◌≡◌, inr, ℕ, ◌<◌, true, List, length, refl, sym, ◌∙◌, ap, subst}
use Rattle.id_value.proofs.AmongLemmas.{Among-map}
use Rattle.id_table.specs.declared.row.Region.{Region}
use Rattle.id_table.specs.Tables.{is_thing}
use Rattle.id_check.specs.declared.checked.Checked.{Checked}
use Rattle.id_check.specs.Programs.{place, region, rows}
use Rattle.id_instr.specs.Graph.{Parts}
use Rattle.id_tag.specs.declared.Cell.{Cell}
use Rattle.id_tag.specs.declared.Structure.{Structure}
use Rattle.id_tag.specs.declared.Tag.{Tag}
use Rattle.id_tag.specs.declared.Value.{Value}
use Rattle.id_tag.specs.declared.Value.TheVariants as value
use Rattle.id_tag.specs.declared.Payload.TheVariants.{Read, Write}
use Rattle.id_ops.specs.declared.Fired.TheVariants.{Out}
use Rattle.id_bank.specs.declared.cell.ReadAnswer.{ReadAnswer}
use Rattle.id_bank.specs.declared.cell.WriteAnswer.{WriteAnswer}
use Rattle.id_core.specs.Machines.{World}
use Rattle.id_core.specs.Observed as shown
use Rattle.id_source.specs.declared.Path.{Path}
use Rattle.id_source.specs.declared.Site.{Site}
use Rattle.id_source.specs.Sources.{Source}
use Rattle.id_source.specs.Facts.{ask, put, site}
use Rattle.id_source.specs.Rounds.{Holds}
use Rattle.id_build.specs.Rows.{node}
use Rattle.id_build.specs.Schemas.{Numbered}
use Rattle.id_runs.specs.Activations.{Activation, tag_in}
use Rattle.id_runs.specs.Cells.{ReadBy, WrittenBy}
use Rattle.id_runs.specs.Events.{Event, Looked, Wrote, FiresAs, FiresOnce, fired_event, payload_of}
use Rattle.id_runs.specs.Runs.{Reach}
use Rattle.id_runs.specs.OneMessage.{Exclusive, Few}
use Rattle.id_runs.proofs.Messages.{one_firing}
use Rattle.id_runs.proofs.OneMessage.{few}
use Rattle.id_runs.proofs.Serials.{contexts_apart}
use Rattle.id_laws.specs.Activations.{Live, PathOf}
use Rattle.id_laws.specs.Topics.{Named, ToldRead, ToldWrite}
use Rattle.id_laws.proofs.Rows.Arcs.{gets_reply, part_of, place_shown, stores}
use Rattle.id_laws.proofs.Rows.Assumed.{IsKnown}
use Rattle.id_laws.proofs.Telling.FiringMeans.{IsBacked}
use Rattle.id_laws.proofs.Soundness.Naming.{name_shown, site_shown}
use Rattle.id_laws.proofs.Paths.OneSender.{exclusive}
use Rattle.id_laws.proofs.Paths.Opened.{main_first}
use Rattle.id_laws.proofs.Paths.Seats.{paths_apart}
use Rattle.id_laws.proofs.Telling.StartTells.{all_tell, all_speak, opening_live}

same_structure_out : {run : List Event} {t u : Tag} {y z : Structure} (x : FiresAs run t (Out (value.Structure y)))
    (w : FiresAs run u (Out (value.Structure z)))
    → fired_event x ≡ fired_event w → y ≡ z
same_structure_out x w e = cc

module _ (S : Source) (known : IsKnown S.checked) (g : Parts) (number : ℕ → ℕ
    → ℕ) (numbered : Numbered S.checked g number) (count : ℕ)
    (s : World) (run : List Event) (r : Reach g S.inputs count s run) (backed : IsBacked S run) where
  abbrev P : Checked
  P = S.checked

  abbrev tag_path : Tag → Path
  tag_path = shown.path_in g s.elements

  abbrev site_of : Tag → Site
  site_of = shown.site_at g tag_path

  abbrev name_of : Structure → Site
  name_of = shown.structure_in g s.elements

  -- each key is sent for by one event alone, so of what was handled one message has it, and a tag fires once
  pub only : Exclusive g S.inputs count
  only =
      exclusive S g number numbered known count (λ t hs q. all_tell S known g number numbered hs count t q)
      (λ t hs q. all_speak S known g number numbered hs count t q) backed.wholes

  pub few_handled : Few run
  few_handled = few g S.inputs count only s run r

  pub once : FiresOnce run
  once = backed.once

  -- live activations with one path are one
  pub one_activation : {a b : Activation} {p : Path} {q q' : Region} → Live S number run a q → Live S number run b q'
      → PathOf S number run a p → PathOf S number run b p → a ≡ b
  one_activation live live' at at' =
      let apart = contexts_apart g S.inputs count s run r in
      paths_apart S known g number numbered run apart once
      (λ a m i q c within is o. main_first S known number run g numbered apart
      (opening_live S known g number numbered run count s r backed a m i q c within is o))
      at at' (main_first S known number run g numbered apart live)
      (main_first S known number run g numbered apart live')

  -- the thing at the row n, under the activation, stands at the site
  pub record Stands (a : Activation) (n : ℕ) (x : Site) : Type 0 where
    pub within : n < length (rows P)
    pub thing : is_thing (node P n) ≡ true
    pub live : Live S number run a (region P n)
    pub path_of : PathOf S number run a x.path
    pub place : x.place ≡ place P n

  -- what stands at one site is one
  pub one_there : {a b : Activation} {n m : ℕ} {x y : Site} → Stands a n x → Stands b m y → x ≡ y → (a ≡ b) × (n ≡ m)
  one_there {b = b} {n = n} {m = m} {x = x} {y = y} u w same =
      let at' = subst (λ (z : Site). PathOf S number run b z.path) (sym same) w.path_of in
      let places = sym u.place ∙ ap (λ (z : Site). z.place) same ∙ w.place in
      (one_activation u.live w.live u.path_of at', (known.apart).apart n m u.within w.within u.thing w.thing places)

  named_stands : {z : Structure} {x : Site} (y : Named S number run z x) → Stands y.activation y.row x
  named_stands y =
      record { within = y.within; thing = ap is_thing y.node; live = y.live; path_of = y.path_of; place = y.place }

  -- so a name is that of one structure
  pub one_name : {z z' : Structure} {x x' : Site} → Named S number run z x → Named S number run z' x' → x ≡ x' → z ≡ z'
  one_name y y' same =
      let z = one_there (named_stands y) (named_stands y') same in
      same_structure_out y.made y'.made (one_firing once (λ i. tag_in (z.0 i) (number (z.1 i) 0)) y.made y'.made)

  -- ---- fetches and stores

  -- what was asked for and what was written tell of their fetches and stores
  pub read_told : {c : Cell} {t : Tag} {a : ReadAnswer} → ReadBy run c t a → ToldRead S number run c t
  read_told {c} {t} {a} x =
      all_tell S known g number numbered run count s r backed (Read c t)
      (inr (Among-map payload_of (Looked x.element c t a) run x.among))

  pub written_told : {c : Cell} {v : Value} {w : Tag} {a : WriteAnswer} → WrittenBy run c v w a
      → ToldWrite S number run c v w
  written_told {c} {v} {w} {a} x =
      all_tell S known g number numbered run count s r backed (Write c v w)
      (inr (Among-map payload_of (Wrote x.element c v w a) run x.among))

  -- where a fetch stands is the site of its reply
  pub fetch_site : {c : Cell} {t : Tag} (x : ToldRead S number run c t) → site_of t ≡ site x.path (place P x.row)
  fetch_site x =
      ap site_of x.is
      ∙ site_shown S known g number numbered count s run r backed x.activation x.row 2 x.path
      (part_of x.within (gets_reply x.node)) x.live x.path_of
      ∙ ap (λ m. site x.path (place_shown P (place P x.row) m)) x.node

  pub fetch_stands : {c : Cell} {t : Tag} (x : ToldRead S number run c t) → Stands x.activation x.row (site_of t)
  fetch_stands x =
      subst (Stands x.activation x.row) (sym (fetch_site x))
      (record { within = x.within; thing = ap is_thing x.node; live = x.live; path_of = x.path_of; place = refl })

  -- it asks for what is shown that it asks for
  pub ask_shown : {c : Cell} {t : Tag} → ToldRead S number run c t
      → Holds S (ask (site_of t) (name_of c.structure) c.index)
  ask_shown {c} {t} x =
      let named = name_shown S known g number numbered count s run r backed c.structure x.name x.named in
      subst (λ (z : Site × Site). Holds S (ask z.0 z.1 c.index)) {x = (site x.path (place P x.row), x.name)} {y =
      (site_of t, name_of c.structure)}
      (λ i. (sym (fetch_site x) i, sym named i)) x.holds

  -- one reply is for each fetch that stands somewhere
  pub one_fetch : {c d : Cell} {t u : Tag} → ToldRead S number run c t → ToldRead S number run d u
      → site_of t ≡ site_of u → t ≡ u
  one_fetch x y same =
      let z = one_there (fetch_stands x) (fetch_stands y) same in
      x.is ∙ (λ i. tag_in (z.0 i) (number (z.1 i) 2)) ∙ sym y.is

  -- so it is with stores
  pub store_site : {c : Cell} {v : Value} {w : Tag} (x : ToldWrite S number run c v w)
      → site_of w ≡ site x.path (place P x.row)
  store_site x =
      ap site_of x.is
      ∙ site_shown S known g number numbered count s run r backed x.activation x.row 0 x.path
      (part_of x.within (stores x.node)) x.live x.path_of
      ∙ ap (λ m. site x.path (place_shown P (place P x.row) m)) x.node

  pub store_stands : {c : Cell} {v : Value} {w : Tag} (x : ToldWrite S number run c v w)
      → Stands x.activation x.row (site_of w)
  store_stands x =
      subst (Stands x.activation x.row) (sym (store_site x))
      (record { within = x.within; thing = ap is_thing x.node; live = x.live; path_of = x.path_of; place = refl })

  pub put_shown : {c : Cell} {v : Value} {w : Tag} (x : ToldWrite S number run c v w)
      → Holds S (put (name_of c.structure) c.index x.value (site_of w))
  put_shown {c} {v} {w} x =
      let named = name_shown S known g number numbered count s run r backed c.structure x.name x.named in
      subst (λ (z : Site × Site). Holds S (put z.1 c.index x.value z.0)) {x =
      (site x.path (place P x.row), x.name)} {y = (site_of w, name_of c.structure)}
      (λ i. (sym (store_site x) i, sym named i)) x.holds

  pub one_store : {c d : Cell} {v u : Value} {w x : Tag} → ToldWrite S number run c v w → ToldWrite S number run d u x
      → site_of w ≡ site_of x → w ≡ x
  one_store y z same =
      let k = one_there (store_stands y) (store_stands z) same in
      y.is ∙ (λ i. tag_in (k.0 i) (number (k.1 i) 0)) ∙ sym z.is
