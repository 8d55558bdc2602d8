-- What a machine shows that structures are called is what they are called in the source.
use Rattle.std.proofs.Common.{◌≡◌, ℕ, ◌<◌, Some, List, length, refl, sym, ◌∙◌, ap, subst}
use Rattle.std.specs.Prelude.{option_map}
use Rattle.id_table.specs.declared.row.Node.TheVariants.{Array}
use Rattle.id_check.specs.declared.checked.Checked.{Checked}
use Rattle.id_check.specs.Programs.{place, region, rows}
use Rattle.id_instr.specs.declared.instr.Instr.{Instr}
use Rattle.id_instr.specs.declared.instr.Op.TheVariants as op
use Rattle.id_instr.specs.Graph.{Parts}
use Rattle.id_valid.specs.Roles.{op_at}
use Rattle.id_tag.specs.declared.Structure.{Structure}
use Rattle.id_tag.specs.declared.Value.{Value}
use Rattle.id_core.specs.Machines.{World}
use Rattle.id_core.specs.Observed as shown
use Rattle.id_source.specs.declared.Path.{Path}
use Rattle.id_source.specs.declared.Site.{Site}
use Rattle.id_source.specs.declared.SourceValue.{SourceValue}
use Rattle.id_source.specs.declared.SourceValue.TheVariants as source
use Rattle.id_source.specs.declared.Fact.TheVariants.{Has}
use Rattle.id_source.specs.Sources.{Source}
use Rattle.id_source.specs.Rounds.{Holds}
use Rattle.id_build.specs.Rows.{node}
use Rattle.id_build.specs.Schemas.{Numbered}
use Rattle.id_observe.specs.Paths.{name_by, site_at}
use Rattle.id_runs.specs.Activations.{Activation, tag_in}
use Rattle.id_runs.specs.Events.{Event}
use Rattle.id_runs.specs.Runs.{Reach}
use Rattle.id_runs.proofs.Made.{made_under}
use Rattle.id_laws.specs.Activations.{Live, PathOf}
use Rattle.id_laws.specs.Topics.{IsPart, Named, StandsFor, number_stands, truth_stands, name_stands, Shown}
use Rattle.id_laws.proofs.Rows.Arcs.{allocates, makes, part_of, place_shown}
use Rattle.id_laws.proofs.Rows.Assumed.{IsKnown}
use Rattle.id_laws.proofs.Telling.FiringMeans.{IsBacked}
use Rattle.id_laws.proofs.Soundness.Observing.{part_place}
use Rattle.id_laws.proofs.Paths.TagPaths.{path_shown}
use Rattle.id_laws.proofs.Telling.TurnedOn.{without_none}

some_value : {v w : SourceValue} → Some v ≡ Some w → v ≡ w
some_value e = cc

module _ (S : Source) (known : IsKnown S.checked) (g : Parts) (number : ℕ → ℕ
    → ℕ) (numbered : Numbered S.checked g number) (count : ℕ)
    (s : World) (run : List Event) (r : Reach g S.inputs count s run) (backed : IsBacked S run) where
  abbrev P : Checked
  P = S.checked

  -- the site of a tag of a part: at its activation's path, and at the place that the part shows
  pub site_shown : (a : Activation) (n part : ℕ) (p : Path) → IsPart P n part → Live S number run a (region P n)
      → PathOf S number run a p
      → site_at g (shown.path_in g s.elements) (tag_in a (number n part)) ≡ record {
        path = p;
        place =
            place_shown P (place P n) (node P n);
      }
  site_shown a n part p is_part live at =
      (λ i. record {
        path = path_shown S known g number numbered count s run r backed (tag_in a (number n part)) p live at i;
        place = part_place numbered is_part i;
      })

  -- an `array` is made by an `alloc`
  pub array_op : {nested : _} {n low high : ℕ} → n < length (rows P) → node P n ≡ Array nested low high
      → op_at g (number n 0) ≡ Some (op.Alloc nested)
  array_op {n = n} within is =
      let m = numbered.made n 0 _ _ (makes within (allocates is)) in
      ap (option_map (λ (i : Instr). i.op)) m.at ∙ ap (λ z. Some z) m.op

  -- what a structure is called is what it is shown to be
  pub name_shown : (z : Structure) (x : Site) → Named S number run z x → shown.structure_in g s.elements z ≡ x
  name_shown z x y =
      let t = tag_in y.activation (number y.row 0) in
      let maker = made_under g S.inputs count s run r y.made (array_op y.within y.node) in
      let at = site_shown y.activation y.row 0 x.path (part_of y.within (allocates y.node)) y.live y.path_of in
      let here : place_shown P (place P y.row) (node P y.row) ≡ x.place =
      ap (place_shown P (place P y.row)) y.node ∙ sym y.place in
      ap (name_by g (shown.path_in g s.elements)) maker ∙ at ∙ (λ i. record { path = x.path; place = here i })

  -- the value of a token that stands for one of the source, as the source's
  pub stands_shown : {v : Value} {w : SourceValue} → StandsFor S number run v w
      → shown.source_value (shown.structure_in g s.elements) v ≡ Some w
  stands_shown (number_stands n) = refl
  stands_shown (truth_stands b) = refl
  stands_shown (name_stands z x y) = ap (λ q. Some (source.Name q)) (name_shown z x y)

  -- what is shown at the place, it Has there at that path
  pub shown_holds : {a : Activation} {e : ℕ} {v : Value} {w : SourceValue} (x : Shown S number run a 0 e v)
      → shown.source_value (shown.structure_in g s.elements) v ≡ Some w → Holds S (Has x.path e w)
  shown_holds {a} {e} {v} {w} x is =
      let value_is : x.value ≡ w = some_value (sym (stands_shown x.stands) ∙ is) in
      subst (λ (z : Path × SourceValue). Holds S (Has z.0 e z.1)) (λ i. (without_none x.path i, value_is i)) x.holds
