-- Each fault that a run of a schemas' graph shows is one of the source.
use Rattle.std.proofs.Common.{◌≡◌, ◌⊎◌, inl, inr, ℕ, ℤ, Bool, true, false, cond, Some, List, refl, sym, ◌∙◌, ap, subst}
use Rattle.std.proofs.Common.{Ordering, Less, Equal, Greater}
use Rattle.std.specs.Ordering.{nat_cmp, ordering_reverse, ordering_then}
use Rattle.std.specs.Cmp.Lexicographic.{slice_cmp, lists_total}
use Rattle.std.proofs.lemmas.Cmp.{nat_cmp_total}
use Rattle.id_value.specs.declared.FaultKind.{FaultKind}
use Rattle.id_value.specs.List.{Among}
use Rattle.id_check.specs.declared.checked.Checked.{Checked}
use Rattle.id_check.specs.Programs.{place}
use Rattle.id_instr.specs.Graph.{Parts}
use Rattle.id_tag.specs.declared.Cell.{Cell}
use Rattle.id_tag.specs.declared.Structure.{Structure}
use Rattle.id_tag.specs.declared.Tag.{Tag}
use Rattle.id_tag.specs.declared.Value.{Value}
use Rattle.id_tag.specs.declared.Payload.TheVariants.{Write}
use Rattle.id_tag.specs.Tags.{same_tag}
use Rattle.id_tag.proofs.TagsLemmas.{same_tag_laws}
use Rattle.id_ops.specs.declared.Fired.{Fired}
use Rattle.id_ops.specs.declared.Fired.TheVariants.{Out, Side, Sent, Moved, Asked, Stored, Failed, Nothing, Entered}
use Rattle.id_bank.specs.declared.cell.WriteAnswer.{WriteAnswer}
use Rattle.id_bank.specs.declared.cell.WriteAnswer.TheVariants.{Readers, Second}
use Rattle.id_record.specs.declared.step.Step.{Step}
use Rattle.id_record.specs.declared.step.Step.TheVariants.{Went, Stuck, Fault}
use Rattle.id_record.specs.declared.step.Fault.TheVariants.{Operator, SecondStore}
use Rattle.id_record.specs.declared.step.Verdict.TheVariants as verdict
use Rattle.id_record.specs.Events.{full_step}
use Rattle.id_step.specs.Steps.{fill_verdict}
use Rattle.id_core.specs.Events.{EventView}
use Rattle.id_core.specs.Steps.{fired_step}
use Rattle.id_core.specs.Machines.{World}
use Rattle.id_core.specs.Observed as shown
use Rattle.id_observe.specs.Sourced.{stores_as}
use Rattle.id_source.specs.declared.Path.{Path}
use Rattle.id_source.specs.declared.PathStep.{PathStep}
use Rattle.id_source.specs.declared.Site.{Site}
use Rattle.id_source.specs.declared.SourceFault.{SourceFault}
use Rattle.id_source.specs.declared.SourceFault.TheVariants as fault
use Rattle.id_source.specs.declared.SourceValue.{SourceValue}
use Rattle.id_source.specs.Facts.{put, second_store, site}
use Rattle.id_source.specs.Orders.{SiteBefore, step_cmp}
use Rattle.id_source.specs.Sources.{Source}
use Rattle.id_source.specs.Rounds.{Faulty, Holds}
use Rattle.id_source.proofs.PathOrderLemmas.{less_number, less_steps, same_number, same_steps, step_total}
use Rattle.id_build.specs.Schemas.{Numbered}
use Rattle.id_runs.specs.Activations.{activation_of}
use Rattle.id_runs.specs.Cells.{WrittenBy, cell_at}
use Rattle.id_runs.specs.Events.{Waits, Blocked, Fires, Event, Took, Looked, Wrote, FiresAs, came_to}
use Rattle.id_runs.specs.Runs.{Reach}
use Rattle.id_runs.proofs.Cells.{cells_exact}
use Rattle.id_runs.proofs.CellLaws.{finds_put}
use Rattle.id_runs.proofs.RecordsOfRuns.{among_filter_map}
use Rattle.id_runs.proofs.Serials.{structures_apart}
use Rattle.id_laws.specs.Laws.{events}
use Rattle.id_laws.proofs.Rows.Assumed.{IsKnown}
use Rattle.id_laws.proofs.Telling.FiringMeans.{IsBacked, FaultAt}
use Rattle.id_laws.proofs.Telling.AllTell.{firing_tells}
use Rattle.id_laws.proofs.Telling.StartTells.{all_tell, seats}
use Rattle.id_laws.proofs.Soundness.Observing.{handled_event, part_place}
use Rattle.id_laws.proofs.Paths.Sites.{one_store, put_shown, written_told}
use Rattle.id_laws.proofs.Paths.TagPaths.{path_shown}

-- a fault that is shown, where each tag has this path and each structure this name
data FaultShown (g : Parts) (path : Tag → Path) (name : Structure → Site) (x : Step) (f : SourceFault) : Type 0 where
  of_operator : (k : FaultKind) (t : Tag) → x ≡ Fault (Operator k t) → f ≡ fault.Operator k (shown.site_at g path t)
      → FaultShown g path name x f
  of_store : (c : Cell) (t u : Tag) → x ≡ Fault (SecondStore c t u)
      → f ≡ shown.second_store (name c.structure) c.index (shown.site_at g path t) (shown.site_at g path u)
      → FaultShown g path name x f

some_fault : {f h : SourceFault} → Some f ≡ Some h → h ≡ f
some_fault e = cc

fault_is : (g : Parts) (path : Tag → Path) (name : Structure → Site) (x : Step) (f : SourceFault)
    → shown.fault_of g path name x ≡ Some f → FaultShown g path name x f
fault_is g path name Went f e = cc
fault_is g path name (Fault (Operator k t)) f e = of_operator k t refl (some_fault e)
fault_is g path name (Fault (SecondStore c t u)) f e = of_store c t u refl (some_fault e)
fault_is g path name Stuck f e = cc

same_fault : {k k' : FaultKind} {t t' : Tag} → Fault (Operator k t) ≡ Fault (Operator k' t') → (k ≡ k') × (t ≡ t')
same_fault e = (cc, cc)

same_store : {c c' : Cell} {t t' u u' : Tag} → Fault (SecondStore c t u) ≡ Fault (SecondStore c' t' u')
    → (c ≡ c') × ((t ≡ t') × (u ≡ u'))
same_store e = (cc, (cc, cc))

no_operator : {k : FaultKind} {t u w : Tag} {c : Cell} → Fault (Operator k t) ≡ Fault (SecondStore c u w) → ⊥
no_operator e = cc

-- how two sites compare says which comes first
abbrev SitesAs : Ordering → Site → Site → Type 0
SitesAs Less a b = SiteBefore a b
SitesAs Equal a b = a ≡ b
SitesAs Greater a b = SiteBefore b a

path_from : List PathStep → Path
path_from ss = record { steps = ss }

same_path : (p q : Path) → p.steps ≡ q.steps → p ≡ q
unfolding path_from
same_path p q e = ap path_from e

site_cmp_is : (a b : Site) → (z : Ordering) × (shown.site_cmp a b ≡ z) × SitesAs z a b
site_cmp_is a b = by (slice_cmp step_cmp a.path.steps b.path.steps) refl
  where
    along : a.path ≡ b.path → (o : Ordering) → nat_cmp a.place b.place ≡ o → SitesAs o a b
    along p Less e = inr (p, less_number a.place b.place e)
    along p Equal e = (λ i. record { path = p i; place = same_number a.place b.place e i })
    along p Greater e =
        inr (sym p, less_number b.place a.place (nat_cmp_total.antisymm b.place a.place ∙ ap ordering_reverse e))

    by : (o : Ordering) → slice_cmp step_cmp a.path.steps b.path.steps ≡ o
        → (z : Ordering) × (shown.site_cmp a b ≡ z) × SitesAs z a b
    by Less e =
        (Less, ap (λ o. ordering_then o (nat_cmp a.place b.place)) e, inl (less_steps a.path.steps b.path.steps e))
    by Equal e =
        let same = same_path a.path b.path (same_steps a.path.steps b.path.steps e) in (
          nat_cmp a.place b.place,
          ap (λ o. ordering_then o (nat_cmp a.place b.place)) e,
          along same (nat_cmp a.place b.place) refl,
        )
    by Greater e = (
      Greater,
      ap (λ o. ordering_then o (nat_cmp a.place b.place)) e,
      inl (less_steps b.path.steps a.path.steps ((lists_total step_total).antisymm b.path.steps a.path.steps
          ∙ ap ordering_reverse e)),
    )

-- two stores into one cell, at two sites, are a fault
stored_twice : (S : Source) (x a b : Site) (j : ℤ) (v w : SourceValue) → Holds S (put x j v a) → Holds S (put x j w b)
    → (a ≡ b → ⊥) → Faulty S (shown.second_store x j a b)
stored_twice S x a b j v w h k differ = by (site_cmp_is a b)
  where
    by : (z : Ordering) × (shown.site_cmp a b ≡ z) × SitesAs z a b → Faulty S (shown.second_store x j a b)
    by t = ap_fault t.0 t.1 t.2
      where
        ap_fault : (z : Ordering) → shown.site_cmp a b ≡ z → SitesAs z a b → Faulty S (shown.second_store x j a b)
        ap_fault Less is less =
            subst (λ o. Faulty S (stores_as o x j a b)) (sym is) (record {
              premises = _;
              rule = second_store less;
              hold = (h, (k, tt));
            })
        ap_fault Equal is same = absurd (differ same)
        ap_fault Greater is more =
            subst (λ o. Faulty S (stores_as o x j a b)) (sym is) (record {
              premises = _;
              rule = second_store more;
              hold = (k, (h, tt));
            })

module _ (S : Source) (known : IsKnown S.checked) (g : Parts) (number : ℕ → ℕ
    → ℕ) (numbered : Numbered S.checked g number) (count : ℕ) (s : World)
    (run : List Event) (r : Reach g S.inputs count s run) (backed : IsBacked S run) where
  abbrev P : Checked
  P = S.checked

  abbrev tag_path : Tag → Path
  tag_path = shown.path_in g s.elements

  abbrev name_of : Structure → Site
  name_of = shown.structure_in g s.elements

  abbrev site_of : Tag → Site
  site_of = shown.site_at g tag_path

  abbrev FaultyAt : FaultKind → Tag → Type 0
  FaultyAt k t = Faulty S (fault.Operator k (site_of t))

  -- a firing that is a fault is one of the source
  failed_as : (t : Tag) (f : Fired) → FiresAs run t f → (k : FaultKind) (u : Tag)
      → fired_step t f ≡ Fault (Operator k u) → FaultyAt k u
  failed_as t (Out v) x k u e = cc
  failed_as t (Side b v) x k u e = cc
  failed_as t (Entered c) x k u e = cc
  failed_as t (Sent w v) x k u e = cc
  failed_as t (Asked c w) x k u e = cc
  failed_as t (Stored c v w) x k u e = cc
  failed_as t (Moved j v) x k u e = cc
  failed_as t Nothing x k u e = cc
  failed_as t (Failed j) x k u e =
      let same = same_fault e in
      let m = firing_tells S known g number numbered run (seats S known g number numbered run count s r)
      (structures_apart g S.inputs count s run r) backed run r
      (λ z h. all_tell S known g number numbered run count s r backed z (inr h)) x in
      let y = m.0 in
      let at : FaultAt S number run (activation_of t) y.row j = m.1 in
      let here : shown.place_of g u.instr ≡ place P y.row =
      ap (λ (w : Tag). shown.place_of g w.instr) (sym same.1) ∙ ap (λ (w : Tag). shown.place_of g w.instr) (sym y.at)
      ∙ part_place numbered y.is_part
      ∙ at.shows in
      let path_is : tag_path u ≡ at.path = ap tag_path (sym same.1)
      ∙ path_shown S known g number numbered count s run r backed t at.path at.live at.path_of in
      subst (λ (z : FaultKind × (Path × ℕ)). Faulty S (fault.Operator z.0 (site z.1.0 z.1.1))) {x =
      (j, (at.path, place P y.row))}
      {y = (k, (tag_path u, shown.place_of g u.instr))}
      (λ i. (same.0 i, (sym path_is i, sym here i))) at.faulty

  no_second : (t : Tag) (f : Fired) (c : Cell) (u w : Tag) → fired_step t f ≡ Fault (SecondStore c u w) → ⊥
  no_second t (Out v) c u w e = cc
  no_second t (Side b v) c u w e = cc
  no_second t (Entered d) c u w e = cc
  no_second t (Sent x v) c u w e = cc
  no_second t (Asked d x) c u w e = cc
  no_second t (Stored d v x) c u w e = cc
  no_second t (Moved j v) c u w e = cc
  no_second t (Failed k) c u w e = no_operator e
  no_second t Nothing c u w e = cc

  -- what a write comes to: a fault names what it has found, another store
  found : (c : Cell) (v : Value) (w : Tag) (a : WriteAnswer) (f : Step) → full_step (Write c v w) (fill_verdict w a) ≡ f
      → (f ≡ Went) ⊎ ((f ≡ Stuck) ⊎ ((x : Tag) × (a ≡ Second x) × (x ≡ w → ⊥) × (f ≡ Fault (SecondStore c x w))))
  found c v w (Readers ts) f e = inl (sym e)
  found c v w (Second x) f e = by (same_tag x w) refl e
    where
      by : (b : Bool) → same_tag x w ≡ b → full_step (Write c v w) (cond b verdict.Stuck (verdict.Second x)) ≡ f
          → (f ≡ Went)
          ⊎ ((f ≡ Stuck) ⊎ ((y : Tag) × (Second x ≡ Second y) × (y ≡ w → ⊥) × (f ≡ Fault (SecondStore c y w))))
      by true is z = inr (inl (sym z))
      by false is z =
          inr (inr (
            x,
            refl,
            (λ same. let bad : true ≡ false = sym (same_tag_laws.refl w) ∙ ap (λ y. same_tag y w) (sym same) ∙ is in
                cc),
            sym z,
          ))

  -- a second store is one of the source
  stored : (c : Cell) (v : Value) (w x : Tag) → WrittenBy run c v w (Second x) → (x ≡ w → ⊥)
      → Faulty S (shown.second_store (name_of c.structure) c.index (site_of x) (site_of w))
  stored c v w x y differ =
      let first = finds_put run (cell_at count s) (cells_exact g S.inputs count s run r) c v w x y in
      let told = written_told S known g number numbered count s run r backed y in
      let before = written_told S known g number numbered count s run r backed first.2 in
      stored_twice S (name_of c.structure) (site_of x) (site_of w) c.index before.value told.value
      (put_shown S known g number numbered count s run r backed before)
      (put_shown S known g number numbered count s run r backed told)
      (λ same. differ (one_store S known g number numbered count s run r backed before told same))

  -- an event that comes to a fault has failed
  failed : (e : Event) (k : FaultKind) (t : Tag) → Among e run → came_to e ≡ Fault (Operator k t) → FaultyAt k t
  failed (Took n t p v Waits) k u among is = cc
  failed (Took n t p v Blocked) k u among is = cc
  failed (Took n t p v (Fires ops f)) k u among is =
      failed_as t f (record { element = n; port = p; value = v; operands = ops; among = among }) k u is
  failed (Looked n c t a) k u among is = cc
  failed (Wrote n c v w a) k u among is =
      elim (found c v w a (Fault (Operator k u)) is) [
        | inl went ↦ (let bad : Fault (Operator k u) ≡ Went = went in cc)
        | inr (inl stuck) ↦ (let bad : Fault (Operator k u) ≡ Stuck = stuck in cc)
        | inr (inr z) ↦ absurd (no_operator z.3)
      ]

  -- one that comes to a second store has found another
  second : (e : Event) (c : Cell) (t u : Tag) → Among e run → came_to e ≡ Fault (SecondStore c t u)
      → Faulty S (shown.second_store (name_of c.structure) c.index (site_of t) (site_of u))
  second (Took n t p v Waits) c x u among is = cc
  second (Took n t p v Blocked) c x u among is = cc
  second (Took n t p v (Fires ops f)) c x u among is = absurd (no_second t f c x u is)
  second (Looked n d t a) c x u among is = cc
  second (Wrote n d v w a) c x u among is =
      elim (found d v w a (Fault (SecondStore c x u)) is) [
        | inl went ↦ (let bad : Fault (SecondStore c x u) ≡ Went = went in cc)
        | inr (inl stuck) ↦ (let bad : Fault (SecondStore c x u) ≡ Stuck = stuck in cc)
        | inr (inr z) ↦
            let same = same_store z.3 in
            let y : WrittenBy run d v w (Second z.0) =
            record { element = n; among = subst (λ b. Among (Wrote n d v w b) run) z.1 among } in
            subst (λ (k : Cell
            × (Tag × Tag)). Faulty S
            (shown.second_store (name_of k.0.structure) k.0.index (site_of k.1.0) (site_of k.1.1)))
            {x = (d, (z.0, w))} {y = (c, (x, u))}
            (λ i. (sym same.0 i, (sym same.1.0 i, sym same.1.1 i))) (stored d v w z.0 y z.2)
      ]

  pub sound_faults : (f : SourceFault) → Among f (shown.faults g s) → Faulty S f
  sound_faults f among =
      let event = among_filter_map (λ (u : EventView). shown.fault_of g tag_path name_of u.step) (events s) f among in
      let known_event = handled_event g S.inputs count s run r event.0 event.1 in
      by known_event.0 known_event.1 (sym (known_event.2).step) (fault_is g tag_path name_of (event.0).step f event.2)
    where
      by : {x : Step} (e : Event) → Among e run → came_to e ≡ x → FaultShown g tag_path name_of x f → Faulty S f
      by e h came (of_operator k t is says) = subst (Faulty S) (sym says) (failed e k t h (came ∙ is))
      by e h came (of_store c t u is says) = subst (Faulty S) (sym says) (second e c t u h (came ∙ is))
