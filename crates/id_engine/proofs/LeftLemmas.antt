-- A run without a fault, and one with nothing left (specs/Runs.antt).
use Rattle.std.proofs.Common.{◌≡◌, ◌≢◌, Option, Some, None, List, [], refl, subst}
use Rattle.id_instr.specs.Graph.{Parts}
use Rattle.id_tag.specs.declared.Structure.{Structure}
use Rattle.id_tag.specs.declared.Tag.{Tag}
use Rattle.id_source.specs.declared.Path.{Path}
use Rattle.id_source.specs.declared.Site.{Site}
use Rattle.id_source.specs.declared.SourceFault.{SourceFault}
use Rattle.id_value.specs.List.{Among}
use Rattle.id_value.proofs.AmongLemmas.{at-from_Among}
use Rattle.id_record.specs.declared.step.Step.{Step}
use Rattle.id_record.specs.declared.step.Step.TheVariants.{Went, Stuck, Fault}
use Rattle.id_record.specs.declared.step.Fault.TheVariants.{Operator, SecondStore}
use Rattle.id_core.specs.Events.{EventView}
use Rattle.id_core.specs.Steps.{State}
use Rattle.id_core.specs.Machines.{World}
use Rattle.id_core.specs.Observed.{events_of, fault_of, faults, faults_of, path_in, structure_in}
use Rattle.id_runs.proofs.RecordsOfRuns.{Recorded, among_events, filter_map_has}
use Rattle.id_laws.proofs.Validity.ValidCounts.{all_among}
use Rattle.id_elements.specs.Runs.{HasWent, MovesOn}

went_of : (g : Parts) (p : Tag → Path) (m : Structure → Site) (x : Step) → fault_of g p m x ≡ None → x ≢ Stuck
    → x ≡ Went
went_of g p m Went none stuck = refl
went_of g p m (Fault (Operator f t)) none stuck = absurd cc
went_of g p m (Fault (SecondStore c t u)) none stuck = absurd cc
went_of g p m Stuck none stuck = absurd (stuck refl)

no_fault : (g : Parts) (p : Tag → Path) (m : Structure → Site) (vs : List EventView) (v : EventView)
    → faults_of g p m vs ≡ [] → Among v vs → fault_of g p m v.step ≡ None
no_fault g p m vs v none among = go (fault_of g p m v.step) refl
  where
    go : (o : Option SourceFault) → fault_of g p m v.step ≡ o → o ≡ None
    go None e = refl
    go (Some f) e =
        let here =
        filter_map_has (λ (u : EventView). fault_of g p m u.step) vs v f among e in absurd (subst (Among f) none here)

recorded_in : (w : World) (e : State) (v : EventView) → Among e w.elements → Among v e.events → Recorded w v
recorded_in w e v a b = let k = at-from_Among e w.elements a in record { element = k.0; state = e; at = k.1; among = b }

-- where no fault was shown and no event was `Stuck`, every event went well
pub HasWent-from : (g : Parts) (w : World) → MovesOn w → faults g w ≡ [] → HasWent w
HasWent-from g w moves none =
    all_among _ w.elements (λ e a. all_among _ e.events (λ v b. (
    let here = among_events w v (recorded_in w e v a b) in
    let p = path_in g w.elements in
    let m = structure_in g w.elements in
    went_of g p m v.step (no_fault g p m (events_of w.elements) v none here) (moves v here))))
