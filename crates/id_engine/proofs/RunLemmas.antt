-- Lemmas on runs of machines, and on what their reports say (specs/Reports.antt).
use Rattle.std.proofs.Common.{◌≡◌, ℕ, Bool, true, false, List, [], Option, Some, None, refl, sym, subst, ◌∙◌}
use Rattle.std.specs.Prelude.{IfSome, slice_get}
use Rattle.id_instr.specs.Graph.{Parts}
use Rattle.id_source.specs.declared.SourceValue.{SourceValue}
use Rattle.id_source.specs.declared.SourceFault.{SourceFault}
use Rattle.id_source.specs.Sources.{Source, AreInputs}
use Rattle.id_source.specs.Names.{AreSomeNames}
use Rattle.id_source.specs.Rounds.{Answers, IsAnswer, Faulty}
use Rattle.id_build.specs.Schemas.{Schemas}
use Rattle.id_record.specs.declared.kept.Keeps.TheVariants as keeps
use Rattle.id_core.specs.Machines.{World, MachineView, IsQuiet, start, run}
use Rattle.id_core.specs.Observed.{faults}
use Rattle.id_core.specs.Observed as shown
use Rattle.id_laws.specs.Laws.{NeverStuck, Soundness, QuietIsComplete, IsSound, IsComplete}
use Rattle.id_value.specs.List.{Among}
use Rattle.id_core.specs.Steps.{State}
use Rattle.id_value.proofs.AmongLemmas.{Among-from_at}
use Rattle.id_print.specs.declared.ending.Ending.{Ending}
use Rattle.id_print.specs.declared.ending.Ending.TheVariants.{Quiet, Stopped, Fault}
use Rattle.id_print.specs.declared.run_reports.Report.{Report}
use Rattle.id_observe.proofs.FirstsLemmas.{first_is_shown}
use Rattle.id_print.specs.Endings.{EndsSo}
use Rattle.id_print.specs.Names.{WaitBefore}
use Rattle.id_source.specs.Orders.{Rises}
use Rattle.id_runs.specs.Legal.{InSomeOrder, none, keep, swap, next, IsRunOf, IsSameBut}
use Rattle.id_elements.specs.declared.settings.RunError.{RunError}
use Rattle.id_elements.specs.declared.settings.RunError.TheVariants.{Stuck}
use Rattle.id_elements.specs.Runs.{IsRefusedRun, IsRun, IsStuckRun, MovesOn}
use Rattle.id_print.specs.RunReports.{IsReportFrom}
use Rattle.id_engine.specs.Reports.{IsTrueOf, SaysSome, SaysTruly}
use Rattle.id_engine.proofs.HeldLemmas.{AreApartBy-held, AreApartBy-waiting, AreHeld-complete, AreSomeHeld-sound}
use Rattle.id_engine.proofs.HeldLemmas.{AreWaiting-complete}
use Rattle.id_engine.proofs.NamesLemmas.{among_sorted, AreApart-sound, AreSomeNames-sound, AreSomeNames-none}
use Rattle.id_engine.proofs.NamesLemmas.{AreNames-complete}

-- a value that may be missing: what holds of it where it is there
if_some : (S : Source) (o : Option SourceValue) → ((v : SourceValue) → o ≡ Some v → Answers S v) → IfSome o (Answers S)
if_some S None h = tt
if_some S (Some v) h = h v refl

-- what a report says is so where the state is sound, and complete if it is quiet
true_in : (S : Source) (g : Parts) (count : ℕ) (w : World) (b : Bool) (r : Report) (e : Ending) →
    ((i : ℕ) (f : SourceFault) → slice_get (faults g w) i ≡ Some f → Faulty S f)
    → (IsQuiet w → IsComplete S g w) → SaysSome S r
    → IsReportFrom (record { graph = g; count = count; keeps = keeps.All; world = w }) b r → Rises WaitBefore r.waiting
    → EndsSo (record { graph = g; count = count; keeps = keeps.All; world = w }) e → SaysTruly S b r e
true_in S g count w b r Quiet fails completes some from rise ends =
    let done : IsComplete S g w = completes ends in
    let Q : Option SourceValue → Type 0 = IsAnswer S in
    record {
      answer = subst Q (sym from.answer_is) done.answer;
      names = λ asked. AreNames-complete S g w r.names some.names done (from.sorted asked);
      structures = AreHeld-complete S g w r.structures some.structures done from.held;
      waiting = AreWaiting-complete S g w r.waiting done from.waits rise;
      none = done.no_fault;
    }
true_in S g count w b r Stopped fails completes some from rise ends = some
true_in S g count w b r (Fault f) fails completes some from rise ends =
    let shown = first_is_shown g w.elements f ends in fails shown.0 f shown.1

-- where none is left in some order, none is left
none_left : {A : Type 0} {xs ys : List A} → InSomeOrder xs ys → ys ≡ [] → xs ≡ []
none_left none e = refl
none_left (keep x h) e = absurd cc
none_left (swap x y) e = absurd cc
none_left (next h k) e = none_left h (none_left k e)

left_none : {A : Type 0} {xs ys : List A} → InSomeOrder xs ys → xs ≡ [] → ys ≡ []
left_none none e = refl
left_none (keep x h) e = absurd cc
left_none (swap x y) e = absurd cc
left_none (next h k) e = left_none k (left_none h e)

-- a report of a machine is one of each that is equal but for its count, what it keeps and the order of what is in
-- flight
pub from_same : (m : MachineView) (g : Parts) (n : ℕ) (w : World) (b : Bool) (r : Report) → m.graph ≡ g
    → IsSameBut w m.world → IsReportFrom m b r
    → IsReportFrom (record { graph = g; count = n; keeps = keeps.All; world = w }) b r
from_same m g n w b r same is h =
    let Q : Parts → List State → Type 0 =
    λ x es. IsReportFrom (record {
      graph = x;
      count = n;
      keeps = keeps.All;
      world =
          record { elements = es; flight = w.flight };
    }) b r in
    subst (λ (x : Parts). Q x w.elements) same (subst (λ (es : List State). Q m.graph es) (sym is.elements) (record {
      answer_is = h.answer_is;
      sorted = h.sorted;
      rise = h.rise;
      none = h.none;
      held = h.held;
      held_rise = h.held_rise;
      waits = h.waits;
      waits_rise = h.waits_rise;
      ends = ends_at r.ending h.ends;
    }))
  where
    ends_at : (e : Ending) → EndsSo m e →
        EndsSo (record {
          graph = m.graph;
          count = n;
          keeps = keeps.All;
          world =
              record { elements = m.world.elements; flight = w.flight };
        }) e
    ends_at Quiet h = record { empty = none_left is.flight h.empty; went = h.went }
    ends_at Stopped h = (h.0, λ q. h.1 (record { empty = left_none is.flight q.empty; went = q.went }))
    ends_at (Fault f) h = h

-- its names are some of the source's where the state is sound
some_names : (S : Source) (g : Parts) (number : ℕ → ℕ → ℕ) (count : ℕ) (w : World) (b : Bool) (r : Report)
    → IsSound S g number w → IsReportFrom (record { graph = g; count = count; keeps = keeps.All; world = w }) b r
    → AreSomeNames S r.names
some_names S g number count w true r ok h =
    AreSomeNames-sound S g number w r.names ok (h.sorted refl) (h.rise refl (AreApart-sound S g number w ok))
some_names S g number count w false r ok h = subst (AreSomeNames S) (sym (h.none refl)) (AreSomeNames-none S)

-- and what it says is some of what is so of the source
says_some : (S : Source) (g : Parts) (number : ℕ → ℕ → ℕ) (count : ℕ) (w : World) (b : Bool) (r : Report)
    → IsSound S g number w → IsReportFrom (record { graph = g; count = count; keeps = keeps.All; world = w }) b r
    → SaysSome S r
says_some S g number count w b r ok h = record {
  answer = if_some S r.answer (λ v k. ok.answer v (sym h.answer_is ∙ k));
  names = some_names S g number count w b r ok h;
  structures = AreSomeHeld-sound S g number w r.structures ok h.held (h.held_rise (AreApartBy-held S g number w ok));
  asks = λ a k. ok.waiting a (among_sorted (shown.waiting g w) r.waiting a (h.waits).same k);
}

-- what a report of a run of a schemas' graph says is so
pub IsTrueOf-laws : (S : Source) (g : Parts) (count : ℕ) (ks : List ℕ) (m : MachineView) (b : Bool) (r : Report)
    → Soundness → QuietIsComplete →
    AreInputs S.checked S.inputs
    → Schemas S.checked g → m.graph ≡ g → IsSameBut (run g count ks (start g S.inputs count)) m.world
    → IsReportFrom m b r → IsTrueOf S b r
IsTrueOf-laws S g count ks m b r sound complete inputs schemas same_graph world from =
    let w : World = run g count ks (start g S.inputs count) in
    let ok : IsSound S g schemas.number w = sound S g count ks inputs schemas in
    let here : IsReportFrom (record { graph = g; count = count; keeps = keeps.All; world = w }) b r =
    from_same m g count w b r same_graph world from in
    let some : SaysSome S r = says_some S g schemas.number count w b r ok here in
    record {
      says = true_in S g count w b r r.ending (λ i f k. ok.faults f (Among-from_at f (faults g w) i k))
          (complete S g count ks inputs schemas)
          some here (here.waits_rise (AreApartBy-waiting S g schemas.number w ok)) here.ends;
      some = some;
    }

module _ (S : Source) (g : Parts) (count steps : ℕ) (inputs : AreInputs S.checked S.inputs)
    (schemas : Schemas S.checked g) where
  -- the order of a run on threads is that of a run by positions
  by_positions : (m : MachineView) → (k : IsRun g S.inputs count steps m) → IsRunOf g S.inputs count (k.order).0 m.world
  by_positions m k = k.runs (k.order).0 (k.order).1

  pub IsTrueOf-run : (m : MachineView) (b : Bool) (r : Report) → Soundness → QuietIsComplete
      → IsRun g S.inputs count steps m → IsReportFrom m b r → IsTrueOf S b r
  IsTrueOf-run m b r sound complete k from =
      let at = by_positions m k in
      IsTrueOf-laws S g count at.positions m b r sound complete inputs schemas k.graph_is at.end from

  -- and in none an event is `Stuck`
  moves_on : NeverStuck → (m : MachineView) → IsRun g S.inputs count steps m → MovesOn m.world
  moves_on never m k =
      let at = by_positions m k in
      λ v a. (never S g count at.positions inputs schemas).goes_on v
      (subst (λ (es : List State). Among v (shown.events_of es)) (sym (at.end).elements) a)

  not_stuck : NeverStuck → IsStuckRun g S.inputs count steps → ⊥
  not_stuck never h = h.stuck (moves_on never h.machine h.run)

  -- so no run is refused as stuck
  pub not_refused : NeverStuck → (h : Parts) (e : RunError) → h ≡ g → e ≡ Stuck → IsRefusedRun h S.inputs count steps e
      → ⊥
  not_refused never h e same is why =
      not_stuck never (subst (λ (x : RunError). IsRefusedRun g S.inputs count steps x) is
      (subst (λ (x : Parts). IsRefusedRun x S.inputs count steps e) same why))
