-- Lemmas on specs/Status.antt: with enough steps a run falls quiet or shows a fault, and each tells of its source.
use Rattle.std.proofs.Common.{◌≡◌, inl, inr, ℕ, ◌-◌, ◌*◌, ◌^◌, ◌≤◌, ◌<◌, Bool, List, length, refl, sym, subst, arith}
use Rattle.std.proofs.Math.Nat.{mul-le-mul_left}
use Rattle.std.specs.Prelude.{All}
use Rattle.id_value.specs.List.{Among}
use Rattle.id_value.proofs.AmongLemmas.{Among-from_at}
use Rattle.id_value.proofs.DifferLemmas.{AllDiffer-few}
use Rattle.id_instr.specs.Graph.{Parts}
use Rattle.id_source.specs.declared.SourceFault.{SourceFault}
use Rattle.id_source.specs.Sources.{Source, AreInputs, source}
use Rattle.id_source.specs.Rounds.{Faulty, FaultFree}
use Rattle.id_observe.proofs.FirstsLemmas.{first_is_shown}
use Rattle.id_core.specs.Events.{AllWent}
use Rattle.id_core.specs.Firsts.{IsFirstFault}
use Rattle.id_core.specs.Machines.{World, IsQuiet}
use Rattle.id_core.specs.Steps.{State}
use Rattle.id_core.specs.Observed as shown
use Rattle.id_runs.specs.Legal.{IsSameBut}
use Rattle.id_laws.specs.Determinate.{RunOf, end_of}
use Rattle.id_laws.specs.Laws.{IsComplete, IsSound, QuietIsComplete, Soundness}
use Rattle.id_laws.specs.Bounded.{Bounded, messages_at_once}
use Rattle.id_laws.proofs.Bounding.StampsLemmas.{none_left}
use Rattle.id_build.specs.Own.{schemas_of}
use Rattle.id_engine.specs.Runs.{Ends}
use Rattle.id_engine.specs.Runs.Ends.{fault, quiet, stopped}
use Rattle.id_promises.specs.Stopped.{NeedsMore}
use Rattle.id_promises.specs.Status.{AreEnough, StatusTold, TellsFaults}
use Rattle.id_promises.proofs.HeldBackLemmas.{IsLeft, inputs_of, left_short, same_itself}

-- how a run ends, by its status
pub data EndsBy (g : Parts) (count steps : ℕ) (w : World) (status : ℕ) : Type 0 where
  in_quiet : status ≡ 0 → IsQuiet w → EndsBy g count steps w status
  at_fault : status ≡ 1 → (f : SourceFault) → IsFirstFault g w.elements f → EndsBy g count steps w status
  with_some : IsLeft count steps w → EndsBy g count steps w status

pub ends_by : (g : Parts) (count steps : ℕ) (w : World) (text : List ℕ) (b : Bool) (status : ℕ) (bytes : List ℕ)
    → Ends g count steps w text b status bytes → EndsBy g count steps w status
ends_by g count steps w text b _ _ (quiet ns hs waits still sorted held waiting) = in_quiet refl still
ends_by g count steps w text b _ _ (fault f first) = at_fault refl f first
ends_by g count steps w text b _ _ (stopped ns hs none left all sorted held) =
    with_some (record { some = left; held = all })

-- where steps are enough, no source needs more
not_short : (S : Source) (g : Parts) (steps : ℕ) → AreEnough S g steps → NeedsMore S g steps → ⊥
not_short S g steps h n =
    let few : length n.paths ≤ length h.paths =
    AllDiffer-few n.paths h.paths n.differ (λ p k. h.active p (n.active p k)) in
    let most : messages_at_once g * length n.paths ≤ messages_at_once g * length h.paths =
    mul-le-mul_left (messages_at_once g) few in
    omega (arith, most, h.enough, n.more)

-- what a status of 0 tells, and one of 1
told_free : (S : Source) (status : ℕ) → status ≡ 0 → FaultFree S → TellsFaults S status
told_free S status zero_is free = record {
  one = inl zero_is;
  free = ((λ h. free), (λ h. zero_is));
  faulty = ((λ h. absurd (omega (arith, zero_is, h))), (λ h. absurd (free h.0 h.1)));
}

told_fault : (S : Source) (status : ℕ) → status ≡ 1 → (f : SourceFault) → Faulty S f → TellsFaults S status
told_fault S status one_is f fault_is = record {
  one = inr one_is;
  free = ((λ h. absurd (omega (arith, one_is, h))), (λ h. absurd (h f fault_is)));
  faulty = ((λ h. (f, fault_is)), (λ h. one_is));
}

-- a state that is one with that of a run but for the order of what is in flight
module _ (bounded : Bounded) (sound : Soundness) (complete : QuietIsComplete) (S : Source)
    (inputs : AreInputs S.checked S.inputs) (r : RunOf S)
    (w : World) (same : IsSameBut (end_of S r) w) where
  free_there : IsQuiet w → FaultFree S
  free_there q =
      let still : IsQuiet (end_of S r) = record {
        empty = none_left same.flight q.empty;
        went = subst (λ (es : List State). All (λ e. AllWent e.events) es) (sym same.elements) q.went;
      } in
      let c : IsComplete S r.graph (end_of S r) = complete S r.graph r.count r.positions inputs r.schemas still in
      c.no_fault

  fault_there : (f : SourceFault) → IsFirstFault r.graph w.elements f → Faulty S f
  fault_there f first =
      let s : IsSound S r.graph r.schemas.number (end_of S r) = sound S r.graph r.count r.positions inputs r.schemas in
      let there = first_is_shown r.graph w.elements f first in
      let here : Among f (shown.faults_in r.graph w.elements) =
      Among-from_at f (shown.faults_in r.graph w.elements) there.0 there.1 in
      s.faults f (subst (λ (es : List State). Among f (shown.faults_in r.graph es)) (sym same.elements) here)

  pub told_there : (steps status : ℕ) → steps < 2 ^ 64 - 1 → AreEnough S r.graph steps
      → EndsBy r.graph r.count steps w status → TellsFaults S status
  told_there steps status small enough (in_quiet is q) = told_free S status is (free_there q)
  told_there steps status small enough (at_fault is f first) = told_fault S status is f (fault_there f first)
  told_there steps status small enough (with_some left) =
      absurd (not_short S r.graph steps enough (left_short bounded S inputs r w same steps small left))

pub StatusTold-laws : Bounded → Soundness → QuietIsComplete → StatusTold
StatusTold-laws bounded sound complete = record {
  of_runs = λ S inputs r steps status text b bytes small enough printed.
      told_there bounded sound complete S inputs r (end_of S r) (same_itself S r) steps status small enough
      (ends_by r.graph r.count steps (end_of S r) text b status bytes printed);
  of_program = λ text words count steps status t b old new result small h enough.
      let S = source h.program h.inputs in
      let at = (h.run).runs ((h.run).order).0 ((h.run).order).1 in
      let r : RunOf S =
      record { graph = h.graph; schemas = schemas_of h.own; count = count; positions = at.positions } in
      told_there bounded sound complete S (inputs_of h.program words h.inputs h.are_inputs) r (h.machine).world at.end
      steps status small enough
      (ends_by h.graph count steps (h.machine).world text b status h.output h.ends);
}
