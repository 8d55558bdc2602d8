-- Lemmas on specs/Stopped.antt: what is held back counts against the paths that pay for the messages of a run.
use Rattle.std.proofs.Common.{◌≡◌, ◌≢◌, ◌⊎◌, inl, inr, ℕ, ◌-◌, ◌^◌, ◌≤◌, ◌<◌, Bool, List, [], ◌∷◌, length, refl, ap}
use Rattle.std.proofs.Common.{arith}
use Rattle.std.specs.Prelude.{All, IsTrue}
use Rattle.id_value.specs.List.{Among}
use Rattle.id_instr.specs.Graph.{Parts}
use Rattle.id_tag.specs.declared.Message.{Message}
use Rattle.id_tag.specs.Routes.{route_of}
use Rattle.id_value.specs.declared.Constant.{Constant}
use Rattle.id_check.specs.declared.checked.Checked.{Checked}
use Rattle.id_source.specs.Inputs.{AreInputsOf, wanted}
use Rattle.id_source.proofs.InputsLemmas.{are-inputs}
use Rattle.id_source.specs.Sources.{Source, AreInputs, source}
use Rattle.id_core.specs.Machines.{World}
use Rattle.id_core.specs.Steps.{is_ended}
use Rattle.id_core.specs.Observed.{events_of}
use Rattle.id_runs.specs.Legal.{IsSameBut}
use Rattle.id_runs.proofs.RecordsOfRuns.{of_all}
use Rattle.id_elements.specs.Runs.{IsHeldBack}
use Rattle.id_laws.specs.Determinate.{RunOf, end_of}
use Rattle.id_laws.specs.Laws.{events, messages}
use Rattle.id_laws.specs.Bounded.{Bounded, IsBounded}
use Rattle.id_laws.proofs.Bounding.RestLemmas.{messages_many}
use Rattle.id_laws.proofs.Bounding.StampsLemmas.{AreStamped, AreStamped-same, as_many, ended_late, events_few}
use Rattle.id_laws.proofs.Bounding.StampsLemmas.{same_order, stamped}
use Rattle.id_build.specs.Own.{schemas_of}
use Rattle.id_engine.specs.Runs.{Ends}
use Rattle.id_engine.specs.Runs.Ends.{fault, quiet, stopped}
use Rattle.id_promises.specs.Stopped.{NeedsMore, StoppedShort}

-- a list that is not empty has a first item
pub first_of : {A : Type 0} (xs : List A) → xs ≢ [] → (x : A) × Among x xs × (0 < length xs)
first_of [] some = absurd (some refl)
first_of (x ∷ xs) some = (x, inl refl, omega arith)

-- where a message is held back, so many were handled
held_many : (count steps : ℕ) (w : World) (m : Message) → steps < 2 ^ 64 - 1 → AreStamped count w → Among m w.flight
    → IsHeldBack count steps w m → steps ≤ length (events w)
held_many count steps w m small stamps here h = by h.held
  where
    by : (length h.state.events ≡ steps) ⊎ IsTrue (is_ended h.state m) → steps ≤ length (events w)
    by (inl e) = omega (arith, e, events_few w.elements (route_of m.payload count) h.state h.element)
    by (inr ended) =
        omega (arith, small, ended_late count w (route_of m.payload count) h.state m stamps h.element here ended)

-- so what is left and held back is paid for by more paths
held_short : (S : Source) (g : Parts) (count steps : ℕ) (w : World) → steps < 2 ^ 64 - 1 → IsBounded S g w
    → AreStamped count w → w.flight ≢ [] → All (IsHeldBack count steps w) w.flight → NeedsMore S g steps
held_short S g count steps w small b stamps left held =
    let x = first_of w.flight left in
    let many = held_many count steps w x.0 small stamps x.1 (of_all (IsHeldBack count steps w) w.flight x.0 held x.1) in
    record {
      paths = b.paths;
      differ = b.differ;
      active = b.active;
      more =
          omega (arith, many, x.2, b.few, messages_many w);
    }

-- what is left where a run stops
pub record IsLeft (count steps : ℕ) (w : World) : Type 0 where
  pub some : w.flight ≢ []
  pub held : All (IsHeldBack count steps w) w.flight

left_at : (g : Parts) (count steps : ℕ) (w : World) (text : List ℕ) (b : Bool) (status : ℕ) (bytes : List ℕ)
    → status ≡ 3 → Ends g count steps w text b status bytes → IsLeft count steps w
left_at g count steps w text b _ _ e (quiet ns hs waits still sorted held waiting) = absurd (omega (arith, e))
left_at g count steps w text b _ _ e (fault f first) = absurd (omega (arith, e))
left_at g count steps w text b _ _ e (stopped ns hs none left all sorted held) = record { some = left; held = all }

-- a state that is one with that of a run but for the order of what is in flight
module _ (bounded : Bounded) (S : Source) (inputs : AreInputs S.checked S.inputs) (r : RunOf S) (w : World)
    (same : IsSameBut (end_of S r) w) where
  stamps_there : AreStamped r.count w
  stamps_there = AreStamped-same r.count (end_of S r) w same (stamped r.graph S.inputs r.count r.positions)

  messages_there : length (messages w) ≡ length (messages (end_of S r))
  messages_there =
      let handled : length (events (end_of S r)) ≡ length (events w) = ap (λ es. length (events_of es)) same.elements in
      omega (arith, messages_many w, messages_many (end_of S r), handled, as_many same.flight)

  bounded_there : IsBounded S r.graph w
  bounded_there =
      let b = bounded S inputs r in
      record { paths = b.paths; differ = b.differ; active = b.active; few = omega (arith, b.few, messages_there) }

  pub left_short : (steps : ℕ) → steps < 2 ^ 64 - 1 → IsLeft r.count steps w → NeedsMore S r.graph steps
  left_short steps small left =
      held_short S r.graph r.count steps w small bounded_there stamps_there left.some left.held

-- a state is one with itself
pub same_itself : (S : Source) (r : RunOf S) → IsSameBut (end_of S r) (end_of S r)
same_itself S r = record { elements = refl; flight = same_order (end_of S r).flight }

-- inputs that words give are inputs of the program
pub inputs_of : (P : Checked) (ws : List (List ℕ)) (vs : List Constant) → AreInputsOf P ws vs → AreInputs P vs
inputs_of P ws vs h =
    are-inputs P (wanted P) ws vs refl (record { taken = h.all_taken; enough = h.enough; values = h.values })

pub StoppedShort-laws : Bounded → StoppedShort
StoppedShort-laws bounded = record {
  of_runs = λ S inputs r steps text b bytes small printed.
      left_short bounded S inputs r (end_of S r) (same_itself S r) steps small
      (left_at r.graph r.count steps (end_of S r) text b 3 bytes refl printed);
  of_program = λ text words count steps t b old new result small h.
      let S = source h.program h.inputs in
      let at = (h.run).runs ((h.run).order).0 ((h.run).order).1 in
      let r : RunOf S =
      record { graph = h.graph; schemas = schemas_of h.own; count = count; positions = at.positions } in
      left_short bounded S (inputs_of h.program words h.inputs h.are_inputs) r (h.machine).world at.end steps small
      (left_at h.graph count steps (h.machine).world text b 3 h.output refl h.ends);
}
