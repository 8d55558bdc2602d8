-- Lemmas on specs/Moments.antt: a front of a legal list is a legal list, and so the list of a run of deliveries, which
-- is
-- sound.
use Rattle.std.proofs.Common.{◌≡◌, ℕ, List, [], ◌∷◌, ◌++◌, subst}
use Rattle.id_instr.specs.Graph.{Parts}
use Rattle.id_tag.specs.declared.Message.{Message}
use Rattle.id_source.specs.Sources.{AreInputs, Source, source}
use Rattle.id_core.specs.Events.{EventView}
use Rattle.id_core.specs.Machines.{World, run, start}
use Rattle.id_core.specs.Steps.{State}
use Rattle.id_runs.specs.Legal.{IsRunOf, LeadTo, LegalLists, no_more, follow}
use Rattle.id_laws.specs.Laws.{IsSound, Soundness}
use Rattle.id_build.specs.Own.{schemas_of}
use Rattle.id_build.specs.Schemas.{Schemas}
use Rattle.id_promises.specs.Moments.{AllMoments}
use Rattle.id_promises.proofs.HeldBackLemmas.{inputs_of}

-- what events lead to, their front leads to on the way
front_leads : {g : Parts} {count : ℕ} (front rest : List EventView) {w x : World} → LeadTo g count w (front ++ rest) x
    → (y : World) × LeadTo g count w front y
front_leads [] rest {w = w} l = (w, no_more)
front_leads (v ∷ front) rest (follow f l) = let there = front_leads front rest l in (there.0, follow f there.1)

-- what is sound is so by its elements alone
sound_there : (S : Source) (g : Parts) (number : ℕ → ℕ → ℕ) (w : World) (flight : List Message) → IsSound S g number w
    → IsSound S g number (record { elements = w.elements; flight = flight })
sound_there S g number w flight h = record {
  answer = h.answer;
  names = h.names;
  names_once = h.names_once;
  structures = h.structures;
  structures_once = h.structures_once;
  cells = h.cells;
  cells_once = h.cells_once;
  asks = h.asks;
  asks_once = h.asks_once;
  waiting = h.waiting;
  waiting_once = h.waiting_once;
  faults = h.faults;
  values = h.values;
}

pub sound_same : (S : Source) (g : Parts) (number : ℕ → ℕ → ℕ) (w x : World) → w.elements ≡ x.elements
    → IsSound S g number w → IsSound S g number x
sound_same S g number w x same h =
    let K : List State → Type 0 = λ es. IsSound S g number (record { elements = es; flight = x.flight }) in
    subst K same (sound_there S g number w x.flight h)

-- a state to which events lead from the start shows what is so
pub sound_led : Soundness → LegalLists
    → (S : Source) (g : Parts) (schemas : Schemas S.checked g) (count : ℕ) (es : List EventView) (w : World)
    → AreInputs S.checked S.inputs → LeadTo g count (start g S.inputs count) es w → IsSound S g schemas.number w
sound_led sound lists S g schemas count es w inputs lead =
    let r : IsRunOf g S.inputs count es w = lists.are_runs g S.inputs count es (record { end = w; lead = lead }) in
    sound_same S g schemas.number (run g count r.positions (start g S.inputs count)) w (r.end).elements
    (sound S g count r.positions inputs schemas)

pub AllMoments-laws : Soundness → LegalLists → AllMoments
AllMoments-laws sound lists = λ text words count t steps b old new status result. record {
  reached = λ h front rest merged. front_leads front rest ((h.run).legal (front ++ rest) merged).lead;
  sound = λ h es w merged m.
      sound_led sound lists (source h.program h.inputs) h.graph (schemas_of h.own) count m.front w
      (inputs_of h.program words h.inputs h.are_inputs) m.lead;
}
