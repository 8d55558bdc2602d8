-- What an element keeps, by what its storage says of a message.
use Rattle.std.proofs.Common.{◌≡◌, ℕ, List, Option, None, Some, sym, ap, subst}
use Rattle.std.specs.Prelude.{All}
use Rattle.id_instr.specs.Graph.{Parts}
use Rattle.id_valid.specs.Validator.{IsValid}
use Rattle.id_tag.specs.declared.Message.{Message}
use Rattle.id_record.specs.declared.step.Step.{Step}
use Rattle.id_step.specs.declared.storage.Storage.{Storage}
use Rattle.id_step.specs.Storage.{element_at, state_of}
use Rattle.id_step.specs.Firings.{IsBound}
use Rattle.id_step.specs.Fits.{Fits, IsFor}
use Rattle.id_step.specs.Kept.{IsKept}
use Rattle.id_step.specs.Replays.{ElementView}
use Rattle.id_step.specs.Steps.{outputs_of}
use Rattle.id_step.specs.Takes.{Becomes}
use Rattle.id_step.proofs.OutcomeLemmas.{outputs_fit}
use Rattle.id_step.proofs.ReplaysLemmas.{Replays-becomes}

-- an element stays of its graph and has its number
graph_stays : (e e' : ElementView) (m : Message) (list rest list' : List Message) (o : Option Step)
    → Becomes e e' m list rest list' o → e'.graph ≡ e.graph
graph_stays e e' m list rest list' (Some s) done = ap (λ v. v.graph) done.element
graph_stays e e' m list rest list' None done = ap (λ v. v.graph) done.element

number_stays : (e e' : ElementView) (m : Message) (list rest list' : List Message) (o : Option Step)
    → Becomes e e' m list rest list' o → e'.number ≡ e.number
number_stays e e' m list rest list' (Some s) done = ap (λ v. v.number) done.element
number_stays e e' m list rest list' None done = ap (λ v. v.number) done.element

-- what it keeps it keeps, whatever became of a message for it
pub stays : (e : ElementView) (d d' : Storage) (m : Message) (list rest list' : List Message) (o : Option Step)
    (most : ℕ) → element_at d ≡ e → IsFor e.graph e.count e.number m
    → Becomes (element_at d) (element_at d') m list rest list' o → IsKept (element_at d) most
    → IsKept (element_at d') most
stays e d d' m list rest list' o most is for done kept =
    let for_it : IsFor d.log.graph d.count d.log.element m =
    subst (λ (v : ElementView). IsFor v.graph v.count v.number m) (sym is) for in
    let graph = graph_stays _ _ m list rest list' o done in
    record {
      replays = Replays-becomes (element_at d) (element_at d') m list rest list' o for_it done kept.replays;
      valid = subst IsValid (sym graph) kept.valid;
      bound = subst (λ (g : Parts). IsBound g d'.log.element most) (sym graph)
          (subst (λ n. IsBound d.log.graph n most) (sym (number_stays _ _ m list rest list' o done)) kept.bound);
    }

-- what a message for it sends fits
pub sends_fit : (e : ElementView) (d : Storage) (m : Message) (most : ℕ) → element_at d ≡ e → IsKept (element_at d) most
    → IsFor e.graph e.count e.number m → All (Fits e.graph) (outputs_of e.graph e.number e.state m)
sends_fit e d m most is kept for =
    let P : ElementView → Type 0 = λ v. All (Fits v.graph) (outputs_of v.graph v.number v.state m) in
    let fits : Fits d.log.graph m = subst (λ (v : ElementView). Fits v.graph m) (sym is) for.fits in
    subst P is
    (outputs_fit d.log.graph d.log.element (state_of d) m kept.valid kept.replays.waiting kept.replays.cells fits)
