-- What is said of events, by what is said of the first of them.
use Rattle.std.proofs.Common.{◌≡◌, ℕ, ◌+◌, List, Some, length, slice_get, take, sym, ap, ◌∙◌, subst, arith}
use Rattle.std.proofs.lemmas.List.{take_all}
use Rattle.id_instr.specs.Graph.{Parts}
use Rattle.id_value.specs.declared.Constant.{Constant}
use Rattle.id_observe.proofs.WalksLemmas.{take-next}
use Rattle.id_record.specs.declared.kept.Keeps.{Keeps}
use Rattle.id_record.specs.declared.kept.Keeps.TheVariants as keeps
use Rattle.id_core.specs.Events.{EventView}
use Rattle.id_core.specs.Machines.{MachineView, World, start}
use Rattle.id_runs.specs.Legal.{LeadTo}
use Rattle.id_runs.specs.Orders.{IsLegalOrder}
use Rattle.id_runs.proofs.Weights.{same_order}
use Rattle.id_judge.specs.declared.verdict.Cause.{Cause}
use Rattle.id_judge.specs.Verdicts.{Follows, IsCause, IsFirst}
use Rattle.id_judge.proofs.FollowLemmas.{is_first, lead_more}

-- one event more
pub next_lead : (g h : Parts) (vs : List Constant) (count n : ℕ) (es : List EventView) (i : ℕ) (v : EventView)
    (w x : World) → h ≡ g → n ≡ count → slice_get es i ≡ Some v → LeadTo g count (start g vs count) (take i es) w
    → Follows h n w v x
    → LeadTo g count (start g vs count) (take (i + 1) es) x
next_lead g h vs count n es i v w x graph many at lead f =
    let F : Parts → Type 0 = λ y. Follows y n w v x in
    let H : ℕ → Type 0 = λ j. Follows g j w v x in
    let f' : Follows g count w v x = subst H many (subst F graph f) in
    let P : List EventView → Type 0 = λ xs. LeadTo g count (start g vs count) xs x in
    subst P (sym (take-next es i v at)) (lead_more g count lead v x f')

-- the first that cannot follow
pub first_is : (g h : Parts) (vs : List Constant) (count n : ℕ) (es : List EventView) (i : ℕ) (v : EventView)
    (w : World) (cause : Cause) → h ≡ g → n ≡ count → slice_get es i ≡ Some v
    → LeadTo g count (start g vs count) (take i es) w → IsCause h n w v cause → IsFirst g vs count es i cause
first_is g h vs count n es i v w cause graph many at lead why =
    let F : Parts → Type 0 = λ y. IsCause y n w v cause in
    let H : ℕ → Type 0 = λ j. IsCause g j w v cause in
    is_first g vs count es i v w cause at lead (subst H many (subst F graph why))

-- all of them
pub legal_is : (g h : Parts) (vs : List Constant) (count n : ℕ) (es : List EventView) (w : World) (k : Keeps)
    (m : MachineView) → h ≡ g → n ≡ count → k ≡ keeps.All → LeadTo g count (start g vs count) (take (length es) es) w
    → m ≡ record { graph = h; count = n; keeps = k; world = w }
    → (m.graph ≡ g) × (m.count ≡ count) × (m.keeps ≡ keeps.All) × IsLegalOrder g vs count es m.world
legal_is g h vs count n es w k m graph many kept lead is =
    let P : List EventView → Type 0 = λ xs. LeadTo g count (start g vs count) xs w in
    let order : IsLegalOrder g vs count es w = record {
      flight = w.flight;
      lead = subst P (take_all (length es) es (omega arith)) lead;
      in_flight = same_order w.flight;
    } in (
      ap (λ (x : MachineView). x.graph) is ∙ graph,
      ap (λ (x : MachineView). x.count) is ∙ many,
      ap (λ (x : MachineView). x.keeps) is ∙ kept,
      subst (λ (x : World). IsLegalOrder g vs count es x) (sym (ap (λ (x : MachineView). x.world) is)) order,
    )
