-- What is gathered from workers (specs/Gathered.antt).
use Rattle.std.proofs.Common.{◌≡◌, ℕ, zero, suc, ◌+◌, List, [], ◌∷◌, get_or, map, refl, sym, ap, subst, ◌∙◌, arith}
use Rattle.std.specs.List.{sum_by}
use Rattle.std.proofs.lemmas.List.Sums.{sum_by-cons}
use Rattle.id_instr.specs.Graph.{Parts}
use Rattle.id_tag.specs.declared.Message.{Message}
use Rattle.id_flight.specs.Queues.{QueueView}
use Rattle.id_inbox.specs.Doors.{DoorView}
use Rattle.id_inbox.specs.Hands.{weight_in}
use Rattle.id_record.specs.declared.kept.Keeps.{Keeps}
use Rattle.id_step.specs.Steps.{State}
use Rattle.id_step.specs.Replays.{ElementView}
use Rattle.id_runs.specs.Accounts.{sent_of, taken_of}
use Rattle.id_elements.specs.Doors.{IsCut, IsMerged}
use Rattle.id_elements.specs.Gathered.{AreGathered, IsGathered, IsWhole}
use Rattle.id_elements.specs.Workers.{IsKept, WorkerView, sent_in, weight_held, weight_taken}

-- a cut leaves the whole as it is
pub whole_cut : (start : List Message) (old new : List DoorView) → IsCut old new → IsWhole start old [] []
    → IsWhole start new [] []
whole_cut start old new cut whole f = let a = cut.sent f in let b = cut.taken f in let w = whole f in omega arith

-- the messages of letters weigh as much as the letters
weight_letters : (f : Message → ℕ) (qs : List QueueView)
    → sum_by (sum_by f) (map (λ (q : QueueView). q.messages) qs) ≡ weight_in f qs
weight_letters f [] = refl
weight_letters f (q ∷ qs) =
    let a : sum_by (sum_by f) (map (λ (x : QueueView). x.messages) (q ∷ qs)) ≡ sum_by f q.messages
    + sum_by (sum_by f) (map (λ (x : QueueView). x.messages) qs) =
    sum_by-cons (sum_by f) q.messages (map (λ (x : QueueView). x.messages) qs) in
    let b : weight_in f (q ∷ qs) ≡ sum_by f q.messages + weight_in f qs =
    sum_by-cons (λ (x : QueueView). sum_by f x.messages) q qs in
    omega (arith, a, b, weight_letters f qs)

-- what a worker has is taken in
pub whole_gathered : (start : List Message) (old new : List DoorView) (ss : List State) (before after : List Message)
    (w : WorkerView) → IsMerged old w.doors new → IsKept w
    → ((f : Message → ℕ) → sum_by f after ≡ sum_by f before + weight_held f w)
    → IsWhole start old ss before → IsWhole start new (w.element.state ∷ ss) after
whole_gathered start old new ss before after w merged kept left whole f =
    let a = merged.sent f in
    let b = merged.taken f in
    let c = kept.square f in
    let d = left f in
    let e = whole f in
    let s : sent_of f (w.element.state ∷ ss) ≡ sum_by f (sent_in w.element.state) + sent_of f ss =
    sum_by-cons (λ (x : State). sum_by f (sent_in x)) w.element.state ss in
    let t : taken_of f (w.element.state ∷ ss) ≡ weight_taken f w.element.state + taken_of f ss =
    sum_by-cons (weight_taken f) w.element.state ss in
    omega (arith, a, b, c, d, e, s, t)

-- so are its parts
pub whole_parts : (start : List Message) (old new : List DoorView) (ss : List State) (before after : List Message)
    (w : WorkerView)
    → (ds : List DoorView) (e : ElementView) (own came back stray : List Message) (letters : List QueueView)
    → ds ≡ w.doors → e ≡ w.element → own ≡ w.own → came ≡ w.came → back ≡ w.back → stray ≡ w.stray
    → map (λ (q : QueueView). q.messages) letters ≡ w.letters → IsMerged old ds new → IsKept w
    → ((f : Message → ℕ) → sum_by f after
    ≡ sum_by f before + sum_by f own + sum_by f came + sum_by f back + sum_by f stray + weight_in f letters)
    → IsWhole start old ss before → IsWhole start new (e.state ∷ ss) after
whole_parts start old new ss before after w ds e own came back stray letters ds_is e_is own_is came_is back_is stray_is
    letters_are merged kept left whole =
    let m : IsMerged old w.doors new = subst (λ (xs : List DoorView). IsMerged old xs new) ds_is merged in
    subst (λ (x : ElementView). IsWhole start new (x.state ∷ ss) after) (sym e_is)
    (whole_gathered start old new ss before after w m kept weights whole)
  where
    weights : (f : Message → ℕ) → sum_by f after ≡ sum_by f before + weight_held f w
    weights f =
        let l = left f in
        let a : sum_by f own ≡ sum_by f w.own = ap (sum_by f) own_is in
        let b : sum_by f came ≡ sum_by f w.came = ap (sum_by f) came_is in
        let c : sum_by f back ≡ sum_by f w.back = ap (sum_by f) back_is in
        let d : sum_by f stray ≡ sum_by f w.stray = ap (sum_by f) stray_is in
        let e : weight_in f letters ≡ sum_by (sum_by f) w.letters =
        sym (weight_letters f letters) ∙ ap (sum_by (sum_by f)) letters_are in
        omega (arith, l, a, b, c, d, e)

-- an element before those that follow it
pub gathered_more : (g : Parts) (count most : ℕ) (keeps : Keeps) (n : ℕ) (e : ElementView) (es : List ElementView)
    → IsGathered g count most keeps n e → AreGathered g count most keeps (n + 1) es
    → AreGathered g count most keeps n (e ∷ es)
gathered_more g count most keeps n e es mine kept zero d lt =
    subst (λ (k : ℕ). IsGathered g count most keeps k e) (let k : n ≡ n + 0 = omega arith in k) mine
gathered_more g count most keeps n e es mine kept (suc i) d lt =
    subst (λ (k : ℕ). IsGathered g count most keeps k (get_or es i d)) (let k : (n + 1) + i ≡ n + suc i = omega arith in
    k) (kept i d (omega arith))
