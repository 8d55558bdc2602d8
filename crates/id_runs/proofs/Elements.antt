-- The records of elements of one graph, in order of their numbers.
use Rattle.std.proofs.Common.{◌≡◌, ℕ, zero, suc, ◌+◌, ◌<◌, Some, List, [], ◌∷◌, map}
use Rattle.std.proofs.Common.{length, slice_get, refl, ap, ◌∙◌, subst, arith}
use Rattle.std.specs.List.{AllByRecursion}
use Rattle.std.specs.Prelude.{All, slice_index_or}
use Rattle.id_instr.specs.Graph.{Parts}
use Rattle.id_step.specs.Steps.{State}
use Rattle.id_step.specs.Replays.{ElementView, IsLegal, IsReplayed, Replays}
use Rattle.id_core.specs.Machines.{AreElements, IsElement}
use Rattle.id_runs.specs.Orders.{AreReplayed}

module _ (g : Parts) (count : ℕ) where
  length-states : (es : List ElementView) → length (map (λ e. e.state) es) ≡ length es
  length-states [] = refl
  length-states (e ∷ es) = ap suc (length-states es)

  -- the record of the element n leads to its state, by legal events
  abbrev IsLed : ℕ → State → Type 0
  IsLed n s = IsReplayed g n s × All (IsLegal g count n) s.events

  led : (n : ℕ) (e : ElementView) → IsElement g count n e → Replays e → IsLed n e.state
  led n e h r =
      let state = subst (λ (x : Parts). IsReplayed x e.number e.state) h.graph r.state in
      let legal = subst (λ (x : Parts). All (IsLegal x e.count e.number) e.state.events) h.graph r.legal in
      let counted = subst (λ (k : ℕ). All (IsLegal g k e.number) e.state.events) h.count_is legal in (
        subst (λ (k : ℕ). IsReplayed g k e.state) h.number state,
        subst (λ (k : ℕ). All (IsLegal g count k) e.state.events) h.number counted,
      )

  each : (k : ℕ) (es : List ElementView)
      → ((n : ℕ) (d : ElementView) → n < length es → IsElement g count (k + n) (slice_index_or es n d))
      → AllByRecursion Replays es → (n : ℕ) (s : State) → slice_get (map (λ e. e.state) es) n ≡ Some s → IsLed (k + n) s
  each k [] numbers replays n s at = absurd cc
  each k (e ∷ es) numbers replays zero s at =
      let here : e.state ≡ s = cc in
      subst (λ x. IsLed (k + 0) x) here (led (k + 0) e (numbers 0 e (omega arith)) replays.0)
  each k (e ∷ es) numbers replays (suc n) s at =
      let num : suc k + n ≡ k + suc n = omega arith in
      subst (λ j. IsLed j s) num (each (suc k) es (λ m d lt.
      let next : k + suc m ≡ suc k + m = omega arith in
      subst (λ j. IsElement g count j (slice_index_or es m d)) next (numbers (suc m) d (omega arith))) replays.1 n s at)

  -- where each element has its place in the list as its number, and its record leads to its state, so do their states
  pub AreReplayed-from : (es : List ElementView) → length es ≡ count → AreElements g count es
      → AllByRecursion Replays es → AreReplayed g count (map (λ e. e.state) es)
  AreReplayed-from es len numbers replays = record {
    len = length-states es ∙ len;
    replayed = λ n s at. (all n s at).0;
    legal = λ n s at. (all n s at).1;
  }
    where
      all : (n : ℕ) (s : State) → slice_get (map (λ e. e.state) es) n ≡ Some s → IsLed n s
      all n s at =
          let num : 0 + n ≡ n = omega arith in
          subst (λ j. IsLed j s) num (each 0 es (λ m d lt.
          let next : m ≡ 0 + m = omega arith in
          subst (λ j. IsElement g count j (slice_index_or es m d)) next (numbers m d lt)) replays n s at)
