-- Lemmas on specs/Merged.antt: the records of elements whose numbers rise can be merged.
use Rattle.std.proofs.Common.{◌≡◌, ℕ, ◌+◌, ◌<◌, ◌≤◌, max, List, [], ◌∷◌, map, refl, sym, subst, arith}
use Rattle.std.specs.List.{AllByRecursion}
use Rattle.std.specs.List.Sorted.{IsStrictlySortedBy}
use Rattle.std.specs.Ordering.{nat_cmp}
use Rattle.std.specs.declared.cmp.Ordering.TheVariants.{Less}
use Rattle.std.proofs.lemmas.Bool.Decides.{nat_tests}
use Rattle.id_tag.specs.declared.Message.{Message}
use Rattle.id_instr.specs.Graph.{Parts}
use Rattle.id_record.specs.Events.{EventView}
use Rattle.id_observe.specs.Merged.{by_moment, AreRecords, IsBelow}
use Rattle.id_step.specs.Replays.{ElementView, Replays, after_all, messages}
use Rattle.id_step.specs.Steps.{State, fresh, state_after, event_of, next_stamp}
use Rattle.id_observe.proofs.MergedLemmas.{earlier_stamp}
use Rattle.id_record.proofs.EachLemmas.{each-append, each-weaker}
use Rattle.id_observe.proofs.OrderedLemmas.{sorted-push}

-- the events of a record are its element's, and their stamps rise to the last one
pub record IsRising (n : ℕ) (s : State) : Type 0 where
  pub sorted : IsStrictlySortedBy by_moment s.events
  pub within : AllByRecursion (λ e. e.stamp ≤ s.stamp) s.events
  pub own : AllByRecursion (λ e. e.element ≡ n) s.events

IsRising-fresh : (n : ℕ) → IsRising n fresh
unfolding IsStrictlySortedBy
IsRising-fresh n = record { sorted = tt; within = tt; own = tt }

IsRising-take : (g : Parts) (n : ℕ) (s : State) (m : Message) → IsRising n s → IsRising n (state_after g n s m)
IsRising-take g n s m old =
    let above : s.stamp < max s.stamp m.stamp + 1 = omega arith in
    record {
      sorted = sorted-push by_moment s.events (event_of g n s m) old.sorted
          (each-weaker (λ e. e.stamp ≤ s.stamp) (λ e. by_moment e (event_of g n s m) ≡ Less)
          (λ e le. earlier_stamp e (event_of g n s m) (omega arith))
          s.events old.within);
      within = each-append (λ (e : EventView). e.stamp ≤ next_stamp s m) s.events (event_of g n s m ∷ [])
          (each-weaker (λ e. e.stamp ≤ s.stamp) (λ e. e.stamp ≤ next_stamp s m) (λ e le. omega arith) s.events
          old.within)
          (omega arith, tt);
      own = each-append (λ (e : EventView). e.element ≡ n) s.events (event_of g n s m ∷ []) old.own (refl, tt);
    }

IsRising-all : (g : Parts) (n : ℕ) (s : State) (ms : List Message) → IsRising n s → IsRising n (after_all g n s ms)
IsRising-all g n s [] old = old
IsRising-all g n s (m ∷ ms) old = IsRising-all g n (state_after g n s m) ms (IsRising-take g n s m old)

pub IsRising-from : (e : ElementView) → Replays e → IsRising e.number e.state
IsRising-from e replays = subst (IsRising e.number) (sym replays.state)
    (IsRising-all e.graph e.number fresh (messages e.state.events) (IsRising-fresh e.number))

pub number_below : (m n : ℕ) → nat_cmp m n ≡ Less → m < n
number_below m n less = grind (arith, nat_tests)

-- an event of an element of a lower number is below all of these
below_elements : (x : EventView) (n : ℕ) (es : List ElementView) → x.element ≡ n
    → AllByRecursion (λ m. nat_cmp n m ≡ Less) (map (λ e. e.number) es) →
    AllByRecursion Replays es → IsBelow (map (λ e. e.state.events) es) x
below_elements x n [] own above replay = tt
below_elements x n (e ∷ es) own above replay =
    let lower : n < e.number = number_below n e.number above.0 in (
      each-weaker (λ y. y.element ≡ e.number) (λ y. x.element < y.element) (λ y is. omega arith) e.state.events
          (IsRising-from e replay.0).own,
      below_elements x n es own above.1 replay.1,
    )

-- the records of elements whose numbers rise
pub AreRecords-from : (es : List ElementView) → IsStrictlySortedBy nat_cmp (map (λ e. e.number) es)
    → AllByRecursion Replays es →
    AreRecords (map (λ e. e.state.events) es)
unfolding IsStrictlySortedBy
AreRecords-from [] rise replay = tt
AreRecords-from (e ∷ es) rise replay =
    let rising = IsRising-from e replay.0 in (
      rising.sorted,
      each-weaker (λ x. x.element ≡ e.number) (IsBelow (map (λ d. d.state.events) es))
          (λ x own. below_elements x e.number es own rise.0 replay.1)
          e.state.events rising.own,
      AreRecords-from es rise.1 replay.1,
    )
