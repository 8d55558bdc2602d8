-- A run in the order that a seed gives (specs/Runs.antt).
use Rattle.std.proofs.Common.{◌≡◌, ℕ, ◌+◌, ◌-◌, ◌*◌, ◌<◌, ◌≤◌, List, [], ◌∷◌, ◌++◌, All, length, replicate, refl, sym}
use Rattle.std.proofs.Common.{ap, subst, ◌∙◌, arith, length-append, get_or}
use Rattle.std.specs.List.{flat_map, sum_by}
use Rattle.std.proofs.lemmas.List.Elements.{All-replicate}
use Rattle.std.proofs.lemmas.List.Folds.{sum_by-replicate}
use Rattle.std.proofs.lemmas.List.Sums.{sum_by-le, sum_by-set}
use Rattle.std.proofs.lemmas.Option.{get_or_from_slice_get, slice_get_within}
use Rattle.id_instr.specs.Graph.{Parts}
use Rattle.id_value.specs.declared.Constant.{Constant}
use Rattle.id_tag.specs.Routes.{route_of}
use Rattle.id_record.specs.declared.kept.Keeps.{Keeps}
use Rattle.id_core.specs.Events.{AllWent, EventView}
use Rattle.id_core.specs.Steps.{State, event_of, fresh, outputs_of, state_after}
use Rattle.id_core.specs.Machines.{World, MachineView, delivered, start, start_messages, taken_from}
use Rattle.id_core.specs.Machines as machines
use Rattle.id_runs.specs.Accounts.{IsAccounted, sent_of, taken_of}
use Rattle.id_elements.specs.Runs.{AreHeldBefore, HasWent, IsByPositions, IsDelivered, IsFree, StopAtFaults}
use Rattle.id_elements.proofs.FinishLemmas.{IsFree-within, after_is, as_many, before_removed, goes_on, held_of, held_on}
use Rattle.id_elements.proofs.FinishLemmas.{stop_where_went, within_on}

-- ---- how many messages were handled

-- all elements together
abbrev pub handled : World → ℕ
handled w = sum_by (λ (s : State). length s.events) w.elements

pub handled_few : (steps : ℕ) (w : World) → All (λ (s : State). length s.events ≤ steps) w.elements
    → handled w ≤ length w.elements * steps
handled_few steps w few = sum_by-le (λ (s : State). length s.events) steps w.elements few

module _ (steps k : ℕ) (old new : MachineView) (f : IsFree old.count steps old.world k)
    (is : new ≡ record old { world = delivered old.graph old.count old.world k }) where
  abbrev number : ℕ
  number = route_of f.message.payload old.count

  abbrev next : State
  next = state_after old.graph number f.state f.message

  -- one more by each delivery
  pub handled_more : handled new.world ≡ handled old.world + 1
  handled_more =
      let here = slice_get_within old.world.elements number f.state f.element in
      let at : get_or old.world.elements number f.state ≡ f.state =
      get_or_from_slice_get old.world.elements number f.state f.state f.element in
      let s = sum_by-set (λ (x : State). length x.events) old.world.elements number next f.state here in
      let long = length-append f.state.events (event_of old.graph number f.state f.message ∷ []) in
      let e = ap handled (after_is steps k old new f is) in
      let b = ap (λ (x : State). length x.events) at in
      omega (arith, s, long, e, b)

  -- so there is less left that they may handle
  pub fewer_left : All (λ (s : State). length s.events ≤ steps) old.world.elements
      → length new.world.elements * steps - handled new.world < length old.world.elements * steps - handled old.world
  fewer_left few =
      let many = as_many steps k old new f is in
      let most = handled_few steps new.world (goes_on steps k old new f is few).few in
      subst (λ (n : ℕ). n * steps - handled new.world < length old.world.elements * steps - handled old.world)
      (sym many)
      (less (length old.world.elements * steps) (handled old.world) (handled new.world) handled_more
      (subst (λ (n : ℕ). handled new.world ≤ n * steps) many most))
    where
      less : (n a b : ℕ) → b ≡ a + 1 → b ≤ n → n - b < n - a
      less n a b more most = omega (arith, more, most)

  -- ---- what is held back before a position that is not behind the delivered one

  pub held_upto : (from : ℕ) → from ≤ k → AreHeldBefore old.count steps old.world from
      → AreHeldBefore new.count steps new.world from
  held_upto from le held = held_of steps k old new f is from on
    where
      on : AreHeldBefore old.count steps (taken_from old.graph k old.world f.message number f.state) from
      on j m lt at = held_on old.graph old.count steps old.world k f m
          (held j m lt
          (sym (before_removed old.world.flight (outputs_of old.graph number f.state f.message) k j
          (omega (arith, lt, le)) (IsFree-within old.count steps old.world k f)) ∙ at))

  pub within_upto : (from : ℕ) → from ≤ k → from ≤ length new.world.flight
  within_upto from le = let w = within_on steps k old new f is in omega (arith, w, le)

-- ---- where it has come to

-- no delivery yet
pub delivered_none : (g : Parts) (count : ℕ) (w : World) → IsDelivered g count w w
delivered_none g count w = record { positions = []; is = refl }

run_push : (g : Parts) (count : ℕ) (ks : List ℕ) (k : ℕ) (w : World)
    → machines.run g count (ks ++ k ∷ []) w ≡ delivered g count (machines.run g count ks w) k
run_push g count [] k w = refl
run_push g count (j ∷ js) k w = run_push g count js k (delivered g count w j)

-- one delivery more
pub delivered_more : (a b c : MachineView) (k : ℕ) → IsDelivered a.graph a.count a.world b.world → b.graph ≡ a.graph
    → b.count ≡ a.count → c ≡ record b { world = delivered b.graph b.count b.world k }
    → IsDelivered a.graph a.count a.world c.world
delivered_more a b c k d same_graph same_count is = record {
  positions = d.positions ++ k ∷ [];
  is = ap (λ (m : MachineView). m.world) is
      ∙ (ap (λ (g : Parts). delivered g b.count b.world k) same_graph
      ∙ (ap (λ (n : ℕ). delivered a.graph n b.world k) same_count
      ∙ (ap (λ (w : World). delivered a.graph a.count w k) d.is
      ∙ sym (run_push a.graph a.count d.positions k a.world))));
}

-- ---- the start

module _ (g : Parts) (vs : List Constant) (count : ℕ) (keeps : Keeps) (m : MachineView)
    (is : m ≡ record { graph = g; count = count; keeps = keeps; world = start g vs count }) where
  pub start_few : (steps : ℕ) → All (λ (s : State). length s.events ≤ steps) m.world.elements
  start_few steps = subst (λ (x : MachineView). All (λ (s : State). length s.events ≤ steps) x.world.elements) (sym is)
      (All-replicate (λ (s : State). length s.events ≤ steps) count fresh (omega arith))

  -- nothing was handled, so every event went well, and none came behind a fault
  pub start_went : HasWent m.world
  start_went = subst (λ (x : MachineView). HasWent x.world) (sym is)
      (All-replicate (λ (s : State). AllWent s.events) count fresh (λ k d lt. absurd (omega arith)))

  pub start_stops : StopAtFaults m.world
  start_stops = stop_where_went m.world start_went

  -- each start message is left, and nothing was sent
  pub start_accounted : IsAccounted (start_messages g vs) m.world.elements m.world.flight
  start_accounted =
      subst (λ (x : MachineView). IsAccounted (start_messages g vs) x.world.elements x.world.flight) (sym is) at
    where
      at : IsAccounted (start_messages g vs) (replicate count fresh) (start_messages g vs)
      at f =
          let s : sent_of f (replicate count fresh) ≡ count * 0 =
          sum_by-replicate (λ (s : State). sum_by f (flat_map (λ (v : EventView). v.outputs) s.events)) count fresh in
          let t : taken_of f (replicate count fresh) ≡ count * 0 =
          sum_by-replicate (λ (s : State). sum_by (λ (v : EventView). f v.message) s.events) count fresh in
          omega (arith, s, t)

  -- and deliveries from there are a run by positions
  pub start_delivered : (w : World) → IsDelivered m.graph m.count m.world w → IsByPositions g vs count w
  start_delivered w d = record {
    positions = d.positions;
    is = d.is ∙ ap (λ (x : MachineView). machines.run x.graph x.count d.positions x.world) is;
  }
