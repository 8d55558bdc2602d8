-- Legal lists of events: runs by their events alone, without positions in a list of messages (docs/MACHINE.md, "Runs").
use Rattle.std.specs.Prelude.{◌≡◌, ℕ, Some, false, List, [], ◌∷◌, ◌++◌, slice_get, slice_set}
use Rattle.std.specs.List.{cons_option}
use Rattle.id_instr.specs.Graph.{Parts}
use Rattle.id_tag.specs.declared.Message.{Message}
use Rattle.id_tag.specs.Routes.{route_of}
use Rattle.id_value.specs.declared.Constant.{Constant}
use Rattle.id_core.specs.Events.{EventView}
use Rattle.id_core.specs.Steps.{State, event_of, is_ended, state_after}
use Rattle.id_core.specs.Machines.{World, delivered, event_at, run, start}

-- two lists have the same items, in some order
pub data InSomeOrder {A : Type 0} : List A → List A → Type 0 where
  none : InSomeOrder [] []
  keep : {xs ys : List A} (x : A) → InSomeOrder xs ys → InSomeOrder (x ∷ xs) (x ∷ ys)
  swap : {xs : List A} (x y : A) → InSomeOrder (x ∷ y ∷ xs) (y ∷ x ∷ xs)
  next : {xs ys zs : List A} → InSomeOrder xs ys → InSomeOrder ys zs → InSomeOrder xs zs

-- the event can come next: its message is in flight beside the others, a stamp is left for it at the element that it is
-- for, and the event is the one that this element makes of it
pub record CanFollow (g : Parts) (count : ℕ) (w : World) (v : EventView) : Type 0 where
  pub others : List Message
  pub flying : InSomeOrder w.flight (v.message ∷ others)
  pub state : State
  pub element : slice_get w.elements (route_of v.message.payload count) ≡ Some state
  pub left : is_ended state v.message ≡ false
  pub made : event_of g (route_of v.message.payload count) state v.message ≡ v

-- the machine after it: the element has made its step, and the others are in flight with what the event sent
abbrev pub after_event : (g : Parts) (count : ℕ) (w : World) (v : EventView) → CanFollow g count w v → World
after_event g count w v f = record {
  elements = slice_set w.elements (route_of v.message.payload count)
      (state_after g (route_of v.message.payload count) f.state v.message);
  flight = f.others ++ v.outputs;
}

-- these events, one after another, lead from one state of the machine to another
pub data LeadTo (g : Parts) (count : ℕ) : World → List EventView → World → Type 0 where
  no_more : {w : World} → LeadTo g count w [] w
  follow : {w x : World} {v : EventView} {vs : List EventView} (f : CanFollow g count w v)
      → LeadTo g count (after_event g count w v f) vs x → LeadTo g count w (v ∷ vs) x

-- a legal list of events of the machine of so many elements, from its start with these inputs
pub record IsLegalList (g : Parts) (vs : List Constant) (count : ℕ) (es : List EventView) : Type 0 where
  pub end : World
  pub lead : LeadTo g count (start g vs count) es end

-- the events of deliveries at these positions, one after another, of those that are possible
abbrev pub happened : Parts → ℕ → List ℕ → World → List EventView
happened g count [] w = []
happened g count (k ∷ ks) w = cons_option (event_at g count w k) (happened g count ks (delivered g count w k))

-- two states of a machine are one, but for the order of what is in flight
pub record IsSameBut (w x : World) : Type 0 where
  pub elements : w.elements ≡ x.elements
  pub flight : InSomeOrder w.flight x.flight

-- a run that has these events, and that leads to this state but for the order of what is in flight
pub record IsRunOf (g : Parts) (vs : List Constant) (count : ℕ) (es : List EventView) (w : World) : Type 0 where
  pub positions : List ℕ
  pub events : happened g count positions (start g vs count) ≡ es
  pub end : IsSameBut (run g count positions (start g vs count)) w

-- *Legal lists*: the events of each list of deliveries to a machine are a legal list, and lead to the same state; and
-- each legal list is that of a list of deliveries, which leads to the same state, but for the order of what is in
-- flight
pub record LegalLists : Type 0 where
  pub of_runs : (g : Parts) (vs : List Constant) (count : ℕ) (ks : List ℕ)
      → LeadTo g count (start g vs count) (happened g count ks (start g vs count)) (run g count ks (start g vs count))
  pub are_runs : (g : Parts) (vs : List Constant) (count : ℕ) (es : List EventView)
      → (l : IsLegalList g vs count es) → IsRunOf g vs count es l.end
