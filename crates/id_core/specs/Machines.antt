-- The machine: its elements and the messages in flight (docs/MACHINE.md, "Runs").
use Rattle.std.specs.Prelude.{◌≡◌, ℕ, suc, ◌+◌, ◌<◌, ◌≤◌, Option, None, Some, List, [], ◌∷◌}
use Rattle.std.specs.Prelude.{◌++◌, All, filter, map}
use Rattle.std.specs.Prelude.{length, slice_index_or, slice_get, slice_set, replicate, if◌then◌else◌}
use Rattle.std.specs.List.{remove}
use Rattle.id_instr.specs.declared.instr.Block.{Block}
use Rattle.id_instr.specs.declared.dests.Port.TheVariants.{Zero}
use Rattle.id_instr.specs.declared.instr.Op.TheVariants.{Merge}
use Rattle.id_instr.specs.Graph.{Parts}
pub use Rattle.id_observe.specs.Observed.{main_tag}
use Rattle.id_value.specs.declared.Constant.{Constant}
use Rattle.id_ops.specs.Operators.{constant_value}
use Rattle.id_tag.specs.declared.Value.TheVariants as value
use Rattle.id_tag.specs.declared.Sender.TheVariants as sender
use Rattle.id_tag.specs.declared.Payload.{Payload}
use Rattle.id_tag.specs.declared.Payload.TheVariants.{Token}
use Rattle.id_tag.specs.declared.Message.{Message}
use Rattle.id_tag.specs.Kinds.{kind_of}
use Rattle.id_tag.specs.Routes.{route_of}
use Rattle.id_valid.specs.Roles.{has_main_place, op_at, IsMain}
use Rattle.id_record.specs.Events.{EventView, AllWent}
use Rattle.id_record.specs.declared.kept.Keeps.{Keeps}
use Rattle.id_step.specs.Fits.{Fits}
use Rattle.id_step.specs.Replays.{ElementView}
use Rattle.id_step.specs.Steps.{State, fresh, is_ended, outputs_of, event_of, state_after}

-- the states of the elements, in order of their numbers, and the messages in flight
pub record World : Type 0 where
  pub elements : List State
  pub flight : List Message

-- a message that is there at the start, with its number
abbrev pub start_message : ℕ → Payload → Message
start_message k x = record { payload = x; sender = sender.Start; position = 0; output = k; stamp = 0 }

-- the messages that bring inputs to entries, one each in their order, with numbers from k on
abbrev pub input_messages : ℕ → List ℕ → List Constant → List Message
input_messages k [] vs = []
input_messages k (n ∷ ns) [] = []
input_messages k (n ∷ ns) (v ∷ vs) =
    start_message k (Token (main_tag n) Zero (constant_value v)) ∷ input_messages (suc k) ns vs

-- a signal to the first instruction of main's block, the continuation to instruction 0 to port 0 of its second, and the
-- inputs to its entries
abbrev pub block_messages : List Block → List Constant → List Message
block_messages [] vs = []
block_messages (b ∷ bs) vs =
    start_message 0 (Token (main_tag b.first) Zero value.Signal) ∷
    start_message 1 (Token (main_tag (b.first + 1)) Zero
    (value.Continuation (main_tag 0))) ∷ input_messages 2 b.entries vs

-- the start messages of a graph with these inputs
abbrev pub start_messages : Parts → List Constant → List Message
start_messages g vs = block_messages (filter (has_main_place g) g.blocks) vs

-- there is one input for each of these instructions, and each is a merge of its input's kind
abbrev pub AreTaken : Parts → List ℕ → List Constant → Type 0
AreTaken g [] [] = Unit {0}
AreTaken g [] (v ∷ vs) = ⊥
AreTaken g (n ∷ ns) [] = ⊥
AreTaken g (n ∷ ns) (v ∷ vs) = (op_at g n ≡ Some (Merge (kind_of (constant_value v)))) × AreTaken g ns vs

-- these are inputs for the graph: one for each entry of main's block, of its kind
pub record TakesInputs (g : Parts) (vs : List Constant) : Type 0 where
  pub taken : (b : Block) → IsMain g b → AreTaken g b.entries vs

-- the machine of so many elements at its start with these inputs
abbrev pub start : Parts → List Constant → ℕ → World
start g vs count = record { elements = replicate count fresh; flight = start_messages g vs }

-- the message at position k leaves, the list closes up, the element n takes it from the state e to the next, and the
-- outputs go last
abbrev pub taken_from : Parts → ℕ → World → Message → ℕ → State → World
taken_from g k s m n e = record {
  elements = slice_set s.elements n (state_after g n e m);
  flight = remove s.flight k ++ outputs_of g n e m;
}

-- the message at position k is given to the element n in its state: where there is none, or no stamp is left, nothing
-- changes
abbrev pub given_to : Parts → ℕ → World → Message → ℕ → Option State → World
given_to g k s m n None = s
given_to g k s m n (Some e) = if is_ended e m then s else taken_from g k s m n e

-- the message at position k is given to the element that it is for, of so many: where there is no message, nothing
-- changes
abbrev pub routed_to : Parts → ℕ → ℕ → World → Option Message → World
routed_to g count k s None = s
routed_to g count k s (Some m) =
    given_to g k s m (route_of m.payload count) (slice_get s.elements (route_of m.payload count))

-- the machine of so many elements after the message at position k was delivered
abbrev pub delivered : Parts → ℕ → World → ℕ → World
delivered g count s k = routed_to g count k s (slice_get s.flight k)

-- the event of the element n in its state on the message: none where there is no such element, or no stamp is left
abbrev pub event_of_given : Parts → ℕ → Message → Option State → Option EventView
event_of_given g n m None = None
event_of_given g n m (Some e) = if is_ended e m then None else Some (event_of g n e m)

-- the event of the element that the message is for
abbrev pub event_of_routed : Parts → ℕ → World → Option Message → Option EventView
event_of_routed g count s None = None
event_of_routed g count s (Some m) =
    event_of_given g (route_of m.payload count) m (slice_get s.elements (route_of m.payload count))

-- the event that delivering the message at position k makes, if that is possible
abbrev pub event_at : Parts → ℕ → World → ℕ → Option EventView
event_at g count s k = event_of_routed g count s (slice_get s.flight k)

-- the machine after deliveries at these positions, one after another
abbrev pub run : Parts → ℕ → List ℕ → World → World
run g count [] s = s
run g count (k ∷ ks) s = run g count ks (delivered g count s k)

-- nothing is in flight, and every event went well
pub record IsQuiet (s : World) : Type 0 where
  pub empty : s.flight ≡ []
  pub went : All (λ e. AllWent e.events) s.elements

-- an element is the one of this number, of so many, of the graph
pub record IsElement (g : Parts) (count n : ℕ) (e : ElementView) : Type 0 where
  pub number : e.number ≡ n
  pub count_is : e.count ≡ count
  pub graph : e.graph ≡ g

-- each element has its place in the list as its number
abbrev pub AreElements : Parts → ℕ → List ElementView → Type 0
AreElements g count es = (n : ℕ) (d : ElementView) → n < length es → IsElement g count n (slice_index_or es n d)

-- the elements keep so much of their events
abbrev pub AllKeep : Keeps → List ElementView → Type 0
AllKeep k es = All (λ e. e.keeps ≡ k) es

-- the states of the elements, with what is in flight
abbrev pub world_of : List ElementView → List Message → World
world_of es flight = record { elements = map (λ e. e.state) es; flight = flight }

-- a machine as contracts see it: its graph, how many elements it has, how much of their events they keep, and their
-- states with what is in flight
pub record MachineView : Type 0 where
  pub graph : Parts
  pub count : ℕ
  pub keeps : Keeps
  pub world : World

-- what every machine keeps: 1 to 64 elements in order of their numbers, each of which keeps so much of its events, and
-- in flight what fits the graph
pub record IsMachine (g : Parts) (k : Keeps) (es : List ElementView) (flight : List Message) : Type 0 where
  pub at_least_one : 0 < length es
  pub at_most_64 : length es ≤ 64
  pub elements : AreElements g (length es) es
  pub kept : AllKeep k es
  pub flight_fits : All (Fits g) flight
