-- Paths of tags, and which tag made a structure (docs/MACHINE.md, "Paths of tags").
use Rattle.std.specs.Prelude.{◌≡◌, ℕ, zero, suc, ◌-◌, ◌==◌, Bool, true, false, List, [], ◌∷◌}
use Rattle.std.specs.Prelude.{◌++◌, length}
use Rattle.std.specs.Prelude.{Option, Some, None, slice_get, option_map, if◌then◌else◌}
use Rattle.std.specs.List.{filter_map}
use Rattle.std.specs.HashMap.{get}
use Rattle.std.specs.Option.{option_map_or, option_or}
use Rattle.id_instr.specs.declared.instr.Op.{Op}
use Rattle.id_instr.specs.declared.instr.Op.TheVariants.{Alloc, Enter}
use Rattle.id_instr.specs.Graph.{Parts}
use Rattle.id_valid.specs.Roles.{op_at}
use Rattle.id_tag.specs.declared.Context.{Context}
use Rattle.id_tag.specs.declared.Tag.{Tag}
use Rattle.id_tag.specs.declared.Structure.{Structure}
use Rattle.id_tag.specs.declared.Value.TheVariants as value
use Rattle.id_tag.specs.declared.Payload.{Payload}
use Rattle.id_tag.specs.declared.Payload.TheVariants.{Token, Read, Write}
use Rattle.id_tag.specs.declared.Message.{Message}
use Rattle.id_tag.specs.Tags.{same_context, same_structure}
use Rattle.id_ops.specs.declared.Fired.{Fired}
use Rattle.id_ops.specs.declared.Fired.TheVariants.{Out}
use Rattle.id_record.specs.Events.{EventView, tag_of}
use Rattle.id_observe.specs.declared.paths.Making.{Making}
use Rattle.id_observe.specs.declared.records.Paths.{Paths}
use Rattle.id_observe.specs.declared.paths.Tables.{Tables}
use Rattle.id_source.specs.declared.Path.{Path}
use Rattle.id_source.specs.declared.PathStep.{PathStep}
use Rattle.std.specs.Prelude.{unwrap_or}
use Rattle.std.specs.List.{flat_map}
use Rattle.id_tag.specs.declared.Value.{Value}
use Rattle.id_tag.specs.Tags.{same_tag}
use Rattle.id_source.specs.declared.Site.{Site}
use Rattle.id_step.specs.Steps.{State}

-- the place of the instruction of this number
abbrev pub place_of : Parts → ℕ → ℕ
place_of g n = option_map_or (λ i. i.place) (slice_get g.instrs n) 0

-- the context that the last of these messages is for
abbrev pub last_context : List Message → Option Context
last_context ms = option_map (λ m. (tag_of m.payload).context) (slice_get ms (length ms - 1))

-- the context that an instruction entered by sending these messages: an `enter` sends its last one into it
abbrev pub entered_by : Option Op → List Message → Option Context
entered_by (Some (Enter b r)) ms = last_context ms
entered_by _ ms = None

-- the context that was entered where an instruction took what came, and sent these messages
abbrev pub entered : Parts → Payload → List Message → Option Context
entered g (Token t p v) ms = entered_by (op_at g t.instr) ms
entered g (Read c t) ms = None
entered g (Write c v t) ms = None

-- the tag, if the other context is this one
abbrev pub if_same : Tag → Context → Option Context → Option Tag
if_same t c None = None
if_same t c (Some d) = if same_context d c then Some t else None

-- the tag under which an event entered the context, if it did
abbrev pub enter_of : Parts → EventView → Context → Option Tag
enter_of g e c = if_same (tag_of e.message.payload) c (entered g e.message.payload e.outputs)

-- the tag under which these events entered the context: by the last one that did
unfoldable pub enter_in : Parts → List EventView → Context → Option Tag
enter_in g [] c = None
enter_in g (e ∷ es) c = option_or (enter_in g es c) (enter_of g e c)

-- whether the operator is the `enter` of a loop, where the place is its own: its block's first instruction has that
-- place too
abbrev pub enters_loop : Parts → ℕ → Option Op → Bool
enters_loop g p (Some (Enter b r)) = place_of g b == p
enters_loop g p _ = false

-- the step that an `enter` adds to the path of its tag, at iteration k of what it enters: a call counts none
abbrev pub step_of : Parts → ℕ → ℕ → PathStep
step_of g n k = record { place = place_of g n; number = if enters_loop g (place_of g n) (op_at g n) then k else 0 }

-- the steps to a tag, at most n of them, where `enter` tells the tag under which each context was entered: those to
-- that tag, and the step of its `enter`. A context that nothing entered is main's, which has none
unfoldable pub steps_to : Parts → (Context → Option Tag) → ℕ → Tag → List PathStep
steps_to g enter zero t = []
steps_to g enter (suc n) t =
    option_map_or (λ u. steps_to g enter n u ++ step_of g u.instr t.iteration ∷ []) (enter t.context) []

-- the path of a tag, by these events. In a run a context is entered by an event that comes after those that entered the
-- contexts round it, so that a path has no more steps than there are events
abbrev pub path_of : Parts → List EventView → Tag → Path
path_of g es t = record { steps = steps_to g (enter_in g es) (length es) t }

-- the structure that was made where this operator fired so: an `alloc` makes what it gives
abbrev pub made_by : Option Op → Fired → Option Structure
made_by (Some (Alloc nested)) (Out (value.Structure s)) = Some s
made_by _ _ = None

-- the structure that an event made
abbrev pub made : Parts → EventView → Option Structure
made g e = made_by (op_at g (tag_of e.message.payload).instr) e.fired

-- the tag, if the other structure is this one
abbrev pub if_made : Tag → Structure → Option Structure → Option Tag
if_made t s None = None
if_made t s (Some r) = if same_structure r s then Some t else None

-- the tag under which an event made the structure, if it did
abbrev pub maker_of : Parts → EventView → Structure → Option Tag
maker_of g e s = if_made (tag_of e.message.payload) s (made g e)

-- the tag under which these events made the structure: by the last one that did
unfoldable pub maker_in : Parts → List EventView → Structure → Option Tag
maker_in g [] s = None
maker_in g (e ∷ es) s = option_or (maker_in g es s) (maker_of g e s)

-- a tag of main's context, at iteration 0
abbrev pub main_tag : ℕ → Tag
main_tag n = record { context = record { element = 0; serial = 0 }; iteration = 0; instr = n }

-- the events of all elements, one record after another
abbrev pub events_of : List State → List EventView
events_of elements = flat_map (λ e. e.events) elements

-- the value that a token brings to instruction 0 under main's tag
abbrev pub brought : Payload → Option Value
brought (Token t p v) = if same_tag t (main_tag 0) then Some v else None
brought (Read c t) = None
brought (Write c v t) = None

-- the values that these events brought to instruction 0 under main's tag, in order
abbrev pub answers : List EventView → List Value
answers es = filter_map (λ e. brought e.message.payload) es

-- the path of a tag, by the records of these elements
abbrev pub path_in : Parts → List State → Tag → Path
path_in g elements = path_of g (events_of elements)

-- where the tag's instruction stands, where each tag has this path
abbrev pub site_at : Parts → (Tag → Path) → Tag → Site
site_at g path t = record { path = path t; place = place_of g t.instr }

-- the name of a structure: where it was made. One that nothing made has that of the answer; in a run there is none
abbrev pub name_by : Parts → (Tag → Path) → Option Tag → Site
name_by g path maker = site_at g path (unwrap_or maker (main_tag 0))

-- the name of a structure, by the records of these elements
abbrev pub structure_in : Parts → List State → Structure → Site
structure_in g elements s = name_by g (path_in g elements) (maker_in g (events_of elements) s)

-- For use inside.

-- the structure that an event made, with the tag under which it did
abbrev pub making_of : Parts → EventView → Option Making
making_of g e = option_map (λ s. record { structure = s; tag = tag_of e.message.payload }) (made g e)

-- the structures that these events made, in their order
abbrev pub makings_of : Parts → List EventView → List Making
makings_of g es = filter_map (making_of g) es

-- whether an instruction is an `alloc`
abbrev pub is_alloc : Option Op → Bool
is_alloc (Some (Alloc nested)) = true
is_alloc _ = false

-- whether it is an `enter`
abbrev pub is_enter : Option Op → Bool
is_enter (Some (Enter b r)) = true
is_enter _ = false

-- the tables tell what these events do
pub record AreTold (g : Parts) (es : List EventView) (t : Tables) : Type 0 where
  pub enters : (c : Context) → get same_context t.enters c ≡ enter_in g es c
  pub makers : (s : Structure) → get same_structure t.makers s ≡ maker_in g es s
  pub makings : t.makings.items ≡ makings_of g es
  pub values : t.values.items ≡ answers es

-- and what they tell was added to the old tables
pub record Adds (g : Parts) (es : List EventView) (old new : Tables) : Type 0 where
  pub enters : (c : Context)
      → get same_context new.enters c ≡ option_or (enter_in g es c) (get same_context old.enters c)
  pub makers : (s : Structure)
      → get same_structure new.makers s ≡ option_or (maker_in g es s) (get same_structure old.makers s)
  pub makings : new.makings.items ≡ old.makings.items ++ makings_of g es
  pub values : new.values.items ≡ old.values.items ++ answers es

-- the path of a tag, where these tables tell under which tag each context was entered, and how many steps it has at
-- most
abbrev pub path_by : Paths → Tag → Path
path_by p t = record { steps = steps_to p.graph.now (get same_context p.enters) p.most t }

-- the name of a structure, where these tables tell under which tag each was made
abbrev pub structure_by : Paths → Structure → Site
structure_by p s = name_by p.graph.now (path_by p) (get same_structure p.makers s)
