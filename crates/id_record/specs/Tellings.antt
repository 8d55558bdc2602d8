-- What events tell of the names of a run, and what of its faults (docs/MACHINE.md, "The record").
use Rattle.std.specs.Prelude.{ℕ, ◌==◌, ◌||◌, Bool, true, false, List, [], ◌∷◌, Option, Some, None}
use Rattle.std.specs.Prelude.{if◌then◌else◌, slice_get}
use Rattle.std.specs.List.{cons_option, filter_map, flat_map}
use Rattle.std.specs.Option.{option_map_or, option_or}
use Rattle.id_instr.specs.declared.instr.Op.{Op}
use Rattle.id_instr.specs.declared.instr.Op.TheVariants as op
use Rattle.id_instr.specs.Graph.{Parts}
use Rattle.id_tag.specs.declared.Payload.{Payload}
use Rattle.id_tag.specs.declared.Payload.TheVariants.{Token, Read, Write}
use Rattle.id_tag.specs.declared.Value.{Value}
use Rattle.id_tag.specs.declared.Value.TheVariants.{Int, Structure}
use Rattle.id_ops.specs.declared.Fired.{Fired}
use Rattle.id_ops.specs.declared.Fired.TheVariants as fired
use Rattle.id_record.specs.declared.step.Step.{Step}
use Rattle.id_record.specs.declared.step.Step.TheVariants.{Went, Fault, Stuck}
use Rattle.id_record.specs.declared.telling.Faulted.{Faulted}
use Rattle.id_record.specs.declared.telling.Telling.{Telling}
use Rattle.id_record.specs.declared.telling.Told.TheVariants.{Entered, Made, Came}
use Rattle.id_record.specs.Events.{EventView, tag_of, value_of}
pub use Rattle.id_valid.specs.Validator.{is_value}

-- a token for instruction 0 tells its value
abbrev pub came_in : Payload → Option Telling
came_in (Token t p v) = if t.instr == 0 then Some (record { tag = t; told = Came v }) else None
came_in (Read c t) = None
came_in (Write c v t) = None

-- whether a value is a number
abbrev pub is_number : Value → Bool
is_number (Int n) = true
is_number _ = false

-- what is told where this was fired for such a message: the context that was entered, or the structure that was made,
-- which is one that goes out for a number
abbrev pub made_in : Payload → Fired → Option Telling
made_in x (fired.Entered c) = Some (record { tag = tag_of x; told = Entered c })
made_in x (fired.Out (Structure s)) =
    if is_number (value_of x) then Some (record { tag = tag_of x; told = Made s }) else None
made_in x _ = None

-- what an event of such a message tells, where this was fired
abbrev pub told_in : Payload → Fired → List Telling
told_in x f = cons_option (came_in x) (cons_option (made_in x f) [])

-- what these events tell, in order
abbrev pub tellings : List EventView → List Telling
tellings es = flat_map (λ e. told_in e.message.payload e.fired) es

-- a merge for values of the source
abbrev pub is_value_merge : Op → Bool
is_value_merge (op.Merge k) = is_value k
is_value_merge _ = false

-- whether it is a token for one
abbrev pub is_merged : Parts → Payload → Bool
is_merged g (Token t p v) = option_map_or (λ i. is_value_merge i.op) (slice_get g.instrs t.instr) false
is_merged g (Read c t) = false
is_merged g (Write c v t) = false

-- it, if it is
abbrev pub merged_in : Parts → Payload → Option Payload
merged_in g x = if is_merged g x then Some x else None

-- what came to merges for values of the source by these events, in order
abbrev pub merged : Parts → List EventView → List Payload
merged g es = filter_map (λ e. merged_in g e.message.payload) es

-- the fault of an event that came to this at this stamp
abbrev pub fault_in : ℕ → Step → Option Faulted
fault_in n Went = None
fault_in n (Fault f) = Some (record { stamp = n; fault = f })
fault_in n Stuck = None

-- the first fault of these events
abbrev pub first_fault : List EventView → Option Faulted
first_fault [] = None
first_fault (e ∷ es) = option_or (fault_in e.stamp e.step) (first_fault es)

-- whether an event came to `Stuck`
abbrev pub is_stuck : Step → Bool
is_stuck Stuck = true
is_stuck _ = false

-- whether one of these events did
abbrev pub any_stuck : List EventView → Bool
any_stuck [] = false
any_stuck (e ∷ es) = is_stuck e.step || any_stuck es
