-- The first fault that records show (docs/MACHINE.md, "Observed").
use Rattle.std.specs.Prelude.{◌≡◌, ◌≢◌, List, [], ◌∷◌, Option, None, Some}
use Rattle.std.specs.Prelude.{nat_lt, if◌then◌else◌}
use Rattle.std.specs.declared.cmp.Ordering.TheVariants.{Less}
use Rattle.std.specs.List.Sorted.{IsPermutation, IsStrictlySortedBy}
use Rattle.id_value.specs.List.{Among}
use Rattle.id_instr.specs.Graph.{Parts}
use Rattle.id_source.specs.declared.SourceFault.{SourceFault}
use Rattle.id_record.specs.declared.step.Fault.{Fault}
use Rattle.id_record.specs.declared.step.Step.TheVariants as steps
use Rattle.id_record.specs.declared.telling.Faulted.{Faulted}
use Rattle.id_record.specs.Events.{EventView}
use Rattle.id_record.specs.Tellings.{first_fault}
use Rattle.id_step.specs.Steps.{State}
use Rattle.id_observe.specs.Merged.{by_moment}
use Rattle.id_observe.specs.Paths.{events_of, path_in, structure_in}
use Rattle.id_observe.specs.Sourced.{fault_of}

-- these are all events of the elements, by stamp, and at one stamp by element
pub record AreMergedOf (elements : List State) (es : List EventView) : Type 0 where
  pub all : IsPermutation (events_of elements) es
  pub sorted : IsStrictlySortedBy by_moment es

-- f is the fault of an event of the elements, and none of their events that were faults is before it, by stamp and then
-- by element
pub record IsFirstFault (g : Parts) (elements : List State) (f : SourceFault) : Type 0 where
  pub event : EventView
  pub among : Among event (events_of elements)
  pub fault : fault_of g (path_in g elements) (structure_in g elements) event.step ≡ Some f
  pub first : (e : EventView) (x : Fault) → Among e (events_of elements) → e.step ≡ steps.Fault x
      → by_moment e event ≢ Less

-- For use inside.

-- the fault of the lower stamp, or the first of these
abbrev pub earlier_of : Option Faulted → Option Faulted → Option Faulted
earlier_of None b = b
earlier_of (Some a) None = Some a
earlier_of (Some a) (Some b) = if nat_lt b.stamp a.stamp then Some b else Some a

-- the fault of the lowest stamp of the first faults of these elements, the first of those that have it, beside this one
abbrev pub earliest_from : Option Faulted → List State → Option Faulted
earliest_from f [] = f
earliest_from f (s ∷ ss) = earliest_from (earlier_of f (first_fault s.events)) ss

-- and of these elements alone
abbrev pub earliest_in : List State → Option Faulted
earliest_in ss = earliest_from None ss
