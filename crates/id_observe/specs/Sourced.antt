-- What values and steps are in the source, where each tag has a path and each structure a name.
use Rattle.std.specs.Prelude.{List, Option, Some, None}
use Rattle.std.specs.Prelude.{ℤ}
use Rattle.std.specs.declared.cmp.Ordering.{Ordering}
use Rattle.std.specs.declared.cmp.Ordering.TheVariants.{Less, Equal, Greater}
use Rattle.std.specs.Ordering.{nat_cmp, ordering_then}
use Rattle.std.specs.Cmp.Lexicographic.{slice_cmp}
use Rattle.std.specs.List.{filter_map}
use Rattle.id_instr.specs.Graph.{Parts}
use Rattle.id_tag.specs.declared.Tag.{Tag}
use Rattle.id_tag.specs.declared.Value.{Value}
use Rattle.id_tag.specs.declared.Value.TheVariants as value
use Rattle.id_tag.specs.declared.Structure.{Structure}
use Rattle.id_source.specs.declared.SourceValue.{SourceValue}
use Rattle.id_source.specs.declared.SourceValue.TheVariants as source
use Rattle.id_source.specs.declared.Path.{Path}
use Rattle.id_source.specs.declared.Site.{Site}
use Rattle.id_source.specs.declared.SourceFault.{SourceFault}
use Rattle.id_source.specs.declared.SourceFault.TheVariants as fault
use Rattle.id_source.specs.Orders.{step_cmp}
use Rattle.id_record.specs.declared.step.Step.{Step}
use Rattle.id_record.specs.declared.step.Step.TheVariants.{Went, Fault, Stuck}
use Rattle.id_record.specs.declared.step.Fault.TheVariants.{Operator, SecondStore}
use Rattle.id_record.specs.Events.{EventView}
use Rattle.id_step.specs.Steps.{State}
pub use Rattle.id_observe.specs.Paths.{place_of, path_of, made, maker_in}
pub use Rattle.id_observe.specs.Paths.{main_tag, events_of, brought, answers, path_in}
pub use Rattle.id_observe.specs.Paths.{site_at, name_by, structure_in, structure_by}

-- a value of a token as one of the source, where each structure has this name
abbrev pub source_value : (Structure → Site) → Value → Option SourceValue
source_value name value.Signal = None
source_value name (value.Int n) = Some (source.Int n)
source_value name (value.Bool b) = Some (source.Bool b)
source_value name (value.Structure s) = Some (source.Name (name s))
source_value name (value.Address c) = None
source_value name (value.Context c) = None
source_value name (value.Continuation t) = None

-- how two sites compare: by path, then by place
abbrev pub site_cmp : Site → Site → Ordering
site_cmp a b = ordering_then (slice_cmp step_cmp a.path.steps b.path.steps) (nat_cmp a.place b.place)

-- two stores into one cell, as they compare: the first of them first
abbrev pub stores_as : Ordering → Site → ℤ → Site → Site → SourceFault
stores_as Less s i a b = fault.SecondStore s i a b
stores_as Equal s i a b = fault.SecondStore s i a b
stores_as Greater s i a b = fault.SecondStore s i b a

-- the fault of two stores into one cell of the structure of this name
abbrev pub second_store : Site → ℤ → Site → Site → SourceFault
second_store s i a b = stores_as (site_cmp a b) s i a b

-- the fault of the source that an event's step shows, where each tag has this path and each structure this name
abbrev pub fault_of : Parts → (Tag → Path) → (Structure → Site) → Step → Option SourceFault
fault_of g path name Went = None
fault_of g path name (Fault (Operator f t)) = Some (fault.Operator f (site_at g path t))
fault_of g path name (Fault (SecondStore c t u)) =
    Some (second_store (name c.structure) c.index (site_at g path t) (site_at g path u))
fault_of g path name Stuck = None

-- the faults of the source that these events show, in their order
abbrev pub faults_of : Parts → (Tag → Path) → (Structure → Site) → List EventView → List SourceFault
faults_of g path name es = filter_map (λ e. fault_of g path name e.step) es

-- the faults of the source that the records of these elements show
abbrev pub faults_in : Parts → List State → List SourceFault
faults_in g elements = faults_of g (path_in g elements) (structure_in g elements) (events_of elements)
