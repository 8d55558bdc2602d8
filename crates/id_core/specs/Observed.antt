-- What a machine shows (docs/MACHINE.md, "Observed"), by what the records of its elements show.
use Rattle.std.specs.Prelude.{List, Option}
use Rattle.id_instr.specs.Graph.{Parts}
use Rattle.id_source.specs.declared.SourceValue.{SourceValue}
use Rattle.id_source.specs.declared.SourceFault.{SourceFault}
use Rattle.id_source.specs.declared.Shape.{Shape}
use Rattle.id_source.specs.declared.Put.{Put}
use Rattle.id_source.specs.declared.Ask.{Ask}
use Rattle.id_source.specs.declared.NameValue.{NameValue}
pub use Rattle.id_observe.specs.declared.shown.CellValue.{CellValue}
pub use Rattle.id_observe.specs.Observed.{events_of, brought, source_value, answers, answer_in, place_of, path_of}
pub use Rattle.id_observe.specs.Observed.{path_in, fault_of, faults_of, faults_in, is_value_merge, is_next, claims}
pub use Rattle.id_observe.specs.Observed.{is_label_of, is_label, name_at, name_in, names_of, names_in}
pub use Rattle.id_observe.specs.Observed.{ask_of, asks_of, asks_in, cells_in, cell_value, cell_values_in, made}
pub use Rattle.id_observe.specs.Observed.{maker_in, name_by, put_of, reader_in}
pub use Rattle.id_observe.specs.Observed.{second_store, shape_of, shapes_of, site_at, site_cmp, structure_in}
pub use Rattle.id_observe.specs.Observed.{structures_in, waiting_in}
use Rattle.id_core.specs.Machines.{World}

-- the answer that a machine shows
abbrev pub answer : Parts → World → Option SourceValue
answer g s = answer_in g s.elements

-- the faults of the source that a machine shows
abbrev pub faults : Parts → World → List SourceFault
faults g s = faults_in g s.elements

-- what a machine shows that binders Have
abbrev pub names : Parts → World → List NameValue
names g s = names_in g s.elements

-- the structures that a machine shows
abbrev pub structures : Parts → World → List Shape
structures g s = structures_in g s.elements

-- what a machine shows that is put into cells
abbrev pub cells : Parts → World → List Put
cells g s = cells_in g s.elements

-- what the cells of a machine hold
abbrev pub cell_values : Parts → World → List CellValue
cell_values g s = cell_values_in g s.elements

-- the fetches that wait in a machine
abbrev pub waiting : Parts → World → List Ask
waiting g s = waiting_in g s.elements

-- what the fetches ask for that a machine has handled
abbrev pub asks : Parts → World → List Ask
asks g s = asks_in g s.elements
