-- What a run shows (docs/MACHINE.md, "Observed").
use Rattle.std.specs.Prelude.{ℕ, Bool, true, false, not, ◌&&◌, ◌==◌, count_by, List, map, Option, Some, None}
use Rattle.std.specs.Prelude.{slice_get}
use Rattle.std.specs.Prelude.{◌≡◌, All, IsFalse, option_and_then, option_map, if◌then◌else◌}
use Rattle.std.specs.FinMap.{empty}
use Rattle.std.specs.List.{filter_map, flat_map}
use Rattle.id_instr.specs.declared.instr.Op.{Op}
use Rattle.id_instr.specs.declared.instr.Op.TheVariants as op
use Rattle.id_instr.specs.declared.instr.Instr.{Instr}
use Rattle.id_instr.specs.Graph.{Parts}
use Rattle.id_tag.specs.declared.Tag.{Tag}
use Rattle.id_tag.specs.declared.Value.{Value}
use Rattle.id_tag.specs.declared.Payload.{Payload}
use Rattle.id_tag.specs.declared.Payload.TheVariants.{Token, Read, Write}
use Rattle.id_tag.specs.declared.Structure.{Structure}
use Rattle.id_observe.specs.declared.shown.CellValue.{CellValue}
use Rattle.id_observe.specs.declared.shown.Named.{Named}
use Rattle.id_observe.specs.declared.paths.Making.{Making}
use Rattle.id_observe.specs.declared.records.Paths.{Paths}
use Rattle.id_observe.specs.Paths.{is_alloc}
use Rattle.id_source.specs.declared.SourceValue.{SourceValue}
use Rattle.id_source.specs.declared.Path.{Path}
use Rattle.id_source.specs.declared.Site.{Site}
use Rattle.id_source.specs.declared.Shape.{Shape}
use Rattle.id_source.specs.declared.Put.{Put}
use Rattle.id_source.specs.declared.Ask.{Ask}
use Rattle.id_source.specs.declared.NameValue.{NameValue}
pub use Rattle.id_record.specs.Tellings.{is_value_merge}
use Rattle.id_bank.specs.declared.cell.Filled.{Filled}
use Rattle.id_bank.specs.declared.cell.Reader.{Reader}
use Rattle.id_bank.specs.Cells.{cells_of, deferred_of}
use Rattle.id_record.specs.Events.{EventView, tag_of}
use Rattle.id_step.specs.Steps.{State}
use Rattle.id_step.specs.Replays.{ElementView}
pub use Rattle.id_observe.specs.Paths.{place_of, path_of, made, maker_in}
pub use Rattle.id_observe.specs.Paths.{main_tag, events_of, brought, answers, path_in}
pub use Rattle.id_observe.specs.Paths.{site_at, name_by, structure_in, structure_by}
pub use Rattle.id_observe.specs.Sourced.{source_value, site_cmp, second_store, fault_of, faults_of, faults_in}

-- the answer that the records of these elements show: the first of those values. One element handles that tag, so its
-- record has them all
abbrev pub answer_in : Parts → List State → Option SourceValue
answer_in g elements =
    option_and_then (source_value (structure_in g elements)) (slice_get (answers (events_of elements)) 0)

-- whether the operator is a `next`
abbrev pub is_next : Op → Bool
is_next (op.Next k) = true
is_next _ = false

-- whether the instruction has the place, and is no `next`: that of a loop variable has the place of its entry
abbrev pub claims : ℕ → Instr → Bool
claims p i = (i.place == p) && not (is_next i.op)

-- whether the instruction is a label: a merge for values of the source whose place no other instruction has, save a
-- `next`
abbrev pub is_label_of : Parts → Option Instr → Bool
is_label_of g None = false
is_label_of g (Some i) = is_value_merge i.op && (count_by (claims i.place) g.instrs == 1)

-- whether the instruction of this number is a label
abbrev pub is_label : Parts → ℕ → Bool
is_label g n = is_label_of g (slice_get g.instrs n)

-- what the binder of the label of this number Has at a path, where a token brought it that value
abbrev pub name_at : Parts → ℕ → Path → Option SourceValue → Option NameValue
name_at g n q None = None
name_at g n q (Some v) = Some (record { path = q; place = place_of g n; value = v })

-- what a binder Has, where a token was handled by its label, and each tag has this path
abbrev pub name_in : Parts → (Tag → Path) → (Structure → Site) → Payload → Option NameValue
name_in g path name (Token t p v) =
    if is_label g t.instr then name_at g t.instr (path t) (source_value name v) else None
name_in g path name (Read c t) = None
name_in g path name (Write c v t) = None

-- what these events show that binders Have, where each tag has this path and each structure this name
abbrev pub names_of : Parts → (Tag → Path) → (Structure → Site) → List EventView → List NameValue
names_of g path name es = filter_map (λ e. name_in g path name e.message.payload) es

-- what the records of these elements show that binders Have
abbrev pub names_in : Parts → List State → List NameValue
names_in g elements = names_of g (path_in g elements) (structure_in g elements) (events_of elements)

-- the structure that an event made, where each tag has this path
abbrev pub shape_of : Parts → (Tag → Path) → EventView → Option Shape
shape_of g path e =
    option_map (λ s. record { name = site_at g path (tag_of e.message.payload); low = s.low; high = s.high })
    (made g e)

-- the structures that these events made, in their order
abbrev pub shapes_of : Parts → (Tag → Path) → List EventView → List Shape
shapes_of g path es = filter_map (shape_of g path) es

-- the structures that the records of these elements show
abbrev pub structures_in : Parts → List State → List Shape
structures_in g elements = shapes_of g (path_in g elements) (events_of elements)

-- what is put into a cell, where each tag has this path and each structure this name: its origin is the store's tag
abbrev pub put_of : Parts → (Tag → Path) → (Structure → Site) → Filled → Option Put
put_of g path name f =
    option_map
    (λ v. record { name = name f.cell.structure; index = f.cell.index; value = v; store = site_at g path f.origin })
    (source_value name f.value)

-- what the cells of these elements show that is put into them
abbrev pub cells_in : Parts → List State → List Put
cells_in g elements =
    filter_map (put_of g (path_in g elements) (structure_in g elements)) (flat_map (λ e. cells_of e.cells) elements)

-- what a cell holds, of what is put into it: the value, by whichever store
abbrev pub cell_value : Put → CellValue
cell_value p = record { name = p.name; index = p.index; value = p.value }

-- what the cells of these elements hold
abbrev pub cell_values_in : Parts → List State → List CellValue
cell_values_in g elements = map cell_value (cells_in g elements)

-- the fetch of a reply asks for a cell
abbrev pub ask_of : Parts → (Tag → Path) → (Structure → Site) → Reader → Ask
ask_of g path name r =
    record { fetch = site_at g path r.reply; name = name r.cell.structure; index = r.cell.index }

-- the fetches whose replies wait in the cells of these elements
abbrev pub waiting_in : Parts → List State → List Ask
waiting_in g elements =
    map (ask_of g (path_in g elements) (structure_in g elements)) (flat_map (λ e. deferred_of e.cells) elements)

-- the cell that a message asks for, with its reply
abbrev pub reader_in : Payload → Option Reader
reader_in (Token t p v) = None
reader_in (Read c t) = Some (record { cell = c; reply = t })
reader_in (Write c v t) = None

-- what the fetches ask for whose reads these events are, where each tag has this path and each structure this name
abbrev pub asks_of : Parts → (Tag → Path) → (Structure → Site) → List EventView → List Ask
asks_of g path name es = map (ask_of g path name) (filter_map (λ e. reader_in e.message.payload) es)

-- what the fetches ask for whose reads the records of these elements show
abbrev pub asks_in : Parts → List State → List Ask
asks_in g elements = asks_of g (path_in g elements) (structure_in g elements) (events_of elements)

-- For use inside.

-- the first value that the records of these elements brought to instruction 0 under main's tag
abbrev pub first_value : List State → Option Value
first_value elements = slice_get (answers (events_of elements)) 0

-- the structure that was made so, where each tag has this path
abbrev pub shape_at : Parts → (Tag → Path) → Making → Shape
shape_at g path m = record { name = site_at g path m.tag; low = m.structure.low; high = m.structure.high }

-- what a cell holds, where each structure has this name
abbrev pub cell_value_of : (Structure → Site) → Filled → Option CellValue
cell_value_of name f =
    option_map (λ v. record { name = name f.cell.structure; index = f.cell.index; value = v })
    (source_value name f.value)

-- the structure has this name, where these tables tell under which tag each was made
abbrev pub IsNamed : Paths → Named → Type 0
IsNamed p n = n.name ≡ structure_by p n.structure

-- no instruction makes structures
abbrev pub MakesNone : Parts → Type 0
MakesNone g = All (λ i. IsFalse (is_alloc (Some i.op))) g.instrs

-- no cell was read or written at these elements
abbrev pub HaveNoCells : List ElementView → Type 0
HaveNoCells elements = All (λ e. e.state.cells ≡ empty) elements

-- of each instruction, by number, whether it is a label
abbrev pub label_marks : Parts → List Bool
label_marks g = map (λ i. is_label_of g (Some i)) g.instrs
