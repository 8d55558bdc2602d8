-- The history of a cell: by what the cell holds, what every event on it came to (docs/MACHINE.md, "The bank").
use Rattle.std.specs.Prelude.{◌≡◌, ◌⊎◌, ℕ, if◌then◌else◌, Option, Some, None, List, [], ◌∷◌}
use Rattle.std.specs.Prelude.{◌++◌, slice_get}
use Rattle.std.specs.FinMap.{get}
use Rattle.id_instr.specs.Graph.{Parts}
use Rattle.id_tag.specs.declared.Tag.{Tag}
use Rattle.id_tag.specs.declared.Cell.{Cell}
use Rattle.id_tag.specs.declared.Value.{Value}
use Rattle.id_tag.specs.Tags.{same_cell}
use Rattle.id_tag.specs.Routes.{cell_route}
use Rattle.id_bank.specs.declared.cell.ReadAnswer.{ReadAnswer}
use Rattle.id_bank.specs.declared.cell.ReadAnswer.TheVariants.{Now, Deferred}
use Rattle.id_bank.specs.declared.cell.WriteAnswer.{WriteAnswer}
use Rattle.id_bank.specs.declared.cell.WriteAnswer.TheVariants.{Readers, Second}
use Rattle.id_bank.specs.Cells.{CellState, Present, Deferred as Waiting}
use Rattle.id_core.specs.Steps.{State}
use Rattle.id_core.specs.Machines.{World}
use Rattle.id_value.specs.declared.Constant.{Constant}
use Rattle.id_value.specs.List.{Among}
use Rattle.id_runs.specs.Events.{Event, Took, Looked, Wrote}
use Rattle.id_runs.specs.Runs.{Reach}

-- in the run the cell was read for the reply, and that came to the answer
pub record ReadBy (run : List Event) (c : Cell) (t : Tag) (a : ReadAnswer) : Type 0 where
  pub element : ℕ
  pub among : Among (Looked element c t a) run

-- in the run the store of the tag wrote the value to the cell, and that came to the answer
pub record WrittenBy (run : List Event) (c : Cell) (v : Value) (w : Tag) (a : WriteAnswer) : Type 0 where
  pub element : ℕ
  pub among : Among (Wrote element c v w a) run

-- the reply of an event that put a read of the cell off
abbrev pub held : Cell → Event → List Tag
held c (Looked n d t Deferred) = if same_cell d c then t ∷ [] else []
held c (Looked n d t (Now v)) = []
held c (Took n t p v a) = []
held c (Wrote n d v w a) = []

-- the replies of all reads of the cell that were put off, in order of arrival
abbrev pub put_off : List Event → Cell → List Tag
put_off [] c = []
put_off (e ∷ run) c = put_off run c ++ held c e

-- a cell that has no value: nothing wrote it, each read of it was put off, and these wait
pub record Empty (run : List Event) (c : Cell) (ts : List Tag) : Type 0 where
  pub waiting : ts ≡ put_off run c
  pub unwritten : (v : Value) (w : Tag) (a : WriteAnswer) → WrittenBy run c v w a → ⊥
  pub reads : (t : Tag) (a : ReadAnswer) → ReadBy run c t a → a ≡ Deferred

-- a cell that has a value: one event filled it, and answered all that were put off; each other write found this one,
-- and each read got the value or was put off
pub record Full (run : List Event) (c : Cell) (v : Value) (w : Tag) : Type 0 where
  pub replies : List Tag
  pub filled : WrittenBy run c v w (Readers replies)
  pub answered : replies ≡ put_off run c
  pub writes : (n : ℕ) (u : Value) (x : Tag) (a : WriteAnswer) → Among (Wrote n c u x a) run
      → (Wrote n c u x a ≡ Wrote filled.element c v w (Readers replies)) ⊎ (a ≡ Second w)
  pub reads : (t : Tag) (a : ReadAnswer) → ReadBy run c t a → (a ≡ Now v) ⊎ (a ≡ Deferred)

-- the history of a cell, by what it holds
abbrev pub History : List Event → Cell → Option CellState → Type 0
History run c None = Empty run c []
History run c (Some (Waiting ts)) = Empty run c ts
History run c (Some (Present v w)) = Full run c v w

-- what an element holds at the cell
abbrev pub cell_in : Option State → Cell → Option CellState
cell_in None c = None
cell_in (Some e) c = get e.cells c

-- what the machine of so many elements holds at the cell: that of the element that the cell's messages go to
abbrev pub cell_at : ℕ → World → Cell → Option CellState
cell_at count s c = cell_in (slice_get s.elements (cell_route c count)) c

-- *Cells*: in every run of every graph, each cell holds what its history says
abbrev pub CellsExact : Type 0
CellsExact = (g : Parts) (vs : List Constant) (count : ℕ) (s : World) (run : List Event) → Reach g vs count s run
    → (c : Cell) → History run c (cell_at count s c)

-- in the run an event has sent the value as the answer to the reply: a read that found it, or the write that filled the
-- cell
pub data Replies (run : List Event) (t : Tag) (v : Value) : Event → Type 0 where
  at_once : (n : ℕ) (c : Cell) → Among (Looked n c t (Now v)) run → Replies run t v (Looked n c t (Now v))
  by_fill : (n : ℕ) (c : Cell) (w : Tag) (ts : List Tag) → Among (Wrote n c v w (Readers ts)) run → Among t ts
      → Replies run t v (Wrote n c v w (Readers ts))
