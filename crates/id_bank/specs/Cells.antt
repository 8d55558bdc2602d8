-- The cells of structures (docs/MACHINE.md, "The bank").
use Rattle.std.specs.Prelude.{ℕ, Option, Some, None, List, [], ◌∷◌, ◌++◌, length, map}
use Rattle.std.specs.List.{flat_map}
use Rattle.std.specs.FinMap.{FinMap, get, insert, entries}
use Rattle.id_tag.specs.declared.Cell.{Cell}
use Rattle.id_tag.specs.declared.Tag.{Tag}
use Rattle.id_tag.specs.declared.Value.{Value}
use Rattle.id_tag.specs.Tags.{cell_cmp}
use Rattle.id_bank.specs.declared.cell.ReadAnswer.{ReadAnswer}
use Rattle.id_bank.specs.declared.cell.ReadAnswer.TheVariants.{Now, Deferred as PutOff}
use Rattle.id_bank.specs.declared.cell.WriteAnswer.{WriteAnswer}
use Rattle.id_bank.specs.declared.cell.WriteAnswer.TheVariants.{Readers, Second}
use Rattle.id_bank.specs.declared.cell.Filled.{Filled}
use Rattle.id_bank.specs.declared.cell.Reader.{Reader}

-- what a cell holds: a value and the origin of the write that brought it, or the replies that wait for one, in order of
-- arrival
pub data CellState : Type 0 where
  Present : Value → Tag → CellState
  Deferred : List Tag → CellState

-- the cells that were read or written
abbrev pub Cells : Type 0
Cells = FinMap cell_cmp CellState

-- what a read comes to, by what its cell holds: it gets the value, or it is put off
abbrev pub read_answer : Option CellState → ReadAnswer
read_answer None = PutOff
read_answer (Some (Present v w)) = Now v
read_answer (Some (Deferred ts)) = PutOff

-- what the cell holds after a read for this reply
abbrev pub state_read : Tag → Option CellState → CellState
state_read t None = Deferred (t ∷ [])
state_read t (Some (Present v w)) = Present v w
state_read t (Some (Deferred ts)) = Deferred (ts ++ t ∷ [])

-- the cells after a read
abbrev pub read_after : Cells → Cell → Tag → Cells
read_after m c t = insert m c (state_read t (get m c))

-- what a write comes to, by what its cell holds: it is for all that wait, or it finds the origin of an earlier write
abbrev pub write_answer : Option CellState → WriteAnswer
write_answer None = Readers []
write_answer (Some (Present v w)) = Second w
write_answer (Some (Deferred ts)) = Readers ts

-- what the cell holds after a write of v from the origin w: a value that is there stays
abbrev pub state_written : Value → Tag → Option CellState → CellState
state_written v w None = Present v w
state_written v w (Some (Present u x)) = Present u x
state_written v w (Some (Deferred ts)) = Present v w

-- the cells after a write
abbrev pub write_after : Cells → Cell → Value → Tag → Cells
write_after m c v w = insert m c (state_written v w (get m c))

-- how many replies wait, by what the cell holds
abbrev pub count_readers : Option CellState → ℕ
count_readers None = 0
count_readers (Some (Present v w)) = 0
count_readers (Some (Deferred ts)) = length ts

-- how many replies wait, by what the cell holds, unless that is a value
abbrev pub count_expected : Option CellState → Option ℕ
count_expected None = Some 0
count_expected (Some (Present v w)) = None
count_expected (Some (Deferred ts)) = Some (length ts)

-- an entry's cell with its value, if it holds one
abbrev pub filled_at : Cell × CellState → List Filled
filled_at (c, Present v w) = record { cell = c; value = v; origin = w } ∷ []
filled_at (c, Deferred ts) = []

-- an entry's cell with each reply that waits for its value
abbrev pub readers_at : Cell × CellState → List Reader
readers_at (c, Present v w) = []
readers_at (c, Deferred ts) = map (λ t. record { cell = c; reply = t }) ts

-- the cells that hold a value, in their order
abbrev pub cells_of : Cells → List Filled
cells_of m = flat_map filled_at (entries m)

-- the replies that wait, in the order of their cells and then of arrival
abbrev pub deferred_of : Cells → List Reader
deferred_of m = flat_map readers_at (entries m)
