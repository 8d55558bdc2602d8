-- The code of cells, by which models that hold them tell them apart.
use Rattle.std.specs.Prelude.{◌≡◌, ◌⊎◌, List, refl}
use Rattle.std.proofs.Common.{inl, inr}
use Rattle.std.specs.Coded.{Coded, code_by, coded×, coded⊎, coded_list}
use Rattle.std.specs.FinMap as map
use Rattle.id_tag.specs.declared.Tag.{Tag}
use Rattle.id_tag.specs.declared.Value.{Value}
use Rattle.id_tag.specs.Codes.{coded_tag, coded_cell, coded_value}
use Rattle.id_bank.specs.Cells.{CellState, Present, Deferred, Cells}

-- what a cell holds: a value with its origin, or replies
abbrev pub Held : Type 0
Held = (Value × Tag) ⊎ List Tag

-- what a cell in this state holds
abbrev pub held_by : CellState → Held
held_by (Present v w) = inl (v, w)
held_by (Deferred ts) = inr ts

-- the state of a cell that holds this
abbrev pub from_held : Held → CellState
from_held (inl p) = Present p.0 p.1
from_held (inr ts) = Deferred ts

-- the state of a cell that holds what a cell in a state holds is that state
pub from_held-held_by : (s : CellState) → from_held (held_by s) ≡ s
from_held-held_by (Present v w) = refl
from_held-held_by (Deferred ts) = refl

-- what a cell holds, by its parts
abbrev pub coded_state : Coded CellState
coded_state =
    code_by Held (coded⊎ (coded× coded_value coded_tag) (coded_list coded_tag)) held_by from_held from_held-held_by

-- cells as their entries
abbrev pub coded_cells : Coded Cells
coded_cells = map.code coded_cell coded_state
