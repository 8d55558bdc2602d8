-- How the bank keeps a cell: in a slot of the page that has it and its neighbours.
use Rattle.std.specs.Prelude.{◌≡◌, ◌<◌, ℕ, ℤ, pos, ◌+ℤ◌, ◌*ℤ◌, ◌-◌, Bool, ◌&&◌}
use Rattle.std.specs.Prelude.{Option, None, Some, option_and_then}
use Rattle.std.specs.Prelude.{unwrap_or, zero, suc, List, [], ◌∷◌, ◌++◌, box_value, slice_index_or}
use Rattle.std.specs.Int.{w64, int_div_euclid, int_rem_euclid}
use Rattle.std.specs.Int.RustNames.{unsigned_abs, FitsSigned}
use Rattle.std.specs.Ordering.{int_eq}
use Rattle.std.specs.List.{flat_map}
use Rattle.std.specs.Map.{lookup}
use Rattle.std.proofs.Common.{Vec, Global}
use Rattle.id_tag.specs.declared.Cell.{Cell}
use Rattle.id_tag.specs.declared.Structure.{Structure}
use Rattle.id_tag.specs.declared.Tag.{Tag}
use Rattle.id_tag.specs.Plains.{whole}
use Rattle.id_tag.specs.Tags.{same_structure}
use Rattle.id_bank.specs.Cells.{CellState, Present, Deferred, count_readers}
use Rattle.id_bank.specs.declared.cell.Filled.{Filled as FilledCell}
use Rattle.id_bank.specs.declared.slot.Numbers.{Numbers}
use Rattle.id_bank.specs.declared.slot.Slot.{Slot}
use Rattle.id_bank.specs.declared.slot.Slot.TheVariants.{Absent, Filled, One, Two, Wide}
use Rattle.id_bank.specs.declared.slot.Kept.{Kept}
use Rattle.id_bank.specs.declared.slot.Kept.TheVariants as kept

-- the tag of an element and small numbers
abbrev pub tag_of : ℕ → Numbers → Tag
tag_of e n = record { context = record { element = e; serial = n.serial }; iteration = n.iteration; instr = n.instr }

-- what a cell holds in memory of its own
abbrev pub kept_state : Kept → CellState
kept_state (kept.Present v w) = Present v w
kept_state (kept.Deferred ts) = Deferred ts

-- what a cell holds, by its slot, if it was read or written
abbrev pub state_of : Slot → Option CellState
state_of Absent = None
state_of (Filled e n p) = Some (Present (whole p) (tag_of e n))
state_of (One e n) = Some (Deferred (tag_of e n ∷ []))
state_of (Two e f n m) = Some (Deferred (tag_of e n ∷ tag_of f m ∷ []))
state_of (Wide b) = Some (kept_state (box_value b))

-- the origin of the value that a cell holds
abbrev pub origin_of : Option CellState → Option Tag
origin_of None = None
origin_of (Some (Present v w)) = Some w
origin_of (Some (Deferred ts)) = None

-- the replies that wait at a cell
abbrev pub replies_of : Option CellState → List Tag
replies_of None = []
replies_of (Some (Present v w)) = []
replies_of (Some (Deferred ts)) = ts

-- the page of a cell: the eight neighbours whose indexes have one quotient by 8
abbrev pub page_of : Cell → ℤ × Structure
page_of c = (int_div_euclid c.index (pos 8), c.structure)

-- the place of a cell in its page
abbrev pub offset_of : Cell → ℕ
offset_of c = unsigned_abs (int_rem_euclid c.index (pos 8))

-- the cell of a page at a place
abbrev pub cell_in : ℤ × Structure → ℕ → Cell
cell_in p k = record { structure = p.1; index = p.0 *ℤ pos 8 +ℤ pos k }

-- the cells at all places of a page have indexes of 64 bits
abbrev pub IsPage : ℤ × Structure → Type 0
IsPage p = FitsSigned w64 (cell_in p 0).index × FitsSigned w64 (cell_in p 7).index

-- whether two pages are one
abbrev pub same_page : ℤ × Structure → ℤ × Structure → Bool
same_page p q = int_eq p.0 q.0 && same_structure p.1 q.1

-- what the cell at a place of a page holds, by the slots
abbrev pub state_in : List Slot → ℕ → Option CellState
state_in ss k = state_of (slice_index_or ss k Absent)

-- no cell of a page was read or written
unfoldable pub HasNone : List Slot → Type 0
HasNone ss = (k : ℕ) → k < 8 → state_in ss k ≡ None

-- no reply waits at the cells of a page
unfoldable pub HasNoReaders : List Slot → Type 0
HasNoReaders ss = (k : ℕ) → k < 8 → count_readers (state_in ss k) ≡ 0

-- what the cell at a place of a page holds, by the pages' slots
abbrev pub state_at : List ((ℤ × Structure) × Vec Slot Global) → ℤ × Structure → ℕ → Option CellState
state_at es p k = option_and_then (λ v. state_in v.items k) (lookup (same_page p) es)

-- a cell with what it holds, if it was read or written
abbrev pub entry_at : Cell → Option CellState → List (Cell × CellState)
entry_at c None = []
entry_at c (Some s) = (c, s) ∷ []

-- the cells of a page that were read or written, of its first n places
unfoldable pub cells_below : ℕ → ℤ × Structure → List Slot → List (Cell × CellState)
cells_below zero p ss = []
cells_below (suc n) p ss = cells_below n p ss ++ entry_at (cell_in p n) (state_in ss n)

-- the cells of a page
abbrev pub page_cells : (ℤ × Structure) × Vec Slot Global → List (Cell × CellState)
page_cells e = cells_below 8 e.0 e.1.items

-- the cells of all pages
abbrev pub cells_in : List ((ℤ × Structure) × Vec Slot Global) → List (Cell × CellState)
cells_in es = flat_map page_cells es

-- the cells of a page at its last n places
unfoldable pub cells_above : ℕ → ℤ × Structure → List Slot → List (Cell × CellState)
cells_above zero p ss = []
cells_above (suc n) p ss = entry_at (cell_in p (7 - n)) (state_in ss (7 - n)) ++ cells_above n p ss

-- the cells of these pages, of the first one those at its last n places
abbrev pub cells_left : ℕ → List ((ℤ × Structure) × Vec Slot Global) → List (Cell × CellState)
cells_left n [] = []
cells_left n (e ∷ es) = cells_above n e.0 e.1.items ++ cells_in es

-- a cell with its value, if it holds one
abbrev pub filled_by : Cell → Option CellState → Option FilledCell
filled_by c None = None
filled_by c (Some (Present v w)) = Some (record { cell = c; value = v; origin = w })
filled_by c (Some (Deferred ts)) = None

-- what a slot of a cell that was read or written holds
abbrev pub held_in : Slot → CellState
held_in s = unwrap_or (state_of s) (Deferred [])
