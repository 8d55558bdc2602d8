-- The lines about structures and their cells, which are kept as two lists.
use Rattle.std.specs.Prelude.{Bool, true, false, if◌then◌else◌, List, [], ◌∷◌, map}
use Rattle.std.specs.Ordering.{is_lt}
use Rattle.std.specs.List.Sorted.{IsSortedBy}
pub use Rattle.id_core.specs.Observed.{CellValue}
use Rattle.id_source.specs.declared.Shape.{Shape}
use Rattle.id_print.specs.declared.helds.Held.{Held}
use Rattle.id_print.specs.declared.helds.Held.TheVariants.{Array, Cell}
use Rattle.id_print.specs.Names.{held_cmp, site_cmp}

-- the line of the cell comes before that of the structure
abbrev pub is_before : CellValue → Shape → Bool
is_before c s = is_lt (site_cmp c.name s.name)

-- the lines of the cells that come before a structure, its own, and then those of the rest
abbrev pub around : Shape → (List CellValue → List Held) → List CellValue → List Held
around s rest [] = Array s ∷ rest []
around s rest (c ∷ cs) = if is_before c s then Cell c ∷ around s rest cs else Array s ∷ rest (c ∷ cs)

-- the lines of structures and of cells, each before those of the other kind that it comes before
abbrev pub joined : List Shape → List CellValue → List Held
joined [] cs = map Cell cs
joined (s ∷ ss) cs = around s (joined ss) cs

-- whether the first line of these is that of a cell
abbrev pub is_cell_first : List Shape → List CellValue → Bool
is_cell_first ss [] = false
is_cell_first [] (c ∷ cs) = true
is_cell_first (s ∷ ss) (c ∷ cs) = is_before c s

-- structures by their names
abbrev pub AreShapesUp : List Shape → Type 0
AreShapesUp ss = IsSortedBy (λ s t. is_lt (held_cmp (Array s) (Array t))) ss

-- cells by the names of their structures, and then by index
abbrev pub AreCellsUp : List CellValue → Type 0
AreCellsUp cs = IsSortedBy (λ c d. is_lt (held_cmp (Cell c) (Cell d))) cs
