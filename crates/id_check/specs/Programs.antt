-- A checked program, row by row (docs/MEANING.md, "Parts").
use Rattle.std.specs.Prelude.{◌≡◌, ◌<◌, ℕ, List, length, get_or, Option, None, Some}
use Rattle.id_value.specs.declared.Kind.{Kind}
use Rattle.id_grammar.specs.Tree.{Tree}
use Rattle.id_table.specs.declared.row.Region.{Region}
use Rattle.id_table.specs.declared.row.Row.{Row}
use Rattle.id_table.specs.declared.row.Node.{Node}
use Rattle.id_table.specs.declared.row.Node.TheVariants.{Enter, Def}
use Rattle.id_table.specs.Rows.{at}
use Rattle.id_check.specs.declared.checked.Checked.{Checked}
use Rattle.id_check.specs.Noted.{tree_in}

-- the program's tree
abbrev pub tree : Checked → Tree
tree P = tree_in P.tree.known

-- the rows of the program
abbrev pub rows : Checked → List Row
rows P = P.table.rows.items

-- the binder of the name at the row, if a name stands there
abbrev pub binder : Checked → ℕ → Option ℕ
binder P i = get_or P.binders.items i None

-- the kind of the row, if it has one
abbrev pub kind : Checked → ℕ → Option Kind
kind P i = get_or P.kinds.items i None

-- how many loops of its procedure the row is in
abbrev pub depth : Checked → ℕ → ℕ
depth P i = get_or P.depths.items i 0

-- where the row stands in the text
abbrev pub place : Checked → ℕ → ℕ
place P i = (at (rows P) i).place

-- the region that the row stands in
abbrev pub region : Checked → ℕ → Region
region P i = (at (rows P) i).region

-- the row has this node
pub record Stands (P : Checked) (i : ℕ) (n : Node) : Type 0 where
  pub within : i < length (rows P)
  pub node : (at (rows P) i).node ≡ n

-- the `Enter` at the row e calls the procedure that is defined at the row d, with the head h
pub record Calls (P : Checked) (e d h : ℕ) : Type 0 where
  pub name : ℕ
  pub result : Kind
  pub body : ℕ
  pub enter : Stands P e (Enter name)
  pub binder : binder P e ≡ Some d
  pub definition : Stands P d (Def name h result body)
