-- How many loops are round the rows, for use inside.
use Rattle.std.specs.Prelude.{◌≡◌, ◌<◌, ℕ, suc, List, length, get_or}
use Rattle.id_table.specs.declared.row.Row.{Row}
use Rattle.id_table.specs.declared.row.Node.{Node}
use Rattle.id_table.specs.declared.row.Node.TheVariants.{LoopHead}
use Rattle.id_table.specs.Loops.{depth}

-- the depths are those of the first n rows
pub record AreDepths (R : List Row) (n : ℕ) (ds : List ℕ) : Type 0 where
  pub long : length ds ≡ n
  pub each : (i : ℕ) → i < n → get_or ds i 0 ≡ depth R i

-- the depth of the rows of a block whose head has this node, if these are known
abbrev pub depth_in : List ℕ → Node → ℕ
depth_in ds (LoopHead s) = suc (get_or ds s 0)
depth_in ds n = 0
