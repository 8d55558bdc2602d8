-- What a check finds in the rows of a program that it accepts, for use inside.
use Rattle.std.specs.Prelude.{◌≡◌, ℕ, List, [], get_or, length, None}
use Rattle.id_table.specs.declared.row.Row.{Row}
use Rattle.id_check.specs.Causes.{IsMain, causes}
use Rattle.id_check.specs.Depths.{AreDepths}
use Rattle.id_check.specs.Kinds.{AreKinds}
use Rattle.id_check.specs.Scopes.{AreBinders}
use Rattle.id_check.specs.declared.program.Columns.{Columns}

-- `main` is at this row, the columns are those of the rows, and there is no cause to refuse the program
pub record IsJudged (R : List Row) (main : ℕ) (c : Columns) : Type 0 where
  pub is_main : IsMain R main
  pub bound : AreBinders R (λ i. get_or c.binders.items i None)
  pub kinded : AreKinds R (λ i. get_or c.binders.items i None) (λ i. get_or c.kinds.items i None)
  pub deep : AreDepths R (length R) c.depths.items
  pub accepted : causes R (λ i. get_or c.binders.items i None) (λ i. get_or c.kinds.items i None) ≡ []
