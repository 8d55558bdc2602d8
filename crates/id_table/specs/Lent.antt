-- The rows of a program that are lent.
use Rattle.std.specs.Prelude.{List}
use Rattle.id_table.specs.declared.row.Row.{Row}
use Rattle.id_table.specs.declared.rows.Rows.{Rows}

-- these rows, in order
abbrev pub list_of : Rows → List Row
list_of r = r.table.now.rows.items
