-- The rows of a program with what is found of them, for use inside.
use Rattle.std.specs.Prelude.{ℕ, List, get_or, Option, None}
use Rattle.id_value.specs.declared.Kind.{Kind}
use Rattle.id_table.specs.declared.row.Row.{Row}
use Rattle.id_table.specs.Lent.{list_of}
use Rattle.id_check.specs.declared.typed.Typed.{Typed}

-- the rows
abbrev pub rows : Typed → List Row
rows t = list_of t.rows.now

-- the binder that the name at the row has, if it has one
abbrev pub binder : Typed → ℕ → Option ℕ
binder t i = get_or t.binders.now i None

-- the kind that the row has, if it has one
abbrev pub kind : Typed → ℕ → Option Kind
kind t i = get_or t.kinds.now i None
