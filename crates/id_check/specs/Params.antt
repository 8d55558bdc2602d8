-- The parameters of definitions, for use inside: they stand right behind the head.
use Rattle.std.specs.Prelude.{ℕ, Bool, true, false, ◌&&◌, nat_eq, List, [], ◌∷◌, Option, None, Some}
use Rattle.id_table.specs.declared.row.Row.{Row}
use Rattle.id_table.specs.Rows.{at}
use Rattle.id_table.specs.Tables.{is_param}
use Rattle.id_check.specs.declared.cause.CheckCause.{CheckCause}
use Rattle.id_check.specs.declared.cause.CheckCause.TheVariants.{MainKind, TooManyParams}

-- whether a parameter of the procedure with this head stands at the row i
abbrev pub is_param_of : List Row → ℕ → ℕ → Bool
is_param_of R h i = is_param (at R i).node && nat_eq (at R i).block h

-- the cause at the place of a parameter of `main` that is an array, if there is one
abbrev pub array_cause : Option ℕ → List CheckCause
array_cause None = []
array_cause (Some e) = MainKind e ∷ []

-- the cause where there are too many parameters of a definition at a place
abbrev pub count_cause : Bool → ℕ → List CheckCause
count_cause true e = TooManyParams e ∷ []
count_cause false e = []
