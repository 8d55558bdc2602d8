-- The numbers of literals.
use Rattle.std.specs.Prelude.{◌≡◌, ◌<◌, ℕ, ℤ, true, List}
use Rattle.id_value.specs.declared.Constant.TheVariants.{Int}
use Rattle.id_value.specs.Results.{is_whole}
use Rattle.id_table.specs.declared.row.Row.{Row}
use Rattle.id_table.specs.declared.row.Node.TheVariants.{Literal}
use Rattle.id_table.specs.Rows.{at}

-- the number of each literal among the first n rows is one of the language
abbrev pub AreLiterals : List Row → ℕ → Type 0
AreLiterals R n = (i : ℕ) (z : ℤ) → i < n → (at R i).node ≡ Literal (Int z) → is_whole z ≡ true
