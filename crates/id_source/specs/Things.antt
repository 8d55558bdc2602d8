-- Which rows of a source are things.
use Rattle.std.specs.Prelude.{◌≡◌, ◌<◌, ℕ, true}
use Rattle.std.specs.Prelude.{length}
use Rattle.id_table.specs.Rows.{at}
use Rattle.id_table.specs.Tables.{is_thing}
use Rattle.id_check.specs.Programs.{rows}
use Rattle.id_source.specs.Sources.{Source}

-- a thing stands at the row
pub record IsThing (S : Source) (n : ℕ) : Type 0 where
  pub within : n < length (rows S.checked)
  pub thing : is_thing (at (rows S.checked) n).node ≡ true
