-- The numbers of arguments of calls, by their `Enter`, for use inside.
use Rattle.std.specs.Prelude.{◌≡◌, ◌<◌, ℕ, List, length, get_or, Option, None}
use Rattle.id_table.specs.declared.row.Row.{Row}
use Rattle.id_check.specs.Causes.{count_at}

-- the numbers are those of the calls among the first n rows, by `Enter`
pub record AreCounts (R : List Row) (n : ℕ) (cs : List (Option ℕ)) : Type 0 where
  pub long : length cs ≡ length R
  pub each : (e : ℕ) → e < length R → get_or cs e None ≡ count_at R n e
