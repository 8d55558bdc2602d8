-- What an element keeps.
use Rattle.std.specs.Prelude.{ℕ}
use Rattle.id_valid.specs.Validator.{IsValid}
use Rattle.id_step.specs.Firings.{IsBound}
use Rattle.id_step.specs.Replays.{ElementView, Replays}

-- its record replays, its graph is valid, and no message at an instruction of that sends more than this
pub record IsKept (e : ElementView) (most : ℕ) : Type 0 where
  pub replays : Replays e
  pub valid : IsValid e.graph
  pub bound : IsBound e.graph e.number most
