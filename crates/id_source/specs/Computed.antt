-- Rounds as lists (docs/MEANING.md, "Rounds").
use Rattle.std.specs.Prelude.{◌≢◌, ◌≤◌, ◌<◌, ℕ, List, length, AllPairs}
use Rattle.id_value.specs.List.{Among}
use Rattle.id_source.specs.declared.Fact.{Fact}
use Rattle.id_source.specs.Sources.{Source}
use Rattle.id_source.specs.Rounds.{Rounds}
use Rattle.id_source.specs.Orders.{FactsRise}

-- the list has exactly the facts of round n, in order, each once
pub record AreFacts (S : Source) (n : ℕ) (fs : List Fact) : Type 0 where
  pub all : (f : Fact) → Rounds S n f → Among f fs
  pub only : (f : Fact) → Among f fs → Rounds S n f
  pub rise : FactsRise fs

-- some round up to n has more facts than this: these, each once
pub record HasMoreFacts (S : Source) (n most : ℕ) : Type 0 where
  pub round : ℕ
  pub up_to : round ≤ n
  pub facts : List Fact
  pub only : (f : Fact) → Among f facts → Rounds S round f
  pub once : AllPairs (λ f g. f ≢ g) facts
  pub more : most < length facts
