-- When the facts of a source have come to an end (docs/MEANING.md, "Laws").
use Rattle.std.specs.Prelude.{◌≤◌, ℕ, suc, List, length}
use Rattle.id_value.specs.List.{Among, AllDiffer}
use Rattle.id_check.specs.declared.checked.Checked.{Checked}
use Rattle.id_source.specs.declared.Path.{Path}
use Rattle.id_source.specs.declared.Fact.{Fact}
use Rattle.id_source.specs.Sources.{Source}
use Rattle.id_source.specs.Rounds.{Holds}
use Rattle.id_source.specs.Computed.{AreFacts}
use Rattle.id_laws.specs.Bounded.{AreActive, IsActiveBy}

-- these are the paths at which a run may do something by the facts, each once
pub record AreActiveBy (P : Checked) (fs : List Fact) (ps : List Path) : Type 0 where
  pub each : (p : Path) → IsActiveBy P (λ f. Among f fs) p → Among p ps
  pub only : (p : Path) → Among p ps → IsActiveBy P (λ f. Among f fs) p
  pub once : AllDiffer ps

-- the facts are all that the source has, and a run may do something at their paths alone, which are no more than they
pub record AreAllFacts (S : Source) (fs : List Fact) : Type 0 where
  pub all : (f : Fact) → Holds S f → Among f fs
  pub paths : List Path
  pub at : AreActiveBy S.checked fs paths
  pub active : AreActive S paths
  pub few : length paths ≤ length fs

-- *Ended facts*: where a round has the facts of the round before it, they are all facts of the source
abbrev pub EndedFacts : Type 0
EndedFacts = (S : Source) (n : ℕ) (fs : List Fact) → AreFacts S n fs → AreFacts S (suc n) fs → AreAllFacts S fs
