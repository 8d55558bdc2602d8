-- *Last round*: what a quiet run tells of the rounds of its source (docs/PROMISES.md, "The run").
use Rattle.std.specs.Prelude.{◌≡◌, ℕ, suc, Bool, List, Result}
use Rattle.id_source.specs.declared.Fact.{Fact}
use Rattle.id_source.specs.Rounds.{Holds, Rounds}
use Rattle.id_source.specs.Sources.{Source, AreInputs, source}
use Rattle.id_core.specs.Machines.{IsQuiet}
use Rattle.id_laws.specs.Determinate.{RunOf, end_of}
use Rattle.id_sink.specs.declared.sink.PrintError.{PrintError}
use Rattle.id_sink.specs.Told.{SinkView}
use Rattle.id_print.specs.Texts.{facts_text}
use Rattle.id_engine.specs.Commands.{AreFactsOf}
use Rattle.id_engine.specs.Runs.{HasRun}

-- all facts of the source are of this round
abbrev pub HasAll : Source → ℕ → Type 0
HasAll S n = (f : Fact) → Holds S f → Rounds S n f

-- the next round of the text on the words adds no bytes to this one
abbrev pub AddsNone : List ℕ → List (List ℕ) → ℕ → Type 0
AddsNone text words n = (fs gs : List Fact) → AreFactsOf text words n fs → AreFactsOf text words (suc n) gs
    → facts_text text fs ≡ facts_text text gs

-- *Last round*: where a run falls quiet, all facts of its source are of one round
pub record LastRound : Type 0 where
  -- each run of a source, by the positions of its deliveries
  pub of_runs : (S : Source) → AreInputs S.checked S.inputs → (r : RunOf S) → IsQuiet (end_of S r)
      → (n : ℕ) × HasAll S n
  -- and so each run of the program with status 0: the next round of the text adds no bytes to that one
  pub of_program : (text : List ℕ) (words : List (List ℕ)) (count steps : ℕ) (t b : Bool) (old new : SinkView)
      (result : Result (Unit {0}) PrintError) → (h : HasRun text words count t steps b old new 0 result)
      → (n : ℕ) × HasAll (source h.program h.inputs) n × AddsNone text words n
