-- *Status told*: what the status of a run tells that has enough steps (docs/PROMISES.md, "The run").
use Rattle.std.specs.Prelude.{◌≡◌, ◌⊎◌, ◌↔◌, ◌<◌, ◌≤◌, ◌-◌, ◌*◌, ◌^◌, ℕ, Bool}
use Rattle.std.specs.Prelude.{List, Result, length}
use Rattle.id_instr.specs.Graph.{Parts}
use Rattle.id_source.specs.declared.Path.{Path}
use Rattle.id_source.specs.declared.SourceFault.{SourceFault}
use Rattle.id_source.specs.Sources.{Source, AreInputs, source}
use Rattle.id_source.specs.Rounds.{Faulty, FaultFree}
use Rattle.id_laws.specs.Determinate.{RunOf}
use Rattle.id_laws.specs.Bounded.{AreActive, messages_at_once}
use Rattle.id_sink.specs.declared.sink.PrintError.{PrintError}
use Rattle.id_sink.specs.Told.{SinkView}
use Rattle.id_promises.specs.Alike.{IsPrinted}
use Rattle.id_engine.specs.Runs.{HasRun}

-- the source has a fault
abbrev pub HasFault : Source → Type 0
HasFault S = (f : SourceFault) × Faulty S f

-- so few paths of the source are active that no run of the graph needs more messages than these
pub record AreEnough (S : Source) (g : Parts) (steps : ℕ) : Type 0 where
  pub paths : List Path
  pub active : AreActive S paths
  pub enough : messages_at_once g * length paths ≤ steps

-- the status is 0 or 1: it is 0 exactly where the source has no fault, and 1 exactly where it has one
pub record TellsFaults (S : Source) (status : ℕ) : Type 0 where
  pub one : (status ≡ 0) ⊎ (status ≡ 1)
  pub free : status ≡ 0 ↔ FaultFree S
  pub faulty : status ≡ 1 ↔ HasFault S

-- *Status told*: the status of a run whose elements may handle enough messages tells whether its source has a fault
pub record StatusTold : Type 0 where
  -- that of each run of a source, by the positions of its deliveries
  pub of_runs : (S : Source) → AreInputs S.checked S.inputs → (r : RunOf S) (steps status : ℕ) (text : List ℕ)
      (b : Bool) (bytes : List ℕ) → steps < 2 ^ 64 - 1 → AreEnough S r.graph steps
      → IsPrinted S r steps text b status bytes → TellsFaults S status
  -- and so that of each run of the program, whatever of it was printed
  pub of_program : (text : List ℕ) (words : List (List ℕ)) (count steps status : ℕ) (t b : Bool)
      (old new : SinkView) (result : Result (Unit {0}) PrintError) → steps < 2 ^ 64 - 1
      → (h : HasRun text words count t steps b old new status result)
      → AreEnough (source h.program h.inputs) h.graph steps → TellsFaults (source h.program h.inputs) status
