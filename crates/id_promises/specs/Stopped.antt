-- *Stopped short*: what a run shows that stops at its steps (docs/PROMISES.md, "The run").
use Rattle.std.specs.Prelude.{◌<◌, ◌-◌, ◌*◌, ◌^◌, ℕ, Bool, List, Result, length}
use Rattle.id_value.specs.List.{Among, AllDiffer}
use Rattle.id_instr.specs.Graph.{Parts}
use Rattle.id_source.specs.declared.Path.{Path}
use Rattle.id_source.specs.Sources.{Source, AreInputs, source}
use Rattle.id_laws.specs.Determinate.{RunOf}
use Rattle.id_laws.specs.Bounded.{IsActive, messages_at_once}
use Rattle.id_sink.specs.declared.sink.PrintError.{PrintError}
use Rattle.id_sink.specs.Told.{SinkView}
use Rattle.id_promises.specs.Alike.{IsPrinted}
use Rattle.id_engine.specs.Runs.{HasRun}

-- so many different paths of the source are active that a run of the graph may need more messages than these
pub record NeedsMore (S : Source) (g : Parts) (steps : ℕ) : Type 0 where
  pub paths : List Path
  pub differ : AllDiffer paths
  pub active : (p : Path) → Among p paths → IsActive S p
  pub more : steps < messages_at_once g * length paths

-- *Stopped short*: a run that stops because no element may handle more messages shows that its source needs more
pub record StoppedShort : Type 0 where
  -- each run of a source, by the positions of its deliveries
  pub of_runs : (S : Source) → AreInputs S.checked S.inputs
      → (r : RunOf S) (steps : ℕ) (text : List ℕ) (b : Bool)
      (bytes : List ℕ) → steps < 2 ^ 64 - 1 → IsPrinted S r steps text b 3 bytes → NeedsMore S r.graph steps
  -- and so each run of the program, whatever of it was printed
  pub of_program : (text : List ℕ) (words : List (List ℕ)) (count steps : ℕ) (t b : Bool) (old new : SinkView)
      (result : Result (Unit {0}) PrintError) → steps < 2 ^ 64 - 1
      → (h : HasRun text words count t steps b old new 3 result)
      → NeedsMore (source h.program h.inputs) h.graph steps
