-- *At every moment*: what a run of the program shows while it goes on (docs/PROMISES.md, "The run").
use Rattle.std.specs.Prelude.{◌≡◌, ℕ, Bool, List, ◌++◌, Result}
use Rattle.id_instr.specs.Graph.{Parts}
use Rattle.id_value.specs.declared.Constant.{Constant}
use Rattle.id_source.specs.Sources.{source}
use Rattle.id_core.specs.Events.{EventView}
use Rattle.id_core.specs.Firsts.{AreMergedOf}
use Rattle.id_core.specs.Machines.{World, start}
use Rattle.id_runs.specs.Legal.{LeadTo}
use Rattle.id_build.specs.Own.{own_number}
use Rattle.id_laws.specs.Laws.{IsSound}
use Rattle.id_sink.specs.declared.sink.PrintError.{PrintError}
use Rattle.id_sink.specs.Told.{SinkView}
use Rattle.id_engine.specs.Runs.{HasRun}

-- the machine is in this state after a front of the events, from its start with these inputs
pub record IsMoment (g : Parts) (vs : List Constant) (count : ℕ) (es : List EventView) (w : World) : Type 0 where
  pub front : List EventView
  pub rest : List EventView
  pub whole : front ++ rest ≡ es
  pub lead : LeadTo g count (start g vs count) front w

-- *At every moment*: of a run for which `engine` answers, whatever its status and its order
pub record AtEveryMoment (text : List ℕ) (words : List (List ℕ)) (count : ℕ) (t : Bool) (steps : ℕ) (b : Bool)
    (old new : SinkView) (status : ℕ) (result : Result (Unit {0}) PrintError) : Type 0 where
  -- each front of its events, by stamp, and at one stamp by element, leads to a state
  pub reached : (h : HasRun text words count t steps b old new status result) (front rest : List EventView)
      → AreMergedOf (h.machine).world.elements (front ++ rest)
      → (w : World) × LeadTo h.graph count (start h.graph h.inputs count) front w
  -- and in each such state it has shown facts and faults of the text's source alone
  pub sound : (h : HasRun text words count t steps b old new status result) (es : List EventView) (w : World)
      → AreMergedOf (h.machine).world.elements es → IsMoment h.graph h.inputs count es w
      → IsSound (source h.program h.inputs) h.graph (own_number h.program) w

-- so it is with each run of the program
abbrev pub AllMoments : Type 0
AllMoments = (text : List ℕ) (words : List (List ℕ)) (count : ℕ) (t : Bool) (steps : ℕ) (b : Bool)
    (old new : SinkView) (status : ℕ) (result : Result (Unit {0}) PrintError)
    → AtEveryMoment text words count t steps b old new status result
