-- The report of a run of a text's program, and how it is printed.
use Rattle.std.specs.Prelude.{◌≡◌, ◌≢◌, ◌≤◌, ◌<◌, ◌⊎◌, ℕ, Bool, IsTrue, List, ◌++◌}
use Rattle.std.specs.Prelude.{IfSome, None, Option, Result, Ok, Err}
use Rattle.id_check.specs.declared.checked.Checked.{Checked}
use Rattle.id_value.specs.declared.Constant.{Constant}
use Rattle.id_source.specs.Sources.{Source, source}
use Rattle.id_value.specs.List.{Among}
use Rattle.id_source.specs.declared.Ask.{Ask}
use Rattle.id_source.specs.declared.Fact.TheVariants as fact
use Rattle.id_source.specs.Rounds.{Answers, Holds, IsAnswer, Faulty, FaultFree}
use Rattle.id_source.specs.Names.{AreNames, AreSomeNames, AreWaiting}
use Rattle.id_build.specs.Own.{IsOwn}
use Rattle.id_instr.specs.Graph.{Parts}
use Rattle.id_core.specs.Events.{EventView}
use Rattle.id_core.specs.Machines.{World, MachineView}
use Rattle.id_print.specs.declared.ending.Ending.{Ending}
use Rattle.id_print.specs.declared.ending.Ending.TheVariants.{Quiet, Stopped, Fault}
use Rattle.id_print.specs.declared.run_reports.Report.{Report}
use Rattle.id_sink.specs.declared.sink.PrintError.{PrintError}
use Rattle.id_sink.specs.Told.{SinkView, Prints}
use Rattle.id_print.specs.RunReports.{IsReportFrom}
use Rattle.id_print.specs.Reports.{report_text}
use Rattle.id_trace.specs.Traces.{trace_text}
use Rattle.id_print.specs.Names.{AreHeld, AreSomeHeld}
use Rattle.id_source.specs.Computed.{HasMoreFacts}
use Rattle.id_compile.specs.declared.error.EngineError.{EngineError}
use Rattle.id_compile.specs.declared.error.EngineError.TheVariants.{BadElements, BadSteps, BadRounds, TooManyFacts}
use Rattle.id_compile.specs.declared.error.EngineError.TheVariants.{Memory, Write}
use Rattle.id_elements.specs.Runs.{IsByPositions, IsRun, MovesOn}
pub use Rattle.id_engine.specs.Judged.{status_of}
use Rattle.id_engine.specs.Runs.{IsTraceOf}

-- what the report of a quiet run says of the source: it says all of its names where they are asked for
pub record SaysAll (S : Source) (b : Bool) (r : Report) : Type 0 where
  pub answer : IsAnswer S r.answer
  pub names : IsTrue b → AreNames S r.names
  pub structures : AreHeld S r.structures
  pub waiting : AreWaiting S r.waiting
  pub none : FaultFree S

-- what the report of a run says of the source, whatever its ending
pub record SaysSome (S : Source) (r : Report) : Type 0 where
  pub answer : IfSome r.answer (Answers S)
  pub names : AreSomeNames S r.names
  pub structures : AreSomeHeld S r.structures
  pub asks : (a : Ask) → Among a r.waiting → Holds S (fact.Ask a)

-- what a report with this ending says of the source is so
abbrev pub SaysTruly : Source → Bool → Report → Ending → Type 0
SaysTruly S b r Quiet = SaysAll S b r
SaysTruly S b r Stopped = SaysSome S r
SaysTruly S b r (Fault f) = Faulty S f

-- what a report says of the source is so
pub record IsTrueOf (S : Source) (b : Bool) (r : Report) : Type 0 where
  pub says : SaysTruly S b r r.ending
  pub some : SaysSome S r

-- the report, with names where they are asked for, is that of a run on so many elements, each of which has handled at
-- most so many messages, that has come to this machine, and in which no event was `Stuck`
pub record IsReportOfRun (g : Parts) (vs : List Constant) (count steps : ℕ) (m : MachineView) (b : Bool)
    (r : Report) :
    Type 0 where
  pub run : IsRun g vs count steps m
  pub moves : MovesOn m.world
  pub from : IsReportFrom m b r

-- a machine's trace, where it is asked for, and the report are printed with this result
pub record HasPrinted (text : List ℕ) (t b : Bool) (w : World) (r : Report) (old new : SinkView)
    (result : Result (Unit {0}) PrintError) : Type 0 where
  pub events : List EventView
  pub traced : IsTraceOf t w events
  pub printed : Prints old new (trace_text events ++ report_text text b r) result

-- they are printed whole, and this is the status; or a write failed; or memory was refused before the first byte
pub data PrintsRun (text : List ℕ) (t b : Bool) (w : World) (r : Report)
    (old new : SinkView) : Result ℕ EngineError → Type 0 where
  whole : HasPrinted text t b w r old new (Ok tt) → PrintsRun text t b w r old new (Ok (status_of r.ending))
  cut : (e : PrintError) → HasPrinted text t b w r old new (Err e) → PrintsRun text t b w r old new (Err Write)
  unprinted : new ≡ old → PrintsRun text t b w r old new (Err Memory)

-- these events and the report are printed whole, and this is the status; or a write failed
pub data PrintsEvents (text : List ℕ) (b : Bool) (es : List EventView) (r : Report) (old new : SinkView) :
    Result ℕ EngineError → Type 0 where
  all_out : Prints old new (trace_text es ++ report_text text b r) (Ok tt)
      → PrintsEvents text b es r old new (Ok (status_of r.ending))
  front_out : (e : PrintError) → Prints old new (trace_text es ++ report_text text b r) (Err e)
      → PrintsEvents text b es r old new (Err Write)

-- so many elements and so many steps for each of them are allowed
pub record AreAllowed (count steps : ℕ) : Type 0 where
  pub some_elements : 0 < count
  pub few_elements : count ≤ 64
  pub some : 0 < steps
  pub few : steps ≤ 100000000

-- why there is no run on so many elements with so many steps for each: these are looked at before memory is wanted
abbrev pub IsUnallowed : ℕ → ℕ → EngineError → Type 0
IsUnallowed count steps BadElements = (count ≡ 0) ⊎ (64 < count)
IsUnallowed count steps BadSteps = (0 < count) × (count ≤ 64) × ((steps ≡ 0) ⊎ (100000000 < steps))
IsUnallowed count steps Memory = AreAllowed count steps
IsUnallowed count steps _ = ⊥

-- a run of a program with its inputs is printed, which is one by positions where a seed gives the order, or it is
-- refused before the first byte
pub data RunsSo (P : Checked) (vs : List Constant) (text : List ℕ) (count : ℕ) (t : Bool) (steps : ℕ)
    (order : Option ℕ) (b : Bool) (old new : SinkView) : Result ℕ EngineError → Type 0 where
  ran : {result : Result ℕ EngineError} (g : Parts) (m : MachineView) (r : Report) → AreAllowed count steps
      → (order ≢ None → IsByPositions g vs count m.world) → IsOwn P g → IsTrueOf (source P vs) b r
      → IsReportOfRun g vs count steps m b r → PrintsRun text t b m.world r old new result →
      RunsSo P vs text count t steps order b old new result
  unallowed : (e : EngineError) → IsUnallowed count steps e → new ≡ old →
      RunsSo P vs text count t steps order b old new (Err e)

-- a report of the machine is printed, or memory was refused before the first byte
pub data PrintsMachine (m : MachineView) (text : List ℕ) (t b : Bool) (old new : SinkView) :
    Result ℕ EngineError → Type 0 where
  reported : {result : Result ℕ EngineError} (r : Report) → IsReportFrom m b r
      → PrintsRun text t b m.world r old new result → PrintsMachine m text t b old new result
  out_of_memory : new ≡ old → PrintsMachine m text t b old new (Err Memory)

-- why the facts of a round of a source are refused: its number is looked at before memory is wanted
abbrev pub AreRefusedRounds : Source → ℕ → EngineError → Type 0
AreRefusedRounds S round BadRounds = 10000 < round
AreRefusedRounds S round TooManyFacts = (round ≤ 10000) × HasMoreFacts S round 1000000
AreRefusedRounds S round Memory = round ≤ 10000
AreRefusedRounds S round _ = ⊥
