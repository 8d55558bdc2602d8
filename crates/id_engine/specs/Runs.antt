-- Runs of the engine: how they end, and what is printed of them (docs/PROMISES.md, "The run").
use Rattle.std.specs.Prelude.{◌≡◌, ◌≢◌, ℕ, Bool, IsTrue, IsFalse, List, [], ◌++◌, All, Result}
use Rattle.std.specs.Prelude.{Ok, Err, None, Option, if◌then◌else◌}
use Rattle.id_check.specs.declared.checked.Checked.{Checked}
use Rattle.id_instr.specs.Graph.{Parts}
use Rattle.id_value.specs.declared.Constant.{Constant}
use Rattle.id_source.specs.declared.Ask.{Ask}
use Rattle.id_source.specs.declared.SourceFault.{SourceFault}
use Rattle.id_source.specs.declared.NameValue.{NameValue}
use Rattle.id_source.specs.Inputs.{AreInputsOf}
use Rattle.id_build.specs.Own.{IsOwn}
use Rattle.id_record.specs.declared.kept.Keeps.{Keeps}
use Rattle.id_record.specs.declared.kept.Keeps.TheVariants as keeps
use Rattle.id_core.specs.Events.{EventView}
use Rattle.id_core.specs.Firsts.{AreMergedOf, IsFirstFault}
use Rattle.id_core.specs.Machines.{MachineView, World, IsQuiet}
use Rattle.id_core.specs.Observed.{answer, cell_values, faults, names, structures, waiting}
use Rattle.id_elements.specs.Runs.{IsByPositions, IsHeldBack, IsRun, MovesOn}
use Rattle.id_sink.specs.declared.sink.PrintError.{PrintError}
use Rattle.id_sink.specs.Told.{SinkView, Prints}
use Rattle.id_print.specs.declared.helds.Held.{Held}
use Rattle.id_print.specs.Names.{IsOrderOf, IsSortedOf, HeldBefore, WaitBefore, held_lines}
use Rattle.id_print.specs.Texts.{quiet_text, stopped_text, fault_text}
use Rattle.id_print.specs.Reports.{asked}
use Rattle.id_trace.specs.Traces.{trace_text}
use Rattle.id_compile.specs.Programs.{IsProgramOf}
use Rattle.id_engine.specs.Commands.{Run, Shows}

-- the lines about structures and cells that a machine shows
abbrev pub held_of : Parts → World → List Held
held_of g w = held_lines (structures g w) (cell_values g w)

-- as much as is kept of the events of a run whose trace or names are asked for, or neither
abbrev pub keeps_for : Bool → Bool → Keeps
keeps_for trace names = if trace then keeps.All else if names then keeps.Names else keeps.Tellings

-- what is traced of a machine: all its events, by stamp, and at one stamp by element, where they are asked for, and
-- else none
pub record IsTraceOf (t : Bool) (w : World) (es : List EventView) : Type 0 where
  pub asked : IsTrue t → AreMergedOf w.elements es
  pub unasked : IsFalse t → es ≡ []

-- how a run ends that has come to this state, and what is printed of it, its names where they are asked for
pub data Ends (g : Parts) (count steps : ℕ) (w : World) (text : List ℕ) (b : Bool) : ℕ → List ℕ
    → Type 0 where
  -- with status 0 the machine is quiet
  quiet : (ns : List NameValue) (hs : List Held) (waits : List Ask) → IsQuiet w
      → (IsTrue b → IsSortedOf ns (names g w)) → IsOrderOf HeldBefore hs (held_of g w)
      → IsOrderOf WaitBefore waits (waiting g w) →
      Ends g count steps w text b 0 (quiet_text text (answer g w) (asked b ns) hs waits)
  -- with status 1 it has shown a fault: the first of all its events, by stamp and then by element
  fault : (f : SourceFault) → IsFirstFault g w.elements f → Ends g count steps w text b 1 (fault_text text f)
  -- with status 3 it has shown no fault, and messages are left, all of them held back
  stopped : (ns : List NameValue) (hs : List Held) → faults g w ≡ [] → w.flight ≢ []
      → All (IsHeldBack count steps w) w.flight → (IsTrue b → IsSortedOf ns (names g w))
      → IsOrderOf HeldBefore hs (held_of g w) →
      Ends g count steps w text b 3 (stopped_text text (answer g w) (asked b ns) hs)

-- a run of the text's program on the inputs that the words give, on so many elements, each of which handles at most so
-- many messages, is printed with this result, its trace before its report where that is asked for. The trace is a
-- legal list of events that ends so (`IsRun`, `legal`), and what is printed is what the command shows of the program
pub record HasRun (text : List ℕ) (words : List (List ℕ)) (count : ℕ) (t : Bool) (steps : ℕ) (b : Bool)
    (old new : SinkView) (status : ℕ) (result : Result (Unit {0}) PrintError) : Type 0 where
  pub program : Checked
  pub is_program : IsProgramOf text program
  pub graph : Parts
  pub own : IsOwn program graph
  pub inputs : List Constant
  pub are_inputs : AreInputsOf program words inputs
  pub machine : MachineView
  pub run : IsRun graph inputs count steps machine
  pub moves : MovesOn machine.world
  pub events : List EventView
  pub traced : IsTraceOf t machine.world events
  pub output : List ℕ
  pub ends : Ends graph count steps machine.world text b status output
  pub shows : Shows program text (Run b t words) status (trace_text events ++ output)
  pub printed : Prints old new (trace_text events ++ output) result

-- all of it is printed; and where a seed gives the order, the run is one by positions, as deliveries one after another
-- are
pub record Ran (text : List ℕ) (words : List (List ℕ)) (count : ℕ) (t : Bool) (steps : ℕ)
    (order : Option ℕ) (b : Bool) (old new : SinkView) (status : ℕ) : Type 0 where
  pub ran : HasRun text words count t steps b old new status (Ok tt)
  pub ordered : order ≢ None → IsByPositions ran.graph ran.inputs count ran.machine.world

-- a front of it is printed, and then a write failed
pub record RanFront (text : List ℕ) (words : List (List ℕ)) (count : ℕ) (t : Bool) (steps : ℕ)
    (order : Option ℕ) (b : Bool) (old new : SinkView) : Type 0 where
  pub status : ℕ
  pub error : PrintError
  pub ran : HasRun text words count t steps b old new status (Err error)
  pub ordered : order ≢ None → IsByPositions ran.graph ran.inputs count ran.machine.world
