-- What comes of a trace that is judged, before an error is told (specs/Commands.antt).
use Rattle.std.specs.Prelude.{◌≡◌, ℕ, Bool, List, ◌++◌, Result, Ok, Err}
use Rattle.id_check.specs.declared.checked.Checked.{Checked}
use Rattle.id_value.specs.declared.Constant.{Constant}
use Rattle.id_source.specs.Inputs.{AreInputsOf}
use Rattle.id_core.specs.Machines.{MachineView}
use Rattle.id_sink.specs.declared.sink.PrintError.{PrintError}
use Rattle.id_sink.specs.Told.{SinkView, Prints}
use Rattle.id_print.specs.declared.run_reports.Report.{Report}
use Rattle.id_print.specs.RunReports.{IsReportFrom}
use Rattle.id_print.specs.Reports.{report_text}
use Rattle.id_compile.specs.declared.error.EngineError.{EngineError}
use Rattle.id_compile.specs.declared.error.EngineError.TheVariants.{Memory, Write}
use Rattle.id_engine.specs.Commands.{Judge, Shows}
use Rattle.id_engine.specs.Judged.{legal_text}
use Rattle.id_engine.specs.Reports.{AreAllowed, IsUnallowed, status_of}

-- what a write of an output with this status came to tells the answer
abbrev pub IsPrintedSo : Result (Unit {0}) PrintError → ℕ → Result ℕ EngineError → Type 0
IsPrintedSo (Ok u) status result = result ≡ Ok status
IsPrintedSo (Err e) status result = result ≡ Err Write

-- an output is printed whole, and this is its status; or a write failed; or memory was refused before the first byte
pub data PrintsJudged (output : List ℕ) (status : ℕ) (old new : SinkView) : Result ℕ EngineError
    → Type 0 where
  all_out : Prints old new output (Ok tt) → PrintsJudged output status old new (Ok status)
  front_out : (e : PrintError) → Prints old new output (Err e) → PrintsJudged output status old new (Err Write)
  none_out : new ≡ old → PrintsJudged output status old new (Err Memory)

-- so it is with this number of events and this report
abbrev pub IsOutput : ℕ → List ℕ → Bool → Report → SinkView → SinkView → Result ℕ EngineError
    → Type 0
IsOutput n text b r old new result =
    PrintsJudged (legal_text n ++ report_text text b r) (status_of r.ending) old new result

-- and so with some report of the machine
pub data PrintsLegal (m : MachineView) (n : ℕ) (text : List ℕ) (b : Bool) (old new : SinkView) :
    Result ℕ EngineError → Type 0 where
  reported : {result : Result ℕ EngineError} (r : Report) → IsReportFrom m b r
      → IsOutput n text b r old new result → PrintsLegal m n text b old new result
  unreported : new ≡ old → PrintsLegal m n text b old new (Err Memory)

-- a program with its inputs judges a trace, with this output and status, on whatever words give these inputs
abbrev pub IsJudged : Checked → List Constant → List ℕ → List ℕ → ℕ → Bool → ℕ → List ℕ
    → Type 0
IsJudged P vs text trace count b status output =
    (ws : List (List ℕ)) → AreInputsOf P ws vs → Shows P text (Judge b ws count trace) status output

-- a trace is judged by a program with its inputs, and what comes of that is printed; or it is refused before the first
-- byte
pub data JudgesSo (P : Checked) (vs : List Constant) (text trace : List ℕ) (count : ℕ) (b : Bool)
    (old new : SinkView) : Result ℕ EngineError → Type 0 where
  judged : {result : Result ℕ EngineError} (status : ℕ) (output : List ℕ) → AreAllowed count 1
      → IsJudged P vs text trace count b status output → PrintsJudged output status old new result
      → JudgesSo P vs text trace count b old new result
  unallowed : (e : EngineError) → IsUnallowed count 1 e → new ≡ old →
      JudgesSo P vs text trace count b old new (Err e)
