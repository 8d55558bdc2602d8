-- What a command prints of a program (docs/PROMISES.md, "The engine").
use Rattle.std.specs.Prelude.{◌≡◌, ℕ, Bool, true, false, IsTrue, List, ◌++◌, codes, Option, Result, Ok, Err}
use Rattle.std.specs.Prelude.{IfSome}
use Rattle.id_check.specs.declared.checked.Checked.{Checked}
use Rattle.id_value.specs.declared.Constant.{Constant}
use Rattle.id_source.specs.declared.Ask.{Ask}
use Rattle.id_source.specs.declared.SourceValue.{SourceValue}
use Rattle.id_source.specs.declared.SourceFault.{SourceFault}
use Rattle.id_source.specs.declared.NameValue.{NameValue}
use Rattle.id_source.specs.declared.Fact.{Fact}
use Rattle.id_source.specs.Sources.{source}
use Rattle.id_source.specs.Inputs.{AreInputsOf}
use Rattle.id_source.specs.Rounds.{Answers, IsAnswer, Faulty, FaultFree}
use Rattle.id_source.specs.Names.{AreNames, AreSomeNames, AreWaiting}
use Rattle.id_source.specs.Computed.{AreFacts}
use Rattle.id_instr.specs.Graph.{Parts}
use Rattle.id_graph.specs.Dot.{dot_text}
use Rattle.id_graph.specs.Listing.{listing}
use Rattle.id_build.specs.Own.{IsOwn}
use Rattle.id_core.specs.Events.{EventView}
use Rattle.id_core.specs.Firsts.{AreMergedOf}
use Rattle.id_core.specs.Machines.{MachineView, World}
use Rattle.id_runs.specs.Orders.{IsLegalOrder}
use Rattle.id_sink.specs.declared.sink.PrintError.{PrintError}
use Rattle.id_sink.specs.Told.{SinkView, Prints}
use Rattle.id_print.specs.declared.helds.Held.{Held}
use Rattle.id_print.specs.Names.{AreHeld, AreSomeHeld}
use Rattle.id_print.specs.Texts.{quiet_text, stopped_text, fault_text, facts_text}
use Rattle.id_print.specs.Reports.{asked, report_text}
use Rattle.id_print.specs.declared.run_reports.Report.{Report}
use Rattle.id_print.specs.RunReports.{IsReportFrom}
use Rattle.id_trace.specs.Traces.{trace_text}
use Rattle.id_judge.specs.declared.verdict.Cause.{Cause}
use Rattle.id_judge.specs.declared.verdict.Verdict.TheVariants.{Legal}
use Rattle.id_judge.specs.Lines.{GoesNoFurther, IsFirstLine, IsLineVerdict}
use Rattle.id_compile.specs.Programs.{IsProgramOf}
use Rattle.id_why.specs.declared.reasons.Reasons.{Reasons}
use Rattle.id_why.specs.Rounds.{AreReasons}
use Rattle.id_print.specs.Reasons.{reasons_text}
use Rattle.id_engine.specs.Judged.{cause_text, legal_text, other_text, status_of}

-- a command: say that the text is accepted, print its graph, print the picture of its graph, print the facts of a
-- round, say what lacks a value in a round, run it, with what names have or without, and with its trace or without, or
-- judge whether bytes are the trace of a run on so many elements, with what names have or without; the last four with
-- the words of its inputs
pub data Command : Type 0 where
  Check : Command
  List_graph : Command
  Draw_graph : Command
  Facts : ℕ → List (List ℕ) → Command
  Why : ℕ → List (List ℕ) → Command
  Run : Bool → Bool → List (List ℕ) → Command
  Judge : Bool → List (List ℕ) → ℕ → List ℕ → Command

-- what a command prints of a program, with this status
pub data Shows (P : Checked) (text : List ℕ) : Command → ℕ → List ℕ → Type 0 where
  -- an accepted text is said to be so
  accepted : Shows P text Check 0 (codes "ok\n")
  -- the graph is the program's own: one that the schemas give, with the numbers of each trace and of each judge
  listed : {g : Parts} → IsOwn P g → Shows P text List_graph 0 (listing text g)
  drawn : {g : Parts} → IsOwn P g → Shows P text Draw_graph 0 (dot_text text g)
  -- the facts are exactly those of the round, on the inputs that the words give
  facts : {n : ℕ} {ws : List (List ℕ)} {vs : List Constant} {fs : List Fact} → AreInputsOf P ws vs
      → AreFacts (source P vs) n fs →
      Shows P text (Facts n ws) 0 (facts_text text fs)
  -- the answer of the round is told, and of each thing on which it, or a fetch that waits, hangs and that lacks a
  -- value, exactly what it needs that lacks one too
  reasons : {n : ℕ} {ws : List (List ℕ)} {vs : List Constant} (r : Reasons) → AreInputsOf P ws vs
      → AreReasons (source P vs) n r →
      Shows P text (Why n ws) 0 (reasons_text (record { text = text; checked = P; facts = r.paths }) n r)
  -- a quiet run shows the answer that the source's equations give, exactly what its names have, where they are asked
  -- for, its structures and what is put into their cells, and its fetches that wait; and the source has no fault
  quiet : {b : Bool} {ws : List (List ℕ)} {vs : List Constant} (v : Option SourceValue) (ns : List NameValue)
      (hs : List Held) (waiting : List Ask) → AreInputsOf P ws vs →
      IsAnswer (source P vs) v → (IsTrue b → AreNames (source P vs) ns) → AreHeld (source P vs) hs →
      AreWaiting (source P vs) waiting → FaultFree (source P vs) →
      Shows P text (Run b false ws) 0 (quiet_text text v (asked b ns) hs waiting)
  -- a run that stops at a fault shows a fault of the source
  fault : {b : Bool} {ws : List (List ℕ)} {vs : List Constant} (f : SourceFault) → AreInputsOf P ws vs
      → Faulty (source P vs) f →
      Shows P text (Run b false ws) 1 (fault_text text f)
  -- a run that stops at its limit shows no answer but the source's, of names only what they have, and no structures and
  -- cells but its own
  stopped : {b : Bool} {ws : List (List ℕ)} {vs : List Constant} (v : Option SourceValue) (ns : List NameValue)
      (hs : List Held) → AreInputsOf P ws vs →
      IfSome v (Answers (source P vs)) → AreSomeNames (source P vs) ns → AreSomeHeld (source P vs) hs →
      Shows P text (Run b false ws) 3 (stopped_text text v (asked b ns) hs)
  -- where a trace is asked for, all events of a run of the program's own graph come before that, by stamp, and at one
  -- stamp by element: so they are a legal list of events from the start
  traced : {b : Bool} {ws : List (List ℕ)} {vs : List Constant} {g : Parts} {status : ℕ} {output : List ℕ}
      (count : ℕ)
      (w : World) (es : List EventView) → AreInputsOf P ws vs → IsOwn P g → AreMergedOf w.elements es
      → IsLegalOrder g vs count es w → Shows P text (Run b false ws) status output →
      Shows P text (Run b true ws) status (trace_text es ++ output)
  -- the trace of a run is judged one, with the number of its events, and what the run shows stands behind that: it is
  -- the report of the machine that the run leads to, however much that keeps of its events, and has that status
  legal : {b : Bool} {ws : List (List ℕ)} {vs : List Constant} {g : Parts} {count : ℕ} {trace : List ℕ}
      (m : MachineView) (n : ℕ) (r : Report) → AreInputsOf P ws vs → IsOwn P g
      → IsLineVerdict g vs count m.keeps trace (Legal m n) → IsReportFrom m b r
      → Shows P text (Run b false ws) (status_of r.ending) (report_text text b r) →
      Shows P text (Judge b ws count trace) (status_of r.ending) (legal_text n ++ report_text text b r)
  -- of any other the first event is told that can't follow on those before it, and why: no run has a trace with this
  -- line behind those before it
  other : {b : Bool} {ws : List (List ℕ)} {vs : List Constant} {g : Parts} {count : ℕ} {trace : List ℕ}
      (k : ℕ) (c : Cause) → AreInputsOf P ws vs → IsOwn P g
      → IsFirstLine g vs count trace k c → GoesNoFurther g vs count trace k →
      Shows P text (Judge b ws count trace) 6 (other_text k (cause_text c))

-- what a command shows of the text's program, with this status, is printed with this result
pub record HasShown (c : Command) (text : List ℕ) (old new : SinkView) (status : ℕ)
    (result : Result (Unit {0}) PrintError) : Type 0 where
  pub program : Checked
  pub is_program : IsProgramOf text program
  pub output : List ℕ
  pub shows : Shows program text c status output
  pub printed : Prints old new output result

-- all of it is printed
abbrev pub ShowsAll : Command → List ℕ → SinkView → SinkView → ℕ → Type 0
ShowsAll c text old new status = HasShown c text old new status (Ok tt)

-- a front of it is printed, and then a write failed
pub record ShowsFront (c : Command) (text : List ℕ) (old new : SinkView) : Type 0 where
  pub status : ℕ
  pub error : PrintError
  pub shown : HasShown c text old new status (Err error)

-- the bytes are the listing of the own graph of the text's program
pub record IsListingOf (text bytes : List ℕ) : Type 0 where
  pub program : Checked
  pub is_program : IsProgramOf text program
  pub graph : Parts
  pub own : IsOwn program graph
  pub listing_is : bytes ≡ listing text graph

-- the bytes are the picture of the own graph of the text's program
pub record IsPictureOf (text bytes : List ℕ) : Type 0 where
  pub program : Checked
  pub is_program : IsProgramOf text program
  pub graph : Parts
  pub own : IsOwn program graph
  pub picture_is : bytes ≡ dot_text text graph

-- these are exactly the facts of a round of the text's program, on the inputs that the words give
pub record AreFactsOf (text : List ℕ) (words : List (List ℕ)) (round : ℕ) (fs : List Fact) : Type 0 where
  pub program : Checked
  pub is_program : IsProgramOf text program
  pub inputs : List Constant
  pub are_inputs : AreInputsOf program words inputs
  pub are : AreFacts (source program inputs) round fs
