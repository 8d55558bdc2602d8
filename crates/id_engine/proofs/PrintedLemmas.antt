-- A run that is printed (specs/Reports.antt).
use Rattle.std.proofs.Common.{◌≡◌, ◌≢◌, ◌++◌, ℕ, Bool, List, Option, None, Result, Ok, Err, refl, sym, subst, ◌∙◌}
use Rattle.std.specs.Prelude.{IsErrAnd}
use Rattle.id_check.specs.declared.checked.Checked.{Checked}
use Rattle.id_value.specs.declared.Constant.{Constant}
use Rattle.id_source.specs.Sources.{AreInputs, source}
use Rattle.id_build.specs.Own.{IsOwn, schemas_of}
use Rattle.id_instr.specs.Graph.{Parts}
use Rattle.id_core.specs.Events.{EventView}
use Rattle.id_core.specs.Machines.{World, MachineView}
use Rattle.id_laws.specs.Laws.{QuietIsComplete, Soundness}
use Rattle.id_print.specs.declared.run_reports.Report.{Report}
use Rattle.id_sink.specs.declared.sink.PrintError.{PrintError}
use Rattle.id_sink.specs.Told.{SinkView, Prints}
use Rattle.id_print.specs.Reports.{report_text}
use Rattle.id_trace.specs.Traces.{trace_text}
use Rattle.id_compile.specs.declared.error.EngineError.{EngineError}
use Rattle.id_compile.specs.declared.error.EngineError.TheVariants.{Memory, Write}
use Rattle.id_print.specs.RunReports.{IsReportFrom}
use Rattle.id_engine.specs.Reports.{AreAllowed, PrintsEvents}
use Rattle.id_elements.specs.Runs.{IsByPositions, IsRun, MovesOn}
use Rattle.id_engine.specs.Reports.{PrintsMachine, PrintsRun, RunsSo, ran, unallowed, status_of}
use Rattle.id_engine.specs.Reports.PrintsEvents.{all_out, front_out}
use Rattle.id_engine.specs.Reports.PrintsRun.{whole, cut}
use Rattle.id_engine.specs.Reports.PrintsMachine.{reported, out_of_memory}
use Rattle.id_engine.specs.Runs.{IsTraceOf}
use Rattle.id_engine.proofs.RunLemmas.{IsTrueOf-run}

-- what is printed is the same text by another name
pub Prints-same : {old new : SinkView} {a b : List ℕ} {r : Result (Unit {0}) PrintError} → a ≡ b → Prints old new a r
    → Prints old new b r
Prints-same {old} {new} {a} {b} {r} is printed = subst (λ (x : List ℕ). Prints old new x r) is printed

-- ---- what is printed of a machine

module _ (text : List ℕ) (b : Bool) (es : List EventView) (r : Report) (old new : SinkView) where
  pub PrintsEvents-whole : (u : Result (Unit {0}) PrintError) (n : ℕ)
      → Prints old new (trace_text es ++ report_text text b r) u → u ≡ Ok tt →
      n ≡ status_of r.ending
      → PrintsEvents text b es r old new (Ok n)
  PrintsEvents-whole u n printed is status =
      subst (λ (k : ℕ). PrintsEvents text b es r old new (Ok k)) (sym status)
      (all_out (subst (λ (x : Result (Unit {0}) PrintError). Prints old new (trace_text es ++ report_text text b r) x)
      is printed))

  pub PrintsEvents-cut : (u : Result (Unit {0}) PrintError) (e : PrintError)
      → Prints old new (trace_text es ++ report_text text b r) u → u ≡ Err e
      → PrintsEvents text b es r old new (Err Write)
  PrintsEvents-cut u e printed is =
      front_out e
      (subst (λ (x : Result (Unit {0}) PrintError). Prints old new (trace_text es ++ report_text text b r) x) is
      printed)

  pub PrintsRun-events : (t : Bool) (w : World) (result : Result ℕ EngineError) → IsTraceOf t w es
      → PrintsEvents text b es r old new result → PrintsRun text t b w r old new result
  PrintsRun-events t w result traced (all_out printed) =
      whole (record { events = es; traced = traced; printed = printed })
  PrintsRun-events t w result traced (front_out e printed) =
      cut e (record { events = es; traced = traced; printed = printed })

-- memory was refused before the machine's report was there
pub PrintsMachine-memory : (m : MachineView) (text : List ℕ) (t b : Bool) (old : SinkView)
    (result : Result ℕ EngineError)
    (x : EngineError) → IsErrAnd result (λ e. e ≡ x) → x ≡ Memory → PrintsMachine m text t b old old result
PrintsMachine-memory m text t b old (Ok n) x h is = absurd h
PrintsMachine-memory m text t b old (Err e) x h is = let why : e ≡ Memory = h ∙ is in
    subst (λ (y : EngineError). PrintsMachine m text t b old old (Err y)) (sym why) (out_of_memory refl)

-- a report of a machine that is the same is printed
pub PrintsMachine-reported : (m n : MachineView) (text : List ℕ) (t b : Bool) (old new : SinkView)
    (result : Result ℕ EngineError) (r : Report) → n ≡ m → IsReportFrom n b r
    → PrintsRun text t b n.world r old new result → PrintsMachine m text t b old new result
PrintsMachine-reported m n text t b old new result r same from prints =
    subst (λ (x : MachineView). PrintsMachine x text t b old new result) same (reported r from prints)

-- ---- a run of a program with its inputs

module _ (P : Checked) (vs : List Constant) (text : List ℕ) (count : ℕ) (t : Bool) (steps : ℕ) (o : Option ℕ) (b : Bool)
  where
    -- its machine is printed
    pub RunsSo-machine : (g : Parts) (m : MachineView) → Soundness → QuietIsComplete → AreInputs P vs → IsOwn P g
        → AreAllowed count steps → IsRun g vs count steps m → MovesOn m.world
        → (o ≢ None → IsByPositions g vs count m.world) → (old new : SinkView) (result : Result ℕ EngineError)
        → PrintsMachine m text t b old new result → RunsSo P vs text count t steps o b old new result
    RunsSo-machine g m sound complete inputs own allowed k moves placed old new result (reported r from prints) =
        ran g m r allowed placed own
        (IsTrueOf-run (source P vs) g count steps inputs (schemas_of own) m b r sound complete k from)
        (record { run = k; moves = moves; from = from }) prints
    RunsSo-machine g m sound complete inputs own allowed k moves placed old new result (out_of_memory same) =
        unallowed Memory allowed same
