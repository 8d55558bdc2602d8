-- Lemmas on specs/Commands.antt: from a report that is so to what is printed.
use Rattle.std.proofs.Common.{◌≡◌, ◌≢◌, ◌≤◌, ℕ, Bool, true, false, List, ◌++◌, All, Option}
use Rattle.std.proofs.Common.{Result, Ok, Err, IfOk, IfErr, OnOk, codes, refl, sym, subst}
use Rattle.id_check.specs.declared.checked.Checked.{Checked}
use Rattle.id_sink.specs.declared.sink.PrintError.{PrintError}
use Rattle.id_print.specs.declared.ending.Ending.{Ending}
use Rattle.id_print.specs.declared.ending.Ending.TheVariants.{Quiet, Stopped, Fault}
use Rattle.id_print.specs.declared.run_reports.Report.{Report}
use Rattle.id_sink.specs.Told.{SinkView, Prints}
use Rattle.id_print.specs.Reports.{asked, ending_text, report_text}
use Rattle.id_engine.specs.Commands.{Check, List_graph, Draw_graph, Facts, Run, Shows, accepted, listed, drawn, facts}
use Rattle.id_engine.specs.Commands.{quiet, fault, stopped, traced, HasShown, ShowsAll, ShowsFront, IsListingOf}
use Rattle.id_engine.specs.Commands.{IsPictureOf, AreFactsOf}
use Rattle.id_compile.specs.Programs.{HasInputs, HasProgram, IsProgramOf}
use Rattle.id_compile.specs.declared.error.EngineError.{EngineError}
use Rattle.id_compile.specs.declared.error.EngineError.TheVariants.{Write}
use Rattle.id_compile.specs.Refusals.{IsInsideOf, IsRefusedRun, IsTakenRun}
use Rattle.id_compile.specs.Refusals.IsRefusedRun.{by_source, by_write}
use Rattle.id_compile.specs.Refusals.IsRefusedSource.{by_memory}
use Rattle.id_graph.specs.Dot.{dot_text}
use Rattle.id_graph.specs.Listing.{listing}
use Rattle.id_source.specs.declared.Fact.{Fact}
use Rattle.id_value.specs.declared.Constant.{Constant}
use Rattle.id_source.specs.declared.SourceValue.{SourceValue}
use Rattle.id_source.specs.Sources.{source}
use Rattle.id_source.specs.Inputs.{AreInputsOf}
use Rattle.id_print.specs.Texts.{facts_text}
use Rattle.id_instr.specs.Graph.{Parts}
use Rattle.id_core.specs.Firsts.{AreMergedOf}
use Rattle.id_core.specs.Machines.{MachineView, World}
use Rattle.id_print.specs.Endings.{EndsSo}
use Rattle.id_print.specs.Texts.{quiet_text, stopped_text}
use Rattle.id_elements.specs.Runs.{HasWent, IsHeldBack, MovesOn}
use Rattle.id_runs.specs.Orders.{IsLegalOrder}
use Rattle.id_print.specs.RunReports.{IsReportFrom}
use Rattle.id_engine.specs.Reports.{HasPrinted, IsReportOfRun, IsTrueOf, RunsSo, SaysTruly, ran, unallowed, status_of}
use Rattle.id_engine.specs.Reports.PrintsRun.{whole, cut, unprinted}
use Rattle.id_engine.specs.Runs.{Ends, HasRun, IsTraceOf, Ran, RanFront}
use Rattle.id_engine.proofs.LeftLemmas.{HasWent-from}
use Rattle.id_engine.proofs.AnsweredLemmas.{late_unallowed, refused_unallowed}
use Rattle.id_core.specs.Events.{EventView}
use Rattle.id_build.specs.Own.{IsOwn}
use Rattle.id_build.specs.Rows.{size}
use Rattle.id_trace.specs.Traces.{trace_text}
use Rattle.id_engine.specs.Runs.Ends.{quiet as ends_quiet, fault as ends_fault, stopped as ends_stopped}

-- the text of a report that is so is what a run shows
pub Shows-from_report : (P : Checked) (ws : List (List ℕ)) (vs : List Constant) (text : List ℕ) (b : Bool) (r : Report)
    (e : Ending) → AreInputsOf P ws vs → SaysTruly (source P vs) b r e
    → Shows P text (Run b false ws) (status_of e) (ending_text text r (asked b r.names) e)
Shows-from_report P ws vs text b r Quiet i h =
    quiet r.answer r.names r.structures r.waiting i h.answer h.names h.structures h.waiting h.none
Shows-from_report P ws vs text b r Stopped i h = stopped r.answer r.names r.structures i h.answer h.names h.structures
Shows-from_report P ws vs text b r (Fault f) i h = fault f i h

-- and so is what comes of it with its trace, where that is asked for
Shows-traced : (P : Checked) (ws : List (List ℕ)) (vs : List Constant) (text : List ℕ) (t b : Bool) (r : Report)
    (g : Parts) (count : ℕ) (w : World)
    (es : List EventView)
    → AreInputsOf P ws vs → IsOwn P g → IsTraceOf t w es → (AreMergedOf w.elements es → IsLegalOrder g vs count es w)
    → SaysTruly (source P vs) b r r.ending
    → Shows P text (Run b t ws) (status_of r.ending) (trace_text es ++ report_text text b r)
Shows-traced P ws vs text true b r g count w es i own trace legal h =
    traced count w es i own (trace.asked refl) (legal (trace.asked refl))
    (Shows-from_report P ws vs text b r r.ending i h)
Shows-traced P ws vs text false b r g count w es i own trace legal h =
    subst (λ (xs : List EventView). Shows P text (Run b false ws) (status_of r.ending)
    (trace_text xs ++ report_text text b r)) (sym (trace.unasked refl))
    (Shows-from_report P ws vs text b r r.ending i h)

-- an accepted text is said to be so
pub HasShown-accepted : (text : List ℕ) (old new : SinkView) (result : Result (Unit {0}) PrintError) → HasProgram text →
    Prints old new (codes "ok\n") result → HasShown Check text old new 0 result
HasShown-accepted text old new result h printed = record
    { program = h.program; is_program = h.is_program; output = codes "ok\n"; shows = accepted; printed = printed }

-- a printed listing of a graph of the text's program is shown
pub HasShown-listed : (text bytes : List ℕ) (old new : SinkView) (result : Result (Unit {0}) PrintError)
    → IsListingOf text bytes →
    Prints old new bytes result → HasShown List_graph text old new 0 result
HasShown-listed text bytes old new result h printed = record {
  program = h.program;
  is_program = h.is_program;
  output = listing text h.graph;
  shows = listed h.own;
  printed = subst (λ (b : List ℕ). Prints old new b result) h.listing_is printed;
}

-- a printed picture of a graph of the text's program is shown
pub HasShown-drawn : (text bytes : List ℕ) (old new : SinkView) (result : Result (Unit {0}) PrintError)
    → IsPictureOf text bytes →
    Prints old new bytes result → HasShown Draw_graph text old new 0 result
HasShown-drawn text bytes old new result h printed = record {
  program = h.program;
  is_program = h.is_program;
  output = dot_text text h.graph;
  shows = drawn h.own;
  printed = subst (λ (b : List ℕ). Prints old new b result) h.picture_is printed;
}

-- printed facts of a round of the text's program are shown
pub HasShown-facts : (text : List ℕ) (ws : List (List ℕ)) (round : ℕ) (fs : List Fact) (old new : SinkView)
    (result : Result (Unit {0}) PrintError) →
    AreFactsOf text ws round fs → Prints old new (facts_text text fs) result
    → HasShown (Facts round ws) text old new 0 result
HasShown-facts text ws round fs old new result h printed = record {
  program = h.program;
  is_program = h.is_program;
  output = facts_text text fs;
  shows = facts h.are_inputs h.are;
  printed = printed;
}

-- a printed report of a run is the run, printed
ends_text : (count steps : ℕ) (m : MachineView) (text : List ℕ) (b : Bool) (r : Report) (e : Ending)
    → (HasWent m.world → All (IsHeldBack count steps m.world) m.world.flight) → MovesOn m.world → IsReportFrom m b r
    → EndsSo m e → Ends m.graph count steps m.world text b (status_of e) (ending_text text r (asked b r.names) e)
ends_text count steps m text b r Quiet honest moves from ends =
    subst (λ (o : Option SourceValue). Ends m.graph count steps m.world text b 0
    (quiet_text text o (asked b r.names) r.structures r.waiting))
    (sym from.answer_is) (ends_quiet r.names r.structures r.waiting ends from.sorted from.held from.waits)
ends_text count steps m text b r Stopped honest moves from ends =
    let went : HasWent m.world = HasWent-from m.graph m.world moves ends.0 in
    subst (λ (o : Option SourceValue). Ends m.graph count steps m.world text b 3
    (stopped_text text o (asked b r.names) r.structures))
    (sym from.answer_is)
    (ends_stopped r.names r.structures ends.0 (λ e. ends.1 (record { empty = e; went = went })) (honest went)
    from.sorted from.held)
ends_text count steps m text b r (Fault f) honest moves from ends = ends_fault f ends

-- ---- what is said of a run that is printed

-- what a run prints is what the command shows
shown_of : (text : List ℕ) (ws : List (List ℕ)) (count : ℕ) (t : Bool) (steps : ℕ) (b : Bool) (old new : SinkView)
    (status : ℕ)
    (result : Result (Unit {0}) PrintError) → HasRun text ws count t steps b old new status result
    → HasShown (Run b t ws) text old new status result
shown_of text ws count t steps b old new status result h =
    record {
      program = h.program;
      is_program = h.is_program;
      output = trace_text h.events ++ h.output;
      shows = h.shows;
      printed = h.printed;
    }

-- the text has this program, and the words give these inputs
module _ (text : List ℕ) (ws : List (List ℕ)) (P : Checked) (is : IsProgramOf text P) (small : size P ≤ 1000000)
    (vs : List Constant)
    (are : AreInputsOf P ws vs) where
  has : HasInputs text ws
  has = record { program = P; is_program = is; small = small; inputs = vs; are_inputs = are }

  module _ (count : ℕ) (t : Bool) (steps : ℕ) (order : Option ℕ) (b : Bool) (old new : SinkView) where
    HasRun-from : (result : Result (Unit {0}) PrintError) (g : Parts) (m : MachineView) (r : Report) → IsOwn P g
        → IsTrueOf (source P vs) b r →
        IsReportOfRun g vs count steps m b r
        → HasPrinted text t b m.world r old new result
        → HasRun text ws count t steps b old new (status_of r.ending) result
    HasRun-from result g m r own true_of o h = record {
      program = P;
      is_program = is;
      graph = g;
      own = own;
      inputs = vs;
      are_inputs = are;
      machine = m;
      run = o.run;
      moves = o.moves;
      events = h.events;
      traced = h.traced;
      output = report_text text b r;
      ends = subst (λ (x : Parts). Ends x count steps m.world text b (status_of r.ending) (report_text text b r))
          (o.run).graph_is
          (ends_text count steps m text b r r.ending (o.run).honest o.moves o.from (o.from).ends);
      shows = Shows-traced P ws vs text t b r g count m.world h.events are own h.traced ((o.run).legal h.events)
          true_of.says;
      printed = h.printed;
    }

    pub RunsSo-ran : (result : Result ℕ EngineError) → RunsSo P vs text count t steps order b old new result
        → IfOk result (Ran text ws count t steps order b old new)
    unfolding HasRun-from
    RunsSo-ran result (ran g m r allowed placed own true_of o (whole h)) =
        record { ran = HasRun-from (Ok tt) g m r own true_of o h; ordered = placed }
    RunsSo-ran result (ran g m r allowed placed own true_of o (cut e h)) = tt
    RunsSo-ran result (ran g m r allowed placed own true_of o (unprinted same)) = tt
    RunsSo-ran result (unallowed e why same) = tt

    pub RunsSo-shown : (result : Result ℕ EngineError) → RunsSo P vs text count t steps order b old new result
        → IfOk result (ShowsAll (Run b t ws) text old new)
    RunsSo-shown result (ran g m r allowed placed own true_of o (whole h)) =
        shown_of text ws count t steps b old new (status_of r.ending) (Ok tt)
        (HasRun-from (Ok tt) g m r own true_of o h)
    RunsSo-shown result (ran g m r allowed placed own true_of o (cut e h)) = tt
    RunsSo-shown result (ran g m r allowed placed own true_of o (unprinted same)) = tt
    RunsSo-shown result (unallowed e why same) = tt

    pub RunsSo-front : (result : Result ℕ EngineError) → RunsSo P vs text count t steps order b old new result
        → result ≡ Err Write →
        RanFront text ws count t steps order b old new
    unfolding HasRun-from
    RunsSo-front result (ran g m r allowed placed own true_of o (whole h)) k = absurd cc
    RunsSo-front result (ran g m r allowed placed own true_of o (cut e h)) k =
        record {
          status = status_of r.ending;
          error = e;
          ran = HasRun-from (Err e) g m r own true_of o h;
          ordered =
              placed;
        }
    RunsSo-front result (ran g m r allowed placed own true_of o (unprinted same)) k = absurd cc
    RunsSo-front result (unallowed e why same) k =
        let l = late_unallowed text count steps e why in let w : e ≡ Write = cc in absurd (l.1 w)

    pub RunsSo-cut : (result : Result ℕ EngineError) → RunsSo P vs text count t steps order b old new result
        → result ≡ Err Write →
        ShowsFront (Run b t ws) text old new
    RunsSo-cut result h k =
        let f = RunsSo-front result h k in
        record {
          status = f.status;
          error = f.error;
          shown =
              shown_of text ws count t steps b old new f.status (Err f.error) f.ran;
        }

    pub RunsSo-silent : (result : Result ℕ EngineError) → RunsSo P vs text count t steps order b old new result
        → IfErr result (λ e. e ≢ Write → new ≡ old)
    RunsSo-silent result (ran g m r allowed placed own true_of o (whole h)) = tt
    RunsSo-silent result (ran g m r allowed placed own true_of o (cut e h)) = λ n. absurd (n refl)
    RunsSo-silent result (ran g m r allowed placed own true_of o (unprinted same)) = λ n. same
    RunsSo-silent result (unallowed e why same) = λ n. same

    pub RunsSo-taken : (result : Result ℕ EngineError) → RunsSo P vs text count t steps order b old new result
        → OnOk result (IsTakenRun text ws count steps)
    RunsSo-taken result (ran g m r allowed placed own true_of o (whole h)) =
        record {
          inputs = has;
          some_elements = allowed.some_elements;
          few_elements = allowed.few_elements;
          some =
              allowed.some;
          few = allowed.few;
        }
    RunsSo-taken result (ran g m r allowed placed own true_of o (cut e h)) = tt
    RunsSo-taken result (ran g m r allowed placed own true_of o (unprinted same)) = tt
    RunsSo-taken result (unallowed e why same) = tt

    pub RunsSo-refused : (result : Result ℕ EngineError) → RunsSo P vs text count t steps order b old new result
        → IfErr result (IsRefusedRun text ws count steps)
    RunsSo-refused result (ran g m r allowed placed own true_of o (whole h)) = tt
    RunsSo-refused result (ran g m r allowed placed own true_of o (cut e h)) = by_write
    RunsSo-refused result (ran g m r allowed placed own true_of o (unprinted same)) = by_source by_memory
    RunsSo-refused result (unallowed e why same) = refused_unallowed text ws count steps has e why

    pub RunsSo-inside : (result : Result ℕ EngineError) → RunsSo P vs text count t steps order b old new result
        → IfErr result (IsInsideOf text)
    RunsSo-inside result (ran g m r allowed placed own true_of o (whole h)) = tt
    RunsSo-inside result (ran g m r allowed placed own true_of o (cut e h)) = tt
    RunsSo-inside result (ran g m r allowed placed own true_of o (unprinted same)) = tt
    RunsSo-inside result (unallowed e why same) = let l = late_unallowed text count steps e why in l.0
