-- Lemmas on traces that are judged (specs/Judgements.antt).
use Rattle.std.proofs.Common.{◌≡◌, ◌≢◌, ◌<◌, ◌≤◌, ◌+◌, ◌∙◌, ℕ, Bool, List, [], ◌∷◌, ◌++◌, length, refl, sym, subst, ap}
use Rattle.std.proofs.Common.{arith}
use Rattle.std.proofs.Common.{Result, Ok, Err, Option, IfOk, IfErr, OnOk}
use Rattle.std.proofs.lemmas.List.{length-append}
use Rattle.id_check.specs.declared.checked.Checked.{Checked}
use Rattle.id_value.specs.declared.Constant.{Constant}
use Rattle.id_instr.specs.Graph.{Parts}
use Rattle.id_source.specs.Sources.{AreInputs, source}
use Rattle.id_source.specs.Inputs.{AreInputsOf}
use Rattle.id_build.specs.Own.{IsOwn, schemas_of}
use Rattle.id_build.specs.Rows.{size}
use Rattle.id_core.specs.Events.{EventView}
use Rattle.id_core.specs.Machines.{MachineView, start, run}
use Rattle.id_runs.specs.Legal.{IsLegalList, IsSameBut, LegalLists, next}
use Rattle.id_laws.specs.Laws.{Soundness, QuietIsComplete}
use Rattle.id_sink.specs.declared.sink.PrintError.{PrintError}
use Rattle.id_sink.specs.Told.{SinkView, Prints}
use Rattle.id_trace.specs.Traces.{end_text, handled_text, line_text, trace_text}
use Rattle.id_record.specs.declared.kept.Keeps.{Keeps}
use Rattle.id_record.specs.declared.step.Step.{Step}
use Rattle.id_record.specs.declared.step.Step.TheVariants.{Went, Fault, Stuck}
use Rattle.id_print.specs.Reports.{report_text}
use Rattle.id_print.specs.declared.run_reports.Report.{Report}
use Rattle.id_print.specs.RunReports.{IsReportFrom}
use Rattle.id_judge.specs.declared.verdict.Cause.{Cause}
use Rattle.id_judge.specs.declared.verdict.Verdict.TheVariants.{Legal}
use Rattle.id_judge.specs.Lines.{IsFirstLine, IsLineVerdict}
use Rattle.id_judge.proofs.ClearLines.{clear_lines}
use Rattle.id_log.specs.Logs.{Ahead, Hears}
use Rattle.id_compile.specs.declared.error.EngineError.{EngineError}
use Rattle.id_compile.specs.declared.error.EngineError.TheVariants.{Memory, Write}
use Rattle.id_compile.specs.Programs.{HasInputs, IsProgramOf}
use Rattle.id_compile.specs.Refusals.{IsInsideOf, IsRefusedRun, IsTakenRun}
use Rattle.id_compile.specs.Refusals.IsRefusedRun.{by_source, by_write}
use Rattle.id_compile.specs.Refusals.IsRefusedSource.{by_memory}
use Rattle.id_engine.specs.Commands.{Judge, HasShown, ShowsAll, ShowsFront}
use Rattle.id_engine.specs.Commands.Shows.{legal, other}
use Rattle.id_engine.specs.Judged.{cause_text, legal_text, other_text}
use Rattle.id_engine.specs.Judgements.{IsJudged, IsOutput, IsPrintedSo, JudgesSo, PrintsJudged, PrintsLegal}
use Rattle.id_engine.specs.Judgements.JudgesSo.{judged, unallowed}
use Rattle.id_engine.specs.declared.judge.Unjudged.{Unjudged}
use Rattle.id_engine.specs.declared.judge.Unjudged.TheVariants.{Refused, Broken}
use Rattle.id_engine.specs.Listening.{IsInsideFor, IsUnheard, IsUnjudged, Listens, refused_so}
use Rattle.id_engine.specs.Judgements.PrintsJudged.{all_out, front_out, none_out}
use Rattle.id_engine.specs.Judgements.PrintsLegal.{reported, unreported}
use Rattle.id_engine.specs.Reports.{AreAllowed, IsTrueOf, status_of}
use Rattle.id_engine.proofs.AnsweredLemmas.{late_unallowed, refused_unallowed}
use Rattle.id_engine.proofs.HearLemmas.{hears_any, hears_map, hears_some}
use Rattle.id_engine.proofs.RunLemmas.{IsTrueOf-laws}
use Rattle.id_engine.proofs.ShownLemmas.{Shows-from_report}

-- ---- lines

some_end : (s : Step) → 1 ≤ length (end_text s)
some_end Went = omega (arith)
some_end (Fault f) = omega (arith)
some_end Stuck = omega (arith)

-- each event has a byte at least
pub few_events : (es : List EventView) → length es ≤ length (trace_text es)
few_events [] = omega (arith)
few_events (e ∷ es) = omega (
  arith,
  few_events es,
  some_end e.step,
  length-append (handled_text e.stamp e.element e.message.payload) (end_text e.step),
  length-append (line_text e) (trace_text es),
)

module _ (g : Parts) (vs : List Constant) (count : ℕ) (trace : List ℕ) where
  -- the event that can't follow begins in the trace
  pub within_trace : (k : ℕ) (c : Cause) → IsFirstLine g vs count trace k c → k < length trace
  within_trace k c h =
      let all : length trace ≡ length (trace_text h.events) + length h.rest =
      ap (λ bs. length bs) h.parts ∙ length-append (trace_text h.events) h.rest in
      omega (arith, all, h.some, few_events h.events, h.many)

  -- a trace that is judged legal is that of a run, which leads to the machine but for the order of what is in flight
  pub run_of : (kept : Keeps) (m : MachineView) (n : ℕ) → LegalLists → IsLineVerdict g vs count kept trace (Legal m n)
      → (ks : List ℕ) × IsSameBut (run g count ks (start g vs count)) m.world
  run_of kept m n lists h =
      let t = h.3 in
      let o = t.legal in
      let l : IsLegalList g vs count t.events =
      record { end = record { elements = m.world.elements; flight = o.flight }; lead = o.lead } in
      let is = lists.are_runs g vs count t.events l in
      (is.positions, record { elements = (is.end).elements; flight = next (is.end).flight o.in_flight })

  -- and that keeps so much
  pub kept_so : (kept : Keeps) (m : MachineView) (n : ℕ) → IsLineVerdict g vs count kept trace (Legal m n)
      → m.keeps ≡ kept
  kept_so kept m n h = h.2

  pub of_graph : (kept : Keeps) (m : MachineView) (n : ℕ) → IsLineVerdict g vs count kept trace (Legal m n)
      → m.graph ≡ g
  of_graph kept m n h = h.0

-- ---- what is printed

pub PrintsJudged-from : (output : List ℕ) (status : ℕ) (old new : SinkView) (u : Result (Unit {0}) PrintError)
    (result : Result ℕ EngineError) → Prints old new output u → IsPrintedSo u status result
    → PrintsJudged output status old new result
PrintsJudged-from output status old new (Ok u) result printed is =
    subst (PrintsJudged output status old new) (sym is) (all_out printed)
PrintsJudged-from output status old new (Err e) result printed is =
    subst (PrintsJudged output status old new) (sym is) (front_out e printed)

-- a report is printed behind the number of the events
pub IsOutput-from : (text : List ℕ) (b : Bool) (r : Report) (old new : SinkView) (n status : ℕ)
    (u : Result (Unit {0}) PrintError)
    (result : Result ℕ EngineError) → status ≡ status_of r.ending
    → Prints old new (legal_text n ++ report_text text b r) u
    → IsPrintedSo u status result → IsOutput n text b r old new result
IsOutput-from text b r old new n status u result ended printed is =
    PrintsJudged-from (legal_text n ++ report_text text b r) (status_of r.ending) old new u result printed
    (subst (λ (k : ℕ). IsPrintedSo u k result) ended is)

-- why an event can't follow is printed behind its position
pub PrintsOther-from : (k : ℕ) (c : Cause) (why : List ℕ) (old new : SinkView) (u : Result (Unit {0}) PrintError)
    (result : Result ℕ EngineError) → why ≡ cause_text c → Prints old new (other_text k why) u → IsPrintedSo u 6 result
    → PrintsJudged (other_text k (cause_text c)) 6 old new result
PrintsOther-from k c why old new u result same printed is =
    PrintsJudged-from (other_text k (cause_text c)) 6 old new u result
    (subst (λ (w : List ℕ). Prints old new (other_text k w) u) same printed) is

module _ (P : Checked) (vs : List Constant) (text trace : List ℕ) (count : ℕ) (b : Bool) (g : Parts)
    (inputs : AreInputs P vs) (own : IsOwn P g) where
  -- what a report says of the machine that a trace leads to is so
  pub IsTrueOf-judged : (kept : Keeps) (m : MachineView) (n : ℕ) (r : Report) → Soundness → QuietIsComplete → LegalLists
      → IsLineVerdict g vs count kept trace (Legal m n) → IsReportFrom m b r → IsTrueOf (source P vs) b r
  IsTrueOf-judged kept m n r sound complete lists h from =
      let at = run_of g vs count trace kept m n lists h in
      IsTrueOf-laws (source P vs) g count at.0 m b r sound complete inputs (schemas_of own)
      (of_graph g vs count trace kept m n h) at.1 from

  -- a trace of a run is judged one
  pub JudgesSo-legal : (kept : Keeps) (m : MachineView) (n : ℕ) → Soundness → QuietIsComplete → LegalLists
      → AreAllowed count 1 → IsLineVerdict g vs count kept trace (Legal m n)
      → (old new : SinkView) (result : Result ℕ EngineError) → PrintsLegal m n text b old new result
      → JudgesSo P vs text trace count b old new result
  JudgesSo-legal kept m n sound complete lists allowed h old new result (reported r from prints) =
      let true_of = IsTrueOf-judged kept m n r sound complete lists h from in
      let told : IsLineVerdict g vs count m.keeps trace (Legal m n) = (h.0, h.1, refl, h.3) in
      judged (status_of r.ending) (legal_text n ++ report_text text b r) allowed
      (λ ws are. legal m n r are own told from (Shows-from_report P ws vs text b r r.ending are true_of.says)) prints
  JudgesSo-legal kept m n sound complete lists allowed h old new result (unreported same) =
      unallowed Memory allowed same

  -- and of any other the first event is told that can't follow
  pub JudgesSo-other : (k : ℕ) (c : Cause) → AreAllowed count 1 → IsFirstLine g vs count trace k c
      → (old new : SinkView) (result : Result ℕ EngineError)
      → PrintsJudged (other_text k (cause_text c)) 6 old new result
      → JudgesSo P vs text trace count b old new result
  JudgesSo-other k c allowed h old new result prints =
      judged 6 (other_text k (cause_text c)) allowed
      (λ ws are. other k c are own h (h.never (clear_lines (source P vs) g count inputs (schemas_of own)))) prints

-- ---- what is said of a trace that is judged

-- the text has this program, and the words give these inputs
module _ (text : List ℕ) (ws : List (List ℕ)) (P : Checked) (is : IsProgramOf text P) (small : size P ≤ 1000000)
    (vs : List Constant)
    (are : AreInputsOf P ws vs) (trace : List ℕ) (count : ℕ) (b : Bool) (old new : SinkView) where
  has : HasInputs text ws
  has = record { program = P; is_program = is; small = small; inputs = vs; are_inputs = are }

  shown_by : (u : Result (Unit {0}) PrintError) (status : ℕ) (output : List ℕ)
      → IsJudged P vs text trace count b status output → Prints old new output u
      → HasShown (Judge b ws count trace) text old new status u
  shown_by u status output shows printed =
      record { program = P; is_program = is; output = output; shows = shows ws are; printed = printed }

  pub JudgesSo-shown : (result : Result ℕ EngineError) → JudgesSo P vs text trace count b old new result
      → IfOk result (ShowsAll (Judge b ws count trace) text old new)
  JudgesSo-shown result (judged status output allowed shows (all_out printed)) =
      shown_by (Ok tt) status output shows printed
  JudgesSo-shown result (judged status output allowed shows (front_out e printed)) = tt
  JudgesSo-shown result (judged status output allowed shows (none_out same)) = tt
  JudgesSo-shown result (unallowed e why same) = tt

  pub JudgesSo-cut : (result : Result ℕ EngineError) → JudgesSo P vs text trace count b old new result
      → result ≡ Err Write → ShowsFront (Judge b ws count trace) text old new
  JudgesSo-cut result (judged status output allowed shows (all_out printed)) w = absurd cc
  JudgesSo-cut result (judged status output allowed shows (front_out e printed)) w =
      record { status = status; error = e; shown = shown_by (Err e) status output shows printed }
  JudgesSo-cut result (judged status output allowed shows (none_out same)) w = absurd cc
  JudgesSo-cut result (unallowed e why same) w =
      let is_write : e ≡ Write = cc in
      absurd ((late_unallowed text count 1 e why).1 is_write)

  pub JudgesSo-silent : (result : Result ℕ EngineError) → JudgesSo P vs text trace count b old new result
      → IfErr result (λ e. e ≢ Write → new ≡ old)
  JudgesSo-silent result (judged status output allowed shows (all_out printed)) = tt
  JudgesSo-silent result (judged status output allowed shows (front_out e printed)) = λ h. absurd (h refl)
  JudgesSo-silent result (judged status output allowed shows (none_out same)) = λ h. same
  JudgesSo-silent result (unallowed e why same) = λ h. same

  taken_by : AreAllowed count 1 → IsTakenRun text ws count 1
  taken_by allowed = record {
    inputs = has;
    some_elements = allowed.some_elements;
    few_elements = allowed.few_elements;
    some = allowed.some;
    few = allowed.few;
  }

  pub JudgesSo-taken : (result : Result ℕ EngineError) → JudgesSo P vs text trace count b old new result
      → OnOk result (IsTakenRun text ws count 1)
  JudgesSo-taken result (judged status output allowed shows (all_out printed)) = taken_by allowed
  JudgesSo-taken result (judged status output allowed shows (front_out e printed)) = tt
  JudgesSo-taken result (judged status output allowed shows (none_out same)) = tt
  JudgesSo-taken result (unallowed e why same) = tt

  pub JudgesSo-refused : (result : Result ℕ EngineError) → JudgesSo P vs text trace count b old new result
      → IfErr result (IsRefusedRun text ws count 1)
  JudgesSo-refused result (judged status output allowed shows (all_out printed)) = tt
  JudgesSo-refused result (judged status output allowed shows (front_out e printed)) = by_write
  JudgesSo-refused result (judged status output allowed shows (none_out same)) = by_source by_memory
  JudgesSo-refused result (unallowed e why same) = refused_unallowed text ws count 1 has e why

  pub JudgesSo-inside : (result : Result ℕ EngineError) → JudgesSo P vs text trace count b old new result
      → IfErr result (IsInsideOf text)
  JudgesSo-inside result (judged status output allowed shows (all_out printed)) = tt
  JudgesSo-inside result (judged status output allowed shows (front_out e printed)) = tt
  JudgesSo-inside result (judged status output allowed shows (none_out same)) = tt
  JudgesSo-inside result (unallowed e why same) = (late_unallowed text count 1 e why).0

-- ---- a log

module _ (P : Checked) (vs : List Constant) (text : List ℕ) (a : Option Ahead) (count : ℕ) (b : Bool)
    (old new : SinkView) where
  -- what is so of all that the log may have is so of the log
  pub Listens-from : (r : Result ℕ EngineError) (s : Result ℕ Unjudged) → s ≡ refused_so r
      → Hears a (λ trace. JudgesSo P vs text trace count b old new r)
      → Listens P vs text a count b old new s
  Listens-from (Ok status) s is h = subst (λ (x : Result ℕ Unjudged). Listens P vs text a count b old new x) (sym is) h
  Listens-from (Err e) s is h = subst (λ (x : Result ℕ Unjudged). Listens P vs text a count b old new x) (sym is) h

  -- and so it is without a verdict
  pub Listens-unheard : (e : Unjudged) → IsUnheard a count e → new ≡ old → Listens P vs text a count b old new (Err e)
  Listens-unheard (Refused e) why same = hears_any a _ (λ trace. unallowed e why same)
  Listens-unheard (Broken fault) why same = (why.0, why.1, same)

module _ (text : List ℕ) (ws : List (List ℕ)) (P : Checked) (is : IsProgramOf text P) (small : size P ≤ 1000000)
    (vs : List Constant)
    (are : AreInputsOf P ws vs) (a : Option Ahead) (count : ℕ) (b : Bool) (old new : SinkView) where
  pub Listens-shown : (result : Result ℕ Unjudged) → Listens P vs text a count b old new result
      → IfOk result (λ status. Hears a (λ trace. ShowsAll (Judge b ws count trace) text old new status))
  Listens-shown (Ok status) h =
      hears_map a _ _ (λ trace j. JudgesSo-shown text ws P is small vs are trace count b old new (Ok status) j) h
  Listens-shown (Err e) h = tt

  pub Listens-cut : (result : Result ℕ Unjudged) → Listens P vs text a count b old new result
      → result ≡ Err (Refused Write) → Hears a (λ trace. ShowsFront (Judge b ws count trace) text old new)
  Listens-cut (Ok status) h w = absurd cc
  Listens-cut (Err (Refused e)) h w =
      let same : e ≡ Write = cc in
      hears_map a _ _
      (λ trace j. JudgesSo-cut text ws P is small vs are trace count b old new (Err e) j (ap (λ x. Err x) same)) h
  Listens-cut (Err (Broken fault)) h w = absurd cc

  pub Listens-silent : (result : Result ℕ Unjudged) → Listens P vs text a count b old new result
      → IfErr result (λ e. e ≢ Refused Write → new ≡ old)
  Listens-silent (Ok status) h = tt
  Listens-silent (Err (Refused e)) h =
      let s = hears_some a _ h in
      λ no. JudgesSo-silent text ws P is small vs are s.0 count b old new (Err e) s.1 (λ w. no (ap (λ x. Refused x) w))
  Listens-silent (Err (Broken fault)) h = λ no. h.2

  pub Listens-taken : (result : Result ℕ Unjudged) → Listens P vs text a count b old new result
      → OnOk result (IsTakenRun text ws count 1)
  Listens-taken (Ok status) h =
      let s = hears_some a _ h in JudgesSo-taken text ws P is small vs are s.0 count b old new (Ok status) s.1
  Listens-taken (Err e) h = tt

  pub Listens-refused : (result : Result ℕ Unjudged) → Listens P vs text a count b old new result
      → IfErr result (IsUnjudged a text ws count)
  Listens-refused (Ok status) h = tt
  Listens-refused (Err (Refused e)) h =
      let s = hears_some a _ h in JudgesSo-refused text ws P is small vs are s.0 count b old new (Err e) s.1
  Listens-refused (Err (Broken fault)) h = h.1

  pub Listens-inside : (result : Result ℕ Unjudged) → Listens P vs text a count b old new result
      → IfErr result (IsInsideFor text)
  Listens-inside (Ok status) h = tt
  Listens-inside (Err (Refused e)) h =
      let s = hears_some a _ h in JudgesSo-inside text ws P is small vs are s.0 count b old new (Err e) s.1
  Listens-inside (Err (Broken fault)) h = tt
