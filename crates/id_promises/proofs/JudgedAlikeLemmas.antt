-- Lemmas on specs/JudgedAlike.antt: a text has one graph, a trace of it is that of one legal list, which leads to one
-- state, and that has one report.
use Rattle.std.proofs.Common.{◌≡◌, ℕ, ◌≤◌, Bool, true, List, ◌++◌, length, refl, sym, ap, ◌∙◌, subst, arith}
use Rattle.std.specs.Prelude.{Result}
use Rattle.id_check.specs.declared.checked.Checked.{Checked}
use Rattle.id_value.specs.declared.Constant.{Constant}
use Rattle.id_instr.specs.Graph.{Parts}
use Rattle.id_build.specs.Own.{IsOwn, own_number, schemas_of}
use Rattle.id_source.specs.Inputs.{AreInputsOf}
use Rattle.id_source.specs.Sources.{AreInputs, source}
use Rattle.id_record.specs.declared.kept.Keeps.TheVariants.{All}
use Rattle.id_core.specs.Events.{EventView}
use Rattle.id_core.specs.Machines.{MachineView, World, start}
use Rattle.id_runs.specs.Legal.{IsLegalList, IsSameBut, LegalLists, next}
use Rattle.id_runs.specs.Orders.{IsLegalOrder}
use Rattle.id_runs.proofs.Weights.{same_order}
use Rattle.id_laws.specs.Laws.{IsSound, Soundness}
use Rattle.id_sink.specs.declared.sink.PrintError.{PrintError}
use Rattle.id_sink.specs.Told.{SinkView}
use Rattle.id_trace.specs.Traces.{trace_text}
use Rattle.id_print.specs.RunReports.{IsReportFrom}
use Rattle.id_print.specs.declared.run_reports.Report.{Report}
use Rattle.id_judge.specs.declared.verdict.Cause.{Cause}
use Rattle.id_judge.specs.declared.verdict.Verdict.TheVariants.{Legal}
use Rattle.id_judge.specs.Lines.{AreClear, ClearLines, GoesNoFurther, IsFirstLine, IsLegalTrace, IsLineVerdict}
use Rattle.id_judge.proofs.FollowLemmas.{same_end}
use Rattle.id_judge.proofs.OrderLemmas.{other_order}
use Rattle.id_compile.specs.Programs.{IsProgramOf}
use Rattle.id_engine.specs.Commands.{Judge, Shows}
use Rattle.id_engine.specs.Commands.Shows.{legal, other}
use Rattle.id_engine.specs.Judged.{cause_text, legal_text, other_text}
use Rattle.id_promises.specs.JudgedAlike.{JudgedAlike}
use Rattle.id_promises.specs.OneProgram.{AreAlike}
use Rattle.id_engine.specs.Runs.{HasRun}
use Rattle.id_promises.proofs.HeldBackLemmas.{inputs_of}
use Rattle.id_promises.proofs.MomentsLemmas.{sound_led, sound_same}
use Rattle.id_promises.proofs.OneProgramLemmas.{AreAlike-text, inputs_same, inputs_to}
use Rattle.id_promises.proofs.OwnGraphLemmas.{one_graph}
use Rattle.id_promises.proofs.RecordedLemmas.{records}
use Rattle.id_engine.proofs.RunLemmas.{from_same}
use Rattle.id_promises.proofs.SameReportLemmas.{printed_as, reported_as}

-- ---- one graph with its inputs

-- two programs of one text, with their graphs and with the inputs of the same words, are one graph with one list
record AreOne (g h : Parts) (vs us : List Constant) : Type 0 where
  graph : g ≡ h
  inputs : vs ≡ us

are_one : (text : List ℕ) (words : List (List ℕ)) (P Q : Checked) (g h : Parts) (vs us : List Constant)
    → IsProgramOf text P → IsProgramOf text Q → IsOwn P g → IsOwn Q h → AreInputsOf P words vs → AreInputsOf Q words us
    → AreOne g h vs us
are_one text words P Q g h vs us i j own there are also =
    let alike : AreAlike P Q = AreAlike-text text P Q i j in
    record {
      graph = one_graph P Q alike g h own there;
      inputs = inputs_same Q words vs us (inputs_to P Q alike words vs are) also;
    }

-- what is so of the one is so of the other
one_so : (F : Parts → List Constant → Type 0) (g h : Parts) (vs us : List Constant) → AreOne g h vs us → F g vs → F h us
one_so F g h vs us one x = subst (λ ws. F h ws) one.inputs (subst (λ y. F y vs) one.graph x)

-- ---- a legal list and where it leads

legal_list : (g : Parts) (vs : List Constant) (count : ℕ) (es : List EventView) (w : World)
    → IsLegalOrder g vs count es w → IsLegalList g vs count es
legal_list g vs count es w o = record { end = record { elements = w.elements; flight = o.flight }; lead = o.lead }

-- one list leads to one state, but for the order of what is in flight
one_state : (g : Parts) (vs : List Constant) (count : ℕ) (es ds : List EventView) (w x : World) → es ≡ ds
    → IsLegalOrder g vs count es w → IsLegalOrder g vs count ds x → IsSameBut w x
one_state g vs count es ds w x same o p =
    let also : IsLegalOrder g vs count es x = subst (λ zs. IsLegalOrder g vs count zs x) (sym same) p in
    let ends = same_end g count o.lead (record { elements = x.elements; flight = also.flight }) also.lead
    (record { elements = refl; flight = same_order (start g vs count).flight }) in
    record {
      elements = ends.elements;
      flight = next (other_order o.flight w.flight o.in_flight) (next ends.flight also.in_flight);
    }

module _ (sound : Soundness) (lists : LegalLists) (clear : ClearLines) (text : List ℕ) (words : List (List ℕ))
    (count : ℕ) (b : Bool) where
  -- a program of the text, with its own graph and its inputs
  module _ (P : Checked) (is : IsProgramOf text P) (g : Parts) (own : IsOwn P g) (vs : List Constant)
      (are : AreInputsOf P words vs) where
    inputs : AreInputs P vs
    inputs = inputs_of P words vs are

    lines : AreClear g vs count
    lines = clear (source P vs) g count inputs (schemas_of own)

    -- what leads to a state shows what is so
    sound_at : (es : List EventView) (w : World) → IsLegalOrder g vs count es w
        → IsSound (source P vs) g (own_number P) w
    sound_at es w o =
        sound_same (source P vs) g (own_number P) (record { elements = w.elements; flight = o.flight }) w refl
        (sound_led sound lists (source P vs) g (schemas_of own) count es (record {
          elements = w.elements;
          flight =
              o.flight;
        }) inputs o.lead)

    module _ (trace : List ℕ) (Q : Checked) (there : IsProgramOf text Q) (h : Parts) (other_own : IsOwn Q h)
        (us : List Constant) (also : AreInputsOf Q words us) where
      one : AreOne h g us vs
      one = are_one text words Q P h g us vs there is other_own own also are

      verdict_here : (m : MachineView) (n : ℕ) → IsLineVerdict h us count m.keeps trace (Legal m n)
          → IsLineVerdict g vs count m.keeps trace (Legal m n)
      verdict_here m n v = one_so (λ x ws. IsLineVerdict x ws count m.keeps trace (Legal m n)) h g us vs one v

      further_here : (k : ℕ) → GoesNoFurther h us count trace k → GoesNoFurther g vs count trace k
      further_here k v = one_so (λ x ws. GoesNoFurther x ws count trace k) h g us vs one v

      first_here : (k : ℕ) (c : Cause) → IsFirstLine h us count trace k c → IsFirstLine g vs count trace k c
      first_here k c v = one_so (λ x ws. IsFirstLine x ws count trace k c) h g us vs one v

    -- a report of a machine that a trace leads to, as one of the state that the list leads to
    report_here : (trace : List ℕ) (es : List EventView) (w : World) (m : MachineView) (n : ℕ) (r : Report)
        → IsLegalOrder g vs count es w → trace ≡ trace_text es
        → (v : IsLineVerdict g vs count m.keeps trace (Legal m n)) → IsReportFrom m b r
        → (n ≡ length es) × IsReportFrom (record { graph = g; count = count; keeps = All; world = w }) b r
    report_here trace es w m n r o at v from =
        let t : IsLegalTrace g vs count trace n m.world = v.3 in
        let same : es ≡ t.events = t.only lines es (legal_list g vs count es w o) at in (
          sym t.many ∙ ap (λ (xs : List EventView). length xs) (sym same),
          from_same m g count w b r v.0 (one_state g vs count es t.events w m.world same o t.legal) from,
        )

  -- ---- the trace of a run

  module _ (steps : ℕ) (old new : SinkView) (status : ℕ) (result : Result (Unit {0}) PrintError)
      (h : HasRun text words count true steps b old new status result) where
    its_order : IsLegalOrder h.graph h.inputs count h.events (h.machine).world
    its_order = (h.run).legal h.events ((h.traced).asked refl)

    run_judged : (Q : Checked) → IsProgramOf text Q → (told : ℕ) (out : List ℕ)
        → Shows Q text (Judge b words count (trace_text h.events)) told out
        → (told ≡ status) × (out ≡ legal_text (length h.events) ++ h.output)
    run_judged Q there _ _ (legal {vs = us} {g = f} m n r also other_own verdict from shows) =
        let trace : List ℕ = trace_text h.events in
        let v = verdict_here h.program h.is_program h.graph h.own h.inputs h.are_inputs trace Q there f other_own us
        also m n verdict in
        let w : World = (h.machine).world in
        let here =
        report_here h.program h.is_program h.graph h.own h.inputs h.are_inputs trace h.events w m n r its_order refl v
        from in
        let ok = sound_at h.program h.is_program h.graph h.own h.inputs h.are_inputs h.events w its_order in
        let as_run =
        printed_as (source h.program h.inputs) h.graph (own_number h.program) count w ok
        (records h.graph count h.inputs its_order.lead) b text r here.1
        steps status h.output h.ends in
        (as_run.0, λ i. legal_text (here.0 i) ++ as_run.1 i)
    run_judged Q there _ _ (other {vs = us} {g = f} k c also other_own first stops) =
        let trace : List ℕ = trace_text h.events in
        let s = further_here h.program h.is_program h.graph h.own h.inputs h.are_inputs trace Q there f other_own us
        also k stops in
        absurd (s.no_trace h.events (legal_list h.graph h.inputs count h.events (h.machine).world its_order) refl)

  -- ---- two judges

  module _ (trace : List ℕ) where
    both_judge : (P Q : Checked) → IsProgramOf text P → IsProgramOf text Q → (status told : ℕ) (xs ys : List ℕ)
        → Shows P text (Judge b words count trace) status xs → Shows Q text (Judge b words count trace) told ys
        → (told ≡ status) × (ys ≡ xs)
    both_judge P Q is there _ _ _ _ (legal {vs = vs} {g = g} l k q are own first_verdict first_from first_shows)
        (legal {vs = us} {g = f} m n r also other_own verdict from shows) =
        let t : IsLegalTrace g vs count trace k l.world = first_verdict.3 in
        let v = verdict_here P is g own vs are trace Q there f other_own us also m n verdict in
        let first =
        report_here P is g own vs are trace t.events l.world l k q t.legal t.trace first_verdict first_from in
        let second = report_here P is g own vs are trace t.events l.world m n r t.legal t.trace v from in
        let ok = sound_at P is g own vs are t.events l.world t.legal in
        let reports =
        reported_as (source P vs) g (own_number P) count l.world ok (records g count vs (t.legal).lead) b text q first.1
        r second.1 in
        let many : n ≡ k = second.0 ∙ sym first.0 in
        (reports.0, λ i. legal_text (many i) ++ reports.1 i)
    both_judge P Q is there _ _ _ _ (legal {vs = vs} {g = g} l k q are own first_verdict first_from first_shows)
        (other {vs = us} {g = f} n c also other_own first stops) =
        let t : IsLegalTrace g vs count trace k l.world = first_verdict.3 in
        let s = further_here P is g own vs are trace Q there f other_own us also n stops in
        absurd (s.no_trace t.events (legal_list g vs count t.events l.world t.legal) t.trace)
    both_judge P Q is there _ _ _ _ (other {vs = vs} {g = g} k c are own first stops)
        (legal {vs = us} {g = f} m n r also other_own verdict from shows) =
        let v = verdict_here P is g own vs are trace Q there f other_own us also m n verdict in
        let t : IsLegalTrace g vs count trace n m.world = v.3 in
        absurd (stops.no_trace t.events (legal_list g vs count t.events m.world t.legal) t.trace)
    both_judge P Q is there _ _ _ _ (other {vs = vs} {g = g} k c are own first stops)
        (other {vs = us} {g = f} n d also other_own later ends) =
        let x : IsFirstLine g vs count trace k c = first in
        let y : IsFirstLine g vs count trace n d =
        first_here P is g own vs are trace Q there f other_own us also n d later in
        let s = further_here P is g own vs are trace Q there f other_own us also n ends in
        let one : length y.events ≤ k =
        stops.longest y.events (record { end = y.end; lead = y.before }) (record { rest = y.rest; is = y.parts }) in
        let two : length x.events ≤ n =
        s.longest x.events (record { end = x.end; lead = x.before }) (record { rest = x.rest; is = x.parts }) in
        let at : n ≡ k = omega (arith, one, two, x.many, y.many) in
        let why : d ≡ c =
        x.one (lines P is g own vs are) y.events y.end y.rest d y.before (y.many ∙ at) y.parts y.why y.line in
        (refl, λ i. other_text (at i) (cause_text (why i)))

pub JudgedAlike-laws : Soundness → LegalLists → ClearLines → JudgedAlike
JudgedAlike-laws sound lists clear = record {
  ran = λ text words count steps b old new before after status told result outcome h k.
      run_judged sound lists clear text words count b steps old new status result h k.program k.is_program told k.output
      k.shows;
  same = λ text words count b trace old new before after status told result outcome h k.
      both_judge sound lists clear text words count b trace h.program k.program h.is_program k.is_program status told
      h.output k.output h.shows k.shows;
}
