-- Lemmas on specs/JudgedAlike.antt: a machine that is sound has one report, and a run that ends in it is printed so.
use Rattle.std.proofs.Common.{◌≡◌, ℕ, Bool, true, false, List, [], refl, sym, ap, ◌∙◌}
use Rattle.std.specs.Prelude.{IsTrue}
use Rattle.std.proofs.lemmas.List.Sorted.{IsPermutation-refl}
use Rattle.id_instr.specs.Graph.{Parts}
use Rattle.id_source.specs.declared.Ask.{Ask}
use Rattle.id_source.specs.declared.NameValue.{NameValue}
use Rattle.id_source.specs.declared.SourceFault.{SourceFault}
use Rattle.id_source.specs.Sources.{Source}
use Rattle.id_record.specs.declared.kept.Keeps.TheVariants as keeps
use Rattle.id_core.specs.Firsts.{IsFirstFault}
use Rattle.id_core.specs.Machines.{IsQuiet, MachineView, World}
use Rattle.id_core.specs.Observed as shown
use Rattle.id_observe.proofs.FirstsLemmas.{first_is_shown}
use Rattle.id_laws.specs.Laws.{IsSound}
use Rattle.id_print.specs.Endings.{EndsSo}
use Rattle.id_print.specs.Names.{HeldBefore, IsOrderOf, IsSortedOf, WaitBefore}
use Rattle.id_print.specs.Reports.{asked, ending_text, report_text}
use Rattle.id_print.specs.RunReports.{IsReportFrom}
use Rattle.id_print.specs.Texts.{quiet_text, stopped_text}
use Rattle.id_print.specs.declared.helds.Held.{Held}
use Rattle.id_print.specs.declared.run_reports.Report.{Report}
use Rattle.id_print.specs.declared.ending.Ending.{Ending}
use Rattle.id_print.specs.declared.ending.Ending.TheVariants.{Quiet, Stopped, Fault}
use Rattle.id_print.proofs.NamesLemmas.{asks_told, helds_told, names_told}
use Rattle.id_engine.specs.Judged.{status_of}
use Rattle.id_engine.specs.Runs.{Ends, held_of}
use Rattle.id_engine.specs.Runs.Ends.{fault, quiet, stopped}
use Rattle.id_promises.proofs.AlikeLemmas.{no_one, order_same}
use Rattle.id_engine.proofs.HeldLemmas.{AreApartBy-held, AreApartBy-waiting}
use Rattle.id_engine.proofs.NamesLemmas.{AreApart-sound}
use Rattle.id_promises.proofs.RecordedLemmas.{AreRecords, one_fault, quiet_no_fault}

module _ (S : Source) (g : Parts) (number : ℕ → ℕ
    → ℕ) (count : ℕ) (w : World) (ok : IsSound S g number w) (are : AreRecords w.elements) (b : Bool) where
  -- the machine
  abbrev pub its : MachineView
  its = record { graph = g; count = count; keeps = keeps.All; world = w }

  one_names : (ns ms : List NameValue) → IsSortedOf ns (shown.names g w) → IsSortedOf ms (shown.names g w) → ns ≡ ms
  one_names ns ms h k =
      order_same _ _ _ names_told ns ms _ _ h k (AreApart-sound S g number w ok) (AreApart-sound S g number w ok)
      (IsPermutation-refl (shown.names g w))

  shown_one : (f : SourceFault) → shown.faults g w ≡ [] → IsFirstFault g w.elements f → ⊥
  shown_one f none first =
      let there = first_is_shown g w.elements f first in no_one (shown.faults g w) f there.0 none there.1

  -- it ends in one way
  one_end : (e d : Ending) → EndsSo its e → EndsSo its d → e ≡ d
  one_end Quiet Quiet h k = refl
  one_end Quiet Stopped h k = absurd (k.1 h)
  one_end Quiet (Fault f) h k = absurd (quiet_no_fault g w f h k)
  one_end Stopped Quiet h k = absurd (h.1 k)
  one_end Stopped Stopped h k = refl
  one_end Stopped (Fault f) h k = absurd (shown_one f h.0 k)
  one_end (Fault f) Quiet h k = absurd (quiet_no_fault g w f k h)
  one_end (Fault f) Stopped h k = absurd (shown_one f k.0 h)
  one_end (Fault f) (Fault e) h k = ap Fault (one_fault w.elements are g f e h k)

  module _ (text : List ℕ) (r : Report) (from : IsReportFrom its b r) where
    names_as : (ns : List NameValue) → (IsTrue b → IsSortedOf ns (shown.names g w)) → asked b r.names ≡ asked b ns
    names_as ns h = by b refl
      where
        by : (c : Bool) → b ≡ c → asked c r.names ≡ asked c ns
        by true is = one_names r.names ns (from.sorted is) (h is)
        by false is = refl

    held_as : (hs : List Held) → IsOrderOf HeldBefore hs (held_of g w) → r.structures ≡ hs
    held_as hs h = order_same _ _ _ helds_told r.structures hs _ _ from.held h (AreApartBy-held S g number w ok)
        (AreApartBy-held S g number w ok) (IsPermutation-refl (held_of g w))

    waits_as : (ws : List Ask) → IsOrderOf WaitBefore ws (shown.waiting g w) → r.waiting ≡ ws
    waits_as ws h = order_same _ _ _ asks_told r.waiting ws _ _ from.waits h (AreApartBy-waiting S g number w ok)
        (AreApartBy-waiting S g number w ok) (IsPermutation-refl (shown.waiting g w))

    -- a run that ends here is printed as the report says
    pub printed_as : (steps status : ℕ) (bytes : List ℕ) → Ends g count steps w text b status bytes
        → (status_of r.ending ≡ status) × (report_text text b r ≡ bytes)
    printed_as steps _ _ (quiet ns hs ws still sorted held waiting) =
        let end : r.ending ≡ Quiet = one_end r.ending Quiet from.ends still in (
          ap status_of end,
          ap (ending_text text r (asked b r.names)) end
              ∙ (λ i. quiet_text text (from.answer_is i) (names_as ns sorted i) (held_as hs held i)
              (waits_as ws waiting i)),
        )
    printed_as steps _ _ (fault f first) =
        let end : r.ending ≡ Fault f = one_end r.ending (Fault f) from.ends first in
        (ap status_of end, ap (ending_text text r (asked b r.names)) end)
    printed_as steps _ _ (stopped ns hs none left all sorted held) =
        let still : IsQuiet w → ⊥ = λ q. left q.empty in
        let end : r.ending ≡ Stopped = one_end r.ending Stopped from.ends (none, still) in (
          ap status_of end,
          ap (ending_text text r (asked b r.names)) end
              ∙ (λ i. stopped_text text (from.answer_is i) (names_as ns sorted i) (held_as hs held i)),
        )

    -- another report is printed so
    pub reported_as : (q : Report) → IsReportFrom its b q
        → (status_of q.ending ≡ status_of r.ending) × (report_text text b q ≡ report_text text b r)
    reported_as q also =
        let end : q.ending ≡ r.ending = one_end q.ending r.ending also.ends from.ends in
        let answers : q.answer ≡ r.answer = also.answer_is ∙ sym from.answer_is in
        let names : asked b q.names ≡ asked b r.names = sym (names_as q.names also.sorted) in
        let helds = sym (held_as q.structures also.held) in
        let waits = sym (waits_as q.waiting also.waits) in (
          ap status_of end,
          ap (ending_text text q (asked b q.names)) end ∙ by r.ending answers names helds waits,
        )
      where
        by : (e : Ending) → q.answer ≡ r.answer → asked b q.names ≡ asked b r.names → q.structures ≡ r.structures
            → q.waiting ≡ r.waiting → ending_text text q (asked b q.names) e ≡ ending_text text r (asked b r.names) e
        by Quiet answers names helds waits = λ i. quiet_text text (answers i) (names i) (helds i) (waits i)
        by Stopped answers names helds waits = λ i. stopped_text text (answers i) (names i) (helds i)
        by (Fault f) answers names helds waits = refl
