-- Lemmas on specs/OneAnswer.antt: a quiet run shows exactly what is so of its source, and the sources of one text mean
-- the
-- same, so that no two runs of it differ.
use Rattle.std.proofs.Common.{◌≡◌, ◌+◌, ℕ, Bool, true, false, List, [], ◌∷◌, ◌++◌, Option, Some, None, IfSome, refl}
use Rattle.std.proofs.Common.{sym, ap, subst, ◌∙◌}
use Rattle.std.specs.Io.KnownBytes.{Appends}
use Rattle.std.specs.Prelude.{All, IsTrue, Ok}
use Rattle.id_value.specs.List.{Among}
use Rattle.id_value.proofs.AmongLemmas.{Among-from_at}
use Rattle.id_instr.specs.Graph.{Parts}
use Rattle.id_tag.specs.declared.Message.{Message}
use Rattle.id_source.specs.declared.Ask.{Ask}
use Rattle.id_source.specs.declared.Fact.TheVariants as fact
use Rattle.id_source.specs.declared.NameValue.{NameValue}
use Rattle.id_source.specs.declared.SourceFault.{SourceFault}
use Rattle.id_source.specs.declared.SourceValue.{SourceValue}
use Rattle.id_source.specs.Facts.{outermost}
use Rattle.id_source.specs.Names.{AreNames, AreWaiting}
use Rattle.id_source.specs.Orders.{NamesRise, Rises}
use Rattle.id_source.specs.Rounds.{FaultFree, Faulty, IsAnswer, IsCoherent}
use Rattle.id_source.specs.Sources.{AreInputs, Source, main_body, source}
use Rattle.id_source.proofs.Coherence.{coherence}
use Rattle.id_check.specs.Programs.{place}
use Rattle.id_core.specs.Events.{AllWent, EventView}
use Rattle.id_core.specs.Machines.{IsQuiet, World}
use Rattle.id_core.specs.Steps.{State}
use Rattle.id_core.specs.Observed as shown
use Rattle.id_observe.proofs.FirstsLemmas.{first_is_shown}
use Rattle.id_runs.specs.Legal.{IsSameBut}
use Rattle.id_laws.specs.Determinate.{RunOf, end_of}
use Rattle.id_laws.specs.Laws.{IsComplete, IsSound, QuietIsComplete, Soundness}
use Rattle.id_laws.proofs.Bounding.StampsLemmas.{none_left}
use Rattle.id_sink.specs.Told.{GoesOut, SinkView, Told}
use Rattle.id_print.specs.declared.helds.Held.{Held}
use Rattle.id_print.specs.declared.helds.Held.TheVariants.{Array, Cell}
use Rattle.id_print.specs.Names.{AreHeld, HeldBefore, IsPut, NameBefore, WaitBefore}
use Rattle.id_print.specs.Reports.{asked}
use Rattle.id_print.specs.Texts.{quiet_text}
use Rattle.id_trace.specs.Traces.{trace_text}
use Rattle.id_print.proofs.NamesLemmas.{NamesRise-Rises, Rises-sorted, asks_told, helds_told, names_told}
use Rattle.id_build.specs.Own.{schemas_of}
use Rattle.id_promises.specs.OneAnswer.{Answered, OneAnswer, SameLeft, ShowOne, report_of}
use Rattle.id_promises.specs.OneProgram.{MeanTheSame}
use Rattle.id_engine.specs.Runs.{HasRun}
use Rattle.id_promises.proofs.AlikeLemmas.{IsQuietly, at_fault, quietly, rising_same}
use Rattle.id_promises.proofs.HeldBackLemmas.{inputs_of}
use Rattle.id_engine.proofs.HeldLemmas.{AreApartBy-held, AreApartBy-waiting, AreHeld-complete, AreSomeHeld-sound}
use Rattle.id_engine.proofs.HeldLemmas.{AreWaiting-complete}
use Rattle.id_engine.proofs.NamesLemmas.{AreApart-sound, AreNames-complete, AreSomeNames-sound}
use Rattle.id_promises.proofs.OneProgramLemmas.{MeanTheSame-text}

-- ---- what a quiet run shows is what is so of its source

-- the report of a quiet run says what is so of this source, and all of it
record SaysIt (S : Source) (text : List ℕ) (b : Bool) (xs : List ℕ) : Type 0 where
  pub answer : Option SourceValue
  pub names : List NameValue
  pub helds : List Held
  pub waits : List Ask
  pub is_answer : IsAnswer S answer
  pub are_names : IsTrue b → AreNames S names
  pub are_held : AreHeld S helds
  pub are_waiting : AreWaiting S waits
  pub waits_rise : Rises WaitBefore waits
  pub free : FaultFree S
  pub is : xs ≡ quiet_text text answer (asked b names) helds waits

module _ (S : Source) (g : Parts) (number : ℕ → ℕ
    → ℕ) (w : World) (sound : IsSound S g number w) (done : IsComplete S g w)
    (text : List ℕ) (b : Bool) where
  says_at : (flight : List Message) (xs : List ℕ)
      → IsQuietly g (record { elements = w.elements; flight = flight }) text b xs → SaysIt S text b xs
  says_at flight xs q =
      let rise_names : IsTrue b → NamesRise q.names = λ yes. NamesRise-Rises q.names
      (Rises-sorted _ _ _ names_told q.names _ (q.sorted yes) (AreApart-sound S g number w sound)) in
      let rise_helds : Rises HeldBefore q.helds =
      Rises-sorted _ _ _ helds_told q.helds _ q.held (AreApartBy-held S g number w sound) in
      let rise_waits : Rises WaitBefore q.waits =
      Rises-sorted _ _ _ asks_told q.waits _ q.waiting (AreApartBy-waiting S g number w sound) in
      record {
        answer = shown.answer g w;
        names = q.names;
        helds = q.helds;
        waits = q.waits;
        is_answer = done.answer;
        are_names =
            λ yes. AreNames-complete S g w q.names
            (AreSomeNames-sound S g number w q.names sound (q.sorted yes) (rise_names yes)) done (q.sorted yes);
        are_held =
            AreHeld-complete S g w q.helds (AreSomeHeld-sound S g number w q.helds sound q.held rise_helds) done q.held;
        are_waiting = AreWaiting-complete S g w q.waits done q.waiting rise_waits;
        waits_rise = rise_waits;
        free = done.no_fault;
        is = q.is;
      }

  -- the elements alone show it
  says_it : (v : World) → w.elements ≡ v.elements → (xs : List ℕ) → IsQuietly g v text b xs → SaysIt S text b xs
  says_it v same xs q =
      let K : List State → Type 0 = λ es. IsQuietly g (record { elements = es; flight = v.flight }) text b xs in
      says_at v.flight xs (subst K (sym same) q)

-- a run for which `engine` answers
module _ (sound : Soundness) (complete : QuietIsComplete) (text : List ℕ) (words : List (List ℕ)) (b : Bool)
    (status : ℕ) (h : Answered text words b status) where
  its_run : RunOf (source h.ran.program h.ran.inputs)
  its_run = record {
    graph = h.ran.graph;
    schemas = schemas_of h.ran.own;
    count = h.count;
    positions = ((h.ran.run).runs ((h.ran.run).order).0 ((h.ran.run).order).1).positions;
  }

  its_end : IsSameBut (end_of (source h.ran.program h.ran.inputs) its_run) (h.ran.machine).world
  unfolding its_run
  its_end = ((h.ran.run).runs ((h.ran.run).order).0 ((h.ran.run).order).1).end

  its_inputs : AreInputs h.ran.program h.ran.inputs
  its_inputs = inputs_of h.ran.program words h.ran.inputs h.ran.are_inputs

  says : status ≡ 0 → SaysIt (source h.ran.program h.ran.inputs) text b h.ran.output
  unfolding its_run
  says zero_is =
      let S : Source = source h.ran.program h.ran.inputs in
      let r : RunOf S = its_run in
      let w : World = (h.ran.machine).world in
      let q : IsQuietly r.graph w text b h.ran.output =
      quietly r.graph r.count h.steps w text b status h.ran.output zero_is h.ran.ends in
      let still : IsQuiet (end_of S r) = record {
        empty = none_left its_end.flight (q.still).empty;
        went = subst (λ (es : List State). All (λ e. AllWent e.events) es) (sym its_end.elements) (q.still).went;
      } in
      says_it S r.graph r.schemas.number (end_of S r) (sound S r.graph r.count r.positions its_inputs r.schemas)
      (complete S r.graph r.count r.positions its_inputs r.schemas still) text b w its_end.elements h.ran.output q

  fault_of : status ≡ 1 → (f : SourceFault) × Faulty (source h.ran.program h.ran.inputs) f
  unfolding its_run
  fault_of one_is =
      let S : Source = source h.ran.program h.ran.inputs in
      let r : RunOf S = its_run in
      let w : World = (h.ran.machine).world in
      let at = at_fault r.graph r.count h.steps w text b status h.ran.output one_is h.ran.ends in
      let s : IsSound S r.graph r.schemas.number (end_of S r) =
      sound S r.graph r.count r.positions its_inputs r.schemas in
      let there = first_is_shown r.graph w.elements at.0 at.1 in
      let here : Among at.0 (shown.faults_in r.graph w.elements) =
      Among-from_at at.0 (shown.faults_in r.graph w.elements) there.0 there.1 in (
        at.0,
        s.faults at.0
            (subst (λ (es : List State). Among at.0 (shown.faults_in r.graph es)) (sym its_end.elements) here),
      )

-- ---- what is so of one source is so of another that means the same

IsPut-same : (S T : Source) → MeanTheSame S T → (c : shown.CellValue) → IsPut S c → IsPut T c
IsPut-same S T m c h =
    (h.0, (m.facts (fact.Put (record { name = c.name; index = c.index; value = c.value; store = h.0 }))).0 h.1)

says_too : (S T : Source) → MeanTheSame S T → (text : List ℕ) (b : Bool) (xs : List ℕ) → SaysIt S text b xs
    → SaysIt T text b xs
says_too S T m text b xs h = record {
  answer = h.answer;
  names = h.names;
  helds = h.helds;
  waits = h.waits;
  is_answer = (m.answer h.answer).0 h.is_answer;
  are_names = λ yes. let ns = h.are_names yes in record {
    all = λ n k. ns.all n ((m.names n).1 k);
    only = λ n k. (m.names n).0 (ns.only n k);
    rise = ns.rise;
  };
  are_held = let hs = h.are_held in record {
    shapes = λ s k. hs.shapes s ((m.facts (fact.Shape s)).1 k);
    puts = λ p k. hs.puts p ((m.facts (fact.Put p)).1 k);
    some = record {
      shapes = λ s k. (m.facts (fact.Shape s)).0 ((hs.some).shapes s k);
      puts = λ c k. IsPut-same S T m c ((hs.some).puts c k);
      rise = (hs.some).rise;
    };
  };
  are_waiting = let ws = h.are_waiting in record {
    all = λ a k. ws.all a ((m.waiting a).1 k);
    only = λ a k. (m.waiting a).0 (ws.only a k);
    rise = ws.rise;
  };
  waits_rise = h.waits_rise;
  free = λ f k. h.free f ((m.faults f).1 k);
  is = h.is;
}

-- ---- two reports of one source

Rises-NamesRise : (ns : List NameValue) → NamesRise ns → Rises NameBefore ns
Rises-NamesRise [] h = tt
Rises-NamesRise (n ∷ []) h = tt
Rises-NamesRise (n ∷ m ∷ ns) h = (h.0, Rises-NamesRise (m ∷ ns) h.1)

one_answer : (S : Source) → IsCoherent S → (v w : Option SourceValue) → IsAnswer S v → IsAnswer S w → v ≡ w
one_answer S c None None h k = refl
one_answer S c None (Some w) h k = absurd (h w k)
one_answer S c (Some v) None h k = absurd (k v h)
one_answer S c (Some v) (Some w) h k =
    let same : v ≡ w = c.values outermost (place S.checked (main_body S.checked)) v w h k in ap (λ x. Some x) same

one_names : (S : Source) (ns ms : List NameValue) → AreNames S ns → AreNames S ms → ns ≡ ms
one_names S ns ms h k = rising_same _ _ _ names_told ns ms (Rises-NamesRise ns h.rise) (Rises-NamesRise ms k.rise)
    (λ n l. k.all n (h.only n l)) (λ n l. h.all n (k.only n l))

held_too : (S : Source) (hs ks : List Held) → AreHeld S hs → AreHeld S ks → (x : Held) → Among x hs → Among x ks
held_too S hs ks h k (Array s) l = k.shapes s ((h.some).shapes s l)
held_too S hs ks h k (Cell c) l =
    let p = (h.some).puts c l in k.puts (record { name = c.name; index = c.index; value = c.value; store = p.0 }) p.1

one_helds : (S : Source) (hs ks : List Held) → AreHeld S hs → AreHeld S ks → hs ≡ ks
one_helds S hs ks h k =
    rising_same _ _ _ helds_told hs ks (h.some).rise (k.some).rise (held_too S hs ks h k) (held_too S ks hs k h)

one_waits : (S : Source) (ws us : List Ask) → AreWaiting S ws → AreWaiting S us → Rises WaitBefore ws
    → Rises WaitBefore us → ws ≡ us
one_waits S ws us h k up high =
    rising_same _ _ _ asks_told ws us up high (λ a l. k.all a (h.only a l)) (λ a l. h.all a (k.only a l))

-- the names that both print, where each prints them or not
record BothAsk (b c : Bool) (ns ms : List NameValue) : Type 0 where
  pub names : List NameValue
  pub one : asked b ns ≡ asked b names
  pub other : asked c ms ≡ asked c names

both_ask : (b c : Bool) (ns ms : List NameValue) → (IsTrue b → IsTrue c → ns ≡ ms) → BothAsk b c ns ms
both_ask true true ns ms h = record { names = ns; one = refl; other = sym (h refl refl) }
both_ask true false ns ms h = record { names = ns; one = refl; other = refl }
both_ask false c ns ms h = record { names = ms; one = refl; other = refl }

show_one : (S : Source) (text : List ℕ) (b c : Bool) (xs ys : List ℕ) → SaysIt S text b xs → SaysIt S text c ys
    → ShowOne text b c xs ys
show_one S text b c xs ys h k =
    let answer : h.answer ≡ k.answer = one_answer S (coherence S h.free) h.answer k.answer h.is_answer k.is_answer in
    let helds : h.helds ≡ k.helds = one_helds S h.helds k.helds h.are_held k.are_held in
    let waits : h.waits ≡ k.waits = one_waits S h.waits k.waits h.are_waiting k.are_waiting h.waits_rise k.waits_rise in
    let names =
    both_ask b c h.names k.names (λ yes too. one_names S h.names k.names (h.are_names yes) (k.are_names too)) in
    record {
      answer = k.answer;
      names = names.names;
      helds = k.helds;
      waits = k.waits;
      one = h.is ∙ (λ i. quiet_text text (answer i) (names.one i) (helds i) (waits i));
      other = k.is ∙ ap (λ ns. quiet_text text k.answer ns k.helds k.waits) names.other;
    }

-- with names in both or in neither they are the same bytes
same_bytes : (text : List ℕ) (b : Bool) (xs ys : List ℕ) → ShowOne text b b xs ys → xs ≡ ys
same_bytes text b xs ys h = h.one ∙ sym h.other

-- ---- two runs of one text

module _ (sound : Soundness) (complete : QuietIsComplete) (text : List ℕ) (words : List (List ℕ)) (b c : Bool) where
  -- what the second's source means is what the first's does
  mean_the_same : (m n : ℕ) (h : Answered text words b m) (k : Answered text words c n)
      → MeanTheSame (source k.ran.program k.ran.inputs) (source h.ran.program h.ran.inputs)
  mean_the_same m n h k =
      MeanTheSame-text text words k.ran.program h.ran.program k.ran.inputs h.ran.inputs k.ran.is_program
      h.ran.is_program k.ran.are_inputs h.ran.are_inputs

  both_show : (h : Answered text words b 0) (k : Answered text words c 0) → ShowOne text b c (report_of h) (report_of k)
  both_show h k =
      let S : Source = source h.ran.program h.ran.inputs in
      show_one S text b c h.ran.output k.ran.output (says sound complete text words b 0 h refl)
      (says_too (source k.ran.program k.ran.inputs) S (mean_the_same 0 0 h k) text c k.ran.output
      (says sound complete text words c 0 k refl))

  no_fault : Answered text words b 0 → Answered text words c 1 → ⊥
  no_fault h k =
      let f = fault_of sound complete text words c 1 k refl in
      (says sound complete text words b 0 h refl).free f.0 (((mean_the_same 0 1 h k).faults f.0).0 f.1)

-- where no trace is asked for, the report is all that goes out
out_whole : (text : List ℕ) (words : List (List ℕ)) (b : Bool) (count steps : ℕ) (old new : SinkView)
    → (h : HasRun text words count false steps b old new 0 (Ok tt)) → GoesOut old new h.output 0
out_whole text words b count steps old new h =
    let P : List EventView → Type 0 = λ es. GoesOut old new (trace_text es ++ h.output) 0 in
    subst P ((h.traced).unasked refl) (h.printed).printed

-- what two sinks that told this tell where the same went out
same_told : (old new other : Option Told) (out : List ℕ)
    → IfSome old (λ a. new ≡ Some (record { bytes = a.bytes ++ out; failures = a.failures + 0 }))
    → IfSome old (λ a. other ≡ Some (record { bytes = a.bytes ++ out; failures = a.failures + 0 }))
    → IfSome old (λ _. new ≡ other)
same_told None new other out h k = tt
same_told (Some a) new other out h k = h ∙ sym k

same_contents : (old new other : Option (List ℕ)) (out : List ℕ) → Appends old new out → Appends old other out
    → IfSome old (λ _. new ≡ other)
same_contents None new other out h k = tt
same_contents (Some a) None other out h k = absurd h
same_contents (Some a) (Some b) None out h k = absurd k
same_contents (Some a) (Some b) (Some c) out h k = ap Some (h ∙ sym k)

-- so two sinks to which the same went out
pub same_left : (old new other : SinkView) (out : List ℕ) → GoesOut old new out 0 → GoesOut old other out 0
    → SameLeft old new other
same_left old new other out h k = record {
  told = same_told old.told new.told other.told out h.told k.told;
  contents = same_contents old.contents new.contents other.contents out h.contents k.contents;
}

pub OneAnswer-laws : Soundness → QuietIsComplete → OneAnswer
OneAnswer-laws sound complete = record {
  same = λ text words b h k. same_bytes text b (report_of h) (report_of k)
      (both_show sound complete text words b b h k);
  shown = λ text words b c h k. both_show sound complete text words b c h k;
  no_fault = λ text words b c h k. no_fault sound complete text words b c h k;
  told = λ text words b count n steps m old new other h k.
      let x : Answered text words b 0 =
      record { count = count; steps = steps; trace = false; old = old; new = new; result = Ok tt; ran = h } in
      let y : Answered text words b 0 =
      record { count = n; steps = m; trace = false; old = old; new = other; result = Ok tt; ran = k } in
      let same : h.output ≡ k.output =
      same_bytes text b h.output k.output (both_show sound complete text words b b x y) in
      let P : List ℕ → Type 0 = λ out. GoesOut old other out 0 in
      same_left old new other h.output (out_whole text words b count steps old new h)
      (subst P (sym same) (out_whole text words b n m old other k));
}
