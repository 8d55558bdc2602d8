-- What a judge has read so far, and what comes of the next line.
use Rattle.std.proofs.Common.{◌≡◌, inl, ℕ, ◌+◌, ◌<◌, List, [], ◌++◌, length, refl, sym, ap, ◌∙◌, subst, arith}
use Rattle.std.proofs.Common.{append_assoc}
use Rattle.std.proofs.lemmas.List.{append-nil, length-append}
use Rattle.id_value.specs.declared.Constant.{Constant}
use Rattle.id_instr.specs.Graph.{Parts}
use Rattle.id_core.specs.Machines.{MachineView, World}
use Rattle.id_record.specs.declared.kept.Keeps.{Keeps}
use Rattle.id_trace.specs.Traces.{line_text, trace_text}
use Rattle.id_judge.specs.declared.judge.Judge.{Judge}
use Rattle.id_judge.specs.declared.verdict.Cause.{Cause}
use Rattle.id_judge.specs.declared.verdict.Verdict.TheVariants.{Legal}
use Rattle.id_judge.specs.Benches.{world_in}
use Rattle.id_judge.specs.Judging.{HasRead, IsRead, JudgesOn, ReadsAll, ReadsLine, Refuses, RefusesAt, cause_for}
use Rattle.id_judge.specs.Lines.{Advances, AreSmall, IsFirstLine, IsLineCause, IsLineVerdict}
use Rattle.id_judge.proofs.EndsLemmas.{rest_enough}
use Rattle.id_judge.proofs.MoreLemmas.{cause_told}
use Rattle.id_judge.proofs.ReadLemmas.{read_all, read_first, read_more, shorter}

-- a text behind what was read
pub read_behind : (g : Parts) (vs : List Constant) (count : ℕ) (text more : List ℕ) (k : ℕ) (w : World)
    → IsRead g vs count text [] k w → IsRead g vs count (text ++ more) more k w
read_behind g vs count text more k w r = record {
  events = r.events;
  many = r.many;
  parts = ap (λ t. t ++ more) (r.parts ∙ append-nil (trace_text r.events));
  lead = r.lead;
  small = r.small;
}

-- the same of a machine that is one
pub read_as : (g h : Parts) (vs : List Constant) (count n : ℕ) (text : List ℕ) (k l : ℕ) (w : World) → h ≡ g → n ≡ count
    → l ≡ k → IsRead g vs count text [] k w → IsRead h vs n text [] l w
read_as g h vs count n text k l w graph many lines r =
    subst (λ y. IsRead y vs n text [] l w) (sym graph)
    (subst (λ c. IsRead g vs c text [] l w) (sym many) (subst (λ j. IsRead g vs count text [] j w) (sym lines) r))

-- one line more
pub line_read : (old new : Judge) (text tail : List ℕ) → Advances old.bench text tail new.bench
    → AreSmall new.bench.flight → new.lines ≡ old.lines + 1 → ReadsLine old text tail new
line_read old new text tail adv small one =
    let g = old.bench.graph in
    let n = length old.bench.elements in
    let line = line_text adv.event in record {
      alike = record { graph = adv.same_graph; count = adv.same_count; keeps = adv.same_keeps };
      line = line;
      parts = adv.line;
      some = omega (arith, shorter adv.event text tail adv.line, length-append line tail, ap length adv.line);
      one = one;
      read = λ vs front h.
          read_as g new.bench.graph vs n (length new.bench.elements) (front ++ line) (old.lines + 1) new.lines
          (world_in new.bench)
          adv.same_graph adv.same_count one
          (read_more g g vs n n (front ++ line) line [] old.lines adv.event (world_in old.bench) (world_in new.bench)
          refl refl
          (read_behind g vs n front line old.lines (world_in old.bench) h) (sym (append-nil line)) adv.follows small);
    }

-- or none
pub line_refused : (j : Judge) (text : List ℕ) (cause : Cause) → 0 < length text
    → IsLineCause j.bench.graph (length j.bench.elements) (world_in j.bench) text cause
    → Refuses j text (cause_for text cause)
line_refused j text cause some why vs front more h enough =
    let g = j.bench.graph in
    let n = length j.bench.elements in
    let w = world_in j.bench in
    let t = cause_told g n w text more cause enough why in
    read_first g g vs n n (front ++ (text ++ more)) (text ++ more) j.lines w (cause_for text cause) refl refl
    (read_behind g vs n front (text ++ more) j.lines w h) (omega (arith, some, length-append text more)) t.why t.line

-- a machine that is the judge's at the end of a text
pub end_read : (j : Judge) (m : MachineView) (g : Parts) (vs : List Constant) (count : ℕ) (keeps : Keeps)
    (text : List ℕ)
    → m ≡ record {
      graph = j.bench.graph;
      count = length j.bench.elements;
      keeps = j.bench.keeps;
      world =
          world_in j.bench;
    } → JudgesOn g count keeps j → HasRead vs text j → IsLineVerdict g vs count keeps text (Legal m j.lines)
end_read j m g vs count keeps text is on h =
    read_all g j.bench.graph vs count (length j.bench.elements) text j.lines (world_in j.bench) j.bench.keeps keeps m
    on.on on.many on.kept
    (read_as j.bench.graph g vs (length j.bench.elements) count text j.lines j.lines (world_in j.bench) (sym on.on)
    (sym on.many) refl h) is

-- ---- all lines of a text

-- so much of the text was read, and this is left
pub record ReadsTo (old : Judge) (text rest : List ℕ) (new : Judge) : Type 0 where
  pub done : List ℕ
  pub parts : text ≡ done ++ rest
  pub reads : ReadsAll old done new

pub none_read : (j : Judge) (text : List ℕ) → ReadsTo j text text j
none_read j text = record {
  done = [];
  parts = refl;
  reads = record {
    alike = record { graph = refl; count = refl; keeps = refl };
    read = λ vs front h. subst (λ t. HasRead vs t j) (sym (append-nil front)) h;
  };
}

pub more_read : (old mid new : Judge) (text rest tail : List ℕ) → ReadsTo old text rest mid
    → ReadsLine mid rest tail new → ReadsTo old text tail new
more_read old mid new text rest tail r l = record {
  done = r.done ++ l.line;
  parts = r.parts ∙ ap (λ t. r.done ++ t) l.parts ∙ sym (append_assoc r.done l.line tail);
  reads = record {
    alike = record {
      graph = l.alike.graph ∙ r.reads.alike.graph;
      count = l.alike.count ∙ r.reads.alike.count;
      keeps = l.alike.keeps ∙ r.reads.alike.keeps;
    };
    read = λ vs front h.
        subst (λ t. HasRead vs t new) (append_assoc front r.done l.line)
        (l.read vs (front ++ r.done) (r.reads.read vs front h));
  };
}

pub all_read : (old new : Judge) (text : List ℕ) → ReadsTo old text [] new → ReadsAll old text new
all_read old new text r = subst (λ t. ReadsAll old t new) (sym (r.parts ∙ append-nil r.done)) r.reads

pub line_smaller : (old new : Judge) (text tail : List ℕ) → ReadsLine old text tail new → length tail < length text
line_smaller old new text tail l = omega (arith, l.some, length-append l.line tail, ap length l.parts)

-- a line behind those that were read is refused
pub rest_refused : (old mid : Judge) (text rest : List ℕ) (k : ℕ) (cause : Cause) → ReadsTo old text rest mid
    → 0 < length rest → k ≡ mid.lines → Refuses mid rest cause → RefusesAt old text k cause
rest_refused old mid text rest k cause r some lines why vs front more h lines_of =
    let g = old.bench.graph in
    let n = length old.bench.elements in
    let first =
    why vs (front ++ r.done) more (r.reads.read vs front h) (rest_enough text r.done rest more r.parts some lines_of) in
    let whole : (front ++ r.done) ++ (rest ++ more) ≡ front ++ (text ++ more) =
    append_assoc front r.done (rest ++ more)
    ∙ ap (λ t. front ++ t) (sym (append_assoc r.done rest more) ∙ ap (λ t. t ++ more) (sym r.parts)) in
    subst (λ j. IsFirstLine g vs n (front ++ (text ++ more)) j cause) (sym lines)
    (subst (λ t. IsFirstLine g vs n t mid.lines cause) whole
    (subst (λ c. IsFirstLine g vs c ((front ++ r.done) ++ (rest ++ more)) mid.lines cause) r.reads.alike.count
    (subst (λ y. IsFirstLine y vs (length mid.bench.elements) ((front ++ r.done) ++ (rest ++ more)) mid.lines cause)
    r.reads.alike.graph first)))

-- ---- a whole trace

pub trace_read : (old new : Judge) (g : Parts) (vs : List Constant) (count : ℕ) (keeps : Keeps) (text : List ℕ)
    → JudgesOn g count keeps old → HasRead vs [] old → ReadsAll old text new
    → JudgesOn g count keeps new × HasRead vs text new
trace_read old new g vs count keeps text on h r = (
  record { on = r.alike.graph ∙ on.on; many = r.alike.count ∙ on.many; kept = r.alike.keeps ∙ on.kept },
  r.read vs [] h,
)

pub trace_refused : (old : Judge) (g : Parts) (vs : List Constant) (count : ℕ) (keeps : Keeps) (text : List ℕ) (k : ℕ)
    (cause : Cause) → JudgesOn g count keeps old → HasRead vs [] old → RefusesAt old text k cause
    → IsFirstLine g vs count text k cause
trace_refused old g vs count keeps text k cause on h why =
    let first = why vs [] [] h (inl refl) in
    subst (λ t. IsFirstLine g vs count t k cause) (append-nil text)
    (subst (λ c. IsFirstLine g vs c (text ++ []) k cause) on.many
    (subst (λ y. IsFirstLine y vs (length old.bench.elements) (text ++ []) k cause) on.on first))
