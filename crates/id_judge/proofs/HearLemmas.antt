-- What was read of a log so far (specs/Listening.antt).
use Rattle.std.proofs.Common.{◌≡◌, ◌≤◌, ◌<◌, ◌-◌, inl, inr, ℕ, Bool, true, false, List, [], ◌∷◌, ◌++◌, length, drop}
use Rattle.std.proofs.Common.{refl, sym, ap, ◌∙◌, subst, arith, append_assoc}
use Rattle.std.proofs.Common.{Option, Some, None}
use Rattle.std.proofs.lemmas.List.{append-nil, length-append}
use Rattle.id_value.specs.declared.Constant.{Constant}
use Rattle.id_instr.specs.Graph.{Parts}
use Rattle.id_record.specs.declared.kept.Keeps.{Keeps}
use Rattle.id_log.specs.declared.log.LogFault.{LogFault}
use Rattle.id_log.specs.declared.log.LogFault.TheVariants.{Memory}
use Rattle.id_log.specs.Logs.{Ahead, End, Gives, Hears, IsHeard, IsLost, IsLostAt, IsOver, MayBreak, MayEnd, MayEndIn}
use Rattle.id_log.specs.Logs.{MayFollow, ReadsOn}
use Rattle.id_log.specs.Logs.End.{ends, fails, may_fail}
use Rattle.id_judge.specs.declared.judge.Judge.{Judge}
use Rattle.id_judge.specs.declared.verdict.Cause.{Cause}
use Rattle.id_judge.specs.Ends.{IsEnough}
use Rattle.id_judge.specs.Judging.{HasRead, JudgesOn, ReadsAll, Refuses}
use Rattle.id_judge.specs.Lines.{IsFirstLine, IsLineVerdict}
use Rattle.id_judge.specs.declared.verdict.Verdict.{Verdict}
use Rattle.id_judge.specs.declared.verdict.Verdict.TheVariants.{CannotFollow}
use Rattle.id_judge.proofs.JudgeLemmas.{ReadsTo}
use Rattle.id_judge.specs.Listening.{HearsAll, HearsWrong, ReadsFront, RefusesBefore}

-- ---- lines of a text

-- so much of the text was read
pub front_read : (old new : Judge) (text rest : List ℕ) → ReadsTo old text rest new
    → ReadsFront old text (length rest) new
front_read old new text rest r = record { done = r.done; rest = rest; parts = r.parts; many = refl; reads = r.reads }

-- a line behind those that were read is refused
pub line_wrong : (old mid : Judge) (text rest : List ℕ) (over : Bool) (k : ℕ) (cause : Cause)
    → ReadsTo old text rest mid → ((more : List ℕ) → MayFollow over more → IsEnough rest more) → k ≡ mid.lines
    → Refuses mid rest cause → RefusesBefore old text over k cause
line_wrong old mid text rest over k cause r enough lines why vs front more h follows =
    let g = old.bench.graph in
    let n = length old.bench.elements in
    let first = why vs (front ++ r.done) more (r.reads.read vs front h) (enough more follows) in
    let whole : (front ++ r.done) ++ (rest ++ more) ≡ front ++ (text ++ more) =
    append_assoc front r.done (rest ++ more)
    ∙ ap (λ t. front ++ t) (sym (append_assoc r.done rest more) ∙ ap (λ t. t ++ more) (sym r.parts)) in
    subst (λ j. IsFirstLine g vs n (front ++ (text ++ more)) j cause) (sym lines)
    (subst (λ t. IsFirstLine g vs n t mid.lines cause) whole
    (subst (λ c. IsFirstLine g vs c ((front ++ r.done) ++ (rest ++ more)) mid.lines cause) r.reads.alike.count
    (subst (λ y. IsFirstLine y vs (length mid.bench.elements) ((front ++ r.done) ++ (rest ++ more)) mid.lines cause)
    r.reads.alike.graph first)))

-- ---- a log

-- so much of a log was read as lines, and behind them these bytes
pub record Heard (a b : Option Ahead) (old : Judge) (bytes : List ℕ) (new : Judge) : Type 0 where
  pub done : List ℕ
  pub reads : ReadsAll old done new
  pub gives : Gives a b (done ++ bytes)

gives_none : (a : Option Ahead) → Gives a a []
gives_none None = tt
gives_none (Some a) = (refl, refl)

gives_more : (a b c : Option Ahead) (xs ys : List ℕ) → Gives a b xs → Gives b c ys → Gives a c (xs ++ ys)
gives_more None b c xs ys g h = tt
gives_more (Some a) None c xs ys g h = absurd g
gives_more (Some a) (Some b) None xs ys g h = absurd h
gives_more (Some a) (Some b) (Some c) xs ys g h =
    (g.0 ∙ ap (λ t. xs ++ t) h.0 ∙ sym (append_assoc xs ys c.bytes), h.1 ∙ g.1)

none_reads : (j : Judge) → ReadsAll j [] j
none_reads j = record {
  alike = record { graph = refl; count = refl; keeps = refl };
  read = λ vs front h. subst (λ t. HasRead vs t j) (sym (append-nil front)) h;
}

reads_more : (old mid new : Judge) (xs ys : List ℕ) → ReadsAll old xs mid → ReadsAll mid ys new
    → ReadsAll old (xs ++ ys) new
reads_more old mid new xs ys r s = record {
  alike = record {
    graph = s.alike.graph ∙ r.alike.graph;
    count = s.alike.count ∙ r.alike.count;
    keeps = s.alike.keeps ∙ r.alike.keeps;
  };
  read = λ vs front h. subst (λ t. HasRead vs t new) (append_assoc front xs ys)
      (s.read vs (front ++ xs) (r.read vs front h));
}

pub none_heard : (a : Option Ahead) (j : Judge) → Heard a a j [] j
none_heard a j = record { done = []; reads = none_reads j; gives = gives_none a }

-- a piece more
pub piece_heard : (a b c : Option Ahead) (old mid : Judge) (bytes longer : List ℕ) (over : Bool)
    → Heard a b old bytes mid → ReadsOn b c bytes longer over
    → Heard a c old longer mid
piece_heard a b c old mid bytes longer over h p = record {
  done = h.done;
  reads = h.reads;
  gives = (let all = gives_more a b c (h.done ++ bytes) p.piece h.gives p.gives in
      subst (λ t. Gives a c t) (append_assoc h.done bytes p.piece ∙ ap (λ t. h.done ++ t) (sym p.longer_is)) all);
}

-- lines more, behind which these bytes are left
pub lines_heard : (a b : Option Ahead) (old mid new : Judge) (bytes left : List ℕ) (many : ℕ) → Heard a b old bytes mid
    → ReadsFront mid bytes many new → left ≡ drop (length bytes - many) bytes → Heard a b old left new
lines_heard a b old mid new bytes left many h r is = record {
  done = h.done ++ r.done;
  reads = reads_more old mid new h.done r.done h.reads r.reads;
  gives = subst (λ t. Gives a b t) (ap (λ t. h.done ++ t) (r.parts ∙ ap (λ t. r.done ++ t) (sym rest_is))
      ∙ sym (append_assoc h.done r.done left)) h.gives;
}
  where
    drop_front : (xs ys : List ℕ) → drop (length xs) (xs ++ ys) ≡ ys
    drop_front [] ys = refl
    drop_front (x ∷ xs) ys = drop_front xs ys

    gone : length bytes - many ≡ length r.done
    gone = omega (arith, ap length r.parts, length-append r.done r.rest, r.many)

    rest_is : left ≡ r.rest
    rest_is = is ∙ (λ i. drop (gone i) (r.parts i)) ∙ drop_front r.done r.rest

-- no more is left than there was
pub left_within : (old new : Judge) (text : List ℕ) (many : ℕ) → ReadsFront old text many new → many ≤ length text
left_within old new text many r = omega (arith, ap length r.parts, length-append r.done r.rest, r.many)

-- of none nothing is left
pub none_left : (bytes left : List ℕ) (many : ℕ) → many ≡ 0 → left ≡ drop (length bytes - many) bytes → left ≡ []
none_left bytes left many none is =
    let whole : length bytes - many ≡ length bytes = omega (arith, none) in
    is ∙ ap (λ n. drop n bytes) whole ∙ drop_all bytes
  where
    drop_all : (xs : List ℕ) → drop (length xs) xs ≡ []
    drop_all [] = refl
    drop_all (x ∷ xs) = drop_all xs

-- at the end of the log all was read
pub all_heard : (a b : Option Ahead) (old new : Judge) (bytes : List ℕ) → Heard a b old bytes new → bytes ≡ []
    → IsOver b → HearsAll a old new
all_heard a b old new bytes h none over = record {
  text = h.done;
  heard = is_heard a b h.done (subst (λ t. Gives a b t) (ap (λ t. h.done ++ t) none ∙ append-nil h.done) h.gives) over;
  reads = h.reads;
}
  where
    is_heard : (a b : Option Ahead) (text : List ℕ) → Gives a b text → IsOver b → IsHeard a text true
    is_heard None b text g o = tt
    is_heard (Some a) None text g o = absurd g
    is_heard (Some a) (Some b) text g o =
        (sym (append-nil text) ∙ ap (λ t. text ++ t) (sym o.0) ∙ sym g.0, subst MayEnd g.1 o.1)

-- a line of what was read is wrong
pub wrong_heard : (a b : Option Ahead) (old mid : Judge) (bytes : List ℕ) (over : Bool) (k : ℕ) (cause : Cause)
    → Heard a b old bytes mid → (over ≡ true → IsOver b) → RefusesBefore mid bytes over k cause
    → HearsWrong a old k cause
wrong_heard a b old mid bytes over k cause h stop why = record {
  text = h.done ++ bytes;
  over = over;
  heard = is_heard a b (h.done ++ bytes) over h.gives stop;
  wrong = λ vs front more read follows.
      (let g = old.bench.graph in
      let n = length old.bench.elements in
      let first = why vs (front ++ h.done) more (h.reads.read vs front read) follows in
      let whole : (front ++ h.done) ++ (bytes ++ more) ≡ front ++ ((h.done ++ bytes) ++ more) =
      append_assoc front h.done (bytes ++ more) ∙ ap (λ t. front ++ t) (sym (append_assoc h.done bytes more)) in
      subst (λ t. IsFirstLine g vs n t k cause) whole
      (subst (λ c. IsFirstLine g vs c ((front ++ h.done) ++ (bytes ++ more)) k cause) h.reads.alike.count
      (subst (λ y. IsFirstLine y vs (length mid.bench.elements) ((front ++ h.done) ++ (bytes ++ more)) k cause)
      h.reads.alike.graph first)));
}
  where
    is_heard : (a b : Option Ahead) (text : List ℕ) (over : Bool) → Gives a b text → (over ≡ true → IsOver b)
        → IsHeard a text over
    is_heard None b text over g o = tt
    is_heard (Some a) None text over g o = absurd g
    is_heard (Some a) (Some b) text true g o =
        let ended = o refl in
        (sym (append-nil text) ∙ ap (λ t. text ++ t) (sym ended.0) ∙ sym g.0, subst MayEnd g.1 ended.1)
    is_heard (Some a) (Some b) text false g o = (b.bytes, g.0)

-- a read that failed broke the log off
pub broken_heard : (a b : Option Ahead) (old mid : Judge) (bytes : List ℕ) (fault : LogFault) → Heard a b old bytes mid
    → IsLost b fault → MayBreak a fault
broken_heard None b old mid bytes fault h lost = tt
broken_heard (Some a) None old mid bytes fault h lost = absurd h.gives
broken_heard (Some a) (Some b) old mid bytes fault h lost =
    subst (λ e. MayBreak (Some (record { bytes = a.bytes; end = e })) fault) h.gives.1 (broken b.bytes b.end lost)
  where
    at_end : (xs : List ℕ) (e : End) → IsLostAt xs e fault → MayEndIn e fault
    at_end xs ends l = absurd l
    at_end xs (fails told) l = l.1
    at_end xs may_fail l = tt

    broken : (xs : List ℕ) (e : End) → IsLost (Some (record { bytes = xs; end = e })) fault
        → MayBreak (Some (record { bytes = a.bytes; end = e })) fault
    broken xs e (inl memory) = inl memory
    broken xs e (inr l) = inr (at_end xs e l)

pub memory_breaks : (a : Option Ahead) → MayBreak a Memory
memory_breaks None = tt
memory_breaks (Some a) = inl refl

-- ---- verdicts

-- a verdict that is so of all lines that were read, of as many, is so of the log
pub hears_legal : (a : Option Ahead) (old new : Judge) (g : Parts) (vs : List Constant) (count : ℕ) (keeps : Keeps)
    (v : ℕ → Verdict) (n : ℕ) → JudgesOn g count keeps old → HasRead vs [] old → HearsAll a old new → n ≡ new.lines
    → ((text : List ℕ) → JudgesOn g count keeps new → HasRead vs text new
    → IsLineVerdict g vs count keeps text (v new.lines)) → Hears a (λ trace. IsLineVerdict g vs count keeps trace (v n))
hears_legal a old new g vs count keeps v n on read h lines all = record {
  front = h.text;
  over = true;
  heard = h.heard;
  holds = λ more follows.
      (let now : JudgesOn g count keeps new = record {
        on = h.reads.alike.graph ∙ on.on;
        many = h.reads.alike.count ∙ on.many;
        kept = h.reads.alike.keeps ∙ on.kept;
      } in
      let whole : h.text ≡ h.text ++ more = sym (append-nil h.text) ∙ ap (λ t. h.text ++ t) (sym follows) in
      subst (λ t. IsLineVerdict g vs count keeps t (v n)) whole
      (subst (λ k. IsLineVerdict g vs count keeps h.text (v k)) (sym lines)
      (all h.text now (h.reads.read vs [] read))));
}

-- and so is the first line from which on all is no trace
pub hears_wrong : (a : Option Ahead) (old : Judge) (g : Parts) (vs : List Constant) (count : ℕ) (keeps : Keeps)
    (k n : ℕ) (cause : Cause) → JudgesOn g count keeps old → HasRead vs [] old → HearsWrong a old k cause → n ≡ k
    → Hears a (λ trace. IsLineVerdict g vs count keeps trace (CannotFollow n cause))
hears_wrong a old g vs count keeps k n cause on read h lines = record {
  front = h.text;
  over = h.over;
  heard = h.heard;
  holds = λ more follows.
      (let first = h.wrong vs [] more read follows in
      let text = h.text ++ more in
      subst (λ j. IsFirstLine g vs count text j cause) (sym lines)
      (subst (λ c. IsFirstLine g vs c text k cause) on.many
      (subst (λ y. IsFirstLine y vs (length old.bench.elements) text k cause) on.on first)));
}
