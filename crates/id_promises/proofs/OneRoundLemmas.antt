-- Lemmas on specs/OneRound.antt: the sources of one text mean the same, a round is one list, and each line of a round
-- has a byte, so that a round with more facts has more bytes; past round 0 the lines tell the inputs, and each tells
-- its
-- fact.
use Rattle.std.proofs.Common.{◌≡◌, inl, inr, ◌⊎◌, ℕ, zero, suc, ◌<◌, ◌≤◌, ◌^◌, true, List, [], ◌∷◌, ◌++◌, length}
use Rattle.std.proofs.Common.{Result, refl, sym, ap, subst, ◌∙◌, arith, length-append}
use Rattle.std.specs.Prelude.{Ok, codes}
use Rattle.std.proofs.lemmas.Bool.{cases_lt}
use Rattle.std.proofs.lemmas.List.{length-map}
use Rattle.id_value.specs.List.{Among}
use Rattle.id_value.specs.declared.Constant.{Constant}
use Rattle.id_value.specs.declared.Constant.TheVariants as constant
use Rattle.id_text.proofs.LexesLemmas.{within}
use Rattle.id_tree.specs.Distinct.{HasPlace}
use Rattle.id_tree.proofs.StartsLemmas.{Program-starts, StartsAt-within}
use Rattle.id_table.specs.declared.row.Row.{Row}
use Rattle.id_table.specs.Rows.{at}
use Rattle.id_table.specs.Tables.{is_loop}
use Rattle.id_check.specs.declared.checked.Checked.{Checked}
use Rattle.id_check.specs.Programs.{rows, tree}
use Rattle.id_source.specs.declared.Fact.{Fact}
use Rattle.id_source.specs.declared.Fact.TheVariants as fact
use Rattle.id_source.specs.Computed.{AreFacts}
use Rattle.id_source.specs.Inputs.{AreInputsOf, wanted, wanted_of}
use Rattle.id_source.specs.Orders.{FactBefore, Rises}
use Rattle.id_source.specs.Rounds.{Rounds}
use Rattle.id_source.specs.Sources.{AreInputs, Source, main_params, source}
use Rattle.id_source.proofs.InputsLemmas.{are-inputs}
use Rattle.id_laws.specs.Ended.{AreAllFacts}
use Rattle.id_laws.proofs.Bounding.EndedLemmas.{ended_facts}
use Rattle.id_laws.proofs.Telling.Wholes.{AreWhole, are_whole, wholes}
use Rattle.id_sink.specs.Texts.{ask_text, has_brace, point_text, point_value_text, shape_text}
use Rattle.id_sink.specs.Told.{GoesOut, SinkView}
use Rattle.id_sink.specs.declared.sink.PrintError.{PrintError}
use Rattle.id_print.specs.Telling.{FactIsTold}
use Rattle.id_print.specs.Texts.{fact_text, facts_text, put_text}
use Rattle.id_print.proofs.TellingLemmas.{fact_told}
use Rattle.id_compile.specs.Programs.{IsProgramOf}
use Rattle.id_engine.specs.Commands.{AreFactsOf, Facts, HasShown, Shows, ShowsAll}
use Rattle.id_engine.specs.Commands.Shows.{facts}
use Rattle.id_promises.specs.OneAnswer.{SameLeft}
use Rattle.id_promises.specs.OneProgram.{MeanTheSame}
use Rattle.id_promises.specs.OneRound.{IsRoundText, OneRound}
use Rattle.id_promises.proofs.ChainLemmas.{later}
use Rattle.id_promises.proofs.OneAnswerLemmas.{same_left}
use Rattle.id_promises.proofs.BracesLemmas.{Loops, Program-loops, braces_there}
use Rattle.id_promises.proofs.InputsToldLemmas.{AreTold, inputs_told, whole_told}
use Rattle.id_promises.proofs.LoopRowsLemmas.{loop_rows}
use Rattle.id_promises.proofs.NumbersLemmas.{IsLoopAt}
use Rattle.id_promises.proofs.ToldFactsLemmas.{round_told}
use Rattle.id_promises.proofs.OneProgramLemmas.{AreAlike-text, MeanTheSame-text, inputs_to}
use Rattle.id_promises.proofs.RisingLemmas.{FactsRise-Rises, behind, fact_strict, first_before, one_list, rest_rises}

-- ---- one list

-- rounds with the same facts are one list
pub one_list_of : (S : Source) (n m : ℕ) (fs gs : List Fact) → AreFacts S n fs → AreFacts S m gs
    → ((f : Fact) → Rounds S n f → Rounds S m f) → ((f : Fact) → Rounds S m f → Rounds S n f) → fs ≡ gs
one_list_of S n m fs gs h k to from =
    one_list FactBefore fact_strict fs gs (FactsRise-Rises fs h.rise) (FactsRise-Rises gs k.rise)
    (λ f l. k.all f (to f (h.only f l)))
    (λ f l. h.all f (from f (k.only f l)))

-- the facts of a round of one program of the text are those of the same round of another
pub facts_there : (text : List ℕ) (words : List (List ℕ)) (P : Checked) (vs : List Constant) → IsProgramOf text P
    → AreInputsOf P words vs → (m : ℕ) (gs : List Fact) → AreFactsOf text words m gs → AreFacts (source P vs) m gs
facts_there text words P vs is given m gs k =
    let mean : MeanTheSame (source k.program k.inputs) (source P vs) =
    MeanTheSame-text text words k.program P k.inputs vs k.is_program is k.are_inputs given in
    record {
      all = λ f r. (k.are).all f ((mean.rounds m f).1 r);
      only = λ f a. (mean.rounds m f).0 ((k.are).only f a);
      rise = (k.are).rise;
    }

there : (text : List ℕ) (words : List (List ℕ)) (n m : ℕ) (fs gs : List Fact) (h : AreFactsOf text words n fs)
    → AreFactsOf text words m gs → AreFacts (source h.program h.inputs) m gs
there text words n m fs gs h k = facts_there text words h.program h.inputs h.is_program h.are_inputs m gs k

one_facts : (text : List ℕ) (words : List (List ℕ)) (n : ℕ) (fs gs : List Fact) → AreFactsOf text words n fs
    → AreFactsOf text words n gs → fs ≡ gs
one_facts text words n fs gs h k =
    one_list_of (source h.program h.inputs) n n fs gs h.are (there text words n n fs gs h k) (λ f r. r) (λ f r. r)

-- ---- one text

-- what a call has printed, or a front of it, is the text of a round
pub round_text : (text : List ℕ) (words : List (List ℕ)) (n : ℕ) (old new : SinkView)
    (result : Result (Unit {0}) PrintError) → (h : HasShown (Facts n words) text old new 0 result)
    → IsRoundText text words n h.output
round_text text words n old new result h = by h.output h.shows
  where
    by : (bytes : List ℕ) → Shows h.program text (Facts n words) 0 bytes → IsRoundText text words n bytes
    by _ (facts {vs = vs} {fs = fs} inputs are) =
        record {
          list = fs;
          are =
              record { program = h.program; is_program = h.is_program; inputs = vs; are_inputs = inputs; are = are };
          is = refl;
        }

one_text : (text : List ℕ) (words : List (List ℕ)) (n : ℕ) (old new before after : SinkView)
    (result other : Result (Unit {0}) PrintError) → (h : HasShown (Facts n words) text old new 0 result)
    → (k : HasShown (Facts n words) text before after 0 other) → h.output ≡ k.output
one_text text words n old new before after result other h k =
    let x = round_text text words n old new result h in
    let y = round_text text words n before after other k in
    x.is ∙ (ap (facts_text text) (one_facts text words n x.list y.list x.are y.are) ∙ sym y.is)

one_told : (text : List ℕ) (words : List (List ℕ)) (n : ℕ) (old new other : SinkView)
    → ShowsAll (Facts n words) text old new 0 → ShowsAll (Facts n words) text old other 0 → SameLeft old new other
one_told text words n old new other h k =
    let same : h.output ≡ k.output = one_text text words n old new old other (Ok tt) (Ok tt) h k in
    let P : List ℕ → Type 0 = λ out. GoesOut old other out 0 in
    same_left old new other h.output (h.printed).printed (subst P (sym same) (k.printed).printed)

-- ---- what the bytes say

-- what begins with some bytes has some
some_front : (xs ys : List ℕ) → 0 < length xs → 0 < length (xs ++ ys)
some_front xs ys h = omega (arith, length-append xs ys, h)

has_byte : (text : List ℕ) (f : Fact) → 0 < length (fact_text text f)
has_byte text (fact.On p e) = some_front (codes "on ") (point_text text p e ++ codes "\n") (omega arith)
has_byte text (fact.Has p e v) = some_front (codes "has ") (point_value_text text p e v) (omega arith)
has_byte text (fact.Shape s) = some_front (codes "shape ") (shape_text text s) (omega arith)
has_byte text (fact.Put p) = some_front (codes "put ") (put_text text p) (omega arith)
has_byte text (fact.Ask a) = some_front (codes "ask ") (ask_text text a) (omega arith)

-- of these two lists the first has no more bytes, and as many only where they are one
record IsPartOf (text : List ℕ) (fs gs : List Fact) : Type 0 where
  few : length (facts_text text fs) ≤ length (facts_text text gs)
  all : length (facts_text text fs) ≡ length (facts_text text gs) → fs ≡ gs

module _ (text : List ℕ) where
  longer : (f : Fact) (fs : List Fact) → length (facts_text text fs) < length (facts_text text (f ∷ fs))
  longer f fs = omega (arith, length-append (fact_text text f) (facts_text text fs), has_byte text f)

  -- so it is with lists that rise, where each of the first is among the second
  part_of : (gs fs : List Fact) → Rises FactBefore fs → Rises FactBefore gs → ((f : Fact) → Among f fs → Among f gs)
      → IsPartOf text fs gs
  part_of [] [] up high to = record { few = omega arith; all = λ e. refl }
  part_of [] (f ∷ fs) up high to = absurd (to f (inl refl))
  part_of (g ∷ gs) [] up high to = record { few = omega arith; all = λ e. absurd (omega (arith, e, longer g gs)) }
  part_of (g ∷ gs) (f ∷ fs) up high to =
      by (to f (inl refl))
      (λ e. part_of gs fs (rest_rises FactBefore fact_strict f fs up) (rest_rises FactBefore fact_strict g gs high)
      (λ z l. behind FactBefore fact_strict f g fs gs e up z l (to z (inr l))))
      (λ h. part_of gs (f ∷ fs) up (rest_rises FactBefore fact_strict g gs high) (λ z l. all_behind h z l (to z l)))
    where
      at_first : f ≡ g → IsPartOf text fs gs → IsPartOf text (f ∷ fs) (g ∷ gs)
      at_first same rest =
          let one : length (fact_text text f) ≡ length (fact_text text g) =
          ap (λ x. length (fact_text text x)) same in record {
            few = omega (
              arith,
              one,
              rest.few,
              length-append (fact_text text f) (facts_text text fs),
              length-append (fact_text text g) (facts_text text gs),
            );
            all = λ e.
                let left =
                rest.all (omega (
                  arith,
                  one,
                  e,
                  length-append (fact_text text f) (facts_text text fs),
                  length-append (fact_text text g) (facts_text text gs),
                )) in
                λ i. same i ∷ left i;
          }

      past_first : IsPartOf text (f ∷ fs) gs → IsPartOf text (f ∷ fs) (g ∷ gs)
      past_first rest = record {
        few = omega (arith, rest.few, longer g gs);
        all = λ e. absurd (omega (arith, rest.few, longer g gs, e));
      }

      -- the first of the second is before that of the first, and so is none of it
      not_here : Among f gs → (z : Fact) → Among z (f ∷ fs) → z ≡ g → ⊥
      not_here h z (inl e) d =
          let P : Fact → Type 0 = λ x. FactBefore g x in
          fact_strict.not_itself g (subst P (sym e ∙ d) (first_before FactBefore fact_strict g gs high f h))
      not_here h z (inr l) d =
          let P : Fact → Type 0 = λ x. FactBefore f x in
          let back : FactBefore f g = subst P d (first_before FactBefore fact_strict f fs up z l) in
          fact_strict.not_itself g (fact_strict.trans g f g (first_before FactBefore fact_strict g gs high f h) back)

      all_behind : Among f gs → (z : Fact) → Among z (f ∷ fs) → (z ≡ g) ⊎ Among z gs → Among z gs
      all_behind h z l (inl e) = absurd (not_here h z l e)
      all_behind h z l (inr k) = k

      by : (f ≡ g) ⊎ Among f gs → (f ≡ g → IsPartOf text fs gs) → (Among f gs → IsPartOf text (f ∷ fs) gs)
          → IsPartOf text (f ∷ fs) (g ∷ gs)
      by (inl e) one other = at_first e (one e)
      by (inr h) one other = past_first (other h)

same_facts : (S : Source) (text : List ℕ) (n m : ℕ) (fs gs : List Fact) → n ≤ m → AreFacts S n fs → AreFacts S m gs
    → facts_text text fs ≡ facts_text text gs → fs ≡ gs
same_facts S text n m fs gs low h k e =
    (part_of text gs fs (FactsRise-Rises fs h.rise) (FactsRise-Rises gs k.rise)
    (λ f l. k.all f (later S n m f low (h.only f l)))).all (ap length e)

-- whichever of the two comes first
same_round : (S : Source) (text : List ℕ) (n m : ℕ) (fs gs : List Fact) → AreFacts S n fs → AreFacts S m gs
    → facts_text text fs ≡ facts_text text gs → fs ≡ gs
same_round S text n m fs gs h k e = by (cases_lt m n)
  where
    by : (m < n) ⊎ (n ≤ m) → fs ≡ gs
    by (inl less) = sym (same_facts S text m n gs fs (omega (arith, less)) k h (sym e))
    by (inr most) = same_facts S text n m fs gs most h k e

read_back : (text : List ℕ) (words : List (List ℕ)) (n m : ℕ) (fs gs : List Fact) → AreFactsOf text words n fs
    → AreFactsOf text words m gs → facts_text text fs ≡ facts_text text gs → fs ≡ gs
read_back text words n m fs gs h k e =
    same_round (source h.program h.inputs) text n m fs gs h.are (there text words n m fs gs h k) e

-- a round to which the next one adds no bytes has all facts
pub all_facts : (text : List ℕ) (words : List (List ℕ)) (n : ℕ) (fs gs : List Fact) → (h : AreFactsOf text words n fs)
    → AreFactsOf text words (suc n) gs → facts_text text fs ≡ facts_text text gs
    → AreAllFacts (source h.program h.inputs) fs
all_facts text words n fs gs h k e =
    let S = source h.program h.inputs in
    let same : fs ≡ gs = read_back text words n (suc n) fs gs h k e in
    ended_facts S n fs h.are (subst (AreFacts S (suc n)) (sym same) (there text words n (suc n) fs gs h k))

-- ---- on any words

-- the things of a text's program stand in it
placed_in : (text : List ℕ) (P : Checked) → IsProgramOf text P → (q : ℕ) → HasPlace (tree P) q → q ≤ length text
placed_in text P h q p =
    StartsAt-within (length text) h.tokens (within h.lexes) q (Program-starts (h.accepts).derives q p)

-- words give one input for each parameter of `main`, each of which its text tells
given_inputs : (P : Checked) (words : List (List ℕ)) (vs : List Constant) → AreInputsOf P words vs → AreInputs P vs
given_inputs P words vs h =
    are-inputs P (wanted P) words vs refl (record { taken = h.all_taken; enough = h.enough; values = h.values })

given_many : (P : Checked) (words : List (List ℕ)) (vs : List Constant) → AreInputsOf P words vs
    → length vs ≡ length (main_params P)
given_many P words vs h = h.enough ∙ length-map (main_params P) (λ b. wanted_of P (at (rows P) b).node)

given_told : (text : List ℕ) (P : Checked) (words : List (List ℕ)) (vs : List Constant) → AreInputsOf P words vs
    → AreTold (source P vs) text
given_told text P words vs h b (constant.Int n) i =
    whole_told n ((are_whole (source P vs) (given_inputs P words vs h)).inputs b (constant.Int n) i)
given_told text P words vs h b (constant.Bool c) i = tt

-- round 0 has no facts, and what has no bytes neither
none_first : (S : Source) (fs : List Fact) → AreFacts S 0 fs → fs ≡ []
none_first S [] h = refl
none_first S (f ∷ fs) h = absurd (h.only f (inl refl))

no_bytes : (text : List ℕ) (fs : List Fact) → facts_text text fs ≡ [] → fs ≡ []
no_bytes text [] e = refl
no_bytes text (f ∷ fs) e = absurd (omega (arith, ap length e, longer text f fs))

-- past round 0 the bytes tell the inputs, and so they are those of one source
read_any : (text : List ℕ) (P : Checked) (words other : List (List ℕ)) (vs us : List Constant) (n m : ℕ)
    (fs gs : List Fact) → length text < 2 ^ 64 → IsProgramOf text P → AreInputsOf P words vs → AreInputsOf P other us
    → AreFacts (source P vs) n fs → AreFacts (source P us) m gs
    → facts_text text fs ≡ facts_text text gs → fs ≡ gs
read_any text P words other vs us zero m fs gs small is given also h k e =
    let none : fs ≡ [] = none_first (source P vs) fs h in
    none ∙ sym (no_bytes text gs (sym e ∙ ap (facts_text text) none))
read_any text P words other vs us (suc n) zero fs gs small is given also h k e =
    let none : gs ≡ [] = none_first (source P us) gs k in
    no_bytes text fs (e ∙ ap (facts_text text) none) ∙ sym none
read_any text P words other vs us (suc n) (suc m) fs gs small is given also h k e =
    let one : vs ≡ us =
    inputs_told text small P (placed_in text P is) vs us n m fs gs h k e (given_told text P words vs given)
    (given_told text P other us also) (given_many P words vs given) (given_many P other us also) in
    same_round (source P us) text (suc n) (suc m) fs gs (subst (λ ws. AreFacts (source P ws) (suc n) fs) one h) k e

any_words : (text : List ℕ) (words other : List (List ℕ)) (n m : ℕ) (fs gs : List Fact) → length text < 2 ^ 64
    → AreFactsOf text words n fs → AreFactsOf text other m gs → facts_text text fs ≡ facts_text text gs → fs ≡ gs
any_words text words other n m fs gs small h k e =
    let P = h.program in
    let also : AreInputsOf P other k.inputs =
    inputs_to k.program P (AreAlike-text text k.program P k.is_program h.is_program) other k.inputs k.are_inputs in
    read_any text P words other h.inputs k.inputs n m fs gs small h.is_program h.are_inputs also h.are
    (facts_there text other P k.inputs h.is_program also m gs k) e

-- ---- line by line

-- the loops of a text's program stand at its `{`
loops_in : (text : List ℕ) (P : Checked) → IsProgramOf text P → (q : ℕ) → IsLoopAt P q → has_brace text q ≡ true
loops_in text P h q l =
    let B : ℕ → Type 0 = λ x. has_brace text x ≡ true in
    let tree_is : Loops B (tree P) = Program-loops B (h.accepts).derives (braces_there text h.tokens h.lexes) in
    let R : List Row → Type 0 = λ r. (i : ℕ) → i < length r → is_loop (at r i).node ≡ true → B (at r i).place in
    let rows_are : R (rows P) = subst R (sym P.tabled) (loop_rows B (tree P) tree_is) in
    subst B l.here (rows_are l.row (l.stands).within (ap is_loop (l.stands).node))

-- the facts of a round are told
pub facts_are_told : (text : List ℕ) (words : List (List ℕ)) (n : ℕ) (fs : List Fact) → n < 2 ^ 64
    → AreFactsOf text words n fs → (f : Fact) → Among f fs → FactIsTold text f
facts_are_told text words n fs few h f a =
    let S = source h.program h.inputs in
    let are : AreWhole S = are_whole S (given_inputs h.program words h.inputs h.are_inputs) in
    round_told text S n few (placed_in text h.program h.is_program) (loops_in text h.program h.is_program)
    (λ p e i x. wholes S are x) f ((h.are).only f a)

-- so each line tells its fact
one_line : (text : List ℕ) (words other : List (List ℕ)) (n m : ℕ) (fs gs : List Fact) (f g : Fact)
    → length text < 2 ^ 64 → n < 2 ^ 64 → m < 2 ^ 64 → AreFactsOf text words n fs → AreFactsOf text other m gs
    → Among f fs → Among g gs → fact_text text f ≡ fact_text text g → f ≡ g
one_line text words other n m fs gs f g small few less h k a b e =
    fact_told text small f g (facts_are_told text words n fs few h f a) (facts_are_told text other m gs less k g b) e

pub OneRound-text : OneRound
OneRound-text = record {
  listed = round_text;
  facts = one_facts;
  bytes = one_text;
  told = one_told;
  read = read_back;
  any_words = any_words;
  line = one_line;
  ended = all_facts;
}
