-- What enough of a text says, it says whatever stands behind it.
use Rattle.std.proofs.Common.{◌≡◌, ◌<◌, inl, inr, ℕ, Bool, true, false, cond, List, [], ◌∷◌, ◌++◌, length, refl, sym}
use Rattle.std.proofs.Common.{ap, ◌∙◌, subst, arith, append_assoc}
use Rattle.std.specs.Prelude.{IsFalse, codes, decimal}
use Rattle.std.proofs.lemmas.List.{length-append}
use Rattle.id_instr.specs.Graph.{Parts}
use Rattle.id_tag.specs.declared.Message.{Message}
use Rattle.id_tag.specs.Routes.{route_of}
use Rattle.id_record.specs.declared.step.Step.{Step}
use Rattle.id_core.specs.Steps.{State}
use Rattle.id_core.specs.Machines.{World}
use Rattle.id_trace.specs.Traces.{end_text, payload_text}
use Rattle.id_judge.specs.declared.verdict.Cause.{Cause}
use Rattle.id_judge.specs.declared.verdict.Cause.TheVariants.{NotInFlight, OtherElement, NoStamp, OtherStamp}
use Rattle.id_judge.specs.declared.verdict.Cause.TheVariants.{OtherOutcome, NoLine}
use Rattle.id_judge.specs.Ends.{IsEnough, has_end, is_line}
use Rattle.id_judge.specs.Judging.{cause_for}
use Rattle.id_judge.specs.Lines.{Begins, BeginsAt, IsLineCause, IsTold, Says, behind}
use Rattle.id_judge.proofs.LinesLemmas.{decimal_word}
use Rattle.id_judge.proofs.EndsLemmas.{IsBehind, IsPlain, behind_more, front_of, line_has_end, line_more, plain_append}
use Rattle.id_judge.proofs.EndsLemmas.{plain_word, whole_of}
use Rattle.id_judge.proofs.FrontLemmas.{said_is, said_plain, said_word}

no_front : {A : Type 0} (front rest : List ℕ) → 0 < length front → [] ≡ front ++ rest → A
no_front front rest some none = absurd (omega (arith, some, length-append front rest, ap length none))

-- a front that is not empty stands at the front of both
front_up : (x y more front : List ℕ) → IsBehind x y more → 0 < length front → Begins x front → Begins y front
front_up x y more front (inl h) some b =
    record { rest = b.rest ++ more; is = h.0 ∙ ap (λ t. t ++ more) b.is ∙ append_assoc front b.rest more }
front_up x y more front (inr h) some b = no_front front b.rest some (sym h.0 ∙ b.is)

front_down : (x y more front : List ℕ) → IsBehind x y more → 0 < length front → IsPlain front → Begins y front
    → Begins x front
front_down x y more front (inl h) some plain b =
    let r = front_of front x more b.rest plain h.1 (sym h.0 ∙ b.is) in record { rest = r.0; is = r.1 }
front_down x y more front (inr h) some plain b = no_front front b.rest some (sym h.1 ∙ b.is)

whole_down : (x y more front : List ℕ) → IsBehind x y more → IsPlain front → Begins y (front ++ 10 ∷ [])
    → Begins x (front ++ 10 ∷ [])
whole_down x y more front (inl h) plain b =
    let r = whole_of front x more b.rest plain h.1 (sym h.0 ∙ b.is ∙ append_assoc front (10 ∷ []) b.rest) in
    record { rest = r.0; is = r.1 }
whole_down x y more front (inr h) plain b =
    no_front (front ++ 10 ∷ []) b.rest (omega (arith, length-append front (10 ∷ []))) (sym h.1 ∙ b.is)

-- a number and a space
at_plain : (n : ℕ) → IsPlain (decimal n ++ codes " ")
at_plain n = plain_append (decimal n) (codes " ") (plain_word (decimal n) (decimal_word n)) (refl, tt)

at_some : (n : ℕ) → 0 < length (decimal n ++ codes " ")
at_some n = omega (arith, length-append (decimal n) (codes " "))

module _ (text more : List ℕ) (e : has_end text ≡ true) where
  longer : List ℕ
  longer = text ++ more

  second : IsBehind (behind text) (behind (text ++ more)) more
  second = behind_more text more e

  body_by : IsBehind (behind text) (behind (text ++ more)) more
      → IsBehind (behind (behind text)) (behind (behind (text ++ more))) more
  body_by (inl h) =
      subst (λ t. IsBehind (behind (behind text)) (behind t) more) (sym h.0) (behind_more (behind text) more h.1)
  body_by (inr h) = inr (ap behind h.0, ap behind h.1)

  body : IsBehind (behind (behind text)) (behind (behind (text ++ more))) more
  body = body_by second

  said_some : (m : Message) (step : Step) → 0 < length (payload_text m.payload ++ end_text step)
  said_some m step =
      omega (arith, ap length (said_is m.payload step), length-append (said_word m.payload step) (10 ∷ []))

  says_up : (m : Message) (step : Step) → Says text m step → Says (text ++ more) m step
  says_up m step s =
      front_up (behind (behind text)) (behind (behind (text ++ more))) more (payload_text m.payload ++ end_text step)
      body (said_some m step) s

  says_down : (m : Message) (step : Step) → Says (text ++ more) m step → Says text m step
  says_down m step s =
      let b : Begins (behind (behind (text ++ more))) (said_word m.payload step ++ 10 ∷ []) =
      subst (λ t. Begins (behind (behind (text ++ more))) t) (said_is m.payload step) s in
      subst (λ t. Begins (behind (behind text)) t) (sym (said_is m.payload step))
      (whole_down (behind (behind text)) (behind (behind (text ++ more))) more (said_word m.payload step) body
      (said_plain m.payload step) b)

  at_up : (n : ℕ) → BeginsAt text n → BeginsAt (text ++ more) n
  at_up n b = front_up text (text ++ more) more (decimal n ++ codes " ") (inl (refl, e)) (at_some n) b

  at_down : (n : ℕ) → BeginsAt (text ++ more) n → BeginsAt text n
  at_down n b = front_down text (text ++ more) more (decimal n ++ codes " ") (inl (refl, e)) (at_some n) (at_plain n) b

  own_up : (n : ℕ) → BeginsAt (behind text) n → BeginsAt (behind (text ++ more)) n
  own_up n b = front_up (behind text) (behind (text ++ more)) more (decimal n ++ codes " ") second (at_some n) b

  own_down : (n : ℕ) → BeginsAt (behind (text ++ more)) n → BeginsAt (behind text) n
  own_down n b =
      front_down (behind text) (behind (text ++ more)) more (decimal n ++ codes " ") second (at_some n) (at_plain n) b

  told_up : (count : ℕ) (w : World) (m : Message) (step : Step) (s : State) → IsTold count w text m step s
      → IsTold count w (text ++ more) m step s
  told_up count w m step s t = record {
    flying = t.flying;
    says = says_up m step t.says;
    element = t.element;
    own = own_up (route_of m.payload count) t.own;
  }

  -- a cause for the first line of a text that has a line feed is one whatever stands behind it
  cause_up : (g : Parts) (count : ℕ) (w : World) (cause : Cause) → is_line (text ++ more) ≡ is_line text
      → IsLineCause g count w text cause → IsLineCause g count w (text ++ more) cause
  cause_up g count w NotInFlight same why = λ m step flying says. why m step flying (says_down m step says)
  cause_up g count w OtherElement same why =
      (why.0, why.1, why.2, says_up why.0 why.1 why.3, λ b. why.4 (own_down (route_of why.0.payload count) b))
  cause_up g count w NoStamp same why = (why.0, why.1, why.2, told_up count w why.0 why.1 why.2 why.3, why.4)
  cause_up g count w OtherStamp same why =
      (why.0, why.1, why.2, told_up count w why.0 why.1 why.2 why.3, why.4, λ b. why.5 (at_down _ b))
  cause_up g count w OtherOutcome same why =
      (why.0, why.1, why.2, told_up count w why.0 why.1 why.2 why.3, why.4, at_up _ why.5, why.6)
  cause_up g count w NoLine same why = same ∙ why

false_true : {A : Type 0} (b : Bool) → b ≡ true → b ≡ false → A
false_true b t f = absurd (let bad : true ≡ false = sym t ∙ f in cc)

-- what a judge tells of the first line of a text
pub record IsToldCause (g : Parts) (count : ℕ) (w : World) (text : List ℕ) (cause : Cause) : Type 0 where
  pub why : IsLineCause g count w text cause
  pub line : IsFalse (is_line text) → cause ≡ NoLine

-- it is enough of the text
pub cause_told : (g : Parts) (count : ℕ) (w : World) (text more : List ℕ) (cause : Cause) → IsEnough text more
    → IsLineCause g count w text cause → IsToldCause g count w (text ++ more) (cause_for text cause)
cause_told g count w text more cause enough why =
    let same : is_line (text ++ more) ≡ is_line text = line_more text more enough in
    by (is_line text) refl same
  where
    Goal : Bool → Type 0
    Goal b = IsToldCause g count w (text ++ more) (cond b cause NoLine)

    by : (b : Bool) → is_line text ≡ b → is_line (text ++ more) ≡ is_line text → Goal b
    by true is same = record {
      why = cause_up text more (line_has_end text is) g count w cause same why;
      line = λ none. false_true (is_line (text ++ more)) (same ∙ is) none;
    }
    by false is same = record { why = same ∙ is; line = λ none. refl }
