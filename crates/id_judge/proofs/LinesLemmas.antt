-- The lines of events, and what stands behind their spaces.
use Rattle.std.proofs.Common.{◌≡◌, ℕ, zero, suc, ◌/◌, ◌%◌, ◌==◌, Bool, true, false, cond, List, [], ◌∷◌, ◌++◌, refl}
use Rattle.std.proofs.Common.{sym, ap, ◌∙◌, arith, append_assoc}
use Rattle.std.specs.Prelude.{◌||◌, codes, decimal}
use Rattle.std.proofs.lemmas.Bool.Decides.{nat_tests}
use Rattle.std.specs.Fmt.{digits_onto, digit_glyph, digits}
use Rattle.std.proofs.lemmas.List.{append-nil}
use Rattle.id_record.specs.declared.step.Step.{Step}
use Rattle.id_record.specs.declared.step.Step.TheVariants.{Went, Fault, Stuck}
use Rattle.id_core.specs.Events.{EventView}
use Rattle.id_trace.specs.Traces.{end_text, line_text, payload_text, trace_text}
use Rattle.id_judge.specs.Lines.{BeginsAt, Says, behind}

-- the byte ends a word: a space, or a line feed
abbrev pub is_gap : ℕ → Bool
is_gap b = (b == 32) || (b == 10)

-- no byte ends a word
abbrev pub IsWord : List ℕ → Type 0
IsWord [] = Unit {0}
IsWord (b ∷ bs) = (is_gap b ≡ false) × IsWord bs

no_space : (b : ℕ) → is_gap b ≡ false → (b == 32) ≡ false
no_space b w = grind (arith, nat_tests)

pub no_feed : (b : ℕ) → is_gap b ≡ false → (b == 10) ≡ false
no_feed b w = grind (arith, nat_tests)

-- what stands behind a word and a space
pub behind_word : (a rest : List ℕ) → IsWord a → behind (a ++ 32 ∷ rest) ≡ rest
behind_word [] rest w = refl
behind_word (b ∷ a) rest w =
    let more : List ℕ = a ++ 32 ∷ rest in
    ap (λ c. cond c more (cond (b == 10) [] (behind more))) (no_space b w.0)
    ∙ ap (λ c. cond c [] (behind more)) (no_feed b w.0)
    ∙ behind_word a rest w.1

-- digits are a word
glyph_no_space : (n : ℕ) → is_gap (digit_glyph false (n % 10)) ≡ false
glyph_no_space n = grind (arith, nat_tests)

either_word : (b : Bool) (xs ys : List ℕ) → IsWord xs → IsWord ys → IsWord (cond b xs ys)
either_word true xs ys v w = v
either_word false xs ys v w = w

onto_word : (k n : ℕ) (acc : List ℕ) → IsWord acc → IsWord (digits_onto k 10 false n acc)
onto_word zero n acc w = w
onto_word (suc k) n acc w =
    let more : IsWord (digit_glyph false (n % 10) ∷ acc) = (glyph_no_space n, w) in
    either_word (n / 10 == 0) (digit_glyph false (n % 10) ∷ acc)
    (digits_onto k 10 false (n / 10) (digit_glyph false (n % 10) ∷ acc)) more
    (onto_word k (n / 10) (digit_glyph false (n % 10) ∷ acc) more)

pub decimal_word : (n : ℕ) → IsWord (decimal n)
unfolding digits
decimal_word n = onto_word 64 n [] tt

-- the words of a line
words : (a b p e rest : List ℕ) → (((a ++ 32 ∷ b) ++ 32 ∷ p) ++ e) ++ rest ≡ a ++ 32 ∷ (b ++ 32 ∷ (p ++ (e ++ rest)))
words a b p e rest =
    append_assoc ((a ++ 32 ∷ b) ++ 32 ∷ p) e rest ∙ append_assoc (a ++ 32 ∷ b) (32 ∷ p) (e ++ rest)
    ∙ append_assoc a (32 ∷ b) (32 ∷ (p ++ (e ++ rest)))

-- what the line of an event says
module _ (v : EventView) (text rest : List ℕ) (is : text ≡ line_text v ++ rest) where
  abbrev pub body : List ℕ
  body = payload_text v.message.payload ++ (end_text v.step ++ rest)

  by_words : text ≡ decimal v.stamp ++ 32 ∷ (decimal v.element ++ 32 ∷ body)
  by_words = is ∙ words (decimal v.stamp) (decimal v.element) (payload_text v.message.payload) (end_text v.step) rest

  pub behind_stamp : behind text ≡ decimal v.element ++ 32 ∷ body
  behind_stamp = ap behind by_words ∙ behind_word (decimal v.stamp) _ (decimal_word v.stamp)

  pub behind_element : behind (behind text) ≡ body
  behind_element = ap behind behind_stamp ∙ behind_word (decimal v.element) body (decimal_word v.element)

  pub line_says : Says text v.message v.step
  line_says =
      record {
        rest = rest;
        is =
            behind_element ∙ sym (append_assoc (payload_text v.message.payload) (end_text v.step) rest);
      }

  pub line_element : BeginsAt (behind text) v.element
  line_element = record { rest = body; is = behind_stamp ∙ sym (append_assoc (decimal v.element) (codes " ") body) }

  pub line_stamp : BeginsAt text v.stamp
  line_stamp =
      record {
        rest = decimal v.element ++ 32 ∷ body;
        is =
            by_words ∙ sym (append_assoc (decimal v.stamp) (codes " ") _);
      }

-- and what says all of it is the line
pub is_line : (v : EventView) (text rest : List ℕ) → BeginsAt text v.stamp → BeginsAt (behind text) v.element
    → behind (behind text) ≡ payload_text v.message.payload ++ (end_text v.step ++ rest) → text ≡ line_text v ++ rest
is_line v text rest s e b =
    let first : text ≡ decimal v.stamp ++ 32 ∷ s.rest = s.is ∙ append_assoc (decimal v.stamp) (codes " ") s.rest in
    let second : behind text ≡ s.rest = ap behind first ∙ behind_word (decimal v.stamp) s.rest (decimal_word v.stamp) in
    let third : behind text ≡ decimal v.element ++ 32 ∷ e.rest =
    e.is ∙ append_assoc (decimal v.element) (codes " ") e.rest in
    let fourth : behind (behind text) ≡ e.rest =
    ap behind third ∙ behind_word (decimal v.element) e.rest (decimal_word v.element) in
    let inner : s.rest ≡ decimal v.element ++ 32 ∷ (payload_text v.message.payload ++ (end_text v.step ++ rest)) =
    sym second ∙ third ∙ ap (λ x. decimal v.element ++ 32 ∷ x) (sym fourth ∙ b) in
    first ∙ ap (λ x. decimal v.stamp ++ 32 ∷ x) inner
    ∙ sym (words (decimal v.stamp) (decimal v.element) (payload_text v.message.payload) (end_text v.step) rest)

-- two ends at one place are one
pub same_end_text : (a b : Step) (x y : List ℕ) → end_text a ++ x ≡ end_text b ++ y → end_text a ≡ end_text b
same_end_text Went Went x y h = refl
same_end_text Went (Fault f) x y h = cc
same_end_text Went Stuck x y h = cc
same_end_text (Fault f) Went x y h = cc
same_end_text (Fault f) (Fault g) x y h = refl
same_end_text (Fault f) Stuck x y h = cc
same_end_text Stuck Went x y h = cc
same_end_text Stuck (Fault f) x y h = cc
same_end_text Stuck Stuck x y h = refl

-- the trace of one event more
pub trace_more : (xs : List EventView) (v : EventView) → trace_text (xs ++ v ∷ []) ≡ trace_text xs ++ line_text v
trace_more [] v = append-nil (line_text v)
trace_more (x ∷ xs) v =
    ap (λ t. line_text x ++ t) (trace_more xs v) ∙ sym (append_assoc (line_text x) (trace_text xs) (line_text v))
