-- The first line of a text, with what stands behind the text and without.
use Rattle.std.proofs.Common.{◌≡◌, ◌≤◌, ◌<◌, ◌⊎◌, inl, inr, ℕ, zero, suc, ◌+◌, ◌/◌, ◌%◌, ◌==◌, Bool, true, false, cond}
use Rattle.std.proofs.Common.{List, [], ◌∷◌, ◌++◌, ◌-◌, length, take, drop, refl, sym, ap, ◌∙◌, arith}
use Rattle.std.specs.Prelude.{◌&&◌, ◌||◌, nat_le, decimal}
use Rattle.std.proofs.lemmas.List.{append-nil, length-append, take_all, take-append-drop, take-append-le}
use Rattle.std.proofs.Math.Seq.{take-append-add}
use Rattle.std.proofs.lemmas.Bool.{false≢true}
use Rattle.std.proofs.lemmas.Bool.Decides.{nat_tests}
use Rattle.std.specs.Fmt.{digits_onto, digit_glyph, digits}
use Rattle.id_judge.specs.Ends.{begin_with_digit, has_end, is_line, IsEnough, IsOfLines}
use Rattle.id_judge.specs.Lines.{behind}
use Rattle.id_judge.proofs.LinesLemmas.{IsWord, no_feed}

-- no byte is a line feed
abbrev pub IsPlain : List ℕ → Type 0
IsPlain [] = Unit {0}
IsPlain (b ∷ bs) = ((b == 10) ≡ false) × IsPlain bs

pub plain_word : (a : List ℕ) → IsWord a → IsPlain a
plain_word [] w = tt
plain_word (b ∷ a) w = (no_feed b w.0, plain_word a w.1)

pub plain_append : (a b : List ℕ) → IsPlain a → IsPlain b → IsPlain (a ++ b)
plain_append [] b v w = w
plain_append (x ∷ a) b v w = (v.0, plain_append a b v.1 w)

-- ---- what a front of a text tells

-- the text begins with this front
abbrev Fronts : List ℕ → List ℕ → Type 0
Fronts text front = (rest : List ℕ) × (text ≡ front ++ rest)

end_none : has_end [] ≡ true → ⊥
end_none e = false≢true e

end_past : (b : ℕ) (bs : List ℕ) → (b == 10) ≡ false → has_end (b ∷ bs) ≡ true → has_end bs ≡ true
end_past b bs n e = sym (ap (λ c. c || has_end bs) n) ∙ e

-- a front without a line feed is one of a text that has one, too
pub front_of : (front text more rest : List ℕ) → IsPlain front → has_end text ≡ true → text ++ more ≡ front ++ rest
    → Fronts text front
front_of [] text more rest p e is = (text, refl)
front_of (c ∷ front) [] more rest p e is = absurd (end_none e)
front_of (c ∷ front) (b ∷ text) more rest p e is =
    let here : b ≡ c = cc in
    let tails : text ++ more ≡ front ++ rest = cc in
    let r = front_of front text more rest p.1 (end_past b text (ap (λ x. x == 10) here ∙ p.0) e) tails in
    (r.0, λ i. here i ∷ r.1 i)

-- and one with a line feed behind it
pub whole_of : (front text more rest : List ℕ) → IsPlain front → has_end text ≡ true → text ++ more ≡ front ++ 10 ∷ rest
    → Fronts text (front ++ 10 ∷ [])
whole_of [] [] more rest p e is = absurd (end_none e)
whole_of [] (b ∷ text) more rest p e is = let here : b ≡ 10 = cc in (text, λ i. here i ∷ text)
whole_of (c ∷ front) [] more rest p e is = absurd (end_none e)
whole_of (c ∷ front) (b ∷ text) more rest p e is =
    let here : b ≡ c = cc in
    let tails : text ++ more ≡ front ++ 10 ∷ rest = cc in
    let r = whole_of front text more rest p.1 (end_past b text (ap (λ x. x == 10) here ∙ p.0) e) tails in
    (r.0, λ i. here i ∷ r.1 i)

-- what stands behind the first space of a text that has a line feed, where more follows the text
abbrev pub IsBehind : List ℕ → List ℕ → List ℕ → Type 0
IsBehind text longer more = ((longer ≡ text ++ more) × (has_end text ≡ true)) ⊎ ((text ≡ []) × (longer ≡ []))

behind_by : (b : ℕ) (text more : List ℕ) → has_end (b ∷ text) ≡ true
    → ((b == 10) ≡ false → IsBehind (behind text) (behind (text ++ more)) more) → (s f : Bool) → (b == 32) ≡ s
    → (b == 10) ≡ f
    → IsBehind (cond s text (cond f [] (behind text))) (cond s (text ++ more) (cond f [] (behind (text ++ more)))) more
behind_by b text more e later true true is at = absurd (grind (arith, nat_tests))
behind_by b text more e later true false is at = inl (refl, end_past b text at e)
behind_by b text more e later false true is at = inr (refl, refl)
behind_by b text more e later false false is at = later at

pub behind_more : (text more : List ℕ) → has_end text ≡ true → IsBehind (behind text) (behind (text ++ more)) more
behind_more [] more e = absurd (end_none e)
behind_more (b ∷ text) more e =
    behind_by b text more e (λ at. behind_more text more (end_past b text at e)) (b == 32) (b == 10) refl refl

-- ---- line feeds

pub end_append : (a b : List ℕ) → has_end (a ++ b) ≡ (has_end a || has_end b)
end_append [] b = refl
end_append (x ∷ a) b = ap (λ c. (x == 10) || c) (end_append a b) ∙ sym (or_assoc (x == 10) (has_end a) (has_end b))
  where
    or_assoc : (p q r : Bool) → ((p || q) || r) ≡ (p || (q || r))
    or_assoc true q r = refl
    or_assoc false q r = refl

or_true : (p q : Bool) → p ≡ true → (p || q) ≡ true
or_true true q e = refl
or_true false q e = absurd (false≢true e)

-- a line feed of a front of the text is in its first bytes, where those are as many
pub end_within : (n : ℕ) (text more : List ℕ) → length text ≤ n → has_end text ≡ true
    → has_end (take n (text ++ more)) ≡ true
end_within n text more short e =
    let k : n ≡ length text + (n - length text) = omega arith in
    ap (λ j. has_end (take j (text ++ more))) k ∙ ap has_end (take-append-add text more (n - length text))
    ∙ end_append text (take (n - length text) more) ∙ or_true (has_end text) _ e

-- a text without a line feed has none in its first bytes
pub no_end_within : (n : ℕ) (text : List ℕ) → has_end text ≡ false → has_end (take n text) ≡ false
no_end_within n text e =
    either (has_end (take n text)) refl
  where
    either : (b : Bool) → has_end (take n text) ≡ b → has_end (take n text) ≡ false
    either false is = is
    either true is =
        absurd (false≢true (sym e ∙ ap has_end (sym (take-append-drop n text)) ∙ end_append (take n text) (drop n text)
        ∙ or_true (has_end (take n text)) _ is))

-- ---- first lines

pub begin_append : (text more : List ℕ) → begin_with_digit text ≡ true → begin_with_digit (text ++ more) ≡ true
begin_append [] more e = absurd (false≢true e)
begin_append (b ∷ text) more e = e

begin_same : (text more : List ℕ) → 0 < length text → begin_with_digit (text ++ more) ≡ begin_with_digit text
begin_same [] more some = absurd (omega (arith, some))
begin_same (b ∷ text) more some = refl

some_end : (text : List ℕ) → has_end text ≡ true → 0 < length text
some_end [] e = absurd (end_none e)
some_end (b ∷ text) e = omega arith

-- whether the first line may be that of an event is told by enough of the text
pub line_more : (text more : List ℕ) → IsEnough text more → is_line (text ++ more) ≡ is_line text
line_more text more (inl none) = ap is_line (ap (λ x. text ++ x) none ∙ append-nil text)
line_more text more (inr (inl e)) = by (nat_le 4096 (length text)) refl
  where
    by : (b : Bool) → nat_le 4096 (length text) ≡ b → is_line (text ++ more) ≡ is_line text
    by true is =
        let long : 4096 ≤ length text = grind (arith, nat_tests) in
        λ i. begin_same text more (some_end text e) i && has_end (take-append-le 4096 text more long i)
    by false is =
        let short : length text ≤ 4096 = grind (arith, nat_tests) in
        let whole : has_end (take 4096 text) ≡ true = ap has_end (take_all 4096 text short) ∙ e in
        λ i. begin_same text more (some_end text e) i && (end_within 4096 text more short e ∙ sym whole) i
line_more text more (inr (inr long)) =
    λ i. begin_same text more (omega (arith, long)) i && has_end (take-append-le 4096 text more long i)

no_and : (b c : Bool) → c ≡ false → (b && c) ≡ false
no_and true c e = e
no_and false c e = refl

-- a text without a line feed, of which there is enough, begins with no line of an event
pub no_line : (text more : List ℕ) → has_end text ≡ false → IsEnough text more → is_line (text ++ more) ≡ false
no_line text more none enough =
    line_more text more enough ∙ no_and (begin_with_digit text) _ (no_end_within 4096 text none)

and_both : (b c : Bool) → b ≡ true → c ≡ true → (b && c) ≡ true
and_both true c e f = f
and_both false c e f = absurd (false≢true e)

-- a short line that a digit opens, whatever stands behind it
pub line_is : (line tail : List ℕ) → begin_with_digit line ≡ true → has_end line ≡ true → length line ≤ 4096
    → is_line (line ++ tail) ≡ true
line_is line tail digit e short =
    and_both (begin_with_digit (line ++ tail)) _ (begin_append line tail digit) (end_within 4096 line tail short e)

pub line_has_end : (text : List ℕ) → is_line text ≡ true → has_end text ≡ true
line_has_end text is = by (has_end text) refl
  where
    by : (b : Bool) → has_end text ≡ b → has_end text ≡ true
    by true e = e
    by false e = absurd (false≢true (sym (no_and (begin_with_digit text) _ (no_end_within 4096 text e)) ∙ is))

-- ---- numbers

glyph_digit : (n : ℕ) → begin_with_digit (digit_glyph false (n % 10) ∷ []) ≡ true
glyph_digit n = grind (arith, nat_tests)

onto_begin : (k n c : ℕ) (acc : List ℕ) → begin_with_digit (c ∷ []) ≡ true
    → begin_with_digit (digits_onto k 10 false n (c ∷ acc)) ≡ true
onto_begin zero n c acc e = e
onto_begin (suc k) n c acc e =
    by (n / 10 == 0) (onto_begin k (n / 10) (digit_glyph false (n % 10)) (c ∷ acc) (glyph_digit n))
  where
    by : (b : Bool) → begin_with_digit (digits_onto k 10 false (n / 10) (digit_glyph false (n % 10) ∷ (c ∷ acc))) ≡ true
        → begin_with_digit
        (cond b (digit_glyph false (n % 10) ∷ (c ∷ acc))
        (digits_onto k 10 false (n / 10) (digit_glyph false (n % 10) ∷ (c ∷ acc)))) ≡ true
    by true h = glyph_digit n
    by false h = h

pub decimal_begin : (n : ℕ) → begin_with_digit (decimal n) ≡ true
unfolding digits
decimal_begin n = by (n / 10 == 0) (onto_begin 63 (n / 10) (digit_glyph false (n % 10)) [] (glyph_digit n))
  where
    by : (b : Bool) → begin_with_digit (digits_onto 63 10 false (n / 10) (digit_glyph false (n % 10) ∷ [])) ≡ true
        → begin_with_digit
        (cond b (digit_glyph false (n % 10) ∷ []) (digits_onto 63 10 false (n / 10) (digit_glyph false (n % 10) ∷ [])))
        ≡ true
    by true h = glyph_digit n
    by false h = h

onto_short : (k n : ℕ) (acc : List ℕ) → length (digits_onto k 10 false n acc) ≤ k + length acc
onto_short zero n acc = omega arith
onto_short (suc k) n acc =
    by (n / 10 == 0) (onto_short k (n / 10) (digit_glyph false (n % 10) ∷ acc))
  where
    by : (b : Bool)
        → length (digits_onto k 10 false (n / 10) (digit_glyph false (n % 10) ∷ acc)) ≤ k
        + length (digit_glyph false (n % 10) ∷ acc) → length (cond b (digit_glyph false (n % 10) ∷ acc)
        (digits_onto k 10 false (n / 10) (digit_glyph false (n % 10) ∷ acc))) ≤ suc k + length acc
    by true h = omega arith
    by false h = omega (arith, h)

-- a number has at most 64 digits
pub decimal_short : (n : ℕ) → length (decimal n) ≤ 64
unfolding digits
decimal_short n = omega (arith, onto_short 64 n [])

-- ---- texts that end with a line

pub rest_ends : (done rest body : List ℕ) → done ++ rest ≡ body ++ 10 ∷ [] → 0 < length rest → has_end rest ≡ true
rest_ends [] rest body is some =
    ap has_end is ∙ end_append body (10 ∷ []) ∙ or_last (has_end body)
  where
    or_last : (b : Bool) → (b || true) ≡ true
    or_last true = refl
    or_last false = refl
rest_ends (x ∷ done) rest [] is some =
    let none : done ++ rest ≡ [] = cc in
    absurd (omega (arith, some, length-append done rest, ap length none))
rest_ends (x ∷ done) rest (y ∷ body) is some =
    let tails : done ++ rest ≡ body ++ 10 ∷ [] = cc in rest_ends done rest body tails some

-- what is left of such a text is enough
pub rest_enough : (text done rest more : List ℕ) → text ≡ done ++ rest → 0 < length rest → IsOfLines text more
    → IsEnough rest more
rest_enough text done rest more parts some (inl none) = inl none
rest_enough text done rest more parts some (inr body) = inr (inl (rest_ends done rest body.0 (sym parts ∙ body.1) some))
