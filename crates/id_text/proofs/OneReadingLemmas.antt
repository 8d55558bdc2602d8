-- A text may be read in one way only.
use Rattle.std.proofs.Common.{◌≡◌, ◌≢◌, ℕ, ◌+◌, ◌<◌, ◌≤◌, ◌^◌, ◌⊎◌, Bool, true, false, cond, not, ◌||◌, List, [], ◌∷◌}
use Rattle.std.proofs.Common.{drop, length, Option, Some, None, Ok, Err, Vec, Global, pos, refl, sym, ap, ◌∙◌, subst}
use Rattle.std.proofs.Common.{inl, inr, arith}
use Rattle.std.specs.Prelude.{take_while, Result, MatchResult}
use Rattle.std.specs.List.{prefix_len}
use Rattle.std.specs.Char.{is_ascii_digit}
use Rattle.std.proofs.lemmas.Bool.Decides.{nat_tests}
use Rattle.id_text.specs.Bytes.{is_blank, is_percent, is_comment_byte, is_letter, is_name_byte, is_other, number_of, word_of, sign_of}
use Rattle.id_text.specs.Lexes.{Opens, HasSign, HasLongestSign, Begins, BeginsNothing, BeginsLarge, Lexes, Ending, IsRefusal, token_of}
use Rattle.id_text.specs.Lexes.Begins.{blank, comment, word, name, number, sign}
use Rattle.id_text.specs.Lexes.Ending.{Whole, Refused}
use Rattle.id_text.specs.Lexes.Lexes.{end, gap, token, too_large, bad_byte}
use Rattle.id_text.specs.declared.token.Keyword.{Keyword}
use Rattle.id_text.specs.declared.token.Symbol.{Symbol}
use Rattle.id_text.specs.declared.token.Token.{Token}
use Rattle.id_text.specs.declared.token.TokenKind.{TokenKind}
use Rattle.id_text.specs.declared.token.TokenKind.TheVariants.{Name, Number, Key, Sign}
use Rattle.id_text.specs.declared.token.TextError.TheVariants.{TooLong, BadByte, NumberTooLarge, Memory}
use Rattle.id_text.specs.declared.token.TextError.{TextError}
use Rattle.id_text.specs.declared.token.TheConstants.{MAX_BYTES}
use Rattle.id_text.proofs.SignsLemmas.{front_from_sign}
use Rattle.id_text.proofs.SpellingLemmas.{same_some, word_of_same, sign_of_same, is_other_sign}
use Rattle.id_text.proofs.LexesLemmas.{piece_within}

-- what a first byte may begin
data Class : Type 0 where
  Blank : Class
  Percent : Class
  Letter : Class
  Digit : Class
  Other : Class

abbrev class_of_byte : ℕ → Class
class_of_byte b = cond (is_blank b) Blank (cond (is_percent b) Percent (cond (is_letter b) Letter (cond (is_ascii_digit b) Digit Other)))

abbrev class_of : List ℕ → Class
class_of [] = Other
class_of (b ∷ rest) = class_of_byte b

class_blank : (text : List ℕ) → Opens is_blank text → class_of text ≡ Blank
class_blank [] opens = absurd opens
class_blank (b ∷ rest) opens = rw opens refl

class_percent : (text : List ℕ) → Opens is_percent text → class_of text ≡ Percent
class_percent [] opens = absurd opens
class_percent (b ∷ rest) opens =
    let no_blank : is_blank b ≡ false = grind (arith, nat_tests) in
    rw (no_blank, opens) refl

class_letter : (text : List ℕ) → Opens is_letter text → class_of text ≡ Letter
class_letter [] opens = absurd opens
class_letter (b ∷ rest) opens =
    let no_blank : is_blank b ≡ false = grind (arith, nat_tests) in
    let no_percent : is_percent b ≡ false = grind (arith, nat_tests) in
    rw (no_blank, no_percent, opens) refl

class_digit : (text : List ℕ) → Opens is_ascii_digit text → class_of text ≡ Digit
class_digit [] opens = absurd opens
class_digit (b ∷ rest) opens =
    let no_blank : is_blank b ≡ false = grind (arith, nat_tests) in
    let no_percent : is_percent b ≡ false = grind (arith, nat_tests) in
    let no_letter : is_letter b ≡ false = grind (arith, nat_tests) in
    rw (no_blank, no_percent, no_letter, opens) refl

false_from_not : (x : Bool) → not x ≡ true → x ≡ false
false_from_not true h = cc
false_from_not false h = refl

both_false : (x y : Bool) → (x || y) ≡ false → (x ≡ false) × (y ≡ false)
both_false true y h = cc
both_false false y h = (refl, h)

class_other : (text : List ℕ) → Opens is_other text → class_of text ≡ Other
class_other [] opens = absurd opens
class_other (b ∷ rest) opens =
    let no_piece = both_false (is_blank b || is_percent b) (is_name_byte b) (false_from_not ((is_blank b || is_percent b) || is_name_byte b) opens) in
    let no_gap = both_false (is_blank b) (is_percent b) no_piece.0 in
    let no_name = both_false (is_letter b) (is_ascii_digit b) no_piece.1 in
    rw (no_gap.0, no_gap.1, no_name.0, no_name.1) refl

class_sign : (text : List ℕ) (s : Symbol) → HasSign text s → class_of text ≡ Other
class_sign text s has = class_other text (subst (Opens is_other) (sym has.1) (is_other_sign s has.0))

-- the kind of a word: the reserved word that is spelled so, else a name
abbrev IsKindOfWord : List ℕ → Option TokenKind → Type 0
IsKindOfWord w k = ((r : Keyword) × (w ≡ word_of r) × (k ≡ Some (Key r))) ⊎ (((r : Keyword) → w ≢ word_of r) × (k ≡ Some (Name w)))

-- the piece that the first byte's class allows
abbrev Allows : Class → List ℕ → Option TokenKind → ℕ → Type 0
Allows Blank text k n = (k ≡ None) × (n ≡ 1)
Allows Percent text k n = (k ≡ None) × (n ≡ prefix_len is_comment_byte text)
Allows Letter text k n = IsKindOfWord (take_while is_name_byte text) k × (n ≡ prefix_len is_name_byte text)
Allows Digit text k n =
    (number_of (take_while is_ascii_digit text) < 2 ^ 63) × (k ≡ Some (Number (pos (number_of (take_while is_ascii_digit text))))) ×
    (n ≡ prefix_len is_ascii_digit text)
Allows Other text k n = (s : Symbol) × HasLongestSign text s × (k ≡ Some (Sign s)) × (n ≡ length (sign_of s))

allowed : {text : List ℕ} {k : Option TokenKind} {n : ℕ} → Begins text k n → Allows (class_of text) text k n
allowed (blank {text} opens) = rw (class_blank text opens) (refl, refl)
allowed (comment {text} opens) = rw (class_percent text opens) (refl, refl)
allowed (word {text} w opens spelled) = rw (class_letter text opens) (inl (w, spelled, refl), refl)
allowed (name {text} opens other) = rw (class_letter text opens) (inr (other, refl), refl)
allowed (number {text} opens fits) = rw (class_digit text opens) (fits, refl, refl)
allowed (sign {text} s longest) = rw (class_sign text s longest.stands) (s, longest, refl, refl)

-- two longest signs of one text are one
longest_same : (text : List ℕ) (s t : Symbol) → HasLongestSign text s → HasLongestSign text t → s ≡ t
longest_same text s t one other =
    let below = one.longest t other.stands in
    let above = other.longest s one.stands in
    let as_long : length (sign_of t) ≡ length (sign_of s) = omega arith in
    sign_of_same s t (front_from_sign (length (sign_of s)) text s (one.stands, refl) ∙
    sym (front_from_sign (length (sign_of s)) text t (other.stands, as_long)))

kind_of_word_one : (w : List ℕ) (k l : Option TokenKind) → IsKindOfWord w k → IsKindOfWord w l → k ≡ l
kind_of_word_one w k l (inl a) (inl b) = a.2 ∙ ap (λ r. Some (Key r)) (word_of_same a.0 b.0 (sym a.1 ∙ b.1)) ∙ sym b.2
kind_of_word_one w k l (inl a) (inr b) = absurd (b.0 a.0 a.1)
kind_of_word_one w k l (inr a) (inl b) = absurd (a.0 b.0 b.1)
kind_of_word_one w k l (inr a) (inr b) = a.1 ∙ sym b.1

-- what a class allows is one piece
allows_one : (c : Class) (text : List ℕ) (k l : Option TokenKind) (m n : ℕ) → Allows c text k m → Allows c text l n → (k ≡ l) × (m ≡ n)
allows_one Blank text k l m n a b = (a.0 ∙ sym b.0, a.1 ∙ sym b.1)
allows_one Percent text k l m n a b = (a.0 ∙ sym b.0, a.1 ∙ sym b.1)
allows_one Letter text k l m n a b = (kind_of_word_one (take_while is_name_byte text) k l a.0 b.0, a.1 ∙ sym b.1)
allows_one Digit text k l m n a b = (a.1 ∙ sym b.1, a.2 ∙ sym b.2)
allows_one Other text k l m n a b =
    let same = longest_same text a.0 b.0 a.1 b.1 in
    (a.2 ∙ ap (λ s. Some (Sign s)) same ∙ sym b.2, a.3 ∙ ap (λ s. length (sign_of s)) same ∙ sym b.3)

-- a text has one first piece
one_piece : (text : List ℕ) (k l : Option TokenKind) (m n : ℕ) → Begins text k m → Begins text l n → (k ≡ l) × (m ≡ n)
one_piece text k l m n a b = allows_one (class_of text) text k l m n (allowed a) (allowed b)

-- where a number is too large, no piece stands
large_no_piece : (text : List ℕ) (k : Option TokenKind) (n : ℕ) → BeginsLarge text → Begins text k n → ⊥
large_no_piece text k n large piece =
    let digits = subst (λ c. Allows c text k n) (class_digit text large.0) (allowed piece) in
    omega (arith, digits.0, large.1)

-- where nothing begins, no piece stands
nothing_no_piece : (text : List ℕ) (k : Option TokenKind) (n : ℕ) → BeginsNothing text → Begins text k n → ⊥
nothing_no_piece text k n nothing piece =
    let signs = subst (λ c. Allows c text k n) (class_other text nothing.0) (allowed piece) in
    nothing.1 signs.0 signs.1.stands

-- a number begins with no other byte
large_not_nothing : (text : List ℕ) → BeginsLarge text → BeginsNothing text → ⊥
large_not_nothing text large nothing =
    let same : Digit ≡ Other = sym (class_digit text large.0) ∙ class_other text nothing.0 in
    cc

-- an empty text has no piece
empty_no_piece : (k : Option TokenKind) (n : ℕ) → Begins [] k n → ⊥
empty_no_piece k n piece = let within = piece_within piece in omega arith

abbrev pub Same : List Token → Ending → List Token → Ending → Type 0
Same ts e us f = (ts ≡ us) × (e ≡ f)

pub one_reading : {at : ℕ} {text : List ℕ} {ts us : List Token} {e f : Ending} → Lexes at text ts e → Lexes at text us f → Same ts e us f
one_reading end end = (refl, refl)
one_reading end (gap n p r) = absurd (empty_no_piece None n p)
one_reading end (token k n p r) = absurd (empty_no_piece (Some k) n p)
one_reading end (too_large l) = absurd l.0
one_reading end (bad_byte b) = absurd b.0
one_reading (gap n p r) end = absurd (empty_no_piece None n p)
one_reading {at} {text} {ts} {us} {e} {f} (gap n p r) (gap m q s) =
    let same = one_piece text None None n m p q in
    one_reading r (subst (λ i. Lexes (at + i) (drop i text) us f) (sym same.1) s)
one_reading {at} {text} (gap n p r) (token k m q s) = let same = (one_piece text None (Some k) n m p q).0 in absurd cc
one_reading {at} {text} (gap n p r) (too_large l) = absurd (large_no_piece text None n l p)
one_reading {at} {text} (gap n p r) (bad_byte b) = absurd (nothing_no_piece text None n b p)
one_reading (token k n p r) end = absurd (empty_no_piece (Some k) n p)
one_reading {at} {text} (token k n p r) (gap m q s) = let same = (one_piece text (Some k) None n m p q).0 in absurd cc
one_reading {at} {text} {ts} {us} {e} {f} (token {ts = vs} k n p r) (token {ts = ws} l m q s) =
    let same = one_piece text (Some k) (Some l) n m p q in
    let kind = same_some k l same.0 in
    let rest = one_reading r (subst (λ i. Lexes (at + i) (drop i text) ws f) (sym same.1) s) in
    (λ i. token_of (kind i) at (at + same.1 i) ∷ rest.0 i, rest.1)
one_reading {at} {text} (token k n p r) (too_large l) = absurd (large_no_piece text (Some k) n l p)
one_reading {at} {text} (token k n p r) (bad_byte b) = absurd (nothing_no_piece text (Some k) n b p)
one_reading (too_large l) end = absurd l.0
one_reading {at} {text} (too_large l) (gap n p r) = absurd (large_no_piece text None n l p)
one_reading {at} {text} (too_large l) (token k n p r) = absurd (large_no_piece text (Some k) n l p)
one_reading (too_large l) (too_large m) = (refl, refl)
one_reading {at} {text} (too_large l) (bad_byte b) = absurd (large_not_nothing text l b)
one_reading (bad_byte b) end = absurd b.0
one_reading {at} {text} (bad_byte b) (gap n p r) = absurd (nothing_no_piece text None n b p)
one_reading {at} {text} (bad_byte b) (token k n p r) = absurd (nothing_no_piece text (Some k) n b p)
one_reading {at} {text} (bad_byte b) (too_large l) = absurd (large_not_nothing text l b)
one_reading (bad_byte b) (bad_byte c) = (refl, refl)

-- a text that is refused is read in no other way
pub one_refusal : (text : List ℕ) (x : TextError) → IsRefusal text x → (ts : List Token) (e : Ending) → length text ≤ MAX_BYTES → Lexes 0 text ts e →
    (x ≡ Memory) ⊎ (e ≡ Refused x)
one_refusal text TooLong refusal ts e short read = absurd (omega arith)
one_refusal text (BadByte at) refusal ts e short read = inr (sym (one_reading refusal.1 read).1)
one_refusal text (NumberTooLarge at) refusal ts e short read = inr (sym (one_reading refusal.1 read).1)
one_refusal text Memory refusal ts e short read = inl refl

-- what came back is what any reading of the text has
pub one_result : (text : List ℕ) (r : Result (Vec Token Global) TextError) → MatchResult r (λ v. Lexes 0 text v.items Whole) (IsRefusal text) →
    (ts : List Token) (e : Ending) →
    length text ≤ MAX_BYTES → Lexes 0 text ts e → MatchResult r (λ v. (v.items ≡ ts) × (e ≡ Whole)) (λ x. (x ≡ Memory) ⊎ (e ≡ Refused x))
one_result text (Ok v) tokens ts e short read = let same = one_reading tokens read in (same.0, sym same.1)
one_result text (Err x) refused ts e short read = one_refusal text x refused ts e short read
