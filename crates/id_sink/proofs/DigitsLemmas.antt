-- Numbers are printed as digits, which tell them, and places as their line and column.
use Rattle.std.proofs.Common.{◌≡◌, ℕ, zero, suc, ◌+◌, ◌/◌, ◌%◌, ◌^◌, ◌<◌, ◌≤◌, Bool, true, false, List, [], ◌∷◌, ◌++◌}
use Rattle.std.proofs.Common.{length, take, drop, get_or, append_assoc, count_by, refl, sym, ap, ◌∙◌, arith}
use Rattle.std.specs.Prelude.{◌||◌, ◌==◌, if◌then◌else◌, ℤ, pos, negsuc}
use Rattle.std.specs.Fmt.{decimal, signed_decimal, digits, digits_onto, digit_glyph}
use Rattle.std.specs.Int.Signed.{mag}
use Rattle.std.specs.Char.{is_ascii_digit}
use Rattle.std.specs.Str.Parse.{digits_value}
use Rattle.std.proofs.lemmas.Bool.{false≢true}
use Rattle.std.proofs.lemmas.Bool.Decides.{nat_tests}
use Rattle.std.proofs.lemmas.Fmt.{decimal_is_IsNumeral_wide}
use Rattle.id_sink.specs.Texts.{place_text}
use Rattle.id_text.specs.Places.{column_of, is_line_end, is_within_line, line_of, line_starts}
use Rattle.id_text.proofs.PlacesLemmas.{line_of_le, start_of, start_of-column}
use Rattle.id_sink.proofs.LinesLemmas.{all_pass, Stops}
use Rattle.id_sink.proofs.LinesLemmas.{all_pass-other, both, both_of, cut}

glyph_digit : (d : ℕ) → d < 10 → is_ascii_digit (digit_glyph false d) ≡ true
glyph_digit d l = grind (arith, nat_tests)

onto_digits : (k n : ℕ) (acc : List ℕ) → all_pass is_ascii_digit acc ≡ true
    → all_pass is_ascii_digit (digits_onto k 10 false n acc) ≡ true
onto_digits zero n acc h = h
onto_digits (suc k) n acc h =
    let g : is_ascii_digit (digit_glyph false (n % 10)) ≡ true = glyph_digit (n % 10) (omega arith) in
    let more : all_pass is_ascii_digit (digit_glyph false (n % 10) ∷ acc) ≡ true =
    both_of (is_ascii_digit (digit_glyph false (n % 10))) (all_pass is_ascii_digit acc) g h in
    by (n / 10 == 0) _ _ more (onto_digits k (n / 10) (digit_glyph false (n % 10) ∷ acc) more)
  where
    by : (b : Bool) (xs ys : List ℕ) → all_pass is_ascii_digit xs ≡ true → all_pass is_ascii_digit ys ≡ true
        → all_pass is_ascii_digit (if b then xs else ys) ≡ true
    by true xs ys p q = p
    by false xs ys p q = q

-- a number is digits
pub decimal_digits : (n : ℕ) → all_pass is_ascii_digit (decimal n) ≡ true
unfolding digits
decimal_digits n = onto_digits 64 n [] refl

digit_within : (b : ℕ) → is_ascii_digit b ≡ true → is_within_line b ≡ true
digit_within b h = grind (arith, nat_tests)

-- so it stands within a line
pub decimal_within : (n : ℕ) → all_pass is_within_line (decimal n) ≡ true
decimal_within n = all_pass-other is_ascii_digit is_within_line digit_within (decimal n) (decimal_digits n)

pub signed_within : (z : ℤ) → all_pass is_within_line (signed_decimal z) ≡ true
signed_within (pos n) = decimal_within n
signed_within (negsuc n) = decimal_within (suc n)

-- up to 64 digits tell their number
pub decimal_tells : (m n : ℕ) → m < 10 ^ 64 → n < 10 ^ 64 → decimal m ≡ decimal n → m ≡ n
decimal_tells m n p q e =
    sym (decimal_is_IsNumeral_wide m p).1 ∙ (ap (digits_value 10) e ∙ (decimal_is_IsNumeral_wide n q).1)

-- ---- a number is read back

-- the byte is a digit or a minus
abbrev pub is_numeric : ℕ → Bool
is_numeric b = is_ascii_digit b || b == 45

-- the bytes begin with one that passes the test
pub record BeginsWith (t : ℕ → Bool) (xs : List ℕ) : Type 0 where
  pub first : ℕ
  pub rest : List ℕ
  pub is : xs ≡ first ∷ rest
  pub passes : t first ≡ true

begins_of : (t : ℕ → Bool) (xs : List ℕ) → 0 < length xs → all_pass t xs ≡ true → BeginsWith t xs
begins_of t [] l h = absurd (omega arith)
begins_of t (x ∷ xs) l h = record { first = x; rest = xs; is = refl; passes = (both (t x) (all_pass t xs) h).0 }

decimal_begins : (n : ℕ) → n < 10 ^ 64 → BeginsWith is_ascii_digit (decimal n)
decimal_begins n l = begins_of is_ascii_digit (decimal n) (decimal_is_IsNumeral_wide n l).0.0 (decimal_digits n)

numeric_digit : (b : ℕ) → is_ascii_digit b ≡ true → is_numeric b ≡ true
numeric_digit b h = ap (λ (x : Bool). x || (b == 45)) h

pub signed_begins : (z : ℤ) → mag z < 2 ^ 64 → BeginsWith is_numeric (signed_decimal z)
signed_begins (pos n) l =
    let b = decimal_begins n (omega arith) in
    record { first = b.first; rest = b.rest; is = b.is; passes = numeric_digit b.first b.passes }
signed_begins (negsuc n) l = record { first = 45; rest = decimal (suc n); is = refl; passes = refl }

-- what begins so does not begin with another byte
pub begins_not : (t : ℕ → Bool) (xs r s : List ℕ) (c : ℕ) → BeginsWith t xs → t c ≡ false → xs ++ r ≡ c ∷ s → ⊥
begins_not t xs r s c b fails e =
    let same : b.first ∷ (b.rest ++ r) ≡ c ∷ s = sym (ap (λ y. y ++ r) b.is) ∙ e in
    let head : b.first ≡ c = cc in
    false≢true (sym fails ∙ (sym (ap t head) ∙ b.passes))

-- the number is told where no digit stands behind it, and so is what stands there
pub decimal_told : (m n : ℕ) (r s : List ℕ) → m < 10 ^ 64 → n < 10 ^ 64 → Stops is_ascii_digit r
    → Stops is_ascii_digit s → decimal m ++ r ≡ decimal n ++ s → (m ≡ n) × (r ≡ s)
decimal_told m n r s p q h k e =
    let z = cut is_ascii_digit (decimal m) (decimal n) r s (decimal_digits m) (decimal_digits n) h k e in
    (decimal_tells m n p q z.0, z.1)

pub signed_told : (y z : ℤ) (r s : List ℕ) → mag y < 2 ^ 64 → mag z < 2 ^ 64 → Stops is_ascii_digit r
    → Stops is_ascii_digit s → signed_decimal y ++ r ≡ signed_decimal z ++ s → (y ≡ z) × (r ≡ s)
signed_told (pos m) (pos n) r s p q h k e =
    let z = decimal_told m n r s (omega arith) (omega arith) h k e in (ap pos z.0, z.1)
signed_told (pos m) (negsuc n) r s p q h k e =
    absurd (begins_not is_ascii_digit (decimal m) r (decimal (suc n) ++ s) 45 (decimal_begins m (omega arith)) refl e)
signed_told (negsuc m) (pos n) r s p q h k e =
    absurd (begins_not is_ascii_digit (decimal n) s (decimal (suc m) ++ r) 45 (decimal_begins n (omega arith)) refl
    (sym e))
signed_told (negsuc m) (negsuc n) r s p q h k e =
    let behind : decimal (suc m) ++ r ≡ decimal (suc n) ++ s = cc in
    let z = decimal_told (suc m) (suc n) r s (omega arith) (omega arith) h k behind in
    let same : m ≡ n = omega (arith, z.0) in
    (ap negsuc same, z.1)

-- ---- a place is read back

-- places of a text with one line and column are one
one_place : (text : List ℕ) (e f : ℕ) → e ≤ length text → f ≤ length text → line_of text e ≡ line_of text f
    → column_of text e ≡ column_of text f → e ≡ f
one_place text e f h k lines columns =
    let before : count_by is_line_end (take e text) ≡ count_by is_line_end (take f text) = omega (arith, lines) in
    let start : start_of text e ≡ start_of text f = ap (λ i. get_or (line_starts text) i 0) before in
    omega (arith, start, columns, start_of-column text e h, start_of-column text f k)

column_of_le : (text : List ℕ) (e : ℕ) → e ≤ length text → column_of text e ≤ e + 1
column_of_le text e h = omega (arith, start_of-column text e h)

-- a place is told where no digit stands behind it, and so is what stands there
pub place_told : (text : List ℕ) → length text < 2 ^ 64 → (e f : ℕ) (r s : List ℕ) → e ≤ length text → f ≤ length text
    → Stops is_ascii_digit r → Stops is_ascii_digit s → place_text text e ++ r ≡ place_text text f ++ s
    → (e ≡ f) × (r ≡ s)
place_told text small e f r s p q h k same =
    let cut_so : (g : ℕ) (x : List ℕ)
    → place_text text g ++ x ≡ decimal (line_of text g) ++ 58 ∷ (decimal (column_of text g) ++ x) =
    λ g x. append_assoc (decimal (line_of text g)) (58 ∷ decimal (column_of text g)) x in
    let parts : decimal (line_of text e) ++ 58 ∷ (decimal (column_of text e) ++ r) ≡ decimal (line_of text f) ++ 58
    ∷ (decimal (column_of text f) ++ s) =
    sym (cut_so e r) ∙ (same ∙ cut_so f s) in
    let lines =
    decimal_told (line_of text e) (line_of text f) (58 ∷ (decimal (column_of text e) ++ r))
    (58 ∷ (decimal (column_of text f) ++ s))
    (omega (arith, line_of_le text e p)) (omega (arith, line_of_le text f q)) refl refl parts in
    let behind : decimal (column_of text e) ++ r ≡ decimal (column_of text f) ++ s = ap (drop 1) lines.1 in
    let columns =
    decimal_told (column_of text e) (column_of text f) r s (omega (arith, column_of_le text e p))
    (omega (arith, column_of_le text f q)) h k
    behind in
    (one_place text e f p q lines.0 columns.0, columns.1)
