-- How the reading of a text goes on, piece by piece, and what its tokens keep.
use Rattle.std.proofs.Common.{◌≡◌, ◌≢◌, ℕ, ◌+◌, ◌<◌, ◌≤◌, Bool, true, List, [], ◌∷◌, ◌++◌, drop, length, Option, Some}
use Rattle.std.proofs.Common.{None, refl, sym, ap, ◌∙◌, subst, arith, ⊎_elim, length-append, length-drop, append-nil}
use Rattle.std.proofs.Common.{append_assoc, zero-add}
use Rattle.std.specs.List.{prefix_len, AllByRecursion}
use Rattle.std.specs.Char.{is_ascii_digit}
use Rattle.std.specs.Prelude.{All}
use Rattle.std.proofs.lemmas.List.{drop-drop, drop_all}
use Rattle.std.proofs.lemmas.List.Elements.{All-from_recursion}
use Rattle.std.proofs.lemmas.List.Sums.{prefix_len-le-length}
use Rattle.std.proofs.lemmas.Bool.Decides.{nat_tests}
use Rattle.id_text.specs.Bytes.{is_blank, is_percent, is_comment_byte, is_letter, is_name_byte, sign_of}
use Rattle.id_text.specs.Tokens.{EndsOnce, Rises, IsWithin, IsPlaceWithin}
use Rattle.id_text.specs.Lexes.{Opens, HasSign, Begins, Lexes, Ending, IsReadOn, IsRefusal, IsRefusedAt, token_of}
use Rattle.id_text.specs.Lexes.Begins.{blank, comment, word, name, number, sign}
use Rattle.id_text.specs.Lexes.Ending.{Whole, Refused}
use Rattle.id_text.specs.Lexes.Lexes.{end, gap, token, too_large, bad_byte}
use Rattle.id_text.specs.declared.token.Token.{Token}
use Rattle.id_text.specs.declared.token.Symbol.{Symbol}
use Rattle.id_text.specs.declared.token.TokenKind.{TokenKind}
use Rattle.id_text.specs.declared.token.TokenKind.TheVariants.{End}
use Rattle.id_text.specs.declared.token.TextError.{TextError}
use Rattle.id_text.specs.declared.token.TextError.TheVariants.{TooLong, BadByte, NumberTooLarge, Memory}
use Rattle.id_text.proofs.SignsLemmas.{length-sign_of}

-- a piece has a byte, and lies within its text
abbrev pub IsPieceOf : List ℕ → ℕ → Type 0
IsPieceOf text n = (0 < n) × (n ≤ length text)

-- a run has a byte where its text opens with one that passes
run_piece : (p q : ℕ → Bool) (text : List ℕ) → ((b : ℕ) → p b ≡ true → q b ≡ true) → Opens p text → IsPieceOf text (prefix_len q text)
run_piece p q [] goes_on opens = absurd opens
run_piece p q (b ∷ rest) goes_on opens =
    let more : 0 < prefix_len q (b ∷ rest) = rw (goes_on b opens) (omega arith) in
    (more, prefix_len-le-length q (b ∷ rest))

percent_goes_on : (b : ℕ) → is_percent b ≡ true → is_comment_byte b ≡ true
percent_goes_on b h = grind (arith, nat_tests)

letter_goes_on : (b : ℕ) → is_letter b ≡ true → is_name_byte b ≡ true
letter_goes_on b h = grind (arith, nat_tests)

blank_piece : (text : List ℕ) → Opens is_blank text → IsPieceOf text 1
blank_piece [] opens = absurd opens
blank_piece (b ∷ rest) opens = (omega arith, omega arith)

sign_piece : (text : List ℕ) (s : Symbol) → HasSign text s → IsPieceOf text (length (sign_of s))
sign_piece text s has =
    let whole = ap length has.1 ∙ length-append (sign_of s) has.0 in
    (⊎_elim (λ one. omega arith) (λ two. omega arith) (length-sign_of s), omega arith)

pub piece_within : {text : List ℕ} {k : Option TokenKind} {n : ℕ} → Begins text k n → IsPieceOf text n
piece_within (blank {text} opens) = blank_piece text opens
piece_within (comment {text} opens) = run_piece is_percent is_comment_byte text percent_goes_on opens
piece_within (word {text} k opens spelled) = run_piece is_letter is_name_byte text letter_goes_on opens
piece_within (name {text} opens other) = run_piece is_letter is_name_byte text letter_goes_on opens
piece_within (number {text} opens fits) = run_piece is_ascii_digit is_ascii_digit text (λ b h. h) opens
piece_within (sign {text} s longest) = sign_piece text s longest.stands

-- no piece is `End`
pub piece_no_end : {text : List ℕ} {k : TokenKind} {n : ℕ} → Begins text (Some k) n → k ≢ End
piece_no_end (word k opens spelled) = λ e. cc
piece_no_end (name opens other) = λ e. cc
piece_no_end (number opens fits) = λ e. cc
piece_no_end (sign s longest) = λ e. cc

-- the text before a place has these tokens: however it goes on from there, they come first
abbrev pub IsReadTo : List ℕ → ℕ → List Token → Type 0
IsReadTo text at ts = (us : List Token) (e : Ending) → Lexes at (drop at text) us e → Lexes 0 text (ts ++ us) e

-- a gap adds no token
pub read_gap : (text : List ℕ) (at n : ℕ) (ts : List Token) → IsReadTo text at ts → Begins (drop at text) None n → IsReadTo text (at + n) ts
read_gap text at n ts read piece us e rest = read us e (gap n piece (rw (drop-drop n at text) rest))

-- a token comes behind those before
pub read_token : (text : List ℕ) (at n : ℕ) (ts : List Token) (k : TokenKind) → IsReadTo text at ts → Begins (drop at text) (Some k) n →
    IsReadTo text (at + n) (ts ++ token_of k at (at + n) ∷ [])
read_token text at n ts k read piece us e rest =
    subst (λ vs. Lexes 0 text vs e) (sym (append_assoc ts (token_of k at (at + n) ∷ []) us))
    (read (token_of k at (at + n) ∷ us) e (token k n piece (rw (drop-drop n at text) rest)))

-- a piece adds its token, if it is one
pub read_on : (text : List ℕ) (at stop : ℕ) (before after : List Token) → IsReadTo text at before → IsReadOn text at stop before after →
    IsReadTo text stop after
read_on text at stop before after read (None, n, piece, stops, adds) =
    rw (stops, adds) (read_gap text at n (before ++ []) (rw (append-nil before) read) piece)
read_on text at stop before after read (Some k, n, piece, stops, adds) = rw (adds, stops) (read_token text at n before k read piece)

-- at the end of the text `End` comes
pub read_end : (text : List ℕ) (at : ℕ) (ts : List Token) → length text ≤ at → IsReadTo text at ts → Lexes 0 text (ts ++ token_of End at at ∷ []) Whole
read_end text at ts all read = read (token_of End at at ∷ []) Whole (rw (drop_all at text all) end)

-- `End` stands before nothing that ends
cons_ends_once : (t : Token) (ts : List Token) → t.kind ≢ End → EndsOnce ts → EndsOnce (t ∷ ts)
cons_ends_once t [] other ends = absurd ends
cons_ends_once t (u ∷ us) other ends = (other, ends)

-- the tokens of a whole text end once
pub ends_once : {at : ℕ} {text : List ℕ} {ts : List Token} {e : Ending} → Lexes at text ts e → e ≡ Whole → EndsOnce ts
ends_once end whole = refl
ends_once (gap n piece rest) whole = ends_once rest whole
ends_once {at} (token {ts = us} k n piece rest) whole = cons_ends_once (token_of k at (at + n)) us (piece_no_end piece) (ends_once rest whole)
ends_once (too_large large) whole = absurd cc
ends_once (bad_byte nothing) whole = absurd cc

-- the tokens rise, and the first starts at the place or behind it
abbrev RisesFrom : ℕ → List Token → Type 0
RisesFrom at [] = Unit {0}
RisesFrom at (t ∷ ts) = (at ≤ t.start) × Rises (t ∷ ts)

cons_rises : (t : Token) (n : ℕ) (ts : List Token) → t.start < n → RisesFrom n ts → RisesFrom t.start (t ∷ ts)
cons_rises t n [] before rises = (omega arith, tt)
cons_rises t n (u ∷ us) before rises = (omega arith, (omega (arith, rises.0), rises.1))

later_rises : (at n : ℕ) (ts : List Token) → RisesFrom (at + n) ts → RisesFrom at ts
later_rises at n [] rises = tt
later_rises at n (t ∷ ts) rises = (omega (arith, rises.0), rises.1)

rises_from : {at : ℕ} {text : List ℕ} {ts : List Token} {e : Ending} → Lexes at text ts e → RisesFrom at ts
rises_from {at} end = (omega arith, tt)
rises_from {at} {text} {ts} (gap n piece rest) = later_rises at n ts (rises_from rest)
rises_from {at} {text} (token {ts = us} k n piece rest) =
    cons_rises (token_of k at (at + n)) (at + n) us (omega (arith, (piece_within piece).0)) (rises_from rest)
rises_from (too_large large) = tt
rises_from (bad_byte nothing) = tt

rises_all : (at : ℕ) (ts : List Token) → RisesFrom at ts → Rises ts
rises_all at [] rises = tt
rises_all at (t ∷ ts) rises = rises.1

pub rises : {text : List ℕ} {ts : List Token} {e : Ending} → Lexes 0 text ts e → Rises ts
rises {text} {ts} read = rises_all 0 ts (rises_from read)

-- where a piece ends, the end of the text stays where it is
end_stays : (at n : ℕ) (text : List ℕ) → n ≤ length text → at + n + length (drop n text) ≡ at + length text
end_stays at n text fits = omega (arith, length-drop n text)

-- the tokens lie within the text
within_from : {at : ℕ} {text : List ℕ} {ts : List Token} {e : Ending} → Lexes at text ts e → AllByRecursion (IsWithin (at + length text)) ts
within_from {at} end = ((omega arith, omega arith), tt)
within_from {at} {text} {ts} (gap n piece rest) =
    subst (λ i. AllByRecursion (IsWithin i) ts) (end_stays at n text (piece_within piece).1) (within_from rest)
within_from {at} {text} (token {ts = us} k n piece rest) =
    let fits = (piece_within piece).1 in
    ((omega arith, omega arith), subst (λ i. AllByRecursion (IsWithin i) us) (end_stays at n text fits) (within_from rest))
within_from (too_large large) = tt
within_from (bad_byte nothing) = tt

pub within : {text : List ℕ} {ts : List Token} {e : Ending} → Lexes 0 text ts e → All (IsWithin (length text)) ts
within {text} {ts} read = All-from_recursion (IsWithin (length text)) ts
    (subst (λ i. AllByRecursion (IsWithin i) ts) (zero-add (length text)) (within_from read))

-- the place of a refusal, if the text is refused and it has one, is at most n
abbrev EndsWithin : ℕ → Ending → Type 0
EndsWithin n Whole = Unit {0}
EndsWithin n (Refused x) = IsPlaceWithin n x

ends_within : {at : ℕ} {text : List ℕ} {ts : List Token} {e : Ending} → Lexes at text ts e → EndsWithin (at + length text) e
ends_within end = tt
ends_within {at} {text} {ts} {e} (gap n piece rest) =
    subst (λ i. EndsWithin i e) (end_stays at n text (piece_within piece).1) (ends_within rest)
ends_within {at} {text} {ts} {e} (token k n piece rest) =
    subst (λ i. EndsWithin i e) (end_stays at n text (piece_within piece).1) (ends_within rest)
ends_within (too_large large) = omega arith
ends_within (bad_byte nothing) = omega arith

-- a text is refused at a place within it
pub refused_within : (text : List ℕ) (x : TextError) → IsRefusal text x → IsPlaceWithin (length text) x
refused_within text TooLong large = tt
refused_within text (BadByte at) (ts, read) = subst (λ n. at ≤ n) (zero-add (length text)) (ends_within read)
refused_within text (NumberTooLarge at) (ts, read) = subst (λ n. at ≤ n) (zero-add (length text)) (ends_within read)
refused_within text Memory any = tt

-- a piece that is refused is the refusal of the text
pub refusal_at : (text : List ℕ) (at : ℕ) (ts : List Token) (x : TextError) → IsReadTo text at ts → IsRefusedAt at (drop at text) x → IsRefusal text x
refusal_at text at ts TooLong read refused = absurd refused
refusal_at text at ts (BadByte place) read refused =
    subst (λ p. IsRefusal text (BadByte p)) (sym refused.0) (ts ++ [], read [] (Refused (BadByte at)) (bad_byte refused.1))
refusal_at text at ts (NumberTooLarge place) read refused =
    subst (λ p. IsRefusal text (NumberTooLarge p)) (sym refused.0) (ts ++ [], read [] (Refused (NumberTooLarge at)) (too_large refused.1))
refusal_at text at ts Memory read refused = tt

-- a piece behind a place ends within the text, and behind that place
pub piece_fits : (text : List ℕ) (at : ℕ) (k : Option TokenKind) (n : ℕ) → at ≤ length text → Begins (drop at text) k n → (0 < n) × (at + n ≤ length text)
piece_fits text at k n inside piece =
    let within = piece_within piece in
    (within.0, omega (arith, length-drop at text))

pub read_on_fits : (text : List ℕ) (at stop : ℕ) (before after : List Token) → at ≤ length text → IsReadOn text at stop before after →
    (at < stop) × (stop ≤ length text)
read_on_fits text at stop before after inside (k, n, piece, stops, adds) =
    let fits = piece_fits text at k n inside piece in (omega (arith, fits.0, stops), omega (arith, fits.1, stops))
