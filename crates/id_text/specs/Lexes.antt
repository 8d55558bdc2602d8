-- How a text is cut into tokens (docs/LANGUAGE.md, "Tokens").
use Rattle.std.specs.Prelude.{◌≡◌, ◌≢◌, ℕ, ◌+◌, ◌<◌, ◌≤◌, ◌^◌, Bool, List, []}
use Rattle.std.specs.Prelude.{◌∷◌, ◌++◌, length, drop, take_while}
use Rattle.std.specs.Prelude.{IsTrue, Option, Some, None, pos}
use Rattle.std.specs.List.{prefix_len}
use Rattle.std.specs.Char.{is_ascii_digit}
use Rattle.id_text.specs.Bytes.{is_blank, is_percent, is_comment_byte, is_letter, is_name_byte, is_other, number_of}
use Rattle.id_text.specs.Bytes.{word_of, sign_of}
use Rattle.id_text.specs.declared.token.Keyword.{Keyword}
use Rattle.id_text.specs.declared.token.Symbol.{Symbol}
use Rattle.id_text.specs.declared.token.Token.{Token}
use Rattle.id_text.specs.declared.token.TokenKind.{TokenKind}
use Rattle.id_text.specs.declared.token.TokenKind.TheVariants.{Name, Number, Key, Sign, End}
use Rattle.id_text.specs.declared.token.TheConstants.{MAX_BYTES}
use Rattle.id_text.specs.declared.token.TextError.{TextError}
use Rattle.id_text.specs.declared.token.TextError.TheVariants.{TooLong, BadByte, NumberTooLarge, Memory}

-- the text's first byte passes the test
abbrev pub Opens : (ℕ → Bool) → List ℕ → Type 0
Opens p [] = ⊥
Opens p (b ∷ rest) = IsTrue (p b)

-- the text's first bytes are those of the sign
abbrev pub HasSign : List ℕ → Symbol → Type 0
HasSign text s = (rest : List ℕ) × (text ≡ sign_of s ++ rest)

-- the text's first bytes are those of the sign, and those of no longer sign
pub record HasLongestSign (text : List ℕ) (s : Symbol) : Type 0 where
  pub stands : HasSign text s
  pub longest : (t : Symbol) → HasSign text t → length (sign_of t) ≤ length (sign_of s)

-- the text begins with a token of this kind, or with a gap where there is no kind, of so many bytes
pub data Begins : List ℕ → Option TokenKind → ℕ → Type 0 where
  blank : {text : List ℕ} → Opens is_blank text → Begins text None 1
  comment : {text : List ℕ} → Opens is_percent text → Begins text None (prefix_len is_comment_byte text)
  word : {text : List ℕ} (k : Keyword) → Opens is_letter text → take_while is_name_byte text ≡ word_of k →
      Begins text (Some (Key k)) (prefix_len is_name_byte text)
  name : {text : List ℕ} → Opens is_letter text →
      ((k : Keyword) → take_while is_name_byte text ≢ word_of k) →
      Begins text (Some (Name (take_while is_name_byte text))) (prefix_len is_name_byte text)
  number : {text : List ℕ} → Opens is_ascii_digit text → number_of (take_while is_ascii_digit text) < 2 ^ 63 →
      Begins text (Some (Number (pos (number_of (take_while is_ascii_digit text))))) (prefix_len is_ascii_digit text)
  sign : {text : List ℕ} (s : Symbol) → HasLongestSign text s → Begins text (Some (Sign s)) (length (sign_of s))

-- the text begins with a number of 2 ^ 63 or more
abbrev pub BeginsLarge : List ℕ → Type 0
BeginsLarge text = Opens is_ascii_digit text × (2 ^ 63 ≤ number_of (take_while is_ascii_digit text))

-- the text begins with no token, gap or number
abbrev pub BeginsNothing : List ℕ → Type 0
BeginsNothing text = Opens is_other text × ((s : Symbol) → ¬ (HasSign text s))

-- how the reading of a text ends: at its end, or refused
pub data Ending : Type 0 where
  Whole : Ending
  Refused : TextError → Ending

-- the token of this kind that takes the bytes from start up to end
abbrev pub token_of : TokenKind → ℕ → ℕ → Token
token_of k start end = record { kind = k; start = start; end = end }

-- the text, whose first byte has this place, has these tokens, and its reading ends so
pub data Lexes : ℕ → List ℕ → List Token → Ending → Type 0 where
  end : {at : ℕ} → Lexes at [] (token_of End at at ∷ []) Whole
  gap : {at : ℕ} {text : List ℕ} {ts : List Token} {e : Ending} (n : ℕ) → Begins text None n →
      Lexes (at + n) (drop n text) ts e → Lexes at text ts e
  token : {at : ℕ} {text : List ℕ} {ts : List Token} {e : Ending} (k : TokenKind) (n : ℕ) →
      Begins text (Some k) n →
      Lexes (at + n) (drop n text) ts e → Lexes at text (token_of k at (at + n) ∷ ts) e
  too_large : {at : ℕ} {text : List ℕ} → BeginsLarge text → Lexes at text [] (Refused (NumberTooLarge at))
  bad_byte : {at : ℕ} {text : List ℕ} → BeginsNothing text → Lexes at text [] (Refused (BadByte at))

-- a text is refused so (`Memory` says nothing of the text)
abbrev pub IsRefusal : List ℕ → TextError → Type 0
IsRefusal text TooLong = MAX_BYTES < length text
IsRefusal text (BadByte at) = (ts : List Token) × Lexes 0 text ts (Refused (BadByte at))
IsRefusal text (NumberTooLarge at) = (ts : List Token) × Lexes 0 text ts (Refused (NumberTooLarge at))
IsRefusal text Memory = Unit {0}

-- For use inside.

-- the text's first bytes are those of the sign, which has so many
abbrev pub HasSignOf : ℕ → List ℕ → Symbol → Type 0
HasSignOf n text s = HasSign text s × (length (sign_of s) ≡ n)

-- the piece at the front of a text is refused so, where its first byte has this place
abbrev pub IsRefusedAt : ℕ → List ℕ → TextError → Type 0
IsRefusedAt at text TooLong = ⊥
IsRefusedAt at text (BadByte place) = (place ≡ at) × BeginsNothing text
IsRefusedAt at text (NumberTooLarge place) = (place ≡ at) × BeginsLarge text
IsRefusedAt at text Memory = Unit {0}

-- the token of a piece from start up to stop, if it is one
abbrev pub tokens_of : Option TokenKind → ℕ → ℕ → List Token
tokens_of None start stop = []
tokens_of (Some k) start stop = token_of k start stop ∷ []

-- a piece takes the bytes from at up to stop, and its token, if it is one, comes behind those before
abbrev pub IsReadOn : List ℕ → ℕ → ℕ → List Token → List Token → Type 0
IsReadOn text at stop before after = (k : Option TokenKind) × (n : ℕ) ×
    Begins (drop at text) k n × (stop ≡ at + n) × (after ≡ before ++ tokens_of k at stop)
