-- Signs have one byte or two.
use Rattle.std.proofs.Common.{◌≡◌, ◌≢◌, ℕ, ◌<◌, ◌≤◌, ◌⊎◌, List, [], ◌∷◌, ◌++◌, take, drop, get_or, length, Option}
use Rattle.std.proofs.Common.{Some, None, MatchOption, inl, inr, ⊎_elim, refl, sym, ap, ◌∙◌, arith, length-append}
use Rattle.std.proofs.Common.{take-append-drop, length-take-le}
use Rattle.std.proofs.lemmas.List.{take_at}
use Rattle.id_text.specs.Bytes.{sign_of}
use Rattle.id_text.specs.Lexes.{HasSign, HasSignOf, HasLongestSign}
use Rattle.id_text.specs.declared.token.Symbol.{Symbol}
use Rattle.id_text.specs.declared.token.Symbol.TheVariants.{LeftParen, RightParen, LeftBrace, RightBrace, LeftBracket}
use Rattle.id_text.specs.declared.token.Symbol.TheVariants.{RightBracket, Comma, Semicolon, Colon, Becomes, Equal}
use Rattle.id_text.specs.declared.token.Symbol.TheVariants.{NotEqual, Less, LessEqual, Greater, GreaterEqual, Arrow}
use Rattle.id_text.specs.declared.token.Symbol.TheVariants.{Plus, Minus, Star}

pub length-sign_of : (s : Symbol) → (length (sign_of s) ≡ 1) ⊎ (length (sign_of s) ≡ 2)
length-sign_of LeftParen = inl refl
length-sign_of RightParen = inl refl
length-sign_of LeftBrace = inl refl
length-sign_of RightBrace = inl refl
length-sign_of LeftBracket = inl refl
length-sign_of RightBracket = inl refl
length-sign_of Comma = inl refl
length-sign_of Semicolon = inl refl
length-sign_of Colon = inl refl
length-sign_of Becomes = inl refl
length-sign_of Equal = inr refl
length-sign_of NotEqual = inr refl
length-sign_of Less = inl refl
length-sign_of LessEqual = inr refl
length-sign_of Greater = inl refl
length-sign_of GreaterEqual = inr refl
length-sign_of Arrow = inr refl
length-sign_of Plus = inl refl
length-sign_of Minus = inl refl
length-sign_of Star = inl refl

module _ (text : List ℕ) where
  -- a sign of two bytes is the longest
  pub longest_pair : (s : Symbol) → HasSignOf 2 text s → HasLongestSign text s
  longest_pair s has = record { stands = has.0; longest = λ t other. ⊎_elim (λ one. omega (arith, has.1)) (λ two. omega (arith, has.1)) (length-sign_of t) }

  -- where no sign of two bytes stands, one of one byte is the longest
  pub longest_single : ((s : Symbol) → ¬ (HasSignOf 2 text s)) → (s : Symbol) → HasSignOf 1 text s → HasLongestSign text s
  longest_single no_pair s has = record {
    stands = has.0;
    longest = λ t other. ⊎_elim (λ one. omega (arith, has.1)) (λ two. absurd (no_pair t (other, two))) (length-sign_of t);
  }

  -- a sign is one of two bytes or of one
  pub no_sign : ((s : Symbol) → ¬ (HasSignOf 2 text s)) → ((s : Symbol) → ¬ (HasSignOf 1 text s)) → (s : Symbol) → ¬ (HasSign text s)
  no_sign no_pair no_single s has = ⊎_elim (λ one. no_single s (has, one)) (λ two. no_pair s (has, two)) (length-sign_of s)

-- a sign of n bytes at the front is the first n bytes
pub front_from_sign : (n : ℕ) (text : List ℕ) (s : Symbol) → HasSignOf n text s → sign_of s ≡ take n text
front_from_sign n text s has = sym (take_at (sign_of s) has.0.0 n has.1) ∙ ap (take n) (sym has.0.1)

-- if the first n bytes are a sign, it stands at the front
pub sign_from_front : (n : ℕ) (text : List ℕ) (s : Symbol) → n ≤ length text → sign_of s ≡ take n text → HasSignOf n text s
sign_from_front n text s fits same = (
  (drop n text, sym (take-append-drop n text) ∙ ap (λ front. front ++ drop n text) (sym same)),
  ap length same ∙ length-take-le n text fits,
)

-- what is said of the first n bytes is said of the text
pub signs_at : (n : ℕ) (text : List ℕ) (r : Option Symbol) → n ≤ length text →
    MatchOption r ((s : Symbol) → sign_of s ≢ take n text) (λ s. sign_of s ≡ take n text) →
    MatchOption r ((s : Symbol) → ¬ (HasSignOf n text s)) (HasSignOf n text)
signs_at n text None fits none = λ s has. none s (front_from_sign n text s has)
signs_at n text (Some s) fits same = sign_from_front n text s fits same

-- a text that is too short has no such sign
pub no_sign_past_end : (n : ℕ) (text : List ℕ) → length text < n → (s : Symbol) → ¬ (HasSignOf n text s)
no_sign_past_end n text short s has = absurd (omega (arith, has.1, ap length has.0.1, length-append (sign_of s) has.0.0))

-- the first two bytes, read one by one
pub front_two : (text : List ℕ) (d e : ℕ) → 2 ≤ length text → take 2 text ≡ get_or text 0 d ∷ get_or text 1 e ∷ []
front_two [] d e long = absurd (omega arith)
front_two (a ∷ []) d e long = absurd (omega arith)
front_two (a ∷ b ∷ rest) d e long = refl

-- the first byte
pub front_one : (text : List ℕ) (d : ℕ) → 1 ≤ length text → take 1 text ≡ get_or text 0 d ∷ []
front_one [] d long = absurd (omega arith)
front_one (a ∷ rest) d long = refl
