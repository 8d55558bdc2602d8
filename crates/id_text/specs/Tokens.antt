-- Lists of tokens as a parser may be lent them (docs/LANGUAGE.md, "Tokens").
use Rattle.std.specs.Prelude.{◌≡◌, ◌≢◌, ℕ, ◌<◌, ◌≤◌, List, [], ◌∷◌}
use Rattle.id_text.specs.declared.token.Token.{Token}
use Rattle.id_text.specs.declared.token.TokenKind.TheVariants.{End}
use Rattle.id_text.specs.declared.token.TextError.{TextError}
use Rattle.id_text.specs.declared.token.TextError.TheVariants.{TooLong, BadByte, NumberTooLarge, Memory}

-- `End` is the last token, and no other is `End`
abbrev pub EndsOnce : List Token → Type 0
EndsOnce [] = ⊥
EndsOnce (t ∷ []) = t.kind ≡ End
EndsOnce (t ∷ u ∷ ts) = (t.kind ≢ End) × EndsOnce (u ∷ ts)

-- each token starts after the start of the one before
abbrev pub Rises : List Token → Type 0
Rises [] = Unit {0}
Rises (t ∷ []) = Unit {0}
Rises (t ∷ u ∷ ts) = (t.start < u.start) × Rises (u ∷ ts)

-- the token's bytes lie within the first n
abbrev pub IsWithin : ℕ → Token → Type 0
IsWithin n t = (t.start ≤ t.end) × (t.end ≤ n)

-- the refusal's place, if it has one, is at most n
abbrev pub IsPlaceWithin : ℕ → TextError → Type 0
IsPlaceWithin n TooLong = Unit {0}
IsPlaceWithin n (BadByte at) = at ≤ n
IsPlaceWithin n (NumberTooLarge at) = at ≤ n
IsPlaceWithin n Memory = Unit {0}
