-- The place of each refusal of a text lies in the text (specs/Refusals.antt).
use Rattle.std.proofs.Common.{◌≡◌, ◌⊎◌, inl, inr, ℕ, zero, suc, ◌≤◌, ◌<◌, List, ◌∷◌, ◌++◌, All, length, refl, subst}
use Rattle.std.proofs.Common.{arith}
use Rattle.id_text.specs.declared.token.Token.{Token}
use Rattle.id_text.specs.declared.token.TextError.{TextError}
use Rattle.id_text.specs.declared.token.TextError.TheVariants as lexer
use Rattle.id_text.specs.Tokens.{IsWithin, IsPlaceWithin}
use Rattle.id_grammar.specs.declared.tree.TreeError.{TreeError}
use Rattle.id_grammar.specs.declared.tree.TreeError.TheVariants as parser
use Rattle.id_grammar.specs.Tree.{Tree}
use Rattle.id_tree.specs.Distinct.{HasPlace}
use Rattle.id_tree.specs.Accepted.{StopsAt, RefusedBy}
use Rattle.id_check.specs.declared.cause.CheckCause.{CheckCause}
use Rattle.id_check.specs.declared.cause.CheckCause.TheVariants as checker
use Rattle.id_check.specs.Causes as check
use Rattle.id_value.specs.List.{Among}
use Rattle.id_value.proofs.AmongLemmas.{Among-right, at-from_Among}
use Rattle.std.proofs.lemmas.List.Elements.{All-get_or}
use Rattle.std.proofs.lemmas.Option.{slice_get_within, get_or_from_slice_get}
use Rattle.id_compile.specs.Refusals.{lexer_refusal, parser_refusal, checker_refusal, IsDetailInside, IsInside}

-- what is so of each is so of what is among them
pub among_all : {X : Type 0} (P : X → Type 0) (xs : List X) (x : X) → All P xs → Among x xs → P x
among_all P xs x all h =
    let k = at-from_Among x xs h in
    subst P (get_or_from_slice_get xs k.0 x x k.1) (All-get_or P xs k.0 x (slice_get_within xs k.0 x k.1) all)

-- that of a text without tokens, unless it is too long
pub lexer_inside : (text : List ℕ) (e : TextError) → IsPlaceWithin (length text) e
    → (e ≡ lexer.TooLong) ⊎ (length text ≤ 1048576) →
    IsDetailInside text (lexer_refusal e).detail
lexer_inside text lexer.TooLong h short = tt
lexer_inside text (lexer.BadByte at) h (inl e) = absurd cc
lexer_inside text (lexer.BadByte at) h (inr s) = record { inside = h; short = s }
lexer_inside text (lexer.NumberTooLarge at) h (inl e) = absurd cc
lexer_inside text (lexer.NumberTooLarge at) h (inr s) = record { inside = h; short = s }
lexer_inside text lexer.Memory h short = tt

stop_inside : (text : List ℕ) (ts : List Token) (at : ℕ) → StopsAt ts at → All (IsWithin (length text)) ts
    → at ≤ length text
stop_inside text ts at r all =
    let there = subst (λ (us : List Token). All (IsWithin (length text)) us) r.whole all in
    let w = among_all (IsWithin (length text)) (r.front ++ r.token ∷ r.behind) r.token there
    (Among-right r.token r.front (r.token ∷ r.behind) (inl refl)) in
    omega (arith, w.0, w.1, r.place)

-- that of tokens without tree
pub parser_inside : (text : List ℕ) (ts : List Token) (e : TreeError) → RefusedBy ts e → All (IsWithin (length text)) ts
    → length text ≤ 1048576 →
    IsDetailInside text (parser_refusal e).detail
parser_inside text ts (parser.Unexpected at) h all short =
    record { inside = stop_inside text ts at h.0 all; short = short }
parser_inside text ts (parser.TooDeep at) h all short =
    record { inside = stop_inside text ts at h.0 all; short = short }
parser_inside text ts parser.Memory h all short = tt

-- that of a refused program
module _ (text : List ℕ) (t : Tree) (within : (q : ℕ) → HasPlace t q
    → q ≤ length text) (short : length text ≤ 1048576) where
  place_inside : (at : ℕ) → HasPlace t at → IsInside text at
  place_inside at h = record { inside = within at h; short = short }

  pub checker_inside : (c : CheckCause) → check.IsInside t c → IsDetailInside text (checker_refusal c).detail
  checker_inside checker.NoMain h = tt
  checker_inside (checker.MainKind at) h = place_inside at h
  checker_inside (checker.Duplicate at first) h = place_inside at h.0
  checker_inside (checker.Unknown at) h = place_inside at h
  checker_inside (checker.WrongCount at) h = place_inside at h
  checker_inside (checker.WrongKind at wanted found) h = place_inside at h
  checker_inside (checker.TooManyParams at) h = place_inside at h
  checker_inside checker.Memory h = tt

-- the one number is at most the other, or above it
size_split : (n m : ℕ) → (n ≤ m) ⊎ (m < n)
size_split zero m = inl (omega arith)
size_split (suc n) zero = inr (omega arith)
size_split (suc n) (suc m) = elim (size_split n m) [ inl h ↦ inl (omega (arith, h)) | inr h ↦ inr (omega (arith, h)) ]

-- a text that is refused is too long, or it is not
pub too_long_or_short : (text : List ℕ) (e : TextError) → (1048576 < length text → e ≡ lexer.TooLong)
    → (e ≡ lexer.TooLong) ⊎ (length text ≤ 1048576)
too_long_or_short text e h = elim (size_split (length text) 1048576) [ inl s ↦ inr s | inr l ↦ inl (h l) ]

-- a text that is not too long
pub short_text : (text : List ℕ) → (1048576 < length text → ⊥) → length text ≤ 1048576
short_text text h = elim (size_split (length text) 1048576) [ inl s ↦ s | inr l ↦ absurd (h l) ]
