-- Lemmas on specs/Looks.antt: a word is ASCII.
use Rattle.std.proofs.Common.{◌≡◌, ℕ, zero, suc, ◌<◌, Bool, true, false, List, [], ◌∷◌, cond, get_or, take_while, IsUtf8, refl, sym, subst, arith}
use Rattle.std.proofs.lemmas.Bool.Decides.{nat_tests}
use Rattle.std.proofs.lemmas.List.Sums.{take_while-cons}
use Rattle.std.proofs.lemmas.Str.{IsUtf8-from_ascii}
use Rattle.id_text.specs.Bytes.{is_name_byte}

-- a byte of a name is ASCII
name_byte_ascii : (b : ℕ) → is_name_byte b ≡ true → b < 128
name_byte_ascii b passes = grind (arith, nat_tests)

-- a byte more
one_more : (b : ℕ) (bs : List ℕ) → b < 128 → ((i : ℕ) → get_or bs i 0 < 128) → (i : ℕ) → get_or (b ∷ bs) i 0 < 128
one_more b bs h k zero = h
one_more b bs h k (suc i) = k i

-- each byte of a word is ASCII
word_ascii : (bs : List ℕ) → (i : ℕ) → get_or (take_while is_name_byte bs) i 0 < 128
word_ascii [] = λ i. omega arith
word_ascii (b ∷ bs) =
    subst (λ (w : List ℕ). (i : ℕ) → get_or w i 0 < 128) (sym (take_while-cons is_name_byte b bs)) (by (is_name_byte b) refl (word_ascii bs))
  where
    by : (x : Bool) → is_name_byte b ≡ x → ((i : ℕ) → get_or (take_while is_name_byte bs) i 0 < 128) → (i : ℕ) →
        get_or (cond x (b ∷ take_while is_name_byte bs) []) i 0 < 128
    by true e rest = one_more b (take_while is_name_byte bs) (name_byte_ascii b e) rest
    by false e rest = λ i. omega arith

-- so it is a text
pub word_utf8 : (bs : List ℕ) → IsUtf8 (take_while is_name_byte bs)
word_utf8 bs = IsUtf8-from_ascii (take_while is_name_byte bs) (word_ascii bs)
