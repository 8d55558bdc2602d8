-- Lemmas on specs/Reading.antt: what comes of bytes as a text.
use Rattle.std.proofs.Common.{◌≡◌, ℕ, ◌<◌, ◌≤◌, List, take, length, true, false, Option, Some, None, IfSome, Result, Ok}
use Rattle.std.proofs.Common.{Err, inl, refl, sym, subst, ◌∙◌, arith}
use Rattle.std.specs.Prelude.{String, Vec, nat_le}
use Rattle.std.specs.Str.{IsUtf8}
use Rattle.std.proofs.lemmas.Bool.{cond-true, cond-false, false_from_ne_true}
use Rattle.std.proofs.lemmas.Bool.Decides.{nat_tests}
use Rattle.std.proofs.lemmas.List.{length-take, take_all}
use Rattle.std.proofs.lemmas.Str.{IsUtf8-from_is_utf8, is_utf8-from_IsUtf8, IsUtf8-string_bytes}
use Rattle.id_sink.specs.declared.source.ReadFault.{ReadFault}
use Rattle.id_sink.specs.declared.source.SourceFault.{SourceFault}
use Rattle.id_sink.specs.declared.source.SourceFault.TheVariants.{TooLong, File, Memory}
use Rattle.id_sink.specs.Reading.{IsFrontOf, IsRead, IsReadOf, IsTextOf, text_in, told_text}

-- bytes above the limit are too long, whatever they are
text_in-long : (bytes : List ℕ) → 1048576 < length bytes → text_in bytes ≡ Err TooLong
text_in-long bytes h =
    let no : nat_le (length bytes) 1048576 ≡ false = grind (arith, nat_tests, h) in
    cond-false _ _ _ no

fits : (bytes : List ℕ) → length bytes ≤ 1048576 → nat_le (length bytes) 1048576 ≡ true
fits bytes few = grind (arith, nat_tests, few)

text_in-text : (bytes : List ℕ) → length bytes ≤ 1048576 → IsUtf8 bytes → text_in bytes ≡ Ok bytes
text_in-text bytes few utf8 = cond-true _ _ _ (fits bytes few) ∙ cond-true _ _ _ (is_utf8-from_IsUtf8 _ utf8)

text_in-file : (bytes : List ℕ) → length bytes ≤ 1048576 → ¬ IsUtf8 bytes → text_in bytes ≡ Err File
text_in-file bytes few other =
    cond-true _ _ _ (fits bytes few) ∙ cond-false _ _ _ (false_from_ne_true _ (λ e. other (IsUtf8-from_is_utf8 _ e)))

-- a front of one byte more than the limit that is no longer than the limit is all
whole : (bytes : List ℕ) → length (take 1048577 bytes) ≤ 1048576 → take 1048577 bytes ≡ bytes
whole bytes le = take_all 1048577 bytes (omega (arith, length-take 1048577 bytes, le))

module _ {A : Type 0} where
  -- what comes of a front of one byte more than the limit comes of all
  of_all : (bytes : List ℕ) (r : Result (String A) SourceFault) → IsTextOf (take 1048577 bytes) r
      → IsRead (Some (text_in bytes)) r
  of_all bytes (Ok s) h =
      let all = whole bytes h.0 in
      let utf8 = subst IsUtf8 (h.1 ∙ all) (IsUtf8-string_bytes s) in
      let few : length bytes ≤ 1048576 = subst (λ xs. length xs ≤ 1048576) all h.0 in
      subst (λ t. IsRead (Some t) (Ok s)) (sym (text_in-text bytes few utf8)) (h.1 ∙ all)
  of_all bytes (Err TooLong) h =
      let long : 1048576 < length bytes = omega (arith, h, length-take 1048577 bytes) in
      subst (λ t. IsRead {A = A} (Some t) (Err TooLong)) (sym (text_in-long bytes long)) (inl refl)
  of_all bytes (Err File) h =
      let all = whole bytes h.0 in
      let few : length bytes ≤ 1048576 = subst (λ xs. length xs ≤ 1048576) all h.0 in
      let other : ¬ IsUtf8 bytes = λ u. h.1 (subst IsUtf8 (sym all) u) in
      subst (λ t. IsRead {A = A} (Some t) (Err File)) (sym (text_in-file bytes few other)) (inl refl)
  of_all bytes (Err Memory) h = absurd h

  -- what comes of the front that a folder gave is what the folder's bytes are as a text
  pub of_front : {B : Type 0} (told : Option (Result (List ℕ) ReadFault)) (v : Vec ℕ B)
      (r : Result (String A) SourceFault) → IsFrontOf told 1048577 (Ok v) →
      IsTextOf v.items r → IsRead (told_text told) r
  of_front None v (Ok s) f h = tt
  of_front None v (Err e) f h = tt
  of_front (Some (Ok bytes)) v r f h = of_all bytes r (subst (λ xs. IsTextOf xs r) f h)
  of_front (Some (Err e)) v r f h = absurd f

  -- what comes of a front of one byte more than the limit comes of all that is known
  known_of_all : (bytes : List ℕ) (r : Result (String A) SourceFault) → IsTextOf (take 1048577 bytes) r
      → IsReadOf bytes r
  known_of_all bytes (Ok s) h =
      let all = whole bytes h.0 in
      (subst (λ xs. length xs ≤ 1048576) all h.0, h.1 ∙ all)
  known_of_all bytes (Err TooLong) h = omega (arith, h, length-take 1048577 bytes)
  known_of_all bytes (Err File) h = tt
  known_of_all bytes (Err Memory) h = tt

  pub of_known : (known : Option (List ℕ)) (items : List ℕ) (r : Result (String A) SourceFault)
      → IfSome known (λ bytes. items ≡ take 1048577 bytes) →
      IsTextOf items r → IfSome known (λ bytes. IsReadOf bytes r)
  of_known None items r e h = tt
  of_known (Some bytes) items r e h = known_of_all bytes r (subst (λ xs. IsTextOf xs r) e h)
