-- What the readers of pieces have found, as pieces.
use Rattle.std.proofs.Common.{◌≡◌, ◌≢◌, ℕ, ◌-◌, ◌<◌, ◌^◌, Bool, true, List, [], ◌∷◌, take, drop, get_or, length, Some}
use Rattle.std.proofs.Common.{None, ℤ, pos, sym, ap, ◌∙◌, subst, arith, add-zero, length-drop, length-take}
use Rattle.std.proofs.Common.{get_or-drop, get_or-take}
use Rattle.std.specs.Prelude.{take_while}
use Rattle.std.specs.List.{prefix_len, AllPass}
use Rattle.std.specs.Char.{is_ascii_digit}
use Rattle.std.proofs.lemmas.List.Folds.{length-prefix_len}
use Rattle.std.proofs.lemmas.List.Sums.{prefix_len_passes}
use Rattle.std.proofs.lemmas.List.{take_rest}
use Rattle.id_text.specs.Bytes.{is_blank, is_percent, is_comment_byte, is_letter, is_name_byte, number_of, word_of, sign_of}
use Rattle.id_text.specs.Lexes.{Opens, HasLongestSign, Begins}
use Rattle.id_text.specs.Lexes.Begins.{blank, comment, word, name, number, sign}
use Rattle.id_text.specs.declared.token.Keyword.{Keyword}
use Rattle.id_text.specs.declared.token.Symbol.{Symbol}
use Rattle.id_text.specs.declared.token.TokenKind.TheVariants.{Name, Number, Key, Sign}

-- a text opens with its first byte
pub opens_by_first : (p : ℕ → Bool) (text : List ℕ) → 0 < length text → p (get_or text 0 0) ≡ true → Opens p text
opens_by_first p [] some passes = absurd (omega arith)
opens_by_first p (b ∷ rest) some passes = passes

-- a reserved word that is the text's longest run of name bytes is its first piece
pub begins_word : (text w : List ℕ) (k : Keyword) → Opens is_letter text → w ≡ take_while is_name_byte text → w ≡ word_of k →
    Begins text (Some (Key k)) (length w)
begins_word text w k opens run spelled = rw (ap length run ∙ length-prefix_len is_name_byte text) (word k opens (sym run ∙ spelled))

-- a run that is no reserved word is a name
pub begins_name : (text w : List ℕ) → Opens is_letter text → w ≡ take_while is_name_byte text → ((k : Keyword) → w ≢ word_of k) →
    Begins text (Some (Name w)) (length w)
begins_name text w opens run other =
    rw run (rw (length-prefix_len is_name_byte text) (name opens (λ k spelled. other k (run ∙ spelled))))

-- a run of digits is its number
pub begins_number : (text : List ℕ) (n : ℕ) (v : ℤ) → Opens is_ascii_digit text → n ≡ prefix_len is_ascii_digit text → number_of (take n text) < 2 ^ 63 →
    v ≡ pos (number_of (take n text)) → Begins text (Some (Number v)) n
begins_number text n v opens run fits value = rw (value, run) (number opens (subst (λ i. number_of (take i text) < 2 ^ 63) run fits))

-- the longest sign is the text's first piece
pub begins_sign : (text : List ℕ) (s : Symbol) (n : ℕ) → HasLongestSign text s → n ≡ length (sign_of s) → Begins text (Some (Sign s)) n
begins_sign text s n longest len = rw len (sign s longest)

-- what is left of a text opens with the byte at its place
pub opens_at : (p : ℕ → Bool) (text : List ℕ) (at : ℕ) → at < length text → p (get_or text at 0) ≡ true → Opens p (drop at text)
opens_at p text at before passes =
    opens_by_first p (drop at text) (omega (arith, length-drop at text)) (ap p (get_or-drop at text 0 0 ∙ ap (λ i. get_or text i 0) (add-zero at)) ∙ passes)

-- each byte of a run passes the run's test
pub run_passes : (p : ℕ → Bool) (text : List ℕ) (n : ℕ) → n ≡ prefix_len p text → AllPass p (take n text)
run_passes p text n run k d inside =
    let within : k < n = omega (arith, length-take n text) in
    ap p (get_or-take n text k d within) ∙ prefix_len_passes p text k d (omega (arith, run))

-- what a slice from a place on has, and that it is not empty
pub rest_is : (bytes text : List ℕ) (at : ℕ) → bytes ≡ text → take (length bytes - at) (drop at bytes) ≡ drop at text
rest_is bytes text at same = take_rest bytes at ∙ ap (drop at) same

pub rest_some : (text : List ℕ) (at : ℕ) → at < length text → 0 < length (drop at text)
rest_some text at before = omega (arith, length-drop at text)

-- a blank is a piece
pub begins_blank : (text rest : List ℕ) → rest ≡ text → 0 < length text → is_blank (get_or rest 0 0) ≡ true → Begins text None 1
begins_blank text rest same some passes = blank (opens_by_first is_blank text some (ap (λ bytes. is_blank (get_or bytes 0 0)) (sym same) ∙ passes))

-- a comment is a piece
pub begins_comment : (text rest : List ℕ) (n : ℕ) → rest ≡ text → 0 < length text → get_or rest 0 0 ≡ 37 → n ≡ prefix_len is_comment_byte rest →
    Begins text None n
begins_comment text rest n same some percent len =
    rw (len, same) (comment (opens_by_first is_percent text some (ap (λ bytes. is_percent (get_or bytes 0 0)) (sym same) ∙ ap is_percent percent)))
