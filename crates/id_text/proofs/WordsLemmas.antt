-- Where a word of a text ends, and that the text may be cut there.
use Rattle.std.proofs.Common.{◌≡◌, ℕ, ◌+◌, ◌-◌, ◌<◌, ◌≤◌, true, List, drop, length, get_or, IsUtf8, subst, arith, length-drop, get_or-drop}
use Rattle.std.specs.List.{prefix_len}
use Rattle.std.specs.Str.{IsCharBoundary}
use Rattle.std.proofs.lemmas.Str.{IsCharBoundary-after_ascii}
use Rattle.std.proofs.lemmas.List.Sums.{prefix_len-drop_yes, prefix_len_passes, prefix_len-le-length}
use Rattle.std.proofs.lemmas.Bool.Decides.{nat_tests}
use Rattle.id_text.specs.Bytes.{is_letter, is_name_byte}

-- a byte of a name is ASCII
pub is_name_byte-ascii : (b : ℕ) → is_name_byte b ≡ true → b < 128
is_name_byte-ascii b passes = grind (arith, nat_tests)

-- a letter goes on a name
pub is_name_byte-letter : (b : ℕ) → is_letter b ≡ true → is_name_byte b ≡ true
is_name_byte-letter b passes = grind (arith, nat_tests)

-- the word at a place ends within the text
pub word_fits : (bytes : List ℕ) (at : ℕ) → at < length bytes → at + prefix_len is_name_byte (drop at bytes) ≤ length bytes
word_fits bytes at before =
    let fits = prefix_len-le-length is_name_byte (drop at bytes) in
    omega (arith, length-drop at bytes)

-- where a letter stands, the word has a byte
pub word_nonempty : (bytes : List ℕ) (at : ℕ) → at < length bytes → is_letter (get_or bytes at 0) ≡ true → 0 < prefix_len is_name_byte (drop at bytes)
word_nonempty bytes at before letter =
    let more = prefix_len-drop_yes is_name_byte bytes at 0 before (is_name_byte-letter (get_or bytes at 0) letter) in
    omega arith

-- the text may be cut behind the word, since the word's last byte is ASCII
pub word_boundary : (bytes : List ℕ) (at : ℕ) → IsUtf8 bytes → at < length bytes → is_letter (get_or bytes at 0) ≡ true →
    IsCharBoundary bytes (at + prefix_len is_name_byte (drop at bytes))
word_boundary bytes at utf8 before letter =
    let n = prefix_len is_name_byte (drop at bytes) in
    let some : 0 < n = word_nonempty bytes at before letter in
    let fits : at + n ≤ length bytes = word_fits bytes at before in
    let last = is_name_byte-ascii (get_or (drop at bytes) (n - 1) 0) (prefix_len_passes is_name_byte (drop at bytes) (n - 1) 0 (omega arith)) in
    let back : at + (n - 1) + 1 ≡ at + n = omega arith in
    subst (IsCharBoundary bytes) back
    (IsCharBoundary-after_ascii bytes (at + (n - 1)) utf8 (omega arith) (subst (λ b. b < 128) (get_or-drop at bytes (n - 1) 0) last))
