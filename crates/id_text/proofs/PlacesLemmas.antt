-- The starts of lines give lines and columns.
use Rattle.std.proofs.Common.{◌≡◌, ℕ, zero, suc, ◌+◌, ◌-◌, ◌<◌, ◌≤◌, Bool, true, false, cond, leb, not, List, [], ◌∷◌}
use Rattle.std.proofs.Common.{take, length, get_or, count_by, refl, sym, ap, ◌∙◌, subst, arith, le-leb, zero-add}
use Rattle.std.proofs.Common.{one-add, add-one, length-take-le}
use Rattle.std.specs.List.{prefix_len, suffix_len}
use Rattle.std.specs.List.Sorted.{IsNonDecreasing}
use Rattle.std.proofs.lemmas.List.Sums.{prefix_len_is, prefix_len-le-length, count_by-le-length, sum_by-cons}
use Rattle.std.proofs.lemmas.List.Sums.{count_by_more_yes, count_by_more_no, suffix_len-take_yes, suffix_len-take_no}
use Rattle.std.proofs.lemmas.Bool.Decides.{nat_tests}
use Rattle.id_text.specs.Places.{is_line_end, is_within_line, line_of, column_of, starts_after, line_starts}

-- how many lines end among the first bytes
abbrev ends_before : List ℕ → ℕ → ℕ
ends_before text at = count_by is_line_end (take at text)

-- a list whose head is least rises if the rest does
cons_rises : (x : ℕ) (xs : List ℕ) → ((j d : ℕ) → j < length xs → x ≤ get_or xs j d) → IsNonDecreasing xs → IsNonDecreasing (x ∷ xs)
cons_rises x xs least rises zero zero d le inside = omega arith
cons_rises x xs least rises zero (suc j) d le inside = least j d (omega arith)
cons_rises x xs least rises (suc i) zero d le inside = absurd (omega arith)
cons_rises x xs least rises (suc i) (suc j) d le inside = rises i j d (omega arith) (omega arith)

-- the starts behind a place are behind it
above_step : (v : Bool) (n : ℕ) (rs : List ℕ) → ((j d : ℕ) → j < length rs → n + 1 < get_or rs j d) →
    (j d : ℕ) → j < length (cond v ((n + 1) ∷ rs) rs) → n < get_or (cond v ((n + 1) ∷ rs) rs) j d
above_step true n rs above zero d inside = omega arith
above_step true n rs above (suc j) d inside = let up = above j d (omega arith) in omega arith
above_step false n rs above j d inside = let up = above j d inside in omega arith

starts_above : (n : ℕ) (text : List ℕ) (j d : ℕ) → j < length (starts_after n text) → n < get_or (starts_after n text) j d
starts_above n [] j d inside = absurd (omega arith)
starts_above n (b ∷ rest) j d inside =
    above_step (is_line_end b) n (starts_after (n + 1) rest) (starts_above (n + 1) rest) j d inside

rise_step : (v : Bool) (x : ℕ) (rs : List ℕ) → ((j d : ℕ) → j < length rs → x < get_or rs j d) → IsNonDecreasing rs → IsNonDecreasing (cond v (x ∷ rs) rs)
rise_step true x rs above rises = cons_rises x rs (λ j d inside. let up = above j d inside in omega arith) rises
rise_step false x rs above rises = rises

starts_rise : (n : ℕ) (text : List ℕ) → IsNonDecreasing (starts_after n text)
starts_rise n [] = λ i j d le inside. absurd (omega arith)
starts_rise n (b ∷ rest) =
    rise_step (is_line_end b) (n + 1) (starts_after (n + 1) rest) (starts_above (n + 1) rest) (starts_rise (n + 1) rest)

pub line_starts_rise : (text : List ℕ) → IsNonDecreasing (line_starts text)
line_starts_rise text = cons_rises 0 (starts_after 0 text) (λ j d inside. omega arith) (starts_rise 0 text)

-- a place has as many starts up to it as lines end before it
until_step : (v : Bool) (x at c : ℕ) (rs : List ℕ) → x ≤ at → prefix_len (λ s. leb s at) rs ≡ c →
    prefix_len (λ s. leb s at) (cond v (x ∷ rs) rs) ≡ cond v 1 0 + c
until_step true x at c rs below same = rw (le-leb x at below, same) refl
until_step false x at c rs below same = same ∙ sym (zero-add c)

none_until : (n : ℕ) (text : List ℕ) → prefix_len (λ s. leb s n) (starts_after n text) ≡ 0
none_until n text =
    prefix_len_is (λ s. leb s n) (starts_after n text) 0 0 (omega arith) (λ k below. absurd (omega arith))
    (λ some. let up = starts_above n text 0 0 some in grind (arith, nat_tests))

starts_until : (n : ℕ) (text : List ℕ) (k : ℕ) → k ≤ length text → prefix_len (λ s. leb s (n + k)) (starts_after n text) ≡ ends_before text k
starts_until n text zero fits = subst (λ at. prefix_len (λ s. leb s at) (starts_after n text) ≡ 0) (let same : n ≡ n + 0 = omega arith in same)
    (none_until n text)
starts_until n [] (suc k) fits = refl
starts_until n (b ∷ rest) (suc k) fits =
    let there : n + 1 + k ≡ n + suc k = omega arith in
    let inner = subst (λ at. prefix_len (λ s. leb s at) (starts_after (n + 1) rest) ≡ ends_before rest k) there (starts_until (n + 1) rest k (omega arith)) in
    until_step (is_line_end b) (n + 1) (n + suc k) (ends_before rest k) (starts_after (n + 1) rest) (omega arith) inner ∙
    sym (sum_by-cons (λ x. cond (is_line_end x) 1 0) b (take k rest))

pub line_starts_until : (text : List ℕ) (at : ℕ) → at ≤ length text → prefix_len (λ s. leb s at) (line_starts text) ≡ ends_before text at + 1
line_starts_until text at fits =
    let inner = subst (λ i. prefix_len (λ s. leb s i) (starts_after 0 text) ≡ ends_before text at) (zero-add at) (starts_until 0 text at fits) in
    rw (le-leb 0 at (omega arith), inner) (omega arith)

-- behind a line end a line starts
start_step : (v : Bool) (x c : ℕ) (rs : List ℕ) → get_or (cond v (x ∷ rs) rs) (cond v 1 0 + c) 0 ≡ get_or rs c 0
start_step true x c rs = ap (λ i. get_or (x ∷ rs) i 0) (one-add c)
start_step false x c rs = ap (λ i. get_or rs i 0) (zero-add c)

start_at : (n : ℕ) (text : List ℕ) (k : ℕ) → k < length text → is_line_end (get_or text k 0) ≡ true →
    get_or (starts_after n text) (ends_before text k) 0 ≡ n + k + 1
start_at n [] k inside ends = absurd (omega arith)
start_at n (b ∷ rest) zero inside ends = rw ends (omega arith)
start_at n (b ∷ rest) (suc k) inside ends =
    ap (λ i. get_or (starts_after n (b ∷ rest)) i 0) (sum_by-cons (λ x. cond (is_line_end x) 1 0) b (take k rest))
    ∙ start_step (is_line_end b) (n + 1) (ends_before rest k) (starts_after (n + 1) rest)
    ∙ start_at (n + 1) rest k (omega arith) ends
    ∙ (let there : n + 1 + k + 1 ≡ n + suc k + 1 = omega arith in there)

-- where the line of a place starts
abbrev pub start_of : List ℕ → ℕ → ℕ
start_of text at = get_or (line_starts text) (ends_before text at) 0

column_step : (v : Bool) (text : List ℕ) (at : ℕ) → at < length text → is_line_end (get_or text at 0) ≡ v →
    start_of text at + suffix_len is_within_line (take at text) ≡ at →
    start_of text (at + 1) + suffix_len is_within_line (take (at + 1) text) ≡ at + 1
column_step true text at inside ends before =
    let back : at + 1 - 1 ≡ at = omega arith in
    let none = suffix_len-take_no is_within_line text (at + 1) 0 (omega arith) (omega arith) (ap (λ i. is_within_line (get_or text i 0)) back ∙ ap not ends) in
    let next = ap (λ i. get_or (line_starts text) i 0) (count_by_more_yes is_line_end text at 0 inside ends ∙ add-one (ends_before text at)) in
    let start = start_at 0 text at inside ends in
    rw (next, none) (omega arith)
column_step false text at inside ends before =
    let back : at + 1 - 1 ≡ at = omega arith in
    let more = suffix_len-take_yes is_within_line text (at + 1) 0 (omega arith) (omega arith) (ap (λ i. is_within_line (get_or text i 0)) back ∙ ap not ends)
    ∙ ap (λ i. 1 + suffix_len is_within_line (take i text)) back in
    let same = ap (λ i. get_or (line_starts text) i 0) (count_by_more_no is_line_end text at 0 inside ends) in
    rw (same, more) (omega arith)

-- behind its line's start a place has as many bytes as stand within the line before it
pub start_of-column : (text : List ℕ) (at : ℕ) → at ≤ length text → start_of text at + suffix_len is_within_line (take at text) ≡ at
start_of-column text zero fits = refl
start_of-column text (suc at) fits =
    rw (← add-one at) (column_step (is_line_end (get_or text at 0)) text at (omega arith) refl (start_of-column text at (omega arith)))

-- no place's line is above the number of bytes before it
pub line_of_le : (text : List ℕ) (at : ℕ) → at ≤ length text → line_of text at ≤ at + 1
line_of_le text at inside = omega (arith, count_by-le-length is_line_end (take at text), length-take-le at text inside)

-- the first of a rising list that are up to a place are all of them, where the last of them is and the next one is not
pub until_is : (starts : List ℕ) (at near : ℕ) → IsNonDecreasing starts → 0 < near → near ≤ length starts → get_or starts (near - 1) 0 ≤ at
    → (near < length starts → at < get_or starts near 0) → near ≡ prefix_len (λ s. leb s at) starts
until_is starts at near rises some fits last next =
    sym (prefix_len_is (λ s. leb s at) starts near 0 fits
    (λ k below. let up = rises k (near - 1) 0 (omega arith) (omega arith) in le-leb (get_or starts k 0) at (omega arith))
    (λ more. let above = next more in grind (arith, nat_tests)))

-- what the search among the starts of a text finds: the line of the place, and where it starts
pub record IsFound (text starts : List ℕ) (at line : ℕ) : Type 0 where
  pub within : line - 1 < length starts
  pub is_line : line ≡ line_of text at
  pub line_le : line ≤ at + 1
  pub start_le : get_or starts (line - 1) 0 ≤ at
  pub is_column : at - get_or starts (line - 1) 0 + 1 ≡ column_of text at

pub found : (text starts : List ℕ) (at line : ℕ) → starts ≡ line_starts text → at ≤ length text → line ≡ prefix_len (λ s. leb s at) starts →
    IsFound text starts at line
found text starts at line those inside counted =
    let is_line : line ≡ line_of text at = counted ∙ ap (prefix_len (λ s. leb s at)) those ∙ line_starts_until text at inside in
    let fits : line ≤ length starts = rw counted (prefix_len-le-length (λ s. leb s at) starts) in
    let before : line - 1 ≡ ends_before text at = omega arith in
    let is_start : get_or starts (line - 1) 0 ≡ start_of text at = λ i. get_or (those i) (before i) 0 in
    let column = start_of-column text at inside in
    record {
      within = omega arith;
      is_line = is_line;
      line_le = omega (arith, line_of_le text at inside);
      start_le = omega arith;
      is_column = omega arith;
    }
