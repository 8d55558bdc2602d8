-- Lemmas on specs/Lines.antt.
use Rattle.std.proofs.Common.{◌≡◌, ◌∙◌, ◌≤◌, ◌<◌, ◌+◌, ◌*◌, ℕ, Bool, true, false, cond, List, [], ◌∷◌, ◌++◌, ◌&&◌, length, min, refl, sym, ap, subst, arith}
use Rattle.std.proofs.Common.{nat_eq, nat_le, nat_lt, ◌-◌}
use Rattle.std.proofs.lemmas.Bool.Decides.{nat_tests}
use Rattle.std.specs.Prelude.{if◌then◌else◌, not}
use Rattle.std.specs.List.{prefix_len}
use Rattle.std.proofs.lemmas.List.{append-nil, length-append}
use Rattle.id_merge.specs.Lines.{behind_digits, goes_on, is_digit, line_length, number_from, opens_number, rank, rank_behind, rank_of_end, rank_of_line}
use Rattle.id_merge.specs.Heads.{are_enough}

-- a digit is no line feed
no_digit : (b : ℕ) → is_digit b ≡ true → nat_eq b 10 ≡ true → ⊥
no_digit b digit feed =
    let is : b ≡ 10 = grind (arith, nat_tests, feed) in
    let no : is_digit 10 ≡ true = ap is_digit (sym is) ∙ digit in
    cc

-- behind a byte that is no line feed the line ends in the bytes where it does with that
line_on : (b : ℕ) (bs : List ℕ) → nat_eq b 10 ≡ false → prefix_len goes_on (b ∷ bs) < length (b ∷ bs) → prefix_len goes_on bs < length bs
line_on b bs feed h =
    let on : cond (not false) (1 + prefix_len goes_on bs) 0 < length (b ∷ bs) =
    subst (λ e. cond (not e) (1 + prefix_len goes_on bs) 0 < length (b ∷ bs)) feed h in
    omega (arith, on)

-- ---- numbers

-- a number is no more than the most
pub number_within : (most n : ℕ) (bs : List ℕ) → n ≤ most → number_from most n bs ≤ most
number_within most n [] h = h
number_within most n (b ∷ bs) h = by (is_digit b) (number_within most (min most (n * 10 + (b - 48))) bs (grind arith))
  where
    by : (d : Bool) → number_from most (min most (n * 10 + (b - 48))) bs ≤ most
        → cond d (number_from most (min most (n * 10 + (b - 48))) bs) n ≤ most
    by true rest = rest
    by false rest = h

-- of bytes with a line feed what stands behind it tells nothing
number_front : (most n : ℕ) (bs more : List ℕ) → prefix_len goes_on bs < length bs → number_from most n (bs ++ more) ≡ number_from most n bs
number_front most n [] more h = absurd (omega (arith, h))
number_front most n (b ∷ bs) more h = by (number_front most (min most (n * 10 + (b - 48))) bs more) (is_digit b) (nat_eq b 10) refl refl
  where
    by : (prefix_len goes_on bs < length bs
        → number_from most (min most (n * 10 + (b - 48))) (bs ++ more) ≡ number_from most (min most (n * 10 + (b - 48))) bs)
        → (d e : Bool) → is_digit b ≡ d → nat_eq b 10 ≡ e
        → cond d (number_from most (min most (n * 10 + (b - 48))) (bs ++ more)) n ≡ cond d (number_from most (min most (n * 10 + (b - 48))) bs) n
    by rest false e is feed = refl
    by rest true true is feed = absurd (no_digit b is feed)
    by rest true false is feed = rest (line_on b bs feed h)

behind_front : (bs more : List ℕ) → prefix_len goes_on bs < length bs
    → (behind_digits (bs ++ more) ≡ behind_digits bs ++ more) × (prefix_len goes_on (behind_digits bs) < length (behind_digits bs))
behind_front [] more h = absurd (omega (arith, h))
behind_front (b ∷ bs) more h = by (behind_front bs more) (is_digit b) (nat_eq b 10) refl refl
  where
    by : (prefix_len goes_on bs < length bs → (behind_digits (bs ++ more) ≡ behind_digits bs ++ more)
        × (prefix_len goes_on (behind_digits bs) < length (behind_digits bs)))
        → (d e : Bool) → is_digit b ≡ d → nat_eq b 10 ≡ e
        → (cond d (behind_digits (bs ++ more)) (b ∷ (bs ++ more)) ≡ cond d (behind_digits bs) (b ∷ bs) ++ more)
        × (prefix_len goes_on (cond d (behind_digits bs) (b ∷ bs)) < length (cond d (behind_digits bs) (b ∷ bs)))
    by rest false e is feed = (refl, h)
    by rest true true is feed = absurd (no_digit b is feed)
    by rest true false is feed = rest (line_on b bs feed h)

opens_front : (bs more : List ℕ) → prefix_len goes_on bs < length bs → opens_number (bs ++ more) ≡ opens_number bs
opens_front [] more h = absurd (omega (arith, h))
opens_front (b ∷ bs) more h = refl

rank_behind-front : (stamp : ℕ) (bs more : List ℕ) → prefix_len goes_on bs < length bs → rank_behind stamp (bs ++ more) ≡ rank_behind stamp bs
rank_behind-front stamp [] more h = absurd (omega (arith, h))
rank_behind-front stamp (b ∷ bs) more h = by (nat_eq b 32) refl (nat_eq b 10) refl
  where
    by : (s : Bool) → nat_eq b 32 ≡ s → (e : Bool) → nat_eq b 10 ≡ e
        → cond (s && opens_number (bs ++ more)) (stamp * 4294967296 + number_from 4294967295 0 (bs ++ more) + 1) 0
        ≡ cond (s && opens_number bs) (stamp * 4294967296 + number_from 4294967295 0 bs + 1) 0
    by false is e feed = refl
    by true is true feed = absurd (grind (arith, nat_tests, is, feed))
    by true is false feed =
        let rest = line_on b bs feed h in
        rw (opens_front bs more rest) (rw (number_front 4294967295 0 bs more rest) refl)

rank_of_line-front : (bs more : List ℕ) → prefix_len goes_on bs < length bs → rank_of_line (bs ++ more) ≡ rank_of_line bs
rank_of_line-front bs more h =
    let behind = behind_front bs more h in
    rw (opens_front bs more h) (rw (number_front 18446744073709551615 0 bs more h) (rw behind.0
    (rw (rank_behind-front (number_from 18446744073709551615 0 bs) (behind_digits bs) more behind.1) refl)))

-- ---- lines

-- the first line is that of a front where it ends in that
line_front : (bs more : List ℕ) → line_length bs < length bs → line_length (bs ++ more) ≡ line_length bs
line_front [] more h = absurd (omega (arith, h))
line_front (b ∷ bs) more h = by (line_front bs more) (nat_eq b 10) refl
  where
    by : (line_length bs < length bs → line_length (bs ++ more) ≡ line_length bs) → (e : Bool) → nat_eq b 10 ≡ e
        → cond (not e) (1 + line_length (bs ++ more)) 0 ≡ cond (not e) (1 + line_length bs) 0
    by rest true feed = refl
    by rest false feed = ap (λ n. 1 + n) (rest (line_on b bs feed h))

-- and else no shorter than it
pub line_longer : (bs more : List ℕ) → line_length bs ≤ line_length (bs ++ more)
line_longer [] more = omega arith
line_longer (b ∷ bs) more = by (line_longer bs more) (nat_eq b 10)
  where
    by : line_length bs ≤ line_length (bs ++ more) → (e : Bool)
        → cond (not e) (1 + line_length bs) 0 ≤ cond (not e) (1 + line_length (bs ++ more)) 0
    by rest true = omega arith
    by rest false = omega (arith, rest)

-- ---- ranks

rank_long : (text : List ℕ) → 4096 ≤ line_length text → rank text ≡ 0
rank_long text h = let is : nat_le 4096 (line_length text) ≡ true = grind (arith, nat_tests, h) in rw is refl

rank_whole : (text : List ℕ) → line_length text < 4096 → line_length text < length text → rank text ≡ rank_of_line text
rank_whole text short ends =
    let is : nat_le 4096 (line_length text) ≡ false = grind (arith, nat_tests, short) in
    let whole : nat_lt (line_length text) (length text) ≡ true = grind (arith, nat_tests, ends) in
    rw is (rw whole refl)

-- bytes that are enough have the rank of all
pub rank_enough : (bs more : List ℕ) (over : Bool) → are_enough bs over ≡ true → rank (bs ++ (if over then [] else more)) ≡ rank bs
rank_enough bs more true h = ap rank (append-nil bs)
rank_enough bs more false h = by (nat_lt (line_length bs) (length bs)) refl (nat_le 4096 (line_length bs)) refl
  where
    by : (e : Bool) → nat_lt (line_length bs) (length bs) ≡ e → (l : Bool) → nat_le 4096 (line_length bs) ≡ l → rank (bs ++ more) ≡ rank bs
    by true ends true long =
        let many : 4096 ≤ line_length bs = grind (arith, nat_tests, long) in
        let longer = line_longer bs more in
        rank_long (bs ++ more) (omega (arith, many, longer)) ∙ sym (rank_long bs many)
    by true ends false long =
        let within : line_length bs < length bs = grind (arith, nat_tests, ends) in
        let short : line_length bs < 4096 = grind (arith, nat_tests, long) in
        let same = line_front bs more within in
        let many = length-append bs more in
        rank_whole (bs ++ more) (omega (arith, same, short)) (omega (arith, same, within, many)) ∙ rank_of_line-front bs more within
        ∙ sym (rank_whole bs short within)
    by false ends l long =
        let open_end : length bs ≤ line_length bs = grind (arith, nat_tests, ends) in
        let enough : nat_le 4096 (length bs) ≡ true = rw ends at h in
        let much : 4096 ≤ length bs = grind (arith, nat_tests, enough) in
        let longer = line_longer bs more in
        rank_long (bs ++ more) (omega (arith, open_end, much, longer)) ∙ sym (rank_long bs (omega (arith, open_end, much)))

rank_behind-within : (stamp : ℕ) (bs : List ℕ) → stamp ≤ 18446744073709551615 → rank_behind stamp bs ≤ 79228162514264337593543950336
rank_behind-within stamp [] h = omega arith
rank_behind-within stamp (b ∷ bs) h = by (nat_eq b 32 && opens_number bs)
  where
    by : (s : Bool) → cond s (stamp * 4294967296 + number_from 4294967295 0 bs + 1) 0 ≤ 79228162514264337593543950336
    by true = let within = number_within 4294967295 0 bs (omega arith) in omega (arith, within, h)
    by false = omega arith

rank_of_line-within : (text : List ℕ) → rank_of_line text ≤ 79228162514264337593543950336
rank_of_line-within text = by (opens_number text)
  where
    by : (s : Bool) → cond s (rank_behind (number_from 18446744073709551615 0 text) (behind_digits text)) 0 ≤ 79228162514264337593543950336
    by true = rank_behind-within (number_from 18446744073709551615 0 text) (behind_digits text) (number_within 18446744073709551615 0 text (omega arith))
    by false = omega arith

-- the rank behind all is that of no bytes
pub rank_none : (text : List ℕ) → 79228162514264337593543950338 ≤ rank text → text ≡ []
rank_none [] h = refl
rank_none (b ∷ bs) h = by (nat_le 4096 (line_length (b ∷ bs))) (nat_lt (line_length (b ∷ bs)) (length (b ∷ bs))) h
  where
    by : (l w : Bool) → 79228162514264337593543950338 ≤ cond l 0 (cond w (rank_of_line (b ∷ bs)) (rank_of_end (length (b ∷ bs)))) → b ∷ bs ≡ []
    by true w h = absurd (omega (arith, h))
    by false true h = let within = rank_of_line-within (b ∷ bs) in absurd (omega (arith, h, within))
    by false false h =
        let some : nat_eq (length (b ∷ bs)) 0 ≡ false = grind (arith, nat_tests) in
        absurd (omega (arith, rw some at h))
