-- How the line at the front of a log stands to those of other logs (docs/RUNTIMES.md, "Several logs").
use Rattle.std.specs.Prelude.{ℕ, Bool, false, ◌+◌, ◌-◌, ◌*◌, ◌&&◌, if◌then◌else◌, min, not, nat_eq, nat_le, nat_lt}
use Rattle.std.specs.Prelude.{List, [], ◌∷◌, length}
use Rattle.std.specs.List.{prefix_len}

-- the byte is a digit
abbrev pub is_digit : ℕ → Bool
is_digit b = nat_le 48 b && nat_le b 57

-- the byte is no line feed
abbrev pub goes_on : ℕ → Bool
goes_on b = not (nat_eq b 10)

-- the number that the digits at the front of the bytes go on to from this one, but no more than the most
abbrev pub number_from : ℕ → ℕ → List ℕ → ℕ
number_from most n [] = n
number_from most n (b ∷ bs) = if is_digit b then number_from most (min most (n * 10 + (b - 48))) bs else n

-- what stands behind the digits at the front
abbrev pub behind_digits : List ℕ → List ℕ
behind_digits [] = []
behind_digits (b ∷ bs) = if is_digit b then behind_digits bs else b ∷ bs

-- a digit is at the front
abbrev pub opens_number : List ℕ → Bool
opens_number [] = false
opens_number (b ∷ bs) = is_digit b

-- the rank of a line that begins with this stamp, behind which the bytes stand: by the stamp and then by the element,
-- or the least where no element stands there
abbrev pub rank_behind : ℕ → List ℕ → ℕ
rank_behind stamp [] = 0
rank_behind stamp (b ∷ bs) =
    if nat_eq b 32 && opens_number bs then stamp * 4294967296 + number_from 4294967295 0 bs + 1 else 0

-- the rank of a whole line: the least where no two numbers are at its front
abbrev pub rank_of_line : List ℕ → ℕ
rank_of_line text =
    if opens_number text then rank_behind (number_from 18446744073709551615 0 text) (behind_digits text) else 0

-- how many bytes the first line of a text has before its line feed
abbrev pub line_length : List ℕ → ℕ
line_length text = prefix_len goes_on text

-- the rank where a text has no line feed: behind all lines that of a line that it breaks off in; and behind that none
abbrev pub rank_of_end : ℕ → ℕ
rank_of_end length = if nat_eq length 0 then 79228162514264337593543950338 else 79228162514264337593543950337

-- the rank of the first line of a text: the least where it is longer than the line of any event
abbrev pub rank : List ℕ → ℕ
rank text =
    if nat_le 4096 (line_length text) then 0
    else if nat_lt (line_length text) (length text) then rank_of_line text
    else rank_of_end (length text)
