-- The line and column of a place (docs/LANGUAGE.md, "Tokens").
use Rattle.std.specs.Prelude.{ℕ, ◌+◌, Bool, ◌==◌, if◌then◌else◌, not, List, [], ◌∷◌, take}
use Rattle.std.specs.Prelude.{count_by}
use Rattle.std.specs.List.{suffix_len}

-- the byte is LF, which ends a line
abbrev pub is_line_end : ℕ → Bool
is_line_end b = b == 10

-- the byte is not LF
abbrev pub is_within_line : ℕ → Bool
is_within_line b = not (is_line_end b)

-- the line of a place: one more than the line ends before it
abbrev pub line_of : List ℕ → ℕ → ℕ
line_of text at = count_by is_line_end (take at text) + 1

-- the column of a place: one more than the bytes between the last line end before it and itself
abbrev pub column_of : List ℕ → ℕ → ℕ
column_of text at = suffix_len is_within_line (take at text) + 1

-- For use inside.

-- the places behind the line ends of a text whose first byte has the place n
abbrev pub starts_after : ℕ → List ℕ → List ℕ
starts_after n [] = []
starts_after n (b ∷ rest) = if is_line_end b then (n + 1) ∷ starts_after (n + 1) rest else starts_after (n + 1) rest

-- the places where the lines of a text begin
abbrev pub line_starts : List ℕ → List ℕ
line_starts text = 0 ∷ starts_after 0 text
