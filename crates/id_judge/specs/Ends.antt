-- Where the first line of a text ends, and whether it may be that of an event (docs/MACHINE.md, "Judges").
use Rattle.std.specs.Prelude.{◌≡◌, ◌≤◌, ◌⊎◌, ◌&&◌, ℕ, Bool, false, IsTrue}
use Rattle.std.specs.Prelude.{List, [], ◌∷◌, ◌++◌, length, nat_eq, nat_le, take}
use Rattle.std.specs.List.{list_any}

-- a line feed is among the bytes
abbrev pub has_end : List ℕ → Bool
has_end bs = list_any (λ b. nat_eq b 10) bs

-- the bytes begin with a digit
abbrev pub begin_with_digit : List ℕ → Bool
begin_with_digit [] = false
begin_with_digit (b ∷ bs) = nat_le 48 b && nat_le b 57

-- a digit opens the first line, which ends within 4096 bytes, as that of each event does
abbrev pub is_line : List ℕ → Bool
is_line text = begin_with_digit text && has_end (take 4096 text)

-- nothing comes behind the text, or its first line ends in it, or that is longer than the line of any event
abbrev pub IsEnough : List ℕ → List ℕ → Type 0
IsEnough text more = (more ≡ []) ⊎ IsTrue (has_end text) ⊎ (4096 ≤ length text)

-- nothing comes behind the text, or it ends with a line
abbrev pub IsOfLines : List ℕ → List ℕ → Type 0
IsOfLines text more = (more ≡ []) ⊎ ((body : List ℕ) × (text ≡ body ++ 10 ∷ []))
