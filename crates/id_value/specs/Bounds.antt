-- Bounds of structures, and which indices lie between them (docs/MEANING.md, "Operators").
use Rattle.std.specs.Prelude.{ℤ, pos, ◌+ℤ◌, ◌-ℤ◌, int_le, Bool, ◌&&◌}

-- whether a structure may have these bounds: it has at least no element, and at most 1,000,000
abbrev pub are_good : ℤ → ℤ → Bool
are_good lo hi = int_le (lo -ℤ pos 1) hi && int_le ((hi -ℤ lo) +ℤ pos 1) (pos 1000000)

-- whether the index is one of an element between these bounds
abbrev pub is_inside : ℤ → ℤ → ℤ → Bool
is_inside lo hi i = int_le lo i && int_le i hi
