-- What the bytes of a name are, as it is kept.
use Rattle.std.specs.Prelude.{ℕ, ◌≤◌, List, take, box_value, string_bytes}
use Rattle.std.specs.Str.{IsUtf8}
use Rattle.id_text.specs.declared.identifier.Spelling.{Spelling}
use Rattle.id_text.specs.declared.identifier.Spelling.TheVariants.{Short, Long}

-- the bytes of the name
abbrev pub spelled : Spelling → List ℕ
spelled (Short len bytes) = take len bytes
spelled (Long text) = string_bytes (box_value text)

-- a short name is a text of at most 14 bytes
abbrev pub IsSound : Spelling → Type 0
IsSound (Short len bytes) = (len ≤ 14) × IsUtf8 (take len bytes)
IsSound (Long text) = Unit {0}
