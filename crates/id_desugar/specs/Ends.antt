-- For each row the row where what begins there ends, and for each variable of a loop its `next` (docs/GRAPH.md,
-- "Imports").
use Rattle.std.specs.Prelude.{◌≡◌, ◌<◌, ◌+◌, ℕ, Bool, false, if◌then◌else◌, nat_eq, unwrap_or}
use Rattle.std.specs.Prelude.{List, length, get_or, Option, None, Some}
use Rattle.std.specs.Option.{option_or}
use Rattle.id_table.specs.declared.row.Node.{Node}
use Rattle.id_table.specs.declared.row.Node.TheVariants.{If, Call, Next, Loop, Def}
use Rattle.id_table.specs.Rows.{at}
use Rattle.id_check.specs.declared.checked.Checked.{Checked}
use Rattle.id_check.specs.Programs.{rows}
use Rattle.id_check.specs.Scopes.{first_of}

-- where what ends at a row of this node begins, if something does: a procedure at its head, a conditional's arms at its
-- split, a call at its `Enter`, a loop at its head
abbrev pub begun_at : Node → Option ℕ
begun_at (Def x h k b) = Some h
begun_at (If s x y) = Some s
begun_at (Call e c) = Some e
begun_at (Loop h w l) = Some h
begun_at _ = None

-- whether it is this row
abbrev pub is_row : ℕ → Option ℕ → Bool
is_row h None = false
is_row h (Some g) = nat_eq g h

-- whether what begins at the row h ends at a row of this node
abbrev pub ends_what : ℕ → Node → Bool
ends_what h n = is_row h (begun_at n)

-- the row n, if what begins at the row h ends there
abbrev pub end_at : Checked → ℕ → ℕ → Option ℕ
end_at P h n = if ends_what h (at (rows P) n).node then Some n else None

-- the row where what begins at the row h ends, if something does
abbrev pub end_row : Checked → ℕ → Option ℕ
end_row P h = first_of (end_at P h) (length (rows P))

-- the row where what begins at the row h ends, or 0 if nothing does
abbrev pub end_of : Checked → ℕ → ℕ
end_of P h = unwrap_or (end_row P h) 0

-- the row of the variable of a `next` of this node in the loop with the head h: they stand behind the head, by index
abbrev pub variable_of : ℕ → Node → Option ℕ
variable_of h (Next x k o v) = Some (h + 1 + k)
variable_of h _ = None

-- the row n, if the `next` of the variable at the row v stands there
abbrev pub next_at : Checked → ℕ → ℕ → Option ℕ
next_at P v n = let r = at (rows P) n in if is_row v (variable_of r.block r.node) then Some n else None

-- the row of the `next` of the variable at the row v, if one stands there
abbrev pub next_row : Checked → ℕ → Option ℕ
next_row P v = first_of (next_at P v) (length (rows P))

-- the row of the `next` of the variable at the row v, or 0 if none stands there
abbrev pub next_of : Checked → ℕ → ℕ
next_of P v = unwrap_or (next_row P v) 0

-- for each row h what f h gives first below n
pub record AreFirst (P : Checked) (f : ℕ → ℕ → Option ℕ) (n : ℕ) (es : List (Option ℕ)) : Type 0 where
  pub many : length es ≡ length (rows P)
  pub each : (h : ℕ) → h < length (rows P) → get_or es h None ≡ first_of (f h) n

-- for each row the row where what begins there ends
abbrev pub AreEnds : Checked → List (Option ℕ) → Type 0
AreEnds P es = AreFirst P (end_at P) (length (rows P)) es

-- for each row of a variable the row of its `next`
abbrev pub AreNexts : Checked → List (Option ℕ) → Type 0
AreNexts P ns = AreFirst P (next_at P) (length (rows P)) ns

-- what is noted for the row h after the row n, where that is to be noted for b, and o was before
abbrev pub IsNoted : ℕ → Option ℕ → ℕ → Option ℕ → Option ℕ → Type 0
IsNoted n b h o e = e ≡ option_or o (if is_row h b then Some n else None)
