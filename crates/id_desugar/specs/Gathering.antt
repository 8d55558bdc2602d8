-- How the order is made and the imports are gathered, from the innermost construct outwards.
use Rattle.std.specs.Prelude.{◌≡◌, ◌≤◌, ◌<◌, ◌+◌, ◌-◌, ◌==◌, ℕ, Bool, true, false}
use Rattle.std.specs.Prelude.{if◌then◌else◌, ◌||◌, nat_lt}
use Rattle.std.specs.Prelude.{List, [], ◌∷◌, length, get_or, Option, None, Some}
use Rattle.id_table.specs.declared.row.Node.{Node}
use Rattle.id_table.specs.Rows.{at}
use Rattle.id_table.specs.Tables.{is_split, is_switches}
use Rattle.id_check.specs.declared.checked.Checked.{Checked}
use Rattle.id_check.specs.Programs.{rows, binder}
use Rattle.id_desugar.specs.declared.imports.Span.{Span}
use Rattle.id_desugar.specs.Ends.{end_of, end_row}
use Rattle.id_desugar.specs.Regions.{has, imports, imports_by, imports_of, in_block, is_loop_head, is_right_in, used_by}
use Rattle.id_desugar.specs.Regions.{with_use}

-- ---- the rows of blocks

-- the first number from lo up to n of which f is true, if there is one
abbrev pub IsFirstFrom : (ℕ → Bool) → ℕ → ℕ → Option ℕ → Type 0
IsFirstFrom f lo n None = (i : ℕ) → lo ≤ i → i < n → f i ≡ false
IsFirstFrom f lo n (Some j) =
    (lo ≤ j) × (j < n) × (f j ≡ true) × ((i : ℕ) → lo ≤ i → i < j → f i ≡ false)

-- of the rows from lo up to n, the first of each block, by head, and the next of its block for each row
pub record AreChains (P : Checked) (lo n : ℕ) (firsts nexts : List (Option ℕ)) : Type 0 where
  pub many_firsts : length firsts ≡ length (rows P)
  pub many_nexts : length nexts ≡ length (rows P)
  pub first : (h : ℕ) → h < length (rows P) → IsFirstFrom (in_block P h) lo n (get_or firsts h None)
  pub next : (i : ℕ) → lo ≤ i → i < n
      → IsFirstFrom (in_block P (at (rows P) i).block) (i + 1) n (get_or nexts i None)

-- ---- uses

-- whether a construct that uses names from outside begins at a row of this node: a conditional's arms or a loop
abbrev pub is_opening : Node → Bool
is_opening n = is_split n || is_loop_head n

-- whether a row of this node may import something
abbrev pub may_import : Node → Bool
may_import n = is_opening n || is_switches n

-- whether the row stands right in a side of the switches of the loop with this head, if one is given
abbrev pub is_own : Checked → Option ℕ → ℕ → Bool
is_own P None i = false
is_own P (Some g) i = is_right_in P g i

-- the binder of the value that the row uses, if it uses one; first values of the loop with this head, if one is given,
-- do not count
abbrev pub used_in : Checked → Option ℕ → ℕ → Option ℕ
used_in P o i = used_by (is_own P o i) (binder P i) (at (rows P) i).node

-- the binders that the construct which begins at the row h uses from outside, its own first values included
abbrev pub uses_of : Checked → ℕ → List ℕ
uses_of P h = if is_opening (at (rows P) h).node then imports (used_in P None) (h + 1) (end_of P h) else []

-- whether the row is one of the first n rows
abbrev pub is_before : ℕ → Option ℕ → Bool
is_before n None = false
is_before n (Some e) = nat_lt e n

-- there is a list for each row: what the construct uses that begins there, where it ends among the first n rows, and
-- else nothing
pub record AreFilled (P : Checked) (n : ℕ) (L : List (List ℕ)) : Type 0 where
  pub many : length L ≡ length (rows P)
  pub each : (h : ℕ) → h < length (rows P)
      → get_or L h [] ≡ (if is_before n (end_row P h) then uses_of P h else [])

-- the lists are those of uses from the row n on, and those of imports before it
pub record AreTurned (P : Checked) (n : ℕ) (L : List (List ℕ)) : Type 0 where
  pub many : length L ≡ length (rows P)
  pub imported : (h : ℕ) → h < n → h < length (rows P) → get_or L h [] ≡ imports_of P h
  pub used : (h : ℕ) → n ≤ h → h < length (rows P) → get_or L h [] ≡ uses_of P h

-- a construct begins at the row s, from lo on, and ends at the row e, before hi
pub record IsInner (P : Checked) (lo hi s e : ℕ) : Type 0 where
  pub low : lo ≤ s
  pub high : e < hi
  pub ends : end_row P s ≡ Some e
  pub opening : is_opening (at (rows P) s).node ≡ true

-- the lists have what the constructs from lo up to hi use
pub record AreGathered (P : Checked) (lo hi : ℕ) (L : List (List ℕ)) : Type 0 where
  pub many : length L ≡ length (rows P)
  pub each : (s e : ℕ) → IsInner P lo hi s e → get_or L s [] ≡ uses_of P s

-- in the constructs from lo up to hi each use counts
pub record AllCount (P : Checked) (own : Option ℕ) (lo hi : ℕ) : Type 0 where
  pub each : (s e i : ℕ) → IsInner P lo hi s e → s < i → i < e → used_in P own i ≡ used_in P None i

-- each mark is below s
abbrev pub AreBelow : ℕ → List ℕ → Type 0
AreBelow s M = (b : ℕ) → get_or M b 0 < s

-- there is a mark for each row, each below s
pub record AreMarks (P : Checked) (s : ℕ) (M : List ℕ) : Type 0 where
  pub many : length M ≡ length (rows P)
  pub below : AreBelow s M

-- the mark s is that of the binders in the list
pub record AreMarked (s : ℕ) (M bs : List ℕ) : Type 0 where
  pub below : AreBelow (s + 1) M
  pub marked : (b : ℕ) → b < length M → (get_or M b 0 == s) ≡ has bs b

-- what the span's rows up to this one use is noted: there is a mark for each row, and the list has its imports so far
pub record AreNotedTo (P : Checked) (s : Span) (row : ℕ) (M bs : List ℕ) : Type 0 where
  pub many : length M ≡ length (rows P)
  pub marked : AreMarked s.mark M bs
  pub list : bs ≡ imports_by (used_in P s.own) s.lo s.hi (row - s.lo)

-- the list with these binders, one after another
abbrev pub with_uses : ℕ → ℕ → List ℕ → List ℕ → List ℕ
with_uses lo hi bs [] = bs
with_uses lo hi bs (c ∷ cs) = with_uses lo hi (with_use lo hi bs (Some c)) cs

-- nothing that uses names from outside ends at the row e
abbrev pub EndsNothing : Checked → ℕ → Type 0
EndsNothing P e = (s : ℕ) → end_row P s ≡ Some e → is_opening (at (rows P) s).node ≡ false
