-- The order in which rows are made into instructions, and the names that regions import (docs/GRAPH.md, "Imports").
use Rattle.std.specs.Prelude.{ℕ, zero, suc, ◌+◌, ◌-◌, ◌==◌, Bool, true, false, if◌then◌else◌}
use Rattle.std.specs.Prelude.{◌||◌, ◌&&◌, not, nat_eq}
use Rattle.std.specs.Prelude.{nat_lt, nat_le, max, List, [], ◌∷◌, ◌++◌, length, Option, None, Some}
use Rattle.id_table.specs.declared.row.Node.{Node}
use Rattle.id_table.specs.declared.row.Node.TheVariants.{Name, Split, LoopHead, Switches, NextUse}
use Rattle.id_table.specs.Rows.{at}
use Rattle.id_table.specs.Tables.{is_carried, is_switches, is_variable}
use Rattle.id_check.specs.declared.checked.Checked.{Checked}
use Rattle.id_check.specs.Programs.{rows, binder}
use Rattle.id_check.specs.Scopes.{first_of}
use Rattle.id_desugar.specs.Ends.{end_of, next_of}

-- ---- the order

-- the numbers below n of which f is true
abbrev pub those : (ℕ → Bool) → ℕ → List ℕ
those f zero = []
those f (suc n) = if f n then those f n ++ n ∷ [] else those f n

-- the number, if there is one
abbrev pub only : Option ℕ → List ℕ
only None = []
only (Some a) = a ∷ []

-- whether a loop's block begins at a row of this node
abbrev pub is_loop_head : Node → Bool
is_loop_head (LoopHead s) = true
is_loop_head _ = false

-- whether the row stands in the block with the head h
abbrev pub in_block : Checked → ℕ → ℕ → Bool
in_block P h i = nat_eq (at (rows P) i).block h

-- whether it stands in the block of a procedure
abbrev pub in_procedure : Checked → ℕ → Bool
in_procedure P i = not (is_loop_head (at (rows P) (at (rows P) i).block).node)

-- the row n, if a loop's block begins there at the place p
abbrev pub head_at : Checked → ℕ → ℕ → Option ℕ
head_at P p n = let r = at (rows P) n in if is_loop_head r.node && nat_eq r.place p then Some n else None

-- one more than the greatest place of a loop's block that begins at one of the first n rows
abbrev pub reach : Checked → ℕ → ℕ
reach P zero = 0
reach P (suc n) =
    let r = at (rows P) n in if is_loop_head r.node then max (reach P n) (suc r.place) else reach P n

-- the heads of loops whose places are below p, in order of place
abbrev pub loop_heads_by : Checked → ℕ → List ℕ
loop_heads_by P zero = []
loop_heads_by P (suc p) = loop_heads_by P p ++ only (first_of (head_at P p) (length (rows P)))

-- those of all loops
abbrev pub loop_heads : Checked → List ℕ
loop_heads P = loop_heads_by P (reach P (length (rows P)))

-- of the first n rows those in the blocks with these heads, block by block
abbrev pub loops_by : Checked → ℕ → List ℕ → List ℕ
loops_by P n [] = []
loops_by P n (h ∷ hs) = those (in_block P h) n ++ loops_by P n hs

-- the first n rows in the order in which they are made: the last, which makes the answer's instruction, then those of
-- the procedures, then those of the loops, in order of place
abbrev pub order_by : Checked → ℕ → List ℕ
order_by P zero = []
order_by P (suc n) = n ∷ (those (in_procedure P) n ++ loops_by P n (loop_heads P))

-- the rows in the order in which they are made
abbrev pub order_of : Checked → List ℕ
order_of P = order_by P (length (rows P))

-- ---- uses

-- whether the row stands right in a side of the switches of the loop with the head g
abbrev pub is_right_in : Checked → ℕ → ℕ → Bool
is_right_in P g i =
    let s = at (rows P) (at (rows P) i).region.head in
    is_switches s.node && nat_eq s.block g

-- the binder of the value that a row of this node uses, where o is the binder of its name: a loop's own first value is
-- used outside of it alone, and a procedure's name is none of a value
abbrev pub used_by : Bool → Option ℕ → Node → Option ℕ
used_by own o (Name x) = o
used_by own o (NextUse x) = if own then None else o
used_by own o _ = None

-- the binder of the value that the row uses for what begins at the row g, if it uses one
abbrev pub used : Checked → ℕ → ℕ → Option ℕ
used P g i = used_by (is_right_in P g i) (binder P i) (at (rows P) i).node

-- whether the row is none of those from lo up to hi
abbrev pub is_outside : ℕ → ℕ → ℕ → Bool
is_outside lo hi b = nat_lt b lo || nat_le hi b

-- whether the list has this binder
abbrev pub has : List ℕ → ℕ → Bool
has [] b = false
has (x ∷ xs) b = if x == b then true else has xs b

-- the list with this binder at its end, if there is one, it is outside and not there yet
abbrev pub with_use : ℕ → ℕ → List ℕ → Option ℕ → List ℕ
with_use lo hi bs None = bs
with_use lo hi bs (Some b) = if is_outside lo hi b then (if has bs b then bs else bs ++ b ∷ []) else bs

-- the imports of the rows from lo up to hi, as far as the first k of them use them, where f gives what a row uses
abbrev pub imports_by : (ℕ → Option ℕ) → ℕ → ℕ → ℕ → List ℕ
imports_by f lo hi zero = []
imports_by f lo hi (suc k) = with_use lo hi (imports_by f lo hi k) (f (lo + k))

-- the binders outside that uses in the rows from lo up to hi mean, each once, in order of first use
abbrev pub imports : (ℕ → Option ℕ) → ℕ → ℕ → List ℕ
imports f lo hi = imports_by f lo hi (hi - lo)

-- ---- what is handed on

-- the binders that what begins at the row h uses from outside
abbrev pub taken : Checked → ℕ → List ℕ
taken P h = imports (used P h) (h + 1) (end_of P h)

-- the rows of the `next`s whose variables stand at the rows from v on, at most so many
abbrev pub nexts_from : Checked → ℕ → ℕ → List ℕ
nexts_from P v zero = []
nexts_from P v (suc n) = if is_variable (at (rows P) v).node then next_of P v ∷ nexts_from P (suc v) n else []

-- whether the loop with the head h has an index
abbrev pub has_index : Checked → ℕ → Bool
has_index P h = is_carried (at (rows P) (h + 1)).node

-- the entries of what the loop with the head h carries on beside its variables: nothing, or its index, the upper bound
-- and the flag
abbrev pub carried : Checked → ℕ → List ℕ
carried P h = if has_index P h then ((h + 1) ∷ (h + 2) ∷ (h + 3) ∷ []) else []

-- those of which its switches hand on the true side: the upper bound
abbrev pub bound_of : Checked → ℕ → List ℕ
bound_of P h = if has_index P h then ((h + 2) ∷ []) else []

-- the row of its first variable
abbrev pub first_variable : Checked → ℕ → ℕ
first_variable P h = h + 1 + length (carried P h)

-- the rows of the `next`s of the loop with the head h, in order
abbrev pub nexts_of : Checked → ℕ → List ℕ
nexts_of P h = nexts_from P (first_variable P h) (length (rows P))

-- the binders that the row h of this node imports for what it turns on: a procedure's body imports none, the arms of a
-- conditional and a loop those that they use from outside; a loop's switches have the upper bound of its index, if it
-- has one, and its variables before them
abbrev pub handed : Checked → ℕ → Node → List ℕ
handed P h (Split t) = taken P h
handed P h (LoopHead s) = taken P h
handed P h (Switches t) = let g = (at (rows P) h).block in bound_of P g ++ (nexts_of P g ++ taken P g)
handed P h _ = []

-- the binders that the row h imports
abbrev pub imports_of : Checked → ℕ → List ℕ
imports_of P h = handed P h (at (rows P) h).node

-- those of each of the first n rows
abbrev pub imports_below : Checked → ℕ → List (List ℕ)
imports_below P zero = []
imports_below P (suc n) = imports_below P n ++ imports_of P n ∷ []

-- those of each row
abbrev pub all_imports : Checked → List (List ℕ)
all_imports P = imports_below P (length (rows P))
