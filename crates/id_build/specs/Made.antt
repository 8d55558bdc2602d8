-- The graph that the builder makes of a program.
use Rattle.std.specs.Prelude.{◌≡◌, ℕ, zero, suc, ◌+◌, ◌^◌, ◌<◌, ◌≤◌, ◌==◌, Bool, true}
use Rattle.std.specs.Prelude.{false, if◌then◌else◌, ◌&&◌}
use Rattle.std.specs.Prelude.{List, [], ◌∷◌, ◌++◌, map, length, slice_get, unwrap_or}
use Rattle.std.specs.Bool.{beq}
use Rattle.id_table.specs.declared.row.Node.{Node}
use Rattle.id_table.specs.declared.row.Node.TheVariants.{LoopHead, Start, Variable, Entries, Turn}
use Rattle.id_table.specs.declared.row.Node.TheVariants.{Bounds, Carried, Count}
use Rattle.id_check.specs.declared.checked.Checked.{Checked}
use Rattle.id_check.specs.Programs.{rows}
use Rattle.id_desugar.specs.Regions.{imports_of}
use Rattle.id_instr.specs.declared.instr.Instr.{Instr}
use Rattle.id_instr.specs.declared.dests.Dest.{Dest}
use Rattle.id_instr.specs.Graph.{Parts}
use Rattle.id_instr.specs.declared.dests.Port.{Port}
use Rattle.id_build.specs.declared.arc.Origin.{Origin}
use Rattle.id_build.specs.declared.arc.Feed.{Feed}
use Rattle.id_build.specs.declared.arc.Arc.{Arc}
use Rattle.id_build.specs.declared.arc.Piece.{Piece}
use Rattle.id_build.specs.declared.arc.Form.{Form}
use Rattle.id_build.specs.declared.arc.Form.TheVariants.{SendTo, FetchAt}
use Rattle.id_build.specs.Rows.{entries_row, feeds, made, node, op_by}
use Rattle.id_build.specs.Schemas.{all_heads, block_of}

-- the number of the first instruction of the row n, where those of these rows are made in this order, and the first has
-- the number m
abbrev pub first_in : Checked → ℕ → List ℕ → ℕ → ℕ
first_in P m [] n = 0
first_in P m (x ∷ xs) n = if x == n then m else first_in P (m + length (made P x)) xs n

-- the instructions of these rows, in order, without their arcs
abbrev pub pieces_in : Checked → List ℕ → List Piece
pieces_in P [] = []
pieces_in P (x ∷ xs) = made P x ++ pieces_in P xs

-- the number of the part k of the row n, by the numbers of first instructions
abbrev pub number_by : List ℕ → ℕ → ℕ → ℕ
number_by firsts n k = unwrap_or (slice_get firsts n) 0 + k

-- the numbers of the first instructions of all rows
pub record AreFirsts (P : Checked) (order F : List ℕ) : Type 0 where
  pub many : length F ≡ length (rows P)
  pub at : (n : ℕ) → n < length (rows P) → number_by F n 0 ≡ first_in P 0 order n

-- the arc from an origin to a port of the instruction of this number
abbrev pub arc_to : List ℕ → Origin → ℕ → Port → Arc
arc_to firsts o m p = record { from = number_by firsts o.row o.part; side = o.side; to = m; port = p }

-- an arc to an instruction of the row n
abbrev pub arc_of : List ℕ → ℕ → Feed → Arc
arc_of firsts n f = arc_to firsts f.origin (number_by firsts n f.part) f.port

-- whether a row of this node is a marker of a loop that has instructions
abbrev pub is_of_loop : Node → Bool
is_of_loop (Bounds a b) = true
is_of_loop Start = true
is_of_loop (LoopHead t) = true
is_of_loop (Carried k) = true
is_of_loop Variable = true
is_of_loop Entries = true
is_of_loop Count = true
is_of_loop Turn = true
is_of_loop _ = false

-- the arcs to the instructions of these rows
abbrev pub arcs_in : Checked → List ℕ → List ℕ → List Arc
arcs_in P firsts [] = []
arcs_in P firsts (x ∷ xs) = map (arc_of firsts x) (feeds P x) ++ arcs_in P firsts xs

-- where an arc goes
abbrev pub dest_of : Arc → Dest
dest_of a = record { instr = a.to; port = a.port }

-- where the arcs from the side of the instruction m go, in order
abbrev pub dests_from : ℕ → Bool → List Arc → List Dest
dests_from m s [] = []
dests_from m s (a ∷ vs) =
    if (a.from == m) && beq a.side s then dest_of a ∷ dests_from m s vs else dests_from m s vs

-- the instruction with the number m of a piece, with these arcs
abbrev pub joined : List ℕ → ℕ → Piece → List Arc → Instr
joined F m p vs =
    record {
      op = op_by (number_by F) p.form;
      dests = dests_from m true vs;
      others = dests_from m false vs;
      place = p.place;
    }

-- the instructions of these pieces with their arcs, where the first has the number m
abbrev pub instrs_from : List ℕ → ℕ → List Piece → List Arc → List Instr
instrs_from F m [] vs = []
instrs_from F m (p ∷ ps) vs = joined F m p vs ∷ instrs_from F (m + 1) ps vs

-- the graph whose rows are made in this order, where the numbers of first instructions are F
abbrev pub graph_by : Checked → List ℕ → List ℕ → Parts
graph_by P order F =
    record {
      blocks = map (block_of P (number_by F)) (all_heads P);
      instrs = instrs_from F 0 (pieces_in P order) (arcs_in P F order);
    }

-- where the form is a `send`, its entry has a number that an instruction can have, and so has the reply of a `fetch`
abbrev pub Fits : List ℕ → Form → Type 0
Fits F (SendTo k n j) = number_by F n j < 2 ^ 32
Fits F (FetchAt nested n) = number_by F n 2 < 2 ^ 32
Fits F _ = Unit {0}

-- and so have the entries of each loop's imports
abbrev pub EntriesFit : Checked → List ℕ → Type 0
EntriesFit P F =
    (h s : ℕ) → h < length (rows P) → node P h ≡ LoopHead s →
    number_by F (entries_row P h) (length (imports_of P h)) ≤ 2 ^ 32

-- the arc goes between two of the first n instructions
abbrev pub IsBetween : ℕ → Arc → Type 0
IsBetween n a = (a.from < n) × (a.to < n)

-- the arc goes between two of these instructions
abbrev pub IsFrom : List Piece → Arc → Type 0
IsFrom ps a = IsBetween (length ps) a

-- the instruction with one more arc, at the end of a side
abbrev pub with_dest : Bool → Instr → Dest → Instr
with_dest true i d = record i { dests = i.dests ++ d ∷ [] }
with_dest false i d = record i { others = i.others ++ d ∷ [] }

-- the instructions with one more arc from the m-th
abbrev pub connected_at : List Instr → ℕ → Bool → Dest → List Instr
connected_at [] m s d = []
connected_at (i ∷ is) zero s d = with_dest s i d ∷ is
connected_at (i ∷ is) (suc m) s d = i ∷ connected_at is m s d

-- the instructions with this arc too
abbrev pub connected : List Instr → Arc → List Instr
connected is a = connected_at is a.from a.side (dest_of a)
