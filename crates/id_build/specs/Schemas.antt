-- The graphs that the schemas give a program: the numbering is free (docs/GRAPH.md, "Schemas").
use Rattle.std.specs.Prelude.{◌≡◌, ◌<◌, ℕ, ◌+◌, Bool as Truth, true, List, ◌++◌, length, map, Some}
use Rattle.std.specs.Prelude.{slice_get}
use Rattle.id_value.specs.List.{Among, AllDiffer}
use Rattle.id_table.specs.Turns.{heads_of}
use Rattle.id_check.specs.declared.checked.Checked.{Checked}
use Rattle.id_check.specs.Programs.{rows}
use Rattle.id_instr.specs.declared.dests.Port.{Port}
use Rattle.id_instr.specs.declared.dests.Dest.{Dest}
use Rattle.id_instr.specs.declared.instr.Op.{Op}
use Rattle.id_instr.specs.declared.instr.Op.TheVariants.{Switch, Back, Send, Fetch, Store}
use Rattle.id_instr.specs.declared.instr.Instr.{Instr}
use Rattle.id_instr.specs.declared.instr.Block.{Block}
use Rattle.id_instr.specs.Graph.{Parts, IsPort, arcs_on}
use Rattle.id_build.specs.declared.arc.Origin.{Origin}
use Rattle.id_build.specs.declared.arc.Form.{Form}
use Rattle.id_desugar.specs.Regions.{loop_heads}
use Rattle.id_build.specs.Rows.{answer_row, entries, feed, feeds, made, op_by, piece}

-- the part k of the row n is an instruction with this form of operator and this place
pub record Makes (P : Checked) (n k : ℕ) (f : Form) (e : ℕ) : Type 0 where
  pub within : n < length (rows P)
  pub at : slice_get (made P n) k ≡ Some (piece f e)

-- what comes from s goes to this port of the part k of the row n
pub record Feeds (P : Checked) (s : Origin) (n k : ℕ) (p : Port) : Type 0 where
  pub within : n < length (rows P)
  pub among : Among (feed s k p) (feeds P n)

-- the operator sends on this side: a switch on both, what has no destinations on none, any other on the true one
abbrev pub HasSide : Op → Truth → Type 0
HasSide (Switch k) b = Unit {0}
HasSide (Back k) b = ⊥
HasSide (Send k t) b = ⊥
HasSide (Fetch nested r) b = ⊥
HasSide (Store nested) b = ⊥
HasSide _ b = b ≡ true

-- the instruction of this number has this form of operator and this place
pub record Made (G : Parts) (number : ℕ → ℕ → ℕ) (m : ℕ) (f : Form) (e : ℕ) : Type 0 where
  pub instr : Instr
  pub at : slice_get G.instrs m ≡ Some instr
  pub op : instr.op ≡ op_by number f
  pub place : instr.place ≡ e

-- the instruction of this number sends to the destination on the side
pub record Sends (G : Parts) (m : ℕ) (side : Truth) (to : Dest) : Type 0 where
  pub instr : Instr
  pub at : slice_get G.instrs m ≡ Some instr
  pub lists : Among to (arcs_on side instr)

-- the schemas make an instruction to which this number is given
pub record IsNumber (P : Checked) (number : ℕ → ℕ → ℕ) (m : ℕ) : Type 0 where
  pub row : ℕ
  pub part : ℕ
  pub form : Form
  pub place : ℕ
  pub makes : Makes P row part form place
  pub is : number row part ≡ m

-- the schemas have an arc whose ends have these numbers
pub record IsArc (P : Checked) (number : ℕ → ℕ → ℕ) (m : ℕ) (side : Truth) (to : Dest) : Type 0 where
  pub origin : Origin
  pub row : ℕ
  pub part : ℕ
  pub feeds : Feeds P origin row part to.port
  pub on : origin.side ≡ side
  pub from : number origin.row origin.part ≡ m
  pub goes : number row part ≡ to.instr

-- the heads of all blocks: those of the procedures, in order of definition, and then those of the loops, in order of
-- place
abbrev pub all_heads : Checked → List ℕ
all_heads P = heads_of (rows P) ++ loop_heads P

-- the block with this head, and its entries in order: the labels of a procedure's parameters, or of a loop's variables,
-- and then the entries of its imports
abbrev pub block_of : Checked → (ℕ → ℕ → ℕ) → ℕ → Block
block_of P number h = record { first = number h 0; entries = map (λ q. number q.row q.part) (entries P h) }

-- the graph has the instructions, arcs, places and blocks of the schemas and no others, numbered so
pub record Numbered (P : Checked) (G : Parts) (number : ℕ → ℕ → ℕ) : Type 0 where
  -- each instruction of the schemas is there, and no other; two of them have two numbers
  pub made : (n k : ℕ) (f : Form) (e : ℕ) → Makes P n k f e → Made G number (number n k) f e
  pub only : (m : ℕ) (i : Instr) → slice_get G.instrs m ≡ Some i → IsNumber P number m
  pub apart : (n k n' k' : ℕ) (f f' : Form) (e e' : ℕ) → Makes P n k f e → Makes P n' k' f' e'
      → number n k ≡ number n' k' → (n ≡ n') × (k ≡ k')
  -- each arc of the schemas is there, and no other; none is there twice
  pub sends : (s : Origin) (n k : ℕ) (p : Port) → Feeds P s n k p
      → Sends G (number s.row s.part) s.side (record { instr = number n k; port = p })
  pub no_more : (m : ℕ) (side : Truth) (to : Dest) → Sends G m side to → IsArc P number m side to
  pub once : (m : ℕ) (i : Instr) (side : Truth) → slice_get G.instrs m ≡ Some i → AllDiffer (arcs_on side i)
  -- each goes from a side that there is, to a port that there is
  pub sides : (m : ℕ) (i : Instr) (side : Truth) (to : Dest) → slice_get G.instrs m ≡ Some i
      → Among to (arcs_on side i) → HasSide i.op side
  pub ports : (m : ℕ) (side : Truth) (to : Dest) → Sends G m side to → IsPort G.instrs to
  -- the answer's instruction is the first; the second of a block stands behind its first
  pub answer_first : number (answer_row P) 0 ≡ 0
  pub second_behind : (h : ℕ) → Among h (all_heads P) → number h 1 ≡ number h 0 + 1
  -- there is one block for each procedure, in order of definition, and then one for each loop, in order of place
  pub blocks : G.blocks ≡ map (block_of P number) (all_heads P)

-- the graph is one that the schemas give the program
pub record Schemas (P : Checked) (G : Parts) : Type 0 where
  pub number : ℕ → ℕ → ℕ
  pub numbered : Numbered P G number
