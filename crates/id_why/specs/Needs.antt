-- Why a thing has no value, by the facts of a round (docs/MEANING.md, "Why there is none").
use Rattle.std.specs.Prelude.{◌≡◌, ◌⊎◌, ◌<◌, ◌+◌, ℕ, suc, ℤ, Bool as Truth, List, length, Some}
use Rattle.id_value.specs.List.{Among}
use Rattle.id_value.specs.declared.Kind.{Kind}
use Rattle.id_table.specs.declared.row.Node.{Node}
use Rattle.id_table.specs.declared.row.Node.TheVariants as node
use Rattle.id_table.specs.Rows.{at}
use Rattle.id_check.specs.declared.checked.Checked.{Checked}
use Rattle.id_check.specs.Programs.{binder, rows}
use Rattle.id_source.specs.Links.{arm_of, far_from, parts_turned, test_of, test_of_loop}
use Rattle.id_source.specs.Sources.{main_body}
use Rattle.id_facts.specs.declared.cells.Point.{Point}
use Rattle.id_facts.specs.declared.facts.RowFact.{RowFact}
use Rattle.id_facts.specs.declared.facts.RowFact.TheVariants.{On, Has, Put, Ask}
use Rattle.id_facts.specs.declared.facts.RowValue.{RowValue}
use Rattle.id_facts.specs.declared.facts.RowValue.TheVariants.{Int, Bool, Name}
use Rattle.id_facts.specs.declared.facts.Trail.{Trail}
use Rattle.id_facts.specs.declared.facts.Trail.TheVariants.{Outermost, Below}
use Rattle.id_facts.specs.Cells.{out_of}
use Rattle.id_facts.specs.RowFacts.{fact_at}
use Rattle.id_meaning.specs.Effects.{callee_of}

-- the thing at the row at the path
abbrev pub point : Trail → ℕ → Point
point p n = record { path = p; row = n }

-- what stands at the row
abbrev pub node_at : Checked → ℕ → Node
node_at P n = (at (rows P) n).node

-- a thing has a value by these facts, or is a store that has put one into a cell
pub data IsGiven (fs : List RowFact) (t : Point) : Type 0 where
  by_value : (v : RowValue) → Among (Has t.path t.row v) fs → IsGiven fs t
  by_store : (s : ℕ) (j : ℤ) (v : RowValue) → Among (Put t.path t.row s j v) fs → IsGiven fs t

-- it lacks a value
abbrev pub Lacks : List RowFact → Point → Type 0
Lacks fs t = IsGiven fs t → ⊥

-- the fact of this number is that the row is On at the path
pub record IsOnBy (fs : List RowFact) (i : ℕ) (p : Trail) (n : ℕ) : Type 0 where
  pub within : i < length fs
  pub fact : fact_at fs i ≡ On p n

-- the row at the path may have this value: it has it, or none
abbrev pub MayHave : List RowFact → Trail → ℕ → RowValue → Type 0
MayHave fs p n v = Among (Has p n v) fs ⊎ ((w : RowValue) → Among (Has p n w) fs → ⊥)

-- the thing is an On store that may fill the cell, by what its target and its index have so far
pub record MayFill (P : Checked) (fs : List RowFact) (t : Point) (s : ℕ) (j : ℤ) : Type 0 where
  pub address : ℕ
  pub value : ℕ
  pub target : ℕ
  pub index : ℕ
  pub store : node_at P t.row ≡ node.Store address value
  pub parts : node_at P address ≡ node.Address target index
  pub on : Among (On t.path t.row) fs
  pub array : MayHave fs t.path target (Name s)
  pub cell : MayHave fs t.path index (Int j)

-- the row v is the argument, for the parameter at the row n, of the call at the row c
pub record IsArgument (P : Checked) (c n v : ℕ) : Type 0 where
  pub enter : ℕ
  pub count : ℕ
  pub name : ℕ
  pub head : ℕ
  pub kind : Kind
  pub body : ℕ
  pub index : ℕ
  pub arg : ℕ
  pub call : node_at P c ≡ node.Call enter count
  pub callee : callee_of P enter ≡ node.Def name head kind body
  pub argument : node_at P arg ≡ node.Arg enter index v
  pub within : enter < length (rows P)
  pub behind : n ≡ head + 1 + index

-- by its rule a thing needs this one for a value
pub data Needs (P : Checked) (fs : List RowFact) : Point → Point → Type 0 where
  -- an operator its operands, a block its body, an `array` or a `for` its bounds, a conditional its predicate, a fetch
  -- its target and index, and a store its value too
  part : (p : Trail) (n a : ℕ) → Among a (parts_turned (rows P) (node_at P n)) → Needs P fs (point p n) (point p a)
  -- a binding its expression, and a name its binder, where the path leaves out the loops between
  binding : (p : Trail) (n x a : ℕ) → node_at P n ≡ node.Binding x a → Needs P fs (point p n) (point p a)
  name : (p : Trail) (n x b : ℕ) → node_at P n ≡ node.Name x → binder P n ≡ Some b
      → Needs P fs (point p n) (point (out_of fs (far_from P n (Some b)) p) b)
  -- a conditional the arm that its predicate turns on
  arm : (p : Trail) (n s x y t : ℕ) (b : Truth) → node_at P n ≡ node.If s x y → test_of (node_at P s) ≡ Some t
      → Among (Has p t (Bool b)) fs → Needs P fs (point p n) (point p (arm_of b x y))
  -- a call the body of its procedure, and there a parameter its argument
  body : (p : Trail) (n i e c x h b : ℕ) (k : Kind) → node_at P n ≡ node.Call e c → IsOnBy fs i p n
      → callee_of P e ≡ node.Def x h k b → Needs P fs (point p n) (point (Below i 0) b)
  argument : (p : Trail) (n i c x v : ℕ) (k : Kind) → node_at P n ≡ node.Param x k → fact_at fs i ≡ On p c
      → IsArgument P c n v → Needs P fs (point (Below i 0) n) (point p v)
  -- a loop its predicate and its last expression, in each iteration in which they are On
  turn : (p : Trail) (n i h w l k m : ℕ) → node_at P n ≡ node.Loop h w l → IsOnBy fs i p n
      → Among (On (Below i k) m) fs → (m ≡ l) ⊎ (test_of_loop (rows P) (node_at P w) ≡ Some m)
      → Needs P fs (point p n) (point (Below i k) m)
  -- a variable what its name means outside, and in a later iteration the expression of its `next` in the one before
  first : (p : Trail) (n i c x k o v b : ℕ) → node_at P n ≡ node.Next x k o v → fact_at fs i ≡ On p c
      → binder P o ≡ Some b → Needs P fs (point (Below i 0) n) (point (out_of fs (far_from P c (Some b)) p) b)
  next : (n i x k o v j : ℕ) → node_at P n ≡ node.Next x k o v
      → Needs P fs (point (Below i (suc j)) n) (point (Below i j) v)
  -- a fetch the stores that may fill the cell that it asks for
  store : (t u : Point) (s : ℕ) (j : ℤ) → Among (Ask t.path t.row s j) fs → MayFill P fs u s j → Needs P fs t u

-- a thing that lacks a value and on which the answer hangs, or a fetch that waits
pub data IsReached (P : Checked) (fs : List RowFact) : Point → Type 0 where
  answer : Lacks fs (point Outermost (main_body P)) → IsReached P fs (point Outermost (main_body P))
  waiting : (t : Point) (s : ℕ) (j : ℤ) → Among (Ask t.path t.row s j) fs → Lacks fs t → IsReached P fs t
  further : (t u : Point) → IsReached P fs t → Needs P fs t u → Lacks fs u → IsReached P fs u
