-- How many messages a run has, by the blocks of which its paths are turns (docs/MEANING.md, "Laws").
use Rattle.std.specs.Prelude.{◌≡◌, ◌<◌, ◌≤◌, ℕ, suc, true, List, length, map, sum_by}
use Rattle.id_value.specs.List.{Among, AllDiffer}
use Rattle.id_table.specs.declared.row.Node.TheVariants.{Index}
use Rattle.id_table.specs.Tables.{is_thing}
use Rattle.id_check.specs.declared.checked.Checked.{Checked}
use Rattle.id_check.specs.Programs.{Stands, place, rows}
use Rattle.id_desugar.specs.Regions.{in_block, those}
use Rattle.id_core.specs.Machines.{World}
use Rattle.id_source.specs.declared.Path.{Path}
use Rattle.id_source.specs.declared.SourceValue.{SourceValue}
use Rattle.id_source.specs.declared.Fact.TheVariants.{On, Has}
use Rattle.id_source.specs.Facts.{ForStands, below}
use Rattle.id_source.specs.Sources.{Source, AreInputs}
use Rattle.id_source.specs.Rounds.{Holds}
use Rattle.id_build.specs.declared.arc.Form.{Form}
use Rattle.id_build.specs.declared.arc.Form.TheVariants.{Plain, EnterAt, SendTo, FetchAt}
use Rattle.id_build.specs.declared.arc.Piece.{Piece}
use Rattle.id_build.specs.Rows.{answer_row, made, node}
use Rattle.id_laws.specs.Determinate.{RunOf, end_of}
use Rattle.id_laws.specs.Laws.{messages}
use Rattle.id_laws.specs.Bounded.{messages_for}

-- how many messages an instruction of this form may have under one tag
abbrev pub messages_of : Form → ℕ
messages_of (Plain o) = messages_for o
messages_of (EnterAt h c) = 1
messages_of (SendTo k n j) = 2
messages_of (FetchAt nested n) = 2

-- how many all instructions of a row may have
abbrev pub messages_in_row : Checked → ℕ → ℕ
messages_in_row P n = sum_by (λ (q : Piece). messages_of q.form) (made P n)

-- how many the rows of the block with this head may have in one iteration of one context, the answer's row aside
abbrev pub messages_in_block : Checked → ℕ → ℕ
messages_in_block P h = sum_by (messages_in_row P) (those (in_block P h) (answer_row P))

-- a path, and the head of a block
pub record Turn : Type 0 where
  pub path : Path
  pub head : ℕ

-- a thing that stands in the block is On at the path, or its index Has a value there, or the block is that of an On
-- `for` and the path its first iteration
pub data IsTurn (S : Source) (t : Turn) : Type 0 where
  something_on : {i : ℕ} → i < length (rows S.checked) → is_thing (node S.checked i) ≡ true
      → in_block S.checked t.head i ≡ true → Holds S (On t.path (place S.checked i)) → IsTurn S t
  index_has : {x name : ℕ} {v : SourceValue} → Stands S.checked x (Index name)
      → in_block S.checked t.head x ≡ true → Holds S (Has t.path (place S.checked x) v) → IsTurn S t
  loop_begins : {n w x a b l : ℕ} {q : Path} → (f : ForStands S.checked n w x a b l) → t.head ≡ f.head
      → Holds S (On q (place S.checked n)) → t.path ≡ below q (place S.checked n) 0 → IsTurn S t

-- what was handled and what is in flight in this state is paid for by turns of blocks at so many different paths, save
-- the answer
pub record IsBoundedByBlock (S : Source) (s : World) : Type 0 where
  pub turns : List Turn
  pub differ : AllDiffer (map (λ (t : Turn). t.path) turns)
  pub active : (t : Turn) → Among t turns → IsTurn S t
  pub few : length (messages s) ≤ suc (sum_by (λ (t : Turn). messages_in_block S.checked t.head) turns)

-- *Bounded by block*: so it is in every run of every source
abbrev pub BoundedByBlock : Type 0
BoundedByBlock = (S : Source) → AreInputs S.checked S.inputs → (r : RunOf S) → IsBoundedByBlock S (end_of S r)
