-- How many messages a run has, by the paths of its source (docs/MEANING.md, "Laws").
use Rattle.std.specs.Prelude.{◌≡◌, ◌≤◌, ◌*◌, ℕ, if◌then◌else◌, List, length, sum_by}
use Rattle.id_value.specs.List.{Among, AllDiffer}
use Rattle.id_instr.specs.declared.instr.Instr.{Instr}
use Rattle.id_instr.specs.declared.instr.Op.{Op}
use Rattle.id_instr.specs.declared.instr.Op.TheVariants.{Fetch, Store}
use Rattle.id_instr.specs.Ports.{two_ports}
use Rattle.id_instr.specs.Graph.{Parts}
use Rattle.id_core.specs.Machines.{World, IsQuiet}
use Rattle.id_table.specs.declared.row.Node.TheVariants.{Index}
use Rattle.id_check.specs.declared.checked.Checked.{Checked}
use Rattle.id_check.specs.Programs.{Stands, place}
use Rattle.id_source.specs.declared.Path.{Path}
use Rattle.id_source.specs.declared.SourceValue.{SourceValue}
use Rattle.id_source.specs.declared.Fact.{Fact}
use Rattle.id_source.specs.declared.Fact.TheVariants.{On, Has}
use Rattle.id_source.specs.Facts.{ForStands, below}
use Rattle.id_source.specs.Sources.{Source, AreInputs}
use Rattle.id_source.specs.Rounds.{Holds}
use Rattle.id_laws.specs.Determinate.{RunOf, end_of}
use Rattle.id_laws.specs.Laws.{events, messages}

-- by such facts a run may do something at the path: something is On there, or an index Has a value there, or it is the
-- first iteration of an On `for`, whose bounds may have no values yet
pub data IsActiveBy (P : Checked) (F : Fact → Type 0) (p : Path) : Type 0 where
  something_on : (e : ℕ) → F (On p e) → IsActiveBy P F p
  index_has : {x name : ℕ} {v : SourceValue} → Stands P x (Index name) → F (Has p (place P x) v)
      → IsActiveBy P F p
  loop_begins : {n w x a b l : ℕ} {q : Path} → ForStands P n w x a b l → F (On q (place P n))
      → p ≡ below q (place P n) 0 → IsActiveBy P F p

-- a run may do something at the path, by the facts of the source
abbrev pub IsActive : Source → Path → Type 0
IsActive S p = IsActiveBy S.checked (Holds S) p

-- how many messages an instruction with this operator may have under one tag: a token for each port, and the read that
-- a fetch sends or the write of a store
abbrev pub messages_for : Op → ℕ
messages_for (Fetch nested r) = 2
messages_for (Store nested) = 3
messages_for o = if two_ports o then 2 else 1

-- how many all instructions of a graph may have in one iteration of one context
abbrev pub messages_at_once : Parts → ℕ
messages_at_once g = sum_by (λ (i : Instr). messages_for i.op) g.instrs

-- what was handled and what is in flight in this state is paid for by so many different paths of the source
pub record IsBounded (S : Source) (g : Parts) (s : World) : Type 0 where
  pub paths : List Path
  pub differ : AllDiffer paths
  pub active : (p : Path) → Among p paths → IsActive S p
  pub few : length (messages s) ≤ messages_at_once g * length paths

-- *Bounded*: so it is in every run of every source, after every list of deliveries, with deliveries after a fault too
abbrev pub Bounded : Type 0
Bounded = (S : Source) → AreInputs S.checked S.inputs → (r : RunOf S) → IsBounded S r.graph (end_of S r)

-- a run may do something at no other paths than these
abbrev pub AreActive : Source → List Path → Type 0
AreActive S ps = (p : Path) → IsActive S p → Among p ps

-- a run may do something at exactly so many different paths, and they are no more than the events of the state
pub record IsAtEnd (S : Source) (s : World) : Type 0 where
  pub paths : List Path
  pub differ : AllDiffer paths
  pub active : (p : Path) → Among p paths → IsActive S p
  pub are : AreActive S paths
  pub few : length paths ≤ length (events s)

-- *Rest is the end*: where a run falls quiet, its source has come to an end
abbrev pub RestIsTheEnd : Type 0
RestIsTheEnd = (S : Source) → AreInputs S.checked S.inputs → (r : RunOf S) → IsQuiet (end_of S r)
    → IsAtEnd S (end_of S r)
