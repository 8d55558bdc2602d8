-- What waits for binders.
use Rattle.std.specs.Prelude.{◌≡◌, ℕ, List, [], ◌∷◌, Some}
use Rattle.id_value.specs.List.{Among}
use Rattle.id_table.specs.declared.row.Node.{Node}
use Rattle.id_table.specs.declared.row.Node.TheVariants.{Index}
use Rattle.id_table.specs.Rows.{at}
use Rattle.id_check.specs.declared.checked.Checked.{Checked}
use Rattle.id_check.specs.Programs.{rows}
use Rattle.id_facts.specs.declared.facts.RowValue.{RowValue}
use Rattle.id_facts.specs.declared.facts.Trail.{Trail}
use Rattle.id_facts.specs.declared.facts.RowFact.{RowFact}
use Rattle.id_facts.specs.declared.facts.RowFact.TheVariants.{On, Has}
use Rattle.id_source.specs.declared.links.Links.{Links}
use Rattle.id_facts.specs.declared.queues.Queues.{Queues}
use Rattle.id_facts.specs.declared.queues.Wait.{Wait}
use Rattle.id_source.specs.Links.{awaited, far_from, users}
use Rattle.id_facts.specs.Cells.{out_of, queue_of}
use Rattle.id_facts.specs.Queues.{width, IsIn}

-- the queue for the binder b that the row n looks at from the path
abbrev pub queue_for : Checked → List RowFact → Trail → ℕ → ℕ → ℕ
queue_for P fs p n b = queue_of (out_of fs (far_from P n (Some b)) p) b

-- the row u waits in the queue for its binder, if it has one, where the row n is On at the path
abbrev pub WaitsIn : Checked → List RowFact → Queues → Trail → ℕ → ℕ → Type 0
WaitsIn P fs W p n u =
    (b : ℕ) → awaited P u ≡ Some b → IsIn W (queue_for P fs p n b) (record { path = p; row = n; user = u })

-- the rows that wait where the row n of this node has a value: an index
abbrev pub counts_of : ℕ → Node → List ℕ
counts_of n (Index x) = n ∷ []
counts_of n _ = []

-- the path and the row of a fact by which rows wait, and these rows: what uses a binder where a row is On, and an index
-- where it has a value
pub data Rests (P : Checked) (l : Links) : RowFact → Trail → ℕ → ℕ → Type 0 where
  by_on : {p : Trail} {n u : ℕ} → Among u (users P l n) → Rests P l (On p n) p n u
  by_value : {p : Trail} {n u : ℕ} {v : RowValue} → Among u (counts_of n (at (rows P) n).node)
      → Rests P l (Has p n v) p n u

-- all that waits where a row is On, or an index has a value, is in its queue
pub record AreWaits (P : Checked) (l : Links) (fs : List RowFact) (W : Queues) : Type 0 where
  pub wide : width W ≡ 65536
  pub all : (f : RowFact) (p : Trail) (n u : ℕ) → Among f fs → Rests P l f p n u → WaitsIn P fs W p n u

-- the queues are the old ones, with these rows, which wait where the row n is On at the path
pub record WaitsFor (P : Checked) (fs : List RowFact) (V W : Queues) (p : Trail) (n : ℕ) (us : List ℕ)
    : Type 0 where
  pub wide : width W ≡ width V
  pub kept : (a : ℕ) (x : Wait) → IsIn V a x → IsIn W a x
  pub added : (u : ℕ) → width V ≡ 65536 → Among u us → WaitsIn P fs W p n u

-- the queues are the old ones, with all that waits by these facts
pub record Waits (P : Checked) (l : Links) (fs : List RowFact) (V W : Queues) (gs : List RowFact) : Type 0 where
  pub wide : width W ≡ width V
  pub kept : (a : ℕ) (x : Wait) → IsIn V a x → IsIn W a x
  pub added : (f : RowFact) (p : Trail) (n u : ℕ) → width V ≡ 65536 → Among f gs → Rests P l f p n u
      → WaitsIn P fs W p n u
