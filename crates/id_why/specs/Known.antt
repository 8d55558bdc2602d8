-- What finds the facts of things.
use Rattle.std.specs.Prelude.{◌≡◌, ◌<◌, ◌&&◌, ◌||◌, ℕ, pos, Bool as Truth, true, false, List, [], ◌∷◌, ◌++◌, length}
use Rattle.std.specs.Prelude.{nat_eq, Option, None, Some, if◌then◌else◌}
use Rattle.id_value.specs.List.{Among}
use Rattle.id_table.specs.declared.row.Node.{Node}
use Rattle.id_table.specs.declared.row.Node.TheVariants.{Store}
use Rattle.id_check.specs.declared.checked.Checked.{Checked}
use Rattle.id_source.specs.Links.{Gains, GainsFrom, Leads, targets, width}
use Rattle.id_facts.specs.declared.cells.Point.{Point}
use Rattle.id_facts.specs.declared.facts.RowFact.{RowFact}
use Rattle.id_facts.specs.declared.facts.RowFact.TheVariants.{On, Has, Put, Ask}
use Rattle.id_facts.specs.declared.facts.RowValue.{RowValue}
use Rattle.id_facts.specs.declared.facts.Trail.{Trail}
use Rattle.id_facts.specs.declared.facts.Trail.TheVariants.{Outermost, Below}
use Rattle.id_facts.specs.Cells.{AreChained, items, told}
use Rattle.id_facts.specs.Cells.{values as cell_values}
use Rattle.id_facts.specs.RowFacts.{chain_at, fact_at, path_of, row_of, same_trail}
use Rattle.id_why.specs.declared.known.Cell.{Cell}
use Rattle.id_why.specs.declared.known.Known.{Known}
use Rattle.id_why.specs.Needs.{node_at}

-- whether the fact gives the thing a value, or tells that it has put one into a cell
abbrev pub gives : Point → RowFact → Truth
gives t (Has p n v) = same_trail p t.path && nat_eq n t.row
gives t (Put p n s j v) = same_trail p t.path && nat_eq n t.row
gives t _ = false

-- the cell that the thing asks for by the fact, if it is one of that
abbrev pub ask_by : Point → RowFact → Option Cell
ask_by t (Ask p n s j) =
    if same_trail p t.path && nat_eq n t.row then Some (record { name = s; index = j }) else None
ask_by t _ = None

-- the facts
abbrev pub known_facts : Known → List RowFact
known_facts k = items k.cells

-- the numbers of the facts that may be of the thing
abbrev pub numbers_of : Known → Point → List ℕ
numbers_of k t = targets k.points.rows.items (chain_at t.path t.row)

-- whether one of these facts gives the thing a value
abbrev pub any_gives : List RowFact → Point → List ℕ → Truth
any_gives fs t [] = false
any_gives fs t (i ∷ is) = gives t (fact_at fs i) || any_gives fs t is

-- whether one of the facts that may be of the thing gives it a value
abbrev pub is_given : Known → Point → Truth
is_given k t = any_gives (known_facts k) t (numbers_of k t)

-- the cells that the thing asks for, by the facts
abbrev pub asks : Known → Point → List Cell
asks k t = told (ask_by t) (known_facts k) (numbers_of k t)

-- what the row Has at the path
abbrev pub values : Known → Trail → ℕ → List RowValue
values k p n = cell_values k.cells (On Outermost 0) p n

-- the fact where the path begins, if it has a step
abbrev pub spot_of : Trail → Option ℕ
spot_of Outermost = None
spot_of (Below i k) = Some i

-- the number of a fact that something of this node is On, if it is a store
abbrev pub store_number : Node → ℕ → List ℕ
store_number (Store a x) i = i ∷ []
store_number _ i = []

-- of a fact, the one where it turns on what it does, and its own number if it turns on a store
abbrev pub spot_by : RowFact → Option ℕ
spot_by (On p n) = spot_of p
spot_by _ = None

-- the fact's own number, if it turns on a store
abbrev pub store_by : Checked → RowFact → ℕ → List ℕ
store_by P (On p n) i = store_number (node_at P n) i
store_by P _ i = []

-- the number of the fact is added where it is looked up
pub record Indexes (P : Checked) (b k : Known) (i : ℕ) (f : RowFact) : Type 0 where
  pub cells : k.cells ≡ b.cells
  pub points : Gains b.points k.points (chain_at (path_of f) (row_of f)) (i ∷ [])
  pub turns : GainsFrom b.turns k.turns (spot_by f) (i ∷ [])
  pub stores : k.stores.items ≡ b.stores.items ++ store_by P f i

-- the first so many facts are found
pub record AreIndexedTo (P : Checked) (n : ℕ) (k : Known) : Type 0 where
  pub chained : AreChained k.cells
  pub points_wide : width k.points ≡ 262144
  pub turns_wide : width k.turns ≡ length (known_facts k)
  pub points : (i : ℕ) → i < n → let f = fact_at (known_facts k) i in
      Leads k.points (chain_at (path_of f) (row_of f)) i
  pub points_within : (c i : ℕ) → Leads k.points c i → i < length (known_facts k)
  pub turns : (i j : ℕ) → i < n → j < length (known_facts k)
      → spot_by (fact_at (known_facts k) i) ≡ Some j → Leads k.turns j i
  pub turns_within : (j i : ℕ) → Leads k.turns j i → i < length (known_facts k)
  pub stores : (i : ℕ) → i < n → Among i (store_by P (fact_at (known_facts k) i) i) → Among i k.stores.items
  pub stores_within : (i : ℕ) → Among i k.stores.items → i < length (known_facts k)

-- all facts are
abbrev pub AreIndexed : Checked → Known → Type 0
AreIndexed P k = AreIndexedTo P (length (known_facts k)) k
