-- Which rows are those of a store (docs/GRAPH.md, "Parts").
use Rattle.std.specs.Prelude.{◌≡◌, ◌<◌, ◌+◌, ℕ, List, length}
use Rattle.id_table.specs.declared.row.Row.{Row}
use Rattle.id_table.specs.declared.row.Node.TheVariants.{Address, Store}
use Rattle.id_table.specs.Rows.{at}

-- the row n is the store with the `Address` at the row a
pub record IsStoreOf (R : List Row) (n a : ℕ) : Type 0 where
  pub value : ℕ
  pub within : n < length R
  pub node : (at R n).node ≡ Store a value

-- the `Address` at the row a is right behind the index of the store at the row n, whose place, block, region and first
-- row it has; the rows of the value stand between the two
pub record IsAddressOf (R : List Row) (a n v : ℕ) : Type 0 where
  pub target : ℕ
  pub index : ℕ
  pub node : (at R a).node ≡ Address target index
  pub before : a < v
  pub value_behind : v + 1 ≡ n
  pub value_first : (at R v).first ≡ a + 1
  pub order : target < index
  pub behind : index + 1 ≡ a
  pub target_first : (at R target).first ≡ (at R n).first
  pub index_first : (at R index).first ≡ target + 1
  pub place : (at R a).place ≡ (at R n).place
  pub block : (at R a).block ≡ (at R n).block
  pub region : (at R a).region ≡ (at R n).region
  pub first : (at R a).first ≡ (at R n).first
