-- Which rows are those of a call (docs/GRAPH.md, "Parts").
use Rattle.std.specs.Prelude.{◌≡◌, ◌<◌, ◌+◌, ℕ, List, length}
use Rattle.id_table.specs.declared.row.Row.{Row}
use Rattle.id_table.specs.declared.row.Node.TheVariants.{Enter, Arg, Call}
use Rattle.id_table.specs.Rows.{at}

-- the row n is the call of the `Enter` at the row e
pub record IsCallOf (R : List Row) (n e : ℕ) : Type 0 where
  pub count : ℕ
  pub within : n < length R
  pub node : (at R n).node ≡ Call e count

-- the row m is the argument of the index k of the call whose `Enter` is at the row e
pub record IsArgOf (R : List Row) (m e k : ℕ) : Type 0 where
  pub value : ℕ
  pub within : m < length R
  pub node : (at R m).node ≡ Arg e k value

-- the row e is an `Enter`, where the call at the row n begins, whose place, block and region it has
pub record IsEnterOf (R : List Row) (e n : ℕ) : Type 0 where
  pub name : ℕ
  pub node : (at R e).node ≡ Enter name
  pub before : e < n
  pub own : (at R e).first ≡ e
  pub first : (at R n).first ≡ e
  pub place : (at R e).place ≡ (at R n).place
  pub block : (at R e).block ≡ (at R n).block
  pub region : (at R e).region ≡ (at R n).region

-- the argument at the row m, of the index k and the value v, stands right behind its value, between the `Enter` at the
-- row e and the call at the row n, which has c arguments, and whose place, block, region and first row it has
pub record StandsInCall (R : List Row) (m e k v n c : ℕ) : Type 0 where
  pub after : e < m
  pub before : m < n
  pub index : k < c
  pub behind : v + 1 ≡ m
  pub value_first : e < (at R v).first
  pub place : (at R m).place ≡ (at R n).place
  pub block : (at R m).block ≡ (at R n).block
  pub region : (at R m).region ≡ (at R n).region
  pub first : (at R m).first ≡ e

-- the row m is such an argument of a call
pub record IsArgIn (R : List Row) (m e k v : ℕ) : Type 0 where
  pub row : ℕ
  pub call : IsCallOf R row e
  pub stands : StandsInCall R m e k v row call.count

-- between the `Enter` at the row e and the call at the row n each index below c has exactly one argument, and there is
-- no other call of this `Enter`
pub record AreArgs (R : List Row) (e n c : ℕ) : Type 0 where
  pub each : (k : ℕ) → k < c → (m : ℕ) × IsArgOf R m e k
  pub once : (m l k : ℕ) → e < m → m < n → e < l → l < n → IsArgOf R m e k → IsArgOf R l e k → m ≡ l
  pub alone : (j d : ℕ) → e < j → j < n → (at R j).node ≡ Call e d → ⊥
