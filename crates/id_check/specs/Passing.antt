-- What the pass over the rows has come to, for use inside.
use Rattle.std.specs.Prelude.{◌≡◌, ℕ, ◌+◌, List, length}
use Rattle.id_table.specs.declared.row.Row.{Row}
use Rattle.id_table.specs.Lent.{list_of}
use Rattle.id_check.specs.Names.{IsTaking, keys}
use Rattle.id_check.specs.declared.scope.Scopes.{Scopes}

-- the rows
abbrev pub rows : Scopes → List Row
rows p = list_of p.rows.now

-- how many keys the uses of names wait by
abbrev pub keys_of : Scopes → ℕ
keys_of p = keys (length p.rows.now.table.now.names.items)

-- the scope that is passed next has taken what it binds of the first n rows
abbrev pub HasTaken : Scopes → ℕ → Type 0
HasTaken p n = IsTaking (rows p) p.passed n p.bound.items p.binders.items

-- as many of the same rows are passed
pub record Stays (p q : Scopes) : Type 0 where
  pub rows : q.rows.now ≡ p.rows.now
  pub passed : q.passed ≡ p.passed

-- and the same is bound and noted
pub record Keeps (p q : Scopes) : Type 0 where
  pub stays : Stays p q
  pub bound : q.bound.items ≡ p.bound.items
  pub first : q.first ≡ p.first

-- one more of the same rows is passed
pub record Passes (p q : Scopes) : Type 0 where
  pub rows : q.rows.now ≡ p.rows.now
  pub passed : q.passed ≡ p.passed + 1
