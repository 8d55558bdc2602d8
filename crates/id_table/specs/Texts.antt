-- Names as the set that numbers them has them.
use Rattle.std.specs.Prelude.{ℕ, List, [], ◌∷◌}
use Rattle.id_table.specs.declared.spelled.Spelled.{Spelled}

-- the texts of the names
abbrev pub texts : List Spelled → List (List ℕ)
texts [] = []
texts (k ∷ ks) = k.name.now ∷ texts ks
