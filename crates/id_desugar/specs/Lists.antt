-- The rows of a list that is kept behind a box, if there are any, the lists of all rows, and the row that a number in
-- a column stands for.
use Rattle.std.specs.Prelude.{ℕ, zero, suc, List, [], replicate, Option, None, Some, Vec, box_value}
use Rattle.std.specs.declared.alloc.Global.{Global}
use Rattle.std.specs.declared.boxed.Box.{Box}

-- the rows of the list behind the box, or none if there is no box
abbrev pub listed : Option (Box (Vec ℕ Global) Global) → List ℕ
listed None = []
listed (Some rows) = (box_value rows).items

-- the list of each of n rows, where without lists each is empty
abbrev pub each_listed : ℕ → Option (Vec (List ℕ) Global) → List (List ℕ)
each_listed n None = replicate n []
each_listed n (Some lists) = lists.items

-- the row that a number stands for, if it stands for one
abbrev pub row_of : ℕ → Option ℕ
row_of zero = None
row_of (suc n) = Some n
