-- How many steps the paths of facts have, and the last of them.
use Rattle.std.specs.Prelude.{◌≡◌, ◌≤◌, ◌<◌, ◌+◌, ℕ, zero, suc, List, length, get_or}
use Rattle.std.specs.declared.cmp.Ordering.{Ordering}
use Rattle.std.specs.Ordering.{ordering_then}
use Rattle.std.specs.Cmp.Lexicographic.{slice_cmp}
use Rattle.id_check.specs.declared.checked.Checked.{Checked}
use Rattle.id_source.specs.declared.PathStep.{PathStep}
use Rattle.id_facts.specs.declared.facts.RowFact.{RowFact}
use Rattle.id_facts.specs.declared.facts.Trail.{Trail}
use Rattle.id_facts.specs.declared.facts.Trail.TheVariants.{Outermost, Below}
use Rattle.id_facts.specs.RowFacts.{AreBefore, fact_at, path_of, row_of}
use Rattle.id_source.specs.Orders.{step_cmp}
use Rattle.id_facts.specs.Listed.{path_at, step_at, steps_in_all}

-- how many steps the path has, of its last j
abbrev pub depth_in : List RowFact → ℕ → Trail → ℕ
depth_in fs zero q = 0
depth_in fs (suc j) Outermost = 0
depth_in fs (suc j) (Below i k) = depth_in fs j (path_of (fact_at fs i)) + 1

-- how many steps the path has
abbrev pub depth_at : List RowFact → Trail → ℕ
depth_at fs q = depth_in fs (steps_in_all q) q

-- the path without its last step
abbrev pub outside : List RowFact → Trail → Trail
outside fs Outermost = Outermost
outside fs (Below i k) = path_of (fact_at fs i)

-- its last step; of the empty path, that to the call at 0
abbrev pub last_step : Checked → List RowFact → Trail → PathStep
last_step P fs Outermost = record { place = 0; number = 0 }
last_step P fs (Below i k) = step_at P (row_of (fact_at fs i)) k

-- how two paths compare by their steps, and where they tie, this
abbrev pub compared : Checked → List RowFact → Trail → Trail → Ordering → Ordering
compared P fs p q o = ordering_then (slice_cmp step_cmp (path_at P fs p).steps (path_at P fs q).steps) o

-- For use inside.

-- how many steps a path has, by those of the paths of facts
abbrev pub depth_by : List ℕ → Trail → ℕ
depth_by ds Outermost = 0
depth_by ds (Below i k) = get_or ds i 0 + 1

-- these are how many steps the paths of the first n of the facts have
pub record AreDepths (fs : List RowFact) (n : ℕ) (ds : List ℕ) : Type 0 where
  pub count : length ds ≡ n
  pub small : (i : ℕ) → i < n → get_or ds i 0 ≤ i
  pub depths : (i : ℕ) → i < n → get_or ds i 0 ≡ depth_at fs (path_of (fact_at fs i))

-- all that each fact speaks of was there before it, and these are how many steps their paths have
pub record IsTree (fs : List RowFact) (ds : List ℕ) : Type 0 where
  pub before : AreBefore fs
  pub depths : AreDepths fs (length fs) ds
