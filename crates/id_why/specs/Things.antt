-- Things, each once.
use Rattle.std.specs.Prelude.{◌≡◌, ◌<◌, ◌&&◌, ◌||◌, ℕ, Bool as Truth, false, List, [], ◌∷◌, ◌++◌, length}
use Rattle.std.specs.Prelude.{nat_eq, get_or, if◌then◌else◌}
use Rattle.id_source.specs.declared.edges.Edges.{Edges}
use Rattle.id_source.specs.Links.{Leads, width}
use Rattle.id_facts.specs.declared.cells.Point.{Point}
use Rattle.id_facts.specs.declared.facts.Trail.TheVariants.{Outermost}
use Rattle.id_facts.specs.RowFacts.{chain_at, same_trail}
use Rattle.id_why.specs.Needs.{point}

-- whether the two things are one
abbrev pub same_point : Point → Point → Truth
same_point t u = same_trail t.path u.path && nat_eq t.row u.row

-- whether the thing is one of these
abbrev pub is_thing : Point → List Point → Truth
is_thing t [] = false
is_thing t (u ∷ us) = same_point u t || is_thing t us

-- the things with this one, where it is not there
abbrev pub with_one : List Point → Point → List Point
with_one us t = if is_thing t us then us else us ++ t ∷ []

-- the things with each of these in turn, where it is not there
abbrev pub with_all : List Point → List Point → List Point
with_all us [] = us
with_all us (t ∷ ts) = with_all (with_one us t) ts

-- the thing of this number; past the last one, the first row at the empty path
abbrev pub thing_at : List Point → ℕ → Point
thing_at ts i = get_or ts i (point Outermost 0)

-- each thing is found in its chain
pub record AreHeld (ts : List Point) (chains : Edges) : Type 0 where
  pub wide : width chains ≡ 262144
  pub there : (i : ℕ) → i < length ts
      → Leads chains (chain_at (thing_at ts i).path (thing_at ts i).row) i
