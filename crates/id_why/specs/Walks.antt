-- How the things that lack a value are gone through.
use Rattle.std.specs.Prelude.{◌≡◌, ◌≤◌, ◌<◌, ℕ, List, [], ◌∷◌, ◌++◌, length, map, drop}
use Rattle.id_value.specs.List.{Among, AllDiffer}
use Rattle.id_check.specs.declared.checked.Checked.{Checked}
use Rattle.id_source.specs.Sources.{main_body}
use Rattle.id_source.specs.declared.links.Links.{Links}
use Rattle.id_facts.specs.declared.cells.Point.{Point}
use Rattle.id_facts.specs.declared.facts.RowFact.{RowFact}
use Rattle.id_facts.specs.declared.facts.RowFact.TheVariants.{On, Has, Shape, Put, Ask}
use Rattle.id_facts.specs.declared.facts.RowValue.{RowValue}
use Rattle.id_facts.specs.declared.facts.Trail.TheVariants.{Outermost}
use Rattle.id_facts.specs.RowFacts.{fact_at}
use Rattle.id_why.specs.declared.known.Known.{Known}
use Rattle.id_why.specs.declared.lines.Line.{Line}
use Rattle.id_why.specs.Found.{lacking, needs}
use Rattle.id_why.specs.Known.{asks, known_facts, values}
use Rattle.id_why.specs.Needs.{IsReached, point}

-- no two of the facts are one
abbrev pub AreApart : List RowFact → Type 0
AreApart fs = (i j : ℕ) → i < length fs → j < length fs → fact_at fs i ≡ fact_at fs j → i ≡ j

-- the fetches that ask for a cell by these facts
abbrev pub asking_by : RowFact → List Point
asking_by (Ask p n s j) = point p n ∷ []
asking_by _ = []

-- the fetches that ask for a cell by one of these facts
abbrev pub asking : List RowFact → List Point
asking [] = []
asking (f ∷ fs) = asking_by f ++ asking fs

-- the answer, and these
abbrev pub roots : Checked → List RowFact → List Point
roots P fs = point Outermost (main_body P) ∷ asking fs

-- the values of these things
abbrev pub values_of : Known → List Point → List RowValue
values_of k [] = []
values_of k (u ∷ us) = values k u.path u.row ++ values_of k us

-- what is found of a thing
pub record IsLineOf (P : Checked) (l : Links) (k : Known) (t : Point) (a : Line) : Type 0 where
  pub thing : a.thing ≡ t
  pub cells : a.cells.items ≡ asks k t
  pub lacks : a.needs.items ≡ lacking k (needs P l k t (asks k t))
  pub given : a.values.items ≡ values_of k (needs P l k t (asks k t))

-- the things are gone through up to this number, with these lines
pub record IsWalk (P : Checked) (l : Links) (k : Known) (n : ℕ) (ts : List Point) (ls : List Line) : Type 0
  where
    pub within : n ≤ length ts
    pub parts : map (λ a. a.thing) ls ++ drop n ts ≡ ts
    pub lines : (a : Line) → Among a ls → IsLineOf P l k a.thing a
    pub closed : (a : Line) (u : Point) → Among a ls → Among u a.needs.items → Among u ts
    pub reached : (t : Point) → Among t ts → IsReached P (known_facts k) t
    pub begun : (t : Point) → Among t (lacking k (roots P (known_facts k))) → Among t ts
    pub once : AllDiffer ts
