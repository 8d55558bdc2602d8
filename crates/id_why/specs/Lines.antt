-- What is told of the things that lack a value (docs/LANGUAGE.md, "Output").
use Rattle.std.specs.Prelude.{◌≡◌, List, map}
use Rattle.id_value.specs.List.{AllDiffer, Among}
use Rattle.id_check.specs.declared.checked.Checked.{Checked}
use Rattle.id_facts.specs.declared.cells.Point.{Point}
use Rattle.id_facts.specs.declared.facts.RowFact.{RowFact}
use Rattle.id_facts.specs.declared.facts.RowFact.TheVariants.{Has, Ask}
use Rattle.id_facts.specs.declared.facts.RowValue.{RowValue}
use Rattle.id_why.specs.declared.lines.Line.{Line}
use Rattle.id_why.specs.declared.known.Cell.{Cell}
use Rattle.id_why.specs.Needs.{IsReached, Lacks, Needs}

-- the line tells of a thing exactly what it needs that lacks a value, the values of what it needs that has one, and the
-- cells that it asks for
pub record IsLine (P : Checked) (fs : List RowFact) (l : Line) : Type 0 where
  pub needs : (u : Point) → Among u l.needs.items → Needs P fs l.thing u
  pub lacks : (u : Point) → Among u l.needs.items → Lacks fs u
  pub all : (u : Point) → Needs P fs l.thing u → Lacks fs u → Among u l.needs.items
  pub values : (v : RowValue) → Among v l.values.items
      → (u : Point) × Needs P fs l.thing u × Among (Has u.path u.row v) fs
  pub valued : (v : RowValue) (u : Point) → Needs P fs l.thing u → Among (Has u.path u.row v) fs
      → Among v l.values.items
  pub asks : (c : Cell) → Among c l.cells.items → Among (Ask l.thing.path l.thing.row c.name c.index) fs
  pub asked : (c : Cell) → Among (Ask l.thing.path l.thing.row c.name c.index) fs → Among c l.cells.items

-- some line is of the thing
pub record IsTold (ls : List Line) (t : Point) : Type 0 where
  pub line : Line
  pub there : Among line ls
  pub is : line.thing ≡ t

-- the lines tell of exactly the things that are reached, of each once
pub record Explain (P : Checked) (fs : List RowFact) (ls : List Line) : Type 0 where
  pub all : (t : Point) → IsReached P fs t → IsTold ls t
  pub only : (l : Line) → Among l ls → IsReached P fs l.thing
  pub lines : (l : Line) → Among l ls → IsLine P fs l
  pub once : AllDiffer (map (λ (l : Line). l.thing) ls)
