-- What the lines of facts tell: the facts can be read back from them.
use Rattle.std.specs.Prelude.{ℕ, List, All}
use Rattle.id_source.specs.declared.Path.{Path}
use Rattle.id_source.specs.declared.SourceValue.{SourceValue}
use Rattle.id_source.specs.declared.Put.{Put}
use Rattle.id_source.specs.declared.Fact.{Fact}
use Rattle.id_source.specs.declared.Fact.TheVariants.{On, Has}
use Rattle.id_source.specs.declared.Fact.TheVariants as fact
use Rattle.id_sink.specs.Telling.{AskIsTold, CellIsTold, PointIsTold, ShapeIsTold, SiteIsTold, ValueIsTold}

-- a point with its value is told: both are
pub record HasIsTold (text : List ℕ) (p : Path) (e : ℕ) (v : SourceValue) : Type 0 where
  pub point : PointIsTold text p e
  pub value : ValueIsTold text v

-- what is put into a cell is told: the cell, the value and the store are
pub record PutIsTold (text : List ℕ) (p : Put) : Type 0 where
  pub cell : CellIsTold text p.name p.index
  pub value : ValueIsTold text p.value
  pub store : SiteIsTold text p.store

-- a fact is told: what its line names is
abbrev pub FactIsTold : List ℕ → Fact → Type 0
FactIsTold text (On p e) = PointIsTold text p e
FactIsTold text (Has p e v) = HasIsTold text p e v
FactIsTold text (fact.Shape s) = ShapeIsTold text s
FactIsTold text (fact.Put p) = PutIsTold text p
FactIsTold text (fact.Ask a) = AskIsTold text a

-- each of the facts is told
abbrev pub FactsAreTold : List ℕ → List Fact → Type 0
FactsAreTold text fs = All (FactIsTold text) fs
