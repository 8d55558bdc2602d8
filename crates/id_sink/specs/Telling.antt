-- What the texts of steps, points and values tell: these can be read back from them.
use Rattle.std.specs.Prelude.{◌≡◌, ◌≤◌, ◌<◌, ◌^◌, ℕ, ℤ, Bool as Truth, true, false}
use Rattle.std.specs.Prelude.{List, length, All}
use Rattle.std.specs.Int.Signed.{mag}
use Rattle.id_source.specs.declared.PathStep.{PathStep}
use Rattle.id_source.specs.declared.Path.{Path}
use Rattle.id_source.specs.declared.Site.{Site}
use Rattle.id_source.specs.declared.SourceValue.{SourceValue}
use Rattle.id_source.specs.declared.SourceValue.TheVariants.{Int, Bool, Name}
use Rattle.id_source.specs.declared.Shape.{Shape}
use Rattle.id_source.specs.declared.Ask.{Ask}
use Rattle.id_sink.specs.Texts.{has_brace}

-- the number of a step is told: a loop's has few enough digits, and where none is printed it is 0
abbrev pub NumberIsTold : Truth → ℕ → Type 0
NumberIsTold true k = k < 2 ^ 64
NumberIsTold false k = k ≡ 0

-- a step is told: it stands in the text, and its number is told
pub record StepIsTold (text : List ℕ) (s : PathStep) : Type 0 where
  pub place : s.place ≤ length text
  pub number : NumberIsTold (has_brace text s.place) s.number

-- a path and a place are told: the place stands in the text, and each step is told
pub record PointIsTold (text : List ℕ) (p : Path) (e : ℕ) : Type 0 where
  pub path : All (StepIsTold text) p.steps
  pub place : e ≤ length text

-- the name of a structure is told: its path and place are
abbrev pub SiteIsTold : List ℕ → Site → Type 0
SiteIsTold text s = PointIsTold text s.path s.place

-- a number is told: it has few enough digits
abbrev pub IntIsTold : ℤ → Type 0
IntIsTold n = mag n < 2 ^ 64

-- a value is told: a truth value, and a number or a name that is
abbrev pub ValueIsTold : List ℕ → SourceValue → Type 0
ValueIsTold text (Int n) = IntIsTold n
ValueIsTold text (Bool b) = Unit {0}
ValueIsTold text (Name s) = SiteIsTold text s

-- a structure is told: its name and its bounds are
pub record ShapeIsTold (text : List ℕ) (s : Shape) : Type 0 where
  pub name : SiteIsTold text s.name
  pub low : IntIsTold s.low
  pub high : IntIsTold s.high

-- a cell is told: the name of its structure and its index are
pub record CellIsTold (text : List ℕ) (s : Site) (i : ℤ) : Type 0 where
  pub name : SiteIsTold text s
  pub index : IntIsTold i

-- a fetch with the cell that it asks for is told: both are
pub record AskIsTold (text : List ℕ) (a : Ask) : Type 0 where
  pub fetch : SiteIsTold text a.fetch
  pub cell : CellIsTold text a.name a.index
