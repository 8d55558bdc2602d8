-- The facts of a round, worked out by path and row.
use Rattle.std.specs.Prelude.{◌≡◌, ◌<◌, ℕ, zero, suc, ℤ, Bool as Truth}
use Rattle.std.specs.Prelude.{false, List, [], ◌∷◌, ◌++◌, length, AllPairs, IsPermutation}
use Rattle.std.specs.declared.cmp.Ordering.{Ordering}
use Rattle.std.specs.Ordering.{bool_cmp, int_cmp, is_lt, nat_cmp, ordering_then}
use Rattle.std.specs.Cmp.Lexicographic.{slice_cmp}
use Rattle.id_value.specs.List.{Among}
use Rattle.id_check.specs.declared.checked.Checked.{Checked}
use Rattle.id_table.specs.Rows.{at}
use Rattle.id_table.specs.declared.row.Node.TheVariants as node
use Rattle.id_check.specs.Programs.{place, rows}
use Rattle.id_source.specs.declared.PathStep.{PathStep}
use Rattle.id_source.specs.declared.Path.{Path}
use Rattle.id_source.specs.declared.Site.{Site}
use Rattle.id_source.specs.declared.Shape.{Shape}
use Rattle.id_source.specs.declared.Put.{Put}
use Rattle.id_source.specs.declared.Ask.{Ask}
use Rattle.id_source.specs.declared.SourceValue.{SourceValue}
use Rattle.id_source.specs.declared.SourceValue.TheVariants as value
use Rattle.id_source.specs.declared.Fact.{Fact}
use Rattle.id_source.specs.declared.Fact.TheVariants as fact
use Rattle.id_facts.specs.declared.facts.RowFact.{RowFact}
use Rattle.id_facts.specs.declared.facts.RowFact.TheVariants as row
use Rattle.id_facts.specs.declared.facts.RowValue.{RowValue}
use Rattle.id_facts.specs.declared.facts.RowValue.TheVariants.{Int, Bool, Name}
use Rattle.id_facts.specs.declared.facts.Trail.{Trail}
use Rattle.id_facts.specs.declared.facts.Trail.TheVariants.{Outermost, Below}
use Rattle.id_source.specs.Facts.{ask, put, shape, site}
use Rattle.id_source.specs.Orders.{kind_of, step_cmp}
use Rattle.id_source.specs.Sources.{Source}
use Rattle.id_source.specs.Rounds.{Rounds}
use Rattle.id_facts.specs.RowFacts.{AreBefore, fact_at, path_of, row_of}
use Rattle.id_source.specs.Things.{IsThing}

-- the step to the call or the iteration of this number at the row
abbrev pub step_at : Checked → ℕ → ℕ → PathStep
step_at P n k = record { place = place P n; number = k }

-- the steps of the path, the last j of them: those of the path of the fact where it begins, and then the call or the
-- iteration
abbrev pub steps_of : Checked → List RowFact → ℕ → Trail → List PathStep
steps_of P fs zero q = []
steps_of P fs (suc j) Outermost = []
steps_of P fs (suc j) (Below i k) =
    steps_of P fs j (path_of (fact_at fs i)) ++ step_at P (row_of (fact_at fs i)) k ∷ []

-- the most steps that the path has
abbrev pub steps_in_all : Trail → ℕ
steps_in_all Outermost = 0
steps_in_all (Below i k) = suc i

-- the path of the source that it is
abbrev pub path_at : Checked → List RowFact → Trail → Path
path_at P fs q = record { steps = steps_of P fs (steps_in_all q) q }

-- the site of the source that a path and a row are
abbrev pub site_at : Checked → List RowFact → Trail → ℕ → Site
site_at P fs q n = site (path_at P fs q) (place P n)

-- the name in the source of the structure with this number: the site of the fact of that number
abbrev pub name_at : Checked → List RowFact → ℕ → Site
name_at P fs i = site_at P fs (path_of (fact_at fs i)) (row_of (fact_at fs i))

-- the value of the source that a value is
abbrev pub value_at : Checked → List RowFact → RowValue → SourceValue
value_at P fs (Int n) = value.Int n
value_at P fs (Bool b) = value.Bool b
value_at P fs (Name i) = value.Name (name_at P fs i)

-- the fact of the source that a row's fact is
abbrev pub fact_of : Checked → List RowFact → RowFact → Fact
fact_of P fs (row.On p n) = fact.On (path_at P fs p) (place P n)
fact_of P fs (row.Has p n v) = fact.Has (path_at P fs p) (place P n) (value_at P fs v)
fact_of P fs (row.Shape s lo hi) = shape (name_at P fs s) lo hi
fact_of P fs (row.Put p n s j v) = put (name_at P fs s) j (value_at P fs v) (site_at P fs p n)
fact_of P fs (row.Ask p n s j) = ask (site_at P fs p n) (name_at P fs s) j

-- the facts of the source that the rows' facts gs are, which are some of fs
abbrev pub facts_in : Checked → List RowFact → List RowFact → List Fact
facts_in P fs [] = []
facts_in P fs (g ∷ gs) = fact_of P fs g ∷ facts_in P fs gs

-- the fact of this number is that an `array` is On
pub record IsArrayOn (P : Checked) (fs : List RowFact) (i : ℕ) : Type 0 where
  pub path : Trail
  pub array : ℕ
  pub nested : Truth
  pub low : ℕ
  pub high : ℕ
  pub within : i < length fs
  pub on : fact_at fs i ≡ row.On path array
  pub stands : (at (rows P) array).node ≡ node.Array nested low high

-- the fact speaks of structures that an `array` made
abbrev pub NamesArray : Checked → List RowFact → RowValue → Type 0
NamesArray P fs (Name i) = IsArrayOn P fs i
NamesArray P fs _ = Unit {0}

-- each structure that the fact speaks of has the number of a fact that an `array` is On
abbrev pub NamesArrays : Checked → List RowFact → RowFact → Type 0
NamesArrays P fs (row.On p n) = Unit {0}
NamesArrays P fs (row.Has p n v) = NamesArray P fs v
NamesArrays P fs (row.Shape s lo hi) = IsArrayOn P fs s
NamesArrays P fs (row.Put p n s j v) = IsArrayOn P fs s × NamesArray P fs v
NamesArrays P fs (row.Ask p n s j) = IsArrayOn P fs s

-- a thing stands at the row of the fact, if it has one
abbrev pub IsOfThing : Source → RowFact → Type 0
IsOfThing S (row.Shape s lo hi) = Unit {0}
IsOfThing S f = IsThing S (row_of f)

-- a path begins where something is On
abbrev pub BeginsOn : List RowFact → Trail → Type 0
BeginsOn fs Outermost = Unit {0}
BeginsOn fs (Below i k) = (p : Trail) × ((n : ℕ) × (fact_at fs i ≡ row.On p n))

-- the facts are of things, speak of what was there before them, and no two are one
pub record AreFound (S : Source) (fs : List RowFact) : Type 0 where
  pub things : (f : RowFact) → Among f fs → IsOfThing S f
  pub arrays : (f : RowFact) → Among f fs → NamesArrays S.checked fs f
  pub begin : (f : RowFact) → Among f fs → BeginsOn fs (path_of f)
  pub before : AreBefore fs
  pub apart : (i j : ℕ) → i < length fs → j < length fs → fact_at fs i ≡ fact_at fs j → i ≡ j

-- the facts are exactly those of round n
pub record IsRound (S : Source) (n : ℕ) (fs : List RowFact) : Type 0 where
  pub all : (f : Fact) → Rounds S n f → (g : RowFact) × Among g fs × (f ≡ fact_of S.checked fs g)
  pub only : (g : RowFact) → Among g fs → Rounds S n (fact_of S.checked fs g)
  pub found : AreFound S fs

-- all of the facts are of round n
pub record IsPart (S : Source) (n : ℕ) (fs : List RowFact) : Type 0 where
  pub only : (g : RowFact) → Among g fs → Rounds S n (fact_of S.checked fs g)
  pub found : AreFound S fs

-- ---- as a list

-- how two points compare: by path, and then by place
abbrev pub point_cmp : Path → ℕ → Path → ℕ → Ordering
point_cmp p d q e = ordering_then (slice_cmp step_cmp p.steps q.steps) (nat_cmp d e)

-- how two sites compare: by path, and then by place
abbrev pub site_cmp : Site → Site → Ordering
site_cmp a b = point_cmp a.path a.place b.path b.place

-- 0 for a number, 1 for a truth value, 2 for a structure
abbrev pub sort_of : SourceValue → ℕ
sort_of (value.Int n) = 0
sort_of (value.Bool b) = 1
sort_of (value.Name s) = 2

-- how two values compare: numbers before truth values before structures, and then as values of one sort
abbrev pub value_cmp : SourceValue → SourceValue → Ordering
value_cmp (value.Int m) (value.Int n) = int_cmp m n
value_cmp (value.Bool b) (value.Bool c) = bool_cmp b c
value_cmp (value.Name s) (value.Name t) = site_cmp s t
value_cmp v w = nat_cmp (sort_of v) (sort_of w)

-- how two Shapes compare: by the structure's name, then by its lower bound, and then by its upper one
abbrev pub shape_cmp : Shape → Shape → Ordering
shape_cmp s t = ordering_then (site_cmp s.name t.name) (ordering_then (int_cmp s.low t.low) (int_cmp s.high t.high))

-- how two cells compare: by the structure's name, and then by the index
abbrev pub cell_cmp : Site → ℤ → Site → ℤ → Ordering
cell_cmp s i t j = ordering_then (site_cmp s t) (int_cmp i j)

-- how two Puts compare: by the cell, then by the store, and then by the value
abbrev pub put_cmp : Put → Put → Ordering
put_cmp p q =
    ordering_then (cell_cmp p.name p.index q.name q.index)
    (ordering_then (site_cmp p.store q.store) (value_cmp p.value q.value))

-- how two Asks compare: by the fetch, and then by the cell
abbrev pub ask_cmp : Ask → Ask → Ordering
ask_cmp a b = ordering_then (site_cmp a.fetch b.fetch) (cell_cmp a.name a.index b.name b.index)

-- how two facts compare: by their kinds, then as facts of one kind
abbrev pub fact_cmp : Fact → Fact → Ordering
fact_cmp (fact.On p d) (fact.On q e) = point_cmp p d q e
fact_cmp (fact.Has p d v) (fact.Has q e w) = ordering_then (point_cmp p d q e) (value_cmp v w)
fact_cmp (fact.Shape s) (fact.Shape t) = shape_cmp s t
fact_cmp (fact.Put p) (fact.Put q) = put_cmp p q
fact_cmp (fact.Ask a) (fact.Ask b) = ask_cmp a b
fact_cmp f g = nat_cmp (kind_of f) (kind_of g)

-- the list has the facts that these are, and none stands behind one that it compares less than
pub record AreShown (P : Checked) (fs : List RowFact) (all : List Fact) : Type 0 where
  pub same : IsPermutation (facts_in P fs fs) all
  pub up : AllPairs (λ f g. is_lt (fact_cmp g f) ≡ false) all
