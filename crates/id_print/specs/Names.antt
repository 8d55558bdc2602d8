-- The names of a report, its structures with their cells, and its fetches that wait, in order (docs/PROMISES.md,
-- "Printing").
use Rattle.std.specs.Prelude.{◌≡◌, ◌⊎◌, ◌<ℤ◌, List, ◌++◌, map, AllPairs, IsPermutation}
use Rattle.std.specs.declared.cmp.Ordering.{Ordering}
use Rattle.std.specs.declared.cmp.Ordering.TheVariants.{Less, Equal, Greater}
use Rattle.std.specs.Ordering.{int_cmp, nat_cmp, ordering_then}
use Rattle.std.specs.Cmp.Lexicographic.{slice_cmp}
use Rattle.id_core.specs.Observed.{CellValue, cell_value}
use Rattle.id_value.specs.List.{Among, AllDiffer}
use Rattle.id_source.specs.declared.Ask.{Ask}
use Rattle.id_source.specs.declared.NameValue.{NameValue}
use Rattle.id_source.specs.declared.Shape.{Shape}
use Rattle.id_source.specs.declared.Put.{Put}
use Rattle.id_source.specs.declared.Site.{Site}
use Rattle.id_source.specs.declared.Fact.TheVariants as fact
use Rattle.id_source.specs.Orders.{PointBefore, Rises, SiteBefore, step_cmp}
use Rattle.id_source.specs.Rounds.{Holds}
use Rattle.id_source.specs.Sources.{Source}
use Rattle.id_print.specs.declared.helds.Held.{Held}
use Rattle.id_print.specs.declared.helds.Held.TheVariants.{Array, Cell}

-- the first list is the second in order: none in it stands behind one that it comes before
pub record IsOrderOf {A : Type 0} (B : A → A → Type 0) (sorted xs : List A) : Type 0 where
  pub same : IsPermutation xs sorted
  pub in_order : AllPairs (λ x y. ¬ B y x) sorted

-- the first name's path and place come before those of the second
abbrev pub NameBefore : NameValue → NameValue → Type 0
NameBefore n m = PointBefore n.path n.place m.path m.place

-- the structure that a line is about
abbrev pub held_name : Held → Site
held_name (Array s) = s.name
held_name (Cell c) = c.name

-- of the lines about one structure its own comes before its cells, and these come by index
abbrev pub LineBefore : Held → Held → Type 0
LineBefore (Array s) (Cell c) = Unit {0}
LineBefore (Cell c) (Cell d) = c.index <ℤ d.index
LineBefore _ _ = ⊥

-- by the structure's name, and then as lines of one
abbrev pub HeldBefore : Held → Held → Type 0
HeldBefore h k = SiteBefore (held_name h) (held_name k) ⊎ ((held_name h ≡ held_name k) × LineBefore h k)

-- by the path and place of the fetch
abbrev pub WaitBefore : Ask → Ask → Type 0
WaitBefore a b = SiteBefore a.fetch b.fetch

-- the lines about structures, and then those about cells
abbrev pub held_lines : List Shape → List CellValue → List Held
held_lines ss cs = map Array ss ++ map Cell cs

-- names in order
abbrev pub IsSortedOf : List NameValue → List NameValue → Type 0
IsSortedOf = IsOrderOf NameBefore

-- these all differ, and two of them in one place of the order would be the same
pub record AreApartBy {A : Type 0} (C : A → A → Type 0) (xs : List A) : Type 0 where
  pub differ : AllDiffer xs
  pub one : (x y : A) → Among x xs → Among y xs → C x y → x ≡ y

-- two names have one path and place
abbrev pub AtOnePoint : NameValue → NameValue → Type 0
AtOnePoint n m = (n.path ≡ m.path) × (n.place ≡ m.place)

-- two lines are about one structure, or about one cell
abbrev pub OfOneThing : Held → Held → Type 0
OfOneThing (Array s) (Array t) = s.name ≡ t.name
OfOneThing (Cell c) (Cell d) = (c.name ≡ d.name) × (c.index ≡ d.index)
OfOneThing _ _ = ⊥

-- two fetches are one
abbrev pub OfOneFetch : Ask → Ask → Type 0
OfOneFetch a b = a.fetch ≡ b.fetch

-- the names all differ, and two of them at one path and place would be the same
abbrev pub AreApart : List NameValue → Type 0
AreApart = AreApartBy AtOnePoint

-- a store of the source puts this value into this cell
abbrev pub IsPut : Source → CellValue → Type 0
IsPut S c = (s : Site) × Holds S (fact.Put (record { name = c.name; index = c.index; value = c.value; store = s }))

-- these are some of them, each once, by name and index
pub record AreSomeHeld (S : Source) (hs : List Held) : Type 0 where
  pub shapes : (s : Shape) → Among (Array s) hs → Holds S (fact.Shape s)
  pub puts : (c : CellValue) → Among (Cell c) hs → IsPut S c
  pub rise : Rises HeldBefore hs

-- these are all structures of the source and all that is put into their cells, each once, by name and index
pub record AreHeld (S : Source) (hs : List Held) : Type 0 where
  pub shapes : (s : Shape) → Holds S (fact.Shape s) → Among (Array s) hs
  pub puts : (p : Put) → Holds S (fact.Put p) → Among (Cell (cell_value p)) hs
  pub some : AreSomeHeld S hs

-- For use inside.

-- how two sites compare: by path, then by place
abbrev pub site_cmp : Site → Site → Ordering
site_cmp s t = ordering_then (slice_cmp step_cmp s.path.steps t.path.steps) (nat_cmp s.place t.place)

-- how two names compare: by path, then by place
abbrev pub name_cmp : NameValue → NameValue → Ordering
name_cmp n m = ordering_then (slice_cmp step_cmp n.path.steps m.path.steps) (nat_cmp n.place m.place)

-- how two lines of one structure compare
abbrev pub line_cmp : Held → Held → Ordering
line_cmp (Array s) (Array t) = Equal
line_cmp (Array s) (Cell c) = Less
line_cmp (Cell c) (Array s) = Greater
line_cmp (Cell c) (Cell d) = int_cmp c.index d.index

-- how two lines compare: by the structure's name, then as lines of one
abbrev pub held_cmp : Held → Held → Ordering
held_cmp h k = ordering_then (site_cmp (held_name h) (held_name k)) (line_cmp h k)

-- how two fetches compare: by path, then by place
abbrev pub ask_cmp : Ask → Ask → Ordering
ask_cmp a b = site_cmp a.fetch b.fetch
