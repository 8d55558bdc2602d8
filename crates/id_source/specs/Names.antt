-- What the binders of a source have, and its structures, their cells and the fetches that wait (docs/MEANING.md,
-- "Names", "Answer").
use Rattle.std.specs.Prelude.{◌≡◌, ◌<◌, ℕ, true, List, length}
use Rattle.id_value.specs.List.{Among}
use Rattle.id_table.specs.Rows.{at}
use Rattle.id_table.specs.Tables.{is_binder}
use Rattle.id_check.specs.declared.checked.Checked.{Checked}
use Rattle.id_check.specs.Programs.{place, rows}
use Rattle.id_source.specs.declared.Fact.TheVariants.{Has}
use Rattle.id_source.specs.declared.Fact.TheVariants as fact
use Rattle.id_source.specs.declared.NameValue.{NameValue}
use Rattle.id_source.specs.declared.Shape.{Shape}
use Rattle.id_source.specs.declared.Put.{Put}
use Rattle.id_source.specs.declared.Ask.{Ask}
use Rattle.id_source.specs.Sources.{Source}
use Rattle.id_source.specs.Rounds.{Holds, IsWaiting}
use Rattle.id_source.specs.Orders.{AskBefore, NamesRise, PutBefore, Rises, ShapeBefore}

-- a binder stands at the place: a binding or a parameter
pub record IsBinder (P : Checked) (e : ℕ) : Type 0 where
  pub row : ℕ
  pub within : row < length (rows P)
  pub binds : is_binder (at (rows P) row).node ≡ true
  pub here : place P row ≡ e

-- a binder of the source stands there, and Has the value at the path
pub record IsNameValue (S : Source) (n : NameValue) : Type 0 where
  pub binder : IsBinder S.checked n.place
  pub holds : Holds S (Has n.path n.place n.value)

-- these are all that binders of the source Have, each once, by path and place
pub record AreNames (S : Source) (ns : List NameValue) : Type 0 where
  pub all : (n : NameValue) → IsNameValue S n → Among n ns
  pub only : (n : NameValue) → Among n ns → IsNameValue S n
  pub rise : NamesRise ns

-- these are some of them, each once, by path and place
pub record AreSomeNames (S : Source) (ns : List NameValue) : Type 0 where
  pub only : (n : NameValue) → Among n ns → IsNameValue S n
  pub rise : NamesRise ns

-- these are all structures of the source, each once, by name
pub record AreShapes (S : Source) (ss : List Shape) : Type 0 where
  pub all : (s : Shape) → Holds S (fact.Shape s) → Among s ss
  pub only : (s : Shape) → Among s ss → Holds S (fact.Shape s)
  pub rise : Rises ShapeBefore ss

-- these are some of them, each once, by name
pub record AreSomeShapes (S : Source) (ss : List Shape) : Type 0 where
  pub only : (s : Shape) → Among s ss → Holds S (fact.Shape s)
  pub rise : Rises ShapeBefore ss

-- these are all that is put into cells, each once, by cell
pub record ArePuts (S : Source) (ps : List Put) : Type 0 where
  pub all : (p : Put) → Holds S (fact.Put p) → Among p ps
  pub only : (p : Put) → Among p ps → Holds S (fact.Put p)
  pub rise : Rises PutBefore ps

-- these are some of it, each once, by cell
pub record AreSomePuts (S : Source) (ps : List Put) : Type 0 where
  pub only : (p : Put) → Among p ps → Holds S (fact.Put p)
  pub rise : Rises PutBefore ps

-- these are all fetches that wait, each once, by path and place
pub record AreWaiting (S : Source) (qs : List Ask) : Type 0 where
  pub all : (a : Ask) → IsWaiting S a → Among a qs
  pub only : (a : Ask) → Among a qs → IsWaiting S a
  pub rise : Rises AskBefore qs
