-- Facts by path and row, and what finds them.
use Rattle.std.specs.Prelude.{ℕ, zero, suc, ◌+◌, ◌%◌, ◌<◌, ◌≡◌, ℤ, ◌&&◌}
use Rattle.std.specs.Prelude.{nat_eq, nat_lt, List, [], ◌∷◌, ◌++◌, length, Some}
use Rattle.std.specs.Prelude.{Option, None, if◌then◌else◌, pos}
use Rattle.std.specs.Ordering.{int_eq}
use Rattle.id_facts.specs.declared.cells.Bounds.{Bounds}
use Rattle.id_facts.specs.declared.cells.Cells.{Cells}
use Rattle.id_facts.specs.declared.cells.Point.{Point}
use Rattle.id_facts.specs.declared.facts.RowFact.{RowFact}
use Rattle.id_facts.specs.declared.facts.RowFact.TheVariants.{Has, Shape, Put, Ask}
use Rattle.id_facts.specs.declared.facts.RowValue.{RowValue}
use Rattle.id_facts.specs.declared.facts.RowValue.TheVariants.{Name}
use Rattle.id_facts.specs.declared.facts.Sort.TheVariants.{Shapes, Named, Puts, Asks}
use Rattle.id_facts.specs.declared.facts.Trail.{Trail}
use Rattle.id_facts.specs.declared.facts.Trail.TheVariants.{Outermost, Below}
use Rattle.id_source.specs.Links.{Leads, targets, width}
use Rattle.id_facts.specs.RowFacts.{same_trail, is_on, path_of, fact_at, chain_at, chain_by, chain_of}

-- the value that the row Has at the path by the fact, if it is one of that
abbrev pub value_by : Trail → ℕ → RowFact → Option RowValue
value_by p n (Has q m v) = if same_trail q p && nat_eq m n then Some v else None
value_by p n _ = None

-- the bounds of the structure by the fact, if it is one of them
abbrev pub bounds_by : ℕ → RowFact → Option Bounds
bounds_by s (Shape t lo hi) = if nat_eq t s then Some (record { low = lo; high = hi }) else None
bounds_by s _ = None

-- where the structure is a value by the fact, if it is one of that
abbrev pub named_value : ℕ → Trail → ℕ → RowValue → Option Point
named_value s p n (Name t) = if nat_eq t s then Some (record { path = p; row = n }) else None
named_value s p n _ = None

-- where something Has the structure by the fact, if it is one of that
abbrev pub named_by : ℕ → RowFact → Option Point
named_by s (Has p n v) = named_value s p n v
named_by s _ = None

-- what is put into the cell by the fact, if it is one of that
abbrev pub put_by : ℕ → ℤ → RowFact → Option RowValue
put_by s j (Put p n t i v) = if nat_eq t s && int_eq i j then Some v else None
put_by s j _ = None

-- the fetch that asks for the cell by the fact, if it is one of that
abbrev pub ask_by : ℕ → ℤ → RowFact → Option Point
ask_by s j (Ask p n t i) = if nat_eq t s && int_eq i j then Some (record { path = p; row = n }) else None
ask_by s j _ = None

-- the path without its last step
abbrev pub outer : List RowFact → Trail → Trail
outer fs Outermost = Outermost
outer fs (Below i k) = path_of (fact_at fs i)

-- the path without its last d steps
abbrev pub out_of : List RowFact → ℕ → Trail → Trail
out_of fs zero p = p
out_of fs (suc d) p = out_of fs d (outer fs p)

-- the path of the next iteration, if there may be one
abbrev pub next_of : Trail → Option Trail
next_of Outermost = None
next_of (Below i k) = if nat_lt k 18446744073709551615 then Some (Below i (k + 1)) else None

-- the queue in which names wait for the binder with this path and row
abbrev pub queue_of : Trail → ℕ → ℕ
queue_of p n = chain_at p n % 65536

-- the numbers in this chain
abbrev pub chain : Cells → ℕ → List ℕ
chain c k = targets c.chains.rows.items k

-- the facts of the cells
abbrev pub items : Cells → List RowFact
items c = c.items.items

-- ---- what is looked up

-- the number of the first of these facts by which the row is On at the path, if there is one
abbrev pub first_on : List RowFact → Trail → ℕ → List ℕ → Option ℕ
first_on fs p n [] = None
first_on fs p n (i ∷ is) = if is_on p n (fact_at fs i) then Some i else first_on fs p n is

-- the number of the first fact in its chain by which the row is On at the path, if there is one
abbrev pub find : Cells → Trail → ℕ → Option ℕ
find c p n = first_on (items c) p n (chain c (chain_at p n))

-- what is there, as a list
abbrev pub listed : {A : Type 0} → Option A → List A
listed None = []
listed (Some x) = x ∷ []

-- what these facts tell by the question
abbrev pub told : {A : Type 0} → (RowFact → Option A) → List RowFact → List ℕ → List A
told f fs [] = []
told f fs (i ∷ is) = listed (f (fact_at fs i)) ++ told f fs is

-- the value, or else these
abbrev pub or_these : Option RowValue → List RowValue → List RowValue
or_these None vs = vs
or_these (Some v) vs = v ∷ []

-- what the row Has at the path; of the row that the fact g, which is followed, is of, its value alone
abbrev pub values : Cells → RowFact → Trail → ℕ → List RowValue
values c g p n = or_these (value_by p n g) (told (value_by p n) (items c) (chain c (chain_at p n)))

-- the bounds of the structure, by the facts
abbrev pub shapes : Cells → ℕ → List Bounds
shapes c s = told (bounds_by s) (items c) (chain c (chain_by Shapes s (pos 0)))

-- where the structure is a value, by the facts
abbrev pub named : Cells → ℕ → List Point
named c s = told (named_by s) (items c) (chain c (chain_by Named s (pos 0)))

-- what is put into the cell of this index of the structure, by the facts
abbrev pub puts : Cells → ℕ → ℤ → List RowValue
puts c s j = told (put_by s j) (items c) (chain c (chain_by Puts s j))

-- the fetches that ask for the cell of this index of the structure, by the facts
abbrev pub asks : Cells → ℕ → ℤ → List Point
asks c s j = told (ask_by s j) (items c) (chain c (chain_by Asks s j))

-- the structure that the value is, as a question
abbrev pub name_of : RowFact → Option ℕ
name_of (Has p n (Name s)) = Some s
name_of _ = None

-- the facts are looked up in their chains: those that give a structure by that, too
pub record AreChained (c : Cells) : Type 0 where
  pub wide : width c.chains ≡ 262144
  pub within : (k i : ℕ) → Leads c.chains k i → i < length (items c)
  pub there : (i : ℕ) → i < length (items c) → Leads c.chains (chain_of (fact_at (items c) i)) i
  pub named : (i s : ℕ) → i < length (items c) → name_of (fact_at (items c) i) ≡ Some s
      → Leads c.chains (chain_by Named s (pos 0)) i

-- the cells are the old ones with these facts
pub record AddsFacts (b c : Cells) (fs : List RowFact) : Type 0 where
  pub items : items c ≡ items b ++ fs
  pub chained : AreChained b → AreChained c
