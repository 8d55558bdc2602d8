-- Facts by path and row, and those that are learnt.
use Rattle.std.specs.Prelude.{ℕ, ◌+◌, ◌*◌, ◌%◌, ◌<◌, ◌≡◌, ℤ, Bool as Truth, true, false}
use Rattle.std.specs.Prelude.{◌&&◌, ◌||◌, not}
use Rattle.std.specs.Prelude.{nat_eq, nat_lt, List, [], ◌∷◌, ◌++◌, length, get_or}
use Rattle.std.specs.Int.RustNames.{unsigned_abs}
use Rattle.std.specs.Prelude.{if◌then◌else◌, pos}
use Rattle.std.specs.Ordering.{int_eq}
use Rattle.std.specs.Bool.{beq}
use Rattle.id_facts.specs.declared.facts.RowFact.{RowFact}
use Rattle.id_facts.specs.declared.facts.RowFact.TheVariants.{On, Has, Shape, Put, Ask}
use Rattle.id_facts.specs.declared.facts.RowValue.{RowValue}
use Rattle.id_facts.specs.declared.facts.RowValue.TheVariants.{Int, Bool, Name}
use Rattle.id_facts.specs.declared.facts.Sort.{Sort}
use Rattle.id_facts.specs.declared.facts.Sort.TheVariants.{Shapes, Named, Puts, Asks}
use Rattle.id_source.specs.declared.edges.Edges.{Edges}
use Rattle.id_facts.specs.declared.facts.Trail.{Trail}
use Rattle.id_facts.specs.declared.facts.Trail.TheVariants.{Outermost, Below}
use Rattle.id_source.specs.Links.{Leads, width}

-- ---- facts

-- whether the two paths are one
abbrev pub same_trail : Trail → Trail → Truth
same_trail Outermost Outermost = true
same_trail (Below i k) (Below j m) = nat_eq i j && nat_eq k m
same_trail p q = false

-- whether the two values are one
abbrev pub same_value : RowValue → RowValue → Truth
same_value (Int m) (Int n) = int_eq m n
same_value (Bool b) (Bool c) = beq b c
same_value (Name i) (Name j) = nat_eq i j
same_value v w = false

-- whether the fact is that the row is On at the path
abbrev pub is_on : Trail → ℕ → RowFact → Truth
is_on p n (On q m) = same_trail q p && nat_eq m n
is_on p n _ = false

-- whether the two facts are one
abbrev pub same_fact : RowFact → RowFact → Truth
same_fact (On p n) g = is_on p n g
same_fact (Has p n v) (Has q m w) = same_trail p q && nat_eq n m && same_value v w
same_fact (Shape s lo hi) (Shape t low high) = nat_eq s t && int_eq lo low && int_eq hi high
same_fact (Put p n s i v) (Put q m t j w) =
    same_trail p q && nat_eq n m && nat_eq s t && int_eq i j && same_value v w
same_fact (Ask p n s i) (Ask q m t j) = same_trail p q && nat_eq n m && nat_eq s t && int_eq i j
same_fact f g = false

-- the path of the fact; of a Shape the empty one
abbrev pub path_of : RowFact → Trail
path_of (On p n) = p
path_of (Has p n v) = p
path_of (Shape s lo hi) = Outermost
path_of (Put p n s i v) = p
path_of (Ask p n s i) = p

-- the row of the fact; of a Shape the first
abbrev pub row_of : RowFact → ℕ
row_of (On p n) = n
row_of (Has p n v) = n
row_of (Shape s lo hi) = 0
row_of (Put p n s i v) = n
row_of (Ask p n s i) = n

-- the fact of this number; past the last one, that the first row is On at the empty path
abbrev pub fact_at : List RowFact → ℕ → RowFact
fact_at fs i = get_or fs i (On Outermost 0)

-- ---- chains

-- a number for the path
abbrev pub mark_of : Trail → ℕ
mark_of Outermost = 0
mark_of (Below i k) = (i % 262144 + 1) * 40503 + k % 262144 * 162013

-- a number below 262144 for an index or a whole number
abbrev pub index_mark : ℤ → ℕ
index_mark i = unsigned_abs i % 262144

-- a number for each sort of what facts are looked up by
abbrev pub sort_mark : Sort → ℕ
sort_mark Shapes = 65537
sort_mark Named = 98317
sort_mark Puts = 131101
sort_mark Asks = 196613

-- the chain of the facts that the row is On, or Has a value, at the path
abbrev pub chain_at : Trail → ℕ → ℕ
chain_at p n = (n % 262144 + mark_of p) % 262144

-- the chain of the facts of this sort about a structure, or a cell of it
abbrev pub chain_by : Sort → ℕ → ℤ → ℕ
chain_by k s i = (sort_mark k + s % 262144 * 40503 + index_mark i * 162013) % 262144

-- the chain in which the fact is looked up
abbrev pub chain_of : RowFact → ℕ
chain_of (On p n) = chain_at p n
chain_of (Has p n v) = chain_at p n
chain_of (Shape s lo hi) = chain_by Shapes s (pos 0)
chain_of (Put p n s i v) = chain_by Puts s i
chain_of (Ask p n s i) = chain_by Asks s i

-- ---- all facts

-- whether the fact where the path begins, if it has a step, is there, where there are n facts
abbrev pub is_path_inside : ℕ → Trail → Truth
is_path_inside n Outermost = true
is_path_inside n (Below i k) = nat_lt i n

-- whether the structure that the value is, if it is one, is there, where there are n facts
abbrev pub is_value_inside : ℕ → RowValue → Truth
is_value_inside n (Name i) = nat_lt i n
is_value_inside n _ = true

-- whether all that the fact speaks of is there, where there are n facts: its path, and its structures
abbrev pub is_inside : ℕ → RowFact → Truth
is_inside n (On p m) = is_path_inside n p
is_inside n (Has p m v) = is_path_inside n p && is_value_inside n v
is_inside n (Shape s lo hi) = nat_lt s n
is_inside n (Put p m s i v) = is_path_inside n p && nat_lt s n && is_value_inside n v
is_inside n (Ask p m s i) = is_path_inside n p && nat_lt s n

-- whether the fact is one of these
abbrev pub is_among : RowFact → List RowFact → Truth
is_among f [] = false
is_among f (g ∷ gs) = same_fact g f || is_among f gs

-- the facts with this one, where it is not there, and all is that it speaks of
abbrev pub learnt : List RowFact → RowFact → List RowFact
learnt fs f = if is_inside (length fs) f && not (is_among f fs) then fs ++ f ∷ [] else fs

-- the facts with each of these in turn, where it is not there, and all is that it speaks of
abbrev pub all_learnt : List RowFact → List RowFact → List RowFact
all_learnt fs [] = fs
all_learnt fs (g ∷ gs) = all_learnt (learnt fs g) gs

-- a number for a value
abbrev pub value_mark : RowValue → ℕ
value_mark (Int n) = index_mark n + 2
value_mark (Bool true) = 1
value_mark (Bool false) = 0
value_mark (Name s) = s % 262144

-- the chain in which a fact is found among all
abbrev pub member_chain : RowFact → ℕ
member_chain (On p n) = chain_at p n
member_chain (Has p n v) = (chain_at p n + value_mark v * 77041) % 262144
member_chain (Shape s lo hi) =
    (chain_by Shapes s (pos 0) + index_mark lo * 77041 + index_mark hi * 29327) % 262144
member_chain (Put p n s i v) = (chain_by Puts s i + chain_at p n * 3 + value_mark v * 77041) % 262144
member_chain (Ask p n s i) = (chain_by Asks s i + chain_at p n * 3) % 262144

-- all that each fact speaks of was there before it
abbrev pub AreBefore : List RowFact → Type 0
AreBefore fs = (i : ℕ) → i < length fs → is_inside i (fact_at fs i) ≡ true

-- each fact is found in its chain, behind all that it speaks of
pub record AreHeld (fs : List RowFact) (chains : Edges) : Type 0 where
  pub wide : width chains ≡ 262144
  pub there : (i : ℕ) → i < length fs → Leads chains (member_chain (fact_at fs i)) i
  pub before : AreBefore fs
