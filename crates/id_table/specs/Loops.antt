-- Which rows are those of a loop, and how many loops are round a row (docs/GRAPH.md, "Parts").
use Rattle.std.specs.Prelude.{◌≡◌, ◌<◌, ◌≤◌, ◌+◌, ◌-◌, ℕ, suc, Bool, true, false, List}
use Rattle.std.specs.Prelude.{length}
use Rattle.std.specs.Prelude.{Option, None, Some}
use Rattle.id_table.specs.declared.row.Row.{Row}
use Rattle.id_table.specs.declared.row.Node.{Node}
use Rattle.id_table.specs.declared.row.Node.TheVariants.{Start, LoopHead, Variable, Entries, Switches, Turn, NextUse}
use Rattle.id_table.specs.declared.row.Node.TheVariants.{Next, Body, Reset, Loop}
use Rattle.id_table.specs.declared.row.Node.TheVariants.{Bounds, Carried, Within, Count, Index, Span}
use Rattle.id_value.specs.declared.Kind.TheVariants as kind
use Rattle.id_table.specs.Rows.{arm_at, at, top}
use Rattle.id_table.specs.Regions.{Lies}
use Rattle.id_table.specs.Tables.{is_expression, is_variable}

-- where the bounds of an index stand, if the loop with the head h has one
abbrev pub bounds_row : ℕ → ℕ
bounds_row h = h - 2

-- the lower and the upper bound of an index whose bounds are a row of this node, if it is such a row
abbrev pub lower_of : Node → Option ℕ
lower_of (Bounds a b) = Some a
lower_of _ = None

-- the upper bound of an index whose bounds are a row of this node, if it is such a row
abbrev pub upper_of : Node → Option ℕ
upper_of (Bounds a b) = Some b
upper_of _ = None

-- those of the index of the loop with the head h, if it has one
abbrev pub lower_at : List Row → ℕ → Option ℕ
lower_at R h = lower_of (at R (bounds_row h)).node

-- the upper bound of the index of the loop with the head h, if it has one
abbrev pub upper_at : List Row → ℕ → Option ℕ
upper_at R h = upper_of (at R (bounds_row h)).node

-- where an index stands, if the loop with the switches at the row w has one
abbrev pub index_row : ℕ → ℕ
index_row w = w + 3

-- the row n is the loop with the head h
pub record IsLoopOf (R : List Row) (n h : ℕ) : Type 0 where
  pub switches : ℕ
  pub last : ℕ
  pub within : n < length R
  pub node : (at R n).node ≡ Loop h switches last

-- the row m is the `next` statement of the index k, with the name x, in the loop with the head h
pub record IsNextOf (R : List Row) (m h k x : ℕ) : Type 0 where
  pub outer : ℕ
  pub value : ℕ
  pub within : m < length R
  pub block : (at R m).block ≡ h
  pub node : (at R m).node ≡ Next x k outer value

-- the row s has the place, the block and the region of the loop at the row n
pub record StandsBeside (R : List Row) (s n : ℕ) : Type 0 where
  pub place : (at R s).place ≡ (at R n).place
  pub block : (at R s).block ≡ (at R n).block
  pub region : (at R s).region ≡ (at R n).region

-- the bounds of the loop at the row n stand at the row c, the first of their rows is the loop's, and they are its alone
pub record AreBounds (R : List Row) (c n : ℕ) : Type 0 where
  pub lower : ℕ
  pub upper : ℕ
  pub node : (at R c).node ≡ Bounds lower upper
  pub first : (at R c).first ≡ (at R n).first
  pub lower_first : (at R lower).first ≡ (at R n).first
  pub upper_first : (at R upper).first ≡ lower + 1
  pub behind : upper + 1 ≡ c
  pub beside : StandsBeside R c n

-- the rows of the loop at the row n with the `Start` at s begin there, or with the bounds of its index, of which it
-- carries as many entries on
pub data Begins (R : List Row) (s n : ℕ) : ℕ → Type 0 where
  plainly : (at R n).first ≡ s → Begins R s n 0
  with_bounds : {c : ℕ} → c + 1 ≡ s → AreBounds R c n → Begins R s n 3

-- the row s is the `Start` of the loop at the row n, whose place, block and region it has
pub record IsStartOf (R : List Row) (s n : ℕ) : Type 0 where
  pub node : (at R s).node ≡ Start
  pub own : (at R s).first ≡ s
  pub beside : StandsBeside R s n

-- what a loop with the head h carries on beside its variables: nothing, or an index, its upper bound and a flag
pub data AreCarried (R : List Row) (h : ℕ) : ℕ → Type 0 where
  nothing : AreCarried R h 0
  an_index : (at R (h + 1)).node ≡ Carried kind.Int → (at R (h + 2)).node ≡ Carried kind.Int
      → (at R (h + 3)).node ≡ Carried kind.Bool
      → AreCarried R h 3

-- the rows from the head h up to the row e are those before the predicate: the head, so many that are carried on, the
-- variables, the imports
pub record AreEntries (R : List Row) (h e c : ℕ) : Type 0 where
  pub head : (at R h).node ≡ LoopHead (h - 1)
  pub low : h + c < e
  pub entries : (at R e).node ≡ Entries
  pub carried : AreCarried R h c
  pub variable : (i : ℕ) → h + c < i → i < e → is_variable (at R i).node ≡ true
  pub stands : (i : ℕ) → h ≤ i → i ≤ e → ((at R i).block ≡ h) × ((at R i).region ≡ top h)

-- the row t is the predicate of the loop with the head h, or what it has in its place where it carries so many on
pub data IsTest (R : List Row) (h t : ℕ) : ℕ → Type 0 where
  predicate : is_expression (at R t).node ≡ true → IsTest R h t 0
  flag : (at R t).node ≡ Within (h + 3) → IsTest R h t 3

-- the switches at the row w are right behind the predicate, and that behind the imports' entries at the row e
pub record AreSwitches (R : List Row) (h e w c : ℕ) : Type 0 where
  pub test : ℕ
  pub node : (at R w).node ≡ Switches test
  pub test_is : IsTest R h test c
  pub behind : test + 1 ≡ w
  pub low : e < test
  pub test_first : (at R test).first ≡ e + 1
  pub block : (at R w).block ≡ h
  pub region : (at R w).region ≡ top h
  pub each : (i : ℕ) → h ≤ i → i ≤ w → Lies R (top h) (at R i).region

-- the `Turn` at the row t is right behind the switches w, or, where the loop carries so many on, behind what counts,
-- and the index behind it
pub data IsTurn (R : List Row) (w t : ℕ) : ℕ → Type 0 where
  right : t ≡ w + 1 → IsTurn R w t 0
  behind_count : {x : ℕ} → t ≡ w + 2 → (at R (w + 1)).node ≡ Count → (at R (index_row w)).node ≡ Index x
      → IsTurn R w t 3

-- the body of the loop with the switches w and the `Turn` t ends at the row b
pub record IsBody (R : List Row) (h w t b c : ℕ) : Type 0 where
  pub turns : IsTurn R w t c
  pub turn : (at R t).node ≡ Turn
  pub begins : (i : ℕ) → w < i → i ≤ t → ((at R i).block ≡ h) × ((at R i).region ≡ arm_at w true)
  pub node : (at R b).node ≡ Body
  pub low : t < b
  pub first : (at R b).first ≡ t + 1
  pub block : (at R b).block ≡ h
  pub region : (at R b).region ≡ arm_at w true
  pub each : (i : ℕ) → w < i → i ≤ b → Lies R (arm_at w true) (at R i).region

-- behind the body, which ends at the row b, stand the rows of the last expression l, the `Reset`, and the `Span` before
-- the loop n, which begins at the loop's `Start` s
pub record AreLast (R : List Row) (s h w b l n : ℕ) : Type 0 where
  pub low : b < l
  pub first : (at R l).first ≡ b + 1
  pub node : (at R (l + 1)).node ≡ Reset l
  pub span : (at R (l + 2)).node ≡ Span
  pub span_first : (at R (l + 2)).first ≡ s
  pub span_beside : StandsBeside R (l + 2) n
  pub ends : l + 3 ≡ n
  pub block : (at R l).block ≡ h
  pub region : (at R l).region ≡ arm_at w false
  pub each : (i : ℕ) → b < i → i + 1 < n → Lies R (arm_at w false) (at R i).region

-- where a row i of this node and of the loop's block stands in the loop at the row n, with the head h, the entries e,
-- the switches w, the `Turn` t and the end b of the body
abbrev pub StandsAt : ℕ → ℕ → ℕ → ℕ → ℕ → ℕ → Node → ℕ → Type 0
StandsAt h e w t b n (LoopHead s) i = i ≡ h
StandsAt h e w t b n (Carried k) i = (h < i) × (i < e)
StandsAt h e w t b n Variable i = (h < i) × (i < e)
StandsAt h e w t b n Entries i = i ≡ e
StandsAt h e w t b n (Within f) i = i + 1 ≡ w
StandsAt h e w t b n (Switches u) i = i ≡ w
StandsAt h e w t b n Count i = i ≡ w + 1
StandsAt h e w t b n Turn i = i ≡ t
StandsAt h e w t b n (Index x) i = i ≡ index_row w
StandsAt h e w t b n (NextUse x) i = (t < i) × (i < b)
StandsAt h e w t b n (Next x k o v) i = (t < i) × (i < b)
StandsAt h e w t b n Body i = i ≡ b
StandsAt h e w t b n (Reset v) i = i + 2 ≡ n
StandsAt h e w t b n _ i = Unit {0}

-- the markers of the loop at the row n, with the head h, the entries e, the switches w, the `Turn` t and the end of the
-- body b, have its place
pub record HavePlace (R : List Row) (n h e w t b : ℕ) : Type 0 where
  pub head : (at R h).place ≡ (at R n).place
  pub entries : (at R e).place ≡ (at R n).place
  pub switches : (at R w).place ≡ (at R n).place
  pub begins : (i : ℕ) → w < i → i ≤ t → (at R i).place ≡ (at R n).place
  pub body : (at R b).place ≡ (at R n).place
  pub reset : (i : ℕ) → i + 2 ≡ n → (at R i).place ≡ (at R n).place

-- the places of what a loop with this many carried on has for it: the entry of the index that of the index, the others,
-- and what it has in the place of a predicate, that of the loop
pub record HaveCarried (R : List Row) (n h w c : ℕ) : Type 0 where
  pub index : c ≡ 3 → (at R (h + 1)).place ≡ (at R (index_row w)).place
  pub bound : c ≡ 3 → (at R (h + 2)).place ≡ (at R n).place
  pub flag : c ≡ 3 → (at R (h + 3)).place ≡ (at R n).place
  pub within : c ≡ 3 → (i : ℕ) → i + 1 ≡ w → (at R i).place ≡ (at R n).place

-- the rows of the loop at the row n, with the head h, the switches w and the last expression l; each from the head on
-- is of its block or of that of a loop in it, and stands where it ought to; there is no other loop of this head in it,
-- and no second `next` statement of one index
pub record IsLoop (R : List Row) (n h w l : ℕ) : Type 0 where
  pub start : ℕ
  pub entries : ℕ
  pub turn : ℕ
  pub body : ℕ
  -- how many entries it carries on beside those of its variables: none, or three with an index
  pub carried : ℕ
  pub begins : start + 1 ≡ h
  pub from : Begins R start n carried
  pub start_of : IsStartOf R start n
  pub before_test : AreEntries R h entries carried
  pub test : AreSwitches R h entries w carried
  pub body_is : IsBody R h w turn body carried
  pub last_is : AreLast R start h w body l n
  pub blocks : (i : ℕ) → h ≤ i → i + 1 < n → h ≤ (at R i).block
  pub stands : (i : ℕ) → h ≤ i → i + 1 < n → (at R i).block ≡ h
      → StandsAt h entries w turn body n (at R i).node i
  pub place : HavePlace R n h entries w turn body
  pub place_carried : HaveCarried R n h w carried
  pub alone : (j v m : ℕ) → h < j → j < n → (at R j).node ≡ Loop h v m → ⊥
  pub once : (j m k x y : ℕ) → h < j → j < n → h < m → m < n → IsNextOf R j h k x → IsNextOf R m h k y
      → j ≡ m

-- the row i is one of the body on the true side of the switches w, which ends at the row b; on the false side one of
-- those behind it and before the `Span` of the loop n
abbrev pub InSide : ℕ → ℕ → ℕ → Bool → ℕ → Type 0
InSide w b n true i = (w < i) × (i ≤ b)
InSide w b n false i = (b < i) × (i + 1 < n)

-- the row stands right in a side of the switches of a loop of its block
pub record StandsInSide (R : List Row) (i : ℕ) : Type 0 where
  pub side : Bool
  pub body : ℕ
  pub row : ℕ
  pub turn : ℕ
  pub carried : ℕ
  pub loop : IsLoopOf R row (at R i).block
  pub region : (at R i).region ≡ arm_at loop.switches side
  pub body_is : IsBody R (at R i).block loop.switches turn body carried
  pub among : InSide loop.switches body row side i

-- the row m is such a statement right in the body of the loop at the row n, behind its use of the outer name at the row
-- o; the variable of its index has its place
pub record IsNextIn (R : List Row) (n m h w k x o : ℕ) : Type 0 where
  pub region : (at R m).region ≡ arm_at w true
  pub outer : (at R o).node ≡ NextUse x
  pub first : (at R m).first ≡ o
  pub own : (at R o).first ≡ o
  pub outer_place : (at R o).place ≡ (at R m).place
  pub variable : (at R (h + 1 + k)).node ≡ Variable
  pub variable_block : (at R (h + 1 + k)).block ≡ h
  pub place : (at R (h + 1 + k)).place ≡ (at R m).place
  pub before : w < o
  pub behind : m < n

-- how many loops are round what stands in a block whose head has this node, up to so many
abbrev pub loops_from : List Row → ℕ → Node → ℕ
loops_from R (suc k) (LoopHead s) = suc (loops_from R k (at R (at R s).block).node)
loops_from R k n = 0

-- how many loops of its procedure are round the row i
abbrev pub depth : List Row → ℕ → ℕ
depth R i = loops_from R (length R) (at R (at R i).block).node
