-- Which rows' facts lead to facts of which rows.
use Rattle.std.specs.Prelude.{◌≡◌, ◌⊎◌, ◌<◌, ◌≤◌, ℕ, zero, suc, List, [], ◌∷◌, ◌++◌}
use Rattle.std.specs.Prelude.{length, slice_get}
use Rattle.std.specs.Prelude.{Bool as Truth, true, false, ◌-◌, ◌&&◌, Option, None, Some, if◌then◌else◌}
use Rattle.std.proofs.Common.{Vec, Global}
use Rattle.id_value.specs.List.{Among}
use Rattle.id_table.specs.declared.row.Row.{Row}
use Rattle.id_table.specs.declared.row.Node.{Node}
use Rattle.id_table.specs.declared.row.Node.TheVariants.{Name, Unary, Binary, Split, If, Arg, Call}
use Rattle.id_table.specs.declared.row.Node.TheVariants.{Switches, Next, Body, Loop, Block, Binding}
use Rattle.id_table.specs.declared.row.Node.TheVariants.{Array, Fetch, Address, Store, Index}
use Rattle.id_table.specs.Loops.{lower_at, upper_at}
use Rattle.id_table.specs.Rows.{arm_at, at}
use Rattle.id_table.specs.Tables.{is_call, is_switches, is_within}
use Rattle.id_table.specs.Turns.{IsStatement, Turns, in_block}
use Rattle.id_check.specs.declared.checked.Checked.{Checked}
use Rattle.id_check.specs.Programs.{binder, depth, rows}
use Rattle.id_source.specs.declared.edges.Edges.{Edges}
use Rattle.id_source.specs.declared.links.Links.{Links}
use Rattle.id_source.specs.declared.links.Statement.{Statement}

-- the list of this number, or else none
abbrev pub targets : List (Vec ℕ Global) → ℕ → List ℕ
targets [] n = []
targets (v ∷ vs) zero = v.items
targets (v ∷ vs) (suc n) = targets vs n

-- there is an edge from a to b
abbrev pub Leads : Edges → ℕ → ℕ → Type 0
Leads E a b = Among b (targets E.rows.items a)

-- how many rows the edges are for
abbrev pub width : Edges → ℕ
width E = length E.rows.items

-- the edges are the old ones with those from a to each of these
pub record Gains (E F : Edges) (a : ℕ) (bs : List ℕ) : Type 0 where
  pub wide : width F ≡ width E
  pub kept : (n b : ℕ) → Leads E n b → Leads F n b
  pub added : (b : ℕ) → a < width E → Among b bs → Leads F a b
  pub only : (n b : ℕ) → Leads F n b → Leads E n b ⊎ ((n ≡ a) × Among b bs)

-- the edges are the old ones with those from the row to each of these, if there is one
abbrev pub GainsFrom : Edges → Edges → Option ℕ → List ℕ → Type 0
GainsFrom E F None bs = F ≡ E
GainsFrom E F (Some a) bs = Gains E F a bs

-- the edges are the old ones with those to c from each of these
pub record GainsTo (E F : Edges) (bs : List ℕ) (c : ℕ) : Type 0 where
  pub wide : width F ≡ width E
  pub kept : (n b : ℕ) → Leads E n b → Leads F n b
  pub added : (b : ℕ) → b < width E → Among b bs → Leads F b c

-- there is no edge
pub record AreNone (E : Edges) (n : ℕ) : Type 0 where
  pub wide : width E ≡ n
  pub none : (a b : ℕ) → Leads E a b → ⊥

-- the row, if there is one
abbrev pub some_row : Option ℕ → List ℕ
some_row None = []
some_row (Some a) = a ∷ []

-- the predicate that a row of this node follows, if it is a split
abbrev pub test_of : Node → Option ℕ
test_of (Split t) = Some t
test_of _ = None

-- the target of the store whose address is a row of this node, if it is one
abbrev pub target_of : Node → Option ℕ
target_of (Address t i) = Some t
target_of _ = None

-- the index of the store whose address is a row of this node, if it is one
abbrev pub index_of : Node → Option ℕ
index_of (Address t i) = Some i
index_of _ = None

-- what the store with this address and this value reads
abbrev pub store_parts : List Row → ℕ → ℕ → List ℕ
store_parts R a x = some_row (target_of (at R a).node) ++ (some_row (index_of (at R a).node) ++ x ∷ [])

-- what the loop with the head h reads: the bounds of its index, if it has one
abbrev pub bounds_parts : List Row → ℕ → List ℕ
bounds_parts R h = some_row (lower_at R h) ++ some_row (upper_at R h)

-- the predicate that a row of this node follows, if it is the switches of a loop that has one
abbrev pub test_of_loop : List Row → Node → Option ℕ
test_of_loop R (Switches t) = if is_within (at R t).node then None else Some t
test_of_loop R _ = None

-- the arm of a conditional that this truth value of its predicate turns On
abbrev pub arm_of : Truth → ℕ → ℕ → ℕ
arm_of true x y = x
arm_of false x y = y

-- how many loops stand between the row n and the binder, if there is one
abbrev pub far_from : Checked → ℕ → Option ℕ → ℕ
far_from P n None = 0
far_from P n (Some b) = depth P n - depth P b

-- how many stand between the row n of this node and the row beyond its parts that it looks at
abbrev pub far : Checked → ℕ → Node → ℕ
far P n (Name x) = far_from P n (binder P n)
far P n _ = 0

-- the row beyond its own parts that a row of this node looks at: a name at its binder, a conditional at its predicate
abbrev pub beyond : Checked → ℕ → Node → Option ℕ
beyond P n (Name x) = binder P n
beyond P n (If s x y) = test_of (at (rows P) s).node
beyond P n _ = None

-- the parts that an expression or store of this node turns On, but for statements and arms
abbrev pub parts_turned : List Row → Node → List ℕ
parts_turned R (Unary o a) = a ∷ []
parts_turned R (Binary o a b) = a ∷ b ∷ []
parts_turned R (If s x y) = some_row (test_of (at R s).node)
parts_turned R (Loop h w l) = bounds_parts R h
parts_turned R (Block b) = b ∷ []
parts_turned R (Array nested a b) = a ∷ b ∷ []
parts_turned R (Fetch t i) = t ∷ i ∷ []
parts_turned R (Store a x) = store_parts R a x
parts_turned R _ = []

-- the expression that a `next` at a row of this node has
abbrev pub nexts_turned : Node → List ℕ
nexts_turned (Next x k o v) = v ∷ []
nexts_turned _ = []

-- the rows that a row of this node reads, which may look at this row beyond its parts, and the `Enter` of a call
abbrev pub reads_of : List Row → Option ℕ → Node → List ℕ
reads_of R o (Name x) = some_row o
reads_of R o (Unary p a) = a ∷ []
reads_of R o (Binary p a b) = a ∷ b ∷ []
reads_of R o (If s x y) = some_row o ++ x ∷ y ∷ []
reads_of R o (Arg e k v) = v ∷ []
reads_of R o (Call e c) = e ∷ []
reads_of R o (Loop h w l) = bounds_parts R h
reads_of R o (Switches t) = some_row (test_of_loop R (Switches t))
reads_of R o (Next x k u v) = v ∷ []
reads_of R o (Block b) = b ∷ []
reads_of R o (Binding x a) = a ∷ []
reads_of R o (Array nested a b) = a ∷ b ∷ []
reads_of R o (Fetch t i) = t ∷ i ∷ []
reads_of R o (Store a x) = store_parts R a x
reads_of R o _ = []

-- those of them from which edges lead to it: a name has none, and waits for its binder
abbrev pub linked_of : List Row → Option ℕ → Node → List ℕ
linked_of R o (Name x) = []
linked_of R o z = reads_of R o z

-- the rows from which edges lead to the row: none to a name, and else those that it reads
abbrev pub linked_at : Checked → ℕ → List ℕ
linked_at P n = let z = (at (rows P) n).node in linked_of (rows P) (beyond P n z) z

-- what the row u of this node waits for: a name for its binder, a `next` for that of its name outside, and an index for
-- its upper bound
abbrev pub awaited_of : Checked → ℕ → Node → Option ℕ
awaited_of P u (Name x) = binder P u
awaited_of P u (Next x k o v) = binder P o
awaited_of P u (Index x) = upper_at (rows P) (at (rows P) u).block
awaited_of P u _ = None

-- what the row u waits for, if it is a name, a `next` or an index
abbrev pub awaited : Checked → ℕ → Option ℕ
awaited P u = awaited_of P u (at (rows P) u).node

-- the rows that wait where the row n of this node is On: a name, and each `next` of a loop
abbrev pub users_of : Links → ℕ → Node → List ℕ
users_of l n (Name x) = n ∷ []
users_of l n (Loop h w t) = targets l.args.rows.items h
users_of l n _ = []

-- the rows that wait where the row n is On: the name itself, or each `next` of the loop
abbrev pub users : Checked → Links → ℕ → List ℕ
users P l n = users_of l n (at (rows P) n).node

-- the rows whose values the row reads
abbrev pub reads_at : Checked → ℕ → List ℕ
reads_at P n = let z = (at (rows P) n).node in reads_of (rows P) (beyond P n z) z

-- what is turned On with the statement at the row m of this node: a binding's expression, and a store itself
abbrev pub turned_by : ℕ → Node → Option ℕ
turned_by m (Binding x a) = Some a
turned_by m (Store a x) = Some m
turned_by m _ = None

-- an expression or store that is no call turns this one On
abbrev pub PartTurns : List Row → ℕ → ℕ → Type 0
PartTurns R n a = Turns R n a × (is_call (at R n).node ≡ false)

-- the switches of a loop at the row w turn this expression or store On: that of a binding right in the body, or of a
-- `next`, or a store right in the body
pub data BodyTurns (R : List Row) (w : ℕ) : ℕ → Type 0 where
  of_binding : {b m x a : ℕ} → b < length R → (at R b).node ≡ Body → (at R b).region ≡ arm_at w true
      → IsStatement R b m → (at R m).node ≡ Binding x a → BodyTurns R w a
  of_store : {b m a x : ℕ} → b < length R → (at R b).node ≡ Body → (at R b).region ≡ arm_at w true
      → IsStatement R b m → (at R m).node ≡ Store a x → BodyTurns R w m
  of_next : {m x k o a : ℕ} → m < length R → (at R m).node ≡ Next x k o a → (at R m).region ≡ arm_at w true
      → BodyTurns R w a

-- an expression that is no call, or the switches of a loop, turns this one On
abbrev pub TurnsOn : List Row → ℕ → ℕ → Type 0
TurnsOn R n a = PartTurns R n a ⊎ ((is_switches (at R n).node ≡ true) × BodyTurns R n a)

-- the switches whose true side the row is right in, if it is in one
abbrev pub switches_of : List Row → Row → Option ℕ
switches_of R r =
    if r.region.side && is_switches (at R r.region.head).node then Some r.region.head else None

-- the first i rows make these edges: each expression's but a call's parts, and those of the bodies that end, and the
-- `next`s that stand, among them
pub record AreTurnsTo (R : List Row) (i : ℕ) (E : Edges) : Type 0 where
  pub wide : width E ≡ length R
  pub parts : (n a : ℕ) → n < i → n < length R → PartTurns R n a → Leads E n a
  pub bodies : (w b m a : ℕ) → b < i → b < length R → w < length R → is_switches (at R w).node ≡ true
      → (at R b).node ≡ Body → (at R b).region ≡ arm_at w true → IsStatement R b m
      → turned_by m (at R m).node ≡ Some a → Leads E w a
  pub nexts : (w m x k o a : ℕ) → m < i → m < length R → w < length R → is_switches (at R w).node ≡ true
      → (at R m).node ≡ Next x k o a → (at R m).region ≡ arm_at w true → Leads E w a
  pub only : (n a : ℕ) → Leads E n a → TurnsOn R n a

-- the edges are what each expression but a call, and the switches of each loop, turn On
abbrev pub AreTurns : List Row → Edges → Type 0
AreTurns R E = AreTurnsTo R (length R) E

-- of the first i rows the edges go to each that is no name from the rows that it reads
pub record AreReadsTo (P : Checked) (i : ℕ) (E : Edges) : Type 0 where
  pub wide : width E ≡ length (rows P)
  pub all : (n a : ℕ) → n < i → a < length (rows P) → Among a (linked_at P n) → Leads E a n

-- the edges go to each row that is no name from the rows that it reads
abbrev pub AreReads : Checked → Edges → Type 0
AreReads P E = AreReadsTo P (length (rows P)) E

-- the row that asks for a row of this node in this block: the `Enter` of an argument, the loop's head of a `next`
abbrev pub asker_of : ℕ → Node → Option ℕ
asker_of b (Arg e k v) = Some e
asker_of b (Next x k o v) = Some b
asker_of b _ = None

-- the row that asks for the row m, if that is an argument or a `next`
abbrev pub asker_at : List Row → ℕ → Option ℕ
asker_at R m = asker_of (at R m).block (at R m).node

-- of the first i rows the edges go to each from the row that asks for it
pub record AreArgsTo (P : Checked) (i : ℕ) (E : Edges) : Type 0 where
  pub wide : width E ≡ length (rows P)
  pub all : (m e : ℕ) → m < i → e < length (rows P) → asker_at (rows P) m ≡ Some e → Leads E e m

-- the edges go to each argument from its `Enter`, and to each `next` from its loop's head
abbrev pub AreArgs : Checked → Edges → Type 0
AreArgs P E = AreArgsTo P (length (rows P)) E

-- the row of each statement comes before that of the next
abbrev pub StatementsRise : List Statement → Type 0
StatementsRise ss =
    (i j : ℕ) (s t : Statement) → slice_get ss i ≡ Some s → slice_get ss j ≡ Some t → i < j
    → s.row < t.row

-- these are the bindings and stores among the first i rows that stand in no block, or body of a loop, before row i
pub record AreOpen (R : List Row) (i : ℕ) (ss : List Statement) : Type 0 where
  pub all : (m a : ℕ) → m < i → m < length R → turned_by m (at R m).node ≡ Some a → in_block R m i ≡ false
      → (s : Statement) × Among s ss × (s.row ≡ m) × (s.value ≡ a)
  pub only : (s : Statement) → Among s ss
      → (s.row < i) × (in_block R s.row i ≡ false) × (turned_by s.row (at R s.row).node ≡ Some s.value)
  pub rise : StatementsRise ss

-- the edges have one more from the row a, if there is one, for each of those that have gone
abbrev pub From : Option ℕ → ℕ → Type 0
From None n = ⊥
From (Some a) n = n ≡ a

-- the statements from the row on have gone, each with an edge to its value from the row, if there is one
pub record Takes (E F : Edges) (ss ts : List Statement) (first : ℕ) (o : Option ℕ) : Type 0 where
  pub wide : width F ≡ width E
  pub kept : (n b : ℕ) → Leads E n b → Leads F n b
  pub only : (n b : ℕ) → Leads F n b
      → Leads E n b ⊎ (From o n × ((s : Statement) × Among s ss × (first ≤ s.row) × (b ≡ s.value)))
  pub some : (s : Statement) → Among s ts → Among s ss
  pub gone : (s : Statement) → Among s ss
      → Among s ts ⊎ ((first ≤ s.row) × ((a : ℕ) → o ≡ Some a → a < width E → Leads F a s.value))
  pub rise : StatementsRise ts

-- and those that are left stand before the row
pub record TakesAll (E F : Edges) (ss ts : List Statement) (first : ℕ) (o : Option ℕ) : Type 0 where
  pub takes : Takes E F ss ts first o
  pub before : (s : Statement) → Among s ts → s.row < first

-- what becomes of the edges and the statements that wait, at the row n of this node, which may stand in the body behind
-- switches
abbrev pub Statements_at : Edges → Edges → List Statement → List Statement → ℕ → ℕ → Option ℕ → Node
    → Type 0
Statements_at E F ss ts n first o (Block b) = TakesAll E F ss ts first (Some n)
Statements_at E F ss ts n first o Body = TakesAll E F ss ts first o
Statements_at E F ss ts n first o (Binding x a) = (F ≡ E) × (ts ≡ ss ++ record { row = n; value = a } ∷ [])
Statements_at E F ss ts n first o (Store a x) = (F ≡ E) × (ts ≡ ss ++ record { row = n; value = n } ∷ [])
Statements_at E F ss ts n first o _ = (F ≡ E) × (ts ≡ ss)

-- what becomes of the edges and the statements that wait, at the row n, which is r
abbrev pub Statements : List Row → Edges → Edges → List Statement → List Statement → ℕ → Row → Type 0
Statements R E F ss ts n r = Statements_at E F ss ts n r.first (switches_of R r) r.node
