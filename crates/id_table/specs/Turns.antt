-- What turns what on, and what stands where, in the table of a program's tree (docs/GRAPH.md, "Parts").
use Rattle.std.specs.Prelude.{◌≡◌, ◌⊎◌, ◌<◌, ◌≤◌, ◌+◌, ◌-◌, ℕ, zero, suc, Bool, true}
use Rattle.std.specs.Prelude.{false, ◌&&◌, ◌||◌, nat_eq}
use Rattle.std.specs.Prelude.{List, [], ◌∷◌, ◌++◌, length, if◌then◌else◌}
use Rattle.id_value.specs.List.{Among}
use Rattle.id_value.specs.declared.Kind.{Kind}
use Rattle.id_table.specs.declared.row.Region.{Region}
use Rattle.id_table.specs.declared.row.Row.{Row}
use Rattle.id_table.specs.declared.row.Node.TheVariants.{Head, Unary, Binary, Split, If}
use Rattle.id_table.specs.declared.row.Node.TheVariants.{Enter, Arg, Call, Block, Binding}
use Rattle.id_table.specs.declared.row.Node.TheVariants.{Def, Program, Start, LoopHead, Entries, Switches, Turn}
use Rattle.id_table.specs.declared.row.Node.TheVariants.{NextUse, Next, Body, Reset, Loop}
use Rattle.id_table.specs.declared.row.Node.TheVariants.{Array, Fetch, Address, Store}
use Rattle.id_table.specs.declared.row.Node.TheVariants.{Bounds, Within, Count, Index, Span}
use Rattle.id_table.specs.Rows.{arm_at, at, top}
use Rattle.id_table.specs.Tables.{HasOperand, HasNear, IsFormed, IsNested, around}
use Rattle.id_table.specs.Tables.{begins_block, has_statements, is_block, is_expression, is_head, is_in_loop}
use Rattle.id_table.specs.Tables.{is_carried, is_param, is_statement, is_store, is_top, is_variable, is_within}
use Rattle.id_table.specs.Calls.{AreArgs, IsArgIn, IsArgOf, IsCallOf, IsEnterOf}
use Rattle.id_table.specs.Loops.{IsLoop, IsLoopOf, IsNextIn, IsNextOf, StandsInSide, bounds_row, index_row}
use Rattle.id_table.specs.Stores.{IsAddressOf, IsStoreOf}
use Rattle.id_table.specs.Regions.{AreArms, IsIfOf, IsSplitOf, StandsInArm, StandsInside, StandsWith}

-- whether one of the rows before s is a block or the body of a loop round the row i
abbrev pub in_block : List Row → ℕ → ℕ → Bool
in_block R i zero = false
in_block R i (suc s) = in_block R i s || (has_statements (at R s).node && around R s i)

-- the row b is a binding or a store right in the block, or the body of a loop, at the row s: no smaller one is round it
pub record IsStatement (R : List Row) (s b : ℕ) : Type 0 where
  pub block : has_statements (at R s).node ≡ true
  pub statement : is_statement (at R b).node ≡ true
  pub inside : around R s b ≡ true
  pub right : in_block R b s ≡ false

-- the expression or store at the row n that is On turns the one at the row a on with it
pub data Turns (R : List Row) (n : ℕ) : ℕ → Type 0 where
  operand : {a : ℕ} {o : _} → (at R n).node ≡ Unary o a → Turns R n a
  left : {a b : ℕ} {o : _} → (at R n).node ≡ Binary o a b → Turns R n a
  right : {a b : ℕ} {o : _} → (at R n).node ≡ Binary o a b → Turns R n b
  test : {s x y t : ℕ} → (at R n).node ≡ If s x y → (at R s).node ≡ Split t → Turns R n t
  argument : {e c m k v : ℕ} → (at R n).node ≡ Call e c → m < length R → (at R m).node ≡ Arg e k v
      → Turns R n v
  index_low : {h w l a b : ℕ} → (at R n).node ≡ Loop h w l → (at R (bounds_row h)).node ≡ Bounds a b
      → Turns R n a
  index_high : {h w l a b : ℕ} → (at R n).node ≡ Loop h w l → (at R (bounds_row h)).node ≡ Bounds a b
      → Turns R n b
  low : {nested : Bool} {a b : ℕ} → (at R n).node ≡ Array nested a b → Turns R n a
  high : {nested : Bool} {a b : ℕ} → (at R n).node ≡ Array nested a b → Turns R n b
  fetched : {t i : ℕ} → (at R n).node ≡ Fetch t i → Turns R n t
  fetch_index : {t i : ℕ} → (at R n).node ≡ Fetch t i → Turns R n i
  address_target : {a v t i : ℕ} → (at R n).node ≡ Store a v → (at R a).node ≡ Address t i → Turns R n t
  address_index : {a v t i : ℕ} → (at R n).node ≡ Store a v → (at R a).node ≡ Address t i → Turns R n i
  stored_value : {a v : ℕ} → (at R n).node ≡ Store a v → Turns R n v
  body : {b : ℕ} → (at R n).node ≡ Block b → Turns R n b
  statement : {m b x a : ℕ} → (at R n).node ≡ Block b → IsStatement R n m → (at R m).node ≡ Binding x a
      → Turns R n a
  stored : {m b a v : ℕ} → (at R n).node ≡ Block b → IsStatement R n m → (at R m).node ≡ Store a v
      → Turns R n m

-- the expression or store at the row is a root of the region: it is turned on with the region itself
pub data Root (R : List Row) : Region → ℕ → Type 0 where
  of_procedure : {n x h b : ℕ} {k : Kind} → n < length R → (at R n).node ≡ Def x h k b → Root R (top h) b
  of_then : {n s x y : ℕ} → n < length R → (at R n).node ≡ If s x y → Root R (arm_at s true) x
  of_otherwise : {n s x y : ℕ} → n < length R → (at R n).node ≡ If s x y → Root R (arm_at s false) y
  of_test : {w t : ℕ} → w < length R → (at R w).node ≡ Switches t → is_within (at R t).node ≡ false
      → Root R (at R w).region t
  of_statement : {n m x a : ℕ} → n < length R → (at R n).node ≡ Body → IsStatement R n m
      → (at R m).node ≡ Binding x a → Root R (at R n).region a
  of_store : {n m a v : ℕ} → n < length R → (at R n).node ≡ Body → IsStatement R n m
      → (at R m).node ≡ Store a v → Root R (at R n).region m
  of_next : {m x k o a : ℕ} → m < length R → (at R m).node ≡ Next x k o a → Root R (at R m).region a
  of_last : {n h w l : ℕ} → n < length R → (at R n).node ≡ Loop h w l → Root R (arm_at w false) l

-- the expression or store at the row is turned on wherever the region is live
pub data TurnedIn (R : List Row) (r : Region) : ℕ → Type 0 where
  root : {e : ℕ} → Root R r e → TurnedIn R r e
  part : {n e : ℕ} → TurnedIn R r n → n < length R → Turns R n e → TurnedIn R r e

-- the rows of the parameters of the procedure with this head, among the first n rows, in order
abbrev pub params_below : List Row → ℕ → ℕ → List ℕ
params_below R h zero = []
params_below R h (suc i) =
    if is_param (at R i).node && nat_eq (at R i).block h then params_below R h i ++ i ∷ [] else params_below R h i

-- the rows of the parameters of the procedure with this head, in order
abbrev pub params_at : List Row → ℕ → List ℕ
params_at R h = params_below R h (length R)

-- the heads of the blocks among the first n rows: those of the procedures, in order of definition
abbrev pub heads_below : List Row → ℕ → List ℕ
heads_below R zero = []
heads_below R (suc i) = if is_head (at R i).node then heads_below R i ++ i ∷ [] else heads_below R i

-- the heads of the blocks
abbrev pub heads_of : List Row → List ℕ
heads_of R = heads_below R (length R)

-- each number of the list is below those behind it
abbrev pub Rising : List ℕ → Type 0
Rising [] = Unit {0}
Rising (i ∷ is) = ((j : ℕ) → Among j is → i < j) × Rising is

-- the definition at the row n has the head h
pub record IsDefOf (R : List Row) (n h : ℕ) : Type 0 where
  pub name : ℕ
  pub result : Kind
  pub body : ℕ
  pub within : n < length R
  pub node : (at R n).node ≡ Def name h result body

-- the parameters of the definition at the row n are the rows right behind its head h, as many as count
pub record AreParamsOf (R : List Row) (h n : ℕ) : Type 0 where
  pub count : ℕ
  pub before : h + count < n
  pub param : (i : ℕ) → h < i → i ≤ h + count → is_param (at R i).node ≡ true
  pub block : (i : ℕ) → h < i → i ≤ h + count → (at R i).block ≡ h
  pub rest : (i : ℕ) → h + count < i → i < n → is_param (at R i).node ≡ false

-- the row i of the block b stands between the head and the end of a definition, whose block it is where it is no loop's
pub record InDefinition (R : List Row) (i b : ℕ) : Type 0 where
  pub head : ℕ
  pub row : ℕ
  pub def : IsDefOf R row head
  pub low : head ≤ i
  pub high : i ≤ row
  pub block : is_head (at R b).node ≡ true → b ≡ head

-- a table of a program's tree
pub record IsTable (R : List Row) : Type 0 where
  pub formed : IsFormed R
  pub nested : IsNested R
  -- the last row is `Program`, and it alone
  pub ends : (at R (length R - 1)).node ≡ Program
  pub ends_once : (i : ℕ) → i < length R → (at R i).node ≡ Program → i + 1 ≡ length R
  pub some : zero < length R
  -- each row but the last stands in the block of a head, and there right in the block's region, in an arm or in a side
  -- of the loop's switches
  pub block : (i : ℕ) → i + 1 < length R
      → ((at R i).block ≤ i) × (begins_block (at R (at R i).block).node ≡ true)
  pub region : (i : ℕ) → i + 1 < length R
      → ((at R i).region ≡ top (at R i).block) ⊎ (StandsInArm R i ⊎ StandsInSide R i)
  pub at_top : (i : ℕ) → i < length R → is_top (at R i).node ≡ true → (at R i).region ≡ top (at R i).block
  pub head_block : (h : ℕ) → h < length R → begins_block (at R h).node ≡ true → (at R h).block ≡ h
  -- a row's parts stand where it does, save the arms of a conditional and the parts of a loop, and so do the bindings
  -- and stores of a block or of a loop's body
  pub part_stands : (n a : ℕ) → n < length R → HasNear (at R n).node a → StandsWith R n a
  pub statement_stands : (s b : ℕ) → s < length R → IsStatement R s b → StandsWith R s b
  -- what stands in a row that is not the last stands where it does, or further in
  pub inside : (n i : ℕ) → n + 1 < length R → around R n i ≡ true → StandsInside R n i
  -- the parts that a row names are expressions, save the head of a definition and the split of a conditional
  pub operand_is : (n a : ℕ) → n < length R → HasOperand (at R n).node a → is_expression (at R a).node ≡ true
  pub test_is : (w t : ℕ) → w < length R → (at R w).node ≡ Switches t → is_within (at R t).node ≡ false
      → is_expression (at R t).node ≡ true
  pub head_is : (n x h b : ℕ) (k : Kind) → n < length R → (at R n).node ≡ Def x h k b
      → ((at R h).node ≡ Head) × ((at R n).first ≡ h) × (is_expression (at R b).node ≡ true)
  -- each head has one definition, whose place it has
  pub has_def : (h : ℕ) → h < length R → (at R h).node ≡ Head → (n : ℕ) × IsDefOf R n h
  pub head_place : (n h : ℕ) → IsDefOf R n h → (at R h).place ≡ (at R n).place
  -- a row that is not the last stands in a definition
  pub def_of : (i : ℕ) → i + 1 < length R → InDefinition R i (at R i).block
  pub one_def : (n m h : ℕ) → IsDefOf R n h → IsDefOf R m h → n ≡ m
  -- its parameters stand right behind its head
  pub params : (n h : ℕ) → IsDefOf R n h → AreParamsOf R h n
  -- each split has one conditional, which stands with it, behind the arms
  pub has_if : (s t : ℕ) → s < length R → (at R s).node ≡ Split t → (n : ℕ) × IsIfOf R n s
  pub one_if : (n m s : ℕ) → IsIfOf R n s → IsIfOf R m s → n ≡ m
  pub split_of : (n s : ℕ) → IsIfOf R n s → IsSplitOf R s n
  pub arms : (n s : ℕ) (c : IsIfOf R n s) → AreArms R s c.then c.otherwise n
  -- each `Enter` has one call, which stands with it; each argument stands right behind its value between the two, and
  -- each index below the call's count has exactly one
  pub has_call : (e x : ℕ) → e < length R → (at R e).node ≡ Enter x → (n : ℕ) × IsCallOf R n e
  pub one_call : (n m e : ℕ) → IsCallOf R n e → IsCallOf R m e → n ≡ m
  pub enter_of : (n e : ℕ) → IsCallOf R n e → IsEnterOf R e n
  pub arg_of : (m e k : ℕ) (a : IsArgOf R m e k) → IsArgIn R m e k a.value
  pub args_of : (n e : ℕ) (c : IsCallOf R n e) → AreArgs R e n c.count
  pub one_arg : (m l e k : ℕ) → IsArgOf R m e k → IsArgOf R l e k → m ≡ l
  -- each `Address` has one store, whose rows stand as they ought to
  pub has_store : (a t i : ℕ) → a < length R → (at R a).node ≡ Address t i → (n : ℕ) × IsStoreOf R n a
  pub one_store : (n m a : ℕ) → IsStoreOf R n a → IsStoreOf R m a → n ≡ m
  pub address_of : (n a : ℕ) (c : IsStoreOf R n a) → IsAddressOf R a n c.value
  -- a row of a loop's block stands before the loop
  pub in_loop : (i s : ℕ) → i + 1 < length R → (at R (at R i).block).node ≡ LoopHead s
      → (n : ℕ) × IsLoopOf R n (at R i).block × (i < n)
  -- each `Start`, each head, each pair of switches and each other part of a loop has one loop, whose rows stand as they
  -- ought to
  pub start_of_loop : (s : ℕ) → s < length R → (at R s).node ≡ Start → (n : ℕ) × IsLoopOf R n (s + 1)
  pub span_of_loop : (i : ℕ) → i < length R → (at R i).node ≡ Span
      → (n h : ℕ) × IsLoopOf R n h × (i + 1 ≡ n)
  pub loop_of : (i : ℕ) → i < length R → is_in_loop (at R i).node ≡ true
      → (n : ℕ) × IsLoopOf R n (at R i).block × (i < n)
  pub has_loop : (h s : ℕ) → h < length R → (at R h).node ≡ LoopHead s → (n : ℕ) × IsLoopOf R n h
  pub switches_of : (w t : ℕ) → w < length R → (at R w).node ≡ Switches t
      → (n : ℕ) × (c : IsLoopOf R n (at R w).block) × (c.switches ≡ w)
  pub one_loop : (n m h : ℕ) → IsLoopOf R n h → IsLoopOf R m h → n ≡ m
  pub loop_is : (n h : ℕ) (c : IsLoopOf R n h) → IsLoop R n h c.switches c.last
  pub entries_of : (e : ℕ) → e < length R → (at R e).node ≡ Entries
      → (n : ℕ) × (c : IsLoopOf R n (at R e).block) × ((loop_is n (at R e).block c).entries ≡ e)
  pub turn_of : (i : ℕ) → i < length R → (at R i).node ≡ Turn
      → (n : ℕ) × (c : IsLoopOf R n (at R i).block) × ((loop_is n (at R i).block c).turn ≡ i)
  -- the bounds of an index, what is carried on, what counts and the index are those of a loop that has one
  pub bounds_of : (i a b : ℕ) → i < length R → (at R i).node ≡ Bounds a b
      → (n : ℕ) × (c : IsLoopOf R n (i + 2)) × ((loop_is n (i + 2) c).carried ≡ 3)
  pub carried_of : (i : ℕ) → i < length R → is_carried (at R i).node ≡ true
      → (n : ℕ) × (c : IsLoopOf R n (at R i).block) × ((loop_is n (at R i).block c).carried ≡ 3)
      × (i ≤ (at R i).block + 3)
  pub within_of : (i f : ℕ) → i < length R → (at R i).node ≡ Within f
      → (n : ℕ) × (c : IsLoopOf R n (at R i).block) × ((loop_is n (at R i).block c).carried ≡ 3)
      × (i + 1 ≡ c.switches)
  pub count_of : (i : ℕ) → i < length R → (at R i).node ≡ Count
      → (n : ℕ) × (c : IsLoopOf R n (at R i).block) × ((loop_is n (at R i).block c).carried ≡ 3)
      × (c.switches + 1 ≡ i)
  pub index_of : (i x : ℕ) → i < length R → (at R i).node ≡ Index x
      → (n : ℕ) × (c : IsLoopOf R n (at R i).block) × ((loop_is n (at R i).block c).carried ≡ 3)
      × (index_row c.switches ≡ i)
  pub body_of : (b : ℕ) → b < length R → (at R b).node ≡ Body
      → (n : ℕ) × (c : IsLoopOf R n (at R b).block) × ((loop_is n (at R b).block c).body ≡ b)
  pub reset_of : (i v : ℕ) → i < length R → (at R i).node ≡ Reset v
      → (n : ℕ) × (c : IsLoopOf R n (at R i).block) × (c.last ≡ v) × (i + 2 ≡ n)
  -- each `next` statement stands right in the body of a loop, and each variable has exactly one; each use of an outer
  -- name has its own
  pub next_in : (m h k x : ℕ) (s : IsNextOf R m h k x)
      → (n : ℕ) × (c : IsLoopOf R n h) × IsNextIn R n m h c.switches k x s.outer
  pub has_next : (i : ℕ) → i < length R → is_variable (at R i).node ≡ true
      → (m : ℕ) × (k : ℕ) × (x : ℕ) × IsNextOf R m (at R i).block k x × ((at R i).block + 1 + k ≡ i)
  pub use_of : (o x : ℕ) → o < length R → (at R o).node ≡ NextUse x
      → (m : ℕ) × (k : ℕ) × (s : IsNextOf R m (at R o).block k x) × (s.outer ≡ o)
  pub one_next : (m l h k x y : ℕ) → IsNextOf R m h k x → IsNextOf R l h k y → m ≡ l
  -- a block's value is its body's, that of what a `for` has in the place of a predicate its flag's, any other row's is
  -- itself; what gives a value is an expression that is no block, and stands where the row does
  pub value_block : (n b : ℕ) → n < length R → (at R n).node ≡ Block b → (at R n).value ≡ (at R b).value
  pub value_within : (n f : ℕ) → n < length R → (at R n).node ≡ Within f → (at R n).value ≡ f
  pub value_self : (n : ℕ) → n < length R → is_block (at R n).node ≡ false → is_within (at R n).node ≡ false
      → (at R n).value ≡ n
  pub value_stands : (n : ℕ) → n < length R → is_expression (at R n).node ≡ true
      → ((at R n).value ≤ n) × (is_expression (at R (at R n).value).node ≡ true)
      × (is_block (at R (at R n).value).node ≡ false)
      × ((at R (at R n).value).region ≡ (at R n).region) × ((at R (at R n).value).block ≡ (at R n).block)
  -- each expression and each store is turned on with its region, and each statement stands right in a block or a body
  pub turned : (n : ℕ) → n < length R → is_expression (at R n).node ≡ true → TurnedIn R (at R n).region n
  pub store_turned : (n : ℕ) → n < length R → is_store (at R n).node ≡ true → TurnedIn R (at R n).region n
  pub in_a_block : (b : ℕ) → b < length R → is_statement (at R b).node ≡ true
      → (s : ℕ) × (s < length R) × IsStatement R s b
