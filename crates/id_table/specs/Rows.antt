-- The table of parts of a tree: one clause for each form (docs/GRAPH.md, "Parts").
use Rattle.std.specs.Prelude.{ℕ, suc, ◌+◌, ◌-◌, Bool, List, [], ◌∷◌, ◌++◌, length, get_or, true}
use Rattle.std.specs.Prelude.{false}
use Rattle.id_table.specs.declared.row.Region.{Region}
use Rattle.id_table.specs.declared.row.Stand.{Stand}
use Rattle.id_table.specs.declared.row.Row.{Row}
use Rattle.id_table.specs.declared.row.Node.{Node}
use Rattle.id_table.specs.declared.row.Node.TheVariants.{Head, Param, Literal, Name, Unary, Binary}
use Rattle.id_table.specs.declared.row.Node.TheVariants.{Split, If, Enter, Arg, Call, Block, Binding, Def, Program}
use Rattle.id_table.specs.declared.row.Node.TheVariants.{Start, LoopHead, Variable, Entries, Switches, Turn, NextUse}
use Rattle.id_table.specs.declared.row.Node.TheVariants.{Next, Body, Reset, Loop, Array, Fetch, Address, Store}
use Rattle.id_table.specs.declared.row.Node.TheVariants.{Bounds, Carried, Within, Count, Index, Span}
use Rattle.id_value.specs.declared.Kind.TheVariants as kind
use Rattle.id_grammar.specs.Tree.{Tree, literal, unary, binary, name, conditional, call, block, binding, param, define}
use Rattle.id_grammar.specs.Tree.{none, more, loop, next, array, fetch, store, for_loop}
use Rattle.id_table.specs.Names.{number_of, with_name, first_names}

-- rows, and the names in them by their numbers
pub record Parts : Type 0 where
  pub rows : List Row
  pub names : List (List ℕ)

-- the region of a procedure's body
abbrev pub top : ℕ → Region
top h = record { head = h; side = true }

-- what stands past the end of a table
abbrev pub no_row : Row
no_row = record { place = 0; first = 0; block = 0; region = record { head = 0; side = false }; value = 0; node = Head }

-- the row of a number
abbrev pub at : List Row → ℕ → Row
at R i = get_or R i no_row

-- in the body of the procedure with this head, or in the loop with this head, outside of its body
abbrev pub in_top : ℕ → Stand
in_top h = record { block = h; region = top h }

-- this side of the split at the row n: the region of an arm
abbrev pub arm_at : ℕ → Bool → Region
arm_at n b = record { head = n; side = b }

-- in this arm of a conditional that stands in s, whose split is at the row n
abbrev pub arm : Stand → ℕ → Bool → Stand
arm s n b = record { block = s.block; region = arm_at n b }

-- the number of rows, which the next row gets
abbrev pub size : Parts → ℕ
size T = length T.rows

-- the number of the last row
abbrev pub last : Parts → ℕ
last T = size T - 1

-- the row that gives the value of the next row, which has this node
abbrev pub value_of : List Row → Node → ℕ
value_of R (Block b) = (at R b).value
value_of R (Within f) = f
value_of R n = length R

-- the table with one more row, of this place and node; its own parts are the rows from the number f on
abbrev pub with_row : Parts → Stand → ℕ → ℕ → Node → Parts
with_row T s p f n =
    let v = value_of T.rows n in
    let r : Row = record { place = p; first = f; block = s.block; region = s.region; value = v; node = n } in
    record { rows = T.rows ++ r ∷ []; names = T.names }

-- the table with this name among its names
abbrev pub naming : Parts → List ℕ → Parts
naming T x = record { rows = T.rows; names = with_name T.names x }

-- how many trees are in the list
abbrev pub count_of : Tree → ℕ
count_of (more a b) = suc (count_of b)
count_of t = 0

-- the table with the entry of a variable for each `next` of a list of statements, in order
abbrev pub add_variables : Stand → Parts → Tree → Parts
add_variables s T (more (next x a p) b) = add_variables s (with_row T s p (size T) Variable) b
add_variables s T (more a b) = add_variables s T b
add_variables s T t = T

-- with the `Start` and the head of a loop, which is behind it
abbrev pub enter_loop : Stand → Parts → ℕ → Parts
enter_loop s T p =
    let h = suc (size T) in
    with_row (with_row T s p (size T) Start) (in_top h) p h (LoopHead (size T))

-- with the entries of the variables of a loop of these statements, and of its imports
abbrev pub add_entries : Stand → Parts → Tree → ℕ → Parts
add_entries s T ss p = let V = add_variables s T ss in with_row V s p (size V) Entries

-- with the rows of a loop of these statements that stand before its predicate
abbrev pub begin_loop : Stand → Parts → Tree → ℕ → Parts
begin_loop s T ss p = add_entries (in_top (suc (size T))) (enter_loop s T p) ss p

-- with the entries of what a `for` carries on, whose index is at the place q
abbrev pub carry : Stand → Parts → ℕ → ℕ → Parts
carry s T q p =
    let I = with_row T s q (size T) (Carried kind.Int) in
    let B = with_row I s p (size I) (Carried kind.Int) in
    with_row B s p (size B) (Carried kind.Bool)

-- with the rows of a `for` of these statements from its `Start` up to its switches
abbrev pub begin_for : Stand → Parts → Tree → ℕ → ℕ → Parts
begin_for s T ss q p =
    let h = suc (size T) in
    let E = add_entries (in_top h) (carry (in_top h) (enter_loop s T p) q p) ss p in
    let W = with_row E (in_top h) p (size E) (Within (h + 3)) in
    with_row W (in_top h) p (size E) (Switches (last W))

-- with the first rows of the body of a `for` in s, whose index has this name at the place q: its body's statements
-- begin behind its `Turn`
abbrev pub begin_counting : Stand → Parts → List ℕ → ℕ → ℕ → Parts
begin_counting s T x q p =
    let C = with_row T s p (size T) Count in
    let B = with_row C s p (size C) Turn in
    with_row (naming B x) s q (size B) (Index (number_of B.names x))

-- with the rows of a loop in s behind its last expression, which stands in o, has its rows from r on, and gives its
-- value at the row i: its variables are seen from the row g on, and its own rows begin at f
abbrev pub end_loop : Stand → Stand → ℕ → ℕ → ℕ → ℕ → ℕ → Parts → Parts
end_loop s o p f g r i T =
    let R = with_row (with_row T o p r (Reset i)) s p g Span in
    with_row R s p f (Loop o.block o.region.head i)

abbrev mutual
  -- the table with the rows of a tree, each behind those of its parts; a `next` in a block, which no text has, counts
  -- as a binding
  pub add : Stand → Parts → Tree → Parts
  add s T (literal v p) = with_row T s p (size T) (Literal v)
  add s T (unary o a p) = let U = add s T a in with_row U s p (size T) (Unary o (last U))
  add s T (binary o a b p) =
      let U = add s T a in
      let V = add s U b in
      with_row V s p (size T) (Binary o (last U) (last V))
  add s T (name x p) = with_row (naming T x) s p (size T) (Name (number_of T.names x))
  add s T (conditional t x y p) =
      let U = add s T t in
      let n = size U in
      let X = add (arm s n true) (with_row U s p (size T) (Split (last U))) x in
      let Y = add (arm s n false) X y in
      with_row Y s p (size T) (If n (last X) (last Y))
  add s T (call x a p) =
      let e = size T in
      let U = add_arguments s p e 0 (with_row (naming T x) s p e (Enter (number_of T.names x))) a in
      with_row U s p e (Call e (count_of a))
  add s T (block ss b p) = let V = add s (add s T ss) b in with_row V s p (size T) (Block (last V))
  add s T (loop t ss l p) =
      let h = suc (size T) in
      let E = begin_loop s T ss p in
      let U = add (in_top h) E t in
      let w = size U in
      let b = arm (in_top h) w true in
      let o = arm (in_top h) w false in
      let W = with_row U (in_top h) p (size E) (Switches (last U)) in
      let B = with_row W b p (size W) Turn in
      let D = with_row (add_nexts b 0 B ss) b p (size B) Body in
      let L = add o D l in
      end_loop s o p (size T) (size T) (size D) (last L) L
  add s T (for_loop x q a b ss l p) =
      let U = add s T a in
      let V = add s U b in
      let A = with_row V s p (size T) (Bounds (last U) (last V)) in
      let W = begin_for s A ss q p in
      let y = arm (in_top (suc (size A))) (last W) true in
      let o = arm (in_top (suc (size A))) (last W) false in
      let I = begin_counting y W x q p in
      let D = with_row (add_nexts y 3 I ss) y p (last I) Body in
      let L = add o D l in
      end_loop s o p (size T) (size A) (size D) (last L) L
  add s T (array nested a b p) =
      let U = add s T a in
      let V = add s U b in
      with_row V s p (size T) (Array nested (last U) (last V))
  add s T (fetch t i p) =
      let U = add s T t in
      let V = add s U i in
      with_row V s p (size T) (Fetch (last U) (last V))
  add s T (store t i e p) =
      let U = add s T t in
      let V = add s U i in
      let W = add s (with_row V s p (size T) (Address (last U) (last V))) e in
      with_row W s p (size T) (Store (size V) (last W))
  add s T (next x a p) =
      let U = add s T a in
      with_row (naming U x) s p (size T) (Binding (number_of U.names x) (last U))
  add s T (binding x a p) =
      let U = add s T a in
      with_row (naming U x) s p (size T) (Binding (number_of U.names x) (last U))
  add s T (param x k p) = with_row (naming T x) s p (size T) (Param (number_of T.names x) k)
  add s T (define x ps k b p) =
      let h = size T in
      let H = with_row T (in_top h) p h Head in
      let V = add (in_top h) (add (in_top h) H ps) b in
      with_row (naming V x) (in_top h) p h (Def (number_of V.names x) h k (last V))
  add s T none = T
  add s T (more a b) = add s (add s T a) b

  -- with those of the arguments of the call at this place whose `Enter` is at the row e, from that of index i on: each
  -- argument is followed by its `Arg`
  pub add_arguments : Stand → ℕ → ℕ → ℕ → Parts → Tree → Parts
  add_arguments s p e i T (more a b) =
      let U = add s T a in
      add_arguments s p e (suc i) (with_row U s p e (Arg e i (last U))) b
  add_arguments s p e i T t = T

  -- with those of the statements of a loop, from the `next` on before whose variable i entries stand: each begins with
  -- its use of the outer name
  pub add_nexts : Stand → ℕ → Parts → Tree → Parts
  add_nexts s i T (more (next x a p) b) =
      let n = number_of T.names x in
      let U = add s (with_row (naming T x) s p (size T) (NextUse n)) a in
      add_nexts s (suc i) (with_row U s p (size T) (Next n i (size T) (last U))) b
  add_nexts s i T (more a b) = add_nexts s i (add s T a) b
  add_nexts s i T t = T

-- the table of a program's tree
abbrev pub parts_of : Tree → Parts
parts_of t =
    let T = add (in_top 0) (record { rows = []; names = first_names }) t in
    with_row T (in_top 0) 0 0 Program

-- its rows
abbrev pub rows_of : Tree → List Row
rows_of t = (parts_of t).rows
