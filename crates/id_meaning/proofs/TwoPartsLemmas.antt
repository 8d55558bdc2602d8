-- Two operands of one row are different rows.
use Rattle.std.proofs.Common.{◌≡◌, inl, inr, ◌<◌, ◌+◌, ◌-◌, ℕ, zero, suc, Bool, true, false, List, [], ◌∷◌, length}
use Rattle.std.proofs.Common.{refl, sym, ◌∙◌, subst, arith}
use Rattle.id_value.specs.List.{Among}
use Rattle.id_value.proofs.AmongLemmas.{Among-either}
use Rattle.id_value.specs.declared.BinaryOp.{BinaryOp}
use Rattle.id_grammar.specs.Tree.{Tree, binding, define, more, next, param, store}
use Rattle.id_table.specs.declared.row.Row.{Row}
use Rattle.id_table.specs.declared.row.Stand.{Stand}
use Rattle.id_table.specs.declared.row.Node.{Node}
use Rattle.id_table.specs.declared.row.Node.TheVariants.{Head, Param, Literal, Name, Unary, Binary, Split, If, Enter}
use Rattle.id_table.specs.declared.row.Node.TheVariants.{Arg, Call, Block, Binding, Def, Program}
use Rattle.id_table.specs.declared.row.Node.TheVariants.{Start, LoopHead, Variable, Entries, Switches, Turn, NextUse}
use Rattle.id_table.specs.declared.row.Node.TheVariants.{Next, Body, Reset, Loop}
use Rattle.id_table.specs.declared.row.Node.TheVariants.{Array, Fetch, Address, Store, Bounds, Carried, Within, Count}
use Rattle.id_table.specs.declared.row.Node.TheVariants.{Index, Span}
use Rattle.id_value.specs.declared.Kind.TheVariants as kind
use Rattle.id_table.specs.Names.{first_names, number_of}
use Rattle.id_table.specs.Rows.{Parts, add, add_arguments, add_entries, add_nexts, add_variables, arm, at}
use Rattle.id_table.specs.Rows.{begin_counting, begin_for, carry, count_of, end_loop}
use Rattle.id_table.specs.Rows.{enter_loop, in_top, last, naming, rows_of, size, with_row}
use Rattle.id_table.specs.Trees.{IsProgramTree, IsTree, Sort, Expression, Arguments, Statements, by_literal, by_unary}
use Rattle.id_table.specs.Trees.{by_binary, by_name, by_conditional}
use Rattle.id_table.specs.Trees.{by_call, by_loop, by_for, by_array, by_fetch, next_statement, store_statement}
use Rattle.id_table.specs.Trees.{no_arguments, more_arguments, by_block}
use Rattle.id_table.specs.Trees.{no_statements, more_statements, no_params, more_params, no_defs, more_defs}
use Rattle.id_table.proofs.AddedLemmas.{Are-add}
use Rattle.id_check.proofs.NotedLemmas.{IsProgramTree-tree_in}
use Rattle.id_check.specs.declared.checked.Checked.{Checked}
use Rattle.id_check.specs.Programs.{Stands, rows, tree}
use Rattle.id_check.proofs.ProgramsLemmas.{table_of}
use Rattle.id_source.specs.Facts.{StoreStands}

-- the one operand of two stands before the other
abbrev Two : Node → Type 0
Two (Binary o a b) = a < b
Two (Bounds a b) = a < b
Two (Array nested a b) = a < b
Two (Fetch t i) = t < i
Two _ = Unit {0}

abbrev AreTwo : List Row → Type 0
AreTwo R = (r : Row) → Among r R → Two r.node

push : (T : Parts) (s : Stand) (p f : ℕ) (n : Node) → Two n → AreTwo T.rows → AreTwo (with_row T s p f n).rows
push T s p f n t h r i = elim (Among-either r T.rows _ i) [
  | inl j ↦ h r j
  | inr j ↦ elim j [
    | inl e ↦ (let F : Row → Type 0 = λ x. Two x.node in subst F (sym e) t)
    | inr k ↦ absurd k
  ]
]

-- the rows of an expression are some
longer : {t : Tree} (s : Stand) (T : Parts) → IsTree Expression t → size T < size (add s T t)
longer {t} s T d =
    let F = (add s T t).rows in
    let e = Are-add F s T d (record { within = omega arith; same = λ i b. refl }) in
    omega (arith, e.ends, e.low)

order : {a b : Tree} (s : Stand) (T : Parts) → IsTree Expression a → IsTree Expression b
    → size (add s T a) - 1 < size (add s (add s T a) b) - 1
order {a} {b} s T d e =
    let x = longer s T d in
    let y = longer s (add s T a) e in
    omega (arith, x, y)

variables-two : (t : Tree) (s : Stand) (T : Parts) → AreTwo T.rows → AreTwo (add_variables s T t).rows
variables-two (more (next x a p) b) s T h =
    variables-two b s (with_row T s p (size T) Variable) (push T s p (size T) Variable tt h)
variables-two (more a b) s T h = variables-two b s T h
variables-two _ s T h = h

-- what stands before, in and behind the parts of a loop
enter-two : (s : Stand) (T : Parts) (p : ℕ) → AreTwo T.rows → AreTwo (enter_loop s T p).rows
enter-two s T p h =
    let k = suc (size T) in
    push (with_row T s p (size T) Start) (in_top k) p k (LoopHead (size T)) tt (push T s p (size T) Start tt h)

entries-two : (s : Stand) (T : Parts) (ss : Tree) (p : ℕ) → AreTwo T.rows → AreTwo (add_entries s T ss p).rows
entries-two s T ss p h = let V = add_variables s T ss in push V s p (size V) Entries tt (variables-two ss s T h)

carry-two : (s : Stand) (T : Parts) (q p : ℕ) → AreTwo T.rows → AreTwo (carry s T q p).rows
carry-two s T q p h =
    let I = with_row T s q (size T) (Carried kind.Int) in
    let B = with_row I s p (size I) (Carried kind.Int) in
    push B s p (size B) (Carried kind.Bool) tt
    (push I s p (size I) (Carried kind.Int) tt (push T s q (size T) (Carried kind.Int) tt h))

begin-two : (s : Stand) (T : Parts) (ss : Tree) (q p : ℕ) → AreTwo T.rows → AreTwo (begin_for s T ss q p).rows
begin-two s T ss q p h =
    let k = suc (size T) in
    let C = carry (in_top k) (enter_loop s T p) q p in
    let E = add_entries (in_top k) C ss p in
    let W = with_row E (in_top k) p (size E) (Within (k + 3)) in
    push W (in_top k) p (size E) (Switches (last W)) tt (push E (in_top k) p (size E) (Within (k + 3)) tt
    (entries-two (in_top k) C ss p (carry-two (in_top k) (enter_loop s T p) q p (enter-two s T p h))))

counting-two : (s : Stand) (T : Parts) (x : List ℕ) (q p : ℕ) → AreTwo T.rows → AreTwo (begin_counting s T x q p).rows
counting-two s T x q p h =
    let C = with_row T s p (size T) Count in
    let B = with_row C s p (size C) Turn in
    push (naming B x) s q (size B) (Index (number_of B.names x)) tt
    (push C s p (size C) Turn tt (push T s p (size T) Count tt h))

end-two : (s o : Stand) (p f g r i : ℕ) (T : Parts) → AreTwo T.rows → AreTwo (end_loop s o p f g r i T).rows
end-two s o p f g r i T h =
    let R = with_row T o p r (Reset i) in
    let G = with_row R s p g Span in
    push G s p f (Loop o.block o.region.head i) tt (push R s p g Span tt (push T o p r (Reset i) tt h))

-- the parts with a binding, whose expression has its rows
abbrev bound : Stand → Parts → List ℕ → Tree → ℕ → Parts
bound s T x a p = add s T (binding x a p)

bound-two : (s : Stand) (T : Parts) (x : List ℕ) (a : Tree) (p : ℕ) → AreTwo (add s T a).rows
    → AreTwo (bound s T x a p).rows
bound-two s T x a p h =
    let U = add s T a in push (naming U x) s p (size T) (Binding (number_of U.names x) (last U)) tt h

mutual
  add-two : {k : Sort} {t : Tree} (s : Stand) (T : Parts) → IsTree k t → AreTwo T.rows → AreTwo (add s T t).rows
  add-two s T (by_literal {v} {p}) h = push T s p (size T) (Literal v) tt h
  add-two s T (by_unary {o} {a} {p} d) h =
      let U = add s T a in push U s p (size T) (Unary o (last U)) tt (add-two s T d h)
  add-two s T (by_binary {o} {a} {b} {p} d e) h =
      let U = add s T a in
      let V = add s U b in
      push V s p (size T) (Binary o (last U) (last V)) (order s T d e) (add-two s U e (add-two s T d h))
  add-two s T (by_name {x} {p}) h = push (naming T x) s p (size T) (Name (number_of T.names x)) tt h
  add-two s T (by_conditional {t} {x} {y} {p} d e f) h =
      let U = add s T t in
      let n = size U in
      let V = with_row U s p (size T) (Split (last U)) in
      let X = add (arm s n true) V x in
      let Y = add (arm s n false) X y in
      push Y s p (size T) (If n (last X) (last Y)) tt
      (add-two (arm s n false) X f
      (add-two (arm s n true) V e (push U s p (size T) (Split (last U)) tt (add-two s T d h))))
  add-two s T (by_call {x} {a} {p} d) h =
      let n = Enter (number_of T.names x) in
      let E = with_row (naming T x) s p (size T) n in
      push (add_arguments s p (size T) 0 E a) s p (size T) (Call (size T) (count_of a)) tt
      (arguments-two s p (size T) 0 E d (push (naming T x) s p (size T) n tt h))
  add-two s T (by_loop {t} {ss} {l} {p} d e f) h =
      let k = suc (size T) in
      let E = add_entries (in_top k) (enter_loop s T p) ss p in
      let U = add (in_top k) E t in
      let w = size U in
      let b = arm (in_top k) w true in
      let o = arm (in_top k) w false in
      let W = with_row U (in_top k) p (size E) (Switches (last U)) in
      let B = with_row W b p (size W) Turn in
      let N = add_nexts b 0 B ss in
      let D = with_row N b p (size B) Body in
      let L = add o D l in
      let u = add-two (in_top k) E d (entries-two (in_top k) (enter_loop s T p) ss p (enter-two s T p h)) in
      let n = nexts-two b 0 B e (push W b p (size W) Turn tt (push U (in_top k) p (size E) (Switches (last U)) tt u)) in
      end-two s o p (size T) (size T) (size D) (last L) L (add-two o D f (push N b p (size B) Body tt n))
  add-two s T (by_for {x = x} {a = a} {b = c} {ss = ss} {l = l} {q = q} {p = p} d g e f) h =
      let U = add s T a in
      let V = add s U c in
      let A = with_row V s p (size T) (Bounds (last U) (last V)) in
      let W = begin_for s A ss q p in
      let b = arm (in_top (suc (size A))) (last W) true in
      let o = arm (in_top (suc (size A))) (last W) false in
      let I = begin_counting b W x q p in
      let N = add_nexts b 3 I ss in
      let D = with_row N b p (last I) Body in
      let L = add o D l in
      let u = push V s p (size T) (Bounds (last U) (last V)) (order s T d g) (add-two s U g (add-two s T d h)) in
      let n = nexts-two b 3 I e (counting-two b W x q p (begin-two s A ss q p u)) in
      end-two s o p (size T) (size A) (size D) (last L) L (add-two o D f (push N b p (last I) Body tt n))
  add-two s T (by_array {nested} {a} {b} {p} d e) h =
      let U = add s T a in
      let V = add s U b in
      push V s p (size T) (Array nested (last U) (last V)) (order s T d e) (add-two s U e (add-two s T d h))
  add-two s T (by_fetch {t} {i} {p} d e) h =
      let U = add s T t in
      let V = add s U i in
      push V s p (size T) (Fetch (last U) (last V)) (order s T d e) (add-two s U e (add-two s T d h))
  add-two s T (by_block {ss} {b} {p} d e) h =
      let U = add s T ss in
      let V = add s U b in
      push V s p (size T) (Block (last V)) tt (add-two s U e (add-two s T d h))
  add-two s T no_arguments h = h
  add-two s T (more_arguments {a} {b} d e) h = add-two s (add s T a) e (add-two s T d h)
  add-two s T no_statements h = h
  add-two s T (more_statements {x} {a} {ss} {p} d e) h =
      add-two s (bound s T x a p) e (bound-two s T x a p (add-two s T d h))
  add-two s T (next_statement {x} {a} {ss} {p} d e) h =
      add-two s (bound s T x a p) e (bound-two s T x a p (add-two s T d h))
  add-two s T (store_statement {t} {i} {e} {ss} {p} d j f g) h =
      let U = add s T t in
      let V = add s U i in
      let A = with_row V s p (size T) (Address (last U) (last V)) in
      let W = add s A e in
      add-two s (add s T (store t i e p)) g (push W s p (size T) (Store (size V) (last W)) tt
      (add-two s A f (push V s p (size T) (Address (last U) (last V)) tt (add-two s U j (add-two s T d h)))))
  add-two s T no_params h = h
  add-two s T (more_params {x} {k} {ps} {p} d) h =
      add-two s (add s T (param x k p)) d (push (naming T x) s p (size T) (Param (number_of T.names x) k) tt h)
  add-two s T no_defs h = h
  add-two s T (more_defs {x} {k} {ps} {b} {ds} {p} d e f) h =
      let m = size T in
      let H = with_row T (in_top m) p m Head in
      let U = add (in_top m) H ps in
      let V = add (in_top m) U b in
      add-two s (add s T (define x ps k b p)) f
      (push (naming V x) (in_top m) p m (Def (number_of V.names x) m k (last V)) tt
      (add-two (in_top m) U e (add-two (in_top m) H d (push T (in_top m) p m Head tt h))))

  arguments-two : {t : Tree} (s : Stand) (p e i : ℕ) (T : Parts) → IsTree Arguments t → AreTwo T.rows
      → AreTwo (add_arguments s p e i T t).rows
  arguments-two s p e i T no_arguments h = h
  arguments-two s p e i T (more_arguments {a} {b} d f) h =
      let U = add s T a in
      let n = Arg e i (last U) in
      arguments-two s p e (suc i) (with_row U s p e n) f (push U s p e n tt (add-two s T d h))

  nexts-two : {t : Tree} (s : Stand) (i : ℕ) (T : Parts) → IsTree Statements t → AreTwo T.rows
      → AreTwo (add_nexts s i T t).rows
  nexts-two s i T no_statements h = h
  nexts-two s i T (more_statements {x} {a} {ss} {p} d e) h =
      nexts-two s i (bound s T x a p) e (bound-two s T x a p (add-two s T d h))
  nexts-two s i T (next_statement {x} {a} {ss} {p} d e) h =
      let n = number_of T.names x in
      let V = with_row (naming T x) s p (size T) (NextUse n) in
      let U = add s V a in
      let m = Next n i (size T) (last U) in
      nexts-two s (suc i) (with_row U s p (size T) m) e
      (push U s p (size T) m tt (add-two s V d (push (naming T x) s p (size T) (NextUse n) tt h)))
  nexts-two s k T (store_statement {t} {i} {e} {ss} {p} d j f g) h =
      let U = add s T t in
      let V = add s U i in
      let A = with_row V s p (size T) (Address (last U) (last V)) in
      let W = add s A e in
      nexts-two s k (add s T (store t i e p)) g (push W s p (size T) (Store (size V) (last W)) tt
      (add-two s A f (push V s p (size T) (Address (last U) (last V)) tt (add-two s U j (add-two s T d h)))))

two-rows : (t : Tree) → IsProgramTree t → AreTwo (rows_of t)
two-rows t d =
    let start : Parts = record { rows = []; names = first_names } in
    push (add (in_top 0) start t) (in_top 0) 0 0 Program tt (add-two (in_top 0) start d (λ r i. absurd i))

two-of : (P : Checked) → AreTwo (rows P)
two-of P = subst AreTwo (sym P.tabled) (two-rows (tree P) (IsProgramTree-tree_in P.tree.known))

row-among : (R : List Row) (n : ℕ) → n < length R → Among (at R n) R
row-among [] n l = absurd (omega arith)
row-among (r ∷ R) zero l = inl refl
row-among (r ∷ R) (suc n) l = inr (row-among R n (omega arith))

two-at : (P : Checked) (n : ℕ) (z : Node) → Stands P n z → Two z
two-at P n z st = subst Two st.node (two-of P (at (rows P) n) (row-among (rows P) n st.within))

-- the first operand of a row stands before the second
pub binary-order : (P : Checked) (n a b : ℕ) (o : BinaryOp) → Stands P n (Binary o a b) → a < b
binary-order P n a b o st = two-at P n (Binary o a b) st

pub array-order : {nested : Bool} (P : Checked) (n a b : ℕ) → Stands P n (Array nested a b) → a < b
array-order {nested} P n a b st = two-at P n (Array nested a b) st

pub bounds-order : (P : Checked) (n a b : ℕ) → Stands P n (Bounds a b) → a < b
bounds-order P n a b st = two-at P n (Bounds a b) st

pub fetch-order : (P : Checked) (n t i : ℕ) → Stands P n (Fetch t i) → t < i
fetch-order P n t i st = two-at P n (Fetch t i) st

address-parts : (t i u j : ℕ) → Address t i ≡ Address u j → (t ≡ u) × (i ≡ j)
address-parts t i u j e = (cc, cc)

-- the target of a store stands before the index, and that before the value
pub store-order : (P : Checked) (m t i x : ℕ) → StoreStands P m t i x → (t < i) × (i < x)
store-order P m t i x st =
    let w = (table_of P).address_of m st.address (record {
      value = x;
      within = st.store.within;
      node =
          st.store.node;
    }) in
    let e = address-parts w.target w.index t i (sym w.node ∙ st.parts.node) in
    (omega (arith, w.order, e.0, e.1), omega (arith, w.behind, w.before, e.1))

split-test : (t u : ℕ) → Split t ≡ Split u → t ≡ u
split-test t u e = cc

-- the predicate of a conditional stands before both its arms
pub if-order : (P : Checked) (n s x y t : ℕ) → Stands P n (If s x y) → Stands P s (Split t) → (t < x) × (t < y)
if-order P n s x y t st sp =
    let w = (table_of P).split_of n s (record { then = x; otherwise = y; within = st.within; node = st.node }) in
    let a = (table_of P).arms n s (record { then = x; otherwise = y; within = st.within; node = st.node }) in
    let e = split-test w.test t (sym w.node ∙ sp.node) in
    (omega (arith, w.behind, a.low, e), omega (arith, w.behind, a.low, a.next, e))
