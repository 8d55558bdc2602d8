-- The rows of loops have the places of the loops of the tree.
use Rattle.std.proofs.Common.{◌≡◌, ℕ, zero, suc, ◌<◌, true, false, List, [], ◌∷◌, ◌++◌, length, refl, sym, ◌∙◌, arith}
use Rattle.std.proofs.lemmas.Bool.{false≢true}
use Rattle.id_grammar.specs.Tree as tree
use Rattle.id_grammar.specs.Tree.{Tree, literal, unary, binary, conditional, call, block, loop, for_loop, array}
use Rattle.id_grammar.specs.Tree.{binding, fetch, next, store, param, define, none, more}
use Rattle.id_table.specs.declared.row.Node.TheVariants as node
use Rattle.id_table.specs.declared.row.Row.{Row}
use Rattle.id_table.specs.declared.row.Stand.{Stand}
use Rattle.id_table.specs.Names.{first_names, number_of}
use Rattle.id_table.specs.Rows.{Parts, add, add_arguments, add_entries, add_nexts, add_variables, arm, at}
use Rattle.id_table.specs.Rows.{begin_counting, begin_for, begin_loop, carry}
use Rattle.id_table.specs.Rows.{end_loop, enter_loop, in_top, last, naming, rows_of, size, with_row}
use Rattle.id_table.specs.Tables.{is_loop}
use Rattle.id_promises.proofs.BracesLemmas.{Loops}

module _ (P : ℕ → Type 0) where
  -- each row of a loop stands where the fact holds
  abbrev Fine : List Row → Type 0
  Fine [] = Unit {0}
  Fine (r ∷ R) = (is_loop r.node ≡ true → P r.place) × Fine R

  fine_push : (R : List Row) (r : Row) → Fine R → (is_loop r.node ≡ true → P r.place) → Fine (R ++ r ∷ [])
  fine_push [] r h k = (k, tt)
  fine_push (x ∷ R) r h k = (h.0, fine_push R r h.1 k)

  -- one more row, which is no loop's
  other : (R : List Row) (r : Row) → is_loop r.node ≡ false → Fine R → Fine (R ++ r ∷ [])
  other R r e h = fine_push R r h (λ k. absurd (false≢true (sym e ∙ k)))

  fine_variables : (t : Tree) (s : Stand) (T : Parts) → Fine T.rows → Fine (add_variables s T t).rows
  fine_variables (more (next x a p) b) s T h = fine_variables b s _ (other _ _ refl h)
  fine_variables (more a b) s T h = fine_variables b s T h
  fine_variables _ s T h = h

  fine_enter : (s : Stand) (T : Parts) (p : ℕ) → Fine T.rows → Fine (enter_loop s T p).rows
  fine_enter s T p h = other _ _ refl (other _ _ refl h)

  fine_entries : (s : Stand) (T : Parts) (ss : Tree) (p : ℕ) → Fine T.rows → Fine (add_entries s T ss p).rows
  fine_entries s T ss p h = other _ _ refl (fine_variables ss s T h)

  fine_begin : (s : Stand) (T : Parts) (ss : Tree) (p : ℕ) → Fine T.rows → Fine (begin_loop s T ss p).rows
  fine_begin s T ss p h = fine_entries (in_top (suc (size T))) (enter_loop s T p) ss p (fine_enter s T p h)

  fine_carry : (s : Stand) (T : Parts) (q p : ℕ) → Fine T.rows → Fine (carry s T q p).rows
  fine_carry s T q p h = other _ _ refl (other _ _ refl (other _ _ refl h))

  fine_for : (s : Stand) (T : Parts) (ss : Tree) (q p : ℕ) → Fine T.rows → Fine (begin_for s T ss q p).rows
  fine_for s T ss q p h =
      let i = in_top (suc (size T)) in
      other _ _ refl (other _ _ refl
      (fine_entries i (carry i (enter_loop s T p) q p) ss p (fine_carry i (enter_loop s T p) q p (fine_enter s T p h))))

  fine_counting : (s : Stand) (T : Parts) (x : List ℕ) (q p : ℕ) → Fine T.rows → Fine (begin_counting s T x q p).rows
  fine_counting s T x q p h = other _ _ refl (other _ _ refl (other _ _ refl h))

  fine_end : (s o : Stand) (p f g r i : ℕ) (T : Parts) → P p → Fine T.rows → Fine (end_loop s o p f g r i T).rows
  fine_end s o p f g r i T k h = fine_push _ _ (other _ _ refl (other _ _ refl h)) (λ e. k)

  mutual
    fine : (t : Tree) (s : Stand) (T : Parts) → Loops P t → Fine T.rows → Fine (add s T t).rows
    fine (literal v p) s T l h = other _ _ refl h
    fine (unary o a p) s T l h = other _ _ refl (fine a s T l h)
    fine (binary o a b p) s T l h = other _ _ refl (fine b s (add s T a) l.1 (fine a s T l.0 h))
    fine (tree.name x p) s T l h = other _ _ refl h
    fine (conditional t x y p) s T l h =
        let U = add s T t in
        let n = size U in
        let S = with_row U s p (size T) (node.Split (last U)) in
        let X = add (arm s n true) S x in
        other _ _ refl (fine y (arm s n false) X l.2 (fine x (arm s n true) S l.1 (other _ _ refl (fine t s T l.0 h))))
    fine (call x a p) s T l h =
        let E = with_row (naming T x) s p (size T) (node.Enter (number_of T.names x)) in
        other _ _ refl (fine_arguments a s p (size T) 0 E l (other _ _ refl h))
    fine (block ss b p) s T l h = other _ _ refl (fine b s (add s T ss) l.1 (fine ss s T l.0 h))
    fine (loop t ss e p) s T l h =
        let i = in_top (suc (size T)) in
        let E = begin_loop s T ss p in
        let U = add i E t in
        let b = arm i (size U) true in
        let o = arm i (size U) false in
        let W = with_row U i p (size E) (node.Switches (last U)) in
        let B = with_row W b p (size W) node.Turn in
        let D = with_row (add_nexts b 0 B ss) b p (size B) node.Body in
        let turned = other _ _ refl (other _ _ refl (fine t i E l.1 (fine_begin s T ss p h))) in
        let stated = other _ _ refl (fine_nexts ss b 0 B l.2 turned) in
        fine_end s o p (size T) (size T) (size D) _ (add o D e) l.0 (fine e o D l.3 stated)
    fine (for_loop x q a c ss e p) s T l h =
        let U = add s T a in
        let V = add s U c in
        let A = with_row V s p (size T) (node.Bounds (last U) (last V)) in
        let W = begin_for s A ss q p in
        let y = arm (in_top (suc (size A))) (last W) true in
        let o = arm (in_top (suc (size A))) (last W) false in
        let I = begin_counting y W x q p in
        let D = with_row (add_nexts y 3 I ss) y p (last I) node.Body in
        let bounded = other _ _ refl (fine c s U l.2 (fine a s T l.1 h)) in
        let counted = fine_counting y W x q p (fine_for s A ss q p bounded) in
        let stated = other _ _ refl (fine_nexts ss y 3 I l.3 counted) in
        fine_end s o p (size T) (size A) (size D) _ (add o D e) l.0 (fine e o D l.4 stated)
    fine (array nested a b p) s T l h = other _ _ refl (fine b s (add s T a) l.1 (fine a s T l.0 h))
    fine (fetch t i p) s T l h = other _ _ refl (fine i s (add s T t) l.1 (fine t s T l.0 h))
    fine (store t i e p) s T l h =
        let U = add s T t in
        let V = add s U i in
        let A = with_row V s p (size T) (node.Address (last U) (last V)) in
        other _ _ refl (fine e s A l.2 (other _ _ refl (fine i s U l.1 (fine t s T l.0 h))))
    fine (next x a p) s T l h = other _ _ refl (fine a s T l h)
    fine (binding x a p) s T l h = other _ _ refl (fine a s T l h)
    fine (param x k p) s T l h = other _ _ refl h
    fine (define x ps k b p) s T l h =
        let i = in_top (size T) in
        let H = with_row T i p (size T) node.Head in
        other _ _ refl (fine b i (add i H ps) l.1 (fine ps i H l.0 (other _ _ refl h)))
    fine none s T l h = h
    fine (more a b) s T l h = fine b s (add s T a) l.1 (fine a s T l.0 h)

    fine_arguments : (t : Tree) (s : Stand) (p e i : ℕ) (T : Parts) → Loops P t → Fine T.rows
        → Fine (add_arguments s p e i T t).rows
    fine_arguments (more a b) s p e i T l h =
        fine_arguments b s p e (suc i) _ l.1 (other _ _ refl (fine a s T l.0 h))
    fine_arguments _ s p e i T l h = h

    fine_nexts : (t : Tree) (s : Stand) (i : ℕ) (T : Parts) → Loops P t → Fine T.rows → Fine (add_nexts s i T t).rows
    fine_nexts (more (next x a p) b) s i T l h =
        let N = with_row (naming T x) s p (size T) (node.NextUse (number_of T.names x)) in
        fine_nexts b s (suc i) _ l.1 (other _ _ refl (fine a s N l.0 (other _ _ refl h)))
    fine_nexts (more a b) s i T l h = fine_nexts b s i (add s T a) l.1 (fine a s T l.0 h)
    fine_nexts _ s i T l h = h

  fine_at : (R : List Row) (i : ℕ) → Fine R → i < length R → is_loop (at R i).node ≡ true → P (at R i).place
  fine_at [] i h less e = absurd (omega arith)
  fine_at (r ∷ R) zero h less e = h.0 e
  fine_at (r ∷ R) (suc i) h less e = fine_at R i h.1 (omega arith) e

  -- the rows of loops of a tree stand where its loops do
  pub loop_rows : (t : Tree) → Loops P t → (i : ℕ) → i < length (rows_of t) → is_loop (at (rows_of t) i).node ≡ true
      → P (at (rows_of t) i).place
  loop_rows t l i less e =
      fine_at (rows_of t) i (other _ _ refl (fine t (in_top 0) (record { rows = []; names = first_names }) l tt)) less e
