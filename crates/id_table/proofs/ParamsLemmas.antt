-- No parameters stand in the rows of an expression.
use Rattle.std.proofs.Common.{◌≡◌, inl, inr, ◌<◌, ◌≤◌, ℕ, suc, true, false, List, [], ◌∷◌, ◌++◌, length, refl, ap, ◌∙◌, arith}
use Rattle.std.proofs.lemmas.Bool.{cases_lt}
use Rattle.id_grammar.specs.Tree.{Tree, more, binding, next, store}
use Rattle.id_table.specs.declared.row.Row.{Row}
use Rattle.id_table.specs.declared.row.Stand.{Stand}
use Rattle.id_table.specs.declared.row.Node.TheVariants.{Carried, Count, Split, Start, Turn, Variable}
use Rattle.id_value.specs.declared.Kind.TheVariants as kind
use Rattle.id_table.specs.Rows.{Parts, add, add_arguments, add_entries, add_nexts, add_variables, arm, at, begin_counting, begin_for, begin_loop}
use Rattle.id_table.specs.Rows.{carry, end_loop, enter_loop, last, size, with_row}
use Rattle.id_table.specs.Tables.{is_param}
use Rattle.id_table.specs.Trees.{IsTree, Expression, Arguments, Statements, by_literal, by_unary, by_binary, by_name, by_conditional}
use Rattle.id_table.specs.Trees.{by_call, by_block, by_loop, by_for, by_array, by_fetch, next_statement, store_statement}
use Rattle.id_table.specs.Trees.{no_arguments, more_arguments, no_statements, more_statements}
use Rattle.id_table.proofs.HasLemmas.{Has, Has-add, Has-arguments, Has-nexts, Has-push, Has-variables, addressed, argued, at-push, entered, push-size}
use Rattle.id_table.proofs.HasLemmas.{Has-carry, Has-counting, Has-end, Has-entries, Has-for, all_entries, bounded, carrying, closed, for_closed}
use Rattle.id_table.proofs.HasLemmas.{for_left_by, for_side, for_stated, in_loop, in_side, indexed, left_by, nexted, opened, reset, spanned, stated}
use Rattle.id_table.proofs.HasLemmas.{switched, tested, used, within_for}

module _ (F : List Row) where
  -- none of the rows from lo up to hi is a parameter
  abbrev pub NoParams : ℕ → ℕ → Type 0
  NoParams lo hi = (i : ℕ) → lo ≤ i → i < hi → is_param (at F i).node ≡ false

  free-none : (lo : ℕ) → NoParams lo lo
  free-none lo i b c = absurd (omega arith)

  free-both : (lo mid hi : ℕ) → NoParams lo mid → NoParams mid hi → NoParams lo hi
  free-both lo mid hi f g i b c = elim (cases_lt i mid) [ inl l ↦ f i b l | inr l ↦ g i l c ]

  free-push : (lo : ℕ) (R : List Row) (r : Row) → Has F (R ++ r ∷ []) → is_param r.node ≡ false → NoParams lo (length R) → NoParams lo (length (R ++ r ∷ []))
  free-push lo R r h e f i b c = elim (cases_lt i (length R)) [
    | inl l ↦ f i b l
    | inr l ↦ let q = push-size R r in let z : i ≡ length R = omega arith in
        ap (λ k. is_param (at F k).node) z ∙ ap (λ (x : Row). is_param x.node) (at-push F R r h) ∙ e
  ]

  NoParams-variables : (t : Tree) (s : Stand) (T : Parts) → Has F (add_variables s T t).rows → NoParams (size T) (size (add_variables s T t))
  NoParams-variables (more (next x a p) b) s T h =
      let V = with_row T s p (size T) Variable in
      free-both (size T) (size V) (size (add_variables s V b)) (free-push (size T) T.rows _ (Has-variables F b s V h) refl (free-none (size T)))
      (NoParams-variables b s V h)
  NoParams-variables (more a b) s T h = NoParams-variables b s T h
  NoParams-variables _ s T h = free-none (size T)

  NoParams-enter : (s : Stand) (T : Parts) (p : ℕ) → Has F (enter_loop s T p).rows → NoParams (size T) (size (enter_loop s T p))
  NoParams-enter s T p h =
      let S = with_row T s p (size T) Start in
      free-push (size T) S.rows _ h refl (free-push (size T) T.rows _ (Has-push F S.rows _ h) refl (free-none (size T)))

  NoParams-entries : (s : Stand) (T : Parts) (ss : Tree) (p : ℕ) → Has F (add_entries s T ss p).rows → NoParams (size T) (size (add_entries s T ss p))
  NoParams-entries s T ss p h =
      let V = add_variables s T ss in
      free-push (size T) V.rows _ h refl (NoParams-variables ss s T (Has-push F V.rows _ h))

  NoParams-carry : (s : Stand) (T : Parts) (q p : ℕ) → Has F (carry s T q p).rows → NoParams (size T) (size (carry s T q p))
  NoParams-carry s T q p h =
      let I = with_row T s q (size T) (Carried kind.Int) in
      let B = with_row I s p (size I) (Carried kind.Int) in
      let b = Has-push F B.rows _ h in
      free-push (size T) B.rows _ h refl
      (free-push (size T) I.rows _ b refl (free-push (size T) T.rows _ (Has-push F I.rows _ b) refl (free-none (size T))))

  -- the rows before a loop's predicate
  NoParams-begin : (s : Stand) (T : Parts) (ss : Tree) (p : ℕ) → Has F (begin_loop s T ss p).rows → NoParams (size T) (size (begin_loop s T ss p))
  NoParams-begin s T ss p h =
      let H = enter_loop s T p in
      free-both (size T) (size H) (size (begin_loop s T ss p)) (NoParams-enter s T p (Has-entries F (in_loop T) H ss p h))
      (NoParams-entries (in_loop T) H ss p h)

  -- those of a `for` from its `Start` up to its switches
  NoParams-for : (s : Stand) (T : Parts) (ss : Tree) (q p : ℕ) → Has F (begin_for s T ss q p).rows → NoParams (size T) (size (begin_for s T ss q p))
  NoParams-for s T ss q p h =
      let H = enter_loop s T p in
      let K = carrying s T q p in
      let E = all_entries s T ss q p in
      let W = within_for s T ss q p in
      let w = Has-push F W.rows _ h in
      let e = Has-push F E.rows _ w in
      let k = Has-entries F (in_loop T) K ss p e in
      free-push (size T) W.rows _ h refl
      (free-push (size T) E.rows _ w refl
      (free-both (size T) (size H) (size E) (NoParams-enter s T p (Has-carry F (in_loop T) H q p k))
      (free-both (size H) (size K) (size E) (NoParams-carry (in_loop T) H q p k) (NoParams-entries (in_loop T) K ss p e))))

  NoParams-counting : (s : Stand) (T : Parts) (x : List ℕ) (q p : ℕ) → Has F (begin_counting s T x q p).rows
      → NoParams (size T) (size (begin_counting s T x q p))
  NoParams-counting s T x q p h =
      let C = with_row T s p (size T) Count in
      let B = with_row C s p (size C) Turn in
      let b = Has-push F B.rows _ h in
      free-push (size T) B.rows _ h refl
      (free-push (size T) C.rows _ b refl (free-push (size T) T.rows _ (Has-push F C.rows _ b) refl (free-none (size T))))

  -- those behind the last expression of a loop
  NoParams-end : (lo : ℕ) (s o : Stand) (L : Parts) (p f g r : ℕ) → Has F (end_loop s o p f g r (last L) L).rows → NoParams lo (size L)
      → NoParams lo (size (end_loop s o p f g r (last L) L))
  NoParams-end lo s o L p f g r h n =
      let Z = spanned s o L p r g in
      let R = reset o L p r in
      let z = Has-push F Z.rows _ h in
      free-push lo Z.rows _ h refl (free-push lo R.rows _ z refl (free-push lo L.rows _ (Has-push F R.rows _ z) refl n))

  -- the rows of a store
  free-store : (s : Stand) (T : Parts) (t i e : Tree) (p : ℕ) → Has F (add s T (store t i e p)).rows → NoParams (size T) (size (add s T t))
      → NoParams (size (add s T t)) (size (add s (add s T t) i)) → NoParams (size (addressed s T t i p)) (size (add s (addressed s T t i p) e))
      → NoParams (size T) (size (add s T (store t i e p)))
  free-store s T t i e p h target index value =
      let U = add s T t in
      let V = add s U i in
      let A = addressed s T t i p in
      let W = add s A e in
      let f = Has-add F e s A (Has-push F W.rows _ h) in
      free-push (size T) W.rows _ h refl
      (free-both (size T) (size A) (size W) (free-push (size T) V.rows _ f refl (free-both (size T) (size U) (size V) target index)) value)

  mutual
    pub NoParams-expression : {t : Tree} (s : Stand) (T : Parts) → IsTree Expression t → Has F (add s T t).rows → NoParams (size T) (size (add s T t))
    NoParams-expression s T by_literal h = free-push (size T) T.rows _ h refl (free-none (size T))
    NoParams-expression s T by_name h = free-push (size T) T.rows _ h refl (free-none (size T))
    NoParams-expression s T (by_unary {a = a} d) h =
        let U = add s T a in
        free-push (size T) U.rows _ h refl (NoParams-expression s T d (Has-push F U.rows _ h))
    NoParams-expression s T (by_binary {a = a} {b = b} d e) h =
        let U = add s T a in
        let V = add s U b in
        let g = Has-push F V.rows _ h in
        free-push (size T) V.rows _ h refl
        (free-both (size T) (size U) (size V) (NoParams-expression s T d (Has-add F b s U g)) (NoParams-expression s U e g))
    NoParams-expression s T (by_array {a = a} {b = b} d e) h =
        let U = add s T a in
        let V = add s U b in
        let g = Has-push F V.rows _ h in
        free-push (size T) V.rows _ h refl
        (free-both (size T) (size U) (size V) (NoParams-expression s T d (Has-add F b s U g)) (NoParams-expression s U e g))
    NoParams-expression s T (by_fetch {t = a} {i = b} d e) h =
        let U = add s T a in
        let V = add s U b in
        let g = Has-push F V.rows _ h in
        free-push (size T) V.rows _ h refl
        (free-both (size T) (size U) (size V) (NoParams-expression s T d (Has-add F b s U g)) (NoParams-expression s U e g))
    NoParams-expression s T (by_conditional {t} {x} {y} {p} d e f) h =
        let U = add s T t in
        let n = size U in
        let S = with_row U s p (size T) (Split (last U)) in
        let X = add (arm s n true) S x in
        let Y = add (arm s n false) X y in
        let g = Has-push F Y.rows _ h in
        let j = Has-add F y (arm s n false) X g in
        let k = Has-add F x (arm s n true) S j in
        free-push (size T) Y.rows _ h refl
        (free-both (size T) (size X) (size Y)
        (free-both (size T) (size S) (size X)
        (free-push (size T) U.rows _ k refl (NoParams-expression s T d (Has-push F U.rows _ k)))
        (NoParams-expression (arm s n true) S e j))
        (NoParams-expression (arm s n false) X f g))
    NoParams-expression s T (by_call {x} {a} {p} d) h =
        let E = entered s T x p in
        let U = add_arguments s p (size T) 0 E a in
        let g = Has-push F U.rows _ h in
        free-push (size T) U.rows _ h refl
        (free-both (size T) (size E) (size U)
        (free-push (size T) T.rows _ (Has-arguments F a s p (size T) 0 E g) refl (free-none (size T)))
        (NoParams-arguments s p (size T) 0 E d g))
    NoParams-expression s T (by_block {ss} {b} d e) h =
        let U = add s T ss in
        let V = add s U b in
        let g = Has-push F V.rows _ h in
        free-push (size T) V.rows _ h refl
        (free-both (size T) (size U) (size V) (NoParams-statements s T d (Has-add F b s U g)) (NoParams-expression s U e g))
    NoParams-expression s T (by_loop {t} {ss} {l} {p} d e f) h =
        let E = begin_loop s T ss p in
        let U = tested s T t ss p in
        let W = switched s T t ss p in
        let B = opened s T t ss p in
        let N = stated s T t ss p in
        let C = closed s T t ss p in
        let L = left_by s T t ss l p in
        let o = in_side s T t ss p false in
        let m = Has-end F s o L p (size T) (size T) (size C) h in
        let c = Has-add F l o C m in
        let n = Has-push F N.rows _ c in
        let k = Has-nexts F ss (in_side s T t ss p true) 0 B n in
        let w = Has-push F W.rows _ k in
        let u = Has-push F U.rows _ w in
        let front = free-both (size T) (size E) (size U) (NoParams-begin s T ss p (Has-add F t (in_loop T) E u)) (NoParams-expression (in_loop T) E d u) in
        let middle = free-both (size T) (size B) (size N)
        (free-push (size T) W.rows _ k refl (free-push (size T) U.rows _ w refl front)) (NoParams-nexts (in_side s T t ss p true) 0 B e n) in
        let all = free-both (size T) (size C) (size L) (free-push (size T) N.rows _ c refl middle) (NoParams-expression o C f m) in
        NoParams-end (size T) s o L p (size T) (size T) (size C) h all
    NoParams-expression s T (by_for {x} {a} {b} {ss} {l} {q} {p} d e f g) h =
        let U = add s T a in
        let V = add s U b in
        let A = bounded s T a b p in
        let W = begin_for s A ss q p in
        let I = indexed s A x q ss p in
        let N = for_stated s A x q ss p in
        let C = for_closed s A x q ss p in
        let L = for_left_by s A x q ss l p in
        let y = for_side s A ss q p true in
        let o = for_side s A ss q p false in
        let m = Has-end F s o L p (size T) (size A) (size C) h in
        let c = Has-add F l o C m in
        let n = Has-push F N.rows _ c in
        let i = Has-nexts F ss y 3 I n in
        let w = Has-counting F y W x q p i in
        let v = Has-for F s A ss q p w in
        let u = Has-push F V.rows _ v in
        let bounds = free-push (size T) V.rows _ v refl
        (free-both (size T) (size U) (size V) (NoParams-expression s T d (Has-add F b s U u)) (NoParams-expression s U e u)) in
        let front = free-both (size T) (size W) (size I) (free-both (size T) (size A) (size W) bounds (NoParams-for s A ss q p w))
        (NoParams-counting y W x q p i) in
        let middle = free-push (size T) N.rows _ c refl (free-both (size T) (size I) (size N) front (NoParams-nexts y 3 I f n)) in
        NoParams-end (size T) s o L p (size T) (size A) (size C) h
        (free-both (size T) (size C) (size L) middle (NoParams-expression o C g m))

    NoParams-arguments : {t : Tree} (s : Stand) (p e i : ℕ) (T : Parts) → IsTree Arguments t → Has F (add_arguments s p e i T t).rows
        → NoParams (size T) (size (add_arguments s p e i T t))
    NoParams-arguments s p e i T no_arguments h = free-none (size T)
    NoParams-arguments s p e i T (more_arguments {a} {b} d f) h =
        let U = add s T a in
        let A = argued s p e i U in
        let g = Has-arguments F b s p e (suc i) A h in
        free-both (size T) (size A) (size (add_arguments s p e (suc i) A b))
        (free-push (size T) U.rows _ g refl (NoParams-expression s T d (Has-push F U.rows _ g)))
        (NoParams-arguments s p e (suc i) A f h)

    NoParams-statements : {t : Tree} (s : Stand) (T : Parts) → IsTree Statements t → Has F (add s T t).rows → NoParams (size T) (size (add s T t))
    NoParams-statements s T no_statements h = free-none (size T)
    NoParams-statements s T (more_statements {x} {a} {ss} {p} d e) h =
        let U = add s T a in
        let V = add s T (binding x a p) in
        let g = Has-add F ss s V h in
        free-both (size T) (size V) (size (add s V ss))
        (free-push (size T) U.rows _ g refl (NoParams-expression s T d (Has-push F U.rows _ g)))
        (NoParams-statements s V e h)
    NoParams-statements s T (next_statement {x} {a} {ss} {p} d e) h =
        let U = add s T a in
        let V = add s T (next x a p) in
        let g = Has-add F ss s V h in
        free-both (size T) (size V) (size (add s V ss))
        (free-push (size T) U.rows _ g refl (NoParams-expression s T d (Has-push F U.rows _ g)))
        (NoParams-statements s V e h)
    NoParams-statements s T (store_statement {t} {i} {e} {ss} {p} d f k l) h =
        let U = add s T t in
        let V = add s U i in
        let A = addressed s T t i p in
        let W = add s A e in
        let X = add s T (store t i e p) in
        let g = Has-add F ss s X h in
        let m = Has-push F W.rows _ g in
        let n = Has-add F e s A m in
        let o = Has-push F V.rows _ n in
        free-both (size T) (size X) (size (add s X ss))
        (free-store s T t i e p g (NoParams-expression s T d (Has-add F i s U o)) (NoParams-expression s U f o) (NoParams-expression s A k m))
        (NoParams-statements s X l h)

    NoParams-nexts : {t : Tree} (s : Stand) (i : ℕ) (T : Parts) → IsTree Statements t → Has F (add_nexts s i T t).rows
        → NoParams (size T) (size (add_nexts s i T t))
    NoParams-nexts s i T no_statements h = free-none (size T)
    NoParams-nexts s i T (more_statements {x} {a} {ss} {p} d e) h =
        let U = add s T a in
        let V = add s T (binding x a p) in
        let g = Has-nexts F ss s i V h in
        free-both (size T) (size V) (size (add_nexts s i V ss))
        (free-push (size T) U.rows _ g refl (NoParams-expression s T d (Has-push F U.rows _ g)))
        (NoParams-nexts s i V e h)
    NoParams-nexts s j T (store_statement {t} {i} {e} {ss} {p} d f k l) h =
        let U = add s T t in
        let V = add s U i in
        let A = addressed s T t i p in
        let W = add s A e in
        let X = add s T (store t i e p) in
        let g = Has-nexts F ss s j X h in
        let m = Has-push F W.rows _ g in
        let n = Has-add F e s A m in
        let o = Has-push F V.rows _ n in
        free-both (size T) (size X) (size (add_nexts s j X ss))
        (free-store s T t i e p g (NoParams-expression s T d (Has-add F i s U o)) (NoParams-expression s U f o) (NoParams-expression s A k m))
        (NoParams-nexts s j X l h)
    NoParams-nexts s i T (next_statement {x} {a} {ss} {p} d e) h =
        let N = used s T x p in
        let U = add s N a in
        let V = nexted s i T x a p in
        let g = Has-nexts F ss s (suc i) V h in
        let k = Has-push F U.rows _ g in
        free-both (size T) (size V) (size (add_nexts s (suc i) V ss))
        (free-push (size T) U.rows _ g refl
        (free-both (size T) (size N) (size U) (free-push (size T) T.rows _ (Has-add F a s N k) refl (free-none (size T))) (NoParams-expression s N d k)))
        (NoParams-nexts s (suc i) V e h)
