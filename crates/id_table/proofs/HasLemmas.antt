-- A table that has the rows of another at its beginning.
use Rattle.std.proofs.Common.{◌≡◌, ◌<◌, ◌≤◌, ◌+◌, ℕ, suc, Bool, true, false, List, [], ◌∷◌, ◌++◌, length, refl, ◌∙◌, arith}
use Rattle.std.proofs.lemmas.List.{get_or_append_left, get_or_push, length_push}
use Rattle.id_grammar.specs.Tree.{Tree, literal, unary, binary, name, conditional, call, block, loop, for_loop, array, fetch, binding, next}
use Rattle.id_grammar.specs.Tree.{store, param, define, none, more}
use Rattle.id_table.specs.declared.row.Row.{Row}
use Rattle.id_table.specs.declared.row.Stand.{Stand}
use Rattle.id_table.specs.declared.row.Node.{Node}
use Rattle.id_table.specs.declared.row.Node.TheVariants.{Head, Split, Enter, Arg, Start, Bounds, Carried, Within, Count}
use Rattle.id_table.specs.declared.row.Node.TheVariants.{Variable, Switches, Turn, NextUse, Next, Body, Reset, Span, Address}
use Rattle.id_value.specs.declared.Kind.TheVariants as kind
use Rattle.id_table.specs.Names.{number_of}
use Rattle.id_table.specs.Rows.{Parts, add, add_arguments, add_entries, add_nexts, add_variables, arm, at, begin_counting, begin_for}
use Rattle.id_table.specs.Rows.{begin_loop, carry, end_loop, enter_loop, in_top, last, naming, no_row, size, value_of, with_row}

-- a row in this stand, of this place, first row, value and node
abbrev pub row_in : Stand → ℕ → ℕ → ℕ → Node → Row
row_in s p f v n = record { place = p; first = f; block = s.block; region = s.region; value = v; node = n }

-- the next row
abbrev pub row_for : List Row → Stand → ℕ → ℕ → Node → Row
row_for R s p f n = row_in s p f (value_of R n) n

-- the parts with the row that begins a call
abbrev pub entered : Stand → Parts → List ℕ → ℕ → Parts
entered s T x p = with_row (naming T x) s p (size T) (Enter (number_of T.names x))

-- the parts with the row behind an argument
abbrev pub argued : Stand → ℕ → ℕ → ℕ → Parts → Parts
argued s p e i U = with_row U s p e (Arg e i (last U))

-- where a loop's predicate stands
abbrev pub in_loop : Parts → Stand
in_loop T = in_top (suc (size T))

-- the parts of a loop up to its predicate
abbrev pub tested : Stand → Parts → Tree → Tree → ℕ → Parts
tested s T t ss p = add (in_loop T) (begin_loop s T ss p) t

-- up to its switches
abbrev pub switched : Stand → Parts → Tree → Tree → ℕ → Parts
switched s T t ss p = let U = tested s T t ss p in with_row U (in_loop T) p (size (begin_loop s T ss p)) (Switches (last U))

-- the side of the switches behind the predicate: the body, or what is behind it
abbrev pub in_side : Stand → Parts → Tree → Tree → ℕ → Bool → Stand
in_side s T t ss p b = arm (in_loop T) (size (tested s T t ss p)) b

-- the parts of a loop up to the beginning of its body
abbrev pub opened : Stand → Parts → Tree → Tree → ℕ → Parts
opened s T t ss p = let W = switched s T t ss p in with_row W (in_side s T t ss p true) p (size W) Turn

-- up to its last statement
abbrev pub stated : Stand → Parts → Tree → Tree → ℕ → Parts
stated s T t ss p = add_nexts (in_side s T t ss p true) 0 (opened s T t ss p) ss

-- up to the end of its body
abbrev pub closed : Stand → Parts → Tree → Tree → ℕ → Parts
closed s T t ss p = with_row (stated s T t ss p) (in_side s T t ss p true) p (size (opened s T t ss p)) Body

-- up to its last expression
abbrev pub left_by : Stand → Parts → Tree → Tree → Tree → ℕ → Parts
left_by s T t ss l p = add (in_side s T t ss p false) (closed s T t ss p) l

-- the parts of a loop behind its last expression, up to what sends its value out, and up to its `Span`
abbrev pub reset : Stand → Parts → ℕ → ℕ → Parts
reset o L p r = with_row L o p r (Reset (last L))

abbrev pub spanned : Stand → Stand → Parts → ℕ → ℕ → ℕ → Parts
spanned s o L p r g = with_row (reset o L p r) s p g Span

-- the parts of a `for` up to the bounds of its index
abbrev pub bounded : Stand → Parts → Tree → Tree → ℕ → Parts
bounded s T a b p =
    let U = add s T a in
    let V = add s U b in
    with_row V s p (size T) (Bounds (last U) (last V))

-- behind those, up to the entries of what it carries on
abbrev pub carrying : Stand → Parts → ℕ → ℕ → Parts
carrying s A q p = carry (in_loop A) (enter_loop s A p) q p

-- up to those of its variables and imports
abbrev pub all_entries : Stand → Parts → Tree → ℕ → ℕ → Parts
all_entries s A ss q p = add_entries (in_loop A) (carrying s A q p) ss p

-- up to what it has in the place of a predicate
abbrev pub within_for : Stand → Parts → Tree → ℕ → ℕ → Parts
within_for s A ss q p = let E = all_entries s A ss q p in with_row E (in_loop A) p (size E) (Within (suc (size A) + 3))

-- the side of its switches: the body, or what is behind it
abbrev pub for_side : Stand → Parts → Tree → ℕ → ℕ → Bool → Stand
for_side s A ss q p b = arm (in_loop A) (last (begin_for s A ss q p)) b

-- the parts of a `for` up to the index at the beginning of its body
abbrev pub indexed : Stand → Parts → List ℕ → ℕ → Tree → ℕ → Parts
indexed s A x q ss p = begin_counting (for_side s A ss q p true) (begin_for s A ss q p) x q p

-- up to its last statement
abbrev pub for_stated : Stand → Parts → List ℕ → ℕ → Tree → ℕ → Parts
for_stated s A x q ss p = add_nexts (for_side s A ss q p true) 3 (indexed s A x q ss p) ss

-- up to the end of its body
abbrev pub for_closed : Stand → Parts → List ℕ → ℕ → Tree → ℕ → Parts
for_closed s A x q ss p = with_row (for_stated s A x q ss p) (for_side s A ss q p true) p (last (indexed s A x q ss p)) Body

-- up to its last expression
abbrev pub for_left_by : Stand → Parts → List ℕ → ℕ → Tree → Tree → ℕ → Parts
for_left_by s A x q ss l p = add (for_side s A ss q p false) (for_closed s A x q ss p) l

-- the parts with the use that begins a `next` statement
abbrev pub used : Stand → Parts → List ℕ → ℕ → Parts
used s T x p = with_row (naming T x) s p (size T) (NextUse (number_of T.names x))

-- the parts with the rows of a `next` statement of the index i
abbrev pub nexted : Stand → ℕ → Parts → List ℕ → Tree → ℕ → Parts
nexted s i T x a p = let U = add s (used s T x p) a in with_row U s p (size T) (Next (number_of T.names x) i (size T) (last U))

-- the parts of a store up to its address
abbrev pub addressed : Stand → Parts → Tree → Tree → ℕ → Parts
addressed s T t i p =
    let U = add s T t in
    let V = add s U i in
    with_row V s p (size T) (Address (last U) (last V))

-- the rows of R are the first of F
pub record Has (F R : List Row) : Type 0 where
  pub within : length R ≤ length F
  pub same : (i : ℕ) → i < length R → at F i ≡ at R i

pub Has-itself : (R : List Row) → Has R R
Has-itself R = record { within = omega arith; same = λ i b. refl }

pub push-size : (R : List Row) (r : Row) → length (R ++ r ∷ []) ≡ suc (length R)
push-size R r = let e = length_push R r in omega arith

module _ (F : List Row) where
  pub Has-push : (R : List Row) (r : Row) → Has F (R ++ r ∷ []) → Has F R
  Has-push R r h = let e = push-size R r in record {
    within = omega (arith, h.within);
    same = λ i b. h.same i (omega arith) ∙ get_or_append_left R (r ∷ []) no_row i b;
  }

  pub at-push : (R : List Row) (r : Row) → Has F (R ++ r ∷ []) → at F (length R) ≡ r
  at-push R r h = let e = push-size R r in h.same (length R) (omega arith) ∙ get_or_push R r no_row (length R) refl

  pub push-within : (R : List Row) (r : Row) → Has F (R ++ r ∷ []) → length R < length F
  push-within R r h = let e = push-size R r in omega (arith, h.within)

  pub Has-variables : (t : Tree) (s : Stand) (T : Parts) → Has F (add_variables s T t).rows → Has F T.rows
  Has-variables (more (next x a p) b) s T h = Has-push T.rows _ (Has-variables b s (with_row T s p (size T) Variable) h)
  Has-variables (more a b) s T h = Has-variables b s T h
  Has-variables _ s T h = h

  pub Has-enter : (s : Stand) (T : Parts) (p : ℕ) → Has F (enter_loop s T p).rows → Has F T.rows
  Has-enter s T p h = Has-push T.rows _ (Has-push (with_row T s p (size T) Start).rows _ h)

  pub Has-entries : (s : Stand) (T : Parts) (ss : Tree) (p : ℕ) → Has F (add_entries s T ss p).rows → Has F T.rows
  Has-entries s T ss p h = Has-variables ss s T (Has-push (add_variables s T ss).rows _ h)

  pub Has-carry : (s : Stand) (T : Parts) (q p : ℕ) → Has F (carry s T q p).rows → Has F T.rows
  Has-carry s T q p h =
      let I = with_row T s q (size T) (Carried kind.Int) in
      let B = with_row I s p (size I) (Carried kind.Int) in
      Has-push T.rows _ (Has-push I.rows _ (Has-push B.rows _ h))

  pub Has-begin : (s : Stand) (T : Parts) (ss : Tree) (p : ℕ) → Has F (begin_loop s T ss p).rows → Has F T.rows
  Has-begin s T ss p h = Has-enter s T p (Has-entries (in_loop T) (enter_loop s T p) ss p h)

  pub Has-for : (s : Stand) (T : Parts) (ss : Tree) (q p : ℕ) → Has F (begin_for s T ss q p).rows → Has F T.rows
  Has-for s T ss q p h =
      let E = all_entries s T ss q p in
      Has-enter s T p (Has-carry (in_loop T) (enter_loop s T p) q p
      (Has-entries (in_loop T) (carrying s T q p) ss p (Has-push E.rows _ (Has-push (within_for s T ss q p).rows _ h))))

  pub Has-counting : (s : Stand) (T : Parts) (x : List ℕ) (q p : ℕ) → Has F (begin_counting s T x q p).rows → Has F T.rows
  Has-counting s T x q p h =
      let C = with_row T s p (size T) Count in
      let B = with_row C s p (size C) Turn in
      Has-push T.rows _ (Has-push C.rows _ (Has-push B.rows _ h))

  pub Has-end : (s o : Stand) (L : Parts) (p f g r : ℕ) → Has F (end_loop s o p f g r (last L) L).rows → Has F L.rows
  Has-end s o L p f g r h = Has-push L.rows _ (Has-push (reset o L p r).rows _ (Has-push (spanned s o L p r g).rows _ h))

  mutual
    pub Has-add : (t : Tree) (s : Stand) (T : Parts) → Has F (add s T t).rows → Has F T.rows
    Has-add (literal v p) s T h = Has-push T.rows _ h
    Has-add (unary o a p) s T h = Has-add a s T (Has-push (add s T a).rows _ h)
    Has-add (binary o a b p) s T h = Has-add a s T (Has-add b s (add s T a) (Has-push (add s (add s T a) b).rows _ h))
    Has-add (name x p) s T h = Has-push T.rows _ h
    Has-add (conditional t x y p) s T h =
        let U = add s T t in
        let n = size U in
        let S = with_row U s p (size T) (Split (last U)) in
        let X = add (arm s n true) S x in
        let Y = add (arm s n false) X y in
        Has-add t s T (Has-push U.rows _ (Has-add x (arm s n true) S (Has-add y (arm s n false) X (Has-push Y.rows _ h))))
    Has-add (call x a p) s T h =
        let E = entered s T x p in
        Has-push T.rows _ (Has-arguments a s p (size T) 0 E (Has-push (add_arguments s p (size T) 0 E a).rows _ h))
    Has-add (block a b p) s T h = Has-add a s T (Has-add b s (add s T a) (Has-push (add s (add s T a) b).rows _ h))
    Has-add (loop t a l p) s T h =
        let B = opened s T t a p in
        let L = left_by s T t a l p in
        let C = closed s T t a p in
        let n = Has-add l (in_side s T t a p false) C (Has-end s (in_side s T t a p false) L p (size T) (size T) (size C) h) in
        let o = Has-nexts a (in_side s T t a p true) 0 B (Has-push (stated s T t a p).rows _ n) in
        let u = Has-push (tested s T t a p).rows _ (Has-push (switched s T t a p).rows _ o) in
        Has-begin s T a p (Has-add t (in_loop T) (begin_loop s T a p) u)
    Has-add (for_loop x q a b ss l p) s T h =
        let A = bounded s T a b p in
        let W = begin_for s A ss q p in
        let I = indexed s A x q ss p in
        let N = for_stated s A x q ss p in
        let C = for_closed s A x q ss p in
        let L = for_left_by s A x q ss l p in
        let o = for_side s A ss q p false in
        let n = Has-add l o C (Has-end s o L p (size T) (size A) (size C) h) in
        let k = Has-nexts ss (for_side s A ss q p true) 3 I (Has-push N.rows _ n) in
        let w = Has-for s A ss q p (Has-counting (for_side s A ss q p true) W x q p k) in
        Has-add a s T (Has-add b s (add s T a) (Has-push (add s (add s T a) b).rows _ w))
    Has-add (array nested a b p) s T h = Has-add a s T (Has-add b s (add s T a) (Has-push (add s (add s T a) b).rows _ h))
    Has-add (fetch a b p) s T h = Has-add a s T (Has-add b s (add s T a) (Has-push (add s (add s T a) b).rows _ h))
    Has-add (store t i e p) s T h =
        let U = add s T t in
        let A = addressed s T t i p in
        Has-add t s T (Has-add i s U (Has-push (add s U i).rows _ (Has-add e s A (Has-push (add s A e).rows _ h))))
    Has-add (next x a p) s T h = Has-add a s T (Has-push (add s T a).rows _ h)
    Has-add (binding x a p) s T h = Has-add a s T (Has-push (add s T a).rows _ h)
    Has-add (param x k p) s T h = Has-push T.rows _ h
    Has-add (define x ps k b p) s T h =
        let u = in_top (size T) in
        let H = with_row T u p (size T) Head in
        Has-push T.rows _ (Has-add ps u H (Has-add b u (add u H ps) (Has-push (add u (add u H ps) b).rows _ h)))
    Has-add none s T h = h
    Has-add (more a b) s T h = Has-add a s T (Has-add b s (add s T a) h)

    pub Has-arguments : (t : Tree) (s : Stand) (p e i : ℕ) (T : Parts) → Has F (add_arguments s p e i T t).rows → Has F T.rows
    Has-arguments (more a b) s p e i T h =
        let U = add s T a in
        Has-add a s T (Has-push U.rows _ (Has-arguments b s p e (suc i) (argued s p e i U) h))
    Has-arguments _ s p e i T h = h

    pub Has-nexts : (t : Tree) (s : Stand) (i : ℕ) (T : Parts) → Has F (add_nexts s i T t).rows → Has F T.rows
    Has-nexts (more (next x a p) b) s i T h =
        let N = used s T x p in
        Has-push T.rows _ (Has-add a s N (Has-push (add s N a).rows _ (Has-nexts b s (suc i) (nexted s i T x a p) h)))
    Has-nexts (more a b) s i T h = Has-add a s T (Has-nexts b s i (add s T a) h)
    Has-nexts _ s i T h = h
