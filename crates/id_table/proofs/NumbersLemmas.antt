-- Each name of a table stands once among its names, and each number of a row is that of one.
use Rattle.std.proofs.Common.{◌≡◌, ◌⊎◌, inl, inr, ◌+◌, ◌<◌, ◌≤◌, ℕ, suc, Bool, true, false, Some, None, List, [], ◌∷◌, ◌++◌, length, refl, sym, ap, ◌∙◌, arith}
use Rattle.std.proofs.lemmas.Bool.{cases_lt, false≢true}
use Rattle.std.proofs.lemmas.Slice.Eq.{bytes_eq-Decides}
use Rattle.std.specs.Prelude.{if◌then◌else◌}
use Rattle.std.specs.Str.{bytes_eq}
use Rattle.id_value.specs.List.{AllDiffer, Among}
use Rattle.id_grammar.specs.Tree.{Tree, literal, unary, binary, name, conditional, call, block, loop, for_loop, array, fetch, binding, next, store, param}
use Rattle.id_grammar.specs.Tree.{define, none, more}
use Rattle.id_table.specs.declared.row.Row.{Row}
use Rattle.id_table.specs.declared.row.Stand.{Stand}
use Rattle.id_table.specs.declared.row.Node.TheVariants.{Carried, Count, Head, Split, Start, Turn, Variable}
use Rattle.id_value.specs.declared.Kind.TheVariants as kind
use Rattle.id_table.specs.Names.{first_names, number_of, with_name}
use Rattle.id_table.specs.Rows.{Parts, add, add_arguments, add_entries, add_nexts, add_variables, arm, at, begin_counting, begin_for, begin_loop}
use Rattle.id_table.specs.Rows.{carry, end_loop, enter_loop, in_top, last, parts_of, rows_of, size, with_row}
use Rattle.id_table.specs.Tables.{AreNamed, name_of}
use Rattle.id_table.proofs.HasLemmas.{Has, Has-add, Has-arguments, Has-itself, Has-nexts}
use Rattle.id_table.proofs.HasLemmas.{Has-push, Has-variables, addressed, argued, at-push, entered, push-size}
use Rattle.id_table.proofs.HasLemmas.{Has-carry, Has-counting, Has-end, Has-entries, Has-for, all_entries, bounded, carrying, closed, for_closed}
use Rattle.id_table.proofs.HasLemmas.{for_left_by, for_side, for_stated, in_loop, in_side, indexed, left_by, nexted, opened, reset, spanned, stated}
use Rattle.id_table.proofs.HasLemmas.{switched, tested, used, within_for}

Among-with_name : (xs : List (List ℕ)) (x y : List ℕ) → Among y (with_name xs x) → Among y xs ⊎ (y ≡ x)
Among-with_name [] x y (inl e) = inr e
Among-with_name [] x y (inr h) = inl h
Among-with_name (z ∷ xs) x y h = step (bytes_eq x z) h (Among-with_name xs x y)
  where
    step : (b : Bool) → Among y (if b then z ∷ xs else z ∷ with_name xs x) → (Among y (with_name xs x) → Among y xs ⊎ (y ≡ x)) → Among y (z ∷ xs) ⊎ (y ≡ x)
    step true h rest = inl h
    step false (inl e) rest = inl (inl e)
    step false (inr h) rest = elim (rest h) [ inl k ↦ inl (inr k) | inr e ↦ inr e ]

AllDiffer-with_name : (xs : List (List ℕ)) (x : List ℕ) → AllDiffer xs → AllDiffer (with_name xs x)
AllDiffer-with_name [] x d = (λ h. h, tt)
AllDiffer-with_name (z ∷ xs) x d = step (bytes_eq x z) refl (AllDiffer-with_name xs x d.1)
  where
    step : (b : Bool) → bytes_eq x z ≡ b → AllDiffer (with_name xs x) → AllDiffer (if b then z ∷ xs else z ∷ with_name xs x)
    step true e rest = d
    step false e rest =
        (λ h. elim (Among-with_name xs x z h) [ inl k ↦ d.0 k | inr w ↦ false≢true (sym e ∙ (bytes_eq-Decides x z).1 (sym w)) ], rest)

with_name-longer : (xs : List (List ℕ)) (x : List ℕ) → length xs ≤ length (with_name xs x)
with_name-longer [] x = omega arith
with_name-longer (z ∷ xs) x =
    let rest = with_name-longer xs x in
    elim (bytes_eq x z) as (λ b. length (z ∷ xs) ≤ length (if b then z ∷ xs else z ∷ with_name xs x)) [ true ↦ omega arith | false ↦ omega arith ]

number_of-within : (xs : List (List ℕ)) (x : List ℕ) → number_of xs x < length (with_name xs x)
number_of-within [] x = omega arith
number_of-within (z ∷ xs) x =
    let rest = number_of-within xs x in
    elim (bytes_eq x z) as (λ b. (if b then 0 else number_of xs x + 1) < length (if b then z ∷ xs else z ∷ with_name xs x)) [
      | true ↦ omega arith
      | false ↦ omega arith
    ]

AllDiffer-variables : (t : Tree) (s : Stand) (T : Parts) → AllDiffer T.names → AllDiffer (add_variables s T t).names
AllDiffer-variables (more (next x a p) b) s T d = AllDiffer-variables b s (with_row T s p (size T) Variable) d
AllDiffer-variables (more a b) s T d = AllDiffer-variables b s T d
AllDiffer-variables _ s T d = d

mutual
  AllDiffer-add : (t : Tree) (s : Stand) (T : Parts) → AllDiffer T.names → AllDiffer (add s T t).names
  AllDiffer-add (literal v p) s T d = d
  AllDiffer-add (unary o a p) s T d = AllDiffer-add a s T d
  AllDiffer-add (binary o a b p) s T d = AllDiffer-add b s (add s T a) (AllDiffer-add a s T d)
  AllDiffer-add (name x p) s T d = AllDiffer-with_name T.names x d
  AllDiffer-add (conditional t x y p) s T d =
      let U = add s T t in
      let n = size U in
      let S = with_row U s p (size T) (Split (last U)) in
      AllDiffer-add y (arm s n false) (add (arm s n true) S x) (AllDiffer-add x (arm s n true) S (AllDiffer-add t s T d))
  AllDiffer-add (call x a p) s T d = AllDiffer-arguments a s p (size T) 0 (entered s T x p) (AllDiffer-with_name T.names x d)
  AllDiffer-add (block a b p) s T d = AllDiffer-add b s (add s T a) (AllDiffer-add a s T d)
  AllDiffer-add (loop t a l p) s T d =
      let u = AllDiffer-add t (in_loop T) (begin_loop s T a p) (AllDiffer-variables a (in_loop T) (enter_loop s T p) d) in
      AllDiffer-add l (in_side s T t a p false) (closed s T t a p) (AllDiffer-nexts a (in_side s T t a p true) 0 (opened s T t a p) u)
  AllDiffer-add (for_loop x q a b ss l p) s T d =
      let A = bounded s T a b p in
      let u = AllDiffer-add b s (add s T a) (AllDiffer-add a s T d) in
      let v = AllDiffer-variables ss (in_loop A) (carrying s A q p) u in
      let w = AllDiffer-with_name (begin_for s A ss q p).names x v in
      let k = AllDiffer-nexts ss (for_side s A ss q p true) 3 (indexed s A x q ss p) w in
      AllDiffer-add l (for_side s A ss q p false) (for_closed s A x q ss p) k
  AllDiffer-add (array nested a b p) s T d = AllDiffer-add b s (add s T a) (AllDiffer-add a s T d)
  AllDiffer-add (fetch a b p) s T d = AllDiffer-add b s (add s T a) (AllDiffer-add a s T d)
  AllDiffer-add (store t i a p) s T d = AllDiffer-add a s (addressed s T t i p) (AllDiffer-add i s (add s T t) (AllDiffer-add t s T d))
  AllDiffer-add (next x a p) s T d = AllDiffer-with_name (add s T a).names x (AllDiffer-add a s T d)
  AllDiffer-add (binding x a p) s T d = AllDiffer-with_name (add s T a).names x (AllDiffer-add a s T d)
  AllDiffer-add (param x k p) s T d = AllDiffer-with_name T.names x d
  AllDiffer-add (define x a k b p) s T d =
      let w = in_top (size T) in
      let H = with_row T w p (size T) Head in
      let U = add w H a in
      AllDiffer-with_name (add w U b).names x (AllDiffer-add b w U (AllDiffer-add a w H d))
  AllDiffer-add none s T d = d
  AllDiffer-add (more a b) s T d = AllDiffer-add b s (add s T a) (AllDiffer-add a s T d)

  AllDiffer-arguments : (t : Tree) (s : Stand) (p e i : ℕ) (T : Parts) → AllDiffer T.names → AllDiffer (add_arguments s p e i T t).names
  AllDiffer-arguments (more a b) s p e i T d = AllDiffer-arguments b s p e (suc i) (argued s p e i (add s T a)) (AllDiffer-add a s T d)
  AllDiffer-arguments _ s p e i T d = d

  AllDiffer-nexts : (t : Tree) (s : Stand) (i : ℕ) (T : Parts) → AllDiffer T.names → AllDiffer (add_nexts s i T t).names
  AllDiffer-nexts (more (next x a p) b) s i T d =
      AllDiffer-nexts b s (suc i) (nexted s i T x a p) (AllDiffer-add a s (used s T x p) (AllDiffer-with_name T.names x d))
  AllDiffer-nexts (more a b) s i T d = AllDiffer-nexts b s i (add s T a) (AllDiffer-add a s T d)
  AllDiffer-nexts _ s i T d = d

-- no name stands twice among the names of a table
pub AllDiffer-parts_of : (t : Tree) → AllDiffer (parts_of t).names
AllDiffer-parts_of t = AllDiffer-add t (in_top 0) (record { rows = []; names = first_names }) (λ h. h, tt)

module _ (F : List Row) where
  -- the numbers of names in the rows from lo up to hi are below n
  abbrev Below : ℕ → ℕ → ℕ → Type 0
  Below n lo hi = (i x : ℕ) → lo ≤ i → i < hi → name_of (at F i).node ≡ Some x → x < n

  below-both : (n lo mid hi : ℕ) → Below n lo mid → Below n mid hi → Below n lo hi
  below-both n lo mid hi f g i x b c e = elim (cases_lt i mid) [ inl l ↦ f i x b l e | inr l ↦ g i x l c e ]

  below-push : (n lo : ℕ) (R : List Row) (r : Row) → Has F (R ++ r ∷ []) → Below n lo (length R) → ((x : ℕ) → name_of r.node ≡ Some x → x < n)
      → Below n lo (length (R ++ r ∷ []))
  below-push n lo R r h f own i x b c e = elim (cases_lt i (length R)) [
    | inl l ↦ f i x b l e
    | inr l ↦ let q = push-size R r in let z : length R ≡ i = omega arith in
        own x (ap (λ (y : Row). name_of y.node) (sym (at-push F R r h)) ∙ ap (λ k. name_of (at F k).node) z ∙ e)
  ]

  below-none : (n lo : ℕ) → Below n lo lo
  below-none n lo i x b c e = absurd (omega arith)

no_name : (n x : ℕ) → None ≡ Some x → x < n
no_name n x e = cc

one_name : (n y x : ℕ) → y < n → Some y ≡ Some x → x < n
one_name n y x l e = let z : y ≡ x = cc in omega arith

variables-longer : (t : Tree) (s : Stand) (T : Parts) → length T.names ≤ length (add_variables s T t).names
variables-longer (more (next x a p) b) s T = variables-longer b s (with_row T s p (size T) Variable)
variables-longer (more a b) s T = variables-longer b s T
variables-longer _ s T = omega arith

mutual
  names-longer : (t : Tree) (s : Stand) (T : Parts) → length T.names ≤ length (add s T t).names
  names-longer (literal v p) s T = omega arith
  names-longer (unary o a p) s T = names-longer a s T
  names-longer (binary o a b p) s T = let l = names-longer a s T in let m = names-longer b s (add s T a) in omega arith
  names-longer (name x p) s T = with_name-longer T.names x
  names-longer (conditional t x y p) s T =
      let U = add s T t in
      let n = size U in
      let S = with_row U s p (size T) (Split (last U)) in
      let l = names-longer t s T in
      let m = names-longer x (arm s n true) S in
      let q = names-longer y (arm s n false) (add (arm s n true) S x) in
      omega arith
  names-longer (call x a p) s T =
      let l = with_name-longer T.names x in
      let m = arguments-longer a s p (size T) 0 (entered s T x p) in
      omega arith
  names-longer (block a b p) s T = let l = names-longer a s T in let m = names-longer b s (add s T a) in omega arith
  names-longer (loop t a l p) s T =
      let k = variables-longer a (in_loop T) (enter_loop s T p) in
      let m = names-longer t (in_loop T) (begin_loop s T a p) in
      let n = nexts-longer a (in_side s T t a p true) 0 (opened s T t a p) in
      let o = names-longer l (in_side s T t a p false) (closed s T t a p) in
      omega arith
  names-longer (for_loop x q a b ss l p) s T =
      let A = bounded s T a b p in
      let i = names-longer a s T in
      let j = names-longer b s (add s T a) in
      let k = variables-longer ss (in_loop A) (carrying s A q p) in
      let m = with_name-longer (begin_for s A ss q p).names x in
      let n = nexts-longer ss (for_side s A ss q p true) 3 (indexed s A x q ss p) in
      let o = names-longer l (for_side s A ss q p false) (for_closed s A x q ss p) in
      omega arith
  names-longer (array nested a b p) s T = let l = names-longer a s T in let m = names-longer b s (add s T a) in omega arith
  names-longer (fetch a b p) s T = let l = names-longer a s T in let m = names-longer b s (add s T a) in omega arith
  names-longer (store t i a p) s T =
      let l = names-longer t s T in
      let m = names-longer i s (add s T t) in
      let q = names-longer a s (addressed s T t i p) in
      omega arith
  names-longer (next x a p) s T = let l = names-longer a s T in let m = with_name-longer (add s T a).names x in omega arith
  names-longer (binding x a p) s T = let l = names-longer a s T in let m = with_name-longer (add s T a).names x in omega arith
  names-longer (param x k p) s T = with_name-longer T.names x
  names-longer (define x a k b p) s T =
      let w = in_top (size T) in
      let H = with_row T w p (size T) Head in
      let U = add w H a in
      let l = names-longer a w H in
      let m = names-longer b w U in
      let q = with_name-longer (add w U b).names x in
      omega arith
  names-longer none s T = omega arith
  names-longer (more a b) s T = let l = names-longer a s T in let m = names-longer b s (add s T a) in omega arith

  arguments-longer : (t : Tree) (s : Stand) (p e i : ℕ) (T : Parts) → length T.names ≤ length (add_arguments s p e i T t).names
  arguments-longer (more a b) s p e i T =
      let U = add s T a in
      let l = names-longer a s T in
      let m = arguments-longer b s p e (suc i) (argued s p e i U) in
      omega arith
  arguments-longer _ s p e i T = omega arith

  nexts-longer : (t : Tree) (s : Stand) (i : ℕ) (T : Parts) → length T.names ≤ length (add_nexts s i T t).names
  nexts-longer (more (next x a p) b) s i T =
      let l = with_name-longer T.names x in
      let m = names-longer a s (used s T x p) in
      let n = nexts-longer b s (suc i) (nexted s i T x a p) in
      omega arith
  nexts-longer (more a b) s i T = let l = names-longer a s T in let m = nexts-longer b s i (add s T a) in omega arith
  nexts-longer _ s i T = omega arith

module _ (F : List Row) (n : ℕ) where
  named_variables : (t : Tree) (s : Stand) (T : Parts) → Has F (add_variables s T t).rows → length (add_variables s T t).names ≤ n
      → Below F n (size T) (size (add_variables s T t))
  named_variables (more (next x a p) b) s T h l =
      let V = with_row T s p (size T) Variable in
      below-both F n (size T) (size V) (size (add_variables s V b))
      (below-push F n (size T) T.rows _ (Has-variables F b s V h) (below-none F n (size T)) (no_name n))
      (named_variables b s V h l)
  named_variables (more a b) s T h l = named_variables b s T h l
  named_variables _ s T h l = below-none F n (size T)

  named_enter : (s : Stand) (T : Parts) (p : ℕ) → Has F (enter_loop s T p).rows → Below F n (size T) (size (enter_loop s T p))
  named_enter s T p h =
      let S = with_row T s p (size T) Start in
      below-push F n (size T) S.rows _ h (below-push F n (size T) T.rows _ (Has-push F S.rows _ h) (below-none F n (size T)) (no_name n)) (no_name n)

  named_entries : (s : Stand) (T : Parts) (ss : Tree) (p : ℕ) → Has F (add_entries s T ss p).rows → length (add_entries s T ss p).names ≤ n
      → Below F n (size T) (size (add_entries s T ss p))
  named_entries s T ss p h l =
      let V = add_variables s T ss in
      below-push F n (size T) V.rows _ h (named_variables ss s T (Has-push F V.rows _ h) l) (no_name n)

  named_carry : (s : Stand) (T : Parts) (q p : ℕ) → Has F (carry s T q p).rows → Below F n (size T) (size (carry s T q p))
  named_carry s T q p h =
      let I = with_row T s q (size T) (Carried kind.Int) in
      let B = with_row I s p (size I) (Carried kind.Int) in
      let b = Has-push F B.rows _ h in
      let i = Has-push F I.rows _ b in
      below-push F n (size T) B.rows _ h
      (below-push F n (size T) I.rows _ b (below-push F n (size T) T.rows _ i (below-none F n (size T)) (no_name n)) (no_name n)) (no_name n)

  named_begin : (s : Stand) (T : Parts) (ss : Tree) (p : ℕ) → Has F (begin_loop s T ss p).rows → length (begin_loop s T ss p).names ≤ n
      → Below F n (size T) (size (begin_loop s T ss p))
  named_begin s T ss p h l =
      let H = enter_loop s T p in
      below-both F n (size T) (size H) (size (begin_loop s T ss p)) (named_enter s T p (Has-entries F (in_loop T) H ss p h))
      (named_entries (in_loop T) H ss p h l)

  named_for : (s : Stand) (T : Parts) (ss : Tree) (q p : ℕ) → Has F (begin_for s T ss q p).rows → length (begin_for s T ss q p).names ≤ n
      → Below F n (size T) (size (begin_for s T ss q p))
  named_for s T ss q p h l =
      let H = enter_loop s T p in
      let K = carrying s T q p in
      let E = all_entries s T ss q p in
      let W = within_for s T ss q p in
      let w = Has-push F W.rows _ h in
      let e = Has-push F E.rows _ w in
      let k = Has-entries F (in_loop T) K ss p e in
      let entries = below-both F n (size T) (size H) (size E) (named_enter s T p (Has-carry F (in_loop T) H q p k))
      (below-both F n (size H) (size K) (size E) (named_carry (in_loop T) H q p k) (named_entries (in_loop T) K ss p e l)) in
      below-push F n (size T) W.rows _ h (below-push F n (size T) E.rows _ w entries (no_name n)) (no_name n)

  -- the rows that begin the body of a `for`, of which the last has the name of its index
  named_counting : (s : Stand) (T : Parts) (x : List ℕ) (q p : ℕ) → Has F (begin_counting s T x q p).rows
      → length (begin_counting s T x q p).names ≤ n → Below F n (size T) (size (begin_counting s T x q p))
  named_counting s T x q p h l =
      let C = with_row T s p (size T) Count in
      let B = with_row C s p (size C) Turn in
      let b = Has-push F B.rows _ h in
      let c = Has-push F C.rows _ b in
      let w = number_of-within T.names x in
      below-push F n (size T) B.rows _ h
      (below-push F n (size T) C.rows _ b (below-push F n (size T) T.rows _ c (below-none F n (size T)) (no_name n)) (no_name n))
      (λ y. one_name n (number_of T.names x) y (omega arith))

  named_end : (lo : ℕ) (s o : Stand) (L : Parts) (p f g r : ℕ) → Has F (end_loop s o p f g r (last L) L).rows → Below F n lo (size L)
      → Below F n lo (size (end_loop s o p f g r (last L) L))
  named_end lo s o L p f g r h m =
      let Z = spanned s o L p r g in
      let R = reset o L p r in
      let z = Has-push F Z.rows _ h in
      let y = Has-push F R.rows _ z in
      below-push F n lo Z.rows _ h (below-push F n lo R.rows _ z (below-push F n lo L.rows _ y m (no_name n)) (no_name n)) (no_name n)

  mutual
    named : (t : Tree) (s : Stand) (T : Parts) → Has F (add s T t).rows → length (add s T t).names ≤ n → Below F n (size T) (size (add s T t))
    named (literal v p) s T h l = below-push F n (size T) T.rows _ h (below-none F n (size T)) (no_name n)
    named (name x p) s T h l =
        let w = number_of-within T.names x in
        below-push F n (size T) T.rows _ h (below-none F n (size T)) (λ y. one_name n (number_of T.names x) y (omega arith))
    named (param x k p) s T h l =
        let w = number_of-within T.names x in
        below-push F n (size T) T.rows _ h (below-none F n (size T)) (λ y. one_name n (number_of T.names x) y (omega arith))
    named (unary o a p) s T h l =
        let U = add s T a in
        below-push F n (size T) U.rows _ h (named a s T (Has-push F U.rows _ h) l) (no_name n)
    named (binding x a p) s T h l =
        let U = add s T a in
        let w = number_of-within U.names x in
        let m = with_name-longer U.names x in
        below-push F n (size T) U.rows _ h (named a s T (Has-push F U.rows _ h) (omega arith)) (λ y. one_name n (number_of U.names x) y (omega arith))
    named (binary o a b p) s T h l =
        let U = add s T a in
        let V = add s U b in
        let g = Has-push F V.rows _ h in
        let m = names-longer b s U in
        below-push F n (size T) V.rows _ h (below-both F n (size T) (size U) (size V) (named a s T (Has-add F b s U g) (omega arith)) (named b s U g l))
        (no_name n)
    named (conditional t x y p) s T h l =
        let U = add s T t in
        let u = size U in
        let S = with_row U s p (size T) (Split (last U)) in
        let X = add (arm s u true) S x in
        let Y = add (arm s u false) X y in
        let g = Has-push F Y.rows _ h in
        let f = Has-add F y (arm s u false) X g in
        let e = Has-add F x (arm s u true) S f in
        let m = names-longer x (arm s u true) S in
        let q = names-longer y (arm s u false) X in
        below-push F n (size T) Y.rows _ h
        (below-both F n (size T) (size X) (size Y)
        (below-both F n (size T) (size S) (size X)
        (below-push F n (size T) U.rows _ e (named t s T (Has-push F U.rows _ e) (omega arith)) (no_name n))
        (named x (arm s u true) S f (omega arith)))
        (named y (arm s u false) X g l))
        (no_name n)
    named (call x a p) s T h l =
        let e = size T in
        let E = entered s T x p in
        let U = add_arguments s p e 0 E a in
        let g = Has-push F U.rows _ h in
        let w = number_of-within T.names x in
        let m = arguments-longer a s p e 0 E in
        below-push F n e U.rows _ h
        (below-both F n e (size E) (size U)
        (below-push F n e T.rows _ (Has-arguments F a s p e 0 E g) (below-none F n e) (λ y. one_name n (number_of T.names x) y (omega arith)))
        (named_arguments a s p e 0 E g l))
        (no_name n)
    named (block a b p) s T h l =
        let U = add s T a in
        let V = add s U b in
        let g = Has-push F V.rows _ h in
        let m = names-longer b s U in
        below-push F n (size T) V.rows _ h (below-both F n (size T) (size U) (size V) (named a s T (Has-add F b s U g) (omega arith)) (named b s U g l))
        (no_name n)
    named (array nested a b p) s T h l =
        let U = add s T a in
        let V = add s U b in
        let g = Has-push F V.rows _ h in
        let m = names-longer b s U in
        below-push F n (size T) V.rows _ h (below-both F n (size T) (size U) (size V) (named a s T (Has-add F b s U g) (omega arith)) (named b s U g l))
        (no_name n)
    named (fetch a b p) s T h l =
        let U = add s T a in
        let V = add s U b in
        let g = Has-push F V.rows _ h in
        let m = names-longer b s U in
        below-push F n (size T) V.rows _ h (below-both F n (size T) (size U) (size V) (named a s T (Has-add F b s U g) (omega arith)) (named b s U g l))
        (no_name n)
    named (store t i a p) s T h l =
        let U = add s T t in
        let V = add s U i in
        let A = addressed s T t i p in
        let W = add s A a in
        let g = Has-push F W.rows _ h in
        let f = Has-add F a s A g in
        let e = Has-push F V.rows _ f in
        let m = names-longer i s U in
        let q = names-longer a s A in
        let front = below-both F n (size T) (size U) (size V) (named t s T (Has-add F i s U e) (omega arith)) (named i s U e (omega arith)) in
        below-push F n (size T) W.rows _ h
        (below-both F n (size T) (size A) (size W) (below-push F n (size T) V.rows _ f front (no_name n)) (named a s A g l))
        (no_name n)
    named (loop t ss l p) s T h z =
        let E = begin_loop s T ss p in
        let U = tested s T t ss p in
        let W = switched s T t ss p in
        let B = opened s T t ss p in
        let N = stated s T t ss p in
        let C = closed s T t ss p in
        let L = left_by s T t ss l p in
        let y = in_side s T t ss p false in
        let m = Has-end F s y L p (size T) (size T) (size C) h in
        let c = Has-add F l y C m in
        let v = Has-push F N.rows _ c in
        let o = Has-nexts F ss (in_side s T t ss p true) 0 B v in
        let w = Has-push F W.rows _ o in
        let u = Has-push F U.rows _ w in
        let a = names-longer t (in_loop T) E in
        let b = nexts-longer ss (in_side s T t ss p true) 0 B in
        let d = names-longer l y C in
        let front = below-both F n (size T) (size E) (size U) (named_begin s T ss p (Has-add F t (in_loop T) E u) (omega arith))
        (named t (in_loop T) E u (omega arith)) in
        let middle = below-both F n (size T) (size B) (size N)
        (below-push F n (size T) W.rows _ o (below-push F n (size T) U.rows _ w front (no_name n)) (no_name n))
        (named_nexts ss (in_side s T t ss p true) 0 B v (omega arith)) in
        let all = below-both F n (size T) (size C) (size L) (below-push F n (size T) N.rows _ c middle (no_name n)) (named l y C m z) in
        named_end (size T) s y L p (size T) (size T) (size C) h all
    named (for_loop x q a b ss l p) s T h z =
        let U = add s T a in
        let V = add s U b in
        let A = bounded s T a b p in
        let W = begin_for s A ss q p in
        let I = indexed s A x q ss p in
        let N = for_stated s A x q ss p in
        let C = for_closed s A x q ss p in
        let L = for_left_by s A x q ss l p in
        let y = for_side s A ss q p true in
        let o = for_side s A ss q p false in
        let m = Has-end F s o L p (size T) (size A) (size C) h in
        let c = Has-add F l o C m in
        let v = Has-push F N.rows _ c in
        let i = Has-nexts F ss y 3 I v in
        let w = Has-counting F y W x q p i in
        let k = Has-for F s A ss q p w in
        let u = Has-push F V.rows _ k in
        let e = names-longer b s U in
        let f = variables-longer ss (in_loop A) (carrying s A q p) in
        let g = with_name-longer W.names x in
        let j = nexts-longer ss y 3 I in
        let d = names-longer l o C in
        let bounds = below-push F n (size T) V.rows _ k
        (below-both F n (size T) (size U) (size V) (named a s T (Has-add F b s U u) (omega arith)) (named b s U u (omega arith))) (no_name n) in
        let front = below-both F n (size T) (size W) (size I)
        (below-both F n (size T) (size A) (size W) bounds (named_for s A ss q p w (omega arith))) (named_counting y W x q p i (omega arith)) in
        let middle = below-push F n (size T) N.rows _ c (below-both F n (size T) (size I) (size N) front (named_nexts ss y 3 I v (omega arith))) (no_name n) in
        named_end (size T) s o L p (size T) (size A) (size C) h (below-both F n (size T) (size C) (size L) middle (named l o C m z))
    named (next x a p) s T h l =
        let U = add s T a in
        let w = number_of-within U.names x in
        let m = with_name-longer U.names x in
        below-push F n (size T) U.rows _ h (named a s T (Has-push F U.rows _ h) (omega arith)) (λ y. one_name n (number_of U.names x) y (omega arith))
    named (define x a k b p) s T h l =
        let w = in_top (size T) in
        let H = with_row T w p (size T) Head in
        let U = add w H a in
        let V = add w U b in
        let g = Has-push F V.rows _ h in
        let start = Has-add F b w U g in
        let m = names-longer b w U in
        let q = with_name-longer V.names x in
        let z = number_of-within V.names x in
        below-push F n (size T) V.rows _ h
        (below-both F n (size T) (size U) (size V)
        (below-both F n (size T) (size H) (size U)
        (below-push F n (size T) T.rows _ (Has-add F a w H start) (below-none F n (size T)) (no_name n))
        (named a w H start (omega arith)))
        (named b w U g (omega arith)))
        (λ y. one_name n (number_of V.names x) y (omega arith))
    named none s T h l = below-none F n (size T)
    named (more a b) s T h l =
        let U = add s T a in
        let m = names-longer b s U in
        below-both F n (size T) (size U) (size (add s U b)) (named a s T (Has-add F b s U h) (omega arith)) (named b s U h l)

    named_arguments : (t : Tree) (s : Stand) (p e i : ℕ) (T : Parts) → Has F (add_arguments s p e i T t).rows → length (add_arguments s p e i T t).names ≤ n
        → Below F n (size T) (size (add_arguments s p e i T t))
    named_arguments (more a b) s p e i T h l =
        let U = add s T a in
        let A = argued s p e i U in
        let g = Has-arguments F b s p e (suc i) A h in
        let m = arguments-longer b s p e (suc i) A in
        below-both F n (size T) (size A) (size (add_arguments s p e (suc i) A b))
        (below-push F n (size T) U.rows _ g (named a s T (Has-push F U.rows _ g) (omega arith)) (no_name n))
        (named_arguments b s p e (suc i) A h l)
    named_arguments _ s p e i T h l = below-none F n (size T)

    named_nexts : (t : Tree) (s : Stand) (i : ℕ) (T : Parts) → Has F (add_nexts s i T t).rows → length (add_nexts s i T t).names ≤ n
        → Below F n (size T) (size (add_nexts s i T t))
    named_nexts (more (next x a p) b) s i T h l =
        let N = used s T x p in
        let U = add s N a in
        let V = nexted s i T x a p in
        let g = Has-nexts F b s (suc i) V h in
        let k = Has-push F U.rows _ g in
        let w = number_of-within T.names x in
        let q = names-longer a s N in
        let m = nexts-longer b s (suc i) V in
        let own : (y : ℕ) → Some (number_of T.names x) ≡ Some y → y < n = λ y. one_name n (number_of T.names x) y (omega arith) in
        below-both F n (size T) (size V) (size (add_nexts s (suc i) V b))
        (below-push F n (size T) U.rows _ g
        (below-both F n (size T) (size N) (size U) (below-push F n (size T) T.rows _ (Has-add F a s N k) (below-none F n (size T)) own)
        (named a s N k (omega arith)))
        own)
        (named_nexts b s (suc i) V h l)
    named_nexts (more a b) s i T h l =
        let U = add s T a in
        let m = nexts-longer b s i U in
        below-both F n (size T) (size U) (size (add_nexts s i U b)) (named a s T (Has-nexts F b s i U h) (omega arith)) (named_nexts b s i U h l)
    named_nexts _ s i T h l = below-none F n (size T)

-- each number of a name in a table is that of one of its names
pub AreNamed-parts_of : (t : Tree) → AreNamed (rows_of t) (parts_of t).names
AreNamed-parts_of t =
    let start : Parts = record { rows = []; names = first_names } in
    let T = add (in_top 0) start t in
    let F = rows_of t in
    let n = length (parts_of t).names in
    record {
      each = λ i x b e.
          below-push F n 0 T.rows _ (Has-itself F) (named F n t (in_top 0) start (Has-push F T.rows _ (Has-itself F)) (omega arith)) (no_name n) i x
          (omega arith) b e;
    }
