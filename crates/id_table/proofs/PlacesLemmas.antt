-- The places of the things of a table are those of its tree, and they differ.
use Rattle.std.proofs.Common.{◌≡◌, ◌⊎◌, inl, inr, ◌<◌, ◌≤◌, ℕ, suc, true, false, List, [], ◌∷◌, ◌++◌, length, refl, sym, ap, ◌∙◌, subst, arith}
use Rattle.std.proofs.lemmas.Bool.{cases_lt, false≢true}
use Rattle.id_grammar.specs.Tree.{Tree, literal, unary, binary, name, conditional, call, block, loop, for_loop, array, fetch, binding, next, store, param}
use Rattle.id_grammar.specs.Tree.{define, none, more}
use Rattle.id_tree.specs.Distinct.{Apart, Distinct, HasPlace}
use Rattle.id_table.specs.declared.row.Row.{Row}
use Rattle.id_table.specs.declared.row.Stand.{Stand}
use Rattle.id_table.specs.declared.row.Node.TheVariants.{Carried, Count, Head, Split, Enter, NextUse, Program, Start, Turn, Variable}
use Rattle.id_value.specs.declared.Kind.TheVariants as kind
use Rattle.id_table.specs.Names.{first_names, number_of}
use Rattle.id_table.specs.Rows.{Parts, add, add_arguments, add_entries, add_nexts, add_variables, arm, at, begin_for, begin_loop, carry, enter_loop}
use Rattle.id_table.specs.Rows.{in_top, last, rows_of, size, with_row}
use Rattle.id_table.specs.Tables.{AreApart, is_thing}
use Rattle.id_table.proofs.HasLemmas.{Has, Has-add, Has-arguments, Has-itself, Has-nexts}
use Rattle.id_table.proofs.HasLemmas.{Has-push, Has-variables, addressed, argued, at-push, entered, push-size, row_for}
use Rattle.id_table.proofs.HasLemmas.{Has-carry, Has-end, Has-entries, Has-for, all_entries, bounded, carrying, closed, for_closed, for_left_by}
use Rattle.id_table.proofs.HasLemmas.{for_side, for_stated, in_loop, in_side, indexed, left_by, nexted, opened, reset, spanned, stated, switched, tested}
use Rattle.id_table.proofs.HasLemmas.{used, within_for}

pub add-longer : (t : Tree) (s : Stand) (T : Parts) → size T ≤ size (add s T t)
add-longer t s T = (Has-add (add s T t).rows t s T (Has-itself (add s T t).rows)).within

module _ (F : List Row) where
  -- the places of the things from lo up to hi are such
  abbrev Placed : ℕ → ℕ → (ℕ → Type 0) → Type 0
  Placed lo hi P = (i : ℕ) → lo ≤ i → i < hi → is_thing (at F i).node ≡ true → P (at F i).place

  -- the places of the things from lo up to hi differ
  abbrev Differ : ℕ → ℕ → Type 0
  Differ lo hi = (i j : ℕ) → lo ≤ i → i < hi → lo ≤ j → j < hi → is_thing (at F i).node ≡ true → is_thing (at F j).node ≡ true
      → (at F i).place ≡ (at F j).place → i ≡ j

  placed-leaf : (R : List Row) (r : Row) → Has F (R ++ r ∷ []) → Placed (length R) (length (R ++ r ∷ [])) (λ q. r.place ≡ q)
  placed-leaf R r h i b c t =
      let e = push-size R r in
      let z : length R ≡ i = omega arith in
      ap (λ (x : Row). x.place) (sym (at-push F R r h)) ∙ ap (λ k. (at F k).place) z

  placed-push : (lo : ℕ) (P : ℕ → Type 0) (R : List Row) (r : Row) → Has F (R ++ r ∷ []) → Placed lo (length R) P
      → Placed lo (length (R ++ r ∷ [])) (λ q. (r.place ≡ q) ⊎ P q)
  placed-push lo P R r h f i b c t = elim (cases_lt i (length R)) [ inl l ↦ inr (f i b l t) | inr l ↦ inl (placed-leaf R r h i l c t) ]

  placed-both : (lo mid hi : ℕ) (P Q : ℕ → Type 0) → Placed lo mid P → Placed mid hi Q → Placed lo hi (λ q. P q ⊎ Q q)
  placed-both lo mid hi P Q f g i b c t = elim (cases_lt i mid) [ inl l ↦ inl (f i b l t) | inr l ↦ inr (g i l c t) ]

  -- no thing stands at a marker
  no_thing : (R : List Row) (r : Row) (i : ℕ) → Has F (R ++ r ∷ []) → is_thing r.node ≡ false → length R ≤ i → i < suc (length R)
      → is_thing (at F i).node ≡ true → ⊥
  no_thing R r i h e b c t =
      let z : length R ≡ i = omega arith in
      false≢true (sym e ∙ sym (ap (λ (x : Row). is_thing x.node) (at-push F R r h)) ∙ ap (λ k. is_thing (at F k).node) z ∙ t)

  placed-mark : (lo : ℕ) (P : ℕ → Type 0) (R : List Row) (r : Row) → Has F (R ++ r ∷ []) → is_thing r.node ≡ false → Placed lo (length R) P
      → Placed lo (length (R ++ r ∷ [])) P
  placed-mark lo P R r h e f i b c t = let q = push-size R r in elim (cases_lt i (length R)) [
    | inl l ↦ f i b l t
    | inr l ↦ absurd (no_thing R r i h e l (omega arith) t)
  ]

  -- behind a marker
  placed-behind : (P : ℕ → Type 0) (R : List Row) (r : Row) (hi : ℕ) → Has F (R ++ r ∷ []) → is_thing r.node ≡ false → Placed (length (R ++ r ∷ [])) hi P
      → Placed (length R) hi P
  placed-behind P R r hi h e f i b c t = let q = push-size R r in elim (cases_lt i (length (R ++ r ∷ []))) [
    | inl l ↦ absurd (no_thing R r i h e b (omega arith) t)
    | inr l ↦ f i l c t
  ]

  -- no thing stands in the rows from lo up to hi
  abbrev Bare : ℕ → ℕ → Type 0
  Bare lo hi = (i : ℕ) → lo ≤ i → i < hi → is_thing (at F i).node ≡ true → ⊥

  bare-push : (lo : ℕ) (R : List Row) (r : Row) → Has F (R ++ r ∷ []) → is_thing r.node ≡ false → Bare lo (length R) → Bare lo (length (R ++ r ∷ []))
  bare-push lo R r h e f i b c t = let q = push-size R r in elim (cases_lt i (length R)) [
    | inl l ↦ f i b l t
    | inr l ↦ no_thing R r i h e l (omega arith) t
  ]

  bare-both : (lo mid hi : ℕ) → Bare lo mid → Bare mid hi → Bare lo hi
  bare-both lo mid hi f g i b c t = elim (cases_lt i mid) [ inl l ↦ f i b l t | inr l ↦ g i l c t ]

  bare-none : (lo : ℕ) → Bare lo lo
  bare-none lo i b c t = omega arith

  bare-variables : (t : Tree) (s : Stand) (T : Parts) → Has F (add_variables s T t).rows → Bare (size T) (size (add_variables s T t))
  bare-variables (more (next x a p) b) s T h =
      let V = with_row T s p (size T) Variable in
      bare-both (size T) (size V) (size (add_variables s V b)) (bare-push (size T) T.rows _ (Has-variables F b s V h) refl (bare-none (size T)))
      (bare-variables b s V h)
  bare-variables (more a b) s T h = bare-variables b s T h
  bare-variables _ s T h = bare-none (size T)

  bare-enter : (s : Stand) (T : Parts) (p : ℕ) → Has F (enter_loop s T p).rows → Bare (size T) (size (enter_loop s T p))
  bare-enter s T p h =
      let S = with_row T s p (size T) Start in
      bare-push (size T) S.rows _ h refl (bare-push (size T) T.rows _ (Has-push F S.rows _ h) refl (bare-none (size T)))

  bare-entries : (s : Stand) (T : Parts) (ss : Tree) (p : ℕ) → Has F (add_entries s T ss p).rows → Bare (size T) (size (add_entries s T ss p))
  bare-entries s T ss p h =
      let V = add_variables s T ss in
      bare-push (size T) V.rows _ h refl (bare-variables ss s T (Has-push F V.rows _ h))

  bare-carry : (s : Stand) (T : Parts) (q p : ℕ) → Has F (carry s T q p).rows → Bare (size T) (size (carry s T q p))
  bare-carry s T q p h =
      let I = with_row T s q (size T) (Carried kind.Int) in
      let B = with_row I s p (size I) (Carried kind.Int) in
      let b = Has-push F B.rows _ h in
      bare-push (size T) B.rows _ h refl
      (bare-push (size T) I.rows _ b refl (bare-push (size T) T.rows _ (Has-push F I.rows _ b) refl (bare-none (size T))))

  bare-begin : (s : Stand) (T : Parts) (ss : Tree) (p : ℕ) → Has F (begin_loop s T ss p).rows → Bare (size T) (size (begin_loop s T ss p))
  bare-begin s T ss p h =
      let H = enter_loop s T p in
      bare-both (size T) (size H) (size (begin_loop s T ss p)) (bare-enter s T p (Has-entries F (in_loop T) H ss p h))
      (bare-entries (in_loop T) H ss p h)

  bare-for : (s : Stand) (T : Parts) (ss : Tree) (q p : ℕ) → Has F (begin_for s T ss q p).rows → Bare (size T) (size (begin_for s T ss q p))
  bare-for s T ss q p h =
      let H = enter_loop s T p in
      let K = carrying s T q p in
      let E = all_entries s T ss q p in
      let W = within_for s T ss q p in
      let w = Has-push F W.rows _ h in
      let e = Has-push F E.rows _ w in
      let k = Has-entries F (in_loop T) K ss p e in
      bare-push (size T) W.rows _ h refl
      (bare-push (size T) E.rows _ w refl
      (bare-both (size T) (size H) (size E) (bare-enter s T p (Has-carry F (in_loop T) H q p k))
      (bare-both (size H) (size K) (size E) (bare-carry (in_loop T) H q p k) (bare-entries (in_loop T) K ss p e))))

  -- behind rows where none stands
  placed-bare : (lo mid hi : ℕ) (P : ℕ → Type 0) → Bare lo mid → Placed mid hi P → Placed lo hi P
  placed-bare lo mid hi P f g i b c t = elim (cases_lt i mid) [ inl l ↦ absurd (f i b l t) | inr l ↦ g i l c t ]

  -- and before them
  placed-front : (lo mid hi : ℕ) (P : ℕ → Type 0) → Placed lo mid P → Bare mid hi → Placed lo hi P
  placed-front lo mid hi P g f i b c t = elim (cases_lt i mid) [ inl l ↦ g i b l t | inr l ↦ absurd (f i l c t) ]

  -- the markers behind a loop's last expression
  placed-end : (lo : ℕ) (P : ℕ → Type 0) (s o : Stand) (L : Parts) (p r g : ℕ) → Has F (spanned s o L p r g).rows → Placed lo (size L) P
      → Placed lo (size (spanned s o L p r g)) P
  placed-end lo P s o L p r g h f =
      let R = reset o L p r in
      let y = Has-push F R.rows _ h in
      placed-mark lo P R.rows _ h refl (placed-mark lo P L.rows _ y refl f)

  -- the places of the things in a `for` before its statements: those of its index and its bounds
  abbrev FrontPlace : ℕ → Tree → Tree → ℕ → Type 0
  FrontPlace q a b r = (q ≡ r) ⊎ (HasPlace a r ⊎ HasPlace b r)

  -- the rows of a `for` that count
  abbrev counted : Stand → Parts → ℕ → Tree → ℕ → Parts
  counted s A q ss p = let W = begin_for s A ss q p in with_row W (for_side s A ss q p true) p (size W) Count

  abbrev turned_for : Stand → Parts → ℕ → Tree → ℕ → Parts
  turned_for s A q ss p = let C = counted s A q ss p in with_row C (for_side s A ss q p true) p (size C) Turn

  bare-turned : (s : Stand) (A : Parts) (q : ℕ) (ss : Tree) (p : ℕ) → Has F (turned_for s A q ss p).rows
      → (Has F A.rows) × Bare (size A) (size (turned_for s A q ss p))
  bare-turned s A q ss p h =
      let C = counted s A q ss p in
      let W = begin_for s A ss q p in
      let c = Has-push F C.rows _ h in
      let w = Has-push F W.rows _ c in
      (Has-for F s A ss q p w, bare-push (size A) C.rows _ h refl (bare-push (size A) W.rows _ c refl (bare-for s A ss q p w)))

  placed-bounds : (s : Stand) (T : Parts) (a b : Tree) (q : ℕ) (ss : Tree) (p : ℕ) → Has F (turned_for s (bounded s T a b p) q ss p).rows
      → Placed (size T) (size (add s T a)) (HasPlace a) → Placed (size (add s T a)) (size (add s (add s T a) b)) (HasPlace b)
      → Placed (size T) (size (turned_for s (bounded s T a b p) q ss p)) (λ r. HasPlace a r ⊎ HasPlace b r)
  placed-bounds s T a b q ss p h f g =
      let U = add s T a in
      let V = add s U b in
      let A = bounded s T a b p in
      let z = bare-turned s A q ss p h in
      placed-front (size T) (size A) (size (turned_for s A q ss p)) (λ r. HasPlace a r ⊎ HasPlace b r)
      (placed-mark (size T) (λ r. HasPlace a r ⊎ HasPlace b r) V.rows _ z.0 refl
      (placed-both (size T) (size U) (size V) (HasPlace a) (HasPlace b) f g)) z.1

  placed-indexed : (s : Stand) (T : Parts) (a b : Tree) (x : List ℕ) (q : ℕ) (ss : Tree) (p : ℕ) → Has F (indexed s (bounded s T a b p) x q ss p).rows
      → Placed (size T) (size (add s T a)) (HasPlace a) → Placed (size (add s T a)) (size (add s (add s T a) b)) (HasPlace b)
      → Placed (size T) (size (indexed s (bounded s T a b p) x q ss p)) (FrontPlace q a b)
  placed-indexed s T a b x q ss p h f g =
      let B = turned_for s (bounded s T a b p) q ss p in
      placed-push (size T) (λ r. HasPlace a r ⊎ HasPlace b r) B.rows _ h (placed-bounds s T a b q ss p (Has-push F B.rows _ h) f g)

  mutual
    placed : (t : Tree) (s : Stand) (T : Parts) → Has F (add s T t).rows → Placed (size T) (size (add s T t)) (HasPlace t)
    placed (literal v p) s T h = placed-leaf T.rows _ h
    placed (name x p) s T h = placed-leaf T.rows _ h
    placed (param x k p) s T h = placed-leaf T.rows _ h
    placed (unary o a p) s T h = let U = add s T a in placed-push (size T) (HasPlace a) U.rows _ h (placed a s T (Has-push F U.rows _ h))
    placed (binding x a p) s T h = let U = add s T a in placed-push (size T) (HasPlace a) U.rows _ h (placed a s T (Has-push F U.rows _ h))
    placed (binary o a b p) s T h =
        let U = add s T a in
        let V = add s U b in
        let g = Has-push F V.rows _ h in
        placed-push (size T) (λ q. HasPlace a q ⊎ HasPlace b q) V.rows _ h
        (placed-both (size T) (size U) (size V) (HasPlace a) (HasPlace b) (placed a s T (Has-add F b s U g)) (placed b s U g))
    placed (conditional t x y p) s T h =
        let U = add s T t in
        let n = size U in
        let S = with_row U s p (size T) (Split (last U)) in
        let X = add (arm s n true) S x in
        let Y = add (arm s n false) X y in
        let g = Has-push F Y.rows _ h in
        let f = Has-add F y (arm s n false) X g in
        let e = Has-add F x (arm s n true) S f in
        placed-push (size T) (λ q. HasPlace t q ⊎ (HasPlace x q ⊎ HasPlace y q)) Y.rows _ h
        (placed-both (size T) (size S) (size Y) (HasPlace t) (λ q. HasPlace x q ⊎ HasPlace y q)
        (placed-mark (size T) (HasPlace t) U.rows _ e refl (placed t s T (Has-push F U.rows _ e)))
        (placed-both (size S) (size X) (size Y) (HasPlace x) (HasPlace y) (placed x (arm s n true) S f) (placed y (arm s n false) X g)))
    placed (call x a p) s T h =
        let e = size T in
        let E = entered s T x p in
        let U = add_arguments s p e 0 E a in
        let g = Has-push F U.rows _ h in
        let r = row_for T.rows s p e (Enter (number_of T.names x)) in
        placed-push e (HasPlace a) U.rows _ h
        (placed-behind (HasPlace a) T.rows r (size U) (Has-arguments F a s p e 0 E g) refl (placed_arguments a s p e 0 E g))
    placed (block a b p) s T h =
        let U = add s T a in
        let V = add s U b in
        let g = Has-push F V.rows _ h in
        placed-push (size T) (λ q. HasPlace a q ⊎ HasPlace b q) V.rows _ h
        (placed-both (size T) (size U) (size V) (HasPlace a) (HasPlace b) (placed a s T (Has-add F b s U g)) (placed b s U g))
    placed (array nested a b p) s T h =
        let U = add s T a in
        let V = add s U b in
        let g = Has-push F V.rows _ h in
        placed-push (size T) (λ q. HasPlace a q ⊎ HasPlace b q) V.rows _ h
        (placed-both (size T) (size U) (size V) (HasPlace a) (HasPlace b) (placed a s T (Has-add F b s U g)) (placed b s U g))
    placed (fetch a b p) s T h =
        let U = add s T a in
        let V = add s U b in
        let g = Has-push F V.rows _ h in
        placed-push (size T) (λ q. HasPlace a q ⊎ HasPlace b q) V.rows _ h
        (placed-both (size T) (size U) (size V) (HasPlace a) (HasPlace b) (placed a s T (Has-add F b s U g)) (placed b s U g))
    placed (store t i a p) s T h =
        let U = add s T t in
        let V = add s U i in
        let A = addressed s T t i p in
        let W = add s A a in
        let g = Has-push F W.rows _ h in
        let f = Has-add F a s A g in
        let e = Has-push F V.rows _ f in
        placed-push (size T) (λ q. HasPlace t q ⊎ (HasPlace i q ⊎ HasPlace a q)) W.rows _ h
        (placed-both (size T) (size U) (size W) (HasPlace t) (λ q. HasPlace i q ⊎ HasPlace a q) (placed t s T (Has-add F i s U e))
        (placed-both (size U) (size A) (size W) (HasPlace i) (HasPlace a) (placed-mark (size U) (HasPlace i) V.rows _ f refl (placed i s U e))
        (placed a s A g)))
    placed (loop t a l p) s T h =
        let E = begin_loop s T a p in
        let U = tested s T t a p in
        let W = switched s T t a p in
        let B = opened s T t a p in
        let N = stated s T t a p in
        let C = closed s T t a p in
        let L = left_by s T t a l p in
        let y = in_side s T t a p false in
        let Z = spanned s y L p (size C) (size T) in
        let z = Has-push F Z.rows _ h in
        let m = Has-end F s y L p (size T) (size T) (size C) h in
        let c = Has-add F l y C m in
        let n = Has-push F N.rows _ c in
        let o = Has-nexts F a (in_side s T t a p true) 0 B n in
        let w = Has-push F W.rows _ o in
        let u = Has-push F U.rows _ w in
        let test = placed-bare (size T) (size E) (size U) (HasPlace t) (bare-begin s T a p (Has-add F t (in_loop T) E u)) (placed t (in_loop T) E u) in
        let front = placed-mark (size T) (HasPlace t) W.rows _ o refl (placed-mark (size T) (HasPlace t) U.rows _ w refl test) in
        let middle = placed-mark (size B) (HasPlace a) N.rows _ c refl (placed_nexts a (in_side s T t a p true) 0 B n) in
        let end = placed-end (size C) (HasPlace l) s y L p (size C) (size T) z (placed l y C m) in
        placed-push (size T) (λ q. HasPlace t q ⊎ (HasPlace a q ⊎ HasPlace l q)) Z.rows _ h
        (placed-both (size T) (size B) (size Z) (HasPlace t) (λ q. HasPlace a q ⊎ HasPlace l q) front
        (placed-both (size B) (size C) (size Z) (HasPlace a) (HasPlace l) middle end))
    placed (for_loop x q a b ss l p) s T h =
        let U = add s T a in
        let V = add s U b in
        let A = bounded s T a b p in
        let W = begin_for s A ss q p in
        let B = turned_for s A q ss p in
        let I = indexed s A x q ss p in
        let N = for_stated s A x q ss p in
        let C = for_closed s A x q ss p in
        let L = for_left_by s A x q ss l p in
        let y = for_side s A ss q p true in
        let o = for_side s A ss q p false in
        let Z = spanned s o L p (size C) (size A) in
        let z = Has-push F Z.rows _ h in
        let m = Has-end F s o L p (size T) (size A) (size C) h in
        let c = Has-add F l o C m in
        let n = Has-push F N.rows _ c in
        let i = Has-nexts F ss y 3 I n in
        let k = Has-push F V.rows _ (bare-turned s A q ss p (Has-push F B.rows _ i)).0 in
        let front = placed-indexed s T a b x q ss p i (placed a s T (Has-add F b s U k)) (placed b s U k) in
        let middle = placed-mark (size I) (HasPlace ss) N.rows _ c refl (placed_nexts ss y 3 I n) in
        let end = placed-end (size C) (HasPlace l) s o L p (size C) (size A) z (placed l o C m) in
        let all = placed-push (size T) (λ r. FrontPlace q a b r ⊎ (HasPlace ss r ⊎ HasPlace l r)) Z.rows _ h
        (placed-both (size T) (size I) (size Z) (FrontPlace q a b) (λ r. HasPlace ss r ⊎ HasPlace l r) front
        (placed-both (size I) (size C) (size Z) (HasPlace ss) (HasPlace l) middle end)) in
        λ j e f t. elim (all j e f t) [
          | inl v ↦ inl v
          | inr v ↦ elim v [
            | inl v' ↦ elim v' [ inl g ↦ inr (inl g) | inr g ↦ elim g [ inl g' ↦ inr (inr (inl g')) | inr g' ↦ inr (inr (inr (inl g'))) ] ]
            | inr v' ↦ elim v' [ inl g ↦ inr (inr (inr (inr (inl g)))) | inr g ↦ inr (inr (inr (inr (inr g)))) ]
          ]
        ]
    placed (next x a p) s T h = let U = add s T a in placed-push (size T) (HasPlace a) U.rows _ h (placed a s T (Has-push F U.rows _ h))
    placed (define x a k b p) s T h =
        let n = size T in
        let w = in_top n in
        let H = with_row T w p n Head in
        let U = add w H a in
        let V = add w U b in
        let g = Has-push F V.rows _ h in
        let k = Has-add F b w U g in
        let r = row_for T.rows w p n Head in
        let e = push-size T.rows r in
        let body = placed-both (size H) (size U) (size V) (HasPlace a) (HasPlace b) (placed a w H k) (placed b w U g) in
        placed-push n (λ q. HasPlace a q ⊎ HasPlace b q) V.rows _ h (λ i c d t. elim (cases_lt i (size H)) [
          | inl l ↦ absurd (no_thing T.rows r i (Has-add F a w H k) refl c (omega arith) t)
          | inr l ↦ body i l d t
        ])
    placed none s T h = λ i b c t. absurd (omega arith)
    placed (more a b) s T h =
        let U = add s T a in
        placed-both (size T) (size U) (size (add s U b)) (HasPlace a) (HasPlace b) (placed a s T (Has-add F b s U h)) (placed b s U h)

    placed_arguments : (t : Tree) (s : Stand) (p e i : ℕ) (T : Parts) → Has F (add_arguments s p e i T t).rows
        → Placed (size T) (size (add_arguments s p e i T t)) (HasPlace t)
    placed_arguments (more a b) s p e i T h =
        let U = add s T a in
        let A = argued s p e i U in
        let g = Has-arguments F b s p e (suc i) A h in
        placed-both (size T) (size A) (size (add_arguments s p e (suc i) A b)) (HasPlace a) (HasPlace b)
        (placed-mark (size T) (HasPlace a) U.rows _ g refl (placed a s T (Has-push F U.rows _ g))) (placed_arguments b s p e (suc i) A h)
    placed_arguments _ s p e i T h = λ j b c t. absurd (omega arith)

    placed_nexts : (t : Tree) (s : Stand) (i : ℕ) (T : Parts) → Has F (add_nexts s i T t).rows
        → Placed (size T) (size (add_nexts s i T t)) (HasPlace t)
    placed_nexts (more (next x a p) b) s i T h =
        let N = used s T x p in
        let U = add s N a in
        let V = nexted s i T x a p in
        let g = Has-nexts F b s (suc i) V h in
        let k = Has-push F U.rows _ g in
        let r = row_for T.rows s p (size T) (NextUse (number_of T.names x)) in
        placed-both (size T) (size V) (size (add_nexts s (suc i) V b)) (HasPlace (next x a p)) (HasPlace b)
        (placed-push (size T) (HasPlace a) U.rows _ g (placed-behind (HasPlace a) T.rows r (size U) (Has-add F a s N k) refl (placed a s N k)))
        (placed_nexts b s (suc i) V h)
    placed_nexts (more a b) s i T h =
        let U = add s T a in
        placed-both (size T) (size U) (size (add_nexts s i U b)) (HasPlace a) (HasPlace b) (placed a s T (Has-nexts F b s i U h)) (placed_nexts b s i U h)
    placed_nexts _ s i T h = λ j b c t. absurd (omega arith)

  placed_next : (s : Stand) (i : ℕ) (T : Parts) (x : List ℕ) (a : Tree) (p : ℕ) → Has F (nexted s i T x a p).rows
      → Placed (size T) (size (nexted s i T x a p)) (HasPlace (next x a p))
  placed_next s i T x a p h =
      let N = used s T x p in
      let U = add s N a in
      let r = row_for T.rows s p (size T) (NextUse (number_of T.names x)) in
      let k = Has-push F U.rows _ h in
      placed-push (size T) (HasPlace a) U.rows _ h (placed-behind (HasPlace a) T.rows r (size U) (Has-add F a s N k) refl (placed a s N k))

  differ-none : (lo hi : ℕ) → hi ≤ lo → Differ lo hi
  differ-none lo hi h i j b c d e t u w = absurd (omega arith)

  differ-both : (lo mid hi : ℕ) (P Q : ℕ → Type 0) → Placed lo mid P → Placed mid hi Q → ((q : ℕ) → P q → Q q → ⊥) → Differ lo mid → Differ mid hi
      → Differ lo hi
  differ-both lo mid hi P Q p q apart f g i j b c d e t u w = elim (cases_lt i mid) [
    | inl l ↦ elim (cases_lt j mid) [ inl m ↦ f i j b l d m t u w | inr m ↦ absurd (apart (at F j).place (subst P w (p i b l t)) (q j m e u)) ]
    | inr l ↦ elim (cases_lt j mid) [ inl m ↦ absurd (apart (at F i).place (subst P (sym w) (p j d m u)) (q i l c t)) | inr m ↦ g i j l c m e t u w ]
  ]

  differ-leaf : (R : List Row) (r : Row) → Differ (length R) (length (R ++ r ∷ []))
  differ-leaf R r i j b c d e t u w = let n = push-size R r in omega arith

  differ-push : (lo : ℕ) (P : ℕ → Type 0) (R : List Row) (r : Row) → Has F (R ++ r ∷ []) → Placed lo (length R) P → (P r.place → ⊥) → Differ lo (length R)
      → Differ lo (length (R ++ r ∷ []))
  differ-push lo P R r h f apart g =
      differ-both lo (length R) (length (R ++ r ∷ [])) P (λ q. r.place ≡ q) f (placed-leaf R r h) (λ q x y. apart (subst P (sym y) x)) g (differ-leaf R r)

  differ-mark : (lo : ℕ) (R : List Row) (r : Row) → Has F (R ++ r ∷ []) → is_thing r.node ≡ false → Differ lo (length R) → Differ lo (length (R ++ r ∷ []))
  differ-mark lo R r h e f i j b c b' c' t t' z = let q = push-size R r in elim (cases_lt i (length R)) [
    | inl l ↦ elim (cases_lt j (length R)) [ inl l' ↦ f i j b l b' l' t t' z | inr l' ↦ absurd (no_thing R r j h e l' (omega arith) t') ]
    | inr l ↦ absurd (no_thing R r i h e l (omega arith) t)
  ]

  -- a row behind two parts
  differ-two : (a b : Tree) (s : Stand) (T : Parts) (r : Row) → Has F ((add s (add s T a) b).rows ++ r ∷ []) → (HasPlace a r.place → ⊥)
      → (HasPlace b r.place → ⊥) → Apart a b
      → Differ (size T) (size (add s T a)) → Differ (size (add s T a)) (size (add s (add s T a) b))
      → Differ (size T) (length ((add s (add s T a) b).rows ++ r ∷ []))
  differ-two a b s T r h x y z f g =
      let U = add s T a in
      let V = add s U b in
      let k = Has-push F V.rows r h in
      let left = placed a s T (Has-add F b s U k) in
      let right = placed b s U k in
      differ-push (size T) (λ q. HasPlace a q ⊎ HasPlace b q) V.rows r h (placed-both (size T) (size U) (size V) (HasPlace a) (HasPlace b) left right)
      (λ e. elim e [ inl i ↦ x i | inr i ↦ y i ]) (differ-both (size T) (size U) (size V) (HasPlace a) (HasPlace b) left right z f g)

  -- behind a marker
  differ-behind : (R : List Row) (r : Row) (hi : ℕ) → Has F (R ++ r ∷ []) → is_thing r.node ≡ false → Differ (length (R ++ r ∷ [])) hi
      → Differ (length R) hi
  differ-behind R r hi h e f i j b c b' c' t t' z = let q = push-size R r in elim (cases_lt i (length (R ++ r ∷ []))) [
    | inl l ↦ absurd (no_thing R r i h e b (omega arith) t)
    | inr l ↦ elim (cases_lt j (length (R ++ r ∷ []))) [ inl l' ↦ absurd (no_thing R r j h e b' (omega arith) t') | inr l' ↦ f i j l c l' c' t t' z ]
  ]

  differ-bare : (lo mid hi : ℕ) → Bare lo mid → Differ mid hi → Differ lo hi
  differ-bare lo mid hi f g i j b c d e t u w = elim (cases_lt i mid) [
    | inl l ↦ absurd (f i b l t)
    | inr l ↦ elim (cases_lt j mid) [ inl m ↦ absurd (f j d m u) | inr m ↦ g i j l c m e t u w ]
  ]

  -- and before them
  differ-front : (lo mid hi : ℕ) → Differ lo mid → Bare mid hi → Differ lo hi
  differ-front lo mid hi g f i j b c d e t u w = elim (cases_lt i mid) [
    | inl l ↦ elim (cases_lt j mid) [ inl m ↦ g i j b l d m t u w | inr m ↦ absurd (f j m e u) ]
    | inr l ↦ absurd (f i l c t)
  ]

  differ-end : (lo : ℕ) (s o : Stand) (L : Parts) (p r g : ℕ) → Has F (spanned s o L p r g).rows → Differ lo (size L)
      → Differ lo (size (spanned s o L p r g))
  differ-end lo s o L p r g h f =
      let R = reset o L p r in
      let y = Has-push F R.rows _ h in
      differ-mark lo R.rows _ h refl (differ-mark lo L.rows _ y refl f)

  mutual
    differ : (t : Tree) (s : Stand) (T : Parts) → Has F (add s T t).rows → Distinct t → Differ (size T) (size (add s T t))
    differ (literal v p) s T h d = differ-leaf T.rows _
    differ (name x p) s T h d = differ-leaf T.rows _
    differ (param x k p) s T h d = differ-leaf T.rows _
    differ (unary o a p) s T h d =
        let U = add s T a in
        let g = Has-push F U.rows _ h in
        differ-push (size T) (HasPlace a) U.rows _ h (placed a s T g) d.0 (differ a s T g d.1)
    differ (binding x a p) s T h d =
        let U = add s T a in
        let g = Has-push F U.rows _ h in
        differ-push (size T) (HasPlace a) U.rows _ h (placed a s T g) d.0 (differ a s T g d.1)
    differ (binary o a b p) s T h d =
        let U = add s T a in
        let V = add s U b in
        let k = Has-push F V.rows _ h in
        differ-two a b s T _ h d.0 d.1 d.2 (differ a s T (Has-add F b s U k) d.3) (differ b s U k d.4)
    differ (conditional t x y p) s T h d =
        let U = add s T t in
        let n = size U in
        let S = with_row U s p (size T) (Split (last U)) in
        let X = add (arm s n true) S x in
        let Y = add (arm s n false) X y in
        let g = Has-push F Y.rows _ h in
        let f = Has-add F y (arm s n false) X g in
        let e = Has-add F x (arm s n true) S f in
        let k = Has-push F U.rows _ e in
        let front = placed-mark (size T) (HasPlace t) U.rows _ e refl (placed t s T k) in
        let then = placed x (arm s n true) S f in
        let otherwise = placed y (arm s n false) X g in
        let arms = placed-both (size S) (size X) (size Y) (HasPlace x) (HasPlace y) then otherwise in
        differ-push (size T) (λ q. HasPlace t q ⊎ (HasPlace x q ⊎ HasPlace y q)) Y.rows _ h
        (placed-both (size T) (size S) (size Y) (HasPlace t) (λ q. HasPlace x q ⊎ HasPlace y q) front arms)
        (λ z. elim z [ inl i ↦ d.0 i | inr z' ↦ elim z' [ inl i ↦ d.1 i | inr i ↦ d.2 i ] ])
        (differ-both (size T) (size S) (size Y) (HasPlace t) (λ q. HasPlace x q ⊎ HasPlace y q) front arms
        (λ q i z. elim z [ inl j ↦ d.3 q i j | inr j ↦ d.4 q i j ])
        (differ-mark (size T) U.rows _ e refl (differ t s T k d.6))
        (differ-both (size S) (size X) (size Y) (HasPlace x) (HasPlace y) then otherwise d.5 (differ x (arm s n true) S f d.7)
        (differ y (arm s n false) X g d.8)))
    differ (call x a p) s T h d =
        let e = size T in
        let E = entered s T x p in
        let U = add_arguments s p e 0 E a in
        let g = Has-push F U.rows _ h in
        let r = row_for T.rows s p e (Enter (number_of T.names x)) in
        let k = Has-arguments F a s p e 0 E g in
        differ-push e (HasPlace a) U.rows _ h (placed-behind (HasPlace a) T.rows r (size U) k refl (placed_arguments a s p e 0 E g)) d.0
        (differ-behind T.rows r (size U) k refl (differ_arguments a s p e 0 E g d.1))
    differ (block a b p) s T h d =
        let U = add s T a in
        let V = add s U b in
        let k = Has-push F V.rows _ h in
        differ-two a b s T _ h d.0 d.1 d.2 (differ a s T (Has-add F b s U k) d.3) (differ b s U k d.4)
    differ (array nested a b p) s T h d =
        let U = add s T a in
        let V = add s U b in
        let k = Has-push F V.rows _ h in
        differ-two a b s T _ h d.0 d.1 d.2 (differ a s T (Has-add F b s U k) d.3) (differ b s U k d.4)
    differ (fetch a b p) s T h d =
        let U = add s T a in
        let V = add s U b in
        let k = Has-push F V.rows _ h in
        differ-two a b s T _ h d.0 d.1 d.2 (differ a s T (Has-add F b s U k) d.3) (differ b s U k d.4)
    differ (store t i a p) s T h d =
        let U = add s T t in
        let V = add s U i in
        let A = addressed s T t i p in
        let W = add s A a in
        let g = Has-push F W.rows _ h in
        let f = Has-add F a s A g in
        let e = Has-push F V.rows _ f in
        let k = Has-add F i s U e in
        let target = placed t s T k in
        let index = placed-mark (size U) (HasPlace i) V.rows _ f refl (placed i s U e) in
        let value = placed a s A g in
        let rest = placed-both (size U) (size A) (size W) (HasPlace i) (HasPlace a) index value in
        differ-push (size T) (λ q. HasPlace t q ⊎ (HasPlace i q ⊎ HasPlace a q)) W.rows _ h
        (placed-both (size T) (size U) (size W) (HasPlace t) (λ q. HasPlace i q ⊎ HasPlace a q) target rest)
        (λ z. elim z [ inl y ↦ d.0 y | inr z' ↦ elim z' [ inl y ↦ d.1 y | inr y ↦ d.2 y ] ])
        (differ-both (size T) (size U) (size W) (HasPlace t) (λ q. HasPlace i q ⊎ HasPlace a q) target rest
        (λ q y z. elim z [ inl j ↦ d.3 q y j | inr j ↦ d.4 q y j ]) (differ t s T k d.6)
        (differ-both (size U) (size A) (size W) (HasPlace i) (HasPlace a) index value d.5
        (differ-mark (size U) V.rows _ f refl (differ i s U e d.7)) (differ a s A g d.8)))
    differ (loop t a l p) s T h d =
        let E = begin_loop s T a p in
        let U = tested s T t a p in
        let W = switched s T t a p in
        let B = opened s T t a p in
        let N = stated s T t a p in
        let C = closed s T t a p in
        let L = left_by s T t a l p in
        let y = in_side s T t a p false in
        let Z = spanned s y L p (size C) (size T) in
        let z = Has-push F Z.rows _ h in
        let m = Has-end F s y L p (size T) (size T) (size C) h in
        let c = Has-add F l y C m in
        let n = Has-push F N.rows _ c in
        let o = Has-nexts F a (in_side s T t a p true) 0 B n in
        let w = Has-push F W.rows _ o in
        let u = Has-push F U.rows _ w in
        let bare = bare-begin s T a p (Has-add F t (in_loop T) E u) in
        let test = placed-bare (size T) (size E) (size U) (HasPlace t) bare (placed t (in_loop T) E u) in
        let front = placed-mark (size T) (HasPlace t) W.rows _ o refl (placed-mark (size T) (HasPlace t) U.rows _ w refl test) in
        let middle = placed-mark (size B) (HasPlace a) N.rows _ c refl (placed_nexts a (in_side s T t a p true) 0 B n) in
        let end = placed-end (size C) (HasPlace l) s y L p (size C) (size T) z (placed l y C m) in
        let both = placed-both (size B) (size C) (size Z) (HasPlace a) (HasPlace l) middle end in
        let one = differ-mark (size T) W.rows _ o refl
        (differ-mark (size T) U.rows _ w refl (differ-bare (size T) (size E) (size U) bare (differ t (in_loop T) E u d.6))) in
        let two = differ-mark (size B) N.rows _ c refl (differ_nexts a (in_side s T t a p true) 0 B n d.7) in
        let three = differ-end (size C) s y L p (size C) (size T) z (differ l y C m d.8) in
        differ-push (size T) (λ q. HasPlace t q ⊎ (HasPlace a q ⊎ HasPlace l q)) Z.rows _ h
        (placed-both (size T) (size B) (size Z) (HasPlace t) (λ q. HasPlace a q ⊎ HasPlace l q) front both)
        (λ v. elim v [ inl i ↦ d.0 i | inr v' ↦ elim v' [ inl i ↦ d.1 i | inr i ↦ d.2 i ] ])
        (differ-both (size T) (size B) (size Z) (HasPlace t) (λ q. HasPlace a q ⊎ HasPlace l q) front both
        (λ q i v. elim v [ inl j ↦ d.3 q i j | inr j ↦ d.4 q i j ]) one
        (differ-both (size B) (size C) (size Z) (HasPlace a) (HasPlace l) middle end d.5 two three))
    differ (for_loop x q a b ss l p) s T h d =
        let U = add s T a in
        let V = add s U b in
        let A = bounded s T a b p in
        let W = begin_for s A ss q p in
        let B = turned_for s A q ss p in
        let I = indexed s A x q ss p in
        let N = for_stated s A x q ss p in
        let C = for_closed s A x q ss p in
        let L = for_left_by s A x q ss l p in
        let y = for_side s A ss q p true in
        let o = for_side s A ss q p false in
        let Z = spanned s o L p (size C) (size A) in
        let z = Has-push F Z.rows _ h in
        let m = Has-end F s o L p (size T) (size A) (size C) h in
        let c = Has-add F l o C m in
        let n = Has-push F N.rows _ c in
        let i = Has-nexts F ss y 3 I n in
        let w = Has-push F B.rows _ i in
        let bare = bare-turned s A q ss p w in
        let k = Has-push F V.rows _ bare.0 in
        let low = placed a s T (Has-add F b s U k) in
        let high = placed b s U k in
        let front = placed-indexed s T a b x q ss p i low high in
        let middle = placed-mark (size I) (HasPlace ss) N.rows _ c refl (placed_nexts ss y 3 I n) in
        let end = placed-end (size C) (HasPlace l) s o L p (size C) (size A) z (placed l o C m) in
        let both = placed-both (size I) (size C) (size Z) (HasPlace ss) (HasPlace l) middle end in
        let bounds = differ-front (size T) (size A) (size B) (differ-mark (size T) V.rows _ bare.0 refl
        (differ-both (size T) (size U) (size V) (HasPlace a) (HasPlace b) low high d.5 (differ a s T (Has-add F b s U k) d.11) (differ b s U k d.12)))
        bare.1 in
        let one = differ-push (size T) (λ r. HasPlace a r ⊎ HasPlace b r) B.rows _ i (placed-bounds s T a b q ss p w low high)
        (λ v. elim v [ inl j ↦ d.1.1 j | inr j ↦ d.2.1 j ]) bounds in
        let two = differ-mark (size I) N.rows _ c refl (differ_nexts ss y 3 I n d.13) in
        let three = differ-end (size C) s o L p (size C) (size A) z (differ l o C m d.14) in
        differ-push (size T) (λ r. FrontPlace q a b r ⊎ (HasPlace ss r ⊎ HasPlace l r)) Z.rows _ h
        (placed-both (size T) (size I) (size Z) (FrontPlace q a b) (λ r. HasPlace ss r ⊎ HasPlace l r) front both)
        (λ v. elim v [
          | inl v' ↦ elim v' [ inl e ↦ d.0 (sym e) | inr e ↦ elim e [ inl j ↦ d.1.0 j | inr j ↦ d.2.0 j ] ]
          | inr v' ↦ elim v' [ inl j ↦ d.3.0 j | inr j ↦ d.4.0 j ]
        ])
        (differ-both (size T) (size I) (size Z) (FrontPlace q a b) (λ r. HasPlace ss r ⊎ HasPlace l r) front both
        (λ r v v'. elim v [
          | inl e ↦ elim v' [ inl j ↦ d.3.1 (subst (HasPlace ss) (sym e) j) | inr j ↦ d.4.1 (subst (HasPlace l) (sym e) j) ]
          | inr e ↦ elim e [
            | inl g ↦ elim v' [ inl j ↦ d.6 r g j | inr j ↦ d.7 r g j ]
            | inr g ↦ elim v' [ inl j ↦ d.8 r g j | inr j ↦ d.9 r g j ]
          ]
        ]) one
        (differ-both (size I) (size C) (size Z) (HasPlace ss) (HasPlace l) middle end d.10 two three))
    differ (next x a p) s T h d =
        let U = add s T a in
        let g = Has-push F U.rows _ h in
        differ-push (size T) (HasPlace a) U.rows _ h (placed a s T g) d.0 (differ a s T g d.1)
    differ (define x a k b p) s T h d =
        let n = size T in
        let w = in_top n in
        let H = with_row T w p n Head in
        let U = add w H a in
        let V = add w U b in
        let g = Has-push F V.rows _ h in
        let m = Has-add F b w U g in
        let start = Has-add F a w H m in
        let r = row_for T.rows w p n Head in
        let e = push-size T.rows r in
        let rest = differ-two a b w H _ h d.0 d.1 d.2 (differ a w H m d.3) (differ b w U g d.4) in
        λ i j c l c' l' t t' z. elim (cases_lt i (size H)) [
          | inl f ↦ absurd (no_thing T.rows r i start refl c (omega arith) t)
          | inr f ↦ elim (cases_lt j (size H)) [
            | inl f' ↦ absurd (no_thing T.rows r j start refl c' (omega arith) t')
            | inr f' ↦ rest i j f l f' l' t t' z
          ]
        ]
    differ none s T h d = λ i j b c e f t u w. absurd (omega arith)
    differ (more a b) s T h d =
        let U = add s T a in
        let g = Has-add F b s U h in
        differ-both (size T) (size U) (size (add s U b)) (HasPlace a) (HasPlace b) (placed a s T g) (placed b s U h) d.0 (differ a s T g d.1)
        (differ b s U h d.2)

    differ_arguments : (t : Tree) (s : Stand) (p e i : ℕ) (T : Parts) → Has F (add_arguments s p e i T t).rows → Distinct t
        → Differ (size T) (size (add_arguments s p e i T t))
    differ_arguments (more a b) s p e i T h d =
        let U = add s T a in
        let A = argued s p e i U in
        let g = Has-arguments F b s p e (suc i) A h in
        let k = Has-push F U.rows _ g in
        differ-both (size T) (size A) (size (add_arguments s p e (suc i) A b)) (HasPlace a) (HasPlace b)
        (placed-mark (size T) (HasPlace a) U.rows _ g refl (placed a s T k)) (placed_arguments b s p e (suc i) A h) d.0
        (differ-mark (size T) U.rows _ g refl (differ a s T k d.1)) (differ_arguments b s p e (suc i) A h d.2)
    differ_arguments _ s p e i T h d = λ j k b c f g t u w. absurd (omega arith)

    differ_nexts : (t : Tree) (s : Stand) (i : ℕ) (T : Parts) → Has F (add_nexts s i T t).rows → Distinct t → Differ (size T) (size (add_nexts s i T t))
    differ_nexts (more (next x a p) b) s i T h d =
        let N = used s T x p in
        let U = add s N a in
        let V = nexted s i T x a p in
        let g = Has-nexts F b s (suc i) V h in
        let k = Has-push F U.rows _ g in
        let r = row_for T.rows s p (size T) (NextUse (number_of T.names x)) in
        let n = Has-add F a s N k in
        let own = differ-push (size T) (HasPlace a) U.rows _ g (placed-behind (HasPlace a) T.rows r (size U) n refl (placed a s N k)) d.1.0
        (differ-behind T.rows r (size U) n refl (differ a s N k d.1.1)) in
        differ-both (size T) (size V) (size (add_nexts s (suc i) V b)) (HasPlace (next x a p)) (HasPlace b) (placed_next s i T x a p g)
        (placed_nexts b s (suc i) V h) d.0 own (differ_nexts b s (suc i) V h d.2)
    differ_nexts (more a b) s i T h d =
        let U = add s T a in
        let g = Has-nexts F b s i U h in
        differ-both (size T) (size U) (size (add_nexts s i U b)) (HasPlace a) (HasPlace b) (placed a s T g) (placed_nexts b s i U h) d.0 (differ a s T g d.1)
        (differ_nexts b s i U h d.2)
    differ_nexts _ s i T h d = λ j k b c f g t u w. absurd (omega arith)

abbrev empty : Parts
empty = record { rows = []; names = first_names }

abbrev before_end : Tree → Parts
before_end t = add (in_top 0) empty t

end_has : (t : Tree) → Has (rows_of t) (before_end t).rows
end_has t = Has-push (rows_of t) (before_end t).rows _ (Has-itself (rows_of t))

-- a thing does not stand in the last row
thing_before : (t : Tree) (i : ℕ) → i < length (rows_of t) → is_thing (at (rows_of t) i).node ≡ true → i < size (before_end t)
thing_before t i b h =
    let R = (before_end t).rows in
    let r = row_for R (in_top 0) 0 0 Program in
    let e = push-size R r in
    elim (cases_lt i (length R)) [
      | inl l ↦ l
      | inr l ↦ let z : length R ≡ i = omega arith in
          absurd (false≢true (sym (ap (λ (x : Row). is_thing x.node) (at-push (rows_of t) R r (Has-itself (rows_of t))))
          ∙ ap (λ k. is_thing (at (rows_of t) k).node) z ∙ h))
    ]

-- each thing has a place of the tree
pub HasPlace-rows_of : (t : Tree) (i : ℕ) → i < length (rows_of t) → is_thing (at (rows_of t) i).node ≡ true → HasPlace t (at (rows_of t) i).place
HasPlace-rows_of t i b h = placed (rows_of t) t (in_top 0) empty (end_has t) i (omega arith) (thing_before t i b h) h

-- the places of a table's things differ, where those of the tree do
pub AreApart-rows_of : (t : Tree) → Distinct t → AreApart (rows_of t)
AreApart-rows_of t d = record {
  apart = λ i j b c h g e. differ (rows_of t) t (in_top 0) empty (end_has t) d i j (omega arith) (thing_before t i b h)
      (omega arith) (thing_before t j c g) h g e;
}
