-- Lemmas on specs/Helds.antt: the lines of structures and of cells, joined.
use Rattle.std.proofs.Common.{◌≡◌, ℕ, zero, suc, ◌+◌, ◌<◌, Bool, true, false, cond, List, [], ◌∷◌, ◌++◌, drop, map}
use Rattle.std.proofs.Common.{length, get_or, All, refl, sym, ap, subst}
use Rattle.std.proofs.Common.{◌∙◌, arith}
use Rattle.std.specs.declared.cmp.Ordering.{Ordering}
use Rattle.std.specs.declared.cmp.Ordering.TheVariants.{Less, Equal, Greater}
use Rattle.std.specs.Ordering.{is_lt, ordering_then, ordering_reverse}
use Rattle.std.specs.List.{AllByRecursion}
use Rattle.std.specs.List.Sorted.{IsPermutation, IsSortedBy}
use Rattle.std.proofs.lemmas.List.Elements.{All-from_recursion, recursion_from_All}
use Rattle.std.proofs.lemmas.List.Sorted.{All-permutation, IsPermutation-append, IsPermutation-append_comm}
use Rattle.std.proofs.lemmas.List.Sorted.{IsPermutation-cons, IsPermutation-map, IsPermutation-refl}
use Rattle.std.proofs.lemmas.List.Sorted.{IsPermutation-sym, IsPermutation-trans}
use Rattle.id_core.specs.Observed.{CellValue}
use Rattle.id_source.specs.declared.Shape.{Shape}
use Rattle.id_print.specs.declared.helds.Held.{Held}
use Rattle.id_print.specs.declared.helds.Held.TheVariants.{Array, Cell}
use Rattle.id_print.specs.Helds.{AreCellsUp, AreShapesUp, around, is_before, is_cell_first, joined}
use Rattle.id_print.specs.Names.{HeldBefore, IsOrderOf, OfOneThing, held_cmp, site_cmp}
use Rattle.id_print.proofs.NamesLemmas.{first_lt, helds_told, in_order-from_sort, site_total}

-- ---- the first line

pub joined-cell : (ss : List Shape) (c : CellValue) (cs : List CellValue) → is_cell_first ss (c ∷ cs) ≡ true
    → joined ss (c ∷ cs) ≡ Cell c ∷ joined ss cs
joined-cell [] c cs e = refl
joined-cell (s ∷ ss) c cs e = ap (λ b. cond b (Cell c ∷ around s (joined ss) cs) (Array s ∷ joined ss (c ∷ cs))) e

pub joined-array : (s : Shape) (ss : List Shape) (cs : List CellValue) → is_cell_first (s ∷ ss) cs ≡ false
    → joined (s ∷ ss) cs ≡ Array s ∷ joined ss cs
joined-array s ss [] e = refl
joined-array s ss (c ∷ cs) e = ap (λ b. cond b (Cell c ∷ around s (joined ss) cs) (Array s ∷ joined ss (c ∷ cs))) e

pub first_cell : (ss : List Shape) (cs : List CellValue) (c : CellValue) → is_cell_first ss cs ≡ true
    → get_or cs 0 c ≡ c →
    joined ss cs ≡ Cell c ∷ joined ss (drop 1 cs)
first_cell [] [] c e is = cc
first_cell (s ∷ ss) [] c e is = cc
first_cell ss (d ∷ cs) c e is = joined-cell ss d cs e ∙ ap (λ f. Cell f ∷ joined ss cs) is

pub first_array : (ss : List Shape) (cs : List CellValue) (s : Shape) → 0 < length ss → is_cell_first ss cs ≡ false
    → get_or ss 0 s ≡ s →
    joined ss cs ≡ Array s ∷ joined (drop 1 ss) cs
first_array [] cs s h e is = absurd (omega arith)
first_array (t ∷ ss) cs s h e is = joined-array t ss cs e ∙ ap (λ u. Array u ∷ joined ss cs) is

-- where there is a line and the first is not that of a cell, there is a structure
pub has_array : (ss : List Shape) (cs : List CellValue) → 0 < length ss + length cs → is_cell_first ss cs ≡ false
    → 0 < length ss
has_array [] [] h e = absurd (omega arith)
has_array [] (c ∷ cs) h e = cc
has_array (s ∷ ss) cs h e = omega arith

-- ---- the same lines

to_front : (xs ys : List Held) (y : Held) → IsPermutation (xs ++ y ∷ ys) (y ∷ xs ++ ys)
to_front xs ys y =
    IsPermutation-trans (xs ++ y ∷ ys) ((y ∷ ys) ++ xs) (y ∷ xs ++ ys) (IsPermutation-append_comm xs (y ∷ ys))
    (IsPermutation-cons y (ys ++ xs) (xs ++ ys) (IsPermutation-append_comm ys xs))

same_around : (s : Shape) (ss : List Shape)
    → ((cs : List CellValue) → IsPermutation (map Array ss ++ map Cell cs) (joined ss cs))
    → (cs : List CellValue) → IsPermutation (map Array (s ∷ ss) ++ map Cell cs) (around s (joined ss) cs)
same_around s ss ih [] = IsPermutation-cons (Array s) (map Array ss ++ []) (joined ss []) (ih [])
same_around s ss ih (c ∷ cs) = at (is_before c s) (same_around s ss ih cs)
  where
    at : (b : Bool) → IsPermutation (map Array (s ∷ ss) ++ map Cell cs) (around s (joined ss) cs)
        → IsPermutation (map Array (s ∷ ss) ++ map Cell (c ∷ cs))
        (cond b (Cell c ∷ around s (joined ss) cs) (Array s ∷ joined ss (c ∷ cs)))
    at true next =
        IsPermutation-trans _ (Cell c ∷ map Array (s ∷ ss) ++ map Cell cs) _
        (to_front (map Array (s ∷ ss)) (map Cell cs) (Cell c))
        (IsPermutation-cons (Cell c) (map Array (s ∷ ss) ++ map Cell cs) (around s (joined ss) cs) next)
    at false next = IsPermutation-cons (Array s) (map Array ss ++ map Cell (c ∷ cs)) (joined ss (c ∷ cs)) (ih (c ∷ cs))

same_lines : (ss : List Shape) (cs : List CellValue) → IsPermutation (map Array ss ++ map Cell cs) (joined ss cs)
same_lines [] cs = IsPermutation-refl (map Cell cs)
same_lines (s ∷ ss) cs = same_around s ss (same_lines ss) cs

-- ---- in order

abbrev lt : Held → Held → Bool
lt = first_lt held_cmp

-- the line is not behind the first of these
abbrev Heads : Held → List Held → Type 0
Heads x [] = Unit {0}
Heads x (y ∷ ys) = lt y x ≡ false

-- none is behind the next
abbrev Up : List Held → Type 0
Up [] = Unit {0}
Up (x ∷ xs) = Heads x xs × Up xs

one_more : (k : ℕ) → suc k + 1 ≡ suc (k + 1)
one_more k = omega arith

sorted_next : {A : Type 0} (f : A → A → Bool) (x : A) (xs : List A) → IsSortedBy f (x ∷ xs) → IsSortedBy f xs
sorted_next f x xs h =
    λ k d low within. subst (λ m. f (get_or (x ∷ xs) m d) (get_or xs k d) ≡ false) (one_more k)
    (h (suc k) d (omega arith) (omega arith))

up-from_sorted : (xs : List Held) → IsSortedBy lt xs → Up xs
up-from_sorted [] h = tt
up-from_sorted (x ∷ []) h = (tt, tt)
up-from_sorted (x ∷ y ∷ xs) h =
    (h 0 x (omega arith) (omega arith), up-from_sorted (y ∷ xs) (sorted_next lt x (y ∷ xs) h))

sorted-from_up : (xs : List Held) → Up xs → IsSortedBy lt xs
sorted-from_up [] h = λ k d low within. absurd (omega arith)
sorted-from_up (x ∷ []) h = λ k d low within. absurd (omega arith)
sorted-from_up (x ∷ y ∷ xs) h = at (sorted-from_up (y ∷ xs) h.1)
  where
    at : IsSortedBy lt (y ∷ xs) → IsSortedBy lt (x ∷ y ∷ xs)
    at next zero d low within = h.0
    at next (suc k) d low within =
        subst (λ m. lt (get_or (x ∷ y ∷ xs) m d) (get_or (y ∷ xs) k d) ≡ false) (sym (one_more k))
        (next k d (omega arith) (omega arith))

heads_around : (x : Held) (s : Shape) (rest : List CellValue → List Held) (cs : List CellValue) → lt (Array s) x ≡ false
    → Heads x (map Cell cs) →
    Heads x (around s rest cs)
heads_around x s rest [] h g = h
heads_around x s rest (c ∷ cs) h g = at (is_before c s)
  where
    at : (b : Bool) → Heads x (cond b (Cell c ∷ around s rest cs) (Array s ∷ rest (c ∷ cs)))
    at true = g
    at false = h

heads_joined : (x : Held) (ss : List Shape) (cs : List CellValue) → Heads x (map Array ss) → Heads x (map Cell cs)
    → Heads x (joined ss cs)
heads_joined x [] cs h g = g
heads_joined x (s ∷ ss) cs h g = heads_around x s (joined ss) cs h g

behind : (o : Ordering) → is_lt o ≡ true → is_lt (ordering_then (ordering_reverse o) Less) ≡ false
behind Less e = refl
behind Equal e = cc
behind Greater e = cc

not_before : (o : Ordering) → is_lt o ≡ false → is_lt (ordering_then o Greater) ≡ false
not_before Less e = cc
not_before Equal e = refl
not_before Greater e = refl

array_behind : (c : CellValue) (s : Shape) → is_before c s ≡ true → lt (Array s) (Cell c) ≡ false
array_behind c s e =
    ap (λ o. is_lt (ordering_then o Less)) (site_total.antisymm s.name c.name) ∙ behind (site_cmp c.name s.name) e

cell_behind : (c : CellValue) (s : Shape) → is_before c s ≡ false → lt (Cell c) (Array s) ≡ false
cell_behind c s e = not_before (site_cmp c.name s.name) e

up_around : (s : Shape) (ss : List Shape) → Up (map Array (s ∷ ss))
    → ((cs : List CellValue) → Up (map Cell cs) → Up (joined ss cs))
    → (cs : List CellValue) → Up (map Cell cs) → Up (around s (joined ss) cs)
up_around s ss h ih [] g = (heads_joined (Array s) ss [] h.0 tt, ih [] tt)
up_around s ss h ih (c ∷ cs) g = at (up_around s ss h ih cs g.1) (is_before c s) refl
  where
    at : Up (around s (joined ss) cs) → (b : Bool) → is_before c s ≡ b
        → Up (cond b (Cell c ∷ around s (joined ss) cs) (Array s ∷ joined ss (c ∷ cs)))
    at next true e = (heads_around (Cell c) s (joined ss) cs (array_behind c s e) g.0, next)
    at next false e = (heads_joined (Array s) ss (c ∷ cs) h.0 (cell_behind c s e), ih (c ∷ cs) g)

up_joined : (ss : List Shape) (cs : List CellValue) → Up (map Array ss) → Up (map Cell cs) → Up (joined ss cs)
up_joined [] cs h g = g
up_joined (s ∷ ss) cs h g = up_around s ss h (λ ds k. up_joined ss ds h.1 k) cs g

up_shapes : (ss : List Shape) → AreShapesUp ss → Up (map Array ss)
up_shapes [] h = tt
up_shapes (s ∷ []) h = (tt, tt)
up_shapes (s ∷ t ∷ ss) h = (
  h 0 s (omega arith) (omega arith),
  up_shapes (t ∷ ss) (sorted_next (λ s t. is_lt (held_cmp (Array s) (Array t))) s (t ∷ ss) h),
)

up_cells : (cs : List CellValue) → AreCellsUp cs → Up (map Cell cs)
up_cells [] h = tt
up_cells (c ∷ []) h = (tt, tt)
up_cells (c ∷ d ∷ cs) h = (
  h 0 c (omega arith) (omega arith),
  up_cells (d ∷ cs) (sorted_next (λ c d. is_lt (held_cmp (Cell c) (Cell d))) c (d ∷ cs) h),
)

-- structures and cells in order make lines in order
pub IsOrderOf-joined : (ss rs : List Shape) (cs ds : List CellValue) → IsPermutation ss rs → AreShapesUp rs
    → IsPermutation cs ds → AreCellsUp ds → IsOrderOf HeldBefore (joined rs ds) (map Array ss ++ map Cell cs)
IsOrderOf-joined ss rs cs ds p h q g = record {
  same = IsPermutation-trans _ (map Array rs ++ map Cell ds) _
      (IsPermutation-append (map Array ss) (map Array rs) (map Cell cs) (map Cell ds) (IsPermutation-map Array ss rs p)
      (IsPermutation-map Cell cs ds q))
      (same_lines rs ds);
  in_order = in_order-from_sort held_cmp HeldBefore OfOneThing helds_told (joined rs ds)
      (sorted-from_up (joined rs ds) (up_joined rs ds (up_shapes rs h) (up_cells ds g)));
}

-- ---- what holds of each line

shapes_each : (P : Held → Type 0) (ss : List Shape) → AllByRecursion (λ s. P (Array s)) ss
    → AllByRecursion P (map Array ss)
shapes_each P [] h = tt
shapes_each P (s ∷ ss) h = (h.0, shapes_each P ss h.1)

cells_each : (P : Held → Type 0) (cs : List CellValue) → AllByRecursion (λ c. P (Cell c)) cs
    → AllByRecursion P (map Cell cs)
cells_each P [] h = tt
cells_each P (c ∷ cs) h = (h.0, cells_each P cs h.1)

each_then : (P : Held → Type 0) (xs ys : List Held) → AllByRecursion P xs → AllByRecursion P ys
    → AllByRecursion P (xs ++ ys)
each_then P [] ys h g = g
each_then P (x ∷ xs) ys h g = (h.0, each_then P xs ys h.1 g)

each_cell : (P : Held → Type 0) (cs : List CellValue) → AllByRecursion P (map Cell cs)
    → AllByRecursion (λ c. P (Cell c)) cs
each_cell P [] h = tt
each_cell P (c ∷ cs) h = (h.0, each_cell P cs h.1)

each_of : (P : Held → Type 0) (ss : List Shape) (cs : List CellValue) → AllByRecursion P (map Array ss ++ map Cell cs)
    → AllByRecursion (λ s. P (Array s)) ss × AllByRecursion (λ c. P (Cell c)) cs
each_of P [] cs h = (tt, each_cell P cs h)
each_of P (s ∷ ss) cs h = let two = each_of P ss cs h.1 in ((h.0, two.0), two.1)

pub All-joined : (P : Held → Type 0) (ss : List Shape) (cs : List CellValue) → All (λ s. P (Array s)) ss
    → All (λ c. P (Cell c)) cs → All P (joined ss cs)
All-joined P ss cs h g =
    All-permutation P (map Array ss ++ map Cell cs) (joined ss cs) (same_lines ss cs)
    (All-from_recursion P _ (each_then P (map Array ss) (map Cell cs) (shapes_each P ss (recursion_from_All _ ss h))
    (cells_each P cs (recursion_from_All _ cs g))))

pub each-joined : (P : Held → Type 0) (ss : List Shape) (cs : List CellValue) → All P (joined ss cs)
    → All (λ s. P (Array s)) ss × All (λ c. P (Cell c)) cs
each-joined P ss cs h =
    let two = each_of P ss cs (recursion_from_All P _ (All-permutation P (joined ss cs) (map Array ss ++ map Cell cs)
    (IsPermutation-sym _ _ (same_lines ss cs)) h)) in
    (All-from_recursion _ ss two.0, All-from_recursion _ cs two.1)
