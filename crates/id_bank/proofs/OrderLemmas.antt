-- Lemmas on specs/Slots.antt: pages in order, and the order of their cells.
use Rattle.std.proofs.Common.{◌≡◌, ◌⊎◌, inl, inr, ℕ, ℤ, pos, zero, suc, ◌<◌, ◌≤◌, ◌+ℤ◌, ◌*ℤ◌, ◌<ℤ◌, Bool, true, false}
use Rattle.std.proofs.Common.{◌&&◌, T, List, [], ◌∷◌, ◌++◌, map, Option, Some, None, refl, sym, subst, ◌∙◌, ap, arith}
use Rattle.std.proofs.Common.{Vec, Global}
use Rattle.std.specs.FinMap.{entries, entries_sorted, entries-from_sorted, from_entries, from_sorted, get-from_entries}
use Rattle.std.specs.FinMap.{get-from_sorted, is_sorted, same_map}
use Rattle.std.specs.FinMap.Entries.{below_all}
use Rattle.std.specs.List.{IsDistinct, AllByRecursion}
use Rattle.std.specs.List.Sorted.{IsPermutation, IsSortedByKey, IsStrictlySortedBy}
use Rattle.std.specs.Map.{keys_of}
use Rattle.std.specs.Ordering.{eq_by_cmp, int_cmp, is_lt, ordering_then}
use Rattle.std.specs.Int.{int_div_euclid, int_rem_euclid}
use Rattle.std.specs.Int.RustNames.{unsigned_abs}
use Rattle.std.specs.declared.cmp.Ordering.{Ordering}
use Rattle.std.specs.declared.cmp.Ordering.TheVariants.{Less, Equal, Greater}
use Rattle.std.proofs.lemmas.Cmp.{int_ranked, tied_itself}
use Rattle.std.proofs.lemmas.Int.{ints}
use Rattle.std.proofs.lemmas.List.Concat.{flat_map-cons}
use Rattle.std.proofs.lemmas.List.Sorted.{IsPermutation-map, IsPermutation-refl}
use Rattle.id_tag.specs.declared.Cell.{Cell}
use Rattle.id_tag.specs.declared.Structure.{Structure}
use Rattle.id_tag.specs.Tags.{cell_cmp, structure_cmp}
use Rattle.id_tag.proofs.TagsLemmas.{cells_total, exact_cells}
use Rattle.id_tag.proofs.SortedLemmas.{entries-from_sort}
use Rattle.id_bank.specs.declared.slot.Slot.{Slot}
use Rattle.id_bank.specs.Cells.{CellState}
use Rattle.id_bank.specs.Slots.{page_of, offset_of, cell_in, same_page, state_in, entry_at, cells_below, page_cells}
use Rattle.id_bank.specs.Slots.{cells_in}
use Rattle.id_bank.proofs.SlotsLemmas.{IsBelow, named, page_cell, index_parts, below_8, cell_in-page_of}
use Rattle.id_bank.proofs.SlotsLemmas.{keys_of-append, all_append, all_weaker, below-cells_below}
use Rattle.id_bank.proofs.SlotsLemmas.{same-from_permutation, distinct-from_permutation}

-- ---- two cells

then_less : (a b : Ordering) → ordering_then a b ≡ Less → (a ≡ Less) ⊎ ((a ≡ Equal) × (b ≡ Less))
then_less Less b e = inl refl
then_less Equal b e = inr (refl, e)
then_less Greater b e = cc

then_tied : (a b : Ordering) → ordering_then a b ≡ Equal → a ≡ Equal
then_tied Less b e = cc
then_tied Equal b e = refl
then_tied Greater b e = cc

less_integer : (m n : ℤ) → int_cmp m n ≡ Less → m <ℤ n
less_integer m n e = int_ranked m n Less (sym e)

no_circle : (m n : ℤ) → m <ℤ n → n <ℤ m → ⊥
no_circle m n h k = omega (arith, ints)

no_self : (m : ℤ) → m <ℤ m → ⊥
no_self m h = omega (arith, ints)

integer_less : (m n : ℤ) → m <ℤ n → int_cmp m n ≡ Less
integer_less m n h = at (int_cmp m n) refl
  where
    at : (o : Ordering) → int_cmp m n ≡ o → int_cmp m n ≡ Less
    at Less e = e
    at Equal e =
        let same : m ≡ n = int_ranked m n Equal (sym e) in absurd (no_self n (subst (λ (z : ℤ). z <ℤ n) same h))
    at Greater e = let back : n <ℤ m = int_ranked m n Greater (sym e) in absurd (no_circle m n h back)

later : (q r : ℤ) (k l : ℕ) → k < 8 → q <ℤ r → (q *ℤ pos 8 +ℤ pos k) <ℤ (r *ℤ pos 8 +ℤ pos l)
later q r k l h g = omega (arith, ints)

further : (q : ℤ) (k l : ℕ) → k < l → (q *ℤ pos 8 +ℤ pos k) <ℤ (q *ℤ pos 8 +ℤ pos l)
further q k l h = omega (arith, ints)

later_index : (i j : ℤ) → int_div_euclid i (pos 8) <ℤ int_div_euclid j (pos 8) → i <ℤ j
later_index i j h =
    let here = int_div_euclid i (pos 8) *ℤ pos 8 +ℤ pos (unsigned_abs (int_rem_euclid i (pos 8))) in
    subst (λ (z : ℤ). z <ℤ j) (index_parts i)
    (subst (λ (z : ℤ). here <ℤ z) (index_parts j) (later _ _ _ _ (below_8 i) h))

-- a cell of an earlier page comes before one of a later page
less-page_of : (c d : Cell) → cell_cmp (named (page_of c)) (named (page_of d)) ≡ Less → cell_cmp c d ≡ Less
less-page_of c d e = at (then_less (structure_cmp c.structure d.structure) (int_cmp (page_of c).0 (page_of d).0) e)
  where
    at : (structure_cmp c.structure d.structure ≡ Less)
        ⊎ ((structure_cmp c.structure d.structure ≡ Equal) × (int_cmp (page_of c).0 (page_of d).0 ≡ Less)) →
        cell_cmp c d ≡ Less
    at (inl h) = ap (λ o. ordering_then o (int_cmp c.index d.index)) h
    at (inr h) =
        ap (λ o. ordering_then o (int_cmp c.index d.index)) h.0
        ∙ integer_less c.index d.index (later_index c.index d.index (less_integer (page_of c).0 (page_of d).0 h.1))

same_structures : (c : Cell) → structure_cmp c.structure c.structure ≡ Equal
same_structures c = then_tied _ _ (tied_itself cells_total c)

-- and one at an earlier place of a page before one at a later place
less-cell_in : (p : ℤ × Structure) (j k : ℕ) → j < k → cell_cmp (cell_in p j) (cell_in p k) ≡ Less
less-cell_in p j k h =
    ap (λ o. ordering_then o (int_cmp (cell_in p j).index (cell_in p k).index)) (same_structures (cell_in p j))
    ∙ integer_less (cell_in p j).index (cell_in p k).index (further p.0 j k h)

less-below : (n : ℕ) (p : ℤ × Structure) (d : Cell) → IsBelow n p d → cell_cmp d (cell_in p n) ≡ Less
less-below n p d g =
    subst (λ c. cell_cmp c (cell_in p n) ≡ Less) (ap (λ q. cell_in q (offset_of d)) (sym g.0) ∙ cell_in-page_of d)
    (less-cell_in p (offset_of d) n g.1)

-- ---- the cells of pages

sorted_append : (xs ys : List Cell) → IsStrictlySortedBy cell_cmp xs → IsStrictlySortedBy cell_cmp ys
    → AllByRecursion (λ x. AllByRecursion (λ y. cell_cmp x y ≡ Less) ys) xs → IsStrictlySortedBy cell_cmp (xs ++ ys)
unfolding IsStrictlySortedBy
sorted_append [] ys h g less = g
sorted_append (x ∷ xs) ys h g less = (all_append _ xs ys h.0 less.0, sorted_append xs ys h.1 g less.1)

less-entry_at : (n : ℕ) (p : ℤ × Structure) (o : Option CellState) (d : Cell) → IsBelow n p d
    → AllByRecursion (λ e. cell_cmp d e ≡ Less) (keys_of (entry_at (cell_in p n) o))
less-entry_at n p None d g = tt
less-entry_at n p (Some s) d g = (less-below n p d g, tt)

sorted-entry_at : (c : Cell) (o : Option CellState) → IsStrictlySortedBy cell_cmp (keys_of (entry_at c o))
unfolding IsStrictlySortedBy
sorted-entry_at c None = tt
sorted-entry_at c (Some s) = (tt, tt)

sorted-cells_below : (n : ℕ) (p : ℤ × Structure) (ss : List Slot) → n ≤ 8
    → IsStrictlySortedBy cell_cmp (keys_of (cells_below n p ss))
unfolding cells_below IsStrictlySortedBy
sorted-cells_below zero p ss h = tt
sorted-cells_below (suc n) p ss h =
    let xs = cells_below n p ss in
    let ys = entry_at (cell_in p n) (state_in ss n) in
    subst (IsStrictlySortedBy cell_cmp) (sym (keys_of-append xs ys))
    (sorted_append (keys_of xs) (keys_of ys) (sorted-cells_below n p ss (omega arith))
    (sorted-entry_at (cell_in p n) (state_in ss n))
    (all_weaker (IsBelow n p) _ (λ d g. less-entry_at n p (state_in ss n) d g) (keys_of xs)
    (below-cells_below n p ss (omega arith))))

-- pages by their numbers
abbrev paged : (ℤ × Structure) × Vec Slot Global → Cell × Vec Slot Global
paged e = (named e.0, e.1)

halves : (a b : Bool) → T (a && b) → T a × T b
halves true b h = (tt, h)
halves false b h = absurd h

both_true : (a b : Bool) → T a → T b → T (a && b)
both_true true b p q = q
both_true false b p q = absurd p

less_is : (o : Ordering) → T (is_lt o) → o ≡ Less
less_is Less h = refl
less_is Equal h = absurd h
less_is Greater h = absurd h

later_pages : (p : ℤ × Structure) (es : List ((ℤ × Structure) × Vec Slot Global))
    → T (below_all cell_cmp (named p) (map paged es))
    → AllByRecursion (λ d. cell_cmp (named p) (named (page_of d)) ≡ Less) (keys_of (cells_in es))
later_pages p [] h = tt
later_pages p (e ∷ es) h =
    let two = halves (is_lt (cell_cmp (named p) (named e.0))) _ h in
    subst (AllByRecursion (λ d. cell_cmp (named p) (named (page_of d)) ≡ Less))
    (sym (ap keys_of (flat_map-cons page_cells e es) ∙ keys_of-append (page_cells e) (cells_in es)))
    (all_append _ (keys_of (page_cells e)) (keys_of (cells_in es))
    (all_weaker (IsBelow 8 e.0) _ (λ d g. ap (λ q. cell_cmp (named p) (named q)) g.0 ∙ less_is _ two.0)
    (keys_of (page_cells e))
    (below-cells_below 8 e.0 e.1.items (omega arith)))
    (later_pages p es two.1))

sorted_cells : (es : List ((ℤ × Structure) × Vec Slot Global)) → T (is_sorted cell_cmp (map paged es))
    → IsStrictlySortedBy cell_cmp (keys_of (cells_in es))
unfolding IsStrictlySortedBy
sorted_cells [] h = tt
sorted_cells (e ∷ es) h =
    let two = halves (below_all cell_cmp (named e.0) (map paged es)) _ h in
    subst (IsStrictlySortedBy cell_cmp)
    (sym (ap keys_of (flat_map-cons page_cells e es) ∙ keys_of-append (page_cells e) (cells_in es)))
    (sorted_append (keys_of (page_cells e)) (keys_of (cells_in es)) (sorted-cells_below 8 e.0 e.1.items (omega arith))
    (sorted_cells es two.1)
    (all_weaker (IsBelow 8 e.0) _
    (λ x g. all_weaker (λ d. cell_cmp (named e.0) (named (page_of d)) ≡ Less) _
    (λ d less. less-page_of x d (ap (λ q. cell_cmp (named q) (named (page_of d))) g.0 ∙ less)) (keys_of (cells_in es))
    (later_pages e.0 es two.0))
    (keys_of (page_cells e)) (below-cells_below 8 e.0 e.1.items (omega arith))))

below_each : (c : Cell) (es : List (Cell × CellState)) → AllByRecursion (λ d. cell_cmp c d ≡ Less) (keys_of es)
    → T (below_all cell_cmp c es)
below_each c [] h = tt
below_each c (e ∷ es) h = subst (λ r. T (is_lt r && below_all cell_cmp c es)) (sym h.0) (below_each c es h.1)

is_sorted-keys_of : (es : List (Cell × CellState)) → IsStrictlySortedBy cell_cmp (keys_of es)
    → T (is_sorted cell_cmp es)
unfolding IsStrictlySortedBy
is_sorted-keys_of [] h = tt
is_sorted-keys_of (e ∷ es) h = both_true _ _ (below_each e.0 es h.0) (is_sorted-keys_of es h.1)

-- entries in order are those of the map that they make
entries_in_order : (es : List (Cell × CellState)) → IsStrictlySortedBy cell_cmp (keys_of es)
    → entries (from_entries {R = cell_cmp} es) ≡ es
entries_in_order es h =
    let rising = is_sorted-keys_of es h in
    ap entries (same_map cells_total exact_cells (from_entries es) (from_sorted es)
    (λ q. get-from_entries cells_total es q ∙ sym (get-from_sorted cell_cmp es q rising)))
    ∙ entries-from_sorted cell_cmp es rising

-- ---- pages that are listed by other values

module _ {A : Type 0} (show : A → (ℤ × Structure) × Vec Slot Global) (es : List ((ℤ × Structure) × Vec Slot Global))
    (unique : IsDistinct same_page (keys_of es))
    (xs ys : List A) (is : map show xs ≡ es) (perm : IsPermutation xs ys) where
  moved : IsPermutation es (map show ys)
  moved = subst (λ l. IsPermutation l (map show ys)) is (IsPermutation-map show xs ys perm)

  unique-moved : IsDistinct same_page (keys_of (map show ys))
  unique-moved = distinct-from_permutation es (map show ys) moved unique

  apart_named : (p : ℤ × Structure) (zs : List A) → AllByRecursion (λ q. same_page p q ≡ false) (keys_of (map show zs))
      → AllByRecursion (λ d. eq_by_cmp cell_cmp (named p) d ≡ false) (keys_of (map paged (map show zs)))
  apart_named p [] h = tt
  apart_named p (z ∷ zs) h = (sym (page_cell p (show z).0) ∙ h.0, apart_named p zs h.1)

  distinct_named : (zs : List A) → IsDistinct same_page (keys_of (map show zs))
      → IsDistinct (eq_by_cmp cell_cmp) (keys_of (map paged (map show zs)))
  unfolding IsDistinct
  distinct_named [] h = tt
  distinct_named (z ∷ zs) h = (apart_named (show z).0 zs h.0, distinct_named zs h.1)

  by_two : (zs : List A) → map (λ a. (named (show a).0, (show a).1)) zs ≡ map paged (map show zs)
  by_two [] = refl
  by_two (z ∷ zs) = ap (λ l. paged (show z) ∷ l) (by_two zs)

  -- where they are in order, so are the cells
  pub cells-listed : IsSortedByKey (λ a. named (show a).0) cell_cmp ys
      → cells_in (map show ys) ≡ entries (from_entries {R = cell_cmp} (cells_in es))
  cells-listed sorted =
      let gs = map paged (map show ys) in
      let one : map (λ a. (named (show a).0, (show a).1)) ys ≡ entries (from_entries {R = cell_cmp} gs) =
      entries-from_sort cell_cmp cells_total exact_cells (λ a. named (show a).0) (λ a. (show a).1) gs ys
      (distinct_named ys unique-moved)
      (subst (IsPermutation gs) (sym (by_two ys)) (IsPermutation-refl gs)) sorted in
      let rising : T (is_sorted cell_cmp gs) = subst (λ l. T (is_sorted cell_cmp l)) (sym (sym (by_two ys) ∙ one))
      (entries_sorted (from_entries {R = cell_cmp} gs)) in
      sym (entries_in_order (cells_in (map show ys)) (sorted_cells (map show ys) rising))
      ∙ ap entries (same-from_permutation es (map show ys) moved unique unique-moved)
