-- Lemmas on specs/Slots.antt: the cells that are still to come.
use Rattle.std.proofs.Common.{◌≡◌, ℕ, ℤ, zero, suc, ◌<◌, ◌≤◌, ◌+◌, ◌-◌, List, [], ◌∷◌, ◌++◌, map, length, drop, take}
use Rattle.std.proofs.Common.{get_or, Option, Some, None, refl, sym, subst, ◌∙◌, ap, arith, Vec, Global, append_assoc}
use Rattle.std.proofs.Common.{length-append}
use Rattle.std.specs.List.{flat_map}
use Rattle.std.proofs.lemmas.List.{append-nil, take_more}
use Rattle.std.proofs.lemmas.List.Concat.{flat_map-cons}
use Rattle.std.proofs.lemmas.Grind.{flat_map-append}
use Rattle.id_tag.specs.declared.Cell.{Cell}
use Rattle.id_tag.specs.declared.Structure.{Structure}
use Rattle.id_bank.specs.declared.slot.Slot.{Slot}
use Rattle.id_bank.specs.declared.cell.Filled.{Filled}
use Rattle.id_bank.specs.Cells.{CellState, Present, Deferred, count_expected, filled_at}
use Rattle.id_bank.specs.Slots.{cell_in, state_in, entry_at, cells_below, cells_above, cells_left, page_cells, cells_in}
use Rattle.id_bank.specs.Slots.{filled_by}
use Rattle.id_bank.proofs.SlotsLemmas.{cells_below-none, cells_below-next}

-- the first places and the others are all
whole : (n : ℕ) (p : ℤ × Structure) (ss : List Slot) → n ≤ 8
    → cells_below (8 - n) p ss ++ cells_above n p ss ≡ cells_below 8 p ss
unfolding cells_below cells_above
whole zero p ss h = append-nil (cells_below 8 p ss)
whole (suc n) p ss h =
    let here = entry_at (cell_in p (7 - n)) (state_in ss (7 - n)) in
    let next : 8 - n ≡ suc (8 - suc n) = omega arith in
    let place : 7 - n ≡ 8 - suc n = omega arith in
    sym (append_assoc (cells_below (8 - suc n) p ss) here (cells_above n p ss))
    ∙ ap (λ k. (cells_below (8 - suc n) p ss ++ entry_at (cell_in p k) (state_in ss k)) ++ cells_above n p ss) place
    ∙ ap (λ k. cells_below k p ss ++ cells_above n p ss) (sym next)
    ∙ whole n p ss (omega arith)

cells_above-all : (p : ℤ × Structure) (ss : List Slot) → cells_above 8 p ss ≡ cells_below 8 p ss
unfolding cells_below
cells_above-all p ss = whole 8 p ss (omega arith)

-- all cells are still to come at the start of a page
pub cells_left-all : (es : List ((ℤ × Structure) × Vec Slot Global)) → cells_left 8 es ≡ cells_in es
cells_left-all [] = refl
cells_left-all (e ∷ es) =
    ap (λ l. l ++ cells_in es) (cells_above-all e.0 e.1.items) ∙ sym (flat_map-cons page_cells e es)

-- and none of it at its end
pub cells_left-none : (e : (ℤ × Structure) × Vec Slot Global) (es : List ((ℤ × Structure) × Vec Slot Global))
    → cells_left 0 (e ∷ es) ≡ cells_left 8 es
unfolding cells_above
cells_left-none e es = sym (cells_left-all es)

-- a cell that holds a value comes first
pub some_left : (n k : ℕ) (e : (ℤ × Structure) × Vec Slot Global) (es : List ((ℤ × Structure) × Vec Slot Global))
    (f : Filled) → k ≡ 7 - n → filled_by (cell_in e.0 k) (state_in e.1.items k) ≡ Some f
    → flat_map filled_at (cells_left (suc n) (e ∷ es)) ≡ f ∷ flat_map filled_at (cells_left n (e ∷ es))
unfolding cells_above
some_left n k e es f at is =
    first (state_in e.1.items (7 - n)) (subst (λ j. filled_by (cell_in e.0 j) (state_in e.1.items j) ≡ Some f) at is)
  where
    first : (o : Option CellState) → filled_by (cell_in e.0 (7 - n)) o ≡ Some f
        → flat_map filled_at ((entry_at (cell_in e.0 (7 - n)) o ++ cells_above n e.0 e.1.items) ++ cells_in es) ≡ f ∷
        flat_map filled_at (cells_above n e.0 e.1.items ++ cells_in es)
    first None is = cc
    first (Some (Present v w)) is = cc
    first (Some (Deferred ts)) is = cc

-- one that holds none adds nothing
pub none_left : (n k : ℕ) (e : (ℤ × Structure) × Vec Slot Global) (es : List ((ℤ × Structure) × Vec Slot Global))
    → k ≡ 7 - n → filled_by (cell_in e.0 k) (state_in e.1.items k) ≡ None
    → flat_map filled_at (cells_left (suc n) (e ∷ es)) ≡ flat_map filled_at (cells_left n (e ∷ es))
unfolding cells_above
none_left n k e es at is =
    second (state_in e.1.items (7 - n)) (subst (λ j. filled_by (cell_in e.0 j) (state_in e.1.items j) ≡ None) at is)
  where
    second : (o : Option CellState) → filled_by (cell_in e.0 (7 - n)) o ≡ None
        → flat_map filled_at ((entry_at (cell_in e.0 (7 - n)) o ++ cells_above n e.0 e.1.items) ++ cells_in es) ≡
        flat_map filled_at (cells_above n e.0 e.1.items ++ cells_in es)
    second None is = refl
    second (Some (Present v w)) is = cc
    second (Some (Deferred ts)) is = refl

-- ---- pages that are listed by other values

one_more : (i : ℕ) → suc (i + 1) ≡ suc i + 1
one_more i = omega arith

module _ {A : Type 0} (show : A → (ℤ × Structure) × Vec Slot Global) where
  -- those from one on are it and those behind it
  at_page : (xs : List A) (i : ℕ) (x : A) → i < length xs → get_or xs i x ≡ x
      → map show (drop i xs) ≡ show x ∷ map show (drop (i + 1) xs)
  at_page [] i x h is = absurd (omega arith)
  at_page (y ∷ xs) zero x h is = ap (λ z. show z ∷ map show xs) is
  at_page (y ∷ xs) (suc i) x h is =
      at_page xs i x (omega arith) is ∙ ap (λ k. show x ∷ map show (drop k (y ∷ xs))) (one_more i)

  lowered : (n : ℕ) → 0 < n → suc (n - 1) ≡ n
  lowered n h = omega arith

  -- the next cell of the page at hand holds a value
  pub some_at : (xs : List A) (i n k : ℕ) (x : A) (f : Filled) → i < length xs → get_or xs i x ≡ x → 0 < n → k ≡ 8 - n
      → filled_by (cell_in (show x).0 k) (state_in (show x).1.items k) ≡ Some f
      → flat_map filled_at (cells_left n (map show (drop i xs))) ≡ f
      ∷ flat_map filled_at (cells_left (n - 1) (map show (drop i xs)))
  some_at xs i n k x f h is some place there =
      let pages = at_page xs i x h is in
      ap (λ es. flat_map filled_at (cells_left n es)) pages
      ∙ ap (λ m. flat_map filled_at (cells_left m (show x ∷ map show (drop (i + 1) xs)))) (sym (lowered n some))
      ∙ some_left (n - 1) k (show x) (map show (drop (i + 1) xs)) f (omega arith) there
      ∙ ap (λ es. f ∷ flat_map filled_at (cells_left (n - 1) es)) (sym pages)

  -- or none
  pub none_at : (xs : List A) (i n k : ℕ) (x : A) → i < length xs → get_or xs i x ≡ x → 0 < n → k ≡ 8 - n
      → filled_by (cell_in (show x).0 k) (state_in (show x).1.items k) ≡ None
      → flat_map filled_at (cells_left n (map show (drop i xs)))
      ≡ flat_map filled_at (cells_left (n - 1) (map show (drop i xs)))
  none_at xs i n k x h is some place there =
      let pages = at_page xs i x h is in
      ap (λ es. flat_map filled_at (cells_left n es)) pages
      ∙ ap (λ m. flat_map filled_at (cells_left m (show x ∷ map show (drop (i + 1) xs)))) (sym (lowered n some))
      ∙ none_left (n - 1) k (show x) (map show (drop (i + 1) xs)) (omega arith) there
      ∙ ap (λ es. flat_map filled_at (cells_left (n - 1) es)) (sym pages)

  -- the page at hand has no more places
  pub next_page : (xs : List A) (i n : ℕ) → i < length xs → (n ≡ 0)
      → cells_left n (map show (drop i xs)) ≡ cells_left 8 (map show (drop (i + 1) xs))
  next_page [] i n h none = absurd (omega arith)
  next_page (y ∷ xs) zero n h none =
      ap (λ m. cells_left m (show y ∷ map show xs)) none ∙ cells_left-none (show y) (map show xs)
  next_page (y ∷ xs) (suc i) n h none =
      next_page xs i n (omega arith) none ∙ ap (λ k. cells_left 8 (map show (drop k (y ∷ xs)))) (one_more i)

-- ---- how many are still to come

count_filled-append : (xs ys : List (Cell × CellState)) →
    length (flat_map filled_at (xs ++ ys)) ≡ length (flat_map filled_at xs) + length (flat_map filled_at ys)
count_filled-append xs ys =
    ap length (flat_map-append filled_at xs ys) ∙ length-append (flat_map filled_at xs) (flat_map filled_at ys)

-- a page has none at its first 0 places
pub filled-none : (p : ℤ × Structure) (ss : List Slot) → 0 ≡ length (flat_map filled_at (cells_below 0 p ss))
filled-none p ss = ap (λ es. length (flat_map filled_at es)) (sym (cells_below-none p ss))

one_filled : (c : Cell) (o : Option CellState) → count_expected o ≡ None
    → length (flat_map filled_at (entry_at c o)) ≡ 1
one_filled c None is = cc
one_filled c (Some (Present v w)) is = refl
one_filled c (Some (Deferred ts)) is = cc

none_filled : (c : Cell) (o : Option CellState) → (count_expected o ≡ None → ⊥)
    → length (flat_map filled_at (entry_at c o)) ≡ 0
none_filled c None other = refl
none_filled c (Some (Present v w)) other = absurd (other refl)
none_filled c (Some (Deferred ts)) other = refl

-- and one more where the next place has a cell that holds a value
pub filled-next : (n m : ℕ) (p : ℤ × Structure) (ss : List Slot) → count_expected (state_in ss n) ≡ None
    → m ≡ length (flat_map filled_at (cells_below n p ss))
    → m + 1 ≡ length (flat_map filled_at (cells_below (n + 1) p ss))
filled-next n m p ss is so =
    let here = entry_at (cell_in p n) (state_in ss n) in
    ap (λ k. k + 1) so
    ∙ ap (λ k. length (flat_map filled_at (cells_below n p ss)) + k) (sym (one_filled (cell_in p n) (state_in ss n) is))
    ∙ sym (count_filled-append (cells_below n p ss) here)
    ∙ ap (λ es. length (flat_map filled_at es)) (sym (cells_below-next n p ss))

-- and no more where it has none
pub filled-same : (n m : ℕ) (p : ℤ × Structure) (ss : List Slot) → (count_expected (state_in ss n) ≡ None → ⊥)
    → m ≡ length (flat_map filled_at (cells_below n p ss)) → m ≡ length (flat_map filled_at (cells_below (n + 1) p ss))
filled-same n m p ss other so =
    let here = entry_at (cell_in p n) (state_in ss n) in
    so
    ∙ plus_none (length (flat_map filled_at (cells_below n p ss))) _ (none_filled (cell_in p n) (state_in ss n) other)
    ∙ sym (count_filled-append (cells_below n p ss) here)
    ∙ ap (λ es. length (flat_map filled_at es)) (sym (cells_below-next n p ss))
  where
    plus_none : (m k : ℕ) → k ≡ 0 → m ≡ m + k
    plus_none m k h = omega arith

-- where the first of them leaves, one fewer is left
pub one_fewer : {A : Type 0} (m : ℕ) (xs ys : List A) (x : A) → xs ≡ x ∷ ys → m ≡ length xs
    → (1 ≤ m) × (m - 1 ≡ length ys)
one_fewer m xs ys x is so = let e : m ≡ suc (length ys) = so ∙ ap length is in (omega arith, omega arith)

module _ {A : Type 0} (show : A → (ℤ × Structure) × Vec Slot Global) where
  -- the next page adds its own
  pub filled-more : (xs : List A) (i m k : ℕ) (x : A) → i < length xs → get_or xs i x ≡ x
      → m ≡ length (flat_map filled_at (flat_map (λ e. page_cells (show e)) (take i xs)))
      → k ≡ length (flat_map filled_at (page_cells (show x)))
      → m + k ≡ length (flat_map filled_at (flat_map (λ e. page_cells (show e)) (take (i + 1) xs)))
  filled-more xs i m k x h is before here =
      let cells = λ (e : A). page_cells (show e) in
      let last : flat_map cells (x ∷ []) ≡ page_cells (show x) = append-nil (page_cells (show x)) in
      ap (λ l. l + k) before ∙ ap (λ l. length (flat_map filled_at (flat_map cells (take i xs))) + l)
      (here ∙ ap (λ es. length (flat_map filled_at es)) (sym last))
      ∙ sym (count_filled-append (flat_map cells (take i xs)) (flat_map cells (x ∷ [])))
      ∙ ap (λ es. length (flat_map filled_at es)) (sym (flat_map-append cells (take i xs) (x ∷ [])))
      ∙ ap (λ l. length (flat_map filled_at (flat_map cells (take i xs ++ l ∷ [])))) (sym is)
      ∙ ap (λ l. length (flat_map filled_at (flat_map cells l))) (sym (take_more xs i x h))
