-- Lemmas on specs/Slots.antt: the pages, and the map that they stand for.
use Rattle.std.proofs.Common.{◌≡◌, ℕ, ℤ, pos, negsuc, zero, suc, ◌+◌, ◌<◌, ◌≤◌, ◌+ℤ◌, ◌*ℤ◌, Bool, true, false, cond}
use Rattle.std.proofs.Common.{◌&&◌, nat_eq, nat_lt, List, [], ◌∷◌, ◌++◌, map, length, Option, Some, None, option_map}
use Rattle.std.proofs.Common.{option_and_then, Result, Ok, Err, OnOk, OnErr, refl, sym, subst, ◌∙◌, ap, arith, Vec}
use Rattle.std.proofs.Common.{Global, slice_get, position, IfSome, IfOk, get_or, ◌≢◌, true≢false}
use Rattle.std.specs.FinMap.{empty, entries, entries-insert, find, get, insert, from_entries, get-empty}
use Rattle.std.specs.FinMap.{get-from_entries, get-insert, len-empty, len-entries, put, same_map}
use Rattle.std.specs.FinMap.Entries.{by_order}
use Rattle.std.specs.List.{IsDistinct, AllByRecursion, flat_map}
use Rattle.std.specs.Map.{lookup, keys_of, values_of}
use Rattle.std.proofs.lemmas.List.Concat.{flat_map-cons}
use Rattle.std.proofs.lemmas.Map.Entries.{lookup_from_place}
use Rattle.std.specs.List.Sorted.{IsPermutation}
use Rattle.std.proofs.lemmas.List.Sorted.{IsPermutation-map}
use Rattle.std.proofs.lemmas.Map.Keys.{IsDistinct-IsPermutation}
use Rattle.indexmap.proofs.MapLemmas.{lookup_permutation}
use Rattle.std.proofs.lemmas.List.Quantifiers.{position-Some}
use Rattle.std.proofs.lemmas.Option.{slice_get-get_or, slice_get-map}
use Rattle.std.specs.HashMap.{HashMap, IsUnique, Updates}
use Rattle.std.specs.HashMap as hash
use Rattle.indexmap.specs.IndexMap.{set_value_at, with_value_at, insert_entry}
use Rattle.indexmap.proofs.CallerLemmas.{updates-with_value_at, keys-with_value_at, insert_entry-new}
use Rattle.std.specs.Cmp.{IsEquivalence, eq_by_cmp_equiv}
use Rattle.std.specs.Ordering.{eq_by_cmp, int_eq, is_eq}
use Rattle.std.specs.Int.{int_div_euclid, int_rem_euclid}
use Rattle.std.specs.Int.RustNames.{unsigned_abs}
use Rattle.std.specs.declared.alloc.AllocError.{AllocError}
use Rattle.std.specs.declared.cmp.Ordering.{Ordering}
use Rattle.std.specs.declared.cmp.Ordering.TheVariants.{Less, Equal, Greater}
use Rattle.std.proofs.lemmas.Int.{ints}
use Rattle.std.proofs.lemmas.Bool.Decides.{nat_tests}
use Rattle.id_tag.specs.declared.Cell.{Cell}
use Rattle.id_tag.specs.declared.Structure.{Structure}
use Rattle.id_tag.specs.Tags.{cell_cmp, same_structure}
use Rattle.id_tag.proofs.TagsLemmas.{cells_total, exact_cells, one_from_same_cell, ties-same_cell}
use Rattle.id_bank.specs.declared.slot.Slot.{Slot}
use Rattle.id_bank.specs.Cells.{CellState, Present, Deferred, Cells, count_readers, deferred_of, readers_at}
use Rattle.id_bank.specs.Slots.{HasNone, HasNoReaders, page_of, offset_of, cell_in, same_page, state_in}
use Rattle.id_bank.specs.Slots.{state_at, entry_at, cells_below, page_cells, cells_in}

-- ---- tests

turned : (a b : Bool) → (a && b) ≡ (b && a)
turned true true = refl
turned true false = refl
turned false true = refl
turned false false = refl

alike : (a b : Bool) → (a ≡ true → b ≡ true) → (b ≡ true → a ≡ true) → a ≡ b
alike true b f g = sym (f refl)
alike false true f g = g refl
alike false false f g = refl

left : (a b : Bool) → (a && b) ≡ true → a ≡ true
left true b h = refl
left false b h = h

right : (a b : Bool) → (a && b) ≡ true → b ≡ true
right true b h = h
right false b h = cc

both : {a b : Bool} → a ≡ true → b ≡ true → (a && b) ≡ true
both p q = cc

nat_same : (m n : ℕ) → nat_eq m n ≡ true → m ≡ n
nat_same m n h = grind (arith, nat_tests)

nat_self : (n : ℕ) → nat_eq n n ≡ true
nat_self n = grind (arith, nat_tests)

-- ---- pages

abbrev pub named : ℤ × Structure → Cell
named p = record { structure = p.1; index = p.0 }

-- the test of pages is that of the cells that their numbers name
pub page_cell : (p q : ℤ × Structure) → same_page p q ≡ eq_by_cmp cell_cmp (named p) (named q)
page_cell p q = turned (int_eq p.0 q.0) (same_structure p.1 q.1) ∙ sym (ties-same_cell (named p) (named q))

-- the test of pages is an equivalence
pub same_page_laws : IsEquivalence same_page
same_page_laws =
    let laws = eq_by_cmp_equiv cells_total in
    record {
      refl = λ p. page_cell p p ∙ laws.refl (named p);
      symm = λ p q. page_cell p q ∙ laws.symm (named p) (named q) ∙ sym (page_cell q p);
      congr = λ p q r h. page_cell p r ∙ laws.congr (named p) (named q) (named r) (sym (page_cell p q) ∙ h)
          ∙ sym (page_cell q r);
    }

-- pages that pass it are one
pub one_page : (p q : ℤ × Structure) → same_page p q ≡ true → p ≡ q
one_page p q h =
    ap (λ (c : Cell). (c.index, c.structure))
    (one_from_same_cell (named p) (named q) (sym (ties-same_cell (named p) (named q)) ∙ sym (page_cell p q) ∙ h))

-- ---- a cell by its page

pub index_parts : (i : ℤ) → int_div_euclid i (pos 8) *ℤ pos 8 +ℤ pos (unsigned_abs (int_rem_euclid i (pos 8))) ≡ i
index_parts (pos a) = omega (arith, ints)
index_parts (negsuc a) = omega (arith, ints)

pub below_8 : (i : ℤ) → unsigned_abs (int_rem_euclid i (pos 8)) < 8
below_8 (pos a) = omega arith
below_8 (negsuc a) = omega arith

one_quotient : (i j : ℤ) (k l : ℕ) → k < 8 → l < 8 → i *ℤ pos 8 +ℤ pos k ≡ j *ℤ pos 8 +ℤ pos l → i ≡ j
one_quotient i j k l h g e = omega (arith, ints)

one_rest : (i j : ℤ) (k l : ℕ) → k < 8 → l < 8 → i *ℤ pos 8 +ℤ pos k ≡ j *ℤ pos 8 +ℤ pos l → k ≡ l
one_rest i j k l h g e = omega (arith, ints)

-- a cell is that of its page at its place
pub cell_in-page_of : (c : Cell) → cell_in (page_of c) (offset_of c) ≡ c
cell_in-page_of c = ap (λ (i : ℤ). record { structure = c.structure; index = i }) (index_parts c.index)

page_of-cell_in : (p : ℤ × Structure) (k : ℕ) → k < 8 → page_of (cell_in p k) ≡ p
page_of-cell_in p k h =
    let i : ℤ = p.0 *ℤ pos 8 +ℤ pos k in
    ap (λ (j : ℤ). (j, p.1)) (one_quotient (int_div_euclid i (pos 8)) p.0 _ k (below_8 i) h (index_parts i))

offset_of-cell_in : (p : ℤ × Structure) (k : ℕ) → k < 8 → offset_of (cell_in p k) ≡ k
offset_of-cell_in p k h =
    let i : ℤ = p.0 *ℤ pos 8 +ℤ pos k in
    one_rest (int_div_euclid i (pos 8)) p.0 _ k (below_8 i) h (index_parts i)

tied : (r : Ordering) → is_eq r ≡ true → r ≡ Equal
tied Less e = cc
tied Equal e = refl
tied Greater e = cc

one_cell : (c d : Cell) → eq_by_cmp cell_cmp d c ≡ true → d ≡ c
one_cell c d h = exact_cells d c (tied (cell_cmp d c) h)

own_cell : (c : Cell) → eq_by_cmp cell_cmp c c ≡ true
own_cell c = (eq_by_cmp_equiv cells_total).refl c

-- the test of cells is that of their pages and places
ties-cell_in : (c : Cell) (p : ℤ × Structure) (k : ℕ) → k < 8
    → eq_by_cmp cell_cmp c (cell_in p k) ≡ (same_page (page_of c) p && nat_eq (offset_of c) k)
ties-cell_in c p k h =
    alike _ _
    (λ e. let one : c ≡ cell_in p k = one_cell (cell_in p k) c e in
    both (subst (λ q. same_page q p ≡ true) (sym (ap page_of one ∙ page_of-cell_in p k h)) (same_page_laws.refl p))
    (subst (λ l. nat_eq l k ≡ true) (sym (ap offset_of one ∙ offset_of-cell_in p k h)) (nat_self k)))
    (λ e. let q : page_of c ≡ p = one_page (page_of c) p (left _ _ e) in
    let l : offset_of c ≡ k = nat_same (offset_of c) k (right (same_page (page_of c) p) _ e) in
    let is : c ≡ cell_in p k = sym (cell_in-page_of c) ∙ ap (λ r. cell_in r (offset_of c)) q ∙ ap (cell_in p) l in
    subst (λ d. eq_by_cmp cell_cmp c d ≡ true) is (own_cell c))

-- ---- what the entries of pages have at a cell

or_else : {X : Type 0} → Option X → Option X → Option X
or_else None r = r
or_else (Some x) r = Some x

chosen : {X : Type 0} (b : Bool) (x : X) (o r : Option X)
    → cond b (Some x) (or_else o r) ≡ or_else (cond b (Some x) o) r
unfolding or_else
chosen true x o r = refl
chosen false x o r = refl

find-append : (c : Cell) (xs ys : List (Cell × CellState))
    → find cell_cmp c (xs ++ ys) ≡ or_else (find cell_cmp c xs) (find cell_cmp c ys)
unfolding or_else
find-append c [] ys = refl
find-append c (x ∷ xs) ys =
    ap (cond (eq_by_cmp cell_cmp c x.0) (Some x.1)) (find-append c xs ys)
    ∙ chosen (eq_by_cmp cell_cmp c x.0) x.1 (find cell_cmp c xs) (find cell_cmp c ys)

same_none : (b : Bool) → ◌≡◌ {A = Option CellState} None (cond b None None)
same_none true = refl
same_none false = refl

find-entry_at : (c d : Cell) (o : Option CellState)
    → find cell_cmp c (entry_at d o) ≡ cond (eq_by_cmp cell_cmp c d) o None
find-entry_at c d None = same_none (eq_by_cmp cell_cmp c d)
find-entry_at c d (Some s) = refl

or_else-none : (o : Option CellState) → or_else o None ≡ o
unfolding or_else
or_else-none None = refl
or_else-none (Some s) = refl

one_more : (f : ℕ → Option CellState) (o n : ℕ) (r e u : Bool) → nat_lt o n ≡ r → nat_eq o n ≡ e → nat_lt o (suc n) ≡ u
    → or_else (cond r (f o) None) (cond e (f n) None) ≡ cond u (f o) None
unfolding or_else
one_more f o n true true u p q w = absurd (grind (arith, nat_tests))
one_more f o n true false true p q w = or_else-none (f o)
one_more f o n true false false p q w = absurd (grind (arith, nat_tests))
one_more f o n false true true p q w = ap f (sym (nat_same o n q))
one_more f o n false true false p q w = absurd (grind (arith, nat_tests))
one_more f o n false false true p q w = absurd (grind (arith, nat_tests))
one_more f o n false false false p q w = refl

one_place : (b : Bool) (f : ℕ → Option CellState) (o n : ℕ)
    → or_else (cond (b && nat_lt o n) (f o) None) (cond (b && nat_eq o n) (f n) None)
    ≡ cond (b && nat_lt o (suc n)) (f o) None
unfolding or_else
one_place true f o n = one_more f o n (nat_lt o n) (nat_eq o n) (nat_lt o (suc n)) refl refl refl
one_place false f o n = refl

no_place : (b : Bool) (o : ℕ) (x : Option CellState) → None ≡ cond (b && nat_lt o 0) x None
no_place true o x = ap (λ r. cond r x None) (sym none)
  where
    none : nat_lt o 0 ≡ false
    none = grind (arith, nat_tests)
no_place false o x = refl

find-cells_below : (c : Cell) (p : ℤ × Structure) (ss : List Slot) (n : ℕ) → n ≤ 8
    → find cell_cmp c (cells_below n p ss)
    ≡ cond (same_page (page_of c) p && nat_lt (offset_of c) n) (state_in ss (offset_of c)) None
unfolding cells_below
find-cells_below c p ss zero h = no_place (same_page (page_of c) p) (offset_of c) (state_in ss (offset_of c))
find-cells_below c p ss (suc n) h =
    find-append c (cells_below n p ss) (entry_at (cell_in p n) (state_in ss n))
    ∙ ap (λ o. or_else o (find cell_cmp c (entry_at (cell_in p n) (state_in ss n))))
    (find-cells_below c p ss n (omega arith))
    ∙ ap (or_else (cond (same_page (page_of c) p && nat_lt (offset_of c) n) (state_in ss (offset_of c)) None))
    (find-entry_at c (cell_in p n) (state_in ss n)
    ∙ ap (λ b. cond b (state_in ss n) None) (ties-cell_in c p n (omega arith)))
    ∙ one_place (same_page (page_of c) p) (state_in ss) (offset_of c) n

whole : (b r : Bool) (x : Option CellState) → r ≡ true → cond (b && r) x None ≡ cond b x None
whole true true x e = refl
whole false true x e = refl
whole b false x e = absurd (cc)

find-page_cells : (c : Cell) (e : (ℤ × Structure) × Vec Slot Global)
    → find cell_cmp c (page_cells e) ≡ cond (same_page (page_of c) e.0) (state_in e.1.items (offset_of c)) None
find-page_cells c e =
    find-cells_below c e.0 e.1.items 8 (omega arith)
    ∙ whole (same_page (page_of c) e.0) (nat_lt (offset_of c) 8) (state_in e.1.items (offset_of c))
    (let h : offset_of c < 8 = below_8 c.index in grind (arith, nat_tests))

absent : (p : ℤ × Structure) (es : List ((ℤ × Structure) × Vec Slot Global))
    → AllByRecursion (λ q. same_page p q ≡ false) (keys_of es)
    → lookup (same_page p) es ≡ None
absent p [] h = refl
absent p (e ∷ es) h = ap (λ b. cond b (Some e.1) (lookup (same_page p) es)) h.0 ∙ absent p es h.1

first_page : (p : ℤ × Structure) (k : ℕ) (e : (ℤ × Structure)
    × Vec Slot Global) (es : List ((ℤ × Structure) × Vec Slot Global))
    → AllByRecursion (λ q. same_page e.0 q ≡ false) (keys_of es) → (b : Bool) → same_page p e.0 ≡ b
    → or_else (cond b (state_in e.1.items k) None) (state_at es p k)
    ≡ option_and_then (λ v. state_in v.items k) (cond b (Some e.1) (lookup (same_page p) es))
unfolding or_else
first_page p k e es apart true is =
    ap (or_else (state_in e.1.items k))
    (ap (λ q. state_at es q k) (one_page p e.0 is)
    ∙ ap (option_and_then (λ v. state_in v.items k)) (absent e.0 es apart))
    ∙ or_else-none (state_in e.1.items k)
first_page p k e es apart false is = refl

find-cells_in : (c : Cell) (es : List ((ℤ × Structure) × Vec Slot Global)) → IsDistinct same_page (keys_of es)
    → find cell_cmp c (cells_in es) ≡ state_at es (page_of c) (offset_of c)
unfolding IsDistinct
find-cells_in c [] unique = refl
find-cells_in c (e ∷ es) unique =
    ap (find cell_cmp c) (flat_map-cons page_cells e es)
    ∙ find-append c (page_cells e) (cells_in es)
    ∙ ap (λ o. or_else o (find cell_cmp c (cells_in es))) (find-page_cells c e)
    ∙ ap (or_else (cond (same_page (page_of c) e.0) (state_in e.1.items (offset_of c)) None))
    (find-cells_in c es unique.1) ∙ first_page (page_of c) (offset_of c) e es unique.0 (same_page (page_of c) e.0) refl

-- what the map that the pages make has at a cell
get_state : (es : List ((ℤ × Structure) × Vec Slot Global)) → IsDistinct same_page (keys_of es) → (c : Cell)
    → get (from_entries {R = cell_cmp} (cells_in es)) c ≡ state_at es (page_of c) (offset_of c)
get_state es unique c = get-from_entries cells_total (cells_in es) c ∙ find-cells_in c es unique

cells_apart : (c d : Cell) → eq_by_cmp cell_cmp d c ≡ false
    → (same_page (page_of c) (page_of d) && nat_eq (offset_of c) (offset_of d)) ≡ false
cells_apart c d h =
    sym (ties-cell_in c (page_of d) (offset_of d) (below_8 d.index)) ∙ ap (eq_by_cmp cell_cmp c) (cell_in-page_of d)
    ∙ (eq_by_cmp_equiv cells_total).symm c d ∙ h

-- ---- a change at one cell

module _ (es : List ((ℤ × Structure) × Vec Slot Global)) (unique : IsDistinct same_page (keys_of es)) (s : Cells)
    (is : from_entries (cells_in es) ≡ s)
    (c : Cell) (p : ℤ × Structure) (page : p ≡ page_of c) (k : ℕ) (place : k ≡ offset_of c) where
  -- what the map that pages make has at the cell
  get_page : (fs : List ((ℤ × Structure) × Vec Slot Global)) → IsDistinct same_page (keys_of fs) →
      get (from_entries {R = cell_cmp} (cells_in fs)) c ≡ state_at fs p k
  get_page fs u = get_state fs u c ∙ ap (λ q. state_at fs q (offset_of c)) (sym page) ∙ ap (state_at fs p) (sym place)

  -- what the map has at the cell
  pub at_cell : get s c ≡ state_at es p k
  at_cell = ap (λ r. get r c) (sym is) ∙ get_page es unique

  module _ (fs : List ((ℤ × Structure) × Vec Slot Global)) (u : IsDistinct same_page (keys_of fs))
      (others : (q : ℤ × Structure) (l : ℕ) → (same_page p q && nat_eq k l) ≡ false
      → state_at fs q l ≡ state_at es q l) where
    abbrev after : Cells
    after = from_entries (cells_in fs)

    elsewhere : (d : Cell) → eq_by_cmp cell_cmp d c ≡ false → get after d ≡ get s d
    elsewhere d apart =
        get_state fs u d
        ∙ others (page_of d) (offset_of d) (ap (λ q. same_page q (page_of d) && nat_eq k (offset_of d)) page
        ∙ ap (λ l. same_page (page_of c) (page_of d) && nat_eq l (offset_of d)) place ∙ cells_apart c d apart)
        ∙ sym (get_state es unique d) ∙ ap (λ r. get r d) is

    with_new : (x : CellState) → state_at fs p k ≡ Some x → (d : Cell) (b : Bool) → eq_by_cmp cell_cmp d c ≡ b
        → get after d ≡ cond b (Some x) (get s d)
    with_new x here d true e = ap (get after) (one_cell c d e) ∙ get_page fs u ∙ here
    with_new x here d false e = elsewhere d e

    inserted : (x : CellState) → state_at fs p k ≡ Some x → after ≡ insert s c x
    inserted x here =
        same_map cells_total exact_cells after (insert s c x)
        (λ d. with_new x here d (eq_by_cmp cell_cmp d c) refl ∙ sym (get-insert cells_total s c x d))

    with_old : state_at fs p k ≡ state_at es p k → (d : Cell) (b : Bool) → eq_by_cmp cell_cmp d c ≡ b
        → get after d ≡ get s d
    with_old here d true e =
        ap (get after) (one_cell c d e) ∙ get_page fs u ∙ here ∙ sym at_cell ∙ ap (get s) (sym (one_cell c d e))
    with_old here d false e = elsewhere d e

    -- a call that puts something at the cell's place changes the map so
    pub insert-from_pages : {A : Type 0} (r : Result A AllocError) (f : Option CellState → CellState)
        → OnOk r (state_at fs p k ≡ Some (f (state_at es p k)))
        → OnOk r (from_entries (cells_in fs) ≡ insert s c (f (get s c)))
    insert-from_pages (Ok a) f here = inserted (f (get s c)) (here ∙ ap (λ o. Some (f o)) (sym at_cell))
    insert-from_pages (Err e) f here = tt

    -- one that leaves what is there leaves the map
    pub same-from_pages : {A : Type 0} (r : Result A AllocError) → OnErr r (state_at fs p k ≡ state_at es p k)
        → OnErr r (from_entries (cells_in fs) ≡ s)
    same-from_pages (Ok a) here = tt
    same-from_pages (Err e) here =
        same_map cells_total exact_cells after s (λ d. with_old here d (eq_by_cmp cell_cmp d c) refl)

-- ---- the slots of a page by its place

pairs : (q : ℤ × Structure) (w : Vec Slot Global) (p : ℤ × Structure) (v : Vec Slot Global) → Some q ≡ Some p
    → Some w ≡ Some v → ◌≡◌ {A = Option ((ℤ × Structure) × Vec Slot Global)} (Some (q, w)) (Some (p, v))
pairs q w p v h g = cc

both_at : (es : List ((ℤ × Structure) × Vec Slot Global)) (i : ℕ) (p : ℤ × Structure) (v : Vec Slot Global)
    → slice_get (keys_of es) i ≡ Some p → slice_get (values_of es) i ≡ Some v → slice_get es i ≡ Some (p, v)
both_at [] i p v h g = cc
both_at (e ∷ es) zero p v h g = pairs e.0 e.1 p v h g
both_at (e ∷ es) (suc i) p v h g = both_at es i p v h g

-- the page that is found at a place is the one
pub state_at-place : (es : List ((ℤ × Structure) × Vec Slot Global)) → IsDistinct same_page (keys_of es) →
    (i : ℕ) (p : ℤ × Structure) (v : Vec Slot Global) (k : ℕ)
    → slice_get (keys_of es) i ≡ Some p → slice_get (values_of es) i ≡ Some v → state_at es p k ≡ state_in v.items k
state_at-place es unique i p v k h g =
    ap (option_and_then (λ w. state_in w.items k))
    (lookup_from_place same_page_laws es i p v unique (both_at es i p v h g))

-- one that is not there has none
pub state_at-none : (es : List ((ℤ × Structure) × Vec Slot Global)) (p : ℤ × Structure) (k : ℕ)
    → lookup (same_page p) es ≡ None → state_at es p k ≡ None
state_at-none es p k h = ap (option_and_then (λ w. state_in w.items k)) h

-- the place of the first key that passes the test for a page is the page's
pub place_from_position : (p : ℤ × Structure) (es : List ((ℤ × Structure) × Vec Slot Global)) (r : Option ℕ)
    → r ≡ position (same_page p) (keys_of es) → IfSome r (λ i. slice_get (keys_of es) i ≡ Some p)
place_from_position p es None is = tt
place_from_position p es (Some i) is =
    let at = position-Some (same_page p) (keys_of es) i p (sym is) in
    slice_get-get_or (keys_of es) i p at.0 ∙ ap Some (sym (one_page p (get_or (keys_of es) i p) at.1))

-- entries as pairs of their parts
pub same_entries : (es : List ((ℤ × Structure) × Vec Slot Global)) → map (λ e. (e.0, e.1)) es ≡ es
same_entries [] = refl
same_entries (e ∷ es) = ap (λ fs. e ∷ fs) (same_entries es)

-- ---- what a page lists

pub cells_below-none : (p : ℤ × Structure) (ss : List Slot) → cells_below 0 p ss ≡ []
unfolding cells_below
cells_below-none p ss = refl

pub cells_below-next : (n : ℕ) (p : ℤ × Structure) (ss : List Slot)
    → cells_below (n + 1) p ss ≡ cells_below n p ss ++ entry_at (cell_in p n) (state_in ss n)
unfolding cells_below
cells_below-next n p ss = ap (λ m. cells_below m p ss) (next n)
  where
    next : (n : ℕ) → n + 1 ≡ suc n
    next n = omega arith

nil_left : {X : Type 0} (xs ys : List X) → xs ++ ys ≡ [] → xs ≡ []
nil_left [] ys e = refl
nil_left (x ∷ xs) ys e = cc

nil_right : {X : Type 0} (xs ys : List X) → xs ++ ys ≡ [] → ys ≡ []
nil_right [] ys e = e
nil_right (x ∷ xs) ys e = cc

none_at : (c : Cell) (o : Option CellState) → entry_at c o ≡ [] → o ≡ None
none_at c None e = refl
none_at c (Some s) e = cc

none_below : (n : ℕ) (p : ℤ × Structure) (ss : List Slot) → n ≤ 8 → HasNone ss → cells_below n p ss ≡ []
unfolding cells_below HasNone
none_below zero p ss h none = refl
none_below (suc n) p ss h none =
    ap (λ l. l ++ entry_at (cell_in p n) (state_in ss n)) (none_below n p ss (omega arith) none)
    ∙ ap (entry_at (cell_in p n)) (none n (omega arith))

at_or_below : (k n : ℕ) (P : ℕ → Type 0) → k < suc n → ((j : ℕ) → j < n → P j) → P n → P k
at_or_below k n P h below here = by (nat_eq k n) refl
  where
    by : (b : Bool) → nat_eq k n ≡ b → P k
    by true is = subst P (sym (nat_same k n is)) here
    by false is = below k (grind (arith, nat_tests))

from_below : (n : ℕ) (p : ℤ × Structure) (ss : List Slot) → cells_below n p ss ≡ [] → (k : ℕ) → k < n
    → state_in ss k ≡ None
unfolding cells_below
from_below zero p ss e k h = absurd (omega arith)
from_below (suc n) p ss e k h =
    at_or_below k n (λ j. state_in ss j ≡ None) h
    (from_below n p ss (nil_left (cells_below n p ss) (entry_at (cell_in p n) (state_in ss n)) e))
    (none_at (cell_in p n) (state_in ss n) (nil_right (cells_below n p ss) (entry_at (cell_in p n) (state_in ss n)) e))

none_in : (es : List ((ℤ × Structure) × Vec Slot Global)) → AllByRecursion (λ e. HasNone e.1.items) es
    → cells_in es ≡ []
none_in [] all = refl
none_in (e ∷ es) all =
    flat_map-cons page_cells e es ∙ ap (λ l. l ++ cells_in es) (none_below 8 e.0 e.1.items (omega arith) all.0)
    ∙ none_in es all.1

from_in : (es : List ((ℤ × Structure) × Vec Slot Global)) → cells_in es ≡ []
    → AllByRecursion (λ e. HasNone e.1.items) es
unfolding HasNone
from_in [] h = tt
from_in (e ∷ es) h =
    let both : page_cells e ++ cells_in es ≡ [] = sym (flat_map-cons page_cells e es) ∙ h in (
      from_below 8 e.0 e.1.items (nil_left (page_cells e) (cells_in es) both),
      from_in es (nil_right (page_cells e) (cells_in es) both),
    )

some_none : {X : Type 0} {x : X} → Some x ≡ None → ⊥
some_none e = cc

none-from_empty : (es : List (Cell × CellState)) → from_entries {R = cell_cmp} es ≡ empty → es ≡ []
none-from_empty [] e = refl
none-from_empty (x ∷ es) e =
    let here : get (from_entries {R = cell_cmp} (x ∷ es)) x.0 ≡ Some x.1 =
    get-insert cells_total (from_entries es) x.0 x.1 x.0
    ∙ ap (λ b. cond b (Some x.1) (get (from_entries {R = cell_cmp} es) x.0)) (own_cell x.0) in
    absurd (some_none (sym here ∙ ap (λ m. get m x.0) e ∙ get-empty cell_cmp x.0))

-- pages of which none was read or written make the map that has nothing
pub empty-from_none : (es : List ((ℤ × Structure) × Vec Slot Global)) → AllByRecursion (λ e. HasNone e.1.items) es →
    from_entries {R = cell_cmp} (cells_in es) ≡ empty
empty-from_none es all = ap (λ l. from_entries {R = cell_cmp} l) (none_in es all)

-- and only they do
pub none-from_pages : (es : List ((ℤ × Structure) × Vec Slot Global))
    → from_entries {R = cell_cmp} (cells_in es) ≡ empty →
    AllByRecursion (λ e. HasNone e.1.items) es
none-from_pages es e = from_in es (none-from_empty (cells_in es) e)

-- ---- no replies

pub all_append : {X : Type 0} (P : X → Type 0) (xs ys : List X) → AllByRecursion P xs → AllByRecursion P ys
    → AllByRecursion P (xs ++ ys)
all_append P [] ys h g = g
all_append P (x ∷ xs) ys h g = (h.0, all_append P xs ys h.1 g)

pub all_weaker : {X : Type 0} (P Q : X → Type 0) → ((x : X) → P x → Q x) → (xs : List X) → AllByRecursion P xs
    → AllByRecursion Q xs
all_weaker P Q f [] h = tt
all_weaker P Q f (x ∷ xs) h = (f x h.0, all_weaker P Q f xs h.1)

readers_at-none : (c : Cell) (s : CellState) → count_readers (Some s) ≡ 0 → readers_at (c, s) ≡ []
readers_at-none c (Present v w) none = refl
readers_at-none c (Deferred []) none = refl
readers_at-none c (Deferred (t ∷ ts)) none = absurd (omega (arith, none))

-- no reply waits at the cells of these entries
abbrev NoneWait : List (Cell × CellState) → Type 0
NoneWait es = AllByRecursion (λ e. count_readers (Some e.1) ≡ 0) es

NoneWait-put : (k : Cell) (s : CellState) (es : List (Cell × CellState)) → count_readers (Some s) ≡ 0 → NoneWait es
    → NoneWait (put cell_cmp k s es)
NoneWait-put k s [] none all = (none, tt)
NoneWait-put k s (e ∷ es) none all =
    elim (cell_cmp k e.0) as (λ o. NoneWait (by_order o ((k, s) ∷ e ∷ es) ((e.0, s) ∷ es) (e ∷ put cell_cmp k s es))) [
      | Less ↦ (none, all)
      | Equal ↦ (none, all.1)
      | Greater ↦ (all.0, NoneWait-put k s es none all.1)
    ]

NoneWait-entries : (es : List (Cell × CellState)) → NoneWait es → NoneWait (entries (from_entries {R = cell_cmp} es))
NoneWait-entries [] all =
    subst NoneWait (sym (no_entries (entries empty) (sym (len-entries empty) ∙ len-empty cell_cmp CellState))) tt
  where
    no_entries : (fs : List (Cell × CellState)) → length fs ≡ 0 → fs ≡ []
    no_entries [] is = refl
    no_entries (f ∷ fs) is = absurd (omega (arith, is))
NoneWait-entries (e ∷ es) all =
    subst NoneWait (sym (entries-insert cells_total (from_entries es) e.0 e.1))
    (NoneWait-put e.0 e.1 (entries (from_entries {R = cell_cmp} es)) all.0 (NoneWait-entries es all.1))

readers-none : (es : List (Cell × CellState)) → NoneWait es → flat_map readers_at es ≡ []
readers-none [] all = refl
readers-none (e ∷ es) all =
    ap (λ rs. rs ++ flat_map readers_at es) (readers_at-none e.0 e.1 all.0) ∙ readers-none es all.1

NoneWait-entry_at : (c : Cell) (o : Option CellState) → count_readers o ≡ 0 → NoneWait (entry_at c o)
NoneWait-entry_at c None h = tt
NoneWait-entry_at c (Some s) h = (h, tt)

NoneWait-cells_below : (n : ℕ) (p : ℤ × Structure) (ss : List Slot) → n ≤ 8 → HasNoReaders ss
    → NoneWait (cells_below n p ss)
unfolding cells_below HasNoReaders
NoneWait-cells_below zero p ss h none = tt
NoneWait-cells_below (suc n) p ss h none =
    all_append _ (cells_below n p ss) (entry_at (cell_in p n) (state_in ss n))
    (NoneWait-cells_below n p ss (omega arith) none)
    (NoneWait-entry_at (cell_in p n) (state_in ss n) (none n (omega arith)))

NoneWait-cells_in : (es : List ((ℤ × Structure) × Vec Slot Global)) → AllByRecursion (λ e. HasNoReaders e.1.items) es
    → NoneWait (cells_in es)
NoneWait-cells_in [] all = tt
NoneWait-cells_in (e ∷ es) all =
    subst NoneWait (sym (flat_map-cons page_cells e es))
    (all_append _ (page_cells e) (cells_in es) (NoneWait-cells_below 8 e.0 e.1.items (omega arith) all.0)
    (NoneWait-cells_in es all.1))

-- so none is listed
pub deferred_of-none : (es : List ((ℤ × Structure) × Vec Slot Global)) → AllByRecursion (λ e. HasNoReaders e.1.items) es
    → deferred_of (from_entries {R = cell_cmp} (cells_in es)) ≡ []
deferred_of-none es all =
    readers-none (entries (from_entries {R = cell_cmp} (cells_in es)))
    (NoneWait-entries (cells_in es) (NoneWait-cells_in es all))

-- ---- the cells of a page

pub keys_of-append : (xs ys : List (Cell × CellState)) → keys_of (xs ++ ys) ≡ keys_of xs ++ keys_of ys
keys_of-append [] ys = refl
keys_of-append (x ∷ xs) ys = ap (λ l. x.0 ∷ l) (keys_of-append xs ys)

-- a cell of a page, at one of its first n places
abbrev pub IsBelow : ℕ → ℤ × Structure → Cell → Type 0
IsBelow n p d = (page_of d ≡ p) × (offset_of d < n)

below-entry_at : (n : ℕ) (p : ℤ × Structure) (o : Option CellState) → n < 8
    → AllByRecursion (IsBelow (suc n) p) (keys_of (entry_at (cell_in p n) o))
below-entry_at n p None h = tt
below-entry_at n p (Some s) h =
    let at : offset_of (cell_in p n) ≡ n = offset_of-cell_in p n h in
    ((page_of-cell_in p n h, omega (arith, at)), tt)

pub below-cells_below : (n : ℕ) (p : ℤ × Structure) (ss : List Slot) → n ≤ 8
    → AllByRecursion (IsBelow n p) (keys_of (cells_below n p ss))
unfolding cells_below
below-cells_below zero p ss h = tt
below-cells_below (suc n) p ss h =
    let xs = cells_below n p ss in
    let ys = entry_at (cell_in p n) (state_in ss n) in
    subst (AllByRecursion (IsBelow (suc n) p)) (sym (keys_of-append xs ys))
    (all_append (IsBelow (suc n) p) (keys_of xs) (keys_of ys)
    (all_weaker (IsBelow n p) (IsBelow (suc n) p) (λ d g. (g.0, wider (offset_of d) g.1)) (keys_of xs)
    (below-cells_below n p ss (omega arith)))
    (below-entry_at n p (state_in ss n) (omega arith)))
  where
    wider : (m : ℕ) → m < n → m < suc n
    wider m g = omega arith

-- ---- pages in another order

-- make the same map
pub same-from_permutation : (es fs : List ((ℤ × Structure) × Vec Slot Global)) → IsPermutation es fs
    → IsDistinct same_page (keys_of es) →
    IsDistinct same_page (keys_of fs)
    → from_entries {R = cell_cmp} (cells_in fs) ≡ from_entries {R = cell_cmp} (cells_in es)
same-from_permutation es fs moved u w =
    same_map cells_total exact_cells _ _
    (λ d. get_state fs w d
    ∙ ap (option_and_then (λ v. state_in v.items (offset_of d)))
    (lookup_permutation same_page_laws es fs moved w (same_page (page_of d)) (same_page_laws.congr (page_of d)))
    ∙ sym (get_state es u d))

-- and differ as well
pub distinct-from_permutation : (es fs : List ((ℤ × Structure) × Vec Slot Global)) → IsPermutation es fs
    → IsDistinct same_page (keys_of es) →
    IsDistinct same_page (keys_of fs)
distinct-from_permutation es fs moved u =
    IsDistinct-IsPermutation same_page same_page_laws.symm (keys_of es) (keys_of fs)
    (IsPermutation-map (λ (e : (ℤ × Structure) × Vec Slot Global). e.0) es fs moved) u

-- ---- a change of one page

-- at what the page's place has, and at no other place, the pages say something new
put_page : (es fs : List ((ℤ × Structure) × Vec Slot Global)) (p : ℤ × Structure) (o : ℕ) (old : List Slot)
    (w : Vec Slot Global) → ((k : ℕ) → state_at es p k ≡ state_in old k) → lookup (same_page p) fs ≡ Some w
    → ((q : ℤ × Structure) → same_page p q ≡ false → lookup (same_page q) fs ≡ lookup (same_page q) es)
    → ((k : ℕ) → k ≢ o → state_in w.items k ≡ state_in old k)
    → (q : ℤ × Structure) (l : ℕ) → (same_page p q && nat_eq o l) ≡ false → state_at fs q l ≡ state_at es q l
put_page es fs p o old w was now rest kept q l apart = by (same_page p q) refl
  where
    by : (b : Bool) → same_page p q ≡ b → state_at fs q l ≡ state_at es q l
    by true is =
        let one : p ≡ q = one_page p q is in
        let differ : nat_eq o l ≡ false = sym (ap (λ b. b && nat_eq o l) is) ∙ apart in
        ap (λ r. state_at fs r l) (sym one) ∙ ap (option_and_then (λ v. state_in v.items l)) now
        ∙ kept l (λ e. true≢false (sym (nat_self o) ∙ ap (nat_eq o) (sym e) ∙ differ)) ∙ sym (was l)
        ∙ ap (λ r. state_at es r l) one
    by false is = ap (option_and_then (λ v. state_in v.items l)) (rest q is)

module _ {S : Type 0} (m : HashMap (ℤ × Structure) (Vec Slot Global) S) (unique : IsUnique same_page m) (i : ℕ) (p q : ℤ
    × Structure) (v w : Vec Slot Global)
    (found : slice_get (keys_of m.entries) i ≡ Some p) (entry : slice_get m.entries i ≡ Some (q, v)) where
  own : q ≡ p
  own = some_same (sym (ap (option_map (λ e. e.0)) entry) ∙ sym (slice_get-map (λ e. e.0) m.entries i) ∙ found)
    where
      some_same : {a b : ℤ × Structure} → Some a ≡ Some b → a ≡ b
      some_same e = cc

  at_place : slice_get m.entries i ≡ Some (p, v)
  at_place = entry ∙ ap (λ r. Some (r, v)) own

  -- what the page at a place has
  pub state_at-entry : (k : ℕ) → state_at m.entries p k ≡ state_in v.items k
  state_at-entry k =
      ap (option_and_then (λ u. state_in u.items k)) (lookup_from_place same_page_laws m.entries i p v unique at_place)

  updated : Updates same_page m (with_value_at m i w) p (Some w)
  updated = updates-with_value_at m i w same_page_laws unique p v at_place

  -- and has after a write of the page
  pub state_at-written : (k : ℕ) → state_at (set_value_at m.entries i w) p k ≡ state_in w.items k
  state_at-written k = ap (option_and_then (λ u. state_in u.items k)) updated.1

  pub others-written : (o : ℕ) → ((k : ℕ) → k ≢ o → state_in w.items k ≡ state_in v.items k)
      → (r : ℤ × Structure) (l : ℕ) → (same_page p r && nat_eq o l) ≡ false
      → state_at (set_value_at m.entries i w) r l ≡ state_at m.entries r l
  others-written o kept =
      put_page m.entries (set_value_at m.entries i w) p o v.items w state_at-entry updated.1 updated.2 kept

  pub unique-written : IsUnique same_page (with_value_at m i w)
  unique-written = subst (IsDistinct same_page) (sym (keys-with_value_at m i w)) unique

module _ {S : Type 0} (m n : HashMap (ℤ × Structure) (Vec Slot Global) S) (p : ℤ × Structure) (w : Vec Slot Global)
    (absent : hash.get same_page m p ≡ None)
  where
    -- a new page, none of whose cells was read or written, changes nothing
    pub same-new : w.items ≡ [] → Updates same_page m n p (Some w) → (q : ℤ × Structure) (k : ℕ)
        → state_at n.entries q k ≡ state_at m.entries q k
    same-new none u q k = by (same_page p q) refl
      where
        by : (b : Bool) → same_page p q ≡ b → state_at n.entries q k ≡ state_at m.entries q k
        by true is =
            let one : p ≡ q = one_page p q is in
            ap (λ r. state_at n.entries r k) (sym one) ∙ ap (option_and_then (λ v. state_in v.items k)) u.1
            ∙ ap (λ ss. state_in ss k) none
            ∙ sym (state_at-none m.entries p k absent) ∙ ap (λ r. state_at m.entries r k) one
        by false is = ap (option_and_then (λ v. state_in v.items k)) (u.2 q is)

    last_key : (es : List ((ℤ × Structure) × Vec Slot Global)) (e : (ℤ × Structure) × Vec Slot Global) →
        slice_get (keys_of (es ++ e ∷ [])) (length es) ≡ Some e.0
    last_key [] e = refl
    last_key (x ∷ es) e = last_key es e

    -- comes last
    pub found-new : n.entries ≡ insert_entry same_page m.entries p w
        → slice_get (keys_of n.entries) (length m.entries) ≡ Some p
    found-new is =
        ap (λ es. slice_get (keys_of es) (length m.entries)) (is ∙ insert_entry-new same_page m p w absent)
        ∙ last_key m.entries (p, w)

-- what holds at an answer implies more there
pub if_ok : {A B : Type 0} (r : Result A B) (P Q : A → Type 0) → ((a : A) → P a → Q a) → IfOk r P → IfOk r Q
if_ok (Ok a) P Q f h = f a h
if_ok (Err e) P Q f h = tt
