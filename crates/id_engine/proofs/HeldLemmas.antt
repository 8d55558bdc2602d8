-- The structures and cells of a report of a sound run, and its fetches that wait (specs/Reports.antt).
use Rattle.std.proofs.Common.{◌≡◌, ◌⊎◌, inl, inr, ℕ, ℤ, List, [], ◌∷◌, ◌++◌, map, refl, sym, ap, subst}
use Rattle.id_instr.specs.Graph.{Parts}
use Rattle.id_source.specs.declared.Ask.{Ask}
use Rattle.id_source.specs.declared.Put.{Put}
use Rattle.id_source.specs.declared.Shape.{Shape}
use Rattle.id_source.specs.declared.Site.{Site}
use Rattle.id_source.specs.declared.Fact.TheVariants as fact
use Rattle.id_source.specs.Rounds.{Holds}
use Rattle.id_value.specs.List.{Among, AllDiffer}
use Rattle.id_source.specs.Sources.{Source}
use Rattle.id_source.specs.Names.{AreWaiting}
use Rattle.id_source.specs.Orders.{AskBefore, Rises}
use Rattle.id_core.specs.Machines.{World}
use Rattle.id_core.specs.Observed as shown
use Rattle.id_core.specs.Observed.{CellValue}
use Rattle.id_laws.specs.Laws.{IsSound, IsComplete}
use Rattle.id_print.specs.declared.helds.Held.{Held}
use Rattle.id_print.specs.declared.helds.Held.TheVariants.{Array, Cell}
use Rattle.id_print.specs.Names.{AreApartBy, AreHeld, AreSomeHeld, HeldBefore, IsOrderOf, IsPut, OfOneFetch, OfOneThing}
use Rattle.id_print.specs.Names.{WaitBefore, held_lines}
use Rattle.id_engine.proofs.NamesLemmas.{among_map, among_permuted, among_sorted, differ_by, one_by}

-- what is among two lists is among one of them
among_either : {A : Type 0} (x : A) (xs ys : List A) → Among x (xs ++ ys) → Among x xs ⊎ Among x ys
among_either x [] ys h = inr h
among_either x (y ∷ xs) ys (inl e) = inl (inl e)
among_either x (y ∷ xs) ys (inr h) = at (among_either x xs ys h)
  where
    at : Among x xs ⊎ Among x ys → Among x (y ∷ xs) ⊎ Among x ys
    at (inl k) = inl (inr k)
    at (inr k) = inr k

among_first : {A : Type 0} (x : A) (xs ys : List A) → Among x xs → Among x (xs ++ ys)
among_first x [] ys h = absurd h
among_first x (y ∷ xs) ys (inl e) = inl e
among_first x (y ∷ xs) ys (inr h) = inr (among_first x xs ys h)

among_second : {A : Type 0} (x : A) (xs ys : List A) → Among x ys → Among x (xs ++ ys)
among_second x [] ys h = h
among_second x (y ∷ xs) ys h = inr (among_second x xs ys h)

-- a line about a structure is one of the structures', and one about a cell one of the cells'
array_among : (x : Shape) (ss : List Shape) → Among (Array x) (map Array ss) → Among x ss
array_among x [] h = absurd h
array_among x (s ∷ ss) (inl e) = inl cc
array_among x (s ∷ ss) (inr h) = inr (array_among x ss h)

no_cell : (x : CellValue) (ss : List Shape) → Among (Cell x) (map Array ss) → ⊥
no_cell x [] h = h
no_cell x (s ∷ ss) (inl e) = absurd cc
no_cell x (s ∷ ss) (inr h) = no_cell x ss h

cell_among : (x : CellValue) (ps : List CellValue) → Among (Cell x) (map Cell ps) → Among x ps
cell_among x [] h = absurd h
cell_among x (p ∷ ps) (inl e) = inl cc
cell_among x (p ∷ ps) (inr h) = inr (cell_among x ps h)

no_array : (x : Shape) (ps : List CellValue) → Among (Array x) (map Cell ps) → ⊥
no_array x [] h = h
no_array x (p ∷ ps) (inl e) = absurd cc
no_array x (p ∷ ps) (inr h) = no_array x ps h

the_shape : (x : Shape) (ss : List Shape) (ps : List CellValue) → Among (Array x) (map Array ss ++ map Cell ps)
    → Among x ss
the_shape x ss ps h = at (among_either (Array x) (map Array ss) (map Cell ps) h)
  where
    at : Among (Array x) (map Array ss) ⊎ Among (Array x) (map Cell ps) → Among x ss
    at (inl k) = array_among x ss k
    at (inr k) = absurd (no_array x ps k)

the_cell : (x : CellValue) (ss : List Shape) (ps : List CellValue) → Among (Cell x) (map Array ss ++ map Cell ps)
    → Among x ps
the_cell x ss ps h = at (among_either (Cell x) (map Array ss) (map Cell ps) h)
  where
    at : Among (Cell x) (map Array ss) ⊎ Among (Cell x) (map Cell ps) → Among x ps
    at (inl k) = absurd (no_cell x ss k)
    at (inr k) = cell_among x ps k

-- the lines about structures all differ where these do, and so do those about cells
arrays_differ : (ss : List Shape) → AllDiffer ss → AllDiffer (map Array ss)
arrays_differ [] h = tt
arrays_differ (s ∷ ss) h = (λ k. h.0 (array_among s ss k), arrays_differ ss h.1)

cells_differ : (ps : List CellValue) → AllDiffer ps → AllDiffer (map Cell ps)
cells_differ [] h = tt
cells_differ (p ∷ ps) h = (λ k. h.0 (cell_among p ps k), cells_differ ps h.1)

both_differ : {A : Type 0} (xs ys : List A) → AllDiffer xs → AllDiffer ys → ((x : A) → Among x xs → Among x ys → ⊥)
    → AllDiffer (xs ++ ys)
both_differ [] ys h k apart = k
both_differ (x ∷ xs) ys h k apart =
    (λ a. none (among_either x xs ys a), both_differ xs ys h.1 k (λ y b c. apart y (inr b) c))
  where
    none : Among x xs ⊎ Among x ys → ⊥
    none (inl a) = h.0 a
    none (inr a) = apart x (inl refl) a

not_both : (h : Held) (ss : List Shape) (ps : List CellValue) → Among h (map Array ss) → Among h (map Cell ps) → ⊥
not_both (Array s) ss ps a b = no_array s ps b
not_both (Cell p) ss ps a b = no_cell p ss a

-- what is among images is the image of one
among_image : {A B : Type 0} (f : A → B) (xs : List A) (y : B) → Among y (map f xs) → (x : A) × Among x xs × (f x ≡ y)
among_image f [] y h = absurd h
among_image f (x ∷ xs) y (inl e) = (x, inl refl, sym e)
among_image f (x ∷ xs) y (inr h) = let there = among_image f xs y h in (there.0, inr there.1, there.2)

-- the structure and the index of a cell
abbrev key_of : CellValue → Site × ℤ
key_of c = (c.name, c.index)

keys_of : (xs : List Put) → map key_of (map shown.cell_value xs) ≡ map (λ x. (x.name, x.index)) xs
keys_of [] = refl
keys_of (x ∷ xs) = ap (λ ks. (x.name, x.index) ∷ ks) (keys_of xs)

-- what a sound run shows of structures and cells is apart
pub AreApartBy-held : (S : Source) (g : Parts) (number : ℕ → ℕ → ℕ) (w : World) → IsSound S g number w
    → AreApartBy OfOneThing (held_lines (shown.structures g w) (shown.cell_values g w))
AreApartBy-held S g number w s = record {
  differ = both_differ _ _ (arrays_differ ss differ_shapes) (cells_differ ps differ_cells)
      (λ h a b. not_both h ss ps a b);
  one = one;
}
  where
    ss : List Shape
    ss = shown.structures g w

    ps : List CellValue
    ps = shown.cell_values g w

    cells_once : AllDiffer (map key_of ps)
    cells_once = subst AllDiffer (sym (keys_of (shown.cells g w))) s.cells_once

    differ_shapes : AllDiffer ss
    differ_shapes = differ_by (λ x. x.name) ss s.structures_once

    differ_cells : AllDiffer ps
    differ_cells = differ_by key_of ps cells_once

    one : (h k : Held) → Among h (map Array ss ++ map Cell ps) → Among k (map Array ss ++ map Cell ps) → OfOneThing h k
        → h ≡ k
    one (Array x) (Array y) a b e =
        ap Array (one_by (λ x. x.name) ss s.structures_once x y (the_shape x ss ps a) (the_shape y ss ps b) e)
    one (Cell x) (Cell y) a b e =
        ap Cell (one_by key_of ps cells_once x y (the_cell x ss ps a) (the_cell y ss ps b) (λ i. (e.0 i, e.1 i)))
    one (Array x) (Cell y) a b e = absurd e
    one (Cell x) (Array y) a b e = absurd e

-- what a sound run's report says of structures and cells is so
pub AreSomeHeld-sound : (S : Source) (g : Parts) (number : ℕ → ℕ → ℕ) (w : World) (hs : List Held)
    → IsSound S g number w → IsOrderOf HeldBefore hs (held_lines (shown.structures g w) (shown.cell_values g w))
    → Rises HeldBefore hs → AreSomeHeld S hs
AreSomeHeld-sound S g number w hs s sorted rise =
    let all = held_lines (shown.structures g w) (shown.cell_values g w) in
    record {
      shapes = λ x h. s.structures x
          (the_shape x (shown.structures g w) (shown.cell_values g w) (among_sorted all hs (Array x) sorted.same h));
      puts = λ c h. put_there c (among_image shown.cell_value (shown.cells g w) c
          (the_cell c (shown.structures g w) (shown.cell_values g w) (among_sorted all hs (Cell c) sorted.same h)));
      rise = rise;
    }
  where
    put_there : (c : CellValue) → (x : Put) × Among x (shown.cells g w) × (shown.cell_value x ≡ c) → IsPut S c
    put_there c t = (
      t.0.store,
      subst (λ (d : CellValue). Holds S
          (fact.Put (record { name = d.name; index = d.index; value = d.value; store = t.0.store }))) t.2
          (s.cells t.0 t.1),
    )

-- and all, where the run is complete
pub AreHeld-complete : (S : Source) (g : Parts) (w : World) (hs : List Held) → AreSomeHeld S hs → IsComplete S g w
    → IsOrderOf HeldBefore hs (held_lines (shown.structures g w) (shown.cell_values g w)) → AreHeld S hs
AreHeld-complete S g w hs some c sorted =
    let all = held_lines (shown.structures g w) (shown.cell_values g w) in
    record {
      shapes = λ x h. among_permuted all hs (Array x) sorted.same
          (among_first _ _ _ (among_map Array (shown.structures g w) x (c.structures x h)));
      puts = λ x h. among_permuted all hs (Cell (shown.cell_value x)) sorted.same
          (among_second _ (map Array (shown.structures g w)) _ (among_map Cell (shown.cell_values g w) _
          (among_map shown.cell_value (shown.cells g w) x (c.cells x h))));
      some = some;
    }

-- what a sound run shows of fetches that wait is apart
pub AreApartBy-waiting : (S : Source) (g : Parts) (number : ℕ → ℕ → ℕ) (w : World) → IsSound S g number w
    → AreApartBy OfOneFetch (shown.waiting g w)
AreApartBy-waiting S g number w s = record {
  differ = differ_by (λ x. x.fetch) (shown.waiting g w) s.waiting_once;
  one = λ x y h k e. one_by (λ x. x.fetch) (shown.waiting g w) s.waiting_once x y h k e;
}

-- what comes before by its fetch comes before
asks_rise : (ws : List Ask) → Rises WaitBefore ws → Rises AskBefore ws
asks_rise [] h = tt
asks_rise (a ∷ []) h = tt
asks_rise (a ∷ b ∷ ws) h = (inl h.0, asks_rise (b ∷ ws) h.1)

-- what a complete run's report says of fetches that wait is so, and all of it
pub AreWaiting-complete : (S : Source) (g : Parts) (w : World) (ws : List Ask) → IsComplete S g w
    → IsOrderOf WaitBefore ws (shown.waiting g w) →
    Rises WaitBefore ws → AreWaiting S ws
AreWaiting-complete S g w ws c sorted rise = record {
  all = λ x h. among_permuted (shown.waiting g w) ws x sorted.same (c.waiting x h);
  only = λ x h. c.only_waiting x (among_sorted (shown.waiting g w) ws x sorted.same h);
  rise = asks_rise ws rise;
}
