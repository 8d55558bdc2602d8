-- What the banks of all elements list: each cell with its value, and each reply that waits, none twice.
use Rattle.std.proofs.Common.{◌≡◌, inl, inr, ℕ, zero, suc, ◌≤◌, Bool, true, false, ◌&&◌, cond, Some, List, [], ◌∷◌}
use Rattle.std.proofs.Common.{◌++◌, map, slice_get, T, refl, sym, ◌∙◌, ap, subst, arith}
use Rattle.std.specs.List.{flat_map}
use Rattle.std.proofs.lemmas.List.{map-append}
use Rattle.std.specs.FinMap.{get, entries, entries_sorted, get-entries}
use Rattle.std.specs.FinMap.{find, is_sorted}
use Rattle.std.specs.FinMap.Entries.{below_all}
use Rattle.std.specs.Ordering.{eq_by_cmp, is_eq, is_lt}
use Rattle.std.specs.declared.cmp.Ordering.{Ordering}
use Rattle.std.specs.declared.cmp.Ordering.TheVariants.{Less, Equal, Greater}
use Rattle.id_instr.specs.declared.dests.Port.TheVariants.{Zero}
use Rattle.id_instr.specs.Graph.{Parts}
use Rattle.id_tag.specs.declared.Tag.{Tag}
use Rattle.id_tag.specs.declared.Cell.{Cell}
use Rattle.id_tag.specs.declared.Value.{Value}
use Rattle.id_tag.specs.declared.Value.TheVariants.{Signal}
use Rattle.id_tag.specs.declared.Payload.TheVariants.{Token}
use Rattle.id_tag.specs.Tags.{cell_cmp}
use Rattle.id_tag.specs.Routes.{cell_route}
use Rattle.id_bank.specs.declared.cell.Filled.{Filled}
use Rattle.id_bank.specs.declared.cell.Reader.{Reader}
use Rattle.id_bank.specs.Cells.{Cells, CellState, Present, Deferred, filled_at, readers_at, cells_of, deferred_of}
use Rattle.id_step.specs.Steps.{State}
use Rattle.id_core.specs.Machines.{World}
use Rattle.id_value.specs.declared.Constant.{Constant}
use Rattle.id_value.specs.List.{Among, AllDiffer}
use Rattle.id_value.proofs.AmongLemmas.{Among-either, Among-left, Among-right, Among-map, Among-from_map, Among-from_at}
use Rattle.id_value.proofs.AmongLemmas.{at-from_Among}
use Rattle.id_value.proofs.DifferLemmas.{AllDiffer-append}
use Rattle.id_runs.specs.Events.{Event}
use Rattle.id_runs.specs.Keys.{AtPort}
use Rattle.id_runs.specs.Runs.{Reach}
use Rattle.id_runs.specs.OneMessage.{count_for, Few}
use Rattle.id_runs.specs.Cells.{Empty, History, cell_at}
use Rattle.id_runs.proofs.Keys.{hit_itself, counts, count_cons}
use Rattle.id_runs.proofs.Touching.{cell_cases, cell_itself, cell_tie, held_by, held_in, only_home}
use Rattle.id_runs.proofs.Cells.{cells_exact}
use Rattle.id_runs.proofs.CellLaws.{one_read, same_read, waits_unfilled}
use Rattle.id_runs.proofs.SentOnce.{answers, off_once}

-- ---- lists of lists

pub among_flat : {A B : Type 0} (f : A → List B) (xs : List A) (y : B) → Among y (flat_map f xs)
    → (x : A) × Among x xs × Among y (f x)
among_flat f [] y h = absurd h
among_flat f (x ∷ xs) y h =
    elim (Among-either y (f x) (flat_map f xs) h) [
      | inl here ↦ (x, inl refl, here)
      | inr there ↦ (let t = among_flat f xs y there in (t.0, inr t.1, t.2))
    ]

pub flat_among : {A B : Type 0} (f : A → List B) (xs : List A) (x : A) (y : B) → Among x xs → Among y (f x)
    → Among y (flat_map f xs)
flat_among f [] x y h k = absurd h
flat_among f (z ∷ xs) x y (inl is) k = Among-left y (f z) (flat_map f xs) (subst (λ w. Among y (f w)) is k)
flat_among f (z ∷ xs) x y (inr h) k = Among-right y (f z) (flat_map f xs) (flat_among f xs x y h k)

pub map_flat : {A B C : Type 0} (g : B → C) (f : A → List B) (xs : List A)
    → map g (flat_map f xs) ≡ flat_map (λ x. map g (f x)) xs
map_flat g f [] = refl
map_flat g f (x ∷ xs) = map-append g (f x) (flat_map f xs) ∙ ap (λ ys. map g (f x) ++ ys) (map_flat g f xs)

same_suc : {m n : ℕ} → suc m ≡ suc n → m ≡ n
same_suc e = cc

-- lists of which each differs, and no two share anything, differ in a row
pub flat_differ : {A B : Type 0} (f : A → List B) (xs : List A)
    → ((n : ℕ) (x : A) → slice_get xs n ≡ Some x → AllDiffer (f x))
    → ((n m : ℕ) (x z : A) (y : B) → slice_get xs n ≡ Some x → slice_get xs m ≡ Some z → Among y (f x) → Among y (f z)
    → n ≡ m) → AllDiffer (flat_map f xs)
flat_differ f [] each one = tt
flat_differ {A} {B} f (x ∷ xs) each one =
    AllDiffer-append (f x) (flat_map f xs) (each 0 x refl)
    (flat_differ f xs (λ n z h. each (suc n) z h) (λ n m z w y h k u v. same_suc (one (suc n) (suc m) z w y h k u v)))
    (λ y h k. apart y h (among_flat f xs y k))
  where
    apart : (y : B) → Among y (f x) → (z : A) × Among z xs × Among y (f z) → ⊥
    apart y h t =
        let p = at-from_Among t.0 xs t.1 in
        let bad : zero ≡ suc p.0 = one 0 (suc p.0) x t.0 y refl p.1 h t.2 in
        cc

-- where all differ, what stands at two places stands at one
pub differ_at : {A : Type 0} (xs : List A) (n m : ℕ) (x : A) → AllDiffer xs → slice_get xs n ≡ Some x
    → slice_get xs m ≡ Some x → n ≡ m
differ_at [] n m x differ h k = cc
differ_at (y ∷ xs) zero zero x differ h k = refl
differ_at (y ∷ xs) zero (suc m) x differ h k =
    let is : y ≡ x = cc in absurd (differ.0 (subst (λ z. Among z xs) (sym is) (Among-from_at x xs m k)))
differ_at (y ∷ xs) (suc n) zero x differ h k =
    let is : y ≡ x = cc in absurd (differ.0 (subst (λ z. Among z xs) (sym is) (Among-from_at x xs n h)))
differ_at (y ∷ xs) (suc n) (suc m) x differ h k = ap suc (differ_at xs n m x differ.1 h k)

image_at : {A B : Type 0} (f : A → B) (xs : List A) (n : ℕ) (x : A) → slice_get xs n ≡ Some x
    → slice_get (map f xs) n ≡ Some (f x)
image_at f [] n x e = cc
image_at f (y ∷ xs) zero x e = let is : y ≡ x = cc in ap (λ z. Some (f z)) is
image_at f (y ∷ xs) (suc n) x e = image_at f xs n x e

-- ---- the entries of a map of cells

parts_of : (a b : Bool) → T (a && b) → T a × T b
parts_of true b h = (tt, h)
parts_of false b h = absurd h

is_less : (r : Ordering) → T (is_lt r) → r ≡ Less
is_less Less h = refl
is_less Equal h = absurd h
is_less Greater h = absurd h

abbrev Entries : Type 0
Entries = List (Cell × CellState)

below : (c : Cell) (es : Entries) → T (below_all cell_cmp c es) → (e : Cell × CellState) → Among e es
    → cell_cmp c e.0 ≡ Less
below c [] h e a = absurd a
below c (x ∷ es) h e (inl is) = ap (λ (y : Cell × CellState). cell_cmp c y.0) is ∙
    is_less (cell_cmp c x.0) (parts_of (is_lt (cell_cmp c x.0)) (below_all cell_cmp c es) h).0
below c (x ∷ es) h e (inr a) = below c es (parts_of (is_lt (cell_cmp c x.0)) (below_all cell_cmp c es) h).1 e a

not_below : (c d : Cell) → cell_cmp c d ≡ Less → c ≡ d → ⊥
not_below c d less same =
    elim (cell_cases c c) [
      | inl is ↦ (let bad : true ≡ false = sym (tied c) ∙ ap (λ k. is_eq (cell_cmp c k)) same ∙ ap is_eq less in cc)
      | inr other ↦ other.0 refl
    ]
  where
    tied : (k : Cell) → is_eq (cell_cmp k k) ≡ true
    tied k = cell_itself k

found : (es : Entries) → T (is_sorted cell_cmp es) → (e : Cell × CellState) → Among e es
    → find cell_cmp e.0 es ≡ Some e.1
found [] h e a = absurd a
found (x ∷ es) h e (inl is) =
    ap (λ b. cond b (Some x.1) (find cell_cmp e.0 es))
    (ap (λ (y : Cell × CellState). eq_by_cmp cell_cmp e.0 y.0) (sym is) ∙ cell_itself e.0)
    ∙ ap (λ (y : Cell × CellState). Some y.1) (sym is)
found (x ∷ es) h e (inr a) =
    let z = parts_of (below_all cell_cmp x.0 es) (is_sorted cell_cmp es) h in
    let less = below x.0 es z.0 e a in
    elim (cell_cases e.0 x.0) [
      | inl same ↦ absurd (not_below x.0 e.0 less (sym same))
      | inr other ↦ ap (λ b. cond b (Some x.1) (find cell_cmp e.0 es)) other.1 ∙ found es z.1 e a
    ]

among_found : (es : Entries) (c : Cell) (x : CellState) → find cell_cmp c es ≡ Some x → Among (c, x) es
among_found [] c x e = cc
among_found (y ∷ es) c x e = go (eq_by_cmp cell_cmp c y.0) refl e (among_found es c x)
  where
    go : (b : Bool) → eq_by_cmp cell_cmp c y.0 ≡ b → cond b (Some y.1) (find cell_cmp c es) ≡ Some x
        → (find cell_cmp c es ≡ Some x → Among (c, x) es) →
        Among (c, x) (y ∷ es)
    go true is k rest = let same = cell_tie c y.0 is in let value : y.1 ≡ x = cc in inl (λ i. (same i, sym value i))
    go false is k rest = inr (rest k)

keys_differ : (es : Entries) → T (is_sorted cell_cmp es) → AllDiffer (map (λ e. e.0) es)
keys_differ [] h = tt
keys_differ (x ∷ es) h =
    let z = parts_of (below_all cell_cmp x.0 es) (is_sorted cell_cmp es) h in (
      λ a.
          let e = Among-from_map (λ (y : Cell × CellState). y.0) x.0 es a in
          not_below x.0 e.0.0 (below x.0 es z.0 e.0 e.1) e.2,
      keys_differ es z.1,
    )

-- ---- one bank

pub filled_among : (m : Cells) (f : Filled) → Among f (cells_of m) → get m f.cell ≡ Some (Present f.value f.origin)
filled_among m f h =
    let t = among_flat filled_at (entries m) f h in
    by t.0 t.1 t.2
  where
    by : (e : Cell × CellState) → Among e (entries m) → Among f (filled_at e)
        → get m f.cell ≡ Some (Present f.value f.origin)
    by (c, Present v w) a (inl is) =
        get-entries m f.cell ∙ ap (λ (y : Filled). find cell_cmp y.cell (entries m)) is
        ∙ found (entries m) (entries_sorted m) (c, Present v w) a
        ∙ ap (λ (y : Filled). Some (Present y.value y.origin)) (sym is)
    by (c, Present v w) a (inr none) = absurd none
    by (c, Deferred ts) a none = absurd none

pub among_filled : (m : Cells) (c : Cell) (v : Value) (w : Tag) → get m c ≡ Some (Present v w)
    → Among (record { cell = c; value = v; origin = w }) (cells_of m)
among_filled m c v w e =
    flat_among filled_at (entries m) (
      c,
      Present v w,
    ) _ (among_found (entries m) c (Present v w) (sym (get-entries m c) ∙ e)) (inl refl)

pub reader_among : (m : Cells) (r : Reader) → Among r (deferred_of m)
    → (ts : List Tag) × (get m r.cell ≡ Some (Deferred ts)) × Among r.reply ts
reader_among m r h =
    let t = among_flat readers_at (entries m) r h in
    by t.0 t.1 t.2
  where
    by : (e : Cell × CellState) → Among e (entries m) → Among r (readers_at e)
        → (ts : List Tag) × (get m r.cell ≡ Some (Deferred ts)) × Among r.reply ts
    by (c, Present v w) a none = absurd none
    by (c, Deferred ts) a k =
        let z = Among-from_map (λ (t : Tag). record { cell = c; reply = t }) r ts k in (
          ts,
          get-entries m r.cell ∙ ap (λ (y : Reader). find cell_cmp y.cell (entries m)) z.2
              ∙ found (entries m) (entries_sorted m) (c, Deferred ts) a,
          subst (λ (y : Reader). Among y.reply ts) (sym z.2) z.1,
        )

pub among_reader : (m : Cells) (c : Cell) (ts : List Tag) (t : Tag) → get m c ≡ Some (Deferred ts) → Among t ts →
    Among (record { cell = c; reply = t }) (deferred_of m)
among_reader m c ts t e h =
    flat_among readers_at (entries m) (
      c,
      Deferred ts,
    ) _ (among_found (entries m) c (Deferred ts) (sym (get-entries m c) ∙ e))
    (Among-map (λ (u : Tag). record { cell = c; reply = u }) t ts h)

-- no cell is listed twice
cells_differ : (m : Cells) → AllDiffer (map (λ f. f.cell) (cells_of m))
cells_differ m =
    subst AllDiffer (sym (map_flat (λ (f : Filled). f.cell) filled_at (entries m)))
    (flat_differ (λ e. map (λ (f : Filled). f.cell) (filled_at e)) (entries m) each one)
  where
    each : (n : ℕ) (e : Cell × CellState) → slice_get (entries m) n ≡ Some e
        → AllDiffer (map (λ (f : Filled). f.cell) (filled_at e))
    each n (c, Present v w) h = ((λ none. none), tt)
    each n (c, Deferred ts) h = tt

    key_is : (e : Cell × CellState) (c : Cell) → Among c (map (λ (f : Filled). f.cell) (filled_at e)) → c ≡ e.0
    key_is (d, Present v w) c (inl is) = is
    key_is (d, Present v w) c (inr none) = absurd none
    key_is (d, Deferred ts) c none = absurd none

    one : (n k : ℕ) (e e' : Cell × CellState) (c : Cell) → slice_get (entries m) n ≡ Some e
        → slice_get (entries m) k ≡ Some e' →
        Among c (map (λ (f : Filled). f.cell) (filled_at e))
        → Among c (map (λ (f : Filled). f.cell) (filled_at e')) → n ≡ k
    one n k e e' c h h' a a' =
        differ_at (map (λ (y : Cell × CellState). y.0) (entries m)) n k c (keys_differ (entries m) (entries_sorted m))
        (image_at (λ (y : Cell × CellState). y.0) (entries m) n e h ∙ ap (λ d. Some d) (sym (key_is e c a)))
        (image_at (λ (y : Cell × CellState). y.0) (entries m) k e' h' ∙ ap (λ d. Some d) (sym (key_is e' c a')))

-- ---- the banks of all elements

abbrev pub filled_in : World → List Filled
filled_in s = flat_map (λ e. cells_of e.cells) s.elements

abbrev pub readers_in : World → List Reader
readers_in s = flat_map (λ e. deferred_of e.cells) s.elements

-- the replies of an entry
abbrev replies_at : Cell × CellState → List Tag
replies_at e = map (λ (x : Reader). x.reply) (readers_at e)

-- replies differ where no answer would be sent twice
distinct : (ts : List Tag) → ((t : Tag) → count_for (AtPort t Zero) (answers Signal ts) ≤ 1) → AllDiffer ts
distinct [] few = tt
distinct (t ∷ ts) few = (
  λ h. omega (
    arith,
    few t,
    count_cons (AtPort t Zero) (Token t Zero Signal) (answers Signal ts),
    hit_itself (AtPort t Zero) (Token t Zero Signal) refl,
    counts (AtPort t Zero) (Token t Zero Signal) (answers Signal ts) (Among-map (λ u. Token u Zero Signal) t ts h) refl,
  ),
  distinct ts (λ u. omega (arith, few u, count_cons (AtPort u Zero) (Token t Zero Signal) (answers Signal ts))),
)

module _ (g : Parts) (vs : List Constant) (count : ℕ) (s : World) (run : List Event) (r : Reach g vs count s run) where
  -- what is listed is what the machine holds
  pub filled_held : (f : Filled) → Among f (filled_in s) → cell_at count s f.cell ≡ Some (Present f.value f.origin)
  filled_held f h =
      let t = among_flat (λ (e : State). cells_of e.cells) s.elements f h in
      let p = at-from_Among t.0 s.elements t.1 in
      held_in g vs count s run r p.0 t.0 f.cell (Present f.value f.origin) p.1 (filled_among (t.0).cells f t.2)

  pub held_filled : (c : Cell) (v : Value) (w : Tag) → cell_at count s c ≡ Some (Present v w)
      → Among (record { cell = c; value = v; origin = w }) (filled_in s)
  held_filled c v w h =
      let t = held_by count s c (Present v w) h in
      flat_among (λ (e : State). cells_of e.cells) s.elements t.1 _ (Among-from_at t.1 s.elements t.0 t.2)
      (among_filled (t.1).cells c v w t.3)

  pub reader_held : (x : Reader) → Among x (readers_in s)
      → (ts : List Tag) × (cell_at count s x.cell ≡ Some (Deferred ts)) × Among x.reply ts
  reader_held x h =
      let t = among_flat (λ (e : State). deferred_of e.cells) s.elements x h in
      let p = at-from_Among t.0 s.elements t.1 in
      let z = reader_among (t.0).cells x t.2 in
      (z.0, held_in g vs count s run r p.0 t.0 x.cell (Deferred z.0) p.1 z.1, z.2)

  pub held_reader : (c : Cell) (ts : List Tag) (t : Tag) → cell_at count s c ≡ Some (Deferred ts) → Among t ts →
      Among (record { cell = c; reply = t }) (readers_in s)
  held_reader c ts t h among =
      let z = held_by count s c (Deferred ts) h in
      flat_among (λ (e : State). deferred_of e.cells) s.elements z.1 _ (Among-from_at z.1 s.elements z.0 z.2)
      (among_reader (z.1).cells c ts t z.3 among)

  -- no cell is listed twice
  pub filled_differ : AllDiffer (map (λ f. f.cell) (filled_in s))
  filled_differ =
      subst AllDiffer (sym (map_flat (λ (f : Filled). f.cell) (λ (e : State). cells_of e.cells) s.elements))
      (flat_differ (λ (e : State). map (λ (f : Filled). f.cell) (cells_of e.cells)) s.elements
      (λ n e h. cells_differ e.cells) one)
    where
      home : (n : ℕ) (e : State) (c : Cell) → slice_get s.elements n ≡ Some e
          → Among c (map (λ (f : Filled). f.cell) (cells_of e.cells))
          → cell_route c count ≡ n
      home n e c at a =
          let z = Among-from_map (λ (f : Filled). f.cell) c (cells_of e.cells) a in
          only_home g vs count s run r n e c _ at (ap (get e.cells) z.2 ∙ filled_among e.cells z.0 z.1)

      one : (n m : ℕ) (e e' : State) (c : Cell) → slice_get s.elements n ≡ Some e → slice_get s.elements m ≡ Some e' →
          Among c (map (λ (f : Filled). f.cell) (cells_of e.cells))
          → Among c (map (λ (f : Filled). f.cell) (cells_of e'.cells)) → n ≡ m
      one n m e e' c h h' a a' = sym (home n e c h a) ∙ home m e' c h' a'

  -- where each key was handled once, no reply is
  pub readers_differ : Few run → AllDiffer (map (λ x. x.reply) (readers_in s))
  readers_differ few =
      subst AllDiffer (sym (map_flat (λ (x : Reader). x.reply) (λ (e : State). deferred_of e.cells) s.elements))
      (flat_differ (λ (e : State). map (λ (x : Reader). x.reply) (deferred_of e.cells)) s.elements inner one)
    where
      -- the cell for which the reply waits
      waits_for : (c d : Cell) (ts us : List Tag) (t : Tag) → cell_at count s c ≡ Some (Deferred ts) → Among t ts
          → cell_at count s d ≡ Some (Deferred us) →
          Among t us → c ≡ d
      waits_for c d ts us t h a k b =
          let exact = cells_exact g vs count s run r in
          let x = (waits_unfilled run (cell_at count s) exact c t ts h a).0 in
          let y = (waits_unfilled run (cell_at count s) exact d t us k b).0 in
          (same_read (one_read run (cell_at count s) exact few c d t _ _ x y)).0

      reader_of : (n : ℕ) (e : State) (t : Tag) → slice_get s.elements n ≡ Some e
          → Among t (map (λ (x : Reader). x.reply) (deferred_of e.cells))
          → (c : Cell) × (ts : List Tag) × (get e.cells c ≡ Some (Deferred ts)) × Among t ts
      reader_of n e t at a =
          let z = Among-from_map (λ (x : Reader). x.reply) t (deferred_of e.cells) a in
          let y = reader_among e.cells z.0 z.1 in
          ((z.0).cell, y.0, y.1, subst (λ u. Among u y.0) (sym z.2) y.2)

      one : (n m : ℕ) (e e' : State) (t : Tag) → slice_get s.elements n ≡ Some e → slice_get s.elements m ≡ Some e' →
          Among t (map (λ (x : Reader). x.reply) (deferred_of e.cells))
          → Among t (map (λ (x : Reader). x.reply) (deferred_of e'.cells)) → n ≡ m
      one n m e e' t h h' a a' =
          let x = reader_of n e t h a in
          let y = reader_of m e' t h' a' in
          let same =
          waits_for x.0 y.0 x.1 y.1 t (held_in g vs count s run r n e x.0 _ h x.2) x.3
          (held_in g vs count s run r m e' y.0 _ h' y.2) y.3 in
          sym (only_home g vs count s run r n e x.0 _ h x.2) ∙ ap (λ c. cell_route c count) same
          ∙ only_home g vs count s run r m e' y.0 _ h' y.2

      inner : (n : ℕ) (e : State) → slice_get s.elements n ≡ Some e
          → AllDiffer (map (λ (x : Reader). x.reply) (deferred_of e.cells))
      inner n e at =
          subst AllDiffer (sym (map_flat (λ (x : Reader). x.reply) readers_at (entries e.cells)))
          (flat_differ replies_at (entries e.cells) each same_entry)
        where
          themselves : (c : Cell) (ts : List Tag)
              → map (λ (x : Reader). x.reply) (map (λ (t : Tag). record { cell = c; reply = t }) ts) ≡ ts
          themselves c [] = refl
          themselves c (t ∷ ts) = ap (λ us. t ∷ us) (themselves c ts)

          has : (k : ℕ) (y : Cell × CellState) → slice_get (entries e.cells) k ≡ Some y → get e.cells y.0 ≡ Some y.1
          has k y h =
              get-entries e.cells y.0
              ∙ found (entries e.cells) (entries_sorted e.cells) y (Among-from_at y (entries e.cells) k h)

          each : (k : ℕ) (y : Cell × CellState) → slice_get (entries e.cells) k ≡ Some y → AllDiffer (replies_at y)
          each k (c, Present v w) h = tt
          each k (c, Deferred ts) h =
              let held = held_in g vs count s run r n e c (Deferred ts) at (has k (c, Deferred ts) h) in
              let empty : Empty run c ts = subst (History run c) held (cells_exact g vs count s run r c) in
              subst AllDiffer (sym (themselves c ts))
              (distinct ts (λ t. subst (λ us. count_for (AtPort t Zero) (answers Signal us) ≤ 1) (sym empty.waiting)
              (off_once (AtPort t Zero) Signal c run few)))

          same_entry : (k l : ℕ) (y z : Cell × CellState) (t : Tag) → slice_get (entries e.cells) k ≡ Some y
              → slice_get (entries e.cells) l ≡ Some z →
              Among t (replies_at y)
              → Among t (replies_at z) → k ≡ l
          same_entry k l (c, Present v w) z t h h' none b = absurd none
          same_entry k l (c, Deferred ts) (d, Present v w) t h h' a none = absurd none
          same_entry k l (c, Deferred ts) (d, Deferred us) t h h' a b =
              let one_cell =
              waits_for c d ts us t (held_in g vs count s run r n e c (Deferred ts) at (has k (c, Deferred ts) h))
              (subst (Among t) (themselves c ts) a)
              (held_in g vs count s run r n e d (Deferred us) at (has l (d, Deferred us) h'))
              (subst (Among t) (themselves d us) b) in
              differ_at (map (λ (y : Cell × CellState). y.0) (entries e.cells)) k l c
              (keys_differ (entries e.cells) (entries_sorted e.cells))
              (image_at (λ (y : Cell × CellState). y.0) (entries e.cells) k (c, Deferred ts) h)
              (image_at (λ (y : Cell × CellState). y.0) (entries e.cells) l (d, Deferred us) h'
              ∙ ap (λ q. Some q) (sym one_cell))
