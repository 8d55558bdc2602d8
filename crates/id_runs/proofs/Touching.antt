-- What one event of a machine does to one cell, wherever it lies.
use Rattle.std.proofs.Common.{◌≡◌, ◌⊎◌, inl, inr, ℕ, Bool, true, false, cond, Option, Some, None, List, replicate}
use Rattle.std.proofs.Common.{set, slice_get, zero, suc, refl, sym, ◌∙◌, ap}
use Rattle.std.proofs.lemmas.Bool.{cases_eq}
use Rattle.std.specs.FinMap.{get, insert, get-insert, get-empty}
use Rattle.std.specs.Cmp.{eq_by_cmp_equiv}
use Rattle.std.specs.Ordering.{eq_by_cmp, is_eq}
use Rattle.std.specs.declared.cmp.Ordering.{Ordering}
use Rattle.std.specs.declared.cmp.Ordering.TheVariants.{Less, Equal, Greater}
use Rattle.id_instr.specs.Graph.{Parts}
use Rattle.id_tag.specs.declared.Tag.{Tag}
use Rattle.id_tag.specs.declared.Cell.{Cell}
use Rattle.id_tag.specs.declared.Value.{Value}
use Rattle.id_tag.specs.declared.Payload.{Payload}
use Rattle.id_tag.specs.declared.Payload.TheVariants.{Token, Read, Write}
use Rattle.id_tag.specs.declared.Message.{Message}
use Rattle.id_tag.specs.Tags.{cell_cmp}
use Rattle.id_tag.specs.Routes.{cell_route, route_of}
use Rattle.id_tag.proofs.TagsLemmas.{cells_total, exact_cells}
use Rattle.id_bank.specs.declared.cell.ReadAnswer.{ReadAnswer}
use Rattle.id_bank.specs.declared.cell.WriteAnswer.{WriteAnswer}
use Rattle.id_bank.specs.Cells.{CellState, Cells, read_answer, state_read, write_answer, state_written}
use Rattle.id_step.specs.Steps.{State, fresh, state_after}
use Rattle.id_core.specs.Machines.{World, start, taken_from}
use Rattle.id_value.specs.declared.Constant.{Constant}
use Rattle.id_value.proofs.PlacesLemmas.{slice_get-set, set-here, set-elsewhere}
use Rattle.id_runs.specs.Events.{Event, Looked, Wrote}
use Rattle.id_runs.specs.Runs.{happens, Reach, begin, deliver}
use Rattle.id_runs.specs.Cells.{cell_in, cell_at}
use Rattle.id_runs.proofs.Events.{cells_by, outcome_cells}

-- ---- cells

pub cell_tie : (c d : Cell) → eq_by_cmp cell_cmp c d ≡ true → c ≡ d
cell_tie c d e = exact_cells c d (tie (cell_cmp c d) e)
  where
    tie : (r : Ordering) → is_eq r ≡ true → r ≡ Equal
    tie Less e = cc
    tie Equal e = refl
    tie Greater e = cc

pub cell_itself : (c : Cell) → eq_by_cmp cell_cmp c c ≡ true
cell_itself c = (eq_by_cmp_equiv cells_total).refl c

-- whether two cells are one
pub cell_cases : (c d : Cell) → (c ≡ d) ⊎ ((c ≡ d → ⊥) × (eq_by_cmp cell_cmp c d ≡ false))
cell_cases c d = go (eq_by_cmp cell_cmp c d) refl
  where
    go : (b : Bool) → eq_by_cmp cell_cmp c d ≡ b → (c ≡ d) ⊎ ((c ≡ d → ⊥) × (eq_by_cmp cell_cmp c d ≡ false))
    go true e = inl (cell_tie c d e)
    go false e = inr ((λ is. let bad : true ≡ false = sym (cell_itself c) ∙ ap (eq_by_cmp cell_cmp c) is ∙ e in cc), e)

put_there : (m : Cells) (c d : Cell) (x : CellState) → c ≡ d → get (insert m d x) c ≡ Some x
put_there m c d x is =
    get-insert cells_total m d x c
    ∙ ap (λ b. cond b (Some x) (get m c)) (sym (ap (eq_by_cmp cell_cmp c) is) ∙ cell_itself c)

left_there : (m : Cells) (c d : Cell) (x : CellState) → eq_by_cmp cell_cmp c d ≡ false → get (insert m d x) c ≡ get m c
left_there m c d x other = get-insert cells_total m d x c ∙ ap (λ b. cond b (Some x) (get m c)) other

-- ---- one event and one cell

-- what the event does to the cell: it reads it, it writes it, or it is on something else
pub data Touch (e : Event) (c : Cell) (before after : Option CellState) : Type 0 where
  by_read : (n : ℕ) (t : Tag) → e ≡ Looked n c t (read_answer before) → after ≡ Some (state_read t before)
      → Touch e c before after
  by_write : (n : ℕ) (v : Value) (w : Tag) → e ≡ Wrote n c v w (write_answer before)
      → after ≡ Some (state_written v w before) → Touch e c before after
  elsewhere : ((n : ℕ) (t : Tag) (a : ReadAnswer) → e ≡ Looked n c t a → ⊥)
      → ((n : ℕ) (v : Value) (w : Tag) (a : WriteAnswer) → e ≡ Wrote n c v w a → ⊥)
      → after ≡ before → Touch e c before after

looked_cell : {n m : ℕ} {c d : Cell} {t u : Tag} {a b : ReadAnswer} → Looked n c t a ≡ Looked m d u b → c ≡ d
looked_cell e = cc

wrote_cell : {n m : ℕ} {c d : Cell} {v x : Value} {t u : Tag} {a b : WriteAnswer} → Wrote n c v t a ≡ Wrote m d x u b
    → c ≡ d
wrote_cell e = cc

module _ (g : Parts) (count : ℕ) (es es' : List State) (n : ℕ) (e e' : State) (at : slice_get es n ≡ Some e)
    (is : es' ≡ set es n e') where
  held_before : (c : Cell) → cell_route c count ≡ n → cell_in (slice_get es (cell_route c count)) c ≡ get e.cells c
  held_before c here = ap (λ i. cell_in (slice_get es i) c) here ∙ ap (λ o. cell_in o c) at

  held_after : (c : Cell) → cell_route c count ≡ n → cell_in (slice_get es' (cell_route c count)) c ≡ get e'.cells c
  held_after c here =
      (λ j. cell_in (slice_get (is j) (here j)) c) ∙ ap (λ o. cell_in o c) (set-here es n e' e at)

  -- where the element's map is the same at the cell, so is what the machine holds there
  held_still : (c : Cell) → get e'.cells c ≡ get e.cells c
      → cell_in (slice_get es' (cell_route c count)) c ≡ cell_in (slice_get es (cell_route c count)) c
  held_still c same =
      elim (cases_eq (cell_route c count) n) [
        | inl here ↦ held_after c here ∙ same ∙ sym (held_before c here)
        | inr other ↦ ap (λ xs. cell_in (slice_get xs (cell_route c count)) c) is
            ∙ ap (λ o. cell_in o c) (set-elsewhere es n (cell_route c count) e' other)
      ]

touches : (g : Parts) (count : ℕ) (es es' : List State) (x : Payload) (e e' : State)
    → slice_get es (route_of x count) ≡ Some e →
    es' ≡ set es (route_of x count) e'
    → e'.cells ≡ cells_by e x → (c : Cell)
    → Touch (happens g (route_of x count) e x) c (cell_in (slice_get es (cell_route c count)) c)
    (cell_in (slice_get es' (cell_route c count)) c)
touches g count es es' (Token t p v) e e' at is cells c =
    elsewhere (λ m u a bad. cc) (λ m u w a bad. cc)
    (held_still g count es es' (route_of (Token t p v) count) e e' at is c (ap (λ m. get m c) cells))
touches g count es es' (Read d t) e e' at is cells c = by (cell_cases c d)
  where
    n : ℕ
    n = cell_route d count

    by : (c ≡ d) ⊎ ((c ≡ d → ⊥) × (eq_by_cmp cell_cmp c d ≡ false))
        → Touch (Looked n d t (read_answer (get e.cells d))) c (cell_in (slice_get es (cell_route c count)) c)
        (cell_in (slice_get es' (cell_route c count)) c)
    by (inl same) =
        let here : cell_route c count ≡ n = ap (λ k. cell_route k count) same in
        let before : cell_in (slice_get es (cell_route c count)) c ≡ get e.cells d =
        held_before g count es es' n e e' at is c here ∙ ap (get e.cells) same in
        by_read n t (λ j. Looked n (sym same j) t (read_answer (sym before j)))
        (held_after g count es es' n e e' at is c here ∙ ap (λ m. get m c) cells ∙ put_there e.cells c d _ same
        ∙ ap (λ o. Some (state_read t o)) (sym before))
    by (inr other) =
        elsewhere (λ m u a z. other.0 (sym (looked_cell z))) (λ m u w a z. cc)
        (held_still g count es es' n e e' at is c (ap (λ m. get m c) cells ∙ left_there e.cells c d _ other.1))
touches g count es es' (Write d v w) e e' at is cells c = by (cell_cases c d)
  where
    n : ℕ
    n = cell_route d count

    by : (c ≡ d) ⊎ ((c ≡ d → ⊥) × (eq_by_cmp cell_cmp c d ≡ false))
        → Touch (Wrote n d v w (write_answer (get e.cells d))) c (cell_in (slice_get es (cell_route c count)) c)
        (cell_in (slice_get es' (cell_route c count)) c)
    by (inl same) =
        let here : cell_route c count ≡ n = ap (λ k. cell_route k count) same in
        let before : cell_in (slice_get es (cell_route c count)) c ≡ get e.cells d =
        held_before g count es es' n e e' at is c here ∙ ap (get e.cells) same in
        by_write n v w (λ j. Wrote n (sym same j) v w (write_answer (sym before j)))
        (held_after g count es es' n e e' at is c here ∙ ap (λ m. get m c) cells ∙ put_there e.cells c d _ same ∙
        ap (λ o. Some (state_written v w o)) (sym before))
    by (inr other) =
        elsewhere (λ m u a z. cc) (λ m u x a z. other.0 (sym (wrote_cell z)))
        (held_still g count es es' n e e' at is c (ap (λ m. get m c) cells ∙ left_there e.cells c d _ other.1))

-- an event, and a cell before and after it
pub touch : (g : Parts) (count k : ℕ) (s : World) (m : Message) (e : State)
    → slice_get s.elements (route_of m.payload count) ≡ Some e → (c : Cell)
    → let n = route_of m.payload count in
    Touch (happens g n e m.payload) c (cell_at count s c) (cell_at count (taken_from g k s m n e) c)
touch g count k s m e at c =
    let n = route_of m.payload count in
    touches g count s.elements (set s.elements n (state_after g n e m)) m.payload e (state_after g n e m) at refl
    (outcome_cells g n e m.payload) c

-- ---- no element but its own has a cell

fresh_at : (n m : ℕ) (e : State) → slice_get (replicate n fresh) m ≡ Some e → e ≡ fresh
fresh_at zero m e h = cc
fresh_at (suc n) zero e h = cc
fresh_at (suc n) (suc m) e h = fresh_at n m e h

-- at the start no cell is there
pub nothing_held : (g : Parts) (vs : List Constant) (count : ℕ) (c : Cell) → cell_at count (start g vs count) c ≡ None
nothing_held g vs count c = by (slice_get (replicate count fresh) (cell_route c count)) refl
  where
    by : (o : Option State) → slice_get (replicate count fresh) (cell_route c count) ≡ o →
        cell_in (slice_get (replicate count fresh) (cell_route c count)) c ≡ None
    by None is = ap (λ o. cell_in o c) is
    by (Some e) is =
        ap (λ o. cell_in o c) is ∙ ap (λ (x : State). get x.cells c) (fresh_at count (cell_route c count) e is)
        ∙ get-empty cell_cmp c

some_held : {x : CellState} (o : Option CellState) → o ≡ Some x → o ≡ None → ⊥
some_held o a b = let bad = sym a ∙ b in cc

-- what an event puts into an element's map is a cell that goes there
cell_there : (count : ℕ) (x : Payload) (e : State) (n : ℕ) (c : Cell) (z : CellState) → route_of x count ≡ n
    → get (cells_by e x) c ≡ Some z → (cell_route c count ≡ n) ⊎ (get e.cells c ≡ Some z)
cell_there count (Token t p v) e n c z here h = inr h
cell_there count (Read d t) e n c z here h =
    elim (cell_cases c d) [
      | inl same ↦ inl (ap (λ k. cell_route k count) same ∙ here)
      | inr other ↦ inr (sym (left_there e.cells c d _ other.1) ∙ h)
    ]
cell_there count (Write d v w) e n c z here h =
    elim (cell_cases c d) [
      | inl same ↦ inl (ap (λ k. cell_route k count) same ∙ here)
      | inr other ↦ inr (sym (left_there e.cells c d _ other.1) ∙ h)
    ]

-- a cell that an element has goes to it
pub only_home : (g : Parts) (vs : List Constant) (count : ℕ) (s : World) (run : List Event) → Reach g vs count s run
    → (n : ℕ) (e : State) (c : Cell) (z : CellState) → slice_get s.elements n ≡ Some e → get e.cells c ≡ Some z
    → cell_route c count ≡ n
only_home g vs count s run begin n e c z at h =
    absurd (some_held (get e.cells c) h (ap (λ (x : State). get x.cells c) (fresh_at count n e at)
    ∙ get-empty cell_cmp c))
only_home g vs count s run (deliver {s = s₀} {run = run₀} k m e₀ r f q) n e c z at h =
    let n₀ = route_of m.payload count in
    elim (slice_get-set s₀.elements n₀ n (state_after g n₀ e₀ m) e at) [
      | inl new ↦
          elim (cell_there count m.payload e₀ n c z (sym new.0)
          (sym (ap (λ y. get y c) (outcome_cells g n₀ e₀ m.payload)) ∙
          ap (λ (x : State). get x.cells c) (sym new.1) ∙ h)) [
            | inl home ↦ home
            | inr before ↦ only_home g vs count s₀ run₀ r n e₀ c z (ap (slice_get s₀.elements) new.0 ∙ q) before
          ]
      | inr old ↦ only_home g vs count s₀ run₀ r n e c z old h
    ]

-- so it is what the machine holds there
pub held_in : (g : Parts) (vs : List Constant) (count : ℕ) (s : World) (run : List Event) → Reach g vs count s run
    → (n : ℕ) (e : State) (c : Cell) (z : CellState) → slice_get s.elements n ≡ Some e → get e.cells c ≡ Some z
    → cell_at count s c ≡ Some z
held_in g vs count s run r n e c z at h =
    ap (λ i. cell_in (slice_get s.elements i) c) (only_home g vs count s run r n e c z at h) ∙ ap (λ o. cell_in o c) at
    ∙ h

-- and what the machine holds at a cell, an element has there
pub held_by : (count : ℕ) (s : World) (c : Cell) (z : CellState) → cell_at count s c ≡ Some z
    → (n : ℕ) × (e : State) × (slice_get s.elements n ≡ Some e) × (get e.cells c ≡ Some z)
held_by count s c z h = by (slice_get s.elements (cell_route c count)) refl h
  where
    by : (o : Option State) → slice_get s.elements (cell_route c count) ≡ o → cell_in o c ≡ Some z →
        (n : ℕ) × (e : State) × (slice_get s.elements n ≡ Some e) × (get e.cells c ≡ Some z)
    by None is k = cc
    by (Some e) is k = (cell_route c count, e, is, k)
