-- Lemmas on specs/Observed.antt: what needs no look at any event.
use Rattle.std.proofs.Common.{◌≡◌, ℕ, false, Option, Some, None, List, [], ◌∷◌}
use Rattle.std.proofs.Common.{◌++◌, map, length, refl, sym, ap, ◌∙◌, arith}
use Rattle.std.specs.Prelude.{slice_get, option_map}
use Rattle.std.specs.List.{filter_map, flat_map, cons_option, AllByRecursion}
use Rattle.std.specs.FinMap.{empty, entries, len-empty, len-entries}
use Rattle.std.proofs.lemmas.List.Elements.{recursion_from_All}
use Rattle.std.proofs.lemmas.Option.{slice_get_within, get_or_from_slice_get}
use Rattle.id_instr.specs.declared.instr.Instr.{Instr}
use Rattle.id_instr.specs.declared.instr.Op.{Op}
use Rattle.id_instr.specs.Graph.{Parts}
use Rattle.id_valid.specs.Roles.{op_at}
use Rattle.id_tag.specs.declared.Tag.{Tag}
use Rattle.id_tag.specs.Tags.{cell_cmp}
use Rattle.id_bank.specs.Cells.{Cells, CellState, cells_of, deferred_of, filled_at, readers_at}
use Rattle.id_record.specs.Events.{EventView, tag_of}
use Rattle.id_step.specs.Replays.{ElementView}
use Rattle.id_source.specs.declared.Path.{Path}
use Rattle.id_observe.specs.Paths.{is_alloc}
use Rattle.id_observe.specs.Observed.{HaveNoCells, MakesNone, ask_of, cells_in}
use Rattle.id_observe.specs.Paths.{events_of, path_in}
use Rattle.id_observe.specs.Observed.{put_of, shape_of, structures_in, waiting_in}
use Rattle.id_observe.specs.Paths.{structure_in}
use Rattle.id_observe.proofs.SkippedLemmas.{made_by-none}

-- an event whose instruction is no `alloc` shows no structure
pub shape_of-none : (g : Parts) (path : Tag → Path) (e : EventView) (o : Option Op)
    → op_at g (tag_of e.message.payload).instr ≡ o → is_alloc o ≡ false →
    shape_of g path e ≡ None
shape_of-none g path e o is not =
    ap (option_map _) (made_by-none (op_at g (tag_of e.message.payload).instr) e.fired (ap is_alloc is ∙ not))

-- ---- all events

filter_map-none : {A B : Type 0} (h : A → Option B) → ((x : A) → h x ≡ None) → (xs : List A) → filter_map h xs ≡ []
filter_map-none h none [] = refl
filter_map-none h none (x ∷ xs) = ap (λ o. cons_option o (filter_map h xs)) (none x) ∙ filter_map-none h none xs

-- no instruction is an `alloc` where none makes structures
op_at-none : (g : Parts) (n : ℕ) → MakesNone g → is_alloc (op_at g n) ≡ false
op_at-none g n none = from (slice_get g.instrs n) refl
  where
    from : (o : Option Instr) → slice_get g.instrs n ≡ o → is_alloc (option_map (λ i. i.op) o) ≡ false
    from None at = refl
    from (Some i) at =
        sym (ap (λ j. is_alloc (Some j.op)) (get_or_from_slice_get g.instrs n i i at))
        ∙ none n i (slice_get_within g.instrs n i at)

-- so no event made a structure
pub structures-none : (g : Parts) (es : List ElementView) → MakesNone g → structures_in g (map (λ e. e.state) es) ≡ []
structures-none g es none =
    let path = path_in g (map (λ e. e.state) es) in
    filter_map-none (shape_of g path)
    (λ e. shape_of-none g path e (op_at g (tag_of e.message.payload).instr) refl
    (op_at-none g (tag_of e.message.payload).instr none))
    (events_of (map (λ e. e.state) es))

-- ---- cells

no_length : {A : Type 0} (xs : List A) → length xs ≡ 0 → xs ≡ []
no_length [] e = refl
no_length (x ∷ xs) e = absurd (omega (arith, e))

no_entries : entries (empty {X = CellState} {R = cell_cmp}) ≡ []
no_entries = no_length (entries empty) (sym (len-entries empty) ∙ len-empty cell_cmp CellState)

cells_of-none : cells_of empty ≡ []
cells_of-none = ap (flat_map filled_at) no_entries

deferred_of-none : deferred_of empty ≡ []
deferred_of-none = ap (flat_map readers_at) no_entries

no_parts : {A : Type 0} (f : Cells → List A) → f empty ≡ [] → (es : List ElementView)
    → AllByRecursion (λ e. e.state.cells ≡ empty) es →
    flat_map (λ s. f s.cells) (map (λ e. e.state) es) ≡ []
no_parts f none [] all = refl
no_parts f none (e ∷ es) all =
    ap (λ xs. xs ++ flat_map (λ s. f s.cells) (map (λ x. x.state) es)) (ap f all.0 ∙ none) ∙ no_parts f none es all.1

-- elements at which no cell was touched show no cell
pub cells-none : (g : Parts) (es : List ElementView) → HaveNoCells es → cells_in g (map (λ e. e.state) es) ≡ []
cells-none g es all =
    let ss = map (λ e. e.state) es in
    ap (filter_map (put_of g (path_in g ss) (structure_in g ss)))
    (no_parts cells_of cells_of-none es (recursion_from_All (λ e. e.state.cells ≡ empty) es all))

-- and no fetch that waits
pub waiting-none : (g : Parts) (es : List ElementView) → HaveNoCells es → waiting_in g (map (λ e. e.state) es) ≡ []
waiting-none g es all =
    let ss = map (λ e. e.state) es in
    ap (map (ask_of g (path_in g ss) (structure_in g ss)))
    (no_parts deferred_of deferred_of-none es (recursion_from_All (λ e. e.state.cells ≡ empty) es all))
