-- Lemmas on specs/Observed.antt.
use Rattle.std.proofs.Common.{◌≡◌, ℕ, ◌+◌, Option, Some, None, List, [], ◌∷◌, ◌++◌, map, take, refl, sym, ap, ◌∙◌}
use Rattle.std.specs.Prelude.{Bool, false, slice_get, unwrap_or, option_map}
use Rattle.std.specs.List.{filter_map, cons_option}
use Rattle.std.proofs.lemmas.List.{map-append}
use Rattle.std.proofs.lemmas.Option.{slice_get-map}
use Rattle.id_instr.specs.declared.instr.Instr.{Instr}
use Rattle.id_instr.specs.Graph.{Parts}
use Rattle.id_tag.specs.declared.Structure.{Structure}
use Rattle.id_tag.specs.declared.Tag.{Tag}
use Rattle.id_source.specs.declared.Path.{Path}
use Rattle.id_source.specs.declared.Put.{Put}
use Rattle.id_source.specs.declared.Site.{Site}
use Rattle.id_source.specs.declared.SourceValue.{SourceValue}
use Rattle.id_tag.specs.declared.Payload.{Payload}
use Rattle.id_bank.specs.declared.cell.Filled.{Filled}
use Rattle.id_bank.specs.declared.cell.Reader.{Reader}
use Rattle.id_record.specs.Events.{EventView, tag_of}
use Rattle.id_step.specs.Replays.{ElementView}
use Rattle.id_observe.specs.Observed.{ask_of, asks_of, cell_value, cell_value_of, label_marks, reader_in, shape_at}
use Rattle.id_observe.specs.Observed.{shape_of, shapes_of, structures_in}
use Rattle.id_observe.specs.Observed.{is_label, is_label_of, put_of}
use Rattle.id_observe.specs.Sourced.{source_value}
use Rattle.id_observe.specs.declared.records.Paths.{Paths}
use Rattle.id_observe.specs.Paths.{events_of, made, makings_of, path_by, path_in, site_at}
use Rattle.id_observe.proofs.WalksLemmas.{filter_map-next_part, take-next, walk-next}

-- what cells hold is that of what is put into them
pub cell_values-from_puts : (g : Parts) (path : Tag → Path) (name : Structure → Site) (fs : List Filled) →
    filter_map (cell_value_of name) fs ≡ map cell_value (filter_map (put_of g path name) fs)
cell_values-from_puts g path name [] = refl
cell_values-from_puts g path name (f ∷ fs) =
    ap (cons_option (cell_value_of name f)) (cell_values-from_puts g path name fs) ∙ one (source_value name f.value)
  where
    puts : List Put
    puts = filter_map (put_of g path name) fs

    one : (o : Option SourceValue)
        → cons_option (option_map (λ v. record { name = name f.cell.structure; index = f.cell.index; value = v }) o)
        (map cell_value puts) ≡ map cell_value (cons_option (option_map (λ v. record
        { name = name f.cell.structure; index = f.cell.index; value = v; store = site_at g path f.origin }) o) puts)
    one None = refl
    one (Some v) = refl

-- the mark of a number, where there is one, says whether its instruction is a label
pub is_label-from_mark : (g : Parts) (n : ℕ) → unwrap_or (slice_get (label_marks g) n) false ≡ is_label g n
is_label-from_mark g n =
    ap (λ x. unwrap_or x false) (slice_get-map (λ i. is_label_of g (Some i)) g.instrs n) ∙ from (slice_get g.instrs n)
  where
    from : (i : Option Instr) → unwrap_or (option_map (λ j. is_label_of g (Some j)) i) false ≡ is_label_of g i
    from None = refl
    from (Some i) = refl

-- the marks of the instructions so far, and of one more
pub marks-next : (g : Parts) (is : List Instr) (k : ℕ) (i : Instr) (m : Bool) → slice_get is k ≡ Some i
    → m ≡ is_label_of g (Some i)
    → map (λ j. is_label_of g (Some j)) (take (k + 1) is) ≡ map (λ j. is_label_of g (Some j)) (take k is) ++ m ∷ []
marks-next g is k i m at mark =
    ap (map (λ j. is_label_of g (Some j))) (take-next is k i at)
    ∙ map-append (λ j. is_label_of g (Some j)) (take k is) (i ∷ [])
    ∙ ap (λ b. map (λ j. is_label_of g (Some j)) (take k is) ++ b ∷ []) (sym mark)

-- what the fetches of one more event, and of one more record, ask for comes after what those before ask for
pub asks_of-events : (g : Parts) (path : Tag → Path) (name : Structure
    → Site) (es : List EventView) (i : ℕ) (x : Payload) → option_map (λ e. e.message.payload) (slice_get es i) ≡ Some x
    → asks_of g path name (take (i + 1) es) ≡ asks_of g path name (take i es)
    ++ cons_option (option_map (ask_of g path name) (reader_in x)) []
asks_of-events g path name es i x at =
    let before = filter_map (λ e. reader_in e.message.payload) (take i es) in
    ap (map (ask_of g path name)) (filter_map-next_part (λ e. e.message.payload) reader_in es i x at)
    ∙ map-append (ask_of g path name) before (cons_option (reader_in x) [])
    ∙ ap (λ l. map (ask_of g path name) before ++ l) (one (reader_in x))
  where
    one : (o : Option Reader)
        → map (ask_of g path name) (cons_option o []) ≡ cons_option (option_map (ask_of g path name) o) []
    one None = refl
    one (Some r) = refl

pub asks_of-records : (g : Parts) (path : Tag → Path) (name : Structure
    → Site) (es : List ElementView) (i : ℕ) (e : ElementView)
    → slice_get es i ≡ Some e
    → asks_of g path name (events_of (map (λ x. x.state) (take (i + 1) es)))
    ≡ asks_of g path name (events_of (map (λ x. x.state) (take i es))) ++ asks_of g path name e.state.events
asks_of-records g path name es i e at =
    ap (map (ask_of g path name)) (walk-next (λ s. s.events) (λ v. reader_in v.message.payload) es i e at)
    ∙ map-append (ask_of g path name) _ _

-- what is shown of the structures that were made is what is shown of those events
pub shapes_of-makings : (g : Parts) (path : Tag → Path) (es : List EventView)
    → map (shape_at g path) (makings_of g es) ≡ shapes_of g path es
shapes_of-makings g path [] = refl
shapes_of-makings g path (e ∷ es) =
    one (made g e) ∙ ap (cons_option (shape_of g path e)) (shapes_of-makings g path es)
  where
    one : (o : Option Structure)
        → map (shape_at g path)
        (cons_option (option_map (λ s. record { structure = s; tag = tag_of e.message.payload }) o) (makings_of g es))
        ≡ cons_option
        (option_map (λ s. record { name = site_at g path (tag_of e.message.payload); low = s.low; high = s.high }) o)
        (map (shape_at g path) (makings_of g es))
    one None = refl
    one (Some s) = refl

-- what is shown of them, where tables tell what the events of elements do
pub structures-from_makings : (g : Parts) (es : List ElementView) (p : Paths) → p.graph.now ≡ g
    → path_by p ≡ path_in g (map (λ e. e.state) es) → p.makings.items ≡ makings_of g (events_of (map (λ e. e.state) es))
    → map (shape_at p.graph.now (path_by p)) p.makings.items ≡ structures_in g (map (λ e. e.state) es)
structures-from_makings g es p graph path makings =
    let ss = map (λ e. e.state) es in
    ap (λ x. map (shape_at x (path_by p)) p.makings.items) graph ∙ ap (λ f. map (shape_at g f) p.makings.items) path
    ∙ ap (map (shape_at g (path_in g ss))) makings ∙ shapes_of-makings g (path_in g ss) (events_of ss)
