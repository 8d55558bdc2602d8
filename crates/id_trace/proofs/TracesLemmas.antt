-- Lemmas on specs/Traces.antt.
use Rattle.std.proofs.Common.{◌≡◌, ℕ, ◌+◌, List, [], ◌∷◌, ◌++◌, take, drop, Some, Result, Ok, Err, IsErr, refl, sym, ap}
use Rattle.std.proofs.Common.{◌∙◌, append_assoc}
use Rattle.std.specs.Prelude.{slice_get}
use Rattle.std.proofs.lemmas.List.{append-nil, take_more, take-append-drop}
use Rattle.std.proofs.lemmas.Option.{slice_get_within, get_or_from_slice_get}
use Rattle.id_record.specs.Events.{EventView}
use Rattle.id_sink.specs.declared.sink.PrintError.{PrintError}
use Rattle.id_sink.specs.Told.{SinkView, Prints}
use Rattle.id_trace.specs.Traces.{line_text, trace_text}
use Rattle.id_sink.proofs.SinkLemmas.{Prints-stop, Prints-then}
use Rattle.id_sink.proofs.TextsLemmas.{same_text}

-- the trace of two lists of events is the traces of both
trace_text-append : (xs ys : List EventView) → trace_text (xs ++ ys) ≡ trace_text xs ++ trace_text ys
trace_text-append [] ys = refl
trace_text-append (x ∷ xs) ys =
    ap (λ t. line_text x ++ t) (trace_text-append xs ys)
    ∙ sym (append_assoc (line_text x) (trace_text xs) (trace_text ys))

-- one more event adds its line
trace_text-more : (xs : List EventView) (i : ℕ) (x : EventView) → slice_get xs i ≡ Some x →
    trace_text (take (i + 1) xs) ≡ trace_text (take i xs) ++ line_text x
trace_text-more xs i x at =
    ap trace_text (take_more xs i x (slice_get_within xs i x at)
    ∙ ap (λ y. take i xs ++ y ∷ []) (get_or_from_slice_get xs i x x at))
    ∙ trace_text-append (take i xs) (x ∷ []) ∙ ap (λ t. trace_text (take i xs) ++ t) (append-nil (line_text x))

-- a trace is that of the first of its events and that of the rest
trace_text-cut : (xs : List EventView) (i : ℕ) → trace_text xs ≡ trace_text (take i xs) ++ trace_text (drop i xs)
trace_text-cut xs i = ap trace_text (sym (take-append-drop i xs)) ∙ trace_text-append (take i xs) (drop i xs)

-- one more line is printed
pub Prints-line : (xs : List EventView) (i : ℕ) (x : EventView) (old mid new : SinkView) (u : Unit {0})
    (r : Result (Unit {0}) PrintError) →
    slice_get xs i ≡ Some x →
    Prints old mid (trace_text (take i xs)) (Ok u) → Prints mid new (line_text x) r
    → Prints old new (trace_text (take (i + 1) xs)) r
Prints-line xs i x old mid new u r at k l =
    same_text old new _ _ _ (sym (trace_text-more xs i x at)) (Prints-then old mid new _ _ u r k l)

-- a line is cut short
pub Prints-line_stop : (xs : List EventView) (i : ℕ) (x : EventView) (old mid new : SinkView) (u : Unit {0})
    (e : PrintError)
    (r : Result (Unit {0}) PrintError) → slice_get xs i ≡ Some x →
    Prints old mid (trace_text (take i xs)) (Ok u) → Prints mid new (line_text x) (Err e) → IsErr r
    → Prints old new (trace_text xs) r
Prints-line_stop xs i x old mid new u e r at k l w =
    let here : Prints old new (trace_text (take (i + 1) xs)) (Err e) =
    Prints-line xs i x old mid new u (Err e) at k l in
    same_text old new _ _ _ (sym (trace_text-cut xs (i + 1)))
    (Prints-stop old new _ (trace_text (drop (i + 1) xs)) e r here w)
