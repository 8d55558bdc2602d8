-- Lemmas on the first answer that records show.
use Rattle.std.proofs.Common.{◌≡◌, ℕ, suc, ◌+◌, Option, Some, None, List, [], ◌∷◌, ◌++◌, map, take, drop, sym, ap, ◌∙◌}
use Rattle.std.specs.Prelude.{true, false, is_some, slice_get}
use Rattle.std.proofs.lemmas.List.Elements.{filter_map-append}
use Rattle.id_tag.specs.declared.Value.{Value}
use Rattle.id_step.specs.Replays.{ElementView}
use Rattle.id_observe.specs.Paths.{events_of, answers}
use Rattle.id_observe.specs.Observed.{first_value}
use Rattle.id_observe.proofs.WalksLemmas.{events-split, events-next}
use Rattle.id_observe.proofs.SourcedLemmas.{none_first}

-- what stands first in a list stands first in a longer one
first-append : {A : Type 0} (xs ys : List A) (v : A) → slice_get xs 0 ≡ Some v → slice_get (xs ++ ys) 0 ≡ Some v
first-append [] ys v at = cc
first-append (x ∷ xs) ys v at = at

-- the first element whose record has an answer, after those whose records have none
answers-first : (es : List ElementView) (i : ℕ) (e : ElementView) (v : Value) → slice_get es i ≡ Some e
    → answers (events_of (map (λ x. x.state) (take i es))) ≡ [] → slice_get (answers e.state.events) 0 ≡ Some v
    → slice_get (answers (events_of (map (λ x. x.state) es))) 0 ≡ Some v
answers-first es i e v at before first =
    let rest = events_of (map (λ x. x.state) (drop (suc i) es)) in
    let whole : answers (events_of (map (λ x. x.state) es)) ≡ answers (events_of (map (λ x. x.state) (take i es)))
    ++ (answers e.state.events ++ answers rest) =
    ap answers (events-split es i e at)
    ∙ filter_map-append _ (events_of (map (λ x. x.state) (take i es))) (e.state.events ++ rest)
    ∙ ap (λ ys. answers (events_of (map (λ x. x.state) (take i es))) ++ ys) (filter_map-append _ e.state.events rest) in
    rw (whole, before) (first-append (answers e.state.events) (answers rest) v first)

-- a record with no answer adds none
answers-next : (es : List ElementView) (i : ℕ) (e : ElementView) → slice_get es i ≡ Some e
    → answers (events_of (map (λ x. x.state) (take i es))) ≡ [] → answers e.state.events ≡ []
    → answers (events_of (map (λ x. x.state) (take (i + 1) es))) ≡ []
answers-next es i e at before none =
    ap answers (events-next es i e at)
    ∙ filter_map-append _ (events_of (map (λ x. x.state) (take i es))) e.state.events
    ∙ rw (before, none)

-- the first value, where the record of this element has it and those before have none
pub value-found : (es : List ElementView) (i : ℕ) (e : ElementView) (o : Option Value) → slice_get es i ≡ Some e
    → answers (events_of (map (λ x. x.state) (take i es))) ≡ [] → o ≡ slice_get (answers e.state.events) 0
    → is_some o ≡ true → o ≡ first_value (map (λ x. x.state) es)
value-found es i e None at before is found = cc
value-found es i e (Some v) at before is found = sym (answers-first es i e v at before (sym is))

-- and none yet, where it has none
pub value-missed : (es : List ElementView) (i : ℕ) (e : ElementView) (o : Option Value) → slice_get es i ≡ Some e
    → answers (events_of (map (λ x. x.state) (take i es))) ≡ [] → o ≡ slice_get (answers e.state.events) 0
    → is_some o ≡ false → answers (events_of (map (λ x. x.state) (take (i + 1) es))) ≡ []
value-missed es i e None at before is missed =
    answers-next es i e at before (none_first (answers e.state.events) (sym is))
value-missed es i e (Some v) at before is missed = cc
