-- Walks over records, one event and one element after another.
use Rattle.std.proofs.Common.{◌≡◌, ℕ, suc, ◌+◌, ◌<◌, Option, Some, None, List, [], ◌∷◌, ◌++◌, map, length, get_or, take}
use Rattle.std.proofs.Common.{drop, refl, sym, ap, subst, ◌∙◌, append-nil}
use Rattle.std.specs.Prelude.{All, true, false, is_some, slice_get, option_map}
use Rattle.std.specs.List.{filter_map, flat_map, cons_option}
use Rattle.std.proofs.lemmas.List.{take_more, take-append-drop, map-append}
use Rattle.std.proofs.lemmas.List.Elements.{filter_map-append}
use Rattle.std.proofs.lemmas.Grind.{flat_map-append}
use Rattle.std.proofs.lemmas.Option.{slice_get_within, get_or_from_slice_get}
use Rattle.std.proofs.Math.Seq.{drop-cons}
use Rattle.id_step.specs.Steps.{State}
use Rattle.id_step.specs.Replays.{ElementView}
use Rattle.id_observe.specs.Paths.{events_of}

-- what is so of each element is so of the one at a position
pub all-get : {A : Type 0} (P : A → Type 0) (xs : List A) (i : ℕ) (x : A) → All P xs → slice_get xs i ≡ Some x → P x
all-get P xs i x all at = subst P (get_or_from_slice_get xs i x x at) (all i x (slice_get_within xs i x at))

-- one more element at the end of what was walked over
pub take-next : {A : Type 0} (xs : List A) (i : ℕ) (x : A) → slice_get xs i ≡ Some x
    → take (i + 1) xs ≡ take i xs ++ x ∷ []
take-next xs i x at =
    take_more xs i x (slice_get_within xs i x at) ∙ ap (λ y. take i xs ++ y ∷ []) (get_or_from_slice_get xs i x x at)

-- the list as what was walked over, the next element and the rest
pub split-next : {A : Type 0} (xs : List A) (i : ℕ) (x : A) → slice_get xs i ≡ Some x
    → take i xs ++ x ∷ drop (suc i) xs ≡ xs
split-next xs i x at =
    let next : drop i xs ≡ x ∷ drop (suc i) xs = drop-cons xs i x (slice_get_within xs i x at) ∙
    ap (λ y. y ∷ drop (suc i) xs) (get_or_from_slice_get xs i x x at) in
    ap (λ ys. take i xs ++ ys) (sym next) ∙ take-append-drop i xs

-- a walk goes on by what one element gives
pub filter_map-more : {A B : Type 0} (h : A → Option B) (xs ys : List A) (x : A) → ys ≡ xs ++ x ∷ []
    → filter_map h ys ≡ filter_map h xs ++ cons_option (h x) []
filter_map-more h xs ys x is = ap (filter_map h) is ∙ filter_map-append h xs (x ∷ [])

pub filter_map-next : {A B : Type 0} (h : A → Option B) (xs : List A) (i : ℕ) (x : A) → slice_get xs i ≡ Some x →
    filter_map h (take (i + 1) xs) ≡ filter_map h (take i xs) ++ cons_option (h x) []
filter_map-next h xs i x at = filter_map-more h (take i xs) (take (i + 1) xs) x (take-next xs i x at)

-- the same, where what the element gives was found first
pub filter_map-at : {A B : Type 0} (h : A → Option B) (xs : List A) (i : ℕ) (d : A) (o : Option B) → i < length xs
    → o ≡ h (get_or xs i d) →
    filter_map h (take (i + 1) xs) ≡ filter_map h (take i xs) ++ cons_option o []
filter_map-at h xs i d o lt is =
    ap (filter_map h) (take_more xs i d lt) ∙ filter_map-append h (take i xs) (get_or xs i d ∷ []) ∙
    ap (λ x. filter_map h (take i xs) ++ cons_option x []) (sym is)

-- and so for images
pub map-at : {A B : Type 0} (h : A → B) (xs : List A) (i : ℕ) (d : A) (y : B) → i < length xs → y ≡ h (get_or xs i d) →
    map h (take (i + 1) xs) ≡ map h (take i xs) ++ y ∷ []
map-at h xs i d y lt is =
    ap (map h) (take_more xs i d lt) ∙ map-append h (take i xs) (get_or xs i d ∷ [])
    ∙ ap (λ x. map h (take i xs) ++ x ∷ []) (sym is)

-- the first that gives something, after those that gave nothing
pub filter_map-first : {A B : Type 0} (h : A → Option B) (xs : List A) (i : ℕ) (x : A) (v : B) → slice_get xs i ≡ Some x
    → filter_map h (take i xs) ≡ [] →
    h x ≡ Some v → slice_get (filter_map h xs) 0 ≡ Some v
filter_map-first h xs i x v at before gives =
    let whole : filter_map h xs ≡ filter_map h (take i xs) ++ cons_option (h x) (filter_map h (drop (suc i) xs)) =
    ap (filter_map h) (sym (split-next xs i x at)) ∙ filter_map-append h (take i xs) (x ∷ drop (suc i) xs) in
    rw (whole, before, gives)

-- the same, where a test says that it gives something
pub filter_map-found : {A B : Type 0} (h : A → Option B) (xs : List A) (i : ℕ) (x : A) (o : Option B)
    → slice_get xs i ≡ Some x →
    filter_map h (take i xs) ≡ [] → h x ≡ o → is_some o ≡ true → o ≡ slice_get (filter_map h xs) 0
filter_map-found h xs i x None at before gives found = cc
filter_map-found h xs i x (Some v) at before gives found = sym (filter_map-first h xs i x v at before gives)

-- nothing yet, and one more gives nothing
pub filter_map-nothing : {A B : Type 0} (h : A → Option B) (xs : List A) (i : ℕ) (x : A) (o : Option B)
    → slice_get xs i ≡ Some x →
    filter_map h (take i xs) ≡ [] → h x ≡ o → is_some o ≡ false → filter_map h (take (i + 1) xs) ≡ []
filter_map-nothing h xs i x None at before gives missed = rw (filter_map-next h xs i x at, before, gives)
filter_map-nothing h xs i x (Some v) at before gives missed = cc

-- what the states of elements hold, one more element after those walked over
parts-next : {A : Type 0} (f : State → List A) (es : List ElementView) (i : ℕ) (e : ElementView)
    → slice_get es i ≡ Some e
    → flat_map f (map (λ x. x.state) (take (i + 1) es)) ≡ flat_map f (map (λ x. x.state) (take i es)) ++ f e.state
parts-next f es i e at =
    ap (λ xs. flat_map f (map (λ x. x.state) xs)) (take-next es i e at)
    ∙ ap (flat_map f) (map-append (λ x. x.state) (take i es) (e ∷ []))
    ∙ flat_map-append f (map (λ x. x.state) (take i es)) (e.state ∷ [])
    ∙ ap (λ ys. flat_map f (map (λ x. x.state) (take i es)) ++ ys) (append-nil (f e.state))

-- the events of elements, one more element after those walked over
pub events-next : (es : List ElementView) (i : ℕ) (e : ElementView) → slice_get es i ≡ Some e →
    events_of (map (λ x. x.state) (take (i + 1) es)) ≡ events_of (map (λ x. x.state) (take i es)) ++ e.state.events
events-next es i e at = parts-next (λ s. s.events) es i e at

-- what a walk over what they hold gives for one more element comes after what it gave before
pub walk-next : {A B : Type 0} (f : State → List A) (h : A → Option B) (es : List ElementView) (i : ℕ) (e : ElementView)
    → slice_get es i ≡ Some e
    → filter_map h (flat_map f (map (λ x. x.state) (take (i + 1) es)))
    ≡ filter_map h (flat_map f (map (λ x. x.state) (take i es))) ++ filter_map h (f e.state)
walk-next f h es i e at =
    ap (filter_map h) (parts-next f es i e at)
    ∙ filter_map-append h (flat_map f (map (λ x. x.state) (take i es))) (f e.state)

-- and so do the images of what they hold
pub images-next : {A B : Type 0} (f : State → List A) (h : A → B) (es : List ElementView) (i : ℕ) (e : ElementView)
    → slice_get es i ≡ Some e
    → map h (flat_map f (map (λ x. x.state) (take (i + 1) es))) ≡ map h (flat_map f (map (λ x. x.state) (take i es)))
    ++ map h (f e.state)
images-next f h es i e at =
    ap (map h) (parts-next f es i e at) ∙ map-append h (flat_map f (map (λ x. x.state) (take i es))) (f e.state)

-- and all of them
pub events-split : (es : List ElementView) (i : ℕ) (e : ElementView) → slice_get es i ≡ Some e
    → events_of (map (λ x. x.state) es) ≡ events_of (map (λ x. x.state) (take i es))
    ++ (e.state.events ++ events_of (map (λ x. x.state) (drop (suc i) es)))
events-split es i e at =
    ap (λ xs. events_of (map (λ x. x.state) xs)) (sym (split-next es i e at))
    ∙ ap events_of (map-append (λ x. x.state) (take i es) (e ∷ drop (suc i) es))
    ∙ flat_map-append (λ s. s.events) (map (λ x. x.state) (take i es)) (e.state ∷ map (λ x. x.state) (drop (suc i) es))

-- where what stands in an element is known, there is such an element
pub element-from_part : {A B : Type 0} (f : A → B) (o : Option A) (y : B) → option_map f o ≡ Some y
    → (x : A) × (o ≡ Some x) × (f x ≡ y)
element-from_part f None y is = cc
element-from_part f (Some x) y is = let same : f x ≡ y = cc in (x, refl, same)

-- a walk goes on by what a part of one element gives
pub filter_map-next_part : {A B C : Type 0} (f : A → C) (h : C → Option B) (xs : List A) (i : ℕ) (y : C)
    → option_map f (slice_get xs i) ≡ Some y →
    filter_map (λ x. h (f x)) (take (i + 1) xs) ≡ filter_map (λ x. h (f x)) (take i xs) ++ cons_option (h y) []
filter_map-next_part f h xs i y at =
    let there = element-from_part f (slice_get xs i) y at in
    filter_map-next (λ x. h (f x)) xs i there.0 there.1
    ∙ ap (λ z. filter_map (λ x. h (f x)) (take i xs) ++ cons_option (h z) []) there.2
