-- Lemmas on specs/Texts.antt: texts that are printed one after another.
use Rattle.std.proofs.Common.{◌≡◌, ℕ, ℤ, codes, append_assoc, ◌+◌, List, [], ◌∷◌, ◌++◌, take, drop, Some, Result, Ok}
use Rattle.std.proofs.Common.{Err, IsErr, sym, ap, subst, ◌∙◌}
use Rattle.std.specs.Prelude.{slice_get}
use Rattle.std.specs.List.{flat_map}
use Rattle.std.proofs.lemmas.List.{append-nil, take_more, take-append-drop}
use Rattle.std.proofs.lemmas.List.Concat.{flat_map-append}
use Rattle.std.proofs.lemmas.Option.{slice_get_within, get_or_from_slice_get}
use Rattle.id_sink.specs.declared.sink.PrintError.{PrintError}
use Rattle.std.specs.Fmt.{signed_decimal}
use Rattle.id_source.specs.declared.Site.{Site}
use Rattle.id_source.specs.declared.SourceValue.{SourceValue}
use Rattle.id_sink.specs.Texts.{cell_text, content_text, equal_text, filled_text, site_text}
use Rattle.id_sink.specs.Told.{SinkView, Prints}
use Rattle.id_sink.proofs.SinkLemmas.{Prints-stop, Prints-then}

-- one more thing adds its text
texts-more : {A : Type 0} (f : A → List ℕ) (xs : List A) (i : ℕ) (x : A) → slice_get xs i ≡ Some x →
    flat_map f (take (i + 1) xs) ≡ flat_map f (take i xs) ++ f x
texts-more f xs i x at =
    ap (flat_map f) (take_more xs i x (slice_get_within xs i x at)
    ∙ ap (λ y. take i xs ++ y ∷ []) (get_or_from_slice_get xs i x x at))
    ∙ flat_map-append f (take i xs) (x ∷ []) ∙ ap (λ t. flat_map f (take i xs) ++ t) (append-nil (f x))

-- the texts are those of the first things and those of the rest
texts-cut : {A : Type 0} (f : A → List ℕ) (xs : List A) (i : ℕ)
    → flat_map f xs ≡ flat_map f (take i xs) ++ flat_map f (drop i xs)
texts-cut f xs i = ap (flat_map f) (sym (take-append-drop i xs)) ∙ flat_map-append f (take i xs) (drop i xs)

-- a text that is the same is printed the same way
pub same_text : (old new : SinkView) (x y : List ℕ) (r : Result (Unit {0}) PrintError) → x ≡ y → Prints old new x r
    → Prints old new y r
same_text old new x y r e h = let P : List ℕ → Type 0 = λ t. Prints old new t r in subst P e h

-- the text of one more thing is printed
pub Prints-more : {A : Type 0} (f : A
    → List ℕ) (xs : List A) (i : ℕ) (x : A) (old mid new : SinkView) (u : Unit {0}) (r : Result (Unit {0}) PrintError) →
    slice_get xs i ≡ Some x →
    Prints old mid (flat_map f (take i xs)) (Ok u) → Prints mid new (f x) r
    → Prints old new (flat_map f (take (i + 1) xs)) r
Prints-more f xs i x old mid new u r at k l =
    same_text old new _ _ _ (sym (texts-more f xs i x at)) (Prints-then old mid new _ _ u r k l)

-- the text of one of the things is cut short
pub Prints-more_stop : {A : Type 0} (f : A
    → List ℕ) (xs : List A) (i : ℕ) (x : A) (old mid new : SinkView) (u : Unit {0}) (e : PrintError)
    (r : Result (Unit {0}) PrintError) → slice_get xs i ≡ Some x →
    Prints old mid (flat_map f (take i xs)) (Ok u) → Prints mid new (f x) (Err e) → IsErr r
    → Prints old new (flat_map f xs) r
Prints-more_stop f xs i x old mid new u e r at k l w =
    let here : Prints old new (flat_map f (take (i + 1) xs)) (Err e) =
    Prints-more f xs i x old mid new u (Err e) at k l in
    same_text old new _ _ _ (sym (texts-cut f xs (i + 1)))
    (Prints-stop old new _ (flat_map f (drop (i + 1) xs)) e r here w)

-- the same where the text of the thing is told with a cursor that stands for the text
pub Prints-more_at : {A : Type 0} (f : List ℕ → A
    → List ℕ) (k t : List ℕ) (xs : List A) (i : ℕ) (x : A) (old mid new : SinkView) (u : Unit {0})
    (r : Result (Unit {0}) PrintError) → k ≡ t
    → slice_get xs i ≡ Some x → Prints old mid (flat_map (f t) (take i xs)) (Ok u) → Prints mid new (f k x) r →
    Prints old new (flat_map (f t) (take (i + 1) xs)) r
Prints-more_at f k t xs i x old mid new u r same at so_far one =
    let P : List ℕ → Type 0 =
    λ z. Prints mid new (f z x) r in Prints-more (f t) xs i x old mid new u r at so_far (subst P same one)

pub Prints-more_stop_at : {A : Type 0} (f : List ℕ → A
    → List ℕ) (k t : List ℕ) (xs : List A) (i : ℕ) (x : A) (old mid new : SinkView) (u : Unit {0})
    (e : PrintError) (r : Result (Unit {0}) PrintError)
    → k ≡ t → slice_get xs i ≡ Some x → Prints old mid (flat_map (f t) (take i xs)) (Ok u)
    → Prints mid new (f k x) (Err e) → IsErr r →
    Prints old new (flat_map (f t) xs) r
Prints-more_stop_at f k t xs i x old mid new u e r same at so_far one fails =
    let P : List ℕ → Type 0 =
    λ z. Prints mid new (f z x) (Err e) in
    Prints-more_stop (f t) xs i x old mid new u e r at so_far (subst P same one) fails

-- a cell with its value is the name of its structure and what stands behind it
pub filled_text-content : (text : List ℕ) (s : Site) (i : ℤ) (v : SourceValue) →
    filled_text text s i v ++ codes "\n" ≡ site_text text s ++ content_text text i v
filled_text-content text s i v =
    append_assoc (cell_text text s i) (equal_text text v) (codes "\n")
    ∙ append_assoc (site_text text s) (codes "[" ++ (signed_decimal i ++ codes "]")) (equal_text text v ++ codes "\n")

-- what stands behind the name is printed with a cursor that stands for the text
pub Prints-content_at : (k t : List ℕ) (i : ℤ) (v : SourceValue) (old new : SinkView) (r : Result (Unit {0}) PrintError)
    → k ≡ t →
    Prints old new (content_text k i v) r → Prints old new (content_text t i v) r
Prints-content_at k t i v old new r same one =
    let P : List ℕ → Type 0 = λ z. Prints old new (content_text z i v) r in subst P same one
