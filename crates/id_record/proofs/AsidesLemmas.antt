-- A list of what is told in short, where some of it stands aside, with one more.
use Rattle.std.proofs.Common.{◌≡◌, List, [], ◌∷◌, ◌++◌, get_or, map, refl, ap, ◌∙◌}
use Rattle.std.specs.Prelude.{All}
use Rattle.std.specs.List.{AllByRecursion}
use Rattle.std.proofs.lemmas.List.{map-append}
use Rattle.std.proofs.lemmas.List.Elements.{recursion_from_All}

-- what stands aside is what stood there before, and more
abbrev pub Keeps : {S W : Type 0} → (List W → S → Type 0) → (List W → S → W) → List W → List W → Type 0
Keeps {S} P f asides more = (s : S) → P asides s → P more s × (f more s ≡ f asides s)

told-kept_each : {S W : Type 0} (P : List W → S → Type 0) (f : List W → S → W) (asides more : List W) → Keeps P f asides more
    → (ss : List S) → AllByRecursion (P asides) ss → map (f more) ss ≡ map (f asides) ss
told-kept_each P f asides more keeps [] within = refl
told-kept_each P f asides more keeps (s ∷ ss) within =
    ap (λ w. w ∷ map (f more) ss) ((keeps s within.0).1)
    ∙ ap (λ ws. f asides s ∷ ws) (told-kept_each P f asides more keeps ss within.1)

told-kept : {S W : Type 0} (P : List W → S → Type 0) (f : List W → S → W) (asides more : List W) (ss : List S) → Keeps P f asides more
    → All (P asides) ss → map (f more) ss ≡ map (f asides) ss
told-kept P f asides more ss keeps within = told-kept_each P f asides more keeps ss (recursion_from_All (P asides) ss within)

-- and so all stays within
pub all-kept : {S W : Type 0} (P : List W → S → Type 0) (f : List W → S → W) (asides more : List W) (ss : List S) → Keeps P f asides more
    → All (P asides) ss → All (P more) ss
all-kept P f asides more ss keeps within k d below = (keeps (get_or ss k d) (within k d below)).0

-- one more in short at the end is what it tells more
pub told-more : {S W : Type 0} (P : List W → S → Type 0) (f : List W → S → W) (asides more : List W) (ss ts : List S) (s : S) (w : W)
    → Keeps P f asides more → All (P asides) ss → f more s ≡ w → ts ≡ ss ++ s ∷ [] → map (f more) ts ≡ map (f asides) ss ++ w ∷ []
told-more P f asides more ss ts s w keeps within is at =
    ap (map (f more)) at
    ∙ map-append (f more) ss (s ∷ [])
    ∙ ap (λ ws. ws ++ f more s ∷ []) (told-kept P f asides more ss keeps within)
    ∙ ap (λ x. map (f asides) ss ++ x ∷ []) is
