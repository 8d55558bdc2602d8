-- Steps, points and values are read back from their texts.
use Rattle.std.proofs.Common.{◌≡◌, ℕ, ℤ, ◌<◌, ◌^◌, Bool, true, false, List, [], ◌∷◌, ◌++◌, All, length, drop, get_or}
use Rattle.std.proofs.Common.{refl, sym, ap, ◌∙◌, arith, append_assoc}
use Rattle.std.specs.Prelude.{codes}
use Rattle.std.specs.Fmt.{signed_decimal}
use Rattle.std.specs.Char.{is_ascii_digit}
use Rattle.std.proofs.lemmas.Bool.{false≢true}
use Rattle.std.proofs.lemmas.List.Elements.{All-head, All-tail}
use Rattle.id_source.specs.declared.PathStep.{PathStep}
use Rattle.id_source.specs.declared.Path.{Path}
use Rattle.id_source.specs.declared.Site.{Site}
use Rattle.id_source.specs.declared.SourceValue.{SourceValue}
use Rattle.id_source.specs.declared.SourceValue.TheVariants.{Int, Bool as SourceBool, Name}
use Rattle.id_sink.specs.Texts.{cell_text, has_brace, iteration_text, place_text, point_text, site_text, step_text}
use Rattle.id_sink.specs.Texts.{steps_text, truth_text, value_text}
use Rattle.id_sink.proofs.LinesLemmas.{Stops}
use Rattle.id_sink.specs.Telling.{CellIsTold, NumberIsTold, PointIsTold, SiteIsTold, StepIsTold, ValueIsTold}
use Rattle.id_sink.proofs.DigitsLemmas.{BeginsWith, begins_not, decimal_told, is_numeric, place_told, signed_begins}
use Rattle.id_sink.proofs.DigitsLemmas.{signed_told}

-- behind a place comes no digit, whether an iteration is printed or not
stops_behind : (b : Bool) (k : ℕ) (r : List ℕ) → Stops is_ascii_digit r → Stops is_ascii_digit (iteration_text b k ++ r)
stops_behind true k r h = refl
stops_behind false k r h = h

number_told : (b c : Bool) (k j : ℕ) (r u : List ℕ) → b ≡ c → NumberIsTold b k → NumberIsTold c j
    → Stops is_ascii_digit r → Stops is_ascii_digit u → iteration_text b k ++ r ≡ iteration_text c j ++ u
    → (k ≡ j) × (r ≡ u)
number_told true true k j r u same p q h i e =
    decimal_told k j r u (omega (arith, p)) (omega (arith, q)) h i (ap (drop 1) e)
number_told true false k j r u same p q h i e = absurd (false≢true (sym same))
number_told false true k j r u same p q h i e = absurd (false≢true same)
number_told false false k j r u same p q h i e = (p ∙ sym q, e)

-- what begins with a byte that passes the test is not what begins with one that does not
begins_stops : (t : ℕ → Bool) (xs r ys : List ℕ) → BeginsWith t xs → Stops t ys → xs ++ r ≡ ys → ⊥
begins_stops t xs r [] b h e = h
begins_stops t xs r (c ∷ ys) b h e = begins_not t xs r ys c b h e

module _ (text : List ℕ) (small : length text < 2 ^ 64) where
  step_told : (s t : PathStep) (r u : List ℕ) → StepIsTold text s → StepIsTold text t → Stops is_ascii_digit r
      → Stops is_ascii_digit u → step_text text s ++ r ≡ step_text text t ++ u → (s ≡ t) × (r ≡ u)
  step_told s t r u p q h i e =
      let more : PathStep → List ℕ = λ x. iteration_text (has_brace text x.place) x.number in
      let behind : place_text text s.place ++ (more s ++ r) ≡ place_text text t.place ++ (more t ++ u) =
      sym (append_assoc (place_text text s.place) (more s) r)
      ∙ (ap (drop 1) e ∙ append_assoc (place_text text t.place) (more t) u) in
      let place = place_told text small s.place t.place (more s ++ r) (more t ++ u) p.place q.place
      (stops_behind (has_brace text s.place) s.number r h) (stops_behind (has_brace text t.place) t.number u i)
      behind in
      let number =
      number_told (has_brace text s.place) (has_brace text t.place) s.number t.number r u (ap (has_brace text) place.0)
      p.number q.number h i place.1 in
      ((λ j. record { place = place.0 j; number = number.0 j }), number.1)

  stops_steps : (ss : List PathStep) (r : List ℕ) → Stops is_ascii_digit (steps_text text ss ++ 64 ∷ r)
  stops_steps [] r = refl
  stops_steps (s ∷ ss) r = refl

  steps_told : (ss ts : List PathStep) (r u : List ℕ) → All (StepIsTold text) ss → All (StepIsTold text) ts
      → steps_text text ss ++ 64 ∷ r ≡ steps_text text ts ++ 64 ∷ u → (ss ≡ ts) × (r ≡ u)
  steps_told [] [] r u p q e = (refl, ap (drop 1) e)
  steps_told [] (t ∷ ts) r u p q e = absurd (let bad : 64 ≡ 47 = ap (λ l. get_or l 0 0) e in omega (arith, bad))
  steps_told (s ∷ ss) [] r u p q e = absurd (let bad : 47 ≡ 64 = ap (λ l. get_or l 0 0) e in omega (arith, bad))
  steps_told (s ∷ ss) (t ∷ ts) r u p q e =
      let behind : step_text text s ++ (steps_text text ss ++ 64 ∷ r) ≡ step_text text t
      ++ (steps_text text ts ++ 64 ∷ u) =
      sym (append_assoc (step_text text s) (steps_text text ss) (64 ∷ r))
      ∙ (e ∙ append_assoc (step_text text t) (steps_text text ts) (64 ∷ u)) in
      let first =
      step_told s t (steps_text text ss ++ 64 ∷ r) (steps_text text ts ++ 64 ∷ u) (All-head (StepIsTold text) s ss p)
      (All-head (StepIsTold text) t ts q) (stops_steps ss r) (stops_steps ts u) behind in
      let rest = steps_told ss ts r u (All-tail (StepIsTold text) s ss p) (All-tail (StepIsTold text) t ts q) first.1 in
      ((λ i. first.0 i ∷ rest.0 i), rest.1)

  pub point_told : (p q : Path) (e f : ℕ) (r u : List ℕ) → PointIsTold text p e → PointIsTold text q f
      → Stops is_ascii_digit r → Stops is_ascii_digit u → point_text text p e ++ r ≡ point_text text q f ++ u
      → (p ≡ q) × (e ≡ f) × (r ≡ u)
  point_told p q e f r u h k i j same =
      let behind : steps_text text p.steps ++ 64 ∷ (place_text text e ++ r) ≡ steps_text text q.steps ++ 64
      ∷ (place_text text f ++ u) =
      sym (append_assoc (steps_text text p.steps) (64 ∷ place_text text e) r)
      ∙ (same ∙ append_assoc (steps_text text q.steps) (64 ∷ place_text text f) u) in
      let steps = steps_told p.steps q.steps (place_text text e ++ r) (place_text text f ++ u) h.path k.path behind in
      let place = place_told text small e f r u h.place k.place i j steps.1 in
      ((λ n. record { steps = steps.0 n }), place.0, place.1)

  pub site_told : (s t : Site) (r u : List ℕ) → SiteIsTold text s → SiteIsTold text t → Stops is_ascii_digit r
      → Stops is_ascii_digit u → site_text text s ++ r ≡ site_text text t ++ u → (s ≡ t) × (r ≡ u)
  site_told s t r u h k i j e =
      let z = point_told s.path t.path s.place t.place r u h k i j e in
      ((λ n. record { path = z.0 n; place = z.1 n }), z.2)

  -- ---- values

  -- neither a name nor a truth value begins as a number does
  point_stops : (ss : List PathStep) (x r : List ℕ) → Stops is_numeric ((steps_text text ss ++ 64 ∷ x) ++ r)
  point_stops [] x r = refl
  point_stops (s ∷ ss) x r = refl

  truth_stops : (b : Bool) (r : List ℕ) → Stops is_numeric (truth_text b ++ r)
  truth_stops true r = refl
  truth_stops false r = refl

  no_point : (b : Bool) (ss : List PathStep) (x r u : List ℕ) → truth_text b ++ r ≡ (steps_text text ss ++ 64 ∷ x) ++ u
      → ⊥
  no_point true [] x r u e = let bad : 116 ≡ 64 = ap (λ l. get_or l 0 0) e in omega (arith, bad)
  no_point true (s ∷ ss) x r u e = let bad : 116 ≡ 47 = ap (λ l. get_or l 0 0) e in omega (arith, bad)
  no_point false [] x r u e = let bad : 102 ≡ 64 = ap (λ l. get_or l 0 0) e in omega (arith, bad)
  no_point false (s ∷ ss) x r u e = let bad : 102 ≡ 47 = ap (λ l. get_or l 0 0) e in omega (arith, bad)

  truth_told : (b c : Bool) (r u : List ℕ) → truth_text b ++ r ≡ truth_text c ++ u → (b ≡ c) × (r ≡ u)
  truth_told true true r u e = (refl, ap (drop 4) e)
  truth_told true false r u e = absurd (let bad : 116 ≡ 102 = ap (λ l. get_or l 0 0) e in omega (arith, bad))
  truth_told false true r u e = absurd (let bad : 102 ≡ 116 = ap (λ l. get_or l 0 0) e in omega (arith, bad))
  truth_told false false r u e = (refl, ap (drop 5) e)

  pub value_told : (v w : SourceValue) (r u : List ℕ) → ValueIsTold text v → ValueIsTold text w → Stops is_ascii_digit r
      → Stops is_ascii_digit u → value_text text v ++ r ≡ value_text text w ++ u → (v ≡ w) × (r ≡ u)
  value_told (Int m) (Int n) r u h k i j e = let z = signed_told m n r u h k i j e in (ap Int z.0, z.1)
  value_told (Int m) (SourceBool c) r u h k i j e =
      absurd (begins_stops is_numeric (signed_decimal m) r _ (signed_begins m h) (truth_stops c u) e)
  value_told (Int m) (Name t) r u h k i j e =
      absurd (begins_stops is_numeric (signed_decimal m) r _ (signed_begins m h)
      (point_stops t.path.steps (place_text text t.place) u) e)
  value_told (SourceBool b) (Int n) r u h k i j e =
      absurd (begins_stops is_numeric (signed_decimal n) u _ (signed_begins n k) (truth_stops b r) (sym e))
  value_told (SourceBool b) (SourceBool c) r u h k i j e = let z = truth_told b c r u e in (ap SourceBool z.0, z.1)
  value_told (SourceBool b) (Name t) r u h k i j e = absurd (no_point b t.path.steps (place_text text t.place) r u e)
  value_told (Name s) (Int n) r u h k i j e =
      absurd (begins_stops is_numeric (signed_decimal n) u _ (signed_begins n k)
      (point_stops s.path.steps (place_text text s.place) r) (sym e))
  value_told (Name s) (SourceBool c) r u h k i j e =
      absurd (no_point c s.path.steps (place_text text s.place) u r (sym e))
  value_told (Name s) (Name t) r u h k i j e = let z = site_told s t r u h k i j e in (ap Name z.0, z.1)

  -- a cell is told, and what stands behind it
  pub cell_told : (s t : Site) (m n : ℤ) (r u : List ℕ) → CellIsTold text s m → CellIsTold text t n
      → cell_text text s m ++ r ≡ cell_text text t n ++ u → (s ≡ t) × (m ≡ n) × (r ≡ u)
  cell_told s t m n r u h k e =
      let cut_so : (x : Site) (z : ℤ) (b : List ℕ)
      → cell_text text x z ++ b ≡ site_text text x ++ 91 ∷ (signed_decimal z ++ 93 ∷ b) =
      λ x z b. append_assoc (site_text text x) (91 ∷ (signed_decimal z ++ codes "]")) b
      ∙ ap (λ y. site_text text x ++ 91 ∷ y) (append_assoc (signed_decimal z) (codes "]") b) in
      let name =
      site_told s t (91 ∷ (signed_decimal m ++ 93 ∷ r)) (91 ∷ (signed_decimal n ++ 93 ∷ u)) h.name k.name refl refl
      (sym (cut_so s m r) ∙ (e ∙ cut_so t n u)) in
      let index = signed_told m n (93 ∷ r) (93 ∷ u) h.index k.index refl refl (ap (drop 1) name.1) in
      (name.0, index.0, ap (drop 1) index.1)
