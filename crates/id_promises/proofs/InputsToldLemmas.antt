-- The lines of the facts of a source tell its inputs: they tell what main's parameters Have at the empty path.
use Rattle.std.proofs.Common.{◌≡◌, ℕ, ℤ, suc, ◌<◌, ◌≤◌, ◌^◌, true, List, [], ◌∷◌, ◌++◌, inl, inr, length, drop, get_or}
use Rattle.std.proofs.Common.{Some, refl, sym, ap, subst, ◌∙◌, arith}
use Rattle.std.specs.Prelude.{codes, slice_get, pos, negsuc}
use Rattle.std.specs.Int.Signed.{mag}
use Rattle.std.proofs.lemmas.Bool.{false≢true}
use Rattle.std.proofs.lemmas.Bool.Decides.{nat_tests}
use Rattle.std.proofs.lemmas.Option.{slice_get-get_or}
use Rattle.id_value.specs.Results.{is_whole}
use Rattle.id_value.specs.declared.Constant.{Constant}
use Rattle.id_value.specs.declared.Constant.TheVariants as constant
use Rattle.id_table.specs.declared.row.Node.{Node}
use Rattle.id_table.specs.declared.row.Node.TheVariants.{Param}
use Rattle.id_table.specs.Rows.{at}
use Rattle.id_table.specs.Tables.{is_param}
use Rattle.id_tree.specs.Distinct.{HasPlace}
use Rattle.id_check.specs.declared.checked.Checked.{Checked}
use Rattle.id_check.specs.Programs.{Stands, place, rows, tree}
use Rattle.id_source.specs.declared.PathStep.{PathStep}
use Rattle.id_source.specs.declared.SourceValue.{SourceValue}
use Rattle.id_source.specs.declared.Fact.{Fact}
use Rattle.id_source.specs.declared.Fact.TheVariants.{Has}
use Rattle.id_source.specs.Computed.{AreFacts}
use Rattle.id_source.specs.Facts.{outermost, param_has}
use Rattle.id_source.specs.Rounds.{Holds, Rounds}
use Rattle.id_source.specs.Sources.{IsInput, Source, main_params, source, value_of}
use Rattle.id_source.proofs.Coherence.{because}
use Rattle.id_source.proofs.HasLemmas.{Fetches, FollowsAt, FollowsParam, asked_by, follows_at, follows_by}
use Rattle.id_source.proofs.ParamsLemmas.{input_param, one_input}
use Rattle.id_source.proofs.PlacedLemmas.{round_placed}
use Rattle.id_source.proofs.StepsLemmas.{none-below}
use Rattle.id_sink.specs.Texts.{equal_text, place_text, steps_text}
use Rattle.id_print.specs.Texts.{fact_text, facts_text}
use Rattle.id_sink.specs.Telling.{ValueIsTold}
use Rattle.id_sink.proofs.DigitsLemmas.{place_told}
use Rattle.id_sink.proofs.TellingLemmas.{value_told}
use Rattle.id_print.proofs.LinesLemmas.{like_among, one_by_one}
use Rattle.id_promises.proofs.OneProgramLemmas.{same_list}

-- a number of the language is told
pub whole_told : (n : ℤ) → is_whole n ≡ true → mag n < 2 ^ 64
whole_told (pos m) h = grind (arith, nat_tests)
whole_told (negsuc m) h = grind (arith, nat_tests)

-- ---- what a parameter of `main` Has

fetches_held : (S : Source) → Fetches S (Holds S)
fetches_held S f s j h =
    let b = because S h.round _ h.there in
    let a = asked_by (Holds S) b.rule b.hold in
    a.fetch

-- a parameter of `main` Has its input alone at the empty path
param_once : (S : Source) (b : ℕ) (u : Constant) (w : SourceValue) → IsInput S b u
    → Holds S (Has outermost (place S.checked b) w) → w ≡ value_of u
param_once S b u w i h =
    let q = input_param i in
    let a = because S h.round _ h.there in
    let f : FollowsAt S (Holds S) outermost (place S.checked b) w =
    follows_by (Holds S) (fetches_held S) a.rule a.hold in
    by (at (rows S.checked) b).node (record { within = q.0; node = refl }) q.1 f
  where
    one : FollowsParam S (Holds S) b outermost w → w ≡ value_of u
    one (inl x) = x.3 ∙ ap value_of (one_input x.2 i)
    one (inr x) = absurd (none-below x.outer (place S.checked x.call) 0 x.path)

    by : (m : Node) → Stands S.checked b m → is_param m ≡ true → FollowsAt S (Holds S) outermost (place S.checked b) w
        → w ≡ value_of u
    by (Param x k) s t f = one (follows_at (Holds S) b (Param x k) s refl refl f)
    by _ s t f = absurd (false≢true t)

-- ---- the line of what something Has at the empty path

-- the fact is such a one, and its line from the place on is this
record IsOutermost (text rest : List ℕ) (g : Fact) : Type 0 where
  place : ℕ
  value : SourceValue
  is : g ≡ Has outermost place value
  line : place_text text place ++ (equal_text text value ++ codes "\n") ≡ rest

is_outermost : (text rest : List ℕ) (g : Fact) → fact_text text g ≡ codes "has @" ++ rest → IsOutermost text rest g
is_outermost text rest (Has p e v) h = by p.steps refl (ap (drop 4) h)
  where
    by : (ss : List PathStep) → p.steps ≡ ss
        → (steps_text text ss ++ 64 ∷ place_text text e) ++ (equal_text text v ++ codes "\n") ≡ 64 ∷ rest
        → IsOutermost text rest (Has p e v)
    by [] q k = record { place = e; value = v; is = λ i. Has (record { steps = q i }) e v; line = ap (drop 1) k }
    by (s ∷ ss) q k = absurd (let bad : 47 ≡ 64 = ap (λ l. get_or l 0 0) k in omega (arith, bad))
is_outermost text rest g h = absurd (omega (arith, ap (λ l. get_or l 0 0) h))

-- ---- inputs

-- each input of a source is told
abbrev pub AreTold : Source → List ℕ → Type 0
AreTold S text = (b : ℕ) (c : Constant) → IsInput S b c → ValueIsTold text (value_of c)

same_constant : (c d : Constant) → value_of c ≡ value_of d → c ≡ d
same_constant (constant.Int m) (constant.Int n) e = let q : m ≡ n = cc in ap (λ k. constant.Int k) q
same_constant (constant.Bool b) (constant.Bool c) e = let q : b ≡ c = cc in ap (λ k. constant.Bool k) q
same_constant (constant.Int m) (constant.Bool c) e = cc
same_constant (constant.Bool b) (constant.Int n) e = cc

module _ (text : List ℕ) (small : length text < 2 ^ 64) (P : Checked) (placed : (q : ℕ) → HasPlace (tree P) q
    → q ≤ length text)
    (vs us : List Constant) (n m : ℕ) (fs gs : List Fact) (h : AreFacts (source P vs) (suc n) fs)
    (k : AreFacts (source P us) (suc m) gs)
    (same : facts_text text fs ≡ facts_text text gs) (given : AreTold (source P vs) text)
    (there : AreTold (source P us) text) where
  -- rounds with the same bytes have one input for each parameter
  one_told : (b : ℕ) (c d : Constant) → IsInput (source P vs) b c → IsInput (source P us) b d → c ≡ d
  one_told b c d i j =
      let e = place P b in
      let f : Fact = Has outermost e (value_of c) in
      let here : Rounds (source P vs) (suc n) f = inr ([], param_has i, tt) in
      let like = like_among (fact_text text) fs gs f (one_by_one text fs gs same) (h.all f here) in
      let it : IsOutermost text (place_text text e ++ (equal_text text (value_of c) ++ codes "\n")) like.0 =
      is_outermost text _ like.0 like.2 in
      let R : Fact → Type 0 = λ g. Rounds (source P us) (suc m) g in
      let round : Rounds (source P us) (suc m) (Has outermost it.place it.value) =
      subst R it.is (k.only like.0 like.1) in
      let own = round_placed (source P vs) (suc n) f here in
      let its = round_placed (source P us) (suc m) (Has outermost it.place it.value) round in
      let place_is =
      place_told text small it.place e (equal_text text it.value ++ codes "\n")
      (equal_text text (value_of c) ++ codes "\n")
      (placed it.place its.0.place) (placed e own.0.place) refl refl it.line in
      let H : ℕ → Type 0 = λ x. Holds (source P us) (Has outermost x it.value) in
      let value_is : it.value ≡ value_of d =
      param_once (source P us) b d it.value j (subst H place_is.0 (record { round = suc m; there = round })) in
      let line : equal_text text (value_of d) ++ codes "\n" ≡ equal_text text (value_of c) ++ codes "\n" =
      ap (λ w. equal_text text w ++ codes "\n") (sym value_is) ∙ place_is.1 in
      let one =
      value_told text small (value_of d) (value_of c) (codes "\n") (codes "\n") (there b d j) (given b c i) refl refl
      (ap (drop 3) line) in
      same_constant c d (sym one.0)

  some_is : {c d : Constant} → c ≡ d → Some c ≡ Some d
  some_is e = ap (λ x. Some x) e

  at_one : (i : ℕ) → i < length vs → length vs ≡ length (main_params P) → length us ≡ length (main_params P)
      → slice_get vs i ≡ slice_get us i
  at_one i l wide long =
      let d = constant.Bool true in
      let param = slice_get-get_or (main_params P) i 0 (omega (arith, l, wide)) in
      let v = slice_get-get_or vs i d l in
      let u = slice_get-get_or us i d (omega (arith, l, wide, long)) in
      v ∙ (some_is
      (one_told (get_or (main_params P) i 0) (get_or vs i d) (get_or us i d) (record {
        number = i;
        param = param;
        value = v;
      })
      (record { number = i; param = param; value = u })) ∙ sym u)

  -- so they have one list of inputs
  pub inputs_told : length vs ≡ length (main_params P) → length us ≡ length (main_params P) → vs ≡ us
  inputs_told wide long = same_list vs us (wide ∙ sym long) (λ i l. at_one i l wide long)
