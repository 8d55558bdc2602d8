-- The texts of facts are lines, each of them one.
use Rattle.std.proofs.Common.{◌≡◌, ℕ, true, List, [], ◌∷◌, ◌++◌, inl, inr, map, refl, sym, ap, ◌∙◌}
use Rattle.std.specs.Prelude.{codes}
use Rattle.std.specs.Fmt.{signed_decimal}
use Rattle.id_value.specs.List.{Among}
use Rattle.id_source.specs.declared.Fact.{Fact}
use Rattle.id_source.specs.declared.Fact.TheVariants.{On, Has}
use Rattle.id_source.specs.declared.Fact.TheVariants as fact
use Rattle.id_sink.specs.Texts.{cell_text, equal_text, filled_text, point_text, site_text}
use Rattle.id_print.specs.Texts.{fact_text, facts_text}
use Rattle.id_sink.proofs.LinesLemmas.{is_line, is_line-behind, same_lines}
use Rattle.id_sink.proofs.DigitsLemmas.{signed_within}
use Rattle.id_sink.proofs.InLineLemmas.{cell_within, filled_within, point_within, value_within}

-- the text of a fact is one line
pub fact_line : (text : List ℕ) (f : Fact) → is_line (fact_text text f) ≡ true
fact_line text (On p e) = is_line-behind (point_text text p e) (codes "\n") (point_within text p e) refl
fact_line text (Has p e v) =
    is_line-behind (point_text text p e) (equal_text text v ++ codes "\n") (point_within text p e)
    (is_line-behind (equal_text text v) (codes "\n") (value_within text v) refl)
fact_line text (fact.Shape s) =
    is_line-behind (site_text text s.name)
    (32 ∷ (signed_decimal s.low ++ (codes ".." ++ (signed_decimal s.high ++ codes "\n"))))
    (point_within text s.name.path s.name.place)
    (is_line-behind (signed_decimal s.low) (codes ".." ++ (signed_decimal s.high ++ codes "\n")) (signed_within s.low)
    (is_line-behind (signed_decimal s.high) (codes "\n") (signed_within s.high) refl))
fact_line text (fact.Put p) =
    is_line-behind (filled_text text p.name p.index p.value) (codes " by " ++ (site_text text p.store ++ codes "\n"))
    (filled_within text p.name p.index p.value)
    (is_line-behind (site_text text p.store) (codes "\n") (point_within text p.store.path p.store.place) refl)
fact_line text (fact.Ask a) =
    is_line-behind (site_text text a.fetch) (codes " of " ++ (cell_text text a.name a.index ++ codes "\n"))
    (point_within text a.fetch.path a.fetch.place)
    (is_line-behind (cell_text text a.name a.index) (codes "\n") (cell_within text a.name a.index) refl)

-- so the bytes of facts tell the text of each
pub one_by_one : (text : List ℕ) (fs gs : List Fact) → facts_text text fs ≡ facts_text text gs
    → map (fact_text text) fs ≡ map (fact_text text) gs
one_by_one text fs gs e = same_lines (fact_text text) (fact_line text) fs gs e

-- what is among the one has its like among the other
pub like_among : {A : Type 0} (f : A → List ℕ) (xs ys : List A) (x : A) → map f xs ≡ map f ys → Among x xs
    → (y : A) × Among y ys × (f y ≡ f x)
like_among f [] ys x e h = absurd h
like_among f (z ∷ xs) [] x e h = absurd cc
like_among f (z ∷ xs) (y ∷ ys) x e (inl h) =
    let same : f z ≡ f y = cc in (y, inl refl, sym same ∙ sym (ap f h))
like_among f (z ∷ xs) (y ∷ ys) x e (inr h) =
    let rest : map f xs ≡ map f ys = cc in
    let w = like_among f xs ys x rest h in
    (w.0, inr w.1, w.2)
