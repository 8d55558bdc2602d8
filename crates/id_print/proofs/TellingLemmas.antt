-- Facts are read back from their lines.
use Rattle.std.proofs.Common.{◌≡◌, ℕ, ◌<◌, ◌^◌, List, [], ◌∷◌, ◌++◌, length, drop, get_or, map, refl, sym, ap, ◌∙◌}
use Rattle.std.proofs.Common.{arith, append_assoc}
use Rattle.std.specs.Prelude.{codes}
use Rattle.std.specs.Fmt.{signed_decimal}
use Rattle.std.proofs.lemmas.List.Elements.{All-head, All-tail}
use Rattle.id_source.specs.declared.Put.{Put}
use Rattle.id_source.specs.declared.Fact.{Fact}
use Rattle.id_source.specs.declared.Fact.TheVariants.{On, Has}
use Rattle.id_source.specs.declared.Fact.TheVariants as fact
use Rattle.id_sink.specs.Texts.{cell_text, equal_text, site_text}
use Rattle.id_print.specs.Texts.{fact_text, facts_text}
use Rattle.id_print.specs.Telling.{FactIsTold, FactsAreTold}
use Rattle.id_sink.proofs.DigitsLemmas.{signed_told}
use Rattle.id_sink.proofs.TellingLemmas.{cell_told, point_told, site_told, value_told}
use Rattle.id_print.proofs.LinesLemmas.{one_by_one}

module _ (text : List ℕ) (small : length text < 2 ^ 64) where
  -- a fact is told by its line
  pub fact_told : (f g : Fact) → FactIsTold text f → FactIsTold text g → fact_text text f ≡ fact_text text g → f ≡ g
  fact_told (On p a) (On q b) h k e =
      let z = point_told text small p q a b (codes "\n") (codes "\n") h k refl refl (ap (drop 3) e) in
      λ i. On (z.0 i) (z.1 i)
  fact_told (Has p a v) (Has q b w) h k e =
      let z = point_told text small p q a b (equal_text text v ++ codes "\n") (equal_text text w ++ codes "\n") h.point
      k.point refl refl (ap (drop 4) e) in
      let y = value_told text small v w (codes "\n") (codes "\n") h.value k.value refl refl (ap (drop 3) z.2) in
      λ i. Has (z.0 i) (z.1 i) (y.0 i)
  fact_told (fact.Shape s) (fact.Shape t) h k e =
      let x = site_told text small s.name t.name
      (32 ∷ (signed_decimal s.low ++ (codes ".." ++ (signed_decimal s.high ++ codes "\n"))))
      (32 ∷ (signed_decimal t.low ++ (codes ".." ++ (signed_decimal t.high ++ codes "\n")))) h.name k.name refl refl
      (ap (drop 6) e) in
      let y = signed_told s.low t.low (codes ".." ++ (signed_decimal s.high ++ codes "\n"))
      (codes ".." ++ (signed_decimal t.high ++ codes "\n"))
      h.low k.low refl refl (ap (drop 1) x.1) in
      let z = signed_told s.high t.high (codes "\n") (codes "\n") h.high k.high refl refl (ap (drop 2) y.1) in
      λ i. fact.Shape (record { name = x.0 i; low = y.0 i; high = z.0 i })
  fact_told (fact.Put p) (fact.Put q) h k e =
      let by : Put → List ℕ = λ x. codes " by " ++ (site_text text x.store ++ codes "\n") in
      let cut_so : (x : Put)
      → (cell_text text x.name x.index ++ equal_text text x.value) ++ by x ≡ cell_text text x.name x.index
      ++ (equal_text text x.value ++ by x) =
      λ x. append_assoc (cell_text text x.name x.index) (equal_text text x.value) (by x) in
      let cell =
      cell_told text small p.name q.name p.index q.index (equal_text text p.value ++ by p)
      (equal_text text q.value ++ by q) h.cell k.cell
      (sym (cut_so p) ∙ (ap (drop 4) e ∙ cut_so q)) in
      let value = value_told text small p.value q.value (by p) (by q) h.value k.value refl refl (ap (drop 3) cell.2) in
      let store =
      site_told text small p.store q.store (codes "\n") (codes "\n") h.store k.store refl refl (ap (drop 4) value.1) in
      λ i. fact.Put (record { name = cell.0 i; index = cell.1 i; value = value.0 i; store = store.0 i })
  fact_told (fact.Ask a) (fact.Ask b) h k e =
      let fetch = site_told text small a.fetch b.fetch (codes " of " ++ (cell_text text a.name a.index ++ codes "\n"))
      (codes " of " ++ (cell_text text b.name b.index ++ codes "\n")) h.fetch k.fetch refl refl (ap (drop 4) e) in
      let cell =
      cell_told text small a.name b.name a.index b.index (codes "\n") (codes "\n") h.cell k.cell
      (ap (drop 4) fetch.1) in
      λ i. fact.Ask (record { fetch = fetch.0 i; name = cell.0 i; index = cell.1 i })
  fact_told f g h k e = absurd (omega (arith, ap (λ l. get_or l 0 0) e))

  each_told : (fs gs : List Fact) → FactsAreTold text fs → FactsAreTold text gs
      → map (fact_text text) fs ≡ map (fact_text text) gs → fs ≡ gs
  each_told [] [] h k e = refl
  each_told [] (g ∷ gs) h k e = absurd cc
  each_told (f ∷ fs) [] h k e = absurd cc
  each_told (f ∷ fs) (g ∷ gs) h k e =
      let T : Fact → Type 0 = FactIsTold text in
      let one : fact_text text f ≡ fact_text text g = cc in
      let others : map (fact_text text) fs ≡ map (fact_text text) gs = cc in
      let first : f ≡ g = fact_told f g (All-head T f fs h) (All-head T g gs k) one in
      let rest : fs ≡ gs = each_told fs gs (All-tail T f fs h) (All-tail T g gs k) others in
      λ i. first i ∷ rest i

  -- facts are told by their lines
  pub facts_told : (fs gs : List Fact) → FactsAreTold text fs → FactsAreTold text gs
      → facts_text text fs ≡ facts_text text gs → fs ≡ gs
  facts_told fs gs h k e = each_told fs gs h k (one_by_one text fs gs e)
