-- How facts are found by their chains.
use Rattle.std.proofs.Common.{◌≡◌, ◌⊎◌, ℕ, suc, ◌<◌, List, []}
use Rattle.std.proofs.Common.{◌∷◌, ◌++◌, length, inl, inr, refl, ap, sym, ◌∙◌, subst, arith}
use Rattle.std.specs.Prelude.{pos, None, Some, ◌+◌, ◌*◌, ◌%◌}
use Rattle.std.proofs.Math.ListN.{get_or-append}
use Rattle.std.proofs.Math.Nat.{eq-or-lt_of_le, mod-lt}
use Rattle.std.proofs.Math.Seq.{get_or-append_seam}
use Rattle.std.proofs.lemmas.List.{length-append}
use Rattle.id_facts.specs.declared.facts.RowFact.{RowFact}
use Rattle.id_source.specs.declared.edges.Edges.{Edges}
use Rattle.id_facts.specs.declared.cells.Cells.{Cells}
use Rattle.id_facts.specs.declared.facts.RowFact.TheVariants.{On, Has, Shape, Put, Ask}
use Rattle.id_facts.specs.declared.facts.Sort.TheVariants.{Named}
use Rattle.id_facts.specs.declared.facts.Trail.TheVariants.{Outermost}
use Rattle.id_facts.specs.Cells.{AddsFacts, AreChained, items, name_of}
use Rattle.id_facts.specs.RowFacts.{chain_by, chain_of, fact_at, index_mark, sort_mark}
use Rattle.id_source.specs.Links.{AreNone, Gains, Leads, width}

-- ---- facts in their chains

-- no facts hang in no chains
pub chained-none : (c : Cells) → items c ≡ [] → AreNone c.chains 262144 → AreChained c
chained-none c e n =
    let no : (i : ℕ) → i < length (items c) → ⊥ =
    λ i l. (let P : List RowFact → Type 0 = λ fs. i < length fs in let k : i < 0 = subst P e l in
    absurd (omega arith)) in
    record {
      wide = n.wide;
      within = λ k i h. absurd (n.none k i h);
      there = λ i l. absurd (no i l);
      named = λ i s l. absurd (no i l);
    }

-- the edges have those to the number of the fact
record Holds (b c : Cells) (f : RowFact) : Type 0 where
  pub wide : width c.chains ≡ width b.chains
  pub kept : (k i : ℕ) → Leads b.chains k i → Leads c.chains k i
  pub only : (k i : ℕ) → Leads c.chains k i → Leads b.chains k i ⊎ (i ≡ length (items b))
  pub there : width b.chains ≡ 262144 → Leads c.chains (chain_of f) (length (items b))
  pub named : (s : ℕ) → width b.chains ≡ 262144 → name_of f ≡ Some s
      → Leads c.chains (chain_by Named s (pos 0)) (length (items b))

lt-or : (i n : ℕ) → i < suc n → (i < n) ⊎ (i ≡ n)
lt-or i n l = elim (eq-or-lt_of_le {n = i} {m = n} (omega arith)) [ inl q ↦ inr q | inr k ↦ inl k ]

chained-more : (b c : Cells) (f : RowFact) → items c ≡ items b ++ f ∷ [] → Holds b c f → AreChained b → AreChained c
chained-more b c f e h a =
    let n = length (items b) in
    let long : length (items c) ≡ suc n = ap (λ fs. length fs) e ∙ length-append (items b) (f ∷ []) ∙ omega arith in
    let old : (i : ℕ) → i < n → fact_at (items c) i ≡ fact_at (items b) i =
    λ i l. ap (λ fs. fact_at fs i) e ∙ get_or-append (items b) (f ∷ []) (On Outermost 0) i l in
    let new : fact_at (items c) n ≡ f =
    ap (λ fs. fact_at fs n) e ∙ get_or-append_seam (items b) f [] (On Outermost 0) in
    let at : (i : ℕ) → i < length (items c) → (i < n) ⊎ (i ≡ n) =
    λ i l. elim (lt-or i n (omega arith)) [ inl k ↦ inl k | inr q ↦ inr q ] in
    record {
      wide = h.wide ∙ a.wide;
      within = λ k i l. elim (h.only k i l) [
        | inl m ↦ (let r = a.within k i m in omega arith)
        | inr q ↦ omega arith
      ];
      there = λ i l. elim (at i l) [
        | inl k ↦ (let P : RowFact → Type 0 = λ g. Leads c.chains (chain_of g) i in
            subst P (sym (old i k)) (h.kept _ i (a.there i k)))
        | inr q ↦ (let P : RowFact → Type 0 = λ g. Leads c.chains (chain_of g) n in
            let Q : ℕ → Type 0 = λ j. Leads c.chains (chain_of (fact_at (items c) j)) j in
            subst Q (sym q) (subst P (sym new) (h.there a.wide)))
      ];
      named = λ i s l m. elim (at i l) [
        | inl k ↦ h.kept _ i (a.named i s k (ap (λ g. name_of g) (sym (old i k)) ∙ m))
        | inr q ↦ (let Q : ℕ → Type 0 = λ j. Leads c.chains (chain_by Named s (pos 0)) j in
            subst Q (sym q)
            (h.named s a.wide (ap (λ g. name_of g) (sym new) ∙ ap (λ j. name_of (fact_at (items c) j)) (sym q) ∙ m)))
      ];
    }

-- a number for a chain is below their count
chain-low : (n : ℕ) → n % 262144 < 262144
chain-low n = mod-lt n (omega arith)

chain-of-low : (f : RowFact) → chain_of f < 262144
chain-of-low (On p n) = chain-low _
chain-of-low (Has p n v) = chain-low _
chain-of-low (Shape s lo hi) = chain-low _
chain-of-low (Put p n s i v) = chain-low _
chain-of-low (Ask p n s i) = chain-low _

-- a fact that gives no structure hangs in its chain
pub adds-plain : (b c : Cells) (f : RowFact) → name_of f ≡ None → items c ≡ items b ++ f ∷ []
    → Gains b.chains c.chains (chain_of f) (length (items b) ∷ []) → AddsFacts b c (f ∷ [])
adds-plain b c f e p g = record {
  items = p;
  chained = chained-more b c f p record {
    wide = g.wide;
    kept = g.kept;
    only = λ k i l. elim (g.only k i l) [ inl m ↦ inl m | inr r ↦ elim r.1 [ inl q ↦ inr q | inr z ↦ absurd z ] ];
    there = λ w. g.added _ (let l = chain-of-low f in omega arith) (inl refl);
    named = λ s w m. cc;
  };
}

-- one that gives a structure hangs in that one's, too
pub adds-named : (b : Cells) (F : Edges) (c : Cells) (f : RowFact) (s : ℕ) → name_of f ≡ Some s
    → items c ≡ items b ++ f ∷ [] → Gains b.chains F (chain_of f) (length (items b) ∷ [])
    → Gains F c.chains (chain_by Named s (pos 0)) (length (items b) ∷ [])
    → AddsFacts b c (f ∷ [])
adds-named b F c f s e p g h = record {
  items = p;
  chained = chained-more b c f p record {
    wide = h.wide ∙ g.wide;
    kept = λ k i l. h.kept k i (g.kept k i l);
    only = λ k i l. elim (h.only k i l) [
      | inl m ↦ elim (g.only k i m) [ inl o ↦ inl o | inr r ↦ elim r.1 [ inl q ↦ inr q | inr z ↦ absurd z ] ]
      | inr r ↦ elim r.1 [ inl q ↦ inr q | inr z ↦ absurd z ]
    ];
    there = λ w. h.kept _ _ (g.added _ (let l = chain-of-low f in omega arith) (inl refl));
    named = λ t w m. (
        let q : s ≡ t = cc in
        let P : ℕ → Type 0 = λ x. Leads c.chains (chain_by Named x (pos 0)) (length (items b)) in
        subst P q (h.added _ (let u = g.wide in let l =
        chain-low (sort_mark Named + s % 262144 * 40503 + index_mark (pos 0) * 162013) in omega arith)
        (inl refl)));
  };
}

-- the same, of the chain and the number as they are had
pub adds-plain-at : (b c : Cells) (f : RowFact) (k n : ℕ) → k ≡ chain_of f → n ≡ length (items b) → name_of f ≡ None
    → items c ≡ items b ++ f ∷ [] → Gains b.chains c.chains k (n ∷ []) → AddsFacts b c (f ∷ [])
adds-plain-at b c f k n q r e p g =
    let P : ℕ → Type 0 = λ m. Gains b.chains c.chains m (n ∷ []) in
    let Q : ℕ → Type 0 = λ m. Gains b.chains c.chains (chain_of f) (m ∷ []) in
    adds-plain b c f e p (subst Q r (subst P q g))

pub adds-named-at : (b : Cells) (F : Edges) (c : Cells) (f : RowFact) (s k h n : ℕ) → k ≡ chain_of f
    → h ≡ chain_by Named s (pos 0) → n ≡ length (items b) → name_of f ≡ Some s → items c ≡ items b ++ f ∷ []
    → Gains b.chains F k (n ∷ []) → Gains F c.chains h (n ∷ []) → AddsFacts b c (f ∷ [])
adds-named-at b F c f s k h n q w r e p g i =
    let P : ℕ → Type 0 = λ m. Gains b.chains F m (n ∷ []) in
    let Q : ℕ → Type 0 = λ m. Gains b.chains F (chain_of f) (m ∷ []) in
    let R : ℕ → Type 0 = λ m. Gains F c.chains m (n ∷ []) in
    let S : ℕ → Type 0 = λ m. Gains F c.chains (chain_by Named s (pos 0)) (m ∷ []) in
    adds-named b F c f s e p (subst Q r (subst P q g)) (subst S r (subst R w i))
