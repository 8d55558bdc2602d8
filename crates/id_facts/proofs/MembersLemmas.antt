-- Facts that are the same are one, so each is found in its chain.
use Rattle.std.proofs.Common.{◌≡◌, ◌&&◌, nat_eq, ℤ, Bool as Truth, true, false, List, refl, ap, sym, ◌∙◌, subst}
use Rattle.std.specs.Ordering.{int_eq}
use Rattle.std.proofs.lemmas.Bool.{eqb-true}
use Rattle.std.proofs.lemmas.Bool.Decides.{Decides-int_eq}
use Rattle.std.specs.Cmp.{booleans_Decides}
use Rattle.id_facts.specs.declared.facts.RowFact.{RowFact}
use Rattle.id_facts.specs.declared.facts.RowFact.TheVariants.{On, Has, Shape, Put, Ask}
use Rattle.id_facts.specs.declared.facts.RowValue.{RowValue}
use Rattle.id_facts.specs.declared.facts.RowValue.TheVariants.{Int, Bool, Name}
use Rattle.id_source.specs.declared.edges.Edges.{Edges}
use Rattle.id_facts.specs.RowFacts.{AreHeld, fact_at, is_among, member_chain, same_fact, same_trail}
use Rattle.id_facts.specs.RowFacts as facts
use Rattle.id_source.specs.Links.{Leads, targets}
use Rattle.id_facts.proofs.SameLemmas.{in-at, is_in, same-among}
use Rattle.id_facts.proofs.FactsLemmas.{index-of}
use Rattle.id_facts.proofs.OneLemmas.{on-true, trail-true}

both : (a b : Truth) → a && b ≡ true → (a ≡ true) × (b ≡ true)
both true b h = (refl, h)
both false b h = cc

int-true : (m n : ℤ) → int_eq m n ≡ true → m ≡ n
int-true m n h = (Decides-int_eq m n).0 h

-- values that are the same are one
pub value-one : (v w : RowValue) → facts.same_value v w ≡ true → v ≡ w
value-one (Int m) (Int n) h = ap (λ k. Int k) (int-true m n h)
value-one (Int m) (Bool c) h = cc
value-one (Int m) (Name j) h = cc
value-one (Bool b) (Int n) h = cc
value-one (Bool b) (Bool c) h = ap (λ k. Bool k) ((booleans_Decides b c).0 h)
value-one (Bool b) (Name j) h = cc
value-one (Name i) (Int n) h = cc
value-one (Name i) (Bool c) h = cc
value-one (Name i) (Name j) h = ap (λ k. Name k) (eqb-true i j h)

-- facts that are the same are one
pub fact-one : (f g : RowFact) → same_fact f g ≡ true → f ≡ g
fact-one (On p n) g h = sym (on-true p n g h)
fact-one (Has p n v) (On q m) h = cc
fact-one (Has p n v) (Has q m w) h =
    let a = both _ (facts.same_value v w) h in
    let b = both (same_trail p q) (nat_eq n m) a.0 in
    ap (λ x. Has x n v) (trail-true p q b.0) ∙ ap (λ x. Has q x v) (eqb-true n m b.1)
    ∙ ap (λ x. Has q m x) (value-one v w a.1)
fact-one (Has p n v) (Shape t lo hi) h = cc
fact-one (Has p n v) (Put q m t j w) h = cc
fact-one (Has p n v) (Ask q m t j) h = cc
fact-one (Shape s lo hi) (On q m) h = cc
fact-one (Shape s lo hi) (Has q m w) h = cc
fact-one (Shape s lo hi) (Shape t low high) h =
    let a = both _ (int_eq hi high) h in
    let b = both (nat_eq s t) (int_eq lo low) a.0 in
    ap (λ x. Shape x lo hi) (eqb-true s t b.0) ∙ ap (λ x. Shape t x hi) (int-true lo low b.1)
    ∙ ap (λ x. Shape t low x) (int-true hi high a.1)
fact-one (Shape s lo hi) (Put q m t j w) h = cc
fact-one (Shape s lo hi) (Ask q m t j) h = cc
fact-one (Put p n s i v) (On q m) h = cc
fact-one (Put p n s i v) (Has q m w) h = cc
fact-one (Put p n s i v) (Shape t lo hi) h = cc
fact-one (Put p n s i v) (Put q m t j w) h =
    let a = both _ (facts.same_value v w) h in
    let b = both _ (int_eq i j) a.0 in
    let c = both _ (nat_eq s t) b.0 in
    let d = both (same_trail p q) (nat_eq n m) c.0 in
    ap (λ x. Put x n s i v) (trail-true p q d.0) ∙ ap (λ x. Put q x s i v) (eqb-true n m d.1)
    ∙ ap (λ x. Put q m x i v) (eqb-true s t c.1)
    ∙ ap (λ x. Put q m t x v) (int-true i j b.1) ∙ ap (λ x. Put q m t j x) (value-one v w a.1)
fact-one (Put p n s i v) (Ask q m t j) h = cc
fact-one (Ask p n s i) (On q m) h = cc
fact-one (Ask p n s i) (Has q m w) h = cc
fact-one (Ask p n s i) (Shape t lo hi) h = cc
fact-one (Ask p n s i) (Put q m t j w) h = cc
fact-one (Ask p n s i) (Ask q m t j) h =
    let a = both _ (int_eq i j) h in
    let b = both _ (nat_eq s t) a.0 in
    let c = both (same_trail p q) (nat_eq n m) b.0 in
    ap (λ x. Ask x n s i) (trail-true p q c.0) ∙ ap (λ x. Ask q x s i) (eqb-true n m c.1)
    ∙ ap (λ x. Ask q m x i) (eqb-true s t b.1)
    ∙ ap (λ x. Ask q m t x) (int-true i j a.1)

-- where a fact is there, it is found in its chain
pub held-in : (fs : List RowFact) (E : Edges) (f : RowFact) → AreHeld fs E → is_among f fs ≡ true
    → is_in fs f (targets E.rows.items (member_chain f)) ≡ true
held-in fs E f h e =
    let r = same-among fs f e in
    let x = index-of r.0 fs r.1 in
    let same : same_fact (fact_at fs x.0) f ≡ true = ap (λ g. same_fact g f) x.2 ∙ r.2 in
    let one : fact_at fs x.0 ≡ f = fact-one (fact_at fs x.0) f same in
    let P : RowFact → Type 0 = λ g. Leads E (member_chain g) x.0 in
    in-at fs f (targets E.rows.items (member_chain f)) x.0 (subst P one (h.there x.0 x.1)) x.1 same

-- so where it is not found there, it is not there
pub held-out : (fs : List RowFact) (E : Edges) (f : RowFact) → AreHeld fs E
    → is_in fs f (targets E.rows.items (member_chain f)) ≡ false → is_among f fs ≡ false
held-out fs E f h e = at (is_among f fs) refl
  where
    at : (t : Truth) → is_among f fs ≡ t → is_among f fs ≡ false
    at true q = (let b : true ≡ false = sym (held-in fs E f h q) ∙ e in cc)
    at false q = q
