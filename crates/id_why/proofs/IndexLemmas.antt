-- Facts that are looked up by things.
use Rattle.std.proofs.Common.{◌≡◌, ◌⊎◌, ◌<◌, ◌≤◌, ◌+◌, ◌*◌, inl, inr, ℕ, suc, Option, None, Some, List, [], ◌∷◌, ◌++◌}
use Rattle.std.proofs.Common.{length, refl, ap, sym, ◌∙◌, subst, arith}
use Rattle.std.specs.Prelude.{◌%◌}
use Rattle.std.proofs.Math.Nat.{eq-or-lt_of_le, mod-lt}
use Rattle.id_value.specs.List.{Among}
use Rattle.id_value.proofs.AmongLemmas.{Among-either, Among-left, Among-right}
use Rattle.id_check.specs.declared.checked.Checked.{Checked}
use Rattle.id_source.specs.declared.edges.Edges.{Edges}
use Rattle.id_source.specs.Links.{AreNone, Gains, GainsFrom, Leads, width}
use Rattle.id_facts.specs.declared.cells.Cells.{Cells}
use Rattle.id_facts.specs.declared.facts.RowFact.{RowFact}
use Rattle.id_facts.specs.declared.facts.RowFact.TheVariants.{On, Has, Shape, Put, Ask}
use Rattle.id_facts.specs.declared.facts.Trail.{Trail}
use Rattle.id_facts.specs.Cells.{AreChained, items}
use Rattle.id_facts.specs.RowFacts.{chain_at, fact_at, mark_of, path_of, row_of}
use Rattle.id_table.specs.declared.row.Node.{Node}
use Rattle.id_table.specs.declared.row.Node.TheVariants as node
use Rattle.id_why.specs.declared.known.Known.{Known}
use Rattle.id_why.specs.Known.{AreIndexed, AreIndexedTo, Indexes, known_facts, spot_by, store_by, store_number}
use Rattle.id_why.specs.Needs.{node_at}

chain-low : (p : Trail) (n : ℕ) → chain_at p n < 262144
chain-low p n = mod-lt (n % 262144 + mark_of p) (omega arith)

-- ---- edges from a row, if there is one

from-wide : (E F : Edges) (o : Option ℕ) (bs : List ℕ) → GainsFrom E F o bs → width F ≡ width E
from-wide E F None bs g = ap width g
from-wide E F (Some a) bs g = g.wide

from-kept : (E F : Edges) (o : Option ℕ) (bs : List ℕ) → GainsFrom E F o bs → (a b : ℕ) → Leads E a b → Leads F a b
from-kept E F None bs g a b l = let G : Edges → Type 0 = λ x. Leads x a b in subst G (sym g) l
from-kept E F (Some c) bs g a b l = g.kept a b l

from-added : (E F : Edges) (o : Option ℕ) (i a : ℕ) → GainsFrom E F o (i ∷ []) → o ≡ Some a → a < width E → Leads F a i
from-added E F None i a g e l = cc
from-added E F (Some c) i a g e l =
    let q : c ≡ a = cc in
    let G : ℕ → Type 0 = λ x. Leads F x i in
    subst G q (g.added i (omega arith) (inl refl))

from-only : (E F : Edges) (o : Option ℕ) (i a b : ℕ) → GainsFrom E F o (i ∷ []) → Leads F a b → Leads E a b ⊎ (b ≡ i)
from-only E F None i a b g l = let G : Edges → Type 0 = λ x. Leads x a b in inl (subst G g l)
from-only E F (Some c) i a b g l = elim (g.only a b l) [
  | inl m ↦ inl m
  | inr r ↦ elim r.1 [ inl q ↦ inr q | inr z ↦ absurd z ]
]

number-only : (z : Node) (i j : ℕ) → Among j (store_number z i) → j ≡ i
number-only (node.Store a x) i j (inl q) = q
number-only (node.Store a x) i j (inr m) = absurd m
number-only _ i j m = absurd m

store-only : (P : Checked) (f : RowFact) (i j : ℕ) → Among j (store_by P f i) → j ≡ i
store-only P (On p n) i j m = number-only (node_at P n) i j m
store-only P (Has p n v) i j m = absurd m
store-only P (Shape s lo hi) i j m = absurd m
store-only P (Put p n s t v) i j m = absurd m
store-only P (Ask p n s t) i j m = absurd m

-- ---- facts one after another

pub index-none : (P : Checked) (k : Known) (n : ℕ) → AreChained k.cells → AreNone k.points 262144 → AreNone k.turns n
    → n ≡ length (known_facts k) → k.stores.items ≡ [] → AreIndexedTo P 0 k
index-none P k n c p t e s = record {
  chained = c;
  points_wide = p.wide;
  turns_wide = t.wide ∙ e;
  points = λ i l. absurd (omega arith);
  points_within = λ a i l. absurd (p.none a i l);
  turns = λ i j l. absurd (omega arith);
  turns_within = λ j i l. absurd (t.none j i l);
  stores = λ i l. absurd (omega arith);
  stores_within = λ i m. (let F : List ℕ → Type 0 = λ is. Among i is in absurd (subst F s m));
}

lt-or : (i n m : ℕ) → i < m → m ≡ suc n → (i < n) ⊎ (i ≡ n)
lt-or i n m l e = elim (eq-or-lt_of_le {n = i} {m = n} (omega arith)) [ inl q ↦ inr q | inr k ↦ inl k ]

pub index-more : (P : Checked) (b k : Known) (i m : ℕ) (f : RowFact) → m ≡ suc i → i < length (known_facts b)
    → f ≡ fact_at (known_facts b) i → AreIndexedTo P i b → Indexes P b k i f → AreIndexedTo P m k
index-more P b k i m f next within is a h =
    let same : known_facts k ≡ known_facts b = ap items h.cells in
    let long : length (known_facts k) ≡ length (known_facts b) = ap length same in
    let at : (j : ℕ) → fact_at (known_facts k) j ≡ fact_at (known_facts b) j = λ j. ap (λ fs. fact_at fs j) same in
    let one : fact_at (known_facts k) i ≡ f = at i ∙ sym is in
    let C : Cells → Type 0 = λ c. AreChained c in
    record {
      chained = subst C (sym h.cells) a.chained;
      points_wide = h.points.wide ∙ a.points_wide;
      turns_wide = from-wide b.turns k.turns (spot_by f) (i ∷ []) h.turns ∙ a.turns_wide ∙ sym long;
      points = λ j l. elim (lt-or j i m l next) [
        | inl r ↦ (let G : RowFact → Type 0 = λ g. Leads k.points (chain_at (path_of g) (row_of g)) j in
            subst G (sym (at j)) (h.points.kept _ j (a.points j r)))
        | inr q ↦ (let G : RowFact → Type 0 = λ g. Leads k.points (chain_at (path_of g) (row_of g)) i in
            let H : ℕ → Type 0 =
            λ x. Leads k.points (chain_at (path_of (fact_at (known_facts k) x)) (row_of (fact_at (known_facts k) x)))
            x in
            let low = chain-low (path_of f) (row_of f) in
            let wide = a.points_wide in
            subst H (sym q) (subst G (sym one) (h.points.added i (omega arith) (inl refl))))
      ];
      points_within = λ c j l. elim (h.points.only c j l) [
        | inl r ↦ (let w = a.points_within c j r in omega arith)
        | inr r ↦ elim r.1 [ inl q ↦ omega arith | inr z ↦ absurd z ]
      ];
      turns = λ j s l low e. elim (lt-or j i m l next) [
        | inl r ↦ from-kept b.turns k.turns (spot_by f) (i ∷ []) h.turns s j
            (a.turns j s r (omega arith) (ap spot_by (sym (at j)) ∙ e))
        | inr q ↦ (let H : ℕ → Type 0 = λ x. Leads k.turns s x in
            let wide = a.turns_wide in
            let own : spot_by f ≡ Some s =
            ap spot_by (sym one) ∙ ap (λ x. spot_by (fact_at (known_facts k) x)) (sym q) ∙ e in
            subst H (sym q) (from-added b.turns k.turns (spot_by f) i s h.turns own (omega arith)))
      ];
      turns_within = λ s j l. elim (from-only b.turns k.turns (spot_by f) i s j h.turns l) [
        | inl r ↦ (let w = a.turns_within s j r in omega arith)
        | inr q ↦ omega arith
      ];
      stores = λ j l n. (let F : List ℕ → Type 0 = λ is. Among j is in
          subst F (sym h.stores) (elim (lt-or j i m l next) [
            | inl r ↦ (let G : RowFact → Type 0 = λ g. Among j (store_by P g j) in
                Among-left j b.stores.items (store_by P f i) (a.stores j r (subst G (at j) n)))
            | inr q ↦ (let G : RowFact → Type 0 = λ g. Among j (store_by P g j) in
                let H : ℕ → Type 0 = λ x. Among j (store_by P f x) in
                Among-right j b.stores.items (store_by P f i)
                (subst H q (subst G (ap (λ x. fact_at (known_facts k) x) q ∙ one) n)))
          ]));
      stores_within = λ j n. (let F : List ℕ → Type 0 = λ is. Among j is in
          elim (Among-either j b.stores.items (store_by P f i) (subst F h.stores n)) [
            | inl r ↦ (let w = a.stores_within j r in omega arith)
            | inr r ↦ (let q = store-only P f i j r in omega arith)
          ]);
    }

pub index-all : (P : Checked) (k : Known) (n : ℕ) → length (known_facts k) ≤ n → AreIndexedTo P n k → AreIndexed P k
index-all P k n l a = record {
  chained = a.chained;
  points_wide = a.points_wide;
  turns_wide = a.turns_wide;
  points = λ i m. a.points i (omega arith);
  points_within = a.points_within;
  turns = λ i j m. a.turns i j (omega arith);
  turns_within = a.turns_within;
  stores = λ i m. a.stores i (omega arith);
  stores_within = a.stores_within;
}
