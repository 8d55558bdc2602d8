-- Lemmas on specs/Waits.antt.
use Rattle.std.proofs.Common.{◌≡◌, ◌⊎◌, inl, inr, ℕ, zero, suc, ◌<◌, ◌≤◌, None, Some, List, [], ◌∷◌, ◌++◌, length, take}
use Rattle.std.proofs.Common.{drop, get_or}
use Rattle.std.proofs.Common.{refl, ap, sym, ◌∙◌, subst, arith}
use Rattle.id_value.proofs.AmongLemmas.{Among-either}
use Rattle.std.proofs.Math.Seq.{drop-cons, take-suc}
use Rattle.id_value.specs.List.{Among}
use Rattle.id_check.specs.declared.checked.Checked.{Checked}
use Rattle.id_facts.specs.declared.facts.RowFact.{RowFact}
use Rattle.id_facts.specs.declared.facts.RowFact.TheVariants.{On, Has}
use Rattle.id_facts.specs.declared.facts.Trail.{Trail}
use Rattle.id_facts.specs.declared.facts.Trail.TheVariants.{Outermost, Below}
use Rattle.id_facts.specs.declared.queues.Queues.{Queues}
use Rattle.id_facts.specs.declared.queues.Wait.{Wait}
use Rattle.id_source.specs.declared.links.Links.{Links}
use Rattle.id_source.specs.Links.{awaited, far_from, users, users_of}
use Rattle.id_facts.specs.RowFacts.{AreBefore, fact_at, path_of}
use Rattle.id_facts.specs.Cells.{out_of, queue_of}
use Rattle.id_facts.specs.Queues.{Adds, IsIn, width}
use Rattle.id_facts.specs.declared.facts.RowValue.{RowValue}
use Rattle.id_table.specs.declared.row.Node.{Node}
use Rattle.id_table.specs.declared.row.Node.TheVariants as node
use Rattle.id_table.specs.Rows.{at}
use Rattle.id_check.specs.Programs.{rows}
use Rattle.id_facts.specs.Waits.{AreWaits, Rests, Waits, WaitsFor, WaitsIn, by_on, by_value, counts_of, queue_for}
use Rattle.id_facts.proofs.FactsLemmas.{Inside, at-front, fact-before, inside-more}

-- ---- what waits

pub waits-for : (P : Checked) (es : List RowFact) (V W : Queues) (p : Trail) (n u b c : ℕ) → awaited P u ≡ Some b
    → c ≡ queue_for P es p n b → c < 65536 → Adds V W c (record { path = p; row = n; user = u })
    → WaitsFor P es V W p n (u ∷ [])
waits-for P es V W p n u b c a e l g = record {
  wide = g.wide;
  kept = g.kept;
  added = λ v w h. elim h [
    | inl q ↦ (let F : ℕ → Type 0 = λ x. WaitsIn P es W p n x in subst F (sym q) (one w))
    | inr x ↦ absurd x
  ];
}
  where
    one : width V ≡ 65536 → WaitsIn P es W p n u
    one w d k =
        let f : Some b ≡ Some d = sym a ∙ k in
        let q : b ≡ d = cc in
        let x : Wait = record { path = p; row = n; user = u } in
        let F : ℕ → Type 0 = λ i. IsIn W i x in
        subst F (e ∙ ap (λ i. queue_for P es p n i) q) (g.added (omega arith))

pub waits-nobody : (P : Checked) (es : List RowFact) (V : Queues) (p : Trail) (n u : ℕ) → awaited P u ≡ None
    → WaitsFor P es V V p n (u ∷ [])
waits-nobody P es V p n u a = record {
  wide = refl;
  kept = λ c x h. h;
  added = λ v w h. elim h [
    | inl q ↦ (let F : ℕ → Type 0 = λ x. WaitsIn P es V p n x in subst F (sym q) none)
    | inr x ↦ absurd x
  ];
}
  where
    none : WaitsIn P es V p n u
    none b k = let e : None ≡ Some b = sym a ∙ k in cc

pub each-none : (P : Checked) (es : List RowFact) (V : Queues) (p : Trail) (n : ℕ) → WaitsFor P es V V p n []
each-none P es V p n = record { wide = refl; kept = λ c x h. h; added = λ u w h. absurd h }

pub each-step : (P : Checked) (es : List RowFact) (V W X : Queues) (p : Trail) (n : ℕ) (us : List ℕ) (i j u d : ℕ)
    → i < length us → j ≡ suc i →
    u ≡ get_or us i d
    → WaitsFor P es V W p n (take i us) → WaitsFor P es W X p n (u ∷ []) → WaitsFor P es V X p n (take j us)
each-step P es V W X p n us i j u d l q e s t =
    let F : List ℕ → Type 0 = λ xs. WaitsFor P es V X p n xs in
    let whole : take j us ≡ take i us ++ u ∷ [] =
    ap (λ k. take k us) q ∙ take-suc us i d l ∙ ap (λ x. take i us ++ x ∷ []) (sym e) in
    subst F (sym whole) (record {
      wide = t.wide ∙ s.wide;
      kept = λ c x h. t.kept c x (s.kept c x h);
      added = λ v w h. elim (Among-either v (take i us) (u ∷ []) h) [
        | inl k ↦ λ b a. t.kept (queue_for P es p n b) (record { path = p; row = n; user = v }) (s.added v w k b a)
        | inr k ↦ t.added v (s.wide ∙ w) k
      ];
    })

take-all : {A : Type 0} (xs : List A) (i : ℕ) → length xs ≤ i → take i xs ≡ xs
take-all [] zero l = refl
take-all [] (suc i) l = refl
take-all (x ∷ xs) zero l = absurd (omega arith)
take-all (x ∷ xs) (suc i) l = ap (λ ys. x ∷ ys) (take-all xs i (omega arith))

pub each-end : (P : Checked) (es : List RowFact) (V W : Queues) (p : Trail) (n : ℕ) (us : List ℕ) (i : ℕ)
    → length us ≤ i → WaitsFor P es V W p n (take i us) → WaitsFor P es V W p n us
each-end P es V W p n us i l s = let F : List ℕ → Type 0 = λ xs. WaitsFor P es V W p n xs in subst F (take-all us i l) s

-- by a fact the same rows wait at the same path
waits-by : (P : Checked) (l : Links) (es : List RowFact) (V W : Queues) (f : RowFact) (p : Trail) (r : ℕ) (us : List ℕ)
    → ((q : Trail) (n u : ℕ) → Rests P l f q n u → (q ≡ p) × (n ≡ r) × Among u us) → WaitsFor P es V W p r us
    → Waits P l es V W (f ∷ [])
waits-by P l es V W f p r us rest g =
    record {
      wide = g.wide;
      kept = g.kept;
      added =
          λ e q n u w h a. elim h [ inl x ↦ one e q n u w x a | inr x ↦ absurd x ];
    }
  where
    one : (e : RowFact) (q : Trail) (n u : ℕ) → width V ≡ 65536 → e ≡ f → Rests P l e q n u → WaitsIn P es W q n u
    one e q n u w x a =
        let R : RowFact → Type 0 = λ y. Rests P l y q n u in
        let t = rest q n u (subst R x a) in
        let F : Trail → Type 0 = λ y. WaitsIn P es W y r u in
        let G : ℕ → Type 0 = λ y. WaitsIn P es W q y u in
        subst G (sym t.1) (subst F (sym t.0) (g.added u w t.2))

pub waits-on : (P : Checked) (l : Links) (es : List RowFact) (V W : Queues) (p : Trail) (r : ℕ) (us : List ℕ)
    → users P l r ≡ us → WaitsFor P es V W p r us → Waits P l es V W (On p r ∷ [])
waits-on P l es V W p r us e g = waits-by P l es V W (On p r) p r us (λ q n u a. one (On p r) q n u refl a) g
  where
    one : (f : RowFact) (q : Trail) (n u : ℕ) → f ≡ On p r → Rests P l f q n u → (q ≡ p) × (n ≡ r) × Among u us
    one f q n u x (by_on a) =
        let j : n ≡ r = cc in
        let A : List ℕ → Type 0 = λ xs. Among u xs in
        (cc, j, subst A (ap (λ y. users P l y) j ∙ e) a)
    one f q n u x (by_value a) = absurd cc

-- an index that has a value waits
pub waits-at : (P : Checked) (l : Links) (es : List RowFact) (V W : Queues) (p : Trail) (r : ℕ) (v : RowValue)
    (us : List ℕ) → counts_of r (at (rows P) r).node ≡ us → WaitsFor P es V W p r us → Waits P l es V W (Has p r v ∷ [])
waits-at P l es V W p r v us e g = waits-by P l es V W (Has p r v) p r us (λ q n u a. one (Has p r v) q n u refl a) g
  where
    one : (f : RowFact) (q : Trail) (n u : ℕ) → f ≡ Has p r v → Rests P l f q n u → (q ≡ p) × (n ≡ r) × Among u us
    one f q n u x (by_value a) =
        let j : n ≡ r = cc in
        let A : List ℕ → Type 0 = λ xs. Among u xs in
        (cc, j, subst A (ap (λ y. counts_of y (at (rows P) y).node) j ∙ e) a)
    one f q n u x (by_on a) = absurd cc

-- what uses no binder, and no index, does not wait
pub no-users : (l : Links) (n : ℕ) (z : Node) → ((x : ℕ) → z ≡ node.Name x → ⊥)
    → ((h w t : ℕ) → z ≡ node.Loop h w t → ⊥) → users_of l n z ≡ []
no-users l n (node.Name x) h k = absurd (h x refl)
no-users l n (node.Loop i w t) h k = absurd (k i w t refl)
no-users l n z h k = refl

pub no-counts : (n : ℕ) (z : Node) → ((x : ℕ) → z ≡ node.Index x → ⊥) → counts_of n z ≡ []
no-counts n (node.Index x) h = absurd (h x refl)
no-counts n z h = refl

-- by other facts nothing waits
pub waits-none : (P : Checked) (l : Links) (es : List RowFact) (V : Queues) (f : RowFact)
    → ((p : Trail) (n : ℕ) → f ≡ On p n → ⊥) → ((p : Trail) (n : ℕ) (v : RowValue) → f ≡ Has p n v → ⊥)
    → Waits P l es V V (f ∷ [])
waits-none P l es V f on has =
    record {
      wide = refl;
      kept = λ a x h. h;
      added =
          λ e q n u w h a. elim h [ inl x ↦ absurd (never e q n u x a) | inr x ↦ absurd x ];
    }
  where
    never : (e : RowFact) (q : Trail) (n u : ℕ) → e ≡ f → Rests P l e q n u → ⊥
    never e q n u x (by_on a) = on q n (sym x)
    never e q n u x (by_value {v = v} a) = has q n v (sym x)

-- all waits by these facts, but for the rest of them
pub record WaitsSo (P : Checked) (l : Links) (es : List RowFact) (V W : Queues) (fs gs : List RowFact) : Type 0 where
  pub wide : width W ≡ width V
  pub kept : (a : ℕ) (x : Wait) → IsIn V a x → IsIn W a x
  pub added : (f : RowFact) (p : Trail) (n u : ℕ) → width V ≡ 65536 → Among f fs → Rests P l f p n u
      → WaitsIn P es W p n u ⊎ Among f gs

pub so-none : (P : Checked) (l : Links) (es : List RowFact) (V : Queues) (fs : List RowFact) → WaitsSo P l es V V fs fs
so-none P l es V fs = record { wide = refl; kept = λ a x h. h; added = λ f p n u w h a. inr h }

pub so-next : (P : Checked) (l : Links) (es : List RowFact) (V W X : Queues) (fs gs : List RowFact) (f : RowFact)
    → WaitsSo P l es V W fs (f ∷ gs) → Waits P l es W X (f ∷ [])
    → WaitsSo P l es V X fs gs
so-next P l es V W X fs gs f s t = record {
  wide = t.wide ∙ s.wide;
  kept = λ a x h. t.kept a x (s.kept a x h);
  added = λ e p n u w h a. elim (s.added e p n u w h a) [
    | inl i ↦ inl (λ b k. t.kept (queue_for P es p n b) (record { path = p; row = n; user = u }) (i b k))
    | inr i ↦ elim i [ inl q ↦ inl (t.added e p n u (s.wide ∙ w) (inl q) a) | inr j ↦ inr j ]
  ];
}

pub so-step : (P : Checked) (l : Links) (es : List RowFact) (V W X : Queues) (fs : List RowFact) (i j : ℕ)
    (f d : RowFact) → i < length fs → j ≡ suc i → f ≡ get_or fs i d
    → WaitsSo P l es V W fs (drop i fs) → Waits P l es W X (f ∷ []) → WaitsSo P l es V X fs (drop j fs)
so-step P l es V W X fs i j f d k q e s t =
    let F : List RowFact → Type 0 = λ gs. WaitsSo P l es V W fs gs in
    let G : RowFact → Type 0 = λ g. Waits P l es W X (g ∷ []) in
    let J : ℕ → Type 0 = λ k. WaitsSo P l es V X fs (drop k fs) in
    subst J (sym q)
    (so-next P l es V W X fs (drop (suc i) fs) (get_or fs i d) (subst F (drop-cons fs i d k) s) (subst G e t))

drop-all : (fs : List RowFact) (i : ℕ) → length fs ≤ i → drop i fs ≡ []
drop-all [] zero l = refl
drop-all [] (suc i) l = refl
drop-all (f ∷ fs) zero l = absurd (omega arith)
drop-all (f ∷ fs) (suc i) l = drop-all fs i (omega arith)

pub so-end : (P : Checked) (l : Links) (es : List RowFact) (V W : Queues) (fs : List RowFact) (i : ℕ) → length fs ≤ i
    → WaitsSo P l es V W fs (drop i fs) → Waits P l es V W fs
so-end P l es V W fs i k s = record {
  wide = s.wide;
  kept = s.kept;
  added = λ f p n u w h a. elim (s.added f p n u w h a) [ inl x ↦ x | inr x ↦ absurd (none f x) ];
}
  where
    none : (f : RowFact) → Among f (drop i fs) → ⊥
    none f x = let F : List RowFact → Type 0 = λ gs. Among f gs in subst F (drop-all fs i k) x

-- the path without its last steps stays as more facts come
pub out-grown : (es xs : List RowFact) → AreBefore es → (d : ℕ) (q : Trail) → Inside (length es) q
    → out_of (es ++ xs) d q ≡ out_of es d q
out-grown es xs b zero q i = refl
out-grown es xs b (suc d) Outermost i = out-grown es xs b d Outermost tt
out-grown es xs b (suc d) (Below j k) i =
    let p = path_of (fact_at es j) in
    ap (λ f. out_of (es ++ xs) d (path_of f)) (at-front es xs j i)
    ∙ out-grown es xs b d p (inside-more j (length es) p (omega arith) (fact-before es b j))

-- the path of the fact by which a row waits
rests-path : (P : Checked) (l : Links) (f : RowFact) (p : Trail) (n u : ℕ) → Rests P l f p n u → path_of f ≡ p
rests-path P l f p n u (by_on a) = refl
rests-path P l f p n u (by_value a) = refl

-- all waits that waits by facts after more have come
pub AreWaits-more : (P : Checked) (l : Links) (es ns : List RowFact) (V W : Queues) → AreBefore es
    → ((f : RowFact) → Among f es → Inside (length es) (path_of f)) → AreWaits P l es V → Waits P l (es ++ ns) V W ns
    → AreWaits P l (es ++ ns) W
AreWaits-more P l es ns V W before inside v w = record {
  wide = w.wide ∙ v.wide;
  all = λ f p n u on a. elim (Among-either f es ns on) [
    | inl i ↦ λ b k.
        let y : Wait = record { path = p; row = n; user = u } in
        let F : ℕ → Type 0 = λ c. IsIn W c y in
        let I : Trail → Type 0 = λ t. Inside (length es) t in
        let q = out-grown es ns before (far_from P n (Some b)) p (subst I (rests-path P l f p n u a) (inside f i)) in
        subst F (ap (λ t. queue_of t b) (sym q)) (w.kept (queue_for P es p n b) y (v.all f p n u i a b k))
    | inr i ↦ w.added f p n u v.wide i a
  ];
}
