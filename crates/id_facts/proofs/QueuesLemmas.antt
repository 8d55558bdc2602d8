-- Lemmas on specs/Queues.antt.
use Rattle.std.proofs.Common.{◌≡◌, inl, inr, ℕ, zero, suc, ◌<◌, ◌≤◌, set, Vec, Global, List, [], ◌∷◌, ◌++◌, length}
use Rattle.std.proofs.Common.{get_or}
use Rattle.std.proofs.Common.{refl, ap, sym, ◌∙◌, subst, arith}
use Rattle.std.proofs.lemmas.Bool.Decides.{eqb_tells}
use Rattle.std.proofs.lemmas.List.{get_or-set_same, length-set}
use Rattle.id_value.proofs.AmongLemmas.{Among-left, Among-right}
use Rattle.id_value.specs.List.{Among}
use Rattle.id_facts.specs.declared.queues.Queues.{Queues}
use Rattle.id_facts.specs.declared.queues.Wait.{Wait}
use Rattle.id_facts.specs.Queues.{queue}
use Rattle.id_facts.specs.Queues.{Adds, width}

-- ---- queues

pub queue-at : (vs : List (Vec Wait Global)) (n : ℕ) (d : Vec Wait Global) → n < length vs
    → queue vs n ≡ (get_or vs n d).items
queue-at [] n d h = absurd (omega arith)
queue-at (v ∷ vs) zero d h = refl
queue-at (v ∷ vs) (suc n) d h = queue-at vs n d (omega arith)

pub queue-past : (vs : List (Vec Wait Global)) (n : ℕ) → length vs ≤ n → queue vs n ≡ []
queue-past [] n h = refl
queue-past (v ∷ vs) zero h = absurd (omega arith)
queue-past (v ∷ vs) (suc n) h = queue-past vs n (omega arith)

queue-same : (vs : List (Vec Wait Global)) (n : ℕ) (w : Vec Wait Global) → n < length vs
    → queue (set vs n w) n ≡ w.items
queue-same vs n w h =
    let l = length-set vs n w in
    queue-at (set vs n w) n w (omega arith) ∙ ap (λ v. v.items) (get_or-set_same vs n w w h)

queue-other : (vs : List (Vec Wait Global)) (n m : ℕ) (w : Vec Wait Global) → (m ≡ n → ⊥)
    → queue (set vs n w) m ≡ queue vs m
queue-other [] n m w h = refl
queue-other (v ∷ vs) zero zero w h = absurd (h refl)
queue-other (v ∷ vs) zero (suc m) w h = refl
queue-other (v ∷ vs) (suc n) zero w h = refl
queue-other (v ∷ vs) (suc n) (suc m) w h = queue-other vs n m w (λ e. h (ap (λ k. suc k) e))

-- one more
pub adds-one : (V W : Queues) (c : ℕ) (x : Wait) (w : Vec Wait Global) → W.queues.items ≡ set V.queues.items c w
    → c < length V.queues.items → w.items ≡ queue V.queues.items c ++ x ∷ [] → Adds V W c x
adds-one V W c x w e inside added =
    let vs = V.queues.items in
    let A : Wait → List Wait → Type 0 = λ y xs. Among y xs in
    let here : queue W.queues.items c ≡ queue vs c ++ x ∷ [] =
    ap (λ xs. queue xs c) e ∙ queue-same vs c w inside ∙ added in
    record {
      wide = ap length e ∙ length-set vs c w;
      kept = λ a y h. elim (eqb_tells a c) [
        | inl q ↦
            let P : ℕ → Type 0 = λ m. Among y (queue W.queues.items m) in
            let Q : ℕ → Type 0 = λ m. Among y (queue vs m) in
            subst P (sym q.1) (subst (A y) (sym here) (Among-left y (queue vs c) (x ∷ []) (subst Q q.1 h)))
        | inr q ↦ subst (A y) (sym (ap (λ xs. queue xs a) e ∙ queue-other vs c a w q.1)) h
      ];
      added = λ l. subst (A x) (sym here) (Among-right x (queue vs c) (x ∷ []) (inl refl));
    }

pub adds-past : (V : Queues) (c : ℕ) (x : Wait) → width V ≤ c → Adds V V c x
adds-past V c x l = record { wide = refl; kept = λ a y h. h; added = λ h. absurd (omega arith) }
