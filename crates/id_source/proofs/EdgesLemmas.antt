-- What is true of edges that are added: one by one, and with the statements that wait.
use Rattle.std.proofs.Common.{◌≡◌, ◌⊎◌, inl, inr, ℕ, zero, suc, ◌≤◌, ◌<◌, Some, None, Option}
use Rattle.std.proofs.Common.{List, [], ◌∷◌, ◌++◌, length, get_or, set, Vec, Global, refl, ap, sym, ◌∙◌}
use Rattle.std.proofs.Common.{subst, arith}
use Rattle.std.proofs.lemmas.Bool.Decides.{eqb_tells}
use Rattle.std.proofs.lemmas.List.{get_or-set_same, length-set}
use Rattle.std.proofs.lemmas.Option.{slice_get_within}
use Rattle.id_value.specs.List.{Among}
use Rattle.id_value.proofs.AmongLemmas.{Among-either, Among-left, Among-right, at-from_Among}
use Rattle.id_source.specs.declared.edges.Edges.{Edges}
use Rattle.id_value.proofs.PlacesLemmas.{slice_get-left, slice_get-last}
use Rattle.id_source.specs.declared.links.Statement.{Statement}
use Rattle.id_source.specs.Links.{From, Gains, GainsFrom, GainsTo, Leads, StatementsRise, Takes, TakesAll, some_row}
use Rattle.id_source.specs.Links.{targets, width}

-- ---- edges

pub targets-at : (vs : List (Vec ℕ Global)) (n : ℕ) (d : Vec ℕ Global) → n < length vs
    → targets vs n ≡ (get_or vs n d).items
targets-at [] n d h = absurd (omega arith)
targets-at (v ∷ vs) zero d h = refl
targets-at (v ∷ vs) (suc n) d h = targets-at vs n d (omega arith)

pub targets-past : (vs : List (Vec ℕ Global)) (n : ℕ) → length vs ≤ n → targets vs n ≡ []
targets-past [] n h = refl
targets-past (v ∷ vs) zero h = absurd (omega arith)
targets-past (v ∷ vs) (suc n) h = targets-past vs n (omega arith)

targets-same : (vs : List (Vec ℕ Global)) (n : ℕ) (w : Vec ℕ Global) → n < length vs → targets (set vs n w) n ≡ w.items
targets-same vs n w h =
    let l = length-set vs n w in
    targets-at (set vs n w) n w (omega arith) ∙ ap (λ v. v.items) (get_or-set_same vs n w w h)

targets-other : (vs : List (Vec ℕ Global)) (n m : ℕ) (w : Vec ℕ Global) → (m ≡ n → ⊥)
    → targets (set vs n w) m ≡ targets vs m
targets-other [] n m w h = refl
targets-other (v ∷ vs) zero zero w h = absurd (h refl)
targets-other (v ∷ vs) zero (suc m) w h = refl
targets-other (v ∷ vs) (suc n) zero w h = refl
targets-other (v ∷ vs) (suc n) (suc m) w h = targets-other vs n m w (λ e. h (ap (λ k. suc k) e))

-- one row more without edges
pub none-push : (vs : List (Vec ℕ Global)) (v : Vec ℕ Global) → v.items ≡ [] → ((a b : ℕ) → Among b (targets vs a) → ⊥)
    → (a b : ℕ) → Among b (targets (vs ++ v ∷ []) a) → ⊥
none-push [] v e h zero b k = let A : List ℕ → Type 0 = λ xs. Among b xs in subst A e k
none-push [] v e h (suc a) b k = k
none-push (w ∷ vs) v e h zero b k = h 0 b k
none-push (w ∷ vs) v e h (suc a) b k = none-push vs v e (λ c. h (suc c)) a b k

pub some-among : (o : Option ℕ) (a : ℕ) → o ≡ Some a → Among a (some_row o)
some-among None a h = cc
some-among (Some b) a h = let e : a ≡ b = cc in inl e

-- one edge more
pub gains-one : (E F : Edges) (a b : ℕ) (w : Vec ℕ Global) → F.rows.items ≡ set E.rows.items a w
    → a < length E.rows.items → w.items ≡ targets E.rows.items a ++ b ∷ [] → Gains E F a (b ∷ [])
gains-one E F a b w e inside added =
    let vs = E.rows.items in
    let here : targets F.rows.items a ≡ targets vs a ++ b ∷ [] =
    ap (λ xs. targets xs a) e ∙ targets-same vs a w inside ∙ added in
    let other : (n : ℕ) → (n ≡ a → ⊥) → targets F.rows.items n ≡ targets vs n =
    λ n k. ap (λ xs. targets xs n) e ∙ targets-other vs a n w k in
    let A : ℕ → List ℕ → Type 0 = λ c xs. Among c xs in
    record {
      wide = ap length e ∙ length-set vs a w;
      kept = λ n c h. elim (eqb_tells n a) [
        | inl q ↦
            let P : ℕ → Type 0 = λ m. Among c (targets F.rows.items m) in
            let Q : ℕ → Type 0 = λ m. Among c (targets vs m) in
            subst P (sym q.1) (subst (A c) (sym here) (Among-left c (targets vs a) (b ∷ []) (subst Q q.1 h)))
        | inr q ↦ subst (A c) (sym (other n q.1)) h
      ];
      added = λ c l h. subst (A c) (sym here) (Among-right c (targets vs a) (b ∷ []) h);
      only = λ n c h. elim (eqb_tells n a) [
        | inl q ↦
            let P : ℕ → Type 0 = λ m. Among c (targets F.rows.items m) in
            let Q : ℕ → Type 0 = λ m. Among c (targets vs m) in
            elim (Among-either c (targets vs a) (b ∷ []) (subst (A c) here (subst P q.1 h))) [
              | inl i ↦ inl (subst Q (sym q.1) i)
              | inr i ↦ inr (q.1, i)
            ]
        | inr q ↦ inl (subst (A c) (other n q.1) h)
      ];
    }

-- edges stay where those of one row stay
pub kept-one : (E F : Edges) (a : ℕ) (w : Vec ℕ Global) → F.rows.items ≡ set E.rows.items a w → a < length E.rows.items
    → w.items ≡ targets E.rows.items a → (n b : ℕ) → Leads E n b → Leads F n b
kept-one E F a w e inside same n b h =
    let vs = E.rows.items in
    let A : List ℕ → Type 0 = λ xs. Among b xs in
    elim (eqb_tells n a) [
      | inl q ↦
          let P : ℕ → Type 0 = λ m. Among b (targets F.rows.items m) in
          let Q : ℕ → Type 0 = λ m. Among b (targets vs m) in
          subst P (sym q.1)
          (subst A (sym (ap (λ xs. targets xs a) e ∙ targets-same vs a w inside ∙ same)) (subst Q q.1 h))
      | inr q ↦ subst A (sym (ap (λ xs. targets xs n) e ∙ targets-other vs a n w q.1)) h
    ]

-- edges after edges
pub gains-both : (E F G : Edges) (a : ℕ) (bs cs : List ℕ) → Gains E F a bs → Gains F G a cs → Gains E G a (bs ++ cs)
gains-both E F G a bs cs g h = record {
  wide = h.wide ∙ g.wide;
  kept = λ n b k. h.kept n b (g.kept n b k);
  added = λ b l k. (let w = g.wide in
      elim (Among-either b bs cs k) [ inl i ↦ h.kept a b (g.added b l i) | inr i ↦ h.added b (omega arith) i ]);
  only = λ n b k. elim (h.only n b k) [
    | inl i ↦ elim (g.only n b i) [ inl j ↦ inl j | inr j ↦ inr (j.0, Among-left b bs cs j.1) ]
    | inr i ↦ inr (i.0, Among-right b bs cs i.1)
  ];
}

-- one edge to a row
pub gains-to : (E F : Edges) (a b : ℕ) → Gains E F a (b ∷ []) → GainsTo E F (a ∷ []) b
gains-to E F a b g = record {
  wide = g.wide;
  kept = g.kept;
  added = λ n l h. elim h [
    | inl q ↦ (let P : ℕ → Type 0 = λ m. Leads F m b in let k : a < width E = omega arith in
        subst P (sym q) (g.added b k (inl refl)))
    | inr f ↦ absurd f
  ];
}

pub gains_to-both : (E F G : Edges) (ds bs : List ℕ) (c : ℕ) → GainsTo E F ds c → GainsTo F G bs c
    → GainsTo E G (ds ++ bs) c
gains_to-both E F G ds bs c g h = record {
  wide = h.wide ∙ g.wide;
  kept = λ n b k. h.kept n b (g.kept n b k);
  added = λ b l k. (let w = g.wide in
      elim (Among-either b ds bs k) [ inl i ↦ h.kept b c (g.added b l i) | inr i ↦ h.added b (omega arith) i ]);
}

-- the edges of a store's parts
pub gains-store : (E F G H : Edges) (n x : ℕ) (t i u j : Option ℕ) → t ≡ u → i ≡ j → Gains E F n (some_row t)
    → Gains F G n (some_row i) → Gains G H n (x ∷ []) → Gains E H n (some_row u ++ (some_row j ++ x ∷ []))
gains-store E F G H n x t i u j p q f g h =
    let A : Option ℕ → Type 0 = λ o. Gains E H n (some_row o ++ (some_row j ++ x ∷ [])) in
    let B : Option ℕ → Type 0 = λ o. Gains F H n (some_row o ++ x ∷ []) in
    subst A p
    (gains-both E F H n (some_row t) (some_row j ++ x ∷ []) f
    (subst B q (gains-both F G H n (some_row i) (x ∷ []) g h)))

pub gains_to-store : (E F G H : Edges) (n x : ℕ) (t i u j : Option ℕ) → t ≡ u → i ≡ j → GainsTo E F (some_row t) n
    → GainsTo F G (some_row i) n → GainsTo G H (some_row (Some x)) n
    → GainsTo E H (some_row u ++ (some_row j ++ x ∷ [])) n
gains_to-store E F G H n x t i u j p q f g h =
    let A : Option ℕ → Type 0 = λ o. GainsTo E H (some_row o ++ (some_row j ++ x ∷ [])) n in
    let B : Option ℕ → Type 0 = λ o. GainsTo F H (some_row o ++ x ∷ []) n in
    subst A p
    (gains_to-both E F H (some_row t) (some_row j ++ x ∷ []) n f
    (subst B q (gains_to-both F G H (some_row i) (x ∷ []) n g h)))

-- those to the bounds of an index
pub gains-bounds : (E F G : Edges) (n : ℕ) (a b u v : Option ℕ) → a ≡ u → b ≡ v → Gains E F n (some_row a)
    → Gains F G n (some_row b) → Gains E G n (some_row u ++ some_row v)
gains-bounds E F G n a b u v p q f g =
    let A : Option ℕ → Type 0 = λ o. Gains E F n (some_row o) in
    let B : Option ℕ → Type 0 = λ o. Gains F G n (some_row o) in
    gains-both E F G n (some_row u) (some_row v) (subst A p f) (subst B q g)

-- and from them
pub gains_to-bounds : (E F G : Edges) (n : ℕ) (a b u v : Option ℕ) → a ≡ u → b ≡ v → GainsTo E F (some_row a) n
    → GainsTo F G (some_row b) n → GainsTo E G (some_row u ++ some_row v) n
gains_to-bounds E F G n a b u v p q f g =
    let A : Option ℕ → Type 0 = λ o. GainsTo E F (some_row o) n in
    let B : Option ℕ → Type 0 = λ o. GainsTo F G (some_row o) n in
    gains_to-both E F G (some_row u) (some_row v) n (subst A p f) (subst B q g)

-- ---- statements that wait

rise-front : (us vs : List Statement) → StatementsRise (us ++ vs) → StatementsRise us
rise-front us vs r i j s t h k l = r i j s t (slice_get-left s us vs i h) (slice_get-left t us vs j k) l

-- edges from a row, if there is one
pub record GainsBy (E F : Edges) (o : Option ℕ) (bs : List ℕ) : Type 0 where
  pub wide : width F ≡ width E
  pub kept : (n b : ℕ) → Leads E n b → Leads F n b
  pub added : (a b : ℕ) → o ≡ Some a → a < width E → Among b bs → Leads F a b
  pub only : (n b : ℕ) → Leads F n b → Leads E n b ⊎ (From o n × Among b bs)

pub gains-by : (E F : Edges) (o : Option ℕ) (bs : List ℕ) → GainsFrom E F o bs → GainsBy E F o bs
gains-by E F None bs e =
    let L : (n b : ℕ) → Edges → Type 0 = λ n b G. Leads G n b in
    record {
      wide = ap width e;
      kept = λ n b h. subst (L n b) (sym e) h;
      added = λ a b k. (let q : None ≡ Some a = k in cc);
      only = λ n b h. inl (subst (L n b) e h);
    }
gains-by E F (Some a) bs g = record {
  wide = g.wide;
  kept = g.kept;
  added = λ c b k l h. (let q : a ≡ c = cc in let P : ℕ → Type 0 = λ d. d < width E → Leads F d b in
      subst P q (λ m. g.added b m h) l);
  only = g.only;
}

pub takes-init : (E : Edges) (ss : List Statement) (first : ℕ) (o : Option ℕ) → StatementsRise ss
    → Takes E E ss ss first o
takes-init E ss first o r =
    record { wide = refl; kept = λ n b h. h; only = λ n b h. inl h; some = λ s h. h; gone = λ s h. inl h; rise = r }

pub takes-step : (E F G : Edges) (ss ts us : List Statement) (s : Statement) (first : ℕ) (o : Option ℕ)
    → Takes E F ss ts first o → ts ≡ us ++ s ∷ [] → first ≤ s.row
    → GainsFrom F G o (s.value ∷ []) → Takes E G ss us first o
takes-step E F G ss ts us s first o t e l h =
    let g = gains-by F G o (s.value ∷ []) h in
    let A : Statement → List Statement → Type 0 = λ x xs. Among x xs in
    let was : (x : Statement) → Among x us → Among x ts = λ x h. subst (A x) (sym e) (Among-left x us (s ∷ []) h) in
    let last : Among s ss = t.some s (subst (A s) (sym e) (Among-right s us (s ∷ []) (inl refl))) in
    record {
      wide = g.wide ∙ t.wide;
      kept = λ n b h. g.kept n b (t.kept n b h);
      only = λ n b h. elim (g.only n b h) [
        | inl i ↦ t.only n b i
        | inr i ↦ elim i.1 [ inl q ↦ inr (i.0, (s, last, l, q)) | inr f ↦ absurd f ]
      ];
      some = λ x h. t.some x (was x h);
      gone = λ x h. elim (t.gone x h) [
        | inl i ↦ elim (Among-either x us (s ∷ []) (subst (A x) e i)) [
          | inl j ↦ inl j
          | inr j ↦ elim j [
            | inl q ↦
                let P : Statement → Type 0 =
                λ y. (first ≤ y.row) × ((a : ℕ) → o ≡ Some a → a < width E → Leads G a y.value) in
                inr (subst P (sym q) (l, λ a c k. let w = t.wide in g.added a s.value c (omega arith) (inl refl)))
            | inr f ↦ absurd f
          ]
        ]
        | inr i ↦ inr (i.0, λ a c k. g.kept a x.value (i.1 a c k))
      ];
      rise = (let P : List Statement → Type 0 = λ xs. StatementsRise xs in rise-front us (s ∷ []) (subst P e t.rise));
    }

pub takes-some : (E F : Edges) (ss ts us vs : List Statement) (s : Statement) (first : ℕ) (o : Option ℕ)
    → Takes E F ss ts first o → ts ≡ us ++ s ∷ [] → vs ≡ us ++ s ∷ []
    → s.row < first → TakesAll E F ss vs first o
takes-some E F ss ts us vs s first o t e f l =
    let P : List Statement → Type 0 = λ xs. StatementsRise xs in
    let T : List Statement → Type 0 = λ xs. Takes E F ss xs first o in
    let A : Statement → List Statement → Type 0 = λ x xs. Among x xs in
    let r : StatementsRise (us ++ s ∷ []) = subst P e t.rise in
    record {
      takes = subst T (e ∙ sym f) t;
      before = λ x h. elim (Among-either x us (s ∷ []) (subst (A x) f h)) [
        | inl i ↦
            let k = at-from_Among x us i in
            let w = slice_get_within us k.0 x k.1 in
            let b = r k.0 (length us) x s (slice_get-left x us (s ∷ []) k.0 k.1) (slice_get-last s us) w in
            omega arith
        | inr i ↦ elim i [
          | inl q ↦ (let Q : Statement → Type 0 = λ y. y.row < first in
              subst Q (sym q) l)
          | inr z ↦ absurd z
        ]
      ];
    }

pub takes-none : (E F : Edges) (ss ts us : List Statement) (first : ℕ) (o : Option ℕ) → Takes E F ss ts first o
    → ts ≡ [] → us ≡ [] → TakesAll E F ss us first o
takes-none E F ss ts us first o t e f =
    let T : List Statement → Type 0 = λ xs. Takes E F ss xs first o in
    let A : Statement → List Statement → Type 0 = λ x xs. Among x xs in
    record { takes = subst T (e ∙ sym f) t; before = λ x h. absurd (subst (A x) f h) }
