-- Things that are gone through.
use Rattle.std.proofs.Common.{◌≡◌, ◌⊎◌, ◌≤◌, ◌<◌, inl, inr, ℕ, ℤ, zero, suc, Bool as Truth, true, false, Some, List, []}
use Rattle.std.proofs.Common.{◌∷◌, ◌++◌, length, map, drop}
use Rattle.std.proofs.Common.{if◌then◌else◌, refl, ap, sym, ◌∙◌, subst, arith}
use Rattle.std.specs.Prelude.{slice_get}
use Rattle.std.proofs.Math.ListN.{drop_of_length-le}
use Rattle.std.proofs.lemmas.List.{append-nil, append_assoc, length-append, map_push}
use Rattle.id_value.specs.List.{AllDiffer, Among}
use Rattle.id_value.proofs.AmongLemmas.{Among-either, Among-from_map, Among-from_at, Among-left, Among-map, Among-right}
use Rattle.id_check.specs.declared.checked.Checked.{Checked}
use Rattle.id_source.specs.Links.{AreArgs}
use Rattle.id_source.specs.Sources.{main_body}
use Rattle.id_source.specs.declared.links.Links.{Links}
use Rattle.id_facts.specs.declared.cells.Point.{Point}
use Rattle.id_facts.specs.declared.facts.RowFact.{RowFact}
use Rattle.id_facts.specs.declared.facts.RowFact.TheVariants.{On, Has, Shape, Put, Ask}
use Rattle.id_facts.specs.declared.facts.RowValue.{RowValue}
use Rattle.id_facts.specs.declared.facts.Trail.{Trail}
use Rattle.id_facts.specs.declared.facts.Trail.TheVariants.{Outermost}
use Rattle.id_why.specs.declared.known.Cell.{Cell}
use Rattle.id_why.specs.declared.known.Known.{Known}
use Rattle.id_why.specs.declared.lines.Line.{Line}
use Rattle.id_why.specs.Found.{lacking, needs}
use Rattle.id_why.specs.Known.{AreIndexed, asks, is_given, known_facts, values}
use Rattle.id_why.specs.Lines.{Explain, IsLine, IsTold}
use Rattle.id_why.specs.Needs.{IsReached, Lacks, Needs, point}
use Rattle.id_why.specs.Needs.{answer as by-answer, waiting as by-waiting, further as by-further}
use Rattle.id_why.specs.Things.{with_all}
use Rattle.id_why.specs.Walks.{AreApart, IsLineOf, IsWalk, asking, asking_by, roots, values_of}
use Rattle.id_why.proofs.KnownLemmas.{asks-all, asks-true, given-false, given-true, values-all, values-true}
use Rattle.id_why.proofs.NeedsLemmas.{needs-all, needs-true}
use Rattle.id_why.proofs.ThingsLemmas.{Grows, grows-all}

-- ---- lists

drop-front : {A : Type 0} (n : ℕ) (xs ys : List A) → n ≤ length xs → drop n (xs ++ ys) ≡ drop n xs ++ ys
drop-front zero xs ys l = refl
drop-front (suc n) [] ys l = absurd (omega arith)
drop-front (suc n) (x ∷ xs) ys l = drop-front n xs ys (omega arith)

drop-at : {A : Type 0} (n : ℕ) (xs : List A) (x : A) → slice_get xs n ≡ Some x
    → (drop n xs ≡ x ∷ drop (suc n) xs) × (n < length xs)
drop-at n [] x e = cc
drop-at zero (y ∷ xs) x e = (let q : y ≡ x = cc in ap (λ z. z ∷ xs) q, omega arith)
drop-at (suc n) (y ∷ xs) x e = let r = drop-at n xs x e in (r.0, (let l = r.1 in omega arith))

-- ---- those that lack a value

lacking-true : (k : Known) (us : List Point) (u : Point) → Among u (lacking k us) → Among u us × (is_given k u ≡ false)
lacking-true k [] u m = absurd m
lacking-true k (w ∷ us) u m = go (is_given k w) refl (λ n. lacking-true k us u n) m
  where
    go : (b : Truth) → is_given k w ≡ b → (Among u (lacking k us) → Among u us × (is_given k u ≡ false))
        → Among u ((if b then [] else w ∷ []) ++ lacking k us) → Among u (w ∷ us) × (is_given k u ≡ false)
    go true e rest n = let r = rest n in (inr r.0, r.1)
    go false e rest (inl q) = (inl q, ap (is_given k) q ∙ e)
    go false e rest (inr n) = let r = rest n in (inr r.0, r.1)

lacking-all : (k : Known) (us : List Point) (u : Point) → Among u us → is_given k u ≡ false → Among u (lacking k us)
lacking-all k [] u m e = absurd m
lacking-all k (w ∷ us) u (inl q) e =
    let F : Truth → Type 0 = λ b. Among u ((if b then [] else w ∷ []) ++ lacking k us) in
    subst F (sym (ap (is_given k) (sym q) ∙ e)) (inl q)
lacking-all k (w ∷ us) u (inr m) e =
    Among-right u (if is_given k w then [] else w ∷ []) (lacking k us) (lacking-all k us u m e)

-- ---- values

values-of-true : (k : Known) (us : List Point) (v : RowValue) → Among v (values_of k us)
    → (u : Point) × Among u us × Among v (values k u.path u.row)
values-of-true k [] v m = absurd m
values-of-true k (u ∷ us) v m = elim (Among-either v (values k u.path u.row) (values_of k us) m) [
  | inl a ↦ (u, inl refl, a)
  | inr a ↦ (let r = values-of-true k us v a in (r.0, inr r.1, r.2))
]

values-of-all : (k : Known) (us : List Point) (u : Point) (v : RowValue) → Among u us → Among v (values k u.path u.row)
    → Among v (values_of k us)
values-of-all k [] u v m a = absurd m
values-of-all k (w ∷ us) u v (inl q) a =
    let F : Point → Type 0 = λ x. Among v (values k x.path x.row) in
    Among-left v (values k w.path w.row) (values_of k us) (subst F q a)
values-of-all k (w ∷ us) u v (inr m) a =
    Among-right v (values k w.path w.row) (values_of k us) (values-of-all k us u v m a)

-- ---- fetches that ask

asking-true : (gs : List RowFact) (t : Point) → Among t (asking gs)
    → (s : ℕ) × (j : ℤ) × Among (Ask t.path t.row s j) gs
asking-true [] t m = absurd m
asking-true (g ∷ gs) t m = elim (Among-either t (asking_by g) (asking gs) m) [
  | inl a ↦ (let r = one g a in (r.0, r.1, inl r.2))
  | inr a ↦ (let r = asking-true gs t a in (r.0, r.1, inr r.2))
]
  where
    one : (f : RowFact) → Among t (asking_by f) → (s : ℕ) × (j : ℤ) × (Ask t.path t.row s j ≡ f)
    one (Ask p n s j) (inl q) = (s, j, ap (λ (x : Point). Ask x.path x.row s j) q)
    one (Ask p n s j) (inr a) = absurd a
    one (On p n) a = absurd a
    one (Has p n v) a = absurd a
    one (Shape s lo hi) a = absurd a
    one (Put p n s j v) a = absurd a

asking-all : (gs : List RowFact) (t : Point) (s : ℕ) (j : ℤ) → Among (Ask t.path t.row s j) gs → Among t (asking gs)
asking-all [] t s j m = absurd m
asking-all (g ∷ gs) t s j (inl q) =
    let F : RowFact → Type 0 = λ f. Among t (asking_by f ++ asking gs) in
    subst F q (inl refl)
asking-all (g ∷ gs) t s j (inr m) = Among-right t (asking_by g) (asking gs) (asking-all gs t s j m)

module _ (P : Checked) (l : Links) (k : Known) (h : AreIndexed P k) (args : AreArgs P l.args)
    (apart : AreApart (known_facts k)) where
  not-given : (t : Point) → Lacks (known_facts k) t → is_given k t ≡ false
  not-given t un = go (is_given k t) refl
    where
      go : (b : Truth) → is_given k t ≡ b → is_given k t ≡ false
      go true e = absurd (un (given-true P k h t e))
      go false e = e

  root-true : (t : Point) → Among t (roots P (known_facts k)) → Lacks (known_facts k) t → IsReached P (known_facts k) t
  root-true t (inl q) un =
      let F : Point → Type 0 = λ x. Lacks (known_facts k) x in
      let G : Point → Type 0 = λ x. IsReached P (known_facts k) x in
      subst G (sym q) (by-answer (subst F q un))
  root-true t (inr m) un = let r = asking-true (known_facts k) t m in by-waiting t r.0 r.1 r.2 un

  pub walk-none : (ts : List Point) (ls : List Line) → ts ≡ with_all [] (lacking k (roots P (known_facts k))) → ls ≡ []
      → IsWalk P l k 0 ts ls
  walk-none ts ls e f =
      let us = lacking k (roots P (known_facts k)) in
      let g = grows-all [] us in
      let F : List Point → Type 0 = λ xs. IsWalk P l k 0 xs ls in
      let G : List Line → Type 0 = λ cs. IsWalk P l k 0 (with_all [] us) cs in
      let H : List Point → Type 0 = λ xs. (t : Point) → Among t xs → Among t us in
      let told : (t : Point) → Among t (with_all [] us) → Among t us = subst H (sym g.grows) g.told in
      subst F (sym e) (subst G (sym f) record {
        within = omega arith;
        parts = refl;
        lines = λ a m. absurd m;
        closed = λ a u m. absurd m;
        reached =
            λ t m. (let r = lacking-true k (roots P (known_facts k)) t (told t m) in
            root-true t r.0 (given-false P k h t r.1));
        begun = g.all;
        once = g.once tt;
      })

  -- what the line of a thing tells
  line-true : (a : Line) (u : Point) → IsLineOf P l k a.thing a → Among u a.needs.items
      → Needs P (known_facts k) a.thing u × Lacks (known_facts k) u
  line-true a u o m =
      let F : List Point → Type 0 = λ xs. Among u xs in
      let r = lacking-true k (needs P l k a.thing (asks k a.thing)) u (subst F o.lacks m) in
      (needs-true P l k h args a.thing u r.0, given-false P k h u r.1)

  line-all : (a : Line) (u : Point) → IsLineOf P l k a.thing a → Needs P (known_facts k) a.thing u
      → Lacks (known_facts k) u → Among u a.needs.items
  line-all a u o n un =
      let F : List Point → Type 0 = λ xs. Among u xs in
      subst F (sym o.lacks)
      (lacking-all k (needs P l k a.thing (asks k a.thing)) u (needs-all P l k h args apart a.thing u n)
      (not-given u un))

  line-is : (a : Line) → IsLineOf P l k a.thing a → IsLine P (known_facts k) a
  line-is a o =
      let V : List RowValue → RowValue → Type 0 = λ xs v. Among v xs in
      let C : List Cell → Cell → Type 0 = λ xs c. Among c xs in
      record {
        needs = λ u m. (let r = line-true a u o m in r.0);
        lacks = λ u m. (let r = line-true a u o m in r.1);
        all = λ u n un. line-all a u o n un;
        values = λ v m. (let F : List RowValue → Type 0 = λ xs. Among v xs in
            let r = values-of-true k (needs P l k a.thing (asks k a.thing)) v (subst F o.given m) in
            (r.0, needs-true P l k h args a.thing r.0 r.1, values-true P k h r.0.path r.0.row v r.2));
        valued = λ v u n m. (let F : List RowValue → Type 0 = λ xs. Among v xs in
            subst F (sym o.given)
            (values-of-all k (needs P l k a.thing (asks k a.thing)) u v (needs-all P l k h args apart a.thing u n)
            (values-all P k h u.path u.row v m)));
        asks = λ c m. (let F : List Cell → Type 0 = λ xs. Among c xs in asks-true P k h a.thing c (subst F o.cells m));
        asked = λ c m. (let F : List Cell → Type 0 = λ xs. Among c xs in
            subst F (sym o.cells) (asks-all P k h a.thing c m));
      }

  pub walk-more : (n m : ℕ) (ts us : List Point) (ls bs : List Line) (t : Point) (a : Line) → m ≡ suc n
      → IsWalk P l k n ts ls → slice_get ts n ≡ Some t → IsLineOf P l k t a → us ≡ with_all ts a.needs.items
      → bs ≡ ls ++ a ∷ [] → IsWalk P l k m us bs
  walk-more n m ts us ls bs t a next w at o e f =
      let thing : Line → Point = λ b. b.thing in
      let here = drop-at n ts t at in
      let g = grows-all ts a.needs.items in
      let grown : us ≡ ts ++ g.news = e ∙ g.grows in
      let within = here.1 in
      let own : IsLineOf P l k a.thing a =
      (let F : Point → Type 0 = λ x. IsLineOf P l k x a in subst F (sym o.thing) o) in
      let long = length-append ts g.news in
      let wide : suc n ≤ length (ts ++ g.news) = omega arith in
      let parts : map thing (ls ++ a ∷ []) ++ drop (suc n) (ts ++ g.news) ≡ ts ++ g.news =
      ap (λ xs. xs ++ drop (suc n) (ts ++ g.news)) (map_push thing ls a ∙ ap (λ x. map thing ls ++ x ∷ []) o.thing)
      ∙ ap (λ xs. (map thing ls ++ t ∷ []) ++ xs) (drop-front (suc n) ts g.news (omega arith))
      ∙ append_assoc (map thing ls) (t ∷ []) (drop (suc n) ts ++ g.news)
      ∙ sym (append_assoc (map thing ls) (t ∷ drop (suc n) ts) g.news)
      ∙ ap (λ xs. (map thing ls ++ xs) ++ g.news) (sym here.0)
      ∙ ap (λ xs. xs ++ g.news) w.parts in
      let A : Line → List Line → Type 0 = λ b cs. Among b cs in
      let old : (x : Point) → Among x ts → Among x (ts ++ g.news) = λ x i. Among-left x ts g.news i in
      let F : List Point → Type 0 = λ xs. IsWalk P l k m xs bs in
      let G : List Line → Type 0 = λ cs. IsWalk P l k m (ts ++ g.news) cs in
      let H : ℕ → Type 0 = λ i. IsWalk P l k i (ts ++ g.news) (ls ++ a ∷ []) in
      let T : List Point → Type 0 = λ xs. AllDiffer xs in
      let U : Point → List Point → Type 0 = λ x xs. Among x xs in
      subst F (sym grown) (subst G (sym f) (subst H (sym next) record {
        within = wide;
        parts = parts;
        lines = λ b i. elim (Among-either b ls (a ∷ []) i) [
          | inl r ↦ w.lines b r
          | inr r ↦ elim r [
            | inl q ↦ (let I : Line → Type 0 = λ x. IsLineOf P l k x.thing x in
                subst I (sym q) own)
            | inr z ↦ absurd z
          ]
        ];
        closed = λ b u i c. elim (Among-either b ls (a ∷ []) i) [
          | inl r ↦ old u (w.closed b u r c)
          | inr r ↦ elim r [
            | inl q ↦ (let I : Line → Type 0 = λ x. Among u x.needs.items in
                subst (U u) g.grows (g.all u (subst I q c)))
            | inr z ↦ absurd z
          ]
        ];
        reached = λ x i. elim (Among-either x ts g.news i) [
          | inl r ↦ w.reached x r
          | inr r ↦ (let c = line-true a x own (g.told x r) in
              let I : Point → Type 0 = λ y. IsReached P (known_facts k) y in
              let there : IsReached P (known_facts k) a.thing =
              subst I (sym o.thing) (w.reached t (Among-from_at t ts n at)) in
              by-further a.thing x there c.0 c.1)
        ];
        begun = λ x i. old x (w.begun x i);
        once = subst T g.grows (g.once w.once);
      }))

  pub walk-end : (n : ℕ) (ts : List Point) (ls : List Line) → IsWalk P l k n ts ls → length ts ≤ n
      → Explain P (known_facts k) ls
  walk-end n ts ls w low =
      let thing : Line → Point = λ b. b.thing in
      let same : map thing ls ≡ ts =
      sym (append-nil (map thing ls)) ∙ ap (λ xs. map thing ls ++ xs) (sym (drop_of_length-le ts low)) ∙ w.parts in
      let T : List Point → Type 0 = λ xs. AllDiffer xs in
      record {
        all = λ t r. (let m = met t r in
            let F : List Point → Type 0 = λ xs. Among t xs in
            let q = Among-from_map thing t ls (subst F (sym same) m) in
            record { line = q.0; there = q.1; is = sym q.2 });
        only = λ a i. (let F : List Point → Type 0 = λ xs. Among a.thing xs in
            w.reached a.thing (subst F same (Among-map thing a ls i)));
        lines = λ a i. line-is a (w.lines a i);
        once = subst T (sym same) w.once;
      }
    where
      same_things : map (λ (b : Line). b.thing) ls ≡ ts
      same_things =
          sym (append-nil (map (λ (b : Line). b.thing) ls))
          ∙ ap (λ xs. map (λ (b : Line). b.thing) ls ++ xs) (sym (drop_of_length-le ts low)) ∙ w.parts

      met : (t : Point) → IsReached P (known_facts k) t → Among t ts
      met t (by-answer un) =
          w.begun (point Outermost (main_body P))
          (lacking-all k (roots P (known_facts k)) (point Outermost (main_body P)) (inl refl)
          (not-given (point Outermost (main_body P)) un))
      met t (by-waiting _ s j m un) =
          w.begun t
          (lacking-all k (roots P (known_facts k)) t (inr (asking-all (known_facts k) t s j m)) (not-given t un))
      met t (by-further s _ r n un) =
          let F : List Point → Type 0 = λ xs. Among s xs in
          let q = Among-from_map (λ (b : Line). b.thing) s ls (subst F (sym same_things) (met s r)) in
          let G : Point → Type 0 = λ x. Needs P (known_facts k) x t in
          w.closed q.0 t q.1 (line-all q.0 t (w.lines q.0 q.1) (subst G q.2 n) un)
