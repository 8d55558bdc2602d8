-- A round that adds no facts, and the answer of a round.
use Rattle.std.proofs.Common.{◌≡◌, ◌⊎◌, ◌≤◌, ◌<◌, inl, inr, ℕ, zero, suc, Option, None, Some, List, [], ◌∷◌, ◌++◌}
use Rattle.std.proofs.Common.{length, refl, ap, sym, ◌∙◌, subst, arith}
use Rattle.std.proofs.lemmas.List.{length-append}
use Rattle.id_value.specs.List.{AllDiffer, Among}
use Rattle.id_value.proofs.AmongLemmas.{Among-either, Among-left, Among-right}
use Rattle.id_check.specs.declared.checked.Checked.{Checked}
use Rattle.id_source.specs.declared.Fact.{Fact}
use Rattle.id_source.specs.Sources.{Source, main_body}
use Rattle.id_source.specs.Rounds.{Rounds}
use Rattle.id_facts.specs.declared.facts.RowFact.{RowFact}
use Rattle.id_facts.specs.declared.facts.RowFact.TheVariants.{Has}
use Rattle.id_facts.specs.declared.facts.RowValue.{RowValue}
use Rattle.id_facts.specs.declared.facts.Trail.TheVariants.{Outermost}
use Rattle.id_facts.specs.Listed.{IsRound, fact_of, facts_in}
use Rattle.id_facts.specs.RowFacts.{fact_at}
use Rattle.id_facts.proofs.FactsLemmas.{index-of}
use Rattle.id_meaning.proofs.ListedLemmas.{fact-once}
use Rattle.id_why.specs.declared.known.Known.{Known}
use Rattle.id_why.specs.Known.{AreIndexed, known_facts, values}
use Rattle.id_why.specs.Rounds.{IsAnswerIn, first_of}
use Rattle.id_why.specs.Walks.{AreApart}
use Rattle.id_why.proofs.KnownLemmas.{values-all, values-true}

-- ---- lists of which one has all of the other

split : {A : Type 0} (x : A) (ys : List A) → Among x ys → (a b : List A) × (ys ≡ a ++ x ∷ b)
split x [] m = absurd m
split x (y ∷ ys) (inl q) = ([], ys, ap (λ z. z ∷ ys) (sym q))
split x (y ∷ ys) (inr m) = let r = split x ys m in (y ∷ r.0, r.1, ap (λ zs. y ∷ zs) r.2)

-- where all differ, and stand in a list that is no longer, that list has nothing else
pub all-there : {A : Type 0} (xs ys : List A) → AllDiffer xs → ((x : A) → Among x xs → Among x ys)
    → length ys ≤ length xs → (y : A) → Among y ys → Among y xs
all-there [] [] d s l y m = m
all-there [] (z ∷ ys) d s l y m = absurd (omega arith)
all-there {A = A} (x ∷ xs) ys d s l y m =
    let p = split x ys (s x (inl refl)) in
    let a = p.0 in
    let b = p.1 in
    let F : A → List A → Type 0 = λ z zs. Among z zs in
    let less : (z : A) → Among z xs → Among z (a ++ b) =
    λ z k. elim (Among-either z a (x ∷ b) (subst (F z) p.2 (s z (inr k)))) [
      | inl i ↦ Among-left z a b i
      | inr i ↦ elim i [
        | inl q ↦ (let G : A → Type 0 = λ w. Among w xs in absurd (d.0 (subst G q k)))
        | inr j ↦ Among-right z a b j
      ]
    ] in
    let long = ap length p.2 ∙ length-append a (x ∷ b) in
    let short = length-append a b in
    let few : length (a ++ b) ≤ length xs = omega arith in
    elim (Among-either y a (x ∷ b) (subst (F y) p.2 m)) [
      | inl i ↦ inr (all-there xs (a ++ b) d.1 less few y (Among-left y a b i))
      | inr i ↦ elim i [ inl q ↦ inl q | inr j ↦ inr (all-there xs (a ++ b) d.1 less few y (Among-right y a b j)) ]
    ]

-- ---- facts of the source

in-list : (P : Checked) (fs gs : List RowFact) (g : RowFact) → Among g gs → Among (fact_of P fs g) (facts_in P fs gs)
in-list P fs [] g m = absurd m
in-list P fs (h ∷ gs) g (inl q) = inl (ap (fact_of P fs) q)
in-list P fs (h ∷ gs) g (inr m) = inr (in-list P fs gs g m)

of-list : (P : Checked) (fs gs : List RowFact) (x : Fact) → Among x (facts_in P fs gs)
    → (g : RowFact) × Among g gs × (x ≡ fact_of P fs g)
of-list P fs [] x m = absurd m
of-list P fs (h ∷ gs) x (inl q) = (h, inl refl, q)
of-list P fs (h ∷ gs) x (inr m) = let r = of-list P fs gs x m in (r.0, inr r.1, r.2)

count : (P : Checked) (fs gs : List RowFact) → length (facts_in P fs gs) ≡ length gs
count P fs [] = refl
count P fs (g ∷ gs) = let r = count P fs gs in omega arith

differ-list : (P : Checked) (fs gs : List RowFact)
    → ((f g : RowFact) → Among f gs → Among g gs → fact_of P fs f ≡ fact_of P fs g → f ≡ g)
    → AllDiffer gs → AllDiffer (facts_in P fs gs)
differ-list P fs [] once d = tt
differ-list P fs (g ∷ gs) once d = (
  λ m. (let r = of-list P fs gs (fact_of P fs g) m in
      let F : RowFact → Type 0 = λ y. Among y gs in
      d.0 (subst F (sym (once g r.0 (inl refl) (inr r.1) r.2)) r.1)),
  differ-list P fs gs (λ f h m n e. once f h (inr m) (inr n) e) d.1,
)

differ-apart : (fs : List RowFact) → AreApart fs → AllDiffer fs
differ-apart [] a = tt
differ-apart (f ∷ fs) a = (
  λ m. (let r = index-of f fs m in
      let l = r.1 in
      let q : 0 ≡ suc r.0 = a 0 (suc r.0) (omega arith) (omega arith) (sym r.2) in absurd (omega arith)),
  differ-apart fs (λ i j l k e. (let q : suc i ≡ suc j = a (suc i) (suc j) (omega arith) (omega arith) e in
      omega arith)),
)

-- where the next round has as many facts, these are all of it
pub round-ended : (S : Source) (n : ℕ) (fs gs : List RowFact) → IsRound S n fs → IsRound S (suc n) gs
    → length gs ≡ length fs → IsRound S (suc n) fs
round-ended S n fs gs h k e =
    let P = S.checked in
    let once = differ-list P fs fs (fact-once S fs h.found) (differ-apart fs h.found.apart) in
    let F : Fact → Type 0 = λ x. Among x (facts_in P gs gs) in
    let G : Fact → Type 0 = λ x. Rounds S (suc n) x in
    let there : (x : Fact) → Rounds S (suc n) x → Among x (facts_in P gs gs) =
    λ x i. (let r = k.all x i in subst F (sym r.2) (in-list P gs gs r.0 r.1)) in
    let low : (x : Fact) → Among x (facts_in P fs fs) → Among x (facts_in P gs gs) =
    λ x m. (let r = of-list P fs fs x m in there x (subst G (sym r.2) (inl (h.only r.0 r.1)))) in
    let one = count P fs fs in
    let two = count P gs gs in
    record {
      all = λ x i. of-list P fs fs x
          (all-there (facts_in P fs fs) (facts_in P gs gs) once low (omega arith) x (there x i));
      only = λ g m. inl (h.only g m);
      found = h.found;
    }

-- ---- the answer

pub answer-in : (P : Checked) (k : Known) → AreIndexed P k
    → IsAnswerIn P (known_facts k) (first_of (values k Outermost (main_body P)))
answer-in P k h = go (values k Outermost (main_body P)) refl
  where
    go : (vs : List RowValue) → values k Outermost (main_body P) ≡ vs → IsAnswerIn P (known_facts k) (first_of vs)
    go [] e =
        λ v m. (let F : List RowValue → Type 0 = λ ws. Among v ws in
        subst F e (values-all P k h Outermost (main_body P) v m))
    go (v ∷ vs) e =
        let F : List RowValue → Type 0 = λ ws. Among v ws in
        values-true P k h Outermost (main_body P) v (subst F (sym e) (inl refl))
