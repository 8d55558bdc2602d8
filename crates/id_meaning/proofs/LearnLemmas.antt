-- What a round learns: facts behind those that are there, sound, and all that follows.
use Rattle.std.proofs.Common.{◌≡◌, ◌⊎◌, inl, inr, ℕ, zero, suc, ◌+◌, ◌≤◌, ◌<◌, ◌&&◌, nat_lt, Bool as Truth, true}
use Rattle.std.proofs.Common.{Option, None, Some}
use Rattle.std.proofs.Common.{List, [], ◌∷◌, ◌++◌, length, take, drop, get_or, refl, ap, sym, ◌∙◌, subst, arith}
use Rattle.std.specs.Prelude.{slice_get}
use Rattle.std.proofs.lemmas.Bool.{and_from, lt-ltb, ltb-true}
use Rattle.std.proofs.lemmas.List.{append-nil, append_assoc, length-append, take-append-drop}
use Rattle.std.proofs.Math.Seq.{take-suc}
use Rattle.id_value.specs.List.{Among}
use Rattle.id_value.proofs.AmongLemmas.{Among-either, Among-left, Among-right}
use Rattle.id_value.specs.declared.Constant.{Constant}
use Rattle.id_check.specs.declared.checked.Checked.{Checked}
use Rattle.id_check.specs.Programs.{place}
use Rattle.id_source.specs.declared.Fact.{Fact}
use Rattle.id_source.specs.declared.Fact.TheVariants as fact
use Rattle.id_source.specs.declared.SourceValue.TheVariants as value
use Rattle.id_facts.specs.declared.cells.Cells.{Cells}
use Rattle.id_facts.specs.declared.facts.RowFact.{RowFact}
use Rattle.id_facts.specs.declared.facts.RowFact.TheVariants.{On, Has, Shape, Put, Ask}
use Rattle.id_facts.specs.declared.facts.RowValue.{RowValue}
use Rattle.id_facts.specs.declared.facts.RowValue.TheVariants.{Int, Bool, Name}
use Rattle.id_facts.specs.declared.facts.Trail.{Trail}
use Rattle.id_facts.specs.declared.facts.Trail.TheVariants.{Outermost, Below}
use Rattle.id_source.specs.declared.links.Links.{Links}
use Rattle.id_facts.specs.declared.queues.Queues.{Queues}
use Rattle.id_source.specs.Sources.{IsInput, Source, main_params}
use Rattle.id_source.specs.Facts.{ask, put, shape, site}
use Rattle.id_source.specs.Rounds.{Rounds}
use Rattle.id_source.specs.Links.{far_from}
use Rattle.id_facts.specs.RowFacts.{AreBefore, all_learnt, fact_at, is_inside}
use Rattle.id_facts.specs.RowFacts.{is_path_inside, is_value_inside, path_of, row_of}
use Rattle.id_facts.specs.Cells.{out_of}
use Rattle.id_meaning.specs.Effects.{all_effects, effects}
use Rattle.id_facts.specs.Firsts.{first_facts, input_fact, input_facts, row_value}
use Rattle.id_facts.specs.Listed.{AreFound, BeginsOn, IsArrayOn, IsOfThing, IsPart, IsRound, NamesArray, NamesArrays}
use Rattle.id_facts.specs.Listed.{fact_of, name_at, path_at}
use Rattle.id_facts.specs.Listed.{site_at, value_at}
use Rattle.id_meaning.specs.Following.{Goes}
use Rattle.id_meaning.specs.Read.{Read}
use Rattle.id_facts.proofs.FactsLemmas.{among-at, index-of}
use Rattle.id_meaning.proofs.CompleteLemmas.{complete}
use Rattle.id_meaning.proofs.KnownLemmas.{among-inside}
use Rattle.id_facts.proofs.FactsLemmas.{Inside, at-front, fact-before, inside-more}
use Rattle.id_facts.proofs.PathsLemmas.{path-grown}
use Rattle.id_source.proofs.RoundsLemmas.{Rounds-follow}
use Rattle.id_meaning.proofs.RulesLemmas.{AllAmong, RowGoesOn, RowRule, sound}
use Rattle.id_facts.proofs.FactsLemmas.{IsOnBy}
use Rattle.id_meaning.proofs.RulesLemmas as row
use Rattle.id_facts.proofs.WaitsLemmas.{out-grown}
use Rattle.id_facts.proofs.LearntLemmas.{both, path-there, there-path, inside-path, among-within, AreApart, Learns}
use Rattle.id_facts.proofs.LearntLemmas.{wide, kept, learns-so, all_learnt-append}

pub all_effects-append : (P : Checked) (l : Links) (W : Queues) (c : Cells) (fs gs : List RowFact)
    → all_effects P l W c (fs ++ gs) ≡ all_effects P l W c fs ++ all_effects P l W c gs
all_effects-append P l W c [] gs = refl
all_effects-append P l W c (f ∷ fs) gs =
    ap (λ xs. effects P l W c f ++ xs) (all_effects-append P l W c fs gs)
    ∙ sym (append_assoc (effects P l W c f) (all_effects P l W c fs) (all_effects P l W c gs))

-- ---- what follows by one rule

-- the fact follows by one rule of rows from some of these
pub record Arises (S : Source) (fs : List RowFact) (x : RowFact) : Type 0 where
  pub premises : List RowFact
  pub rule : RowRule S fs premises x
  pub known : AllAmong fs premises

value-there : (P : Checked) (fs : List RowFact) (v : RowValue) → NamesArray P fs v
    → is_value_inside (length fs) v ≡ true
value-there P fs (Int k) h = refl
value-there P fs (Bool b) h = refl
value-there P fs (Name i) h = lt-ltb i (length fs) h.within

-- a fact speaks of what is there, where its path is and its structures are
fact-there : (P : Checked) (fs : List RowFact) (f : RowFact) → Inside (length fs) (path_of f) → NamesArrays P fs f
    → is_inside (length fs) f ≡ true
fact-there P fs (On p n) i h = path-there (length fs) p i
fact-there P fs (Has p n v) i h =
    and_from (is_path_inside (length fs) p) (is_value_inside (length fs) v) (path-there (length fs) p i)
    (value-there P fs v h)
fact-there P fs (Shape s lo hi) i h = lt-ltb s (length fs) h.within
fact-there P fs (Put p n s j v) i h =
    let a = and_from (is_path_inside (length fs) p) (nat_lt s (length fs)) (path-there (length fs) p i)
    (lt-ltb s (length fs) h.0.within) in
    and_from (is_path_inside (length fs) p && nat_lt s (length fs)) (is_value_inside (length fs) v) a
    (value-there P fs v h.1)
fact-there P fs (Ask p n s j) i h =
    and_from (is_path_inside (length fs) p) (nat_lt s (length fs)) (path-there (length fs) p i)
    (lt-ltb s (length fs) h.within)

-- the path of what follows is there
rule-path : (S : Source) (fs : List RowFact) → AreBefore fs → {gs : List RowFact} {x : RowFact} → RowRule S fs gs x
    → AllAmong fs gs → Inside (length fs) (path_of x)
rule-path S fs b row.main h = tt
rule-path S fs b (row.input i) h = tt
rule-path S fs b (row.turned {p = p} {n = n} l u) h = among-inside fs b (On p n) h.0
rule-path S fs b (row.literal {p = p} {n = n} st) h = among-inside fs b (On p n) h.0
rule-path S fs b (row.unary {p = p} {n = n} c st e) h = among-inside fs b (On p n) h.0
rule-path S fs b (row.binary {p = p} {n = n} c d st e) h = among-inside fs b (On p n) h.0
rule-path S fs b (row.name {p = p} {n = n} st e) h = among-inside fs b (On p n) h.0
rule-path S fs b (row.arm {p = p} {n = n} c st sp) h = among-inside fs b (On p n) h.0
rule-path S fs b (row.conditional {p = p} {n = n} c st sp) h = among-inside fs b (On p n) h.0
rule-path S fs b (row.block {p = p} {n = n} st) h = among-inside fs b (On p n) h.0
rule-path S fs b (row.binding {p = p} {a = a} {v = v} st) h = among-inside fs b (Has p a v) h.0
rule-path S fs b (row.made_shape st o e) h = tt
rule-path S fs b (row.made_name {p = p} {n = n} st o e) h = among-inside fs b (On p n) h.0
rule-path S fs b (row.asked {p = p} {n = n} st e) h = among-inside fs b (On p n) h.0
rule-path S fs b (row.answered {p = p} {n = n} {s = s} {j = j}) h = among-inside fs b (Ask p n s j) h.0
rule-path S fs b (row.put_there {p = p} {m = m} st e) h = among-inside fs b (On p m) h.0
rule-path S fs b (row.asks_argument {p = p} {n = n} st t) h = among-inside fs b (On p n) h.0
rule-path S fs b (row.begins st d f o) h = o.within
rule-path S fs b (row.passes st t d f g o) h = o.within
rule-path S fs b (row.ends {p = p} {n = n} st d f o) h = among-inside fs b (On p n) h.0
rule-path S fs b (row.starts ls o) h = o.within
rule-path S fs b (row.enters ls y e o) h = o.within
rule-path S fs b (row.counts_first st o e) h = o.within
rule-path S fs b (row.counts_on k st o e) h = o.within
rule-path S fs b (row.again k ls o) h = o.within
rule-path S fs b (row.runs k st o g t) h = o.within
rule-path S fs b (row.leaves k st o g) h = o.within
rule-path S fs b (row.hands k ls y o) h = o.within
rule-path S fs b (row.leads_out {p = p} {n = n} {i = i} k ls o) h =
    let F : RowFact → Type 0 = λ g. Among g fs in among-inside fs b (On p n) (subst F o.fact (among-at fs i o.within))

-- what follows speaks of what is there
pub arisen-inside : (S : Source) (k : ℕ) (fs : List RowFact) (s : IsRound S k fs) (x : RowFact) → Arises S fs x
    → is_inside (length fs) x ≡ true
arisen-inside S k fs s x a =
    fact-there S.checked fs x (rule-path S fs s.found.before a.rule a.known) (sound S k fs s a.rule a.known).1

-- ---- as more facts come

module _ (P : Checked) (fs news : List RowFact) (b : AreBefore fs) where
  name-grown : (i : ℕ) → i < length fs → name_at P (fs ++ news) i ≡ name_at P fs i
  name-grown i l =
      let q = path_of (fact_at fs i) in
      ap (λ f. site_at P (fs ++ news) (path_of f) (row_of f)) (at-front fs news i l)
      ∙ ap (λ p. site p (place P (row_of (fact_at fs i))))
      (path-grown P fs news b q (inside-more i (length fs) q (omega arith) (fact-before fs b i)))

  value-grown : (v : RowValue) → is_value_inside (length fs) v ≡ true → value_at P (fs ++ news) v ≡ value_at P fs v
  value-grown (Int k) h = refl
  value-grown (Bool c) h = refl
  value-grown (Name i) h = ap (λ s. value.Name s) (name-grown i (ltb-true i (length fs) h))

  path-same : (p : Trail) → is_path_inside (length fs) p ≡ true → path_at P (fs ++ news) p ≡ path_at P fs p
  path-same p h = path-grown P fs news b p (there-path (length fs) p h)

  -- a fact that speaks of what was there is the same
  pub fact-grown : (f : RowFact) → is_inside (length fs) f ≡ true → fact_of P (fs ++ news) f ≡ fact_of P fs f
  fact-grown (On p n) h = ap (λ q. fact.On q (place P n)) (path-same p h)
  fact-grown (Has p n v) h =
      let a = both (is_path_inside (length fs) p) (is_value_inside (length fs) v) h in
      ap (λ q. fact.Has q (place P n) (value_at P (fs ++ news) v)) (path-same p a.0)
      ∙ ap (λ w. fact.Has (path_at P fs p) (place P n) w) (value-grown v a.1)
  fact-grown (Shape s lo hi) h = ap (λ x. shape x lo hi) (name-grown s (ltb-true s (length fs) h))
  fact-grown (Put p n s j v) h =
      let a = both (is_path_inside (length fs) p && nat_lt s (length fs)) (is_value_inside (length fs) v) h in
      let c = both (is_path_inside (length fs) p) (nat_lt s (length fs)) a.0 in
      ap (λ x. put x j (value_at P (fs ++ news) v) (site_at P (fs ++ news) p n))
      (name-grown s (ltb-true s (length fs) c.1))
      ∙ ap (λ w. put (name_at P fs s) j w (site_at P (fs ++ news) p n)) (value-grown v a.1)
      ∙ ap (λ q. put (name_at P fs s) j (value_at P fs v) (site q (place P n))) (path-same p c.0)
  fact-grown (Ask p n s j) h =
      let c = both (is_path_inside (length fs) p) (nat_lt s (length fs)) h in
      ap (λ x. ask (site_at P (fs ++ news) p n) x j) (name-grown s (ltb-true s (length fs) c.1))
      ∙ ap (λ q. ask (site q (place P n)) (name_at P fs s) j) (path-same p c.0)

  array-grown : (i : ℕ) → IsArrayOn P fs i → IsArrayOn P (fs ++ news) i
  array-grown i a = record {
    path = a.path;
    array = a.array;
    nested = a.nested;
    low = a.low;
    high = a.high;
    within = (let l = length-append fs news in let k = a.within in omega (arith, l));
    on = at-front fs news i a.within ∙ a.on;
    stands = a.stands;
  }

  names-grown : (v : RowValue) → NamesArray P fs v → NamesArray P (fs ++ news) v
  names-grown (Int k) h = tt
  names-grown (Bool c) h = tt
  names-grown (Name i) h = array-grown i h

  arrays-grown : (f : RowFact) → NamesArrays P fs f → NamesArrays P (fs ++ news) f
  arrays-grown (On p n) h = tt
  arrays-grown (Has p n v) h = names-grown v h
  arrays-grown (Shape s lo hi) h = array-grown s h
  arrays-grown (Put p n s j v) h = (array-grown s h.0, names-grown v h.1)
  arrays-grown (Ask p n s j) h = array-grown s h

  begins-grown : (q : Trail) → Inside (length fs) q → BeginsOn fs q → BeginsOn (fs ++ news) q
  begins-grown Outermost i h = tt
  begins-grown (Below i k) l h = (h.0, (h.1.0, at-front fs news i l ∙ h.1.1))

-- ---- what is known after a round

module _ (S : Source) (k : ℕ) (fs ds es : List RowFact) (s : IsRound S k fs) (rises : (x : RowFact) → Among x es
    → Arises S fs x) (l : Learns fs ds es) where
  -- all that follows is there then
  pub learnt-has : (x : RowFact) → Among x es → Among x ds
  learnt-has x h = l.all x h (arisen-inside S k fs s x (rises x h))

  pub learnt-kept : (x : RowFact) → Among x fs → Among x ds
  learnt-kept x h = kept fs ds l.news l.grows x h

  pub learnt-same : (x : RowFact) → is_inside (length fs) x ≡ true → fact_of S.checked ds x ≡ fact_of S.checked fs x
  learnt-same x h =
      let F : List RowFact → Type 0 = λ xs. fact_of S.checked xs x ≡ fact_of S.checked fs x in
      subst F (sym l.grows) (fact-grown S.checked fs l.news s.found.before x h)

  -- each of the facts speaks of old ones, is of a thing, and is one of the next round
  record IsNext (x : RowFact) : Type 0 where
    pub inside : is_inside (length fs) x ≡ true
    pub thing : IsOfThing S x
    pub arrays : NamesArrays S.checked fs x
    pub begins : BeginsOn fs (path_of x)
    pub there : Rounds S (suc k) (fact_of S.checked fs x)

  is-next : (x : RowFact) → Among x ds → IsNext x
  is-next x h =
      let F : List RowFact → Type 0 = λ xs. Among x xs in
      elim (Among-either x fs l.news (subst F l.grows h)) [
        | inl i ↦ record {
          inside = among-within fs s.found.before x i;
          thing = s.found.things x i;
          arrays = s.found.arrays x i;
          begins = s.found.begin x i;
          there = inl (s.only x i);
        }
        | inr i ↦
            let a = rises x (l.told x i) in
            let t = sound S k fs s a.rule a.known in
            record { inside = arisen-inside S k fs s x a; thing = t.0; arrays = t.1; begins = t.2; there = t.3 }
      ]

  pub learnt-found : AreFound S ds
  learnt-found = record {
    things = λ x h. (is-next x h).thing;
    arrays = λ x h.
        (let F : List RowFact → Type 0 = λ xs. NamesArrays S.checked xs x in
        subst F (sym l.grows) (arrays-grown S.checked fs l.news s.found.before x (is-next x h).arrays));
    begin = λ x h.
        (let t = is-next x h in
        let F : List RowFact → Type 0 = λ xs. BeginsOn xs (path_of x) in
        subst F (sym l.grows)
        (begins-grown S.checked fs l.news s.found.before (path_of x) (inside-path (length fs) x t.inside) t.begins));
    before = l.before s.found.before;
    apart = l.apart s.found.apart;
  }

  learnt-only : (x : RowFact) → Among x ds → Rounds S (suc k) (fact_of S.checked ds x)
  learnt-only x h =
      let t = is-next x h in
      let F : Fact → Type 0 = λ f. Rounds S (suc k) f in
      subst F (sym (learnt-same x t.inside)) t.there

  -- what is learnt is of the next round
  pub learnt-part : IsPart S (suc k) ds
  learnt-part = record { only = learnt-only; found = learnt-found }

  -- where all that follows is there, it is that round
  pub learnt-round : ((x : RowFact) → Arises S fs x → Among x ds) → IsRound S (suc k) ds
  learnt-round all = record { all = each; only = learnt-only; found = learnt-found }
    where
      each : (f : Fact) → Rounds S (suc k) f → (g : RowFact) × Among g ds × (f ≡ fact_of S.checked ds g)
      each f h =
          let r = Rounds-follow S k f h in
          let c = complete S k fs s r.1 r.2 in
          let a : Arises S fs c.given = record { premises = c.premises; rule = c.rule; known = c.known } in
          (c.given, all c.given a, c.is ∙ sym (learnt-same c.given (arisen-inside S k fs s c.given a)))

-- ---- what followed before

module _ (S : Source) (fs ds news : List RowFact) (grows : ds ≡ fs ++ news) (b : AreBefore fs) (a : AreApart ds) where
  front-at : (i : ℕ) → i < length fs → fact_at ds i ≡ fact_at fs i
  front-at i l = ap (λ xs. fact_at xs i) grows ∙ at-front fs news i l

  front-out : (d : ℕ) (q : Trail) → Inside (length fs) q → out_of ds d q ≡ out_of fs d q
  front-out d q i = ap (λ xs. out_of xs d q) grows ∙ out-grown fs news b d q i

  -- what is On among the old facts is so by one of them
  on-before : {i : ℕ} {p : Trail} {n : ℕ} → IsOnBy ds i p n → Among (On p n) fs → IsOnBy fs i p n
  on-before {i} {p} {n} o h =
      let r = index-of (On p n) fs h in
      let u = wide fs ds news grows in
      let k = r.1 in
      let q : i ≡ r.0 = a i r.0 o.within (omega (arith, u)) (o.fact ∙ sym (front-at r.0 r.1 ∙ r.2)) in
      record { within = omega (arith, q); fact = ap (λ j. fact_at fs j) q ∙ r.2 }

  on-below : {i : ℕ} {p : Trail} {n : ℕ} → IsOnBy ds i p n → i < length fs → IsOnBy fs i p n
  on-below {i} o l = record { within = l; fact = sym (front-at i l) ∙ o.fact }

  -- and so is a loop that goes on or not by old facts
  on-going : {n w k i : ℕ} {p : Trail} {t : Truth} {gs : List RowFact} → IsOnBy ds i p n → RowGoesOn S n w p i k t gs
      → AllAmong fs gs → IsOnBy fs i p n
  on-going {i = i} {t = u} o (row.by_predicate {t = t} k ls) h =
      on-below o (among-inside fs b (Has (Below i k) t (Bool u)) h.0)
  on-going o (row.by_bounds st e) h = on-before o h.0
  on-going {i = i} o (row.by_index {x = x} {j = j} k st e) h =
      on-below o (among-inside fs b (Has (Below i k) x (Int j)) h.0)

  -- a rule gives of old facts what it gave before
  pub rule-before : {gs : List RowFact} {x : RowFact} → RowRule S ds gs x → AllAmong fs gs → RowRule S fs gs x
  rule-before row.main h = row.main
  rule-before (row.input i) h = row.input i
  rule-before (row.turned l u) h = row.turned l u
  rule-before (row.literal st) h = row.literal st
  rule-before (row.unary c st e) h = row.unary c st e
  rule-before (row.binary c d st e) h = row.binary c d st e
  rule-before (row.name {p = p} {n = n} {b = c} {v = v} st e) h =
      let q = front-out (far_from S.checked n (Some c)) p (among-inside fs b (On p n) h.0) in
      let F : Trail → Type 0 = λ r. RowRule S fs (On p n ∷ Has r c v ∷ []) (Has p n v) in
      subst F (sym q) (row.name st e)
  rule-before (row.arm c st sp) h = row.arm c st sp
  rule-before (row.conditional c st sp) h = row.conditional c st sp
  rule-before (row.block st) h = row.block st
  rule-before (row.binding st) h = row.binding st
  rule-before (row.made_shape st o e) h = row.made_shape st (on-before o h.0) e
  rule-before (row.made_name st o e) h = row.made_name st (on-before o h.0) e
  rule-before (row.asked st e) h = row.asked st e
  rule-before row.answered h = row.answered
  rule-before (row.put_there st e) h = row.put_there st e
  rule-before (row.asks_argument st t) h = row.asks_argument st t
  rule-before (row.begins st d f o) h = row.begins st d f (on-before o h.0)
  rule-before (row.passes st t d f g o) h = row.passes st t d f g (on-before o h.0)
  rule-before (row.ends st d f o) h = row.ends st d f (on-before o h.0)
  rule-before (row.starts ls o) h = row.starts ls (on-before o h.0)
  rule-before (row.enters {p = p} {n = n} {m = m} {c = c} {i = i} {u = u} ls y e o) h =
      let q = front-out (far_from S.checked n (Some c)) p (among-inside fs b (On p n) h.0) in
      let F : Trail → Type 0 = λ r. RowRule S fs (On p n ∷ Has r c u ∷ []) (Has (Below i 0) m u) in
      subst F (sym q) (row.enters ls y e (on-before o h.0))
  rule-before (row.counts_first st o e) h = row.counts_first st (on-before o h.0) e
  rule-before (row.counts_on {x = x} {i = i} {j = j} k st o e) h =
      row.counts_on k st (on-below o (among-inside fs b (Has (Below i k) x (Int j)) h.0)) e
  rule-before (row.again {t = t} {i = i} k ls o) h =
      row.again k ls (on-below o (among-inside fs b (Has (Below i k) t (Bool true)) h.0))
  rule-before (row.runs k st o g y) h = row.runs k st (on-going o g h) g y
  rule-before (row.leaves k st o g) h = row.leaves k st (on-going o g h) g
  rule-before (row.hands {v = v} {i = i} {u = u} k ls y o) h =
      row.hands k ls y (on-below o (among-inside fs b (Has (Below i k) v u) h.0))
  rule-before (row.leads_out {l = l} {i = i} {u = u} k ls o) h =
      row.leads_out k ls (on-below o (among-inside fs b (Has (Below i k) l u) h.0))

  -- all of these are old facts, or one of them is new
  pub old-or-new : (gs : List RowFact) → AllAmong ds gs → AllAmong fs gs ⊎ ((g : RowFact) × Among g gs × Among g news)
  old-or-new [] h = inl tt
  old-or-new (g ∷ gs) h =
      let F : List RowFact → Type 0 = λ xs. Among g xs in
      elim (Among-either g fs news (subst F grows h.0)) [
        | inl i ↦ elim (old-or-new gs h.1) [ inl j ↦ inl (i, j) | inr j ↦ inr (j.0, inr j.1, j.2) ]
        | inr i ↦ inr (g, inl refl, i)
      ]

  -- what follows did so before, or by a premise that is new
  pub arises-old-or-new : (x : RowFact) (r : Arises S ds x)
      → Arises S fs x ⊎ ((g : RowFact) × Among g r.premises × Among g news)
  arises-old-or-new x r = elim (old-or-new r.premises r.known) [
    | inl i ↦ inl (record { premises = r.premises; rule = rule-before r.rule i; known = i })
    | inr i ↦ inr i
  ]

-- ---- before the first round

some-input : (b : ℕ) (o : Option Constant) (c : Constant) → o ≡ Some c
    → Among (Has Outermost b (row_value c)) (input_fact b o)
some-input b None c h = cc
some-input b (Some d) c h = let e : c ≡ d = cc in inl (ap (λ x. Has Outermost b (row_value x)) e)

input-some : (b : ℕ) (o : Option Constant) (f : RowFact) → Among f (input_fact b o)
    → (c : Constant) × (o ≡ Some c) × (f ≡ Has Outermost b (row_value c))
input-some b None f h = absurd h
input-some b (Some c) f (inl q) = (c, refl, q)
input-some b (Some c) f (inr h) = absurd h

input-among : (n : ℕ) (bs : List ℕ) (ks : List Constant) (j b : ℕ) (c : Constant) → slice_get bs j ≡ Some b
    → slice_get ks (n + j) ≡ Some c → Among (Has Outermost b (row_value c)) (input_facts n bs ks)
input-among n [] ks j b c h k = cc
input-among n (d ∷ bs) ks zero b c h k =
    let e : b ≡ d = cc in
    let q : n + 0 ≡ n = omega arith in
    let f = Has Outermost b (row_value c) in
    let P : ℕ → Type 0 = λ i. Among (Has Outermost i (row_value c)) (input_fact d (slice_get ks n)) in
    Among-left f (input_fact d (slice_get ks n)) (input_facts (suc n) bs ks)
    (subst P (sym e) (some-input d (slice_get ks n) c (ap (λ i. slice_get ks i) (sym q) ∙ k)))
input-among n (d ∷ bs) ks (suc j) b c h k =
    let q : suc n + j ≡ n + suc j = omega arith in
    Among-right (Has Outermost b (row_value c)) (input_fact d (slice_get ks n)) (input_facts (suc n) bs ks)
    (input-among (suc n) bs ks j b c h (ap (λ i. slice_get ks i) q ∙ k))

input-only : (n : ℕ) (bs : List ℕ) (ks : List Constant) (f : RowFact) → Among f (input_facts n bs ks)
    → (j : ℕ) × (b : ℕ) × (c : Constant) × (slice_get bs j ≡ Some b) × (slice_get ks (n + j) ≡ Some c)
    × (f ≡ Has Outermost b (row_value c))
input-only n [] ks f h = absurd h
input-only n (d ∷ bs) ks f h = elim (Among-either f (input_fact d (slice_get ks n)) (input_facts (suc n) bs ks) h) [
  | inl i ↦ let r =
      input-some d (slice_get ks n) f i in let q : n + 0 ≡ n =
      omega arith in (0, d, r.0, refl, ap (λ j. slice_get ks j) q ∙ r.1, r.2)
  | inr i ↦ let r = input-only (suc n) bs ks f i in let q : n + suc r.0 ≡ suc n + r.0 = omega arith in
      (suc r.0, r.1, r.2, r.3, ap (λ j. slice_get ks j) q ∙ r.4, r.5)
]

module _ (S : Source) where
  -- the first facts are those that follow from none
  pub first-arises : (x : RowFact) → Among x (first_facts S.checked S.inputs) → Arises S [] x
  first-arises x (inl q) =
      let F : RowFact → Type 0 = λ g. Arises S [] g in
      subst F (sym q) (record { premises = []; rule = row.main; known = tt })
  first-arises x (inr h) =
      let r = input-only 0 (main_params S.checked) S.inputs x h in
      let q : 0 + r.0 ≡ r.0 = omega arith in
      let i : IsInput S r.1 r.2 =
      record { number = r.0; param = r.3; value = ap (λ j. slice_get S.inputs j) (sym q) ∙ r.4 } in
      let F : RowFact → Type 0 = λ g. Arises S [] g in
      subst F (sym r.5) (record { premises = []; rule = row.input i; known = tt })

  -- a loop goes on or not by some fact
  goes-none : {n w k i : ℕ} {p : Trail} {t : Truth} {gs : List RowFact} → RowGoesOn S n w p i k t gs → AllAmong [] gs
      → ⊥
  goes-none (row.by_predicate k ls) h = h.0
  goes-none (row.by_bounds st e) h = h.0
  goes-none (row.by_index k st e) h = h.0

  from-none : {gs : List RowFact} {x : RowFact} → RowRule S [] gs x → AllAmong [] gs
      → Among x (first_facts S.checked S.inputs)
  from-none row.main h = inl refl
  from-none (row.input {n = n} {c = c} i) h =
      let q : i.number ≡ 0 + i.number = omega arith in
      inr (input-among 0 (main_params S.checked) S.inputs i.number n c i.param (ap (λ j. slice_get S.inputs j) (sym q)
      ∙ i.value))
  from-none (row.runs k st o g b) h = absurd (goes-none g h)
  from-none (row.leaves k st o g) h = absurd (goes-none g h)
  from-none _ h = absurd h.0

  pub first-all : (x : RowFact) → Arises S [] x → Among x (first_facts S.checked S.inputs)
  first-all x a = from-none a.rule a.known

  -- no facts are those of round 0
  pub none-round : IsRound S 0 []
  none-round = record {
    all = λ f h. absurd h;
    only = λ f h. absurd h;
    found = record {
      things = λ f h. absurd h;
      arrays = λ f h. absurd h;
      begin = λ f h. absurd h;
      before = λ i l. absurd (omega arith);
      apart = λ i j l m e. absurd (omega arith);
    };
  }

  -- and the first ones are those of round 1
  pub first-round : (ds : List RowFact) → ds ≡ all_learnt [] (first_facts S.checked S.inputs) → IsRound S 1 ds
  first-round ds e =
      let es = first_facts S.checked S.inputs in
      let l = learns-so [] ds es e in
      learnt-round S 0 [] ds es none-round first-arises l
      (λ x a. learnt-has S 0 [] ds es none-round first-arises l x (first-all x a))

-- ---- what has been learnt of a round so far

module _ (P : Checked) (l : Links) (W : Queues) (c : Cells) (gs fs : List RowFact) where
  -- what follows from the first i of the facts has been learnt
  abbrev pub Gone : ℕ → List RowFact → Type 0
  Gone i ds = ds ≡ all_learnt fs (all_effects P l W c (take i gs))

  one-more : (i : ℕ) (f d : RowFact) → i < length gs → f ≡ get_or gs i d
      → all_effects P l W c (take (suc i) gs) ≡ all_effects P l W c (take i gs) ++ effects P l W c f
  one-more i f d k e =
      ap (λ xs. all_effects P l W c xs) (take-suc gs i d k)
      ∙ all_effects-append P l W c (take i gs) (get_or gs i d ∷ [])
      ∙ ap (λ xs. all_effects P l W c (take i gs) ++ xs) (append-nil (effects P l W c (get_or gs i d))
      ∙ ap (λ g. effects P l W c g) (sym e))

  pub gone-next : (i j : ℕ) (f d : RowFact) (ds bs old new found : List RowFact) → i < length gs → j ≡ suc i
      → f ≡ get_or gs i d → Gone i ds → old ≡ [] → new ≡ old ++ effects P l W c f → found ≡ new
      → bs ≡ all_learnt ds found → Gone j bs
  gone-next i j f d ds bs old new found k q e g none more these b =
      let xs = all_effects P l W c (take i gs) in
      let ys = effects P l W c f in
      let J : ℕ → Type 0 = λ n. Gone n bs in
      let h : found ≡ ys = these ∙ more ∙ ap (λ x. x ++ ys) none in
      subst J (sym q) (b ∙ ap (λ x. all_learnt ds x) h ∙ ap (λ x. all_learnt x ys) g ∙ sym (all_learnt-append fs xs ys)
      ∙ ap (λ x. all_learnt fs x) (sym (one-more i f d k e)))

  abbrev read : Read
  read = record { checked = P; links = l; waits = W; cells = c }

  pub gone-full : (i : ℕ) (ds : List RowFact) → Gone i ds → 1000000 < length ds → Goes read gs fs ds
  gone-full i ds g k =
      record { front = take i gs; rest = drop i gs; parts = sym (take-append-drop i gs); facts = g; done = inr k }

  pub gone-all : (i : ℕ) (ds : List RowFact) → Gone i ds → length gs ≤ i → Goes read gs fs ds
  gone-all i ds g k =
      record {
        front = take i gs;
        rest = drop i gs;
        parts = sym (take-append-drop i gs);
        facts = g;
        done =
            inl (drop-all gs i k);
      }
    where
      drop-all : (xs : List RowFact) (i : ℕ) → length xs ≤ i → drop i xs ≡ []
      drop-all [] zero l = refl
      drop-all [] (suc i) l = refl
      drop-all (x ∷ xs) zero l = absurd (omega arith)
      drop-all (x ∷ xs) (suc i) l = drop-all xs i (omega arith)
