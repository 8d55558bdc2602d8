-- What follows by a rule of the source, rows give.
use Rattle.std.proofs.Common.{◌≡◌, ◌⊎◌, inl, inr, ℕ, zero, suc, ◌+◌, ◌<◌, ℤ, Bool as Truth, true, false, Some}
use Rattle.std.proofs.Common.{List, [], ◌∷◌, length, refl, ap, sym, ◌∙◌, subst, arith}
use Rattle.std.specs.Prelude.{pos, ◌+ℤ◌}
use Rattle.id_value.specs.List.{Among}
use Rattle.id_value.specs.declared.Constant.TheVariants as constant
use Rattle.id_table.specs.declared.row.Node.{Node}
use Rattle.id_table.specs.declared.row.Node.TheVariants as node
use Rattle.id_table.specs.Rows.{at}
use Rattle.id_table.specs.Tables.{is_call, is_thing}
use Rattle.id_table.specs.Turns.{Turns, operand, left, right, test, body, low, high, fetched, fetch_index}
use Rattle.id_table.specs.Turns.{address_target, address_index}
use Rattle.id_table.specs.Turns.{statement, stored, stored_value, index_low, index_high}
use Rattle.id_table.specs.Loops.{bounds_row}
use Rattle.id_check.specs.Programs.{Stands, place, rows}
use Rattle.id_source.specs.declared.Path.{Path}
use Rattle.id_source.specs.declared.SourceValue.{SourceValue}
use Rattle.id_source.specs.declared.SourceValue.TheVariants as value
use Rattle.id_source.specs.declared.Site.{Site}
use Rattle.id_source.specs.declared.Fact.{Fact}
use Rattle.id_source.specs.declared.Fact.TheVariants as fact
use Rattle.id_facts.specs.declared.facts.RowFact.{RowFact}
use Rattle.id_facts.specs.declared.facts.RowFact.TheVariants.{On, Has, Shape, Put, Ask}
use Rattle.id_facts.specs.declared.facts.RowValue.{RowValue}
use Rattle.id_facts.specs.declared.facts.RowValue.TheVariants.{Int, Bool, Name}
use Rattle.id_facts.specs.declared.facts.Trail.{Trail}
use Rattle.id_facts.specs.declared.facts.Trail.TheVariants.{Outermost, Below}
use Rattle.id_source.specs.Sources.{Source, main_body, value_of}
use Rattle.id_source.specs.Facts.{ForStands, GoesOn, StoreStands, Rule, ask, below, between, put, shape, site, without}
use Rattle.id_source.specs.Facts as rule
use Rattle.id_source.specs.Rounds.{Every, Rounds}
use Rattle.id_source.specs.Links.{BodyTurns, arm_of, far_from, of_binding, of_next, of_store}
use Rattle.id_facts.specs.RowFacts.{fact_at, path_of, row_of}
use Rattle.id_facts.specs.Cells.{out_of}
use Rattle.id_facts.specs.Firsts.{row_value}
use Rattle.id_facts.specs.Listed.{IsOfThing, IsRound, fact_of, name_at, path_at, value_at}
use Rattle.id_source.specs.Things.{IsThing}
use Rattle.id_source.proofs.CheckedLemmas.{binder_of, far-between, next-region, thing-binder, use_binder}
use Rattle.id_source.proofs.HasLemmas.{choice}
use Rattle.id_facts.proofs.PathsLemmas.{path-below, path-out}
use Rattle.id_meaning.proofs.RulesLemmas.{AllAmong, RowGoesOn, RowRule, value-row}
use Rattle.id_facts.proofs.FactsLemmas.{IsOnBy}
use Rattle.id_meaning.proofs.RulesLemmas as row
use Rattle.id_meaning.proofs.KnownLemmas.{IsHas, IsThere, constant-at, has-at, known-ask, known-has, known-on}
use Rattle.id_meaning.proofs.KnownLemmas.{known-put, name-at, name-once, number-at, shape-of, there, thing}
use Rattle.id_meaning.proofs.KnownLemmas.{value-constant, value-number}
use Rattle.id_source.proofs.StepsLemmas.{below-once, none-below}
use Rattle.id_source.proofs.ThingsLemmas.{node-thing, part-thing, test-thing}
use Rattle.id_facts.proofs.FactsLemmas.{among-at, index-of}

module _ (S : Source) (k : ℕ) (fs : List RowFact) (s : IsRound S k fs) where
  abbrev Of : Trail → Path
  Of p = path_at S.checked fs p

  abbrev Called : ℕ → Site
  Called i = name_at S.checked fs i

  -- ---- what follows rows give

  -- a fact is that of a row's that rows give
  pub record Rises (f : Fact) : Type 0 where
    pub premises : List RowFact
    pub given : RowFact
    pub rule : RowRule S fs premises given
    pub known : AllAmong fs premises
    pub is : f ≡ fact_of S.checked fs given

  on-rises : (n a : ℕ) (P : Path) (z : Node) → Stands S.checked n z → is_thing z ≡ true → is_call z ≡ false
      → Turns (rows S.checked) n a → Rounds S k (fact.On P (place S.checked n)) → Rises (fact.On P (place S.checked a))
  on-rises n a P z st t c u h =
      let x = known-on S k fs s n P (node-thing S n z st t) h in
      record {
        premises = On x.0 n ∷ [];
        given = On x.0 a;
        rule = row.turned st.within (u, ap is_call st.node ∙ c);
        known = (x.2, tt);
        is = ap (λ q. fact.On q (place S.checked a)) x.1;
      }

  -- the number by which it is On
  on-by : (q : Trail) (n : ℕ) → Among (On q n) fs → (i : ℕ) × IsOnBy fs i q n
  on-by q n h = let r = index-of (On q n) fs h in (r.0, record { within = r.1; fact = r.2 })

  path-by : (i j n : ℕ) (p : Trail) → IsOnBy fs i p n → Of (Below i j) ≡ below (Of p) (place S.checked n) j
  path-by i j n p b = path-below S.checked fs s.found.before i p n j (ap path_of b.fact) (ap row_of b.fact)

  below-by : (i j n : ℕ) (p : Trail) (P : Path) → IsOnBy fs i p n → P ≡ Of p
      → below P (place S.checked n) j ≡ Of (Below i j)
  below-by i j n p P b e = ap (λ q. below q (place S.checked n) j) e ∙ sym (path-by i j n p b)

  there-below : (i j n : ℕ) (p : Trail) → IsOnBy fs i p n → IsThere fs (Below i j)
  there-below i j n p b = record { begins = (p, (n, b.fact)); inside = b.within }

  -- what a binder Has where a name looks for it
  look-known : (q : Trail) (n c : ℕ) (P : Path) (v : SourceValue) → IsThing S c → n < length (rows S.checked)
      → Among (On q n) fs → P ≡ Of q → Rounds S k (fact.Has (without (between S n c) P) (place S.checked c) v)
      → (w : RowValue) × (v ≡ value_at S.checked fs w)
      × Among (Has (out_of fs (far_from S.checked n (Some c)) q) c w) fs
  look-known q n c P v t l on e h =
      let d = far_from S.checked n (Some c) in
      let z = there S k fs s (On q n) on in
      let o = out-there d q z in
      let path : without (between S n c) P ≡ Of (out_of fs d q) =
      ap (λ j. without j P) (sym (far-between S n c l t.within)) ∙ ap (λ r. without d r) e
      ∙ sym (path-out S.checked fs s.found.before d q) in
      has-at S k fs s (out_of fs d q) c (without (between S n c) P) v o t path h
    where
      out-there : (d : ℕ) (q : Trail) → IsThere fs q → IsThere fs (out_of fs d q)
      out-there zero q i = i
      out-there (suc d) Outermost i = out-there d Outermost i
      out-there (suc d) (Below i j) z =
          out-there d (path_of (fact_at fs i)) (there S k fs s (fact_at fs i) (among-at fs i z.inside))

  -- ---- iterations

  record Within (P : Path) (n j a : ℕ) (v : SourceValue) : Type 0 where
    pub number : ℕ
    pub path : Trail
    pub on : IsOnBy fs number path n
    pub outer : P ≡ Of path
    pub value : RowValue
    pub is_value : v ≡ value_at S.checked fs value
    pub known : Among (Has (Below number j) a value) fs

  in-iteration : (P : Path) (n j a : ℕ) (v : SourceValue) → IsThing S n → IsThing S a
      → Rounds S k (fact.Has (below P (place S.checked n) j) (place S.checked a) v) → Within P n j a v
  in-iteration P n j a v t u h = go x.path x.is_path x.known (there S k fs s (Has x.path a x.value) x.known)
    where
      x : IsHas S k fs s a (below P (place S.checked n) j) v
      x = known-has S k fs s a (below P (place S.checked n) j) v u h

      go : (q : Trail) → below P (place S.checked n) j ≡ Of q → Among (Has q a x.value) fs → IsThere fs q
          → Within P n j a v
      go Outermost e w z = absurd (none-below P (place S.checked n) j (sym e))
      go (Below i m) e w z =
          let b = z.begins in
          let on : IsOnBy fs i b.0 b.1.0 = record { within = z.inside; fact = b.1.1 } in
          let y = below-once P (Of b.0) (place S.checked n) (place S.checked b.1.0) j m (e
          ∙ path-by i m b.1.0 b.0 on) in
          let F : RowFact → Type 0 = λ f. IsOfThing S f in
          let c = subst F b.1.1 (s.found.things (fact_at fs i) (among-at fs i z.inside)) in
          let r : b.1.0 ≡ n = thing S k fs s b.1.0 n c t (sym y.1) in
          let G : ℕ → Type 0 = λ g. IsOnBy fs i b.0 g in
          let H : ℕ → Type 0 = λ g. Among (Has (Below i g) a x.value) fs in
          record {
            number = i;
            path = b.0;
            on = subst G r on;
            outer = y.0;
            value = x.value;
            is_value = x.is_value;
            known = subst H (sym y.2) w;
          }

  record WithinTruth (P : Path) (n j a : ℕ) (b : Truth) : Type 0 where
    pub number : ℕ
    pub path : Trail
    pub on : IsOnBy fs number path n
    pub outer : P ≡ Of path
    pub known : Among (Has (Below number j) a (Bool b)) fs

  truth-within : (P : Path) (n j a : ℕ) (b : Truth) → IsThing S n → IsThing S a
      → Rounds S k (fact.Has (below P (place S.checked n) j) (place S.checked a) (value.Bool b)) → WithinTruth P n j a b
  truth-within P n j a b t u h =
      let x = in-iteration P n j a (value.Bool b) t u h in
      let F : RowValue → Type 0 = λ w. Among (Has (Below x.number j) a w) fs in
      record {
        number = x.number;
        path = x.path;
        on = x.on;
        outer = x.outer;
        known = subst F (value-constant S fs x.value (constant.Bool b) x.is_value) x.known;
      }

  loop-thing : (n h w l : ℕ) → Stands S.checked n (node.Loop h w l) → IsThing S n
  loop-thing n h w l st = node-thing S n (node.Loop h w l) st refl

  -- the bounds of an index
  lower-thing : (n w x a b l : ℕ) (s : ForStands S.checked n w x a b l) → IsThing S a
  lower-thing n w x a b l s = part-thing S (bounds_row s.head) a (node.Bounds a b) s.bounds (inl refl)

  upper-thing : (n w x a b l : ℕ) (s : ForStands S.checked n w x a b l) → IsThing S b
  upper-thing n w x a b l s = part-thing S (bounds_row s.head) b (node.Bounds a b) s.bounds (inr refl)

  -- a loop goes on or not by facts of rows
  record GoesBy (n w : ℕ) (P : Path) (j : ℕ) (b : Truth) : Type 0 where
    pub number : ℕ
    pub path : Trail
    pub on : IsOnBy fs number path n
    pub outer : P ≡ Of path
    pub premises : List RowFact
    pub goes : RowGoesOn S n w path number j b premises
    pub known : AllAmong fs premises

  -- an index and its upper bound, and both bounds
  record Bounded (n : ℕ) (P : Path) (a b : ℕ) (lo hi : ℤ) : Type 0 where
    pub number : ℕ
    pub path : Trail
    pub on : IsOnBy fs number path n
    pub outer : P ≡ Of path
    pub known : AllAmong fs (On path n ∷ Has path a (Int lo) ∷ Has path b (Int hi) ∷ [])

  bounded : (n w x a b l : ℕ) (P : Path) (lo hi : ℤ) → ForStands S.checked n w x a b l
      → Rounds S k (fact.On P (place S.checked n)) → Rounds S k (fact.Has P (place S.checked a) (value.Int lo))
      → Rounds S k (fact.Has P (place S.checked b) (value.Int hi)) → Bounded n P a b lo hi
  bounded n w x a b l P lo hi st on under above =
      let y = known-on S k fs s n P (loop-thing n st.head w l st.loop) on in
      let o = on-by y.0 n y.2 in
      let i = there S k fs s (On y.0 n) y.2 in
      let z = number-at S k fs s y.0 a P lo i (lower-thing n w x a b l st) y.1 under in
      let u = number-at S k fs s y.0 b P hi i (upper-thing n w x a b l st) y.1 above in
      record { number = o.0; path = y.0; on = o.1; outer = y.1; known = (y.2, (z, (u, tt))) }

  record Counted (n : ℕ) (P : Path) (j x b : ℕ) (y hi : ℤ) : Type 0 where
    pub number : ℕ
    pub path : Trail
    pub on : IsOnBy fs number path n
    pub outer : P ≡ Of path
    pub known : AllAmong fs (Has (Below number j) x (Int y) ∷ Has path b (Int hi) ∷ [])

  counted : (n w x a b l j : ℕ) (P : Path) (y hi : ℤ) → ForStands S.checked n w x a b l
      → Rounds S k (fact.Has (below P (place S.checked n) j) (place S.checked x) (value.Int y))
      → Rounds S k (fact.Has P (place S.checked b) (value.Int hi)) → Counted n P j x b y hi
  counted n w x a b l j P y hi st index above =
      let r = in-iteration P n j x (value.Int y) (loop-thing n st.head w l st.loop)
      (node-thing S x (node.Index st.name) st.index refl) index in
      let F : RowValue → Type 0 = λ v. Among (Has (Below r.number j) x v) fs in
      let G : RowFact → Type 0 = λ f. Among f fs in
      let on = subst G r.on.fact (among-at fs r.number r.on.within) in
      let u = number-at S k fs s r.path b P hi (there S k fs s (On r.path n) on) (upper-thing n w x a b l st) r.outer
      above in
      record {
        number = r.number;
        path = r.path;
        on = r.on;
        outer = r.outer;
        known = (subst F (value-number S fs r.value y r.is_value) r.known, (u, tt));
      }

  goes-rises : (n h w l j : ℕ) (P : Path) (b : Truth) {ps : List Fact} → Stands S.checked n (node.Loop h w l)
      → GoesOn S n w P j b ps → Every (Rounds S k) ps → GoesBy n w P j b
  goes-rises n h w l j P b st (rule.by_predicate {h = g} {t = t} {l = d} i ls) f =
      let x = truth-within P n i t b (loop-thing n h w l st) (test-thing S n g w t d ls) f.0 in
      record {
        number = x.number;
        path = x.path;
        on = x.on;
        outer = x.outer;
        premises = Has (Below x.number i) t (Bool b) ∷ [];
        goes = row.by_predicate i ls;
        known = (x.known, tt);
      }
  goes-rises n h w l j P b st (rule.by_bounds {x = x} {a = a} {b = c} {l = d} {lo = lo} {hi = hi} s e) f =
      let y = bounded n w x a c d P lo hi s f.0 f.1.0 f.1.1.0 in
      record {
        number = y.number;
        path = y.path;
        on = y.on;
        outer = y.outer;
        premises = On y.path n ∷ Has y.path a (Int lo) ∷ Has y.path c (Int hi) ∷ [];
        goes = row.by_bounds s e;
        known = y.known;
      }
  goes-rises n h w l j P b st (rule.by_index {x = x} {a = a} {b = c} {l = d} {i = v} {hi = hi} i s e) f =
      let y = counted n w x a c d i P v hi s f.0 f.1.0 in
      let q : i + 1 ≡ suc i = omega arith in
      let ps = Has (Below y.number i) x (Int v) ∷ Has y.path c (Int hi) ∷ [] in
      let F : ℕ → Type 0 = λ m. RowGoesOn S n w y.path y.number m b ps in
      record {
        number = y.number;
        path = y.path;
        on = y.on;
        outer = y.outer;
        premises = ps;
        goes = subst F q (row.by_index i s e);
        known = y.known;
      }

  body-rises : (n h w l j a : ℕ) (P : Path) {ps : List Fact} → Stands S.checked n (node.Loop h w l)
      → GoesOn S n w P j true ps → BodyTurns (rows S.checked) w a → Every (Rounds S k) ps
      → Rises (fact.On (below P (place S.checked n) j) (place S.checked a))
  body-rises n h w l j a P st go b f =
      let x = goes-rises n h w l j P true st go f in
      record {
        premises = x.premises;
        given = On (Below x.number j) a;
        rule = row.runs j st x.on x.goes b;
        known = x.known;
        is = ap (λ q. fact.On q (place S.checked a)) (below-by x.number j n x.path P x.on x.outer);
      }

  -- a store's parts
  store-on : (m t i x a : ℕ) (P : Path) (st : StoreStands S.checked m t i x) → Turns (rows S.checked) m a
      → Rounds S k (fact.On P (place S.checked m)) → Rises (fact.On P (place S.checked a))
  store-on m t i x a P st u h = on-rises m a P (node.Store st.address x) st.store refl refl u h

  pub complete : {ps : List Fact} {f : Fact} → Rule S ps f → Every (Rounds S k) ps → Rises f
  complete rule.main_on h =
      record { premises = []; given = On Outermost (main_body S.checked); rule = row.main; known = tt; is = refl }
  complete (rule.param_has {b = b} {c = c} i) h = record {
    premises = [];
    given = Has Outermost b (row_value c);
    rule = row.input i;
    known = tt;
    is = ap (λ v. fact.Has (Of Outermost) (place S.checked b) v) (sym (value-row S fs c));
  }
  complete (rule.literal_has {n = n} {c = c} {p = p} st) h =
      let x = known-on S k fs s n p (node-thing S n (node.Literal c) st refl) h.0 in
      record {
        premises = On x.0 n ∷ [];
        given = Has x.0 n (row_value c);
        rule = row.literal st;
        known = (x.2, tt);
        is = ap (λ q. fact.Has q (place S.checked n) (value_of c)) x.1
            ∙ ap (λ v. fact.Has (Of x.0) (place S.checked n) v) (sym (value-row S fs c));
      }
  complete (rule.operand_on {n = n} {a = a} {o = o} {p = p} st) h =
      on-rises n a p (node.Unary o a) st refl refl (operand st.node) h.0
  complete (rule.left_on {n = n} {a = a} {b = b} {o = o} {p = p} st) h =
      on-rises n a p (node.Binary o a b) st refl refl (left st.node) h.0
  complete (rule.right_on {n = n} {a = a} {b = b} {o = o} {p = p} st) h =
      on-rises n b p (node.Binary o a b) st refl refl (right st.node) h.0
  complete (rule.unary_has {n = n} {a = a} {o = o} {p = p} {x = x} c st e) h =
      let y = known-on S k fs s n p (node-thing S n (node.Unary o a) st refl) h.0 in
      let z = constant-at S k fs s y.0 a p c (there S k fs s (On y.0 n) y.2) (part-thing S n a (node.Unary o a) st refl)
      y.1 h.1.0 in
      record {
        premises = On y.0 n ∷ Has y.0 a (row_value c) ∷ [];
        given = Has y.0 n (row_value x);
        rule = row.unary c st e;
        known = (y.2, (z, tt));
        is = ap (λ q. fact.Has q (place S.checked n) (value_of x)) y.1
            ∙ ap (λ v. fact.Has (Of y.0) (place S.checked n) v) (sym (value-row S fs x));
      }
  complete (rule.binary_has {n = n} {a = a} {b = b} {o = o} {p = p} {x = x} c d st e) h =
      let y = known-on S k fs s n p (node-thing S n (node.Binary o a b) st refl) h.0 in
      let i = there S k fs s (On y.0 n) y.2 in
      let z = constant-at S k fs s y.0 a p c i (part-thing S n a (node.Binary o a b) st (inl refl)) y.1 h.1.0 in
      let w = constant-at S k fs s y.0 b p d i (part-thing S n b (node.Binary o a b) st (inr refl)) y.1 h.1.1.0 in
      record {
        premises = On y.0 n ∷ Has y.0 a (row_value c) ∷ Has y.0 b (row_value d) ∷ [];
        given = Has y.0 n (row_value x);
        rule = row.binary c d st e;
        known = (y.2, (z, (w, tt)));
        is = ap (λ q. fact.Has q (place S.checked n) (value_of x)) y.1
            ∙ ap (λ v. fact.Has (Of y.0) (place S.checked n) v) (sym (value-row S fs x));
      }
  complete (rule.name_has {n = n} {x = x} {b = b} {p = p} {v = v} st e) h =
      let y = known-on S k fs s n p (node-thing S n (node.Name x) st refl) h.0 in
      let q = binder_of S.checked n x b st e in
      let t : IsThing S b = record { within = q.0; thing = thing-binder (at (rows S.checked) b).node q.1 } in
      let z = look-known y.0 n b p v t st.within y.2 y.1 h.1.0 in
      record {
        premises = On y.0 n ∷ Has (out_of fs (far_from S.checked n (Some b)) y.0) b z.0 ∷ [];
        given = Has y.0 n z.0;
        rule = row.name st e;
        known = (y.2, (z.2, tt));
        is = ap (λ r. fact.Has r (place S.checked n) v) y.1 ∙ ap (λ w. fact.Has (Of y.0) (place S.checked n) w) z.1;
      }
  complete (rule.test_on {n = n} {t = t} {p = p} c) h =
      let i = choice c in
      on-rises n t p (node.If i.split i.then i.otherwise) i.stands refl refl (test i.stands.node i.splits.node) h.0
  complete (rule.arm_on {n = n} {t = t} {a = a} {b = b} {p = p} c) h =
      let i = choice c in
      let y = known-on S k fs s n p (node-thing S n (node.If i.split i.then i.otherwise) i.stands refl) h.0 in
      let z = constant-at S k fs s y.0 t p (constant.Bool b) (there S k fs s (On y.0 n) y.2)
      (part-thing S i.split t (node.Split t) i.splits refl) y.1 h.1.0 in
      record {
        premises = On y.0 n ∷ Has y.0 t (Bool b) ∷ [];
        given = On y.0 (arm_of b i.then i.otherwise);
        rule = row.arm b i.stands i.splits;
        known = (y.2, (z, tt));
        is = ap (λ r. fact.On r (place S.checked a)) y.1 ∙ ap (λ r. fact.On (Of y.0) (place S.checked r)) (sym i.arm);
      }
  complete (rule.conditional_has {n = n} {t = t} {a = a} {b = b} {p = p} {v = v} c) h =
      let i = choice c in
      let z = node.If i.split i.then i.otherwise in
      let y = known-on S k fs s n p (node-thing S n z i.stands refl) h.0 in
      let d = there S k fs s (On y.0 n) y.2 in
      let w = constant-at S k fs s y.0 t p (constant.Bool b) d (part-thing S i.split t (node.Split t) i.splits refl) y.1
      h.1.0 in
      let u = has-at S k fs s y.0 a p v d (part-thing S n a z i.stands (arm-part b i.then i.otherwise a i.arm)) y.1
      h.1.1.0 in
      let F : ℕ → Type 0 = λ r. Among (Has y.0 r u.0) fs in
      record {
        premises = On y.0 n ∷ Has y.0 t (Bool b) ∷ Has y.0 (arm_of b i.then i.otherwise) u.0 ∷ [];
        given = Has y.0 n u.0;
        rule = row.conditional b i.stands i.splits;
        known = (y.2, (w, (subst F (sym i.arm) u.2, tt)));
        is = ap (λ r. fact.Has r (place S.checked n) v) y.1 ∙ ap (λ x. fact.Has (Of y.0) (place S.checked n) x) u.1;
      }
    where
      arm-part : (b : Truth) (x y a : ℕ) → arm_of b x y ≡ a → (a ≡ x) ⊎ (a ≡ y)
      arm-part true x y a e = inl (sym e)
      arm-part false x y a e = inr (sym e)
  complete (rule.argument_on {n = n} {e = e} {c = c} {m = m} {k = j} {v = a} {p = p} st t) h =
      let y = known-on S k fs s n p (node-thing S n (node.Call e c) st refl) h.0 in
      record {
        premises = On y.0 n ∷ [];
        given = On y.0 a;
        rule = row.asks_argument st t;
        known = (y.2, tt);
        is = ap (λ q. fact.On q (place S.checked a)) y.1;
      }
  complete (rule.callee_on {n = n} {e = e} {c = c} {b = b} {p = p} st bd df) h =
      let y = known-on S k fs s n p (node-thing S n (node.Call e c) st refl) h.0 in
      let o = on-by y.0 n y.2 in
      record {
        premises = On y.0 n ∷ [];
        given = On (Below o.0 0) b;
        rule = row.begins st bd df o.1;
        known = (y.2, tt);
        is = ap (λ q. fact.On q (place S.checked b)) (below-by o.0 0 n y.0 p o.1 y.1);
      }
  complete (rule.argument_has {n = n} {e = e} {c = c} {m = m} {i = j} {v = a} {q = q} {p = p} {u = u} st t bd df par)
      h =
      let y = known-on S k fs s n p (node-thing S n (node.Call e c) st refl) h.0 in
      let o = on-by y.0 n y.2 in
      let z = has-at S k fs s y.0 a p u (there S k fs s (On y.0 n) y.2) (part-thing S m a (node.Arg e j a) t refl) y.1
      h.1.0 in
      record {
        premises = On y.0 n ∷ Has y.0 a z.0 ∷ [];
        given = Has (Below o.0 0) q z.0;
        rule = row.passes st t bd df par o.1;
        known = (y.2, (z.2, tt));
        is = ap (λ r. fact.Has r (place S.checked q) u) (below-by o.0 0 n y.0 p o.1 y.1)
            ∙ ap (λ w. fact.Has (Of (Below o.0 0)) (place S.checked q) w) z.1;
      }
  complete (rule.call_has {n = n} {e = e} {c = c} {d = d} {x = x} {h = g} {b = b} {k = j} {p = p} {u = u} st bd df) h =
      let y = known-on S k fs s n p (node-thing S n (node.Call e c) st refl) h.0 in
      let o = on-by y.0 n y.2 in
      let z =
      has-at S k fs s (Below o.0 0) b (below p (place S.checked n) 0) u (there-below o.0 0 n y.0 o.1)
      (part-thing S d b (node.Def x g j b) df refl)
      (below-by o.0 0 n y.0 p o.1 y.1) h.1.0 in
      record {
        premises = On y.0 n ∷ Has (Below o.0 0) b z.0 ∷ [];
        given = Has y.0 n z.0;
        rule = row.ends st bd df o.1;
        known = (y.2, (z.2, tt));
        is = ap (λ r. fact.Has r (place S.checked n) u) y.1 ∙ ap (λ w. fact.Has (Of y.0) (place S.checked n) w) z.1;
      }
  complete (rule.loop_test_on {n = n} {h = g} {w = w} {t = t} {l = l} {p = p} st) h =
      let y = known-on S k fs s n p (loop-thing n g w l st.loop) h.0 in
      let o = on-by y.0 n y.2 in
      record {
        premises = On y.0 n ∷ [];
        given = On (Below o.0 0) t;
        rule = row.starts st o.1;
        known = (y.2, tt);
        is = ap (λ q. fact.On q (place S.checked t)) (below-by o.0 0 n y.0 p o.1 y.1);
      }
  complete (rule.first_has {n = n} {h = g} {w = w} {l = l} {m = m} {o = x} {v = a} {c = c} {p = p} {u = u} st y e) h =
      let z = known-on S k fs s n p (loop-thing n g w l st) h.0 in
      let o = on-by z.0 n z.2 in
      let q = use_binder S.checked m g x a c y e in
      let i : IsThing S c = record { within = q.0; thing = thing-binder (at (rows S.checked) c).node q.1 } in
      let v = look-known z.0 n c p u i st.within z.2 z.1 h.1.0 in
      record {
        premises = On z.0 n ∷ Has (out_of fs (far_from S.checked n (Some c)) z.0) c v.0 ∷ [];
        given = Has (Below o.0 0) m v.0;
        rule = row.enters st y e o.1;
        known = (z.2, (v.2, tt));
        is = ap (λ r. fact.Has r (place S.checked m) u) (below-by o.0 0 n z.0 p o.1 z.1)
            ∙ ap (λ b. fact.Has (Of (Below o.0 0)) (place S.checked m) b) v.1;
      }
  complete (rule.lower_on {n = n} {w = w} {x = x} {a = a} {b = b} {l = l} {p = p} s) h =
      on-rises n a p (node.Loop s.head w l) s.loop refl refl (index_low s.loop.node s.bounds.node) h.0
  complete (rule.upper_on {n = n} {w = w} {x = x} {a = a} {b = b} {l = l} {p = p} s) h =
      on-rises n b p (node.Loop s.head w l) s.loop refl refl (index_high s.loop.node s.bounds.node) h.0
  complete (rule.index_begins {n = n} {w = w} {x = x} {a = a} {b = b} {l = l} {p = p} {lo = lo} {hi = hi} s e) h =
      let y = bounded n w x a b l p lo hi s h.0 h.1.0 h.1.1.0 in
      record {
        premises = On y.path n ∷ Has y.path a (Int lo) ∷ Has y.path b (Int hi) ∷ [];
        given = Has (Below y.number 0) x (Int lo);
        rule = row.counts_first s y.on e;
        known = y.known;
        is = ap (λ q. fact.Has q (place S.checked x) (value.Int lo)) (below-by y.number 0 n y.path p y.on y.outer);
      }
  complete (rule.index_counts {n = n} {w = w} {x = x} {a = a} {b = b} {l = l} {i = v} {hi = hi} p j s e) h =
      let y = counted n w x a b l j p v hi s h.0 h.1.0 in
      let q : suc j ≡ j + 1 = omega arith in
      record {
        premises = Has (Below y.number j) x (Int v) ∷ Has y.path b (Int hi) ∷ [];
        given = Has (Below y.number (j + 1)) x (Int (v +ℤ pos 1));
        rule = row.counts_on j s y.on e;
        known = y.known;
        is = ap (λ i. fact.Has (below p (place S.checked n) i) (place S.checked x) (value.Int (v +ℤ pos 1))) q
            ∙ ap (λ r. fact.Has r (place S.checked x) (value.Int (v +ℤ pos 1)))
            (below-by y.number (j + 1) n y.path p y.on y.outer);
      }
  complete (rule.turn_on {n = n} {h = g} {w = w} {t = t} {l = l} p j st) h =
      let x = truth-within p n j t true (loop-thing n g w l st.loop) (test-thing S n g w t l st) h.0 in
      let e : suc j ≡ j + 1 = omega arith in
      record {
        premises = Has (Below x.number j) t (Bool true) ∷ [];
        given = On (Below x.number (j + 1)) t;
        rule = row.again j st x.on;
        known = (x.known, tt);
        is = ap (λ i. fact.On (below p (place S.checked n) i) (place S.checked t)) e
            ∙ ap (λ q. fact.On q (place S.checked t)) (below-by x.number (j + 1) n x.path p x.on x.outer);
      }
  complete (rule.loop_statement_on {n = n} {h = g} {w = w} {l = l} {m = m} {a = a} p j st go b) h =
      body-rises n g w l j a p st go (of_binding b.ends.within b.ends.node b.side b.statement b.binding.node) h
  complete (rule.loop_store_on {n = n} {h = g} {w = w} {l = l} {m = m} p j st go b) h =
      body-rises n g w l j m p st go (of_store b.ends.within b.ends.node b.side b.statement b.store.node) h
  complete (rule.next_on {n = n} {h = g} {w = w} {l = l} {m = m} {o = o} {v = v} p j st go x) h =
      body-rises n g w l j v p st go (of_next x.next.within x.next.node (next-region S.checked n g w l m o v st x)) h
  complete (rule.next_has {n = n} {h = g} {w = w} {l = l} {m = m} {o = o} {v = v} {u = u} p j st y) h =
      let x = in-iteration p n j v u (loop-thing n g w l st)
      (part-thing S m v (node.Next y.name y.index o v) y.next refl) h.0 in
      let e : suc j ≡ j + 1 = omega arith in
      record {
        premises = Has (Below x.number j) v x.value ∷ [];
        given = Has (Below x.number (j + 1)) m x.value;
        rule = row.hands j st y x.on;
        known = (x.known, tt);
        is = ap (λ i. fact.Has (below p (place S.checked n) i) (place S.checked m) u) e
            ∙ ap (λ q. fact.Has q (place S.checked m) u) (below-by x.number (j + 1) n x.path p x.on x.outer)
            ∙ ap (λ b. fact.Has (Of (Below x.number (j + 1))) (place S.checked m) b) x.is_value;
      }
  complete (rule.last_on {n = n} {h = g} {w = w} {l = l} p j st go) h =
      let x = goes-rises n g w l j p false st go h in
      record {
        premises = x.premises;
        given = On (Below x.number j) l;
        rule = row.leaves j st x.on x.goes;
        known = x.known;
        is = ap (λ q. fact.On q (place S.checked l)) (below-by x.number j n x.path p x.on x.outer);
      }
  complete (rule.loop_has {n = n} {h = g} {w = w} {l = l} {u = u} p j st) h =
      let x = in-iteration p n j l u (loop-thing n g w l st) (part-thing S n l (node.Loop g w l) st refl) h.0 in
      record {
        premises = Has (Below x.number j) l x.value ∷ [];
        given = Has x.path n x.value;
        rule = row.leads_out j st x.on;
        known = (x.known, tt);
        is = ap (λ q. fact.Has q (place S.checked n) u) x.outer
            ∙ ap (λ b. fact.Has (Of x.path) (place S.checked n) b) x.is_value;
      }
  complete (rule.statement_on {n = n} {m = m} {x = x} {a = a} {b = b} {p = p} st i tb) h =
      on-rises n a p (node.Block b) st refl refl (statement st.node i tb.node) h.0
  complete (rule.store_on {n = n} {m = m} {a = a} {x = x} {b = b} {p = p} st i tb) h =
      on-rises n m p (node.Block b) st refl refl (stored st.node i tb.node) h.0
  complete (rule.body_on {n = n} {b = b} {p = p} st) h = on-rises n b p (node.Block b) st refl refl (body st.node) h.0
  complete (rule.block_has {n = n} {b = b} {p = p} {v = v} st) h =
      let y = known-on S k fs s n p (node-thing S n (node.Block b) st refl) h.0 in
      let z = has-at S k fs s y.0 b p v (there S k fs s (On y.0 n) y.2) (part-thing S n b (node.Block b) st refl) y.1
      h.1.0 in
      record {
        premises = On y.0 n ∷ Has y.0 b z.0 ∷ [];
        given = Has y.0 n z.0;
        rule = row.block st;
        known = (y.2, (z.2, tt));
        is = ap (λ r. fact.Has r (place S.checked n) v) y.1 ∙ ap (λ w. fact.Has (Of y.0) (place S.checked n) w) z.1;
      }
  complete (rule.binding_has {n = n} {x = x} {a = a} {p = p} {v = v} st) h =
      let z = known-has S k fs s a p v (part-thing S n a (node.Binding x a) st refl) h.0 in
      record {
        premises = Has z.path a z.value ∷ [];
        given = Has z.path n z.value;
        rule = row.binding st;
        known = (z.known, tt);
        is = ap (λ r. fact.Has r (place S.checked n) v) z.is_path
            ∙ ap (λ w. fact.Has (Of z.path) (place S.checked n) w) z.is_value;
      }
  complete (rule.bounds_low_on {n = n} {a = a} {b = b} {nested = nested} {p = p} st) h =
      on-rises n a p (node.Array nested a b) st refl refl (low st.node) h.0
  complete (rule.bounds_high_on {n = n} {a = a} {b = b} {nested = nested} {p = p} st) h =
      on-rises n b p (node.Array nested a b) st refl refl (high st.node) h.0
  complete (rule.shape_made {n = n} {a = a} {b = b} {nested = nested} {p = p} {lo = lo} {hi = hi} st e) h =
      let y = known-on S k fs s n p (node-thing S n (node.Array nested a b) st refl) h.0 in
      let o = on-by y.0 n y.2 in
      let i = there S k fs s (On y.0 n) y.2 in
      let z = number-at S k fs s y.0 a p lo i (part-thing S n a (node.Array nested a b) st (inl refl)) y.1 h.1.0 in
      let w = number-at S k fs s y.0 b p hi i (part-thing S n b (node.Array nested a b) st (inr refl)) y.1 h.1.1.0 in
      record {
        premises = On y.0 n ∷ Has y.0 a (Int lo) ∷ Has y.0 b (Int hi) ∷ [];
        given = Shape o.0 lo hi;
        rule = row.made_shape st o.1 e;
        known = (y.2, (z, (w, tt)));
        is = ap (λ q. shape (site q (place S.checked n)) lo hi) y.1 ∙ ap (λ x. shape x lo hi) (called o.0 n y.0 o.1);
      }
    where
      called : (i n : ℕ) (q : Trail) → IsOnBy fs i q n → site (Of q) (place S.checked n) ≡ Called i
      called i n q b = sym (ap (λ g. site (Of (path_of g)) (place S.checked (row_of g))) b.fact)
  complete (rule.array_has {n = n} {a = a} {b = b} {nested = nested} {p = p} {lo = lo} {hi = hi} st e) h =
      let y = known-on S k fs s n p (node-thing S n (node.Array nested a b) st refl) h.0 in
      let o = on-by y.0 n y.2 in
      let i = there S k fs s (On y.0 n) y.2 in
      let z = number-at S k fs s y.0 a p lo i (part-thing S n a (node.Array nested a b) st (inl refl)) y.1 h.1.0 in
      let w = number-at S k fs s y.0 b p hi i (part-thing S n b (node.Array nested a b) st (inr refl)) y.1 h.1.1.0 in
      record {
        premises = On y.0 n ∷ Has y.0 a (Int lo) ∷ Has y.0 b (Int hi) ∷ [];
        given = Has y.0 n (Name o.0);
        rule = row.made_name st o.1 e;
        known = (y.2, (z, (w, tt)));
        is = ap (λ q. fact.Has q (place S.checked n) (value.Name (site q (place S.checked n)))) y.1
            ∙ ap (λ x. fact.Has (Of y.0) (place S.checked n) (value.Name x)) (called o.0 n y.0 o.1);
      }
    where
      called : (i n : ℕ) (q : Trail) → IsOnBy fs i q n → site (Of q) (place S.checked n) ≡ Called i
      called i n q b = sym (ap (λ g. site (Of (path_of g)) (place S.checked (row_of g))) b.fact)
  complete (rule.fetch_target_on {n = n} {t = t} {i = i} {p = p} st) h =
      on-rises n t p (node.Fetch t i) st refl refl (fetched st.node) h.0
  complete (rule.fetch_index_on {n = n} {t = t} {i = i} {p = p} st) h =
      on-rises n i p (node.Fetch t i) st refl refl (fetch_index st.node) h.0
  complete (rule.asks {n = n} {t = t} {i = i} {p = p} {s = x} {j = j} {lo = lo} {hi = hi} st e) h =
      let y = known-on S k fs s n p (node-thing S n (node.Fetch t i) st refl) h.0 in
      let d = there S k fs s (On y.0 n) y.2 in
      let z = name-at S k fs s y.0 t p x d (part-thing S n t (node.Fetch t i) st (inl refl)) y.1 h.1.0 in
      let w = number-at S k fs s y.0 i p j d (part-thing S n i (node.Fetch t i) st (inr refl)) y.1 h.1.1.0 in
      let g = shape-of S k fs s z.0 x lo hi (s.found.arrays (Has y.0 t (Name z.0)) z.2) z.1 h.1.1.1.0 in
      record {
        premises = On y.0 n ∷ Has y.0 t (Name z.0) ∷ Has y.0 i (Int j) ∷ Shape z.0 lo hi ∷ [];
        given = Ask y.0 n z.0 j;
        rule = row.asked st e;
        known = (y.2, (z.2, (w, (g, tt))));
        is = ap (λ q. ask (site q (place S.checked n)) x j) y.1
            ∙ ap (λ q. ask (site (Of y.0) (place S.checked n)) q j) z.1;
      }
  complete (rule.fetch_has {f = f} {s = x} {a = a} {j = j} {v = v}) h =
      let y = known-ask S k fs s f x j h.0 in
      let z = known-put S k fs s x j v a h.1.0 in
      let same =
      name-once S fs s.found z.name y.name (s.found.arrays (Put z.path z.row z.name j z.value) z.known).0
      (s.found.arrays (Ask y.path y.row y.name j) y.known)
      (sym z.is_name ∙ y.is_name) in
      let F : ℕ → Type 0 = λ i. Among (Put z.path z.row i j z.value) fs in
      record {
        premises = Ask y.path y.row y.name j ∷ Put z.path z.row y.name j z.value ∷ [];
        given = Has y.path y.row z.value;
        rule = row.answered;
        known = (y.known, (subst F same z.known, tt));
        is = ap (λ b. fact.Has b.path b.place v) y.is_fetch
            ∙ ap (λ w. fact.Has (Of y.path) (place S.checked y.row) w) z.is_value;
      }
  complete (rule.store_target_on {m = m} {t = t} {i = i} {x = x} {p = p} st) h =
      store-on m t i x t p st (address_target st.store.node st.parts.node) h.0
  complete (rule.store_index_on {m = m} {t = t} {i = i} {x = x} {p = p} st) h =
      store-on m t i x i p st (address_index st.store.node st.parts.node) h.0
  complete (rule.store_value_on {m = m} {t = t} {i = i} {x = x} {p = p} st) h =
      store-on m t i x x p st (stored_value st.store.node) h.0
  complete (rule.puts {m = m} {t = t} {i = i} {x = x} {p = p} {s = y} {j = j} {lo = lo} {hi = hi} {v = v} st e) h =
      let z = known-on S k fs s m p (node-thing S m (node.Store st.address x) st.store refl) h.0 in
      let d = there S k fs s (On z.0 m) z.2 in
      let a = name-at S k fs s z.0 t p y d (part-thing S st.address t (node.Address t i) st.parts (inl refl)) z.1
      h.1.0 in
      let b = number-at S k fs s z.0 i p j d (part-thing S st.address i (node.Address t i) st.parts (inr refl)) z.1
      h.1.1.0 in
      let c = has-at S k fs s z.0 x p v d (part-thing S m x (node.Store st.address x) st.store refl) z.1 h.1.1.1.0 in
      let g = shape-of S k fs s a.0 y lo hi (s.found.arrays (Has z.0 t (Name a.0)) a.2) a.1 h.1.1.1.1.0 in
      record {
        premises = On z.0 m ∷ Has z.0 t (Name a.0) ∷ Has z.0 i (Int j) ∷ Has z.0 x c.0 ∷ Shape a.0 lo hi ∷ [];
        given = Put z.0 m a.0 j c.0;
        rule = row.put_there st e;
        known = (z.2, (a.2, (b, (c.2, (g, tt)))));
        is = ap (λ q. put y j v (site q (place S.checked m))) z.1
            ∙ ap (λ q. put q j v (site (Of z.0) (place S.checked m))) a.1
            ∙ ap (λ w. put (Called a.0) j w (site (Of z.0) (place S.checked m))) c.1;
      }
