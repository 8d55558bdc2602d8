-- What follows at names and calls, by each premise of its rule.
use Rattle.std.proofs.Common.{◌≡◌, inl, inr, ℕ, ◌<◌, Bool as Truth, true, ◌&&◌, nat_eq, Option, Some, List, [], ◌∷◌}
use Rattle.std.proofs.Common.{◌++◌, length}
use Rattle.std.proofs.Common.{if◌then◌else◌, refl, ap, sym, ◌∙◌, subst}
use Rattle.std.specs.Prelude.{slice_get}
use Rattle.std.proofs.lemmas.Bool.{eq-eqb}
use Rattle.id_value.specs.List.{Among}
use Rattle.id_value.proofs.AmongLemmas.{Among-left, Among-right}
use Rattle.id_value.specs.declared.Kind.{Kind}
use Rattle.id_table.specs.declared.row.Node.{Node}
use Rattle.id_table.specs.declared.row.Node.TheVariants as node
use Rattle.id_table.specs.Rows.{at}
use Rattle.id_table.specs.Turns.{params_at}
use Rattle.id_check.specs.Programs.{Stands, binder, rows}
use Rattle.id_check.proofs.ProgramsLemmas.{callee_row}
use Rattle.id_meaning.specs.declared.calls.OnCall.{OnCall}
use Rattle.id_facts.specs.declared.cells.Cells.{Cells}
use Rattle.id_facts.specs.declared.facts.RowFact.{RowFact}
use Rattle.id_facts.specs.declared.facts.RowFact.TheVariants.{On, Has}
use Rattle.id_facts.specs.declared.facts.RowValue.{RowValue}
use Rattle.id_facts.specs.declared.facts.Trail.{Trail}
use Rattle.id_facts.specs.declared.facts.Trail.TheVariants.{Below}
use Rattle.id_source.specs.declared.links.Links.{Links}
use Rattle.id_facts.specs.declared.queues.Queues.{Queues}
use Rattle.id_facts.specs.declared.queues.Wait.{Wait}
use Rattle.id_source.specs.Sources.{Source}
use Rattle.id_source.specs.Links.{AreArgs, AreReads, AreTurns, Leads, awaited, awaited_of, far_from, targets, users_of}
use Rattle.id_facts.specs.Cells.{AreChained, find, items, out_of, values}
use Rattle.id_facts.specs.RowFacts.{same_trail}
use Rattle.id_meaning.specs.Effects.{all_passed, all_passes, call_by, callee_by, callee_of, effects, entered}
use Rattle.id_meaning.specs.Effects.{entered_by, entered_of, exit_by}
use Rattle.id_meaning.specs.Given.{from_found}
use Rattle.id_meaning.specs.Effects.{body_in, index_woken, is_awaited_by, is_end, is_row, param_haves, param_row}
use Rattle.id_meaning.specs.Effects.{pass_by, passed_of, woken_by}
use Rattle.id_meaning.specs.Given.{given_of, seen}
use Rattle.id_facts.specs.Firsts.{haves}
use Rattle.id_facts.specs.Listed.{AreFound}
use Rattle.id_facts.specs.Waits.{AreWaits, by_on}
use Rattle.id_meaning.proofs.ArgumentsLemmas.{get-param_row}
use Rattle.id_facts.proofs.LookupLemmas.{find-all, find-true, values-all}
use Rattle.id_facts.proofs.OneLemmas.{trail-itself}
use Rattle.id_meaning.proofs.PartsFollowLemmas.{asker, found-by, from-call, from-exit, from-given, from-pass}
use Rattle.id_meaning.proofs.PartsFollowLemmas.{from-woken, haves-all, reader, when-same}
use Rattle.id_meaning.proofs.RulesLemmas.{AllAmong, part-within}
use Rattle.id_facts.proofs.FactsLemmas.{IsOnBy}

-- who waits for a binder looks for it at its path
pub awaited-is : (b : ℕ) (p : Trail) → nat_eq b b && same_trail p p ≡ true
awaited-is b p = ap (λ t. t && same_trail p p) (eq-eqb b b refl) ∙ trail-itself p

module _ (S : Source) (l : Links) (W : Queues) (c : Cells) (chained : AreChained c) (found : AreFound S (items c))
    (turns : AreTurns (rows S.checked) l.turns)
    (reads : AreReads S.checked l.reads) (args : AreArgs S.checked l.args) (waits : AreWaits S.checked l (items c) W)
    (few : (i k n : ℕ) (v : RowValue) → Among (Has (Below i k) n v) (items c) → k < 18446744073709551615) where
  -- ---- names

  name-on : (p : Trail) (n x b : ℕ) (v : RowValue) → Stands S.checked n (node.Name x) → binder S.checked n ≡ Some b
      → Among (On p n) (items c) → Among (Has (out_of (items c) (far_from S.checked n (Some b)) p) b v) (items c)
      → Among (Has p n v) (effects S.checked l W c (On p n))
  name-on p n x b v st e on has =
      let g = On p n in
      let q = out_of (items c) (far_from S.checked n (Some b)) p in
      let r = find-all c chained p n on in
      let N : Node → Type 0 = λ z. Among (Has p n v) (given_of S.checked c g p n z) in
      let I : Option ℕ → Type 0 = λ o. Among (Has p n v) (from_found S.checked c g p n (node.Name x) o) in
      let B : Option ℕ → Type 0 =
      λ o. Among (Has p n v) (haves p n (seen c g (out_of (items c) (far_from S.checked n o) p) o)) in
      let there : Among (Has p n v) (haves p n (values c g q b)) =
      haves-all p n (values c g q b) v (values-all c chained g q b v refl has) in
      from-given S l W c p n (Has p n v) (subst N (sym st.node) (subst I (sym r.1) (subst B (sym e) there)))

  name-has : (p : Trail) (n x b : ℕ) (v : RowValue) → Stands S.checked n (node.Name x) → binder S.checked n ≡ Some b
      → Among (On p n) (items c)
      → Among (Has p n v) (effects S.checked l W c (Has (out_of (items c) (far_from S.checked n (Some b)) p) b v))
  name-has p n x b v st e on =
      let q = out_of (items c) (far_from S.checked n (Some b)) p in
      let w : Wait = record { path = p; row = n; user = n } in
      let r = find-all c chained p n on in
      let a : awaited S.checked n ≡ Some b = ap (λ z. awaited_of S.checked n z) st.node ∙ e in
      let U : Node → Type 0 = λ z. Among n (users_of l n z) in
      let z = (at (rows S.checked) n).node in
      let wakes = woken_by S.checked w v (find c p n) z z in
      let counts = index_woken S.checked l c (Has q b v) w v z in
      let A : Option ℕ → Type 0 =
      λ o. Among (Has p n v) (if is_awaited_by S.checked c q b w o then wakes ++ counts else []) in
      let T : Truth → Type 0 = λ t. Among (Has p n v) (if t then wakes ++ counts else []) in
      let I : Option ℕ → Type 0 =
      λ o. Among (Has p n v) (woken_by S.checked w v o (at (rows S.checked) n).node (at (rows S.checked) n).node) in
      let N : Node → Type 0 = λ z. Among (Has p n v) (woken_by S.checked w v (Some r.0) z z) in
      let here = subst I (sym r.1) (subst N (sym st.node) (when-same n (Has p n v) (Has p n v ∷ []) (inl refl))) in
      from-woken S l W c q b v (Has p n v) w
      (waits.all (On p n) p n n on (by_on (subst U (sym st.node) (inl refl))) b a)
      (subst A (sym a) (subst T (sym (awaited-is b q)) (Among-left (Has p n v) wakes counts here)))

  -- a name Has what its binder Has
  pub name-follows : {p : Trail} {n x b : ℕ} {v : RowValue} → Stands S.checked n (node.Name x)
      → binder S.checked n ≡ Some b
      → AllAmong (items c) (On p n ∷ Has (out_of (items c) (far_from S.checked n (Some b)) p) b v ∷ [])
      → (g : RowFact) → Among g (On p n ∷ Has (out_of (items c) (far_from S.checked n (Some b)) p) b v ∷ [])
      → Among (Has p n v) (effects S.checked l W c g)
  name-follows {p = p} {n = n} {x = x} {b = b} {v = v} st e h g k =
      let F : RowFact → Type 0 = λ f. Among (Has p n v) (effects S.checked l W c f) in
      elim k [
        | inl q ↦ subst F (sym q) (name-on p n x b v st e h.0 h.1.0)
        | inr j ↦ elim j [ inl q ↦ subst F (sym q) (name-has p n x b v st e h.0) | inr y ↦ absurd y ]
      ]

  -- ---- calls

  -- the call is the one that is On by the fact
  call-is : (p : Trail) (n e m d x h b i : ℕ) (k : Kind) → Stands S.checked n (node.Call e m)
      → binder S.checked e ≡ Some d → Stands S.checked d (node.Def x h k b) → IsOnBy (items c) i p n
      → entered S.checked c p n ≡ Some (record { enter = e; path = Below i 0; head = h; body = b })
  call-is p n e m d x h b i k st u df o =
      ap (λ z. entered_of S.checked c p n z) st.node
      ∙ ap (λ y. entered_by e y (callee_of S.checked e)) (found-by S c chained found o)
      ∙ ap (λ y. entered_by e (Some i) (callee_by S.checked y)) u ∙ ap (λ z. entered_by e (Some i) z) df.node

  -- what comes by it
  by-call : (p : Trail) (n e m d x h b i : ℕ) (k : Kind) (f : RowFact) → Stands S.checked n (node.Call e m)
      → binder S.checked e ≡ Some d → Stands S.checked d (node.Def x h k b) → IsOnBy (items c) i p n
      → Among f (call_by S.checked l c (On p n) p n (Some (record { enter = e; path = Below i 0; head = h; body = b })))
      → Among f (effects S.checked l W c (On p n))
  by-call p n e m d x h b i k f st u df o w =
      let F : Option OnCall → Type 0 = λ y. Among f (call_by S.checked l c (On p n) p n y) in
      from-call S l W c p n f (subst F (sym (call-is p n e m d x h b i k st u df o)) w)

  -- what comes by one of the arguments
  passed-all : (g : RowFact) (p : Trail) (k : OnCall) (f : RowFact) (m : ℕ) (z : Node) (ms : List ℕ)
      → Stands S.checked m z → Among m ms → Among f (passed_of S.checked c g p k z)
      → Among f (all_passed S.checked c g p k ms)
  passed-all g p k f m z [] st h w = absurd h
  passed-all g p k f m z (a ∷ ms) st (inl q) w =
      let F : Node → Type 0 = λ y. Among f (passed_of S.checked c g p k y) in
      Among-left f (passed_of S.checked c g p k (at (rows S.checked) a).node) (all_passed S.checked c g p k ms)
      (subst F (sym (ap (λ j. (at (rows S.checked) j).node) (sym q) ∙ st.node)) w)
  passed-all g p k f m z (a ∷ ms) st (inr h) w =
      Among-right f (passed_of S.checked c g p k (at (rows S.checked) a).node) (all_passed S.checked c g p k ms)
      (passed-all g p k f m z ms st h w)

  by-argument : (p : Trail) (n e a d x h b i m j v : ℕ) (k : Kind) (f : RowFact) → Stands S.checked n (node.Call e a)
      → binder S.checked e ≡ Some d → Stands S.checked d (node.Def x h k b) → IsOnBy (items c) i p n
      → Stands S.checked m (node.Arg e j v)
      → Among f (On p v ∷ param_haves (Below i 0) (param_row (length (rows S.checked)) h j) (values c (On p n) p v))
      → Among f (effects S.checked l W c (On p n))
  by-argument p n e a d x h b i m j v k f st u df o sm w =
      let g = On p n in
      let y : OnCall = record { enter = e; path = Below i 0; head = h; body = b } in
      let ms = targets l.args.rows.items e in
      let r : Leads l.args e m =
      asker S l W c args m e (node.Arg e j v) sm (part-within S m e (node.Arg e j v) sm (inl refl)) refl in
      by-call p n e a d x h b i k f st u df o
      (inr (Among-right f (haves p n (values c g (Below i 0) b)) (all_passed S.checked c g p y ms)
      (passed-all g p y f m (node.Arg e j v) ms sm r
      (when-same e f (On p v ∷ param_haves (Below i 0) (param_row (length (rows S.checked)) h j) (values c g p v)) w))))

  -- a call turns its arguments On
  pub asks_argument-follows : {p : Trail} {n e a m j v : ℕ} → Stands S.checked n (node.Call e a)
      → Stands S.checked m (node.Arg e j v) → AllAmong (items c) (On p n ∷ []) → (g : RowFact) → Among g (On p n ∷ [])
      → Among (On p v) (effects S.checked l W c g)
  asks_argument-follows {p = p} {n = n} {e = e} {a = a} {m = m} {j = j} {v = v} st sm h g k =
      let F : RowFact → Type 0 = λ f. Among (On p v) (effects S.checked l W c f) in
      let r = find-all c chained p n h.0 in
      let o = find-true c chained p n r.0 r.1 in
      let w = callee_row S.checked n e a st in
      let y = w.2 in
      elim k [
        | inl q ↦ subst F (sym q)
            (by-argument p n e a w.0 y.name w.1 y.body r.0 m j v y.result (On p v) st y.binder y.definition o sm
            (inl refl))
        | inr z ↦ absurd z
      ]

  -- and the body of its procedure
  pub begins-follows : {p : Trail} {n e a d x h b i : ℕ} {k : Kind} → Stands S.checked n (node.Call e a)
      → binder S.checked e ≡ Some d → Stands S.checked d (node.Def x h k b) → IsOnBy (items c) i p n
      → AllAmong (items c) (On p n ∷ []) → (g : RowFact) → Among g (On p n ∷ [])
      → Among (On (Below i 0) b) (effects S.checked l W c g)
  begins-follows {p = p} {n = n} {e = e} {a = a} {d = d} {x = x} {h = h} {b = b} {i = i} {k = k} st u df o known g w =
      let F : RowFact → Type 0 = λ f. Among (On (Below i 0) b) (effects S.checked l W c f) in
      elim w [
        | inl q ↦ subst F (sym q) (by-call p n e a d x h b i k (On (Below i 0) b) st u df o (inl refl))
        | inr z ↦ absurd z
      ]

  -- the parameter of an index, where there is one
  param-there : (h j q d x b i : ℕ) (k : Kind) (vs : List RowValue) (v : RowValue)
      → Stands S.checked d (node.Def x h k b) → slice_get (params_at (rows S.checked) h) j ≡ Some q → Among v vs
      → Among (Has (Below i 0) q v) (param_haves (Below i 0) (param_row (length (rows S.checked)) h j) vs)
  param-there h j q d x b i k vs v df e w =
      let F : Option ℕ → Type 0 = λ o. Among (Has (Below i 0) q v) (param_haves (Below i 0) o vs) in
      let r = get-param_row S.checked d h j q (record {
        name = x;
        result = k;
        body = b;
        within = df.within;
        node =
            df.node;
      }) e in
      subst F (sym r) (haves-all (Below i 0) q vs v w)

  passes-all : (p : Trail) (v : RowValue) (e j n : ℕ) (k : OnCall) (f : RowFact) (ns : List ℕ) → Among n ns
      → entered S.checked c p n ≡ Some k → Among f (pass_by S.checked e j v (Some k))
      → Among f (all_passes S.checked c p v e j ns)
  passes-all p v e j n k f [] h u w = absurd h
  passes-all p v e j n k f (a ∷ ns) (inl q) u w =
      let F : Option OnCall → Type 0 = λ o. Among f (pass_by S.checked e j v o) in
      Among-left f (pass_by S.checked e j v (entered S.checked c p a)) (all_passes S.checked c p v e j ns)
      (subst F (sym (ap (λ y. entered S.checked c p y) (sym q) ∙ u)) w)
  passes-all p v e j n k f (a ∷ ns) (inr h) u w =
      Among-right f (pass_by S.checked e j v (entered S.checked c p a)) (all_passes S.checked c p v e j ns)
      (passes-all p v e j n k f ns h u w)

  passes-has : (p : Trail) (n e m d x h b a j y q i : ℕ) (k : Kind) (v : RowValue) → Stands S.checked n (node.Call e m)
      → Stands S.checked a (node.Arg e j y) → binder S.checked e ≡ Some d → Stands S.checked d (node.Def x h k b)
      → slice_get (params_at (rows S.checked) h) j ≡ Some q → IsOnBy (items c) i p n
      → Among (Has (Below i 0) q v) (effects S.checked l W c (Has p y v))
  passes-has p n e m d x h b a j y q i k v st sa u df t o =
      let f = Has (Below i 0) q v in
      let z = node.Arg e j y in
      let ns = targets l.reads.rows.items e in
      let w : OnCall = record { enter = e; path = Below i 0; head = h; body = b } in
      let reads_y : Leads l.reads y a = reader S l W c reads a y z sa (part-within S a y z sa (inr refl)) (inl refl) in
      let reads_e : Leads l.reads e n =
      reader S l W c reads n e (node.Call e m) st (part-within S n e (node.Call e m) st refl) (inl refl) in
      let one = when-same e f (param_haves (Below i 0) (param_row (length (rows S.checked)) h j) (v ∷ []))
      (param-there h j q d x b i k (v ∷ []) v df t (inl refl)) in
      from-pass S l W c p y v f a z sa reads_y
      (when-same y f (all_passes S.checked c p v e j ns)
      (passes-all p v e j n w f ns reads_e (call-is p n e m d x h b i k st u df o) one))

  -- whose parameters Have what its arguments Have
  pub passes-follows : {p : Trail} {n e m d x h b a j y q i : ℕ} {k : Kind} {v : RowValue}
      → Stands S.checked n (node.Call e m) → Stands S.checked a (node.Arg e j y) → binder S.checked e ≡ Some d
      → Stands S.checked d (node.Def x h k b) → slice_get (params_at (rows S.checked) h) j ≡ Some q
      → IsOnBy (items c) i p n → AllAmong (items c) (On p n ∷ Has p y v ∷ []) → (g : RowFact)
      → Among g (On p n ∷ Has p y v ∷ []) → Among (Has (Below i 0) q v) (effects S.checked l W c g)
  passes-follows {p = p} {n = n} {e = e} {m = m} {d = d} {x = x} {h = h} {b = b} {a = a} {j = j} {y = y} {q = q} {i =
      i} {k = k} {v = v}
      st sa u df t o known g w =
      let F : RowFact → Type 0 = λ f. Among (Has (Below i 0) q v) (effects S.checked l W c f) in
      let vs = values c (On p n) p y in
      let on = by-argument p n e m d x h b i a j y k (Has (Below i 0) q v) st u df o sa
      (inr (param-there h j q d x b i k vs v df t (values-all c chained (On p n) p y v refl known.1.0))) in
      elim w [
        | inl r ↦ subst F (sym r) on
        | inr r ↦ elim r
            [ inl r ↦ subst F (sym r) (passes-has p n e m d x h b a j y q i k v st sa u df t o) | inr z ↦ absurd z ]
      ]

  -- ---- where a call ends

  end-is : (n e m d x h b : ℕ) (k : Kind) → Stands S.checked n (node.Call e m) → binder S.checked e ≡ Some d
      → Stands S.checked d (node.Def x h k b) → is_end S.checked (at (rows S.checked) n).node 0 b ≡ true
  end-is n e m d x h b k st u df =
      ap (λ z. is_end S.checked z 0 b) st.node ∙ ap (λ y. is_row (body_in (callee_by S.checked y)) b) u
      ∙ ap (λ z. is_row (body_in z) b) df.node
      ∙ eq-eqb b b refl

  ends-has : (p : Trail) (n e m d x h b i : ℕ) (k : Kind) (v : RowValue) → Stands S.checked n (node.Call e m)
      → binder S.checked e ≡ Some d → Stands S.checked d (node.Def x h k b) → IsOnBy (items c) i p n
      → Among (Has p n v) (effects S.checked l W c (Has (Below i 0) b v))
  ends-has p n e m d x h b i k v st u df o =
      let F : RowFact → Type 0 = λ f. Among (Has p n v) (exit_by S.checked 0 b v f) in
      let T : Truth → Type 0 = λ t. Among (Has p n v) (if t then Has p n v ∷ [] else []) in
      from-exit S l W c (Below i 0) b v (Has p n v)
      (subst F (sym o.fact) (subst T (sym (end-is n e m d x h b k st u df)) (inl refl)))

  -- it Has what the body Has
  pub ends-follows : {p : Trail} {n e m d x h b i : ℕ} {k : Kind} {v : RowValue} → Stands S.checked n (node.Call e m)
      → binder S.checked e ≡ Some d → Stands S.checked d (node.Def x h k b) → IsOnBy (items c) i p n
      → AllAmong (items c) (On p n ∷ Has (Below i 0) b v ∷ []) → (g : RowFact)
      → Among g (On p n ∷ Has (Below i 0) b v ∷ []) → Among (Has p n v) (effects S.checked l W c g)
  ends-follows {p = p} {n = n} {e = e} {m = m} {d = d} {x = x} {h = h} {b = b} {i = i} {k = k} {v =
      v} st u df o known g w =
      let F : RowFact → Type 0 = λ f. Among (Has p n v) (effects S.checked l W c f) in
      let y : OnCall = record { enter = e; path = Below i 0; head = h; body = b } in
      let vs = values c (On p n) (Below i 0) b in
      let on = by-call p n e m d x h b i k (Has p n v) st u df o
      (inr (Among-left (Has p n v) (haves p n vs) (all_passed S.checked c (On p n) p y (targets l.args.rows.items e))
      (haves-all p n vs v (values-all c chained (On p n) (Below i 0) b v refl known.1.0)))) in
      elim w [
        | inl r ↦ subst F (sym r) on
        | inr r ↦ elim r [ inl r ↦ subst F (sym r) (ends-has p n e m d x h b i k v st u df o) | inr z ↦ absurd z ]
      ]
