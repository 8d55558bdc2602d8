-- What follows at loops, by each premise of its rule.
use Rattle.std.proofs.Common.{◌≡◌, inl, inr, ℕ, ◌+◌, ◌<◌, Bool as Truth, true, false, nat_eq, Option, None, Some, List}
use Rattle.std.proofs.Common.{[], ◌∷◌, ◌++◌, ◌&&◌}
use Rattle.std.specs.Prelude.{ℤ, pos, ◌+ℤ◌, int_le, int_lt}
use Rattle.std.proofs.Common.{if◌then◌else◌, refl, ap, sym, ◌∙◌, subst, arith}
use Rattle.std.proofs.lemmas.Bool.{eq-eqb, lt-ltb}
use Rattle.id_value.specs.List.{Among}
use Rattle.id_value.proofs.AmongLemmas.{Among-left, Among-right}
use Rattle.id_table.specs.declared.row.Node.{Node}
use Rattle.id_table.specs.declared.row.Node.TheVariants as node
use Rattle.id_table.specs.Rows.{at}
use Rattle.id_table.specs.Tables.{is_switches, is_within}
use Rattle.id_table.specs.Loops.{bounds_row, index_row, lower_of, upper_of}
use Rattle.id_check.specs.Programs.{Stands, binder, rows}
use Rattle.id_facts.specs.declared.cells.Cells.{Cells}
use Rattle.id_facts.specs.declared.facts.RowFact.{RowFact}
use Rattle.id_facts.specs.declared.facts.RowFact.TheVariants.{On, Has}
use Rattle.id_facts.specs.declared.facts.RowValue.{RowValue}
use Rattle.id_facts.specs.declared.facts.RowValue.TheVariants.{Bool, Int}
use Rattle.id_facts.specs.declared.facts.Trail.{Trail}
use Rattle.id_facts.specs.declared.facts.Trail.TheVariants.{Below}
use Rattle.id_source.specs.declared.links.Links.{Links}
use Rattle.id_meaning.specs.declared.counts.Counting.{Counting}
use Rattle.id_meaning.specs.declared.loops.Iteration.{Iteration}
use Rattle.id_facts.specs.declared.queues.Queues.{Queues}
use Rattle.id_facts.specs.declared.queues.Wait.{Wait}
use Rattle.id_source.specs.Sources.{Source}
use Rattle.id_source.specs.Facts.{ForStands, LoopStands, NextStands}
use Rattle.id_source.specs.Links.{AreArgs, AreReads, AreTurns, BodyTurns, Leads, awaited, awaited_of, far_from}
use Rattle.id_source.specs.Links.{of_binding, of_next, of_store, some_row}
use Rattle.id_source.specs.Links.{targets, test_of_loop, turned_by, users_of}
use Rattle.id_facts.specs.Cells.{AreChained, find, items, next_of, out_of, values}
use Rattle.id_meaning.specs.Effects.{effects, exit_by, first_of, firsts, has_at, is_awaited_by, is_end, iteration_by}
use Rattle.id_meaning.specs.Effects.{iteration_in, iteration_of}
use Rattle.id_facts.specs.Firsts.{haves}
use Rattle.id_meaning.specs.Effects.{begin_at, begin_by, counted, counted_by, counted_on, counted_with, counting_by}
use Rattle.id_meaning.specs.Effects.{counting_of, goes_on, index_by, index_woken, is_row}
use Rattle.id_meaning.specs.Effects.{next_by, on_at, start_by, switches_by, turn_by, woken_by}
use Rattle.id_meaning.specs.Given.{seen}
use Rattle.id_facts.specs.Firsts.{ons}
use Rattle.id_facts.specs.Listed.{AreFound}
use Rattle.id_facts.specs.Waits.{AreWaits, by_on, by_value, counts_of}
use Rattle.id_facts.specs.Cells.{queue_of}
use Rattle.id_facts.specs.Queues.{queue}
use Rattle.id_facts.specs.RowFacts.{same_trail}
use Rattle.id_source.proofs.CheckedLemmas.{loop-rows}
use Rattle.id_meaning.proofs.CallsFollowLemmas.{awaited-is}
use Rattle.id_facts.proofs.LookupLemmas.{values-all, values-self}
use Rattle.id_meaning.proofs.ComesLemmas.{rows-differ}
use Rattle.id_meaning.proofs.ForLemmas.{index-awaits, index-block, upper-differs, upper-path}
use Rattle.id_meaning.proofs.TwoPartsLemmas.{bounds-order}
use Rattle.id_meaning.proofs.PartsFollowLemmas.{asker, found-by, from-begin, from-bound, from-exit, from-index}
use Rattle.id_meaning.proofs.PartsFollowLemmas.{from-loop, from-start, from-woken, haves-all, ons-all, reader}
use Rattle.id_meaning.proofs.PartsFollowLemmas.{when-same}
use Rattle.id_meaning.proofs.RulesLemmas.{AllAmong, RowGoesOn, by_bounds, by_index, by_predicate, part-within}
use Rattle.id_facts.proofs.FactsLemmas.{IsOnBy}

-- what comes by two values comes by those among which they are
counted-one : (l : Links) (r : Counting) (v : RowValue) (bs : List RowValue) (hi : RowValue) (f : RowFact) → Among hi bs
    → Among f (counted_by l r v hi) → Among f (counted_with l r v bs)
counted-one l r v [] hi f h k = absurd h
counted-one l r v (b ∷ bs) hi f (inl e) k =
    let F : RowValue → Type 0 =
    λ y. Among f (counted_by l r v y) in Among-left f (counted_by l r v b) (counted_with l r v bs) (subst F e k)
counted-one l r v (b ∷ bs) hi f (inr h) k =
    Among-right f (counted_by l r v b) (counted_with l r v bs) (counted-one l r v bs hi f h k)

counted-all : (l : Links) (r : Counting) (vs bs : List RowValue) (lo hi : RowValue) (f : RowFact) → Among lo vs
    → Among hi bs → Among f (counted_by l r lo hi) → Among f (counted l r vs bs)
counted-all l r [] bs lo hi f h i k = absurd h
counted-all l r (v ∷ vs) bs lo hi f (inl e) i k =
    let F : RowValue → Type 0 = λ y. Among f (counted_with l r y bs) in
    Among-left f (counted_with l r v bs) (counted l r vs bs) (subst F e (counted-one l r lo bs hi f i k))
counted-all l r (v ∷ vs) bs lo hi f (inr h) i k =
    Among-right f (counted_with l r v bs) (counted l r vs bs) (counted-all l r vs bs lo hi f h i k)

module _ (S : Source) (l : Links) (W : Queues) (c : Cells) (chained : AreChained c) (found : AreFound S (items c))
    (turns : AreTurns (rows S.checked) l.turns)
    (reads : AreReads S.checked l.reads) (args : AreArgs S.checked l.args) (waits : AreWaits S.checked l (items c) W)
    (few : (i k n : ℕ) (v : RowValue) → Among (Has (Below i k) n v) (items c) → k < 18446744073709551615) where
  -- ---- loops that are On

  -- what comes by a loop that is On
  by-start : (p : Trail) (n h w d i : ℕ) (f : RowFact) → Stands S.checked n (node.Loop h w d) → IsOnBy (items c) i p n
      → Among f (ons (Below i 0) (some_row (test_of_loop (rows S.checked) (at (rows S.checked) w).node))
      ++ firsts S.checked c (On p n) p n (Below i 0) h (targets l.args.rows.items h))
      → Among f (effects S.checked l W c (On p n))
  by-start p n h w d i f st o k =
      let g = On p n in
      let I : Option ℕ → Type 0 = λ y. Among f (start_by S.checked l c g p n y (at (rows S.checked) n).node) in
      let N : Node → Type 0 = λ z. Among f (start_by S.checked l c g p n (Some i) z) in
      from-start S l W c p n f (subst I (sym (found-by S c chained found o)) (subst N (sym st.node) k))

  -- switches follow a predicate
  tested : (t : ℕ) → is_within (at (rows S.checked) t).node ≡ false
      → test_of_loop (rows S.checked) (node.Switches t) ≡ Some t
  tested t e = ap (λ y. if y then None else Some t) e

  -- its predicate is On in the first iteration
  pub starts-follows : {p : Trail} {n h w t d i : ℕ} → LoopStands S.checked n h w t d → IsOnBy (items c) i p n
      → AllAmong (items c) (On p n ∷ []) → (g : RowFact) → Among g (On p n ∷ [])
      → Among (On (Below i 0) t) (effects S.checked l W c g)
  starts-follows {p = p} {n = n} {h = h} {w = w} {t = t} {d = d} {i = i} st o known g k =
      let f = On (Below i 0) t in
      let F : RowFact → Type 0 = λ y. Among f (effects S.checked l W c y) in
      let N : Node → Type 0 = λ z. Among f (ons (Below i 0) (some_row (test_of_loop (rows S.checked) z))) in
      let O : Option ℕ → Type 0 = λ y. Among f (ons (Below i 0) (some_row y)) in
      let z = (at (rows S.checked) w).node in
      elim k [
        | inl q ↦ subst F (sym q) (by-start p n h w d i f st.loop o
            (Among-left f (ons (Below i 0) (some_row (test_of_loop (rows S.checked) z)))
            (firsts S.checked c (On p n) p n (Below i 0) h (targets l.args.rows.items h))
            (subst N (sym st.switches.node) (subst O (sym (tested t st.predicate)) (inl refl)))))
        | inr y ↦ absurd y
      ]

  -- what a loop's head asks for
  next-asked : (n h w d m o v : ℕ) → Stands S.checked n (node.Loop h w d) → NextStands S.checked m h o v
      → Leads l.args h m
  next-asked n h w d m o v st ne =
      asker S l W c args m h (node.Next ne.name ne.index o v) ne.next
      (part-within S n h (node.Loop h w d) st (inl refl)) (ap (λ b. Some b) ne.block)

  firsts-all : (g : RowFact) (p : Trail) (n h m i : ℕ) (f : RowFact) (ms : List ℕ) → Among m ms
      → Among f (first_of S.checked c g p n (Below i 0) h m (at (rows S.checked) m).node)
      → Among f (firsts S.checked c g p n (Below i 0) h ms)
  firsts-all g p n h m i f [] k w = absurd k
  firsts-all g p n h m i f (a ∷ ms) (inl q) w =
      let F : ℕ → Type 0 = λ y. Among f (first_of S.checked c g p n (Below i 0) h y (at (rows S.checked) y).node) in
      Among-left f (first_of S.checked c g p n (Below i 0) h a (at (rows S.checked) a).node)
      (firsts S.checked c g p n (Below i 0) h ms) (subst F q w)
  firsts-all g p n h m i f (a ∷ ms) (inr k) w =
      Among-right f (first_of S.checked c g p n (Below i 0) h a (at (rows S.checked) a).node)
      (firsts S.checked c g p n (Below i 0) h ms)
      (firsts-all g p n h m i f ms k w)

  enters-on : (p : Trail) (n h w d m o v b i : ℕ) (u : RowValue) → Stands S.checked n (node.Loop h w d)
      → NextStands S.checked m h o v → binder S.checked o ≡ Some b → IsOnBy (items c) i p n
      → Among (Has (out_of (items c) (far_from S.checked n (Some b)) p) b u) (items c)
      → Among (Has (Below i 0) m u) (effects S.checked l W c (On p n))
  enters-on p n h w d m o v b i u st ne e on has =
      let g = On p n in
      let f = Has (Below i 0) m u in
      let q = out_of (items c) (far_from S.checked n (Some b)) p in
      let ms = targets l.args.rows.items h in
      let N : Node → Type 0 = λ z. Among f (first_of S.checked c g p n (Below i 0) h m z) in
      let vs = seen c g (out_of (items c) (far_from S.checked n (binder S.checked o)) p) (binder S.checked o) in
      let K : ℕ → Type 0 = λ a. Among f (if nat_eq a h then haves (Below i 0) m vs else []) in
      let B : Option ℕ → Type 0 =
      λ y. Among f (haves (Below i 0) m (seen c g (out_of (items c) (far_from S.checked n y) p) y)) in
      let one = subst B (sym e) (haves-all (Below i 0) m (values c g q b) u (values-all c chained g q b u refl has)) in
      let first = subst N (sym ne.next.node) (subst K (sym ne.block) (when-same h f (haves (Below i 0) m vs) one)) in
      by-start p n h w d i f st on
      (Among-right f (ons (Below i 0) (some_row (test_of_loop (rows S.checked) (at (rows S.checked) w).node)))
      (firsts S.checked c g p n (Below i 0) h ms)
      (firsts-all g p n h m i f ms (next-asked n h w d m o v st ne) first))

  enters-has : (p : Trail) (n h w d m o v b i : ℕ) (u : RowValue) → Stands S.checked n (node.Loop h w d)
      → NextStands S.checked m h o v → binder S.checked o ≡ Some b → IsOnBy (items c) i p n → Among (On p n) (items c)
      → Among (Has (Below i 0) m u)
      (effects S.checked l W c (Has (out_of (items c) (far_from S.checked n (Some b)) p) b u))
  enters-has p n h w d m o v b i u st ne e on there =
      let f = Has (Below i 0) m u in
      let q = out_of (items c) (far_from S.checked n (Some b)) p in
      let x : Wait = record { path = p; row = n; user = m } in
      let zn = (at (rows S.checked) n).node in
      let zm = (at (rows S.checked) m).node in
      let a : awaited S.checked m ≡ Some b = ap (λ z. awaited_of S.checked m z) ne.next.node ∙ e in
      let U : Node → Type 0 = λ z. Among m (users_of l n z) in
      let wakes = woken_by S.checked x u (find c p n) zn zm in
      let counts = index_woken S.checked l c (Has q b u) x u zn in
      let A : Option ℕ → Type 0 = λ y. Among f (if is_awaited_by S.checked c q b x y then wakes ++ counts else []) in
      let T : Truth → Type 0 = λ y. Among f (if y then wakes ++ counts else []) in
      let I : Option ℕ → Type 0 = λ y. Among f (woken_by S.checked x u y zn zm) in
      let N : Node → Type 0 = λ z. Among f (woken_by S.checked x u (Some i) z zm) in
      let M : Node → Type 0 = λ z. Among f (woken_by S.checked x u (Some i) (node.Loop h w d) z) in
      let K : ℕ → Type 0 = λ y. Among f (if nat_eq y h then f ∷ [] else []) in
      let last = subst M (sym ne.next.node) (subst K (sym ne.block) (when-same h f (f ∷ []) (inl refl))) in
      let here = subst I (sym (found-by S c chained found on)) (subst N (sym st.node) last) in
      from-woken S l W c q b u f x
      (waits.all (On p n) p n m there (by_on (subst U (sym st.node) (next-asked n h w d m o v st ne))) b a)
      (subst A (sym a) (subst T (sym (awaited-is b q)) (Among-left f wakes counts here)))

  -- and its variables Have what their names Have outside
  pub enters-follows : {p : Trail} {n h w d m o v b i : ℕ} {u : RowValue} → Stands S.checked n (node.Loop h w d)
      → NextStands S.checked m h o v → binder S.checked o ≡ Some b → IsOnBy (items c) i p n
      → AllAmong (items c) (On p n ∷ Has (out_of (items c) (far_from S.checked n (Some b)) p) b u ∷ [])
      → (g : RowFact) → Among g (On p n ∷ Has (out_of (items c) (far_from S.checked n (Some b)) p) b u ∷ [])
      → Among (Has (Below i 0) m u) (effects S.checked l W c g)
  enters-follows {p = p} {n = n} {h = h} {w = w} {d = d} {m = m} {o = o} {v = v} {b = b} {i = i} {u =
      u} st ne e on known g k =
      let F : RowFact → Type 0 = λ y. Among (Has (Below i 0) m u) (effects S.checked l W c y) in
      elim k [
        | inl q ↦ subst F (sym q) (enters-on p n h w d m o v b i u st ne e on known.1.0)
        | inr j ↦ elim j
            [ inl q ↦ subst F (sym q) (enters-has p n h w d m o v b i u st ne e on known.0) | inr y ↦ absurd y ]
      ]

  -- ---- iterations

  -- the iteration that a path ends in
  run-is : (p : Trail) (n h w d i k : ℕ) → Stands S.checked n (node.Loop h w d) → IsOnBy (items c) i p n
      → iteration_of S.checked c (Below i k) ≡ Some (record { head = h; switches = w; last = d })
  run-is p n h w d i k st o = ap (λ f. iteration_in S.checked f) o.fact ∙ ap (λ z. iteration_by z) st.node

  -- what comes by its predicate
  by-turn : (p : Trail) (n h w t d i k : ℕ) (v : RowValue) (f : RowFact) → LoopStands S.checked n h w t d
      → IsOnBy (items c) i p n → Among f (turn_by l (Below i k) (record { head = h; switches = w; last = d }) t v)
      → Among f (effects S.checked l W c (Has (Below i k) t v))
  by-turn p n h w t d i k v f st o x =
      let q = Below i k in
      let r : Iteration = record { head = h; switches = w; last = d } in
      let z = node.Switches t in
      let R : Option Iteration → Type 0 = λ y. Among f (switches_by l q y w t v) in
      let O : Option ℕ → Type 0 =
      λ y. Among f (if is_row y t then switches_by l q (iteration_of S.checked c q) w t v else []) in
      let A : Option ℕ → Type 0 = λ y. Among t (some_row y) in
      let e = tested t st.predicate in
      let one = subst R (sym (run-is p n h w d i k st.loop o)) (when-same w f (turn_by l q r t v) x) in
      from-loop S l W c q t v f w z st.switches
      (reader S l W c reads w t z st.switches (part-within S w t z st.switches refl) (subst A (sym e) (inl refl)))
      (subst O (sym e) (when-same t f (switches_by l q (iteration_of S.checked c q) w t v) one))

  -- the next iteration has a number
  next-is : (i k n : ℕ) (v : RowValue) → Among (Has (Below i k) n v) (items c)
      → next_of (Below i k) ≡ Some (Below i (k + 1))
  next-is i k n v h =
      ap (λ t. if t then Some (Below i (k + 1)) else None) (lt-ltb k 18446744073709551615 (few i k n v h))

  -- a loop has one last expression
  loop-same : (n h w d g e : ℕ) → Stands S.checked n (node.Loop h w d) → Stands S.checked n (node.Loop g w e) → d ≡ e
  loop-same n h w d g e st sm = let q : node.Loop h w d ≡ node.Loop g w e = sym st.node ∙ sm.node in cc

  -- a true predicate is On in the next iteration
  pub again-follows : {p : Trail} {n h w t d i : ℕ} (k : ℕ) → LoopStands S.checked n h w t d → IsOnBy (items c) i p n
      → AllAmong (items c) (Has (Below i k) t (Bool true) ∷ []) → (g : RowFact)
      → Among g (Has (Below i k) t (Bool true) ∷ []) → Among (On (Below i (k + 1)) t) (effects S.checked l W c g)
  again-follows {p = p} {n = n} {h = h} {w = w} {t = t} {d = d} {i = i} k st o known g x =
      let f = On (Below i (k + 1)) t in
      let q = Below i k in
      let F : RowFact → Type 0 = λ y. Among f (effects S.checked l W c y) in
      let N : Option Trail → Type 0 = λ y. Among f (on_at y t) in
      elim x [
        | inl e ↦ subst F (sym e) (by-turn p n h w t d i k (Bool true) f st o
            (Among-left f (on_at (next_of q) t) (ons q (targets l.turns.rows.items w))
            (subst N (sym (next-is i k t (Bool true) known.0)) (inl refl))))
        | inr y ↦ absurd y
      ]

  -- the switches of a loop lead to what they turn On
  turns-all : (w t a : ℕ) → Stands S.checked w (node.Switches t) → BodyTurns (rows S.checked) w a → Leads l.turns w a
  turns-all w t a st (of_binding {b = b} {m = m} {x = x} k e r i f) =
      turns.bodies w b m a k k st.within (ap is_switches st.node) e r i (ap (λ z. turned_by m z) f)
  turns-all w t a st (of_store {b = b} {a = y} {x = x} k e r i f) =
      turns.bodies w b a a k k st.within (ap is_switches st.node) e r i (ap (λ z. turned_by a z) f)
  turns-all w t a st (of_next {m = m} {x = x} {k = j} {o = o} k e r) =
      turns.nexts w m x j o a k k st.within (ap is_switches st.node) e r

  -- ---- loops with an index

  -- what comes where a loop goes on in an iteration or not
  abbrev Comes : Trail → ℕ → ℕ → Truth → RowFact → Type 0
  Comes q w d true f = Among f (ons q (targets l.turns.rows.items w))
  Comes q w d false f = f ≡ On q d

  turn-comes : (q : Trail) (h w d t : ℕ) (b : Truth) (f : RowFact) → Comes q w d b f
      → Among f (turn_by l q (record { head = h; switches = w; last = d }) t (Bool b))
  turn-comes q h w d t true f x = Among-right f (on_at (next_of q) t) (ons q (targets l.turns.rows.items w)) x
  turn-comes q h w d t false f x = inl x

  goes-comes : (r : Counting) (v : ℤ) (b : Truth) (f : RowFact) → Comes r.path r.switches r.last b f
      → Among f (goes_on l r v b)
  goes-comes r v true f x = inr x
  goes-comes r v false f x = inl x

  module _ (n w x a b d : ℕ) (s : ForStands S.checked n w x a b d) (p : Trail) (i : ℕ) (o : IsOnBy (items c) i p n)
    where
      -- the loop reads its bounds
      reads-low : Leads l.reads a n
      reads-low =
          let B : Node → Type 0 = λ z. Among a (some_row (lower_of z) ++ some_row (upper_of z)) in
          reader S l W c reads n a (node.Loop s.head w d) s.loop
          (part-within S (bounds_row s.head) a (node.Bounds a b) s.bounds (inl refl))
          (subst B (sym s.bounds.node) (inl refl))

      reads-high : Leads l.reads b n
      reads-high =
          let B : Node → Type 0 = λ z. Among b (some_row (lower_of z) ++ some_row (upper_of z)) in
          reader S l W c reads n b (node.Loop s.head w d) s.loop
          (part-within S (bounds_row s.head) b (node.Bounds a b) s.bounds (inr refl))
          (subst B (sym s.bounds.node) (inr (inl refl)))

      low-first : a < b
      low-first = bounds-order S.checked (bounds_row s.head) a b s.bounds

      abbrev Begun : Counting
      Begun = record { path = Below i 0; index = x; switches = w; last = d; first = true }

      -- what comes by the bounds
      begins : (lo hi : ℤ) (f g : RowFact) → Among (Int lo) (values c g p a) → Among (Int hi) (values c g p b)
          → Among f (goes_on l Begun lo (int_le lo hi)) → Among f (begin_at S.checked l c g p n)
      begins lo hi f g j k h =
          let r : Counting = record { path = Below i 0; index = index_row w; switches = w; last = d; first = true } in
          let X : ℕ → Type 0 =
          λ y. Among f
          (goes_on l (record { path = Below i 0; index = y; switches = w; last = d; first = true }) lo
          (int_le lo hi)) in
          let all = counted-all l r (values c g p a) (values c g p b) (Int lo) (Int hi) f j k (subst X s.behind h) in
          let B : Node → Type 0 = λ z. Among f (counted l r (seen c g p (lower_of z)) (seen c g p (upper_of z))) in
          let I : Option ℕ → Type 0 = λ y. Among f (begin_by S.checked l c g p y (at (rows S.checked) n).node) in
          let N : Node → Type 0 = λ z. Among f (begin_by S.checked l c g p (Some i) z) in
          subst I (sym (found-by S c chained found o)) (subst N (sym s.loop.node) (subst B (sym s.bounds.node) all))

      bounds-follow : (lo hi : ℤ) (f : RowFact) → AllAmong (items c) (On p n ∷ Has p a (Int lo) ∷ Has p b (Int hi) ∷ [])
          → Among f (goes_on l Begun lo (int_le lo hi)) → (g : RowFact)
          → Among g (On p n ∷ Has p a (Int lo) ∷ Has p b (Int hi) ∷ [])
          → Among f (effects S.checked l W c g)
      bounds-follow lo hi f known h g (inl e) =
          let F : RowFact → Type 0 = λ y. Among f (effects S.checked l W c y) in
          let y = On p n in
          subst F (sym e)
          (from-begin S l W c p n f (begins lo hi f y (values-all c chained y p a (Int lo) refl known.1.0)
          (values-all c chained y p b (Int hi) refl known.1.1.0) h))
      bounds-follow lo hi f known h g (inr (inl e)) =
          let F : RowFact → Type 0 = λ y. Among f (effects S.checked l W c y) in
          let y = Has p a (Int lo) in
          let apart : b ≡ a → ⊥ = λ q. (let k = low-first in omega (arith, q)) in
          subst F (sym e)
          (from-bound S l W c p a (Int lo) f n reads-low (begins lo hi f y (values-self c chained p a (Int lo))
          (values-all c chained y p b (Int hi) (rows-differ p p b a (Int lo) apart) known.1.1.0) h))
      bounds-follow lo hi f known h g (inr (inr (inl e))) =
          let F : RowFact → Type 0 = λ y. Among f (effects S.checked l W c y) in
          let y = Has p b (Int hi) in
          let apart : a ≡ b → ⊥ = λ q. (let k = low-first in omega (arith, q)) in
          subst F (sym e) (from-bound S l W c p b (Int hi) f n reads-high (begins lo hi f y
          (values-all c chained y p a (Int lo) (rows-differ p p a b (Int hi) apart) known.1.0)
          (values-self c chained p b (Int hi)) h))
      bounds-follow lo hi f known h g (inr (inr (inr k))) = absurd k

      abbrev Next : ℕ → Counting
      Next k = record { path = Below i (k + 1); index = x; switches = w; last = d; first = false }

      -- where the loop may go on behind an iteration
      counting-is : (k : ℕ) (j : ℤ) → Among (Has (Below i k) x (Int j)) (items c)
          → counting_of S.checked c (Below i k) x ≡ Some (Next k)
      counting-is k j h =
          let q = Below i k in
          let t : Iteration = record { head = s.head; switches = w; last = d } in
          ap (λ y. counting_by S.checked x y (next_of q)) (run-is p n s.head w d i k s.loop o)
          ∙ ap (λ y. counting_by S.checked x (Some t) y) (next-is i k x (Int j) h)
          ∙ ap (λ y. if nat_eq y s.head then Some (Next k) else None) (index-block S.checked n w x a b d s)
          ∙ ap (λ y. if y then Some (Next k) else None) (eq-eqb s.head s.head refl)

      -- where the index looks for its upper bound
      looks : (k : ℕ) → out_of (items c) (far_from S.checked x (Some b)) (Below i k) ≡ p
      looks k = upper-path S n w x a b d s (items c) i k p o

      waits-upper : awaited S.checked x ≡ Some b
      waits-upper = index-awaits S.checked n w x a b d s

      index-on : (k : ℕ) (j hi : ℤ) (f : RowFact) → Among (Has (Below i k) x (Int j)) (items c)
          → Among (Has p b (Int hi)) (items c) → Among f (goes_on l (Next k) (j +ℤ pos 1) (int_lt j hi))
          → Among f (effects S.checked l W c (Has (Below i k) x (Int j)))
      index-on k j hi f index high h =
          let q = Below i k in
          let v = Int j in
          let g = Has q x v in
          let r = Next k in
          let A : Option ℕ → Type 0 =
          λ y. Among f (counted l r (v ∷ []) (seen c g (out_of (items c) (far_from S.checked x y) q) y)) in
          let T : Trail → Type 0 = λ y. Among f (counted l r (v ∷ []) (values c g y b)) in
          let C : Option Counting → Type 0 =
          λ y. Among f
          (counted_on l y (v ∷ [])
          (seen c g (out_of (items c) (far_from S.checked x (awaited S.checked x)) q) (awaited S.checked x))) in
          let N : Node → Type 0 = λ z. Among f (index_by S.checked l c q x v z) in
          let all = counted-all l r (v ∷ []) (values c g p b) v (Int hi) f (inl refl)
          (values-all c chained g p b (Int hi) (rows-differ p q b x v (upper-differs S.checked n w x a b d s)) high)
          h in
          from-index S l W c q x v f
          (subst N (sym s.index.node)
          (subst C (sym (counting-is k j index)) (subst A (sym waits-upper) (subst T (sym (looks k)) all))))

      index-waked : (k : ℕ) (j hi : ℤ) (f : RowFact) → Among (Has (Below i k) x (Int j)) (items c)
          → Among f (goes_on l (Next k) (j +ℤ pos 1) (int_lt j hi))
          → Among f (effects S.checked l W c (Has p b (Int hi)))
      index-waked k j hi f index h =
          let q = Below i k in
          let u = Int hi in
          let g = Has p b u in
          let r = Next k in
          let m : Wait = record { path = q; row = x; user = x } in
          let z = (at (rows S.checked) x).node in
          let wakes = woken_by S.checked m u (find c q x) z z in
          let counts = index_woken S.checked l c g m u z in
          let U : Node → Type 0 = λ y. Among x (counts_of x y) in
          let Q : Trail → Type 0 = λ y. Among m (queue W.queues.items (queue_of y b)) in
          let A : Option ℕ → Type 0 =
          λ y. Among f (if is_awaited_by S.checked c p b m y then wakes ++ counts else []) in
          let T : Truth → Type 0 = λ y. Among f (if y then wakes ++ counts else []) in
          let N : Node → Type 0 = λ y. Among f (index_woken S.checked l c g m u y) in
          let C : Option Counting → Type 0 = λ y. Among f (counted_on l y (values c g q x) (u ∷ [])) in
          let apart : x ≡ b → ⊥ = λ e. upper-differs S.checked n w x a b d s (sym e) in
          let all =
          counted-all l r (values c g q x) (u ∷ []) (Int j) u f
          (values-all c chained g q x (Int j) (rows-differ q p x b u apart) index)
          (inl refl) h in
          let here = subst N (sym s.index.node)
          (when-same x f (counted_on l (counting_of S.checked c q x) (values c g q x) (u ∷ []))
          (subst C (sym (counting-is k j index)) all)) in
          let there =
          subst Q (looks k)
          (waits.all (Has q x (Int j)) q x x index (by_value (subst U (sym s.index.node) (inl refl))) b waits-upper) in
          let is = ap (λ y. nat_eq b b && same_trail y p) (looks k) ∙ awaited-is b p in
          from-woken S l W c p b u f m there
          (subst A (sym waits-upper) (subst T (sym is) (Among-right f wakes counts here)))

      index-follow : (k : ℕ) (j hi : ℤ) (f : RowFact)
          → AllAmong (items c) (Has (Below i k) x (Int j) ∷ Has p b (Int hi) ∷ [])
          → Among f (goes_on l (Next k) (j +ℤ pos 1) (int_lt j hi)) → (g : RowFact)
          → Among g (Has (Below i k) x (Int j) ∷ Has p b (Int hi) ∷ [])
          → Among f (effects S.checked l W c g)
      index-follow k j hi f known h g (inl e) =
          let F : RowFact → Type 0 =
          λ y. Among f (effects S.checked l W c y) in subst F (sym e) (index-on k j hi f known.0 known.1.0 h)
      index-follow k j hi f known h g (inr (inl e)) =
          let F : RowFact → Type 0 =
          λ y. Among f (effects S.checked l W c y) in subst F (sym e) (index-waked k j hi f known.0 h)
      index-follow k j hi f known h g (inr (inr y)) = absurd y

  -- an index Has its lower bound in the first iteration, and in the next one more
  pub counts_first-follows : {p : Trail} {n w x a b d i : ℕ} {lo hi : ℤ} → ForStands S.checked n w x a b d
      → IsOnBy (items c) i p n → int_le lo hi ≡ true
      → AllAmong (items c) (On p n ∷ Has p a (Int lo) ∷ Has p b (Int hi) ∷ []) → (g : RowFact)
      → Among g (On p n ∷ Has p a (Int lo) ∷ Has p b (Int hi) ∷ [])
      → Among (Has (Below i 0) x (Int lo)) (effects S.checked l W c g)
  counts_first-follows {p = p} {n = n} {w = w} {x = x} {a = a} {b = b} {d = d} {i = i} {lo = lo} {hi =
      hi} s o e known g k =
      let f = Has (Below i 0) x (Int lo) in
      let r : Counting = record { path = Below i 0; index = x; switches = w; last = d; first = true } in
      let T : Truth → Type 0 = λ y. Among f (goes_on l r lo y) in
      bounds-follow n w x a b d s p i o lo hi f known (subst T (sym e) (inl refl)) g k

  pub counts_on-follows : {p : Trail} {n w x a b d i : ℕ} {j hi : ℤ} (k : ℕ) → ForStands S.checked n w x a b d
      → IsOnBy (items c) i p n → int_lt j hi ≡ true
      → AllAmong (items c) (Has (Below i k) x (Int j) ∷ Has p b (Int hi) ∷ []) → (g : RowFact)
      → Among g (Has (Below i k) x (Int j) ∷ Has p b (Int hi) ∷ [])
      → Among (Has (Below i (k + 1)) x (Int (j +ℤ pos 1))) (effects S.checked l W c g)
  counts_on-follows {p = p} {n = n} {w = w} {x = x} {a = a} {b = b} {d = d} {i = i} {j = j} {hi =
      hi} k s o e known g y =
      let f = Has (Below i (k + 1)) x (Int (j +ℤ pos 1)) in
      let r : Counting = record { path = Below i (k + 1); index = x; switches = w; last = d; first = false } in
      let T : Truth → Type 0 = λ t. Among f (goes_on l r (j +ℤ pos 1) t) in
      index-follow n w x a b d s p i o k j hi f known (subst T (sym e) (inl refl)) g y

  -- what comes where the loop goes on in an iteration or not
  goes-follow : (n h w d i k : ℕ) (p : Trail) (t : Truth) {gs : List RowFact} (f : RowFact) → IsOnBy (items c) i p n
      → RowGoesOn S n w p i k t gs → Stands S.checked n (node.Loop h w d) → AllAmong (items c) gs
      → Comes (Below i k) w d t f → (g : RowFact) → Among g gs
      → Among f (effects S.checked l W c g)
  goes-follow n h w d i k p t f o (by_predicate {h = h'} {t = u} {l = d'} m ls) st known x g (inl e) =
      let F : RowFact → Type 0 = λ y. Among f (effects S.checked l W c y) in
      let q = loop-same n h w d h' d' st ls.loop in
      let C : ℕ → Type 0 = λ y. Comes (Below i k) w y t f in
      subst F (sym e) (by-turn p n h' w u d' i k (Bool t) f ls o (turn-comes (Below i k) h' w d' u t f (subst C q x)))
  goes-follow n h w d i k p t f o (by_predicate m ls) st known x g (inr y) = absurd y
  goes-follow n h w d i k p t f o (by_bounds {x = y} {a = a} {b = b} {l = d'} {lo = lo} {hi = hi} s e) st known x g j =
      let q = loop-same n h w d s.head d' st s.loop in
      let C : ℕ → Type 0 = λ z. Comes (Below i 0) w z t f in
      let r : Counting = record { path = Below i 0; index = y; switches = w; last = d'; first = true } in
      let T : Truth → Type 0 = λ z. Among f (goes_on l r lo z) in
      bounds-follow n w y a b d' s p i o lo hi f known (subst T (sym e) (goes-comes r lo t f (subst C q x))) g j
  goes-follow n h w d i k p t f o (by_index {x = y} {a = a} {b = b} {l = d'} {j = v} {hi = hi} m s e) st known x g j =
      let q = loop-same n h w d s.head d' st s.loop in
      let C : ℕ → Type 0 = λ z. Comes (Below i (m + 1)) w z t f in
      let r : Counting = record { path = Below i (m + 1); index = y; switches = w; last = d'; first = false } in
      let T : Truth → Type 0 = λ z. Among f (goes_on l r (v +ℤ pos 1) z) in
      index-follow n w y a b d' s p i o m v hi f known (subst T (sym e) (goes-comes r (v +ℤ pos 1) t f (subst C q x))) g
      j

  -- a loop that goes on turns the body On
  pub runs-follows : {p : Trail} {n h w d i a : ℕ} {gs : List RowFact} (k : ℕ) → Stands S.checked n (node.Loop h w d)
      → IsOnBy (items c) i p n → RowGoesOn S n w p i k true gs → BodyTurns (rows S.checked) w a → AllAmong (items c) gs
      → (g : RowFact) → Among g gs → Among (On (Below i k) a) (effects S.checked l W c g)
  runs-follows {p = p} {n = n} {h = h} {w = w} {d = d} {i = i} {a = a} k st o go b known g x =
      let q = Below i k in
      let t = (loop-rows S.checked n h w d st).test in
      let sw : Stands S.checked w (node.Switches t.test) =
      record { within = part-within S n w (node.Loop h w d) st (inr (inl refl)); node = t.node } in
      goes-follow n h w d i k p true (On q a) o go st known
      (ons-all q (targets l.turns.rows.items w) a (turns-all w t.test a sw b)) g x

  -- one that does not turns the last expression On
  pub leaves-follows : {p : Trail} {n h w d i : ℕ} {gs : List RowFact} (k : ℕ) → Stands S.checked n (node.Loop h w d)
      → IsOnBy (items c) i p n → RowGoesOn S n w p i k false gs → AllAmong (items c) gs → (g : RowFact) → Among g gs
      → Among (On (Below i k) d) (effects S.checked l W c g)
  leaves-follows {p = p} {n = n} {h = h} {w = w} {d = d} {i = i} k st o go known g x =
      goes-follow n h w d i k p false (On (Below i k) d) o go st known refl g x

  -- a variable Has in the next iteration what its `next` Has
  pub hands-follows : {p : Trail} {n h w d m o v i : ℕ} {u : RowValue} (k : ℕ) → Stands S.checked n (node.Loop h w d)
      → NextStands S.checked m h o v → IsOnBy (items c) i p n
      → AllAmong (items c) (Has (Below i k) v u ∷ []) → (g : RowFact) → Among g (Has (Below i k) v u ∷ [])
      → Among (Has (Below i (k + 1)) m u) (effects S.checked l W c g)
  hands-follows {p = p} {n = n} {h = h} {w = w} {d = d} {m = m} {o = o} {v = v} {i = i} {u = u} k st ne on known g x =
      let f = Has (Below i (k + 1)) m u in
      let q = Below i k in
      let z = node.Next ne.name ne.index o v in
      let F : RowFact → Type 0 = λ y. Among f (effects S.checked l W c y) in
      let R : Option Iteration → Type 0 = λ y. Among f (next_by S.checked q y m u) in
      let K : ℕ → Type 0 = λ y. Among f (if nat_eq y h then has_at (next_of q) m u else []) in
      let N : Option Trail → Type 0 = λ y. Among f (has_at y m u) in
      let there = subst N (sym (next-is i k v u known.0)) (inl refl) in
      let one =
      subst R (sym (run-is p n h w d i k st on))
      (subst K (sym ne.block) (when-same h f (has_at (next_of q) m u) there)) in
      elim x [
        | inl e ↦ subst F (sym e) (from-loop S l W c q v u f m z ne.next
            (reader S l W c reads m v z ne.next (part-within S m v z ne.next (inr refl)) (inl refl))
            (when-same v f (next_by S.checked q (iteration_of S.checked c q) m u) one))
        | inr y ↦ absurd y
      ]

  -- a loop Has what its last expression Has
  pub leads_out-follows : {p : Trail} {n h w d i : ℕ} {u : RowValue} (k : ℕ) → Stands S.checked n (node.Loop h w d)
      → IsOnBy (items c) i p n → AllAmong (items c) (Has (Below i k) d u ∷ []) → (g : RowFact)
      → Among g (Has (Below i k) d u ∷ []) → Among (Has p n u) (effects S.checked l W c g)
  leads_out-follows {p = p} {n = n} {h = h} {w = w} {d = d} {i = i} {u = u} k st o known g x =
      let f = Has p n u in
      let F : RowFact → Type 0 = λ y. Among f (effects S.checked l W c y) in
      let E : RowFact → Type 0 = λ y. Among f (exit_by S.checked k d u y) in
      let T : Truth → Type 0 = λ y. Among f (if y then f ∷ [] else []) in
      let end : is_end S.checked (at (rows S.checked) n).node k d ≡ true =
      ap (λ z. is_end S.checked z k d) st.node ∙ eq-eqb d d refl in
      elim x [
        | inl e ↦ subst F (sym e)
            (from-exit S l W c (Below i k) d u f (subst E (sym o.fact) (subst T (sym end) (inl refl))))
        | inr y ↦ absurd y
      ]
