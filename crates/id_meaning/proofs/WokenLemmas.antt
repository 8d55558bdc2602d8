-- What follows by the index of a loop, and by what waits for a value, rows give from facts that are there.
use Rattle.std.proofs.Common.{◌≡◌, inl, inr, ℕ, ◌+◌, ℤ, Bool as Truth, true, false, ◌&&◌, nat_eq}
use Rattle.std.proofs.Common.{nat_lt, Option, None, Some, List, [], ◌∷◌, if◌then◌else◌, refl, ap, sym}
use Rattle.std.proofs.Common.{◌∙◌, subst}
use Rattle.std.specs.Prelude.{pos, ◌++◌, ◌+ℤ◌, int_le, int_lt}
use Rattle.std.proofs.lemmas.Bool.{eqb-true}
use Rattle.id_value.specs.List.{Among}
use Rattle.id_value.proofs.AmongLemmas.{Among-either}
use Rattle.id_table.specs.declared.row.Node.{Node}
use Rattle.id_table.specs.declared.row.Node.TheVariants as node
use Rattle.id_table.specs.Rows.{at}
use Rattle.id_table.specs.Tables.{is_thing}
use Rattle.id_table.specs.Loops.{bounds_row, index_row, lower_of, upper_of}
use Rattle.id_check.specs.Programs.{Stands, binder, rows}
use Rattle.id_check.proofs.ProgramsLemmas.{table_of}
use Rattle.id_facts.specs.declared.cells.Cells.{Cells}
use Rattle.id_facts.specs.declared.facts.RowFact.{RowFact}
use Rattle.id_facts.specs.declared.facts.RowFact.TheVariants.{On, Has}
use Rattle.id_facts.specs.declared.facts.RowValue.{RowValue}
use Rattle.id_facts.specs.declared.facts.RowValue.TheVariants.{Int, Bool, Name}
use Rattle.id_facts.specs.declared.facts.Trail.{Trail}
use Rattle.id_facts.specs.declared.facts.Trail.TheVariants.{Outermost, Below}
use Rattle.id_source.specs.declared.links.Links.{Links}
use Rattle.id_meaning.specs.declared.counts.Counting.{Counting}
use Rattle.id_meaning.specs.declared.loops.Iteration.{Iteration}
use Rattle.id_facts.specs.declared.queues.Wait.{Wait}
use Rattle.id_source.specs.Sources.{Source}
use Rattle.id_source.specs.Facts.{ForStands}
use Rattle.id_source.specs.Links.{AreTurns, awaited, awaited_of, far_from, targets}
use Rattle.id_facts.specs.Cells.{AreChained, find, items, out_of, values}
use Rattle.id_facts.specs.RowFacts.{same_trail}
use Rattle.id_meaning.specs.Effects.{begin_at, begin_by, counted, counted_by, counted_on, counted_with, counting_by}
use Rattle.id_meaning.specs.Effects.{counting_of, goes_on, index_at, index_by, index_woken, iteration_of, all_woken}
use Rattle.id_meaning.specs.Effects.{is_awaited_by, woken, woken_by}
use Rattle.id_meaning.specs.Given.{seen}
use Rattle.id_meaning.proofs.ArgumentsLemmas.{row-within}
use Rattle.id_meaning.proofs.EffectsLemmas.{Given, ons-among}
use Rattle.id_facts.proofs.LookupLemmas.{find-true, values-true}
use Rattle.id_facts.proofs.OneLemmas.{trail-true}
use Rattle.id_facts.proofs.FactsLemmas.{IsOnBy}
use Rattle.id_meaning.proofs.ForLemmas.{for-by-bounds, for-by-index, index-awaits, upper-path}
use Rattle.id_meaning.proofs.RulesLemmas.{AllAmong, RowRule}
use Rattle.id_meaning.proofs.RulesLemmas as row
use Rattle.id_meaning.proofs.FollowsLemmas.{BeginsIn, IsTurn, iteration-is, loop-there, next-stands, on-there, same}
use Rattle.id_meaning.proofs.FollowsLemmas.{some-is, switches-turn}

module _ (S : Source) (c : Cells) (chained : AreChained c) where
  -- ---- loops with an index

  -- what comes by some values comes by two of them
  record IsCounted (l : Links) (r : Counting) (vs bs : List RowValue) (x : RowFact) : Type 0 where
    pub value : ℤ
    pub upper : ℤ
    pub is_value : Among (Int value) vs
    pub is_upper : Among (Int upper) bs
    pub comes : Among x (counted_by l r (Int value) (Int upper))

  counted-ints : (l : Links) (r : Counting) (v b : RowValue) (bs : List RowValue) (x : RowFact) → Among b bs
      → Among x (counted_by l r v b) → IsCounted l r (v ∷ []) bs x
  counted-ints l r (Int v) (Int b) bs x i h =
      record { value = v; upper = b; is_value = inl refl; is_upper = i; comes = h }
  counted-ints l r (Int v) (Bool b) bs x i h = absurd h
  counted-ints l r (Int v) (Name b) bs x i h = absurd h
  counted-ints l r (Bool v) b bs x i h = absurd h
  counted-ints l r (Name v) b bs x i h = absurd h

  counted-with : (l : Links) (r : Counting) (v : RowValue) (us bs : List RowValue) (x : RowFact)
      → ((b : RowValue) → Among b us → Among b bs) → Among x (counted_with l r v us) → IsCounted l r (v ∷ []) bs x
  counted-with l r v [] bs x w h = absurd h
  counted-with l r v (b ∷ us) bs x w h = elim (Among-either x (counted_by l r v b) (counted_with l r v us) h) [
    | inl i ↦ counted-ints l r v b bs x (w b (inl refl)) i
    | inr i ↦ counted-with l r v us bs x (λ a j. w a (inr j)) i
  ]

  counted-among : (l : Links) (r : Counting) (vs bs : List RowValue) (x : RowFact) → Among x (counted l r vs bs)
      → IsCounted l r vs bs x
  counted-among l r [] bs x h = absurd h
  counted-among l r (v ∷ vs) bs x h = elim (Among-either x (counted_with l r v bs) (counted l r vs bs) h) [
    | inl i ↦
        let y = counted-with l r v bs bs x (λ b j. j) i in
        record {
          value = y.value;
          upper = y.upper;
          is_value = front y.value y.is_value;
          is_upper = y.is_upper;
          comes =
              y.comes;
        }
    | inr i ↦
        let y = counted-among l r vs bs x i in
        record { value = y.value; upper = y.upper; is_value = inr y.is_value; is_upper = y.is_upper; comes = y.comes }
  ]
    where
      front : (j : ℤ) → Among (Int j) (v ∷ []) → Among (Int j) (v ∷ vs)
      front j (inl e) = inl e
      front j (inr e) = absurd e

  -- what comes where a loop goes on or not, by facts that are there
  goes-given : (l : Links) → AreTurns (rows S.checked) l.turns
      → (i k n h w d x t : ℕ) (p : Trail) (j : ℤ) (b : Truth) (f : Truth) (gs : List RowFact)
      (y : RowFact) → IsOnBy (items c) i p n → Stands S.checked n (node.Loop h w d)
      → (at (rows S.checked) w).node ≡ node.Switches t
      → row.RowGoesOn S n w p i k b gs → AllAmong (items c) gs
      → (b ≡ true → RowRule S (items c) gs (Has (Below i k) x (Int j)))
      → Among y (goes_on l (record { path = Below i k; index = x; switches = w; last = d; first = f }) j b)
      → Given S c chained y
  goes-given l turns i k n h w d x t p j true f gs y o st s g known to (inl q) =
      same S c chained y (Has (Below i k) x (Int j)) q (record { premises = gs; rule = to refl; known = known })
  goes-given l turns i k n h w d x t p j true f gs y o st s g known to (inr u) =
      let a = ons-among (Below i k) (targets l.turns.rows.items w) y u in
      same S c chained y (On (Below i k) a.0) a.2
      (record {
        premises = gs;
        rule = row.runs k st o g (switches-turn S c chained w t a.0 s (turns.only w a.0 a.1));
        known = known;
      })
  goes-given l turns i k n h w d x t p j false f gs y o st s g known to (inl q) =
      same S c chained y (On (Below i k) d) q (record { premises = gs; rule = row.leaves k st o g; known = known })
  goes-given l turns i k n h w d x t p j false f gs y o st s g known to (inr q) = absurd q

  -- the switches of a loop follow something
  switches-follow : (n h w d : ℕ) → Stands S.checked n (node.Loop h w d)
      → (t : ℕ) × ((at (rows S.checked) w).node ≡ node.Switches t)
  switches-follow n h w d st =
      let r = (table_of S.checked).loop_is n h (record {
        switches = w;
        last = d;
        within = st.within;
        node =
            st.node;
      }) in
      (r.test.test, r.test.node)

  -- what comes by the bounds of an index
  pub begin-only : (l : Links) → AreTurns (rows S.checked) l.turns → (g : RowFact) (p : Trail) (n : ℕ) (y : RowFact)
      → Among g (items c) → Among y (begin_at S.checked l c g p n) → Given S c chained y
  begin-only l turns g p n y here k = go (find c p n) refl (at (rows S.checked) n).node refl k
    where
      bounds : (i h w d : ℕ) (z : Node) → IsOnBy (items c) i p n → Stands S.checked n (node.Loop h w d)
          → (at (rows S.checked) (bounds_row h)).node ≡ z
          → Among y
          (counted l (record { path = Below i 0; index = index_row w; switches = w; last = d; first = true })
          (seen c g p (lower_of z))
          (seen c g p (upper_of z))) → Given S c chained y
      bounds i h w d (node.Bounds a b) o st e j =
          let r : Counting = record { path = Below i 0; index = index_row w; switches = w; last = d; first = true } in
          let q = counted-among l r (values c g p a) (values c g p b) y j in
          let s = for-by-bounds S.checked n h w d a b st e in
          let u = switches-follow n h w d st in
          let low = values-true c chained g p a (Int q.value) here q.is_value in
          let high = values-true c chained g p b (Int q.upper) here q.is_upper in
          goes-given l turns i 0 n h w d (index_row w) u.0 p q.value (int_le q.value q.upper) true
          (On p n ∷ Has p a (Int q.value) ∷ Has p b (Int q.upper) ∷ []) y o st u.1 (row.by_bounds s refl)
          (on-there S c chained p n i o, (low, (high, tt))) (λ t. row.counts_first s o t) q.comes
      bounds i h w d _ o st e j = absurd j

      go : (m : Option ℕ) → find c p n ≡ m → (z : Node) → (at (rows S.checked) n).node ≡ z
          → Among y (begin_by S.checked l c g p m z) → Given S c chained y
      go (Some i) f (node.Loop h w d) e j =
          bounds i h w d (at (rows S.checked) (bounds_row h)).node (find-true c chained p n i f)
          (loop-there S c chained n h w d e) refl j
      go (Some i) f _ e j = absurd j
      go None f z e j = absurd j

  -- what comes by the values of an index and of its upper bound
  record IsCounting (x : ℕ) (p : Trail) (r : Counting) : Type 0 where
    pub number : ℕ
    pub turn : ℕ
    pub outer : Trail
    pub loop : ℕ
    pub lower : ℕ
    pub upper : ℕ
    pub stands : ForStands S.checked loop r.switches x lower upper r.last
    pub on : IsOnBy (items c) number outer loop
    pub path : p ≡ Below number turn
    pub is : r ≡ record {
      path = Below number (turn + 1);
      index = x;
      switches = r.switches;
      last = r.last;
      first =
          false;
    }

  counting-is : (x y : ℕ) (p : Trail) (r : Counting) → BeginsIn S c chained p
      → (at (rows S.checked) x).node ≡ node.Index y → counting_of S.checked c p x ≡ Some r
      → IsCounting x p r
  counting-is x y Outermost r w e f = cc
  counting-is x y (Below i k) r w e f = go (iteration_of S.checked c (Below i k)) refl (nat_lt k 18446744073709551615) f
    where
      block : (a : Iteration) (b : Truth) → IsTurn S c chained i a → nat_eq (at (rows S.checked) x).block a.head ≡ b
          → (if b then Some (record {
            path = Below i (k + 1);
            index = x;
            switches = a.switches;
            last = a.last;
            first =
                false;
          }) else None) ≡ Some r → IsCounting x (Below i k) r
      block a true u q d =
          let s = loop-there S c chained u.loop a.head a.switches a.last u.stands in
          let z = for-by-index S.checked u.loop a.head a.switches a.last x y s e
          (eqb-true (at (rows S.checked) x).block a.head q) in
          let n : Counting =
          record { path = Below i (k + 1); index = x; switches = a.switches; last = a.last; first = false } in
          let F : Counting → Type 0 = λ m. IsCounting x (Below i k) m in
          subst F (some-is n r d) (record {
            number = i;
            turn = k;
            outer = u.outer;
            loop = u.loop;
            lower = z.0;
            upper = z.1;
            stands = z.2;
            on = u.on;
            path = refl;
            is = refl;
          })
      block a false u q d = cc

      go : (o : Option Iteration) → iteration_of S.checked c (Below i k) ≡ o → (b : Truth)
          → counting_by S.checked x o (if b then Some (Below i (k + 1)) else None) ≡ Some r → IsCounting x (Below i k) r
      go None q b d = cc
      go (Some a) q true d =
          block a (nat_eq (at (rows S.checked) x).block a.head) (iteration-is S c chained i k a w q) refl d
      go (Some a) q false d = cc

  counts-given : (l : Links) → AreTurns (rows S.checked) l.turns
      → (x : ℕ) (p : Trail) (r : Counting) (u : IsCounting x p r) (vs bs : List RowValue) (y : RowFact)
      → ((v : RowValue) → Among v vs → Among (Has p x v) (items c))
      → ((b : RowValue) → Among b bs → Among (Has u.outer u.upper b) (items c))
      → Among y (counted l r vs bs) → Given S c chained y
  counts-given l turns x p r u vs bs y has bound h =
      let F : Counting → Type 0 = λ m. Among y (counted l m vs bs) in
      let m : Counting =
      record { path = Below u.number (u.turn + 1); index = x; switches = r.switches; last = r.last; first = false } in
      let q = counted-among l m vs bs y (subst F u.is h) in
      let s = u.stands in
      let t = switches-follow u.loop s.head r.switches r.last s.loop in
      let G : Trail → Type 0 = λ z. Among (Has z x (Int q.value)) (items c) in
      let index = subst G u.path (has (Int q.value) q.is_value) in
      let high = bound (Int q.upper) q.is_upper in
      goes-given l turns u.number (u.turn + 1) u.loop s.head r.switches r.last x t.0 u.outer (q.value +ℤ pos 1)
      (int_lt q.value q.upper) false
      (Has (Below u.number u.turn) x (Int q.value) ∷ Has u.outer u.upper (Int q.upper) ∷ []) y u.on s.loop t.1
      (row.by_index u.turn s refl)
      (index, (high, tt)) (λ e. row.counts_on u.turn s u.on e) q.comes

  -- where an index looks for its upper bound
  upper-there : (x : ℕ) (p : Trail) (r : Counting) (u : IsCounting x p r)
      → out_of (items c) (far_from S.checked x (Some u.upper)) p ≡ u.outer
  upper-there x p r u =
      ap (λ q. out_of (items c) (far_from S.checked x (Some u.upper)) q) u.path
      ∙ upper-path S u.loop r.switches x u.lower u.upper r.last u.stands (items c) u.number u.turn u.outer u.on

  index-waits : (x : ℕ) (p : Trail) (r : Counting) (u : IsCounting x p r) → awaited S.checked x ≡ Some u.upper
  index-waits x p r u = index-awaits S.checked u.loop r.switches x u.lower u.upper r.last u.stands

  -- what comes where an index Has a value
  pub index-only : (l : Links) → AreTurns (rows S.checked) l.turns → (p : Trail) (n : ℕ) (v : RowValue) (y : RowFact)
      → BeginsIn S c chained p → Among (Has p n v) (items c) → Among y (index_at S.checked l c p n v)
      → Given S c chained y
  index-only l turns p n v y w here h = go (at (rows S.checked) n).node refl h
    where
      g : RowFact
      g = Has p n v

      one : (a : RowValue) → Among a (v ∷ []) → Among (Has p n a) (items c)
      one a (inl e) = let F : RowValue → Type 0 = λ z. Among (Has p n z) (items c) in subst F (sym e) here
      one a (inr e) = absurd e

      by : (x : ℕ) (o : Option Counting) → (at (rows S.checked) n).node ≡ node.Index x → counting_of S.checked c p n ≡ o
          → Among y
          (counted_on l o (v ∷ [])
          (seen c g (out_of (items c) (far_from S.checked n (awaited S.checked n)) p) (awaited S.checked n)))
          → Given S c chained y
      by x None e f j = absurd j
      by x (Some r) e f j =
          let u = counting-is n x p r w e f in
          let A : Option ℕ → Type 0 =
          λ b. Among y (counted l r (v ∷ []) (seen c g (out_of (items c) (far_from S.checked n b) p) b)) in
          let B : Trail → Type 0 = λ q. Among y (counted l r (v ∷ []) (values c g q u.upper)) in
          let k = subst B (upper-there n p r u) (subst A (index-waits n p r u) j) in
          counts-given l turns n p r u (v ∷ []) (values c g u.outer u.upper) y one
          (λ b i. values-true c chained g u.outer u.upper b here i) k

      go : (z : Node) → (at (rows S.checked) n).node ≡ z → Among y (index_by S.checked l c p n v z)
          → Given S c chained y
      go (node.Index x) e j = by x (counting_of S.checked c p n) e refl j
      go _ e j = absurd j

  -- ---- what waits

  all-true : (a b : Truth) → a && b ≡ true → (a ≡ true) × (b ≡ true)
  all-true true b h = (refl, h)
  all-true false b h = cc

  -- the path at which it looks for the binder
  abbrev Far : Wait → ℕ → Trail
  Far w b = out_of (items c) (far_from S.checked w.row (Some b)) w.path

  -- what comes by an index that waits for the value
  index-woken-only : (l : Links) → AreTurns (rows S.checked) l.turns
      → (w : Wait) (q : Trail) (m b : ℕ) (v : RowValue) (x : RowFact)
      → ((p : Trail) (n : ℕ) (a : RowValue) → Among (Has p n a) (items c) → BeginsIn S c chained p)
      → Among (Has q m v) (items c) → awaited S.checked w.user ≡ Some b → Among (Has (Far w b) b v) (items c)
      → Among x (index_woken S.checked l c (Has q m v) w v (at (rows S.checked) w.row).node) → Given S c chained x
  index-woken-only l turns w q m b v x begins here a high h = go (at (rows S.checked) w.row).node refl h
    where
      g : RowFact
      g = Has q m v

      vs : List RowValue
      vs = values c g w.path w.row

      -- it has a value, so its path begins at a fact of the cells
      begun : (r : Counting) (ws : List RowValue) → ((a : RowValue) → Among a ws → Among (Has w.path w.row a) (items c))
          → Among x (counted l r ws (v ∷ [])) → BeginsIn S c chained w.path
      begun r [] f j = absurd j
      begun r (a ∷ ws) f j = begins w.path w.row a (f a (inl refl))

      has : (a : RowValue) → Among a vs → Among (Has w.path w.row a) (items c)
      has a i = values-true c chained g w.path w.row a here i

      by : (y : ℕ) (o : Option Counting) → w.user ≡ w.row → (at (rows S.checked) w.row).node ≡ node.Index y
          → counting_of S.checked c w.path w.row ≡ o → Among x (counted_on l o vs (v ∷ [])) → Given S c chained x
      by y None s e f j = absurd j
      by y (Some r) s e f j =
          let u = counting-is w.row y w.path r (begun r vs has j) e f in
          let d : b ≡ u.upper =
          some-is b u.upper (sym a ∙ ap (λ i. awaited S.checked i) s ∙ index-waits w.row w.path r u) in
          let B : ℕ → Type 0 = λ i. Among (Has (Far w i) i v) (items c) in
          let F : Trail → Type 0 = λ p. Among (Has p u.upper v) (items c) in
          let there = subst F (upper-there w.row w.path r u) (subst B d high) in
          counts-given l turns w.row w.path r u vs (v ∷ []) x has (one u.outer u.upper there) j
        where
          one : (p : Trail) (n : ℕ) → Among (Has p n v) (items c) → (a : RowValue) → Among a (v ∷ [])
              → Among (Has p n a) (items c)
          one p n k a (inl e) = let F : RowValue → Type 0 = λ z. Among (Has p n z) (items c) in subst F (sym e) k
          one p n k a (inr e) = absurd e

      same-row : (y : ℕ) (t : Truth) → (at (rows S.checked) w.row).node ≡ node.Index y → nat_eq w.user w.row ≡ t
          → Among x (if t then counted_on l (counting_of S.checked c w.path w.row) vs (v ∷ []) else [])
          → Given S c chained x
      same-row y true e f j = by y (counting_of S.checked c w.path w.row) (eqb-true w.user w.row f) e refl j
      same-row y false e f j = absurd j

      go : (z : Node) → (at (rows S.checked) w.row).node ≡ z → Among x (index_woken S.checked l c g w v z)
          → Given S c chained x
      go (node.Index y) e j = same-row y (nat_eq w.user w.row) e refl j
      go _ e j = absurd j

  -- what comes by one that waits for the value
  pub woken-only : (l : Links) → AreTurns (rows S.checked) l.turns
      → (w : Wait) (q : Trail) (m : ℕ) (v : RowValue) (x : RowFact)
      → ((p : Trail) (n : ℕ) (a : RowValue) → Among (Has p n a) (items c) → BeginsIn S c chained p)
      → Among (Has q m v) (items c) → Among x (woken S.checked l c q m v w) → Given S c chained x
  woken-only ls turns w q m v x begins here h = start (awaited S.checked w.user) refl h
    where
      name : (y b i : ℕ) (t : Truth) → IsOnBy (items c) i w.path w.row → (at (rows S.checked) w.row).node ≡ node.Name y
          → awaited S.checked w.user ≡ Some b → Among (Has (Far w b) b v) (items c) → nat_eq w.user w.row ≡ t
          → Among x (if t then Has w.path w.row v ∷ [] else []) → Given S c chained x
      name y b i true o e a k f (inl r) =
          let u = eqb-true w.user w.row f in
          let d : binder S.checked w.row ≡ Some b =
          sym (ap (λ z. awaited_of S.checked w.row z) e) ∙ sym (ap (λ j. awaited S.checked j) u) ∙ a in
          let st : Stands S.checked w.row (node.Name y) =
          record { within = row-within (rows S.checked) w.row is_thing refl (ap is_thing e); node = e } in
          same S c chained x (Has w.path w.row v) r (record {
            premises = On w.path w.row ∷ Has (Far w b) b v ∷ [];
            rule = row.name st d;
            known = (on-there S c chained w.path w.row i o, (k, tt));
          })
      name y b i true o e a k f (inr r) = absurd r
      name y b i false o e a k f r = absurd r

      loop : (g s l y d o u b i : ℕ) (t : Truth) → IsOnBy (items c) i w.path w.row
          → (at (rows S.checked) w.row).node ≡ node.Loop g s l → (at (rows S.checked) w.user).node ≡ node.Next y d o u
          → awaited S.checked w.user ≡ Some b → Among (Has (Far w b) b v) (items c)
          → nat_eq (at (rows S.checked) w.user).block g ≡ t → Among x (if t then Has (Below i 0) w.user v ∷ [] else [])
          → Given S c chained x
      loop g s l y d o u b i true n e f a k j (inl r) =
          let z : binder S.checked o ≡ Some b = sym (ap (λ z. awaited_of S.checked w.user z) f) ∙ a in
          same S c chained x (Has (Below i 0) w.user v) r (record {
            premises = On w.path w.row ∷ Has (Far w b) b v ∷ [];
            rule = row.enters (loop-there S c chained w.row g s l e)
                (next-stands S c chained w.user y d o u g f (eqb-true (at (rows S.checked) w.user).block g j)) z n;
            known = (on-there S c chained w.path w.row i n, (k, tt));
          })
      loop g s l y d o u b i true n e f a k j (inr r) = absurd r
      loop g s l y d o u b i false n e f a k j r = absurd r

      by : (b : ℕ) (o : Option ℕ) (z y : Node) → awaited S.checked w.user ≡ Some b → Among (Has (Far w b) b v) (items c)
          → find c w.path w.row ≡ o → (at (rows S.checked) w.row).node ≡ z → (at (rows S.checked) w.user).node ≡ y
          → Among x (woken_by S.checked w v o z y) → Given S c chained x
      by b (Some i) (node.Name d) y a k f e g r =
          name d b i (nat_eq w.user w.row) (find-true c chained w.path w.row i f) e a k refl r
      by b (Some i) (node.Loop j s l) (node.Next y d o u) a k f e g r =
          loop j s l y d o u b i (nat_eq (at (rows S.checked) w.user).block j) (find-true c chained w.path w.row i f) e
          g a k refl r
      by b None z y a k f e g r = absurd r
      by b (Some i) (node.Loop j s l) _ a k f e g r = absurd r
      by b (Some i) _ y a k f e g r = absurd r

      Names : List RowFact
      Names = woken_by S.checked w v (find c w.path w.row) (at (rows S.checked) w.row).node
          (at (rows S.checked) w.user).node

      Indices : List RowFact
      Indices = index_woken S.checked ls c (Has q m v) w v (at (rows S.checked) w.row).node

      when : (b : ℕ) (t : Truth) → awaited S.checked w.user ≡ Some b → (nat_eq b m && same_trail (Far w b) q) ≡ t
          → Among x (if t then Names ++ Indices else []) → Given S c chained x
      when b true a e r =
          let d = all-true (nat_eq b m) (same_trail (Far w b) q) e in
          let F : ℕ → Type 0 = λ j. Among (Has q j v) (items c) in
          let G : Trail → Type 0 = λ p. Among (Has p b v) (items c) in
          let k = subst G (sym (trail-true (Far w b) q d.1)) (subst F (sym (eqb-true b m d.0)) here) in
          elim (Among-either x Names Indices r) [
            | inl i ↦ by b (find c w.path w.row) (at (rows S.checked) w.row).node (at (rows S.checked) w.user).node a k
                refl refl refl i
            | inr i ↦ index-woken-only ls turns w q m b v x begins here a k i
          ]
      when b false a e r = absurd r

      start : (o : Option ℕ) → awaited S.checked w.user ≡ o
          → Among x (if is_awaited_by S.checked c q m w o then Names ++ Indices else [])
          → Given S c chained x
      start None a r = absurd r
      start (Some b) a r = when b (nat_eq b m && same_trail (Far w b) q) a refl r

  pub all-woken-only : (l : Links) → AreTurns (rows S.checked) l.turns
      → (ws : List Wait) (q : Trail) (m : ℕ) (v : RowValue) (x : RowFact)
      → ((p : Trail) (n : ℕ) (a : RowValue) → Among (Has p n a) (items c) → BeginsIn S c chained p)
      → Among (Has q m v) (items c) → Among x (all_woken S.checked l c q m v ws) → Given S c chained x
  all-woken-only l turns [] q m v x begins here h = absurd h
  all-woken-only l turns (w ∷ ws) q m v x begins here h =
      elim (Among-either x (woken S.checked l c q m v w) (all_woken S.checked l c q m v ws) h) [
        | inl i ↦ woken-only l turns w q m v x begins here i
        | inr i ↦ all-woken-only l turns ws q m v x begins here i
      ]
