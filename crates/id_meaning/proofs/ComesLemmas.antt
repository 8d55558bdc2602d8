-- What comes at a row is among the effects of a fact, and what is known of rows is seen there.
use Rattle.std.proofs.Common.{◌≡◌, inl, inr, ℕ, ◌&&◌, nat_eq, ℤ, Bool as Truth, true, false, Option, None, Some, List}
use Rattle.std.proofs.Common.{[], ◌∷◌, ◌++◌}
use Rattle.std.proofs.Common.{if◌then◌else◌, refl, ap, sym, ◌∙◌, subst}
use Rattle.std.specs.Prelude.{pos, ◌||◌}
use Rattle.std.specs.Ordering.{int_eq}
use Rattle.std.proofs.lemmas.Cmp.{int_eq_equiv}
use Rattle.std.proofs.lemmas.Bool.{eq-eqb, eqb-true}
use Rattle.id_value.specs.List.{Among}
use Rattle.id_value.proofs.AmongLemmas.{Among-left, Among-right}
use Rattle.id_value.specs.Bounds.{is_inside}
use Rattle.id_table.specs.declared.row.Node.{Node}
use Rattle.id_table.specs.Rows.{at}
use Rattle.id_check.specs.Programs.{rows}
use Rattle.id_facts.specs.declared.cells.Bounds.{Bounds}
use Rattle.id_facts.specs.declared.cells.Cells.{Cells}
use Rattle.id_facts.specs.declared.cells.Point.{Point}
use Rattle.id_facts.specs.declared.facts.RowFact.{RowFact}
use Rattle.id_facts.specs.declared.facts.RowFact.TheVariants.{On, Has, Shape, Put, Ask}
use Rattle.id_facts.specs.declared.facts.RowValue.{RowValue}
use Rattle.id_facts.specs.declared.facts.RowValue.TheVariants.{Name}
use Rattle.id_facts.specs.declared.facts.Sort.TheVariants.{Shapes, Named, Puts, Asks}
use Rattle.id_facts.specs.declared.facts.Trail.{Trail}
use Rattle.id_source.specs.declared.links.Links.{Links}
use Rattle.id_facts.specs.declared.queues.Queues.{Queues}
use Rattle.id_source.specs.Sources.{Source}
use Rattle.id_source.specs.Links.{Leads, targets}
use Rattle.id_facts.specs.Cells.{AreChained, ask_by, asks, bounds_by, find, items, name_of, named, named_by, put_by}
use Rattle.id_facts.specs.Cells.{puts}
use Rattle.id_facts.specs.RowFacts.{chain_by, chain_of, fact_at}
use Rattle.id_facts.specs.RowFacts.{same_trail}
use Rattle.id_facts.specs.Cells.{shapes, value_by}
use Rattle.id_meaning.specs.Effects.{all_effects, begin_at, call_at, effects, gain, gains}
use Rattle.id_meaning.specs.Given.{from_found, from_on, given, given_of, is_in_some}
use Rattle.id_meaning.specs.Effects.{loop_by, pass_of, reached, start_at}
use Rattle.id_facts.specs.Firsts.{ons}
use Rattle.id_facts.proofs.FactsLemmas.{index-of}
use Rattle.id_facts.proofs.LookupLemmas.{told-all}
use Rattle.id_meaning.proofs.PartsFollowLemmas.{from-gain, gains-all, ons-all}

-- ---- lists of facts

-- an index that is inside one of some bounds is inside some
pub inside-some : (bs : List Bounds) (b : Bounds) (j : ℤ) → Among b bs → is_inside b.low b.high j ≡ true
    → is_in_some bs j ≡ true
inside-some [] b j h e = absurd h
inside-some (d ∷ bs) b j (inl q) e =
    let F : Truth → Type 0 = λ t. (t || is_in_some bs j) ≡ true in
    subst F (sym (ap (λ z. is_inside z.low z.high j) (sym q) ∙ e)) refl
inside-some (d ∷ bs) b j (inr h) e = go (is_inside d.low d.high j) (inside-some bs b j h e)
  where
    go : (t : Truth) → is_in_some bs j ≡ true → (t || is_in_some bs j) ≡ true
    go true k = refl
    go false k = k

-- ---- what rows are seen to have

-- another row's fact tells nothing of this one
pub rows-differ : (p q : Trail) (n m : ℕ) (v : RowValue) → (n ≡ m → ⊥) → value_by p n (Has q m v) ≡ None
rows-differ p q n m v d = go (same_trail q p) (nat_eq m n) refl
  where
    go : (s t : Truth) → nat_eq m n ≡ t → (if s && t then Some v else None) ≡ None
    go false t e = refl
    go true false e = refl
    go true true e = absurd (d (sym (eqb-true m n e)))

module _ (c : Cells) (chained : AreChained c) where
  fact-in : (f : RowFact) → Among f (items c) → (i : ℕ) × Leads c.chains (chain_of f) i × (fact_at (items c) i ≡ f)
  fact-in f h =
      let r = index-of f (items c) h in
      let F : ℕ → Type 0 = λ k. Leads c.chains k r.0 in
      (r.0, subst F (ap chain_of r.2) (chained.there r.0 r.1), r.2)

  -- what is looked up is found
  pub shapes-all : (s : ℕ) (lo hi : ℤ) → Among (Shape s lo hi) (items c)
      → Among (record { low = lo; high = hi }) (shapes c s)
  shapes-all s lo hi h =
      let r = fact-in (Shape s lo hi) h in
      let b : Bounds = record { low = lo; high = hi } in
      let is : bounds_by s (Shape s lo hi) ≡ Some b = ap (λ t. if t then Some b else None) (eq-eqb s s refl) in
      told-all (bounds_by s) (items c) (targets c.chains.rows.items (chain_by Shapes s (pos 0))) r.0 b r.1
      (ap (bounds_by s) r.2 ∙ is)

  pub puts-all : (p : Trail) (n s : ℕ) (j : ℤ) (v : RowValue) → Among (Put p n s j v) (items c) → Among v (puts c s j)
  puts-all p n s j v h =
      let r = fact-in (Put p n s j v) h in
      let is : put_by s j (Put p n s j v) ≡ Some v =
      ap (λ t. if t && int_eq j j then Some v else None) (eq-eqb s s refl)
      ∙ ap (λ t. if t then Some v else None) (int_eq_equiv.refl j) in
      told-all (put_by s j) (items c) (targets c.chains.rows.items (chain_by Puts s j)) r.0 v r.1 (ap (put_by s j) r.2
      ∙ is)

  pub asks-all : (p : Trail) (n s : ℕ) (j : ℤ) → Among (Ask p n s j) (items c)
      → Among (record { path = p; row = n }) (asks c s j)
  asks-all p n s j h =
      let r = fact-in (Ask p n s j) h in
      let q : Point = record { path = p; row = n } in
      let is : ask_by s j (Ask p n s j) ≡ Some q =
      ap (λ t. if t && int_eq j j then Some q else None) (eq-eqb s s refl)
      ∙ ap (λ t. if t then Some q else None) (int_eq_equiv.refl j) in
      told-all (ask_by s j) (items c) (targets c.chains.rows.items (chain_by Asks s j)) r.0 q r.1 (ap (ask_by s j) r.2
      ∙ is)

  pub named-all : (p : Trail) (n s : ℕ) → Among (Has p n (Name s)) (items c)
      → Among (record { path = p; row = n }) (named c s)
  named-all p n s h =
      let r = index-of (Has p n (Name s)) (items c) h in
      let q : Point = record { path = p; row = n } in
      let is : named_by s (Has p n (Name s)) ≡ Some q = ap (λ t. if t then Some q else None) (eq-eqb s s refl) in
      told-all (named_by s) (items c) (targets c.chains.rows.items (chain_by Named s (pos 0))) r.0 q
      (chained.named r.0 s r.1 (ap name_of r.2))
      (ap (named_by s) r.2 ∙ is)

-- ---- what is among the effects

module _ (S : Source) (l : Links) (W : Queues) (c : Cells) where
  -- what a row that is On turns On
  pub from-turns : (p : Trail) (n a : ℕ) → Leads l.turns n a → Among (On p a) (effects S.checked l W c (On p n))
  from-turns p n a h =
      let g = On p n in
      let ns = targets l.turns.rows.items n in
      Among-left (On p a) (ons p ns)
      (given S.checked c g p n
      ++ (call_at S.checked l c g p n ++ (start_at S.checked l c g p n ++ begin_at S.checked l c g p n)))
      (ons-all p ns a h)

  -- what comes at a row that reads, by its node
  gain-given : (p : Trail) (n : ℕ) (v : RowValue) (m : ℕ) (x : RowFact) → Among x (given S.checked c (Has p n v) p m)
      → Among x (gain S.checked l c p n v m)
  gain-given p n v m x h =
      let z = (at (rows S.checked) m).node in
      Among-left x (given S.checked c (Has p n v) p m)
      (pass_of S.checked l c p n v z ++ (loop_by S.checked l c p n v m z ++ begin_at S.checked l c (Has p n v) p m)) h

  pub from-reader : (p : Trail) (n : ℕ) (v : RowValue) (m : ℕ) (x : RowFact) → Leads l.reads n m
      → Among x (given S.checked c (Has p n v) p m) → Among x (effects S.checked l W c (Has p n v))
  from-reader p n v m x k h = from-gain S l W c p n v x m k (gain-given p n v m x h)

  -- where a structure has bounds that is a value
  reached-in : (s : ℕ) (qs : List Point) (q : Point) (m : ℕ) (x : RowFact) → Among q qs → Leads l.reads q.row m
      → Among x (gain S.checked l c q.path q.row (Name s) m) → Among x (reached S.checked l c s qs)
  reached-in s [] q m x h e k = absurd h
  reached-in s (u ∷ qs) q m x (inl e) d k =
      let F : Point → Type 0 =
      λ i. Among x (gains S.checked l c i.path i.row (Name s) (targets l.reads.rows.items i.row)) in
      Among-left x (gains S.checked l c u.path u.row (Name s) (targets l.reads.rows.items u.row))
      (reached S.checked l c s qs)
      (subst F e (gains-all S l W c q.path q.row (Name s) x m (targets l.reads.rows.items q.row) d k))
  reached-in s (u ∷ qs) q m x (inr h) d k =
      Among-right x (gains S.checked l c u.path u.row (Name s) (targets l.reads.rows.items u.row))
      (reached S.checked l c s qs)
      (reached-in s qs q m x h d k)

  pub from-shape : AreChained c → (s : ℕ) (lo hi : ℤ) (p : Trail) (n m : ℕ) (x : RowFact)
      → Among (Has p n (Name s)) (items c) → Leads l.reads n m
      → Among x (given S.checked c (Has p n (Name s)) p m) → Among x (effects S.checked l W c (Shape s lo hi))
  from-shape chained s lo hi p n m x h d k =
      reached-in s (named c s) (record { path = p; row = n }) m x (named-all c chained p n s h) d
      (gain-given p n (Name s) m x k)

  -- and what follows from one of some facts is among what follows from these
  pub all-effects-in : (gs : List RowFact) (g x : RowFact) → Among g gs → Among x (effects S.checked l W c g)
      → Among x (all_effects S.checked l W c gs)
  all-effects-in [] g x h k = absurd h
  all-effects-in (f ∷ gs) g x (inl e) k =
      let F : RowFact → Type 0 = λ y. Among x (effects S.checked l W c y) in
      Among-left x (effects S.checked l W c f) (all_effects S.checked l W c gs) (subst F e k)
  all-effects-in (f ∷ gs) g x (inr h) k =
      Among-right x (effects S.checked l W c f) (all_effects S.checked l W c gs) (all-effects-in gs g x h k)

-- ---- what comes at a row of a node

module _ (S : Source) (c : Cells) (chained : AreChained c) where
  -- at a row of this node
  pub given-at : (g : RowFact) (p : Trail) (n : ℕ) (z : Node) (x : RowFact) → (at (rows S.checked) n).node ≡ z
      → Among x (given_of S.checked c g p n z) → Among x (given S.checked c g p n)
  given-at g p n z x e h = let F : Node → Type 0 = λ y. Among x (given_of S.checked c g p n y) in subst F (sym e) h

  -- that is On
  pub found-at : (g : RowFact) (p : Trail) (n i : ℕ) (z : Node) (x : RowFact) → find c p n ≡ Some i
      → Among x (from_on S.checked c g p n i z) → Among x (from_found S.checked c g p n z (find c p n))
  found-at g p n i z x e h =
      let F : Option ℕ → Type 0 = λ o. Among x (from_found S.checked c g p n z o) in subst F (sym e) h
