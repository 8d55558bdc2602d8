-- All that is found to follow from a fact of cells, rows give from facts that are there.
use Rattle.std.proofs.Common.{◌≡◌, inl, inr, ℕ, ℤ, true, List, [], ◌∷◌, ◌++◌}
use Rattle.std.proofs.Common.{refl, sym, subst}
use Rattle.std.specs.Prelude.{pos}
use Rattle.std.proofs.lemmas.Bool.{false≢true}
use Rattle.id_value.specs.List.{Among}
use Rattle.id_value.proofs.AmongLemmas.{Among-either}
use Rattle.id_table.specs.declared.row.Node.{Node}
use Rattle.id_table.specs.declared.row.Node.TheVariants as node
use Rattle.id_table.specs.Rows.{at}
use Rattle.id_table.specs.Tables.{is_switches, is_thing}
use Rattle.id_check.specs.Programs.{rows}
use Rattle.id_facts.specs.declared.cells.Cells.{Cells}
use Rattle.id_facts.specs.declared.cells.Point.{Point}
use Rattle.id_facts.specs.declared.facts.RowFact.{RowFact}
use Rattle.id_facts.specs.declared.facts.RowFact.TheVariants.{On, Has, Shape, Put, Ask}
use Rattle.id_facts.specs.declared.facts.RowValue.{RowValue}
use Rattle.id_facts.specs.declared.facts.RowValue.TheVariants.{Name}
use Rattle.id_facts.specs.declared.facts.Sort.TheVariants.{Named, Puts, Asks}
use Rattle.id_facts.specs.declared.facts.Trail.{Trail}
use Rattle.id_facts.specs.declared.facts.Trail.TheVariants.{Outermost, Below}
use Rattle.id_source.specs.declared.links.Links.{Links}
use Rattle.id_facts.specs.declared.queues.Queues.{Queues}
use Rattle.id_source.specs.Sources.{Source}
use Rattle.id_source.specs.Links.{AreTurns, TurnsOn, targets}
use Rattle.id_facts.specs.Cells.{AreChained, ask_by, asks, chain, items, named, named_by, put_by, puts, queue_of}
use Rattle.id_facts.specs.RowFacts.{chain_by, fact_at}
use Rattle.id_meaning.specs.Effects.{all_effects, all_woken, begin_at, call_at, effects, exit_at, gain, gains, index_at}
use Rattle.id_meaning.specs.Effects.{loop_by, pass_of, reached, start_at}
use Rattle.id_facts.specs.Queues.{queue}
use Rattle.id_meaning.specs.Given.{given}
use Rattle.id_facts.specs.Firsts.{ons}
use Rattle.id_facts.specs.Listed.{AreFound}
use Rattle.id_source.specs.Things.{IsThing}
use Rattle.id_meaning.proofs.KnownLemmas.{among-inside}
use Rattle.id_facts.proofs.LookupLemmas.{ask-true, fact-there, named-true, put-true, told-among}
use Rattle.id_meaning.proofs.EffectsLemmas.{Given, given-only, haves-among, ons-among}
use Rattle.id_meaning.proofs.FollowsLemmas.{BeginsIn, answered-only, call-only, exit-only, loop-only, pass-only}
use Rattle.id_meaning.proofs.FollowsLemmas.{start-only}
use Rattle.id_meaning.proofs.WokenLemmas.{all-woken-only, begin-only, index-only}
use Rattle.id_meaning.proofs.RulesLemmas as row

-- switches are no thing
no-switches : (z : Node) → is_switches z ≡ true → is_thing z ≡ true → ⊥
no-switches (node.Switches t) e f = false≢true f
no-switches _ e f = false≢true e

module _ (S : Source) (l : Links) (W : Queues) (c : Cells) (chained : AreChained c)
    (turns : AreTurns (rows S.checked) l.turns)
    (found : AreFound S (items c)) where
  -- the path at which a row Has a value begins at a fact
  begins-in : (p : Trail) (n : ℕ) (v : RowValue) → Among (Has p n v) (items c) → BeginsIn S c chained p
  begins-in Outermost n v h = tt
  begins-in (Below i k) n v h = among-inside (items c) found.before (Has (Below i k) n v) h

  -- ---- a row is On

  -- what it turns On
  ons-only : (p : Trail) (n : ℕ) (x : RowFact) → Among (On p n) (items c)
      → Among x (ons p (targets l.turns.rows.items n)) → Given S c chained x
  ons-only p n x here h =
      let y = ons-among p (targets l.turns.rows.items n) x h in
      let F : RowFact → Type 0 = λ z. Given S c chained z in
      subst F (sym y.2) (turned y.0 (turns.only n y.0 y.1))
    where
      thing : IsThing S n
      thing = found.things (On p n) here

      turned : (a : ℕ) → TurnsOn (rows S.checked) n a → Given S c chained (On p a)
      turned a (inl t) = record { premises = On p n ∷ []; rule = row.turned thing.within t; known = (here, tt) }
      turned a (inr b) = absurd (no-switches (at (rows S.checked) n).node b.0 thing.thing)

  on-only : (p : Trail) (n : ℕ) (x : RowFact) → Among (On p n) (items c) → Among x (effects S.checked l W c (On p n))
      → Given S c chained x
  on-only p n x here h =
      elim (Among-either x (ons p (targets l.turns.rows.items n)) (at_row ++ (call ++ (start ++ begin))) h) [
        | inl i ↦ ons-only p n x here i
        | inr i ↦ more i
      ]
    where
      at_row : List RowFact
      at_row = given S.checked c (On p n) p n

      call : List RowFact
      call = call_at S.checked l c (On p n) p n

      start : List RowFact
      start = start_at S.checked l c (On p n) p n

      begin : List RowFact
      begin = begin_at S.checked l c (On p n) p n

      loops : Among x (start ++ begin) → Given S c chained x
      loops j = elim (Among-either x start begin j) [
        | inl i ↦ start-only S c chained l (On p n) p n x here i
        | inr i ↦ begin-only S c chained l turns (On p n) p n x here i
      ]

      enters : Among x (call ++ (start ++ begin)) → Given S c chained x
      enters j = elim (Among-either x call (start ++ begin) j) [
        | inl i ↦ call-only S c chained l (On p n) p n x here i
        | inr i ↦ loops i
      ]

      more : Among x (at_row ++ (call ++ (start ++ begin))) → Given S c chained x
      more j = elim (Among-either x at_row (call ++ (start ++ begin)) j) [
        | inl i ↦ given-only S c chained (On p n) p n x here i
        | inr i ↦ enters i
      ]

  -- ---- a row Has a value

  -- what comes at a row that reads it
  gain-only : (p : Trail) (n : ℕ) (v : RowValue) (m : ℕ) (x : RowFact) → Among (Has p n v) (items c)
      → Among x (gain S.checked l c p n v m) → Given S c chained x
  gain-only p n v m x here h = elim (Among-either x (given S.checked c (Has p n v) p m) (pass ++ (loop ++ begin)) h) [
    | inl i ↦ given-only S c chained (Has p n v) p m x here i
    | inr i ↦ more i
  ]
    where
      pass : List RowFact
      pass = pass_of S.checked l c p n v (at (rows S.checked) m).node

      loop : List RowFact
      loop = loop_by S.checked l c p n v m (at (rows S.checked) m).node

      begin : List RowFact
      begin = begin_at S.checked l c (Has p n v) p m

      loops : Among x (loop ++ begin) → Given S c chained x
      loops j = elim (Among-either x loop begin j) [
        | inl i ↦ loop-only S c chained l turns p n v m x (begins-in p n v here) here i
        | inr i ↦ begin-only S c chained l turns (Has p n v) p m x here i
      ]

      more : Among x (pass ++ (loop ++ begin)) → Given S c chained x
      more j = elim (Among-either x pass (loop ++ begin) j) [
        | inl i ↦ pass-only S c chained l p m n v x here i
        | inr i ↦ loops i
      ]

  gains-only : (p : Trail) (n : ℕ) (v : RowValue) (ms : List ℕ) (x : RowFact) → Among (Has p n v) (items c)
      → Among x (gains S.checked l c p n v ms) → Given S c chained x
  gains-only p n v [] x here h = absurd h
  gains-only p n v (m ∷ ms) x here h =
      elim (Among-either x (gain S.checked l c p n v m) (gains S.checked l c p n v ms) h) [
        | inl i ↦ gain-only p n v m x here i
        | inr i ↦ gains-only p n v ms x here i
      ]

  has-only : (p : Trail) (n : ℕ) (v : RowValue) (x : RowFact) → Among (Has p n v) (items c)
      → Among x (effects S.checked l W c (Has p n v)) → Given S c chained x
  has-only p n v x here h =
      elim (Among-either x (gains S.checked l c p n v (targets l.reads.rows.items n)) (wakes ++ (exits ++ counts)) h) [
        | inl i ↦ gains-only p n v (targets l.reads.rows.items n) x here i
        | inr i ↦ more i
      ]
    where
      wakes : List RowFact
      wakes = all_woken S.checked l c p n v (queue W.queues.items (queue_of p n))

      exits : List RowFact
      exits = exit_at S.checked c p n v

      counts : List RowFact
      counts = index_at S.checked l c p n v

      ends : Among x (exits ++ counts) → Given S c chained x
      ends j = elim (Among-either x exits counts j) [
        | inl i ↦ exit-only S c chained p n v x (begins-in p n v here) here i
        | inr i ↦ index-only S c chained l turns p n v x (begins-in p n v here) here i
      ]

      more : Among x (wakes ++ (exits ++ counts)) → Given S c chained x
      more j = elim (Among-either x wakes (exits ++ counts) j) [
        | inl i ↦ all-woken-only S c chained l turns (queue W.queues.items (queue_of p n)) p n v x begins-in here i
        | inr i ↦ ends i
      ]

  -- ---- structures

  -- where a structure is said to be a value, it is one
  named-there : (s : ℕ) (q : Point) → Among q (named c s) → Among (Has q.path q.row (Name s)) (items c)
  named-there s q h =
      let k = chain_by Named s (pos 0) in
      let r = told-among (named_by s) (items c) (chain c k) q h in
      fact-there c chained k r.0 (Has q.path q.row (Name s)) r.1 (named-true s q (fact_at (items c) r.0) r.2)

  ask-there : (s : ℕ) (j : ℤ) (q : Point) → Among q (asks c s j) → Among (Ask q.path q.row s j) (items c)
  ask-there s j q h =
      let k = chain_by Asks s j in
      let r = told-among (ask_by s j) (items c) (chain c k) q h in
      fact-there c chained k r.0 (Ask q.path q.row s j) r.1 (ask-true s j q (fact_at (items c) r.0) r.2)

  put-there : (s : ℕ) (j : ℤ) (v : RowValue) → Among v (puts c s j)
      → (q : Trail) × (m : ℕ) × Among (Put q m s j v) (items c)
  put-there s j v h =
      let k = chain_by Puts s j in
      let r = told-among (put_by s j) (items c) (chain c k) v h in
      let y = put-true s j v (fact_at (items c) r.0) r.2 in
      (y.0, y.1, fact-there c chained k r.0 (Put y.0 y.1 s j v) r.1 y.2)

  reached-only : (s : ℕ) (qs : List Point) (x : RowFact)
      → ((q : Point) → Among q qs → Among (Has q.path q.row (Name s)) (items c))
      → Among x (reached S.checked l c s qs) → Given S c chained x
  reached-only s [] x w h = absurd h
  reached-only s (q ∷ qs) x w h =
      elim (Among-either x (gains S.checked l c q.path q.row (Name s) (targets l.reads.rows.items q.row))
      (reached S.checked l c s qs) h) [
        | inl i ↦ gains-only q.path q.row (Name s) (targets l.reads.rows.items q.row) x (w q (inl refl)) i
        | inr i ↦ reached-only s qs x (λ r j. w r (inr j)) i
      ]

  asked-only : (p : Trail) (n s : ℕ) (j : ℤ) (x : RowFact) → Among (Ask p n s j) (items c)
      → Among x (effects S.checked l W c (Ask p n s j)) → Given S c chained x
  asked-only p n s j x here h =
      let r = haves-among p n (puts c s j) x h in
      let y = put-there s j r.0 r.1 in
      let F : RowFact → Type 0 = λ z. Given S c chained z in
      subst F (sym r.2) (record {
        premises = Ask p n s j ∷ Put y.0 y.1 s j r.0 ∷ [];
        rule = row.answered;
        known =
            (here, (y.2, tt));
      })

  -- ---- all facts

  -- what follows from a fact of the cells
  pub effects-only : (g : RowFact) → Among g (items c) → (x : RowFact) → Among x (effects S.checked l W c g)
      → Given S c chained x
  effects-only (On p n) here x h = on-only p n x here h
  effects-only (Has p n v) here x h = has-only p n v x here h
  effects-only (Shape s lo hi) here x h = reached-only s (named c s) x (λ q i. named-there s q i) h
  effects-only (Put p n s j v) here x h =
      answered-only S c chained v p n s j (asks c s j) x here (λ q i. ask-there s j q i) h
  effects-only (Ask p n s j) here x h = asked-only p n s j x here h

  -- what follows from some of them
  pub all-effects-only : (gs : List RowFact) → ((g : RowFact) → Among g gs → Among g (items c)) → (x : RowFact)
      → Among x (all_effects S.checked l W c gs) → Given S c chained x
  all-effects-only [] w x h = absurd h
  all-effects-only (g ∷ gs) w x h =
      elim (Among-either x (effects S.checked l W c g) (all_effects S.checked l W c gs) h) [
        | inl i ↦ effects-only g (w g (inl refl)) x i
        | inr i ↦ all-effects-only gs (λ f j. w f (inr j)) x i
      ]
