-- Where the facts that follow from one stand, among all that do.
use Rattle.std.proofs.Common.{◌≡◌, inl, inr, ℕ, ◌<◌, Bool as Truth, nat_eq, Some, List, [], ◌∷◌, ◌++◌, length}
use Rattle.std.proofs.Common.{if◌then◌else◌, refl, ap, sym, ◌∙◌, subst}
use Rattle.std.proofs.lemmas.Bool.{eq-eqb}
use Rattle.id_value.specs.List.{Among}
use Rattle.id_value.proofs.AmongLemmas.{Among-left, Among-right}
use Rattle.id_table.specs.declared.row.Node.{Node}
use Rattle.id_table.specs.Rows.{at}
use Rattle.id_check.specs.Programs.{Stands, rows}
use Rattle.id_facts.specs.declared.cells.Cells.{Cells}
use Rattle.id_facts.specs.declared.facts.RowFact.{RowFact}
use Rattle.id_facts.specs.declared.facts.RowFact.TheVariants.{On, Has}
use Rattle.id_facts.specs.declared.facts.RowValue.{RowValue}
use Rattle.id_facts.specs.declared.facts.Trail.{Trail}
use Rattle.id_source.specs.declared.links.Links.{Links}
use Rattle.id_facts.specs.declared.queues.Queues.{Queues}
use Rattle.id_facts.specs.declared.queues.Wait.{Wait}
use Rattle.id_source.specs.Sources.{Source}
use Rattle.id_source.specs.Links.{AreArgs, AreReads, Leads, asker_of, beyond, linked_of, targets}
use Rattle.id_facts.specs.Cells.{AreChained, find, items, queue_of}
use Rattle.id_meaning.specs.Effects.{all_woken, begin_at, call_at, effects, exit_at, gain, gains, index_at, loop_by}
use Rattle.id_meaning.specs.Effects.{pass_of, start_at, woken}
use Rattle.id_facts.specs.Queues.{queue}
use Rattle.id_meaning.specs.Given.{given}
use Rattle.id_facts.specs.Firsts.{haves, ons}
use Rattle.id_facts.specs.Listed.{AreFound}
use Rattle.id_facts.proofs.FactsLemmas.{among-at}
use Rattle.id_facts.proofs.LookupLemmas.{find-all, find-true}
use Rattle.id_facts.proofs.FactsLemmas.{IsOnBy}

-- ---- lists of facts

-- what has these values, and what is On at these rows
pub haves-all : (p : Trail) (n : ℕ) (vs : List RowValue) (v : RowValue) → Among v vs → Among (Has p n v) (haves p n vs)
haves-all p n [] v h = absurd h
haves-all p n (u ∷ vs) v (inl e) = inl (ap (λ x. Has p n x) e)
haves-all p n (u ∷ vs) v (inr h) = inr (haves-all p n vs v h)

pub ons-all : (p : Trail) (ns : List ℕ) (n : ℕ) → Among n ns → Among (On p n) (ons p ns)
ons-all p [] n h = absurd h
ons-all p (m ∷ ns) n (inl e) = inl (ap (λ x. On p x) e)
ons-all p (m ∷ ns) n (inr h) = inr (ons-all p ns n h)

-- what comes where the number is itself
pub when-same : (a : ℕ) (x : RowFact) (fs : List RowFact) → Among x fs → Among x (if nat_eq a a then fs else [])
when-same a x fs h = let F : Truth → Type 0 = λ t. Among x (if t then fs else []) in subst F (sym (eq-eqb a a refl)) h

-- ---- the number of a fact

module _ (S : Source) (c : Cells) (chained : AreChained c) (found : AreFound S (items c)) where
  -- what is On by a fact is among the facts, and is found by its number
  pub known-on : {i n : ℕ} {p : Trail} → IsOnBy (items c) i p n → Among (On p n) (items c)
  known-on {i = i} o =
      let F : RowFact → Type 0 = λ f. Among f (items c) in subst F o.fact (among-at (items c) i o.within)

  pub found-by : {i n : ℕ} {p : Trail} → IsOnBy (items c) i p n → find c p n ≡ Some i
  found-by {i = i} {n = n} {p = p} o =
      let r = find-all c chained p n (known-on o) in
      let t = find-true c chained p n r.0 r.1 in
      r.1 ∙ ap (λ j. Some j) (found.apart r.0 i t.within o.within (t.fact ∙ sym o.fact))

-- ---- into the parts of what follows

module _ (S : Source) (l : Links) (W : Queues) (c : Cells) where
  -- what comes where a row is On, by parts
  abbrev Calls : Trail → ℕ → List RowFact
  Calls p n = call_at S.checked l c (On p n) p n

  abbrev Starts : Trail → ℕ → List RowFact
  Starts p n = start_at S.checked l c (On p n) p n

  abbrev Begins : Trail → ℕ → List RowFact
  Begins p n = begin_at S.checked l c (On p n) p n

  -- what comes at a row that is On, by its call, by its loop, and by the bounds of that
  pub from-given : (p : Trail) (n : ℕ) (x : RowFact) → Among x (given S.checked c (On p n) p n)
      → Among x (effects S.checked l W c (On p n))
  from-given p n x h =
      let g = given S.checked c (On p n) p n in
      let rest = Calls p n ++ (Starts p n ++ Begins p n) in
      Among-right x (ons p (targets l.turns.rows.items n)) (g ++ rest) (Among-left x g rest h)

  pub from-call : (p : Trail) (n : ℕ) (x : RowFact) → Among x (call_at S.checked l c (On p n) p n)
      → Among x (effects S.checked l W c (On p n))
  from-call p n x h =
      let g = given S.checked c (On p n) p n in
      let rest = Starts p n ++ Begins p n in
      Among-right x (ons p (targets l.turns.rows.items n)) (g ++ (Calls p n ++ rest))
      (Among-right x g (Calls p n ++ rest) (Among-left x (Calls p n) rest h))

  pub from-start : (p : Trail) (n : ℕ) (x : RowFact) → Among x (start_at S.checked l c (On p n) p n)
      → Among x (effects S.checked l W c (On p n))
  from-start p n x h =
      let g = given S.checked c (On p n) p n in
      let rest = Starts p n ++ Begins p n in
      Among-right x (ons p (targets l.turns.rows.items n)) (g ++ (Calls p n ++ rest))
      (Among-right x g (Calls p n ++ rest) (Among-right x (Calls p n) rest (Among-left x (Starts p n) (Begins p n) h)))

  pub from-begin : (p : Trail) (n : ℕ) (x : RowFact) → Among x (begin_at S.checked l c (On p n) p n)
      → Among x (effects S.checked l W c (On p n))
  from-begin p n x h =
      let g = given S.checked c (On p n) p n in
      let rest = Starts p n ++ Begins p n in
      Among-right x (ons p (targets l.turns.rows.items n)) (g ++ (Calls p n ++ rest))
      (Among-right x g (Calls p n ++ rest) (Among-right x (Calls p n) rest (Among-right x (Starts p n) (Begins p n) h)))

  -- what comes at one of these rows
  pub gains-all : (p : Trail) (n : ℕ) (v : RowValue) (x : RowFact) (m : ℕ) (ms : List ℕ) → Among m ms
      → Among x (gain S.checked l c p n v m) → Among x (gains S.checked l c p n v ms)
  gains-all p n v x m [] h k = absurd h
  gains-all p n v x m (a ∷ ms) (inl e) k =
      let F : ℕ → Type 0 = λ b. Among x (gain S.checked l c p n v b) in
      Among-left x (gain S.checked l c p n v a) (gains S.checked l c p n v ms) (subst F e k)
  gains-all p n v x m (a ∷ ms) (inr h) k =
      Among-right x (gain S.checked l c p n v a) (gains S.checked l c p n v ms) (gains-all p n v x m ms h k)

  -- what comes where a row Has a value, by parts
  abbrev Wakes : Trail → ℕ → RowValue → List RowFact
  Wakes p n v = all_woken S.checked l c p n v (queue W.queues.items (queue_of p n))

  abbrev Counts : Trail → ℕ → RowValue → List RowFact
  Counts p n v = exit_at S.checked c p n v ++ index_at S.checked l c p n v

  -- what comes at a row that reads this one
  pub from-gain : (p : Trail) (n : ℕ) (v : RowValue) (x : RowFact) (m : ℕ) → Leads l.reads n m
      → Among x (gain S.checked l c p n v m) → Among x (effects S.checked l W c (Has p n v))
  from-gain p n v x m h k =
      let ms = targets l.reads.rows.items n in
      Among-left x (gains S.checked l c p n v ms) (Wakes p n v ++ Counts p n v) (gains-all p n v x m ms h k)

  -- and of that what comes by an argument, by the switches or a `next` of a loop, and by the bounds of one
  pub from-pass : (p : Trail) (n : ℕ) (v : RowValue) (x : RowFact) (m : ℕ) (z : Node) → Stands S.checked m z
      → Leads l.reads n m → Among x (pass_of S.checked l c p n v z) → Among x (effects S.checked l W c (Has p n v))
  from-pass p n v x m z st h k =
      let y = (at (rows S.checked) m).node in
      let F : Node → Type 0 = λ a. Among x (pass_of S.checked l c p n v a) in
      let a = given S.checked c (Has p n v) p m in
      let b = pass_of S.checked l c p n v y in
      let rest = loop_by S.checked l c p n v m y ++ begin_at S.checked l c (Has p n v) p m in
      from-gain p n v x m h (Among-right x a (b ++ rest) (Among-left x b rest (subst F (sym st.node) k)))

  pub from-loop : (p : Trail) (n : ℕ) (v : RowValue) (x : RowFact) (m : ℕ) (z : Node) → Stands S.checked m z
      → Leads l.reads n m → Among x (loop_by S.checked l c p n v m z) → Among x (effects S.checked l W c (Has p n v))
  from-loop p n v x m z st h k =
      let y = (at (rows S.checked) m).node in
      let F : Node → Type 0 = λ a. Among x (loop_by S.checked l c p n v m a) in
      let a = given S.checked c (Has p n v) p m in
      let b = pass_of S.checked l c p n v y in
      let d = loop_by S.checked l c p n v m y in
      let e = begin_at S.checked l c (Has p n v) p m in
      from-gain p n v x m h
      (Among-right x a (b ++ (d ++ e)) (Among-right x b (d ++ e) (Among-left x d e (subst F (sym st.node) k))))

  pub from-bound : (p : Trail) (n : ℕ) (v : RowValue) (x : RowFact) (m : ℕ) → Leads l.reads n m
      → Among x (begin_at S.checked l c (Has p n v) p m) → Among x (effects S.checked l W c (Has p n v))
  from-bound p n v x m h k =
      let y = (at (rows S.checked) m).node in
      let a = given S.checked c (Has p n v) p m in
      let b = pass_of S.checked l c p n v y in
      let d = loop_by S.checked l c p n v m y in
      let e = begin_at S.checked l c (Has p n v) p m in
      from-gain p n v x m h (Among-right x a (b ++ (d ++ e)) (Among-right x b (d ++ e) (Among-right x d e k)))

  woken-all : (p : Trail) (n : ℕ) (v : RowValue) (x : RowFact) (w : Wait) (ws : List Wait) → Among w ws
      → Among x (woken S.checked l c p n v w) → Among x (all_woken S.checked l c p n v ws)
  woken-all p n v x w [] h k = absurd h
  woken-all p n v x w (a ∷ ws) (inl e) k =
      let F : Wait → Type 0 = λ b. Among x (woken S.checked l c p n v b) in
      Among-left x (woken S.checked l c p n v a) (all_woken S.checked l c p n v ws) (subst F e k)
  woken-all p n v x w (a ∷ ws) (inr h) k =
      Among-right x (woken S.checked l c p n v a) (all_woken S.checked l c p n v ws) (woken-all p n v x w ws h k)

  -- what comes by one that waits for the value
  pub from-woken : (p : Trail) (n : ℕ) (v : RowValue) (x : RowFact) (w : Wait)
      → Among w (queue W.queues.items (queue_of p n)) → Among x (woken S.checked l c p n v w)
      → Among x (effects S.checked l W c (Has p n v))
  from-woken p n v x w h k =
      let ws = queue W.queues.items (queue_of p n) in
      Among-right x (gains S.checked l c p n v (targets l.reads.rows.items n)) (Wakes p n v ++ Counts p n v)
      (Among-left x (Wakes p n v) (Counts p n v) (woken-all p n v x w ws h k))

  -- what comes where a call or a loop ends
  pub from-exit : (p : Trail) (n : ℕ) (v : RowValue) (x : RowFact) → Among x (exit_at S.checked c p n v)
      → Among x (effects S.checked l W c (Has p n v))
  from-exit p n v x h =
      Among-right x (gains S.checked l c p n v (targets l.reads.rows.items n)) (Wakes p n v ++ Counts p n v)
      (Among-right x (Wakes p n v) (Counts p n v)
      (Among-left x (exit_at S.checked c p n v) (index_at S.checked l c p n v) h))

  -- and where an index has a value
  pub from-index : (p : Trail) (n : ℕ) (v : RowValue) (x : RowFact) → Among x (index_at S.checked l c p n v)
      → Among x (effects S.checked l W c (Has p n v))
  from-index p n v x h =
      Among-right x (gains S.checked l c p n v (targets l.reads.rows.items n)) (Wakes p n v ++ Counts p n v)
      (Among-right x (Wakes p n v) (Counts p n v)
      (Among-right x (exit_at S.checked c p n v) (index_at S.checked l c p n v) h))

  -- ---- who reads, and who asks

  -- a row is linked to from what it reads, and from what asks for it
  pub reader : AreReads S.checked l.reads → (m a : ℕ) (z : Node) → Stands S.checked m z → a < length (rows S.checked)
      → Among a (linked_of (rows S.checked) (beyond S.checked m z) z) → Leads l.reads a m
  reader reads m a z st w h =
      let F : Node → Type 0 = λ y. Among a (linked_of (rows S.checked) (beyond S.checked m y) y) in
      reads.all m a st.within w (subst F (sym st.node) h)

  pub asker : AreArgs S.checked l.args → (m e : ℕ) (z : Node) → Stands S.checked m z → e < length (rows S.checked)
      → asker_of (at (rows S.checked) m).block z ≡ Some e → Leads l.args e m
  asker args m e z st w h = args.all m e st.within w (ap (λ y. asker_of (at (rows S.checked) m).block y) st.node ∙ h)
