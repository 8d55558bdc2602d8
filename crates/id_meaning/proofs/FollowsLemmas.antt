-- What follows from a fact of cells, rows give from facts that are there.
use Rattle.std.proofs.Common.{◌≡◌, inl, inr, ℕ, zero, suc, ◌<◌, ◌+◌, ℤ, Bool as Truth, true, false, ◌&&◌}
use Rattle.std.proofs.Common.{nat_eq, nat_lt, Option, None, Some, List, [], ◌∷◌, length, if◌then◌else◌}
use Rattle.std.proofs.Common.{refl, ap, sym, ◌∙◌, subst, arith}
use Rattle.std.specs.Prelude.{slice_get}
use Rattle.std.proofs.lemmas.Bool.{eqb-true, false≢true}
use Rattle.id_value.specs.List.{Among}
use Rattle.id_value.proofs.AmongLemmas.{Among-either}
use Rattle.id_value.specs.declared.Kind.{Kind}
use Rattle.id_table.specs.declared.row.Node.{Node}
use Rattle.id_table.specs.declared.row.Node.TheVariants as node
use Rattle.id_table.specs.Rows.{at}
use Rattle.id_table.specs.Tables.{is_arg, is_call, is_def, is_loop, is_next, is_switches, is_within}
use Rattle.id_table.specs.Turns.{Turns, params_at}
use Rattle.id_table.specs.Turns as turn
use Rattle.id_check.specs.Programs.{Calls, Stands, binder, rows}
use Rattle.id_check.proofs.ProgramsLemmas.{callee_row}
use Rattle.id_meaning.specs.declared.calls.OnCall.{OnCall}
use Rattle.id_facts.specs.declared.cells.Cells.{Cells}
use Rattle.id_facts.specs.declared.cells.Point.{Point}
use Rattle.id_facts.specs.declared.facts.RowFact.{RowFact}
use Rattle.id_facts.specs.declared.facts.RowFact.TheVariants.{On, Has, Put, Ask}
use Rattle.id_facts.specs.declared.facts.RowValue.{RowValue}
use Rattle.id_facts.specs.declared.facts.RowValue.TheVariants.{Int, Bool, Name}
use Rattle.id_facts.specs.declared.facts.Trail.{Trail}
use Rattle.id_facts.specs.declared.facts.Trail.TheVariants.{Outermost, Below}
use Rattle.id_source.specs.declared.links.Links.{Links}
use Rattle.id_meaning.specs.declared.loops.Iteration.{Iteration}
use Rattle.id_source.specs.Sources.{Source}
use Rattle.id_source.specs.Facts.{LoopStands, NextStands}
use Rattle.id_source.specs.Links.{AreTurns, BodyTurns, TurnsOn, far_from, some_row, targets, test_of_loop}
use Rattle.id_facts.specs.Cells.{AreChained, find, items, next_of, out_of}
use Rattle.id_facts.specs.RowFacts.{fact_at}
use Rattle.id_facts.specs.Cells.{values}
use Rattle.id_meaning.specs.Effects.{all_passed, all_passes, call_at, call_by, callee_by, callee_of, entered}
use Rattle.id_meaning.specs.Effects.{entered_by, entered_of}
use Rattle.id_meaning.specs.Given.{answered}
use Rattle.id_facts.specs.Firsts.{haves, ons}
use Rattle.id_meaning.specs.Effects.{first_of, firsts, has_at, iteration_by, iteration_in, iteration_of, loop_by}
use Rattle.id_meaning.specs.Effects.{next_by, on_at, start_at, start_by}
use Rattle.id_meaning.specs.Given.{seen}
use Rattle.id_meaning.specs.Effects.{body_in, exit_at, exit_by, is_end, is_row, switches_by, turn_by}
use Rattle.id_meaning.specs.Effects.{param_haves, param_row, pass_by, pass_of, passed_of}
use Rattle.id_meaning.proofs.ArgumentsLemmas.{argument-get, param_row-some, row-within}
use Rattle.id_meaning.proofs.EffectsLemmas.{Given, haves-among, ons-among}
use Rattle.id_facts.proofs.LookupLemmas.{find-true, values-true}
use Rattle.id_facts.proofs.FactsLemmas.{IsOnBy}
use Rattle.id_meaning.proofs.RulesLemmas as row

pub some-is : {A : Type 0} (x y : A) → Some x ≡ Some y → x ≡ y
some-is x y e = cc

def-head : (x y h g b d : ℕ) (k j : Kind) → node.Def x h k b ≡ node.Def y g j d → h ≡ g
def-head x y h g b d k j e = cc

module _ (S : Source) (c : Cells) (chained : AreChained c) where
  pub same : (x y : RowFact) → x ≡ y → Given S c chained y → Given S c chained x
  same x y e g = let F : RowFact → Type 0 = λ z. Given S c chained z in subst F (sym e) g

  -- the call at the row n at the path is On
  record IsCalled (p : Trail) (n : ℕ) (k : OnCall) : Type 0 where
    pub count : ℕ
    pub def : ℕ
    pub name : ℕ
    pub kind : Kind
    pub number : ℕ
    pub call : Stands S.checked n (node.Call k.enter count)
    pub binder : binder S.checked k.enter ≡ Some def
    pub definition : Stands S.checked def (node.Def name k.head kind k.body)
    pub on : IsOnBy (items c) number p n
    pub known : Among (On p n) (items c)
    pub path : k.path ≡ Below number 0

  pub on-there : (p : Trail) (n i : ℕ) → IsOnBy (items c) i p n → Among (On p n) (items c)
  on-there p n i o = let F : RowFact → Type 0 = λ f. Among f (items c) in subst F o.fact (in-list (items c) i o.within)
    where
      in-list : (fs : List RowFact) (i : ℕ) → i < length fs → Among (fact_at fs i) fs
      in-list [] i l = absurd (omega arith)
      in-list (f ∷ fs) zero l = inl refl
      in-list (f ∷ fs) (suc i) l = inr (in-list fs i (omega arith))

  def-stands : (d x h b : ℕ) (k : Kind) → (at (rows S.checked) d).node ≡ node.Def x h k b
      → Stands S.checked d (node.Def x h k b)
  def-stands d x h b k e = record { within = row-within (rows S.checked) d is_def refl (ap is_def e); node = e }

  called : (p : Trail) (n e m : ℕ) (k : OnCall) → (at (rows S.checked) n).node ≡ node.Call e m → (o : Option ℕ)
      → find c p n ≡ o → (b : Option ℕ) → binder S.checked e ≡ b → (z : Node) → callee_by S.checked b ≡ z
      → entered_by e o z ≡ Some k → IsCalled p n k
  called p n e m k f (Some i) g (Some d) u (node.Def x h j b) v w =
      let q = some-is (record { enter = e; path = Below i 0; head = h; body = b }) k w in
      let o = find-true c chained p n i g in
      let F : OnCall → Type 0 = λ y. IsCalled p n y in
      subst F q (record {
        count = m;
        def = d;
        name = x;
        kind = j;
        number = i;
        call = record { within = row-within (rows S.checked) n is_call refl (ap is_call f); node = f };
        binder = u;
        definition = def-stands d x h b j v;
        on = o;
        known = on-there p n i o;
        path = refl;
      })
  called p n e m k f (Some i) g None u (node.Def x h j b) v w = cc
  called p n e m k f None g b u z v w = cc
  called p n e m k f (Some i) g b u _ v w = cc

  entered-is : (p : Trail) (n : ℕ) (k : OnCall) → entered S.checked c p n ≡ Some k → IsCalled p n k
  entered-is p n k h = go (at (rows S.checked) n).node refl h
    where
      go : (z : Node) → (at (rows S.checked) n).node ≡ z → entered_of S.checked c p n z ≡ Some k → IsCalled p n k
      go (node.Call e m) f w =
          called p n e m k f (find c p n) refl (binder S.checked e) refl (callee_of S.checked e) refl w
      go _ f w = cc

  arg-stands : (m e j a : ℕ) → (at (rows S.checked) m).node ≡ node.Arg e j a → Stands S.checked m (node.Arg e j a)
  arg-stands m e j a f = record { within = row-within (rows S.checked) m is_arg refl (ap is_arg f); node = f }

  -- its procedure is the one that it calls
  calls-of : (p : Trail) (n : ℕ) (k : OnCall) (i : IsCalled p n k) → Calls S.checked k.enter i.def k.head
  calls-of p n k i =
      let r = callee_row S.checked n k.enter i.count i.call in
      let d : r.0 ≡ i.def = some-is r.0 i.def (sym r.2.binder ∙ i.binder) in
      let f : node.Def r.2.name r.1 r.2.result r.2.body ≡ node.Def i.name k.head i.kind k.body =
      sym r.2.definition.node ∙ ap (λ j. (at (rows S.checked) j).node) d ∙ i.definition.node in
      let h : r.1 ≡ k.head = def-head r.2.name i.name r.1 k.head r.2.body k.body r.2.result i.kind f in
      let F : ℕ → Type 0 = λ j. Calls S.checked k.enter i.def j in
      let G : ℕ → Type 0 = λ j. Calls S.checked k.enter j r.1 in
      subst F h (subst G d r.2)

  -- the argument goes to the parameter of its index
  param-of : (p : Trail) (n m j a q : ℕ) (k : OnCall) (i : IsCalled p n k)
      → (at (rows S.checked) m).node ≡ node.Arg k.enter j a → param_row (length (rows S.checked)) k.head j ≡ Some q
      → slice_get (params_at (rows S.checked) k.head) j ≡ Some q
  param-of p n m j a q k i f e =
      let calls = calls-of p n k i in
      argument-get S.checked m k.enter i.def k.head j a calls (arg-stands m k.enter j a f)
      ∙ ap (λ r. Some r) (param_row-some (length (rows S.checked)) k.head j q e)

  pass-given : (p : Trail) (n m j a : ℕ) (k : OnCall) (i : IsCalled p n k) (v : RowValue) (x : RowFact)
      → (at (rows S.checked) m).node ≡ node.Arg k.enter j a → Among (Has p a v) (items c) → (q : ℕ)
      → param_row (length (rows S.checked)) k.head j ≡ Some q → x ≡ Has k.path q v → Given S c chained x
  pass-given p n m j a k i v x f h q e g =
      let y : x ≡ Has (Below i.number 0) q v = g ∙ ap (λ r. Has r q v) i.path in
      same x (Has (Below i.number 0) q v) y (record {
        premises = On p n ∷ Has p a v ∷ [];
        rule = row.passes i.call (arg-stands m k.enter j a f) i.binder i.definition (param-of p n m j a q k i f e) i.on;
        known = (i.known, (h, tt));
      })

  passed-given : (g : RowFact) (p : Trail) (n m : ℕ) (k : OnCall) (i : IsCalled p n k) (z : Node) (x : RowFact)
      → Among g (items c) → (at (rows S.checked) m).node ≡ z → Among x (passed_of S.checked c g p k z)
      → Given S c chained x
  passed-given g p n m k i (node.Arg e j a) x here f h = by (nat_eq e k.enter) refl h
    where
      param : (o : Option ℕ) → (at (rows S.checked) m).node ≡ node.Arg k.enter j a
          → param_row (length (rows S.checked)) k.head j ≡ o → Among x (param_haves k.path o (values c g p a))
          → Given S c chained x
      param None u v w = absurd w
      param (Some q) u v w =
          let r = haves-among k.path q (values c g p a) x w in
          pass-given p n m j a k i r.0 x u (values-true c chained g p a r.0 here r.1) q v r.2

      by : (b : Truth) → nat_eq e k.enter ≡ b
          → Among x (if b
          then On p a ∷ param_haves k.path (param_row (length (rows S.checked)) k.head j) (values c g p a) else [])
          → Given S c chained x
      by true q (inl w) =
          let y = f ∙ ap (λ r. node.Arg r j a) (eqb-true e k.enter q) in
          same x (On p a) w (record {
            premises = On p n ∷ [];
            rule =
                row.asks_argument i.call (arg-stands m k.enter j a y);
            known = (i.known, tt);
          })
      by true q (inr w) =
          let y = f ∙ ap (λ r. node.Arg r j a) (eqb-true e k.enter q) in
          param (param_row (length (rows S.checked)) k.head j) y refl w
      by false q w = absurd w
  passed-given g p n m k i _ x here f h = absurd h

  all-passed-given : (g : RowFact) (p : Trail) (n : ℕ) (k : OnCall) (i : IsCalled p n k) (ms : List ℕ) (x : RowFact)
      → Among g (items c) → Among x (all_passed S.checked c g p k ms) → Given S c chained x
  all-passed-given g p n k i [] x here h = absurd h
  all-passed-given g p n k i (m ∷ ms) x here h =
      elim (Among-either x (passed_of S.checked c g p k (at (rows S.checked) m).node) (all_passed S.checked c g p k ms)
      h) [
        | inl w ↦ passed-given g p n m k i (at (rows S.checked) m).node x here refl w
        | inr w ↦ all-passed-given g p n k i ms x here w
      ]

  -- what comes by a call that is On
  pub call-only : (l : Links) (g : RowFact) (p : Trail) (n : ℕ) (x : RowFact) → Among g (items c)
      → Among x (call_at S.checked l c g p n) → Given S c chained x
  call-only l g p n x here h = go (entered S.checked c p n) refl h
    where
      go : (o : Option OnCall) → entered S.checked c p n ≡ o → Among x (call_by S.checked l c g p n o)
          → Given S c chained x
      go None e w = absurd w
      go (Some k) e (inl w) =
          let i = entered-is p n k e in
          same x (On (Below i.number 0) k.body) (w ∙ ap (λ r. On r k.body) i.path)
          (record {
            premises = On p n ∷ [];
            rule = row.begins i.call i.binder i.definition i.on;
            known =
                (i.known, tt);
          })
      go (Some k) e (inr w) =
          let i = entered-is p n k e in
          let vs = values c g k.path k.body in
          elim (Among-either x (haves p n vs) (all_passed S.checked c g p k (targets l.args.rows.items k.enter)) w) [
            | inl u ↦
                let r = haves-among p n vs x u in
                let F : Trail → Type 0 = λ t. Among (Has t k.body r.0) (items c) in
                same x (Has p n r.0) r.2 (record {
                  premises = On p n ∷ Has (Below i.number 0) k.body r.0 ∷ [];
                  rule = row.ends i.call i.binder i.definition i.on;
                  known = (i.known, (subst F i.path (values-true c chained g k.path k.body r.0 here r.1), tt));
                })
            | inr u ↦ all-passed-given g p n k i (targets l.args.rows.items k.enter) x here u
          ]

  -- what comes by an argument that Has the value
  pub pass-only : (l : Links) (p : Trail) (m a : ℕ) (v : RowValue) (x : RowFact) → Among (Has p a v) (items c)
      → Among x (pass_of S.checked l c p a v (at (rows S.checked) m).node) → Given S c chained x
  pass-only l p m a v x here h = go (at (rows S.checked) m).node refl h
    where
      one : (e j : ℕ) (o : Option OnCall) (n : ℕ) → (at (rows S.checked) m).node ≡ node.Arg e j a
          → entered S.checked c p n ≡ o → Among x (pass_by S.checked e j v o)
          → Given S c chained x
      one e j None n f q w = absurd w
      one e j (Some k) n f q w = by (nat_eq k.enter e) refl w
        where
          param : (o : Option ℕ) → (at (rows S.checked) m).node ≡ node.Arg k.enter j a
              → param_row (length (rows S.checked)) k.head j ≡ o → Among x (param_haves k.path o (v ∷ []))
              → Given S c chained x
          param None y z u = absurd u
          param (Some r) y z (inl u) = pass-given p n m j a k (entered-is p n k q) v x y here r z u
          param (Some r) y z (inr u) = absurd u

          by : (b : Truth) → nat_eq k.enter e ≡ b
              → Among x (if b then param_haves k.path (param_row (length (rows S.checked)) k.head j) (v ∷ []) else [])
              → Given S c chained x
          by true y u =
              param (param_row (length (rows S.checked)) k.head j) (f
              ∙ ap (λ r. node.Arg r j a) (sym (eqb-true k.enter e y))) refl u
          by false y u = absurd u

      each : (e j : ℕ) (ns : List ℕ) → (at (rows S.checked) m).node ≡ node.Arg e j a
          → Among x (all_passes S.checked c p v e j ns) → Given S c chained x
      each e j [] f w = absurd w
      each e j (n ∷ ns) f w =
          elim (Among-either x (pass_by S.checked e j v (entered S.checked c p n)) (all_passes S.checked c p v e j ns)
          w) [
            | inl u ↦ one e j (entered S.checked c p n) n f refl u
            | inr u ↦ each e j ns f u
          ]

      when : (e j b : ℕ) (t : Truth) → (at (rows S.checked) m).node ≡ node.Arg e j b → nat_eq b a ≡ t
          → Among x (if t then all_passes S.checked c p v e j (targets l.reads.rows.items e) else [])
          → Given S c chained x
      when e j b true f q w = each e j (targets l.reads.rows.items e) (f ∙ ap (λ r. node.Arg e j r) (eqb-true b a q)) w
      when e j b false f q w = absurd w

      go : (z : Node) → (at (rows S.checked) m).node ≡ z → Among x (pass_of S.checked l c p a v z) → Given S c chained x
      go (node.Arg e j b) f w = when e j b (nat_eq b a) f refl w
      go _ f w = absurd w

  -- ---- cells

  pub answered-only : (v : RowValue) (q : Trail) (m s : ℕ) (j : ℤ) (bs : List Point) (x : RowFact)
      → Among (Put q m s j v) (items c) → ((a : Point) → Among a bs → Among (Ask a.path a.row s j) (items c))
      → Among x (answered v bs) → Given S c chained x
  answered-only v q m s j [] x here w h = absurd h
  answered-only v q m s j (a ∷ bs) x here w (inl e) =
      same x (Has a.path a.row v) e (record {
        premises = Ask a.path a.row s j ∷ Put q m s j v ∷ [];
        rule = row.answered;
        known = (w a (inl refl), (here, tt));
      })
  answered-only v q m s j (a ∷ bs) x here w (inr h) = answered-only v q m s j bs x here (λ b i. w b (inr i)) h

  -- ---- loops

  pub loop-there : (n h w l : ℕ) → (at (rows S.checked) n).node ≡ node.Loop h w l → Stands S.checked n (node.Loop h w l)
  loop-there n h w l e = record { within = row-within (rows S.checked) n is_loop refl (ap is_loop e); node = e }

  loop-with : (n h w t l : ℕ) → (at (rows S.checked) n).node ≡ node.Loop h w l
      → (at (rows S.checked) w).node ≡ node.Switches t → is_within (at (rows S.checked) t).node ≡ false
      → LoopStands S.checked n h w t l
  loop-with n h w t l e f p = record {
    loop = loop-there n h w l e;
    switches = record { within = row-within (rows S.checked) w is_switches refl (ap is_switches f); node = f };
    predicate = p;
  }

  pub next-stands : (m x k o v h : ℕ) → (at (rows S.checked) m).node ≡ node.Next x k o v
      → (at (rows S.checked) m).block ≡ h → NextStands S.checked m h o v
  next-stands m x k o v h e b =
      record {
        name = x;
        index = k;
        next =
            record { within = row-within (rows S.checked) m is_next refl (ap is_next e); node = e };
        block = b;
      }

  starts-given : (p : Trail) (n i h w l : ℕ) (z : Node) (x : RowFact) → IsOnBy (items c) i p n
      → (at (rows S.checked) n).node ≡ node.Loop h w l → (at (rows S.checked) w).node ≡ z
      → Among x (ons (Below i 0) (some_row (test_of_loop (rows S.checked) z))) → Given S c chained x
  starts-given p n i h w l (node.Switches t) x o e f q = by (is_within (at (rows S.checked) t).node) refl q
    where
      by : (b : Truth) → is_within (at (rows S.checked) t).node ≡ b
          → Among x (ons (Below i 0) (some_row (if b then None else Some t))) → Given S c chained x
      by false a (inl q) =
          same x (On (Below i 0) t) q
          (record {
            premises = On p n ∷ [];
            rule = row.starts (loop-with n h w t l e f a) o;
            known =
                (on-there p n i o, tt);
          })
      by false a (inr k) = absurd k
      by true a k = absurd k
  starts-given p n i h w l _ x o e f k = absurd k

  first-given : (g : RowFact) (p : Trail) (n i h w l m : ℕ) (z : Node) (x : RowFact) → Among g (items c)
      → IsOnBy (items c) i p n → (at (rows S.checked) n).node ≡ node.Loop h w l → (at (rows S.checked) m).node ≡ z
      → Among x (first_of S.checked c g p n (Below i 0) h m z) → Given S c chained x
  first-given g p n i h w l m (node.Next y k u v) x here o e f q =
      by (nat_eq (at (rows S.checked) m).block h) refl (binder S.checked u) refl q
    where
      by : (t : Truth) → nat_eq (at (rows S.checked) m).block h ≡ t → (b : Option ℕ) → binder S.checked u ≡ b
          → Among x (if t then haves (Below i 0) m (seen c g (out_of (items c) (far_from S.checked n b) p) b) else [])
          → Given S c chained x
      by true a (Some b) d j =
          let q = out_of (items c) (far_from S.checked n (Some b)) p in
          let r = haves-among (Below i 0) m (values c g q b) x j in
          same x (Has (Below i 0) m r.0) r.2 (record {
            premises = On p n ∷ Has q b r.0 ∷ [];
            rule = row.enters (loop-there n h w l e)
                (next-stands m y k u v h f (eqb-true (at (rows S.checked) m).block h a)) d o;
            known = (on-there p n i o, (values-true c chained g q b r.0 here r.1, tt));
          })
      by true a None d j = absurd j
      by false a b d j = absurd j
  first-given g p n i h w l m _ x here o e f q = absurd q

  firsts-given : (g : RowFact) (p : Trail) (n i h w l : ℕ) (ms : List ℕ) (x : RowFact) → Among g (items c)
      → IsOnBy (items c) i p n → (at (rows S.checked) n).node ≡ node.Loop h w l
      → Among x (firsts S.checked c g p n (Below i 0) h ms) → Given S c chained x
  firsts-given g p n i h w l [] x here o e k = absurd k
  firsts-given g p n i h w l (m ∷ ms) x here o e k =
      elim (Among-either x (first_of S.checked c g p n (Below i 0) h m (at (rows S.checked) m).node)
      (firsts S.checked c g p n (Below i 0) h ms) k) [
        | inl j ↦ first-given g p n i h w l m (at (rows S.checked) m).node x here o e refl j
        | inr j ↦ firsts-given g p n i h w l ms x here o e j
      ]

  -- what comes by a loop that is On
  pub start-only : (l : Links) (g : RowFact) (p : Trail) (n : ℕ) (x : RowFact) → Among g (items c)
      → Among x (start_at S.checked l c g p n) → Given S c chained x
  start-only l g p n x here k = go (find c p n) refl (at (rows S.checked) n).node refl k
    where
      go : (o : Option ℕ) → find c p n ≡ o → (z : Node) → (at (rows S.checked) n).node ≡ z
          → Among x (start_by S.checked l c g p n o z) → Given S c chained x
      go (Some i) f (node.Loop h w t) e j =
          let o = find-true c chained p n i f in
          elim (Among-either x (ons (Below i 0) (some_row (test_of_loop (rows S.checked) (at (rows S.checked) w).node)))
          (firsts S.checked c g p n (Below i 0) h (targets l.args.rows.items h)) j) [
            | inl y ↦ starts-given p n i h w t (at (rows S.checked) w).node x o e refl y
            | inr y ↦ firsts-given g p n i h w t (targets l.args.rows.items h) x here o e y
          ]
      go (Some i) f _ e j = absurd j
      go None f z e j = absurd j

  -- ---- iterations

  -- the loop is On by the fact of number i
  pub record IsTurn (i : ℕ) (r : Iteration) : Type 0 where
    pub outer : Trail
    pub loop : ℕ
    pub stands : (at (rows S.checked) loop).node ≡ node.Loop r.head r.switches r.last
    pub on : IsOnBy (items c) i outer loop

  pub iteration-is : (i k : ℕ) (r : Iteration) → i < length (items c) → iteration_of S.checked c (Below i k) ≡ Some r
      → IsTurn i r
  iteration-is i k r w e = go (fact_at (items c) i) refl e
    where
      loop : (q : Trail) (m : ℕ) (z : Node) → fact_at (items c) i ≡ On q m → (at (rows S.checked) m).node ≡ z
          → iteration_by z ≡ Some r → IsTurn i r
      loop q m (node.Loop h s l) f g d =
          let u = some-is (record { head = h; switches = s; last = l }) r d in
          let F : Iteration → Type 0 = λ y. IsTurn i y in
          subst F u (record { outer = q; loop = m; stands = g; on = record { within = w; fact = f } })
      loop q m _ f g d = cc

      go : (y : RowFact) → fact_at (items c) i ≡ y → iteration_in S.checked y ≡ Some r → IsTurn i r
      go (On q m) f d = loop q m (at (rows S.checked) m).node f refl d
      go _ f d = cc

  -- switches turn On by the body alone
  pub switches-turn : (w t a : ℕ) → (at (rows S.checked) w).node ≡ node.Switches t → TurnsOn (rows S.checked) w a
      → BodyTurns (rows S.checked) w a
  switches-turn w t a e (inr b) = b.1
  switches-turn w t a e (inl b) = absurd (go b.0)
    where
      no : (z : Node) → (at (rows S.checked) w).node ≡ z → is_switches z ≡ false → ⊥
      no z f g = false≢true (sym g ∙ sym (ap is_switches f) ∙ ap is_switches e)

      go : Turns (rows S.checked) w a → ⊥
      go (turn.operand f) = no _ f refl
      go (turn.left f) = no _ f refl
      go (turn.right f) = no _ f refl
      go (turn.test f g) = no _ f refl
      go (turn.argument f g h) = no _ f refl
      go (turn.index_low f g) = no _ f refl
      go (turn.index_high f g) = no _ f refl
      go (turn.low f) = no _ f refl
      go (turn.high f) = no _ f refl
      go (turn.fetched f) = no _ f refl
      go (turn.fetch_index f) = no _ f refl
      go (turn.address_target f g) = no _ f refl
      go (turn.address_index f g) = no _ f refl
      go (turn.stored_value f) = no _ f refl
      go (turn.body f) = no _ f refl
      go (turn.statement f g h) = no _ f refl
      go (turn.stored f g h) = no _ f refl

  turn-given : (l : Links) → AreTurns (rows S.checked) l.turns
      → (i k : ℕ) (r : Iteration) (u : IsTurn i r) (t : ℕ) (v : RowValue) (x : RowFact)
      → (at (rows S.checked) r.switches).node ≡ node.Switches t → is_within (at (rows S.checked) t).node ≡ false
      → Among (Has (Below i k) t v) (items c) → Among x (turn_by l (Below i k) r t v) → Given S c chained x
  turn-given l turns i k r u t (Bool true) x s p here h =
      let ts = targets l.turns.rows.items r.switches in
      elim (Among-either x (on_at (next_of (Below i k)) t) (ons (Below i k) ts) h) [
        | inl j ↦ again (nat_lt k 18446744073709551615) j
        | inr j ↦
            let y = ons-among (Below i k) (targets l.turns.rows.items r.switches) x j in
            same x (On (Below i k) y.0) y.2 (record {
              premises = Has (Below i k) t (Bool true) ∷ [];
              rule = row.runs k (loop-there u.loop r.head r.switches r.last u.stands) u.on
                  (row.by_predicate k (loop-with u.loop r.head r.switches t r.last u.stands s p))
                  (switches-turn r.switches t y.0 s (turns.only r.switches y.0 y.1));
              known = (here, tt);
            })
      ]
    where
      again : (b : Truth) → Among x (on_at (if b then Some (Below i (k + 1)) else None) t) → Given S c chained x
      again true (inl q) = same x (On (Below i (k + 1)) t) q (record {
        premises = Has (Below i k) t (Bool true) ∷ [];
        rule = row.again k (loop-with u.loop r.head r.switches t r.last u.stands s p) u.on;
        known = (here, tt);
      })
      again true (inr q) = absurd q
      again false q = absurd q
  turn-given l turns i k r u t (Bool false) x s p here (inl q) = same x (On (Below i k) r.last) q (record {
    premises = Has (Below i k) t (Bool false) ∷ [];
    rule = row.leaves k (loop-there u.loop r.head r.switches r.last u.stands) u.on
        (row.by_predicate k (loop-with u.loop r.head r.switches t r.last u.stands s p));
    known = (here, tt);
  })
  turn-given l turns i k r u t (Bool false) x s p here (inr q) = absurd q
  turn-given l turns i k r u t (Int n) x s p here h = absurd h
  turn-given l turns i k r u t (Name n) x s p here h = absurd h

  -- those that come by switches, and by a `next`, of the iteration
  switches-only : (l : Links) → AreTurns (rows S.checked) l.turns → (i k m t : ℕ) (v : RowValue) (x : RowFact)
      → i < length (items c) → (at (rows S.checked) m).node ≡ node.Switches t
      → is_within (at (rows S.checked) t).node ≡ false → Among (Has (Below i k) t v) (items c)
      → Among x (switches_by l (Below i k) (iteration_of S.checked c (Below i k)) m t v) → Given S c chained x
  switches-only l turns i k m t v x w e p here h = go (iteration_of S.checked c (Below i k)) refl h
    where
      by : (r : Iteration) (b : Truth) → IsTurn i r → nat_eq m r.switches ≡ b
          → Among x (if b then turn_by l (Below i k) r t v else []) → Given S c chained x
      by r true u f j =
          turn-given l turns i k r u t v x (ap (λ n. (at (rows S.checked) n).node) (sym (eqb-true m r.switches f))
          ∙ e) p here j
      by r false u f j = absurd j

      go : (o : Option Iteration) → iteration_of S.checked c (Below i k) ≡ o
          → Among x (switches_by l (Below i k) o m t v) → Given S c chained x
      go None f j = absurd j
      go (Some r) f j = by r (nat_eq m r.switches) (iteration-is i k r w f) refl j

  next-only : (i k m y d o a : ℕ) (v : RowValue) (x : RowFact) → i < length (items c)
      → (at (rows S.checked) m).node ≡ node.Next y d o a → Among (Has (Below i k) a v) (items c)
      → Among x (next_by S.checked (Below i k) (iteration_of S.checked c (Below i k)) m v) → Given S c chained x
  next-only i k m y d o a v x w e here h = go (iteration_of S.checked c (Below i k)) refl h
    where
      hand : (r : Iteration) (b : Truth) → IsTurn i r → (at (rows S.checked) m).block ≡ r.head
          → Among x (has_at (if b then Some (Below i (k + 1)) else None) m v) → Given S c chained x
      hand r true u f (inl q) =
          same x (Has (Below i (k + 1)) m v) q (record {
            premises = Has (Below i k) a v ∷ [];
            rule = row.hands k (loop-there u.loop r.head r.switches r.last u.stands) (next-stands m y d o a r.head e f)
                u.on;
            known = (here, tt);
          })
      hand r true u f (inr q) = absurd q
      hand r false u f q = absurd q

      by : (r : Iteration) (b : Truth) → IsTurn i r → nat_eq (at (rows S.checked) m).block r.head ≡ b
          → Among x (if b then has_at (next_of (Below i k)) m v else []) → Given S c chained x
      by r true u f j = hand r (nat_lt k 18446744073709551615) u (eqb-true (at (rows S.checked) m).block r.head f) j
      by r false u f j = absurd j

      go : (o : Option Iteration) → iteration_of S.checked c (Below i k) ≡ o
          → Among x (next_by S.checked (Below i k) o m v) → Given S c chained x
      go None f j = absurd j
      go (Some r) f j = by r (nat_eq (at (rows S.checked) m).block r.head) (iteration-is i k r w f) refl j

  -- a path begins at a fact of the cells
  abbrev pub BeginsIn : Trail → Type 0
  BeginsIn Outermost = Unit {0}
  BeginsIn (Below i k) = i < length (items c)

  -- what comes by an iteration, where the row n Has the value
  pub loop-only : (l : Links) → AreTurns (rows S.checked) l.turns
      → (p : Trail) (n : ℕ) (v : RowValue) (m : ℕ) (x : RowFact) → BeginsIn p
      → Among (Has p n v) (items c) → Among x (loop_by S.checked l c p n v m (at (rows S.checked) m).node)
      → Given S c chained x
  loop-only l turns p n v m x w here h = go (at (rows S.checked) m).node refl h
    where
      has : (t : ℕ) → nat_eq t n ≡ true → Among (Has p t v) (items c)
      has t e = let F : ℕ → Type 0 = λ a. Among (Has p a v) (items c) in subst F (sym (eqb-true t n e)) here

      switches : (q : Trail) (t : ℕ) → BeginsIn q → (at (rows S.checked) m).node ≡ node.Switches t
          → is_within (at (rows S.checked) t).node ≡ false → Among (Has q t v) (items c)
          → Among x (switches_by l q (iteration_of S.checked c q) m t v) → Given S c chained x
      switches Outermost t b e d f j = absurd j
      switches (Below i k) t b e d f j = switches-only l turns i k m t v x b e d f j

      nexts : (q : Trail) (y d o a : ℕ) → BeginsIn q → (at (rows S.checked) m).node ≡ node.Next y d o a
          → Among (Has q a v) (items c) → Among x (next_by S.checked q (iteration_of S.checked c q) m v)
          → Given S c chained x
      nexts Outermost y d o a b e f j = absurd j
      nexts (Below i k) y d o a b e f j = next-only i k m y d o a v x b e f j

      by-switches : (t : ℕ) (b : Truth) → (at (rows S.checked) m).node ≡ node.Switches t
          → is_within (at (rows S.checked) t).node ≡ false → nat_eq t n ≡ b
          → Among x (if b then switches_by l p (iteration_of S.checked c p) m t v else []) → Given S c chained x
      by-switches t true e d f j = switches p t w e d (has t f) j
      by-switches t false e d f j = absurd j

      of-switches : (t : ℕ) (b : Truth) → (at (rows S.checked) m).node ≡ node.Switches t
          → is_within (at (rows S.checked) t).node ≡ b
          → Among x (if is_row (if b then None else Some t) n then switches_by l p (iteration_of S.checked c p) m t v
          else []) → Given S c chained x
      of-switches t false e d j = by-switches t (nat_eq t n) e d refl j
      of-switches t true e d j = absurd j

      of-next : (y d o a : ℕ) (b : Truth) → (at (rows S.checked) m).node ≡ node.Next y d o a → nat_eq a n ≡ b
          → Among x (if b then next_by S.checked p (iteration_of S.checked c p) m v else []) → Given S c chained x
      of-next y d o a true e f j = nexts p y d o a w e (has a f) j
      of-next y d o a false e f j = absurd j

      go : (z : Node) → (at (rows S.checked) m).node ≡ z → Among x (loop_by S.checked l c p n v m z)
          → Given S c chained x
      go (node.Switches t) e j = of-switches t (is_within (at (rows S.checked) t).node) e refl j
      go (node.Next y d o a) e j = of-next y d o a (nat_eq a n) e refl j
      go _ e j = absurd j

  -- ---- where calls and loops end

  -- what comes by the end of a call or a loop that Has the value
  pub exit-only : (p : Trail) (n : ℕ) (v : RowValue) (x : RowFact) → BeginsIn p → Among (Has p n v) (items c)
      → Among x (exit_at S.checked c p n v) → Given S c chained x
  exit-only Outermost n v x w here h = absurd h
  exit-only (Below i k) n v x w here h = go (fact_at (items c) i) refl h
    where
      has : (a : ℕ) → nat_eq a n ≡ true → Among (Has (Below i k) a v) (items c)
      has a e = let F : ℕ → Type 0 = λ b. Among (Has (Below i k) b v) (items c) in subst F (sym (eqb-true a n e)) here

      loop : (q : Trail) (m a s l : ℕ) (b : Truth) → IsOnBy (items c) i q m
          → (at (rows S.checked) m).node ≡ node.Loop a s l → nat_eq l n ≡ b
          → Among x (if b then Has q m v ∷ [] else []) → Given S c chained x
      loop q m a s l true o e f (inl r) =
          same x (Has q m v) r
          (record {
            premises = Has (Below i k) l v ∷ [];
            rule = row.leads_out k (loop-there m a s l e) o;
            known =
                (has l f, tt);
          })
      loop q m a s l true o e f (inr r) = absurd r
      loop q m a s l false o e f r = absurd r

      body : (q : Trail) (m e d y a g b : ℕ) (t : Kind) (z : Truth) → k ≡ 0 → IsOnBy (items c) i q m
          → (at (rows S.checked) m).node ≡ node.Call e d → binder S.checked e ≡ Some g
          → (at (rows S.checked) g).node ≡ node.Def y a t b → nat_eq b n ≡ z
          → Among x (if z then Has q m v ∷ [] else []) → Given S c chained x
      body q m e d y a g b t true first o f u s j (inl r) =
          let st : Stands S.checked m (node.Call e d) =
          record { within = row-within (rows S.checked) m is_call refl (ap is_call f); node = f } in
          let F : ℕ → Type 0 = λ a. Among (Has (Below i a) b v) (items c) in
          same x (Has q m v) r (record {
            premises = On q m ∷ Has (Below i 0) b v ∷ [];
            rule = row.ends st u (def-stands g y a b t s) o;
            known = (on-there q m i o, (subst F first (has b j), tt));
          })
      body q m e d y a g b t true first o f u s j (inr r) = absurd r
      body q m e d y a g b t false first o f u s j r = absurd r

      callee : (q : Trail) (m e d : ℕ) (g : Option ℕ) (z : Node) → k ≡ 0 → IsOnBy (items c) i q m
          → (at (rows S.checked) m).node ≡ node.Call e d → binder S.checked e ≡ g → callee_by S.checked g ≡ z
          → Among x (if is_row (body_in z) n then Has q m v ∷ [] else []) → Given S c chained x
      callee q m e d (Some g) (node.Def y a t b) first o f u s r =
          body q m e d y a g b t (nat_eq b n) first o f u s refl r
      callee q m e d None (node.Def y a t b) first o f u s r = cc
      callee q m e d g _ first o f u s r = absurd r

      -- a call ends at number 0 alone
      call : (q : Trail) (m e d : ℕ) (t : Truth) → nat_eq k 0 ≡ t → IsOnBy (items c) i q m
          → (at (rows S.checked) m).node ≡ node.Call e d
          → Among x (if t && is_row (body_in (callee_of S.checked e)) n then Has q m v ∷ [] else [])
          → Given S c chained x
      call q m e d true z o f r =
          callee q m e d (binder S.checked e) (callee_of S.checked e) (eqb-true k 0 z) o f refl refl r
      call q m e d false z o f r = absurd r

      node-given : (q : Trail) (m : ℕ) (z : Node) → IsOnBy (items c) i q m → (at (rows S.checked) m).node ≡ z
          → Among x (if is_end S.checked z k n then Has q m v ∷ [] else []) → Given S c chained x
      node-given q m (node.Loop a s l) o e r = loop q m a s l (nat_eq l n) o e refl r
      node-given q m (node.Call e d) o f r = call q m e d (nat_eq k 0) refl o f r
      node-given q m _ o e r = absurd r

      go : (y : RowFact) → fact_at (items c) i ≡ y → Among x (exit_by S.checked k n v y) → Given S c chained x
      go (On q m) e r = node-given q m (at (rows S.checked) m).node (record { within = w; fact = e }) refl r
      go _ e r = absurd r
