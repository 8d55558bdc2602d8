-- What is On in an iteration of a loop is so since the predicate Has a value there, or since the loop goes on there or
-- not.
use Rattle.std.proofs.Common.{◌≡◌, ◌||◌, inl, inr, ℕ, zero, suc, ◌-◌, ◌+◌, ◌<◌, Bool as Truth, true, false, List}
use Rattle.std.proofs.Common.{length, refl, ap, sym, ◌∙◌, subst, arith}
use Rattle.std.proofs.lemmas.Bool.{cases_lt, false≢true}
use Rattle.id_value.proofs.AmongLemmas.{Among-from_at}
use Rattle.id_value.specs.declared.Kind.{Kind}
use Rattle.id_table.specs.declared.row.Region.{Region}
use Rattle.id_table.specs.declared.row.Node.{Node}
use Rattle.id_table.specs.declared.row.Node.TheVariants.{Head, Param, Unary, Binary, Split, If, Arg, Call, Switches}
use Rattle.id_table.specs.declared.row.Node.TheVariants.{LoopHead, Next, Loop, Block, Binding, Def}
use Rattle.id_table.specs.declared.row.Node.TheVariants.{Literal, Name, Array, Fetch, Address, Store, Bounds, Index}
use Rattle.id_table.specs.Loops.{bounds_row, index_row}
use Rattle.id_table.specs.Regions.{IsIfOf}
use Rattle.id_table.specs.Rows.{arm_at, at, top}
use Rattle.id_table.specs.Tables.{HasNear, HasOperand, HasPart, begins_block, is_index, is_top, is_expression, is_param}
use Rattle.id_table.specs.Tables.{is_store, is_thing}
use Rattle.id_table.specs.Turns.{params_at}
use Rattle.id_check.specs.Causes.{defines_main}
use Rattle.id_check.specs.Programs.{Stands, place, region, rows}
use Rattle.id_check.proofs.ProgramsLemmas.{part_row, table_of}
use Rattle.id_source.specs.declared.Path.{Path}
use Rattle.id_source.specs.declared.SourceValue.{SourceValue}
use Rattle.id_source.specs.declared.SourceValue.TheVariants.{Bool, Int}
use Rattle.id_source.specs.declared.Site.{Site}
use Rattle.id_source.specs.declared.Fact.{Fact}
use Rattle.id_source.specs.declared.Fact.TheVariants.{On, Has, Shape, Put, Ask}
use Rattle.id_source.specs.Sources.{Source, body_of, main_body}
use Rattle.id_source.specs.Facts.{GoesOn, by_predicate, by_bounds, by_index, ForStands, lower_on, upper_on}
use Rattle.id_source.specs.Facts.{index_begins, index_counts}
use Rattle.id_source.specs.Facts.{LoopStands, below, Chooses, then_arm, else_arm, Rule, main_on, param_has, literal_has}
use Rattle.id_source.specs.Facts.{operand_on, left_on, right_on}
use Rattle.id_source.specs.Facts.{unary_has, binary_has, name_has, test_on, arm_on, conditional_has}
use Rattle.id_source.specs.Facts.{argument_on, callee_on, argument_has, call_has, loop_test_on, first_has, turn_on}
use Rattle.id_source.specs.Facts.{loop_statement_on, next_on, next_has}
use Rattle.id_source.specs.Facts.{last_on, loop_has, statement_on, body_on, block_has, binding_has}
use Rattle.id_source.specs.Facts.{StoreStands, ask, loop_store_on, store_on, bounds_low_on, bounds_high_on, shape_made}
use Rattle.id_source.specs.Facts.{array_has, fetch_target_on}
use Rattle.id_source.specs.Facts.{fetch_index_on, asks, fetch_has, store_target_on, store_index_on, store_value_on}
use Rattle.id_source.specs.Facts.{puts}
use Rattle.id_source.specs.Rounds.{Every, Rounds}
use Rattle.id_source.proofs.CheckedLemmas.{apart_of, bounds-region, loop-of, loop-rows, next-region, test-row}
use Rattle.id_source.proofs.CheckedLemmas.{thing-expression, thing-param, thing-store}
use Rattle.id_source.proofs.ParamsLemmas.{input_param, params-among}
use Rattle.id_source.proofs.RoundsLemmas.{Every-more}
use Rattle.id_source.proofs.StepsLemmas.{below-once}

-- the path ends in an iteration of the loop with this head, which is On; in the one before it the predicate Has true
pub record Iterates (S : Source) (F : Fact → Type 0) (p : Path) (h : ℕ) : Type 0 where
  pub loop : ℕ
  pub switches : ℕ
  pub test : ℕ
  pub last : ℕ
  pub stands : LoopStands S.checked loop h switches test last
  pub outer : Path
  pub number : ℕ
  pub path : p ≡ below outer (place S.checked loop) number
  pub on : F (On outer (place S.checked loop))
  pub before : (j : ℕ) → number ≡ suc j
      → F (Has (below outer (place S.checked loop) j) (place S.checked test) (Bool true))

-- by facts the loop at the row n, with its switches at w, which is On at the path p, goes on or not in iteration k
pub record GoesIn (S : Source) (F : Fact → Type 0) (n w : ℕ) (p : Path) (k : ℕ) (c : Truth) : Type 0 where
  pub on : F (On p (place S.checked n))
  pub facts : List Fact
  pub goes : GoesOn S n w p k c facts
  pub hold : Every F facts

-- the path ends in an iteration of the loop with these switches, which goes on or not in it
pub record GoesAt (S : Source) (F : Fact → Type 0) (p : Path) (w : ℕ) (c : Truth) : Type 0 where
  pub loop : ℕ
  pub head : ℕ
  pub last : ℕ
  pub stands : Stands S.checked loop (Loop head w last)
  pub outer : Path
  pub number : ℕ
  pub path : p ≡ below outer (place S.checked loop) number
  pub there : GoesIn S F loop w outer number c

-- a fetch stands at the place of the site
pub record IsFetch (S : Source) (f : Site) : Type 0 where
  pub row : ℕ
  pub target : ℕ
  pub index : ℕ
  pub stands : Stands S.checked row (Fetch target index)
  pub here : place S.checked row ≡ f.place

-- at the path a region is live that begins at a row of this node: behind switches it ends in an iteration in which
-- their
-- loop goes on or not, in a loop in an iteration of it
abbrev LiveAt : Source → (Fact → Type 0) → Path → Region → Node → Type 0
LiveAt S F p r (Switches t) = GoesAt S F p r.head r.side
LiveAt S F p r (LoopHead s) = Iterates S F p r.head
LiveAt S F p r _ = Unit {0}

abbrev LiveIn : Source → (Fact → Type 0) → Path → Region → Type 0
LiveIn S F p r = LiveAt S F p r (at (rows S.checked) r.head).node

-- whether an expression or a store stands at a row of this node
abbrev is_evaluated : Node → Truth
is_evaluated z = is_expression z || is_store z

-- at a place where this holds a value may be had: an expression or store there is On, and in an iteration in which an
-- index
-- Has one its loop goes on
abbrev FineAt : Source → (Fact → Type 0) → Path → ℕ → Type 0
FineAt S F p e =
    ((a : ℕ) → a < length (rows S.checked) → is_evaluated (at (rows S.checked) a).node ≡ true → place S.checked a ≡ e
    → F (On p e))
    × ((x y w : ℕ) → Stands S.checked x (Index y) → x ≡ index_row w → place S.checked x ≡ e → GoesAt S F p w true)

-- an expression or store that is On stands in a live region, what Has a value may have one, and a fetch that asks is On
abbrev Fine : Source → (Fact → Type 0) → Fact → Type 0
Fine S F (On p e) =
    (a : ℕ) → a < length (rows S.checked) → is_evaluated (at (rows S.checked) a).node ≡ true → place S.checked a ≡ e
    → LiveIn S F p (region S.checked a)
Fine S F (Has p e v) = FineAt S F p e
Fine S F (Ask a) = F (On a.fetch.path a.fetch.place) × IsFetch S a.fetch
Fine S F _ = Unit {0}

evaluated-thing : (z : Node) → is_evaluated z ≡ true → is_thing z ≡ true
evaluated-thing z h = by (is_expression z) refl h
  where
    by : (b : Truth) → is_expression z ≡ b → (b || is_store z) ≡ true → is_thing z ≡ true
    by true e k = thing-expression z e
    by false e k = thing-store z k

expression-evaluated : (z : Node) → is_expression z ≡ true → is_evaluated z ≡ true
expression-evaluated z e = ap (λ b. b || is_store z) e

param-none : (z : Node) → is_param z ≡ true → is_evaluated z ≡ false
param-none (Param x k) h = refl
param-none _ h = absurd (false≢true h)

param-plain : (z : Node) → is_param z ≡ true → is_index z ≡ false
param-plain (Param x k) h = refl
param-plain _ h = absurd (false≢true h)

module _ (S : Source) where
  -- an expression or a store stands there
  record IsExpression (a : ℕ) : Type 0 where
    pub within : a < length (rows S.checked)
    pub is : is_evaluated (at (rows S.checked) a).node ≡ true

  part : (n a : ℕ) (z : Node) → Stands S.checked n z → HasOperand z a → IsExpression a
  part n a z st h =
      let w = part_row S.checked n a z st h in
      record { within = w.0; is = expression-evaluated (at (rows S.checked) a).node w.1 }

  itself : (n : ℕ) (z : Node) → Stands S.checked n z → is_evaluated z ≡ true → IsExpression n
  itself n z st e = record { within = st.within; is = ap is_evaluated st.node ∙ e }

  -- at one place stands one
  one-there : (a b : ℕ) → a < length (rows S.checked) → is_evaluated (at (rows S.checked) a).node ≡ true
      → b < length (rows S.checked) → is_thing (at (rows S.checked) b).node ≡ true
      → place S.checked a ≡ place S.checked b → a ≡ b
  one-there a b l e m t q = (apart_of S.checked).apart a b l m (evaluated-thing (at (rows S.checked) a).node e) t q

  -- what is no expression has no expression's place
  none-there : (m : ℕ) (z : Node) → Stands S.checked m z → is_thing z ≡ true → is_evaluated z ≡ false
      → (a : ℕ) → a < length (rows S.checked) → is_evaluated (at (rows S.checked) a).node ≡ true
      → place S.checked a ≡ place S.checked m → ⊥
  none-there m z st t f a l e q =
      let k = one-there a m l e st.within (ap is_thing st.node ∙ t) q in
      false≢true (sym (ap is_evaluated st.node ∙ f) ∙ ap (λ i. is_evaluated (at (rows S.checked) i).node) (sym k) ∙ e)

  -- and no index
  no-index : (m : ℕ) (z : Node) → Stands S.checked m z → is_thing z ≡ true → is_index z ≡ false
      → (x y : ℕ) → Stands S.checked x (Index y) → place S.checked x ≡ place S.checked m → ⊥
  no-index m z st t f x y i q =
      let R = rows S.checked in
      let k = (apart_of S.checked).apart x m i.within st.within (ap is_thing i.node) (ap is_thing st.node ∙ t) q in
      false≢true (sym (ap is_index st.node ∙ f) ∙ ap (λ j. is_index (at R j).node) (sym k) ∙ ap is_index i.node)

  -- at an expression's region
  live-there : (F : Fact → Type 0) (p : Path) (b : ℕ) → IsExpression b → LiveIn S F p (region S.checked b)
      → Fine S F (On p (place S.checked b))
  live-there F p b x h a l e q =
      let k = one-there a b l e x.within (evaluated-thing (at (rows S.checked) b).node x.is) q in
      let G : ℕ → Type 0 = λ i. LiveIn S F p (region S.checked i) in
      subst G (sym k) h

  fine-at : (F : Fact → Type 0) (p : Path) (n : ℕ) → IsExpression n → Fine S F (On p (place S.checked n))
      → LiveIn S F p (region S.checked n)
  fine-at F p n x h = h n x.within x.is refl

  -- in the same region
  live-with : (F : Fact → Type 0) (p : Path) (n a : ℕ) → IsExpression n → IsExpression a
      → region S.checked a ≡ region S.checked n → Fine S F (On p (place S.checked n))
      → Fine S F (On p (place S.checked a))
  live-with F p n a x y e h =
      let G : Region → Type 0 = λ r. LiveIn S F p r in live-there F p a y (subst G (sym e) (fine-at F p n x h))

  -- in one that begins at a row of this node
  live-by : (F : Fact → Type 0) (p : Path) (a : ℕ) (r : Region) (z : Node) → IsExpression a → region S.checked a ≡ r
      → (at (rows S.checked) r.head).node ≡ z → LiveAt S F p r z
      → Fine S F (On p (place S.checked a))
  live-by F p a r z x e f h =
      let G : Region → Type 0 = λ q. LiveIn S F p q in
      let H : Node → Type 0 = λ y. LiveAt S F p r y in
      live-there F p a x (subst G (sym e) (subst H (sym f) h))

  live-from : (F : Fact → Type 0) (p : Path) (a : ℕ) (r : Region) (z : Node) → IsExpression a → region S.checked a ≡ r
      → (at (rows S.checked) r.head).node ≡ z → Fine S F (On p (place S.checked a))
      → LiveAt S F p r z
  live-from F p a r z x e f h =
      let G : Region → Type 0 = λ q. LiveIn S F p q in
      let H : Node → Type 0 = λ y. LiveAt S F p r y in
      subst H f (subst G e (fine-at F p a x h))

  near : (n a : ℕ) (z : Node) → Stands S.checked n z → HasNear z a → region S.checked a ≡ region S.checked n
  near n a z st h =
      let H : Node → Type 0 =
      λ y. HasNear y a in ((table_of S.checked).part_stands n a st.within (subst H (sym st.node) h)).1

  -- ---- rows of procedures and loops

  -- a procedure's body stands right in its block
  body-region : (d x h b : ℕ) (k : Kind) → Stands S.checked d (Def x h k b)
      → (region S.checked b ≡ top h) × ((at (rows S.checked) h).node ≡ Head)
  body-region d x h b k st =
      let R = rows S.checked in
      let T = table_of S.checked in
      let i = T.head_is d x h b k st.within st.node in
      let H : Node → Type 0 = λ z. HasNear z h in
      let B = (T.part_stands d h st.within (subst H (sym st.node) (inl refl))).0 in
      let Q : Node → Type 0 = λ z. HasPart z h in
      let f = (T.formed.each d st.within).parts h (subst Q (sym st.node) (inl refl)) in
      let l = st.within in
      let w : h < length R = omega (arith, f.1) in
      let own : (at R d).block ≡ h = sym B ∙ T.head_block h w (ap begins_block i.0) in
      (near d b (Def x h k b) st (inr refl) ∙ T.at_top d st.within (ap is_top st.node) ∙ ap (λ j. top j) own, i.0)

  test-region : (n h w t l : ℕ) → LoopStands S.checked n h w t l → region S.checked t ≡ top h
  test-region n h w t l s = near w t (Switches t) s.switches refl ∙ (loop-rows S.checked n h w l s.loop).test.region

  test-part : (n h w t l : ℕ) → LoopStands S.checked n h w t l → IsExpression t
  test-part n h w t l s =
      let q = test-row S.checked n h w t l s in
      record { within = q.0; is = expression-evaluated (at (rows S.checked) t).node q.1 }

  last-part : (n h w l : ℕ) → Stands S.checked n (Loop h w l) → IsExpression l
  last-part n h w l s = part n l (Loop h w l) s refl

  -- ---- what is known in one round

  abbrev AllFine : ℕ → Type 0
  AllFine n = (f : Fact) → Rounds S n f → Fine S (Rounds S n) f

  module _ (n : ℕ) (fine : AllFine n) where
    abbrev F : Fact → Type 0
    F f = Rounds S n f

    -- a predicate that Has a value is On, so that the path ends in an iteration
    iterates : (m h w t l k : ℕ) (p : Path) (v : SourceValue) → LoopStands S.checked m h w t l
        → F (Has (below p (place S.checked m) k) (place S.checked t) v)
        → Iterates S F (below p (place S.checked m) k) h
    iterates m h w t l k p v s g =
        let q = below p (place S.checked m) k in
        let x = test-part m h w t l s in
        let on = (fine (Has q (place S.checked t) v) g).0 t x.within x.is refl in
        live-from F q t (top h) (LoopHead (h - 1)) x (test-region m h w t l s)
        (loop-rows S.checked m h w l s.loop).before_test.head
        (fine (On q (place S.checked t)) on)

    -- and the loop is On
    loop-on : (m h w t l k : ℕ) (p : Path) (v : SourceValue) → LoopStands S.checked m h w t l
        → F (Has (below p (place S.checked m) k) (place S.checked t) v)
        → F (On p (place S.checked m))
    loop-on m h w t l k p v s g =
        let i = iterates m h w t l k p v s g in
        let z = below-once p i.outer (place S.checked m) (place S.checked i.loop) k i.number i.path in
        let G : Path → Type 0 = λ q. F (On q (place S.checked m)) in
        let H : ℕ → Type 0 = λ e. F (On i.outer e) in
        subst G (sym z.0) (subst H (sym z.1) i.on)

    -- in the iteration before it the predicate Has true
    test-before : (m h w t l k : ℕ) (p : Path) (v : SourceValue) → LoopStands S.checked m h w t l
        → F (Has (below p (place S.checked m) (suc k)) (place S.checked t) v)
        → F (Has (below p (place S.checked m) k) (place S.checked t) (Bool true))
    test-before m h w t l k p v s g =
        let i = iterates m h w t l (suc k) p v s g in
        let L = place S.checked m in
        let z = below-once p i.outer L (place S.checked i.loop) (suc k) i.number i.path in
        let P = S.checked in
        let same =
        (table_of P).one_loop i.loop m h (loop-of P i.loop h i.switches i.last i.stands.loop)
        (loop-of P m h w l s.loop) in
        let b = i.before k (sym z.2) in
        let R = rows S.checked in
        let k1 : Loop h i.switches i.last ≡ Loop h w l =
        sym i.stands.loop.node ∙ ap (λ j. (at R j).node) same ∙ s.loop.node in
        let sw : i.switches ≡ w = cc in
        let k2 : Switches i.test ≡ Switches t =
        sym i.stands.switches.node ∙ ap (λ j. (at R j).node) sw ∙ s.switches.node in
        let te : i.test ≡ t = cc in
        let A : Path → Type 0 = λ q. F (Has (below q L k) (place S.checked t) (Bool true)) in
        let B : ℕ → Type 0 = λ e. F (Has (below i.outer e k) (place S.checked t) (Bool true)) in
        let C : ℕ → Type 0 = λ y. F (Has (below i.outer (place S.checked i.loop) k) (place S.checked y) (Bool true)) in
        subst A (sym z.0) (subst B (sym z.1) (subst C te b))

    -- of the loop itself
    settled : (m h w l k : ℕ) (c : Truth) (p : Path) → Stands S.checked m (Loop h w l)
        → GoesAt S F (below p (place S.checked m) k) w c → GoesIn S F m w p k c
    settled m h w l k c p s g =
        let z = below-once p g.outer (place S.checked m) (place S.checked g.loop) k g.number g.path in
        let same : g.loop ≡ m =
        (apart_of S.checked).apart g.loop m g.stands.within s.within (ap is_thing g.stands.node) (ap is_thing s.node)
        (sym z.1) in
        let A : Path → Type 0 = λ q. GoesIn S F m w q k c in
        let B : ℕ → Type 0 = λ j. GoesIn S F m w g.outer j c in
        let C : ℕ → Type 0 = λ i. GoesIn S F i w g.outer g.number c in
        subst A (sym z.0) (subst B (sym z.2) (subst C same g.there))

    -- where its index Has a value it goes on
    index-goes : (m w x a b l k : ℕ) (p : Path) (v : SourceValue) → ForStands S.checked m w x a b l
        → F (Has (below p (place S.checked m) k) (place S.checked x) v)
        → GoesIn S F m w p k true
    index-goes m w x a b l k p v s g =
        settled m s.head w l k true p s.loop
        ((fine (Has (below p (place S.checked m) k) (place S.checked x) v) g).1 x s.name w s.index s.behind refl)

    -- where it goes on or not it is On
    on-there : (m w k : ℕ) (c : Truth) (p : Path) {fs : List Fact} → GoesOn S m w p k c fs → Every F fs
        → F (On p (place S.checked m))
    on-there m w k c p (by_predicate {h = h} {t = t} {l = l} j s) g = loop-on m h w t l j p (Bool c) s g.0
    on-there m w k c p (by_bounds s e) g = g.0
    on-there m w k c p (by_index {x = x} {a = a} {b = b} {l = l} {i = i} j s e) g =
        (index-goes m w x a b l j p (Int i) s g.0).on

    goes-in : {fs : List Fact} (m w k : ℕ) (c : Truth) (p : Path) → GoesOn S m w p k c fs → Every F fs
        → GoesIn S F m w p k c
    goes-in {fs = fs} m w k c p o g = record { on = on-there m w k c p o g; facts = fs; goes = o; hold = g }

    -- in the iteration before it goes on
    before : (m w k : ℕ) (c : Truth) (p : Path) {fs : List Fact} → GoesOn S m w p (suc k) c fs → Every F fs
        → GoesIn S F m w p k true
    before m w k c p (by_predicate {h = h} {t = t} {l = l} j s) g =
        goes-in m w k true p (by_predicate k s) (test-before m h w t l k p (Bool c) s g.0, tt)
    before m w k c p (by_index {x = x} {a = a} {b = b} {l = l} {i = i} j s e) g =
        index-goes m w x a b l k p (Int i) s g.0

    pub true-before : (m w k : ℕ) (c : Truth) (p : Path) → GoesIn S F m w p (suc k) c → GoesIn S F m w p k true
    true-before m w k c p g = before m w k c p g.goes g.hold

    -- and so in all before it
    pub true-below : (m w j : ℕ) (c : Truth) (p : Path) (k : ℕ) → j < k → GoesIn S F m w p k c → GoesIn S F m w p j true
    true-below m w j c p zero b g = absurd (omega arith)
    true-below m w j c p (suc k) b g = elim (cases_lt j k) [
      | inl d ↦ true-below m w j true p k d (true-before m w k c p g)
      | inr d ↦
          let e : j ≡ k = omega arith in
          let G : ℕ → Type 0 = λ i. GoesIn S F m w p i true in
          subst G (sym e) (true-before m w k c p g)
    ]

    -- where the last expression Has a value the loop does not go on
    pub false-there : (m h w l k : ℕ) (p : Path) (v : SourceValue) → Stands S.checked m (Loop h w l)
        → F (Has (below p (place S.checked m) k) (place S.checked l) v)
        → GoesIn S F m w p k false
    false-there m h w l k p v s g =
        let q = below p (place S.checked m) k in
        let x = last-part m h w l s in
        let on = (fine (Has q (place S.checked l) v) g).0 l x.within x.is refl in
        let r = loop-rows S.checked m h w l s in
        settled m h w l k false p s
        (live-from F q l (arm_at w false) (Switches r.test.test) x r.last_is.region r.test.node
        (fine (On q (place S.checked l)) on))

    -- ---- what follows is fine

    abbrev G : Fact → Type 0
    G f = Rounds S (suc n) f

    more-goes : {m w k : ℕ} {c : Truth} {p : Path} → GoesIn S F m w p k c → GoesIn S G m w p k c
    more-goes g = record { on = inl g.on; facts = g.facts; goes = g.goes; hold = Every-more S n g.facts g.hold }

    more-there : {p : Path} {w : ℕ} {c : Truth} → GoesAt S F p w c → GoesAt S G p w c
    more-there g = record {
      loop = g.loop;
      head = g.head;
      last = g.last;
      stands = g.stands;
      outer = g.outer;
      number = g.number;
      path = g.path;
      there = more-goes g.there;
    }

    more-at : (p : Path) (r : Region) (z : Node) → LiveAt S F p r z → LiveAt S G p r z
    more-at p r (Switches t) h = more-there h
    more-at p r (LoopHead s) h = record {
      loop = h.loop;
      switches = h.switches;
      test = h.test;
      last = h.last;
      stands = h.stands;
      outer = h.outer;
      number = h.number;
      path = h.path;
      on = inl h.on;
      before = λ j e. inl (h.before j e);
    }
    more-at p r _ h = tt

    more-fine : (f : Fact) → Fine S F f → Fine S G f
    more-fine (On p e) h =
        λ a l x q. more-at p (region S.checked a) (at (rows S.checked) (region S.checked a).head).node (h a l x q)
    more-fine (Has p e v) h = (λ a l x q. inl (h.0 a l x q), λ x y w s b q. more-there (h.1 x y w s b q))
    more-fine (Shape s) h = tt
    more-fine (Put p) h = tt
    more-fine (Ask a) h = (inl h.0, h.1)

    goes-at : {fs : List Fact} (m h w l k : ℕ) (c : Truth) (p : Path) → Stands S.checked m (Loop h w l)
        → GoesOn S m w p k c fs → Every F fs → GoesAt S G (below p (place S.checked m) k) w c
    goes-at m h w l k c p st o g =
        record {
          loop = m;
          head = h;
          last = l;
          stands = st;
          outer = p;
          number = k;
          path = refl;
          there =
              more-goes (goes-in m w k c p o g);
        }

    -- a fact of the round is fine in the next
    there : (f : Fact) → F f → Fine S G f
    there f h = more-fine f (fine f h)

    -- what Has a value where it is On
    has-fine : (p : Path) (m : ℕ) (z : Node) → Stands S.checked m z → is_thing z ≡ true → is_index z ≡ false
        → F (On p (place S.checked m)) → FineAt S G p (place S.checked m)
    has-fine p m z st t f h = (λ a l x q. inl h, λ x y w i b q. absurd (no-index m z st t f x y i q))

    -- what Has a value and is no expression
    bound-fine : (p : Path) (m : ℕ) (z : Node) → Stands S.checked m z → is_thing z ≡ true → is_evaluated z ≡ false
        → is_index z ≡ false → FineAt S G p (place S.checked m)
    bound-fine p m z st t f g =
        (λ a l x q. absurd (none-there m z st t f a l x q), λ x y w i b q. absurd (no-index m z st t g x y i q))

    param-fine : (p : Path) (m : ℕ) → m < length (rows S.checked) → is_param (at (rows S.checked) m).node ≡ true
        → FineAt S G p (place S.checked m)
    param-fine p m l h =
        let z = (at (rows S.checked) m).node in
        bound-fine p m z (record { within = l; node = refl }) (thing-param z h) (param-none z h) (param-plain z h)

    chosen-fine : (m t a : ℕ) (b : Truth) (p : Path) → Chooses S m t b a → F (On p (place S.checked m))
        → FineAt S G p (place S.checked m)
    chosen-fine m t a b p (then_arm {s = s} {a = x} {b = y} u c) h = has-fine p m (If s x y) u refl refl h
    chosen-fine m t a b p (else_arm {s = s} {a = x} {b = y} u c) h = has-fine p m (If s x y) u refl refl h

    fetch-fine : (f : Site) → F (On f.path f.place) → IsFetch S f → FineAt S G f.path f.place
    fetch-fine f h c = (
      λ a l x q. inl h,
      λ x y w i b q. absurd (no-index c.row (Fetch c.target c.index) c.stands refl refl x y i (q ∙ sym c.here)),
    )

    -- an index Has a value where its loop goes on
    index-fine : {fs : List Fact} (m w x a b l k : ℕ) (p : Path) → ForStands S.checked m w x a b l
        → GoesOn S m w p k true fs → Every F fs → FineAt S G (below p (place S.checked m) k) (place S.checked x)
    index-fine m w x a b l k p s o g = (
      λ c d y q. absurd (none-there x (Index s.name) s.index refl refl c d y q),
      λ y z u i e q.
          let same : y ≡ x =
          (apart_of S.checked).apart y x i.within s.index.within (ap is_thing i.node) (ap is_thing s.index.node) q in
          let f : u + 3 ≡ w + 3 = sym e ∙ same ∙ s.behind in
          let r : w ≡ u = omega (arith, f) in
          let A : ℕ → Type 0 = λ j. GoesAt S G (below p (place S.checked m) k) j true in
          subst A r (goes-at m s.head w l k true p s.loop o g),
    )

    on-part : (m a : ℕ) (p : Path) (z : Node) → Stands S.checked m z → is_evaluated z ≡ true → HasOperand z a
        → HasNear z a → F (On p (place S.checked m)) → Fine S G (On p (place S.checked a))
    on-part m a p z st e o h g =
        live-with G p m a (itself m z st e) (part m a z st o) (near m a z st h) (there (On p (place S.checked m)) g)

    on-test : (m t a : ℕ) (b : Truth) (p : Path) → Chooses S m t b a → F (On p (place S.checked m))
        → Fine S G (On p (place S.checked t))
    on-test m t a b p (then_arm {s = s} {a = x} {b = y} u v) g =
        live-with G p m t (itself m (If s x y) u refl) (part s t (Split t) v refl) (near s t (Split t) v refl
        ∙ near m s (If s x y) u refl)
        (there (On p (place S.checked m)) g)
    on-test m t a b p (else_arm {s = s} {a = x} {b = y} u v) g =
        live-with G p m t (itself m (If s x y) u refl) (part s t (Split t) v refl) (near s t (Split t) v refl
        ∙ near m s (If s x y) u refl)
        (there (On p (place S.checked m)) g)

    abbrev if-of : (m s x y : ℕ) → Stands S.checked m (If s x y) → IsIfOf (rows S.checked) m s
    if-of m s x y u = record { then = x; otherwise = y; within = u.within; node = u.node }

    on-arm : (m t a : ℕ) (b : Truth) (p : Path) → Chooses S m t b a → Fine S G (On p (place S.checked a))
    on-arm m t a b p (then_arm {s = s} {a = x} {b = y} u v) =
        live-by G p x (arm_at s true) (Split t) (part m x (If s x y) u (inl refl))
        ((table_of S.checked).arms m s (if-of m s x y u)).then_stands v.node tt
    on-arm m t a b p (else_arm {s = s} {a = x} {b = y} u v) =
        live-by G p y (arm_at s false) (Split t) (part m y (If s x y) u (inr refl))
        ((table_of S.checked).arms m s (if-of m s x y u)).otherwise_stands v.node tt

    on-body : (d x h b : ℕ) (k : Kind) (p : Path) → Stands S.checked d (Def x h k b)
        → Fine S G (On p (place S.checked b))
    on-body d x h b k p st =
        let r = body-region d x h b k st in live-by G p b (top h) Head (part d b (Def x h k b) st refl) r.0 r.1 tt

    main-fine : (z : Node) → (at (rows S.checked) S.checked.main).node ≡ z → defines_main z ≡ true → (p : Path)
        → Fine S G (On p (place S.checked (main_body S.checked)))
    main-fine (Def x h k b) e d p =
        let q : main_body S.checked ≡ b = ap body_of e in
        let T : ℕ → Type 0 = λ i. Fine S G (On p (place S.checked i)) in
        subst T (sym q) (on-body S.checked.main x h b k p (record { within = S.checked.is_main.within; node = e }))
    main-fine _ e d p = absurd (false≢true d)

    on-argument : (m e c a i v : ℕ) (p : Path) → Stands S.checked m (Call e c) → Stands S.checked a (Arg e i v)
        → F (On p (place S.checked m)) → Fine S G (On p (place S.checked v))
    on-argument m e c a i v p st t g =
        live-with G p m v (itself m (Call e c) st refl) (part a v (Arg e i v) t refl)
        (near a v (Arg e i v) t (inr refl) ∙ sym (near a e (Arg e i v) t (inl refl)) ∙ near m e (Call e c) st refl)
        (there (On p (place S.checked m)) g)

    -- the bounds of an index
    on-bound : (m w x a b l c : ℕ) (p : Path) (s : ForStands S.checked m w x a b l) → HasPart (Bounds a b) c
        → F (On p (place S.checked m)) → Fine S G (On p (place S.checked c))
    on-bound m w x a b l c p s h g =
        live-with G p m c (itself m (Loop s.head w l) s.loop refl) (part (bounds_row s.head) c (Bounds a b) s.bounds h)
        (near (bounds_row s.head) c (Bounds a b) s.bounds h ∙ bounds-region S.checked m w x a b l s)
        (there (On p (place S.checked m)) g)

    -- a loop's predicate
    on-loop_test : (m h w t l k : ℕ) (p : Path) → LoopStands S.checked m h w t l → F (On p (place S.checked m))
        → ((j : ℕ) → k ≡ suc j → F (Has (below p (place S.checked m) j) (place S.checked t) (Bool true))) → Fine S G
        (On (below p (place S.checked m) k) (place S.checked t))
    on-loop_test m h w t l k p s g b =
        let i : Iterates S G (below p (place S.checked m) k) h =
        record {
          loop = m;
          switches = w;
          test = t;
          last = l;
          stands = s;
          outer = p;
          number = k;
          path = refl;
          on = inl g;
          before = λ j e. inl (b j e);
        } in
        live-by G (below p (place S.checked m) k) t (top h) (LoopHead (h - 1)) (test-part m h w t l s)
        (test-region m h w t l s)
        (loop-rows S.checked m h w l s.loop).before_test.head i

    before-same : (m t k j : ℕ) (p : Path) → F (Has (below p (place S.checked m) k) (place S.checked t) (Bool true))
        → suc k ≡ suc j → F (Has (below p (place S.checked m) j) (place S.checked t) (Bool true))
    before-same m t k j p g e =
        let q : k ≡ j = omega arith in
        let H : ℕ → Type 0 = λ i. F (Has (below p (place S.checked m) i) (place S.checked t) (Bool true)) in
        subst H q g

    -- a row in a side of its switches
    on-side : {fs : List Fact} (m h w l k a : ℕ) (b : Truth) (p : Path) → Stands S.checked m (Loop h w l)
        → GoesOn S m w p k b fs → Every F fs → IsExpression a → region S.checked a ≡ arm_at w b
        → Fine S G (On (below p (place S.checked m) k) (place S.checked a))
    on-side m h w l k a b p st o g x e =
        let r = (loop-rows S.checked m h w l st).test in
        live-by G (below p (place S.checked m) k) a (arm_at w b) (Switches r.test) x e r.node
        (goes-at m h w l k b p st o g)

    -- the parts of a store's address stand where the store does
    on-address : (m t i x a : ℕ) (p : Path) (s : StoreStands S.checked m t i x) → HasPart (Address t i) a
        → F (On p (place S.checked m)) → Fine S G (On p (place S.checked a))
    on-address m t i x a p s h g =
        let c = (table_of S.checked).address_of m s.address (record {
          value = x;
          within = s.store.within;
          node =
              s.store.node;
        }) in
        live-with G p m a (itself m (Store s.address x) s.store refl) (part s.address a (Address t i) s.parts h)
        (near s.address a (Address t i) s.parts h ∙ c.region) (there (On p (place S.checked m)) g)

    follows : {fs : List Fact} {f : Fact} → Rule S fs f → Every F fs → Fine S G f
    follows main_on h = main-fine (at (rows S.checked) S.checked.main).node refl S.checked.is_main.node _
    follows (param_has {b = b} i) h = let q = input_param i in param-fine _ b q.0 q.1
    follows (literal_has {n = m} {c = c} {p = p} st) h = has-fine p m (Literal c) st refl refl h.0
    follows (operand_on {n = m} {a = a} {o = o} {p = p} st) h = on-part m a p (Unary o a) st refl refl refl h.0
    follows (left_on {n = m} {a = a} {b = b} {o = o} {p = p} st) h =
        on-part m a p (Binary o a b) st refl (inl refl) (inl refl) h.0
    follows (right_on {n = m} {a = a} {b = b} {o = o} {p = p} st) h =
        on-part m b p (Binary o a b) st refl (inr refl) (inr refl) h.0
    follows (unary_has {n = m} {a = a} {o = o} {p = p} c st e) h = has-fine p m (Unary o a) st refl refl h.0
    follows (binary_has {n = m} {a = a} {b = b} {o = o} {p = p} c d st e) h =
        has-fine p m (Binary o a b) st refl refl h.0
    follows (name_has {n = m} {x = x} {p = p} st e) h = has-fine p m (Name x) st refl refl h.0
    follows (test_on {n = m} {t = t} {a = a} {b = b} {p = p} c) h = on-test m t a b p c h.0
    follows (arm_on {n = m} {t = t} {a = a} {b = b} {p = p} c) h = on-arm m t a b p c
    follows (conditional_has {n = m} {t = t} {a = a} {b = b} {p = p} c) h = chosen-fine m t a b p c h.0
    follows (argument_on {n = m} {e = e} {c = c} {m = a} {k = i} {v = v} {p = p} st t) h =
        on-argument m e c a i v p st t h.0
    follows (callee_on {d = d} {x = x} {h = g} {b = b} {k = k} st is def) h = on-body d x g b k _ def
    follows (argument_has {h = g} {i = i} {q = r} st t is def there) h =
        let R = rows S.checked in
        let w = params-among R g (length R) r (Among-from_at r (params_at R g) i there) in
        param-fine _ r w.0 w.1
    follows (call_has {n = m} {e = e} {c = c} {p = p} st is def) h = has-fine p m (Call e c) st refl refl h.0
    follows (loop_test_on {n = m} {h = g} {w = w} {t = t} {l = l} {p = p} s) h =
        on-loop_test m g w t l 0 p s h.0 (λ j e. (let d : 0 ≡ suc j = e in absurd (omega arith)))
    follows (first_has {m = m} {o = o} {v = v} s y e) h = bound-fine _ m (Next y.name y.index o v) y.next refl refl refl
    follows (lower_on {n = m} {w = w} {x = x} {a = a} {b = b} {l = l} {p = p} s) h =
        on-bound m w x a b l a p s (inl refl) h.0
    follows (upper_on {n = m} {w = w} {x = x} {a = a} {b = b} {l = l} {p = p} s) h =
        on-bound m w x a b l b p s (inr refl) h.0
    follows (index_begins {n = m} {w = w} {x = x} {a = a} {b = b} {l = l} {p = p} s e) h =
        index-fine m w x a b l 0 p s (by_bounds s e) h
    follows (index_counts {n = m} {w = w} {x = x} {a = a} {b = b} {l = l} p k s e) h =
        index-fine m w x a b l (suc k) p s (by_index k s e) h
    follows (turn_on {n = m} {h = g} {w = w} {t = t} {l = l} p k s) h =
        on-loop_test m g w t l (suc k) p s (loop-on m g w t l k p (Bool true) s h.0)
        (λ j e. before-same m t k j p h.0 e)
    follows (loop_statement_on {n = m} {h = g} {w = w} {l = l} {m = c} {a = a} p k s o b) h =
        let T = table_of S.checked in
        let r : region S.checked c ≡ region S.checked b.body =
        (T.statement_stands b.body c b.ends.within b.statement).1 in
        on-side m g w l k a true p s o h (part c a (Binding b.name a) b.binding refl)
        (near c a (Binding b.name a) b.binding refl ∙ r ∙ b.side)
    follows (next_on {n = m} {h = g} {w = w} {l = l} {m = c} {o = u} {v = v} p k s o y) h =
        on-side m g w l k v true p s o h (part c v (Next y.name y.index u v) y.next refl)
        (near c v (Next y.name y.index u v) y.next (inr refl) ∙ next-region S.checked m g w l c u v s y)
    follows (next_has {m = m} {o = o} {v = v} p k s y) h =
        bound-fine _ m (Next y.name y.index o v) y.next refl refl refl
    follows (last_on {n = m} {h = g} {w = w} {l = l} p k s o) h =
        on-side m g w l k l false p s o h (last-part m g w l s) (loop-rows S.checked m g w l s).last_is.region
    follows (loop_has {n = m} {h = g} {w = w} {l = l} {u = u} p k s) h =
        has-fine p m (Loop g w l) s refl refl (false-there m g w l k p u s h.0).on
    follows (statement_on {n = m} {m = c} {x = x} {a = a} {b = b} {p = p} st i t) h =
        live-with G p m a (itself m (Block b) st refl) (part c a (Binding x a) t refl)
        (near c a (Binding x a) t refl ∙ ((table_of S.checked).statement_stands m c st.within i).1)
        (there (On p (place S.checked m)) h.0)
    follows (store_on {n = m} {m = c} {a = a} {x = x} {b = b} {p = p} st i t) h =
        live-with G p m c (itself m (Block b) st refl) (itself c (Store a x) t refl)
        ((table_of S.checked).statement_stands m c st.within i).1
        (there (On p (place S.checked m)) h.0)
    follows (loop_store_on {n = m} {h = g} {w = w} {l = l} {m = c} p k s o b) h =
        let r : region S.checked c ≡ region S.checked b.body =
        ((table_of S.checked).statement_stands b.body c b.ends.within b.statement).1 in
        on-side m g w l k c true p s o h (itself c (Store b.address b.value) b.store refl) (r ∙ b.side)
    follows (bounds_low_on {n = m} {a = a} {b = b} {nested = nested} {p = p} st) h =
        on-part m a p (Array nested a b) st refl (inl refl) (inl refl) h.0
    follows (bounds_high_on {n = m} {a = a} {b = b} {nested = nested} {p = p} st) h =
        on-part m b p (Array nested a b) st refl (inr refl) (inr refl) h.0
    follows (shape_made st e) h = tt
    follows (array_has {n = m} {a = a} {b = b} {nested = nested} {p = p} st e) h =
        has-fine p m (Array nested a b) st refl refl h.0
    follows (fetch_target_on {n = m} {t = t} {i = i} {p = p} st) h =
        on-part m t p (Fetch t i) st refl (inl refl) (inl refl) h.0
    follows (fetch_index_on {n = m} {t = t} {i = i} {p = p} st) h =
        on-part m i p (Fetch t i) st refl (inr refl) (inr refl) h.0
    follows (asks {n = m} {t = t} {i = i} st e) h =
        (inl h.0, record { row = m; target = t; index = i; stands = st; here = refl })
    follows (fetch_has {f = f} {s = s} {j = j}) h = let q = fine (ask f s j) h.0 in fetch-fine f q.0 q.1
    follows (store_target_on {m = m} {t = t} {i = i} {x = x} {p = p} s) h = on-address m t i x t p s (inl refl) h.0
    follows (store_index_on {m = m} {t = t} {i = i} {x = x} {p = p} s) h = on-address m t i x i p s (inr refl) h.0
    follows (store_value_on {m = m} {x = x} {p = p} s) h =
        on-part m x p (Store s.address x) s.store refl refl (inr refl) h.0
    follows (puts s e) h = tt
    follows (body_on {n = m} {b = b} {p = p} st) h = on-part m b p (Block b) st refl refl refl h.0
    follows (block_has {n = m} {b = b} {p = p} st) h = has-fine p m (Block b) st refl refl h.0
    follows (binding_has {n = m} {x = x} {a = a} st) h = bound-fine _ m (Binding x a) st refl refl refl

  pub all-fine : (n : ℕ) → AllFine n
  all-fine zero f h = absurd h
  all-fine (suc n) f (inl h) = more-fine n (all-fine n) f (all-fine n f h)
  all-fine (suc n) f (inr t) = follows n (all-fine n) t.1 t.2
