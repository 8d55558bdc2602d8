-- Where what begins at a head or at the switches of a conditional ends, and what the head of a region is.
use Rattle.std.proofs.Common.{◌≡◌, inl, inr, ℕ, zero, suc, ◌+◌, ◌-◌, ◌<◌, Bool as Truth, true, false, cond, nat_eq}
use Rattle.std.proofs.Common.{Option, Some, None, length, refl}
use Rattle.std.proofs.Common.{sym, ◌∙◌, ap, subst, arith, List}
use Rattle.std.specs.Option.{option_or}
use Rattle.std.specs.Prelude.{unwrap_or}
use Rattle.std.proofs.lemmas.Bool.{cases_eq, eqb-true, false≢true}
use Rattle.std.proofs.lemmas.Bool.Decides.{nat_tests}
use Rattle.id_table.specs.declared.row.Region.{Region}
use Rattle.id_table.specs.declared.row.Node.{Node}
use Rattle.id_table.specs.declared.row.Node.TheVariants.{Head, Split, If, Enter, Call, Def, Program, LoopHead, Switches}
use Rattle.id_table.specs.declared.row.Node.TheVariants.{Loop}
use Rattle.id_table.specs.Rows.{at, top}
use Rattle.id_table.specs.Tables.{HasPart, begins_block}
use Rattle.id_table.specs.Calls.{IsCallOf}
use Rattle.id_table.specs.Loops.{IsBody, IsLoopOf, IsTurn, InSide, StandsInSide, behind_count, right}
use Rattle.id_table.specs.declared.row.Row.{Row}
use Rattle.id_table.specs.Regions.{IsIfOf, StandsInArm}
use Rattle.id_table.specs.Turns as roots
use Rattle.id_table.specs.Turns.{IsTable, IsDefOf}
use Rattle.id_table.proofs.RegionLemmas.{InArm-within, Root-stands}
use Rattle.id_check.specs.declared.checked.Checked.{Checked}
use Rattle.id_check.specs.Scopes.{first_of}
use Rattle.id_check.specs.Programs.{region, rows}
use Rattle.id_desugar.specs.Ends.{ends_what, end_of}
use Rattle.id_build.specs.Rows.{node}

-- ---- the rows of a loop's body

-- a `Turn` stands behind the switches
pub turn_low : {R : List Row} {w t c : ℕ} → IsTurn R w t c → w < t
turn_low (right e) = omega (arith, e)
turn_low (behind_count e k x) = omega (arith, e)

-- and so does the end of the body
pub body_low : {R : List Row} {h w t b c : ℕ} → IsBody R h w t b c → w < b
body_low x = let l = turn_low x.turns in omega (arith, l, x.low)

-- ---- where rows end

-- what the first answer of f answers
pub first_answers : (f : ℕ → Option ℕ) (n k : ℕ) → first_of f n ≡ Some k → (m : ℕ) × (m < n) × (f m ≡ Some k)
first_answers f zero k e = cc
first_answers f (suc n) k e = go (first_of f n) refl e (first_answers f n k)
  where
    go : (o : Option ℕ) → first_of f n ≡ o → option_or o (f n) ≡ Some k
        → (first_of f n ≡ Some k → (m : ℕ) × (m < n) × (f m ≡ Some k))
        → (m : ℕ) × (m < suc n) × (f m ≡ Some k)
    go None is h rest = (n, omega arith, h)
    go (Some x) is h rest = let t = rest (is ∙ h) in (t.0, omega (arith, t.1), t.2)

smaller : (m n : ℕ) → m < suc n → (m ≡ n → ⊥) → m < n
smaller m n less other = omega (arith, less, other)

-- where something below n answers, there is a first answer
pub some_answer : (f : ℕ → Option ℕ) (n m k : ℕ) → m < n → f m ≡ Some k → (x : ℕ) × (first_of f n ≡ Some x)
some_answer f zero m k less e = absurd (omega (arith, less))
some_answer f (suc n) m k less e = go (first_of f n) refl (some_answer f n m k)
  where
    go : (o : Option ℕ) → first_of f n ≡ o → (m < n → f m ≡ Some k → (x : ℕ) × (first_of f n ≡ Some x))
        → (x : ℕ) × (option_or o (f n) ≡ Some x)
    go (Some x) is rest = (x, refl)
    go None is rest =
        elim (cases_eq m n) [
          | inl same ↦ (k, ap f (sym same) ∙ e)
          | inr other ↦ let t = rest (smaller m n less other) e in let bad : None ≡ Some t.0 = sym is ∙ t.1 in cc
        ]

pub tested : (b : Truth) (n k : ℕ) → cond b (Some n) None ≡ Some k → (b ≡ true) × (n ≡ k)
tested true n k e = (refl, cc)
tested false n k e = cc

pub itself_eq : (n : ℕ) → nat_eq n n ≡ true
itself_eq n = grind (arith, nat_tests)

module _ (P : Checked) (table : IsTable (rows P)) where
  -- what begins at the row h ends at a row, if it ends at some
  end_there : (h n : ℕ) → n < length (rows P) → ends_what h (node P n) ≡ true
      → (end_of P h < length (rows P)) × (ends_what h (node P (end_of P h)) ≡ true)
  end_there h n within is =
      let f : ℕ → Option ℕ = λ m. cond (ends_what h (node P m)) (Some m) None in
      let here : f n ≡ Some n = ap (λ b. cond b (Some n) None) is in
      let found = some_answer f (length (rows P)) n n within here in
      let answers = first_answers f (length (rows P)) found.0 found.1 in
      let test = tested (ends_what h (node P answers.0)) answers.0 found.0 answers.2 in
      let end : end_of P h ≡ answers.0 = ap (λ o. unwrap_or o 0) found.1 ∙ sym test.1 in
      subst (λ m. (m < length (rows P)) × (ends_what h (node P m) ≡ true)) (sym end) (answers.1, test.0)

  -- the switches of a conditional are no head
  split_no_head : (n s x y : ℕ) → n < length (rows P) → node P n ≡ If s x y → node P s ≡ Head → ⊥
  split_no_head n s x y within is head =
      let z = table.split_of n s (record { then = x; otherwise = y; within = within; node = is }) in
      let bad : Head ≡ Split z.test = sym head ∙ z.node in
      cc

  -- nor is the head of a loop
  loop_head : (n h w l : ℕ) → n < length (rows P) → node P n ≡ Loop h w l → node P h ≡ LoopHead (h - 1)
  loop_head n h w l within is =
      (table.loop_is n h (record { switches = w; last = l; within = within; node = is })).before_test.head

  -- the row where a head's definition ends is the definition
  pub end_is : (h : ℕ) → h < length (rows P) → node P h ≡ Head → IsDefOf (rows P) (end_of P h) h
  end_is h within is =
      let def = table.has_def h within is in
      let end = end_there h def.0 (def.1).within (ap (ends_what h) (def.1).node ∙ itself_eq h) in
      by_node (end_of P h) end.0 (node P (end_of P h)) refl end.1
    where
      by_node : (n : ℕ) → n < length (rows P) → (m : Node) → node P n ≡ m → ends_what h m ≡ true → IsDefOf (rows P) n h
      by_node n less (Def x g k b) m e =
          record { name = x; result = k; body = b; within = less; node = m ∙ ap (λ z. Def x z k b) (eqb-true g h e) }
      by_node n less (If s x y) m e = absurd (split_no_head n s x y less m (ap (node P) (eqb-true s h e) ∙ is))
      by_node n less (Call g c) m e =
          let z = table.enter_of n g (record { count = c; within = less; node = m }) in
          let bad : Head ≡ Enter z.name = sym is ∙ ap (node P) (sym (eqb-true g h e)) ∙ z.node in
          cc
      by_node n less (Loop g w l) m e =
          let bad : Head ≡ LoopHead (g - 1) = sym is ∙ ap (node P) (sym (eqb-true g h e)) ∙ loop_head n g w l less m in
          cc
      by_node n less _ m e = absurd (false≢true e)

  -- the row where the arms end that begin at the switches of a conditional is the conditional
  pub if_is : (s t : ℕ) → s < length (rows P) → node P s ≡ Split t → IsIfOf (rows P) (end_of P s) s
  if_is s t within is =
      let c = table.has_if s t within is in
      let end = end_there s c.0 (c.1).within (ap (ends_what s) (c.1).node ∙ itself_eq s) in
      by_node (end_of P s) end.0 (node P (end_of P s)) refl end.1
    where
      by_node : (n : ℕ) → n < length (rows P) → (m : Node) → node P n ≡ m → ends_what s m ≡ true → IsIfOf (rows P) n s
      by_node n less (If g x y) m e =
          record { then = x; otherwise = y; within = less; node = m ∙ ap (λ z. If z x y) (eqb-true g s e) }
      by_node n less (Def x g k b) m e =
          let heads = table.head_is n x g b k less m in
          let bad : Head ≡ Split t = sym heads.0 ∙ ap (node P) (eqb-true g s e) ∙ is in
          cc
      by_node n less (Call g c) m e =
          let z = table.enter_of n g (record { count = c; within = less; node = m }) in
          let bad : Split t ≡ Enter z.name = sym is ∙ ap (node P) (sym (eqb-true g s e)) ∙ z.node in
          cc
      by_node n less (Loop g w l) m e =
          let bad : Split t ≡ LoopHead (g - 1) =
          sym is ∙ ap (node P) (sym (eqb-true g s e)) ∙ loop_head n g w l less m in
          cc
      by_node n less _ m e = absurd (false≢true e)

  -- the row where a call ends that begins at an `Enter` is the call
  pub call_is : (s x : ℕ) → s < length (rows P) → node P s ≡ Enter x → IsCallOf (rows P) (end_of P s) s
  call_is s x within is =
      let c = table.has_call s x within is in
      let end = end_there s c.0 (c.1).within (ap (ends_what s) (c.1).node ∙ itself_eq s) in
      by_node (end_of P s) end.0 (node P (end_of P s)) refl end.1
    where
      by_node : (n : ℕ) → n < length (rows P) → (m : Node) → node P n ≡ m → ends_what s m ≡ true → IsCallOf (rows P) n s
      by_node n less (Call g c) m e =
          record { count = c; within = less; node = m ∙ ap (λ z. Call z c) (eqb-true g s e) }
      by_node n less (Def y g k b) m e =
          let heads = table.head_is n y g b k less m in
          let bad : Head ≡ Enter x = sym heads.0 ∙ ap (node P) (eqb-true g s e) ∙ is in
          cc
      by_node n less (If g y z) m e =
          let split = table.split_of n g (record { then = y; otherwise = z; within = less; node = m }) in
          let bad : Enter x ≡ Split split.test = sym is ∙ ap (node P) (sym (eqb-true g s e)) ∙ split.node in
          cc
      by_node n less (Loop g w l) m e =
          let bad : Enter x ≡ LoopHead (g - 1) =
          sym is ∙ ap (node P) (sym (eqb-true g s e)) ∙ loop_head n g w l less m in
          cc
      by_node n less _ m e = absurd (false≢true e)

  -- the row where a loop's head ends is the loop
  pub loop_is : (h s : ℕ) → h < length (rows P) → node P h ≡ LoopHead s → IsLoopOf (rows P) (end_of P h) h
  loop_is h s within is =
      let c = table.has_loop h s within is in
      let end = end_there h c.0 (c.1).within (ap (ends_what h) (c.1).node ∙ itself_eq h) in
      by_node (end_of P h) end.0 (node P (end_of P h)) refl end.1
    where
      by_node : (n : ℕ) → n < length (rows P) → (m : Node) → node P n ≡ m → ends_what h m ≡ true → IsLoopOf (rows P) n h
      by_node n less (Loop g w l) m e =
          record { switches = w; last = l; within = less; node = m ∙ ap (λ z. Loop z w l) (eqb-true g h e) }
      by_node n less (Def y g k b) m e =
          let heads = table.head_is n y g b k less m in
          let bad : Head ≡ LoopHead s = sym heads.0 ∙ ap (node P) (eqb-true g h e) ∙ is in
          cc
      by_node n less (If g y z) m e =
          let split = table.split_of n g (record { then = y; otherwise = z; within = less; node = m }) in
          let bad : LoopHead s ≡ Split split.test = sym is ∙ ap (node P) (sym (eqb-true g h e)) ∙ split.node in
          cc
      by_node n less (Call g c) m e =
          let z = table.enter_of n g (record { count = c; within = less; node = m }) in
          let bad : LoopHead s ≡ Enter z.name = sym is ∙ ap (node P) (sym (eqb-true g h e)) ∙ z.node in
          cc
      by_node n less _ m e = absurd (false≢true e)

  -- wherever the loop of a head is said to be, it is there
  pub loop_same : (n h : ℕ) → IsLoopOf (rows P) n h → end_of P h ≡ n
  loop_same n h c =
      let low = ((table.formed).each n c.within).parts h (subst (λ m. HasPart m h) (sym c.node) (inl refl)) in
      let is = loop_head n h c.switches c.last c.within c.node in
      table.one_loop (end_of P h) n h (loop_is h (h - 1) (omega (arith, low.1, c.within)) is) c

  -- a row of another node is not the last
  pub not_last : (n : ℕ) → n < length (rows P) → (node P n ≡ Program → ⊥) → n + 1 < length (rows P)
  not_last n within other =
      elim (cases_eq (n + 1) (length (rows P))) [
        | inl e ↦ absurd (other (ap (node P) (last_is (length (rows P)) e) ∙ table.ends))
        | inr ne ↦ omega (arith, within, ne)
      ]
    where
      last_is : (l : ℕ) → n + 1 ≡ l → n ≡ l - 1
      last_is l e = omega (arith, e)

  -- ---- the heads of regions

  -- the head of a region is that of a procedure or of a loop, or the switches of a conditional or of a loop
  pub data HeadOf (r : Region) : Type 0 where
    of_procedure : node P r.head ≡ Head → r ≡ top r.head → HeadOf r
    of_loop : {s : ℕ} → node P r.head ≡ LoopHead s → r ≡ top r.head → HeadOf r
    of_arm : {t : ℕ} → node P r.head ≡ Split t → HeadOf r
    of_side : {t : ℕ} → node P r.head ≡ Switches t → HeadOf r

  -- and is a row
  pub record RegionOf (n : ℕ) : Type 0 where
    pub below : (region P n).head < length (rows P)
    pub head : HeadOf (region P n)

  -- what begins a block is the head of a procedure or of a loop
  block_head : (r : Region) (m : Node) → node P r.head ≡ m → begins_block m ≡ true → r ≡ top r.head → HeadOf r
  block_head r Head is b t = of_procedure is t
  block_head r (LoopHead s) is b t = of_loop is t
  block_head r _ is b t = absurd (false≢true b)

  -- a row in a side of switches stands behind them
  side_low : (w b n i : ℕ) (c : Truth) → w < b → InSide w b n c i → w < i
  side_low w b n i true low h = h.0
  side_low w b n i false low h = omega (arith, low, h.0)

  pub region_of : (n : ℕ) → n < length (rows P) → (node P n ≡ Program → ⊥) → RegionOf n
  region_of n within other =
      elim (table.region n (not_last n within other)) [
        | inl is ↦
            let stands = table.block n (not_last n within other) in
            let head : (region P n).head ≡ (at (rows P) n).block = ap (λ (r : Region). r.head) is in
            record {
              below = omega (arith, within, stands.0, head);
              head = block_head (region P n) (node P (region P n).head) refl (ap (λ k. begins_block (node P k)) head
                  ∙ stands.1)
                  (is ∙ ap top (sym head));
            }
        | inr (inl arm) ↦ in_arm arm
        | inr (inr side) ↦ in_side side
      ]
    where
      in_arm : StandsInArm (rows P) n → RegionOf n
      in_arm x =
          let c = x.conditional in
          let z = table.split_of x.row x.split c in
          let head : (region P n).head ≡ x.split = ap (λ (r : Region). r.head) x.region in
          let inside = InArm-within (rows P) table x.row x.split n x.side c x.among in
          record { below = omega (arith, within, inside.0, head); head = of_arm (ap (node P) head ∙ z.node) }

      in_side : StandsInSide (rows P) n → RegionOf n
      in_side x =
          let c = x.loop in
          let z = (table.loop_is x.row (at (rows P) n).block c).test in
          let head : (region P n).head ≡ c.switches = ap (λ (r : Region). r.head) x.region in
          let low = side_low c.switches x.body x.row n x.side (body_low x.body_is) x.among in
          record { below = omega (arith, within, low, head); head = of_side (ap (node P) head ∙ z.node) }

  -- the body of a definition stands right in the region that its head turns on
  pub body_region : (n h : ℕ) (d : IsDefOf (rows P) n h) → (d.body < length (rows P)) × (region P d.body ≡ top h)
  body_region n h d =
      let less =
      ((table.formed).each n d.within).parts d.body (subst (λ m. HasPart m d.body) (sym d.node) (inr refl)) in
      (omega (arith, d.within, less.1), Root-stands (rows P) table (top h) d.body (roots.of_procedure d.within d.node))
