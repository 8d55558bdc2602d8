-- What is true of the rows of a conditional.
use Rattle.std.proofs.Common.{◌≡◌, inl, inr, ◌<◌, ◌≤◌, ℕ, suc, Bool, true, false, List, length, refl, sym, ap, ◌∙◌, subst, arith}
use Rattle.std.proofs.lemmas.Bool.{cases_lt, false≢true}
use Rattle.id_table.specs.declared.row.Row.{Row}
use Rattle.id_table.specs.declared.row.Stand.{Stand}
use Rattle.id_table.specs.declared.row.Node.TheVariants.{Split, If, Block}
use Rattle.id_table.specs.Rows.{arm, arm_at, at}
use Rattle.id_table.specs.Tables.{can_be_on, is_block, is_expression, is_split, is_statement}
use Rattle.id_table.specs.Regions.{AreArms, InArm, IsIfOf, IsSplitOf, Lies}
use Rattle.id_table.specs.Turns.{Root, TurnedIn, Turns, in_block}
use Rattle.id_table.proofs.BlockLemmas.{in_block-more}
use Rattle.id_table.proofs.HasLemmas.{row_in}
use Rattle.id_table.proofs.RowLemmas.{Fits, RowIs, RowIs-fits, RowIs-within, RowsAre, StandsHere, gives_own}
use Rattle.id_table.proofs.ExpressionLemmas.{AreExpression, expression-fits, part_of}

-- the rows from lo on are those of a conditional at the row n: its predicate's, the last of which is t, its split at u, and those of
-- its arms, the last of which are x and y
pub record Branches (F : List Row) (s : Stand) (p lo t u x y n : ℕ) : Type 0 where
  pub within : n < length F
  pub test : AreExpression F s lo u
  pub test_ends : suc t ≡ u
  pub split : at F u ≡ row_in s p lo u (Split t)
  pub then : AreExpression F (arm s u true) (suc u) (suc x)
  pub otherwise : AreExpression F (arm s u false) (suc x) n
  pub otherwise_ends : suc y ≡ n
  pub row : at F n ≡ row_in s p lo n (If u x y)

module _ (F : List Row) (s : Stand) (p lo t u x y n : ℕ) (b : Branches F s p lo t u x y n) where
  test_low : lo ≤ t
  test_low = omega (arith, b.test.low, b.test.ends, b.test_ends)

  before_split : t < u
  before_split = omega (arith, b.test_ends)

  then_low : u < x
  then_low = omega (arith, b.then.low, b.then.ends)

  otherwise_low : x < y
  otherwise_low = omega (arith, b.otherwise.low, b.otherwise.ends, b.otherwise_ends)

  last_low : y < n
  last_low = omega (arith, b.otherwise_ends)

  split_node : (at F u).node ≡ Split t
  split_node = ap (λ (r : Row). r.node) b.split

  if_node : (at F n).node ≡ If u x y
  if_node = ap (λ (r : Row). r.node) b.row

  abbrev is_if_of : IsIfOf F n u
  is_if_of = record { then = x; otherwise = y; within = b.within; node = if_node }

  split_stands : StandsHere F s u
  split_stands = (ap (λ (r : Row). r.block) b.split, ap (λ (r : Row). r.region) b.split)

  is_split_of : IsSplitOf F u n
  is_split_of =
      let e = b.row in
      let same : b.test.end ≡ t = omega (arith, b.test.ends, b.test_ends) in
      record {
        test = t;
        node = split_node;
        behind = omega (arith, b.test_ends);
        test_first = ap (λ k. (at F k).first) (sym same) ∙ b.test.first ∙ sym (ap (λ (r : Row). r.first) b.split);
        place = ap (λ (r : Row). r.place) b.split ∙ sym (ap (λ (r : Row). r.place) e);
        block = split_stands.0 ∙ sym (ap (λ (r : Row). r.block) e);
        region = split_stands.1 ∙ sym (ap (λ (r : Row). r.region) e);
        first = ap (λ (r : Row). r.first) b.split ∙ sym (ap (λ (r : Row). r.first) e);
      }

  -- what stands in an arm does in its region, or further in
  in_region : (side : Bool) (i : ℕ) → InArm u x n side i → Lies F (arm_at u side) (at F i).region
  in_region true i h = (b.then.rows i h.0 (omega (arith, h.1))).lies
  in_region false i h = (b.otherwise.rows i h.0 h.1).lies

  are_arms : AreArms F u x y n
  are_arms =
      let one : b.then.end ≡ x = omega (arith, b.then.ends) in
      let two : b.otherwise.end ≡ y = omega (arith, b.otherwise.ends, b.otherwise_ends) in
      record {
        low = then_low;
        next = otherwise_low;
        ends = omega (arith, b.otherwise_ends);
        then_first = ap (λ k. (at F k).first) (sym one) ∙ b.then.first ∙ omega arith;
        otherwise_first = ap (λ k. (at F k).first) (sym two) ∙ b.otherwise.first ∙ omega arith;
        then_stands = ap (λ k. (at F k).region) (sym one) ∙ b.then.region;
        otherwise_stands = ap (λ k. (at F k).region) (sym two) ∙ b.otherwise.region;
        each = in_region;
      }

  -- the split fits behind the predicate
  split_fits : Fits F s lo u u (Split t)
  split_fits =
      let part = part_of F s lo u t b.test b.test_ends in
      record {
        formed = λ a h. subst (λ k. (lo ≤ k) × (k < u)) (sym h) (part.low, part.before);
        part_stands = λ a h. subst (StandsHere F s) (sym h) part.stands;
        operand_is = λ a h. subst (λ k. is_expression (at F k).node ≡ true) (sym h) part.expression;
        value_block = λ c h. absurd (no_block t c h);
        value_self = λ h. refl;
        value = λ h. absurd (false≢true h);
        statements = λ h. absurd (false≢true h);
        at_top = λ h. absurd (false≢true h);
        heads = λ h. absurd (false≢true h);
        belongs = (n, is_if_of);
      }
    where
      no_block : (a c : ℕ) → Split a ≡ Block c → ⊥
      no_block a c h = false≢true (ap is_block h)

  -- a row that stands in an arm stands in the conditional's region, or further in
  arm_row : (side : Bool) (mid i : ℕ) → lo ≤ mid → InArm u x n side i → RowIs F (arm s u side) mid i (at F i) → RowIs F s lo i (at F i)
  arm_row side mid i l among h =
      let lies : Lies F s.region (arm_at u side) =
      Lies.in_arm (omega (arith, b.within, then_low, otherwise_low, last_low)) (ap is_split split_node)
      (subst (Lies F s.region) (sym split_stands.1) Lies.here) in
      RowIs-within F s (arm s u side) lo mid i (at F i) l (inl refl) lies (λ e. inr (inr (inl (record {
        split = u;
        side = side;
        row = n;
        conditional = is_if_of;
        region = e.0;
        among = among;
        block = split_stands.0 ∙ sym e.1;
      })))) h

  rows_before : RowsAre F s lo n
  rows_before i c d = elim (cases_lt i u) [
    | inl f ↦ b.test.rows i c f
    | inr f ↦ elim (cases_lt u i) [
      | inr g ↦ let z : u ≡ i = omega arith in
          subst (λ k. RowIs F s lo k (at F k)) z
          (RowIs-fits F s p lo u u (Split t) b.split (omega (arith, test_low, before_split)) b.test.rows refl split_fits)
      | inl g ↦ elim (cases_lt x i) [
        | inr k ↦ arm_row true (suc u) i (omega (arith, test_low, before_split)) (g, k) (b.then.rows i g (omega arith))
        | inl k ↦ arm_row false (suc x) i (omega (arith, test_low, before_split, then_low)) (k, d) (b.otherwise.rows i k d)
      ]
    ]
  ]

  -- the conditional fits behind its arms
  if_fits : Fits F s lo n n (If u x y)
  if_fits =
      let one : b.then.end ≡ x = omega (arith, b.then.ends) in
      let two : b.otherwise.end ≡ y = omega (arith, b.otherwise.ends, b.otherwise_ends) in
      record {
        formed = λ a h. elim h [
          | inl e ↦ (omega (arith, e, test_low, before_split), omega (arith, e, then_low, otherwise_low, last_low))
          | inr q ↦ elim q [
            | inl e ↦ (omega (arith, e, test_low, before_split, then_low), omega (arith, e, otherwise_low, last_low))
            | inr e ↦ (omega (arith, e, test_low, before_split, then_low, otherwise_low), omega (arith, e, last_low))
          ]
        ];
        part_stands = λ a h. subst (StandsHere F s) (sym h) split_stands;
        operand_is = λ a h. elim h [
          | inl e ↦ ap (λ k. is_expression (at F k).node) (e ∙ sym one) ∙ b.then.expression
          | inr e ↦ ap (λ k. is_expression (at F k).node) (e ∙ sym two) ∙ b.otherwise.expression
        ];
        value_block = λ c h. absurd (no_block c h);
        value_self = λ h. refl;
        value = λ h. gives_own F s p lo n (If u x y) b.row refl refl;
        statements = λ h. absurd (false≢true h);
        at_top = λ h. absurd (false≢true h);
        heads = λ h. absurd (false≢true h);
        belongs = (is_split_of, are_arms);
      }
    where
      no_block : (c : ℕ) → If u x y ≡ Block c → ⊥
      no_block c h = false≢true (ap is_block h)

  -- the expressions of the predicate are turned on with the conditional, those of the arms with their regions
  turned_before : TurnedIn F s.region n → (j : ℕ) → lo ≤ j → j < n → can_be_on (at F j).node ≡ true → TurnedIn F (at F j).region j
  turned_before on j c d k =
      let zero : t ≡ b.test.end = omega (arith, b.test.ends, b.test_ends) in
      let one : x ≡ b.then.end = omega (arith, b.then.ends) in
      let two : y ≡ b.otherwise.end = omega (arith, b.otherwise.ends, b.otherwise_ends) in
      elim (cases_lt j u) [
        | inl f ↦ b.test.turned (subst (TurnedIn F s.region) zero (TurnedIn.part on b.within (Turns.test if_node split_node))) j c f k
        | inr f ↦ elim (cases_lt u j) [
          | inr g ↦ let z : j ≡ u = omega arith in
              absurd (false≢true (sym (ap can_be_on split_node) ∙ sym (ap (λ l. can_be_on (at F l).node) z) ∙ k))
          | inl g ↦ elim (cases_lt x j) [
            | inr l ↦ b.then.turned (subst (TurnedIn F (arm_at u true)) one (TurnedIn.root (Root.of_then b.within if_node))) j g (omega arith) k
            | inl l ↦ b.otherwise.turned (subst (TurnedIn F (arm_at u false)) two (TurnedIn.root (Root.of_otherwise b.within if_node))) j l d k
          ]
        ]
      ]

  held_before : (j : ℕ) → lo ≤ j → j < n → is_statement (at F j).node ≡ true → in_block F j (suc n) ≡ true
  held_before j c d k = elim (cases_lt j u) [
    | inl f ↦ in_block-more F j u (suc n) (omega (arith, then_low, otherwise_low, last_low)) (b.test.held j c f k)
    | inr f ↦ elim (cases_lt u j) [
      | inr g ↦ let z : j ≡ u = omega arith in absurd (false≢true (sym (ap is_statement split_node) ∙ sym (ap (λ l. is_statement (at F l).node) z) ∙ k))
      | inl g ↦ elim (cases_lt x j) [
        | inr l ↦ in_block-more F j (suc x) (suc n) (omega (arith, otherwise_low, last_low)) (b.then.held j g (omega arith) k)
        | inl l ↦ in_block-more F j n (suc n) (omega arith) (b.otherwise.held j l d k)
      ]
    ]
  ]

  -- a conditional behind its predicate, its switches and its arms
  pub are-conditional : AreExpression F s lo (suc n)
  are-conditional =
      let low : lo ≤ n = omega (arith, test_low, before_split, then_low, otherwise_low, last_low) in
      expression-fits F s p lo n n (If u x y) b.row low rows_before refl if_fits refl refl turned_before held_before
