-- What stands where in a conditional, and what a live arm says: that the predicate has spoken its truth value.
use Rattle.std.proofs.Common.{◌≡◌, inl, inr, ℕ, ◌<◌, Bool as Truth, true, false, List, length, refl, sym, ◌∙◌, ap}
use Rattle.std.proofs.Common.{subst, arith}
use Rattle.id_table.specs.declared.row.Region.{Region}
use Rattle.id_table.specs.declared.row.Node.{Node}
use Rattle.id_table.specs.declared.row.Node.TheVariants.{Head, Split, If, Switches, Within}
use Rattle.id_table.specs.Rows.{arm_at}
use Rattle.id_table.specs.Tables.{HasPart, HasNear, HasOperand, begins_block, is_expression, is_top, is_within}
use Rattle.id_table.specs.Regions.{IsIfOf}
use Rattle.id_check.specs.declared.checked.Checked.{Checked}
use Rattle.id_check.specs.Programs.{Stands, place, region, rows}
use Rattle.id_tag.specs.declared.Value.TheVariants as value
use Rattle.id_source.specs.Sources.{Source}
use Rattle.id_source.specs.Facts.{Chooses, then_arm, else_arm}
use Rattle.id_build.specs.Rows.{node, origin}
use Rattle.id_runs.specs.Activations.{Activation}
use Rattle.id_runs.specs.Events.{Event, FiresOnce}
use Rattle.id_runs.proofs.Givings.{gives_once}
use Rattle.id_laws.specs.Activations.{main_head, Tests, of_arms, of_turns, Chosen, has_said, has_counted, GoesAt}
use Rattle.id_laws.specs.Activations.{Speaks, Live, at_start, on_side, entered, again}
use Rattle.id_laws.proofs.Rows.Assumed.{IsKnown}
use Rattle.id_laws.proofs.Paths.Begun.{begun_at}
use Rattle.id_laws.proofs.Rows.Loops.{loop_of_row}

true_false : true ≡ false → ⊥
true_false h = cc

-- the predicate of the switches at the row n, or what a loop with an index has in its place
pub record TestAt (P : Checked) (n t : ℕ) : Type 0 where
  pub within : t < length (rows P)
  pub expression : is_within (node P t) ≡ false → is_expression (node P t) ≡ true
  pub region : region P t ≡ region P n

pub test_at : {P : Checked} (known : IsKnown P) {n t : ℕ} → n < length (rows P) → Tests P n t → TestAt P n t
test_at {P} known {n} {t} within (of_arms is) =
    let part : HasPart (node P n) t = subst (λ m. HasPart m t) (sym is) refl in
    let less = (((known.table).formed).each n within).parts t part in
    record {
      within = omega (arith, within, less.1);
      expression = λ no. known.operands n t within (subst (λ m. HasOperand m t) (sym is) refl);
      region = ((known.table).part_stands n t within (subst (λ m. HasNear m t) (sym is) refl)).1;
    }
test_at {P} known {n} {t} within (of_turns is) =
    let part : HasPart (node P n) t = subst (λ m. HasPart m t) (sym is) refl in
    let less = (((known.table).formed).each n within).parts t part in
    record {
      within = omega (arith, within, less.1);
      expression = (known.table).test_is n t within is;
      region = ((known.table).part_stands n t within (subst (λ m. HasNear m t) (sym is) refl)).1;
    }

-- the predicate of a conditional is one
pub arms_test : {P : Checked} (known : IsKnown P) {n t : ℕ} → n < length (rows P) → node P n ≡ Split t
    → is_expression (node P t) ≡ true
arms_test {P} known {n} {t} within is = known.operands n t within (subst (λ m. HasOperand m t) (sym is) refl)

pub no_within : (m : Node) → is_expression m ≡ true → is_within m ≡ false
no_within (Within f) e = let bad : true ≡ false = sym e in cc
no_within _ e = refl

-- the switches at a row go by one predicate
pub one_test : {P : Checked} {n e e' : ℕ} → Tests P n e → Tests P n e' → e ≡ e'
one_test {e = e} {e' = e'} (of_arms h) (of_arms k) = let both : Split e ≡ Split e' = sym h ∙ k in cc
one_test {e = e} {e' = e'} (of_arms h) (of_turns k) = let bad : Split e ≡ Switches e' = sym h ∙ k in cc
one_test {e = e} {e' = e'} (of_turns h) (of_arms k) = let bad : Switches e ≡ Split e' = sym h ∙ k in cc
one_test {e = e} {e' = e'} (of_turns h) (of_turns k) = let both : Switches e ≡ Switches e' = sym h ∙ k in cc

-- where switches stand no block begins
pub tests_no_block : {P : Checked} {n t : ℕ} → Tests P n t → begins_block (node P n) ≡ true → ⊥
tests_no_block (of_arms h) b = true_false (sym b ∙ ap begins_block h)
tests_no_block (of_turns h) b = true_false (sym b ∙ ap begins_block h)

-- the arm of a conditional at this row
abbrev pub arm_of : Truth → ℕ → ℕ → ℕ
arm_of true x y = x
arm_of false x y = y

-- a conditional at the row n with its switches at s and its arms at x and y
pub record Conditional (P : Checked) (n s x y : ℕ) : Type 0 where
  pub test : ℕ
  pub node : node P s ≡ Split test
  pub within : s < length (rows P)
  pub test_at : TestAt P s test
  pub place : place P s ≡ place P n
  pub region : region P s ≡ region P n
  pub arm_within : (b : Truth) → arm_of b x y < length (rows P)
  pub arm_expression : (b : Truth) → is_expression (Rattle.id_build.specs.Rows.node P (arm_of b x y)) ≡ true
  pub arm_region : (b : Truth) → Rattle.id_check.specs.Programs.region P (arm_of b x y) ≡ arm_at s b

pub conditional : {P : Checked} (known : IsKnown P) {n s x y : ℕ} → n < length (rows P) → node P n ≡ If s x y
    → Conditional P n s x y
conditional {P} known {n} {s} {x} {y} within is =
    let c : IsIfOf (rows P) n s = record { then = x; otherwise = y; within = within; node = is } in
    let z = (known.table).split_of n s c in
    let w = (known.table).arms n s c in
    let parts = (((known.table).formed).each n within).parts in
    let less_s = parts s (subst (λ m. HasPart m s) (sym is) (inl refl)) in
    let less_x = parts x (subst (λ m. HasPart m x) (sym is) (inr (inl refl))) in
    let less_y = parts y (subst (λ m. HasPart m y) (sym is) (inr (inr refl))) in
    let s_within : s < length (rows P) = omega (arith, within, less_s.1) in
    let x_within : x < length (rows P) = omega (arith, within, less_x.1) in
    let y_within : y < length (rows P) = omega (arith, within, less_y.1) in
    let x_is = known.operands n x within (subst (λ m. HasOperand m x) (sym is) (inl refl)) in
    let y_is = known.operands n y within (subst (λ m. HasOperand m y) (sym is) (inr refl)) in
    record {
      test = z.test;
      node = z.node;
      within = s_within;
      test_at = test_at known s_within (of_arms z.node);
      place = z.place;
      region = z.region;
      arm_within = by_side (λ b. arm_of b x y < length (rows P)) x_within y_within;
      arm_expression = by_side (λ b. is_expression (node P (arm_of b x y)) ≡ true) x_is y_is;
      arm_region = by_side (λ b. region P (arm_of b x y) ≡ arm_at s b) w.then_stands w.otherwise_stands;
    }
  where
    by_side : (C : Truth → Type 0) → C true → C false → (b : Truth) → C b
    by_side C t f true = t
    by_side C t f false = f

-- the predicate chooses the arm
pub chosen : {S : Source} {n s x y t : ℕ} (b : Truth) → Stands S.checked n (If s x y) → Stands S.checked s (Split t)
    → Chooses S n t b (arm_of b x y)
chosen true h k = then_arm h k
chosen false h k = else_arm h k

-- the predicate of the switches at the row n has chosen this side under the activation
pub record ArmLive (S : Source) (number : ℕ → ℕ
    → ℕ) (run : List Event) (a : Activation) (n : ℕ) (b : Truth) : Type 0 where
  pub test : ℕ
  pub tests : Tests S.checked n test
  pub live : Live S number run a (region S.checked n)
  pub chosen : Chosen S number run a n b
  pub goes : GoesAt S number run a n b

pub main_head_is : {P : Checked} (known : IsKnown P) → node P (main_head P) ≡ Head
main_head_is {P} known =
    let d = known.main in ((known.table).head_is P.main d.name (main_head P) d.body d.result d.within d.node).0

-- the head of a region whose head stands in no loop's table is that of a live region
pub arm_live : {S : Source} (known : IsKnown S.checked) {number : ℕ → ℕ
    → ℕ} {run : List Event} {a : Activation} {r : Region} {n t : ℕ} {b : Truth}
    → Live S number run a r → r ≡ arm_at n b → Tests S.checked n t → ArmLive S number run a n b
arm_live {S} known at_start is at =
    absurd (tests_no_block at (ap (λ (z : Region). begins_block (node S.checked z.head)) (sym is)
    ∙ ap begins_block (main_head_is known)))
arm_live {S} known {number} {run} {a} {n = n} {b =
    b} (on_side {n = m} {e = e} {b = c} within tests live says goes) is at =
    subst (λ (z : Region). ArmLive S number run a z.head z.side) is (record {
      test = e;
      tests = tests;
      live = live;
      chosen = says;
      goes = goes;
    })
arm_live {S} known (entered {n = m} within begins live opened) is at =
    absurd (tests_no_block at (ap (λ (z : Region). begins_block (node S.checked z.head)) (sym is)
    ∙ (begun_at known within begins).head))
arm_live {S} known (again {n = m} {e = e} within is' live says goes) is at =
    let l = loop_of_row known (Switches e) within is' refl in
    absurd (tests_no_block at
    (ap (λ (z : Region). begins_block (node S.checked z.head)) (sym is ∙ (known.table).at_top m within (ap is_top is'))
    ∙
    ap begins_block l.head))

-- the side of a conditional was chosen by its predicate
pub arm_spoken : {S : Source} {number : ℕ → ℕ → ℕ} {run : List Event} {a : Activation} {n t : ℕ} {b : Truth}
    → node S.checked n ≡ Split t → Chosen S number run a n b
    → Speaks S number run a (origin S.checked t) (value.Bool b)
arm_spoken {S} {number} {run} {a} {n} {t} {b} is (has_said {e = e} tests says) =
    subst (λ k. Speaks S number run a (origin S.checked k) (value.Bool b)) (one_test tests (of_arms is)) says
arm_spoken {S} {t = t} is (has_counted {e = e} at has decided) = let bad : Split t ≡ Switches e = sym is ∙ at in cc

-- two sides of one conditional's switches are not both live: the predicate has spoken once
pub sides_apart : {S : Source} (known : IsKnown S.checked) {number : ℕ → ℕ
    → ℕ} {run : List Event} {a : Activation} {n t : ℕ} → FiresOnce run
    → node S.checked n ≡ Split t
    → Live S number run a (arm_at n true) → Live S number run a (arm_at n false) → ⊥
sides_apart {S} known {number} {run} {a} {n} {t} once is x y =
    let say = arm_spoken is (arm_live known x refl (of_arms is)).chosen in
    let other = arm_spoken is (arm_live known y refl (of_arms is)).chosen in
    bools (gives_once once say.fires other.fires _ _ (value.Bool true) (value.Bool false) say.gives other.gives).1
  where
    bools : value.Bool true ≡ value.Bool false → ⊥
    bools h = cc
