-- The heads of regions, and how many loops are round what stands in them.
use Rattle.std.proofs.Common.{◌≡◌, inl, inr, ℕ, ◌+◌, ◌-◌, ◌<◌, true, false, length, refl, sym, ◌∙◌, ap, subst, arith}
use Rattle.id_table.specs.declared.row.Region.{Region}
use Rattle.id_value.specs.declared.Kind.TheVariants as kinds
use Rattle.std.proofs.lemmas.Bool.{cases_lt}
use Rattle.std.proofs.lemmas.List.{get_or_past}
use Rattle.id_table.specs.declared.row.Row.{Row}
use Rattle.id_table.specs.declared.row.Node.{Node}
use Rattle.id_table.specs.declared.row.Node.TheVariants.{Carried, Head, Index, Param, Binding, Program, Variable, Next}
use Rattle.id_table.specs.Rows.{at, no_row, top}
use Rattle.id_table.specs.Loops.{StandsInSide, loops_from}
use Rattle.id_table.specs.Regions.{StandsInArm}
use Rattle.id_table.specs.Tables.{HasPart, begins_block, is_binder}
use Rattle.id_check.specs.declared.checked.Checked.{Checked}
use Rattle.id_check.specs.Scopes.{loops_between}
use Rattle.id_check.specs.Programs.{region, rows}
use Rattle.id_build.specs.Rows.{block, home, home_by, label, label_by, node}
use Rattle.id_build.proofs.EndsLemmas.{not_last}
use Rattle.id_build.proofs.NamesSeen.{HasSwitches}
use Rattle.id_build.proofs.NamesSeen as seen
use Rattle.id_laws.specs.Activations.{Tests, of_arms, of_turns}
use Rattle.id_laws.proofs.Rows.Assumed.{IsKnown}
use Rattle.id_laws.proofs.Rows.Loops.{IsCounted, LoopOf, carried_stands, counted_of, has_three, loop_of_row}

-- as the builder's lemmas say it
pub as_tests : {P : Checked} {n t : ℕ} → HasSwitches P n t → Tests P n t
as_tests (seen.of_arms is) = of_arms is
as_tests (seen.of_turns is) = of_turns is

-- the head of a region is that of a block, or switches
pub data HeadOf (P : Checked) (r : Region) : Type 0 where
  of_block : begins_block (node P r.head) ≡ true → r ≡ top r.head → HeadOf P r
  of_tests : {t : ℕ} → Tests P r.head t → HeadOf P r

-- the head of a row's region is a row, of the row's block
pub record RegionOf (P : Checked) (n : ℕ) : Type 0 where
  pub below : (region P n).head < length (rows P)
  pub head : HeadOf P (region P n)
  pub block : block P (region P n).head ≡ block P n

pub region_of : {P : Checked} (known : IsKnown P) {n : ℕ} → n < length (rows P) → (node P n ≡ Program → ⊥)
    → RegionOf P n
region_of {P} known {n} within other = elim ((known.table).region n less) [
  | inl is ↦ at_top is
  | inr rest ↦ elim rest [ inl x ↦ in_arm x | inr x ↦ in_side x ]
]
  where
    less : n + 1 < length (rows P)
    less = not_last P known.table n within other

    at_top : region P n ≡ top (block P n) → RegionOf P n
    at_top is =
        let stands = (known.table).block n less in
        let head : (region P n).head ≡ block P n = ap (λ (r : Region). r.head) is in
        let below : block P n < length (rows P) = omega (arith, within, stands.0) in
        record {
          below = omega (arith, below, head);
          head = of_block (ap (λ h. begins_block (node P h)) head ∙ stands.1) (is ∙ ap top (sym head));
          block = ap (block P) head ∙ (known.table).head_block (block P n) below stands.1;
        }

    in_arm : StandsInArm (rows P) n → RegionOf P n
    in_arm x =
        let c = x.conditional in
        let z = (known.table).split_of x.row x.split c in
        let part =
        (((known.table).formed).each x.row c.within).parts x.split
        (subst (λ m. HasPart m x.split) (sym c.node) (inl refl)) in
        let head : (region P n).head ≡ x.split = ap (λ (r : Region). r.head) x.region in
        record {
          below = omega (arith, c.within, part.1, head);
          head = of_tests (of_arms (ap (node P) head ∙ z.node));
          block = ap (block P) head ∙ x.block;
        }

    in_side : StandsInSide (rows P) n → RegionOf P n
    in_side x =
        let c = x.loop in
        let z = ((known.table).loop_is x.row (block P n) c).test in
        let part =
        (((known.table).formed).each x.row c.within).parts c.switches
        (subst (λ m. HasPart m c.switches) (sym c.node) (inr (inl refl))) in
        let head : (region P n).head ≡ c.switches = ap (λ (r : Region). r.head) x.region in
        record {
          below = omega (arith, c.within, part.1, head);
          head = of_tests (of_turns (ap (node P) head ∙ z.node));
          block = ap (block P) head ∙ z.block;
        }

-- as many loops are round rows of one block
pub same_depth : (P : Checked) (i j b : ℕ) → block P i ≡ block P j
    → loops_between (rows P) i b ≡ loops_between (rows P) j b
same_depth P i j b same =
    ap (λ h. loops_from (rows P) (length (rows P)) (at (rows P) h).node - loops_from (rows P) (length (rows P))
    (at (rows P) (at (rows P) b).block).node) same

itself : (m n : ℕ) → m ≡ n → m - n ≡ 0
itself m n e = omega (arith, e)

pub no_depth : (P : Checked) (i b : ℕ) → block P i ≡ block P b → loops_between (rows P) i b ≡ 0
no_depth P i b same = itself _ _ (ap (λ h. loops_from (rows P) (length (rows P)) (at (rows P) h).node) same)

-- none stands between a region and what is right in it
pub own_depth : {P : Checked} (known : IsKnown P) {n : ℕ} → n < length (rows P) → (node P n ≡ Program → ⊥)
    → loops_between (rows P) (region P n).head n ≡ 0
own_depth {P} known {n} within other = no_depth P (region P n).head n (region_of known within other).block

-- a row with a node that is no head's is one of the table
pub row_within : (P : Checked) (i : ℕ) {m : Node} → node P i ≡ m → (Head ≡ m → ⊥) → i < length (rows P)
row_within P i is other = elim (cases_lt i (length (rows P))) [
  | inl less ↦ less
  | inr past ↦ absurd (other (sym (ap (λ (r : Row). r.node) (get_or_past (rows P) i no_row past)) ∙ is))
]

true_false : true ≡ false → ⊥
true_false h = cc

-- an index is that of a loop with one
pub index_loop : {P : Checked} (known : IsKnown P) {b x : ℕ} → b < length (rows P) → node P b ≡ Index x
    → (l : LoopOf P (block P b)) × IsCounted P l.all
index_loop {P} known {b} {x} within is =
    let l = loop_of_row known (Index x) within is refl in
    let z = (known.table).index_of b x within is in
    (l, counted_of P l.all (has_three P ((known.table).loop_is z.0 (block P b) z.1) z.2))

-- the row of a binder's label: it is of the binder's block
pub record LabelRow (P : Checked) (b : ℕ) : Type 0 where
  pub within : label P b < length (rows P)
  pub block : block P (label P b) ≡ block P b
  pub other : node P (label P b) ≡ Program → ⊥

pub label_row : {P : Checked} (known : IsKnown P) {b : ℕ} → b < length (rows P) → is_binder (node P b) ≡ true
    → LabelRow P b
label_row {P} known {b} within binds = by (node P b) refl binds
  where
    own : label P b ≡ b → (node P b ≡ Program → ⊥) → LabelRow P b
    own same other = record {
      within = subst (λ z. z < length (rows P)) (sym same) within;
      block = ap (block P) same;
      other = λ e. other (sym (ap (node P) same) ∙ e);
    }

    by : (m : Node) → node P b ≡ m → is_binder m ≡ true → LabelRow P b
    by (Param x k) is h = own (ap (label_by (block P b) b) is) (λ e. let bad : Param x k ≡ Program = sym is ∙ e in cc)
    by (Binding x a) is h =
        own (ap (label_by (block P b) b) is) (λ e. let bad : Binding x a ≡ Program = sym is ∙ e in cc)
    by (Next x k o v) is h =
        let z = (known.table).next_in b (block P b) k x (record {
          outer = o;
          value = v;
          within = within;
          block = refl;
          node = is;
        }) in
        let same : label P b ≡ block P b + 1 + k = ap (label_by (block P b) b) is in
        let there : node P (label P b) ≡ Variable = ap (node P) same ∙ z.2.variable in
        record {
          within = row_within P (label P b) there (λ e. cc);
          block = ap (block P) same ∙ z.2.variable_block;
          other = λ e. let bad : Variable ≡ Program = sym there ∙ e in cc;
        }
    by (Index x) is h =
        let z = index_loop known within is in
        let l = z.0 in
        let same : label P b ≡ block P b + 1 = ap (label_by (block P b) b) is in
        let there : node P (label P b) ≡ Carried kinds.Int = ap (node P) same ∙ z.1.entry in
        record {
          within = row_within P (label P b) there (λ e. cc);
          block = ap (block P) same
              ∙ (carried_stands P known (block P b) l z.1 (block P b + 1) (omega arith) (omega arith)).0;
          other = λ e. let bad : Carried kinds.Int ≡ Program = sym there ∙ e in cc;
        }
    by _ is h = absurd (true_false (sym h))

-- the row of its home: that of the label, but of an index its own
pub record HomeRow (P : Checked) (b : ℕ) : Type 0 where
  pub within : home P b < length (rows P)
  pub block : block P (home P b) ≡ block P b
  pub other : node P (home P b) ≡ Program → ⊥

pub home_row : {P : Checked} (known : IsKnown P) {b : ℕ} → b < length (rows P) → is_binder (node P b) ≡ true
    → HomeRow P b
home_row {P} known {b} within binds = by (node P b) refl binds
  where
    own : home P b ≡ b → (node P b ≡ Program → ⊥) → HomeRow P b
    own same other = record {
      within = subst (λ z. z < length (rows P)) (sym same) within;
      block = ap (block P) same;
      other = λ e. other (sym (ap (node P) same) ∙ e);
    }

    by : (m : Node) → node P b ≡ m → is_binder m ≡ true → HomeRow P b
    by (Param x k) is h = own (ap (home_by (block P b) b) is) (λ e. let bad : Param x k ≡ Program = sym is ∙ e in cc)
    by (Binding x a) is h =
        own (ap (home_by (block P b) b) is) (λ e. let bad : Binding x a ≡ Program = sym is ∙ e in cc)
    by (Index x) is h = own (ap (home_by (block P b) b) is) (λ e. let bad : Index x ≡ Program = sym is ∙ e in cc)
    by (Next x k o v) is h =
        let r = label_row known within binds in
        let same : home P b ≡ label P b = ap (home_by (block P b) b) is ∙ sym (ap (label_by (block P b) b) is) in
        record {
          within = subst (λ z. z < length (rows P)) (sym same) r.within;
          block = ap (block P) same ∙ r.block;
          other = λ e. r.other (sym (ap (node P) same) ∙ e);
        }
    by _ is h = absurd (true_false (sym h))

-- no loop stands between a binder and its home's region
pub home_depth : {P : Checked} (known : IsKnown P) {b : ℕ} → b < length (rows P) → is_binder (node P b) ≡ true
    → loops_between (rows P) (region P (home P b)).head b ≡ 0
home_depth {P} known {b} within binds =
    let r = home_row known within binds in
    no_depth P (region P (home P b)).head b ((region_of known r.within r.other).block ∙ r.block)
