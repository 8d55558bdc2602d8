-- What is true of lists of imports, and of where binders stand.
use Rattle.std.proofs.Common.{◌≡◌, ◌⊎◌, inl, inr, ℕ, zero, suc, ◌+◌, ◌≤◌, ◌<◌}
use Rattle.std.proofs.Common.{Bool as Truth, true, false, cond, Option, Some, None, List, [], ◌∷◌, ◌++◌}
use Rattle.std.proofs.Common.{length, refl, sym, ◌∙◌, ap, subst, arith}
use Rattle.std.proofs.lemmas.Bool.{cases_eq, cases_lt, false≢true}
use Rattle.std.proofs.lemmas.Bool.Decides.{nat_tests}
use Rattle.id_value.specs.declared.Kind.{Kind}
use Rattle.id_value.specs.List.{Among}
use Rattle.id_value.proofs.AmongLemmas.{Among-left, Among-right, Among-either}
use Rattle.id_table.specs.declared.row.Region.{Region}
use Rattle.id_table.specs.declared.row.Row.{Row}
use Rattle.id_table.specs.declared.row.Node.{Node}
use Rattle.id_table.specs.declared.row.Node.TheVariants.{Param, Name, Block, Binding, Def, LoopHead, Variable, Switches}
use Rattle.id_table.specs.declared.row.Node.TheVariants.{NextUse, Next, Body, Carried, Index, Span}
use Rattle.id_table.specs.Rows.{arm_at, at, top}
use Rattle.id_table.specs.Tables.{begins_block, has_statements, is_binder, is_head, is_in_loop, is_param, is_switches}
use Rattle.id_table.specs.Tables.{is_top, is_variable}
use Rattle.id_table.specs.Loops.{AreCarried, AreEntries, IsNextOf, StandsAt, an_index, nothing}
use Rattle.id_table.specs.Regions.{Lies, here, in_side}
use Rattle.id_check.specs.declared.checked.Checked.{Checked}
use Rattle.id_check.specs.Programs.{region, rows}
use Rattle.id_check.specs.Scopes.{takes}
use Rattle.id_check.proofs.HomesLemmas.{home, home_in}
use Rattle.id_desugar.specs.Ends.{next_of}
use Rattle.id_desugar.specs.Regions.{carried, first_variable, is_outside, has, with_use, imports_by, nexts_from}
use Rattle.id_desugar.specs.Regions.{nexts_of}
use Rattle.id_build.specs.Rows.{block, home as label_home, home_by, label, label_by, node}
use Rattle.id_build.proofs.LoopsLemmas.{carried_is, carried_nodes, next_is, switches_high, switches_low}
use Rattle.id_build.proofs.RegionsLemmas.{T, index_loop, index_region, index_rows, inner, not_span, step_side}
use Rattle.id_build.proofs.RegionsLemmas.{switches_top}
use Rattle.id_build.proofs.OrderLemmas.{has_among}
use Rattle.id_build.proofs.RowLemmas.{is_label}

-- ---- lists of imports

kept_use : (lo hi : ℕ) (bs : List ℕ) (o : Option ℕ) (x : ℕ) → Among x bs → Among x (with_use lo hi bs o)
kept_use lo hi bs None x h = h
kept_use lo hi bs (Some b) x h = go (is_outside lo hi b) (has bs b)
  where
    go : (t u : Truth) → Among x (cond t (cond u bs (bs ++ b ∷ [])) bs)
    go true true = h
    go true false = Among-left x bs (b ∷ []) h
    go false u = h

new_use : (lo hi : ℕ) (bs : List ℕ) (b : ℕ) → is_outside lo hi b ≡ true → Among b (with_use lo hi bs (Some b))
new_use lo hi bs b out =
    subst (λ t. Among b (cond t (cond (has bs b) bs (bs ++ b ∷ [])) bs)) (sym out) (go (has bs b) refl)
  where
    go : (u : Truth) → has bs b ≡ u → Among b (cond u bs (bs ++ b ∷ []))
    go true e = has_among bs b e
    go false e = Among-right b bs (b ∷ []) (inl refl)

from_use : (lo hi : ℕ) (bs : List ℕ) (o : Option ℕ) (x : ℕ) → Among x (with_use lo hi bs o)
    → Among x bs ⊎ ((o ≡ Some x) × (is_outside lo hi x ≡ true))
from_use lo hi bs None x h = inl h
from_use lo hi bs (Some b) x h = go (is_outside lo hi b) (has bs b) refl h
  where
    go : (t u : Truth) → is_outside lo hi b ≡ t → Among x (cond t (cond u bs (bs ++ b ∷ [])) bs)
        → Among x bs ⊎ ((Some b ≡ Some x) × (is_outside lo hi x ≡ true))
    go true true e h = inl h
    go true false e h = elim (Among-either x bs (b ∷ []) h) [
      | inl k ↦ inl k
      | inr k ↦ elim k [
        | inl is ↦ inr (ap (λ z. Some z) (sym is), ap (is_outside lo hi) is ∙ e)
        | inr none ↦ absurd none
      ]
    ]
    go false u e h = inl h

module _ (f : ℕ → Option ℕ) (lo hi : ℕ) where
  -- a binder outside that a row means is imported
  pub imports_have : (m k b : ℕ) → k < m → f (lo + k) ≡ Some b → is_outside lo hi b ≡ true
      → Among b (imports_by f lo hi m)
  imports_have zero k b less binds out = absurd (omega (arith, less))
  imports_have (suc m) k b less binds out =
      elim (cases_eq k m) [
        | inl is ↦ subst (λ o. Among b (with_use lo hi (imports_by f lo hi m) o))
            (sym (ap (λ z. f (lo + z)) (sym is) ∙ binds))
            (new_use lo hi (imports_by f lo hi m) b out)
        | inr other ↦ kept_use lo hi (imports_by f lo hi m) (f (lo + m)) b
            (imports_have m k b (below k m less other) binds out)
      ]
    where
      below : (k m : ℕ) → k < suc m → (k ≡ m → ⊥) → k < m
      below k m less other = omega (arith, less, other)

  -- and what is imported is such a binder
  pub imports_from : (m b : ℕ) → Among b (imports_by f lo hi m)
      → (k : ℕ) × (k < m) × (f (lo + k) ≡ Some b) × (is_outside lo hi b ≡ true)
  imports_from zero b h = absurd h
  imports_from (suc m) b h =
      elim (from_use lo hi (imports_by f lo hi m) (f (lo + m)) b h) [
        | inl old ↦ let z = imports_from m b old in (z.0, omega (arith, z.1), z.2, z.3)
        | inr new ↦ (m, omega arith, new.0, new.1)
      ]

-- ---- where binders stand

pub outside_is : (lo hi b : ℕ) → (b < lo) ⊎ (hi ≤ b) → is_outside lo hi b ≡ true
outside_is lo hi b (inl h) = grind (arith, nat_tests, h)
outside_is lo hi b (inr h) = grind (arith, nat_tests, h)

pub is_out : (lo hi b : ℕ) → is_outside lo hi b ≡ true → lo ≤ b → b < hi → ⊥
is_out lo hi b e low high = grind (arith, nat_tests, e, low, high)

pub some_is : {m k : ℕ} → Some m ≡ Some k → m ≡ k
some_is h = cc

abbrev pub is_user : Node → Truth
is_user (Name x) = true
is_user (NextUse x) = true
is_user _ = false

pub user_opens : (m : Node) → is_user m ≡ true → begins_block m ≡ false
user_opens (Name x) e = refl
user_opens (NextUse x) e = refl
user_opens _ e = absurd (false≢true e)

pub binder_opens : (m : Node) → is_binder m ≡ true → begins_block m ≡ false
binder_opens (Param x k) e = refl
binder_opens (Binding x a) e = refl
binder_opens (Next x k o v) e = refl
binder_opens (Index x) e = refl
binder_opens _ e = absurd (false≢true e)

-- what takes bindings has statements
pub takes_statements : (m : Node) (z a : ℕ) → takes m (Binding z a) ≡ true → has_statements m ≡ true
takes_statements (Block b) z a e = refl
takes_statements Body z a e = refl
takes_statements Span z a e = absurd (false≢true e)
takes_statements (Def x h k b) z a e = absurd (false≢true e)
takes_statements _ z a e = absurd (false≢true e)

-- a list that goes on over rows of variables has their `next`s
nexts_have : (P : Checked) (v n i : ℕ) → v ≤ i → i < v + n → ((j : ℕ) → v ≤ j → j ≤ i → is_variable (node P j) ≡ true)
    → Among (next_of P i) (nexts_from P v n)
nexts_have P v zero i low high all = absurd (omega (arith, low, high))
nexts_have P v (suc n) i low high all =
    subst (λ (t : Truth). Among (next_of P i) (cond t (next_of P v ∷ nexts_from P (suc v) n) []))
    (sym (all v (omega arith) low)) (elim (cases_eq i v) [
      | inl is ↦ inl (ap (next_of P) is)
      | inr other ↦
          let up : suc v ≤ i = above v i low other in
          inr (nexts_have P (suc v) n i up (omega (arith, high)) (λ j l m. all j (omega (arith, l)) m))
    ])
  where
    above : (v i : ℕ) → v ≤ i → (i ≡ v → ⊥) → suc v ≤ i
    above v i l other = omega (arith, l, other)

module _ (P : Checked) where
  abbrev pub LiesIn : Region → Region → Type 0
  LiesIn q r = Lies (rows P) q r

  -- a variable stands behind what its loop carries on beside
  behind_carried : (h e c i : ℕ) → AreEntries (rows P) h e c → h < i → node P i ≡ Variable → h + c < i
  behind_carried h e c i x low is = go x.carried refl
    where
      apart : (j : ℕ) {k : Kind} → node P j ≡ Carried k → i ≡ j → ⊥
      apart j f same =
          (let bad : is_variable (node P j) ≡ true = ap (λ z. is_variable (node P z)) (sym same) ∙ ap is_variable is in
          false≢true (sym (ap is_variable f) ∙ bad))

      go : {d : ℕ} → AreCarried (rows P) h d → d ≡ c → h + c < i
      go nothing k = omega (arith, k, low)
      go (an_index a b d) k = elim (cases_eq i (h + 1)) [
        | inl s ↦ absurd (apart (h + 1) a s)
        | inr n1 ↦ elim (cases_eq i (h + 2)) [
          | inl s ↦ absurd (apart (h + 2) b s)
          | inr n2 ↦ elim (cases_eq i (h + 3)) [
            | inl s ↦ absurd (apart (h + 3) d s)
            | inr n3 ↦ omega (arith, k, low, n1, n2, n3)
          ]
        ]
      ]

  -- the row is a binder
  pub record Binds (b : ℕ) : Type 0 where
    pub within : b < length (rows P)
    pub binds : is_binder (node P b) ≡ true

  pub b_inner : {b : ℕ} → Binds b → b + 1 < length (rows P)
  b_inner {b} x = inner P b is_binder refl x.within x.binds

  -- the `next` statement at a row
  module _ (m x k o v : ℕ) (within : m < length (rows P)) (is : node P m ≡ Next x k o v) where
    next_here : IsNextOf (rows P) m (block P m) k x
    next_here = record { outer = o; value = v; within = within; block = refl; node = is }

    abbrev variable_row : ℕ
    variable_row = block P m + 1 + k

    variable_node : node P variable_row ≡ Variable
    variable_node = ((T P).next_in m (block P m) k x next_here).2.variable

    variable_in : variable_row < length (rows P)
    variable_in =
        let z = ((T P).next_in m (block P m) k x next_here).2 in
        let w = ((T P).next_in m (block P m) k x next_here).1 in
        below (rows P) variable_row (ap is_variable variable_node)
      where
        below : (R : List Row) (i : ℕ) → is_variable (at R i).node ≡ true → i < length R
        below [] i e = absurd (false≢true e)
        below (r ∷ R) zero e = omega arith
        below (r ∷ R) (suc i) e = let less = below R i e in omega (arith, less)

    variable_block : block P variable_row ≡ block P m
    variable_block = ((T P).next_in m (block P m) k x next_here).2.variable_block

    variable_top : region P variable_row ≡ top (block P m)
    variable_top = (T P).at_top variable_row variable_in (ap is_top variable_node) ∙ ap top variable_block

    next_of_variable : next_of P variable_row ≡ m
    next_of_variable =
        let i = variable_row in
        let n = next_is P i variable_in variable_node in
        let there = ((T P).next_in (next_of P i) (block P (next_of P i)) n.index n.name
        (record { outer = n.outer; value = n.value; within = n.within; block = refl; node = n.node })).2 in
        let same_block : block P (next_of P i) ≡ block P m =
        sym there.variable_block ∙ ap (block P) n.is ∙ variable_block in
        let same_index : n.index ≡ k = omega (arith, n.is, same_block) in
        let as_next : IsNextOf (rows P) (next_of P i) (block P m) k n.name =
        record {
          outer = n.outer;
          value = n.value;
          within = n.within;
          block = same_block;
          node = n.node ∙ ap
              (λ j. Next n.name j n.outer n.value) same_index;
        } in
        (T P).one_next (next_of P i) m (block P m) k n.name x as_next next_here

    -- it is one of those of its loop
    pub next_listed : Among m (nexts_of P (block P m))
    next_listed =
        let h = block P m in
        let i = variable_row in
        let c = (T P).loop_of i variable_in (ap is_in_loop variable_node) in
        let y = (T P).loop_is c.0 (block P i) c.1 in
        let before : i + 1 < c.0 =
        not_span P c.0 (block P i) (c.1).switches (c.1).last i y is_variable refl c.2 (ap is_variable variable_node) in
        let stands =
        y.stands i ((T P).block i (inner P i is_variable refl variable_in (ap is_variable variable_node))).0 before
        refl in
        let within_entries =
        subst (λ z. StandsAt (block P i) y.entries (c.1).switches y.turn y.body c.0 z i) variable_node stands in
        let many : length (carried P h) ≡ y.carried =
        ap (λ g. length (carried P g)) (sym variable_block)
        ∙ carried_is P (block P i) y.entries y.carried y.before_test in
        let low : block P i + y.carried < i =
        behind_carried (block P i) y.entries y.carried i y.before_test within_entries.0 variable_node in
        let first : first_variable P h ≤ i = omega (arith, many, low, variable_block) in
        let all : (j : ℕ) → first_variable P h ≤ j → j ≤ i → is_variable (node P j) ≡ true =
        (λ j l u. y.before_test.variable j (omega (arith, l, many, variable_block))
        (omega (arith, u, within_entries.1))) in
        subst (λ z. Among z (nexts_of P h)) next_of_variable
        (nexts_have P (first_variable P h) (length (rows P)) i first (omega (arith, variable_in)) all)

    -- it stands right in the body of its loop
    pub next_side : (w : ℕ) × (t : ℕ) × (w < length (rows P)) × (node P w ≡ Switches t) × (block P w ≡ block P m)
        × (region P m ≡ arm_at w true)
    next_side =
        let z = (T P).next_in m (block P m) k x next_here in
        let c = z.1 in
        let y = (T P).loop_is z.0 (block P m) c in
        let high = switches_high y in
        let low : c.switches < length (rows P) = omega (arith, high, c.within) in
        (c.switches, y.test.test, low, y.test.node, y.test.block, (z.2).region)

  -- what lies in a side of switches, and is none, lies where they stand
  pub through_side : {z : Region} (w t : ℕ) → w < length (rows P) → node P w ≡ Switches t
      → is_switches (node P z.head) ≡ false → LiesIn z (arm_at w true)
      → LiesIn z (region P w)
  through_side {z} w t within is other l = elim (step_side P w t true is l) [
    | inl e ↦ absurd (false≢true (sym other ∙ ap (λ (y : Region). is_switches (node P y.head)) e ∙ ap is_switches is))
    | inr m ↦ m
  ]

  pub side_top : (w t : ℕ) → w < length (rows P) → node P w ≡ Switches t → region P w ≡ top (block P w)
  side_top w t within is = switches_top P w t within is

  -- the home of a binder's value lies round the binder
  pub home_lies : (b : ℕ) → Binds b → LiesIn (home (rows P) b) (region P b)
  home_lies b x = go (node P b) refl x.binds
    where
      go : (m : Node) → node P b ≡ m → is_binder m ≡ true → LiesIn (home (rows P) b) (region P b)
      go (Param y k) is e = subst (λ z. LiesIn z (region P b)) (sym (ap (home_in (block P b) (region P b)) is)) here
      go (Binding y a) is e = subst (λ z. LiesIn z (region P b)) (sym (ap (home_in (block P b) (region P b)) is)) here
      go (Index y) is e = subst (λ z. LiesIn z (region P b)) (sym (ap (home_in (block P b) (region P b)) is)) here
      go (Next y k o v) is e =
          let s = next_side b y k o v x.within is in
          let there : region P s.0 ≡ top (block P b) = side_top s.0 s.1 s.2 s.3 ∙ ap top s.4 in
          subst (λ z. LiesIn z (region P b)) (sym (ap (home_in (block P b) (region P b)) is))
          (subst (LiesIn (top (block P b))) (sym s.5)
          (in_side s.2 (ap is_switches s.3) (subst (LiesIn (top (block P b))) (sym there) here)))
      go _ is e = absurd (false≢true e)

  -- and what lies round the binder, and is no side, lies round its home
  pub through_home : {z : Region} (b : ℕ) → Binds b → is_switches (node P z.head) ≡ false → LiesIn z (region P b)
      → LiesIn z (home (rows P) b)
  through_home {z} b x other l = go (node P b) refl x.binds
    where
      go : (m : Node) → node P b ≡ m → is_binder m ≡ true → LiesIn z (home (rows P) b)
      go (Param y k) is e = subst (LiesIn z) (sym (ap (home_in (block P b) (region P b)) is)) l
      go (Binding y a) is e = subst (LiesIn z) (sym (ap (home_in (block P b) (region P b)) is)) l
      go (Index y) is e = subst (LiesIn z) (sym (ap (home_in (block P b) (region P b)) is)) l
      go (Next y k o v) is e =
          let s = next_side b y k o v x.within is in
          let there : region P s.0 ≡ top (block P b) = side_top s.0 s.1 s.2 s.3 ∙ ap top s.4 in
          subst (LiesIn z) (there ∙ sym (ap (home_in (block P b) (region P b)) is))
          (through_side s.0 s.1 s.2 s.3 other (subst (LiesIn z) s.5 l))
      go _ is e = absurd (false≢true e)

  -- what the label of a binder gives belongs to its home; the label stands there too, or, of an index, right in the
  -- loop
  pub record Labelled (b : ℕ) : Type 0 where
    pub within : label P b < length (rows P)
    pub marks : is_label (node P (label P b)) ≡ true
    pub region_is : region P (label_home P b) ≡ home (rows P) b
    pub side : (region P (label P b)).side ≡ (region P (label_home P b)).side

  pub labelled : (b : ℕ) → Binds b → Labelled b
  labelled b x = go (node P b) refl x.binds
    where
      by : (i j : ℕ) → label P b ≡ i → label_home P b ≡ j → i < length (rows P) → is_label (node P i) ≡ true
          → region P j ≡ home (rows P) b → (region P i).side ≡ (region P j).side → Labelled b
      by i j is at low mark e same = record {
        within = subst (λ z. z < length (rows P)) (sym is) low;
        marks = ap (λ z. is_label (node P z)) is ∙ mark;
        region_is = ap (region P) at ∙ e;
        side = ap (λ z. (region P z).side) is ∙ same ∙ ap (λ z. (region P z).side) (sym at);
      }

      go : (m : Node) → node P b ≡ m → is_binder m ≡ true → Labelled b
      go (Param y k) is e =
          by b b (ap (label_by (block P b) b) is) (ap (home_by (block P b) b) is) x.within (ap is_label is)
          (sym (ap (home_in (block P b) (region P b)) is)) refl
      go (Binding y a) is e =
          by b b (ap (label_by (block P b) b) is) (ap (home_by (block P b) b) is) x.within (ap is_label is)
          (sym (ap (home_in (block P b) (region P b)) is)) refl
      go (Next y k o v) is e =
          by (block P b + 1 + k) (block P b + 1 + k) (ap (label_by (block P b) b) is) (ap (home_by (block P b) b) is)
          (variable_in b y k o v x.within is)
          (ap is_label (variable_node b y k o v x.within is))
          (variable_top b y k o v x.within is ∙ sym (ap (home_in (block P b) (region P b)) is)) refl
      go (Index y) is e =
          let z = index_rows P b y x.within is in
          let c = index_loop P b y x.within is in
          let at = carried_nodes z.before_test.carried c.2 in
          let low = switches_low z in
          let high = switches_high z in
          by (block P b + 1) b (ap (label_by (block P b) b) is) (ap (home_by (block P b) b) is)
          (omega (arith, low, high, (c.1).within)) (ap is_label at.0)
          (sym (ap (home_in (block P b) (region P b)) is))
          (ap (λ (r : Region). r.side)
          (z.before_test.stands (block P b + 1) (omega arith) (omega (arith, z.before_test.low, c.2))).1
          ∙ sym (ap (λ (r : Region). r.side) (index_region P b y x.within is)))
      go _ is e = absurd (false≢true e)

  -- a parameter stands in no loop's block right
  pub param_elsewhere : (b x : ℕ) (k : Kind) {s : ℕ} → b < length (rows P) → node P b ≡ Param x k
      → node P (block P b) ≡ LoopHead s → ⊥
  param_elsewhere b x k within is loop =
      let t = T P in
      let d = t.def_of b (inner P b is_binder refl within (ap is_binder is)) in
      let ps = t.params d.row d.head d.def in
      let head = (t.head_is d.row (d.def).name d.head (d.def).body (d.def).result (d.def).within (d.def).node).0 in
      let above : d.head < b =
      strictly d.head b d.low
      (λ e. false≢true (sym (ap is_param head) ∙ ap (λ z. is_param (node P z)) e ∙ ap is_param is)) in
      let below : b < d.row =
      strictly b d.row d.high (λ e. false≢true (sym (ap is_param (d.def).node) ∙ ap (λ z. is_param (node P z)) (sym e)
      ∙ ap is_param is)) in
      let few : b ≤ d.head + ps.count = elim (cases_lt (d.head + ps.count) b) [
        | inl l ↦ absurd (false≢true (sym (ps.rest b l below) ∙ ap is_param is))
        | inr l ↦ l
      ] in
      let same : block P b ≡ d.head = ps.block b above few in
      false≢true (sym (ap is_head loop) ∙ ap (λ z. is_head (node P z)) same ∙ ap is_head head)
    where
      strictly : (i j : ℕ) → i ≤ j → (i ≡ j → ⊥) → i < j
      strictly i j l other = omega (arith, l, other)
