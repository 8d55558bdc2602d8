-- What comes from where an expression has its value tells the expression's value.
use Rattle.std.proofs.Common.{◌≡◌, Bool as Truth, ℕ, zero, suc, ◌<◌, ◌+◌, ◌-◌, true, false, cond, Some, List, length}
use Rattle.std.proofs.Common.{get_or, refl, sym, ◌∙◌, ap, subst, arith}
use Rattle.id_table.specs.declared.row.Region.{Region}
use Rattle.id_table.specs.declared.row.Node.{Node}
use Rattle.id_table.specs.declared.row.Node.TheVariants.{Param, Literal, Name, Unary, Binary, If, Call, Block}
use Rattle.id_table.specs.declared.row.Node.TheVariants.{Binding, Program, Next, Loop, Array, Fetch, Index, Switches}
use Rattle.id_table.specs.Loops.{index_row}
use Rattle.id_table.specs.Rows.{arm_at, at, top}
use Rattle.id_table.specs.Tables.{HasPart, HasNear, HasOperand, is_binder, is_block, is_expression}
use Rattle.id_check.specs.declared.checked.Checked.{Checked}
use Rattle.id_check.specs.Programs as checked
use Rattle.id_check.specs.Programs.{place, region, rows}
use Rattle.id_tag.specs.declared.Value.{Value}
use Rattle.id_source.specs.declared.Fact.TheVariants.{Has}
use Rattle.id_source.specs.Sources.{Source}
use Rattle.id_source.specs.Facts.{name_has, block_has, without}
use Rattle.id_source.specs.Rounds.{Holds}
use Rattle.id_desugar.specs.Regions.{has_index, imports_of}
use Rattle.id_build.specs.Rows.{block, entries_row, home, home_by, label, label_by, node, output, name_in, named_in}
use Rattle.id_build.specs.Rows.{origin_of, origin}
use Rattle.id_runs.specs.Activations.{Activation}
use Rattle.id_runs.specs.Events.{Event}
use Rattle.id_laws.specs.Activations.{Live, Tests, of_arms, of_turns}
use Rattle.id_laws.specs.Topics.{Topic, Turned, ValueOf, NameIn, BoundIn, ShownFlag, Tells, counted_of, entry_of}
use Rattle.id_laws.specs.Topics.{handed_of, speaks_of, split_of, topic_of}
use Rattle.id_laws.proofs.Rows.Assumed.{IsKnown}
use Rattle.id_laws.proofs.Rows.Conditionals.{no_within}
use Rattle.id_laws.proofs.Paths.Counted.{bound_first, bound_side, bound_top, flag_origin, switches_block}
use Rattle.id_laws.proofs.Rows.Loops.{LoopOf, IsCounted, carried_stands, counted_of as counted_of_loop, index_at}
use Rattle.id_laws.proofs.Rows.Loops.{index_region, loop_of_row, own_switches}
use Rattle.id_laws.proofs.Rows.Loops.{switches_node, switches_same}
use Rattle.id_laws.proofs.Rows.LoopRows.{variable_of_next}
use Rattle.id_build.proofs.LoopsLemmas.{entries_node, entries_stand}
use Rattle.id_laws.proofs.Rows.Regions.{as_tests, index_loop, region_of, same_depth}
use Rattle.id_build.proofs.NamesSeen.{Sees, Comes, from_label, from_switch, from_entry, comes}
use Rattle.id_laws.proofs.Paths.Seats.{OneSeat}
use Rattle.id_laws.proofs.Telling.TurnedOn.{holds_by, without_none, turned_on}

true_false : true ≡ false → ⊥
true_false h = cc

-- what the label of a binder speaks of
pub label_topic : (P : Checked) → IsKnown P → (b : ℕ) → b < length (rows P) → is_binder (node P b) ≡ true
    → topic_of P (output (label P b)) ≡ NameIn (checked.region P (home P b)) b
label_topic P known b within e = go (node P b) refl e
  where
    own : label P b ≡ b → home P b ≡ b
        → speaks_of P b (checked.region P b) (node P b) 0 true ≡ NameIn (checked.region P b) b
        → topic_of P (output (label P b)) ≡ NameIn (checked.region P (home P b)) b
    own same here topic =
        ap (λ z. topic_of P (output z)) same ∙ topic ∙ ap (λ z. NameIn (checked.region P z) b) (sym here)

    go : (m : Node) → node P b ≡ m → is_binder m ≡ true
        → topic_of P (output (label P b)) ≡ NameIn (checked.region P (home P b)) b
    go (Param x k) is h =
        own (ap (label_by (block P b) b) is) (ap (home_by (block P b) b) is)
        (ap (λ z. speaks_of P b (checked.region P b) z 0 true) is)
    go (Binding x a) is h =
        own (ap (label_by (block P b) b) is) (ap (home_by (block P b) b) is)
        (ap (λ z. speaks_of P b (checked.region P b) z 0 true) is)
    go (Index x) is h =
        let z = index_loop known within is in
        let g = block P b in
        let same : label P b ≡ g + 1 = ap (label_by g b) is in
        let here : home P b ≡ b = ap (home_by g b) is in
        let in_block = (carried_stands P known g z.0 z.1 (g + 1) (omega arith) (omega arith)).0 in
        let first : g + 1 - (g + 1) ≡ 0 = omega arith in
        let at : b ≡ index_row (z.0.the).switches = index_at known within is z.0 in
        let stands : checked.region P b ≡ arm_at (z.0.the).switches true = index_region known within is z.0 z.1 in
        let w = switches_same P known g z.0 in
        ap (λ i. topic_of P (output i)) same
        ∙ ap (λ m. speaks_of P (g + 1) (checked.region P (g + 1)) m 0 true) z.1.entry
        ∙ (λ i. entry_of P (in_block i) (g + 1 - (in_block i + 1))) ∙ ap (entry_of P g) first
        ∙ (λ i. NameIn (arm_at (w i) true) (index_row (w i)))
        ∙ (λ i. NameIn (sym stands i) (sym at i)) ∙ ap (λ z. NameIn (checked.region P z) b) (sym here)
    go (Next x k o v) is h =
        let z = variable_of_next P b x k o v within is in
        let i = block P b + 1 + k in
        let here : label P b ≡ i = ap (label_by (block P b) b) is in
        let home_is : home P b ≡ i = ap (home_by (block P b) b) is in
        let topic : topic_of P (output i) ≡ NameIn (checked.region P i) b =
        ap (λ m. speaks_of P i (checked.region P i) m 0 true) z.node ∙ ap (NameIn (checked.region P i)) z.next in
        ap (λ j. topic_of P (output j)) here ∙ topic ∙ ap (λ j. NameIn (checked.region P j) b) (sym home_is)
    go _ is h = absurd (true_false (sym h))

-- what a part of the switches at the row n, with this node, hands into a region
abbrev pub hands_topic : Checked → Region → ℕ → Node → ℕ → Topic
hands_topic P r n (Switches t) part = handed_of P r (block P n) (imports_of P n) part
hands_topic P r n _ part = split_of r (imports_of P n) part

pub switch_topic : (P : Checked) {n t : ℕ} → Tests P n t → (part : ℕ) (c : Truth)
    → speaks_of P n (checked.region P n) (node P n) part c ≡ hands_topic P (arm_at n c) n (node P n) part
switch_topic P {n} (of_arms {e = t} is) part c =
    ap (λ z. speaks_of P n (checked.region P n) z part c) is ∙ ap (λ z. hands_topic P (arm_at n c) n z part) (sym is)
switch_topic P {n} (of_turns {e = t} is) part c =
    ap (λ z. speaks_of P n (checked.region P n) z part c) is ∙ ap (λ z. hands_topic P (arm_at n c) n z part) (sym is)

-- the first is a trigger, those of names are of these
pub hands_trigger : (P : Checked) {n t : ℕ} (r : Region) → Tests P n t → hands_topic P r n (node P n) 0 ≡ Turned r
hands_trigger P {n} r (of_arms is) = ap (λ z. hands_topic P r n z 0) is
hands_trigger P {n} r (of_turns is) = ap (λ z. hands_topic P r n z 0) is ∙ go (has_index P (block P n)) refl
  where
    go : (t : Truth) → has_index P (block P n) ≡ t → handed_of P r (block P n) (imports_of P n) 0 ≡ Turned r
    go true e = ap (λ t. cond t (counted_of r (block P n) (imports_of P n) 0) (Turned r)) e
    go false e = ap (λ t. cond t (counted_of r (block P n) (imports_of P n) 0) (Turned r)) e

pub hands_bound : (P : Checked) (n : ℕ) {t : ℕ} (r : Region) → node P n ≡ Switches t → has_index P (block P n) ≡ true
    → hands_topic P r n (node P n) 1 ≡ BoundIn r (block P n)
hands_bound P n r is has =
    ap (λ z. hands_topic P r n z 1) is ∙ ap (λ t. cond t (BoundIn r (block P n)) (split_of r (imports_of P n) 1)) has

pub hands_name : (P : Checked) (known : IsKnown P) {n t : ℕ} (r : Region) (k : ℕ) → n < length (rows P) → Tests P n t
    → is_binder (node P (get_or (imports_of P n) k 0)) ≡ true
    → hands_topic P r n (node P n) (suc k) ≡ NameIn r (get_or (imports_of P n) k 0)
hands_name P known {n} r k within (of_arms is) binds = ap (λ z. hands_topic P r n z (suc k)) is
hands_name P known {n} {t} r k within (of_turns is) binds =
    ap (λ z. hands_topic P r n z (suc k)) is ∙ go (has_index P (block P n)) refl k binds
  where
    go : (u : Truth) → has_index P (block P n) ≡ u → (k : ℕ) → is_binder (node P (get_or (imports_of P n) k 0)) ≡ true
        → handed_of P r (block P n) (imports_of P n) (suc k) ≡ NameIn r (get_or (imports_of P n) k 0)
    go false none k binds =
        ap (λ u. cond u (counted_of r (block P n) (imports_of P n) (suc k)) (NameIn r (get_or (imports_of P n) k 0)))
        none
    go true has zero binds =
        let l = loop_of_row known (Switches t) within is refl in
        let c = counted_of_loop P l.all has in
        let w = own_switches P known n t within is l in
        let first : get_or (imports_of P n) 0 0 ≡ block P n + 2 =
        ap (λ i. get_or (imports_of P i) 0 0) (sym w)
        ∙ ap (λ bs. get_or bs 0 0) (bound_first P known (block P n) l c) in
        absurd (true_false (sym binds ∙ ap (λ i. is_binder (node P i)) first ∙ ap is_binder c.bound))
    go true has (suc k) binds =
        ap (λ u. cond u (NameIn r (get_or (imports_of P n) (suc k) 0)) (split_of r (imports_of P n) (suc (suc k)))) has

module _ (S : Source) (known : IsKnown S.checked) (number : ℕ → ℕ
    → ℕ) (run : List Event) (seats : OneSeat S number run) where
  abbrev P : Checked
  P = S.checked

  -- the value is one that the row Has, and its region is live
  abbrev pub ShowsRow : Activation → ℕ → Value → Type 0
  ShowsRow a e v = Tells S number run a (ValueOf e) v

  -- a block of an expression's region Has its body's value
  block_shows : (a : Activation) (e b : ℕ) (v : Value) → e < length (rows P) → node P e ≡ Block b → ShowsRow a b v
      → ShowsRow a e v
  block_shows a e b v within is w =
      let stands = (known.table).part_stands e b within (subst (λ z. HasNear z b) (sym is) refl) in
      let live = subst (Live S number run a) stands.1 w.0 in
      let shown = w.1 in
      let on = turned_on S known seats live shown.path_of ((known.table).turned e within (ap is_expression is)) in
      let has = subst (λ z. Holds S (Has z (place P b) shown.value)) (without_none shown.path) shown.holds in (
        live,
        record {
          path = shown.path;
          path_of = shown.path_of;
          value = shown.value;
          stands = shown.stands;
          holds = subst (λ z. Holds S (Has z (place P e) shown.value)) (sym (without_none shown.path))
              (holds_by S _ _ (block_has (record { within = within; node = is })) (on, (has, tt)));
        },
      )

  -- so does each row whose value is another's
  value_shows : (bound : ℕ) (a : Activation) (e : ℕ) (v : Value) → e < bound → e < length (rows P)
      → is_expression (node P e) ≡ true → ShowsRow a (at (rows P) e).value v → ShowsRow a e v
  value_shows zero a e v small within is w = absurd (omega arith)
  value_shows (suc bound) a e v small within is w = go (node P e) refl (value_shows bound a)
    where
      itself : is_block (node P e) ≡ false → ShowsRow a e v
      itself plain = subst (λ z. ShowsRow a z v) ((known.table).value_self e within plain (no_within (node P e) is)) w

      go : (m : Node) → node P e ≡ m
          → ((x : ℕ) (u : Value) → x < bound → x < length (rows P) → is_expression (node P x) ≡ true
          → ShowsRow a (at (rows P) x).value u → ShowsRow a x u) → ShowsRow a e v
      go (Block b) m rest =
          let has_part : HasPart (node P e) b = subst (λ z. HasPart z b) (sym m) refl in
          let less = (((known.table).formed).each e within).parts b has_part in
          let expression = known.operands e b within (subst (λ z. HasOperand z b) (sym m) refl) in
          block_shows a e b v within m (rest b v (omega (arith, less.1)) (omega (arith, less.1)) expression
          (subst (λ z. ShowsRow a z v) ((known.table).value_block e b within m) w))
      go _ m rest = itself (ap is_block m)

  -- what a name's binder Has as the name's region sees it, the name Has
  name_shows : (a : Activation) (n x b : ℕ) (v : Value) → n < length (rows P) → node P n ≡ Name x
      → checked.binder P n ≡ Some b → Tells S number run a (NameIn (region P n) b) v → ShowsRow a n v
  name_shows a n x b v within is binds w =
      let live = w.0 in
      let shown = w.1 in
      let on = turned_on S known seats live shown.path_of ((known.table).turned n within (ap is_expression is)) in
      let deep =
      same_depth P (region P n).head n b (region_of known within (λ e. let bad : Name x ≡ Program = sym is ∙ e in
      cc)).block in
      let has = subst (λ d. Holds S (Has (without d shown.path) (place P b) shown.value)) deep shown.holds in (
        live,
        record {
          path = shown.path;
          path_of = shown.path_of;
          value = shown.value;
          stands = shown.stands;
          holds = subst (λ z. Holds S (Has z (place P n) shown.value)) (sym (without_none shown.path))
              (holds_by S _ _ (name_has (record { within = within; node = is }) binds) (on, (has, tt)));
        },
      )

  -- what comes from where a region has a name tells what the binder Has
  pub named_tells : (a : Activation) (r : Region) (b : ℕ) (v : Value) → b < length (rows P)
      → is_binder (node P b) ≡ true → Sees P b r → Tells S number run a (topic_of P (name_in P r b)) v
      → Tells S number run a (NameIn r b) v
  named_tells a r b v inside binds sees tells = by (comes P r b sees)
    where
      by : Comes P r b → Tells S number run a (NameIn r b) v
      by (from_label is from) =
          subst (λ z. Tells S number run a (NameIn z b) v) is
          (subst (λ z. Tells S number run a z v) (ap (topic_of P) from ∙ label_topic P known b inside binds) tells)
      by (from_switch n t k c within is less there rest at from) =
          let topic : topic_of P (name_in P r b) ≡ NameIn (arm_at n c) (get_or (imports_of P n) k 0) =
          ap (topic_of P) from ∙ switch_topic P (as_tests is) (suc k) c
          ∙ hands_name P known (arm_at n c) k within (as_tests is) (ap (λ i. is_binder (node P i)) there ∙ binds) in
          subst (λ z. Tells S number run a z v) (topic ∙ (λ i. NameIn (sym at i) (there i))) tells
      by (from_entry h t k within is less there rest at from) =
          let e = entries_row P h in
          let stand = entries_stand P h t within is e (omega arith) (omega arith) in
          let topic : topic_of P (name_in P r b) ≡ NameIn (top h) (get_or (imports_of P h) k 0) =
          ap (topic_of P) from ∙ ap (λ m. speaks_of P e (region P e) m k true) (entries_node P h t within is)
          ∙ (λ i. NameIn (stand.1 i) (get_or (imports_of P (stand.0 i)) k 0)) in
          subst (λ z. Tells S number run a z v) (topic ∙ (λ i. NameIn (sym at i) (there i))) tells

  -- what comes from where a loop's top or a side has the upper bound of its index tells what that Has
  pub bound_tells : (a : Activation) (h : ℕ) (v : Value) (l : LoopOf P h) (c : IsCounted P l.all)
      → Tells S number run a (topic_of P (name_in P (top h) (h + 2))) v → Tells S number run a (BoundIn (top h) h) v
  bound_tells a h v l c tells =
      let stand = carried_stands P known h l c (h + 2) (omega arith) (omega arith) in
      let second : h + 2 - (h + 1) ≡ 1 = omega arith in
      subst (λ z. Tells S number run a z v)
      (ap (topic_of P) (bound_top P known h l c) ∙ ap (λ m. speaks_of P (h + 2) (region P (h + 2)) m 0 true) c.bound
      ∙ (λ i. entry_of P (stand.0 i) (h + 2 - (stand.0 i + 1))) ∙ ap (entry_of P h) second) tells

  pub side_tells : (a : Activation) (h : ℕ) (v : Value) (l : LoopOf P h) (c : IsCounted P l.all) (b : Truth)
      → Tells S number run a (topic_of P (name_in P (arm_at (l.the).switches b) (h + 2))) v
      → Tells S number run a (BoundIn (arm_at (l.the).switches b) h) v
  side_tells a h v l c b tells =
      let w = (l.the).switches in
      let is = switches_node P known h l in
      let in_block = switches_block P known h l c in
      subst (λ z. Tells S number run a z v)
      (ap (topic_of P) (bound_side P known h l c b) ∙ switch_topic P (of_turns is) 1 b
      ∙ hands_bound P w (arm_at w b) is (ap (has_index P) in_block ∙ c.has) ∙ ap (BoundIn (arm_at w b)) in_block) tells

  -- what comes from where the switches of a loop with an index go by tells whether it goes on
  pub flag_tells : (a : Activation) (h : ℕ) (v : Value) (l : LoopOf P h) (c : IsCounted P l.all)
      → Tells S number run a (topic_of P (origin P ((l.all).test).test)) v → ShownFlag S number run a h v
  flag_tells a h v l c tells =
      let stand = carried_stands P known h l c (h + 3) (omega arith) (omega arith) in
      let third : h + 3 - (h + 1) ≡ 2 = omega arith in
      subst (λ z. Tells S number run a z v)
      (ap (topic_of P) (flag_origin P known h l c) ∙ ap (λ m. speaks_of P (h + 3) (region P (h + 3)) m 0 true) c.flag
      ∙ (λ i. entry_of P (stand.0 i) (h + 3 - (stand.0 i + 1))) ∙ ap (entry_of P h) third) tells

  -- what the row that gives a value speaks of
  giver_shows : (a : Activation) (w : ℕ) (v : Value) → w < length (rows P) → is_expression (node P w) ≡ true
      → is_block (node P w) ≡ false → Tells S number run a (topic_of P (origin_of P w (region P w) (node P w))) v
      → ShowsRow a w v
  giver_shows a w v within expression no_block tells = go (node P w) refl
    where
      own : (m : Node) → node P w ≡ m → origin_of P w (region P w) m ≡ output w
          → speaks_of P w (region P w) m 0 true ≡ ValueOf w → ShowsRow a w v
      own m is from topic =
          subst (λ z. Tells S number run a z v)
          (ap (λ z. topic_of P (origin_of P w (region P w) z)) is ∙ ap (topic_of P) from
          ∙ ap (λ z. speaks_of P w (region P w) z 0 true) is ∙ topic) tells

      go : (m : Node) → node P w ≡ m → ShowsRow a w v
      go (Name x) is =
          let known_binder = known.bound w x within is in
          let b = known_binder.0 in
          let from : origin_of P w (region P w) (node P w) ≡ name_in P (region P w) b =
          ap (origin_of P w (region P w)) is ∙ ap (named_in P (region P w) w) known_binder.1 in
          name_shows a w x b v within is known_binder.1
          (named_tells a (region P w) b v known_binder.2 known_binder.3 known_binder.4
          (subst (λ z. Tells S number run a z v) (ap (topic_of P) from) tells))
      go (Literal c) is = own (Literal c) is refl refl
      go (Unary o x) is = own (Unary o x) is refl refl
      go (Binary o x y) is = own (Binary o x y) is refl refl
      go (If s x y) is = own (If s x y) is refl refl
      go (Call s c) is = own (Call s c) is refl refl
      go (Loop g u l) is = own (Loop g u l) is refl refl
      go (Array nested x y) is = own (Array nested x y) is refl refl
      go (Fetch x y) is =
          subst (λ z. Tells S number run a z v)
          (ap (λ z. topic_of P (origin_of P w (region P w) z)) is ∙ ap (λ z. speaks_of P w (region P w) z 2 true) is)
          tells
      go (Block b) is = let bad : true ≡ false = sym (ap is_block is) ∙ no_block in cc
      go _ is = absurd (true_false (sym expression ∙ ap is_expression is))

  -- what comes from where an expression has its value, the expression Has
  pub origin_shows : (a : Activation) (e : ℕ) (v : Value) → e < length (rows P) → is_expression (node P e) ≡ true
      → Tells S number run a (topic_of P (origin P e)) v → ShowsRow a e v
  origin_shows a e v within expression tells =
      let w = (at (rows P) e).value in
      let stands = (known.table).value_stands e within expression in
      value_shows (suc e) a e v (omega arith) within expression
      (giver_shows a w v (omega (arith, stands.0)) stands.1 stands.2 tells)
