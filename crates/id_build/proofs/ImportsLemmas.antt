-- Which regions see what names mean: what conditionals and loops import.
use Rattle.std.proofs.Common.{◌≡◌, inl, inr, ℕ, zero, suc, ◌+◌, ◌-◌, ◌≤◌, ◌<◌, ◌&&◌}
use Rattle.std.proofs.Common.{Bool as Truth, true, false, cond, nat_eq, Some, None, [], ◌∷◌, ◌++◌, length}
use Rattle.std.proofs.Common.{refl, sym, ◌∙◌, ap, subst, arith}
use Rattle.std.specs.Prelude.{unwrap_or}
use Rattle.std.proofs.lemmas.Bool.{cases_eq, cases_lt, false≢true}
use Rattle.std.proofs.lemmas.Bool.Decides.{nat_tests}
use Rattle.id_value.specs.declared.Kind.{Kind}
use Rattle.id_value.specs.List.{Among}
use Rattle.id_value.proofs.AmongLemmas.{Among-left, Among-right, Among-either}
use Rattle.id_table.specs.declared.row.Region.{Region}
use Rattle.id_table.specs.declared.row.Node.{Node}
use Rattle.id_table.specs.declared.row.Node.TheVariants.{Param, Name, Split, Binding}
use Rattle.id_table.specs.declared.row.Node.TheVariants.{Start, LoopHead, Variable, Switches, Turn, NextUse, Next}
use Rattle.id_table.specs.declared.row.Node.TheVariants.{Carried, Index}
use Rattle.id_table.specs.Rows.{arm_at, at, top}
use Rattle.id_table.specs.Tables.{HasNear, begins_block, has_statements, is_binder, is_binding}
use Rattle.id_table.specs.Tables.{is_split, is_statement, is_switches, is_top, is_variable}
use Rattle.id_table.specs.Loops.{IsLoop, IsLoopOf, IsNextOf}
use Rattle.id_table.specs.Regions.{Lies, here, in_arm, in_loop, in_side, IsIfOf}
use Rattle.id_table.proofs.RegionLemmas.{InArm-either, InArm-lies, InArm-within, Lies-chain, Lies-split, Lies-trans}
use Rattle.id_check.specs.declared.checked.Checked.{Checked}
use Rattle.id_check.specs.Programs.{Stands, binder, region, rows}
use Rattle.id_check.specs.Scopes.{takes, used_name}
use Rattle.id_check.proofs.HomesLemmas.{held_binding, home, home_in, inside_loop}
use Rattle.id_check.proofs.ProgramsLemmas.{bound_name_row, bound_use_row, next_use_row, seen_in}
use Rattle.id_desugar.specs.Ends.{end_of, next_of}
use Rattle.id_desugar.specs.Regions.{bound_of, first_variable, has_index}
use Rattle.id_desugar.specs.Regions.{is_outside, used, used_by, imports_of, handed, is_right_in, nexts_from, nexts_of}
use Rattle.id_desugar.specs.Regions.{taken}
use Rattle.id_build.specs.Rows.{block, first_binder, home as label_home, home_by, label, label_by, node, outer_at}
use Rattle.id_build.proofs.EndsLemmas.{if_is, turn_low}
use Rattle.id_build.proofs.LoopsLemmas.{carried_index, carried_nodes, index_carried, loop_rows, next_is, start_head}
use Rattle.id_build.proofs.LoopsLemmas.{switches_high, switches_low, the_carried, the_loop}
use Rattle.id_build.proofs.NamesSeen.{Sees, own, handed as sees_handed, entered as sees_entered, of_arms, of_turns}
use Rattle.id_build.proofs.RegionsLemmas.{T, head_before, head_low, heads_rise, in_rows, index_region, index_rows}
use Rattle.id_build.proofs.RegionsLemmas.{inner, not_span, split_is, start_is, step_arm}
use Rattle.id_build.proofs.RegionsLemmas.{step_top, switches_head, switches_is, switches_of, switches_top, top_rows}
use Rattle.id_build.proofs.RowLemmas.{IsNamed, IsSeen, is_label}
use Rattle.id_build.proofs.BindersLemmas.{Binds, b_inner, binder_opens, home_lies, imports_from, imports_have, is_out}
use Rattle.id_build.proofs.BindersLemmas.{is_user, labelled, next_listed, next_side, outside_is, param_elsewhere}
use Rattle.id_build.proofs.BindersLemmas.{side_top, some_is, takes_statements, through_home, through_side, user_opens}

module _ (P : Checked) where
  abbrev pub LiesIn : Region → Region → Type 0
  LiesIn q r = Lies (rows P) q r

  -- ---- uses

  -- the use of the binder b at the row i, which is seen from where the row stands: i itself, or for a first value its
  -- loop
  record Use (i b : ℕ) : Type 0 where
    row : ℕ
    within : i < length (rows P)
    user : is_user (node P i) ≡ true
    bound : Binds P b
    lies : LiesIn (home (rows P) b) (region P row)
    further : LiesIn (region P row) (region P i)
    uses : (z : Region) → LiesIn z (region P row) → used P z.head i ≡ Some b
    back : (z : Region) → is_switches (node P z.head) ≡ false → used P z.head i ≡ Some b → LiesIn z (region P i)
        → LiesIn z (region P row)
    -- a binding of a predicate is used there alone
    apart : (w t : ℕ) → w < length (rows P) → node P w ≡ Switches t → region P b ≡ region P w
        → is_binding (node P b) ≡ true → w < i → ⊥

  u_inner : {i b : ℕ} → Use i b → i + 1 < length (rows P)
  u_inner {i} u = inner P i is_user refl u.within u.user

  -- a binding right in the predicate of a loop is not seen behind the loop's switches
  not_behind : (i x b : ℕ) (n : Node) → Stands P i n → used_name n ≡ Some x → binder P i ≡ Some b → (w t : ℕ)
      → w < length (rows P) → node P w ≡ Switches t → region P b ≡ region P w → is_binding (node P b) ≡ true → w < i → ⊥
  not_behind i x b n h u e w t within is same binding behind = go (node P b) refl binding
    where
      go : (m : Node) → node P b ≡ m → is_binding m ≡ true → ⊥
      go (Binding z a) at_b k =
          let v = seen_in P i x b n h u e in
          let s = v.0 in
          let y = v.1 in
          let has = takes_statements (node P s) z a (sym (ap (takes (node P s)) at_b) ∙ y.taken) in
          let bare = sym (held_binding (rows P) b s z a at_b) ∙ y.bare in
          let st = (T P).statement_stands s b y.within (record {
            block = has;
            statement = ap is_statement at_b;
            inside =
                y.inside;
            right = bare;
          }) in
          let top_s : region P s ≡ top (block P w) = sym st.1 ∙ same ∙ switches_top P w t within is in
          let c = switches_of P w t within is in
          let rows_are = (T P).loop_is c.0 (block P w) c.1 in
          let inner_s = inner P s has_statements refl y.within has in
          let low = top_rows P (block P w) c.0 s c.1 inner_s top_s in
          let round : i < s = grind (arith, nat_tests, y.round) in
          let g_low : block P w < w = let l = switches_low rows_are in omega (arith, l, c.2) in
          let before : s + 1 < c.0 =
          not_span P c.0 (block P w) (c.1).switches (c.1).last s rows_are has_statements refl low has in
          elim (cases_lt rows_are.body s) [
            | inl k ↦
                let l = subst (LiesIn (arm_at (c.1).switches false)) top_s (rows_are.last_is.each s k before) in
                let rise = heads_rise P l in
                omega (arith, rise, g_low, c.2)
            | inr k ↦
                let w_low : (c.1).switches < s = omega (arith, c.2, behind, round) in
                let l = subst (LiesIn (arm_at (c.1).switches true)) top_s (rows_are.body_is.each s w_low k) in
                let rise = heads_rise P l in
                omega (arith, rise, g_low, c.2)
          ]
      go _ at_b k = absurd (false≢true k)

  name_use : (i x b : ℕ) → i < length (rows P) → node P i ≡ Name x → binder P i ≡ Some b → Use i b
  name_use i x b within is e =
      let s : Stands P i (Name x) = record { within = within; node = is } in
      let z = bound_name_row P i x s in
      let same : z.0 ≡ b = some_is (sym (z.1).binder ∙ e) in
      record {
        row = i;
        within = within;
        user = ap is_user is;
        bound = subst (Binds P) same (record { within = (z.1).within; binds = (z.1).is_binder });
        lies = subst (λ c. LiesIn (home (rows P) c) (region P i)) same (z.1).stands;
        further = here;
        uses = λ y l. ap (used_by (is_right_in P y.head i) (binder P i)) is ∙ e;
        back = λ y o u l. l;
        apart = not_behind i x b (Name x) s refl e;
      }

  -- where the use of a first value stands
  record UseAt (o n : ℕ) : Type 0 where
    head_in : block P o < length (rows P)
    head : node P (block P o) ≡ LoopHead (block P o - 1)
    side : ℕ
    test : ℕ
    side_in : side < length (rows P)
    side_node : node P side ≡ Switches test
    side_block : block P side ≡ block P o
    region_is : region P o ≡ arm_at side true
    start_region : region P (block P o - 1) ≡ region P n
    outer_head : (region P n).head < block P o

  use_at : (o x n : ℕ) → o < length (rows P) → node P o ≡ NextUse x → IsLoopOf (rows P) n (block P o) → UseAt o n
  use_at o x n within is c =
      let h = block P o in
      let y = (T P).loop_is n h c in
      let u = (T P).use_of o x within is in
      let m = u.0 in
      let q = u.2 in
      let near = (T P).part_stands m o q.within (subst (λ z. HasNear z o) (sym q.node) (inl (sym u.3))) in
      let same_block : block P o ≡ block P m = near.0 in
      let nd = next_side P m x u.1 q.outer q.value q.within q.node in
      let rise = switches_low y in
      let high = switches_high y in
      let low : h < length (rows P) = omega (arith, rise, high, c.within) in
      let start : y.start ≡ h - 1 = omega (arith, y.begins) in
      let start_at : region P (h - 1) ≡ region P n = ap (region P) (sym start) ∙ (y.start_of).beside.region in
      let below : (region P (h - 1)).head ≤ h - 1 = head_low P (h - 1) (omega (arith, y.begins, low)) in
      let head_same = ap (λ (r : Region). r.head) start_at in
      record {
        head_in = low;
        head = y.before_test.head;
        side = nd.0;
        test = nd.1;
        side_in = nd.2;
        side_node = nd.3;
        side_block = nd.4 ∙ sym same_block;
        region_is = near.1 ∙ nd.5;
        start_region = start_at;
        outer_head = omega (arith, below, head_same, y.begins);
      }

  first_use : (o x b n : ℕ) → o < length (rows P) → node P o ≡ NextUse x → binder P o ≡ Some b → Binds P b
      → IsLoopOf (rows P) n (block P o) → LiesIn (home (rows P) b) (region P n) → Use o b
  first_use o x b n within is e bound c lies =
      let u = use_at o x n within is c in
      let h = block P o in
      let w_top : region P u.side ≡ top h = side_top P u.side u.test u.side_in u.side_node ∙ ap top u.side_block in
      record {
        row = n;
        within = within;
        user = ap is_user is;
        bound = bound;
        lies = lies;
        further =
            subst (LiesIn (region P n)) (sym u.region_is)
            (in_side u.side_in (ap is_switches u.side_node)
            (subst (LiesIn (region P n)) (sym w_top)
            (in_loop u.head_in u.head (subst (LiesIn (region P n)) (sym u.start_region) here))));
        uses = λ y l. (
            ap (used_by (is_right_in P y.head o) (binder P o)) is
            ∙ ap (λ t. used_by t (binder P o) (NextUse x)) (not_own u y.head
            (λ same. let rise = heads_rise P l in let out = u.outer_head in omega (arith, rise, out, same)))
            ∙ e);
        back = λ y other used l.
            elim (step_top P h (h - 1) u.head (subst (LiesIn y) w_top
            (through_side P u.side u.test u.side_in u.side_node other (subst (LiesIn y) u.region_is l)))) [
              | inl same ↦ absurd
                  (none_some
                  (sym (ap (λ t. used_by t (binder P o) (NextUse x))
                  (is_own u y.head (ap (λ (r : Region). r.head) same)))
                  ∙ sym (ap (used_by (is_right_in P y.head o) (binder P o)) is) ∙ used))
              | inr m ↦ subst (LiesIn y) u.start_region m
            ];
        apart = not_behind o x b (NextUse x) (record { within = within; node = is }) refl e;
      }
    where
      none_some : None ≡ Some b → ⊥
      none_some k = cc

      right_is : (u : UseAt o n) (g : ℕ) → is_right_in P g o ≡ nat_eq (block P o) g
      right_is u g =
          let at_side = ap (λ (r : Region). r.head) u.region_is in
          ap (λ z. is_switches (node P z) && nat_eq (block P z) g) at_side
          ∙ ap (λ m. is_switches m && nat_eq (block P u.side) g) u.side_node
          ∙ ap (λ z. nat_eq z g) u.side_block

      not_own : (u : UseAt o n) (g : ℕ) → (g ≡ block P o → ⊥) → is_right_in P g o ≡ false
      not_own u g other = right_is u g ∙ differs (block P o) g other
        where
          differs : (a b : ℕ) → (b ≡ a → ⊥) → nat_eq a b ≡ false
          differs a b k = elim (cases_eq a b) [
            | inl s ↦ absurd (k (sym s))
            | inr s ↦ grind (arith, nat_tests, s)
          ]

      is_own : (u : UseAt o n) (g : ℕ) → g ≡ block P o → is_right_in P g o ≡ true
      is_own u g same = right_is u g ∙ (let back = sym same in grind (arith, nat_tests, back))

  -- what a row uses for something is a use
  use_of : (g i b : ℕ) → i < length (rows P) → used P g i ≡ Some b → Use i b
  use_of g i b within e = go (node P i) refl e
    where
      go : (m : Node) → node P i ≡ m → used_by (is_right_in P g i) (binder P i) m ≡ Some b → Use i b
      go (Name x) is k = name_use i x b within is k
      go (NextUse x) is k =
          let z = bound_use_row P i x (record { within = within; node = is }) in
          let binds = by_own (is_right_in P g i) x k in
          let same : z.0 ≡ b = some_is (sym (z.3).binder ∙ binds) in
          first_use i x b z.1 within is binds
          (subst (Binds P) same (record { within = (z.3).within; binds = (z.3).is_binder })) z.2
          (subst (λ c. LiesIn (home (rows P) c) (region P z.1)) same (z.3).stands)
        where
          by_own : (t : Truth) (x : ℕ) → used_by t (binder P i) (NextUse x) ≡ Some b → binder P i ≡ Some b
          by_own true x k = cc
          by_own false x k = k
      go _ is k = cc

  -- ---- what is taken

  taken_has : (g i b : ℕ) → g < i → i < end_of P g → used P g i ≡ Some b → is_outside (g + 1) (end_of P g) b ≡ true
      → Among b (taken P g)
  taken_has g i b low high binds out =
      let at : (g + 1) + (i - (g + 1)) ≡ i = omega (arith, low) in
      imports_have (used P g) (g + 1) (end_of P g) (end_of P g - (g + 1)) (i - (g + 1)) b (omega (arith, low, high))
      (ap (used P g) at ∙ binds) out

  -- the row that uses what is taken
  record Taken (g b : ℕ) : Type 0 where
    row : ℕ
    low : g < row
    high : row < end_of P g
    used_there : used P g row ≡ Some b
    out : is_outside (g + 1) (end_of P g) b ≡ true

  taken_by : (g b : ℕ) → Among b (taken P g) → Taken g b
  taken_by g b among =
      let z = imports_from (used P g) (g + 1) (end_of P g) (end_of P g - (g + 1)) b among in
      record { row = (g + 1) + z.0; low = omega arith; high = omega (arith, z.1); used_there = z.2; out = z.3 }

  -- a binder not between the rows is outside
  not_between : (g n b : ℕ) → (g < b → b < n → ⊥) → is_outside (g + 1) n b ≡ true
  not_between g n b never = outside_is (g + 1) n b (elim (cases_lt g b) [
    | inl l ↦ elim (cases_lt b n) [
      | inl m ↦ absurd (never l m)
      | inr m ↦ inr m
    ]
    | inr l ↦ inl (omega (arith, l))
  ])

  -- where its home lies round a conditional, it is none of the arms' rows
  beside_arms : (s t b : ℕ) → s < length (rows P) → node P s ≡ Split t → Binds P b
      → LiesIn (home (rows P) b) (region P s) → is_outside (s + 1)
      (end_of P s) b ≡ true
  beside_arms s t b within is x l = not_between s (end_of P s) b (λ low high.
      let d = if_is P (T P) s t within is in
      let a = InArm-either (rows P) (T P) (end_of P s) s b d low high in
      let in_it = ((T P).arms (end_of P s) s d).each a.0 b a.1 in
      Lies-split (rows P) (T P) (end_of P s) s a.0 d
      (Lies-trans (rows P) (through_home P b x (ap is_switches is) in_it) l))

  -- and round a loop, none of the loop's
  beside_loop : (h s b : ℕ) → h < length (rows P) → node P h ≡ LoopHead s → Binds P b
      → LiesIn (home (rows P) b) (region P s) → is_outside (h + 1)
      (end_of P h) b ≡ true
  beside_loop h s b within is x l = not_between h (end_of P h) b (λ low high.
      let c = the_loop P h s within is in
      let before =
      not_span P (end_of P h) h c.switches c.last b (loop_rows P h s within is) is_binder refl high x.binds in
      let in_it = inside_loop (rows P) (T P) (end_of P h) h c b (omega (arith, low)) before in
      let rise = heads_rise P (Lies-trans (rows P) (through_home P b x (ap is_switches is) in_it) l) in
      let at = start_is P h s within is in
      let e = head_low P s (omega (arith, at, within)) in
      omega (arith, rise, e, at))

  -- ---- what regions see

  module _ (i b : ℕ) (u : Use i b) where
    not_header : begins_block (node P i) ≡ false
    not_header = user_opens (node P i) u.user

    -- the loop of switches hands its variables on, and what it takes
    at_switches : (w t : ℕ) (c : Truth) → w < length (rows P) → node P w ≡ Switches t
        → LiesIn (home (rows P) b) (region P w) → LiesIn (arm_at w c)
        (region P u.row)
        → Among b (bound_of P (block P w) ++ (nexts_of P (block P w) ++ taken P (block P w)))
    at_switches w t c within is l round =
        let g = block P w in
        let head = switches_head P w t within is in
        let here_top = switches_top P w t within is in
        let top_round : LiesIn (top g) (region P u.row) =
        Lies-trans (rows P) (in_side within (ap is_switches is) (subst (LiesIn (top g)) (sym here_top) here)) round in
        elim (step_top P g (g - 1) head.1 (subst (LiesIn (home (rows P) b)) here_top l)) [
          | inl e ↦
              Among-right b (bound_of P g) (nexts_of P g ++ taken P g)
              (Among-left b (nexts_of P g) (taken P g) (own_name (node P b) refl (u.bound).binds e))
          | inr m ↦
              let at = in_rows P g (g - 1) head.0 head.1 i (u_inner u) not_header
              (Lies-trans (rows P) top_round u.further) in
              Among-right b (bound_of P g) (nexts_of P g ++ taken P g)
              (Among-right b (nexts_of P g) (taken P g)
              (taken_has g i b at.0 at.1 (u.uses (top g) top_round) (beside_loop g (g - 1) b head.0 head.1 u.bound m)))
        ]
      where
        behind : w < i
        behind =
            let rise = heads_rise P (Lies-trans (rows P) round u.further) in
            let low = head_before P i (u_inner u) not_header in
            omega (arith, rise, low)

        own_name : (m : Node) → node P b ≡ m → is_binder m ≡ true → home (rows P) b ≡ top (block P w)
            → Among b (nexts_of P (block P w))
        own_name (Next y k o v) at_b e same =
            let blocks : block P b ≡ block P w =
            ap (λ (r : Region). r.head) (sym (ap (home_in (block P b) (region P b)) at_b) ∙ same) in
            subst (λ z. Among b (nexts_of P z)) blocks (next_listed P b y k o v (u.bound).within at_b)
        own_name (Binding y a) at_b e same =
            absurd (u.apart w t within is (sym (ap (home_in (block P b) (region P b)) at_b) ∙ same
            ∙ sym (switches_top P w t within is))
            (ap is_binding at_b) behind)
        own_name (Param y k) at_b e same =
            let mine : region P b ≡ top (block P w) = sym (ap (home_in (block P b) (region P b)) at_b) ∙ same in
            let blocks : block P b ≡ block P w =
            ap (λ (r : Region). r.head) (sym ((T P).at_top b (u.bound).within (ap is_top at_b)) ∙ mine) in
            let head = switches_head P w t within is in
            absurd (param_elsewhere P b y k (u.bound).within at_b (ap (node P) blocks ∙ head.1))
        own_name (Index y) at_b e same =
            let mine = sym (ap (home_in (block P b) (region P b)) at_b) ∙ same in
            let side = sym (index_region P b y (u.bound).within at_b) ∙ mine in
            let head = switches_head P w t within is in
            let z = (index_rows P b y (u.bound).within at_b).test.node in
            absurd (false≢true (sym (ap is_switches head.1)
            ∙ ap (λ (r : Region). is_switches (node P r.head)) (sym side) ∙ ap is_switches z))
        own_name _ at_b e same = absurd (false≢true e)

    -- each region from the binder's home to the use sees the binder
    sees_from : {r : Region} → LiesIn (home (rows P) b) r → LiesIn r (region P u.row) → Sees P b r
    sees_from here round = own (labelled P b u.bound).region_is
    sees_from (in_arm {s = s} {b = c} within k l) round =
        let t = split_is (node P s) k in
        let d = if_is P (T P) s t.0 within t.1 in
        let at = InArm-within (rows P) (T P) (end_of P s) s i c d
        (InArm-lies (rows P) (T P) (end_of P s) s c d i (u_inner u) (Lies-trans (rows P) round u.further)) in
        let among = taken_has s i b at.0 at.1 (u.uses (arm_at s c) round) (beside_arms s t.0 b within t.1 u.bound l) in
        sees_handed within (of_arms t.1) (subst (λ m. Among b (handed P s m)) (sym t.1) among)
        (sees_from l (Lies-trans (rows P) (in_arm within k here) round))
    sees_from (in_loop {h = h} {s = s} within k l) round =
        let at = in_rows P h s within k i (u_inner u) not_header (Lies-trans (rows P) round u.further) in
        let among = taken_has h i b at.0 at.1 (u.uses (top h) round) (beside_loop h s b within k u.bound l) in
        sees_entered within k (subst (λ m. Among b (handed P h m)) (sym k) among)
        (sees_from l (Lies-trans (rows P) (in_loop within k here) round))
    sees_from (in_side {w = w} {b = c} within k l) round =
        let t = switches_is (node P w) k in
        sees_handed within (of_turns t.1)
        (subst (λ m. Among b (handed P w m)) (sym t.1) (at_switches w t.0 c within t.1 l round))
        (sees_from l (Lies-trans (rows P) (in_side within k here) round))

  seen_of : {r : Region} (b : ℕ) → Binds P b → Sees P b r → IsSeen P r b
  seen_of b x sees =
      let z = labelled P b x in record { within = z.within; is_label = z.marks; sees = sees; side = z.side }

  -- what a loop takes is seen where its `Start` stands, and right in the loop
  record TakenIn (h s b : ℕ) : Type 0 where
    bound : Binds P b
    outside : Sees P b (region P s)
    inside : Sees P b (top h)

  loop_takes : (h s b : ℕ) → h < length (rows P) → node P h ≡ LoopHead s → Among b (taken P h) → TakenIn h s b
  loop_takes h s b within is among =
      let x = taken_by h b among in
      let c = the_loop P h s within is in
      let inside : x.row < length (rows P) = omega (arith, x.high, c.within) in
      let u = use_of h x.row b inside x.used_there in
      let before =
      not_span P (end_of P h) h c.switches c.last x.row (loop_rows P h s within is) is_user refl x.high u.user in
      let in_it = inside_loop (rows P) (T P) (end_of P h) h c x.row (omega (arith, x.low)) before in
      let round = u.back (top h) (ap is_switches is) x.used_there in_it in
      elim (Lies-chain (rows P) u.lies round) [
        | inl l ↦ elim (step_top P h s is l) [
          | inl e ↦ absurd (never x u (subst (LiesIn (top h)) (sym e) here))
          | inr m ↦
              let out = sees_from x.row b u m (Lies-trans (rows P) (in_loop within is here) round) in
              record { bound = u.bound; outside = out; inside = sees_from x.row b u (in_loop within is m) round }
        ]
        | inr l ↦ absurd (never x u l)
      ]
    where
      never : (x : Taken h b) (u : Use x.row b) → LiesIn (top h) (home (rows P) b) → ⊥
      never x u l =
          let at = in_rows P h s within is b (b_inner P u.bound) (binder_opens (node P b) (u.bound).binds)
          (Lies-trans (rows P) l (home_lies P b u.bound)) in
          is_out (h + 1) (end_of P h) b x.out (omega (arith, at.0)) at.1

  -- a `next` statement of a loop
  record NextIn (h m : ℕ) : Type 0 where
    name : ℕ
    index : ℕ
    outer : ℕ
    value : ℕ
    within : m < length (rows P)
    node_is : node P m ≡ Next name index outer value
    block_is : block P m ≡ h

  the_next : (h s m : ℕ) → h < length (rows P) → node P h ≡ LoopHead s → Among m (nexts_of P h) → NextIn h m
  the_next h s m within is among =
      go (first_variable P h) (length (rows P)) (omega (arith, the_carried P h s within is))
      (omega (arith, the_carried P h s within is, (loop_rows P h s within is).before_test.low)) among
    where
      go : (v n : ℕ) → h + (loop_rows P h s within is).carried < v → v ≤ (loop_rows P h s within is).entries
          → Among m (nexts_from P v n) → NextIn h m
      go v zero low high k = absurd k
      go v (suc n) low high k = by (is_variable (node P v)) refl k (λ less. go (suc v) n (omega (arith, low)) less)
        where
          y : IsLoop (rows P) (end_of P h) h (the_loop P h s within is).switches (the_loop P h s within is).last
          y = loop_rows P h s within is

          variable_is : (q : Node) → is_variable q ≡ true → q ≡ Variable
          variable_is Variable e = refl
          variable_is _ e = absurd (false≢true e)

          before : is_variable (node P v) ≡ true → v < y.entries
          before e = elim (cases_lt v y.entries) [
            | inl l ↦ l
            | inr l ↦
                let same : v ≡ y.entries = omega (arith, l, high) in
                absurd (false≢true (sym (ap is_variable y.before_test.entries)
                ∙ ap (λ z. is_variable (node P z)) (sym same) ∙ e))
          ]

          by : (t : Truth) → is_variable (node P v) ≡ t → Among m (cond t (next_of P v ∷ nexts_from P (suc v) n) [])
              → (suc v ≤ y.entries → Among m (nexts_from P (suc v) n) → NextIn h m) → NextIn h m
          by true e (inl same) rest =
              let less = before e in
              let stands = y.before_test.stands v (omega (arith, low)) (omega (arith, less)) in
              let high = switches_high y in
              let v_in : v < length (rows P) =
              omega (arith, less, y.test.low, y.test.behind, high, (the_loop P h s within is).within) in
              let z = next_is P v v_in (variable_is (node P v) e) in
              let here_next : IsNextOf (rows P) (next_of P v)
              (block P (next_of P v)) z.index z.name =
              record { outer = z.outer; value = z.value; within = z.within; block = refl; node = z.node } in
              let there = ((T P).next_in (next_of P v) (block P (next_of P v)) z.index z.name here_next).2 in
              subst (NextIn h) (sym same) (record {
                name = z.name;
                index = z.index;
                outer = z.outer;
                value = z.value;
                within = z.within;
                node_is = z.node;
                block_is = sym there.variable_block ∙ ap (block P) z.is ∙ stands.0;
              })
          by true e (inr k) rest = rest (let less = before e in omega (arith, less)) k
          by false e k rest = absurd k

  -- a variable is seen right in its loop
  variable_seen : (h s b : ℕ) → h < length (rows P) → node P h ≡ LoopHead s → Among b (nexts_of P h)
      → Binds P b × Sees P b (top h)
  variable_seen h s b within is among =
      let n = the_next h s b within is among in
      let bound : Binds P b = record { within = n.within; binds = ap is_binder n.node_is } in (
        bound,
        own ((labelled P b bound).region_is ∙ ap (home_in (block P b) (region P b)) n.node_is
            ∙ ap top n.block_is),
      )

  -- the entry of what a loop carries on beside is seen right in the loop
  carried_seen : (h i : ℕ) {k : Kind} → i < length (rows P) → node P i ≡ Carried k → region P i ≡ top h
      → IsSeen P (top h) i
  carried_seen h i within is at =
      let mine : label P i ≡ i = ap (label_by (block P i) i) is in
      let there : label_home P i ≡ i = ap (home_by (block P i) i) is in
      record {
        within = subst (λ z. z < length (rows P)) (sym mine) within;
        is_label = ap (λ z. is_label (node P z)) mine ∙ ap is_label is;
        sees = own (ap (region P) there ∙ at);
        side = ap (λ z. (region P z).side) (mine ∙ sym there);
      }

  -- and so is the upper bound of an index
  bound_seen : (h s b : ℕ) → h < length (rows P) → node P h ≡ LoopHead s → Among b (bound_of P h) → IsSeen P (top h) b
  bound_seen h s b within is among = go (has_index P h) refl among
    where
      y : IsLoop (rows P) (end_of P h) h (the_loop P h s within is).switches (the_loop P h s within is).last
      y = loop_rows P h s within is

      there : has_index P h ≡ true → b ≡ h + 2 → IsSeen P (top h) b
      there e at =
          let three = index_carried P h y.entries y.carried y.before_test e in
          let low = switches_low y in
          let high = switches_high y in
          subst (IsSeen P (top h)) (sym at)
          (carried_seen h (h + 2) (omega (arith, low, high, (the_loop P h s within is).within))
          (carried_nodes y.before_test.carried three).1
          (y.before_test.stands (h + 2) (omega arith) (omega (arith, y.before_test.low, three))).1)

      go : (t : Truth) → has_index P h ≡ t → Among b (cond t ((h + 2) ∷ []) []) → IsSeen P (top h) b
      go true e (inl at) = there e at
      go true e (inr none) = absurd none
      go false e none = absurd none

  -- what switches of a loop hand on is seen where they stand
  handed_seen : (w t b : ℕ) → w < length (rows P) → node P w ≡ Switches t
      → Among b (bound_of P (block P w) ++ (nexts_of P (block P w) ++ taken P (block P w)))
      → IsSeen P (region P w) b
  handed_seen w t b within is among =
      let g = block P w in
      let head = switches_head P w t within is in
      let here_top = switches_top P w t within is in
      subst (λ r. IsSeen P r b) (sym here_top) (elim (Among-either b (bound_of P g) (nexts_of P g ++ taken P g) among) [
        | inl k ↦ bound_seen g (g - 1) b head.0 head.1 k
        | inr j ↦ elim (Among-either b (nexts_of P g) (taken P g) j) [
          | inl k ↦ let z = variable_seen g (g - 1) b head.0 head.1 k in seen_of b z.0 z.1
          | inr k ↦ let z = loop_takes g (g - 1) b head.0 head.1 k in seen_of b z.bound z.inside
        ]
      ])

  -- and on both sides
  handed_on : (w t b : ℕ) (c : Truth) → w < length (rows P) → node P w ≡ Switches t
      → Among b (bound_of P (block P w) ++ (nexts_of P (block P w) ++ taken P (block P w))) → IsSeen P (arm_at w c) b
  handed_on w t b c within is among =
      let z = handed_seen w t b within is among in
      record {
        within = z.within;
        is_label = z.is_label;
        sees = sees_handed within (of_turns is) (subst (λ m. Among b (handed P w m)) (sym is) among) z.sees;
        side = z.side;
      }

-- a name has a binder that its region sees
pub name_seen : (P : Checked) (i x : ℕ) → i < length (rows P) → node P i ≡ Name x → IsNamed P i
unfolding name_use
name_seen P i x within is =
    let z = bound_name_row P i x (record { within = within; node = is }) in
    let u = name_use P i x z.0 within is (z.1).binder in
    record { row = z.0; binds = (z.1).binder; seen = seen_of P z.0 u.bound (sees_from P i z.0 u u.lies here) }

-- the region of a conditional sees what that imports
pub split_seen : (P : Checked) (n t b : ℕ) → n < length (rows P) → node P n ≡ Split t → Among b (imports_of P n)
    → IsSeen P (region P n) b
split_seen P n t b within is among =
    let x = taken_by P n b (subst (λ m. Among b (handed P n m)) is among) in
    let d = if_is P (T P) n t within is in
    let inside : x.row < length (rows P) = omega (arith, x.high, d.within) in
    let u = use_of P n x.row b inside x.used_there in
    let arm = InArm-either (rows P) (T P) (end_of P n) n x.row d x.low x.high in
    let in_it = ((T P).arms (end_of P n) n d).each arm.0 x.row arm.1 in
    let round = u.back (arm_at n arm.0) (ap is_switches is) x.used_there in_it in
    elim (Lies-chain (rows P) u.lies round) [
      | inl l ↦ elim (step_arm P n t arm.0 is l) [
        | inl e ↦ absurd (never d x u arm.0 (subst (Lies (rows P) (arm_at n arm.0)) (sym e) here))
        | inr m ↦ seen_of P b u.bound
            (sees_from P x.row b u m (Lies-trans (rows P) (in_arm within (ap is_split is) here) round))
      ]
      | inr l ↦ absurd (never d x u arm.0 l)
    ]
  where
    never : (d : IsIfOf (rows P) (end_of P n) n) (x : Taken P n b) (u : Use P x.row b) (c : Truth)
        → Lies (rows P) (arm_at n c) (home (rows P) b) → ⊥
    never d x u c l =
        let at = InArm-within (rows P) (T P) (end_of P n) n b c d
        (InArm-lies (rows P) (T P) (end_of P n) n c d b (b_inner P u.bound)
        (Lies-trans (rows P) l (home_lies P b u.bound))) in
        is_out (n + 1) (end_of P n) b x.out (omega (arith, at.0)) at.1

-- and that of a loop's switches what they hand on
pub switches_seen : (P : Checked) (w t b : ℕ) → w < length (rows P) → node P w ≡ Switches t → Among b (imports_of P w)
    → IsSeen P (region P w) b
switches_seen P w t b within is among = handed_seen P w t b within is (subst (λ m. Among b (handed P w m)) is among)

-- and that in which a loop stands what it imports
pub loop_seen : (P : Checked) (h s b : ℕ) → h < length (rows P) → node P h ≡ LoopHead s → Among b (imports_of P h)
    → IsSeen P (region P s) b
loop_seen P h s b within is among =
    let z = loop_takes P h s b within is (subst (λ m. Among b (handed P h m)) is among) in seen_of P b z.bound z.outside

-- and the region of a loop's body what the loop imports
pub turn_seen : (P : Checked) (i b : ℕ) → i < length (rows P) → node P i ≡ Turn → Among b (imports_of P (block P i))
    → IsSeen P (region P i) b
turn_seen P i b within is among =
    let c = (T P).turn_of i within is in
    let g = block P i in
    let y = (T P).loop_is c.0 g c.1 in
    let w = (c.1).switches in
    let high = switches_high y in
    let low : w < length (rows P) = omega (arith, high, (c.1).within) in
    let taken_there : Among b (taken P g) = subst (λ m. Among b (handed P g m)) y.before_test.head among in
    let handed_there : Among b (bound_of P (block P w) ++ (nexts_of P (block P w) ++ taken P (block P w))) =
    Among-right b (bound_of P (block P w)) (nexts_of P (block P w) ++ taken P (block P w))
    (Among-right b (nexts_of P (block P w)) (taken P (block P w))
    (subst (λ z. Among b (taken P z)) (sym y.test.block) taken_there)) in
    let at : region P i ≡ arm_at w true =
    ap (region P) (sym c.2) ∙ (y.body_is.begins y.turn (turn_low y.body_is.turns) (omega arith)).1 in
    subst (λ r. IsSeen P r b) (sym at) (handed_on P w y.test.test b true low y.test.node handed_there)

-- and the region of a row that begins a loop's body the upper bound of its index
pub upper_seen : (P : Checked) (n h i : ℕ) (c : IsLoopOf (rows P) n h) (y : IsLoop (rows P) n h c.switches c.last)
    → y.carried ≡ 3 → region P i ≡ arm_at c.switches true → IsSeen P (region P i) (h + 2)
upper_seen P n h i c y three is =
    let w = c.switches in
    let low = switches_low y in
    let high = switches_high y in
    let has : has_index P h ≡ true = carried_index P h y.entries y.carried y.before_test three in
    let mine : Among (h + 2) (bound_of P h) =
    subst (λ (t : Truth). Among (h + 2) (cond t ((h + 2) ∷ []) [])) (sym has) (inl refl) in
    let there : Among (h + 2) (bound_of P (block P w) ++ (nexts_of P (block P w) ++ taken P (block P w))) =
    Among-left (h + 2) (bound_of P (block P w)) (nexts_of P (block P w) ++ taken P (block P w))
    (subst (λ g. Among (h + 2) (bound_of P g)) (sym y.test.block) mine) in
    subst (λ r. IsSeen P r (h + 2)) (sym is)
    (handed_on P w y.test.test (h + 2) true (omega (arith, high, c.within)) y.test.node there)

-- and that in which a loop stands the first values of its variables
pub first_seen : (P : Checked) (s m : ℕ) → s < length (rows P) → node P s ≡ Start → Among m (nexts_of P (s + 1))
    → IsSeen P (region P s) (first_binder P m)
unfolding first_use
first_seen P s m within is among =
    let h = start_head P s within is in
    let n = the_next P (s + 1) s m h.0 h.1 among in
    let w = next_use_row P m n.name n.index n.outer n.value (record { within = n.within; node = n.node_is }) in
    let z = bound_use_row P n.outer n.name w in
    let near = (T P).part_stands m n.outer n.within (subst (λ y. HasNear y n.outer) (sym n.node_is) (inl refl)) in
    let block_is : block P n.outer ≡ s + 1 = near.0 ∙ n.block_is in
    let c : IsLoopOf (rows P) z.1 (s + 1) = subst (IsLoopOf (rows P) z.1) block_is z.2 in
    let y = (T P).loop_is z.1 (s + 1) c in
    let start : y.start ≡ s = omega (arith, y.begins) in
    let at : region P z.1 ≡ region P s = sym (y.start_of).beside.region ∙ ap (region P) start in
    let bound : Binds P z.0 = record { within = (z.3).within; binds = (z.3).is_binder } in
    let u = first_use P n.outer n.name z.0 z.1 w.within w.node (z.3).binder bound z.2 (z.3).stands in
    let same : first_binder P m ≡ z.0 =
    ap (λ q. unwrap_or (binder P (outer_at q)) 0) n.node_is ∙ ap (λ o. unwrap_or o 0) (z.3).binder in
    subst (IsSeen P (region P s)) (sym same)
    (seen_of P z.0 bound (subst (Sees P z.0) at (sees_from P n.outer z.0 u (z.3).stands here)))
