-- What the bounds of an index and what counts tell, where their operands tell what their ports want.
use Rattle.std.proofs.Common.{inl}
use Rattle.std.proofs.Common.{◌≡◌, ℕ, suc, ℤ, ◌+◌, ◌-◌, ◌<◌, Bool as Truth, true, false, cond, List, length, unwrap_or}
use Rattle.std.proofs.Common.{refl, sym, ◌∙◌, ap, subst, arith}
use Rattle.std.specs.Prelude.{int_le, int_lt, pos, ◌+ℤ◌}
use Rattle.id_value.specs.Results.{is_whole}
use Rattle.id_value.specs.declared.Arithmetic.TheVariants.{Add}
use Rattle.id_value.specs.declared.Comparison.TheVariants.{Lt, Le}
use Rattle.id_value.specs.declared.Constant.TheVariants as constants
use Rattle.id_value.specs.declared.FaultKind.TheVariants.{Overflow}
use Rattle.id_value.specs.declared.Outcome.TheVariants.{Gives, Fails}
use Rattle.id_table.specs.declared.row.Region.{Region}
use Rattle.id_table.specs.declared.row.Node.TheVariants.{Bounds, Count}
use Rattle.id_table.specs.Rows.{arm_at}
use Rattle.id_table.specs.Loops.{bounds_row, index_row, upper_at, upper_of}
use Rattle.id_table.specs.Tables.{HasNear, is_expression}
use Rattle.id_check.specs.declared.checked.Checked.{Checked}
use Rattle.id_check.specs.Programs.{place, region, rows}
use Rattle.id_check.specs.Scopes.{loops_between}
use Rattle.id_instr.specs.declared.instr.Dyadic.TheVariants as dyadic
use Rattle.id_instr.specs.declared.instr.PortKind.{PortKind}
use Rattle.id_instr.specs.declared.instr.PortKind.TheVariants.{Signal as SignalKind, Int as IntKind}
use Rattle.id_tag.specs.declared.Value.{Value}
use Rattle.id_tag.specs.declared.Value.TheVariants as value
use Rattle.id_tag.specs.Kinds.{kind_of, same_kind}
use Rattle.id_ops.specs.declared.Operands.TheVariants as operands
use Rattle.id_ops.specs.declared.Fired.{Fired}
use Rattle.id_ops.specs.declared.Fired.TheVariants.{Out, Side, Nothing}
use Rattle.id_ops.specs.Operators.{fired_binary, fired_by, fired_const, fired_switch}
use Rattle.id_source.specs.declared.Path.{Path}
use Rattle.id_source.specs.declared.SourceValue.{SourceValue}
use Rattle.id_source.specs.declared.SourceValue.TheVariants as source
use Rattle.id_source.specs.declared.Fact.TheVariants.{Has}
use Rattle.id_source.specs.Sources.{Source}
use Rattle.id_source.specs.Facts.{below, without, by_bounds, by_index, index_begins, index_counts}
use Rattle.id_source.specs.Rounds.{Holds}
use Rattle.id_desugar.specs.Ends.{end_of}
use Rattle.id_build.specs.Rows.{block, node, origin, output}
use Rattle.id_runs.specs.Activations.{Activation}
use Rattle.id_runs.specs.Events.{Event, FiresOnce}
use Rattle.id_runs.proofs.Givings.{gives_once}
use Rattle.id_laws.specs.Activations as activations
use Rattle.id_laws.specs.Activations.{Goes, Live, Speaks, PathOf, count_row, switches_of}
use Rattle.id_laws.specs.Topics.{Topic, AndOne, BoundIn, Counts, GoesFurther, LastIndex, SaidFirst, SaidIndex, SaidNext}
use Rattle.id_laws.specs.Topics.{SaidOf}
use Rattle.id_laws.specs.Topics.{Shown, ShownNextFlag, StandsFor, number_stands, truth_stands, name_stands, Tells}
use Rattle.id_laws.specs.Topics.{Turned, ValueOf, speaks_of}
use Rattle.id_laws.specs.Topics.{ShownSide, behind, index_place, upper_place}
use Rattle.id_laws.proofs.Rows.Assumed.{IsKnown}
use Rattle.id_laws.proofs.Paths.Counted.{index_block, switches_block}
use Rattle.id_laws.proofs.Telling.FiringMeans.{Means}
use Rattle.id_laws.proofs.Paths.Iterations.{without_below}
use Rattle.id_laws.proofs.Rows.Loops.{IsCounted, LoopOf, bounds_node, bounds_region, count_region, counted_of, for_at}
use Rattle.id_laws.proofs.Rows.Loops.{for_stands, has_three, head_block, head_place}
use Rattle.id_laws.proofs.Rows.Loops.{loop_by, start_region, switches_same}
use Rattle.id_laws.proofs.Paths.Opened.{InLoop, LoopPath, live_loop, loop_path, next_path}
use Rattle.id_laws.proofs.Rows.Regions.{no_depth, same_depth}
use Rattle.id_laws.proofs.Paths.Seats.{OneSeat, below_is, one_path}
use Rattle.id_laws.proofs.Telling.TurnedOn.{holds_by, turned_on, without_none}

-- a value that is a truth value is one alone
pub one_truth : (b c : Truth) → value.Bool b ≡ value.Bool c → b ≡ c
one_truth b c e = cc

one_number : (i j : ℤ) → value.Int i ≡ value.Int j → i ≡ j
one_number i j e = cc

-- what says whether the loop with the head h goes on in the next iteration is of the truth value by which its switches
-- go there
pub next_side : (S : Source) (number : ℕ → ℕ → ℕ) (run : List Event) (known : IsKnown S.checked) → OneSeat S number run
    → (a : Activation) (h : ℕ)
    (l : LoopOf S.checked h) → IsCounted S.checked l.all → (v : Value) → ShownNextFlag S number run a h v
    → ShownSide S number run (behind S number run a) (switches_of S.checked h) v
next_side S number run known seats a h l c v flag =
    let P = S.checked in
    let same = switches_same P known h l in
    let b : block P (switches_of P h) ≡ h = ap (block P) same ∙ switches_block P known h l c in
    let inner =
    subst (InLoop S known number run a) b (live_loop S known number run flag.live (ap (node P) b ∙ l.head)) in
    let path = loop_path S known number run seats l inner flag.path_of in
    let outer : flag.outer ≡ path.path =
    (below_is flag.outer path.path (place P h) (place P (end_of P h)) a.iteration a.iteration path.is).0 in
    let head = head_place P known h l in
    let upper : unwrap_or (upper_at (rows P) h) 0 ≡ (c.bounds).upper =
    ap (λ m. unwrap_or (upper_of m) 0) (bounds_node P known h l c) in
    let high =
    subst (λ (z : Path × ℕ). Holds S (Has z.0 (place P z.1) (source.Int flag.high))) {x =
    (flag.outer, unwrap_or (upper_at (rows P) h) 0)}
    {y = (path.path, (c.bounds).upper)} (λ i. (outer i, upper i)) flag.high_has in
    let index =
    subst (λ (z : (Path × ℕ)
    × ℕ). Holds S (Has (below z.0.0 z.0.1 a.iteration) (place P (index_row z.1)) (source.Int flag.index)))
    {x = ((flag.outer, place P h), switches_of P h)} {y = ((path.path, place P (end_of P h)), (l.the).switches)}
    (λ i. ((outer i, head i), same i)) flag.index_has in
    let p = below path.path (place P (end_of P h)) (suc a.iteration) in
    let side : Goes S p (l.the).switches (int_lt flag.index flag.high) =
    activations.by_index (by_index a.iteration (for_stands P known h l c) refl) (index, (high, tt)) in
    record {
      path = p;
      path_of = next_path S known number run l inner path (suc a.iteration);
      goes = record {
        side = int_lt flag.index flag.high;
        is = flag.is;
        goes =
            subst (λ w. Goes S p w (int_lt flag.index flag.high)) (sym same) side;
      };
    }

module _ (S : Source) (known : IsKnown S.checked) (number : ℕ → ℕ
    → ℕ) (run : List Event) (seats : OneSeat S number run) (once : FiresOnce run)
    (a : Activation) (n : ℕ) (within : n < length (rows S.checked)) where
  abbrev P : Checked
  P = S.checked

  abbrev M : ℕ → Fired → Type 0
  M part f = Means S number run a n part f

  abbrev T : Topic → Value → Type 0
  T t v = Tells S number run a t v

  -- a switch goes by a truth value alone
  by_truth : (k : PortKind) (v w : Value) (part : ℕ) → ((b : Truth) → v ≡ value.Bool b → M part (Side b w))
      → M part (fired_switch k (operands.Two v w))
  by_truth k (value.Bool b) w part means = side (same_kind (kind_of w) k) (means b refl)
    where
      side : (c : Truth) → M part (Side b w) → M part (cond c (Side b w) Nothing)
      side true x = x
      side false x = tt
  by_truth k _ w part means = tt

  -- an instruction gives one value
  one_said : {s : _} {v w : Value} → Speaks S number run a s v → Speaks S number run a s w → v ≡ w
  one_said {v = v} {w = w} x y = (gives_once once x.fires y.fires _ _ v w x.gives y.gives).1

  -- ---- the bounds of an index

  -- the loop that they belong to
  record BoundsLoop (e f : ℕ) : Type 0 where
    loop : LoopOf P (n + 2)
    counted : IsCounted P loop.all
    node : node P (bounds_row (n + 2)) ≡ Bounds e f
    region : region P ((n + 2) - 1) ≡ region P n

  bounds_loop : {e f : ℕ} → node P n ≡ Bounds e f → BoundsLoop e f
  bounds_loop {e} {f} is =
      let z = (known.table).bounds_of n e f within is in
      let l = loop_by known z.1 in
      let c = counted_of P l.all (has_three P ((known.table).loop_is z.0 (n + 2) z.1) z.2) in
      let low : bounds_row (n + 2) ≡ n = omega arith in
      record {
        loop = l;
        counted = c;
        node = ap (node P) low ∙ is;
        region = sym (bounds_region P known (n + 2) l c) ∙ ap (region P) low;
      }

  -- what compares them
  pub bounds_tell : (e f : ℕ) (v w : Value) → node P n ≡ Bounds e f → T (SaidOf e) v → T (ValueOf f) w
      → M 0 (fired_binary (dyadic.Comparison Le) (operands.Two v w))
  bounds_tell e f v w is x y = by (x.1.stands) ((y.1).stands) low high x.2
    where
      z : BoundsLoop e f
      z = bounds_loop is

      low : Holds S (Has x.1.path (place P e) x.1.value)
      low = subst (λ p. Holds S (Has p (place P e) x.1.value)) (without_none x.1.path) x.1.holds

      high : Holds S (Has x.1.path (place P f) (y.1).value)
      high = subst (λ p. Holds S (Has p (place P f) (y.1).value)) (without_none (y.1).path
          ∙ one_path seats (y.1).path_of x.1.path_of) (y.1).holds

      live : Live S number run a (region P ((n + 2) - 1))
      live = subst (Live S number run a)
          (((known.table).part_stands n e within (subst (λ m. HasNear m e) (sym is) (inl refl))).1 ∙ sym z.region) x.0

      by : {v w : Value} {s t : SourceValue} → StandsFor S number run v s → StandsFor S number run w t
          → Holds S (Has x.1.path (place P e) s) → Holds S (Has x.1.path (place P f) t)
          → Speaks S number run a (origin P e) v → M 0 (fired_binary (dyadic.Comparison Le) (operands.Two v w))
      by (number_stands lo) (number_stands hi) low high said = λ other fires.
          subst (λ m. T (speaks_of P n (region P n) m 0 true) (value.Bool (int_le lo hi))) (sym is) (
            live,
            record {
              lower = e;
              upper = f;
              bounds = z.node;
              path = x.1.path;
              path_of = x.1.path_of;
              low = lo;
              high = hi;
              is = refl;
              said = said;
              low_has = low;
              high_has = high;
            },
          )
      by (number_stands lo) (truth_stands b) low high said = tt
      by (number_stands lo) (name_stands s t named) low high said = tt
      by (truth_stands b) q low high said = tt
      by (name_stands s t named) q low high said = tt

  -- what hands the first one in
  pub begins_tell : (e f : ℕ) (v w : Value) → node P n ≡ Bounds e f → T (SaidFirst (n + 2)) v → T (SaidOf e) w
      → M 1 (fired_switch IntKind (operands.Two v w))
  begins_tell e f v w is x y = by_truth IntKind v w 1 by
    where
      h : ℕ
      h = n + 2

      z : BoundsLoop e f
      z = bounds_loop is

      by : (b : Truth) → v ≡ value.Bool b → M 1 (Side b w)
      by false v_is = subst (λ m. T (speaks_of P n (region P n) m 1 false) w) (sym is) (y.0, y.1)
      by true v_is =
          let flag = x.1 in
          let l = z.loop in
          let both : Bounds flag.lower flag.upper ≡ Bounds e f = sym flag.bounds ∙ z.node in
          let e_is : flag.lower ≡ e = cc in
          let f_is : flag.upper ≡ f = cc in
          let w_is : w ≡ value.Int flag.low =
          one_said y.2 (subst (λ i. Speaks S number run a (origin P i) (value.Int flag.low)) e_is flag.said) in
          let goes : int_le flag.low flag.high ≡ true = one_truth _ _ (sym flag.is ∙ v_is) in
          let stands = for_at known (l.the).within (l.the).node z.node in
          let p = flag.path in
          let low = subst (λ i. Holds S (Has p (place P i) (source.Int flag.low))) e_is flag.low_has in
          let high = subst (λ i. Holds S (Has p (place P i) (source.Int flag.high))) f_is flag.high_has in
          let live = subst (Live S number run a) (start_region P known h l) x.0 in
          let on = turned_on S known seats live flag.path_of
          ((known.table).turned (end_of P h) (l.the).within (ap is_expression (l.the).node)) in
          let has = holds_by S _ _ (index_begins stands goes) (on, (low, (high, tt))) in
          let side : Goes S (below p (place P (end_of P h)) 0) (l.the).switches true =
          activations.by_index (by_bounds stands goes) (on, (low, (high, tt))) in
          let here = head_place P known h l in
          let same = switches_same P known h l in
          subst (λ m. T (speaks_of P n (region P n) m 1 true) w) (sym is) (
            x.0,
            record {
              path = p;
              path_of = flag.path_of;
              first = flag.low;
              is = w_is;
              decided = subst (Speaks S number run a (output (bounds_row h))) v_is x.2;
              holds = subst
                  (λ (q : ℕ × ℕ). Holds S (Has (below p q.0 0) (place P (index_row q.1)) (source.Int flag.low)))
                  {x = (place P (end_of P h), (l.the).switches)} {y =
                  (place P h, switches_of P h)} (λ i. (sym here i, sym same i)) has;
              goes = subst (λ (q : ℕ × ℕ). Goes S (below p q.0 0) q.1 true)
                  {x = (place P (end_of P h), (l.the).switches)} {y =
                  (place P h, switches_of P h)} (λ i. (sym here i, sym same i)) side;
            },
          )

  -- ---- what counts

  module _ (is : node P n ≡ Count) (l : LoopOf P (block P n)) (c : IsCounted P l.all) where
    abbrev pub h : ℕ
    h = block P n

    same : switches_of P h ≡ (l.the).switches
    same = switches_same P known h l

    here : region P n ≡ arm_at (switches_of P h) true
    here = count_region known within is l c ∙ ap (λ w. arm_at w true) (sym same)

    -- the loop of a live body
    inner : Live S number run a (arm_at (switches_of P h) true) → InLoop S known number run a h
    inner live =
        let b : block P (switches_of P h) ≡ h = ap (block P) same ∙ switches_block P known h l c in
        subst (InLoop S known number run a) b (live_loop S known number run live (ap (node P) b ∙ l.head))

    -- what compares the index with the upper bound
    pub count_tell : (v w : Value) → T (SaidIndex h) v → T (BoundIn (region P n) h) w
        → M 0 (fired_binary (dyadic.Comparison Lt) (operands.Two v w))
    count_tell v w x y = by x.1.stands (y.1).stands index high x.2
      where
        path : LoopPath S known number run a h (inner x.0) x.1.path
        path = loop_path S known number run seats l (inner x.0) x.1.path_of

        p_is : x.1.path ≡ below path.path (place P h) a.iteration
        p_is = path.is ∙ ap (λ e. below path.path e a.iteration) (sym (head_place P known h l))

        index : Holds S (Has (below path.path (place P h) a.iteration) (index_place S number run h) x.1.value)
        index = subst (λ p. Holds S (Has p (index_place S number run h) x.1.value)) (without_none x.1.path
            ∙ p_is) x.1.holds

        depth : loops_between (rows P) (region P n).head (h - 1) ≡ 1
        depth =
            let b = ap (λ (r : Region). block P r.head) here ∙ ap (block P) same ∙ switches_block P known h l c in
            let deeper = known.loop_depth h (h - 1) l.within l.head in
            same_depth P (region P n).head h (h - 1) (b ∙ sym (head_block P known h l)) ∙ omega (arith, deeper)

        q_is : (y.1).path ≡ below path.path (place P h) a.iteration
        q_is = one_path seats (y.1).path_of x.1.path_of ∙ p_is

        high : Holds S (Has path.path (upper_place S number run h) (y.1).value)
        high = subst (λ p. Holds S (Has p (upper_place S number run h) (y.1).value))
            ((λ i. without (depth i) (q_is i)) ∙ without_below 0 path.path (place P h) a.iteration
            ∙ without_none path.path) (y.1).holds

        by : {v w : Value} {s t : SourceValue} → StandsFor S number run v s → StandsFor S number run w t
            → Holds S (Has (below path.path (place P h) a.iteration) (index_place S number run h) s)
            → Holds S (Has path.path (upper_place S number run h) t)
            → Speaks S number run a (output (h + 1)) v → M 0 (fired_binary (dyadic.Comparison Lt) (operands.Two v w))
        by (number_stands i) (number_stands hi) index high said = λ other fires.
            subst (λ m. T (speaks_of P n (region P n) m 0 true) (value.Bool (int_lt i hi))) (sym is) (record {
              live = x.0;
              outer = path.path;
              path_of = subst (PathOf S number run a) p_is x.1.path_of;
              index = i;
              high = hi;
              is = refl;
              said = said;
              index_has = index;
              high_has = high;
            })
        by (number_stands i) (truth_stands b) low high said = tt
        by (number_stands i) (name_stands s t named) low high said = tt
        by (truth_stands b) q low high said = tt
        by (name_stands s t named) q low high said = tt

    -- where it says that the loop goes on, it does in the next iteration
    record Further (v : Value) : Type 0 where
      outer : Path
      index : ℤ
      high : ℤ
      path_of : PathOf S number run (behind S number run a) (below outer (place P (end_of P h)) (suc a.iteration))
      said : Speaks S number run a (output (h + 1)) (value.Int index)
      high_has : Holds S (Has outer (place P (c.bounds).upper) (source.Int high))
      index_has : Holds S
          (Has (below outer (place P (end_of P h)) a.iteration) (place P (index_row (l.the).switches))
          (source.Int index))
      goes : int_lt index high ≡ true

    further : {v : Value} → ShownNextFlag S number run a h v → v ≡ value.Bool true → Further v
    further flag v_is =
        let path = loop_path S known number run seats l (inner flag.live) flag.path_of in
        let outer : flag.outer ≡ path.path =
        (below_is flag.outer path.path (place P h) (place P (end_of P h)) a.iteration a.iteration path.is).0 in
        let head = head_place P known h l in
        let upper : unwrap_or (upper_at (rows P) h) 0 ≡ (c.bounds).upper =
        ap (λ m. unwrap_or (upper_of m) 0) (bounds_node P known h l c) in
        record {
          outer = path.path;
          index = flag.index;
          high = flag.high;
          path_of = next_path S known number run l (inner flag.live) path (suc a.iteration);
          said = flag.said;
          high_has =
              subst (λ (z : Path × ℕ). Holds S (Has z.0 (place P z.1) (source.Int flag.high))) {x =
              (flag.outer, unwrap_or (upper_at (rows P) h) 0)}
              {y = (path.path, (c.bounds).upper)} (λ i. (outer i, upper i)) flag.high_has;
          index_has =
              subst (λ (z : (Path × ℕ)
              × ℕ). Holds S (Has (below z.0.0 z.0.1 a.iteration) (place P (index_row z.1)) (source.Int flag.index)))
              {x = ((flag.outer, place P h), switches_of P h)} {y =
              ((path.path, place P (end_of P h)), (l.the).switches)}
              (λ i. ((outer i, head i), same i)) flag.index_has;
          goes = one_truth _ _ (sym flag.is ∙ v_is);
        }

    counts : {v : Value} → T (SaidNext h) v → v ≡ value.Bool true → Counts S number run a h
    counts {v} x v_is =
        let z = further x.0 v_is in
        let stands = for_stands P known h l c in
        let side : Goes S (below z.outer (place P (end_of P h)) (suc a.iteration)) (l.the).switches true =
        activations.by_index (by_index a.iteration stands z.goes) (z.index_has, (z.high_has, tt)) in
        record {
          live = (x.0).live;
          decided = subst (Speaks S number run a (output (count_row P h))) v_is x.1;
          goes = record {
            path = below z.outer (place P (end_of P h)) (suc a.iteration);
            path_of = z.path_of;
            goes = record {
              side = true;
              is = refl;
              goes = subst (λ w. Goes S (below z.outer (place P (end_of P h)) (suc a.iteration)) w true) (sym same)
                  side;
            };
          };
        }

    pub further_tell : (v w : Value) → T (SaidNext h) v → T (Turned (region P n)) w
        → M 1 (fired_switch SignalKind (operands.Two v w))
    further_tell v w x y = by_truth SignalKind v w 1 by
      where
        by : (b : Truth) → v ≡ value.Bool b → M 1 (Side b w)
        by true v_is = subst (λ m. T (speaks_of P n (region P n) m 1 true) w) (sym is) (y.0, counts x v_is)
        by false v_is =
            subst (λ m. T (speaks_of P n (region P n) m 1 false) w) (sym is) (y.0, subst (Live S number run a) here y.1)

    -- what hands the index on, of which one more is a number of the language, since an upper bound is
    pub last_tell : ((p : Path) (e : ℕ) (i : ℤ) → Holds S (Has p e (source.Int i)) → is_whole i ≡ true) → (v w : Value)
        → T (SaidNext h) v → T (SaidIndex h) w → M 2 (fired_switch IntKind (operands.Two v w))
    last_tell wholes v w x y = by_truth IntKind v w 2 by
      where
        by : (b : Truth) → v ≡ value.Bool b → M 2 (Side b w)
        by true v_is =
            let z = further x.0 v_is in
            let next =
            holds_by S _ _ (index_counts z.outer a.iteration (for_stands P known h l c) z.goes) (
              z.index_has,
              (z.high_has, tt),
            ) in
            let p = below z.outer (place P (end_of P h)) (suc a.iteration) in
            subst (λ m. T (speaks_of P n (region P n) m 2 true) w) (sym is) (record {
              counts = counts x v_is;
              index = z.index;
              is = one_said y.2 z.said;
              whole = wholes _ _ _ next;
              next = record {
                path = p;
                path_of = z.path_of;
                value = source.Int (z.index +ℤ pos 1);
                stands = number_stands (z.index +ℤ pos 1);
                holds = subst
                    (λ (q : Path × ℕ). Holds S (Has q.0 (place P (index_row q.1)) (source.Int (z.index +ℤ pos 1)))) {x =
                    (p, (l.the).switches)}
                    {y = (without 0 p, switches_of P h)} (λ i. (sym (without_none p) i, sym same i)) next;
              };
            })
        by false v_is =
            let x_row = index_row (switches_of P h) in
            let depth : loops_between (rows P) (switches_of P h) x_row ≡ 0 =
            no_depth P (switches_of P h) x_row (ap (block P) same ∙ switches_block P known h l c
            ∙ sym (ap (λ u. block P (index_row u)) same ∙ index_block P known h l c)) in
            subst (λ m. T (speaks_of P n (region P n) m 2 false) w) (sym is) (
              y.0,
              subst (λ d. Shown S number run a d (place P x_row) w) (sym depth) y.1,
            )

    pub one_tell : (v : Value) → T (GoesFurther h) v → M 3 (fired_const (constants.Int (pos 1)) (operands.One v))
    one_tell v x = subst (λ z. M 3 (fired_const (constants.Int (pos 1)) (operands.One z))) (sym x.0)
        (λ other fires. subst (λ m. T (speaks_of P n (region P n) m 3 true) (value.Int (pos 1))) (sym is) (refl, x.1))

    pub add_tell : (v w : Value) → T (LastIndex h) v → T (AndOne h) w
        → M 4 (fired_binary (dyadic.Arithmetic Add) (operands.Two v w))
    add_tell v w x y =
        let gives : fired_binary (dyadic.Arithmetic Add) (operands.Two v w) ≡ Out (value.Int (x.index +ℤ pos 1)) =
        (λ i. fired_binary (dyadic.Arithmetic Add) (operands.Two (x.is i) (y.0 i)))
        ∙ ap (λ t. fired_by (cond t (Gives (constants.Int (x.index +ℤ pos 1))) (Fails Overflow))) x.whole in
        subst (M 4) (sym gives)
        (λ other fires. subst (λ m. T (speaks_of P n (region P n) m 4 true) (value.Int (x.index +ℤ pos 1))) (sym is)
        (x.counts, x.next))
