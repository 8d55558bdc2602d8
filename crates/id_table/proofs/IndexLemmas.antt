-- What is true of the rows that only a `for` has.
use Rattle.std.proofs.Common.{◌≡◌, ◌⊎◌, inl, inr, ◌<◌, ◌≤◌, ◌+◌, ℕ, suc, true, List, refl, sym, ap, ◌∙◌, subst, arith}
use Rattle.std.proofs.lemmas.Bool.{cases_lt, false≢true}
use Rattle.id_value.specs.declared.Kind.{Kind}
use Rattle.id_value.specs.declared.Kind.TheVariants as kind
use Rattle.id_table.specs.declared.row.Row.{Row}
use Rattle.id_table.specs.declared.row.Stand.{Stand}
use Rattle.id_table.specs.declared.row.Node.TheVariants.{Bounds, Carried, Within, Count, Turn, Index, Loop}
use Rattle.id_table.specs.Rows.{arm, at, in_top}
use Rattle.id_table.specs.Tables.{can_be_on, is_block, is_statement, is_within}
use Rattle.id_table.specs.Loops.{AreBounds, AreCarried, HaveCarried, IsLoopOf, IsTurn, an_index, behind_count, bounds_row, flag, index_row}
use Rattle.id_table.specs.Loops.{with_bounds}
use Rattle.id_table.specs.Turns.{TurnedIn, Turns}
use Rattle.id_table.proofs.BlockLemmas.{in_block-more}
use Rattle.id_table.proofs.HasLemmas.{row_in}
use Rattle.id_table.proofs.RowLemmas.{Fits, Fits-simple, PartIs, RowIs, RowIs-fits, RowsAre, RowsAre-both, RowsAre-suc}
use Rattle.id_table.proofs.ExpressionLemmas.{AreExpression, PartIs-wider, part_of}
use Rattle.id_table.proofs.LoopRowsLemmas.{AreBefore, AreTest, IsMark, LoopRows, OwnRows}
use Rattle.id_table.proofs.LoopLemmas.{is_loop_of, loop_node, single}

-- the rows of the bounds of an index end at the row hi before the `Start` at lo; the entries of what is carried on are
-- behind the head; behind the entries at e stands what is in the place of a predicate, and behind the switches at w what
-- counts, the `Turn`, and the index, which has the place q
pub record IndexRows (F : List Row) (s : Stand) (p q x from mid hi lo a b e w : ℕ) : Type 0 where
  pub low : AreExpression F s from mid
  pub low_ends : suc a ≡ mid
  pub high : AreExpression F s mid hi
  pub high_ends : suc b ≡ hi
  pub bounds : at F hi ≡ row_in s p from hi (Bounds a b)
  pub behind : suc hi ≡ lo
  pub entry : at F (suc (suc lo)) ≡ row_in (in_top (suc lo)) q (suc (suc lo)) (suc (suc lo)) (Carried kind.Int)
  pub bound : at F (suc (suc (suc lo))) ≡ row_in (in_top (suc lo)) p (suc (suc (suc lo))) (suc (suc (suc lo))) (Carried kind.Int)
  pub flag_row : at F (suc (suc (suc (suc lo)))) ≡ row_in (in_top (suc lo)) p (suc (suc (suc (suc lo)))) (suc (suc (suc (suc lo)))) (Carried kind.Bool)
  pub within : at F (suc e) ≡ row_in (in_top (suc lo)) p (suc e) (suc lo + 3) (Within (suc lo + 3))
  pub before_body : suc (suc e) ≡ w
  pub count : at F (suc w) ≡ row_in (arm (in_top (suc lo)) w true) p (suc w) (suc w) Count
  pub turn : at F (suc (suc w)) ≡ row_in (arm (in_top (suc lo)) w true) p (suc (suc w)) (suc (suc w)) Turn
  pub index : at F (suc (suc (suc w))) ≡ row_in (arm (in_top (suc lo)) w true) q (suc (suc (suc w))) (suc (suc (suc w))) (Index x)

module _ (F : List Row) (s : Stand) (p q x from mid hi lo a b e w d l n : ℕ) (r : IndexRows F s p q x from mid hi lo a b e w)
    (z : LoopRows F s p from lo 3 e (suc e) w (suc (suc w)) (suc (suc (suc (suc w)))) d l n) where
  abbrev loop_of : IsLoopOf F n (suc lo)
  loop_of = is_loop_of F s p from lo 3 e (suc e) w (suc (suc w)) (suc (suc (suc (suc w)))) d l n z

  node_of_loop : (at F n).node ≡ Loop (suc lo) w l
  node_of_loop = loop_node F s p from lo 3 e (suc e) w (suc (suc w)) (suc (suc (suc (suc w)))) d l n z

  bounds_node : (at F hi).node ≡ Bounds a b
  bounds_node = ap (λ (k : Row). k.node) r.bounds

  low_reach : from ≤ mid
  low_reach = omega (arith, r.low.low, r.low.ends)

  high_reach : mid ≤ hi
  high_reach = omega (arith, r.high.low, r.high.ends)

  reach : from ≤ hi
  reach = omega (arith, low_reach, high_reach)

  low_end : r.low.end ≡ a
  low_end = omega (arith, r.low.ends, r.low_ends)

  high_end : r.high.end ≡ b
  high_end = omega (arith, r.high.ends, r.high_ends)

  inside : w < n
  inside = omega (arith, z.ends, z.last.low, z.last.ends, z.body.low)

  below : lo < n
  below = omega (arith, inside, z.many, r.before_body)

  part : (c : ℕ) → (c ≡ a) ⊎ (c ≡ b) → PartIs F s from hi c
  part c k = elim k [
    | inl g ↦ subst (PartIs F s from hi) (sym g)
        (PartIs-wider F s from hi from mid a (omega arith) high_reach (part_of F s from mid a r.low r.low_ends))
    | inr g ↦ subst (PartIs F s from hi) (sym g)
        (PartIs-wider F s from hi mid hi b low_reach (omega arith) (part_of F s mid hi b r.high r.high_ends))
  ]

  bounds_fits : Fits F s from hi hi (Bounds a b)
  bounds_fits =
      let two : suc lo ≡ hi + 2 = omega (arith, r.behind) in
      record {
        formed = λ c k. let y = part c k in (y.low, y.before);
        part_stands = λ c k. (part c k).stands;
        operand_is = λ c k. (part c k).expression;
        value_block = λ c h. absurd (false≢true (ap is_block h));
        value_self = λ h. refl;
        value = λ h. absurd (false≢true h);
        statements = λ h. absurd (false≢true h);
        at_top = λ h. absurd (false≢true h);
        heads = λ h. absurd (false≢true h);
        belongs = (n, subst (IsLoopOf F n) two loop_of, omega (arith, reach, ap (λ (k : Row). k.first) z.row));
      }

  bounds_rows : RowsAre F s from lo
  bounds_rows =
      let rows = RowsAre-both F s from mid hi low_reach r.low.rows r.high.rows in
      subst (RowsAre F s from) r.behind
      (RowsAre-suc F s from hi rows (RowIs-fits F s p from hi hi (Bounds a b) r.bounds reach rows refl bounds_fits))

  are_bounds : AreBounds F hi n
  are_bounds =
      let own = sym (ap (λ (k : Row). k.first) z.row) in
      record {
        lower = a;
        upper = b;
        node = bounds_node;
        first = ap (λ (k : Row). k.first) r.bounds ∙ own;
        lower_first = ap (λ k. (at F k).first) (sym low_end) ∙ r.low.first ∙ own;
        upper_first = ap (λ k. (at F k).first) (sym high_end) ∙ r.high.first ∙ omega (arith, r.low_ends);
        behind = omega (arith, r.high_ends);
        beside = record {
          place = ap (λ (k : Row). k.place) r.bounds ∙ sym (ap (λ (k : Row). k.place) z.row);
          block = ap (λ (k : Row). k.block) r.bounds ∙ sym (ap (λ (k : Row). k.block) z.row);
          region = ap (λ (k : Row). k.region) r.bounds ∙ sym (ap (λ (k : Row). k.region) z.row);
        };
      }

  before : AreBefore F s from lo 3 n
  before =
      let named : bounds_row (suc lo) ≡ hi = omega (arith, r.behind) in
      let node : (at F (bounds_row (suc lo))).node ≡ Bounds a b = ap (λ k. (at F k).node) named ∙ bounds_node in
      record {
        low = omega (arith, reach, r.behind);
        rows = bounds_rows;
        from = with_bounds (omega (arith, r.behind)) are_bounds;
        turned = λ on i c f k. elim (cases_lt i mid) [
          | inl g ↦ r.low.turned (subst (TurnedIn F s.region) (sym low_end) (TurnedIn.part on z.within (Turns.index_low node_of_loop node))) i c g k
          | inr g ↦ elim (cases_lt i hi) [
            | inl m ↦ r.high.turned (subst (TurnedIn F s.region) (sym high_end) (TurnedIn.part on z.within (Turns.index_high node_of_loop node))) i g m k
            | inr m ↦ let y : hi ≡ i = omega (arith, r.behind) in
                absurd (false≢true (sym (ap can_be_on bounds_node) ∙ ap (λ j. can_be_on (at F j).node) y ∙ k))
          ]
        ];
        held = λ i c f k. elim (cases_lt i mid) [
          | inl g ↦ in_block-more F i mid lo (omega (arith, high_reach, r.behind)) (r.low.held i c g k)
          | inr g ↦ elim (cases_lt i hi) [
            | inl m ↦ in_block-more F i hi lo (omega (arith, r.behind)) (r.high.held i g m k)
            | inr m ↦ let y : hi ≡ i = omega (arith, r.behind) in
                absurd (false≢true (sym (ap is_statement bounds_node) ∙ ap (λ j. is_statement (at F j).node) y ∙ k))
          ]
        ];
      }

  -- the entry of something that is carried on
  carried_mark : (i place : ℕ) (k : Kind) → at F i ≡ row_in (in_top (suc lo)) place i i (Carried k) → suc lo < i → i ≤ suc lo + 3
      → IsMark F (in_top (suc lo)) (suc lo) e w (suc (suc w)) d n i
  carried_mark i place k row c f = record {
    place = place;
    value = i;
    node = Carried k;
    row = row;
    mark = refl;
    stands = (c, omega (arith, z.many));
    fits = Fits-simple F (in_top (suc lo)) place i i (Carried k) row refl (λ _. refl) (λ a h. absurd h);
  }

  carried_rows : (i : ℕ) → suc lo < i → i ≤ suc lo + 3 → IsMark F (in_top (suc lo)) (suc lo) e w (suc (suc w)) d n i
  carried_rows i c f = elim (cases_lt (suc (suc lo)) i) [
    | inr g ↦ let y : suc (suc lo) ≡ i = omega arith in
        subst (IsMark F (in_top (suc lo)) (suc lo) e w (suc (suc w)) d n) y (carried_mark (suc (suc lo)) q kind.Int r.entry (omega arith) (omega arith))
    | inl g ↦ elim (cases_lt (suc (suc (suc lo))) i) [
      | inr m ↦ let y : suc (suc (suc lo)) ≡ i = omega arith in
          subst (IsMark F (in_top (suc lo)) (suc lo) e w (suc (suc w)) d n) y
          (carried_mark (suc (suc (suc lo))) p kind.Int r.bound (omega arith) (omega arith))
      | inl m ↦ let y : suc (suc (suc (suc lo))) ≡ i = omega arith in
          subst (IsMark F (in_top (suc lo)) (suc lo) e w (suc (suc w)) d n) y
          (carried_mark (suc (suc (suc (suc lo)))) p kind.Bool r.flag_row (omega arith) (omega arith))
    ]
  ]

  are_carried : AreCarried F (suc lo) 3
  are_carried =
      let one : suc lo + 1 ≡ suc (suc lo) = omega arith in
      let two : suc lo + 2 ≡ suc (suc (suc lo)) = omega arith in
      let three : suc lo + 3 ≡ suc (suc (suc (suc lo))) = omega arith in
      an_index (ap (λ k. (at F k).node) one ∙ ap (λ (k : Row). k.node) r.entry) (ap (λ k. (at F k).node) two ∙ ap (λ (k : Row). k.node) r.bound)
      (ap (λ k. (at F k).node) three ∙ ap (λ (k : Row). k.node) r.flag_row)

  -- what is in the place of a predicate
  within_fits : Fits F (in_top (suc lo)) (suc e) (suc e) (suc lo + 3) (Within (suc lo + 3))
  within_fits = record {
    formed = λ c h. absurd h;
    part_stands = λ c h. absurd h;
    operand_is = λ c h. absurd h;
    value_block = λ c h. absurd (false≢true (ap is_block h));
    value_self = λ h. absurd (false≢true h);
    value = λ h. absurd (false≢true h);
    statements = λ h. absurd (false≢true h);
    at_top = λ _. refl;
    heads = λ h. absurd (false≢true h);
    belongs = ap (λ (k : Row). k.value) r.within;
  }

  within_row : RowIs F (in_top (suc lo)) (suc lo) (suc e) (at F (suc e))
  within_row =
      single F s p from lo 3 e (suc e) w (suc (suc w)) (suc (suc (suc (suc w)))) d l n z (in_top (suc lo)) p (suc e) (suc lo + 3) (Within (suc lo + 3)) refl
      r.within (omega (arith, z.many)) (omega (arith, inside, r.before_body)) refl within_fits

  are_test : AreTest F (suc lo) e (suc e) w 3
  are_test =
      let node : (at F (suc e)).node ≡ Within (suc lo + 3) = ap (λ (k : Row). k.node) r.within in
      record {
        is = flag node;
        low = omega arith;
        first = ap (λ (k : Row). k.first) r.within;
        stands = (ap (λ (k : Row). k.block) r.within, ap (λ (k : Row). k.region) r.within);
        rows = λ i c f. let y : suc e ≡ i = same i c f in subst (λ k. RowIs F (in_top (suc lo)) (suc lo) k (at F k)) y within_row;
        behind = λ i c f. let y : suc e ≡ i = same i c f in omega (arith, y, ap (λ k. (at F k).first) y, ap (λ (k : Row). k.first) r.within);
        own = λ i c f _ _. let y : suc e ≡ i = same i c f in
            (ap (λ k. is_within (at F k).node) (sym y) ∙ ap is_within node, omega (arith, y, r.before_body));
        turned = λ i c f k. absurd (false≢true (sym (ap can_be_on node) ∙ ap (λ j. can_be_on (at F j).node) (same i c f) ∙ k));
        held = λ i c f k. absurd (false≢true (sym (ap is_statement node) ∙ ap (λ j. is_statement (at F j).node) (same i c f) ∙ k));
      }
    where
      same : (i : ℕ) → e < i → i < w → suc e ≡ i
      same i c f = omega (arith, r.before_body)

  -- a marker that begins the body
  abbrev Begin : ℕ → Type 0
  Begin i = IsMark F (arm (in_top (suc lo)) w true) (suc lo) e w (suc (suc w)) d n i

  index_fits : Fits F (arm (in_top (suc lo)) w true) (suc (suc (suc w))) (suc (suc (suc w))) (suc (suc (suc w))) (Index x)
  index_fits = record {
    formed = λ c h. absurd h;
    part_stands = λ c h. absurd h;
    operand_is = λ c h. absurd h;
    value_block = λ c h. absurd (false≢true (ap is_block h));
    value_self = λ h. refl;
    value = λ h. absurd (false≢true h);
    statements = λ h. absurd (false≢true h);
    at_top = λ h. absurd (false≢true h);
    heads = λ h. absurd (false≢true h);
    belongs = (suc w, ap (λ (k : Row). k.node) r.count, omega arith);
  }

  begin_rows : (i : ℕ) → w < i → i < suc (suc (suc (suc w))) → Begin i
  begin_rows i c f = elim (cases_lt (suc w) i) [
    | inr g ↦ let y : suc w ≡ i = omega arith in subst Begin y (record {
      place = p;
      value = suc w;
      node = Count;
      row = r.count;
      mark = refl;
      stands = omega arith;
      fits = Fits-simple F (arm (in_top (suc lo)) w true) p (suc w) (suc w) Count r.count refl (λ h. absurd (false≢true h)) (λ a h. absurd h);
    })
    | inl g ↦ elim (cases_lt (suc (suc w)) i) [
      | inr m ↦ let y : suc (suc w) ≡ i = omega arith in subst Begin y (record {
        place = p;
        value = suc (suc w);
        node = Turn;
        row = r.turn;
        mark = refl;
        stands = refl;
        fits = Fits-simple F (arm (in_top (suc lo)) w true) p (suc (suc w)) (suc (suc w)) Turn r.turn refl (λ h. absurd (false≢true h)) (λ a h. absurd h);
      })
      | inl m ↦ let y : suc (suc (suc w)) ≡ i = omega arith in subst Begin y (record {
        place = q;
        value = suc (suc (suc w));
        node = Index x;
        row = r.index;
        mark = refl;
        stands = omega arith;
        fits = index_fits;
      })
    ]
  ]

  is_turn : IsTurn F w (suc (suc w)) 3
  is_turn =
      let one : w + 1 ≡ suc w = omega arith in
      let three : index_row w ≡ suc (suc (suc w)) = omega arith in
      behind_count (omega arith) (ap (λ k. (at F k).node) one ∙ ap (λ (k : Row). k.node) r.count)
      (ap (λ k. (at F k).node) three ∙ ap (λ (k : Row). k.node) r.index)

  have_carried : HaveCarried F n (suc lo) w 3
  have_carried =
      let one : suc lo + 1 ≡ suc (suc lo) = omega arith in
      let two : suc lo + 2 ≡ suc (suc (suc lo)) = omega arith in
      let three : suc lo + 3 ≡ suc (suc (suc (suc lo))) = omega arith in
      let named : suc (suc (suc w)) ≡ index_row w = omega arith in
      let own = sym (ap (λ (k : Row). k.place) z.row) in
      record {
        index = λ _. ap (λ k. (at F k).place) one ∙ ap (λ (k : Row). k.place) r.entry ∙ sym (ap (λ (k : Row). k.place) r.index)
            ∙ ap (λ k. (at F k).place) named;
        bound = λ _. ap (λ k. (at F k).place) two ∙ ap (λ (k : Row). k.place) r.bound ∙ own;
        flag = λ _. ap (λ k. (at F k).place) three ∙ ap (λ (k : Row). k.place) r.flag_row ∙ own;
        within = λ _ i c. let y : i ≡ suc e = omega (arith, r.before_body) in
            ap (λ k. (at F k).place) y ∙ ap (λ (k : Row). k.place) r.within ∙ own;
      }

  -- what a `for` has of its own
  pub for-own : OwnRows F s p from lo 3 e (suc e) w (suc (suc w)) (suc (suc (suc (suc w)))) d n
  for-own = record {
    before = before;
    carried = are_carried;
    carried_rows = carried_rows;
    test = are_test;
    turns = is_turn;
    turn = ap (λ (k : Row). k.node) r.turn;
    turn_rows = begin_rows;
    turn_places = λ i c f. elim (cases_lt (suc w) i) [
      | inr g ↦ let y : i ≡ suc w = omega arith in ap (λ k. (at F k).place) y ∙ ap (λ (k : Row). k.place) r.count
      | inl g ↦ let y : i ≡ suc (suc w) = omega arith in ap (λ k. (at F k).place) y ∙ ap (λ (k : Row). k.place) r.turn
    ];
    places = have_carried;
  }
