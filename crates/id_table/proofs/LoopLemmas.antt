-- What is true of the rows of a loop.
use Rattle.std.proofs.Common.{◌≡◌, inl, inr, ◌<◌, ◌≤◌, ◌+◌, ◌-◌, ℕ, suc, Bool, true, false}
use Rattle.std.proofs.Common.{List, length, refl, sym, ap, ◌∙◌, subst, arith}
use Rattle.std.proofs.lemmas.Bool.{cases_lt, false≢true}
use Rattle.id_table.specs.declared.row.Row.{Row}
use Rattle.id_table.specs.declared.row.Stand.{Stand}
use Rattle.id_table.specs.declared.row.Node.{Node}
use Rattle.id_table.specs.declared.row.Node.TheVariants.{Start, LoopHead, Variable, Entries, Switches, Body, Reset}
use Rattle.id_table.specs.declared.row.Node.TheVariants.{Loop, Block, Span}
use Rattle.id_table.specs.Rows.{arm, arm_at, at, in_top, top}
use Rattle.id_table.specs.Tables.{HasPart, can_be_on, has_statements, is_block, is_expression, is_in_loop, is_loop}
use Rattle.id_table.specs.Tables.{is_next, is_statement, is_switches, is_variable, is_within}
use Rattle.id_table.specs.Loops.{AreEntries, AreLast, AreSwitches, HavePlace, InSide, IsBody, IsLoop, IsLoopOf}
use Rattle.id_table.specs.Loops.{IsNextOf, IsStartOf, StandsAt}
use Rattle.id_table.specs.Regions.{Lies}
use Rattle.id_table.specs.Turns.{IsStatement, Root, TurnedIn, in_block}
use Rattle.id_table.proofs.BlockLemmas.{around-true, in_block-here, in_block-more}
use Rattle.id_table.proofs.HasLemmas.{row_in}
use Rattle.id_table.proofs.RowLemmas.{AreSwitchesOf, Fits, Fits-simple, HeadIn, IsVariableOf, Lies-both, PartIs, RowIs}
use Rattle.id_table.proofs.RowLemmas.{RowIs-fits, RowIs-row, RowIs-within, RowsAre, RowsAre-both, RowsAre-none}
use Rattle.id_table.proofs.RowLemmas.{StandsHere, StandsWithin, gives_own, is_inner, mark_inner, mark_no_next}
use Rattle.id_table.proofs.RowLemmas.{mark_no_statement, mark_off}
use Rattle.id_table.proofs.ExpressionLemmas.{AreExpression, expression-fits, part_of, root_in_body, turns_statement}
use Rattle.id_table.proofs.NextLemmas.{VariableAt, no_inner, no_part}
use Rattle.id_table.proofs.LoopRowsLemmas.{IsMark, LoopRows, OwnRows, stands-next, stands-none, stands-test}

module _ (F : List Row) (s : Stand) (p from lo more e t w turn stated d l n : ℕ) (b : LoopRows F s p from lo more e t w turn stated d l n) where
  entries_low : suc lo + more < e
  entries_low = omega (arith, b.many)

  head_entries : suc lo < e
  head_entries = omega (arith, entries_low)

  head_low : suc lo < w
  head_low = omega (arith, entries_low, b.test_low, b.test_ends)

  entries_before : e < w
  entries_before = omega (arith, b.test_low, b.test_ends)

  turn_before : turn < d
  turn_before = omega (arith, b.begins, b.body.low)

  body_low : suc w < d
  body_low = omega (arith, turn_before, b.turn_low)

  last_low : d < l
  last_low = omega (arith, b.last.low, b.last.ends)

  before_loop : suc (suc l) < n
  before_loop = omega (arith, b.ends)

  head_node : (at F (suc lo)).node ≡ LoopHead lo
  head_node = ap (λ (r : Row). r.node) b.head

  switches_node : (at F w).node ≡ Switches t
  switches_node = ap (λ (r : Row). r.node) b.switches

  pub loop_node : (at F n).node ≡ Loop (suc lo) w l
  loop_node = ap (λ (r : Row). r.node) b.row

  abbrev pub is_loop_of : IsLoopOf F n (suc lo)
  is_loop_of = record { switches = w; last = l; within = b.within; node = loop_node }

  head_in : (mid k : ℕ) → mid ≤ suc lo → suc lo ≤ k → k < n → HeadIn F mid k (suc lo)
  head_in mid k f m q = record {
    low = omega arith;
    high = m;
    start = lo;
    node = head_node;
    row = n;
    loop = is_loop_of;
    before = q;
  }

  -- a row of the loop's block that fits those from its first row on
  own_row : (q : Stand) (place f i v : ℕ) (m : Node) → q.block ≡ suc lo → at F i ≡ row_in q place f v m → suc lo ≤ f → f ≤ i → i < n
      → ((j : ℕ) → f ≤ j → j < i → (f ≤ (at F j).first) × StandsWithin F q j) → is_inner m ≡ true → Fits F q f i v m → RowIs F q (suc lo) i (at F i)
  own_row q place f i v m z x g k less rows inner fits =
      RowIs-row F q place (suc lo) f i v m x g k rows (inr (subst (HeadIn F (suc lo) i) (sym z) (head_in (suc lo) i (omega arith) (omega arith) less))) inner fits

  -- one without parts
  pub single : (q : Stand) (place i v : ℕ) (m : Node) → q.block ≡ suc lo → at F i ≡ row_in q place i v m → suc lo ≤ i → i < n → is_inner m ≡ true
      → Fits F q i i v m → RowIs F q (suc lo) i (at F i)
  single q place i v m z x g k inner fits = own_row q place i i v m z x g (omega arith) k (λ j b c. absurd (omega arith)) inner fits

  module _ (own : OwnRows F s p from lo more e t w turn stated d n) where
    abbrev Mark : Stand → ℕ → Type 0
    Mark q i = IsMark F q (suc lo) e w turn d n i

    -- the loop's region lies where the loop stands, and the sides of its switches lie in it
    lies_top : Lies F s.region (top (suc lo))
    lies_top = Lies.in_loop (omega (arith, head_low, body_low, last_low, before_loop, b.within)) head_node
        (subst (Lies F s.region) (sym (ap (λ (r : Row). r.region) b.start)) Lies.here)

    lies_side : (side : Bool) → Lies F (top (suc lo)) (arm_at w side)
    lies_side side = Lies.in_side (omega (arith, body_low, last_low, before_loop, b.within)) (ap is_switches switches_node)
        (subst (Lies F (top (suc lo))) (sym (ap (λ (r : Row). r.region) b.switches)) Lies.here)

    -- a row whose own row is known stands right in its stand
    stands_of : (k v q f : ℕ) (u : Stand) (m : Node) → at F k ≡ row_in u q f v m → ((at F k).block ≡ u.block) × ((at F k).region ≡ u.region)
    stands_of k v q f u m x = (ap (λ (r : Row). r.block) x, ap (λ (r : Row). r.region) x)

    lies_in : (k v q f : ℕ) (u : Stand) (m : Node) → at F k ≡ row_in u q f v m → Lies F u.region (at F k).region
    lies_in k v q f u m x = subst (Lies F u.region) (sym (ap (λ (r : Row). r.region) x)) Lies.here

    lies_mark : (q : Stand) (i : ℕ) → Mark q i → Lies F q.region (at F i).region
    lies_mark q i k = lies_in i k.value k.place i q k.node k.row

    -- the body
    is_body : IsBody F (suc lo) w turn d more
    is_body =
        let one : suc turn ≡ turn + 1 = omega arith in
        record {
          turns = own.turns;
          turn = own.turn;
          begins = λ i g k. let x = own.turn_rows i g (omega (arith, b.begins)) in stands_of i x.value x.place i (arm (in_top (suc lo)) w true) x.node x.row;
          node = ap (λ (r : Row). r.node) b.body_end;
          low = turn_before;
          first = ap (λ (r : Row). r.first) b.body_end ∙ one;
          block = ap (λ (r : Row). r.block) b.body_end;
          region = ap (λ (r : Row). r.region) b.body_end;
          each = λ i c f. elim (cases_lt i d) [
            | inr g ↦ let z : d ≡ i = omega arith in
                subst (λ k. Lies F (arm_at w true) (at F k).region) z (lies_in d d p (suc turn) (arm (in_top (suc lo)) w true) Body b.body_end)
            | inl g ↦ elim (cases_lt i stated) [
              | inl k ↦ lies_mark (arm (in_top (suc lo)) w true) i (own.turn_rows i c k)
              | inr k ↦ (b.body.rows i k g).lies
            ]
          ];
        }

    -- a row that stands in the loop's region stands where the loop does, or further in
    top_row : (mid k : ℕ) → lo ≤ mid → suc lo ≤ k → k < n → RowIs F (in_top (suc lo)) mid k (at F k) → RowIs F s lo k (at F k)
    top_row mid k m q u h =
        RowIs-within F s (in_top (suc lo)) lo mid k (at F k) m (inr (head_in lo k (omega arith) q u)) lies_top (λ x. inr (inl (x.0 ∙ ap top (sym x.1)))) h

    -- and so does one in a side of its switches
    side_row : (side : Bool) (mid k : ℕ) → lo ≤ mid → suc lo ≤ k → k < n → InSide w d n side k → RowIs F (arm (in_top (suc lo)) w side) mid k (at F k)
        → RowIs F s lo k (at F k)
    side_row side mid k m q u among h =
        RowIs-within F s (arm (in_top (suc lo)) w side) lo mid k (at F k) m (inr (head_in lo k (omega arith) q u)) (Lies-both F lies_top (lies_side side))
        (λ x. inr (inr (inr (record {
          side = side;
          body = d;
          row = n;
          turn = turn;
          carried = more;
          loop = record { switches = w; last = l; within = b.within; node = loop_node ∙ ap (λ g. Loop g w l) (sym x.1) };
          region = x.0;
          body_is = subst (λ g. IsBody F g w turn d more) (sym x.1) is_body;
          among = among;
        })))) h

    -- each row between what is carried on and the entries is a variable's
    variable_at : (i : ℕ) → suc lo + more < i → i < e → VariableAt F (suc lo) i
    variable_at i c f =
        let z : suc lo + 1 + (i - suc (suc lo)) ≡ i = omega arith in
        subst (VariableAt F (suc lo)) z (b.variable (i - suc (suc lo)) (omega arith) (omega (arith, b.many)))

    -- the rows up to the entries stand right in the loop's region
    entries_stand : (i : ℕ) → suc lo ≤ i → i ≤ e → ((at F i).block ≡ suc lo) × ((at F i).region ≡ top (suc lo))
    entries_stand i c f = elim (cases_lt (suc lo) i) [
      | inr g ↦ let z : suc lo ≡ i = omega arith in
          subst (λ k. ((at F k).block ≡ suc lo) × ((at F k).region ≡ top (suc lo))) z
          (stands_of (suc lo) (suc lo) p (suc lo) (in_top (suc lo)) (LoopHead lo) b.head)
      | inl g ↦ elim (cases_lt (suc lo + more) i) [
        | inr k ↦ let x = own.carried_rows i g k in stands_of i x.value x.place i (in_top (suc lo)) x.node x.row
        | inl k ↦ elim (cases_lt i e) [
          | inl m ↦ let v = variable_at i k m in stands_of i i v.0 i (in_top (suc lo)) Variable v.1
          | inr m ↦ let z : e ≡ i = omega arith in
              subst (λ k. ((at F k).block ≡ suc lo) × ((at F k).region ≡ top (suc lo))) z (stands_of e e p e (in_top (suc lo)) Entries b.entries)
        ]
      ]
    ]

    are_entries : AreEntries F (suc lo) e more
    are_entries =
        let z : lo ≡ suc lo - 1 = omega arith in
        record {
          head = head_node ∙ ap (λ k. LoopHead k) z;
          low = entries_low;
          entries = ap (λ (r : Row). r.node) b.entries;
          carried = own.carried;
          variable = λ i c f. ap (λ (r : Row). is_variable r.node) (variable_at i c f).1;
          stands = entries_stand;
        }

    are_switches : AreSwitches F (suc lo) e w more
    are_switches =
        let one : suc e ≡ e + 1 = omega arith in
        record {
          test = t;
          node = switches_node;
          test_is = own.test.is;
          behind = omega (arith, b.test_ends);
          low = b.test_low;
          test_first = own.test.first ∙ one;
          block = ap (λ (r : Row). r.block) b.switches;
          region = ap (λ (r : Row). r.region) b.switches;
          each = λ i c f. elim (cases_lt e i) [
            | inr g ↦ subst (Lies F (top (suc lo))) (sym (entries_stand i c g).1) Lies.here
            | inl g ↦ elim (cases_lt i w) [
              | inl k ↦ (own.test.rows i g k).lies
              | inr k ↦ let z : w ≡ i = omega arith in
                  subst (λ k. Lies F (top (suc lo)) (at F k).region) z (lies_in w w p (suc e) (in_top (suc lo)) (Switches t) b.switches)
            ]
          ];
        }

    are_last : AreLast F lo (suc lo) w d l n
    are_last =
        let same : b.last.end ≡ l = omega (arith, b.last.ends) in
        let one : suc d ≡ d + 1 = omega arith in
        let two : l + 1 ≡ suc l = omega arith in
        let three : l + 2 ≡ suc (suc l) = omega arith in
        record {
          low = last_low;
          first = ap (λ k. (at F k).first) (sym same) ∙ b.last.first ∙ one;
          node = ap (λ k. (at F k).node) two ∙ ap (λ (r : Row). r.node) b.reset;
          span = ap (λ k. (at F k).node) three ∙ ap (λ (r : Row). r.node) b.span;
          span_first = ap (λ k. (at F k).first) three ∙ ap (λ (r : Row). r.first) b.span;
          span_beside = record {
            place = ap (λ k. (at F k).place) three ∙ ap (λ (r : Row). r.place) b.span ∙ sym (ap (λ (r : Row). r.place) b.row);
            block = ap (λ k. (at F k).block) three ∙ ap (λ (r : Row). r.block) b.span ∙ sym (ap (λ (r : Row). r.block) b.row);
            region = ap (λ k. (at F k).region) three ∙ ap (λ (r : Row). r.region) b.span ∙ sym (ap (λ (r : Row). r.region) b.row);
          };
          ends = omega (arith, b.ends);
          block = ap (λ k. (at F k).block) (sym same) ∙ b.last.block;
          region = ap (λ k. (at F k).region) (sym same) ∙ b.last.region;
          each = λ i c f. elim (cases_lt i (suc l)) [
            | inl g ↦ (b.last.rows i c g).lies
            | inr g ↦ let z : suc l ≡ i = omega (arith, b.ends) in
                subst (λ k. Lies F (arm_at w false) (at F k).region) z (lies_in (suc l) (suc l) p (suc d) (arm (in_top (suc lo)) w false) (Reset l) b.reset)
          ];
        }

    -- what is true of each part of a loop's rows is true of each of them
    by_part : (P : ℕ → Type 0) → P lo → P (suc lo) → ((i : ℕ) → suc lo < i → i ≤ suc lo + more → P i) → ((i : ℕ) → suc lo + more < i → i < e → P i) → P e
        → ((i : ℕ) → e < i → i < w → P i) → P w → ((i : ℕ) → w < i → i < stated → P i)
        → ((i : ℕ) → stated ≤ i → i < d → P i) → P d → ((i : ℕ) → d < i → i < suc l → P i) → P (suc l) → P (suc (suc l)) → (i : ℕ) → lo ≤ i → i < n → P i
    by_part P start head carried variables entries test switches turns body end last reset span i c f =
        apart lo (λ g. absurd (omega arith)) start
        (λ g. apart (suc lo) (λ k. absurd (omega arith)) head
        (λ g. elim (cases_lt (suc lo + more) i) [
          | inr k ↦ carried i g k
          | inl k ↦ apart e (λ q. variables i k q) entries
              (λ q. apart w (λ v. test i q v) switches
              (λ v. elim (cases_lt i stated) [
                | inl y ↦ turns i v y
                | inr y ↦ apart d (λ x. body i y x) end
                    (λ x. apart (suc l) (λ z. last i x z) reset
                    (λ x. apart (suc (suc l)) (λ z. absurd (omega arith)) span (λ z. absurd (omega (arith, b.ends)))))
              ]))
        ]))
      where
        apart : (a : ℕ) → (i < a → P i) → P a → (a < i → P i) → P i
        apart a below here above = elim (cases_lt i a) [
          | inl k ↦ below k
          | inr k ↦ elim (cases_lt a i) [ inl m ↦ above m | inr m ↦ let z : a ≡ i = omega arith in subst P z here ]
        ]

    -- a row of which a test is false passes it nowhere
    fails : (f : Node → Bool) (i : ℕ) (m : Node) → (at F i).node ≡ m → f m ≡ false → f (at F i).node ≡ true → ⊥
    fails f i m e off on = false≢true (sym off ∙ sym (ap f e) ∙ on)

    start_node : (at F lo).node ≡ Start
    start_node = ap (λ (r : Row). r.node) b.start

    entries_node : (at F e).node ≡ Entries
    entries_node = ap (λ (r : Row). r.node) b.entries

    body_node : (at F d).node ≡ Body
    body_node = ap (λ (r : Row). r.node) b.body_end

    reset_node : (at F (suc l)).node ≡ Reset l
    reset_node = ap (λ (r : Row). r.node) b.reset

    span_node : (at F (suc (suc l))).node ≡ Span
    span_node = ap (λ (r : Row). r.node) b.span

    variable_node : (i : ℕ) → suc lo + more < i → i < e → (at F i).node ≡ Variable
    variable_node i c f = ap (λ (r : Row). r.node) (variable_at i c f).1

    mark_node : (q : Stand) (i : ℕ) (k : Mark q i) → (at F i).node ≡ k.node
    mark_node q i k = ap (λ (r : Row). r.node) k.row

    no_block : (m : Node) (c : ℕ) → is_block m ≡ false → m ≡ Block c → ⊥
    no_block m c e h = false≢true (sym e ∙ ap is_block h)

    -- a row of the loop's block without parts
    head_fits : Fits F (in_top (suc lo)) (suc lo) (suc lo) (suc lo) (LoopHead lo)
    head_fits = record {
      formed = λ a h. absurd h;
      part_stands = λ a h. absurd h;
      operand_is = λ a h. absurd h;
      value_block = λ c h. absurd (no_block (LoopHead lo) c refl h);
      value_self = λ h. refl;
      value = λ h. absurd (false≢true h);
      statements = λ h. absurd (false≢true h);
      at_top = λ _. refl;
      heads = λ _. refl;
      belongs = (n, is_loop_of);
    }

    variable_of : (i : ℕ) → suc lo + more < i → i < e → IsVariableOf F i
    variable_of i c f =
        let block : (at F i).block ≡ suc lo = ap (λ (r : Row). r.block) (variable_at i c f).1 in
        let k = i - suc (suc lo) in
        let z = b.body.each k (omega arith) (omega (arith, b.many)) in
        record {
          row = z.0;
          index = k;
          name = z.1;
          next = subst (λ g. IsNextOf F z.0 g k z.1) (sym block) z.2;
          own = omega (arith, block);
        }

    variable_fits : (i : ℕ) → suc lo + more < i → i < e → Fits F (in_top (suc lo)) i i i Variable
    variable_fits i c f = record {
      formed = λ a h. absurd h;
      part_stands = λ a h. absurd h;
      operand_is = λ a h. absurd h;
      value_block = λ c h. absurd (no_block Variable c refl h);
      value_self = λ h. refl;
      value = λ h. absurd (false≢true h);
      statements = λ h. absurd (false≢true h);
      at_top = λ _. refl;
      heads = λ h. absurd (false≢true h);
      belongs = variable_of i c f;
    }

    switches_of : AreSwitchesOf F w
    switches_of =
        let block : (at F w).block ≡ suc lo = ap (λ (r : Row). r.block) b.switches in
        let z : (q : IsLoopOf F n (at F w).block) × (q.switches ≡ w) = subst (λ g. (q : IsLoopOf F n g) × (q.switches ≡ w)) (sym block) (is_loop_of, refl) in
        record { loop = n; of = z.0; own = z.1 }

    switches_fits : Fits F (in_top (suc lo)) (suc e) w w (Switches t)
    switches_fits = record {
      formed = λ a h. subst (λ k. (suc e ≤ k) × (k < w)) (sym h) (b.test_low, omega (arith, b.test_ends));
      part_stands = λ a h. subst (StandsHere F (in_top (suc lo))) (sym h) own.test.stands;
      operand_is = λ a h. absurd h;
      value_block = λ c h. absurd (no_block (Switches t) c refl h);
      value_self = λ h. refl;
      value = λ h. absurd (false≢true h);
      statements = λ h. absurd (false≢true h);
      at_top = λ _. refl;
      heads = λ h. absurd (false≢true h);
      belongs = switches_of;
    }

    body_fits : Fits F (arm (in_top (suc lo)) w true) (suc turn) d d Body
    body_fits = record {
      formed = λ a h. absurd h;
      part_stands = λ a h. absurd h;
      operand_is = λ a h. absurd h;
      value_block = λ c h. absurd (no_block Body c refl h);
      value_self = λ h. refl;
      value = λ h. absurd (false≢true h);
      statements = λ _ i c f k free. elim (cases_lt i stated) [
        | inl y ↦ let x = own.turn_rows i (omega (arith, b.turn_low)) y in
            absurd (fails is_statement i x.node (mark_node (arm (in_top (suc lo)) w true) i x) (mark_no_statement x.node x.mark) k)
        | inr y ↦ elim (b.body.held i y f k) [ inl z ↦ z | inr z ↦ absurd (false≢true (sym free ∙ z)) ]
      ];
      at_top = λ h. absurd (false≢true h);
      heads = λ h. absurd (false≢true h);
      belongs = tt;
    }

    start_fits : Fits F s lo lo lo Start
    start_fits =
        let z : suc lo ≡ lo + 1 = omega arith in
        record {
          formed = λ a h. absurd h;
          part_stands = λ a h. absurd h;
          operand_is = λ a h. absurd h;
          value_block = λ c h. absurd (no_block Start c refl h);
          value_self = λ h. refl;
          value = λ h. absurd (false≢true h);
          statements = λ h. absurd (false≢true h);
          at_top = λ h. absurd (false≢true h);
          heads = λ h. absurd (false≢true h);
          belongs = (n, subst (IsLoopOf F n) z is_loop_of);
        }

    span_fits : Fits F s lo (suc (suc l)) (suc (suc l)) Span
    span_fits =
        let z : suc (suc l) + 1 ≡ n = omega (arith, b.ends) in
        record {
          formed = λ a h. absurd h;
          part_stands = λ a h. absurd h;
          operand_is = λ a h. absurd h;
          value_block = λ c h. absurd (no_block Span c refl h);
          value_self = λ h. refl;
          value = λ h. absurd (false≢true h);
          statements = λ h. absurd (false≢true h);
          at_top = λ h. absurd (false≢true h);
          heads = λ h. absurd (false≢true h);
          belongs = (n, suc lo, is_loop_of, z);
        }

    mark_row : (q : Stand) (i : ℕ) → q.block ≡ suc lo → suc lo ≤ i → i < n → Mark q i → RowIs F q (suc lo) i (at F i)
    mark_row q i z g k x = single q x.place i x.value x.node z x.row g k (mark_inner x.node x.mark) x.fits

    -- each row of the body of a loop from the `Turn` on stands there
    body_row : (j : ℕ) → suc turn ≤ j → j < d → (suc turn ≤ (at F j).first) × StandsWithin F (arm (in_top (suc lo)) w true) j
    body_row j c f = elim (cases_lt j stated) [
      | inl k ↦ let x = own.turn_rows j (omega (arith, b.turn_low)) k in
          (omega (arith, ap (λ (r : Row). r.first) x.row), lies_mark (arm (in_top (suc lo)) w true) j x)
      | inr k ↦ (omega (arith, b.begins, b.body.first j k f), (b.body.rows j k f).lies)
    ]

    inner_row : (i : ℕ) → lo ≤ i → i < n → i < suc (suc l) → RowIs F s lo i (at F i)
    inner_row = by_part (λ i. i < suc (suc l) → RowIs F s lo i (at F i)) (λ _. start_row) (λ _. head_row) (λ i c f _. carried_row i c f)
        (λ i c f _. variable_row i c f) (λ _. entries_row) (λ i c f _. test_row i c f) (λ _. switches_row) (λ i c f _. turn_row i c f)
        (λ i c f _. statement_row i c f) (λ _. end_row) (λ i c f _. last_row i c f) (λ _. reset_row) (λ h. absurd (omega arith))
      where
        start_row : RowIs F s lo lo (at F lo)
        start_row = RowIs-fits F s p lo lo lo Start b.start (omega arith) (RowsAre-none F s lo) refl start_fits

        head_row : RowIs F s lo (suc lo) (at F (suc lo))
        head_row =
            let within : suc lo < n = omega (arith, head_low, body_low, last_low, before_loop) in
            top_row (suc lo) (suc lo) (omega arith) (omega arith) within
            (single (in_top (suc lo)) p (suc lo) (suc lo) (LoopHead lo) refl b.head (omega arith) within refl head_fits)

        carried_row : (i : ℕ) → suc lo < i → i ≤ suc lo + more → RowIs F s lo i (at F i)
        carried_row i c f =
            let within : i < n = omega (arith, entries_low, entries_before, body_low, last_low, before_loop) in
            top_row (suc lo) i (omega arith) (omega arith) within (mark_row (in_top (suc lo)) i refl (omega arith) within (own.carried_rows i c f))

        variable_row : (i : ℕ) → suc lo + more < i → i < e → RowIs F s lo i (at F i)
        variable_row i c f =
            let v = variable_at i c f in
            let within : i < n = omega (arith, entries_before, body_low, last_low, before_loop) in
            top_row (suc lo) i (omega arith) (omega arith) within
            (single (in_top (suc lo)) v.0 i i Variable refl v.1 (omega arith) within refl (variable_fits i c f))

        entries_row : RowIs F s lo e (at F e)
        entries_row =
            let within : e < n = omega (arith, entries_before, body_low, last_low, before_loop) in
            top_row (suc lo) e (omega arith) (omega (arith, head_entries)) within
            (single (in_top (suc lo)) p e e Entries refl b.entries (omega (arith, head_entries)) within refl
            (Fits-simple F (in_top (suc lo)) p e e Entries b.entries refl (λ _. refl) (λ a h. absurd h)))

        test_row : (i : ℕ) → e < i → i < w → RowIs F s lo i (at F i)
        test_row i c f =
            let within : i < n = omega (arith, body_low, last_low, before_loop) in
            top_row (suc lo) i (omega arith) (omega (arith, head_entries)) within (own.test.rows i c f)

        switches_row : RowIs F s lo w (at F w)
        switches_row =
            let within : w < n = omega (arith, body_low, last_low, before_loop) in
            top_row (suc lo) w (omega arith) (omega (arith, head_low)) within
            (own_row (in_top (suc lo)) p (suc e) w w (Switches t) refl b.switches (omega (arith, head_entries)) entries_before within
            (λ j c f. (own.test.behind j c f, (own.test.rows j c f).lies)) refl switches_fits)

        turn_row : (i : ℕ) → w < i → i < stated → RowIs F s lo i (at F i)
        turn_row i c f =
            let within : i < d = omega (arith, b.body.low) in
            side_row true (suc lo) i (omega arith) (omega (arith, head_low)) (omega (arith, last_low, before_loop)) (c, omega arith)
            (mark_row (arm (in_top (suc lo)) w true) i refl (omega (arith, head_low)) (omega (arith, last_low, before_loop)) (own.turn_rows i c f))

        statement_row : (i : ℕ) → stated ≤ i → i < d → RowIs F s lo i (at F i)
        statement_row i c f =
            let behind : w < i = omega (arith, b.turn_low, b.begins) in
            side_row true (suc lo) i (omega arith) (omega (arith, head_low)) (omega (arith, last_low, before_loop)) (behind, omega arith) (b.body.rows i c f)

        end_row : RowIs F s lo d (at F d)
        end_row =
            let within : d < n = omega (arith, last_low, before_loop) in
            side_row true (suc lo) d (omega arith) (omega (arith, head_low, body_low)) within (omega (arith, body_low), omega arith)
            (own_row (arm (in_top (suc lo)) w true) p (suc turn) d d Body refl b.body_end (omega (arith, head_low, b.turn_low)) turn_before within
            body_row refl body_fits)

        last_row : (i : ℕ) → d < i → i < suc l → RowIs F s lo i (at F i)
        last_row i c f = side_row false (suc d) i (omega (arith, head_low, body_low)) (omega (arith, head_low, body_low)) (omega (arith, before_loop))
            (c, omega (arith, before_loop)) (b.last.rows i c f)

        reset_row : RowIs F s lo (suc l) (at F (suc l))
        reset_row =
            let u = arm (in_top (suc lo)) w false in
            side_row false (suc lo) (suc l) (omega arith) (omega (arith, head_low, body_low, last_low)) (omega (arith, before_loop))
            (omega (arith, last_low), omega (arith, before_loop))
            (own_row u p (suc d) (suc l) (suc l) (Reset l) refl b.reset (omega (arith, head_low, body_low)) (omega (arith, last_low)) (omega (arith, before_loop))
            (λ j c f. ((b.last.rows j c f).low, (b.last.rows j c f).lies)) refl
            (Fits-simple F u p (suc d) (suc l) (Reset l) b.reset refl (λ h. absurd (false≢true h))
            (λ a h. subst (PartIs F u (suc d) (suc l)) (sym h) (part_of F u (suc d) (suc l) l b.last refl))))

    span_row : RowIs F s lo (suc (suc l)) (at F (suc (suc l)))
    span_row =
        RowIs-row F s p lo lo (suc (suc l)) (suc (suc l)) Span b.span (omega arith) (omega (arith, head_low, body_low, last_low))
        (λ j c f. let r = inner_row j c (omega (arith, before_loop)) f in (r.low, r.lies)) (inl refl) refl span_fits

    rows_inside : RowsAre F s lo n
    rows_inside i c f = elim (cases_lt i (suc (suc l))) [
      | inl g ↦ inner_row i c f g
      | inr g ↦ let z : suc (suc l) ≡ i = omega (arith, b.ends) in subst (λ k. RowIs F s lo k (at F k)) z span_row
    ]

    rows_before : RowsAre F s from n
    rows_before = RowsAre-both F s from lo n own.before.low own.before.rows rows_inside

    -- each row behind the head and before the `Span` begins behind it
    begins_behind : (i : ℕ) → suc lo < i → i < n → i < suc (suc l) → suc lo < (at F i).first
    begins_behind i c f g = by_part (λ k. suc lo < k → k < suc (suc l) → suc lo < (at F k).first) (λ m _. absurd (omega arith)) (λ m _. absurd (omega arith))
        (λ k g h _ _. omega (arith, g, ap (λ (r : Row). r.first) (own.carried_rows k g h).row))
        (λ k g h _ _. omega (arith, g, ap (λ (r : Row). r.first) (variable_at k g h).1))
        (λ _ _. omega (arith, head_entries, ap (λ (r : Row). r.first) b.entries))
        (λ k g h _ _. omega (arith, head_entries, own.test.behind k g h))
        (λ _ _. omega (arith, head_entries, ap (λ (r : Row). r.first) b.switches))
        (λ k g h _ _. omega (arith, head_low, g, ap (λ (r : Row). r.first) (own.turn_rows k g h).row))
        (λ k g h _ _. omega (arith, head_low, b.turn_low, b.begins, b.body.first k g h))
        (λ _ _. omega (arith, head_low, b.turn_low, ap (λ (r : Row). r.first) b.body_end))
        (λ k g h _ _. omega (arith, head_low, body_low, (b.last.rows k g h).low))
        (λ _ _. omega (arith, head_low, body_low, ap (λ (r : Row). r.first) b.reset)) (λ _ m. absurd (omega arith)) i (omega arith) f c g

    -- each of those is of the loop's block or of one behind its head
    in_blocks : (i : ℕ) → suc lo ≤ i → i + 1 < n → suc lo ≤ (at F i).block
    in_blocks i c f = by_part (λ k. suc lo ≤ k → k + 1 < n → suc lo ≤ (at F k).block) (λ m _. absurd (omega arith))
        (λ _ _. omega (arith, ap (λ (r : Row). r.block) b.head))
        (λ k g h _ _. omega (arith, ap (λ (r : Row). r.block) (own.carried_rows k g h).row))
        (λ k g h _ _. omega (arith, ap (λ (r : Row). r.block) (variable_at k g h).1))
        (λ _ _. omega (arith, ap (λ (r : Row). r.block) b.entries))
        (λ k g h _ _. of_row (suc lo) k (in_top (suc lo)) (omega arith) refl (own.test.rows k g h))
        (λ _ _. omega (arith, ap (λ (r : Row). r.block) b.switches))
        (λ k g h _ _. omega (arith, ap (λ (r : Row). r.block) (own.turn_rows k g h).row))
        (λ k g h _ _. of_row (suc lo) k (arm (in_top (suc lo)) w true) (omega arith) refl (b.body.rows k g h))
        (λ _ _. omega (arith, ap (λ (r : Row). r.block) b.body_end))
        (λ k g h _ _. of_row (suc d) k (arm (in_top (suc lo)) w false) (omega (arith, head_low, body_low)) refl (b.last.rows k g h))
        (λ _ _. omega (arith, ap (λ (r : Row). r.block) b.reset)) (λ _ m. absurd (omega (arith, b.ends))) i (omega arith) (omega arith) c f
      where
        of_row : (mid k : ℕ) (u : Stand) → suc lo ≤ mid → u.block ≡ suc lo → RowIs F u mid k (at F k) → suc lo ≤ (at F k).block
        of_row mid k u l q r = elim r.block [ inl z ↦ omega (arith, z.0, q) | inr z ↦ omega (arith, z.low) ]

    -- a `next` statement of the loop stands right in its body
    next_here : (i k x : ℕ) → lo ≤ i → i < n → IsNextOf F i (suc lo) k x → (stated ≤ i) × (i < d)
    next_here i k x c f = by_part (λ j. IsNextOf F j (suc lo) k x → (stated ≤ j) × (j < d))
        (no_next lo Start start_node refl) (no_next (suc lo) (LoopHead lo) head_node refl)
        (λ j g h. no_mark (in_top (suc lo)) j (own.carried_rows j g h))
        (λ j g h. no_next j Variable (variable_node j g h) refl)
        (no_next e Entries entries_node refl)
        (λ j g h m. let z = own.test.own j g h m.block (ap is_in_loop m.node) in absurd (false≢true (sym (ap is_within m.node) ∙ z.0)))
        (no_next w (Switches t) switches_node refl)
        (λ j g h. no_mark (arm (in_top (suc lo)) w true) j (own.turn_rows j g h)) (λ j g h _. (g, h)) (no_next d Body body_node refl)
        (λ j g h m. absurd (no_inner F (arm (in_top (suc lo)) w false) (suc d) j k x (omega (arith, head_low, body_low)) (b.last.rows j g h) m))
        (no_next (suc l) (Reset l) reset_node refl) (no_next (suc (suc l)) Span span_node refl) i c f
      where
        no_next : (j : ℕ) (m : Node) → (at F j).node ≡ m → is_next m ≡ false → IsNextOf F j (suc lo) k x → (stated ≤ j) × (j < d)
        no_next j m e off q = absurd (fails is_next j m e off (ap is_next q.node))

        no_mark : (q : Stand) (j : ℕ) → Mark q j → IsNextOf F j (suc lo) k x → (stated ≤ j) × (j < d)
        no_mark q j y = no_next j y.node (mark_node q j y) (mark_no_next y.node y.mark)

    -- and each row of the loop's block stands where it ought to
    stands_at : (i : ℕ) → suc lo ≤ i → i + 1 < n → (at F i).block ≡ suc lo → StandsAt (suc lo) e w turn d n (at F i).node i
    stands_at i c f = by_part (λ j. suc lo ≤ j → j + 1 < n → (at F j).block ≡ suc lo → StandsAt (suc lo) e w turn d n (at F j).node j)
        (λ g _. absurd (omega arith))
        (λ _ _ _. here (suc lo) (LoopHead lo) head_node refl)
        (λ j g h _ _ _. marked (in_top (suc lo)) j (own.carried_rows j g h))
        (λ j g h _ _ _. here j Variable (variable_node j g h) (omega arith, h))
        (λ _ _ _. here e Entries entries_node refl)
        (λ j g h _ _ z. stands-test (suc lo) e w turn d n j (at F j).node (own.test.own j g h z))
        (λ _ _ _. here w (Switches t) switches_node refl)
        (λ j g h _ _ _. marked (arm (in_top (suc lo)) w true) j (own.turn_rows j g h))
        (λ j g h _ _ z. stands-next (suc lo) e w turn d n j (at F j).node (omega (arith, b.begins)) h (b.body.parts j g h z))
        (λ _ _ _. here d Body body_node refl)
        (λ j g h _ _ z. stands-none (suc lo) e w turn d n j (at F j).node
        (no_part F (arm (in_top (suc lo)) w false) (suc d) j (omega (arith, head_low, body_low)) (b.last.rows j g h) z))
        (λ _ _ _. here (suc l) (Reset l) reset_node (omega (arith, b.ends))) (λ _ m _. absurd (omega (arith, b.ends))) i (omega arith) (omega arith) c f
      where
        here : (j : ℕ) (m : Node) → (at F j).node ≡ m → StandsAt (suc lo) e w turn d n m j → StandsAt (suc lo) e w turn d n (at F j).node j
        here j m q x = subst (λ k. StandsAt (suc lo) e w turn d n k j) (sym q) x

        marked : (q : Stand) (j : ℕ) → Mark q j → StandsAt (suc lo) e w turn d n (at F j).node j
        marked q j y = here j y.node (mark_node q j y) y.stands

    start_of : IsStartOf F lo n
    start_of = record {
      node = start_node;
      own = ap (λ (r : Row). r.first) b.start;
      beside = record {
        place = ap (λ (r : Row). r.place) b.start ∙ sym (ap (λ (r : Row). r.place) b.row);
        block = ap (λ (r : Row). r.block) b.start ∙ sym (ap (λ (r : Row). r.block) b.row);
        region = ap (λ (r : Row). r.region) b.start ∙ sym (ap (λ (r : Row). r.region) b.row);
      };
    }

    -- its markers have its place
    have_place : HavePlace F n (suc lo) e w turn d
    have_place =
        let same = sym (ap (λ (r : Row). r.place) b.row) in
        record {
          head = ap (λ (r : Row). r.place) b.head ∙ same;
          entries = ap (λ (r : Row). r.place) b.entries ∙ same;
          switches = ap (λ (r : Row). r.place) b.switches ∙ same;
          begins = λ i g k. own.turn_places i g k ∙ same;
          body = ap (λ (r : Row). r.place) b.body_end ∙ same;
          reset = λ i q.
              let here : suc l ≡ i = omega (arith, q, b.ends) in
              subst (λ k. (at F k).place ≡ (at F n).place) here (ap (λ (r : Row). r.place) b.reset ∙ same);
        }

    is_loop_at : IsLoop F n (suc lo) w l
    is_loop_at = record {
      start = lo;
      entries = e;
      turn = turn;
      body = d;
      carried = more;
      begins = omega arith;
      from = own.before.from;
      start_of = start_of;
      before_test = are_entries;
      test = are_switches;
      body_is = is_body;
      last_is = are_last;
      blocks = in_blocks;
      stands = stands_at;
      place = have_place;
      place_carried = own.places;
      alone = λ j v m c f h. elim (cases_lt j (suc (suc l))) [
        | inl k ↦
            let z = (rows_inside j (omega arith) f).fits.formed (suc lo) (subst (λ q. HasPart q (suc lo)) (sym h) (inl refl)) in
            omega (arith, z.0, begins_behind j c f k)
        | inr k ↦ let z : suc (suc l) ≡ j = omega (arith, b.ends) in
            false≢true (sym (ap is_loop span_node) ∙ ap (λ q. is_loop (at F q).node) z ∙ ap is_loop h)
      ];
      once = λ j m k x y c f c' f' h h'.
          let z = next_here j k x (omega arith) f h in
          let z' = next_here m k y (omega arith) f' h' in
          b.body.once j m k x y z.0 z.1 z'.0 z'.1 h h';
    }

    loop_fits : Fits F s from n n (Loop (suc lo) w l)
    loop_fits =
        let same : b.last.end ≡ l = omega (arith, b.last.ends) in
        let low : from ≤ lo = own.before.low in
        record {
          formed = λ a h. elim h [
            | inl z ↦ (omega (arith, z, low), omega (arith, z, head_low, body_low, last_low, before_loop))
            | inr q ↦ elim q [
              | inl z ↦ (omega (arith, z, low, head_low), omega (arith, z, body_low, last_low, before_loop))
              | inr z ↦ (omega (arith, z, low, head_low, body_low, last_low), omega (arith, z, before_loop))
            ]
          ];
          part_stands = λ a h. absurd h;
          operand_is = λ a h. ap (λ k. is_expression (at F k).node) (h ∙ sym same) ∙ b.last.expression;
          value_block = λ c h. absurd (no_block (Loop (suc lo) w l) c refl h);
          value_self = λ h. refl;
          value = λ h. gives_own F s p from n (Loop (suc lo) w l) b.row refl refl;
          statements = λ h. absurd (false≢true h);
          at_top = λ h. absurd (false≢true h);
          heads = λ h. absurd (false≢true h);
          belongs = is_loop_at;
        }

    -- the expressions and stores of a loop are turned on with its regions
    turned_before : (j : ℕ) → lo ≤ j → j < n → can_be_on (at F j).node ≡ true → TurnedIn F (at F j).region j
    turned_before = by_part (λ j. can_be_on (at F j).node ≡ true → TurnedIn F (at F j).region j)
        (none lo Start start_node refl) (none (suc lo) (LoopHead lo) head_node refl) (λ j g h. no_mark (in_top (suc lo)) j (own.carried_rows j g h))
        (λ j g h. none j Variable (variable_node j g h) refl)
        (none e Entries entries_node refl) own.test.turned (none w (Switches t) switches_node refl)
        (λ j g h. no_mark (arm (in_top (suc lo)) w true) j (own.turn_rows j g h)) body_on
        (none d Body body_node refl) last_on (none (suc l) (Reset l) reset_node refl) (none (suc (suc l)) Span span_node refl)
      where
        none : (j : ℕ) (m : Node) → (at F j).node ≡ m → can_be_on m ≡ false → can_be_on (at F j).node ≡ true → TurnedIn F (at F j).region j
        none j m e off q = absurd (fails can_be_on j m e off q)

        no_mark : (q : Stand) (j : ℕ) → Mark q j → can_be_on (at F j).node ≡ true → TurnedIn F (at F j).region j
        no_mark q j y = none j y.node (mark_node q j y) (mark_off y.node y.mark)

        within : (j : ℕ) → j < n → j < length F
        within j f = omega (arith, b.within)

        last_on : (j : ℕ) → d < j → j < suc l → can_be_on (at F j).node ≡ true → TurnedIn F (at F j).region j
        last_on j g h k =
            let same : l ≡ b.last.end = omega (arith, b.last.ends) in
            b.last.turned (subst (TurnedIn F (arm_at w false)) same (TurnedIn.root (Root.of_last b.within loop_node))) j g h k

        body_on : (j : ℕ) → stated ≤ j → j < d → can_be_on (at F j).node ≡ true → TurnedIn F (at F j).region j
        body_on j g h k = elim (b.body.turned j g h k) [
          | inr on ↦ on
          | inl by ↦
              let region : (at F d).region ≡ arm_at w true = ap (λ (r : Row). r.region) b.body_end in
              let first : (at F d).first ≡ suc turn = ap (λ (r : Row). r.first) b.body_end in
              let is : IsStatement F d by.row = record {
                block = ap has_statements body_node;
                statement = turns_statement F by.row by.value by.statement;
                inside = around-true F d by.row (omega (arith, first, by.low, b.begins)) by.before;
                right = by.free;
              } in
              let on = TurnedIn.root (root_in_body F d by.row by.value (within d (omega (arith, last_low, before_loop))) body_node is by.statement) in
              by.turned (subst (λ r. TurnedIn F r by.value) region on)
        ]

    held_inside : (j : ℕ) → lo ≤ j → j < n → is_statement (at F j).node ≡ true → in_block F j (suc n) ≡ true
    held_inside = by_part (λ j. is_statement (at F j).node ≡ true → in_block F j (suc n) ≡ true)
        (none lo Start start_node refl) (none (suc lo) (LoopHead lo) head_node refl) (λ j g h. no_mark (in_top (suc lo)) j (own.carried_rows j g h))
        (λ j g h. none j Variable (variable_node j g h) refl)
        (none e Entries entries_node refl)
        (λ j g h k. in_block-more F j w (suc n) (omega (arith, body_low, last_low, before_loop)) (own.test.held j g h k))
        (none w (Switches t) switches_node refl) (λ j g h. no_mark (arm (in_top (suc lo)) w true) j (own.turn_rows j g h))
        (λ j g h k.
        let first : (at F d).first ≡ suc turn = ap (λ (r : Row). r.first) b.body_end in
        in_block-more F j (suc d) (suc n) (omega (arith, last_low, before_loop))
        (in_block-here F j d (ap has_statements body_node) (omega (arith, first, g, b.begins)) h))
        (none d Body body_node refl)
        (λ j g h k. in_block-more F j (suc l) (suc n) (omega (arith, before_loop)) (b.last.held j g h k))
        (none (suc l) (Reset l) reset_node refl) (none (suc (suc l)) Span span_node refl)
      where
        none : (j : ℕ) (m : Node) → (at F j).node ≡ m → is_statement m ≡ false → is_statement (at F j).node ≡ true → in_block F j (suc n) ≡ true
        none j m e off q = absurd (fails is_statement j m e off q)

        no_mark : (q : Stand) (j : ℕ) → Mark q j → is_statement (at F j).node ≡ true → in_block F j (suc n) ≡ true
        no_mark q j y = none j y.node (mark_node q j y) (mark_no_statement y.node y.mark)

    -- a loop behind its parts
    pub are-loop : AreExpression F s from (suc n)
    are-loop =
        let low : from ≤ n = omega (arith, own.before.low, head_low, body_low, last_low, before_loop) in
        expression-fits F s p from n n (Loop (suc lo) w l) b.row low rows_before refl loop_fits refl refl
        (λ on j c f k. elim (cases_lt j lo) [ inl g ↦ own.before.turned on j c g k | inr g ↦ turned_before j g f k ])
        (λ j c f k. elim (cases_lt j lo) [
          | inl g ↦ in_block-more F j lo (suc n) (omega (arith, head_low, body_low, last_low, before_loop)) (own.before.held j c g k)
          | inr g ↦ held_inside j g f k
        ])
