-- What is true of the rows of a call.
use Rattle.std.proofs.Common.{◌≡◌, ◌⊎◌, inl, inr, ◌<◌, ◌≤◌, ℕ, suc, true, false, List, length, refl, sym, ap, ◌∙◌, subst, arith}
use Rattle.std.proofs.lemmas.Bool.{cases_lt, false≢true}
use Rattle.id_table.specs.declared.row.Row.{Row}
use Rattle.id_table.specs.declared.row.Stand.{Stand}
use Rattle.id_table.specs.declared.row.Node.{Node}
use Rattle.id_table.specs.declared.row.Node.TheVariants.{Enter, Arg, Call, Block}
use Rattle.id_table.specs.Rows.{at}
use Rattle.id_table.specs.Tables.{HasPart, can_be_on, is_block, is_expression, is_statement}
use Rattle.id_table.specs.Calls.{AreArgs, IsArgIn, IsArgOf, IsCallOf, IsEnterOf}
use Rattle.id_table.specs.Turns.{TurnedIn, Turns, in_block}
use Rattle.id_table.proofs.BlockLemmas.{in_block-more}
use Rattle.id_table.proofs.HasLemmas.{row_in}
use Rattle.id_table.proofs.RowLemmas.{Fits, RowIs-fits, RowsAre, RowsAre-both, RowsAre-none, RowsAre-suc, StandsHere, gives_own}
use Rattle.id_table.proofs.ExpressionLemmas.{AreExpression, expression-fits, part_of}

-- the row j is an argument of the call whose `Enter` is at e, of an index below i
pub record IsOwn (F : List Row) (e i j : ℕ) : Type 0 where
  pub index : ℕ
  pub value : ℕ
  pub low : index < i
  pub node : (at F j).node ≡ Arg e index value

-- the rows from e up to hi are the `Enter` of a call at the row n, which has c arguments, and the first i of them
pub record Called (F : List Row) (s : Stand) (p e n c i hi : ℕ) : Type 0 where
  pub name : ℕ
  pub low : e < hi
  pub call : at F n ≡ row_in s p e n (Call e c)
  pub within : n < length F
  pub enter : at F e ≡ row_in s p e e (Enter name)
  pub rows : RowsAre F s e hi
  pub own : (j : ℕ) → e < j → j < hi → IsOwn F e i j ⊎ (e < (at F j).first)
  pub each : (k : ℕ) → k < i → (m : ℕ) × IsArgOf F m e k
  pub once : (m l k : ℕ) → e < m → m < hi → e < l → l < hi → IsArgOf F m e k → IsArgOf F l e k → m ≡ l
  pub turned : ((m k v : ℕ) → m < length F → (at F m).node ≡ Arg e k v → TurnedIn F s.region v)
      → (j : ℕ) → e ≤ j → j < hi → can_be_on (at F j).node ≡ true → TurnedIn F (at F j).region j
  pub held : (j : ℕ) → e ≤ j → j < hi → is_statement (at F j).node ≡ true → in_block F j hi ≡ true

abbrev index_or : ℕ → Node → ℕ
index_or d (Arg e k v) = k
index_or d _ = d

no_block : (n : Node) (c : ℕ) → is_block n ≡ false → n ≡ Block c → ⊥
no_block n c e h = false≢true (sym e ∙ ap is_block h)

module _ (F : List Row) (s : Stand) (p e n c : ℕ) where
  abbrev is_call : at F n ≡ row_in s p e n (Call e c) → n < length F → IsCallOf F n e
  is_call q w = record { count = c; within = w; node = ap (λ (r : Row). r.node) q }

  -- an `Enter` fits anywhere
  enter_fits : (x : ℕ) → IsCallOf F n e → Fits F s e e e (Enter x)
  enter_fits x call = record {
    formed = λ a h. absurd h;
    part_stands = λ a h. absurd h;
    operand_is = λ a h. absurd h;
    value_block = λ b h. absurd (no_block (Enter x) b refl h);
    value_self = λ h. refl;
    value = λ h. absurd (false≢true h);
    statements = λ h. absurd (false≢true h);
    at_top = λ h. absurd (false≢true h);
    heads = λ h. absurd (false≢true h);
    belongs = (n, call);
  }

  -- a call begins with its `Enter`
  pub called-enter : (x : ℕ) → at F e ≡ row_in s p e e (Enter x) → at F n ≡ row_in s p e n (Call e c) → n < length F → Called F s p e n c 0 (suc e)
  called-enter x q w within =
      let none = RowsAre-none F s e in
      let node : (at F e).node ≡ Enter x = ap (λ (r : Row). r.node) q in
      record {
        name = x;
        low = omega arith;
        call = w;
        within = within;
        enter = q;
        rows = RowsAre-suc F s e e none (RowIs-fits F s p e e e (Enter x) q (omega arith) none refl (enter_fits x (is_call w within)));
        own = λ j d f. absurd (omega arith);
        each = λ k d. absurd (omega arith);
        once = λ m l k d f. absurd (omega arith);
        turned = λ _ j d f g. let z : j ≡ e = omega arith in
            absurd (false≢true (sym (ap can_be_on node) ∙ sym (ap (λ k. can_be_on (at F k).node) z) ∙ g));
        held = λ j d f g. let z : j ≡ e = omega arith in
            absurd (false≢true (sym (ap is_statement node) ∙ sym (ap (λ k. is_statement (at F k).node) z) ∙ g));
      }

  module _ (i hi mid v : ℕ) (t : Called F s p e n c i hi) (a : AreExpression F s hi mid) (ends : suc v ≡ mid)
      (row : at F mid ≡ row_in s p e mid (Arg e i v)) (less : i < c) (before : mid < n) where
    reach : hi ≤ mid
    reach = omega (arith, a.low, a.ends)

    inner : e < mid
    inner = omega (arith, t.low, reach)

    last_value : a.end ≡ v
    last_value = omega (arith, a.ends, ends)

    value_low : hi ≤ v
    value_low = omega (arith, a.low, last_value)

    inside : mid < length F
    inside = omega (arith, before, t.within)

    arg_node : (at F mid).node ≡ Arg e i v
    arg_node = ap (λ (r : Row). r.node) row

    same : (at F v).first ≡ hi
    same = ap (λ k. (at F k).first) (sym last_value) ∙ a.first

    -- the argument's row belongs to the call
    arg_in : IsArgIn F mid e i v
    arg_in = record {
      row = n;
      call = is_call t.call t.within;
      stands = record {
        after = inner;
        before = before;
        index = less;
        behind = omega (arith, ends);
        value_first = omega (arith, same, t.low);
        place = ap (λ (r : Row). r.place) row ∙ sym (ap (λ (r : Row). r.place) t.call);
        block = ap (λ (r : Row). r.block) row ∙ sym (ap (λ (r : Row). r.block) t.call);
        region = ap (λ (r : Row). r.region) row ∙ sym (ap (λ (r : Row). r.region) t.call);
        first = ap (λ (r : Row). r.first) row;
      };
    }

    -- it fits behind its value
    arg_fits : Fits F s e mid mid (Arg e i v)
    arg_fits =
        let part = part_of F s hi mid v a ends in
        record {
          formed = λ b h. elim h [
            | inl q ↦ (omega (arith, q), omega (arith, q, inner))
            | inr q ↦ (omega (arith, q, value_low, t.low), omega (arith, q, ends))
          ];
          part_stands = λ b h. elim h [
            | inl q ↦ subst (StandsHere F s) (sym q) (ap (λ (r : Row). r.block) t.enter, ap (λ (r : Row). r.region) t.enter)
            | inr q ↦ subst (StandsHere F s) (sym q) part.stands
          ];
          operand_is = λ b h. subst (λ k. is_expression (at F k).node ≡ true) (sym h) part.expression;
          value_block = λ b h. absurd (no_block (Arg e i v) b refl h);
          value_self = λ h. refl;
          value = λ h. absurd (false≢true h);
          statements = λ h. absurd (false≢true h);
          at_top = λ h. absurd (false≢true h);
          heads = λ h. absurd (false≢true h);
          belongs = arg_in;
        }

    rows_before : RowsAre F s e mid
    rows_before = RowsAre-both F s e hi mid (omega (arith, t.low)) t.rows a.rows

    -- what stands in an argument begins behind the `Enter`
    behind_enter : (j : ℕ) → hi ≤ j → j < mid → e < (at F j).first
    behind_enter j d f = omega (arith, (a.rows j d f).low, t.low)

    own_all : (j : ℕ) → e < j → j < suc mid → IsOwn F e (suc i) j ⊎ (e < (at F j).first)
    own_all j d f = elim (cases_lt j hi) [
      | inl l ↦ elim (t.own j d l) [
        | inl o ↦ inl (record { index = o.index; value = o.value; low = omega (arith, o.low); node = o.node })
        | inr g ↦ inr g
      ]
      | inr l ↦ elim (cases_lt j mid) [
        | inl k ↦ inr (behind_enter j l k)
        | inr k ↦ let z : mid ≡ j = omega arith in
            inl (record { index = i; value = v; low = omega arith; node = ap (λ m. (at F m).node) (sym z) ∙ arg_node })
      ]
    ]

    -- a row before this one that is an argument of the call has an index below
    index_low : (j k : ℕ) → e < j → j < mid → IsArgOf F j e k → (j < hi) × (k < i)
    index_low j k d f g = elim (cases_lt j hi) [
      | inl l ↦ elim (t.own j d l) [
        | inl o ↦ let z : k ≡ o.index = ap (index_or 0) (sym g.node ∙ o.node) in (l, omega (arith, o.low, z))
        | inr b ↦ absurd (names_none (omega (arith, d)) b)
      ]
      | inr l ↦ absurd (names_none (omega (arith, d)) (behind_enter j l f))
    ]
      where
        names_none : e ≤ j → e < (at F j).first → ⊥
        names_none w b =
            let q = (rows_before j w f).fits.formed e (subst (λ m. HasPart m e) (sym g.node) (inl refl)) in
            omega (arith, q.0, b)

    once_all : (m l k : ℕ) → e < m → m < suc mid → e < l → l < suc mid → IsArgOf F m e k → IsArgOf F l e k → m ≡ l
    once_all m l k d f g h x y = elim (cases_lt m mid) [
      | inl a1 ↦ elim (cases_lt l mid) [
        | inl b1 ↦ t.once m l k d (index_low m k d a1 x).0 g (index_low l k g b1 y).0 x y
        | inr b1 ↦ let z : l ≡ mid = omega arith in absurd (apart m l d a1 z x y)
      ]
      | inr a1 ↦ let z : m ≡ mid = omega arith in elim (cases_lt l mid) [
        | inl b1 ↦ absurd (apart l m g b1 z y x)
        | inr b1 ↦ omega arith
      ]
    ]
      where
        apart : (q r : ℕ) → e < q → q < mid → r ≡ mid → IsArgOf F q e k → IsArgOf F r e k → ⊥
        apart q r d f z x y =
            let u : k ≡ i = ap (index_or 0) (sym y.node ∙ ap (λ j. (at F j).node) z ∙ arg_node) in
            omega (arith, (index_low q k d f x).1, u)

    each_all : (k : ℕ) → k < suc i → (m : ℕ) × IsArgOf F m e k
    each_all k d = elim (cases_lt k i) [
      | inl l ↦ t.each k l
      | inr l ↦ let z : i ≡ k = omega arith in (mid, record { value = v; within = inside; node = arg_node ∙ ap (λ j. Arg e j v) z })
    ]

    turned_all : ((m k w : ℕ) → m < length F → (at F m).node ≡ Arg e k w → TurnedIn F s.region w)
        → (j : ℕ) → e ≤ j → j < suc mid → can_be_on (at F j).node ≡ true → TurnedIn F (at F j).region j
    turned_all f j d b g = elim (cases_lt j hi) [
      | inl l ↦ t.turned f j d l g
      | inr l ↦ elim (cases_lt j mid) [
        | inl k ↦ a.turned (subst (TurnedIn F s.region) (sym last_value) (f mid i v inside arg_node)) j l k g
        | inr k ↦ let z : j ≡ mid = omega arith in
            absurd (false≢true (sym (ap can_be_on arg_node) ∙ sym (ap (λ m. can_be_on (at F m).node) z) ∙ g))
      ]
    ]

    held_all : (j : ℕ) → e ≤ j → j < suc mid → is_statement (at F j).node ≡ true → in_block F j (suc mid) ≡ true
    held_all j d b g = elim (cases_lt j hi) [
      | inl l ↦ in_block-more F j hi (suc mid) (omega (arith, reach)) (t.held j d l g)
      | inr l ↦ elim (cases_lt j mid) [
        | inl k ↦ in_block-more F j mid (suc mid) (omega arith) (a.held j l k g)
        | inr k ↦ let z : j ≡ mid = omega arith in
            absurd (false≢true (sym (ap is_statement arg_node) ∙ sym (ap (λ m. is_statement (at F m).node) z) ∙ g))
      ]
    ]

    -- one more argument
    pub called-argument : Called F s p e n c (suc i) (suc mid)
    called-argument = record {
      name = t.name;
      low = omega (arith, inner);
      call = t.call;
      within = t.within;
      enter = t.enter;
      rows = RowsAre-suc F s e mid rows_before (RowIs-fits F s p e mid mid (Arg e i v) row (omega (arith, inner)) rows_before refl arg_fits);
      own = own_all;
      each = each_all;
      once = once_all;
      turned = turned_all;
      held = held_all;
    }

  module _ (t : Called F s p e n c c n) where
    call_node : (at F n).node ≡ Call e c
    call_node = ap (λ (r : Row). r.node) t.call

    enter_of : IsEnterOf F e n
    enter_of = record {
      name = t.name;
      node = ap (λ (r : Row). r.node) t.enter;
      before = t.low;
      own = ap (λ (r : Row). r.first) t.enter;
      first = ap (λ (r : Row). r.first) t.call;
      place = ap (λ (r : Row). r.place) t.enter ∙ sym (ap (λ (r : Row). r.place) t.call);
      block = ap (λ (r : Row). r.block) t.enter ∙ sym (ap (λ (r : Row). r.block) t.call);
      region = ap (λ (r : Row). r.region) t.enter ∙ sym (ap (λ (r : Row). r.region) t.call);
    }

    alone : (j d : ℕ) → e < j → j < n → (at F j).node ≡ Call e d → ⊥
    alone j d f g h = elim (t.own j f g) [
      | inl o ↦ false≢true (sym (ap is_expression o.node) ∙ ap is_expression h)
      | inr b ↦ let q = (t.rows j (omega (arith, f)) g).fits.formed e (subst (λ m. HasPart m e) (sym h) refl) in omega (arith, q.0, b)
    ]

    are_args : AreArgs F e n c
    are_args = record { each = t.each; once = t.once; alone = alone }

    -- the call fits behind its arguments
    call_fits : Fits F s e n n (Call e c)
    call_fits = record {
      formed = λ a h. (omega (arith, h), omega (arith, h, t.low));
      part_stands = λ a h. subst (StandsHere F s) (sym h) (ap (λ (r : Row). r.block) t.enter, ap (λ (r : Row). r.region) t.enter);
      operand_is = λ a h. absurd h;
      value_block = λ b h. absurd (no_block (Call e c) b refl h);
      value_self = λ h. refl;
      value = λ h. gives_own F s p e n (Call e c) t.call refl refl;
      statements = λ h. absurd (false≢true h);
      at_top = λ h. absurd (false≢true h);
      heads = λ h. absurd (false≢true h);
      belongs = (enter_of, are_args);
    }

    -- a call behind its arguments
    pub are-call : AreExpression F s e (suc n)
    are-call =
        expression-fits F s p e n n (Call e c) t.call (omega (arith, t.low)) t.rows refl call_fits refl refl
        (λ on j b d g. t.turned (λ m k v w q. TurnedIn.part on t.within (Turns.argument call_node w q)) j b d g)
        (λ j b d g. in_block-more F j n (suc n) (omega arith) (t.held j b d g))
