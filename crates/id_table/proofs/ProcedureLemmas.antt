-- What is true of the rows of a procedure.
use Rattle.std.proofs.Common.{◌≡◌, inl, inr, ◌-◌, ◌<◌, ◌≤◌, ℕ, suc, true, false, List, [], ◌∷◌, ◌++◌, length, refl, sym, ap, ◌∙◌, subst}
use Rattle.std.proofs.Common.{arith}
use Rattle.std.proofs.lemmas.Bool.{cases_lt, false≢true}
use Rattle.id_value.specs.declared.Kind.{Kind}
use Rattle.id_table.specs.declared.row.Row.{Row}
use Rattle.id_table.specs.declared.row.Node.{Node}
use Rattle.id_table.specs.declared.row.Node.TheVariants.{Head, Param}
use Rattle.id_table.specs.declared.row.Node.TheVariants.{Def, Program, LoopHead}
use Rattle.id_table.specs.Rows.{at, in_top}
use Rattle.id_table.specs.Rows.{top}
use Rattle.id_table.specs.Tables.{begins_block, is_in_loop}
use Rattle.id_table.specs.Loops.{IsLoopOf}
use Rattle.id_table.specs.Tables.{can_be_on, is_block, is_def, is_expression, is_head, is_param, is_statement}
use Rattle.id_table.specs.Regions.{Lies}
use Rattle.id_table.specs.Turns.{AreParamsOf, InDefinition, IsDefOf, IsStatement, Root, TurnedIn}
use Rattle.id_table.proofs.BlockLemmas.{statement_of}
use Rattle.id_table.proofs.HasLemmas.{Has, at-push, push-size, push-within, row_for}
use Rattle.id_table.proofs.RowLemmas.{Fits, RowsAre, RowsAre-both, StandsFurther, StandsWithin, differs, is_inner, stand_of}
use Rattle.id_table.proofs.ExpressionLemmas.{AreExpression, AreParams}
use Rattle.id_table.proofs.ParamsLemmas.{NoParams}

-- the row r of the number i stands in a procedure
pub record StandsIn (F : List Row) (i : ℕ) (r : Row) : Type 0 where
  pub first : r.first ≤ i
  pub nested : (j : ℕ) → r.first ≤ j → j < i → r.first ≤ (at F j).first
  pub no_program : r.node ≡ Program → ⊥
  pub block : (r.block ≤ i) × (begins_block (at F r.block).node ≡ true)
  pub region : StandsFurther F i r
  pub loop_of : is_in_loop r.node ≡ true → (n : ℕ) × IsLoopOf F n r.block × (i < n)
  pub in_loop : (t : ℕ) → (at F r.block).node ≡ LoopHead t → (n : ℕ) × IsLoopOf F n r.block × (i < n)
  pub inside : (j : ℕ) → r.first ≤ j → j < i → StandsWithin F (stand_of r) j
  pub fits : Fits F (stand_of r) r.first i r.value r.node
  pub head_place : (x h b : ℕ) (k : Kind) → r.node ≡ Def x h k b → (at F h).place ≡ r.place
  pub head_is : (x h b : ℕ) (k : Kind) → r.node ≡ Def x h k b → ((at F h).node ≡ Head) × (r.first ≡ h) × (is_expression (at F b).node ≡ true)
  pub def_of : InDefinition F i r.block
  pub params : is_def r.node ≡ true → AreParamsOf F r.first i
  pub alone : is_def r.node ≡ true → (j : ℕ) → r.first ≤ j → j < i → is_def (at F j).node ≡ false
  pub turned : can_be_on r.node ≡ true → TurnedIn F r.region i
  pub in_a_block : is_statement r.node ≡ true → (s : ℕ) × (s < length F) × IsStatement F s i

-- the rows from the head h up to the definition at the row n
pub record IsProcedure (F : List Row) (h n : ℕ) : Type 0 where
  pub head : (at F h).node ≡ Head
  pub def : IsDefOf F n h
  pub low : h < n
  pub rows : RowsAre F (in_top h) (suc h) n
  pub turned : (i : ℕ) → suc h ≤ i → i < n → can_be_on (at F i).node ≡ true → TurnedIn F (at F i).region i
  pub held : (i : ℕ) → suc h ≤ i → i < n → is_statement (at F i).node ≡ true → (s : ℕ) × (s < length F) × IsStatement F s i

inner_no_def : (n : Node) → is_inner n ≡ true → is_def n ≡ false
inner_no_def (Def x h k b) e = absurd (false≢true e)
inner_no_def _ e = refl

param_not_on : (n : Node) → is_param n ≡ true → can_be_on n ≡ true → ⊥
param_not_on (Param x k) e f = false≢true f
param_not_on _ e f = false≢true e

param_no_statement : (n : Node) → is_param n ≡ true → is_statement n ≡ true → ⊥
param_no_statement (Param x k) e f = false≢true f
param_no_statement _ e f = false≢true e

abbrev def_head : ℕ → Node → ℕ
def_head d (Def x h k b) = h
def_head d _ = d

abbrev def_body : ℕ → Node → ℕ
def_body d (Def x h k b) = b
def_body d _ = d

module _ (F : List Row) where
  stands-inner : (h n i : ℕ) → IsProcedure F h n → suc h ≤ i → i < n → StandsIn F i (at F i)
  stands-inner h n i p l m =
      let r = p.rows i l m in
      record {
        first = r.first;
        nested = r.nested;
        no_program = differs is_inner (at F i).node Program r.inner refl;
        block = elim r.block [
          | inl e ↦ (omega (arith, e.0), ap (λ k. begins_block (at F k).node) e.0 ∙ ap begins_block p.head)
          | inr k ↦ (k.high, ap begins_block k.node)
        ];
        region = elim r.region [ inl e ↦ inl (e.0 ∙ ap top (sym e.1)) | inr k ↦ k ];
        loop_of = λ e. elim r.block [ inl w ↦ absurd (false≢true (sym w.1 ∙ e)) | inr k ↦ (k.row, k.loop, k.before) ];
        in_loop = λ t e. elim r.block [
          | inl w ↦ absurd (false≢true (sym (ap is_head e) ∙ ap (λ k. is_head (at F k).node) w.0 ∙ ap is_head p.head))
          | inr k ↦ (k.row, k.loop, k.before)
        ];
        inside = r.inside;
        fits = r.fits;
        head_place = λ x g b k e. absurd (differs is_inner (at F i).node (Def x g k b) r.inner refl e);
        head_is = λ x g b k e. absurd (differs is_inner (at F i).node (Def x g k b) r.inner refl e);
        def_of = record {
          head = h;
          row = n;
          def = p.def;
          low = omega arith;
          high = omega arith;
          block = λ e. elim r.block [ inl w ↦ w.0 | inr k ↦ absurd (false≢true (sym (ap is_head k.node) ∙ e)) ];
        };
        params = λ e. absurd (false≢true (sym (inner_no_def (at F i).node r.inner) ∙ e));
        alone = λ e. absurd (false≢true (sym (inner_no_def (at F i).node r.inner) ∙ e));
        turned = λ e. p.turned i l m e;
        in_a_block = p.held i l m;
      }

  -- a head fits anywhere
  head_fits : (i : ℕ) → Fits F (in_top i) i i i Head
  head_fits i = record {
    formed = λ a e. absurd e;
    part_stands = λ a e. absurd e;
    operand_is = λ a e. absurd e;
    value_block = λ b e. absurd (false≢true (ap is_block e));
    value_self = λ e. refl;
    value = λ e. absurd (false≢true e);
    statements = λ e. absurd (false≢true e);
    at_top = λ _. refl;
    heads = λ _. refl;
    belongs = tt;
  }

  stands-head : (R : List Row) (p n : ℕ) → Has F (R ++ row_for R (in_top (length R)) p (length R) Head ∷ []) → IsProcedure F (length R) n
      → StandsIn F (length R) (at F (length R))
  stands-head R p n has q = subst (StandsIn F (length R)) (sym (at-push F R _ has)) (record {
    first = omega arith;
    nested = λ j b c. absurd (omega arith);
    no_program = λ e. false≢true (sym (ap is_head e));
    block = (omega arith, ap begins_block q.head);
    region = inl refl;
    loop_of = λ e. absurd (false≢true e);
    in_loop = λ t e. absurd (false≢true (sym (ap is_head e) ∙ ap is_head q.head));
    inside = λ j b c. absurd (omega arith);
    fits = head_fits (length R);
    head_place = λ x g b k e. absurd (false≢true (ap is_def e));
    head_is = λ x g b k e. absurd (false≢true (ap is_def e));
    def_of = record { head = length R; row = n; def = q.def; low = omega arith; high = omega (arith, q.low); block = λ _. refl };
    params = λ e. absurd (false≢true e);
    alone = λ e. absurd (false≢true e);
    turned = λ e. absurd (false≢true e);
    in_a_block = λ e. absurd (false≢true e);
  })

  -- a definition fits behind its head and its body
  def_fits : (h i x b : ℕ) (k : Kind) → (at F h).block ≡ h → (at F h).region ≡ top h → h < i → is_expression (at F b).node ≡ true → suc h ≤ b → b < i
      → (at F b).block ≡ h → (at F b).region ≡ top h → Fits F (in_top h) h i i (Def x h k b)
  def_fits h i x b k stands region less body low before inner within = record {
    formed = λ a e. elim e [ inl w ↦ (omega arith, omega arith) | inr w ↦ (omega arith, omega arith) ];
    part_stands = λ a e. elim e [
      | inl w ↦ (ap (λ j. (at F j).block) w ∙ stands, ap (λ j. (at F j).region) w ∙ region)
      | inr w ↦ (ap (λ j. (at F j).block) w ∙ inner, ap (λ j. (at F j).region) w ∙ within)
    ];
    operand_is = λ a w. ap (λ j. is_expression (at F j).node) w ∙ body;
    value_block = λ c e. absurd (false≢true (ap is_block e));
    value_self = λ e. refl;
    value = λ e. absurd (false≢true e);
    statements = λ e. absurd (false≢true e);
    at_top = λ _. refl;
    heads = λ e. absurd (false≢true e);
    belongs = tt;
  }

  stands-def : (R : List Row) (p h x b : ℕ) (k : Kind) → Has F (R ++ row_for R (in_top h) p h (Def x h k b) ∷ []) → (at F h).first ≡ h → (at F h).block ≡ h
      → (at F h).region ≡ top h → (at F h).place ≡ p
      → is_expression (at F b).node ≡ true → suc h ≤ b → b < length R → (at F b).block ≡ h → (at F b).region ≡ top h → IsProcedure F h (length R)
      → AreParamsOf F h (length R) → StandsIn F (length R) (at F (length R))
  stands-def R p h x b k has first stands region spot body low before inner within q ps = subst (StandsIn F (length R)) (sym (at-push F R _ has)) (record {
    first = omega (arith, q.low);
    nested = λ j c d. elim (cases_lt h j) [
      | inl l ↦ let r = q.rows j l d in omega (arith, r.low)
      | inr l ↦ let e : j ≡ h = omega arith in
          let f = ap (λ i. (at F i).first) e in omega arith
    ];
    no_program = λ e. false≢true (sym (ap is_def e));
    block = (omega (arith, q.low), ap begins_block q.head);
    region = inl refl;
    loop_of = λ e. absurd (false≢true e);
    in_loop = λ t e. absurd (false≢true (sym (ap is_head e) ∙ ap is_head q.head));
    inside = λ j c d. elim (cases_lt h j) [
      | inl l ↦ (q.rows j l d).lies
      | inr l ↦ let e : j ≡ h = omega arith in subst (Lies F (top h)) (sym (ap (λ i. (at F i).region) e ∙ region)) Lies.here
    ];
    fits = def_fits h (length R) x b k stands region q.low body low before inner within;
    head_place = λ y g c m e. ap (λ i. (at F i).place) (sym (ap (def_head h) e)) ∙ spot;
    head_is = λ y g c m e.
        let s = ap (def_head h) e in
        let w = ap (def_body b) e in
        (ap (λ i. (at F i).node) (sym s) ∙ q.head, s, ap (λ i. is_expression (at F i).node) (sym w) ∙ body);
    def_of = record { head = h; row = length R; def = q.def; low = omega (arith, q.low); high = omega arith; block = λ _. refl };
    params = λ _. ps;
    alone = λ _ j c d. elim (cases_lt h j) [
      | inl l ↦ inner_no_def (at F j).node (q.rows j l d).inner
      | inr l ↦ let e : j ≡ h = omega arith in ap (λ i. is_def (at F i).node) e ∙ ap is_def q.head
    ];
    turned = λ e. absurd (false≢true e);
    in_a_block = λ e. absurd (false≢true e);
  })

  -- a definition behind its parameters and its body
  pub are-define : (T : List Row) (R : List Row) (p mid x b : ℕ) (k : Kind) → let h = length T in
      Has F (T ++ row_for T (in_top h) p h Head ∷ []) → Has F (R ++ row_for R (in_top h) p h (Def x h k b) ∷ [])
      → AreParams F (in_top h) (length (T ++ row_for T (in_top h) p h Head ∷ [])) mid → AreExpression F (in_top h) mid (length R)
      → NoParams F mid (length R) → b ≡ length R - 1 → (i : ℕ) → h ≤ i → i < length (R ++ row_for R (in_top h) p h (Def x h k b) ∷ []) → StandsIn F i (at F i)
  are-define T R p mid x b k start has ps e plain q i l m =
      let h = length T in
      let head = at-push F T _ start in
      let long = push-size T (row_for T (in_top h) p h Head) in
      let longer = push-size R (row_for R (in_top h) p h (Def x h k b)) in
      let within = push-within F R _ has in
      let node : (at F (length R)).node ≡ Def x h k b = ap (λ (r : Row). r.node) (at-push F R _ has) in
      let same : e.end ≡ b = omega (arith, e.ends) in
      let enough : suc h ≤ mid = omega (arith, ps.low) in
      let more : mid ≤ length R = omega (arith, e.low, e.ends) in
      let params : RowsAre F (in_top h) (suc h) mid = subst (λ n. RowsAre F (in_top h) n mid) long ps.rows in
      let procedure : IsProcedure F h (length R) = record {
        head = ap (λ (r : Row). r.node) head;
        def = record { name = x; result = k; body = b; within = within; node = node };
        low = omega arith;
        rows = RowsAre-both F (in_top h) (suc h) mid (length R) enough params e.rows;
        turned = λ j u v w. elim (cases_lt j mid) [
          | inl d ↦ absurd (param_not_on (at F j).node (ps.param j (omega arith) d) w)
          | inr d ↦ e.turned (subst (TurnedIn F (top h)) (sym same) (TurnedIn.root (Root.of_procedure within node))) j d v w
        ];
        held = λ j u v w. elim (cases_lt j mid) [
          | inl d ↦ absurd (param_no_statement (at F j).node (ps.param j (omega arith) d) w)
          | inr d ↦ statement_of F j (length R) (omega (arith, within)) w (e.held j d v w)
        ];
      } in
      let params_of : AreParamsOf F h (length R) = record {
        count = mid - suc h;
        before = omega (arith, enough, e.low, e.ends);
        param = λ j u v. ps.param j (omega (arith, u)) (omega (arith, u, v, enough));
        block = λ j u v. ps.block j (omega (arith, u)) (omega (arith, u, v, enough));
        rest = λ j u v. plain j (omega (arith, u, enough)) v;
      } in
      elim (cases_lt h i) [
        | inr d ↦ let z : h ≡ i = omega arith in subst (λ j. StandsIn F j (at F j)) z (stands-head T p (length R) start procedure)
        | inl d ↦ elim (cases_lt i (length R)) [
          | inl f ↦ stands-inner h (length R) i procedure d f
          | inr f ↦ let z : length R ≡ i = omega arith in
              subst (λ j. StandsIn F j (at F j)) z
              (stands-def R p h x b k has (ap (λ (r : Row). r.first) head) (ap (λ (r : Row). r.block) head) (ap (λ (r : Row). r.region) head)
              (ap (λ (r : Row). r.place) head)
              (subst (λ n. is_expression (at F n).node ≡ true) same e.expression) (omega (arith, e.low)) (omega (arith, e.ends))
              (subst (λ n. (at F n).block ≡ h) same e.block) (subst (λ n. (at F n).region ≡ top h) same e.region) procedure params_of)
        ]
      ]
