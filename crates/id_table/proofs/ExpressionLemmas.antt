-- What is true of the rows of an expression, of statements, and of parameters.
use Rattle.std.proofs.Common.{◌≡◌, ◌⊎◌, inl, inr, ◌<◌, ◌≤◌, ℕ, suc, Bool, true, false, List, length, refl, sym, ap, ◌∙◌, subst, arith}
use Rattle.std.proofs.lemmas.Bool.{cases_lt, false≢true}
use Rattle.id_value.specs.declared.Kind.{Kind}
use Rattle.id_value.specs.declared.UnaryOp.{UnaryOp}
use Rattle.id_value.specs.declared.BinaryOp.{BinaryOp}
use Rattle.id_table.specs.declared.row.Row.{Row}
use Rattle.id_table.specs.declared.row.Stand.{Stand}
use Rattle.id_table.specs.declared.row.Node.{Node}
use Rattle.id_table.specs.declared.row.Node.TheVariants.{Head, Param, Unary, Binary, Block, Binding, Def, LoopHead, Variable, Entries, Switches}
use Rattle.id_table.specs.declared.row.Node.TheVariants.{Array, Body, Carried, Fetch, Store, Within}
use Rattle.id_table.specs.Rows.{at, top}
use Rattle.id_table.specs.Tables.{HasPart, can_be_on, has_statements, is_expression, is_param, is_statement, is_top}
use Rattle.id_table.specs.Turns.{in_block, IsStatement, Root, TurnedIn, Turns}
use Rattle.id_table.proofs.BlockLemmas.{around-true, in_block-before, in_block-behind, in_block-here, in_block-more}
use Rattle.id_table.proofs.HasLemmas.{row_in}
use Rattle.id_table.proofs.RowLemmas.{Fits, Fits-block, Fits-simple, PartIs, RowsAre, RowIs-fits, RowsAre-both, RowsAre-none, RowsAre-suc, StandsHere, is_plain}
use Rattle.id_table.proofs.RowLemmas.{expression_plain, is_simple}

-- an expression is no statement
no_statement : (n : Node) → is_expression n ≡ true → is_statement n ≡ false
no_statement (Binding x a) e = absurd (false≢true e)
no_statement (Store a v) e = absurd (false≢true e)
no_statement _ e = refl

-- and stands nowhere above its region
no_top : (n : Node) → is_expression n ≡ true → is_top n ≡ false
no_top Head e = absurd (false≢true e)
no_top (Param x k) e = absurd (false≢true e)
no_top (Def x h k b) e = absurd (false≢true e)
no_top (LoopHead t) e = absurd (false≢true e)
no_top (Carried k) e = absurd (false≢true e)
no_top Variable e = absurd (false≢true e)
no_top Entries e = absurd (false≢true e)
no_top (Within f) e = absurd (false≢true e)
no_top (Switches t) e = absurd (false≢true e)
no_top _ e = refl

-- the rows from lo up to hi are those of an expression, the last of which stands right in s
pub record AreExpression (F : List Row) (s : Stand) (lo hi : ℕ) : Type 0 where
  pub end : ℕ
  pub ends : suc end ≡ hi
  pub low : lo ≤ end
  pub rows : RowsAre F s lo hi
  pub expression : is_expression (at F end).node ≡ true
  pub first : (at F end).first ≡ lo
  pub region : (at F end).region ≡ s.region
  pub block : (at F end).block ≡ s.block
  pub turned : TurnedIn F s.region end → (i : ℕ) → lo ≤ i → i < hi → can_be_on (at F i).node ≡ true → TurnedIn F (at F i).region i
  pub held : (i : ℕ) → lo ≤ i → i < hi → is_statement (at F i).node ≡ true → in_block F i hi ≡ true

-- the statement at the row m turns the row a on: the expression of a binding, or itself where it is a store
pub data StatementTurns (F : List Row) (m : ℕ) : ℕ → Type 0 where
  by_binding : {x a : ℕ} → (at F m).node ≡ Binding x a → StatementTurns F m a
  by_store : {b v : ℕ} → (at F m).node ≡ Store b v → StatementTurns F m m

-- what is at the row i is turned on where what the statement at another row turns on is, which no block before the row
-- hi is round
pub record ByStatement (F : List Row) (s : Stand) (lo hi i : ℕ) : Type 0 where
  pub row : ℕ
  pub value : ℕ
  pub low : lo ≤ row
  pub before : row < hi
  pub statement : StatementTurns F row value
  pub free : in_block F row hi ≡ false
  pub turned : TurnedIn F s.region value → TurnedIn F (at F i).region i

-- the rows from lo up to the row n are those of a statement, which is no `next`
pub record AreStatement (F : List Row) (s : Stand) (lo n : ℕ) : Type 0 where
  pub low : lo ≤ n
  pub rows : RowsAre F s lo (suc n)
  pub value : ℕ
  pub statement : StatementTurns F n value
  pub stands : StandsHere F s n
  pub turned : TurnedIn F s.region value → (i : ℕ) → lo ≤ i → i < suc n → can_be_on (at F i).node ≡ true → TurnedIn F (at F i).region i
  pub held : (i : ℕ) → lo ≤ i → i < n → is_statement (at F i).node ≡ true → in_block F i (suc n) ≡ true

-- the rows from lo up to hi are those of statements
pub record AreStatements (F : List Row) (s : Stand) (lo hi : ℕ) : Type 0 where
  pub low : lo ≤ hi
  pub rows : RowsAre F s lo hi
  pub turned : (i : ℕ) → lo ≤ i → i < hi → can_be_on (at F i).node ≡ true → ByStatement F s lo hi i
  pub held : (i : ℕ) → lo ≤ i → i < hi → is_statement (at F i).node ≡ true → StandsHere F s i ⊎ (in_block F i hi ≡ true)

-- the rows from lo up to hi are those of parameters
pub record AreParams (F : List Row) (s : Stand) (lo hi : ℕ) : Type 0 where
  pub low : lo ≤ hi
  pub rows : RowsAre F s lo hi
  pub param : (i : ℕ) → lo ≤ i → i < hi → is_param (at F i).node ≡ true
  pub block : (i : ℕ) → lo ≤ i → i < hi → (at F i).block ≡ s.block

module _ (F : List Row) where
  pub turns_statement : (m a : ℕ) → StatementTurns F m a → is_statement (at F m).node ≡ true
  turns_statement m a (by_binding e) = ap is_statement e
  turns_statement m a (by_store e) = ap is_statement e

  -- a block turns on what its statements do
  turns_in_block : (n b m a : ℕ) → (at F n).node ≡ Block b → IsStatement F n m → StatementTurns F m a → Turns F n a
  turns_in_block n b m a e i (by_binding f) = Turns.statement e i f
  turns_in_block n b m a e i (by_store f) = Turns.stored e i f

  -- and what the statements of a loop's body turn on are roots of the body
  pub root_in_body : (n m a : ℕ) → n < length F → (at F n).node ≡ Body → IsStatement F n m → StatementTurns F m a → Root F (at F n).region a
  root_in_body n m a l e i (by_binding f) = Root.of_statement l e i f
  root_in_body n m a l e i (by_store f) = Root.of_store l e i f

module _ (F : List Row) (s : Stand) where
  -- the last row of an expression is a part
  pub part_of : (lo hi e : ℕ) → AreExpression F s lo hi → suc e ≡ hi → PartIs F s lo hi e
  part_of lo hi e h q =
      let same : h.end ≡ e = omega (arith, h.ends) in
      subst (PartIs F s lo hi) same (record {
        low = h.low;
        before = omega (arith, h.ends);
        expression = h.expression;
        stands = (h.block, h.region);
      })

  pub PartIs-wider : (lo mid below above a : ℕ) → lo ≤ below → above ≤ mid → PartIs F s below above a → PartIs F s lo mid a
  PartIs-wider lo mid below above a l m h =
      record { low = omega (arith, h.low); before = omega (arith, h.before); expression = h.expression; stands = h.stands }

  -- an expression that fits the rows before it
  pub expression-fits : (p lo i v : ℕ) (n : Node) → at F i ≡ row_in s p lo v n → lo ≤ i → RowsAre F s lo i → is_plain n ≡ true → Fits F s lo i v n
      → is_expression n ≡ true → is_statement n ≡ false
      → (TurnedIn F s.region i → (j : ℕ) → lo ≤ j → j < i → can_be_on (at F j).node ≡ true → TurnedIn F (at F j).region j)
      → ((j : ℕ) → lo ≤ j → j < i → is_statement (at F j).node ≡ true → in_block F j (suc i) ≡ true) → AreExpression F s lo (suc i)
  expression-fits p lo i v n e l rows inner fits expression unbound turned held =
      let region : (at F i).region ≡ s.region = ap (λ (r : Row). r.region) e in
      record {
        end = i;
        ends = refl;
        low = l;
        rows = RowsAre-suc F s lo i rows (RowIs-fits F s p lo i v n e l rows inner fits);
        expression = ap (λ (r : Row). is_expression r.node) e ∙ expression;
        first = ap (λ (r : Row). r.first) e;
        region = region;
        block = ap (λ (r : Row). r.block) e;
        turned = λ t j b c g. elim (cases_lt j i) [
          | inl f ↦ turned t j b f g
          | inr f ↦ let q : i ≡ j = omega arith in subst (λ k. TurnedIn F (at F k).region k) q (subst (λ r. TurnedIn F r i) (sym region) t)
        ];
        held = λ j b c g. elim (cases_lt j i) [
          | inl f ↦ held j b f g
          | inr f ↦ let q : j ≡ i = omega arith in
              absurd (false≢true (sym unbound ∙ sym (ap (λ (r : Row). is_statement r.node) e) ∙ sym (ap (λ k. is_statement (at F k).node) q) ∙ g))
        ];
      }

  -- one that is simple, behind its parts
  simple : (p lo i : ℕ) (n : Node) → at F i ≡ row_in s p lo i n → lo ≤ i → RowsAre F s lo i → is_simple n ≡ true → is_expression n ≡ true
      → ((a : ℕ) → HasPart n a → PartIs F s lo i a)
      → (TurnedIn F s.region i → (j : ℕ) → lo ≤ j → j < i → can_be_on (at F j).node ≡ true → TurnedIn F (at F j).region j)
      → ((j : ℕ) → lo ≤ j → j < i → is_statement (at F j).node ≡ true → in_block F j (suc i) ≡ true) → AreExpression F s lo (suc i)
  simple p lo i n e l rows plain expression parts turned held =
      let fits = Fits-simple F s p lo i n e plain (λ h. absurd (false≢true (sym (no_top n expression) ∙ h))) parts in
      expression-fits p lo i i n e l rows (expression_plain n expression) fits expression (no_statement n expression) turned held

  -- an expression without parts
  pub are-leaf : (p lo : ℕ) (n : Node) → at F lo ≡ row_in s p lo lo n → is_simple n ≡ true → is_expression n ≡ true → ((a : ℕ) → HasPart n a → ⊥)
      → AreExpression F s lo (suc lo)
  are-leaf p lo n e plain expression alone =
      simple p lo lo n e (omega arith) (RowsAre-none F s lo) plain expression (λ a q. absurd (alone a q)) (λ t k f g _. absurd (omega arith))
      (λ k f g _. absurd (omega arith))

  -- an operator behind its operand
  pub are-unary : (p lo b i : ℕ) (o : UnaryOp) → at F i ≡ row_in s p lo i (Unary o b) → i < length F → suc b ≡ i → AreExpression F s lo i
      → AreExpression F s lo (suc i)
  are-unary p lo b i o e within q h =
      let part = part_of lo i b h q in
      let same : b ≡ h.end = omega (arith, h.ends) in
      let node : (at F i).node ≡ Unary o b = ap (λ (r : Row). r.node) e in
      simple p lo i (Unary o b) e (omega (arith, h.low, h.ends)) h.rows refl refl (λ a g. subst (PartIs F s lo i) (sym g) part)
      (λ t j c d g. h.turned (subst (TurnedIn F s.region) same (TurnedIn.part t within (Turns.operand node))) j c d g)
      (λ j c d g. in_block-more F j i (suc i) (omega arith) (h.held j c d g))

  -- an expression behind its two parts, which it turns on
  are-two : (p lo mid a b i : ℕ) (n : Node) → at F i ≡ row_in s p lo i n → i < length F → suc a ≡ mid → suc b ≡ i → is_simple n ≡ true
      → is_expression n ≡ true → ((c : ℕ) → HasPart n c → (c ≡ a) ⊎ (c ≡ b)) → Turns F i a → Turns F i b
      → AreExpression F s lo mid → AreExpression F s mid i → AreExpression F s lo (suc i)
  are-two p lo mid a b i n e within q w plain expression two left_on right_on h g =
      let left = part_of lo mid a h q in
      let right = part_of mid i b g w in
      let l : lo ≤ mid = omega (arith, h.low, h.ends) in
      let m : mid ≤ i = omega (arith, g.low, g.ends) in
      let same : a ≡ h.end = omega (arith, h.ends) in
      let also : b ≡ g.end = omega (arith, g.ends) in
      simple p lo i n e (omega arith) (RowsAre-both F s lo mid i l h.rows g.rows) plain expression
      (λ c k. elim (two c k) [
        | inl x ↦ subst (PartIs F s lo i) (sym x) (PartIs-wider lo i lo mid a (omega arith) m left)
        | inr x ↦ subst (PartIs F s lo i) (sym x) (PartIs-wider lo i mid i b l (omega arith) right)
      ])
      (λ t j c d k. elim (cases_lt j mid) [
        | inl f ↦ h.turned (subst (TurnedIn F s.region) same (TurnedIn.part t within left_on)) j c f k
        | inr f ↦ g.turned (subst (TurnedIn F s.region) also (TurnedIn.part t within right_on)) j f d k
      ])
      (λ j c d k. elim (cases_lt j mid) [
        | inl f ↦ in_block-more F j mid (suc i) (omega arith) (h.held j c f k)
        | inr f ↦ in_block-more F j i (suc i) (omega arith) (g.held j f d k)
      ])

  -- an operator behind its operands
  pub are-binary : (p lo mid a b i : ℕ) (o : BinaryOp) → at F i ≡ row_in s p lo i (Binary o a b) → i < length F → suc a ≡ mid → suc b ≡ i
      → AreExpression F s lo mid → AreExpression F s mid i → AreExpression F s lo (suc i)
  are-binary p lo mid a b i o e within q w h g =
      let node : (at F i).node ≡ Binary o a b = ap (λ (r : Row). r.node) e in
      are-two p lo mid a b i (Binary o a b) e within q w refl refl (λ c k. k) (Turns.left node) (Turns.right node) h g

  -- an array behind its bounds
  pub are-array : (nested : Bool) (p lo mid a b i : ℕ) → at F i ≡ row_in s p lo i (Array nested a b) → i < length F → suc a ≡ mid → suc b ≡ i
      → AreExpression F s lo mid → AreExpression F s mid i → AreExpression F s lo (suc i)
  are-array nested p lo mid a b i e within q w h g =
      let node : (at F i).node ≡ Array nested a b = ap (λ (r : Row). r.node) e in
      are-two p lo mid a b i (Array nested a b) e within q w refl refl (λ c k. k) (Turns.low node) (Turns.high node) h g

  -- a fetch behind its target and its index
  pub are-fetch : (p lo mid a b i : ℕ) → at F i ≡ row_in s p lo i (Fetch a b) → i < length F → suc a ≡ mid → suc b ≡ i
      → AreExpression F s lo mid → AreExpression F s mid i → AreExpression F s lo (suc i)
  are-fetch p lo mid a b i e within q w h g =
      let node : (at F i).node ≡ Fetch a b = ap (λ (r : Row). r.node) e in
      are-two p lo mid a b i (Fetch a b) e within q w refl refl (λ c k. k) (Turns.fetched node) (Turns.fetch_index node) h g

  -- a block behind its statements and its body
  pub are-block : (p lo mid b i v : ℕ) → at F i ≡ row_in s p lo v (Block b) → i < length F → suc b ≡ i → v ≡ (at F b).value
      → AreStatements F s lo mid → AreExpression F s mid i → AreExpression F s lo (suc i)
  are-block p lo mid b i v e within w same h g =
      let body = part_of mid i b g w in
      let m : mid ≤ i = omega (arith, g.low, g.ends) in
      let l : lo ≤ mid = h.low in
      let also : b ≡ g.end = omega (arith, g.ends) in
      let node : (at F i).node ≡ Block b = ap (λ (r : Row). r.node) e in
      let is : has_statements (at F i).node ≡ true = ap has_statements node in
      let first : (at F i).first ≡ lo = ap (λ (r : Row). r.first) e in
      let rows = RowsAre-both F s lo mid i l h.rows g.rows in
      expression-fits p lo i v (Block b) e (omega arith) rows refl
      (Fits-block F s lo i b v same (PartIs-wider lo i mid i b l (omega arith) body) (rows b (omega (arith, body.low)) body.before)
      (λ c j d k free. elim (cases_lt c mid) [
        | inl f ↦ elim (h.held c j f k) [
          | inl z ↦ z
          | inr z ↦ absurd (false≢true (sym free ∙ in_block-more F c mid i m z))
        ]
        | inr f ↦ absurd (false≢true (sym free ∙ g.held c f d k))
      ])) refl refl
      (λ t j c d k. elim (cases_lt j mid) [
        | inl f ↦ let by = h.turned j c f k in
            let right = in_block-behind F by.row mid i m by.free (λ q u z. let x = (g.rows q u z).low in omega (arith, by.before)) in
            by.turned (TurnedIn.part t within (turns_in_block F i b by.row by.value node (record {
              block = is;
              statement = turns_statement F by.row by.value by.statement;
              inside = around-true F i by.row (omega (arith, by.low)) (omega (arith, by.before));
              right = right;
            }) by.statement))
        | inr f ↦ g.turned (subst (TurnedIn F s.region) also (TurnedIn.part t within (Turns.body node))) j f d k
      ])
      (λ j c d k. in_block-here F j i is (omega arith) d)

  -- a binding behind its expression
  pub are-binding : (p lo x a i : ℕ) → at F i ≡ row_in s p lo i (Binding x a) → suc a ≡ i → AreExpression F s lo i → AreStatement F s lo i
  are-binding p lo x a i e q h =
      let part = part_of lo i a h q in
      let le : lo ≤ i = omega (arith, h.low, h.ends) in
      let same : a ≡ h.end = omega (arith, h.ends) in
      let node : (at F i).node ≡ Binding x a = ap (λ (r : Row). r.node) e in
      let fits = Fits-simple F s p lo i (Binding x a) e refl (λ h. absurd (false≢true h)) (λ c w. subst (PartIs F s lo i) (sym w) part) in
      record {
        low = le;
        rows = RowsAre-suc F s lo i h.rows (RowIs-fits F s p lo i i (Binding x a) e le h.rows refl fits);
        value = a;
        statement = by_binding node;
        stands = (ap (λ (r : Row). r.block) e, ap (λ (r : Row). r.region) e);
        turned = λ t j c d w. elim (cases_lt j i) [
          | inl f ↦ h.turned (subst (TurnedIn F s.region) same t) j c f w
          | inr f ↦ let z : j ≡ i = omega arith in
              absurd (false≢true (sym (ap can_be_on node) ∙ sym (ap (λ k. can_be_on (at F k).node) z) ∙ w))
        ];
        held = λ j c d w. in_block-more F j i (suc i) (omega arith) (h.held j c d w);
      }

  -- a statement before the others
  pub statement-before : (lo n hi : ℕ) → AreStatement F s lo n → AreStatements F s (suc n) hi → AreStatements F s lo hi
  statement-before lo n hi h g =
      let next : suc n ≤ hi = g.low in
      record {
        low = omega (arith, h.low);
        rows = RowsAre-both F s lo (suc n) hi (omega (arith, h.low)) h.rows g.rows;
        turned = λ j c d w. elim (cases_lt j (suc n)) [
          | inl f ↦ record {
            row = n;
            value = h.value;
            low = h.low;
            before = next;
            statement = h.statement;
            free = in_block-behind F n (suc n) hi next (in_block-before F n (suc n) (omega arith)) (λ k u v. let z = (g.rows k u v).low in omega arith);
            turned = λ t. h.turned t j c f w;
          }
          | inr f ↦ let by = g.turned j f d w in record {
            row = by.row;
            value = by.value;
            low = omega (arith, by.low, h.low);
            before = by.before;
            statement = by.statement;
            free = by.free;
            turned = by.turned;
          }
        ];
        held = λ j c d w. elim (cases_lt j n) [
          | inl f ↦ inr (in_block-more F j (suc n) hi next (h.held j c f w))
          | inr f ↦ elim (cases_lt j (suc n)) [
            | inl u ↦ let z : n ≡ j = omega arith in inl (subst (StandsHere F s) z h.stands)
            | inr u ↦ g.held j u d w
          ]
        ];
      }

  -- a parameter before the others
  pub are-param : (p hi x i : ℕ) (k : Kind) → s.region ≡ top s.block → at F i ≡ row_in s p i i (Param x k) → AreParams F s (suc i) hi → AreParams F s i hi
  are-param p hi x i k high e g =
      let rows = RowsAre-none F s i in
      let fits = Fits-simple F s p i i (Param x k) e refl (λ _. high) (λ a q. absurd q) in
      let row = RowIs-fits F s p i i i (Param x k) e (omega arith) rows refl fits in
      record {
        low = omega (arith, g.low);
        rows = RowsAre-both F s i (suc i) hi (omega arith) (RowsAre-suc F s i i rows row) g.rows;
        param = λ j c d. elim (cases_lt j (suc i)) [
          | inl f ↦ let z : j ≡ i = omega arith in ap (λ l. is_param (at F l).node) z ∙ ap (λ (r : Row). is_param r.node) e
          | inr f ↦ g.param j f d
        ];
        block = λ j c d. elim (cases_lt j (suc i)) [
          | inl f ↦ let z : j ≡ i = omega arith in ap (λ l. (at F l).block) z ∙ ap (λ (r : Row). r.block) e
          | inr f ↦ g.block j f d
        ];
      }
