-- What the rows of a loop are, and what a `while` has of its own.
use Rattle.std.proofs.Common.{◌≡◌, ◌<◌, ◌≤◌, ◌+◌, ℕ, suc, true, false, List, length, refl, sym}
use Rattle.std.proofs.Common.{ap, ◌∙◌, subst, arith}
use Rattle.std.proofs.lemmas.Bool.{false≢true}
use Rattle.id_table.specs.declared.row.Row.{Row}
use Rattle.id_table.specs.declared.row.Stand.{Stand}
use Rattle.id_table.specs.declared.row.Node.{Node}
use Rattle.id_table.specs.declared.row.Node.TheVariants.{Start, LoopHead, Variable, Entries, Switches, Turn, NextUse}
use Rattle.id_table.specs.declared.row.Node.TheVariants.{Next, Body, Reset, Loop, Carried, Within, Count, Index, Span}
use Rattle.id_table.specs.Rows.{arm, at, in_top, top}
use Rattle.id_table.specs.Tables.{can_be_on, is_expression, is_in_loop, is_statement, is_within}
use Rattle.id_table.specs.Loops.{AreCarried, Begins, HaveCarried, IsTest, IsTurn, StandsAt, nothing, plainly, predicate}
use Rattle.id_table.specs.Loops.{right}
use Rattle.id_table.specs.Turns.{Root, TurnedIn, in_block}
use Rattle.id_table.proofs.HasLemmas.{row_in}
use Rattle.id_table.proofs.RowLemmas.{Fits, Fits-simple, RowIs, RowsAre, RowsAre-none, StandsHere, is_mark}
use Rattle.id_table.proofs.ExpressionLemmas.{AreExpression}
use Rattle.id_table.proofs.NextLemmas.{AreNexts, VariableAt, behind-head, is_of_next, no_part}

-- the row i is a marker of the loop at the row n, in q, and stands where it ought to
pub record IsMark (F : List Row) (q : Stand) (h e w u d n i : ℕ) : Type 0 where
  pub place : ℕ
  pub value : ℕ
  pub node : Node
  pub row : at F i ≡ row_in q place i value node
  pub mark : is_mark node ≡ true
  pub stands : StandsAt h e w u d n node i
  pub fits : Fits F q i i value node

-- the rows from f up to the `Start` at lo are those of the bounds of an index, if the loop at the row n has one
pub record AreBefore (F : List Row) (s : Stand) (f lo c n : ℕ) : Type 0 where
  pub low : f ≤ lo
  pub rows : RowsAre F s f lo
  pub from : Begins F lo n c
  pub turned : TurnedIn F s.region n → (i : ℕ) → f ≤ i → i < lo → can_be_on (at F i).node ≡ true → TurnedIn F (at F i).region i
  pub held : (i : ℕ) → f ≤ i → i < lo → is_statement (at F i).node ≡ true → in_block F i lo ≡ true

-- the rows between the entries at e and the switches at w are those of the predicate, or of what is in its place; the
-- last of them is t
pub record AreTest (F : List Row) (h e t w c : ℕ) : Type 0 where
  pub is : IsTest F h t c
  pub low : e < t
  pub first : (at F t).first ≡ suc e
  pub stands : StandsHere F (in_top h) t
  pub rows : (i : ℕ) → e < i → i < w → RowIs F (in_top h) h i (at F i)
  pub behind : (i : ℕ) → e < i → i < w → e < (at F i).first
  pub own : (i : ℕ) → e < i → i < w → (at F i).block ≡ h → is_in_loop (at F i).node ≡ true → (is_within (at F i).node ≡ true) × (i + 1 ≡ w)
  pub turned : (i : ℕ) → e < i → i < w → can_be_on (at F i).node ≡ true → TurnedIn F (at F i).region i
  pub held : (i : ℕ) → e < i → i < w → is_statement (at F i).node ≡ true → in_block F i w ≡ true

-- the rows from f on are those of a loop at the row n, which carries c entries on beside those of its variables: its head
-- behind its `Start` at lo, its variables up to its entries at e, its switches at w behind the row t, its `Turn` at u, its
-- statements from the row m on, the end d of its body, and its last expression, the last row of which is l
pub record LoopRows (F : List Row) (s : Stand) (p f lo c e t w u m d l n : ℕ) : Type 0 where
  pub within : n < length F
  pub ends : n ≡ suc (suc (suc l))
  pub start : at F lo ≡ row_in s p lo lo Start
  pub head : at F (suc lo) ≡ row_in (in_top (suc lo)) p (suc lo) (suc lo) (LoopHead lo)
  pub count : ℕ
  pub many : e ≡ suc (suc lo) + c + count
  pub variable : (k : ℕ) → c ≤ k → k < c + count → VariableAt F (suc lo) (suc lo + 1 + k)
  pub entries : at F e ≡ row_in (in_top (suc lo)) p e e Entries
  pub test_ends : suc t ≡ w
  pub test_low : e < t
  pub switches : at F w ≡ row_in (in_top (suc lo)) p (suc e) w (Switches t)
  pub turn_low : w < u
  pub begins : u < m
  pub body : AreNexts F (arm (in_top (suc lo)) w true) c (c + count) m d
  pub body_end : at F d ≡ row_in (arm (in_top (suc lo)) w true) p (suc u) d Body
  pub last : AreExpression F (arm (in_top (suc lo)) w false) (suc d) (suc l)
  pub reset : at F (suc l) ≡ row_in (arm (in_top (suc lo)) w false) p (suc d) (suc l) (Reset l)
  pub span : at F (suc (suc l)) ≡ row_in s p lo (suc (suc l)) Span
  pub row : at F n ≡ row_in s p f n (Loop (suc lo) w l)

-- and what tells a `while` from a `for`: what is before the `Start`, what is carried on, the predicate, and what begins
-- the body
pub record OwnRows (F : List Row) (s : Stand) (p f lo c e t w u m d n : ℕ) : Type 0 where
  pub before : AreBefore F s f lo c n
  pub carried : AreCarried F (suc lo) c
  pub carried_rows : (i : ℕ) → suc lo < i → i ≤ suc lo + c → IsMark F (in_top (suc lo)) (suc lo) e w u d n i
  pub test : AreTest F (suc lo) e t w c
  pub turns : IsTurn F w u c
  pub turn : (at F u).node ≡ Turn
  pub turn_rows : (i : ℕ) → w < i → i < m → IsMark F (arm (in_top (suc lo)) w true) (suc lo) e w u d n i
  pub turn_places : (i : ℕ) → w < i → i ≤ u → (at F i).place ≡ p
  pub places : HaveCarried F n (suc lo) w c

-- a row that is no part of a loop's block may stand anywhere in it
pub stands-none : (h e w u b n i : ℕ) (m : Node) → is_in_loop m ≡ false → StandsAt h e w u b n m i
stands-none h e w u b n i (LoopHead s) z = absurd (false≢true (sym z))
stands-none h e w u b n i (Carried y) z = absurd (false≢true (sym z))
stands-none h e w u b n i Variable z = absurd (false≢true (sym z))
stands-none h e w u b n i Entries z = absurd (false≢true (sym z))
stands-none h e w u b n i (Within f) z = absurd (false≢true (sym z))
stands-none h e w u b n i (Switches t) z = absurd (false≢true (sym z))
stands-none h e w u b n i Count z = absurd (false≢true (sym z))
stands-none h e w u b n i Turn z = absurd (false≢true (sym z))
stands-none h e w u b n i (Index x) z = absurd (false≢true (sym z))
stands-none h e w u b n i (NextUse x) z = absurd (false≢true (sym z))
stands-none h e w u b n i (Next x k o v) z = absurd (false≢true (sym z))
stands-none h e w u b n i Body z = absurd (false≢true (sym z))
stands-none h e w u b n i (Reset v) z = absurd (false≢true (sym z))
stands-none h e w u b n i _ z = tt

-- one before the switches stands where it ought to if it is right before them
pub stands-test : (h e w u b n i : ℕ) (m : Node) → (is_in_loop m ≡ true → (is_within m ≡ true) × (i + 1 ≡ w)) → StandsAt h e w u b n m i
stands-test h e w u b n i (Within f) z = (z refl).1
stands-test h e w u b n i (LoopHead s) z = absurd (false≢true (z refl).0)
stands-test h e w u b n i (Carried y) z = absurd (false≢true (z refl).0)
stands-test h e w u b n i Variable z = absurd (false≢true (z refl).0)
stands-test h e w u b n i Entries z = absurd (false≢true (z refl).0)
stands-test h e w u b n i (Switches t) z = absurd (false≢true (z refl).0)
stands-test h e w u b n i Count z = absurd (false≢true (z refl).0)
stands-test h e w u b n i Turn z = absurd (false≢true (z refl).0)
stands-test h e w u b n i (Index x) z = absurd (false≢true (z refl).0)
stands-test h e w u b n i (NextUse x) z = absurd (false≢true (z refl).0)
stands-test h e w u b n i (Next x k o v) z = absurd (false≢true (z refl).0)
stands-test h e w u b n i Body z = absurd (false≢true (z refl).0)
stands-test h e w u b n i (Reset v) z = absurd (false≢true (z refl).0)
stands-test h e w u b n i _ z = tt

-- the rows of the statements of a body stand in it
pub stands-next : (h e w u b n i : ℕ) (m : Node) → u < i → i < b → (is_in_loop m ≡ true → is_of_next m ≡ true) → StandsAt h e w u b n m i
stands-next h e w u b n i (NextUse x) l k z = (l, k)
stands-next h e w u b n i (Next x j o v) l k z = (l, k)
stands-next h e w u b n i (LoopHead s) l k z = absurd (false≢true (z refl))
stands-next h e w u b n i (Carried y) l k z = absurd (false≢true (z refl))
stands-next h e w u b n i Variable l k z = absurd (false≢true (z refl))
stands-next h e w u b n i Entries l k z = absurd (false≢true (z refl))
stands-next h e w u b n i (Within f) l k z = absurd (false≢true (z refl))
stands-next h e w u b n i (Switches t) l k z = absurd (false≢true (z refl))
stands-next h e w u b n i Count l k z = absurd (false≢true (z refl))
stands-next h e w u b n i Turn l k z = absurd (false≢true (z refl))
stands-next h e w u b n i (Index x) l k z = absurd (false≢true (z refl))
stands-next h e w u b n i Body l k z = absurd (false≢true (z refl))
stands-next h e w u b n i (Reset v) l k z = absurd (false≢true (z refl))
stands-next h e w u b n i _ l k z = tt

-- an expression is nothing that stands in the place of a predicate
expression_no_within : (n : Node) → is_expression n ≡ true → is_within n ≡ false
expression_no_within (Within f) e = absurd (false≢true e)
expression_no_within _ e = refl

-- the predicate of a `while`
test-expression : (F : List Row) (h e t w : ℕ) → h < suc e → AreExpression F (in_top h) (suc e) w → suc t ≡ w → w < length F → (at F w).node ≡ Switches t
    → (at F w).region ≡ top h → AreTest F h e t w 0
test-expression F h e t w low test ends within node region =
    let same : test.end ≡ t = omega (arith, test.ends, ends) in
    let is : is_expression (at F t).node ≡ true = ap (λ k. is_expression (at F k).node) (sym same) ∙ test.expression in
    record {
      is = predicate is;
      low = omega (arith, test.low, same);
      first = ap (λ k. (at F k).first) (sym same) ∙ test.first;
      stands = (ap (λ k. (at F k).block) (sym same) ∙ test.block, ap (λ k. (at F k).region) (sym same) ∙ test.region);
      rows = λ i c f. behind-head F (in_top h) (suc e) i (omega (arith, low)) (test.rows i c f);
      behind = λ i c f. (test.rows i c f).low;
      own = λ i c f z q. absurd (false≢true (sym (no_part F (in_top h) (suc e) i low (test.rows i c f) z) ∙ q));
      turned = λ i c f k.
          let on = subst (λ r. TurnedIn F r t) region (TurnedIn.root (Root.of_test within node (expression_no_within (at F t).node is))) in
          test.turned (subst (TurnedIn F (top h)) (sym same) on) i c f k;
      held = λ i c f k. test.held i c f k;
    }

-- what a `while` has of its own
pub while-own : (F : List Row) (s : Stand) (p lo e t w d l n : ℕ) → LoopRows F s p lo lo 0 e t w (suc w) (suc (suc w)) d l n
    → AreExpression F (in_top (suc lo)) (suc e) w → at F (suc w) ≡ row_in (arm (in_top (suc lo)) w true) p (suc w) (suc w) Turn
    → OwnRows F s p lo lo 0 e t w (suc w) (suc (suc w)) d n
while-own F s p lo e t w d l n b test turn =
    let within : w < length F = omega (arith, b.within, b.ends, b.last.low, b.last.ends, b.body.low) in
    let node : (at F (suc w)).node ≡ Turn = ap (λ (r : Row). r.node) turn in
    record {
      before = record {
        low = omega arith;
        rows = RowsAre-none F s lo;
        from = plainly (ap (λ (r : Row). r.first) b.row);
        turned = λ _ i c f. absurd (omega arith);
        held = λ i c f. absurd (omega arith);
      };
      carried = nothing;
      carried_rows = λ i c f. absurd (omega arith);
      test = test-expression F (suc lo) e t w (omega (arith, b.many)) test b.test_ends within (ap (λ (r : Row). r.node) b.switches)
          (ap (λ (r : Row). r.region) b.switches);
      turns = right (omega arith);
      turn = node;
      turn_rows = λ i c f.
          let z : suc w ≡ i = omega arith in
          subst (IsMark F (arm (in_top (suc lo)) w true) (suc lo) e w (suc w) d n) z (record {
            place = p;
            value = suc w;
            node = Turn;
            row = turn;
            mark = refl;
            stands = refl;
            fits = Fits-simple F (arm (in_top (suc lo)) w true) p (suc w) (suc w) Turn turn refl (λ h. absurd (false≢true h)) (λ a h. absurd h);
          });
      turn_places = λ i c f. let z : suc w ≡ i = omega arith in subst (λ k. (at F k).place ≡ p) z (ap (λ (r : Row). r.place) turn);
      places = record {
        index = λ z. absurd (omega arith);
        bound = λ z. absurd (omega arith);
        flag = λ z. absurd (omega arith);
        within = λ z. absurd (omega arith);
      };
    }
