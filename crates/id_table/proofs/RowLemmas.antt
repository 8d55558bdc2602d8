-- What is true of each row that a form adds.
use Rattle.std.proofs.Common.{◌≡◌, ◌⊎◌, inl, inr, ◌<◌, ◌≤◌, ◌+◌, ℕ, suc, Bool, true, false, ◌&&◌, not, List, refl, sym, ap, ◌∙◌, subst, arith}
use Rattle.std.proofs.lemmas.Bool.{cases_lt, false≢true}
use Rattle.id_table.specs.declared.row.Row.{Row}
use Rattle.id_table.specs.declared.row.Stand.{Stand}
use Rattle.id_table.specs.declared.row.Node.{Node}
use Rattle.id_table.specs.declared.row.Node.TheVariants.{Head, Literal, Name, Unary, Binary, Split, If, Enter, Arg, Call, Block, Def, Program}
use Rattle.id_table.specs.declared.row.Node.TheVariants.{Start, LoopHead, Variable, Switches, NextUse, Next, Body, Loop}
use Rattle.id_table.specs.declared.row.Node.TheVariants.{Bounds, Carried, Within, Count, Turn, Index, Span}
use Rattle.id_table.specs.declared.row.Node.TheVariants.{Array, Fetch, Address, Store}
use Rattle.id_table.proofs.BlockLemmas.{and_both}
use Rattle.id_table.specs.Rows.{at, top}
use Rattle.id_table.specs.Tables.{HasNear, HasOperand, HasPart, begins_block, can_be_on, has_statements, is_block, is_expression, is_in_loop}
use Rattle.id_table.specs.Tables.{is_next, is_statement, is_top}
use Rattle.id_table.specs.Calls.{AreArgs, IsArgIn, IsCallOf, IsEnterOf}
use Rattle.id_table.specs.Stores.{IsAddressOf, IsStoreOf}
use Rattle.id_table.specs.Loops.{IsBody, IsLoop, IsLoopOf, IsNextIn, IsNextOf, IsTurn, StandsInSide, behind_count, right}
use Rattle.id_table.specs.Regions.{AreArms, IsIfOf, IsSplitOf, Lies, StandsInArm, here, in_arm, in_loop, in_side}
use Rattle.id_table.specs.Turns.{in_block}
use Rattle.id_table.proofs.HasLemmas.{row_in}

-- whether the row of this node is no definition's head or end, and not the table's
abbrev pub is_inner : Node → Bool
is_inner Head = false
is_inner (Def x h k b) = false
is_inner Program = false
is_inner _ = true

-- whether besides it is no part of a loop that stands in the loop's block
abbrev pub is_plain : Node → Bool
is_plain n = is_inner n && not (is_in_loop n)

-- whether besides a row of this node is of no conditional, no call, no loop and no store, or a row between the others of
-- one, and gives its own value
abbrev pub is_simple : Node → Bool
is_simple (Split t) = false
is_simple (If s x y) = false
is_simple (Enter x) = false
is_simple (Arg e i v) = false
is_simple (Call e c) = false
is_simple (Block b) = false
is_simple (Bounds a b) = false
is_simple Start = false
is_simple (LoopHead t) = false
is_simple Variable = false
is_simple (Within f) = false
is_simple (Switches t) = false
is_simple (Index x) = false
is_simple (NextUse x) = false
is_simple (Next x k o v) = false
is_simple Body = false
is_simple Span = false
is_simple (Loop h w l) = false
is_simple (Address t i) = false
is_simple (Store a v) = false
is_simple n = is_inner n

-- whether the value of a row of this node is its own
abbrev pub gives_itself : Node → Bool
gives_itself (Block b) = false
gives_itself (Within f) = false
gives_itself n = true

-- whether a row of this node is such a marker of a loop's block: one that only a `for` has, or a `Turn`
abbrev pub is_mark : Node → Bool
is_mark (Carried k) = true
is_mark (Within f) = true
is_mark Count = true
is_mark Turn = true
is_mark (Index x) = true
is_mark n = false

-- the value v of the row i is given right in this stand
pub record GivesValue (F : List Row) (s : Stand) (i v : ℕ) : Type 0 where
  pub within : v ≤ i
  pub expression : is_expression (at F v).node ≡ true
  pub no_block : is_block (at F v).node ≡ false
  pub region : (at F v).region ≡ s.region
  pub block : (at F v).block ≡ s.block

-- the row a stands right in this stand
abbrev pub StandsHere : List Row → Stand → ℕ → Type 0
StandsHere F s a = ((at F a).block ≡ s.block) × ((at F a).region ≡ s.region)

-- the row a stands in this stand, or further in
abbrev pub StandsWithin : List Row → Stand → ℕ → Type 0
StandsWithin F s a = Lies F s.region (at F a).region

-- where a row is
abbrev pub stand_of : Row → Stand
stand_of r = record { block = r.block; region = r.region }

-- the body of a loop ends behind its switches
pub turn_low : {R : List Row} {w t c : ℕ} → IsTurn R w t c → w < t
turn_low (right e) = omega arith
turn_low (behind_count e f g) = omega arith

pub body_low : {R : List Row} {h w t b c : ℕ} → IsBody R h w t b c → w < b
body_low z = let l = turn_low z.turns in omega (arith, z.low)

-- the `next` statement at the row i belongs to a loop
pub record IsNextOfLoop (F : List Row) (i k x o : ℕ) : Type 0 where
  pub loop : ℕ
  pub of : IsLoopOf F loop (at F i).block
  pub inside : IsNextIn F loop i (at F i).block of.switches k x o

-- the switches at the row i belong to a loop
pub record AreSwitchesOf (F : List Row) (i : ℕ) : Type 0 where
  pub loop : ℕ
  pub of : IsLoopOf F loop (at F i).block
  pub own : of.switches ≡ i

-- the use of the outer name x at the row i belongs to a `next` statement
pub record IsUseOf (F : List Row) (i x : ℕ) : Type 0 where
  pub row : ℕ
  pub index : ℕ
  pub next : IsNextOf F row (at F i).block index x
  pub own : next.outer ≡ i

-- the variable at the row i belongs to a `next` statement
pub record IsVariableOf (F : List Row) (i : ℕ) : Type 0 where
  pub row : ℕ
  pub index : ℕ
  pub name : ℕ
  pub next : IsNextOf F row (at F i).block index name
  pub own : (at F i).block + 1 + index ≡ i

-- a row of the number i with this node, if it is one of a conditional, a call, a loop or a store, belongs to the others of it
abbrev pub Belongs : List Row → ℕ → Node → Type 0
Belongs F i (Split t) = (n : ℕ) × IsIfOf F n i
Belongs F i (If u x y) = IsSplitOf F u i × AreArms F u x y i
Belongs F i (Enter x) = (n : ℕ) × IsCallOf F n i
Belongs F i (Arg e k v) = IsArgIn F i e k v
Belongs F i (Call e c) = IsEnterOf F e i × AreArgs F e i c
Belongs F i (Bounds a b) = (n : ℕ) × IsLoopOf F n (i + 2) × ((at F n).first ≤ i)
Belongs F i Start = (n : ℕ) × IsLoopOf F n (i + 1)
Belongs F i (LoopHead t) = (n : ℕ) × IsLoopOf F n i
Belongs F i Variable = IsVariableOf F i
Belongs F i (Within f) = (at F i).value ≡ f
Belongs F i (Switches t) = AreSwitchesOf F i
Belongs F i (Index x) = (j : ℕ) × ((at F j).node ≡ Count) × (j + 2 ≡ i)
Belongs F i (NextUse x) = IsUseOf F i x
Belongs F i (Next x k o v) = IsNextOfLoop F i k x o
Belongs F i Span = (n h : ℕ) × IsLoopOf F n h × (i + 1 ≡ n)
Belongs F i (Loop h w l) = IsLoop F i h w l
Belongs F i (Address t j) = (n : ℕ) × IsStoreOf F n i
Belongs F i (Store a v) = IsAddressOf F a i v
Belongs F i _ = Unit {0}

-- a row of the number i with this node, value and first row, in this stand, fits the rows before it
pub record Fits (F : List Row) (s : Stand) (lo i v : ℕ) (n : Node) : Type 0 where
  pub formed : (a : ℕ) → HasPart n a → (lo ≤ a) × (a < i)
  pub part_stands : (a : ℕ) → HasNear n a → StandsHere F s a
  pub operand_is : (a : ℕ) → HasOperand n a → is_expression (at F a).node ≡ true
  pub value_block : (b : ℕ) → n ≡ Block b → v ≡ (at F b).value
  pub value_self : gives_itself n ≡ true → v ≡ i
  pub value : is_expression n ≡ true → GivesValue F s i v
  pub statements : has_statements n ≡ true → (b : ℕ) → lo ≤ b → b < i → is_statement (at F b).node ≡ true → in_block F b i ≡ false → StandsHere F s b
  pub at_top : is_top n ≡ true → s.region ≡ top s.block
  pub heads : begins_block n ≡ true → s.block ≡ i
  pub belongs : Belongs F i n

-- the head b of a loop's block stands among the rows from lo up to i, and the loop behind them
pub record HeadIn (F : List Row) (lo i b : ℕ) : Type 0 where
  pub low : lo ≤ b
  pub high : b ≤ i
  pub start : ℕ
  pub node : (at F b).node ≡ LoopHead start
  pub row : ℕ
  pub loop : IsLoopOf F row b
  pub before : i < row

-- the row r of the number i stands right in its block, in an arm, or in a side of the switches of a loop
abbrev pub StandsFurther : List Row → ℕ → Row → Type 0
StandsFurther F i r = (r.region ≡ top r.block) ⊎ (StandsInArm F i ⊎ StandsInSide F i)

-- the row r stands right in s
abbrev pub IsHere : Stand → Row → Type 0
IsHere s r = (r.region ≡ s.region) × (r.block ≡ s.block)

-- the row r of the number i stands in s, and its parts from the row lo on; a part of a loop in a loop that does
pub record RowIs (F : List Row) (s : Stand) (lo i : ℕ) (r : Row) : Type 0 where
  pub low : lo ≤ r.first
  pub first : r.first ≤ i
  pub nested : (j : ℕ) → r.first ≤ j → j < i → r.first ≤ (at F j).first
  pub inside : (j : ℕ) → r.first ≤ j → j < i → StandsWithin F (stand_of r) j
  pub block : ((r.block ≡ s.block) × (is_in_loop r.node ≡ false)) ⊎ HeadIn F lo i r.block
  pub region : IsHere s r ⊎ StandsFurther F i r
  pub lies : Lies F s.region r.region
  pub inner : is_inner r.node ≡ true
  pub fits : Fits F (stand_of r) r.first i r.value r.node

-- each of the rows from lo up to hi stands in s
abbrev pub RowsAre : List Row → Stand → ℕ → ℕ → Type 0
RowsAre F s lo hi = (i : ℕ) → lo ≤ i → i < hi → RowIs F s lo i (at F i)

-- a part of the next row
pub record PartIs (F : List Row) (s : Stand) (lo hi a : ℕ) : Type 0 where
  pub low : lo ≤ a
  pub before : a < hi
  pub expression : is_expression (at F a).node ≡ true
  pub stands : StandsHere F s a

-- two nodes are not one, where a test is true of the one alone
pub differs : (f : Node → Bool) (n m : Node) → f n ≡ true → f m ≡ false → n ≡ m → ⊥
differs f n m e g h = false≢true (sym g ∙ sym (ap f h) ∙ e)

abbrev body_or : ℕ → Node → ℕ
body_or d (Block a) = a
body_or d _ = d

pub body_of : (b a : ℕ) → Block b ≡ Block a → b ≡ a
body_of b a h = ap (body_or b) h

pub Lies-both : (F : List Row) {p q r : _} → Lies F p q → Lies F q r → Lies F p r
Lies-both F l here = l
Lies-both F l (in_arm w e m) = in_arm w e (Lies-both F l m)
Lies-both F l (in_loop w e m) = in_loop w e (Lies-both F l m)
Lies-both F l (in_side w e m) = in_side w e (Lies-both F l m)

pub near_part : (n : Node) (a : ℕ) → HasNear n a → HasPart n a
near_part (If s x y) a h = inl h
near_part (Loop u w l) a h = absurd h
near_part _ a h = h

pub operand_part : (n : Node) (a : ℕ) → HasOperand n a → HasPart n a
operand_part (If s x y) a h = inr h
operand_part (Arg e i v) a h = inr h
operand_part (Call e c) a h = absurd h
operand_part (Switches t) a h = absurd h
operand_part (Next x k o v) a h = inr h
operand_part (Loop u w l) a h = inr (inr h)
operand_part (Store b v) a h = inr h
operand_part (Def x h k b) a e = inr e
operand_part _ a h = h

-- a marker is none of these
pub mark_inner : (n : Node) → is_mark n ≡ true → is_inner n ≡ true
mark_inner (Carried k) e = refl
mark_inner (Within f) e = refl
mark_inner Count e = refl
mark_inner Turn e = refl
mark_inner (Index x) e = refl
mark_inner _ e = absurd (false≢true e)

pub mark_off : (n : Node) → is_mark n ≡ true → can_be_on n ≡ false
mark_off (Carried k) e = refl
mark_off (Within f) e = refl
mark_off Count e = refl
mark_off Turn e = refl
mark_off (Index x) e = refl
mark_off _ e = absurd (false≢true e)

pub mark_no_statement : (n : Node) → is_mark n ≡ true → is_statement n ≡ false
mark_no_statement (Carried k) e = refl
mark_no_statement (Within f) e = refl
mark_no_statement Count e = refl
mark_no_statement Turn e = refl
mark_no_statement (Index x) e = refl
mark_no_statement _ e = absurd (false≢true e)

pub mark_no_next : (n : Node) → is_mark n ≡ true → is_next n ≡ false
mark_no_next (Carried k) e = refl
mark_no_next (Within f) e = refl
mark_no_next Count e = refl
mark_no_next Turn e = refl
mark_no_next (Index x) e = refl
mark_no_next _ e = absurd (false≢true e)

not_false : (b : Bool) → not b ≡ true → b ≡ false
not_false true e = absurd (false≢true e)
not_false false e = refl

plain_inner : (n : Node) → is_plain n ≡ true → is_inner n ≡ true
plain_inner n e = (and_both (is_inner n) (not (is_in_loop n)) e).0

plain_out : (n : Node) → is_plain n ≡ true → is_in_loop n ≡ false
plain_out n e = not_false (is_in_loop n) (and_both (is_inner n) (not (is_in_loop n)) e).1

-- an expression is no part of a loop's own block
pub expression_plain : (n : Node) → is_expression n ≡ true → is_plain n ≡ true
expression_plain (Literal v) e = refl
expression_plain (Name x) e = refl
expression_plain (Unary o a) e = refl
expression_plain (Binary o a b) e = refl
expression_plain (If s x y) e = refl
expression_plain (Call s c) e = refl
expression_plain (Loop h w l) e = refl
expression_plain (Array nested a b) e = refl
expression_plain (Fetch t i) e = refl
expression_plain (Block b) e = refl
expression_plain _ e = absurd (false≢true e)

simple_no_block : (n : Node) → is_simple n ≡ true → is_block n ≡ false
simple_no_block (Block b) e = absurd (false≢true e)
simple_no_block _ e = refl

simple_no_statements : (n : Node) → is_simple n ≡ true → has_statements n ≡ false
simple_no_statements (Block b) e = absurd (false≢true e)
simple_no_statements Body e = absurd (false≢true e)
simple_no_statements _ e = refl

simple_no_head : (n : Node) → is_simple n ≡ true → begins_block n ≡ false
simple_no_head Head e = absurd (false≢true e)
simple_no_head (LoopHead t) e = absurd (false≢true e)
simple_no_head _ e = refl

belongs_none : (F : List Row) (i : ℕ) (n : Node) → is_simple n ≡ true → Belongs F i n
belongs_none F i (Split t) e = absurd (false≢true e)
belongs_none F i (If u x y) e = absurd (false≢true e)
belongs_none F i (Enter x) e = absurd (false≢true e)
belongs_none F i (Arg s k v) e = absurd (false≢true e)
belongs_none F i (Call s c) e = absurd (false≢true e)
belongs_none F i (Bounds a b) e = absurd (false≢true e)
belongs_none F i Start e = absurd (false≢true e)
belongs_none F i (LoopHead t) e = absurd (false≢true e)
belongs_none F i Variable e = absurd (false≢true e)
belongs_none F i (Within f) e = absurd (false≢true e)
belongs_none F i (Switches t) e = absurd (false≢true e)
belongs_none F i (Index x) e = absurd (false≢true e)
belongs_none F i (NextUse x) e = absurd (false≢true e)
belongs_none F i (Next x k o v) e = absurd (false≢true e)
belongs_none F i Body e = absurd (false≢true e)
belongs_none F i Span e = absurd (false≢true e)
belongs_none F i (Loop h w l) e = absurd (false≢true e)
belongs_none F i (Address t j) e = absurd (false≢true e)
belongs_none F i (Store a v) e = absurd (false≢true e)
belongs_none F i _ e = tt

module _ (F : List Row) where
  HeadIn-wider : (lo mid i b : ℕ) → lo ≤ mid → HeadIn F mid i b → HeadIn F lo i b
  HeadIn-wider lo mid i b l h = record {
    low = omega (arith, h.low);
    high = h.high;
    start = h.start;
    node = h.node;
    row = h.row;
    loop = h.loop;
    before = h.before;
  }

  -- a row that stands right in q, or further in, stands in s or further in, where q does
  pub RowIs-within : (s q : Stand) (lo mid i : ℕ) (r : Row) → lo ≤ mid → (q.block ≡ s.block) ⊎ HeadIn F lo i q.block → Lies F s.region q.region
      → (IsHere q r → IsHere s r ⊎ StandsFurther F i r) → RowIs F q mid i r → RowIs F s lo i r
  RowIs-within s q lo mid i r l same lies region h = record {
    low = omega (arith, h.low);
    first = h.first;
    nested = h.nested;
    inside = h.inside;
    block = elim h.block [
      | inl e ↦ elim same [ inl w ↦ inl (e.0 ∙ w, e.1) | inr k ↦ inr (subst (HeadIn F lo i) (sym e.0) k) ]
      | inr k ↦ inr (HeadIn-wider lo mid i r.block l k)
    ];
    region = elim h.region [ inl e ↦ region e | inr k ↦ inr k ];
    lies = Lies-both F lies h.lies;
    inner = h.inner;
    fits = h.fits;
  }

  pub RowsAre-none : (s : Stand) (lo : ℕ) → RowsAre F s lo lo
  RowsAre-none s lo i b c = absurd (omega arith)

  pub RowsAre-both : (s : Stand) (lo mid hi : ℕ) → lo ≤ mid → RowsAre F s lo mid → RowsAre F s mid hi → RowsAre F s lo hi
  RowsAre-both s lo mid hi l g h i b c = elim (cases_lt i mid) [
    | inl d ↦ g i b d
    | inr d ↦ RowIs-within s s lo mid i (at F i) l (inl refl) Lies.here (λ e. inl e) (h i d c)
  ]

  pub RowsAre-suc : (s : Stand) (lo hi : ℕ) → RowsAre F s lo hi → RowIs F s lo hi (at F hi) → RowsAre F s lo (suc hi)
  RowsAre-suc s lo hi g h i b c = elim (cases_lt i hi) [
    | inl d ↦ g i b d
    | inr d ↦ let e : hi ≡ i = omega arith in subst (λ k. RowIs F s lo k (at F k)) e h
  ]

  -- a row that fits those from its first row on
  pub RowIs-row : (s : Stand) (p lo f i v : ℕ) (n : Node) → at F i ≡ row_in s p f v n → lo ≤ f → f ≤ i
      → ((j : ℕ) → f ≤ j → j < i → (f ≤ (at F j).first) × StandsWithin F s j) → (is_in_loop n ≡ false) ⊎ HeadIn F lo i s.block → is_inner n ≡ true
      → Fits F s f i v n → RowIs F s lo i (at F i)
  RowIs-row s p lo f i v n e l m rows own inner fits = subst (RowIs F s lo i) (sym e) (record {
    low = l;
    first = m;
    nested = λ j b c. (rows j b c).0;
    inside = λ j b c. (rows j b c).1;
    block = elim own [ inl q ↦ inl (refl, q) | inr k ↦ inr k ];
    region = inl (refl, refl);
    lies = Lies.here;
    inner = inner;
    fits = fits;
  })

  -- a row that fits those before it
  pub RowIs-fits : (s : Stand) (p lo i v : ℕ) (n : Node) → at F i ≡ row_in s p lo v n → lo ≤ i → RowsAre F s lo i → is_plain n ≡ true → Fits F s lo i v n
      → RowIs F s lo i (at F i)
  RowIs-fits s p lo i v n e l rows plain fits =
      RowIs-row s p lo lo i v n e (omega arith) l (λ j b c. ((rows j b c).low, (rows j b c).lies)) (inl (plain_out n plain)) (plain_inner n plain) fits

  pub gives_own : (s : Stand) (p lo i : ℕ) (n : Node) → at F i ≡ row_in s p lo i n → is_expression n ≡ true → is_block n ≡ false → GivesValue F s i i
  gives_own s p lo i n e h plain = record {
    within = omega arith;
    expression = ap (λ (r : Row). is_expression r.node) e ∙ h;
    no_block = ap (λ (r : Row). is_block r.node) e ∙ plain;
    region = ap (λ (r : Row). r.region) e;
    block = ap (λ (r : Row). r.block) e;
  }

  gives_body : (s : Stand) (lo i b : ℕ) → PartIs F s lo i b → RowIs F s lo b (at F b) → GivesValue F s i (at F b).value
  gives_body s lo i b part body =
      let g = body.fits.value part.expression in
      record {
        within = omega (arith, g.within, part.before);
        expression = g.expression;
        no_block = g.no_block;
        region = g.region ∙ part.stands.1;
        block = g.block ∙ part.stands.0;
      }

  -- a simple row fits behind its parts
  pub Fits-simple : (s : Stand) (p lo i : ℕ) (n : Node) → at F i ≡ row_in s p lo i n → is_simple n ≡ true → (is_top n ≡ true → s.region ≡ top s.block)
      → ((a : ℕ) → HasPart n a → PartIs F s lo i a) → Fits F s lo i i n
  Fits-simple s p lo i n e simple high parts =
      let plain = simple_no_block n simple in
      record {
        formed = λ a h. let q = parts a h in (q.low, q.before);
        part_stands = λ a h. (parts a (near_part n a h)).stands;
        operand_is = λ a h. (parts a (operand_part n a h)).expression;
        value_block = λ b h. absurd (differs is_simple n (Block b) simple refl h);
        value_self = λ h. refl;
        value = λ h. gives_own s p lo i n e h plain;
        statements = λ h. absurd (false≢true (sym (simple_no_statements n simple) ∙ h));
        at_top = high;
        heads = λ h. absurd (false≢true (sym (simple_no_head n simple) ∙ h));
        belongs = belongs_none F i n simple;
      }

  -- a block fits behind its body, whose value it has
  pub Fits-block : (s : Stand) (lo i b v : ℕ) → v ≡ (at F b).value → PartIs F s lo i b → RowIs F s lo b (at F b)
      → ((c : ℕ) → lo ≤ c → c < i → is_statement (at F c).node ≡ true → in_block F c i ≡ false → StandsHere F s c)
      → Fits F s lo i v (Block b)
  Fits-block s lo i b v same part body statements = record {
    formed = λ a h. subst (λ k. (lo ≤ k) × (k < i)) (sym h) (part.low, part.before);
    part_stands = λ a h. subst (StandsHere F s) (sym h) part.stands;
    operand_is = λ a h. subst (λ k. is_expression (at F k).node ≡ true) (sym h) part.expression;
    value_block = λ a h. same ∙ ap (λ k. (at F k).value) (body_of b a h);
    value_self = λ h. absurd (false≢true h);
    value = λ h. subst (GivesValue F s i) (sym same) (gives_body s lo i b part body);
    statements = λ h. statements;
    at_top = λ h. absurd (false≢true h);
    heads = λ h. absurd (false≢true h);
    belongs = tt;
  }
