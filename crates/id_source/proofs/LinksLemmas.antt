-- What is true of the links of a program: what its rows turn On, what they read, and what asks for them.
use Rattle.std.proofs.Common.{◌≡◌, ◌⊎◌, inl, inr, ℕ, zero, suc, ◌≤◌, ◌<◌, Bool, true, false, ◌||◌, ◌&&◌, nat_lt, nat_le}
use Rattle.std.proofs.Common.{if◌then◌else◌, Some, None, Option}
use Rattle.std.proofs.Common.{List, [], ◌∷◌, ◌++◌, length, refl, ap, sym, ◌∙◌, subst, arith}
use Rattle.std.specs.Prelude.{slice_get}
use Rattle.std.proofs.lemmas.Bool.{lt-leb, le-leb, le-ltb, lt-ltb}
use Rattle.std.proofs.lemmas.Bool.Decides.{eqb_tells}
use Rattle.std.proofs.lemmas.Option.{slice_get_within}
use Rattle.id_value.specs.List.{Among}
use Rattle.id_value.proofs.AmongLemmas.{Among-either, Among-from_at, Among-left, Among-right}
use Rattle.id_check.specs.declared.checked.Checked.{Checked}
use Rattle.id_check.specs.Programs.{rows}
use Rattle.id_source.specs.declared.edges.Edges.{Edges}
use Rattle.id_table.specs.declared.row.Row.{Row}
use Rattle.id_table.specs.declared.row.Node.{Node}
use Rattle.id_table.specs.declared.row.Node.TheVariants.{Unary, Binary, Split, If, Call, Next, Body, Loop, Block}
use Rattle.id_table.specs.declared.row.Node.TheVariants.{Binding}
use Rattle.id_table.specs.declared.row.Node.TheVariants.{Array, Fetch, Address, Store, Bounds}
use Rattle.id_table.specs.declared.row.Region.{Region}
use Rattle.id_table.specs.Loops.{bounds_row, lower_at, lower_of, upper_at, upper_of}
use Rattle.id_table.specs.Rows.{arm_at, at}
use Rattle.id_table.specs.Tables.{around, has_statements, is_call, is_statement, is_switches}
use Rattle.id_table.specs.Turns.{IsStatement, Turns, operand, left, right, test, argument, body, statement, in_block}
use Rattle.id_table.specs.Turns.{index_low, index_high, low, high, fetched, fetch_index, address_target, address_index}
use Rattle.id_table.specs.Turns.{stored, stored_value}
use Rattle.id_source.specs.declared.links.Statement.{Statement}
use Rattle.id_source.specs.Links.{AreArgsTo, AreNone, AreOpen, AreReadsTo, AreTurnsTo, From, Gains, GainsFrom, GainsTo}
use Rattle.id_source.specs.Links.{Leads, PartTurns, Statements}
use Rattle.id_source.specs.Links.{Statements_at, TakesAll, TurnsOn, asker_at, beyond, linked_at, linked_of}
use Rattle.id_source.specs.Links.{nexts_turned, of_binding}
use Rattle.id_source.specs.Links.{index_of, of_next, of_store, parts_turned, some_row, switches_of, target_of, test_of}
use Rattle.id_source.specs.Links.{BodyTurns, turned_by, width}
use Rattle.id_source.proofs.AroundLemmas.{around-within}
use Rattle.id_source.proofs.EdgesLemmas.{GainsBy, gains-by, some-among}

-- ---- what expressions turn On

-- what stands in a list with one more stands in the list, or it is that one
slice_get-either : (ss : List Statement) (x : Statement) (i : ℕ) (s : Statement) → slice_get (ss ++ x ∷ []) i ≡ Some s
    → (slice_get ss i ≡ Some s) ⊎ ((i ≡ length ss) × (s ≡ x))
slice_get-either [] x zero s h = inr (refl, let e : x ≡ s = cc in sym e)
slice_get-either [] x (suc i) s h = cc
slice_get-either (y ∷ ss) x zero s h = inl h
slice_get-either (y ∷ ss) x (suc i) s h =
    elim (slice_get-either ss x i s h) [ inl k ↦ inl k | inr k ↦ inr (let e = k.0 in omega arith, k.1) ]

or-false : (b c : Bool) → b || c ≡ false → (b ≡ false) × (c ≡ false)
or-false false c h = (refl, h)
or-false true c h = cc

both-false : (b c : Bool) → b ≡ false → c ≡ false → b || c ≡ false
both-false false c e h = h
both-false true c e h = cc

and-true : (b c : Bool) → b ≡ true → c ≡ true → b && c ≡ true
and-true true c e h = h
and-true false c e h = cc

and-both : (b c : Bool) → b && c ≡ true → (b ≡ true) × (c ≡ true)
and-both true c h = (refl, h)
and-both false c h = cc

and-first : (b c : Bool) → b ≡ false → b && c ≡ false
and-first false c h = refl
and-first true c h = cc

and-second : (b c : Bool) → b ≡ true → b && c ≡ false → c ≡ false
and-second true c e h = h
and-second false c e h = cc

around-true : (R : List Row) (s i : ℕ) → (at R s).first ≤ i → i < s → around R s i ≡ true
around-true R s i l b = and-true (nat_le (at R s).first i) (nat_lt i s) (le-leb (at R s).first i l) (lt-ltb i s b)

and-late : (b c : Bool) → c ≡ false → b && c ≡ false
and-late true c h = h
and-late false c h = refl

true≢false : true ≡ false → ⊥
true≢false e = cc

-- no block round a row stands before it
in_block-before : (R : List Row) (i s : ℕ) → s ≤ suc i → in_block R i s ≡ false
in_block-before R i zero l = refl
in_block-before R i (suc s) l =
    let b : nat_lt i s ≡ false = le-ltb i s (omega arith) in
    let k : around R s i ≡ false = and-late (nat_le (at R s).first i) (nat_lt i s) b in
    both-false (in_block R i s) (has_statements (at R s).node && around R s i) (in_block-before R i s (omega arith))
    (and-late (has_statements (at R s).node) (around R s i) k)

-- a statement of the block at the row n turns this one On
abbrev Stated : List Row → ℕ → ℕ → Type 0
Stated R n a = (m : ℕ) × IsStatement R n m × (turned_by m (at R m).node ≡ Some a)

-- what turns another on with it is a statement
turned-statement : (m a : ℕ) (z : Node) → turned_by m z ≡ Some a → is_statement z ≡ true
turned-statement m a (Binding x b) e = refl
turned-statement m a (Store b x) e = refl
turned-statement m a _ e = cc

-- and has no statements
plain-statement : (m a : ℕ) (z : Node) → turned_by m z ≡ Some a → has_statements z ≡ false
plain-statement m a (Binding x b) e = refl
plain-statement m a (Store b x) e = refl
plain-statement m a _ e = cc

-- what an expression or store turns On is a part, or what is turned on with a statement
turned-part : (R : List Row) (n a : ℕ) → is_call (at R n).node ≡ false → Turns R n a
    → Among a (parts_turned R (at R n).node) ⊎ Stated R n a
turned-part R n a k (operand {o = o} e) =
    let P : Node → Type 0 = λ z. Among a (parts_turned R z) in inl (subst P (sym e) (inl refl))
turned-part R n a k (left {b = b} {o = o} e) =
    let P : Node → Type 0 = λ z. Among a (parts_turned R z) in inl (subst P (sym e) (inl refl))
turned-part R n a k (right {b = b} {o = o} e) =
    let P : Node → Type 0 = λ z. Among a (parts_turned R z) in inl (subst P (sym e) (inr (inl refl)))
turned-part R n a k (test e f) =
    let P : Node → Type 0 = λ z. Among a (parts_turned R z) in
    let Q : Node → Type 0 = λ z. Among a (some_row (test_of z)) in
    inl (subst P (sym e) (subst Q (sym f) (inl refl)))
turned-part R n a k (argument e l f) = let c : true ≡ false = sym (ap is_call e) ∙ k in absurd (true≢false c)
turned-part R n a k (index_low {h = h} e f) =
    let P : Node → Type 0 = λ z. Among a (parts_turned R z) in
    let l = lower_at R h in
    inl (subst P (sym e) (Among-left a (some_row l) (some_row (upper_at R h)) (some-among l a (ap lower_of f))))
turned-part R n a k (index_high {h = h} e f) =
    let P : Node → Type 0 = λ z. Among a (parts_turned R z) in
    let u = upper_at R h in
    inl (subst P (sym e) (Among-right a (some_row (lower_at R h)) (some_row u) (some-among u a (ap upper_of f))))
turned-part R n a k (body e) =
    let P : Node → Type 0 = λ z. Among a (parts_turned R z) in inl (subst P (sym e) (inl refl))
turned-part R n a k (low {b = b} e) =
    let P : Node → Type 0 = λ z. Among a (parts_turned R z) in inl (subst P (sym e) (inl refl))
turned-part R n a k (high {a = b} e) =
    let P : Node → Type 0 = λ z. Among a (parts_turned R z) in inl (subst P (sym e) (inr (inl refl)))
turned-part R n a k (fetched {i = i} e) =
    let P : Node → Type 0 = λ z. Among a (parts_turned R z) in inl (subst P (sym e) (inl refl))
turned-part R n a k (fetch_index {t = t} e) =
    let P : Node → Type 0 = λ z. Among a (parts_turned R z) in inl (subst P (sym e) (inr (inl refl)))
turned-part R n a k (address_target {a = b} {v = x} e f) =
    let P : Node → Type 0 = λ z. Among a (parts_turned R z) in
    let t = target_of (at R b).node in
    let i = index_of (at R b).node in
    inl (subst P (sym e) (Among-left a (some_row t) (some_row i ++ x ∷ []) (some-among t a (ap target_of f))))
turned-part R n a k (address_index {a = b} {v = x} e f) =
    let P : Node → Type 0 = λ z. Among a (parts_turned R z) in
    let t = target_of (at R b).node in
    let i = index_of (at R b).node in
    inl (subst P (sym e)
    (Among-right a (some_row t) (some_row i ++ x ∷ [])
    (Among-left a (some_row i) (x ∷ []) (some-among i a (ap index_of f)))))
turned-part R n a k (stored_value {a = b} e) =
    let P : Node → Type 0 = λ z. Among a (parts_turned R z) in
    let t = target_of (at R b).node in
    let i = index_of (at R b).node in
    inl (subst P (sym e)
    (Among-right a (some_row t) (some_row i ++ a ∷ []) (Among-right a (some_row i) (a ∷ []) (inl refl))))
turned-part R n a k (statement {m = m} {x = x} b s e) = inr (m, s, ap (λ z. turned_by m z) e)
turned-part R n a k (stored {m = m} b s e) = inr (m, s, ap (λ z. turned_by m z) e)

part-turned : (R : List Row) (n a : ℕ) (z : Node) → (at R n).node ≡ z → Among a (parts_turned R z) → Turns R n a
part-turned R n a (Unary o b) e (inl q) = let P : ℕ → Type 0 = λ c. Turns R n c in subst P (sym q) (operand e)
part-turned R n a (Unary o b) e (inr f) = absurd f
part-turned R n a (Binary o b c) e (inl q) = let P : ℕ → Type 0 = λ d. Turns R n d in subst P (sym q) (left e)
part-turned R n a (Binary o b c) e (inr (inl q)) = let P : ℕ → Type 0 = λ d. Turns R n d in subst P (sym q) (right e)
part-turned R n a (Binary o b c) e (inr (inr f)) = absurd f
part-turned R n a (If s x y) e h = go (at R s).node refl h
  where
    go : (m : Node) → (at R s).node ≡ m → Among a (some_row (test_of m)) → Turns R n a
    go (Split t) f (inl q) = let P : ℕ → Type 0 = λ c. Turns R n c in subst P (sym q) (test e f)
    go (Split t) f (inr k) = absurd k
    go _ f k = absurd k
part-turned R n a (Loop h w l) e k = elim (Among-either a (some_row (lower_at R h)) (some_row (upper_at R h)) k) [
  | inl j ↦ by_lower (at R (bounds_row h)).node refl j
  | inr j ↦ by_upper (at R (bounds_row h)).node refl j
]
  where
    by_lower : (m : Node) → (at R (bounds_row h)).node ≡ m → Among a (some_row (lower_of m)) → Turns R n a
    by_lower (Bounds b c) f (inl q) = let P : ℕ → Type 0 = λ d. Turns R n d in subst P (sym q) (index_low e f)
    by_lower (Bounds b c) f (inr i) = absurd i
    by_lower _ f i = absurd i

    by_upper : (m : Node) → (at R (bounds_row h)).node ≡ m → Among a (some_row (upper_of m)) → Turns R n a
    by_upper (Bounds b c) f (inl q) = let P : ℕ → Type 0 = λ d. Turns R n d in subst P (sym q) (index_high e f)
    by_upper (Bounds b c) f (inr i) = absurd i
    by_upper _ f i = absurd i
part-turned R n a (Block b) e (inl q) = let P : ℕ → Type 0 = λ c. Turns R n c in subst P (sym q) (body e)
part-turned R n a (Block b) e (inr f) = absurd f
part-turned R n a (Array nested b c) e (inl q) = let P : ℕ → Type 0 = λ d. Turns R n d in subst P (sym q) (low e)
part-turned R n a (Array nested b c) e (inr (inl q)) = let P : ℕ → Type 0 = λ d. Turns R n d in subst P (sym q) (high e)
part-turned R n a (Array nested b c) e (inr (inr f)) = absurd f
part-turned R n a (Fetch b c) e (inl q) = let P : ℕ → Type 0 = λ d. Turns R n d in subst P (sym q) (fetched e)
part-turned R n a (Fetch b c) e (inr (inl q)) = let P : ℕ → Type 0 = λ d. Turns R n d in subst P (sym q) (fetch_index e)
part-turned R n a (Fetch b c) e (inr (inr f)) = absurd f
part-turned R n a (Store b x) e h =
    let t = target_of (at R b).node in
    let i = index_of (at R b).node in
    elim (Among-either a (some_row t) (some_row i ++ x ∷ []) h) [
      | inl k ↦ by_target (at R b).node refl k
      | inr k ↦ elim (Among-either a (some_row i) (x ∷ []) k) [
        | inl j ↦ by_index (at R b).node refl j
        | inr j ↦ elim j [
          | inl q ↦ (let P : ℕ → Type 0 = λ d. Turns R n d in
              subst P (sym q) (stored_value e))
          | inr f ↦ absurd f
        ]
      ]
    ]
  where
    by_target : (m : Node) → (at R b).node ≡ m → Among a (some_row (target_of m)) → Turns R n a
    by_target (Address t i) f (inl q) = let P : ℕ → Type 0 = λ c. Turns R n c in subst P (sym q) (address_target e f)
    by_target (Address t i) f (inr k) = absurd k
    by_target _ f k = absurd k

    by_index : (m : Node) → (at R b).node ≡ m → Among a (some_row (index_of m)) → Turns R n a
    by_index (Address t i) f (inl q) = let P : ℕ → Type 0 = λ c. Turns R n c in subst P (sym q) (address_index e f)
    by_index (Address t i) f (inr k) = absurd k
    by_index _ f k = absurd k
part-turned R n a _ e h = absurd h

-- what is turned on with a statement of a block, that block turns On
stated-turns : (R : List Row) (n b m a : ℕ) (z : Node) → (at R n).node ≡ Block b → IsStatement R n m → (at R m).node ≡ z
    → turned_by m z ≡ Some a → Turns R n a
stated-turns R n b m a (Binding x c) e s f q =
    let k : c ≡ a = cc in let P : ℕ → Type 0 = λ d. Turns R n d in subst P k (statement e s f)
stated-turns R n b m a (Store c x) e s f q =
    let k : m ≡ a = cc in let P : ℕ → Type 0 = λ d. Turns R n d in subst P k (stored e s f)
stated-turns R n b m a _ e s f q = cc

-- and with one of a loop's body, its switches do
body-stated : (R : List Row) (w b m a : ℕ) (z : Node) → b < length R → (at R b).node ≡ Body
    → (at R b).region ≡ arm_at w true → IsStatement R b m → (at R m).node ≡ z → turned_by m z ≡ Some a → BodyTurns R w a
body-stated R w b m a (Binding x c) l e r s f q =
    let k : c ≡ a = cc in let P : ℕ → Type 0 = λ d. BodyTurns R w d in subst P k (of_binding l e r s f)
body-stated R w b m a (Store c x) l e r s f q =
    let k : m ≡ a = cc in let P : ℕ → Type 0 = λ d. BodyTurns R w d in subst P k (of_store l e r s f)
body-stated R w b m a _ l e r s f q = cc

-- a call's arguments are none of these parts
part-plain : (R : List Row) (a : ℕ) (z : Node) → Among a (parts_turned R z) → is_call z ≡ false
part-plain R a (Call e c) h = absurd h
part-plain R a _ h = refl

-- the switches whose true side a row is right in
switches-by : (w h : ℕ) (side is : Bool) → (if side && is then Some h else None) ≡ Some w
    → (side ≡ true) × (is ≡ true) × (h ≡ w)
switches-by w h true true e = (refl, refl, let q : h ≡ w = cc in q)
switches-by w h true false e = cc
switches-by w h false is e = cc

region-of : ℕ → Bool → Region
region-of h b = record { head = h; side = b }

switches-some : (R : List Row) (r : Row) (w : ℕ) → switches_of R r ≡ Some w
    → (is_switches (at R w).node ≡ true) × (r.region ≡ arm_at w true)
unfolding region-of
switches-some R r w e =
    let t = switches-by w r.region.head r.region.side (is_switches (at R r.region.head).node) e in
    let P : ℕ → Type 0 = λ i. is_switches (at R i).node ≡ true in
    (subst P t.2 t.1, ap (λ b. region-of r.region.head b) t.0 ∙ ap (λ i. region-of i true) t.2)

some-switches : (R : List Row) (r : Row) (w : ℕ) → is_switches (at R w).node ≡ true → r.region ≡ arm_at w true
    → switches_of R r ≡ Some w
some-switches R r w s e =
    ap (λ g. if g.side && is_switches (at R g.head).node then Some g.head else None) e
    ∙ ap (λ b. if b then Some w else None) s

from-some : (o : Option ℕ) (n : ℕ) → From o n → o ≡ Some n
from-some None n h = absurd h
from-some (Some a) n h = ap (λ i. Some i) (sym h)

-- what a `next` turns On is its expression
next-node : (z : Node) (a : ℕ) → Among a (nexts_turned z) → (x : ℕ) × (k : ℕ) × (o : ℕ) × (z ≡ Next x k o a)
next-node (Next x k o v) a (inl q) = (x, k, o, ap (λ i. Next x k o i) (sym q))
next-node (Next x k o v) a (inr f) = absurd f
next-node _ a h = absurd h

-- at a row its parts are added, and the expression that it is the `next` of
module _ (R : List Row) (n : ℕ) (E D F : Edges) (ss : List Statement) (w : n < length R) (t : AreTurnsTo R n E)
    (o : AreOpen R n ss)
    (g : Gains E D n (parts_turned R (at R n).node))
    (f : GainsFrom D F (switches_of R (at R n)) (nexts_turned (at R n).node)) where
  more : GainsBy D F (switches_of R (at R n)) (nexts_turned (at R n).node)
  more = gains-by D F (switches_of R (at R n)) (nexts_turned (at R n).node) f

  old : (m b : ℕ) → Leads E m b → Leads F m b
  old m b h = more.kept m b (g.kept m b h)

  wide-of : width F ≡ width E
  wide-of = more.wide ∙ g.wide

  part : (a : ℕ) → Among a (parts_turned R (at R n).node) → Leads F n a
  part a h = let q = t.wide in more.kept n a (g.added a (omega arith) h)

  from : (m a : ℕ) → Leads F m a → TurnsOn R m a
  from m a h = elim (more.only m a h) [
    | inl i ↦ elim (g.only m a i) [
      | inl j ↦ t.only m a j
      | inr j ↦
          let P : ℕ → Type 0 = λ k. TurnsOn R k a in
          subst P (sym j.0) (inl (part-turned R n a (at R n).node refl j.1, part-plain R a (at R n).node j.1))
    ]
    | inr i ↦
        let z = next-node (at R n).node a i.1 in
        let s = switches-some R (at R n) m (from-some (switches_of R (at R n)) m i.0) in
        inr (s.0, of_next w z.3 s.1)
  ]

  -- with all that was there, and what this row's statements give
  parts-next : (G : Edges) → ((m b : ℕ) → Leads F m b → Leads G m b)
      → ((a m : ℕ) → IsStatement R n m → turned_by m (at R m).node ≡ Some a → is_call (at R n).node ≡ false
      → Turns R n a → Leads G n a) → (m a : ℕ) → m < suc n → m < length R → PartTurns R m a → Leads G m a
  parts-next G up stated m a l v h = elim (eqb_tells m n) [
    | inl q ↦
        let P : ℕ → Type 0 = λ j. PartTurns R j a in
        let Q : ℕ → Type 0 = λ j. Leads G j a in
        let p = subst P q.1 h in
        subst Q (sym q.1) (elim (turned-part R n a p.1 p.0) [
          | inl i ↦ up n a (part a i)
          | inr i ↦ stated a i.0 i.1 i.2 p.1 p.0
        ])
    | inr q ↦ (let s : m < n = let d = q.1 in omega arith in up m a (old m a (t.parts m a s v h)))
  ]

  nexts-next : (G : Edges) → ((m b : ℕ) → Leads F m b → Leads G m b) → (u m x k e a : ℕ) → m < suc n → m < length R
      → u < length R → is_switches (at R u).node ≡ true
      → (at R m).node ≡ Next x k e a → (at R m).region ≡ arm_at u true → Leads G u a
  nexts-next G up u m x k e a l v c is z r = elim (eqb_tells m n) [
    | inl q ↦
        let b = some-switches R (at R n) u is (ap (λ j. (at R j).region) (sym q.1) ∙ r) in
        let y : (at R n).node ≡ Next x k e a = ap (λ j. (at R j).node) (sym q.1) ∙ z in
        let A : Node → Type 0 = λ j. Among a (nexts_turned j) in
        let d = t.wide in
        let j = g.wide in
        up u a (more.added u a b (omega arith) (subst A (sym y) (inl refl)))
    | inr q ↦ (let s : m < n = let d = q.1 in omega arith in up u a (old u a (t.nexts u m x k e a s v c is z r)))
  ]

  bodies-next : (G : Edges) → ((m b : ℕ) → Leads F m b → Leads G m b)
      → ((u m a : ℕ) → u < length R → is_switches (at R u).node ≡ true → (at R n).node ≡ Body
      → (at R n).region ≡ arm_at u true → IsStatement R n m → turned_by m (at R m).node ≡ Some a → Leads G u a)
      → (u b m a : ℕ) → b < suc n → b < length R → u < length R → is_switches (at R u).node ≡ true
      → (at R b).node ≡ Body → (at R b).region ≡ arm_at u true
      → IsStatement R b m → turned_by m (at R m).node ≡ Some a → Leads G u a
  bodies-next G up stated u b m a l v c is z r i e = elim (eqb_tells b n) [
    | inl q ↦
        let P : ℕ → Type 0 = λ j. ((at R j).node ≡ Body) × ((at R j).region ≡ arm_at u true) × IsStatement R j m in
        let p = subst P q.1 (z, r, i) in
        stated u m a c is p.0 p.1 p.2 e
    | inr q ↦ (let s : b < n = let d = q.1 in omega arith in up u a (old u a (t.bodies u b m a s v c is z r i e)))
  ]

  plain-turns : has_statements (at R n).node ≡ false → AreTurnsTo R (suc n) F
  plain-turns b = record {
    wide = wide-of ∙ t.wide;
    parts = parts-next F (λ m b h. h) (λ a m s e c u. (let d : true ≡ false = sym s.block ∙ b in
        absurd (true≢false d)));
    bodies = bodies-next F (λ m b h. h) (λ u m a c is z r i e. (let d : true ≡ false = sym i.block ∙ b in
        absurd (true≢false d)));
    nexts = nexts-next F (λ m b h. h);
    only = from;
  }

  -- a statement stands in no block before this row where it does in none before the next
  right-before : (b : ℕ) → in_block R b (suc n) ≡ false → in_block R b n ≡ false
  right-before b h = (or-false (in_block R b n) (has_statements (at R n).node && around R n b) h).0

  right-after : (b : ℕ) → has_statements (at R n).node ≡ false → in_block R b n ≡ false → in_block R b (suc n) ≡ false
  right-after b k h =
      both-false (in_block R b n) (has_statements (at R n).node && around R n b) h
      (and-first (has_statements (at R n).node) (around R n b) k)

  plain-open : has_statements (at R n).node ≡ false → is_statement (at R n).node ≡ false → AreOpen R (suc n) ss
  plain-open k j = record {
    all = λ m a l w e h. elim (eqb_tells m n) [
      | inl q ↦
          let f : true ≡ false =
          sym (turned-statement m a (at R m).node e) ∙ ap (λ i. is_statement (at R i).node) q.1 ∙ j in
          absurd (true≢false f)
      | inr q ↦ (let s : m < n = let d = q.1 in omega arith in o.all m a s w e (right-before m h))
    ];
    only = λ s h. (let x = o.only s h in (omega (arith, x.0), right-after s.row k x.1, x.2));
    rise = o.rise;
  }

  binding-open : (a : ℕ) → turned_by n (at R n).node ≡ Some a → has_statements (at R n).node ≡ false →
      AreOpen R (suc n) (ss ++ record { row = n; value = a } ∷ [])
  binding-open a e plain =
      let new : Statement = record { row = n; value = a } in
      record {
        all = λ m b l w f h. elim (eqb_tells m n) [
          | inl q ↦
              let k : Some b ≡ Some a = sym f ∙ ap (λ i. turned_by i (at R i).node) q.1 ∙ e in
              let p : a ≡ b = cc in
              (new, Among-right new ss (new ∷ []) (inl refl), sym q.1, p)
          | inr q ↦ (let s : m < n = let d = q.1 in omega arith in let r = o.all m b s w f (right-before m h) in
              (r.0, Among-left r.0 ss (new ∷ []) r.1, r.2, r.3))
        ];
        only = λ s h. elim (Among-either s ss (new ∷ []) h) [
          | inl i ↦ (let z = o.only s i in (omega (arith, z.0), right-after s.row plain z.1, z.2))
          | inr i ↦ elim i [
            | inl q ↦
                let P : Statement → Type 0 =
                λ z. (z.row < suc n) × (in_block R z.row (suc n) ≡ false)
                × (turned_by z.row (at R z.row).node ≡ Some z.value) in
                let l : n < suc n = omega arith in
                subst P (sym q) (l, in_block-before R n (suc n) (omega arith), e)
            | inr f ↦ absurd f
          ]
        ];
        rise = λ i j s u h k l. elim (slice_get-either ss new i s h) [
          | inl p ↦ elim (slice_get-either ss new j u k) [
            | inl r ↦ o.rise i j s u p r l
            | inr r ↦ (let z = (o.only s (Among-from_at s ss i p)).0 in let f : u.row ≡ n = ap (λ v. v.row) r.1 in
                omega arith)
          ]
          | inr p ↦ elim (slice_get-either ss new j u k) [
            | inl r ↦ (let z = slice_get_within ss j u r in let d = p.0 in absurd (omega arith))
            | inr r ↦ (let d = p.0 in let f = r.0 in absurd (omega arith))
          ]
        ];
      }

  -- at a block its statements are added, and wait no longer
  gone-by : (G : Edges) (ts : List Statement) (p : Option ℕ) (u m a : ℕ) → p ≡ Some u → u < length R → IsStatement R n m
      → turned_by m (at R m).node ≡ Some a → TakesAll F G ss ts (at R n).first p → Leads G u a
  gone-by G ts p u m a e l s b k =
      let r = around-within R n m s.inside in
      let y = o.all m a r.1 (omega arith) b s.right in
      elim (k.takes.gone y.0 y.1) [
        | inl j ↦ (let c = k.before y.0 j in let f = y.2 in let d = r.0 in absurd (omega arith))
        | inr j ↦
            let A : ℕ → Type 0 = λ c. Leads G u c in
            let q = t.wide in
            let z = wide-of in
            subst A y.3 (j.1 u e (omega arith))
      ]

  statement-of : (s : Statement) → Among s ss → (at R n).first ≤ s.row → has_statements (at R n).node ≡ true
      → IsStatement R n s.row
  statement-of s i l b =
      let z = o.only s i in
      record {
        block = b;
        statement = turned-statement s.row s.value (at R s.row).node z.2;
        inside =
            around-true R n s.row l z.0;
        right = z.1;
      }

  block-turns : (G : Edges) (ts : List Statement) (b : ℕ) → (at R n).node ≡ Block b
      → TakesAll F G ss ts (at R n).first (Some n) → AreTurnsTo R (suc n) G
  block-turns G ts b e k = record {
    wide = k.takes.wide ∙ wide-of ∙ t.wide;
    parts = parts-next G k.takes.kept (λ a m s d c u. gone-by G ts (Some n) n m a refl w s d k);
    bodies = bodies-next G k.takes.kept (λ u m a c is z r i d. (let q : Body ≡ Block b = sym z ∙ e in cc));
    nexts = nexts-next G k.takes.kept;
    only = λ m a h. elim (k.takes.only m a h) [
      | inl i ↦ from m a i
      | inr i ↦
          let s = i.1.0 in
          let P : ℕ → Type 0 = λ j. TurnsOn R j a in
          let A : ℕ → Type 0 = λ c. TurnsOn R n c in
          let is = statement-of s i.1.1 i.1.2 (ap has_statements e) in
          subst P (sym i.0)
          (subst A (sym i.1.3) (inl (
            stated-turns R n b s.row s.value (at R s.row).node e is refl (o.only s i.1.1).2,
            ap is_call e,
          )))
    ];
  }

  -- and at the end of a loop's body
  body-turns : (G : Edges) (ts : List Statement) → (at R n).node ≡ Body
      → TakesAll F G ss ts (at R n).first (switches_of R (at R n)) → AreTurnsTo R (suc n) G
  body-turns G ts e k = record {
    wide = k.takes.wide ∙ wide-of ∙ t.wide;
    parts = parts-next G k.takes.kept (λ a m s d c u. absurd (none-turned (at R n).node e u));
    bodies = bodies-next G k.takes.kept
        (λ u m a c is z r i d. gone-by G ts (switches_of R (at R n)) u m a (some-switches R (at R n) u is r) c i d k);
    nexts = nexts-next G k.takes.kept;
    only = λ m a h. elim (k.takes.only m a h) [
      | inl i ↦ from m a i
      | inr i ↦
          let s = i.1.0 in
          let A : ℕ → Type 0 = λ c. TurnsOn R m c in
          let is = statement-of s i.1.1 i.1.2 (ap has_statements e) in
          let z = switches-some R (at R n) m (from-some (switches_of R (at R n)) m i.0) in
          subst A (sym i.1.3)
          (inr (z.0, body-stated R m n s.row s.value (at R s.row).node w e z.1 is refl (o.only s i.1.1).2))
    ];
  }
    where
      none-turned : {a : ℕ} (z : Node) → (at R n).node ≡ Body → Turns R n a → ⊥
      none-turned z e (operand h) = cc
      none-turned z e (left h) = cc
      none-turned z e (right h) = cc
      none-turned z e (test h i) = cc
      none-turned z e (argument h i j) = cc
      none-turned z e (body h) = cc
      none-turned z e (statement h i j) = cc
      none-turned z e (index_low h i) = cc
      none-turned z e (index_high h i) = cc
      none-turned z e (low h) = cc
      none-turned z e (high h) = cc
      none-turned z e (fetched h) = cc
      none-turned z e (fetch_index h) = cc
      none-turned z e (address_target h i) = cc
      none-turned z e (address_index h i) = cc
      none-turned z e (stored_value h) = cc
      none-turned z e (stored h i j) = cc

  block-open : (G : Edges) (ts : List Statement) (p : Option ℕ) → has_statements (at R n).node ≡ true
      → TakesAll F G ss ts (at R n).first p → AreOpen R (suc n) ts
  block-open G ts p e k = record {
    all = λ m a l w f h. elim (eqb_tells m n) [
      | inl q ↦
          let c : false ≡ true =
          sym (plain-statement m a (at R m).node f) ∙ ap (λ i. has_statements (at R i).node) q.1 ∙ e in
          absurd (true≢false (sym c))
      | inr q ↦
          let s : m < n = let d = q.1 in omega arith in
          let r = or-false (in_block R m n) (has_statements (at R n).node && around R n m) h in
          let y = o.all m a s w f r.0 in
          elim (k.takes.gone y.0 y.1) [
            | inl j ↦ (y.0, j, y.2, y.3)
            | inr j ↦
                let c : (at R n).first ≤ m = let d = j.0 in let z = y.2 in omega arith in
                let u : around R n m ≡ false = and-second (has_statements (at R n).node) (around R n m) e r.1 in
                absurd (true≢false (sym (around-true R n m c s) ∙ u))
          ]
    ];
    only = λ s h.
        let z = o.only s (k.takes.some s h) in
        let c = k.before s h in
        let u : around R n s.row ≡ false =
        and-first (nat_le (at R n).first s.row) (nat_lt s.row n) (lt-leb (at R n).first s.row c) in (
          omega (arith, z.0),
          both-false (in_block R s.row n) (has_statements (at R n).node && around R n s.row) z.1
              (and-late (has_statements (at R n).node) (around R n s.row) u),
          z.2,
        );
    rise = k.takes.rise;
  }

  -- at each row
  abbrev After : Edges → List Statement → Type 0
  After G ts = AreTurnsTo R (suc n) G × AreOpen R (suc n) ts

  plain : (G : Edges) (ts : List Statement) → has_statements (at R n).node ≡ false → is_statement (at R n).node ≡ false
      → (G ≡ F) × (ts ≡ ss) → After G ts
  plain G ts b c h =
      let P : Edges → Type 0 = λ H. AreTurnsTo R (suc n) H in
      let Q : List Statement → Type 0 = λ us. AreOpen R (suc n) us in
      (subst P (sym h.0) (plain-turns b), subst Q (sym h.1) (plain-open b c))

  after : (G : Edges) (ts : List Statement) (z : Node) → (at R n).node ≡ z
      → Statements_at F G ss ts n (at R n).first (switches_of R (at R n)) z → After G ts
  after G ts (Block b) e h = (block-turns G ts b e h, block-open G ts (Some n) (ap has_statements e) h)
  after G ts Body e h = (body-turns G ts e h, block-open G ts (switches_of R (at R n)) (ap has_statements e) h)
  after G ts (Binding x a) e h =
      let P : Edges → Type 0 = λ H. AreTurnsTo R (suc n) H in
      let Q : List Statement → Type 0 = λ us. AreOpen R (suc n) us in (
        subst P (sym h.0) (plain-turns (ap has_statements e)),
        subst Q (sym h.1) (binding-open a (ap (λ z. turned_by n z) e) (ap has_statements e)),
      )
  after G ts (Store a x) e h =
      let P : Edges → Type 0 = λ H. AreTurnsTo R (suc n) H in
      let Q : List Statement → Type 0 = λ us. AreOpen R (suc n) us in (
        subst P (sym h.0) (plain-turns (ap has_statements e)),
        subst Q (sym h.1) (binding-open n (ap (λ z. turned_by n z) e) (ap has_statements e)),
      )
  after G ts _ e h = plain G ts (ap has_statements e) (ap is_statement e) h

-- what one row more turns On, and the statements that wait then
pub turns-step : (R : List Row) (n m : ℕ) (E D F G : Edges) (ss ts : List Statement) (r : Row) → m ≡ suc n
    → n < length R → r ≡ at R n → AreTurnsTo R n E → AreOpen R n ss
    → Gains E D n (parts_turned R r.node) → GainsFrom D F (switches_of R r)
    (nexts_turned r.node) → Statements R F G ss ts n r → AreTurnsTo R m G × AreOpen R m ts
turns-step R n m E D F G ss ts r q w e t o g f h =
    let P : ℕ → Type 0 = λ k. AreTurnsTo R k G × AreOpen R k ts in
    let A : Row → Type 0 = λ x. Gains E D n (parts_turned R x.node) in
    let B : Row → Type 0 = λ x. GainsFrom D F (switches_of R x) (nexts_turned x.node) in
    let C : Row → Type 0 = λ x. Statements R F G ss ts n x in
    subst P (sym q) (after R n E D F ss w t o (subst A e g) (subst B e f) G ts (at R n).node refl (subst C e h))

pub turns-init : (R : List Row) (E : Edges) (ss : List Statement) → AreNone E (length R) → ss ≡ []
    → AreTurnsTo R 0 E × AreOpen R 0 ss
turns-init R E ss k e =
    let P : List Statement → Type 0 = λ xs. AreOpen R 0 xs in (
      record {
        wide = k.wide;
        parts = λ n a l w h. absurd (omega arith);
        bodies = λ u b m a l v c is z r i j. absurd (omega arith);
        nexts = λ u m x i e a l v c is z r. absurd (omega arith);
        only = λ n a h. absurd (k.none n a h);
      },
      subst P (sym e) (record {
        all = λ m a l w f h. absurd (omega arith);
        only = λ s h. absurd h;
        rise =
            λ i j s u h v l. cc;
      }),
    )

-- what one row more reads
pub reads-step : (P : Checked) (n m : ℕ) (E F : Edges) → m ≡ suc n → AreReadsTo P n E → GainsTo E F (linked_at P n) n
    → AreReadsTo P m F
reads-step P n m E F q t g = record {
  wide = g.wide ∙ t.wide;
  all = λ k a l w h. elim (eqb_tells k n) [
    | inl e ↦
        let A : ℕ → Type 0 = λ j. Among a (linked_at P j) in
        let B : ℕ → Type 0 = λ j. Leads F a j in
        let c = t.wide in
        subst B (sym e.1) (g.added a (omega arith) (subst A e.1 h))
    | inr e ↦ (let s : k < n = let d = e.1 in omega arith in g.kept a k (t.all k a s w h))
  ];
}

-- what asks for one row more
pub args-step : (P : Checked) (n m : ℕ) (E F : Edges) → m ≡ suc n → AreArgsTo P n E
    → GainsTo E F (some_row (asker_at (rows P) n)) n → AreArgsTo P m F
args-step P n m E F q t g = record {
  wide = g.wide ∙ t.wide;
  all = λ k e w l is. elim (eqb_tells k n) [
    | inl x ↦
        let B : ℕ → Type 0 = λ j. Leads F e j in
        let c = t.wide in
        let z : asker_at (rows P) n ≡ Some e = ap (λ j. asker_at (rows P) j) (sym x.1) ∙ is in
        subst B (sym x.1) (g.added e (omega arith) (some-among (asker_at (rows P) n) e z))
    | inr x ↦ (let s : k < n = let d = x.1 in omega arith in g.kept e k (t.all k e s l is))
  ];
}

-- where the row is read of another list
pub args-by : (P : Checked) (n m : ℕ) (E F : Edges) (R : List Row) (b : Option ℕ) → m ≡ suc n → R ≡ rows P
    → b ≡ asker_at R n → AreArgsTo P n E → GainsTo E F (some_row b) n → AreArgsTo P m F
args-by P n m E F R b q r e t g =
    let A : List Row → Type 0 = λ xs. GainsTo E F (some_row (asker_at xs n)) n in
    let B : Option ℕ → Type 0 = λ o. GainsTo E F (some_row o) n in
    args-step P n m E F q t (subst A r (subst B e g))

pub turns-end : (R : List Row) (n : ℕ) (E : Edges) → length R ≤ n → AreTurnsTo R n E → AreTurnsTo R (length R) E
turns-end R n E l t = record {
  wide = t.wide;
  parts = λ m a k w h. t.parts m a (omega arith) w h;
  bodies = λ u b m a k v c is z r i j. t.bodies u b m a (omega arith) v c is z r i j;
  nexts = λ u m x i e a k v c is z r. t.nexts u m x i e a (omega arith) v c is z r;
  only = t.only;
}

-- where the row is read of another list, and the row beyond its parts is given
pub reads-by : (P : Checked) (n m : ℕ) (E F : Edges) (R : List Row) (b : Option ℕ) → m ≡ suc n → R ≡ rows P
    → b ≡ beyond P n (at R n).node → AreReadsTo P n E → GainsTo E F (linked_of R b (at R n).node) n → AreReadsTo P m F
reads-by P n m E F R b q r e t g =
    let A : List Row → Type 0 = λ xs. GainsTo E F (linked_of xs (beyond P n (at xs n).node) (at xs n).node) n in
    let B : Option ℕ → Type 0 = λ o. GainsTo E F (linked_of R o (at R n).node) n in
    reads-step P n m E F q t (subst A r (subst B e g))
