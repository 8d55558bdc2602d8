-- Each rule by rows gives its fact among what follows from each of its premises.
use Rattle.std.proofs.Common.{◌≡◌, ◌⊎◌, inl, inr, ℕ, ◌<◌, ℤ, Bool as Truth, true, false, Option, Some, List, [], ◌∷◌}
use Rattle.std.proofs.Common.{◌++◌, length}
use Rattle.std.proofs.Common.{if◌then◌else◌, refl, ap, sym, ◌∙◌, subst, arith}
use Rattle.id_value.specs.List.{Among}
use Rattle.id_value.proofs.AmongLemmas.{Among-left, Among-right}
use Rattle.id_value.specs.declared.Constant.{Constant}
use Rattle.id_value.specs.declared.Constant.TheVariants as constant
use Rattle.id_value.specs.declared.UnaryOp.{UnaryOp}
use Rattle.id_value.specs.declared.BinaryOp.{BinaryOp}
use Rattle.id_value.specs.declared.Outcome.{Outcome}
use Rattle.id_value.specs.declared.Outcome.TheVariants.{Gives}
use Rattle.id_value.specs.Bounds.{are_good, is_inside}
use Rattle.id_value.specs.Results.{result_of_unary, result_of_binary}
use Rattle.id_table.specs.declared.row.Node.{Node}
use Rattle.id_table.specs.declared.row.Node.TheVariants as node
use Rattle.id_table.specs.Tables.{HasPart}
use Rattle.id_check.specs.Programs.{Stands, rows}
use Rattle.id_facts.specs.declared.cells.Bounds.{Bounds}
use Rattle.id_facts.specs.declared.cells.Cells.{Cells}
use Rattle.id_facts.specs.declared.cells.Point.{Point}
use Rattle.id_facts.specs.declared.facts.RowFact.{RowFact}
use Rattle.id_facts.specs.declared.facts.RowFact.TheVariants.{On, Has, Shape, Put, Ask}
use Rattle.id_facts.specs.declared.facts.RowValue.{RowValue}
use Rattle.id_facts.specs.declared.facts.RowValue.TheVariants.{Int, Bool, Name}
use Rattle.id_facts.specs.declared.facts.Trail.{Trail}
use Rattle.id_source.specs.declared.links.Links.{Links}
use Rattle.id_facts.specs.declared.queues.Queues.{Queues}
use Rattle.id_source.specs.Sources.{Source}
use Rattle.id_source.specs.Facts.{StoreStands}
use Rattle.id_facts.specs.Listed.{AreFound}
use Rattle.id_source.specs.Links.{AreReads, AreTurns, Leads, PartTurns, arm_of, beyond, index_of, linked_of, reads_of}
use Rattle.id_source.specs.Links.{some_row, target_of, test_of}
use Rattle.id_facts.specs.Cells.{AreChained, asks, items, puts, shapes, values}
use Rattle.id_meaning.specs.Given.{all_rights, answered, arm_by, arms, array_by, arrays, asked, asked_by, binaries}
use Rattle.id_meaning.specs.Given.{binary_by, constant_of, fetch_by}
use Rattle.id_meaning.specs.Effects.{effects}
use Rattle.id_meaning.specs.Given.{fetches, given, gives, is_in_some, made, made_by, put_in, rights_of, seen, store_at}
use Rattle.id_facts.specs.Firsts.{row_value}
use Rattle.id_meaning.specs.Given.{store_by, stored, stored_by, stores, unaries, unary_by}
use Rattle.id_meaning.proofs.ComesLemmas.{asks-all, found-at, from-reader, from-shape, from-turns, given-at}
use Rattle.id_meaning.proofs.ComesLemmas.{inside-some, puts-all, rows-differ, shapes-all}
use Rattle.id_facts.proofs.LookupLemmas.{find-all, values-all, values-self}
use Rattle.id_meaning.proofs.PartsFollowLemmas.{found-by, from-given, haves-all, reader}
use Rattle.id_meaning.proofs.RulesLemmas.{AllAmong, part-within}
use Rattle.id_facts.proofs.FactsLemmas.{IsOnBy}
use Rattle.id_meaning.proofs.TwoPartsLemmas.{array-order, binary-order, fetch-order, if-order, store-order}

-- ---- lists of facts

gives-in : (p : Trail) (n : ℕ) (r : Outcome) (y : Constant) → r ≡ Gives y → Among (Has p n (row_value y)) (gives p n r)
gives-in p n r y e =
    let F : Outcome → Type 0 = λ q. Among (Has p n (row_value y)) (gives p n q) in subst F (sym e) (inl refl)

constant-row : (k : Constant) → constant_of (row_value k) ≡ Some k
constant-row (constant.Int n) = refl
constant-row (constant.Bool b) = refl

unaries-in : (p : Trail) (n : ℕ) (o : UnaryOp) (vs : List RowValue) (k y : Constant) → Among (row_value k) vs
    → result_of_unary o k ≡ Gives y → Among (Has p n (row_value y)) (unaries p n o vs)
unaries-in p n o [] k y h e = absurd h
unaries-in p n o (v ∷ vs) k y (inl q) e =
    let F : Option Constant → Type 0 = λ j. Among (Has p n (row_value y)) (unary_by p n o j) in
    let is : constant_of v ≡ Some k = ap constant_of (sym q) ∙ constant-row k in
    Among-left (Has p n (row_value y)) (unary_by p n o (constant_of v)) (unaries p n o vs)
    (subst F (sym is) (gives-in p n (result_of_unary o k) y e))
unaries-in p n o (v ∷ vs) k y (inr h) e =
    Among-right (Has p n (row_value y)) (unary_by p n o (constant_of v)) (unaries p n o vs)
    (unaries-in p n o vs k y h e)

rights-in : (p : Trail) (n : ℕ) (o : BinaryOp) (k : Constant) (ws : List RowValue) (m y : Constant)
    → Among (row_value m) ws → result_of_binary o k m ≡ Gives y → Among (Has p n (row_value y)) (all_rights p n o k ws)
rights-in p n o k [] m y h e = absurd h
rights-in p n o k (w ∷ ws) m y (inl q) e =
    let F : Option Constant → Type 0 = λ j. Among (Has p n (row_value y)) (binary_by p n o k j) in
    let is : constant_of w ≡ Some m = ap constant_of (sym q) ∙ constant-row m in
    Among-left (Has p n (row_value y)) (binary_by p n o k (constant_of w)) (all_rights p n o k ws)
    (subst F (sym is) (gives-in p n (result_of_binary o k m) y e))
rights-in p n o k (w ∷ ws) m y (inr h) e =
    Among-right (Has p n (row_value y)) (binary_by p n o k (constant_of w)) (all_rights p n o k ws)
    (rights-in p n o k ws m y h e)

binaries-in : (p : Trail) (n : ℕ) (o : BinaryOp) (vs ws : List RowValue) (k m y : Constant) → Among (row_value k) vs
    → Among (row_value m) ws → result_of_binary o k m ≡ Gives y → Among (Has p n (row_value y)) (binaries p n o vs ws)
binaries-in p n o [] ws k m y h i e = absurd h
binaries-in p n o (v ∷ vs) ws k m y (inl q) i e =
    let F : Option Constant → Type 0 = λ j. Among (Has p n (row_value y)) (rights_of p n o j ws) in
    let is : constant_of v ≡ Some k = ap constant_of (sym q) ∙ constant-row k in
    Among-left (Has p n (row_value y)) (rights_of p n o (constant_of v) ws) (binaries p n o vs ws)
    (subst F (sym is) (rights-in p n o k ws m y i e))
binaries-in p n o (v ∷ vs) ws k m y (inr h) i e =
    Among-right (Has p n (row_value y)) (rights_of p n o (constant_of v) ws) (binaries p n o vs ws)
    (binaries-in p n o vs ws k m y h i e)

-- what comes by good bounds
abbrev IsMade : Trail → ℕ → ℕ → ℤ → ℤ → RowFact → Type 0
IsMade p n i lo hi x = (x ≡ Shape i lo hi) ⊎ (x ≡ Has p n (Name i))

made-in : (p : Trail) (n i : ℕ) (lo hi : ℤ) (ws : List RowValue) (x : RowFact) → Among (Int hi) ws
    → are_good lo hi ≡ true → IsMade p n i lo hi x → Among x (made p n i lo ws)
made-in p n i lo hi [] x h e q = absurd h
made-in p n i lo hi (w ∷ ws) x (inl u) e q =
    let F : RowValue → Type 0 = λ y. Among x (made_by p n i lo y) in
    let G : Truth → Type 0 = λ t. Among x (if t then Shape i lo hi ∷ Has p n (Name i) ∷ [] else []) in
    Among-left x (made_by p n i lo w) (made p n i lo ws) (subst F u (subst G (sym e) (one q)))
  where
    one : IsMade p n i lo hi x → Among x (Shape i lo hi ∷ Has p n (Name i) ∷ [])
    one (inl z) = inl z
    one (inr z) = inr (inl z)
made-in p n i lo hi (w ∷ ws) x (inr h) e q =
    Among-right x (made_by p n i lo w) (made p n i lo ws) (made-in p n i lo hi ws x h e q)

arrays-in : (p : Trail) (n i : ℕ) (lo hi : ℤ) (vs ws : List RowValue) (x : RowFact) → Among (Int lo) vs
    → Among (Int hi) ws → are_good lo hi ≡ true → IsMade p n i lo hi x → Among x (arrays p n i vs ws)
arrays-in p n i lo hi [] ws x h k e q = absurd h
arrays-in p n i lo hi (v ∷ vs) ws x (inl u) k e q =
    let F : RowValue → Type 0 = λ y. Among x (array_by p n i y ws) in
    Among-left x (array_by p n i v ws) (arrays p n i vs ws) (subst F u (made-in p n i lo hi ws x k e q))
arrays-in p n i lo hi (v ∷ vs) ws x (inr h) k e q =
    Among-right x (array_by p n i v ws) (arrays p n i vs ws) (arrays-in p n i lo hi vs ws x h k e q)

asked-in : (p : Trail) (n s : ℕ) (bs : List Bounds) (j : ℤ) (ws : List RowValue) → Among (Int j) ws
    → is_in_some bs j ≡ true → Among (Ask p n s j) (asked p n s bs ws)
asked-in p n s bs j [] h e = absurd h
asked-in p n s bs j (w ∷ ws) (inl u) e =
    let F : RowValue → Type 0 = λ y. Among (Ask p n s j) (asked_by p n s bs y) in
    let G : Truth → Type 0 = λ t. Among (Ask p n s j) (if t then Ask p n s j ∷ [] else []) in
    Among-left (Ask p n s j) (asked_by p n s bs w) (asked p n s bs ws) (subst F u (subst G (sym e) (inl refl)))
asked-in p n s bs j (w ∷ ws) (inr h) e =
    Among-right (Ask p n s j) (asked_by p n s bs w) (asked p n s bs ws) (asked-in p n s bs j ws h e)

fetches-in : (c : Cells) (p : Trail) (n s : ℕ) (j : ℤ) (vs ws : List RowValue) → Among (Name s) vs → Among (Int j) ws
    → is_in_some (shapes c s) j ≡ true → Among (Ask p n s j) (fetches c p n vs ws)
fetches-in c p n s j [] ws h k e = absurd h
fetches-in c p n s j (v ∷ vs) ws (inl u) k e =
    let F : RowValue → Type 0 = λ y. Among (Ask p n s j) (fetch_by c p n y ws) in
    Among-left (Ask p n s j) (fetch_by c p n v ws) (fetches c p n vs ws)
    (subst F u (asked-in p n s (shapes c s) j ws k e))
fetches-in c p n s j (v ∷ vs) ws (inr h) k e =
    Among-right (Ask p n s j) (fetch_by c p n v ws) (fetches c p n vs ws) (fetches-in c p n s j vs ws h k e)

put-in : (p : Trail) (n s : ℕ) (j : ℤ) (vs : List RowValue) (v : RowValue) → Among v vs
    → Among (Put p n s j v) (put_in p n s j vs)
put-in p n s j [] v h = absurd h
put-in p n s j (u ∷ vs) v (inl e) = inl (ap (λ y. Put p n s j y) e)
put-in p n s j (u ∷ vs) v (inr h) = inr (put-in p n s j vs v h)

stored-in : (p : Trail) (n s : ℕ) (bs : List Bounds) (j : ℤ) (ws vs : List RowValue) (v : RowValue) → Among (Int j) ws
    → Among v vs → is_in_some bs j ≡ true → Among (Put p n s j v) (stored p n s bs ws vs)
stored-in p n s bs j [] vs v h k e = absurd h
stored-in p n s bs j (w ∷ ws) vs v (inl u) k e =
    let F : RowValue → Type 0 = λ y. Among (Put p n s j v) (stored_by p n s bs vs y) in
    let G : Truth → Type 0 = λ t. Among (Put p n s j v) (if t then put_in p n s j vs else []) in
    Among-left (Put p n s j v) (stored_by p n s bs vs w) (stored p n s bs ws vs)
    (subst F u (subst G (sym e) (put-in p n s j vs v k)))
stored-in p n s bs j (w ∷ ws) vs v (inr h) k e =
    Among-right (Put p n s j v) (stored_by p n s bs vs w) (stored p n s bs ws vs) (stored-in p n s bs j ws vs v h k e)

stores-in : (c : Cells) (p : Trail) (n s : ℕ) (j : ℤ) (us ws vs : List RowValue) (v : RowValue) → Among (Name s) us
    → Among (Int j) ws → Among v vs → is_in_some (shapes c s) j ≡ true → Among (Put p n s j v) (stores c p n us ws vs)
stores-in c p n s j [] ws vs v h i k e = absurd h
stores-in c p n s j (u ∷ us) ws vs v (inl q) i k e =
    let F : RowValue → Type 0 = λ y. Among (Put p n s j v) (store_by c p n y ws vs) in
    Among-left (Put p n s j v) (store_by c p n u ws vs) (stores c p n us ws vs)
    (subst F q (stored-in p n s (shapes c s) j ws vs v i k e))
stores-in c p n s j (u ∷ us) ws vs v (inr h) i k e =
    Among-right (Put p n s j v) (store_by c p n u ws vs) (stores c p n us ws vs)
    (stores-in c p n s j us ws vs v h i k e)

arms-in : (c : Cells) (g : RowFact) (p : Trail) (n x y : ℕ) (b : Truth) (vs : List RowValue) (z : RowFact)
    → Among (Bool b) vs → Among z (arm_by c g p n x y (Bool b)) → Among z (arms c g p n x y vs)
arms-in c g p n x y b [] z h k = absurd h
arms-in c g p n x y b (v ∷ vs) z (inl e) k =
    let F : RowValue → Type 0 = λ u. Among z (arm_by c g p n x y u) in
    Among-left z (arm_by c g p n x y v) (arms c g p n x y vs) (subst F e k)
arms-in c g p n x y b (v ∷ vs) z (inr h) k =
    Among-right z (arm_by c g p n x y v) (arms c g p n x y vs) (arms-in c g p n x y b vs z h k)

-- ---- the rules

module _ (S : Source) (l : Links) (W : Queues) (c : Cells) (chained : AreChained c) (found : AreFound S (items c))
    (turns : AreTurns (rows S.checked) l.turns) (reads : AreReads S.checked l.reads) where
  abbrev Known : RowFact → Type 0
  Known g = Among g (items c)

  abbrev From : RowFact → RowFact → Type 0
  From g x = Among x (effects S.checked l W c g)

  from : (g h x : RowFact) → g ≡ h → From h x → From g x
  from g h x e k = let F : RowFact → Type 0 = λ y. From y x in subst F (sym e) k

  -- a row reads its parts
  reads-part : (n a : ℕ) (z : Node) → Stands S.checked n z → HasPart z a
      → Among a (linked_of (rows S.checked) (beyond S.checked n z) z) → Leads l.reads a n
  reads-part n a z st h i = reader S l W c reads n a z st (part-within S n a z st h) i

  -- what is known is seen where another row's fact is followed
  seen-on : (p q : Trail) (n a : ℕ) (v : RowValue) → Known (Has p a v) → Among v (values c (On q n) p a)
  seen-on p q n a v h = values-all c chained (On q n) p a v refl h

  seen-by : (p q : Trail) (b a : ℕ) (v w : RowValue) → (a ≡ b → ⊥) → Known (Has p a v)
      → Among v (values c (Has q b w) p a)
  seen-by p q b a v w d h = values-all c chained (Has q b w) p a v (rows-differ p q a b w d) h

  seen-self : (p : Trail) (a : ℕ) (v : RowValue) → Among v (values c (Has p a v) p a)
  seen-self p a v = values-self c chained p a v

  -- ---- what turns rows On

  pub turned-follows : (p : Trail) (n a : ℕ) → n < length (rows S.checked) → PartTurns (rows S.checked) n a
      → (g : RowFact) → Among g (On p n ∷ []) → Among (On p a) (effects S.checked l W c g)
  turned-follows p n a w t g (inl e) = from g (On p n) (On p a) e (from-turns S l W c p n a (turns.parts n a w w t))
  turned-follows p n a w t g (inr h) = absurd h

  -- ---- literals and operators

  pub literal-follows : (p : Trail) (n : ℕ) (k : Constant) → Stands S.checked n (node.Literal k)
      → AllAmong (items c) (On p n ∷ []) → (g : RowFact) → Among g (On p n ∷ [])
      → Among (Has p n (row_value k)) (effects S.checked l W c g)
  literal-follows p n k st known g (inl e) =
      let x = Has p n (row_value k) in
      let r = find-all c chained p n known.0 in
      from g (On p n) x e (from-given S l W c p n x
      (given-at S c chained (On p n) p n (node.Literal k) x st.node
      (found-at S c chained (On p n) p n r.0 (node.Literal k) x r.1 (inl refl))))
  literal-follows p n k st known g (inr h) = absurd h

  unary-at : (g : RowFact) (p : Trail) (n a : ℕ) (o : UnaryOp) (x k : Constant) → Stands S.checked n (node.Unary o a)
      → result_of_unary o k ≡ Gives x → Known (On p n) → Among (row_value k) (values c g p a)
      → Among (Has p n (row_value x)) (given S.checked c g p n)
  unary-at g p n a o x k st e on i =
      let r = find-all c chained p n on in
      let y = Has p n (row_value x) in
      given-at S c chained g p n (node.Unary o a) y st.node
      (found-at S c chained g p n r.0 (node.Unary o a) y r.1 (unaries-in p n o (values c g p a) k x i e))

  pub unary-follows : (p : Trail) (n a : ℕ) (o : UnaryOp) (x k : Constant) → Stands S.checked n (node.Unary o a)
      → result_of_unary o k ≡ Gives x → AllAmong (items c) (On p n ∷ Has p a (row_value k) ∷ [])
      → (g : RowFact) → Among g (On p n ∷ Has p a (row_value k) ∷ [])
      → Among (Has p n (row_value x)) (effects S.checked l W c g)
  unary-follows p n a o x k st e known g (inl q) =
      let y = Has p n (row_value x) in
      from g (On p n) y q
      (from-given S l W c p n y (unary-at (On p n) p n a o x k st e known.0 (seen-on p p n a (row_value k) known.1.0)))
  unary-follows p n a o x k st e known g (inr (inl q)) =
      let y = Has p n (row_value x) in
      let f = Has p a (row_value k) in
      from g f y q (from-reader S l W c p a (row_value k) n y (reads-part n a (node.Unary o a) st refl (inl refl))
      (unary-at f p n a o x k st e known.0 (seen-self p a (row_value k))))
  unary-follows p n a o x k st e known g (inr (inr h)) = absurd h

  binary-at : (g : RowFact) (p : Trail) (n a b : ℕ) (o : BinaryOp) (x k d : Constant)
      → Stands S.checked n (node.Binary o a b) → result_of_binary o k d ≡ Gives x → Known (On p n)
      → Among (row_value k) (values c g p a) → Among (row_value d) (values c g p b)
      → Among (Has p n (row_value x)) (given S.checked c g p n)
  binary-at g p n a b o x k d st e on i j =
      let r = find-all c chained p n on in
      let y = Has p n (row_value x) in
      given-at S c chained g p n (node.Binary o a b) y st.node
      (found-at S c chained g p n r.0 (node.Binary o a b) y r.1
      (binaries-in p n o (values c g p a) (values c g p b) k d x i j e))

  pub binary-follows : (p : Trail) (n a b : ℕ) (o : BinaryOp) (x k d : Constant)
      → Stands S.checked n (node.Binary o a b) → result_of_binary o k d ≡ Gives x
      → AllAmong (items c) (On p n ∷ Has p a (row_value k) ∷ Has p b (row_value d) ∷ [])
      → (g : RowFact) → Among g (On p n ∷ Has p a (row_value k) ∷ Has p b (row_value d) ∷ [])
      → Among (Has p n (row_value x)) (effects S.checked l W c g)
  binary-follows p n a b o x k d st e known g (inl q) =
      let y = Has p n (row_value x) in
      from g (On p n) y q (from-given S l W c p n y (binary-at (On p n) p n a b o x k d st e known.0
      (seen-on p p n a (row_value k) known.1.0) (seen-on p p n b (row_value d) known.1.1.0)))
  binary-follows p n a b o x k d st e known g (inr (inl q)) =
      let y = Has p n (row_value x) in
      let f = Has p a (row_value k) in
      let w = binary-order S.checked n a b o st in
      from g f y q
      (from-reader S l W c p a (row_value k) n y (reads-part n a (node.Binary o a b) st (inl refl) (inl refl))
      (binary-at f p n a b o x k d st e known.0 (seen-self p a (row_value k))
      (seen-by p p a b (row_value d) (row_value k) (λ z. omega arith) known.1.1.0)))
  binary-follows p n a b o x k d st e known g (inr (inr (inl q))) =
      let y = Has p n (row_value x) in
      let f = Has p b (row_value d) in
      let w = binary-order S.checked n a b o st in
      from g f y q
      (from-reader S l W c p b (row_value d) n y (reads-part n b (node.Binary o a b) st (inr refl) (inr (inl refl)))
      (binary-at f p n a b o x k d st e known.0
      (seen-by p p b a (row_value k) (row_value d) (λ z. omega arith) known.1.0) (seen-self p b (row_value d))))
  binary-follows p n a b o x k d st e known g (inr (inr (inr h))) = absurd h

  -- ---- conditionals

  if-at : (g : RowFact) (p : Trail) (n s x y t : ℕ) (b : Truth) (z : RowFact) → Stands S.checked n (node.If s x y)
      → Stands S.checked s (node.Split t) → Known (On p n) → Among (Bool b) (values c g p t)
      → Among z (arm_by c g p n x y (Bool b)) → Among z (given S.checked c g p n)
  if-at g p n s x y t b z st sp on i h =
      let r = find-all c chained p n on in
      let F : Node → Type 0 = λ d. Among z (arms c g p n x y (seen c g p (test_of d))) in
      given-at S c chained g p n (node.If s x y) z st.node
      (found-at S c chained g p n r.0 (node.If s x y) z r.1
      (subst F (sym sp.node) (arms-in c g p n x y b (values c g p t) z i h)))

  -- a conditional reads its predicate, and both its arms
  reads-test : (n s x y t : ℕ) → Stands S.checked n (node.If s x y) → Stands S.checked s (node.Split t)
      → Leads l.reads t n
  reads-test n s x y t st sp =
      let F : Node → Type 0 = λ d. Among t (reads_of (rows S.checked) (test_of d) (node.If s x y)) in
      reader S l W c reads n t (node.If s x y) st (part-within S s t (node.Split t) sp refl)
      (subst F (sym sp.node) (inl refl))

  arm-read : (n s x y t a : ℕ) → Stands S.checked n (node.If s x y) → Stands S.checked s (node.Split t)
      → HasPart (node.If s x y) a → Among a (x ∷ y ∷ []) → Leads l.reads a n
  arm-read n s x y t a st sp h i =
      let F : Node → Type 0 = λ d. Among a (reads_of (rows S.checked) (test_of d) (node.If s x y)) in
      reads-part n a (node.If s x y) st h (subst F (sym sp.node) (inr i))

  reads-arm : (n s x y t : ℕ) (b : Truth) → Stands S.checked n (node.If s x y) → Stands S.checked s (node.Split t)
      → Leads l.reads (arm_of b x y) n
  reads-arm n s x y t true st sp = arm-read n s x y t x st sp (inr (inl refl)) (inl refl)
  reads-arm n s x y t false st sp = arm-read n s x y t y st sp (inr (inr refl)) (inr (inl refl))

  arm-apart : (n s x y t : ℕ) (b : Truth) → Stands S.checked n (node.If s x y) → Stands S.checked s (node.Split t)
      → t < arm_of b x y
  arm-apart n s x y t true st sp = (if-order S.checked n s x y t st sp).0
  arm-apart n s x y t false st sp = (if-order S.checked n s x y t st sp).1

  pub arm-follows : (p : Trail) (n s x y t : ℕ) (b : Truth) → Stands S.checked n (node.If s x y)
      → Stands S.checked s (node.Split t) → AllAmong (items c) (On p n ∷ Has p t (Bool b) ∷ [])
      → (g : RowFact) → Among g (On p n ∷ Has p t (Bool b) ∷ [])
      → Among (On p (arm_of b x y)) (effects S.checked l W c g)
  arm-follows p n s x y t b st sp known g (inl q) =
      let z = On p (arm_of b x y) in
      from g (On p n) z q
      (from-given S l W c p n z
      (if-at (On p n) p n s x y t b z st sp known.0 (seen-on p p n t (Bool b) known.1.0) (inl refl)))
  arm-follows p n s x y t b st sp known g (inr (inl q)) =
      let z = On p (arm_of b x y) in
      let f = Has p t (Bool b) in
      from g f z q (from-reader S l W c p t (Bool b) n z (reads-test n s x y t st sp)
      (if-at f p n s x y t b z st sp known.0 (seen-self p t (Bool b)) (inl refl)))
  arm-follows p n s x y t b st sp known g (inr (inr h)) = absurd h

  pub conditional-follows : (p : Trail) (n s x y t : ℕ) (v : RowValue) (b : Truth) → Stands S.checked n (node.If s x y)
      → Stands S.checked s (node.Split t) → AllAmong (items c) (On p n ∷ Has p t (Bool b) ∷ Has p (arm_of b x y) v ∷ [])
      → (g : RowFact) → Among g (On p n ∷ Has p t (Bool b) ∷ Has p (arm_of b x y) v ∷ [])
      → Among (Has p n v) (effects S.checked l W c g)
  conditional-follows p n s x y t v b st sp known g h = go h
    where
      order : t < arm_of b x y
      order = arm-apart n s x y t b st sp

      comes : (f : RowFact) → Among (Bool b) (values c f p t) → Among v (values c f p (arm_of b x y))
          → Among (Has p n v) (given S.checked c f p n)
      comes f i j =
          if-at f p n s x y t b (Has p n v) st sp known.0 i (inr (haves-all p n (values c f p (arm_of b x y)) v j))

      go : Among g (On p n ∷ Has p t (Bool b) ∷ Has p (arm_of b x y) v ∷ [])
          → Among (Has p n v) (effects S.checked l W c g)
      go (inl q) =
          from g (On p n) (Has p n v) q (from-given S l W c p n (Has p n v)
          (comes (On p n) (seen-on p p n t (Bool b) known.1.0) (seen-on p p n (arm_of b x y) v known.1.1.0)))
      go (inr (inl q)) =
          let f = Has p t (Bool b) in
          from g f (Has p n v) q (from-reader S l W c p t (Bool b) n (Has p n v) (reads-test n s x y t st sp)
          (comes f (seen-self p t (Bool b))
          (seen-by p p t (arm_of b x y) v (Bool b) (λ e. omega (arith, order)) known.1.1.0)))
      go (inr (inr (inl q))) =
          let a = arm_of b x y in
          let f = Has p a v in
          from g f (Has p n v) q (from-reader S l W c p a v n (Has p n v) (reads-arm n s x y t b st sp)
          (comes f (seen-by p p a t (Bool b) v (λ e. omega (arith, order)) known.1.0) (seen-self p a v)))
      go (inr (inr (inr k))) = absurd k

  -- ---- blocks and bindings

  block-at : (g : RowFact) (p : Trail) (n b : ℕ) (v : RowValue) → Stands S.checked n (node.Block b) → Known (On p n)
      → Among v (values c g p b) → Among (Has p n v) (given S.checked c g p n)
  block-at g p n b v st on i =
      let r = find-all c chained p n on in
      given-at S c chained g p n (node.Block b) (Has p n v) st.node
      (found-at S c chained g p n r.0 (node.Block b) (Has p n v) r.1 (haves-all p n (values c g p b) v i))

  pub block-follows : (p : Trail) (n b : ℕ) (v : RowValue) → Stands S.checked n (node.Block b)
      → AllAmong (items c) (On p n ∷ Has p b v ∷ []) → (g : RowFact) → Among g (On p n ∷ Has p b v ∷ [])
      → Among (Has p n v) (effects S.checked l W c g)
  block-follows p n b v st known g (inl q) =
      from g (On p n) (Has p n v) q
      (from-given S l W c p n (Has p n v) (block-at (On p n) p n b v st known.0 (seen-on p p n b v known.1.0)))
  block-follows p n b v st known g (inr (inl q)) =
      from g (Has p b v) (Has p n v) q
      (from-reader S l W c p b v n (Has p n v) (reads-part n b (node.Block b) st refl (inl refl))
      (block-at (Has p b v) p n b v st known.0 (seen-self p b v)))
  block-follows p n b v st known g (inr (inr h)) = absurd h

  pub binding-follows : (p : Trail) (n x a : ℕ) (v : RowValue) → Stands S.checked n (node.Binding x a)
      → (g : RowFact) → Among g (Has p a v ∷ []) → Among (Has p n v) (effects S.checked l W c g)
  binding-follows p n x a v st g (inl q) =
      from g (Has p a v) (Has p n v) q
      (from-reader S l W c p a v n (Has p n v) (reads-part n a (node.Binding x a) st refl (inl refl))
      (given-at S c chained (Has p a v) p n (node.Binding x a) (Has p n v) st.node
      (haves-all p n (values c (Has p a v) p a) v (seen-self p a v))))
  binding-follows p n x a v st g (inr h) = absurd h

  -- ---- structures

  array-at : {nested : Truth} (g : RowFact) (p : Trail) (n a b i : ℕ) (lo hi : ℤ) (x : RowFact)
      → Stands S.checked n (node.Array nested a b) → IsOnBy (items c) i p n
      → are_good lo hi ≡ true → IsMade p n i lo hi x → Among (Int lo) (values c g p a) → Among (Int hi) (values c g p b)
      → Among x (given S.checked c g p n)
  array-at {nested} g p n a b i lo hi x st o e m u w =
      given-at S c chained g p n (node.Array nested a b) x st.node
      (found-at S c chained g p n i (node.Array nested a b) x (found-by S c chained found o)
      (arrays-in p n i lo hi (values c g p a) (values c g p b) x u w e m))

  made-follows : {nested : Truth} (p : Trail) (n a b i : ℕ) (lo hi : ℤ) (x : RowFact)
      → Stands S.checked n (node.Array nested a b) → IsOnBy (items c) i p n → are_good lo hi ≡ true
      → IsMade p n i lo hi x → AllAmong (items c) (On p n ∷ Has p a (Int lo) ∷ Has p b (Int hi) ∷ [])
      → (g : RowFact) → Among g (On p n ∷ Has p a (Int lo) ∷ Has p b (Int hi) ∷ [])
      → Among x (effects S.checked l W c g)
  made-follows {nested} p n a b i lo hi x st o e m known g (inl q) =
      from g (On p n) x q (from-given S l W c p n x (array-at (On p n) p n a b i lo hi x st o e m
      (seen-on p p n a (Int lo) known.1.0) (seen-on p p n b (Int hi) known.1.1.0)))
  made-follows {nested} p n a b i lo hi x st o e m known g (inr (inl q)) =
      let f = Has p a (Int lo) in
      let w = array-order S.checked n a b st in
      from g f x q
      (from-reader S l W c p a (Int lo) n x (reads-part n a (node.Array nested a b) st (inl refl) (inl refl))
      (array-at f p n a b i lo hi x st o e m (seen-self p a (Int lo))
      (seen-by p p a b (Int hi) (Int lo) (λ z. omega arith) known.1.1.0)))
  made-follows {nested} p n a b i lo hi x st o e m known g (inr (inr (inl q))) =
      let f = Has p b (Int hi) in
      let w = array-order S.checked n a b st in
      from g f x q
      (from-reader S l W c p b (Int hi) n x (reads-part n b (node.Array nested a b) st (inr refl) (inr (inl refl)))
      (array-at f p n a b i lo hi x st o e m (seen-by p p b a (Int lo) (Int hi) (λ z. omega arith) known.1.0)
      (seen-self p b (Int hi))))
  made-follows {nested} p n a b i lo hi x st o e m known g (inr (inr (inr h))) = absurd h

  pub made_shape-follows : {nested : Truth} (p : Trail) (n a b i : ℕ) (lo hi : ℤ)
      → Stands S.checked n (node.Array nested a b) → IsOnBy (items c) i p n → are_good lo hi ≡ true
      → AllAmong (items c) (On p n ∷ Has p a (Int lo) ∷ Has p b (Int hi) ∷ [])
      → (g : RowFact) → Among g (On p n ∷ Has p a (Int lo) ∷ Has p b (Int hi) ∷ [])
      → Among (Shape i lo hi) (effects S.checked l W c g)
  made_shape-follows {nested} p n a b i lo hi st o e known g h =
      made-follows p n a b i lo hi (Shape i lo hi) st o e (inl refl) known g h

  pub made_name-follows : {nested : Truth} (p : Trail) (n a b i : ℕ) (lo hi : ℤ)
      → Stands S.checked n (node.Array nested a b) → IsOnBy (items c) i p n → are_good lo hi ≡ true
      → AllAmong (items c) (On p n ∷ Has p a (Int lo) ∷ Has p b (Int hi) ∷ [])
      → (g : RowFact) → Among g (On p n ∷ Has p a (Int lo) ∷ Has p b (Int hi) ∷ [])
      → Among (Has p n (Name i)) (effects S.checked l W c g)
  made_name-follows {nested} p n a b i lo hi st o e known g h =
      made-follows p n a b i lo hi (Has p n (Name i)) st o e (inr refl) known g h

  fetch-at : (g : RowFact) (p : Trail) (n t i s : ℕ) (j lo hi : ℤ) → Stands S.checked n (node.Fetch t i)
      → is_inside lo hi j ≡ true → Known (On p n) → Known (Shape s lo hi) → Among (Name s) (values c g p t)
      → Among (Int j) (values c g p i) → Among (Ask p n s j) (given S.checked c g p n)
  fetch-at g p n t i s j lo hi st e on k u w =
      let r = find-all c chained p n on in
      let b = inside-some (shapes c s) (record { low = lo; high = hi }) j (shapes-all c chained s lo hi k) e in
      given-at S c chained g p n (node.Fetch t i) (Ask p n s j) st.node
      (found-at S c chained g p n r.0 (node.Fetch t i) (Ask p n s j) r.1
      (fetches-in c p n s j (values c g p t) (values c g p i) u w b))

  pub asked-follows : (p : Trail) (n t i s : ℕ) (j lo hi : ℤ) → Stands S.checked n (node.Fetch t i)
      → is_inside lo hi j ≡ true → AllAmong (items c) (On p n ∷ Has p t (Name s) ∷ Has p i (Int j) ∷ Shape s lo hi ∷ [])
      → (g : RowFact) → Among g (On p n ∷ Has p t (Name s) ∷ Has p i (Int j) ∷ Shape s lo hi ∷ [])
      → Among (Ask p n s j) (effects S.checked l W c g)
  asked-follows p n t i s j lo hi st e known g (inl q) =
      let x = Ask p n s j in
      from g (On p n) x q (from-given S l W c p n x (fetch-at (On p n) p n t i s j lo hi st e known.0 known.1.1.1.0
      (seen-on p p n t (Name s) known.1.0) (seen-on p p n i (Int j) known.1.1.0)))
  asked-follows p n t i s j lo hi st e known g (inr (inl q)) =
      let x = Ask p n s j in
      let f = Has p t (Name s) in
      let w = fetch-order S.checked n t i st in
      from g f x q (from-reader S l W c p t (Name s) n x (reads-part n t (node.Fetch t i) st (inl refl) (inl refl))
      (fetch-at f p n t i s j lo hi st e known.0 known.1.1.1.0 (seen-self p t (Name s))
      (seen-by p p t i (Int j) (Name s) (λ z. omega arith) known.1.1.0)))
  asked-follows p n t i s j lo hi st e known g (inr (inr (inl q))) =
      let x = Ask p n s j in
      let f = Has p i (Int j) in
      let w = fetch-order S.checked n t i st in
      from g f x q (from-reader S l W c p i (Int j) n x (reads-part n i (node.Fetch t i) st (inr refl) (inr (inl refl)))
      (fetch-at f p n t i s j lo hi st e known.0 known.1.1.1.0
      (seen-by p p i t (Name s) (Int j) (λ z. omega arith) known.1.0) (seen-self p i (Int j))))
  asked-follows p n t i s j lo hi st e known g (inr (inr (inr (inl q)))) =
      let x = Ask p n s j in
      let f = Has p t (Name s) in
      let w = fetch-order S.checked n t i st in
      from g (Shape s lo hi) x q
      (from-shape S l W c chained s lo hi p t n x known.1.0 (reads-part n t (node.Fetch t i) st (inl refl) (inl refl))
      (fetch-at f p n t i s j lo hi st e known.0 known.1.1.1.0 (seen-self p t (Name s))
      (seen-by p p t i (Int j) (Name s) (λ z. omega arith) known.1.1.0)))
  asked-follows p n t i s j lo hi st e known g (inr (inr (inr (inr h)))) = absurd h

  pub answered-follows : (p q : Trail) (n m s : ℕ) (j : ℤ) (v : RowValue)
      → AllAmong (items c) (Ask p n s j ∷ Put q m s j v ∷ []) → (g : RowFact)
      → Among g (Ask p n s j ∷ Put q m s j v ∷ []) → Among (Has p n v) (effects S.checked l W c g)
  answered-follows p q n m s j v known g (inl e) =
      from g (Ask p n s j) (Has p n v) e (haves-all p n (puts c s j) v (puts-all c chained q m s j v known.1.0))
  answered-follows p q n m s j v known g (inr (inl e)) =
      from g (Put q m s j v) (Has p n v) e (go (asks c s j) (asks-all c chained p n s j known.0))
    where
      go : (qs : List Point) → Among (record { path = p; row = n }) qs → Among (Has p n v) (answered v qs)
      go [] h = absurd h
      go (u ∷ qs) (inl d) = inl (ap (λ y. Has y.path y.row v) d)
      go (u ∷ qs) (inr h) = inr (go qs h)
  answered-follows p q n m s j v known g (inr (inr h)) = absurd h

  store-comes : (g : RowFact) (p : Trail) (m t i x s : ℕ) (j lo hi : ℤ) (v : RowValue) → StoreStands S.checked m t i x
      → is_inside lo hi j ≡ true → Known (On p m) → Known (Shape s lo hi) → Among (Name s) (values c g p t)
      → Among (Int j) (values c g p i) → Among v (values c g p x)
      → Among (Put p m s j v) (given S.checked c g p m)
  store-comes g p m t i x s j lo hi v st e on k u w z =
      let r = find-all c chained p m on in
      let y = Put p m s j v in
      let b = inside-some (shapes c s) (record { low = lo; high = hi }) j (shapes-all c chained s lo hi k) e in
      let F : Node → Type 0 = λ d. Among y (store_at c g p m d x) in
      given-at S c chained g p m (node.Store st.address x) y st.store.node
      (found-at S c chained g p m r.0 (node.Store st.address x) y r.1
      (subst F (sym st.parts.node) (stores-in c p m s j (values c g p t) (values c g p i) (values c g p x) v u w z b)))

  -- a store reads its target, its index and its value
  reads-store : (m t i x a : ℕ) (st : StoreStands S.checked m t i x) → a < length (rows S.checked)
      → Among a (t ∷ i ∷ x ∷ []) → Leads l.reads a m
  reads-store m t i x a st w h =
      let F : Node → Type 0 = λ d. Among a (some_row (target_of d) ++ (some_row (index_of d) ++ x ∷ [])) in
      reader S l W c reads m a (node.Store st.address x) st.store w (subst F (sym st.parts.node) h)

  pub put_there-follows : (p : Trail) (m t i x s : ℕ) (j lo hi : ℤ) (v : RowValue) → StoreStands S.checked m t i x
      → is_inside lo hi j ≡ true
      → AllAmong (items c) (On p m ∷ Has p t (Name s) ∷ Has p i (Int j) ∷ Has p x v ∷ Shape s lo hi ∷ [])
      → (g : RowFact) → Among g (On p m ∷ Has p t (Name s) ∷ Has p i (Int j) ∷ Has p x v ∷ Shape s lo hi ∷ [])
      → Among (Put p m s j v) (effects S.checked l W c g)
  put_there-follows p m t i x s j lo hi v st e known g h = go h
    where
      w : (t < i) × (i < x)
      w = store-order S.checked m t i x st

      comes : (f : RowFact) → Among (Name s) (values c f p t) → Among (Int j) (values c f p i)
          → Among v (values c f p x) → Among (Put p m s j v) (given S.checked c f p m)
      comes f a b d = store-comes f p m t i x s j lo hi v st e known.0 known.1.1.1.1.0 a b d

      target : Leads l.reads t m
      target = reads-store m t i x t st (part-within S st.address t (node.Address t i) st.parts (inl refl)) (inl refl)

      by-target : Among (Put p m s j v) (given S.checked c (Has p t (Name s)) p m)
      by-target =
          comes (Has p t (Name s)) (seen-self p t (Name s))
          (seen-by p p t i (Int j) (Name s) (λ z. omega (arith, w.0)) known.1.1.0)
          (seen-by p p t x v (Name s) (λ z. omega (arith, w.0, w.1)) known.1.1.1.0)

      go : Among g (On p m ∷ Has p t (Name s) ∷ Has p i (Int j) ∷ Has p x v ∷ Shape s lo hi ∷ [])
          → Among (Put p m s j v) (effects S.checked l W c g)
      go (inl q) = from g (On p m) (Put p m s j v) q (from-given S l W c p m (Put p m s j v)
          (comes (On p m) (seen-on p p m t (Name s) known.1.0) (seen-on p p m i (Int j) known.1.1.0)
          (seen-on p p m x v known.1.1.1.0)))
      go (inr (inl q)) =
          from g (Has p t (Name s)) (Put p m s j v) q
          (from-reader S l W c p t (Name s) m (Put p m s j v) target by-target)
      go (inr (inr (inl q))) =
          let f = Has p i (Int j) in
          from g f (Put p m s j v) q (from-reader S l W c p i (Int j) m (Put p m s j v)
          (reads-store m t i x i st (part-within S st.address i (node.Address t i) st.parts (inr refl))
          (inr (inl refl)))
          (comes f (seen-by p p i t (Name s) (Int j) (λ z. omega (arith, w.0)) known.1.0) (seen-self p i (Int j))
          (seen-by p p i x v (Int j) (λ z. omega (arith, w.1)) known.1.1.1.0)))
      go (inr (inr (inr (inl q)))) =
          let f = Has p x v in
          from g f (Put p m s j v) q (from-reader S l W c p x v m (Put p m s j v)
          (reads-store m t i x x st (part-within S m x (node.Store st.address x) st.store (inr refl))
          (inr (inr (inl refl))))
          (comes f (seen-by p p x t (Name s) v (λ z. omega (arith, w.0, w.1)) known.1.0)
          (seen-by p p x i (Int j) v (λ z. omega (arith, w.1)) known.1.1.0) (seen-self p x v)))
      go (inr (inr (inr (inr (inl q))))) =
          from g (Shape s lo hi) (Put p m s j v) q
          (from-shape S l W c chained s lo hi p t m (Put p m s j v) known.1.0 target by-target)
      go (inr (inr (inr (inr (inr k))))) = absurd k
