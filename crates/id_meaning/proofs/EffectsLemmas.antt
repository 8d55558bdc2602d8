-- What is found to follow from a fact, rows give from facts that are there.
use Rattle.std.proofs.Common.{◌≡◌, ◌⊎◌, inl, inr, ℕ, zero, suc, ◌<◌, ℤ, Bool as Truth, true, false, ◌||◌, Option}
use Rattle.std.proofs.Common.{None, Some, List, [], ◌∷◌, length, if◌then◌else◌}
use Rattle.std.proofs.Common.{refl, ap, sym, ◌∙◌, subst, arith}
use Rattle.std.specs.Prelude.{pos}
use Rattle.std.proofs.lemmas.Bool.{false≢true}
use Rattle.id_value.specs.List.{Among}
use Rattle.id_value.proofs.AmongLemmas.{Among-either}
use Rattle.id_value.specs.declared.Constant.{Constant}
use Rattle.id_value.specs.declared.Constant.TheVariants as constant
use Rattle.id_value.specs.declared.UnaryOp.{UnaryOp}
use Rattle.id_value.specs.declared.BinaryOp.{BinaryOp}
use Rattle.id_value.specs.declared.Outcome.{Outcome}
use Rattle.id_value.specs.declared.Outcome.TheVariants.{Gives, Fails, Lacks}
use Rattle.id_value.specs.Bounds.{are_good, is_inside}
use Rattle.id_value.specs.Results.{result_of_unary, result_of_binary}
use Rattle.id_table.specs.declared.row.Node.{Node}
use Rattle.id_table.specs.declared.row.Node.TheVariants as node
use Rattle.id_table.specs.Rows.{at}
use Rattle.id_table.specs.Tables.{is_thing}
use Rattle.id_check.specs.Programs.{Stands, binder, rows}
use Rattle.id_facts.specs.declared.cells.Bounds.{Bounds}
use Rattle.id_facts.specs.declared.cells.Cells.{Cells}
use Rattle.id_facts.specs.declared.facts.RowFact.{RowFact}
use Rattle.id_facts.specs.declared.facts.RowFact.TheVariants.{On, Has, Shape, Put, Ask}
use Rattle.id_facts.specs.declared.facts.RowValue.{RowValue}
use Rattle.id_facts.specs.declared.facts.RowValue.TheVariants.{Int, Bool, Name}
use Rattle.id_facts.specs.declared.facts.Sort.TheVariants.{Shapes}
use Rattle.id_facts.specs.declared.facts.Trail.{Trail}
use Rattle.id_source.specs.Sources.{Source}
use Rattle.id_source.specs.Facts.{StoreStands}
use Rattle.id_source.specs.Links.{arm_of, far_from, test_of}
use Rattle.id_facts.specs.Cells.{AreChained, bounds_by, chain, find, items, out_of, shapes, values}
use Rattle.id_facts.specs.RowFacts.{chain_by, fact_at}
use Rattle.id_meaning.specs.Given.{arm_by, arms, array_by, arrays, asked, asked_by, binaries, binary_by, constant_of}
use Rattle.id_meaning.specs.Given.{fetch_by, fetches, from_found}
use Rattle.id_meaning.specs.Given.{from_on, given, given_of, gives, is_in_some, made, made_by, put_in, rights_of, seen}
use Rattle.id_facts.specs.Firsts.{haves, ons, row_value}
use Rattle.id_meaning.specs.Given.{all_rights, store_at, store_by, stored, stored_by, stores, unaries, unary_by}
use Rattle.id_meaning.proofs.ArgumentsLemmas.{row-within}
use Rattle.id_facts.proofs.LookupLemmas.{bounds-true, fact-there, find-true, told-among, values-true}
use Rattle.id_meaning.proofs.RulesLemmas.{AllAmong, RowRule, part-within}
use Rattle.id_facts.proofs.FactsLemmas.{IsOnBy}
use Rattle.id_meaning.proofs.RulesLemmas as row

-- ---- lists of facts

pub ons-among : (p : Trail) (ns : List ℕ) (x : RowFact) → Among x (ons p ns) → (n : ℕ) × Among n ns × (x ≡ On p n)
ons-among p [] x h = absurd h
ons-among p (n ∷ ns) x (inl e) = (n, inl refl, e)
ons-among p (n ∷ ns) x (inr h) = let r = ons-among p ns x h in (r.0, inr r.1, r.2)

pub haves-among : (p : Trail) (n : ℕ) (vs : List RowValue) (x : RowFact) → Among x (haves p n vs)
    → (v : RowValue) × Among v vs × (x ≡ Has p n v)
haves-among p n [] x h = absurd h
haves-among p n (v ∷ vs) x (inl e) = (v, inl refl, e)
haves-among p n (v ∷ vs) x (inr h) = let r = haves-among p n vs x h in (r.0, inr r.1, r.2)

gives-among : (p : Trail) (n : ℕ) (r : Outcome) (x : RowFact) → Among x (gives p n r)
    → (y : Constant) × (r ≡ Gives y) × (x ≡ Has p n (row_value y))
gives-among p n (Gives y) x (inl e) = (y, refl, e)
gives-among p n (Gives y) x (inr h) = absurd h
gives-among p n (Fails k) x h = absurd h
gives-among p n Lacks x h = absurd h

constant-some : (v : RowValue) (k : Constant) → constant_of v ≡ Some k → v ≡ row_value k
constant-some (Int n) k e = let q : constant.Int n ≡ k = cc in ap row_value q
constant-some (Bool b) k e = let q : constant.Bool b ≡ k = cc in ap row_value q
constant-some (Name s) k e = cc

unaries-among : (p : Trail) (n : ℕ) (o : UnaryOp) (vs : List RowValue) (x : RowFact) → Among x (unaries p n o vs)
    → (k : Constant) × (y : Constant) × Among (row_value k) vs × (result_of_unary o k ≡ Gives y)
    × (x ≡ Has p n (row_value y))
unaries-among p n o [] x h = absurd h
unaries-among p n o (v ∷ vs) x h = elim (Among-either x (unary_by p n o (constant_of v)) (unaries p n o vs) h) [
  | inl i ↦ one (constant_of v) refl i
  | inr i ↦ (let r = unaries-among p n o vs x i in (r.0, r.1, inr r.2, r.3, r.4))
]
  where
    one : (c : Option Constant) → constant_of v ≡ c → Among x (unary_by p n o c)
        → (k : Constant) × (y : Constant) × Among (row_value k) (v ∷ vs) × (result_of_unary o k ≡ Gives y)
        × (x ≡ Has p n (row_value y))
    one None e i = absurd i
    one (Some k) e i =
        let g = gives-among p n (result_of_unary o k) x i in (k, g.0, inl (sym (constant-some v k e)), g.1, g.2)

-- what is given of two constants
abbrev Pair : Trail → ℕ → BinaryOp → List RowValue → List RowValue → RowFact → Type 0
Pair p n o vs ws x =
    (k : Constant) × (m : Constant) × (y : Constant) × Among (row_value k) vs × Among (row_value m) ws
    × (result_of_binary o k m ≡ Gives y)
    × (x ≡ Has p n (row_value y))

rights-among : (p : Trail) (n : ℕ) (o : BinaryOp) (k : Constant) (ws : List RowValue) (x : RowFact)
    → Among x (all_rights p n o k ws) → (m : Constant) × (y : Constant) × Among (row_value m) ws
    × (result_of_binary o k m ≡ Gives y) × (x ≡ Has p n (row_value y))
rights-among p n o k [] x h = absurd h
rights-among p n o k (w ∷ ws) x h =
    elim (Among-either x (binary_by p n o k (constant_of w)) (all_rights p n o k ws) h) [
      | inl i ↦ one (constant_of w) refl i
      | inr i ↦ (let r = rights-among p n o k ws x i in (r.0, r.1, inr r.2, r.3, r.4))
    ]
  where
    one : (c : Option Constant) → constant_of w ≡ c → Among x (binary_by p n o k c)
        → (m : Constant) × (y : Constant) × Among (row_value m) (w ∷ ws) × (result_of_binary o k m ≡ Gives y)
        × (x ≡ Has p n (row_value y))
    one None e i = absurd i
    one (Some m) e i =
        let g = gives-among p n (result_of_binary o k m) x i in (m, g.0, inl (sym (constant-some w m e)), g.1, g.2)

binaries-among : (p : Trail) (n : ℕ) (o : BinaryOp) (vs ws : List RowValue) (x : RowFact)
    → Among x (binaries p n o vs ws) → Pair p n o vs ws x
binaries-among p n o [] ws x h = absurd h
binaries-among p n o (v ∷ vs) ws x h =
    elim (Among-either x (rights_of p n o (constant_of v) ws) (binaries p n o vs ws) h) [
      | inl i ↦ one (constant_of v) refl i
      | inr i ↦ (let r = binaries-among p n o vs ws x i in (r.0, r.1, r.2, inr r.3, r.4, r.5, r.6))
    ]
  where
    one : (c : Option Constant) → constant_of v ≡ c → Among x (rights_of p n o c ws) → Pair p n o (v ∷ vs) ws x
    one None e i = absurd i
    one (Some k) e i =
        let r = rights-among p n o k ws x i in (k, r.0, r.1, inl (sym (constant-some v k e)), r.2, r.3, r.4)

-- what comes of structures
record IsMade (p : Trail) (n i : ℕ) (vs ws : List RowValue) (x : RowFact) : Type 0 where
  pub lo : ℤ
  pub hi : ℤ
  pub lowest : Among (Int lo) vs
  pub highest : Among (Int hi) ws
  pub good : are_good lo hi ≡ true
  pub is : (x ≡ Shape i lo hi) ⊎ (x ≡ Has p n (Name i))

made-among : (p : Trail) (n i : ℕ) (lo : ℤ) (ws : List RowValue) (x : RowFact) → Among x (made p n i lo ws)
    → IsMade p n i (Int lo ∷ []) ws x
made-among p n i lo [] x h = absurd h
made-among p n i lo (w ∷ ws) x h = elim (Among-either x (made_by p n i lo w) (made p n i lo ws) h) [
  | inl k ↦ one w refl k
  | inr k ↦
      let r = made-among p n i lo ws x k in
      record { lo = r.lo; hi = r.hi; lowest = r.lowest; highest = inr r.highest; good = r.good; is = r.is }
]
  where
    by : (b : Truth) (hi : ℤ) → are_good lo hi ≡ b → w ≡ Int hi
        → Among x (if b then Shape i lo hi ∷ Has p n (Name i) ∷ [] else []) →
        IsMade p n i (Int lo ∷ []) (w ∷ ws) x
    by true hi e q (inl k) = record { lo = lo; hi = hi; lowest = inl refl; highest = inl (sym q); good = e; is = inl k }
    by true hi e q (inr (inl k)) =
        record { lo = lo; hi = hi; lowest = inl refl; highest = inl (sym q); good = e; is = inr k }
    by true hi e q (inr (inr k)) = absurd k
    by false hi e q k = absurd k

    one : (v : RowValue) → w ≡ v → Among x (made_by p n i lo v) → IsMade p n i (Int lo ∷ []) (w ∷ ws) x
    one (Int hi) q k = by (are_good lo hi) hi refl q k
    one (Bool b) q k = absurd k
    one (Name s) q k = absurd k

arrays-among : (p : Trail) (n i : ℕ) (vs ws : List RowValue) (x : RowFact) → Among x (arrays p n i vs ws)
    → IsMade p n i vs ws x
arrays-among p n i [] ws x h = absurd h
arrays-among p n i (v ∷ vs) ws x h = elim (Among-either x (array_by p n i v ws) (arrays p n i vs ws) h) [
  | inl k ↦ one v refl k
  | inr k ↦
      let r = arrays-among p n i vs ws x k in
      record { lo = r.lo; hi = r.hi; lowest = inr r.lowest; highest = r.highest; good = r.good; is = r.is }
]
  where
    one : (u : RowValue) → v ≡ u → Among x (array_by p n i u ws) → IsMade p n i (v ∷ vs) ws x
    one (Int lo) q k =
        let r = made-among p n i lo ws x k in
        let F : RowValue → Type 0 = λ y. Among (Int r.lo) (y ∷ vs) in
        record {
          lo = r.lo;
          hi = r.hi;
          lowest = subst F (sym q) (widen r.lo lo r.lowest);
          highest = r.highest;
          good =
              r.good;
          is = r.is;
        }
      where
        widen : (a b : ℤ) → Among (Int a) (Int b ∷ []) → Among (Int a) (Int b ∷ vs)
        widen a b (inl e) = inl e
        widen a b (inr f) = absurd f
    one (Bool b) q k = absurd k
    one (Name s) q k = absurd k

-- an index that is inside some bounds is inside one of them
some-inside : (bs : List Bounds) (j : ℤ) → is_in_some bs j ≡ true
    → (b : Bounds) × Among b bs × (is_inside b.low b.high j ≡ true)
some-inside [] j h = absurd (false≢true h)
some-inside (b ∷ bs) j h = go (is_inside b.low b.high j) refl (λ k. some-inside bs j k) h
  where
    go : (t : Truth) → is_inside b.low b.high j ≡ t
        → (is_in_some bs j ≡ true → (d : Bounds) × Among d bs × (is_inside d.low d.high j ≡ true))
        → (t || is_in_some bs j) ≡ true → (d : Bounds) × Among d (b ∷ bs) × (is_inside d.low d.high j ≡ true)
    go true e rest k = (b, inl refl, e)
    go false e rest k = let r = rest k in (r.0, inr r.1, r.2)

-- ---- what comes at a row

module _ (S : Source) (c : Cells) (chained : AreChained c) where
  -- rows give the fact from facts that are there
  pub record Given (x : RowFact) : Type 0 where
    pub premises : List RowFact
    pub rule : RowRule S (items c) premises x
    pub known : AllAmong (items c) premises

  same : (x y : RowFact) → x ≡ y → Given y → Given x
  same x y e g = let F : RowFact → Type 0 = λ z. Given z in subst F (sym e) g

  stands : (n : ℕ) (z : Node) → (at (rows S.checked) n).node ≡ z → is_thing z ≡ true → Stands S.checked n z
  stands n z e t = record { within = row-within (rows S.checked) n is_thing refl (ap is_thing e ∙ t); node = e }

  has : (g : RowFact) (p : Trail) (n : ℕ) (v : RowValue) → Among g (items c) → Among v (values c g p n)
      → Among (Has p n v) (items c)
  has g p n v i h = values-true c chained g p n v i h

  on-there : (p : Trail) (n i : ℕ) → IsOnBy (items c) i p n → Among (On p n) (items c)
  on-there p n i o = let F : RowFact → Type 0 = λ f. Among f (items c) in subst F o.fact (in-list (items c) i o.within)
    where
      in-list : (fs : List RowFact) (i : ℕ) → i < length fs → Among (fact_at fs i) fs
      in-list [] i l = absurd (omega arith)
      in-list (f ∷ fs) zero l = inl refl
      in-list (f ∷ fs) (suc i) l = inr (in-list fs i (omega arith))

  shape-there : (s : ℕ) (b : Bounds) → Among b (shapes c s) → Among (Shape s b.low b.high) (items c)
  shape-there s b h =
      let k = chain_by Shapes s (pos 0) in
      let r = told-among (bounds_by s) (items c) (chain c k) b h in
      fact-there c chained k r.0 (Shape s b.low b.high) r.1 (bounds-true s b (fact_at (items c) r.0) r.2)

  module _ (g : RowFact) (here : Among g (items c)) (p : Trail) (n i : ℕ) (o : IsOnBy (items c) i p n) where
    on : Among (On p n) (items c)
    on = on-there p n i o

    literal-given : (k : Constant) (x : RowFact) → (at (rows S.checked) n).node ≡ node.Literal k
        → Among x (Has p n (row_value k) ∷ []) → Given x
    literal-given k x e (inl q) = same x (Has p n (row_value k)) q
        (record { premises = On p n ∷ []; rule = row.literal (stands n (node.Literal k) e refl); known = (on, tt) })
    literal-given k x e (inr h) = absurd h

    unary-given : (u : UnaryOp) (a : ℕ) (x : RowFact) → (at (rows S.checked) n).node ≡ node.Unary u a
        → Among x (unaries p n u (values c g p a)) → Given x
    unary-given u a x e h =
        let r = unaries-among p n u (values c g p a) x h in
        same x (Has p n (row_value r.1)) r.4 (record {
          premises = On p n ∷ Has p a (row_value r.0) ∷ [];
          rule = row.unary r.0 (stands n (node.Unary u a) e refl) r.3;
          known = (on, (has g p a (row_value r.0) here r.2, tt));
        })

    binary-given : (u : BinaryOp) (a b : ℕ) (x : RowFact) → (at (rows S.checked) n).node ≡ node.Binary u a b
        → Among x (binaries p n u (values c g p a) (values c g p b)) → Given x
    binary-given u a b x e h =
        let r = binaries-among p n u (values c g p a) (values c g p b) x h in
        same x (Has p n (row_value r.2)) r.6 (record {
          premises = On p n ∷ Has p a (row_value r.0) ∷ Has p b (row_value r.1) ∷ [];
          rule = row.binary r.0 r.1 (stands n (node.Binary u a b) e refl) r.5;
          known = (on, (has g p a (row_value r.0) here r.3, (has g p b (row_value r.1) here r.4, tt)));
        })

    name-given : (y : ℕ) (b : Option ℕ) (x : RowFact) → (at (rows S.checked) n).node ≡ node.Name y
        → binder S.checked n ≡ b → Among x (haves p n (seen c g (out_of (items c) (far_from S.checked n b) p) b))
        → Given x
    name-given y None x e f h = let r = haves-among p n [] x h in absurd r.1
    name-given y (Some b) x e f h =
        let q = out_of (items c) (far_from S.checked n (Some b)) p in
        let r = haves-among p n (values c g q b) x h in
        same x (Has p n r.0) r.2 (record {
          premises = On p n ∷ Has q b r.0 ∷ [];
          rule = row.name (stands n (node.Name y) e refl) f;
          known = (on, (has g q b r.0 here r.1, tt));
        })

    block-given : (b : ℕ) (x : RowFact) → (at (rows S.checked) n).node ≡ node.Block b
        → Among x (haves p n (values c g p b)) → Given x
    block-given b x e h =
        let r = haves-among p n (values c g p b) x h in
        same x (Has p n r.0) r.2
        (record {
          premises = On p n ∷ Has p b r.0 ∷ [];
          rule = row.block (stands n (node.Block b) e refl);
          known =
              (on, (has g p b r.0 here r.1, tt));
        })

    arm-given : (s a b t : ℕ) (v : RowValue) (x : RowFact) → Stands S.checked n (node.If s a b)
        → Stands S.checked s (node.Split t) →
        Among (Has p t v) (items c)
        → Among x (arm_by c g p n a b v) → Given x
    arm-given s a b t (Bool d) x st sp w (inl q) =
        same x (On p (arm_of d a b)) q (record {
          premises = On p n ∷ Has p t (Bool d) ∷ [];
          rule = row.arm d st sp;
          known = (on, (w, tt));
        })
    arm-given s a b t (Bool d) x st sp w (inr h) =
        let r = haves-among p n (values c g p (arm_of d a b)) x h in
        same x (Has p n r.0) r.2 (record {
          premises = On p n ∷ Has p t (Bool d) ∷ Has p (arm_of d a b) r.0 ∷ [];
          rule = row.conditional d st sp;
          known = (on, (w, (has g p (arm_of d a b) r.0 here r.1, tt)));
        })
    arm-given s a b t (Int k) x st sp w h = absurd h
    arm-given s a b t (Name k) x st sp w h = absurd h

    arms-given : (s a b t : ℕ) (vs : List RowValue) (x : RowFact) → Stands S.checked n (node.If s a b)
        → Stands S.checked s (node.Split t) → ((v : RowValue) → Among v vs → Among (Has p t v) (items c))
        → Among x (arms c g p n a b vs) → Given x
    arms-given s a b t [] x st sp w h = absurd h
    arms-given s a b t (v ∷ vs) x st sp w h = elim (Among-either x (arm_by c g p n a b v) (arms c g p n a b vs) h) [
      | inl k ↦ arm-given s a b t v x st sp (w v (inl refl)) k
      | inr k ↦ arms-given s a b t vs x st sp (λ u i. w u (inr i)) k
    ]

    if-given : (s a b : ℕ) (z : Node) (x : RowFact) → (at (rows S.checked) n).node ≡ node.If s a b
        → (at (rows S.checked) s).node ≡ z → Among x (arms c g p n a b (seen c g p (test_of z))) → Given x
    if-given s a b (node.Split t) x e f h =
        let st = stands n (node.If s a b) e refl in
        let sp : Stands S.checked s (node.Split t) =
        record { within = part-within S n s (node.If s a b) st (inl refl); node = f } in
        arms-given s a b t (values c g p t) x st sp (λ v i. has g p t v here i) h
    if-given s a b _ x e f h = absurd h

    array-given : (nested : Truth) (a b : ℕ) (x : RowFact) → (at (rows S.checked) n).node ≡ node.Array nested a b
        → Among x (arrays p n i (values c g p a) (values c g p b)) → Given x
    array-given nested a b x e h =
        let r = arrays-among p n i (values c g p a) (values c g p b) x h in
        let st = stands n (node.Array nested a b) e refl in
        let l = has g p a (Int r.lo) here r.lowest in
        let m = has g p b (Int r.hi) here r.highest in
        elim r.is [
          | inl q ↦ same x (Shape i r.lo r.hi) q (record {
            premises = On p n ∷ Has p a (Int r.lo) ∷ Has p b (Int r.hi) ∷ [];
            rule = row.made_shape st o r.good;
            known = (on, (l, (m, tt)));
          })
          | inr q ↦ same x (Has p n (Name i)) q (record {
            premises = On p n ∷ Has p a (Int r.lo) ∷ Has p b (Int r.hi) ∷ [];
            rule = row.made_name st o r.good;
            known = (on, (l, (m, tt)));
          })
        ]

    asked-given : (t j s : ℕ) (w : RowValue) (x : RowFact) → Stands S.checked n (node.Fetch t j)
        → Among (Has p t (Name s)) (items c) →
        Among (Has p j w) (items c)
        → Among x (asked_by p n s (shapes c s) w) → Given x
    asked-given t j s (Int k) x st u w h = by (is_in_some (shapes c s) k) refl h
      where
        by : (b : Truth) → is_in_some (shapes c s) k ≡ b → Among x (if b then Ask p n s k ∷ [] else []) → Given x
        by true e (inl q) =
            let d = some-inside (shapes c s) k e in
            same x (Ask p n s k) q (record {
              premises = On p n ∷ Has p t (Name s) ∷ Has p j (Int k) ∷ Shape s d.0.low d.0.high ∷ [];
              rule = row.asked st d.2;
              known = (on, (u, (w, (shape-there s d.0 d.1, tt))));
            })
        by true e (inr k) = absurd k
        by false e k = absurd k
    asked-given t j s (Bool b) x st u w h = absurd h
    asked-given t j s (Name y) x st u w h = absurd h

    askeds-given : (t j s : ℕ) (ws : List RowValue) (x : RowFact) → Stands S.checked n (node.Fetch t j)
        → Among (Has p t (Name s)) (items c) → ((w : RowValue) → Among w ws → Among (Has p j w) (items c))
        → Among x (asked p n s (shapes c s) ws) → Given x
    askeds-given t j s [] x st u w h = absurd h
    askeds-given t j s (v ∷ ws) x st u w h =
        elim (Among-either x (asked_by p n s (shapes c s) v) (asked p n s (shapes c s) ws) h) [
          | inl k ↦ asked-given t j s v x st u (w v (inl refl)) k
          | inr k ↦ askeds-given t j s ws x st u (λ y i. w y (inr i)) k
        ]

    fetch-given : (t j : ℕ) (v : RowValue) (ws : List RowValue) (x : RowFact) → Stands S.checked n (node.Fetch t j)
        → Among (Has p t v) (items c) → ((w : RowValue) → Among w ws → Among (Has p j w) (items c))
        → Among x (fetch_by c p n v ws) → Given x
    fetch-given t j (Name s) ws x st u w h = askeds-given t j s ws x st u w h
    fetch-given t j (Int k) ws x st u w h = absurd h
    fetch-given t j (Bool k) ws x st u w h = absurd h

    fetches-given : (t j : ℕ) (vs ws : List RowValue) (x : RowFact) → Stands S.checked n (node.Fetch t j)
        → ((v : RowValue) → Among v vs → Among (Has p t v) (items c))
        → ((w : RowValue) → Among w ws → Among (Has p j w) (items c))
        → Among x (fetches c p n vs ws) → Given x
    fetches-given t j [] ws x st u w h = absurd h
    fetches-given t j (v ∷ vs) ws x st u w h = elim (Among-either x (fetch_by c p n v ws) (fetches c p n vs ws) h) [
      | inl k ↦ fetch-given t j v ws x st (u v (inl refl)) w k
      | inr k ↦ fetches-given t j vs ws x st (λ y i. u y (inr i)) w k
    ]

    put-given : (t j y s : ℕ) (k : ℤ) (b : Bounds) (vs : List RowValue) (x : RowFact) → StoreStands S.checked n t j y
        → Among (Has p t (Name s)) (items c) → Among (Has p j (Int k)) (items c)
        → Among (Shape s b.low b.high) (items c) → is_inside b.low b.high k ≡ true
        → ((v : RowValue) → Among v vs → Among (Has p y v) (items c)) → Among x (put_in p n s k vs) → Given x
    put-given t j y s k b [] x st u w d e f h = absurd h
    put-given t j y s k b (v ∷ vs) x st u w d e f (inl q) = same x (Put p n s k v) q (record {
      premises = On p n ∷ Has p t (Name s) ∷ Has p j (Int k) ∷ Has p y v ∷ Shape s b.low b.high ∷ [];
      rule = row.put_there st e;
      known = (on, (u, (w, (f v (inl refl), (d, tt)))));
    })
    put-given t j y s k b (v ∷ vs) x st u w d e f (inr h) = put-given t j y s k b vs x st u w d e (λ z i. f z (inr i)) h

    stored-given : (t j y s : ℕ) (w : RowValue) (vs : List RowValue) (x : RowFact) → StoreStands S.checked n t j y
        → Among (Has p t (Name s)) (items c) → Among (Has p j w) (items c)
        → ((v : RowValue) → Among v vs → Among (Has p y v) (items c)) → Among x (stored_by p n s (shapes c s) vs w)
        → Given x
    stored-given t j y s (Int k) vs x st u w f h = by (is_in_some (shapes c s) k) refl h
      where
        by : (b : Truth) → is_in_some (shapes c s) k ≡ b → Among x (if b then put_in p n s k vs else []) → Given x
        by true e q =
            let d = some-inside (shapes c s) k e in put-given t j y s k d.0 vs x st u w (shape-there s d.0 d.1) d.2 f q
        by false e q = absurd q
    stored-given t j y s (Bool b) vs x st u w f h = absurd h
    stored-given t j y s (Name z) vs x st u w f h = absurd h

    storeds-given : (t j y s : ℕ) (ws vs : List RowValue) (x : RowFact) → StoreStands S.checked n t j y
        → Among (Has p t (Name s)) (items c) → ((w : RowValue) → Among w ws → Among (Has p j w) (items c))
        → ((v : RowValue) → Among v vs → Among (Has p y v) (items c))
        → Among x (stored p n s (shapes c s) ws vs) → Given x
    storeds-given t j y s [] vs x st u w f h = absurd h
    storeds-given t j y s (v ∷ ws) vs x st u w f h =
        elim (Among-either x (stored_by p n s (shapes c s) vs v) (stored p n s (shapes c s) ws vs) h) [
          | inl k ↦ stored-given t j y s v vs x st u (w v (inl refl)) f k
          | inr k ↦ storeds-given t j y s ws vs x st u (λ z i. w z (inr i)) f k
        ]

    store-given : (t j y : ℕ) (v : RowValue) (ws vs : List RowValue) (x : RowFact) → StoreStands S.checked n t j y
        → Among (Has p t v) (items c) → ((w : RowValue) → Among w ws → Among (Has p j w) (items c))
        → ((v : RowValue) → Among v vs → Among (Has p y v) (items c))
        → Among x (store_by c p n v ws vs) → Given x
    store-given t j y (Name s) ws vs x st u w f h = storeds-given t j y s ws vs x st u w f h
    store-given t j y (Int k) ws vs x st u w f h = absurd h
    store-given t j y (Bool k) ws vs x st u w f h = absurd h

    stores-given : (t j y : ℕ) (us ws vs : List RowValue) (x : RowFact) → StoreStands S.checked n t j y
        → ((u : RowValue) → Among u us → Among (Has p t u) (items c))
        → ((w : RowValue) → Among w ws → Among (Has p j w) (items c))
        → ((v : RowValue) → Among v vs → Among (Has p y v) (items c)) → Among x (stores c p n us ws vs) → Given x
    stores-given t j y [] ws vs x st u w f h = absurd h
    stores-given t j y (v ∷ us) ws vs x st u w f h =
        elim (Among-either x (store_by c p n v ws vs) (stores c p n us ws vs) h) [
          | inl k ↦ store-given t j y v ws vs x st (u v (inl refl)) w f k
          | inr k ↦ stores-given t j y us ws vs x st (λ z i. u z (inr i)) w f k
        ]

    store-at-given : (a y : ℕ) (z : Node) (x : RowFact) → (at (rows S.checked) n).node ≡ node.Store a y
        → (at (rows S.checked) a).node ≡ z → Among x (store_at c g p n z y) → Given x
    store-at-given a y (node.Address t j) x e f h =
        let so = stands n (node.Store a y) e refl in
        let ad : Stands S.checked a (node.Address t j) =
        record { within = part-within S n a (node.Store a y) so (inl refl); node = f } in
        let st : StoreStands S.checked n t j y = record { address = a; store = so; parts = ad } in
        stores-given t j y (values c g p t) (values c g p j) (values c g p y) x st (λ v k. has g p t v here k)
        (λ v k. has g p j v here k)
        (λ v k. has g p y v here k) h
    store-at-given a y _ x e f h = absurd h

    from-on-given : (z : Node) (x : RowFact) → (at (rows S.checked) n).node ≡ z
        → Among x (from_on S.checked c g p n i z) → Given x
    from-on-given (node.Literal k) x e h = literal-given k x e h
    from-on-given (node.Name y) x e h = name-given y (binder S.checked n) x e refl h
    from-on-given (node.Unary u a) x e h = unary-given u a x e h
    from-on-given (node.Binary u a b) x e h = binary-given u a b x e h
    from-on-given (node.If s a b) x e h = if-given s a b (at (rows S.checked) s).node x e refl h
    from-on-given (node.Block b) x e h = block-given b x e h
    from-on-given (node.Array nested a b) x e h = array-given nested a b x e h
    from-on-given (node.Fetch t j) x e h =
        fetches-given t j (values c g p t) (values c g p j) x (stands n (node.Fetch t j) e refl)
        (λ v k. has g p t v here k) (λ v k. has g p j v here k) h
    from-on-given (node.Store a y) x e h = store-at-given a y (at (rows S.checked) a).node x e refl h
    from-on-given _ x e h = absurd h

  binding-given : (g : RowFact) (p : Trail) (n y a : ℕ) (x : RowFact) → Among g (items c)
      → (at (rows S.checked) n).node ≡ node.Binding y a → Among x (haves p n (values c g p a)) → Given x
  binding-given g p n y a x here e h =
      let r = haves-among p n (values c g p a) x h in
      same x (Has p n r.0) r.2
      (record {
        premises = Has p a r.0 ∷ [];
        rule = row.binding (stands n (node.Binding y a) e refl);
        known =
            (has g p a r.0 here r.1, tt);
      })

  found-given : (g : RowFact) (p : Trail) (n : ℕ) (z : Node) (i : Option ℕ) (x : RowFact) → Among g (items c)
      → (at (rows S.checked) n).node ≡ z →
      find c p n ≡ i
      → Among x (from_found S.checked c g p n z i) → Given x
  found-given g p n z None x here e f h = absurd h
  found-given g p n z (Some i) x here e f h = from-on-given g here p n i (find-true c chained p n i f) z x e h

  -- what comes at a row, where the fact g is followed
  pub given-only : (g : RowFact) (p : Trail) (n : ℕ) (x : RowFact) → Among g (items c)
      → Among x (given S.checked c g p n) → Given x
  given-only g p n x here h = go (at (rows S.checked) n).node refl h
    where
      go : (z : Node) → (at (rows S.checked) n).node ≡ z → Among x (given_of S.checked c g p n z) → Given x
      go (node.Binding y a) e k = binding-given g p n y a x here e k
      go z e k = found-given g p n z (find c p n) x here e refl k
