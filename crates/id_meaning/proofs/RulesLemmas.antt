-- The rules by path and row, and that what they give follows by a rule of the source.
use Rattle.std.proofs.Common.{◌≡◌, inl, inr, ℕ, zero, suc, ◌+◌, ◌<◌, ℤ, Bool as Truth, true, false, Some, List, []}
use Rattle.std.proofs.Common.{◌∷◌, length, refl, ap, sym, ◌∙◌, subst, arith}
use Rattle.std.specs.Prelude.{slice_get, pos, ◌+ℤ◌, int_le, int_lt}
use Rattle.id_value.specs.List.{Among}
use Rattle.id_value.proofs.AmongLemmas.{Among-from_at}
use Rattle.id_value.specs.declared.Constant.{Constant}
use Rattle.id_value.specs.declared.Constant.TheVariants as constant
use Rattle.id_value.specs.declared.Kind.{Kind}
use Rattle.id_value.specs.declared.UnaryOp.{UnaryOp}
use Rattle.id_value.specs.declared.BinaryOp.{BinaryOp}
use Rattle.id_value.specs.declared.Outcome.TheVariants.{Gives}
use Rattle.id_value.specs.Bounds.{are_good, is_inside}
use Rattle.id_value.specs.Results.{result_of_unary, result_of_binary}
use Rattle.id_table.specs.declared.row.Node.{Node}
use Rattle.id_table.specs.declared.row.Node.TheVariants as node
use Rattle.id_table.specs.Rows.{at}
use Rattle.id_table.specs.Tables.{HasPart, is_call}
use Rattle.id_table.specs.Turns.{Turns, operand, left, right, test, argument, body, low, high, fetched, fetch_index}
use Rattle.id_table.specs.Turns.{address_target, address_index}
use Rattle.id_table.specs.Turns.{params_at, statement, stored, stored_value, index_low, index_high}
use Rattle.id_check.specs.Programs.{Stands, binder, place, rows}
use Rattle.id_check.proofs.ProgramsLemmas.{binder_below, table_of}
use Rattle.id_source.specs.declared.Path.{Path}
use Rattle.id_source.specs.declared.SourceValue.{SourceValue}
use Rattle.id_source.specs.declared.SourceValue.TheVariants as value
use Rattle.id_source.specs.declared.Site.{Site}
use Rattle.id_source.specs.declared.Fact.{Fact}
use Rattle.id_source.specs.declared.Fact.TheVariants as fact
use Rattle.id_facts.specs.declared.facts.RowFact.{RowFact}
use Rattle.id_facts.specs.declared.facts.RowFact.TheVariants.{On, Has, Shape, Put, Ask}
use Rattle.id_facts.specs.declared.facts.RowValue.{RowValue}
use Rattle.id_facts.specs.declared.facts.RowValue.TheVariants.{Int, Bool, Name}
use Rattle.id_facts.specs.declared.facts.Trail.{Trail}
use Rattle.id_facts.specs.declared.facts.Trail.TheVariants.{Outermost, Below}
use Rattle.id_source.specs.Sources.{Source, IsInput, main_body, value_of}
use Rattle.id_source.specs.Facts.{ForStands, GoesOn, LoopStands, NextStands, StoreStands, BodyBinds, BodyStores, Rule}
use Rattle.id_source.specs.Facts.{ask, below, between, put, shape, site, without}
use Rattle.id_source.specs.Facts as rule
use Rattle.id_source.specs.Rounds.{Every, Rounds}
use Rattle.id_source.specs.Links.{BodyTurns, PartTurns, arm_of, far_from, of_binding, of_next, of_store}
use Rattle.id_facts.specs.RowFacts.{fact_at, path_of, row_of}
use Rattle.id_facts.specs.Cells.{out_of}
use Rattle.id_facts.specs.Firsts.{row_value}
use Rattle.id_facts.specs.Listed.{BeginsOn, IsArrayOn, IsOfThing, IsRound, NamesArray, NamesArrays, fact_of, name_at}
use Rattle.id_facts.specs.Listed.{path_at, value_at}
use Rattle.id_source.specs.Things.{IsThing}
use Rattle.id_source.proofs.CheckedLemmas.{far-between, next-loop, thing-param, use_binder}
use Rattle.id_source.proofs.AroundLemmas.{around-within}
use Rattle.id_source.proofs.ParamsLemmas.{input_param, params-among}
use Rattle.id_facts.proofs.PathsLemmas.{path-below, path-out}
use Rattle.id_source.proofs.ThingsLemmas.{main-thing, node-thing, part-thing, test-thing}
use Rattle.id_meaning.proofs.ForLemmas.{for-by-bounds}
use Rattle.id_table.specs.Loops.{bounds_row}
use Rattle.id_facts.proofs.FactsLemmas.{IsOnBy}

-- by these facts of rows the loop at the row n, with its switches at w, which is On at the path p by the fact of number
-- i, goes on or not in iteration k (GoesOn of a source)
pub data RowGoesOn (S : Source) (n w : ℕ) (p : Trail) (i : ℕ) : ℕ → Truth → List RowFact → Type 0 where
  by_predicate : {h t l : ℕ} {b : Truth} (k : ℕ) → LoopStands S.checked n h w t l
      → RowGoesOn S n w p i k b (Has (Below i k) t (Bool b) ∷ [])
  by_bounds : {x a b l : ℕ} {lo hi : ℤ} {c : Truth} → ForStands S.checked n w x a b l → int_le lo hi ≡ c
      → RowGoesOn S n w p i 0 c (On p n ∷ Has p a (Int lo) ∷ Has p b (Int hi) ∷ [])
  by_index : {x a b l : ℕ} {j hi : ℤ} {c : Truth} (k : ℕ) → ForStands S.checked n w x a b l → int_lt j hi ≡ c
      → RowGoesOn S n w p i (k + 1) c (Has (Below i k) x (Int j) ∷ Has p b (Int hi) ∷ [])

-- from these facts of rows this one follows by one rule, where these are all
pub data RowRule (S : Source) (fs : List RowFact) : List RowFact → RowFact → Type 0 where
  main : RowRule S fs [] (On Outermost (main_body S.checked))
  input : {n : ℕ} {c : Constant} → IsInput S n c → RowRule S fs [] (Has Outermost n (row_value c))
  turned : {p : Trail} {n a : ℕ} → n < length (rows S.checked) → PartTurns (rows S.checked) n a
      → RowRule S fs (On p n ∷ []) (On p a)
  literal : {p : Trail} {n : ℕ} {c : Constant} → Stands S.checked n (node.Literal c)
      → RowRule S fs (On p n ∷ []) (Has p n (row_value c))
  unary : {p : Trail} {n a : ℕ} {o : UnaryOp} {x : Constant} (c : Constant) → Stands S.checked n (node.Unary o a)
      → result_of_unary o c ≡ Gives x → RowRule S fs (On p n ∷ Has p a (row_value c) ∷ []) (Has p n (row_value x))
  binary : {p : Trail} {n a b : ℕ} {o : BinaryOp} {x : Constant} (c d : Constant)
      → Stands S.checked n (node.Binary o a b) → result_of_binary o c d ≡ Gives x
      → RowRule S fs (On p n ∷ Has p a (row_value c) ∷ Has p b (row_value d) ∷ []) (Has p n (row_value x))
  name : {p : Trail} {n x b : ℕ} {v : RowValue} → Stands S.checked n (node.Name x) → binder S.checked n ≡ Some b
      → RowRule S fs (On p n ∷ Has (out_of fs (far_from S.checked n (Some b)) p) b v ∷ []) (Has p n v)
  arm : {p : Trail} {n s x y t : ℕ} (b : Truth) → Stands S.checked n (node.If s x y) → Stands S.checked s (node.Split t)
      → RowRule S fs (On p n ∷ Has p t (Bool b) ∷ []) (On p (arm_of b x y))
  conditional : {p : Trail} {n s x y t : ℕ} {v : RowValue} (b : Truth) → Stands S.checked n (node.If s x y)
      → Stands S.checked s (node.Split t)
      → RowRule S fs (On p n ∷ Has p t (Bool b) ∷ Has p (arm_of b x y) v ∷ []) (Has p n v)
  block : {p : Trail} {n b : ℕ} {v : RowValue} → Stands S.checked n (node.Block b)
      → RowRule S fs (On p n ∷ Has p b v ∷ []) (Has p n v)
  binding : {p : Trail} {n x a : ℕ} {v : RowValue} → Stands S.checked n (node.Binding x a)
      → RowRule S fs (Has p a v ∷ []) (Has p n v)
  made_shape : {p : Trail} {n a b i : ℕ} {nested : Truth} {lo hi : ℤ} → Stands S.checked n (node.Array nested a b)
      → IsOnBy fs i p n → are_good lo hi ≡ true
      → RowRule S fs (On p n ∷ Has p a (Int lo) ∷ Has p b (Int hi) ∷ []) (Shape i lo hi)
  made_name : {p : Trail} {n a b i : ℕ} {nested : Truth} {lo hi : ℤ} → Stands S.checked n (node.Array nested a b)
      → IsOnBy fs i p n → are_good lo hi ≡ true
      → RowRule S fs (On p n ∷ Has p a (Int lo) ∷ Has p b (Int hi) ∷ []) (Has p n (Name i))
  asked : {p : Trail} {n t i s : ℕ} {j lo hi : ℤ} → Stands S.checked n (node.Fetch t i) → is_inside lo hi j ≡ true
      → RowRule S fs (On p n ∷ Has p t (Name s) ∷ Has p i (Int j) ∷ Shape s lo hi ∷ []) (Ask p n s j)
  answered : {p q : Trail} {n m s : ℕ} {j : ℤ} {v : RowValue}
      → RowRule S fs (Ask p n s j ∷ Put q m s j v ∷ []) (Has p n v)
  put_there : {p : Trail} {m t i x s : ℕ} {j lo hi : ℤ} {v : RowValue} → StoreStands S.checked m t i x
      → is_inside lo hi j ≡ true
      → RowRule S fs (On p m ∷ Has p t (Name s) ∷ Has p i (Int j) ∷ Has p x v ∷ Shape s lo hi ∷ []) (Put p m s j v)
  asks_argument : {p : Trail} {n e c m k v : ℕ} → Stands S.checked n (node.Call e c)
      → Stands S.checked m (node.Arg e k v) → RowRule S fs (On p n ∷ []) (On p v)
  begins : {p : Trail} {n e c d x h b i : ℕ} {k : Kind} → Stands S.checked n (node.Call e c)
      → binder S.checked e ≡ Some d → Stands S.checked d (node.Def x h k b) → IsOnBy fs i p n
      → RowRule S fs (On p n ∷ []) (On (Below i 0) b)
  passes : {p : Trail} {n e c d x h b m j a q i : ℕ} {k : Kind} {v : RowValue} → Stands S.checked n (node.Call e c)
      → Stands S.checked m (node.Arg e j a) → binder S.checked e ≡ Some d → Stands S.checked d (node.Def x h k b)
      → slice_get (params_at (rows S.checked) h) j ≡ Some q → IsOnBy fs i p n
      → RowRule S fs (On p n ∷ Has p a v ∷ []) (Has (Below i 0) q v)
  ends : {p : Trail} {n e c d x h b i : ℕ} {k : Kind} {v : RowValue} → Stands S.checked n (node.Call e c)
      → binder S.checked e ≡ Some d → Stands S.checked d (node.Def x h k b) → IsOnBy fs i p n
      → RowRule S fs (On p n ∷ Has (Below i 0) b v ∷ []) (Has p n v)
  starts : {p : Trail} {n h w t l i : ℕ} → LoopStands S.checked n h w t l → IsOnBy fs i p n
      → RowRule S fs (On p n ∷ []) (On (Below i 0) t)
  enters : {p : Trail} {n h w l m o v c i : ℕ} {u : RowValue} → Stands S.checked n (node.Loop h w l)
      → NextStands S.checked m h o v → binder S.checked o ≡ Some c
      → IsOnBy fs i p n
      → RowRule S fs (On p n ∷ Has (out_of fs (far_from S.checked n (Some c)) p) c u ∷ []) (Has (Below i 0) m u)
  counts_first : {p : Trail} {n w x a b l i : ℕ} {lo hi : ℤ} → ForStands S.checked n w x a b l → IsOnBy fs i p n
      → int_le lo hi ≡ true
      → RowRule S fs (On p n ∷ Has p a (Int lo) ∷ Has p b (Int hi) ∷ []) (Has (Below i 0) x (Int lo))
  counts_on : {p : Trail} {n w x a b l i : ℕ} {j hi : ℤ} (k : ℕ) → ForStands S.checked n w x a b l → IsOnBy fs i p n
      → int_lt j hi ≡ true
      → RowRule S fs (Has (Below i k) x (Int j) ∷ Has p b (Int hi) ∷ []) (Has (Below i (k + 1)) x (Int (j +ℤ pos 1)))
  again : {p : Trail} {n h w t l i : ℕ} (k : ℕ) → LoopStands S.checked n h w t l → IsOnBy fs i p n
      → RowRule S fs (Has (Below i k) t (Bool true) ∷ []) (On (Below i (k + 1)) t)
  runs : {p : Trail} {n h w l i a : ℕ} {gs : List RowFact} (k : ℕ) → Stands S.checked n (node.Loop h w l)
      → IsOnBy fs i p n → RowGoesOn S n w p i k true gs → BodyTurns (rows S.checked) w a
      → RowRule S fs gs (On (Below i k) a)
  leaves : {p : Trail} {n h w l i : ℕ} {gs : List RowFact} (k : ℕ) → Stands S.checked n (node.Loop h w l)
      → IsOnBy fs i p n → RowGoesOn S n w p i k false gs → RowRule S fs gs (On (Below i k) l)
  hands : {p : Trail} {n h w l m o v i : ℕ} {u : RowValue} (k : ℕ) → Stands S.checked n (node.Loop h w l)
      → NextStands S.checked m h o v → IsOnBy fs i p n
      → RowRule S fs (Has (Below i k) v u ∷ []) (Has (Below i (k + 1)) m u)
  leads_out : {p : Trail} {n h w l i : ℕ} {u : RowValue} (k : ℕ) → Stands S.checked n (node.Loop h w l)
      → IsOnBy fs i p n → RowRule S fs (Has (Below i k) l u ∷ []) (Has p n u)

-- all of the facts are among these
abbrev pub AllAmong : List RowFact → List RowFact → Type 0
AllAmong fs [] = Unit {0}
AllAmong fs (g ∷ gs) = Among g fs × AllAmong fs gs

-- a constant's value is that constant's, and names nothing
pub value-row : (S : Source) (fs : List RowFact) (c : Constant) → value_at S.checked fs (row_value c) ≡ value_of c
value-row S fs (constant.Int n) = refl
value-row S fs (constant.Bool b) = refl

names-none : (S : Source) (fs : List RowFact) (c : Constant) → NamesArray S.checked fs (row_value c)
names-none S fs (constant.Int n) = tt
names-none S fs (constant.Bool b) = tt

-- the split of a conditional is a row, and so is the address of a store
pub part-within : (S : Source) (n a : ℕ) (z : Node) → Stands S.checked n z → HasPart z a → a < length (rows S.checked)
part-within S n a z st h =
    let P : Node → Type 0 = λ y. HasPart y a in
    let w = ((table_of S.checked).formed.each n st.within).parts a (subst P (sym st.node) h) in
    let l = st.within in
    omega (arith, w.1)

module _ (S : Source) (k : ℕ) (fs : List RowFact) (s : IsRound S k fs) where
  -- the path of the source
  abbrev Of : Trail → Path
  Of p = path_at S.checked fs p

  -- the fact is of a thing, speaks of what is there, and is one of the next round
  abbrev pub Sound : RowFact → Type 0
  Sound g =
      IsOfThing S g × NamesArrays S.checked fs g × BeginsOn fs (path_of g) × Rounds S (suc k) (fact_of S.checked fs g)

  -- what is so known of facts that are there
  begun : (g : RowFact) → Among g fs → BeginsOn fs (path_of g)
  begun g h = s.found.begin g h

  only : (g : RowFact) → Among g fs → Rounds S k (fact_of S.checked fs g)
  only g h = s.only g h

  -- the path that begins at a fact
  path-by : (i j n : ℕ) (p : Trail) → IsOnBy fs i p n → Of (Below i j) ≡ below (Of p) (place S.checked n) j
  path-by i j n p b = path-below S.checked fs s.found.before i p n j (ap path_of b.fact) (ap row_of b.fact)

  begins-by : (i j n : ℕ) (p : Trail) → IsOnBy fs i p n → BeginsOn fs (Below i j)
  begins-by i j n p b = (p, (n, b.fact))

  -- where a name or a loop looks for a binder
  look-path : (p : Trail) (n c : ℕ) → n < length (rows S.checked) → c < length (rows S.checked)
      → Of (out_of fs (far_from S.checked n (Some c)) p) ≡ without (between S n c) (Of p)
  look-path p n c l m =
      path-out S.checked fs s.found.before (far_from S.checked n (Some c)) p
      ∙ ap (λ d. without d (Of p)) (far-between S n c l m)

  -- what Has a constant's value
  constant-known : (p : Trail) (a : ℕ) (c : Constant) → Among (Has p a (row_value c)) fs
      → Rounds S k (fact.Has (Of p) (place S.checked a) (value_of c))
  constant-known p a c h =
      let P : SourceValue → Type 0 = λ v. Rounds S k (fact.Has (Of p) (place S.checked a) v) in
      subst P (value-row S fs c) (only (Has p a (row_value c)) h)

  constant-has : (p : Trail) (a : ℕ) (c : Constant) → IsThing S a → BeginsOn fs p
      → Rounds S (suc k) (fact.Has (Of p) (place S.checked a) (value_of c))
      → Sound (Has p a (row_value c))
  constant-has p a c t b h =
      let P : SourceValue → Type 0 = λ v. Rounds S (suc k) (fact.Has (Of p) (place S.checked a) v) in
      (t, names-none S fs c, b, subst P (sym (value-row S fs c)) h)

  -- the name of the structure that an `array` makes
  name-by : (i n : ℕ) (p : Trail) → IsOnBy fs i p n → name_at S.checked fs i ≡ site (Of p) (place S.checked n)
  name-by i n p b = ap (λ g. site (Of (path_of g)) (place S.checked (row_of g))) b.fact

  array-by : {nested : Truth} (i n a b : ℕ) (p : Trail) → Stands S.checked n (node.Array nested a b) → IsOnBy fs i p n
      → IsArrayOn S.checked fs i
  array-by {nested} i n a b p st o =
      record {
        path = p;
        array = n;
        nested = nested;
        low = a;
        high = b;
        within = o.within;
        on = o.fact;
        stands =
            st.node;
      }

  on-sound : (p : Trail) (n a : ℕ) → IsThing S a → Among (On p n) fs
      → Rule S (fact.On (Of p) (place S.checked n) ∷ []) (fact.On (Of p) (place S.checked a))
      → Sound (On p a)
  on-sound p n a t h r =
      (t, tt, begun (On p n) h, inr (fact.On (Of p) (place S.checked n) ∷ [], r, (only (On p n) h, tt)))

  turned-sound : (p : Trail) (n a : ℕ) → n < length (rows S.checked) → is_call (at (rows S.checked) n).node ≡ false
      → Turns (rows S.checked) n a → Among (On p n) fs → Sound (On p a)
  turned-sound p n a l k (operand {o = o} e) h =
      let st : Stands S.checked n (node.Unary o a) = record { within = l; node = e } in
      on-sound p n a (part-thing S n a (node.Unary o a) st refl) h (rule.operand_on st)
  turned-sound p n a l k (left {b = b} {o = o} e) h =
      let st : Stands S.checked n (node.Binary o a b) = record { within = l; node = e } in
      on-sound p n a (part-thing S n a (node.Binary o a b) st (inl refl)) h (rule.left_on st)
  turned-sound p n a l k (right {a = b} {o = o} e) h =
      let st : Stands S.checked n (node.Binary o b a) = record { within = l; node = e } in
      on-sound p n a (part-thing S n a (node.Binary o b a) st (inr refl)) h (rule.right_on st)
  turned-sound p n a l k (test {s = i} {x = x} {y = y} e f) h =
      let st : Stands S.checked n (node.If i x y) = record { within = l; node = e } in
      let sp : Stands S.checked i (node.Split a) =
      record { within = part-within S n i (node.If i x y) st (inl refl); node = f } in
      on-sound p n a (part-thing S i a (node.Split a) sp refl) h (rule.test_on (rule.then_arm st sp))
  turned-sound p n a l k (argument e w f) h = let c : true ≡ false = sym (ap is_call e) ∙ k in cc
  turned-sound p n a l k (index_low {h = g} {w = w} {l = d} {b = b} e f) h =
      let st : Stands S.checked n (node.Loop g w d) = record { within = l; node = e } in
      let fo = for-by-bounds S.checked n g w d a b st f in
      on-sound p n a (part-thing S (bounds_row fo.head) a (node.Bounds a b) fo.bounds (inl refl)) h (rule.lower_on fo)
  turned-sound p n a l k (index_high {h = g} {w = w} {l = d} {a = b} e f) h =
      let st : Stands S.checked n (node.Loop g w d) = record { within = l; node = e } in
      let fo = for-by-bounds S.checked n g w d b a st f in
      on-sound p n a (part-thing S (bounds_row fo.head) a (node.Bounds b a) fo.bounds (inr refl)) h (rule.upper_on fo)
  turned-sound p n a l k (body e) h =
      let st : Stands S.checked n (node.Block a) = record { within = l; node = e } in
      on-sound p n a (part-thing S n a (node.Block a) st refl) h (rule.body_on st)
  turned-sound p n a l k (statement {m = m} {b = b} {x = x} e i f) h =
      let st : Stands S.checked n (node.Block b) = record { within = l; node = e } in
      let w = (around-within (rows S.checked) n m i.inside).1 in
      let tb : Stands S.checked m (node.Binding x a) = record { within = omega arith; node = f } in
      on-sound p n a (part-thing S m a (node.Binding x a) tb refl) h (rule.statement_on st i tb)
  turned-sound p n a l k (low {nested = nested} {b = b} e) h =
      let st : Stands S.checked n (node.Array nested a b) = record { within = l; node = e } in
      on-sound p n a (part-thing S n a (node.Array nested a b) st (inl refl)) h (rule.bounds_low_on st)
  turned-sound p n a l k (high {nested = nested} {a = b} e) h =
      let st : Stands S.checked n (node.Array nested b a) = record { within = l; node = e } in
      on-sound p n a (part-thing S n a (node.Array nested b a) st (inr refl)) h (rule.bounds_high_on st)
  turned-sound p n a l k (fetched {i = i} e) h =
      let st : Stands S.checked n (node.Fetch a i) = record { within = l; node = e } in
      on-sound p n a (part-thing S n a (node.Fetch a i) st (inl refl)) h (rule.fetch_target_on st)
  turned-sound p n a l k (fetch_index {t = t} e) h =
      let st : Stands S.checked n (node.Fetch t a) = record { within = l; node = e } in
      on-sound p n a (part-thing S n a (node.Fetch t a) st (inr refl)) h (rule.fetch_index_on st)
  turned-sound p n a l k (address_target {a = b} {v = x} {i = i} e f) h =
      let st : Stands S.checked n (node.Store b x) = record { within = l; node = e } in
      let ad : Stands S.checked b (node.Address a i) =
      record { within = part-within S n b (node.Store b x) st (inl refl); node = f } in
      let ss : StoreStands S.checked n a i x = record { address = b; store = st; parts = ad } in
      on-sound p n a (part-thing S b a (node.Address a i) ad (inl refl)) h (rule.store_target_on ss)
  turned-sound p n a l k (address_index {a = b} {v = x} {t = t} e f) h =
      let st : Stands S.checked n (node.Store b x) = record { within = l; node = e } in
      let ad : Stands S.checked b (node.Address t a) =
      record { within = part-within S n b (node.Store b x) st (inl refl); node = f } in
      let ss : StoreStands S.checked n t a x = record { address = b; store = st; parts = ad } in
      on-sound p n a (part-thing S b a (node.Address t a) ad (inr refl)) h (rule.store_index_on ss)
  turned-sound p n a l k (stored_value {a = b} e) h =
      let st : Stands S.checked n (node.Store b a) = record { within = l; node = e } in
      let w = (table_of S.checked).address_of n b (record { value = a; within = l; node = e }) in
      let ad : Stands S.checked b (node.Address w.target w.index) =
      record { within = part-within S n b (node.Store b a) st (inl refl); node = w.node } in
      let ss : StoreStands S.checked n w.target w.index a = record { address = b; store = st; parts = ad } in
      on-sound p n a (part-thing S n a (node.Store b a) st refl) h (rule.store_value_on ss)
  turned-sound p n a l k (stored {b = b} {a = d} {v = x} e i f) h =
      let st : Stands S.checked n (node.Block b) = record { within = l; node = e } in
      let w = (around-within (rows S.checked) n a i.inside).1 in
      let tb : Stands S.checked a (node.Store d x) = record { within = omega arith; node = f } in
      on-sound p n a (node-thing S a (node.Store d x) tb refl) h (rule.store_on st i tb)

  -- what a row Has in an iteration
  run-has : (i j n a : ℕ) (p : Trail) (v : RowValue) → IsOnBy fs i p n → Among (Has (Below i j) a v) fs
      → Rounds S k (fact.Has (below (Of p) (place S.checked n) j) (place S.checked a) (value_at S.checked fs v))
  run-has i j n a p v b h =
      let F : Path → Type 0 = λ q. Rounds S k (fact.Has q (place S.checked a) (value_at S.checked fs v)) in
      subst F (path-by i j n p b) (only (Has (Below i j) a v) h)

  -- by these facts the loop goes on or not, also in the source
  goes-sound : (i j n w : ℕ) (p : Trail) (b : Truth) {gs : List RowFact} → IsOnBy fs i p n → RowGoesOn S n w p i j b gs
      → AllAmong fs gs → (ps : List Fact) × GoesOn S n w (Of p) j b ps × Every (Rounds S k) ps
  goes-sound i j n w p b o (by_predicate {t = t} d ls) h = (
    fact.Has (below (Of p) (place S.checked n) d) (place S.checked t) (value.Bool b) ∷ [],
    rule.by_predicate d ls,
    (run-has i d n t p (Bool b) o h.0, tt),
  )
  goes-sound i j n w p b o (by_bounds {a = a} {b = c} {lo = lo} {hi = hi} st e) h = (
    fact.On (Of p) (place S.checked n) ∷ fact.Has (Of p) (place S.checked a) (value.Int lo)
        ∷ fact.Has (Of p) (place S.checked c) (value.Int hi) ∷ [],
    rule.by_bounds st e,
    (only (On p n) h.0, (only (Has p a (Int lo)) h.1.0, (only (Has p c (Int hi)) h.1.1.0, tt))),
  )
  goes-sound i j n w p b o (by_index {x = x} {b = c} {j = y} {hi = hi} d st e) h =
      let ps = fact.Has (below (Of p) (place S.checked n) d) (place S.checked x) (value.Int y)
      ∷ fact.Has (Of p) (place S.checked c) (value.Int hi) ∷ [] in
      let q : suc d ≡ d + 1 = omega arith in
      let F : ℕ → Type 0 = λ m. GoesOn S n w (Of p) m b ps in
      (ps, subst F q (rule.by_index d st e), (run-has i d n x p (Int y) o h.0, (only (Has p c (Int hi)) h.1.0, tt)))

  runs-sound : (i j n h w l a : ℕ) (p : Trail) {gs : List RowFact} → Stands S.checked n (node.Loop h w l)
      → IsOnBy fs i p n → RowGoesOn S n w p i j true gs → AllAmong fs gs → BodyTurns (rows S.checked) w a
      → Sound (On (Below i j) a)
  runs-sound i j n h w l a p lo o go known (of_binding {b = d} {m = m} {x = x} u z side st is) =
      let P = Of p in
      let g = goes-sound i j n w p true o go known in
      let F : Path → Type 0 = λ y. Rounds S (suc k) (fact.On y (place S.checked a)) in
      let v = (around-within (rows S.checked) d m st.inside).1 in
      let tb : Stands S.checked m (node.Binding x a) = record { within = omega arith; node = is } in
      let y : BodyBinds S.checked w m a =
      record {
        body = d;
        name = x;
        ends = record { within = u; node = z };
        side = side;
        statement = st;
        binding =
            tb;
      } in (
        part-thing S m a (node.Binding x a) tb refl,
        tt,
        begins-by i j n p o,
        subst F (sym (path-by i j n p o)) (inr (g.0, rule.loop_statement_on P j lo g.1 y, g.2)),
      )
  runs-sound i j n h w l a p lo o go known (of_store {b = d} {a = c} {x = x} u z side st is) =
      let P = Of p in
      let g = goes-sound i j n w p true o go known in
      let F : Path → Type 0 = λ y. Rounds S (suc k) (fact.On y (place S.checked a)) in
      let v = (around-within (rows S.checked) d a st.inside).1 in
      let tb : Stands S.checked a (node.Store c x) = record { within = omega arith; node = is } in
      let y : BodyStores S.checked w a =
      record {
        body = d;
        address = c;
        value = x;
        ends = record { within = u; node = z };
        side = side;
        statement = st;
        store = tb;
      } in (
        node-thing S a (node.Store c x) tb refl,
        tt,
        begins-by i j n p o,
        subst F (sym (path-by i j n p o)) (inr (g.0, rule.loop_store_on P j lo g.1 y, g.2)),
      )
  runs-sound i j n h w l a p lo o go known (of_next {m = m} {x = x} {k = c} {o = d} u is side) =
      let P = Of p in
      let g = goes-sound i j n w p true o go known in
      let F : Path → Type 0 = λ y. Rounds S (suc k) (fact.On y (place S.checked a)) in
      let y = next-loop S.checked n h w l m x c d a lo u is side in (
        part-thing S m a (node.Next y.name y.index d a) y.next refl,
        tt,
        begins-by i j n p o,
        subst F (sym (path-by i j n p o)) (inr (g.0, rule.next_on P j lo g.1 y, g.2)),
      )

  pub sound : {gs : List RowFact} {g : RowFact} → RowRule S fs gs g → AllAmong fs gs → Sound g
  sound main h = (main-thing S, tt, tt, inr ([], rule.main_on, tt))
  sound (input {n = n} {c = c} i) h =
      let q = input_param i in
      constant-has Outermost n c (record { within = q.0; thing = thing-param (at (rows S.checked) n).node q.1 }) tt
      (inr ([], rule.param_has i, tt))
  sound (turned {p = p} {n = n} {a = a} l u) h = turned-sound p n a l u.1 u.0 h.0
  sound (literal {p = p} {n = n} {c = c} st) h =
      constant-has p n c (node-thing S n (node.Literal c) st refl) (begun (On p n) h.0)
      (inr (fact.On (Of p) (place S.checked n) ∷ [], rule.literal_has st, (only (On p n) h.0, tt)))
  sound (unary {p = p} {n = n} {a = a} {o = o} {x = x} c st e) h =
      constant-has p n x (node-thing S n (node.Unary o a) st refl) (begun (On p n) h.0) (inr (
        fact.On (Of p) (place S.checked n) ∷ fact.Has (Of p) (place S.checked a) (value_of c) ∷ [],
        rule.unary_has c st e,
        (only (On p n) h.0, (constant-known p a c h.1.0, tt)),
      ))
  sound (binary {p = p} {n = n} {a = a} {b = b} {o = o} {x = x} c d st e) h =
      constant-has p n x (node-thing S n (node.Binary o a b) st refl) (begun (On p n) h.0) (inr (
        fact.On (Of p) (place S.checked n) ∷ fact.Has (Of p) (place S.checked a) (value_of c)
            ∷ fact.Has (Of p) (place S.checked b) (value_of d) ∷ [],
        rule.binary_has c d st e,
        (only (On p n) h.0, (constant-known p a c h.1.0, (constant-known p b d h.1.1.0, tt))),
      ))
  sound (name {p = p} {n = n} {x = x} {b = b} {v = v} st e) h =
      let q = out_of fs (far_from S.checked n (Some b)) p in
      let w = binder_below S.checked n b st.within e in
      let F : Path → Type 0 = λ r. Rounds S k (fact.Has r (place S.checked b) (value_at S.checked fs v)) in (
        node-thing S n (node.Name x) st refl,
        s.found.arrays (Has q b v) h.1.0,
        begun (On p n) h.0,
        inr (
          fact.On (Of p) (place S.checked n)
              ∷ fact.Has (without (between S n b) (Of p)) (place S.checked b) (value_at S.checked fs v) ∷ [],
          rule.name_has st e,
          (only (On p n) h.0, (subst F (look-path p n b st.within w) (only (Has q b v) h.1.0), tt)),
        ),
      )
  sound (arm {p = p} {n = n} {s = i} {x = x} {y = y} {t = t} true st sp) h = (
    part-thing S n x (node.If i x y) st (inl refl),
    tt,
    begun (On p n) h.0,
    inr (
      fact.On (Of p) (place S.checked n) ∷ fact.Has (Of p) (place S.checked t) (value.Bool true) ∷ [],
      rule.arm_on (rule.then_arm st sp),
      (only (On p n) h.0, (only (Has p t (Bool true)) h.1.0, tt)),
    ),
  )
  sound (arm {p = p} {n = n} {s = i} {x = x} {y = y} {t = t} false st sp) h = (
    part-thing S n y (node.If i x y) st (inr refl),
    tt,
    begun (On p n) h.0,
    inr (
      fact.On (Of p) (place S.checked n) ∷ fact.Has (Of p) (place S.checked t) (value.Bool false) ∷ [],
      rule.arm_on (rule.else_arm st sp),
      (only (On p n) h.0, (only (Has p t (Bool false)) h.1.0, tt)),
    ),
  )
  sound (conditional {p = p} {n = n} {s = i} {x = x} {y = y} {t = t} {v = v} true st sp) h = (
    node-thing S n (node.If i x y) st refl,
    s.found.arrays (Has p x v) h.1.1.0,
    begun (On p n) h.0,
    inr (
      fact.On (Of p) (place S.checked n) ∷ fact.Has (Of p) (place S.checked t) (value.Bool true)
          ∷ fact.Has (Of p) (place S.checked x)
          (value_at S.checked fs v) ∷ [],
      rule.conditional_has (rule.then_arm st sp),
      (only (On p n) h.0, (only (Has p t (Bool true)) h.1.0, (only (Has p x v) h.1.1.0, tt))),
    ),
  )
  sound (conditional {p = p} {n = n} {s = i} {x = x} {y = y} {t = t} {v = v} false st sp) h = (
    node-thing S n (node.If i x y) st refl,
    s.found.arrays (Has p y v) h.1.1.0,
    begun (On p n) h.0,
    inr (
      fact.On (Of p) (place S.checked n) ∷ fact.Has (Of p) (place S.checked t) (value.Bool false)
          ∷ fact.Has (Of p) (place S.checked y)
          (value_at S.checked fs v) ∷ [],
      rule.conditional_has (rule.else_arm st sp),
      (only (On p n) h.0, (only (Has p t (Bool false)) h.1.0, (only (Has p y v) h.1.1.0, tt))),
    ),
  )
  sound (block {p = p} {n = n} {b = b} {v = v} st) h = (
    node-thing S n (node.Block b) st refl,
    s.found.arrays (Has p b v) h.1.0,
    begun (On p n) h.0,
    inr (
      fact.On (Of p) (place S.checked n) ∷ fact.Has (Of p) (place S.checked b) (value_at S.checked fs v) ∷ [],
      rule.block_has st,
      (only (On p n) h.0, (only (Has p b v) h.1.0, tt)),
    ),
  )
  sound (binding {p = p} {n = n} {x = x} {a = a} {v = v} st) h = (
    node-thing S n (node.Binding x a) st refl,
    s.found.arrays (Has p a v) h.0,
    begun (Has p a v) h.0,
    inr (
      fact.Has (Of p) (place S.checked a) (value_at S.checked fs v) ∷ [],
      rule.binding_has st,
      (only (Has p a v) h.0, tt),
    ),
  )
  sound (made_shape {p = p} {n = n} {a = a} {b = b} {i = i} {lo = lo} {hi = hi} st o e) h =
      let F : Site → Type 0 = λ x. Rounds S (suc k) (shape x lo hi) in (
        tt,
        array-by i n a b p st o,
        tt,
        subst F (sym (name-by i n p o)) (inr (
          fact.On (Of p) (place S.checked n) ∷ fact.Has (Of p) (place S.checked a) (value.Int lo)
              ∷ fact.Has (Of p) (place S.checked b) (value.Int hi) ∷ [],
          rule.shape_made st e,
          (only (On p n) h.0, (only (Has p a (Int lo)) h.1.0, (only (Has p b (Int hi)) h.1.1.0, tt))),
        )),
      )
  sound (made_name {p = p} {n = n} {a = a} {b = b} {i = i} {nested = nested} {lo = lo} {hi = hi} st o e) h =
      let F : Site → Type 0 = λ x. Rounds S (suc k) (fact.Has (Of p) (place S.checked n) (value.Name x)) in (
        node-thing S n (node.Array nested a b) st refl,
        array-by i n a b p st o,
        begun (On p n) h.0,
        subst F (sym (name-by i n p o)) (inr (
          fact.On (Of p) (place S.checked n) ∷ fact.Has (Of p) (place S.checked a) (value.Int lo)
              ∷ fact.Has (Of p) (place S.checked b) (value.Int hi) ∷ [],
          rule.array_has st e,
          (only (On p n) h.0, (only (Has p a (Int lo)) h.1.0, (only (Has p b (Int hi)) h.1.1.0, tt))),
        )),
      )
  sound (asked {p = p} {n = n} {t = t} {i = i} {s = x} {j = j} {lo = lo} {hi = hi} st e) h = (
    node-thing S n (node.Fetch t i) st refl,
    s.found.arrays (Has p t (Name x)) h.1.0,
    begun (On p n) h.0,
    inr (
      fact.On (Of p) (place S.checked n) ∷ fact.Has (Of p) (place S.checked t) (value.Name (name_at S.checked fs x))
          ∷ fact.Has (Of p) (place S.checked i)
          (value.Int j) ∷ shape (name_at S.checked fs x) lo hi ∷ [],
      rule.asks st e,
      (
        only (On p n) h.0,
        (only (Has p t (Name x)) h.1.0, (only (Has p i (Int j)) h.1.1.0, (only (Shape x lo hi) h.1.1.1.0, tt))),
      ),
    ),
  )
  sound (answered {p = p} {q = q} {n = n} {m = m} {s = x} {j = j} {v = v}) h = (
    s.found.things (Ask p n x j) h.0,
    (s.found.arrays (Put q m x j v) h.1.0).1,
    begun (Ask p n x j) h.0,
    inr (
      ask (site (Of p) (place S.checked n)) (name_at S.checked fs x) j
          ∷ put (name_at S.checked fs x) j (value_at S.checked fs v)
          (site (Of q) (place S.checked m)) ∷ [],
      rule.fetch_has,
      (only (Ask p n x j) h.0, (only (Put q m x j v) h.1.0, tt)),
    ),
  )
  sound (put_there {p = p} {m = m} {t = t} {i = i} {x = y} {s = x} {j = j} {lo = lo} {hi = hi} {v = v} st e) h = (
    node-thing S m (node.Store st.address y) st.store refl,
    (s.found.arrays (Has p t (Name x)) h.1.0, s.found.arrays (Has p y v) h.1.1.1.0),
    begun (On p m) h.0,
    inr (
      fact.On (Of p) (place S.checked m) ∷ fact.Has (Of p) (place S.checked t) (value.Name (name_at S.checked fs x))
          ∷ fact.Has (Of p) (place S.checked i)
          (value.Int j) ∷ fact.Has (Of p) (place S.checked y) (value_at S.checked fs v)
          ∷ shape (name_at S.checked fs x) lo hi ∷ [],
      rule.puts st e,
      (
        only (On p m) h.0,
        (
          only (Has p t (Name x)) h.1.0,
          (
            only (Has p i (Int j)) h.1.1.0,
            (only (Has p y v) h.1.1.1.0, (only (Shape x lo hi) h.1.1.1.1.0, tt)),
          ),
        ),
      ),
    ),
  )
  sound (asks_argument {p = p} {n = n} {e = e} {m = m} {k = j} {v = v} st t) h =
      on-sound p n v (part-thing S m v (node.Arg e j v) t refl) h.0 (rule.argument_on st t)
  sound (begins {p = p} {n = n} {d = d} {x = x} {h = g} {b = b} {i = i} {k = j} st bd df o) h =
      let F : Path → Type 0 = λ q. Rounds S (suc k) (fact.On q (place S.checked b)) in (
        part-thing S d b (node.Def x g j b) df refl,
        tt,
        begins-by i 0 n p o,
        subst F (sym (path-by i 0 n p o)) (inr (
          fact.On (Of p) (place S.checked n) ∷ [],
          rule.callee_on st bd df,
          (only (On p n) h.0, tt),
        )),
      )
  sound (passes {p = p} {n = n} {h = g} {m = m} {j = j} {a = a} {q = q} {i = i} {v = v} st t bd df there o) h =
      let R = rows S.checked in
      let w = params-among R g (length R) q (Among-from_at q (params_at R g) j there) in
      let F : Path → Type 0 = λ r. Rounds S (suc k) (fact.Has r (place S.checked q) (value_at S.checked fs v)) in (
        record { within = w.0; thing = thing-param (at R q).node w.1 },
        s.found.arrays (Has p a v) h.1.0,
        begins-by i 0 n p o,
        subst F (sym (path-by i 0 n p o)) (inr (
          fact.On (Of p) (place S.checked n) ∷ fact.Has (Of p) (place S.checked a) (value_at S.checked fs v) ∷ [],
          rule.argument_has st t bd df there,
          (only (On p n) h.0, (only (Has p a v) h.1.0, tt)),
        )),
      )
  sound (ends {p = p} {n = n} {e = e} {c = c} {b = b} {i = i} {v = v} st bd df o) h =
      let F : Path → Type 0 = λ q. Rounds S k (fact.Has q (place S.checked b) (value_at S.checked fs v)) in (
        node-thing S n (node.Call e c) st refl,
        s.found.arrays (Has (Below i 0) b v) h.1.0,
        begun (On p n) h.0,
        inr (
          fact.On (Of p) (place S.checked n)
              ∷ fact.Has (below (Of p) (place S.checked n) 0) (place S.checked b) (value_at S.checked fs v) ∷ [],
          rule.call_has st bd df,
          (only (On p n) h.0, (subst F (path-by i 0 n p o) (only (Has (Below i 0) b v) h.1.0), tt)),
        ),
      )
  sound (starts {p = p} {n = n} {h = g} {w = w} {t = t} {l = l} {i = i} ls o) h =
      let F : Path → Type 0 = λ q. Rounds S (suc k) (fact.On q (place S.checked t)) in (
        test-thing S n g w t l ls,
        tt,
        begins-by i 0 n p o,
        subst F (sym (path-by i 0 n p o)) (inr (
          fact.On (Of p) (place S.checked n) ∷ [],
          rule.loop_test_on ls,
          (only (On p n) h.0, tt),
        )),
      )
  sound (enters {p = p} {n = n} {h = g} {m = m} {o = x} {v = v} {c = c} {i = i} {u = u} st y e o) h =
      let q = use_binder S.checked m g x v c y e in
      let d = out_of fs (far_from S.checked n (Some c)) p in
      let F : Path → Type 0 = λ r. Rounds S (suc k) (fact.Has r (place S.checked m) (value_at S.checked fs u)) in
      let G : Path → Type 0 = λ r. Rounds S k (fact.Has r (place S.checked c) (value_at S.checked fs u)) in (
        node-thing S m (node.Next y.name y.index x v) y.next refl,
        s.found.arrays (Has d c u) h.1.0,
        begins-by i 0 n p o,
        subst F (sym (path-by i 0 n p o)) (inr (
          fact.On (Of p) (place S.checked n)
              ∷ fact.Has (without (between S n c) (Of p)) (place S.checked c) (value_at S.checked fs u) ∷ [],
          rule.first_has st y e,
          (only (On p n) h.0, (subst G (look-path p n c st.within q.0) (only (Has d c u) h.1.0), tt)),
        )),
      )
  sound (counts_first {p = p} {n = n} {x = x} {a = a} {b = b} {i = i} {lo = lo} {hi = hi} st o e) h =
      let F : Path → Type 0 = λ q. Rounds S (suc k) (fact.Has q (place S.checked x) (value.Int lo)) in (
        node-thing S x (node.Index st.name) st.index refl,
        tt,
        begins-by i 0 n p o,
        subst F (sym (path-by i 0 n p o)) (inr (
          fact.On (Of p) (place S.checked n) ∷ fact.Has (Of p) (place S.checked a) (value.Int lo)
              ∷ fact.Has (Of p) (place S.checked b) (value.Int hi) ∷ [],
          rule.index_begins st e,
          (only (On p n) h.0, (only (Has p a (Int lo)) h.1.0, (only (Has p b (Int hi)) h.1.1.0, tt))),
        )),
      )
  sound (counts_on {p = p} {n = n} {x = x} {b = b} {i = i} {j = y} {hi = hi} j st o e) h =
      let P = Of p in
      let L = place S.checked n in
      let next : j + 1 ≡ suc j = omega arith in
      let F : Path → Type 0 = λ q. Rounds S (suc k) (fact.Has q (place S.checked x) (value.Int (y +ℤ pos 1))) in (
        node-thing S x (node.Index st.name) st.index refl,
        tt,
        begins-by i (j + 1) n p o,
        subst F (sym (path-by i (j + 1) n p o ∙ ap (λ m. below P L m) next)) (inr (
          fact.Has (below P L j) (place S.checked x) (value.Int y) ∷ fact.Has P (place S.checked b) (value.Int hi) ∷ [],
          rule.index_counts P j st e,
          (run-has i j n x p (Int y) o h.0, (only (Has p b (Int hi)) h.1.0, tt)),
        )),
      )
  sound (again {p = p} {n = n} {h = g} {w = w} {t = t} {l = l} {i = i} j ls o) h =
      let P = Of p in
      let L = place S.checked n in
      let e : j + 1 ≡ suc j = omega arith in
      let F : Path → Type 0 = λ z. Rounds S (suc k) (fact.On z (place S.checked t)) in (
        test-thing S n g w t l ls,
        tt,
        begins-by i (j + 1) n p o,
        subst F (sym (path-by i (j + 1) n p o ∙ ap (λ m. below P L m) e)) (inr (
          fact.Has (below P L j) (place S.checked t) (value.Bool true) ∷ [],
          rule.turn_on P j ls,
          (run-has i j n t p (Bool true) o h.0, tt),
        )),
      )
  sound (runs {p = p} {n = n} {h = g} {w = w} {l = l} {i = i} {a = a} j st o go b) h =
      runs-sound i j n g w l a p st o go h b
  sound (leaves {p = p} {n = n} {h = g} {w = w} {l = l} {i = i} j st o go) h =
      let P = Of p in
      let q = goes-sound i j n w p false o go h in
      let F : Path → Type 0 = λ z. Rounds S (suc k) (fact.On z (place S.checked l)) in (
        part-thing S n l (node.Loop g w l) st refl,
        tt,
        begins-by i j n p o,
        subst F (sym (path-by i j n p o)) (inr (q.0, rule.last_on P j st q.1, q.2)),
      )
  sound (hands {p = p} {n = n} {m = m} {o = x} {v = v} {i = i} {u = u} j st y o) h =
      let P = Of p in
      let L = place S.checked n in
      let e : j + 1 ≡ suc j = omega arith in
      let F : Path → Type 0 = λ z. Rounds S (suc k) (fact.Has z (place S.checked m) (value_at S.checked fs u)) in (
        node-thing S m (node.Next y.name y.index x v) y.next refl,
        s.found.arrays (Has (Below i j) v u) h.0,
        begins-by i (j + 1) n p o,
        subst F (sym (path-by i (j + 1) n p o ∙ ap (λ r. below P L r) e)) (inr (
          fact.Has (below P L j) (place S.checked v) (value_at S.checked fs u) ∷ [],
          rule.next_has P j st y,
          (run-has i j n v p u o h.0, tt),
        )),
      )
  sound (leads_out {p = p} {n = n} {h = g} {w = w} {l = l} {i = i} {u = u} j st o) h =
      let q = ap path_of o.fact in
      let F : Trail → Type 0 = λ z. BeginsOn fs z in (
        node-thing S n (node.Loop g w l) st refl,
        s.found.arrays (Has (Below i j) l u) h.0,
        subst F q (begun (fact_at fs i) (among-at fs i o.within)),
        inr (
          fact.Has (below (Of p) (place S.checked n) j) (place S.checked l) (value_at S.checked fs u) ∷ [],
          rule.loop_has (Of p) j st,
          (run-has i j n l p u o h.0, tt),
        ),
      )
    where
      among-at : (es : List RowFact) (i : ℕ) → i < length es → Among (fact_at es i) es
      among-at [] i l = absurd (omega arith)
      among-at (e ∷ es) zero l = inl refl
      among-at (e ∷ es) (suc i) l = inr (among-at es i (omega arith))
