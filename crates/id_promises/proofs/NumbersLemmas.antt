-- The steps of the facts of a round: their numbers are at most the round's, and those of calls are 0.
use Rattle.std.proofs.Common.{◌≡◌, ◌⊎◌, ℕ, zero, suc, ◌≤◌, Bool as Truth, true, false, List, [], ◌∷◌, ◌++◌, All, inl}
use Rattle.std.proofs.Common.{inr, refl, arith}
use Rattle.std.proofs.lemmas.List.Elements.{All-nil, All-cons, All-head, All-tail, All-append}
use Rattle.id_table.specs.declared.row.Node.TheVariants.{Loop}
use Rattle.id_value.specs.declared.Constant.{Constant}
use Rattle.id_value.specs.declared.Constant.TheVariants as constant
use Rattle.id_check.specs.declared.checked.Checked.{Checked}
use Rattle.id_check.specs.Programs.{Stands, place}
use Rattle.id_source.specs.declared.Path.{Path}
use Rattle.id_source.specs.declared.PathStep.{PathStep}
use Rattle.id_source.specs.declared.SourceValue.{SourceValue}
use Rattle.id_source.specs.declared.SourceValue.TheVariants.{Int, Bool, Name}
use Rattle.id_source.specs.declared.Fact.{Fact}
use Rattle.id_source.specs.declared.Fact.TheVariants.{On, Has, Shape, Put, Ask}
use Rattle.id_source.specs.Sources.{Source, value_of}
use Rattle.id_source.specs.Facts.{GoesOn, Rule, below}
use Rattle.id_source.specs.Facts.GoesOn.{by_predicate, by_bounds, by_index}
use Rattle.id_source.specs.Facts.Rule.{main_on, param_has, literal_has, operand_on, left_on, right_on, unary_has}
use Rattle.id_source.specs.Facts.Rule.{binary_has, name_has, test_on, arm_on, conditional_has, argument_on, callee_on}
use Rattle.id_source.specs.Facts.Rule.{argument_has, call_has, loop_test_on, first_has, lower_on, upper_on}
use Rattle.id_source.specs.Facts.Rule.{index_begins, index_counts, turn_on, loop_statement_on, loop_store_on, next_on}
use Rattle.id_source.specs.Facts.Rule.{next_has, last_on, loop_has, statement_on, store_on, body_on, block_has}
use Rattle.id_source.specs.Facts.Rule.{binding_has, bounds_low_on, bounds_high_on, shape_made, array_has}
use Rattle.id_source.specs.Facts.Rule.{fetch_target_on, fetch_index_on, asks, fetch_has, store_target_on}
use Rattle.id_source.specs.Facts.Rule.{store_index_on, store_value_on, puts}
use Rattle.id_source.specs.Rounds.{Every, Rounds}

-- a loop stands at the place
pub record IsLoopAt (P : Checked) (q : ℕ) : Type 0 where
  pub row : ℕ
  pub head : ℕ
  pub switches : ℕ
  pub last : ℕ
  pub stands : Stands P row (Loop head switches last)
  pub here : place P row ≡ q

-- the number of the step is at most n, and 0 where no loop stands
pub record IsNumbered (P : Checked) (n : ℕ) (s : PathStep) : Type 0 where
  pub most : s.number ≤ n
  pub only : (s.number ≡ 0) ⊎ IsLoopAt P s.place

abbrev pub AreNumbered : Checked → ℕ → Path → Type 0
AreNumbered P n p = All (IsNumbered P n) p.steps

abbrev pub NumberedValue : Checked → ℕ → SourceValue → Type 0
NumberedValue P n (Name s) = AreNumbered P n s.path
NumberedValue P n _ = Unit {0}

-- the steps of all paths of the fact are so
abbrev pub Numbered : Checked → ℕ → Fact → Type 0
Numbered P n (On p e) = AreNumbered P n p
Numbered P n (Has p e v) = AreNumbered P n p × NumberedValue P n v
Numbered P n (Shape s) = AreNumbered P n s.name.path
Numbered P n (Put p) = AreNumbered P n p.name.path × NumberedValue P n p.value × AreNumbered P n p.store.path
Numbered P n (Ask a) = AreNumbered P n a.fetch.path × AreNumbered P n a.name.path

constant_numbered : (P : Checked) (n : ℕ) (c : Constant) → NumberedValue P n (value_of c)
constant_numbered P n (constant.Int i) = tt
constant_numbered P n (constant.Bool b) = tt

-- ---- of a later round

module _ (P : Checked) (n : ℕ) where
  path_up : (p : Path) → AreNumbered P n p → AreNumbered P (suc n) p
  path_up p h = λ i d l. (let s = h i d l in record { most = omega (arith, s.most); only = s.only })

  value_up : (v : SourceValue) → NumberedValue P n v → NumberedValue P (suc n) v
  value_up (Int i) h = tt
  value_up (Bool b) h = tt
  value_up (Name s) h = path_up s.path h

  fact_up : (f : Fact) → Numbered P n f → Numbered P (suc n) f
  fact_up (On p e) h = path_up p h
  fact_up (Has p e v) h = (path_up p h.0, value_up v h.1)
  fact_up (Shape s) h = path_up s.name.path h
  fact_up (Put p) h = (path_up p.name.path h.0, value_up p.value h.1, path_up p.store.path h.2)
  fact_up (Ask a) h = (path_up a.fetch.path h.0, path_up a.name.path h.1)

  every_up : (fs : List Fact) → Every (Numbered P n) fs → Every (Numbered P (suc n)) fs
  every_up [] h = tt
  every_up (f ∷ fs) h = (fact_up f h.0, every_up fs h.1)

-- ---- paths with one more step

module _ (P : Checked) where
  -- in a call, or in the first iteration of a loop
  first_below : (n : ℕ) (p : Path) (e : ℕ) → AreNumbered P n p → AreNumbered P n (below p e 0)
  first_below n p e h =
      let s : PathStep = record { place = e; number = 0 } in
      All-append (IsNumbered P n) p.steps (s ∷ []) h
      (All-cons (IsNumbered P n) s [] (record { most = omega arith; only = inl refl }) (All-nil (IsNumbered P n)))

  -- without its last step
  front : (n : ℕ) (p : Path) (e k : ℕ) → AreNumbered P n (below p e k)
      → AreNumbered P n p × IsNumbered P n (record { place = e; number = k })
  front n p e k h = go p.steps h
    where
      go : (ss : List PathStep) → All (IsNumbered P n) (ss ++ record { place = e; number = k } ∷ [])
          → All (IsNumbered P n) ss × IsNumbered P n (record { place = e; number = k })
      go [] h = (All-nil (IsNumbered P n), All-head (IsNumbered P n) (record { place = e; number = k }) [] h)
      go (s ∷ ss) h =
          let more = ss ++ record { place = e; number = k } ∷ [] in
          let z = go ss (All-tail (IsNumbered P n) s more h) in
          (All-cons (IsNumbered P n) s ss (All-head (IsNumbered P n) s more h) z.0, z.1)

  -- in the next iteration of a loop
  next_below : (n r h w l : ℕ) (p : Path) (k : ℕ) → Stands P r (Loop h w l) → AreNumbered P n (below p (place P r) k)
      → AreNumbered P (suc n) (below p (place P r) (suc k))
  next_below n r h w l p k s g =
      let z = front n p (place P r) k g in
      let t : PathStep = record { place = place P r; number = suc k } in
      let I = IsNumbered P (suc n) in
      All-append I p.steps (t ∷ []) (path_up P n p z.0)
      (All-cons I t [] (record {
        most = omega (arith, z.1.most);
        only = inr (record { row = r; head = h; switches = w; last = l; stands = s; here = refl });
      }) (All-nil I))

-- where a loop goes on or not
goes_numbered : (S : Source) (n r w : ℕ) (p : Path) (k : ℕ) (c : Truth) {fs : List Fact} → GoesOn S r w p k c fs
    → Every (Numbered S.checked n) fs → AreNumbered S.checked (suc n) (below p (place S.checked r) k)
goes_numbered S n r w p k c (by_predicate j s) h = path_up S.checked n (below p (place S.checked r) k) h.0.0
goes_numbered S n r w p k c (by_bounds s e) h =
    path_up S.checked n _ (first_below S.checked n p (place S.checked r) h.0)
goes_numbered S n r w p k c (by_index {l = l} j s e) h = next_below S.checked n r s.head w l p j s.loop h.0.0

-- what follows from facts of the round before
rule_numbered : {S : Source} {fs : List Fact} {f : Fact} (n : ℕ) → Rule S fs f → Every (Numbered S.checked n) fs
    → Every (Numbered S.checked (suc n)) fs → Numbered S.checked (suc n) f
rule_numbered {S} n main_on g h = All-nil (IsNumbered S.checked (suc n))
rule_numbered {S} n (param_has {c = c} i) g h =
    (All-nil (IsNumbered S.checked (suc n)), constant_numbered S.checked (suc n) c)
rule_numbered {S} n (literal_has {c = c} s) g h = (h.0, constant_numbered S.checked (suc n) c)
rule_numbered {S} n (unary_has {x = x} c s e) g h = (h.0, constant_numbered S.checked (suc n) x)
rule_numbered {S} n (binary_has {x = x} c d s e) g h = (h.0, constant_numbered S.checked (suc n) x)
rule_numbered n (name_has s e) g h = (h.0, h.1.0.1)
rule_numbered n (conditional_has c) g h = (h.0, h.1.1.0.1)
rule_numbered {S} n (callee_on {n = r} {p = p} s is def) g h = first_below S.checked (suc n) p (place S.checked r) h.0
rule_numbered {S} n (argument_has {n = r} {p = p} s t is def there) g h =
    (first_below S.checked (suc n) p (place S.checked r) h.0, h.1.0.1)
rule_numbered n (call_has s is def) g h = (h.0, h.1.0.1)
rule_numbered {S} n (loop_test_on {n = r} {p = p} s) g h = first_below S.checked (suc n) p (place S.checked r) h.0
rule_numbered {S} n (first_has {n = r} {p = p} s x e) g h =
    (first_below S.checked (suc n) p (place S.checked r) h.0, h.1.0.1)
rule_numbered {S} n (turn_on {n = r} {h = d} {w = w} {l = l} p k s) g h =
    next_below S.checked n r d w l p k s.loop g.0.0
rule_numbered {S} n (index_begins {n = r} {p = p} s e) g h =
    (first_below S.checked (suc n) p (place S.checked r) h.0, tt)
rule_numbered {S} n (index_counts {n = r} {w = w} {l = l} p k s e) g h =
    (next_below S.checked n r s.head w l p k s.loop g.0.0, tt)
rule_numbered {S} n (loop_store_on {n = r} {w = w} p k s o b) g h = goes_numbered S n r w p k true o g
rule_numbered {S} n (loop_statement_on {n = r} {w = w} p k s o b) g h = goes_numbered S n r w p k true o g
rule_numbered {S} n (next_on {n = r} {w = w} p k s o x) g h = goes_numbered S n r w p k true o g
rule_numbered {S} n (next_has {n = r} {h = d} {w = w} {l = l} p k s x) g h =
    (next_below S.checked n r d w l p k s g.0.0, h.0.1)
rule_numbered {S} n (last_on {n = r} {w = w} p k s o) g h = goes_numbered S n r w p k false o g
rule_numbered {S} n (loop_has {n = r} p k s) g h = ((front S.checked (suc n) p (place S.checked r) k h.0.0).0, h.0.1)
rule_numbered n (block_has s) g h = (h.0, h.1.0.1)
rule_numbered n (binding_has s) g h = (h.0.0, h.0.1)
rule_numbered n (array_has s e) g h = (h.0, h.0)
rule_numbered n (asks s e) g h = (h.0, h.1.0.1)
rule_numbered n fetch_has g h = (h.0.0, h.1.0.1)
rule_numbered n (puts s e) g h = (h.1.0.1, h.1.1.1.0.1, h.0)
rule_numbered n (operand_on s) g h = h.0
rule_numbered n (left_on s) g h = h.0
rule_numbered n (right_on s) g h = h.0
rule_numbered n (test_on c) g h = h.0
rule_numbered n (arm_on c) g h = h.0
rule_numbered n (argument_on s t) g h = h.0
rule_numbered n (lower_on s) g h = h.0
rule_numbered n (upper_on s) g h = h.0
rule_numbered n (statement_on s i t) g h = h.0
rule_numbered n (store_on s i t) g h = h.0
rule_numbered n (body_on s) g h = h.0
rule_numbered n (bounds_low_on s) g h = h.0
rule_numbered n (bounds_high_on s) g h = h.0
rule_numbered n (shape_made s e) g h = h.0
rule_numbered n (fetch_target_on s) g h = h.0
rule_numbered n (fetch_index_on s) g h = h.0
rule_numbered n (store_target_on s) g h = h.0
rule_numbered n (store_index_on s) g h = h.0
rule_numbered n (store_value_on s) g h = h.0

every_map : (F G : Fact → Type 0) (fs : List Fact) → ((f : Fact) → F f → G f) → Every F fs → Every G fs
every_map F G [] t h = tt
every_map F G (f ∷ fs) t h = (t f h.0, every_map F G fs t h.1)

-- the steps of a fact of round n have numbers up to n, and those of calls 0
pub round_numbered : (S : Source) (n : ℕ) (f : Fact) → Rounds S n f → Numbered S.checked n f
round_numbered S zero f h = absurd h
round_numbered S (suc n) f (inl h) = fact_up S.checked n f (round_numbered S n f h)
round_numbered S (suc n) f (inr h) =
    let before = every_map (Rounds S n) (Numbered S.checked n) h.0 (round_numbered S n) h.2 in
    rule_numbered n h.1 before (every_up S.checked n h.0 before)
