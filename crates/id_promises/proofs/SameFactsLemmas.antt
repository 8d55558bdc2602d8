-- Lemmas on specs/OneProgram.antt: what follows in the source of a program follows in that of a program alike.
use Rattle.std.proofs.Common.{◌≡◌, ◌<◌, inl, inr, ℕ, zero, suc, Bool, true, false, List, [], ◌∷◌, length, Option, Some}
use Rattle.std.proofs.Common.{None, sym, subst, ◌∙◌}
use Rattle.std.specs.Prelude.{◌+ℤ◌, pos, slice_get}
use Rattle.id_value.specs.declared.Constant.{Constant}
use Rattle.id_value.specs.declared.Constant.TheVariants as constant
use Rattle.id_value.specs.declared.FaultKind.TheVariants.{BadBounds, OutOfBounds}
use Rattle.id_check.specs.Scopes.{loops_between}
use Rattle.id_table.specs.declared.row.Row.{Row}
use Rattle.id_table.specs.declared.row.Node.{Node}
use Rattle.id_table.specs.declared.row.Node.TheVariants.{Call}
use Rattle.id_table.specs.Rows.{arm_at, at}
use Rattle.id_table.specs.Tables.{is_binder, is_within}
use Rattle.id_table.specs.Turns.{IsStatement, params_at}
use Rattle.id_check.specs.declared.checked.Checked.{Checked}
use Rattle.id_check.specs.Programs.{Stands, binder, place, region, rows}
use Rattle.id_check.proofs.ProgramsLemmas.{callee_row, next_use_row}
use Rattle.id_source.specs.declared.Ask.{Ask}
use Rattle.id_source.specs.declared.Fact.{Fact}
use Rattle.id_source.specs.declared.Fact.TheVariants.{Has, On}
use Rattle.id_source.specs.declared.NameValue.{NameValue}
use Rattle.id_source.specs.declared.Path.{Path}
use Rattle.id_source.specs.declared.SourceFault.{SourceFault}
use Rattle.id_source.specs.declared.SourceFault.TheVariants.{Operator}
use Rattle.id_source.specs.declared.SourceValue.{SourceValue}
use Rattle.id_source.specs.declared.SourceValue.TheVariants as value
use Rattle.id_source.specs.Sources.{IsInput, body_of, head_of, main_body, main_params, source, value_of}
use Rattle.id_source.specs.Facts.{BodyBinds, BodyStores, Chooses, FaultRule, ForStands, GoesOn, LoopStands, NextStands}
use Rattle.id_source.specs.Facts.{Rule, StoreStands, ask, below, outermost, put, shape, site, without}
use Rattle.id_source.specs.Facts.Chooses.{then_arm, else_arm}
use Rattle.id_source.specs.Facts.GoesOn.{by_predicate, by_bounds, by_index}
use Rattle.id_source.specs.Facts.Rule.{main_on, param_has, literal_has, operand_on, left_on, right_on, unary_has}
use Rattle.id_source.specs.Facts.Rule.{binary_has, name_has, test_on, arm_on, conditional_has, argument_on, callee_on}
use Rattle.id_source.specs.Facts.Rule.{argument_has, call_has, loop_test_on, first_has, lower_on, upper_on}
use Rattle.id_source.specs.Facts.Rule.{index_begins, index_counts, turn_on, loop_statement_on, loop_store_on, next_on}
use Rattle.id_source.specs.Facts.Rule.{next_has, last_on, loop_has, statement_on, store_on, body_on, block_has}
use Rattle.id_source.specs.Facts.Rule.{binding_has, bounds_low_on, bounds_high_on, shape_made, array_has}
use Rattle.id_source.specs.Facts.Rule.{fetch_target_on, fetch_index_on, asks, fetch_has, store_target_on}
use Rattle.id_source.specs.Facts.Rule.{store_index_on, store_value_on, puts}
use Rattle.id_source.specs.Facts.FaultRule.{unary_fails, binary_fails, bad_bounds, out_of_fetch, out_of_store}
use Rattle.id_source.specs.Facts.FaultRule.{second_store}
use Rattle.id_source.specs.Names.{IsBinder, IsNameValue}
use Rattle.id_source.specs.Rounds.{Answers, Every, Faulty, Holds, IsAnswer, IsWaiting, Rounds}
use Rattle.id_promises.specs.OneProgram.{AreAlike, MeanTheSame}

-- what holds of each fact of a list
every_to : (F G : Fact → Type 0) → ((f : Fact) → F f → G f) → (fs : List Fact) → Every F fs → Every G fs
every_to F G h [] all = tt
every_to F G h (f ∷ fs) all = (h f all.0, every_to F G h fs all.1)

-- the place of a row of these
abbrev spot : List Row → ℕ → ℕ
spot R n = (at R n).place

module _ (P Q : Checked) (vs : List Constant) (alike : AreAlike P Q) where
  same_rows : rows P ≡ rows Q
  same_rows = alike.rows

  stands : {n : ℕ} {z : Node} → Stands P n z → Stands Q n z
  stands {n} {z} h = record {
    within = subst (λ R. n < length R) same_rows h.within;
    node = subst (λ (R : List Row). (at R n).node ≡ z) same_rows h.node;
  }

  bound : {n b : ℕ} → n < length (rows P) → binder P n ≡ Some b → binder Q n ≡ Some b
  bound {n} less e = sym (alike.binders n less) ∙ e

  -- the `Enter` of a call has its binder, and so has the use of a first value
  called : {n e c d : ℕ} → Stands P n (Call e c) → binder P e ≡ Some d → binder Q e ≡ Some d
  called {n} {e} {c} h b = bound ((callee_row P n e c h).2.enter).within b

  used : {m h o v c : ℕ} → NextStands P m h o v → binder P o ≡ Some c → binder Q o ≡ Some c
  used {m} {h} {o} {v} s b = bound (next_use_row P m s.name s.index o v s.next).within b

  -- ---- what stands

  chooses : {n t a : ℕ} {b : Bool} → Chooses (source P vs) n t b a → Chooses (source Q vs) n t b a
  chooses (then_arm c s) = then_arm (stands c) (stands s)
  chooses (else_arm c s) = else_arm (stands c) (stands s)

  loops : {n h w t l : ℕ} → LoopStands P n h w t l → LoopStands Q n h w t l
  loops {n} {h} {w} {t} {l} s = record {
    loop = stands s.loop;
    switches = stands s.switches;
    predicate = subst (λ (R : List Row). is_within (at R t).node ≡ false) same_rows s.predicate;
  }

  counts : {n w x a b l : ℕ} → ForStands P n w x a b l → ForStands Q n w x a b l
  counts s = record {
    head = s.head;
    name = s.name;
    loop = stands s.loop;
    bounds = stands s.bounds;
    index = stands s.index;
    behind = s.behind;
  }

  nexts : {m h o v : ℕ} → NextStands P m h o v → NextStands Q m h o v
  nexts {m} {h} s = record {
    name = s.name;
    index = s.index;
    next = stands s.next;
    block = subst (λ (R : List Row). (at R m).block ≡ h) same_rows s.block;
  }

  statement : {n m : ℕ} → IsStatement (rows P) n m → IsStatement (rows Q) n m
  statement {n} {m} = subst (λ R. IsStatement R n m) same_rows

  side_of : (n w : ℕ) → region P n ≡ arm_at w true → region Q n ≡ arm_at w true
  side_of n w = subst (λ (R : List Row). (at R n).region ≡ arm_at w true) same_rows

  binds : {w m a : ℕ} → BodyBinds P w m a → BodyBinds Q w m a
  binds {w} s = record {
    body = s.body;
    name = s.name;
    ends = stands s.ends;
    side = side_of s.body w s.side;
    statement = statement s.statement;
    binding = stands s.binding;
  }

  stores : {w m : ℕ} → BodyStores P w m → BodyStores Q w m
  stores {w} s = record {
    body = s.body;
    address = s.address;
    value = s.value;
    ends = stands s.ends;
    side = side_of s.body w s.side;
    statement = statement s.statement;
    store = stands s.store;
  }

  store : {m t i x : ℕ} → StoreStands P m t i x → StoreStands Q m t i x
  store s = record { address = s.address; store = stands s.store; parts = stands s.parts }

  same_params : main_params P ≡ main_params Q
  same_params = λ i. params_at (same_rows i) (head_of (at (same_rows i) (alike.main i)).node)

  same_body : main_body P ≡ main_body Q
  same_body = λ i. body_of (at (same_rows i) (alike.main i)).node

  input : {b : ℕ} {c : Constant} → IsInput (source P vs) b c → IsInput (source Q vs) b c
  input {b} s = record {
    number = s.number;
    param = subst (λ ps. slice_get ps s.number ≡ Some b) same_params s.param;
    value = s.value;
  }

  same_start : place P (main_body P) ≡ place Q (main_body Q)
  same_start = λ i. (at (same_rows i) (same_body i)).place

  goes : {n w : ℕ} {p : Path} {k : ℕ} {b : Bool} {fs : List Fact} → GoesOn (source P vs) n w p k b fs
      → GoesOn (source Q vs) n w p k b fs
  goes {n} {w} {p} {b = c} (by_predicate {t = t} k s) =
      subst (λ R. GoesOn (source Q vs) n w p k c (Has (below p (spot R n) k) (spot R t) (value_of (constant.Bool c))
      ∷ [])) (sym same_rows)
      (by_predicate k (loops s))
  goes {n} {w} {p} {b = c} (by_bounds {a = a} {b = b} {lo = lo} {hi = hi} s e) =
      subst (λ R. GoesOn (source Q vs) n w p 0 c (On p (spot R n) ∷ Has p (spot R a) (value.Int lo)
      ∷ Has p (spot R b) (value.Int hi) ∷ [])) (sym same_rows)
      (by_bounds (counts s) e)
  goes {n} {w} {p} {b = c} (by_index {x = x} {b = b} {i = i} {hi = hi} k s e) =
      subst (λ R. GoesOn (source Q vs) n w p (suc k) c (Has (below p (spot R n) k) (spot R x) (value.Int i)
      ∷ Has p (spot R b) (value.Int hi) ∷ [])) (sym same_rows)
      (by_index k (counts s) e)

  -- what follows of places in the rows of the one follows of those in the rows of the other
  at_rows : (F : List Row → List Fact) (G : List Row → Fact) → Rule (source Q vs) (F (rows Q)) (G (rows Q))
      → Rule (source Q vs) (F (rows P)) (G (rows P))
  at_rows F G h = subst (λ R. Rule (source Q vs) (F R) (G R)) (sym same_rows) h

  fault_rows : (F : List Row → List Fact) (G : List Row → SourceFault)
      → FaultRule (source Q vs) (F (rows Q)) (G (rows Q)) → FaultRule (source Q vs) (F (rows P)) (G (rows P))
  fault_rows F G h = subst (λ R. FaultRule (source Q vs) (F R) (G R)) (sym same_rows) h

  -- ---- what follows

  follows : {fs : List Fact} {f : Fact} → Rule (source P vs) fs f → Rule (source Q vs) fs f
  follows main_on = subst (λ e. Rule (source Q vs) [] (On outermost e)) (sym same_start) main_on
  follows (param_has {b = b} {c = c} x') =
      at_rows (λ R. []) (λ R. Has outermost (spot R b) (value_of c)) (param_has (input x'))
  follows (literal_has {n = n} {c = c} {p = p} x') =
      at_rows (λ R. On p (spot R n) ∷ []) (λ R. Has p (spot R n) (value_of c)) (literal_has (stands x'))
  follows (operand_on {n = n} {a = a} {p = p} x') =
      at_rows (λ R. On p (spot R n) ∷ []) (λ R. On p (spot R a)) (operand_on (stands x'))
  follows (left_on {n = n} {a = a} {p = p} x') =
      at_rows (λ R. On p (spot R n) ∷ []) (λ R. On p (spot R a)) (left_on (stands x'))
  follows (right_on {n = n} {b = b} {p = p} x') =
      at_rows (λ R. On p (spot R n) ∷ []) (λ R. On p (spot R b)) (right_on (stands x'))
  follows (unary_has {n = n} {a = a} {p = p} {x = x} c x' y') =
      at_rows (λ R. On p (spot R n) ∷ Has p (spot R a) (value_of c) ∷ []) (λ R. Has p (spot R n) (value_of x))
      (unary_has c (stands x') y')
  follows (binary_has {n = n} {a = a} {b = b} {p = p} {x = x} c d x' y') =
      at_rows (λ R. On p (spot R n) ∷ Has p (spot R a) (value_of c) ∷ Has p (spot R b) (value_of d) ∷ [])
      (λ R. Has p (spot R n) (value_of x)) (binary_has c d (stands x') y')
  follows (name_has {n = n} {b = b} {p = p} {v = v} x' y') =
      at_rows (λ R. On p (spot R n) ∷ Has (without (loops_between R n b) p) (spot R b) v ∷ []) (λ R. Has p (spot R n) v)
      (name_has (stands x') (bound x'.within y'))
  follows (test_on {n = n} {t = t} {p = p} x') =
      at_rows (λ R. On p (spot R n) ∷ []) (λ R. On p (spot R t)) (test_on (chooses x'))
  follows (arm_on {n = n} {t = t} {a = a} {b = b} {p = p} x') =
      at_rows (λ R. On p (spot R n) ∷ Has p (spot R t) (value_of (constant.Bool b)) ∷ []) (λ R. On p (spot R a))
      (arm_on (chooses x'))
  follows (conditional_has {n = n} {t = t} {a = a} {b = b} {p = p} {v = v} x') =
      at_rows (λ R. On p (spot R n) ∷ Has p (spot R t) (value_of (constant.Bool b)) ∷ Has p (spot R a) v ∷ [])
      (λ R. Has p (spot R n) v) (conditional_has (chooses x'))
  follows (argument_on {n = n} {v = v} {p = p} x' y') =
      at_rows (λ R. On p (spot R n) ∷ []) (λ R. On p (spot R v)) (argument_on (stands x') (stands y'))
  follows (callee_on {n = n} {b = b} {p = p} x' y' z') =
      at_rows (λ R. On p (spot R n) ∷ []) (λ R. On (below p (spot R n) 0) (spot R b))
      (callee_on (stands x') (called x' y') (stands z'))
  follows (argument_has {n = n} {h = h} {i = i} {v = v} {q = q} {p = p} {u = u} x' y' z' u' v') =
      at_rows (λ R. On p (spot R n) ∷ Has p (spot R v) u ∷ []) (λ R. Has (below p (spot R n) 0) (spot R q) u)
      (argument_has (stands x') (stands y') (called x' z') (stands u')
      (subst (λ (R : List Row). slice_get (params_at R h) i ≡ Some q) same_rows v'))
  follows (call_has {n = n} {b = b} {p = p} {u = u} x' y' z') =
      at_rows (λ R. On p (spot R n) ∷ Has (below p (spot R n) 0) (spot R b) u ∷ []) (λ R. Has p (spot R n) u)
      (call_has (stands x') (called x' y') (stands z'))
  follows (loop_test_on {n = n} {t = t} {p = p} x') =
      at_rows (λ R. On p (spot R n) ∷ []) (λ R. On (below p (spot R n) 0) (spot R t)) (loop_test_on (loops x'))
  follows (first_has {n = n} {m = m} {c = c} {p = p} {u = u} x' y' z') =
      at_rows (λ R. On p (spot R n) ∷ Has (without (loops_between R n c) p) (spot R c) u ∷ [])
      (λ R. Has (below p (spot R n) 0) (spot R m) u) (first_has (stands x') (nexts y') (used y' z'))
  follows (lower_on {n = n} {a = a} {p = p} x') =
      at_rows (λ R. On p (spot R n) ∷ []) (λ R. On p (spot R a)) (lower_on (counts x'))
  follows (upper_on {n = n} {b = b} {p = p} x') =
      at_rows (λ R. On p (spot R n) ∷ []) (λ R. On p (spot R b)) (upper_on (counts x'))
  follows (index_begins {n = n} {x = x} {a = a} {b = b} {p = p} {lo = lo} {hi = hi} x' y') =
      at_rows (λ R. On p (spot R n) ∷ Has p (spot R a) (value.Int lo) ∷ Has p (spot R b) (value.Int hi) ∷ [])
      (λ R. Has (below p (spot R n) 0) (spot R x) (value.Int lo)) (index_begins (counts x') y')
  follows (index_counts {n = n} {x = x} {b = b} {i = i} {hi = hi} p k x' y') =
      at_rows (λ R. Has (below p (spot R n) k) (spot R x) (value.Int i) ∷ Has p (spot R b) (value.Int hi) ∷ [])
      (λ R. Has (below p (spot R n) (suc k)) (spot R x) (value.Int (i +ℤ pos 1))) (index_counts p k (counts x') y')
  follows (turn_on {n = n} {t = t} p k x') =
      at_rows (λ R. Has (below p (spot R n) k) (spot R t) (value_of (constant.Bool true)) ∷ [])
      (λ R. On (below p (spot R n) (suc k)) (spot R t)) (turn_on p k (loops x'))
  follows (loop_statement_on {n = n} {a = a} {fs = fs} p k x' y' z') =
      at_rows (λ R. fs) (λ R. On (below p (spot R n) k) (spot R a))
      (loop_statement_on p k (stands x') (goes y') (binds z'))
  follows (loop_store_on {n = n} {m = m} {fs = fs} p k x' y' z') =
      at_rows (λ R. fs) (λ R. On (below p (spot R n) k) (spot R m))
      (loop_store_on p k (stands x') (goes y') (stores z'))
  follows (next_on {n = n} {v = v} {fs = fs} p k x' y' z') =
      at_rows (λ R. fs) (λ R. On (below p (spot R n) k) (spot R v)) (next_on p k (stands x') (goes y') (nexts z'))
  follows (next_has {n = n} {m = m} {v = v} {u = u} p k x' y') =
      at_rows (λ R. Has (below p (spot R n) k) (spot R v) u ∷ []) (λ R. Has (below p (spot R n) (suc k)) (spot R m) u)
      (next_has p k (stands x') (nexts y'))
  follows (last_on {n = n} {l = l} {fs = fs} p k x' y') =
      at_rows (λ R. fs) (λ R. On (below p (spot R n) k) (spot R l)) (last_on p k (stands x') (goes y'))
  follows (loop_has {n = n} {l = l} {u = u} p k x') =
      at_rows (λ R. Has (below p (spot R n) k) (spot R l) u ∷ []) (λ R. Has p (spot R n) u) (loop_has p k (stands x'))
  follows (statement_on {n = n} {a = a} {p = p} x' y' z') =
      at_rows (λ R. On p (spot R n) ∷ []) (λ R. On p (spot R a)) (statement_on (stands x') (statement y') (stands z'))
  follows (store_on {n = n} {m = m} {p = p} x' y' z') =
      at_rows (λ R. On p (spot R n) ∷ []) (λ R. On p (spot R m)) (store_on (stands x') (statement y') (stands z'))
  follows (body_on {n = n} {b = b} {p = p} x') =
      at_rows (λ R. On p (spot R n) ∷ []) (λ R. On p (spot R b)) (body_on (stands x'))
  follows (block_has {n = n} {b = b} {p = p} {v = v} x') =
      at_rows (λ R. On p (spot R n) ∷ Has p (spot R b) v ∷ []) (λ R. Has p (spot R n) v) (block_has (stands x'))
  follows (binding_has {n = n} {a = a} {p = p} {v = v} x') =
      at_rows (λ R. Has p (spot R a) v ∷ []) (λ R. Has p (spot R n) v) (binding_has (stands x'))
  follows (bounds_low_on {n = n} {a = a} {p = p} x') =
      at_rows (λ R. On p (spot R n) ∷ []) (λ R. On p (spot R a)) (bounds_low_on (stands x'))
  follows (bounds_high_on {n = n} {b = b} {p = p} x') =
      at_rows (λ R. On p (spot R n) ∷ []) (λ R. On p (spot R b)) (bounds_high_on (stands x'))
  follows (shape_made {n = n} {a = a} {b = b} {p = p} {lo = lo} {hi = hi} x' y') =
      at_rows (λ R. On p (spot R n) ∷ Has p (spot R a) (value.Int lo) ∷ Has p (spot R b) (value.Int hi) ∷ [])
      (λ R. shape (site p (spot R n)) lo hi) (shape_made (stands x') y')
  follows (array_has {n = n} {a = a} {b = b} {p = p} {lo = lo} {hi = hi} x' y') =
      at_rows (λ R. On p (spot R n) ∷ Has p (spot R a) (value.Int lo) ∷ Has p (spot R b) (value.Int hi) ∷ [])
      (λ R. Has p (spot R n) (value.Name (site p (spot R n)))) (array_has (stands x') y')
  follows (fetch_target_on {n = n} {t = t} {p = p} x') =
      at_rows (λ R. On p (spot R n) ∷ []) (λ R. On p (spot R t)) (fetch_target_on (stands x'))
  follows (fetch_index_on {n = n} {i = i} {p = p} x') =
      at_rows (λ R. On p (spot R n) ∷ []) (λ R. On p (spot R i)) (fetch_index_on (stands x'))
  follows (asks {n = n} {t = t} {i = i} {p = p} {s = s} {j = j} {lo = lo} {hi = hi} x' y') =
      at_rows (λ R. On p (spot R n) ∷ Has p (spot R t) (value.Name s) ∷ Has p (spot R i) (value.Int j) ∷ shape s lo hi
      ∷ []) (λ R. ask (site p (spot R n)) s j) (asks (stands x') y')
  follows (fetch_has {f = f} {s = s} {a = a} {j = j} {v = v}) = fetch_has
  follows (store_target_on {m = m} {t = t} {p = p} x') =
      at_rows (λ R. On p (spot R m) ∷ []) (λ R. On p (spot R t)) (store_target_on (store x'))
  follows (store_index_on {m = m} {i = i} {p = p} x') =
      at_rows (λ R. On p (spot R m) ∷ []) (λ R. On p (spot R i)) (store_index_on (store x'))
  follows (store_value_on {m = m} {x = x} {p = p} x') =
      at_rows (λ R. On p (spot R m) ∷ []) (λ R. On p (spot R x)) (store_value_on (store x'))
  follows (puts {m = m} {t = t} {i = i} {x = x} {p = p} {s = s} {j = j} {lo = lo} {hi = hi} {v = v} x' y') =
      at_rows (λ R. On p (spot R m) ∷ Has p (spot R t) (value.Name s) ∷ Has p (spot R i) (value.Int j)
      ∷ Has p (spot R x) v ∷ shape s lo hi ∷ []) (λ R. put s j v (site p (spot R m))) (puts (store x') y')

  fails : {fs : List Fact} {f : SourceFault} → FaultRule (source P vs) fs f → FaultRule (source Q vs) fs f
  fails (unary_fails {n = n} {a = a} {p = p} {k = k} c x' y') =
      fault_rows (λ R. On p (spot R n) ∷ Has p (spot R a) (value_of c) ∷ []) (λ R. Operator k (site p (spot R n)))
      (unary_fails c (stands x') y')
  fails (binary_fails {n = n} {a = a} {b = b} {p = p} {k = k} c d x' y') =
      fault_rows (λ R. On p (spot R n) ∷ Has p (spot R a) (value_of c) ∷ Has p (spot R b) (value_of d) ∷ [])
      (λ R. Operator k (site p (spot R n))) (binary_fails c d (stands x') y')
  fails (bad_bounds {n = n} {a = a} {b = b} {p = p} {lo = lo} {hi = hi} x' y') =
      fault_rows (λ R. On p (spot R n) ∷ Has p (spot R a) (value.Int lo) ∷ Has p (spot R b) (value.Int hi) ∷ [])
      (λ R. Operator BadBounds (site p (spot R n))) (bad_bounds (stands x') y')
  fails (out_of_fetch {n = n} {t = t} {i = i} {p = p} {s = s} {j = j} {lo = lo} {hi = hi} x' y') =
      fault_rows (λ R. On p (spot R n) ∷ Has p (spot R t) (value.Name s) ∷ Has p (spot R i) (value.Int j)
      ∷ shape s lo hi ∷ []) (λ R. Operator OutOfBounds (site p (spot R n))) (out_of_fetch (stands x') y')
  fails (out_of_store {m = m} {t = t} {i = i} {p = p} {s = s} {j = j} {lo = lo} {hi = hi} x' y') =
      fault_rows (λ R. On p (spot R m) ∷ Has p (spot R t) (value.Name s) ∷ Has p (spot R i) (value.Int j)
      ∷ shape s lo hi ∷ []) (λ R. Operator OutOfBounds (site p (spot R m))) (out_of_store (store x') y')
  fails (second_store {s = s} {a = a} {b = b} {j = j} {v = v} {w = w} x') = second_store x'

  -- ---- what holds

  pub rounds_to : (n : ℕ) (f : Fact) → Rounds (source P vs) n f → Rounds (source Q vs) n f
  rounds_to zero f h = absurd h
  rounds_to (suc n) f (inl h) = inl (rounds_to n f h)
  rounds_to (suc n) f (inr h) =
      inr (h.0, follows h.1, every_to (Rounds (source P vs) n) (Rounds (source Q vs) n) (rounds_to n) h.0 h.2)

  pub holds_to : (f : Fact) → Holds (source P vs) f → Holds (source Q vs) f
  holds_to f h = record { round = h.round; there = rounds_to h.round f h.there }

  pub faulty_to : (f : SourceFault) → Faulty (source P vs) f → Faulty (source Q vs) f
  faulty_to f h =
      record {
        premises = h.premises;
        rule = fails h.rule;
        hold =
            every_to (Holds (source P vs)) (Holds (source Q vs)) holds_to h.premises h.hold;
      }

  pub answers_to : (v : SourceValue) → Answers (source P vs) v → Answers (source Q vs) v
  answers_to v h =
      subst (λ e. Holds (source Q vs) (Has outermost e v)) same_start
      (holds_to (Has outermost (place P (main_body P)) v) h)

  binder_to : (e : ℕ) → IsBinder P e → IsBinder Q e
  binder_to e h = record {
    row = h.row;
    within = subst (λ (R : List Row). h.row < length R) same_rows h.within;
    binds = subst (λ (R : List Row). is_binder (at R h.row).node ≡ true) same_rows h.binds;
    here = subst (λ (R : List Row). (at R h.row).place ≡ e) same_rows h.here;
  }

  pub name_to : (n : NameValue) → IsNameValue (source P vs) n → IsNameValue (source Q vs) n
  name_to n h = record { binder = binder_to n.place h.binder; holds = holds_to (Has n.path n.place n.value) h.holds }

-- the other way round
pub AreAlike-sym : (P Q : Checked) → AreAlike P Q → AreAlike Q P
AreAlike-sym P Q a = record {
  tree = sym a.tree;
  rows = sym a.rows;
  names = sym a.names;
  main = sym a.main;
  binders = λ i l. sym (a.binders i (back i l));
  kinds = λ i l. sym (a.kinds i (back i l));
  depths = λ i l. sym (a.depths i (back i l));
}
  where
    back : (i : ℕ) → i < length (rows Q) → i < length (rows P)
    back i l = subst (λ (R : List Row). i < length R) (sym a.rows) l

module _ (P Q : Checked) (vs : List Constant) (alike : AreAlike P Q) where
  back : AreAlike Q P
  back = AreAlike-sym P Q alike

  pub answer_to : (v : Option SourceValue) → IsAnswer (source P vs) v → IsAnswer (source Q vs) v
  answer_to (Some v) h = answers_to P Q vs alike v h
  answer_to None h = λ v k. h v (answers_to Q P vs back v k)

  pub waiting_to : (a : Ask) → IsWaiting (source P vs) a → IsWaiting (source Q vs) a
  waiting_to a h = record {
    asks = holds_to P Q vs alike (ask a.fetch a.name a.index) h.asks;
    unfilled = λ v b k. h.unfilled v b (holds_to Q P vs back (put a.name a.index v b) k);
  }

-- two programs alike mean the same
pub MeanTheSame-alike : (P Q : Checked) (vs : List Constant) → AreAlike P Q → MeanTheSame (source P vs) (source Q vs)
MeanTheSame-alike P Q vs a = let b : AreAlike Q P = AreAlike-sym P Q a in record {
  rules = λ fs f. (follows P Q vs a, follows Q P vs b);
  fault_rules = λ fs f. (fails P Q vs a, fails Q P vs b);
  rounds = λ n f. (rounds_to P Q vs a n f, rounds_to Q P vs b n f);
  facts = λ f. (holds_to P Q vs a f, holds_to Q P vs b f);
  faults = λ f. (faulty_to P Q vs a f, faulty_to Q P vs b f);
  answer = λ v. (answer_to P Q vs a v, answer_to Q P vs b v);
  names = λ n. (name_to P Q vs a n, name_to Q P vs b n);
  waiting = λ x. (waiting_to P Q vs a x, waiting_to Q P vs b x);
}
