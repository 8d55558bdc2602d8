-- The facts of a source, and the rules that give them (docs/MEANING.md, "Facts", "Rules").
use Rattle.std.specs.Prelude.{◌≡◌, ℕ, ℤ, pos, suc, ◌-◌, ◌+ℤ◌, ◌++◌, int_le, int_lt}
use Rattle.std.specs.Prelude.{Bool as Truth, true, false}
use Rattle.std.specs.Prelude.{List, [], ◌∷◌, length, take}
use Rattle.std.specs.Prelude.{Some, slice_get}
use Rattle.id_value.specs.Bounds.{are_good, is_inside}
use Rattle.id_value.specs.declared.Constant.{Constant}
use Rattle.id_value.specs.declared.Constant.TheVariants as constant
use Rattle.id_value.specs.declared.UnaryOp.{UnaryOp}
use Rattle.id_value.specs.declared.BinaryOp.{BinaryOp}
use Rattle.id_value.specs.declared.FaultKind.{FaultKind}
use Rattle.id_value.specs.declared.FaultKind.TheVariants.{BadBounds, OutOfBounds}
use Rattle.id_value.specs.declared.Kind.{Kind}
use Rattle.id_value.specs.declared.Outcome.TheVariants.{Gives, Fails}
use Rattle.id_value.specs.Results.{result_of_unary, result_of_binary}
use Rattle.id_table.specs.declared.row.Node.TheVariants.{Literal, Name, Unary, Binary, Split, If, Arg, Call}
use Rattle.id_table.specs.declared.row.Node.TheVariants.{Switches, Next, Body, Loop, Block, Binding, Def}
use Rattle.id_table.specs.declared.row.Node.TheVariants.{Array, Fetch, Address, Store, Bounds, Index}
use Rattle.id_table.specs.Loops.{bounds_row, index_row}
use Rattle.id_table.specs.Rows.{arm_at, at}
use Rattle.id_table.specs.Tables.{is_within}
use Rattle.id_table.specs.Turns.{IsStatement, params_at}
use Rattle.id_check.specs.declared.checked.Checked.{Checked}
use Rattle.id_check.specs.Scopes.{loops_between}
use Rattle.id_check.specs.Programs.{Stands, binder, place, region, rows}
use Rattle.id_source.specs.declared.Path.{Path}
use Rattle.id_source.specs.declared.SourceValue.{SourceValue}
use Rattle.id_source.specs.declared.SourceValue.TheVariants as value
use Rattle.id_source.specs.declared.Site.{Site}
use Rattle.id_source.specs.declared.Fact.{Fact}
use Rattle.id_source.specs.declared.Fact.TheVariants.{On, Has, Shape, Put, Ask}
use Rattle.id_source.specs.declared.SourceFault.{SourceFault}
use Rattle.id_source.specs.declared.SourceFault.TheVariants.{Operator, SecondStore}
use Rattle.id_source.specs.Orders.{SiteBefore}
use Rattle.id_source.specs.Sources.{Source, IsInput, main_body, value_of}

-- the empty path
abbrev pub outermost : Path
outermost = record { steps = [] }

-- the path without its last d steps
abbrev pub without : ℕ → Path → Path
without d p = record { steps = take (length p.steps - d) p.steps }

-- the path with one more step, at a place
abbrev pub below : Path → ℕ → ℕ → Path
below p e k = record { steps = p.steps ++ record { place = e; number = k } ∷ [] }

-- a place at a path
abbrev pub site : Path → ℕ → Site
site p e = record { path = p; place = e }

-- a structure has these bounds
abbrev pub shape : Site → ℤ → ℤ → Fact
shape s lo hi = Shape (record { name = s; low = lo; high = hi })

-- a store puts the value into a cell of a structure
abbrev pub put : Site → ℤ → SourceValue → Site → Fact
put s i v a = Put (record { name = s; index = i; value = v; store = a })

-- a fetch asks for a cell of a structure
abbrev pub ask : Site → Site → ℤ → Fact
ask a s i = Ask (record { fetch = a; name = s; index = i })

-- how many loops stand between the row i, a name or a loop, and the binder b
abbrev pub between : Source → ℕ → ℕ → ℕ
between S i b = loops_between (rows S.checked) i b

-- a conditional stands at the row n with its predicate at the row t: where that Has this truth value, it turns on the
-- arm at a row
pub data Chooses (S : Source) (n t : ℕ) : Truth → ℕ → Type 0 where
  then_arm : {s a b : ℕ} → Stands S.checked n (If s a b) → Stands S.checked s (Split t) → Chooses S n t true a
  else_arm : {s a b : ℕ} → Stands S.checked n (If s a b) → Stands S.checked s (Split t) → Chooses S n t false b

-- a loop with a predicate stands at the row n, with its head at the row h, its switches at w, its predicate at t and
-- its last expression at l
pub record LoopStands (P : Checked) (n h w t l : ℕ) : Type 0 where
  pub loop : Stands P n (Loop h w l)
  pub switches : Stands P w (Switches t)
  pub predicate : is_within (at (rows P) t).node ≡ false

-- a `for` stands at the row n, with its switches at w, its index at x, its bounds at a and b and its last expression
-- at l
pub record ForStands (P : Checked) (n w x a b l : ℕ) : Type 0 where
  pub head : ℕ
  pub name : ℕ
  pub loop : Stands P n (Loop head w l)
  pub bounds : Stands P (bounds_row head) (Bounds a b)
  pub index : Stands P x (Index name)
  pub behind : x ≡ index_row w

-- a `next` statement of the loop with the head h stands at the row m, with the use of its name outside at the row o
-- and its expression at v
pub record NextStands (P : Checked) (m h o v : ℕ) : Type 0 where
  pub name : ℕ
  pub index : ℕ
  pub next : Stands P m (Next name index o v)
  pub block : (at (rows P) m).block ≡ h

-- a binding stands at the row m, right in the body behind the switches w, with its expression at a
pub record BodyBinds (P : Checked) (w m a : ℕ) : Type 0 where
  pub body : ℕ
  pub name : ℕ
  pub ends : Stands P body Body
  pub side : region P body ≡ arm_at w true
  pub statement : IsStatement (rows P) body m
  pub binding : Stands P m (Binding name a)

-- a store stands at the row m, right in the body behind the switches w
pub record BodyStores (P : Checked) (w m : ℕ) : Type 0 where
  pub body : ℕ
  pub address : ℕ
  pub value : ℕ
  pub ends : Stands P body Body
  pub side : region P body ≡ arm_at w true
  pub statement : IsStatement (rows P) body m
  pub store : Stands P m (Store address value)

-- a store stands at the row m, with its target at the row t, its index at i and its value at x
pub record StoreStands (P : Checked) (m t i x : ℕ) : Type 0 where
  pub address : ℕ
  pub store : Stands P m (Store address x)
  pub parts : Stands P address (Address t i)

-- by these facts the loop at the row n, with its switches at w, at the path p goes on or not in iteration k: its
-- predicate Has that truth value there; or in iteration 0 its lower bound is at most the upper one or not, and in the
-- one behind k its index was below the upper bound or not
pub data GoesOn (S : Source) (n w : ℕ) (p : Path) : ℕ → Truth → List Fact → Type 0 where
  by_predicate : {h t l : ℕ} {b : Truth} (k : ℕ) → LoopStands S.checked n h w t l
      → GoesOn S n w p k b
      (Has (below p (place S.checked n) k) (place S.checked t) (value_of (constant.Bool b)) ∷ [])
  by_bounds : {x a b l : ℕ} {lo hi : ℤ} {c : Truth} → ForStands S.checked n w x a b l → int_le lo hi ≡ c
      → GoesOn S n w p 0 c (On p (place S.checked n) ∷ Has p (place S.checked a) (value.Int lo)
      ∷ Has p (place S.checked b) (value.Int hi) ∷ [])
  by_index : {x a b l : ℕ} {i hi : ℤ} {c : Truth} (k : ℕ) → ForStands S.checked n w x a b l
      → int_lt i hi ≡ c
      → GoesOn S n w p (suc k) c (Has (below p (place S.checked n) k) (place S.checked x) (value.Int i)
      ∷ Has p (place S.checked b) (value.Int hi) ∷ [])

-- from these facts of a source this one follows
pub data Rule (S : Source) : List Fact → Fact → Type 0 where
  -- main's body is On at the empty path
  main_on : Rule S [] (On outermost (place S.checked (main_body S.checked)))
  -- main's parameters Have their inputs at the empty path
  param_has : {b : ℕ} {c : Constant} → IsInput S b c → Rule S [] (Has outermost (place S.checked b) (value_of c))
  -- an On literal Has itself
  literal_has : {n : ℕ} {c : Constant} {p : Path} → Stands S.checked n (Literal c)
      → Rule S (On p (place S.checked n) ∷ []) (Has p (place S.checked n) (value_of c))
  -- an On operator turns its operands On
  operand_on : {n a : ℕ} {o : UnaryOp} {p : Path} → Stands S.checked n (Unary o a)
      → Rule S (On p (place S.checked n) ∷ []) (On p (place S.checked a))
  left_on : {n a b : ℕ} {o : BinaryOp} {p : Path} → Stands S.checked n (Binary o a b)
      → Rule S (On p (place S.checked n) ∷ []) (On p (place S.checked a))
  right_on : {n a b : ℕ} {o : BinaryOp} {p : Path} → Stands S.checked n (Binary o a b)
      → Rule S (On p (place S.checked n) ∷ []) (On p (place S.checked b))
  -- operands that Have values give an On operator's result, where it has one
  unary_has : {n a : ℕ} {o : UnaryOp} {p : Path} {x : Constant} (c : Constant)
      → Stands S.checked n (Unary o a) → result_of_unary o c ≡ Gives x
      → Rule S (On p (place S.checked n) ∷ Has p (place S.checked a) (value_of c) ∷ [])
      (Has p (place S.checked n) (value_of x))
  binary_has : {n a b : ℕ} {o : BinaryOp} {p : Path} {x : Constant} (c d : Constant)
      → Stands S.checked n (Binary o a b) → result_of_binary o c d ≡ Gives x
      → Rule S (On p (place S.checked n) ∷ Has p (place S.checked a) (value_of c)
      ∷ Has p (place S.checked b) (value_of d) ∷ []) (Has p (place S.checked n) (value_of x))
  -- an On name Has what its binder Has, where the path leaves out the loops between
  name_has : {n x b : ℕ} {p : Path} {v : SourceValue} → Stands S.checked n (Name x)
      → binder S.checked n ≡ Some b
      → Rule S (On p (place S.checked n) ∷ Has (without (between S n b) p) (place S.checked b) v ∷ [])
      (Has p (place S.checked n) v)
  -- an On conditional turns its predicate On; a predicate that Has a value turns that arm On, whose value the
  -- conditional Has
  test_on : {n t a : ℕ} {b : Truth} {p : Path} → Chooses S n t b a
      → Rule S (On p (place S.checked n) ∷ []) (On p (place S.checked t))
  arm_on : {n t a : ℕ} {b : Truth} {p : Path} → Chooses S n t b a
      → Rule S (On p (place S.checked n) ∷ Has p (place S.checked t) (value_of (constant.Bool b)) ∷ [])
      (On p (place S.checked a))
  conditional_has : {n t a : ℕ} {b : Truth} {p : Path} {v : SourceValue} → Chooses S n t b a
      → Rule S (On p (place S.checked n) ∷ Has p (place S.checked t) (value_of (constant.Bool b))
      ∷ Has p (place S.checked a) v ∷ []) (Has p (place S.checked n) v)
  -- an On call turns its arguments On, and the callee's body at the path with the call, where each parameter Has its
  -- argument's value; it Has what that body Has
  argument_on : {n e c m k v : ℕ} {p : Path} → Stands S.checked n (Call e c) → Stands S.checked m (Arg e k v)
      → Rule S (On p (place S.checked n) ∷ []) (On p (place S.checked v))
  callee_on : {n e c d x h b : ℕ} {k : Kind} {p : Path} → Stands S.checked n (Call e c)
      → binder S.checked e ≡ Some d → Stands S.checked d (Def x h k b)
      → Rule S (On p (place S.checked n) ∷ []) (On (below p (place S.checked n) 0) (place S.checked b))
  argument_has : {n e c d x h b m i v q : ℕ} {k : Kind} {p : Path} {u : SourceValue}
      → Stands S.checked n (Call e c) → Stands S.checked m (Arg e i v) → binder S.checked e ≡ Some d
      → Stands S.checked d (Def x h k b) → slice_get (params_at (rows S.checked) h) i ≡ Some q
      → Rule S (On p (place S.checked n) ∷ Has p (place S.checked v) u ∷ [])
      (Has (below p (place S.checked n) 0) (place S.checked q) u)
  call_has : {n e c d x h b : ℕ} {k : Kind} {p : Path} {u : SourceValue} → Stands S.checked n (Call e c)
      → binder S.checked e ≡ Some d → Stands S.checked d (Def x h k b)
      → Rule S (On p (place S.checked n) ∷ Has (below p (place S.checked n) 0) (place S.checked b) u ∷ [])
      (Has p (place S.checked n) u)
  -- an On loop turns its predicate On in iteration 0, where a variable Has what its name means outside
  loop_test_on : {n h w t l : ℕ} {p : Path} → LoopStands S.checked n h w t l
      → Rule S (On p (place S.checked n) ∷ []) (On (below p (place S.checked n) 0) (place S.checked t))
  first_has : {n h w l m o v c : ℕ} {p : Path} {u : SourceValue} → Stands S.checked n (Loop h w l)
      → NextStands S.checked m h o v → binder S.checked o ≡ Some c
      → Rule S (On p (place S.checked n) ∷ Has (without (between S n c) p) (place S.checked c) u ∷ [])
      (Has (below p (place S.checked n) 0) (place S.checked m) u)
  -- an On `for` turns its bounds On; where the lower one is at most the upper one, the index Has it in iteration 0, and
  -- one more than in an iteration where it is below the upper one in the next
  lower_on : {n w x a b l : ℕ} {p : Path} → ForStands S.checked n w x a b l
      → Rule S (On p (place S.checked n) ∷ []) (On p (place S.checked a))
  upper_on : {n w x a b l : ℕ} {p : Path} → ForStands S.checked n w x a b l
      → Rule S (On p (place S.checked n) ∷ []) (On p (place S.checked b))
  index_begins : {n w x a b l : ℕ} {p : Path} {lo hi : ℤ} → ForStands S.checked n w x a b l
      → int_le lo hi ≡ true → Rule S (On p (place S.checked n) ∷ Has p (place S.checked a) (value.Int lo)
      ∷ Has p (place S.checked b) (value.Int hi) ∷ [])
      (Has (below p (place S.checked n) 0) (place S.checked x) (value.Int lo))
  index_counts : {n w x a b l : ℕ} {i hi : ℤ} (p : Path) (k : ℕ) → ForStands S.checked n w x a b l
      → int_lt i hi ≡ true
      → Rule S (Has (below p (place S.checked n) k) (place S.checked x) (value.Int i)
      ∷ Has p (place S.checked b) (value.Int hi) ∷ [])
      (Has (below p (place S.checked n) (suc k)) (place S.checked x) (value.Int (i +ℤ pos 1)))
  -- a predicate that Has true in an iteration turns itself On in the next one; a loop that goes on in an iteration
  -- turns the expressions and stores of the body On in it; in the next one a variable Has what its `next` expression
  -- Has in it
  turn_on : {n h w t l : ℕ} (p : Path) (k : ℕ) → LoopStands S.checked n h w t l
      → Rule S (Has (below p (place S.checked n) k) (place S.checked t) (value_of (constant.Bool true)) ∷ [])
      (On (below p (place S.checked n) (suc k)) (place S.checked t))
  loop_statement_on : {n h w l m a : ℕ} {fs : List Fact} (p : Path) (k : ℕ) → Stands S.checked n (Loop h w l)
      → GoesOn S n w p k true fs → BodyBinds S.checked w m a
      → Rule S fs (On (below p (place S.checked n) k) (place S.checked a))
  loop_store_on : {n h w l m : ℕ} {fs : List Fact} (p : Path) (k : ℕ) → Stands S.checked n (Loop h w l)
      → GoesOn S n w p k true fs → BodyStores S.checked w m
      → Rule S fs (On (below p (place S.checked n) k) (place S.checked m))
  next_on : {n h w l m o v : ℕ} {fs : List Fact} (p : Path) (k : ℕ) → Stands S.checked n (Loop h w l)
      → GoesOn S n w p k true fs → NextStands S.checked m h o v
      → Rule S fs (On (below p (place S.checked n) k) (place S.checked v))
  next_has : {n h w l m o v : ℕ} {u : SourceValue} (p : Path) (k : ℕ) → Stands S.checked n (Loop h w l)
      → NextStands S.checked m h o v
      → Rule S (Has (below p (place S.checked n) k) (place S.checked v) u ∷ [])
      (Has (below p (place S.checked n) (suc k)) (place S.checked m) u)
  -- one that does not go on turns the last expression On, whose value the loop Has
  last_on : {n h w l : ℕ} {fs : List Fact} (p : Path) (k : ℕ) → Stands S.checked n (Loop h w l)
      → GoesOn S n w p k false fs
      → Rule S fs (On (below p (place S.checked n) k) (place S.checked l))
  loop_has : {n h w l : ℕ} {u : SourceValue} (p : Path) (k : ℕ) → Stands S.checked n (Loop h w l)
      → Rule S (Has (below p (place S.checked n) k) (place S.checked l) u ∷ []) (Has p (place S.checked n) u)
  -- an On block turns the expressions of its bindings, its stores and its body On, and Has its body's value
  statement_on : {n m x a b : ℕ} {p : Path} → Stands S.checked n (Block b)
      → IsStatement (rows S.checked) n m → Stands S.checked m (Binding x a)
      → Rule S (On p (place S.checked n) ∷ []) (On p (place S.checked a))
  store_on : {n m a x b : ℕ} {p : Path} → Stands S.checked n (Block b)
      → IsStatement (rows S.checked) n m → Stands S.checked m (Store a x)
      → Rule S (On p (place S.checked n) ∷ []) (On p (place S.checked m))
  body_on : {n b : ℕ} {p : Path} → Stands S.checked n (Block b)
      → Rule S (On p (place S.checked n) ∷ []) (On p (place S.checked b))
  block_has : {n b : ℕ} {p : Path} {v : SourceValue} → Stands S.checked n (Block b)
      → Rule S (On p (place S.checked n) ∷ Has p (place S.checked b) v ∷ []) (Has p (place S.checked n) v)
  -- a binding Has the value that its expression Has
  binding_has : {n x a : ℕ} {p : Path} {v : SourceValue} → Stands S.checked n (Binding x a)
      → Rule S (Has p (place S.checked a) v ∷ []) (Has p (place S.checked n) v)
  -- an On `array` turns its bounds On; bounds that are good give its structure their Shape, and it Has its name
  bounds_low_on : {n a b : ℕ} {nested : Truth} {p : Path} → Stands S.checked n (Array nested a b)
      → Rule S (On p (place S.checked n) ∷ []) (On p (place S.checked a))
  bounds_high_on : {n a b : ℕ} {nested : Truth} {p : Path} → Stands S.checked n (Array nested a b)
      → Rule S (On p (place S.checked n) ∷ []) (On p (place S.checked b))
  shape_made : {n a b : ℕ} {nested : Truth} {p : Path} {lo hi : ℤ}
      → Stands S.checked n (Array nested a b) → are_good lo hi ≡ true
      → Rule S (On p (place S.checked n) ∷ Has p (place S.checked a) (value.Int lo)
      ∷ Has p (place S.checked b) (value.Int hi) ∷ []) (shape (site p (place S.checked n)) lo hi)
  array_has : {n a b : ℕ} {nested : Truth} {p : Path} {lo hi : ℤ}
      → Stands S.checked n (Array nested a b) → are_good lo hi ≡ true
      → Rule S (On p (place S.checked n) ∷ Has p (place S.checked a) (value.Int lo)
      ∷ Has p (place S.checked b) (value.Int hi) ∷ [])
      (Has p (place S.checked n) (value.Name (site p (place S.checked n))))
  -- an On fetch turns its parts On; a structure and an index inside its Shape give Ask, and Ask and Put on one cell
  -- give the fetch the value
  fetch_target_on : {n t i : ℕ} {p : Path} → Stands S.checked n (Fetch t i)
      → Rule S (On p (place S.checked n) ∷ []) (On p (place S.checked t))
  fetch_index_on : {n t i : ℕ} {p : Path} → Stands S.checked n (Fetch t i)
      → Rule S (On p (place S.checked n) ∷ []) (On p (place S.checked i))
  asks : {n t i : ℕ} {p : Path} {s : Site} {j lo hi : ℤ} → Stands S.checked n (Fetch t i)
      → is_inside lo hi j ≡ true
      → Rule S (On p (place S.checked n) ∷ Has p (place S.checked t) (value.Name s)
      ∷ Has p (place S.checked i) (value.Int j) ∷ shape s lo hi ∷ []) (ask (site p (place S.checked n)) s j)
  fetch_has : {f s a : Site} {j : ℤ} {v : SourceValue}
      → Rule S (ask f s j ∷ put s j v a ∷ []) (Has f.path f.place v)
  -- an On store turns its target, its index and its value On; a structure, an index inside its Shape and a value give
  -- Put
  store_target_on : {m t i x : ℕ} {p : Path} → StoreStands S.checked m t i x
      → Rule S (On p (place S.checked m) ∷ []) (On p (place S.checked t))
  store_index_on : {m t i x : ℕ} {p : Path} → StoreStands S.checked m t i x
      → Rule S (On p (place S.checked m) ∷ []) (On p (place S.checked i))
  store_value_on : {m t i x : ℕ} {p : Path} → StoreStands S.checked m t i x
      → Rule S (On p (place S.checked m) ∷ []) (On p (place S.checked x))
  puts : {m t i x : ℕ} {p : Path} {s : Site} {j lo hi : ℤ} {v : SourceValue} → StoreStands S.checked m t i x
      → is_inside lo hi j ≡ true
      → Rule S (On p (place S.checked m) ∷ Has p (place S.checked t) (value.Name s)
      ∷ Has p (place S.checked i) (value.Int j) ∷ Has p (place S.checked x) v ∷ shape s lo hi ∷ [])
      (put s j v (site p (place S.checked m)))

-- from these facts of a source this fault of it follows
pub data FaultRule (S : Source) : List Fact → SourceFault → Type 0 where
  -- an On operator fails where its operands Have values on which it has no result
  unary_fails : {n a : ℕ} {o : UnaryOp} {p : Path} {k : FaultKind} (c : Constant)
      → Stands S.checked n (Unary o a) → result_of_unary o c ≡ Fails k
      → FaultRule S (On p (place S.checked n) ∷ Has p (place S.checked a) (value_of c) ∷ [])
      (Operator k (site p (place S.checked n)))
  binary_fails : {n a b : ℕ} {o : BinaryOp} {p : Path} {k : FaultKind} (c d : Constant)
      → Stands S.checked n (Binary o a b) → result_of_binary o c d ≡ Fails k
      → FaultRule S (On p (place S.checked n) ∷ Has p (place S.checked a) (value_of c)
      ∷ Has p (place S.checked b) (value_of d) ∷ []) (Operator k (site p (place S.checked n)))
  -- an On `array` fails where its bounds are not good
  bad_bounds : {n a b : ℕ} {nested : Truth} {p : Path} {lo hi : ℤ}
      → Stands S.checked n (Array nested a b) → are_good lo hi ≡ false
      → FaultRule S (On p (place S.checked n) ∷ Has p (place S.checked a) (value.Int lo)
      ∷ Has p (place S.checked b) (value.Int hi) ∷ []) (Operator BadBounds (site p (place S.checked n)))
  -- an On fetch or store fails where its index is outside the Shape of the structure that its target Has; what is to be
  -- stored need not be there
  out_of_fetch : {n t i : ℕ} {p : Path} {s : Site} {j lo hi : ℤ} → Stands S.checked n (Fetch t i)
      → is_inside lo hi j ≡ false
      → FaultRule S (On p (place S.checked n) ∷ Has p (place S.checked t) (value.Name s)
      ∷ Has p (place S.checked i) (value.Int j) ∷ shape s lo hi ∷ [])
      (Operator OutOfBounds (site p (place S.checked n)))
  out_of_store : {m t i x : ℕ} {p : Path} {s : Site} {j lo hi : ℤ} → StoreStands S.checked m t i x
      → is_inside lo hi j ≡ false
      → FaultRule S (On p (place S.checked m) ∷ Has p (place S.checked t) (value.Name s)
      ∷ Has p (place S.checked i) (value.Int j) ∷ shape s lo hi ∷ [])
      (Operator OutOfBounds (site p (place S.checked m)))
  -- two stores put something into one cell, the first of them first by path and place
  second_store : {s a b : Site} {j : ℤ} {v w : SourceValue} → SiteBefore a b
      → FaultRule S (put s j v a ∷ put s j w b ∷ [])
      (SecondStore s j a b)
