-- What a place of a source Has, where it is a number, is one of the language, if literals and inputs are.
use Rattle.std.proofs.Common.{◌≡◌, inl, inr, ℕ, zero, suc, ◌<◌, ℤ, Bool as Truth, true, false, cond, List, [], ◌∷◌}
use Rattle.std.proofs.Common.{refl, sym, ◌∙◌, subst, arith}
use Rattle.std.specs.Prelude.{neg_ℤ, pos, negsuc, ◌+ℤ◌, ◌-ℤ◌, ◌*ℤ◌, int_lt, int_div, int_rem}
use Rattle.std.proofs.Common.{int_eq}
use Rattle.std.specs.Prelude.{unsigned_abs, slice_get, None, Some}
use Rattle.std.proofs.lemmas.Int.{rem_below}
use Rattle.std.proofs.lemmas.Bool.Decides.{nat_tests}
use Rattle.id_value.specs.declared.Constant.{Constant}
use Rattle.id_value.specs.declared.Constant.TheVariants.{Int, Bool}
use Rattle.id_value.specs.declared.UnaryOp.{UnaryOp}
use Rattle.id_value.specs.declared.UnaryOp.TheVariants.{Neg, Not}
use Rattle.id_value.specs.declared.BinaryOp.{BinaryOp}
use Rattle.id_value.specs.declared.BinaryOp.TheVariants as class
use Rattle.id_value.specs.declared.Arithmetic.{Arithmetic}
use Rattle.id_value.specs.declared.Arithmetic.TheVariants.{Add, Sub, Mul, Div, Rem}
use Rattle.id_value.specs.declared.Comparison.TheVariants.{Eq, Ne}
use Rattle.id_value.specs.declared.Logic.TheVariants.{And, Or}
use Rattle.id_value.specs.declared.Outcome.{Outcome}
use Rattle.id_value.specs.declared.Outcome.TheVariants.{Gives, Fails, Lacks}
use Rattle.id_value.specs.declared.FaultKind.TheVariants.{Overflow, DivisionByZero}
use Rattle.id_value.specs.Results.{calculated, is_whole, result_of_unary, remainder, result_of_binary, whole}
use Rattle.id_table.specs.declared.row.Node.{Node}
use Rattle.id_table.specs.declared.row.Node.TheVariants.{Literal, Param}
use Rattle.id_table.specs.Rows.{at}
use Rattle.id_check.specs.declared.checked.Checked.{Checked}
use Rattle.id_check.specs.Programs.{Stands, rows}
use Rattle.id_source.specs.declared.Path.{Path}
use Rattle.id_source.specs.declared.SourceValue.{SourceValue}
use Rattle.id_source.specs.declared.SourceValue.TheVariants as source
use Rattle.id_source.specs.declared.Fact.{Fact}
use Rattle.id_source.specs.declared.Fact.TheVariants.{Has, Put}
use Rattle.id_source.specs.Sources as sources
use Rattle.id_source.specs.Sources.{Source, AreFor, AreInputs, IsInput, SuitsParam, main_params, value_of}
use Rattle.id_source.specs.Facts.{Rule, param_has, literal_has, unary_has, binary_has, name_has, conditional_has}
use Rattle.id_source.specs.Facts.{block_has, binding_has, argument_has}
use Rattle.id_source.specs.Facts.{call_has, first_has, next_has, loop_has, index_begins, index_counts, array_has}
use Rattle.id_source.specs.Facts.{fetch_has, puts}
use Rattle.id_source.specs.Rounds.{Every, Rounds, Holds}

-- a number of the language, or another value
abbrev IsWhole : SourceValue → Type 0
IsWhole (source.Int n) = is_whole n ≡ true
IsWhole _ = Unit {0}

-- what a fact says of a value
abbrev SaysWhole : Fact → Type 0
SaysWhole (Has p e v) = IsWhole v
SaysWhole (Put x) = IsWhole x.value
SaysWhole _ = Unit {0}

-- each literal and each input is so
pub record AreWhole (S : Source) : Type 0 where
  pub literals : (n : ℕ) (c : Constant) → Stands S.checked n (Literal c) → IsWhole (value_of c)
  pub inputs : (b : ℕ) (c : Constant) → IsInput S b c → IsWhole (value_of c)

-- ---- results

whole_given : (n : ℤ) (c : Constant) → whole n ≡ Gives c → IsWhole (value_of c)
whole_given n c e = go (is_whole n) refl e
  where
    go : (t : Truth) → is_whole n ≡ t → cond t (Gives (Int n)) (Fails Overflow) ≡ Gives c → IsWhole (value_of c)
    go true w e = let same : Int n ≡ c = cc in subst (λ z. IsWhole (value_of z)) same w
    go false w e = cc

-- what is nearer to 0 than a number of the language is one
whole_below : (n b : ℤ) → unsigned_abs n < unsigned_abs b → is_whole b ≡ true → is_whole n ≡ true
whole_below (pos m) (pos k) less w = grind (arith, nat_tests)
whole_below (pos m) (negsuc k) less w = grind (arith, nat_tests)
whole_below (negsuc m) (pos k) less w = grind (arith, nat_tests)
whole_below (negsuc m) (negsuc k) less w = grind (arith, nat_tests)

some_size : (b : ℤ) → (int_eq b (pos 0) ≡ true → ⊥) → 0 < unsigned_abs b
some_size (pos zero) some = absurd (some refl)
some_size (pos (suc k)) some = omega arith
some_size (negsuc k) some = omega arith

-- a remainder is nearer to 0 than what it divides by
remainder_whole : (a b : ℤ) → is_whole b ≡ true → (int_eq b (pos 0) ≡ true → ⊥) → is_whole (int_rem a b) ≡ true
remainder_whole a b w some = whole_below (int_rem a b) b (rem_below a b (some_size b some)) w

-- one more than a number below another one
pub one_more : (i hi : ℤ) → int_lt i hi ≡ true → is_whole i ≡ true → is_whole hi ≡ true → is_whole (i +ℤ pos 1) ≡ true
one_more (pos m) (pos k) less low high = grind (arith, nat_tests)
one_more (pos m) (negsuc k) less low high = cc
one_more (negsuc zero) hi less low high = refl
one_more (negsuc (suc m)) hi less low high = grind (arith, nat_tests)

remainder_given : (t : Truth) (a b : ℤ) (c : Constant) → is_whole b ≡ true → (int_eq b (pos 0) ≡ true → ⊥)
    → cond t (Gives (Int (int_rem a b))) (Fails Overflow) ≡ Gives c → IsWhole (value_of c)
remainder_given true a b c w some e =
    let same : Int (int_rem a b) ≡ c = cc in subst (λ z. IsWhole (value_of z)) same (remainder_whole a b w some)
remainder_given false a b c w some e = cc

true_false : true ≡ false → ⊥
true_false h = cc

divided_given : (o : Outcome) (b : ℤ) (c : Constant)
    → ((int_eq b (pos 0) ≡ true → ⊥) → o ≡ Gives c → IsWhole (value_of c))
    → cond (int_eq b (pos 0)) (Fails DivisionByZero) o ≡ Gives c → IsWhole (value_of c)
divided_given o b c given e = go (int_eq b (pos 0)) refl e
  where
    go : (t : Truth) → int_eq b (pos 0) ≡ t → cond t (Fails DivisionByZero) o ≡ Gives c → IsWhole (value_of c)
    go true z e = cc
    go false z e = given (λ k. true_false (sym k ∙ z)) e

truth_given : (b : Truth) (c : Constant) → Gives (Bool b) ≡ Gives c → IsWhole (value_of c)
truth_given b (Int n) e = cc
truth_given b (Bool d) e = tt

lacks_given : (c : Constant) → Lacks ≡ Gives c → IsWhole (value_of c)
lacks_given c e = absurd (no e)
  where
    no : {c : Constant} → Lacks ≡ Gives c → ⊥
    no e = cc

calculated_whole : (o : Arithmetic) (a b : ℤ) (c : Constant) → is_whole b ≡ true → calculated o a b ≡ Gives c
    → IsWhole (value_of c)
calculated_whole Add a b c w e = whole_given (a +ℤ b) c e
calculated_whole Sub a b c w e = whole_given (a -ℤ b) c e
calculated_whole Mul a b c w e = whole_given (a *ℤ b) c e
calculated_whole Div a b c w e = divided_given (whole (int_div a b)) b c (λ some. whole_given (int_div a b) c) e
calculated_whole Rem a b c w e =
    divided_given (remainder a b) b c (λ some. remainder_given (is_whole (int_div a b)) a b c w some) e

unary_whole : (o : UnaryOp) (a c : Constant) → result_of_unary o a ≡ Gives c → IsWhole (value_of c)
unary_whole Neg (Int n) c e = whole_given (neg_ℤ n) c e
unary_whole Neg (Bool b) c e = lacks_given c e
unary_whole Not (Int n) c e = lacks_given c e
unary_whole Not (Bool b) c e = truth_given _ c e

binary_whole : (o : BinaryOp) (a b c : Constant) → IsWhole (value_of b) → result_of_binary o a b ≡ Gives c
    → IsWhole (value_of c)
binary_whole (class.Arithmetic o) (Int m) (Int n) c w e = calculated_whole o m n c w e
binary_whole (class.Comparison o) (Int m) (Int n) c w e = truth_given _ c e
binary_whole (class.Comparison Eq) (Bool m) (Bool n) c w e = truth_given _ c e
binary_whole (class.Comparison Ne) (Bool m) (Bool n) c w e = truth_given _ c e
binary_whole (class.Logic And) (Bool m) (Bool n) c w e = truth_given _ c e
binary_whole (class.Logic Or) (Bool m) (Bool n) c w e = truth_given _ c e
binary_whole _ _ _ c w e = lacks_given c e

-- ---- facts

module _ (S : Source) (are : AreWhole S) where
  by_rule : {fs : List Fact} {f : Fact} → Rule S fs f → Every SaysWhole fs → SaysWhole f
  by_rule (param_has {b = b} {c = c} x) h = are.inputs b c x
  by_rule (literal_has {n = n} {c = c} x) h = are.literals n c x
  by_rule (unary_has {o = o} {x = y} c x result) h = unary_whole o c y result
  by_rule (binary_has {o = o} {x = y} c d x result) h = binary_whole o c d y h.1.1.0 result
  by_rule (name_has x binds) h = h.1.0
  by_rule (conditional_has chooses) h = h.1.1.0
  by_rule (argument_has x y bound def param) h = h.1.0
  by_rule (call_has x bound def) h = h.1.0
  by_rule (first_has x y bound) h = h.1.0
  by_rule (index_begins x below) h = h.1.0
  by_rule (index_counts {i = i} {hi = hi} p k x below) h = one_more i hi below h.0 h.1.0
  by_rule (next_has p k x y) h = h.0
  by_rule (loop_has p k x) h = h.0
  by_rule (block_has x) h = h.1.0
  by_rule (binding_has x) h = h.0
  by_rule (array_has x good) h = tt
  by_rule fetch_has h = h.1.0
  by_rule (puts x inside) h = h.1.1.1.0
  by_rule _ h = tt

  every : (m : ℕ) → ((f : Fact) → Rounds S m f → SaysWhole f) → (fs : List Fact) → Every (Rounds S m) fs
      → Every SaysWhole fs
  every m one [] h = tt
  every m one (f ∷ fs) h = (one f h.0, every m one fs h.1)

  by_round : (m : ℕ) (f : Fact) → Rounds S m f → SaysWhole f
  by_round zero f h = absurd h
  by_round (suc m) f (inl h) = by_round m f h
  by_round (suc m) f (inr t) = by_rule t.1 (every m (by_round m) t.0 t.2)

  -- each number that a place Has is one of the language
  pub wholes : {p : Path} {e : ℕ} {i : ℤ} → Holds S (Has p e (source.Int i)) → is_whole i ≡ true
  wholes {p} {e} {i} h = by_round h.round (Has p e (source.Int i)) h.there

-- ---- literals and inputs are

constant_whole : (c : Constant) → sources.IsWhole c → IsWhole (value_of c)
constant_whole (Int n) h = h
constant_whole (Bool b) h = tt

literal_whole : (P : Checked) (n : ℕ) (c : Constant) → Stands P n (Literal c) → IsWhole (value_of c)
literal_whole P n (Int z) x = P.literals n z x.within x.node
literal_whole P n (Bool b) x = tt

suits_whole : (m : Node) (c : Constant) → SuitsParam m c → sources.IsWhole c
suits_whole (Param x k) c h = h.1
suits_whole _ c h = absurd h

input_whole : (P : Checked) (bs : List ℕ) (vs : List Constant) (n b : ℕ) (c : Constant) → AreFor P bs vs
    → slice_get bs n ≡ Some b → slice_get vs n ≡ Some c → sources.IsWhole c
input_whole P [] vs n b c h e f = absurd (none e)
  where
    none : {x : ℕ} → None ≡ Some x → ⊥
    none e = cc
input_whole P (x ∷ bs) [] n b c h e f = absurd h
input_whole P (x ∷ bs) (w ∷ vs) zero b c h e f =
    let value_is : w ≡ c = some_is f in subst sources.IsWhole value_is (suits_whole (at (rows P) x).node w h.0)
  where
    some_is : {x y : Constant} → Some x ≡ Some y → x ≡ y
    some_is e = cc
input_whole P (x ∷ bs) (w ∷ vs) (suc n) b c h e f = input_whole P bs vs n b c h.1 e f

-- each literal of a checked program and each input is one of the language
pub are_whole : (S : Source) → AreInputs S.checked S.inputs → AreWhole S
are_whole S inputs = record {
  literals = literal_whole S.checked;
  inputs = λ b c x. constant_whole c
      (input_whole S.checked (main_params S.checked) S.inputs x.number b c inputs x.param x.value);
}
