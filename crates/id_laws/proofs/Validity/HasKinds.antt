-- What a thing Has is of its kind.
use Rattle.std.proofs.Common.{◌≡◌, inl, inr, ℕ, zero, suc, ◌<◌, Bool as Truth, true, false, Option, Some, None, List}
use Rattle.std.proofs.Common.{[], ◌∷◌, length, slice_get}
use Rattle.std.proofs.Common.{arith, refl, sym, ◌∙◌, ap, subst}
use Rattle.std.specs.Prelude.{neg_ℤ, ◌+ℤ◌, pos}
use Rattle.id_value.specs.declared.Kind.{Kind}
use Rattle.id_value.specs.declared.Kind.TheVariants as kinds
use Rattle.id_value.specs.declared.Constant.{Constant}
use Rattle.id_value.specs.declared.Constant.TheVariants.{Int, Bool}
use Rattle.id_value.specs.declared.UnaryOp.{UnaryOp}
use Rattle.id_value.specs.declared.UnaryOp.TheVariants.{Neg, Not}
use Rattle.id_value.specs.declared.Comparison.TheVariants.{Eq, Ne}
use Rattle.id_value.specs.declared.Logic.TheVariants.{And, Or}
use Rattle.id_value.specs.declared.BinaryOp.{BinaryOp}
use Rattle.id_value.specs.declared.BinaryOp.TheVariants as class
use Rattle.id_value.specs.declared.Outcome.{Outcome}
use Rattle.id_value.specs.declared.Outcome.TheVariants.{Gives, Lacks}
use Rattle.id_value.specs.Kinds.{array_kind, element_kind}
use Rattle.id_value.specs.Results.{result_of_unary, result_of_binary}
use Rattle.id_value.proofs.ResultsLemmas.{IsNumberOrFault, whole-number, calculated-number}
use Rattle.id_value.proofs.AmongLemmas.{Among-from_at}
use Rattle.id_table.specs.declared.row.Node.{Node}
use Rattle.id_table.specs.declared.row.Node.TheVariants.{Head, Param, Split, If, Binding, Program, Enter, Arg, Def}
use Rattle.id_table.specs.declared.row.Node.TheVariants.{Fetch, Address}
use Rattle.id_table.specs.declared.row.Node.TheVariants.{Start, LoopHead, Variable, Entries, Switches, Turn, NextUse}
use Rattle.id_table.specs.declared.row.Node.TheVariants.{Next, Body, Reset}
use Rattle.id_table.specs.declared.row.Node.TheVariants.{Array, Bounds, Carried, Within, Count, Index, Span}
use Rattle.id_table.specs.Rows.{at}
use Rattle.id_table.specs.Tables.{HasOperand, is_thing, is_binder, is_expression}
use Rattle.id_table.proofs.RegionLemmas.{HasPart-operand}
use Rattle.id_check.specs.declared.checked.Checked.{Checked}
use Rattle.id_check.specs.Kinds.{constant_kind, kind_within, unary_kind, binary_kind}
use Rattle.id_check.specs.Programs.{Stands, kind, place, rows}
use Rattle.id_source.specs.declared.Path.{Path}
use Rattle.id_source.specs.declared.SourceValue.{SourceValue}
use Rattle.id_source.specs.declared.Fact.{Fact}
use Rattle.id_source.specs.declared.Fact.TheVariants.{Has}
use Rattle.id_source.specs.declared.Fact.TheVariants as facts
use Rattle.id_source.specs.declared.Ask.{Ask}
use Rattle.id_source.specs.declared.Put.{Put}
use Rattle.id_source.specs.declared.SourceValue.TheVariants as source
use Rattle.id_source.specs.Sources.{Source, AreFor, AreInputs, IsArrayAt, IsInput, IsOfKind, SuitsParam, main_params}
use Rattle.id_source.specs.Sources.{value_of}
use Rattle.id_source.specs.Facts.{Rule, Chooses, then_arm, else_arm, param_has, literal_has, unary_has, binary_has}
use Rattle.id_source.specs.Facts.{name_has, conditional_has, block_has}
use Rattle.id_source.specs.Facts.{binding_has, argument_has, call_has, first_has, next_has, loop_has, index_begins}
use Rattle.id_source.specs.Facts.{index_counts, array_has, fetch_has, asks, puts, site}
use Rattle.id_source.specs.Rounds.{Every, Rounds, Holds}
use Rattle.id_build.specs.Rows.{node, port_at, param_of}
use Rattle.id_laws.specs.Activations.{main_head}
use Rattle.id_laws.specs.Topics.{of_fetch, of_store}
use Rattle.id_laws.proofs.Rows.Assumed.{IsKnown}
use Rattle.id_check.proofs.ProgramsLemmas.{kind_fixed}
use Rattle.id_check.proofs.WantedLemmas.{loop_row, next_row}
use Rattle.id_laws.proofs.Rows.Blocks.{IsParam, a_param}
use Rattle.id_table.specs.Turns.{IsDefOf, params_at}
use Rattle.id_laws.proofs.Rows.Calls.{enter_at, called_is}
use Rattle.id_laws.proofs.Validity.PortsTake.{Takes, constant_is_of, takes_of_kind}

gives_truth : (b : Truth) (c : Constant) → Gives (Bool b) ≡ Gives c → constant_kind c ≡ kinds.Bool
gives_truth b (Int m) e = cc
gives_truth b (Bool d) e = refl

lacks_gives : (c : Constant) {A : Type 0} → Lacks ≡ Gives c → A
lacks_gives c e = absurd (no e)
  where
    no : {c : Constant} → Lacks ≡ Gives c → ⊥
    no e = cc

number_kind : (c : Constant) → IsNumberOrFault (Gives c) → constant_kind c ≡ kinds.Int
number_kind (Int n) h = refl
number_kind (Bool b) h = absurd h

number_given : (o : Outcome) (c : Constant) → IsNumberOrFault o → o ≡ Gives c → constant_kind c ≡ kinds.Int
number_given o c h e = number_kind c (subst IsNumberOrFault e h)

-- the results of an operator are of its kind
unary_gives : (o : UnaryOp) (a c : Constant) → result_of_unary o a ≡ Gives c → constant_kind c ≡ unary_kind o
unary_gives Neg (Int n) c e = number_given _ c (whole-number (neg_ℤ n)) e
unary_gives Neg (Bool b) c e = lacks_gives c e
unary_gives Not (Int n) c e = lacks_gives c e
unary_gives Not (Bool b) c e = gives_truth _ c e

binary_gives : (o : BinaryOp) (a b c : Constant) → result_of_binary o a b ≡ Gives c → constant_kind c ≡ binary_kind o
binary_gives (class.Arithmetic o) (Int m) (Int n) c e = number_given _ c (calculated-number o m n) e
binary_gives (class.Comparison o) (Int m) (Int n) c e = gives_truth _ c e
binary_gives (class.Comparison Eq) (Bool m) (Bool n) c e = gives_truth _ c e
binary_gives (class.Comparison Ne) (Bool m) (Bool n) c e = gives_truth _ c e
binary_gives (class.Logic And) (Bool m) (Bool n) c e = gives_truth _ c e
binary_gives (class.Logic Or) (Bool m) (Bool n) c e = gives_truth _ c e
binary_gives _ _ _ c e = lacks_gives c e

-- an input is of its parameter's kind
input_suits : (P : Checked) (bs : List ℕ) (vs : List Constant) (n b : ℕ) (v : Constant) → AreFor P bs vs
    → slice_get bs n ≡ Some b → slice_get vs n ≡ Some v → SuitsParam (at (rows P) b).node v
input_suits P [] vs n b v h e f = absurd (none e)
  where
    none : {x : ℕ} → None ≡ Some x → ⊥
    none e = cc
input_suits P (x ∷ bs) [] n b v h e f = absurd h
input_suits P (x ∷ bs) (w ∷ vs) zero b v h e f =
    let row_is : x ≡ b = some_is e in
    let value_is : w ≡ v = some_is f in
    subst (λ (z : ℕ × Constant). SuitsParam (at (rows P) z.0).node z.1) {x = (x, w)} {y =
    (b, v)} (λ i. (row_is i, value_is i)) h.0
  where
    some_is : {A : Type 0} {x y : A} → Some x ≡ Some y → x ≡ y
    some_is e = cc
input_suits P (x ∷ bs) (w ∷ vs) (suc n) b v h e f = input_suits P bs vs n b v h.1 e f

-- a parameter that suits the value has its kind
pub param_suits : (P : Checked) → IsKnown P → (b : ℕ) (v : Constant) → b < length (rows P) → (m : Node) → node P b ≡ m
    → SuitsParam m v → kind P b ≡ Some (constant_kind v)
param_suits P known b v within (Param x k) is h = known.param_kind b x k within is ∙ ap (λ z. Some z) (sym h.0)
param_suits P known b v within _ is h = absurd h

some_is : {A : Type 0} {x y : A} → Some x ≡ Some y → x ≡ y
some_is e = cc

same_fact : {p q : Path} {e d : ℕ} {v w : SourceValue} → Has p e v ≡ Has q d w → (e ≡ d) × (v ≡ w)
same_fact h = (cc, cc)

-- what a fact is
abbrev is_has : Fact → Truth
is_has (Has p e v) = true
is_has _ = false

abbrev is_put : Fact → Truth
is_put (facts.Put x) = true
is_put _ = false

abbrev is_ask : Fact → Truth
is_ask (facts.Ask x) = true
is_ask _ = false

true_false : true ≡ false → ⊥
true_false h = cc

no_has : {f : Fact} {p : Path} {e : ℕ} {v : SourceValue} → is_has f ≡ false → f ≡ Has p e v → ⊥
no_has h is = true_false (sym (ap is_has is) ∙ h)

no_put : {f : Fact} {x : Put} → is_put f ≡ false → f ≡ facts.Put x → ⊥
no_put h is = true_false (sym (ap is_put is) ∙ h)

no_ask : {f : Fact} {x : Ask} → is_ask f ≡ false → f ≡ facts.Ask x → ⊥
no_ask h is = true_false (sym (ap is_ask is) ∙ h)

-- the value that a Put has and the place of its structure, and the places that an Ask has
abbrev put_value : Fact → SourceValue
put_value (facts.Put x) = x.value
put_value _ = source.Bool true

abbrev put_place : Fact → ℕ
put_place (facts.Put x) = (x.name).place
put_place _ = 0

abbrev ask_place : Fact → ℕ
ask_place (facts.Ask x) = (x.fetch).place
ask_place _ = 0

abbrev asked_place : Fact → ℕ
asked_place (facts.Ask x) = (x.name).place
asked_place _ = 0

pub binder_thing : (m : Node) → is_binder m ≡ true → is_thing m ≡ true
binder_thing (Param x k) h = refl
binder_thing (Binding x a) h = refl
binder_thing (Next x k o v) h = refl
binder_thing (Index x) h = refl
binder_thing _ h = absurd (no h)
  where
    no : false ≡ true → ⊥
    no h = cc

pub expression_thing : (m : Node) → is_expression m ≡ true → is_thing m ≡ true
expression_thing Head h = h
expression_thing (Split t) h = h
expression_thing (Enter x) h = h
expression_thing (Arg e k v) h = h
expression_thing Program h = h
expression_thing Start h = h
expression_thing (LoopHead s) h = h
expression_thing Variable h = h
expression_thing Entries h = h
expression_thing (Switches t) h = h
expression_thing Turn h = h
expression_thing (NextUse x) h = h
expression_thing Body h = h
expression_thing (Address t i) h = h
expression_thing (Reset v) h = h
expression_thing (Bounds a b) h = h
expression_thing (Carried k) h = h
expression_thing (Within f) h = h
expression_thing Count h = h
expression_thing (Index x) h = refl
expression_thing Span h = h
expression_thing _ h = refl

param_thing : {m : Node} → IsParam m → is_thing m ≡ true
param_thing x = ap is_thing x.is

module _ (S : Source) (known : IsKnown S.checked) (inputs : AreInputs S.checked S.inputs) where
  abbrev P : Checked
  P = S.checked

  abbrev OfKind : ℕ → SourceValue → Type 0
  OfKind n v = IsOfKind P v (kind P n)

  -- a row has the kinds of a row of its kind, and a constant's where it is of that
  as_row : (v : SourceValue) (n m : ℕ) → kind P n ≡ kind P m → OfKind m v → OfKind n v
  as_row v n m e h = subst (IsOfKind P v) (sym e) h

  as_constant : (c : Constant) (n : ℕ) → kind P n ≡ Some (constant_kind c) → OfKind n (value_of c)
  as_constant c n e = subst (IsOfKind P (value_of c)) (sym e) (constant_is_of P c)

  -- the values of a place are of the kind of the thing there, as far as this round
  abbrev Kinded : ℕ → Type 0
  Kinded m =
      (n : ℕ) (p : Path) (v : SourceValue) → n < length (rows P) → is_thing (node P n) ≡ true
      → Rounds S m (Has p (place P n) v) → OfKind n v

  -- what stands at one place is one row
  one_row : (n m : ℕ) (x : Node) (v : SourceValue) → Stands P m x → is_thing x ≡ true → n < length (rows P)
      → is_thing (node P n) ≡ true → place P m ≡ place P n → OfKind m v → OfKind n v
  one_row n m x v stands thing within is_a_thing same h =
      subst (λ z. OfKind z v)
      ((known.apart).apart m n stands.within within (ap is_thing stands.node ∙ thing) is_a_thing same) h

  -- an operand is a thing
  pub operand_of : (n a : ℕ) → n < length (rows P) → HasOperand (node P n) a
      → (a < length (rows P)) × (is_thing (node P a) ≡ true)
  operand_of n a within operand =
      let less = (((known.table).formed).each n within).parts a (HasPart-operand (node P n) a operand) in
      (omega (arith, less.1, within), expression_thing (node P a) (known.operands n a within operand))

  input_kind : (b : ℕ) (v : Constant) → IsInput S b v → OfKind b (value_of v)
  input_kind b v x =
      let z = a_param (rows P) (main_head P) (length (rows P)) b (Among-from_at b (main_params P) x.number x.param) in
      as_constant v b (param_suits P known b v z.within (node P b) refl
      (input_suits P (main_params P) S.inputs x.number b v inputs x.param x.value))

  -- a conditional's arm: it is of the conditional's kind
  record ArmOf (n a : ℕ) : Type 0 where
    split : ℕ
    then : ℕ
    otherwise : ℕ
    stands : Stands P n (If split then otherwise)
    within : a < length (rows P)
    thing : is_thing (node P a) ≡ true
    kind_is : kind P n ≡ kind P a

  arm_chosen : {n t a : ℕ} {b : Truth} → Chooses S n t b a → ArmOf n a
  arm_chosen {n} (then_arm {s = s} {a = x} {b = y} h k) =
      let inner = operand_of n x h.within (subst (λ z. HasOperand z x) (sym h.node) (inl refl)) in
      record {
        split = s;
        then = x;
        otherwise = y;
        stands = h;
        within = inner.0;
        thing = inner.1;
        kind_is =
            (known.arm_kinds n s x y h.within h.node).0;
      }
  arm_chosen {n} (else_arm {s = s} {a = x} {b = y} h k) =
      let inner = operand_of n y h.within (subst (λ z. HasOperand z y) (sym h.node) (inr refl)) in
      record {
        split = s;
        then = x;
        otherwise = y;
        stands = h;
        within = inner.0;
        thing = inner.1;
        kind_is =
            (known.arm_kinds n s x y h.within h.node).1;
      }

  -- a fetch stands where an Ask is
  record AskAt (x : Ask) : Type 0 where
    row : ℕ
    target : ℕ
    index : ℕ
    stands : Stands P row (Fetch target index)
    place : place P row ≡ (x.fetch).place
    names : IsArrayAt P (x.name).place (kind P target)

  -- a structure stands where a Put is, and the value is of the kind that its cells hold
  record PutAt (x : Put) : Type 0 where
    of_kind : Kind
    array : IsArrayAt P (x.name).place (Some of_kind)
    value : IsOfKind P x.value (Some (element_kind of_kind))

  -- one array expression stands at a place
  one_array : {e : ℕ} {j k : Option Kind} → IsArrayAt P e j → IsArrayAt P e k → j ≡ k
  one_array {e} {j} {k} x y =
      let thing = λ (z : ℕ) (c : Truth) (a b : ℕ) (h : Stands P z (Array c a b)). ap is_thing h.node in
      let same : x.row ≡ y.row = (known.apart).apart x.row y.row (x.stands).within (y.stands).within
      (thing x.row x.nested x.low x.high x.stands) (thing y.row y.nested y.low y.high y.stands) (sym x.place
      ∙ y.place) in
      x.kind ∙ sym (known.array_kind x.row x.low x.high (x.stands).within (x.stands).node) ∙ ap (kind P) same
      ∙ known.array_kind y.row y.low y.high (y.stands).within (y.stands).node ∙ sym y.kind

  -- what is known of the facts of a round
  record Early (m : ℕ) : Type 0 where
    kinds_of : Kinded m
    puts_of : (x : Put) → Rounds S m (facts.Put x) → PutAt x
    asks_of : (x : Ask) → Rounds S m (facts.Ask x) → AskAt x

  kind_by : {fs : List Fact} {f : Fact} (m : ℕ) → Early m → Rule S fs f → Every (Rounds S m) fs
      → (n : ℕ) (p : Path) (v : SourceValue) → n < length (rows P) → is_thing (node P n) ≡ true
      → f ≡ Has p (place P n) v → OfKind n v
  kind_by m all (param_has {b = b} {c = w} x) h n p v within thing is =
      let z = a_param (rows P) (main_head P) (length (rows P)) b (Among-from_at b (main_params P) x.number x.param) in
      let parts = same_fact is in
      subst (OfKind n) parts.1
      (one_row n b _ (value_of w) (record { within = z.within; node = refl }) (param_thing z.param) within thing parts.0
      (input_kind b w x))
  kind_by m all (literal_has {n = r} {c = c} x) h n p v within thing is =
      let parts = same_fact is in
      subst (OfKind n) parts.1 (one_row n r _ (value_of c) x refl within thing parts.0
      (as_constant c r (known.literal_kind r c x.within x.node)))
  kind_by m all (unary_has {n = r} {a = a} {o = o} {x = y} c x result) h n p v within thing is =
      let parts = same_fact is in
      subst (OfKind n) parts.1 (one_row n r _ (value_of y) x refl within thing parts.0
      (as_constant y r
      (known.unary_kinds r a o x.within x.node ∙ ap (λ z. Some z) (sym (unary_gives o c y result)))))
  kind_by m all (binary_has {n = r} {a = a} {b = b} {o = o} {x = y} c d x result) h n p v within thing is =
      let parts = same_fact is in
      subst (OfKind n) parts.1 (one_row n r _ (value_of y) x refl within thing parts.0
      (as_constant y r
      (known.binary_kinds r a b o x.within x.node ∙ ap (λ z. Some z) (sym (binary_gives o c d y result)))))
  kind_by m all (name_has {n = r} {x = y} {b = b} {v = w} x binds) h n p v within thing is =
      let parts = same_fact is in
      let known_binder = known.bound r y x.within x.node in
      let same : known_binder.0 ≡ b = some_is (sym known_binder.1 ∙ binds) in
      let b_within = subst (λ z. z < length (rows P)) same known_binder.2 in
      let b_thing = binder_thing (node P b) (subst (λ z. is_binder (node P z) ≡ true) same known_binder.3) in
      subst (OfKind n) parts.1 (one_row n r _ w x refl within thing parts.0
      (as_row w r b (known.name_kind r y b x.within x.node binds) (all.kinds_of b _ w b_within b_thing h.1.0)))
  kind_by m all (conditional_has {n = r} {a = a} {v = w} chooses) h n p v within thing is =
      let parts = same_fact is in
      let c = arm_chosen chooses in
      subst (OfKind n) parts.1 (one_row n r _ w c.stands refl within thing parts.0
      (as_row w r a c.kind_is (all.kinds_of a _ w c.within c.thing h.1.1.0)))
  kind_by m all (argument_has {n = r} {e = e} {b = body} {m = l} {i = i} {v = a} {q = q} {u = w} x y bound def param) h
      n p v within thing is =
      let parts = same_fact is in
      let c = enter_at known x.within x.node in
      let inner = operand_of l a y.within (subst (λ z. HasOperand z a) (sym y.node) refl) in
      let goes = known.passed l e i a y.within y.node in
      let head = called_is known c.within c.node bound def in
      let to : param_of P e i ≡ q = some_is (sym goes.0 ∙ ap (λ z. slice_get (params_at (rows P) z) i) head ∙ param) in
      let there = a_param (rows P) _ (length (rows P)) q (Among-from_at q (params_at (rows P) _) i param) in
      subst (OfKind n) parts.1
      (one_row n q _ w (record { within = there.within; node = refl }) (param_thing there.param) within thing parts.0
      (as_row w q a (ap (kind P) (sym to) ∙ sym goes.1) (all.kinds_of a _ w inner.0 inner.1 h.1.0)))
  kind_by m all (call_has {n = r} {e = e} {c = count} {d = f} {x = y} {h = g} {b = body} {k = k} {u = w} x bound def) h
      n p v within thing is =
      let parts = same_fact is in
      let c = enter_at known x.within x.node in
      let head = called_is known c.within c.node bound def in
      let here : IsDefOf (rows P) f g =
      record { name = y; result = k; body = body; within = def.within; node = def.node } in
      let inner = operand_of f body def.within (subst (λ z. HasOperand z body) (sym def.node) refl) in
      let result = known.result_kind f g here in
      subst (OfKind n) parts.1 (one_row n r _ w x refl within thing parts.0
      (as_row w r body (known.call_kind r e count c.name f (record {
        name = y;
        result = k;
        body = body;
        within = def.within;
        node = def.node ∙ ap (λ z. Def y z k body) (sym head);
      }) x.within x.node
      ∙ sym result) (all.kinds_of body _ w inner.0 inner.1 h.1.0)))
  kind_by m all (first_has {m = i} {o = o} {v = a} {c = c} {u = w} x y bound) h n p v within thing is =
      let parts = same_fact is in
      let z = next_row P i y.name y.index o a y.next in
      let same : z.0 ≡ c = some_is (sym (z.3).binder ∙ bound) in
      let c_within = subst (λ k. k < length (rows P)) same (z.3).within in
      let c_thing = subst (λ k. is_thing (node P k) ≡ true) same (binder_thing (node P z.0) (z.3).is_binder) in
      subst (OfKind n) parts.1 (one_row n i _ w y.next refl within thing parts.0
      (as_row w i c (z.4 ∙ ap (kind P) same) (all.kinds_of c _ w c_within c_thing h.1.0)))
  kind_by m all (next_has {m = i} {o = o} {v = a} {u = w} q k x y) h n p v within thing is =
      let parts = same_fact is in
      let inner = operand_of i a (y.next).within (subst (λ z. HasOperand z a) (sym (y.next).node) refl) in
      let z = next_row P i y.name y.index o a y.next in
      subst (OfKind n) parts.1 (one_row n i _ w y.next refl within thing parts.0
      (as_row w i a (sym z.5) (all.kinds_of a _ w inner.0 inner.1 h.0)))
  kind_by m all (loop_has {n = r} {h = g} {w = u} {l = a} {u = w} q k x) h n p v within thing is =
      let parts = same_fact is in
      let inner = operand_of r a x.within (subst (λ z. HasOperand z a) (sym x.node) refl) in
      subst (OfKind n) parts.1 (one_row n r _ w x refl within thing parts.0
      (as_row w r a (loop_row P r g u a x) (all.kinds_of a _ w inner.0 inner.1 h.0)))
  kind_by m all (index_begins {x = i} {lo = lo} x below) h n p v within thing is =
      let parts = same_fact is in
      subst (OfKind n) parts.1
      (one_row n i _ (source.Int lo) x.index refl within thing parts.0
      (kind_fixed P i (Index x.name) kinds.Int x.index refl))
  kind_by m all (index_counts {x = i} {i = number} q k x below) h n p v within thing is =
      let parts = same_fact is in
      subst (OfKind n) parts.1
      (one_row n i _ (source.Int (number +ℤ pos 1)) x.index refl within thing parts.0
      (kind_fixed P i (Index x.name) kinds.Int x.index refl))
  kind_by m all (block_has {n = r} {b = b} {v = w} x) h n p v within thing is =
      let parts = same_fact is in
      let inner = operand_of r b x.within (subst (λ z. HasOperand z b) (sym x.node) refl) in
      subst (OfKind n) parts.1 (one_row n r _ w x refl within thing parts.0
      (as_row w r b (known.block_kind r b x.within x.node) (all.kinds_of b _ w inner.0 inner.1 h.1.0)))
  kind_by m all (binding_has {n = r} {x = y} {a = a} {v = w} x) h n p v within thing is =
      let parts = same_fact is in
      let inner = operand_of r a x.within (subst (λ z. HasOperand z a) (sym x.node) refl) in
      subst (OfKind n) parts.1 (one_row n r _ w x refl within thing parts.0
      (as_row w r a (known.binding_kind r y a x.within x.node) (all.kinds_of a _ w inner.0 inner.1 h.0)))
  kind_by m all (array_has {n = r} {a = a} {b = b} {nested = nested} {p = q} x good) h n p v within thing is =
      let parts = same_fact is in
      subst (OfKind n) parts.1 (one_row n r _ (source.Name (site q (place P r))) x refl within thing parts.0
      (record {
        row = r;
        nested = nested;
        low = a;
        high = b;
        stands = x;
        place = refl;
        kind = known.array_kind r a b x.within x.node;
      }))
  kind_by m all (fetch_has {v = w}) h n p v within thing is =
      let parts = same_fact is in
      let z = all.asks_of _ h.0 in
      let y = all.puts_of _ h.1.0 in
      let holds : kind P z.row ≡ Some (element_kind y.of_kind) =
      known.cell_kind z.row z.target z.index (z.stands).within (of_fetch (z.stands).node)
      ∙ ap (λ k. Some (kind_within k)) (one_array z.names y.array) in
      subst (OfKind n) parts.1 (one_row n z.row _ w z.stands refl within thing (z.place ∙ parts.0)
      (subst (IsOfKind P w) (sym holds) y.value))
  kind_by m all _ h n p v within thing is = absurd (no_has refl is)

  -- what is put is of the kind that the cells of its structure hold
  put_by : {fs : List Fact} {f : Fact} (m : ℕ) → Early m → Rule S fs f → Every (Rounds S m) fs → (x : Put)
      → f ≡ facts.Put x → PutAt x
  put_by m all (puts {t = t} {i = i} {x = e} {s = s} {v = v} y inside) h x is =
      let value_is : v ≡ x.value = ap put_value is in
      let place_is : s.place ≡ (x.name).place = ap put_place is in
      let parts = y.parts in
      let names = of_store parts.node in
      let target = operand_of y.address t parts.within (subst (λ z. HasOperand z t) (sym parts.node) (inl refl)) in
      let inner = operand_of _ e (y.store).within (subst (λ z. HasOperand z e) (sym (y.store).node) refl) in
      let array = all.kinds_of t _ (source.Name s) target.0 target.1 h.1.0 in
      let of_value = all.kinds_of e _ v inner.0 inner.1 h.1.1.1.0 in
      let k = array_kind array.nested in
      let holds : kind P e ≡ Some (element_kind k) =
      known.stored_kind _ y.address e t i (y.store).within (y.store).node parts.within parts.node
      ∙ known.cell_kind y.address t i parts.within names
      ∙ ap (λ k. Some (kind_within k)) array.kind in
      record {
        of_kind = k;
        array = subst (λ z. IsArrayAt P z (Some k)) place_is (subst (IsArrayAt P s.place) array.kind array);
        value = subst (λ z. IsOfKind P z (Some (element_kind k))) value_is (subst (IsOfKind P v) holds of_value);
      }
  put_by m all _ h x is = absurd (no_put refl is)

  -- what asks is a fetch, and its target names the structure
  ask_by : {fs : List Fact} {f : Fact} (m : ℕ) → Early m → Rule S fs f → Every (Rounds S m) fs → (x : Ask)
      → f ≡ facts.Ask x → AskAt x
  ask_by m all (asks {n = r} {t = t} {i = i} {s = s} y inside) h x is =
      let target = operand_of r t y.within (subst (λ z. HasOperand z t) (sym y.node) (inl refl)) in
      let name_is : s.place ≡ (x.name).place = ap asked_place is in
      record {
        row = r;
        target = t;
        index = i;
        stands = y;
        place = ap ask_place is;
        names = subst (λ z. IsArrayAt P z (kind P t)) name_is
            (all.kinds_of t _ (source.Name s) target.0 target.1 h.1.0);
      }
  ask_by m all _ h x is = absurd (no_ask refl is)

  early : (m : ℕ) → Early m
  early zero =
      record { kinds_of = λ n p v within thing h. absurd h; puts_of = λ x h. absurd h; asks_of = λ x h. absurd h }
  early (suc m) = (
      let all = early m in
      record {
        kinds_of = λ n p v within thing h. elim h [
          | inl old ↦ all.kinds_of n p v within thing old
          | inr t ↦ kind_by m all t.1 t.2 n p v within thing refl
        ];
        puts_of = λ x h. elim h [
          | inl old ↦ all.puts_of x old
          | inr t ↦ put_by m all t.1 t.2 x refl
        ];
        asks_of = λ x h. elim h [
          | inl old ↦ all.asks_of x old
          | inr t ↦ ask_by m all t.1 t.2 x refl
        ];
      }
      )

  -- what a thing Has is of its kind
  pub Has_kind : (n : ℕ) (p : Path) (v : SourceValue) → n < length (rows P) → is_thing (node P n) ≡ true
      → Holds S (Has p (place P n) v) → IsOfKind P v (kind P n)
  Has_kind n p v within thing h = (early h.round).kinds_of n p v within thing h.there

  -- so the ports for values of its kind take it
  pub port_taking : (n : ℕ) (p : Path) (v : SourceValue) → n < length (rows P) → is_thing (node P n) ≡ true
      → Holds S (Has p (place P n) v) → Takes P v (port_at P n)
  port_taking n p v within thing h = takes_of_kind P v (kind P n) (Has_kind n p v within thing h)
