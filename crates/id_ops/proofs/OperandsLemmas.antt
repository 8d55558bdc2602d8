-- Lemmas on specs/Operands.antt, in the order of its definitions.
use Rattle.std.proofs.Common.{ℕ, ◌+◌, ℤ, ◌≡◌, ◌≢◌, Bool, true, false, cond, Some, refl, sym, ◌∙◌, ap, subst}
use Rattle.std.specs.Prelude.{neg_ℤ, ◌&&◌}
use Rattle.std.specs.Bool.{beq}
use Rattle.id_value.specs.declared.Constant.{Constant}
use Rattle.id_value.specs.declared.Constant.TheVariants as constant
use Rattle.id_value.specs.declared.Outcome.{Outcome}
use Rattle.id_value.specs.declared.Outcome.TheVariants.{Gives, Fails, Lacks}
use Rattle.id_value.specs.declared.UnaryOp.{UnaryOp}
use Rattle.id_value.specs.declared.UnaryOp.TheVariants.{Neg, Not}
use Rattle.id_value.specs.declared.FaultKind.TheVariants.{BadBounds, OutOfBounds}
use Rattle.id_value.specs.Bounds.{are_good, is_inside}
use Rattle.id_value.specs.Results.{calculated, whole}
use Rattle.id_value.proofs.ResultsLemmas.{IsNumberOrFault, calculated-number, whole-number}
use Rattle.id_instr.specs.declared.instr.PortKind.{PortKind}
use Rattle.id_instr.specs.declared.instr.PortKind.TheVariants as kind
use Rattle.id_instr.specs.declared.instr.Dyadic.{Dyadic}
use Rattle.id_instr.specs.declared.instr.Dyadic.TheVariants as class
use Rattle.id_instr.specs.declared.instr.Op.{Op}
use Rattle.id_instr.specs.declared.instr.Op.TheVariants.{Const, Unary, Binary, Merge, Switch, Back, Enter, Send, Next, Reset, Alloc, Address, Fetch, Store}
use Rattle.id_instr.specs.Held.{address_kind, held_kind, structure_kind}
use Rattle.id_instr.specs.Ports.{sends}
use Rattle.id_tag.specs.Kinds.{kind_of, same_kind}
use Rattle.id_tag.specs.declared.Cell.{Cell}
use Rattle.id_tag.specs.declared.Context.{Context}
use Rattle.id_tag.specs.declared.Structure.{Structure}
use Rattle.id_tag.specs.declared.Tag.{Tag}
use Rattle.id_tag.specs.declared.Value.{Value}
use Rattle.id_tag.specs.declared.Value.TheVariants.{Signal, Int, Bool as Truth, Structure as Made, Address as At, Context as Opened, Continuation}
use Rattle.id_ops.specs.declared.Fresh.{Fresh}
use Rattle.id_ops.specs.declared.Operands.{Operands}
use Rattle.id_ops.specs.declared.Operands.TheVariants.{One, Two}
use Rattle.id_ops.specs.declared.Fired.{Fired}
use Rattle.id_ops.specs.declared.Fired.TheVariants.{Out, Side, Moved, Sent, Asked, Stored, Failed, Nothing}
use Rattle.id_ops.specs.Operators.{fired_by, fired_const, fired_unary, fired_binary, fired_merge, fired_switch}
use Rattle.id_ops.specs.Operators.{fired_back, fired_enter, tag_within, fired_send, fired_next, fired_reset}
use Rattle.id_ops.specs.Operators.{structure_in, fired_alloc, address_in, fired_address, fired_fetch, fired_store}
use Rattle.id_ops.specs.Operators.{fired, may_hold}
use Rattle.id_ops.specs.Operands.{IsOfKind, Suits}

-- ---- the test of a kind

one_from_same_kind : (a b : PortKind) → same_kind a b ≡ true → a ≡ b
one_from_same_kind kind.Signal kind.Signal e = refl
one_from_same_kind kind.Int kind.Int e = refl
one_from_same_kind kind.Bool kind.Bool e = refl
one_from_same_kind kind.Structure kind.Structure e = refl
one_from_same_kind kind.Structures kind.Structures e = refl
one_from_same_kind kind.Address kind.Address e = refl
one_from_same_kind kind.Addresses kind.Addresses e = refl
one_from_same_kind kind.Context kind.Context e = refl
one_from_same_kind kind.Continuation kind.Continuation e = refl
one_from_same_kind _ _ e = cc

same_kind-itself : (k : PortKind) → same_kind k k ≡ true
same_kind-itself kind.Signal = refl
same_kind-itself kind.Int = refl
same_kind-itself kind.Bool = refl
same_kind-itself kind.Structure = refl
same_kind-itself kind.Structures = refl
same_kind-itself kind.Address = refl
same_kind-itself kind.Addresses = refl
same_kind-itself kind.Context = refl
same_kind-itself kind.Continuation = refl

-- what is done where a value passes the test of its kind
abbrev Tested : Value → PortKind → Fired → Fired
Tested v k f = cond (same_kind (kind_of v) k) f Nothing

-- a value of the kind passes, and one that passes is of it
passes : (v : Value) (k : PortKind) (f : Fired) → Some k ≡ Some (kind_of v) → f ≢ Nothing → Tested v k f ≢ Nothing
passes v k f e does =
    let is : kind_of v ≡ k = cc in
    let passed : same_kind (kind_of v) k ≡ true = subst (λ j. same_kind (kind_of v) j ≡ true) is (same_kind-itself (kind_of v)) in
    subst (λ b. cond b f Nothing ≢ Nothing) (sym passed) does

passed_kind : (v : Value) (k : PortKind) → same_kind (kind_of v) k ≡ true → Some k ≡ Some (kind_of v)
passed_kind v k e = ap Some (sym (one_from_same_kind (kind_of v) k e))

passed : (v : Value) (k : PortKind) (f : Fired) → Tested v k f ≢ Nothing → Some k ≡ Some (kind_of v)
passed v k f = at (same_kind (kind_of v) k) refl
  where
    at : (b : Bool) → same_kind (kind_of v) k ≡ b → cond b f Nothing ≢ Nothing → Some k ≡ Some (kind_of v)
    at true e h = passed_kind v k e
    at false e h = absurd (h refl)

of_kind : (op : Op) (v : Value) (k : PortKind) (f : Fired) → (Some k ≡ Some (kind_of v) → IsOfKind op f) → IsOfKind op (Tested v k f)
of_kind op v k f h = at (same_kind (kind_of v) k) refl
  where
    at : (b : Bool) → same_kind (kind_of v) k ≡ b → IsOfKind op (cond b f Nothing)
    at true e = h (passed_kind v k e)
    at false e = tt

-- ---- the kinds of structures and of addresses

-- whether a kind is one of structures or of addresses
abbrev is_of_arrays : PortKind → Bool
is_of_arrays kind.Signal = false
is_of_arrays kind.Int = false
is_of_arrays kind.Bool = false
is_of_arrays kind.Structure = true
is_of_arrays kind.Structures = true
is_of_arrays kind.Address = true
is_of_arrays kind.Addresses = true
is_of_arrays kind.Context = false
is_of_arrays kind.Continuation = false

made_kind : (k : PortKind) (b : Bool) → Some k ≡ Some (structure_kind b) → is_of_arrays k ≡ true
made_kind k false e = let is : k ≡ kind.Structure = cc in ap is_of_arrays is
made_kind k true e = let is : k ≡ kind.Structures = cc in ap is_of_arrays is

at_kind : (k : PortKind) (b : Bool) → Some k ≡ Some (address_kind b) → is_of_arrays k ≡ true
at_kind k false e = let is : k ≡ kind.Address = cc in ap is_of_arrays is
at_kind k true e = let is : k ≡ kind.Addresses = cc in ap is_of_arrays is

structures_apart : (a b : Bool) → Some (structure_kind a) ≢ Some (address_kind b)
structures_apart false false e = cc
structures_apart false true e = cc
structures_apart true false e = cc
structures_apart true true e = cc

-- the kind of a structure, or of an address, tells whether it is nested
same_by_structure : (a b : Bool) → Some (structure_kind a) ≡ Some (structure_kind b) → beq b a ≡ true
same_by_structure false false e = refl
same_by_structure false true e = cc
same_by_structure true false e = cc
same_by_structure true true e = refl

same_by_address : (a b : Bool) → Some (address_kind a) ≡ Some (address_kind b) → beq b a ≡ true
same_by_address false false e = refl
same_by_address false true e = cc
same_by_address true false e = cc
same_by_address true true e = refl

one_from_beq : (a b : Bool) → beq a b ≡ true → b ≡ a
one_from_beq false false e = refl
one_from_beq false true e = cc
one_from_beq true false e = cc
one_from_beq true true e = refl

-- which values have a kind
abbrev is_number : Value → Bool
is_number (Int n) = true
is_number _ = false

abbrev is_truth : Value → Bool
is_truth (Truth b) = true
is_truth _ = false

abbrev is_made : Value → Bool
is_made (Made s) = true
is_made _ = false

abbrev is_at : Value → Bool
is_at (At c) = true
is_at _ = false

number_by_kind : (v : Value) → Some kind.Int ≡ Some (kind_of v) → is_number v ≡ true
number_by_kind Signal e = cc
number_by_kind (Int n) e = refl
number_by_kind (Truth b) e = cc
number_by_kind (Made s) e = let k = made_kind kind.Int s.nested e in cc
number_by_kind (At c) e = let k = at_kind kind.Int c.structure.nested e in cc
number_by_kind (Opened u) e = cc
number_by_kind (Continuation u) e = cc

truth_by_kind : (v : Value) → Some kind.Bool ≡ Some (kind_of v) → is_truth v ≡ true
truth_by_kind Signal e = cc
truth_by_kind (Int n) e = cc
truth_by_kind (Truth b) e = refl
truth_by_kind (Made s) e = let k = made_kind kind.Bool s.nested e in cc
truth_by_kind (At c) e = let k = at_kind kind.Bool c.structure.nested e in cc
truth_by_kind (Opened u) e = cc
truth_by_kind (Continuation u) e = cc

made_by_kind : (b : Bool) (v : Value) → Some (structure_kind b) ≡ Some (kind_of v) → is_made v ≡ true
made_by_kind b Signal e = let k = made_kind kind.Signal b (sym e) in cc
made_by_kind b (Int n) e = let k = made_kind kind.Int b (sym e) in cc
made_by_kind b (Truth t) e = let k = made_kind kind.Bool b (sym e) in cc
made_by_kind b (Made s) e = refl
made_by_kind b (At c) e = absurd (structures_apart b c.structure.nested e)
made_by_kind b (Opened u) e = let k = made_kind kind.Context b (sym e) in cc
made_by_kind b (Continuation u) e = let k = made_kind kind.Continuation b (sym e) in cc

at_by_kind : (b : Bool) (v : Value) → Some (address_kind b) ≡ Some (kind_of v) → is_at v ≡ true
at_by_kind b Signal e = let k = at_kind kind.Signal b (sym e) in cc
at_by_kind b (Int n) e = let k = at_kind kind.Int b (sym e) in cc
at_by_kind b (Truth t) e = let k = at_kind kind.Bool b (sym e) in cc
at_by_kind b (Made s) e = absurd (structures_apart s.nested b (sym e))
at_by_kind b (At c) e = refl
at_by_kind b (Opened u) e = let k = at_kind kind.Context b (sym e) in cc
at_by_kind b (Continuation u) e = let k = at_kind kind.Continuation b (sym e) in cc

-- what is done where a test holds
does : (b : Bool) (f : Fired) → b ≡ true → f ≢ Nothing → cond b f Nothing ≢ Nothing
does b f e h = subst (λ x. cond x f Nothing ≢ Nothing) (sym e) h

holds : (b : Bool) (f : Fired) → cond b f Nothing ≢ Nothing → b ≡ true
holds true f h = refl
holds false f h = absurd (h refl)

kind_where : (op : Op) (b : Bool) (f : Fired) → (b ≡ true → IsOfKind op f) → IsOfKind op (cond b f Nothing)
kind_where op true f h = h refl
kind_where op false f h = tt

both : (a b : Bool) → a ≡ true → b ≡ true → (a && b) ≡ true
both true b d e = e
both false b d e = cc

left : (a b : Bool) → (a && b) ≡ true → a ≡ true
left true b e = refl
left false b e = cc

right : (a b : Bool) → (a && b) ≡ true → b ≡ true
right true b e = e
right false b e = cc

-- ---- operands that suit an operator fire it

fires_number : (x : Outcome) → IsNumberOrFault x → fired_by x ≢ Nothing
fires_number (Gives (constant.Int n)) h e = cc
fires_number (Gives (constant.Bool b)) h e = absurd h
fires_number (Fails k) h e = cc
fires_number Lacks h e = absurd h

fires_const : (c : Constant) (o : Operands) → Suits (Const c) o → fired_const c o ≢ Nothing
fires_const c (One Signal) h e = cc
fires_const c (One (Int n)) h e = let k = h.0 in cc
fires_const c (One (Truth b)) h e = let k = h.0 in cc
fires_const c (One (Made a)) h e = let k = made_kind kind.Signal a.nested h.0 in cc
fires_const c (One (At a)) h e = let k = at_kind kind.Signal a.structure.nested h.0 in cc
fires_const c (One (Opened u)) h e = let k = h.0 in cc
fires_const c (One (Continuation u)) h e = let k = h.0 in cc
fires_const c (Two v w) h e = let k = h.1 in cc

fires_unary : (a : UnaryOp) (o : Operands) → Suits (Unary a) o → fired_unary a o ≢ Nothing
fires_unary Neg (One (Int n)) h e = fires_number (whole (neg_ℤ n)) (whole-number (neg_ℤ n)) e
fires_unary Not (One (Truth b)) h e = cc
fires_unary Neg (One Signal) h e = let k = h.0 in cc
fires_unary Neg (One (Truth b)) h e = let k = h.0 in cc
fires_unary Neg (One (Made a)) h e = let k = made_kind kind.Int a.nested h.0 in cc
fires_unary Neg (One (At a)) h e = let k = at_kind kind.Int a.structure.nested h.0 in cc
fires_unary Neg (One (Opened u)) h e = let k = h.0 in cc
fires_unary Neg (One (Continuation u)) h e = let k = h.0 in cc
fires_unary Not (One Signal) h e = let k = h.0 in cc
fires_unary Not (One (Int n)) h e = let k = h.0 in cc
fires_unary Not (One (Made a)) h e = let k = made_kind kind.Bool a.nested h.0 in cc
fires_unary Not (One (At a)) h e = let k = at_kind kind.Bool a.structure.nested h.0 in cc
fires_unary Not (One (Opened u)) h e = let k = h.0 in cc
fires_unary Not (One (Continuation u)) h e = let k = h.0 in cc
fires_unary a (Two v w) h e = let k = h.1 in cc

-- operands of the kind of an operator on two values are numbers or truth values
fires_binary : (f : Dyadic) (o : Operands) → Suits (Binary f) o → fired_binary f o ≢ Nothing
fires_binary (class.Arithmetic o) (Two (Int a) (Int b)) h e = fires_number (calculated o a b) (calculated-number o a b) e
fires_binary (class.Comparison o) (Two (Int a) (Int b)) h e = cc
fires_binary (class.Truth o) (Two (Truth a) (Truth b)) h e = cc
fires_binary f (One v) h e = let k = h.1 in cc
fires_binary (class.Arithmetic o) (Two v w) h e = let k = number_by_kind v h.0 in let l = number_by_kind w h.1 in cc
fires_binary (class.Comparison o) (Two v w) h e = let k = number_by_kind v h.0 in let l = number_by_kind w h.1 in cc
fires_binary (class.Truth o) (Two v w) h e = let k = truth_by_kind v h.0 in let l = truth_by_kind w h.1 in cc

fires_merge : (k : PortKind) (o : Operands) → Suits (Merge k) o → fired_merge k o ≢ Nothing
fires_merge k (One v) h e = passes v k (Out v) h.0 (λ x. cc) e
fires_merge k (Two v w) h e = let z = h.1 in cc

fires_switch : (k : PortKind) (o : Operands) → Suits (Switch k) o → fired_switch k o ≢ Nothing
fires_switch k (Two (Truth b) v) h e = passes v k (Side b v) h.1 (λ x. cc) e
fires_switch k (Two Signal v) h e = let z = h.0 in cc
fires_switch k (Two (Int n) v) h e = let z = h.0 in cc
fires_switch k (Two (Made a) v) h e = let k = made_kind kind.Bool a.nested h.0 in cc
fires_switch k (Two (At a) v) h e = let k = at_kind kind.Bool a.structure.nested h.0 in cc
fires_switch k (Two (Opened u) v) h e = let z = h.0 in cc
fires_switch k (Two (Continuation u) v) h e = let z = h.0 in cc
fires_switch k (One v) h e = let z = h.1 in cc

fires_back : (k : PortKind) (o : Operands) → Suits (Back k) o → fired_back k o ≢ Nothing
fires_back k (Two (Continuation u) v) h e = passes v k (Sent u v) h.1 (λ x. cc) e
fires_back k (Two Signal v) h e = let z = h.0 in cc
fires_back k (Two (Int n) v) h e = let z = h.0 in cc
fires_back k (Two (Truth b) v) h e = let z = h.0 in cc
fires_back k (Two (Made a) v) h e = let k = made_kind kind.Continuation a.nested h.0 in cc
fires_back k (Two (At a) v) h e = let k = at_kind kind.Continuation a.structure.nested h.0 in cc
fires_back k (Two (Opened u) v) h e = let z = h.0 in cc
fires_back k (One v) h e = let z = h.1 in cc

fires_enter : (b r : ℕ) (next : Context) (o : Operands) → Suits (Enter b r) o → fired_enter next o ≢ Nothing
fires_enter b r next (One Signal) h e = cc
fires_enter b r next (One (Int n)) h e = let z = h.0 in cc
fires_enter b r next (One (Truth t)) h e = let z = h.0 in cc
fires_enter b r next (One (Made a)) h e = let k = made_kind kind.Signal a.nested h.0 in cc
fires_enter b r next (One (At a)) h e = let k = at_kind kind.Signal a.structure.nested h.0 in cc
fires_enter b r next (One (Opened u)) h e = let z = h.0 in cc
fires_enter b r next (One (Continuation u)) h e = let z = h.0 in cc
fires_enter b r next (Two v w) h e = let z = h.1 in cc

fires_send : (k : PortKind) (n : ℕ) (o : Operands) → Suits (Send k n) o → fired_send k n o ≢ Nothing
fires_send k n (Two (Opened c) v) h e = passes v k (Sent (tag_within c n) v) h.1 (λ x. cc) e
fires_send k n (Two Signal v) h e = let z = h.0 in cc
fires_send k n (Two (Int i) v) h e = let z = h.0 in cc
fires_send k n (Two (Truth b) v) h e = let z = h.0 in cc
fires_send k n (Two (Made a) v) h e = let k = made_kind kind.Context a.nested h.0 in cc
fires_send k n (Two (At a) v) h e = let k = at_kind kind.Context a.structure.nested h.0 in cc
fires_send k n (Two (Continuation u) v) h e = let z = h.0 in cc
fires_send k n (One v) h e = let z = h.1 in cc

fires_next : (k : PortKind) (i : ℕ) (o : Operands) → Suits (Next k) o → fired_next k i o ≢ Nothing
fires_next k i (One v) h e = passes v k (Moved (i + 1) v) h.0 (λ x. cc) e
fires_next k i (Two v w) h e = let z = h.1 in cc

fires_reset : (k : PortKind) (o : Operands) → Suits (Reset k) o → fired_reset k o ≢ Nothing
fires_reset k (One v) h e = passes v k (Moved 0 v) h.0 (λ x. cc) e
fires_reset k (Two v w) h e = let z = h.1 in cc

fires_structure : (nested : Bool) (fresh : Fresh) (lo hi : ℤ) → structure_in nested fresh lo hi ≢ Nothing
fires_structure nested fresh lo hi = at (are_good lo hi)
  where
    at : (b : Bool)
        → cond b (Out (Made (record { element = fresh.element; serial = fresh.structure; low = lo; high = hi; nested = nested }))) (Failed BadBounds) ≢ Nothing
    at true e = cc
    at false e = cc

fires_alloc : (nested : Bool) (fresh : Fresh) (o : Operands) → Suits (Alloc nested) o → fired_alloc nested fresh o ≢ Nothing
fires_alloc nested fresh (Two (Int lo) (Int hi)) h e = fires_structure nested fresh lo hi e
fires_alloc nested fresh (One v) h e = let z = h.1 in cc
fires_alloc nested fresh (Two v w) h e = let y = number_by_kind v h.0 in let z = number_by_kind w h.1 in cc

fires_index : (s : Structure) (i : ℤ) → address_in s i ≢ Nothing
fires_index s i = at (is_inside s.low s.high i)
  where
    at : (b : Bool) → cond b (Out (At (record { structure = s; index = i }))) (Failed OutOfBounds) ≢ Nothing
    at true e = cc
    at false e = cc

fires_address : (nested : Bool) (o : Operands) → Suits (Address nested) o → fired_address nested o ≢ Nothing
fires_address nested (Two (Made s) (Int i)) h e = does (beq s.nested nested) (address_in s i) (same_by_structure nested s.nested h.0) (fires_index s i) e
fires_address nested (One v) h e = let z = h.1 in cc
fires_address nested (Two v w) h e = let y = made_by_kind nested v h.0 in let z = number_by_kind w h.1 in cc

fires_fetch : (nested : Bool) (r : ℕ) (t : Tag) (o : Operands) → Suits (Fetch nested r) o → fired_fetch nested r t o ≢ Nothing
fires_fetch nested r t (One (At c)) h e =
    does (beq c.structure.nested nested) (Asked c (record { context = t.context; iteration = t.iteration; instr = r })) (same_by_address nested c.structure.nested h.0) (λ x. cc) e
fires_fetch nested r t (One v) h e = let z = at_by_kind nested v h.0 in cc
fires_fetch nested r t (Two v w) h e = let z = h.1 in cc

-- a value of the kind of what a cell holds passes the test
held : (nested : Bool) (v : Value) → Some (held_kind nested) ≡ Some (kind_of v) → same_kind (kind_of v) (held_kind nested) ≡ true
held nested v e =
    let is : kind_of v ≡ held_kind nested = cc in subst (λ j. same_kind (kind_of v) j ≡ true) is (same_kind-itself (kind_of v))

fires_store : (nested : Bool) (t : Tag) (o : Operands) → Suits (Store nested) o → fired_store nested t o ≢ Nothing
fires_store nested t (Two (At c) v) h e =
    does (may_hold nested c v) (Stored c v t)
    (both (beq c.structure.nested nested) _ (same_by_address nested c.structure.nested h.0) (held nested v h.1)) (λ x. cc) e
fires_store nested t (One v) h e = let z = h.1 in cc
fires_store nested t (Two v w) h e = let y = at_by_kind nested v h.0 in cc

pub fires-from_Suits : (op : Op) (t : Tag) (o : Operands) (fresh : Fresh) → Suits op o → fired op t o fresh ≢ Nothing
fires-from_Suits (Const c) t o fresh = fires_const c o
fires-from_Suits (Unary a) t o fresh = fires_unary a o
fires-from_Suits (Binary f) t o fresh = fires_binary f o
fires-from_Suits (Merge k) t o fresh = fires_merge k o
fires-from_Suits (Switch k) t o fresh = fires_switch k o
fires-from_Suits (Back k) t o fresh = fires_back k o
fires-from_Suits (Enter b r) t o fresh = fires_enter b r fresh.context o
fires-from_Suits (Send k n) t o fresh = fires_send k n o
fires-from_Suits (Next k) t o fresh = fires_next k t.iteration o
fires-from_Suits (Reset k) t o fresh = fires_reset k o
fires-from_Suits (Alloc nested) t o fresh = fires_alloc nested fresh o
fires-from_Suits (Address nested) t o fresh = fires_address nested o
fires-from_Suits (Fetch nested r) t o fresh = fires_fetch nested r t o
fires-from_Suits (Store nested) t o fresh = fires_store nested t o

-- ---- operands with which an operator does something suit it

suits_const : (c : Constant) (o : Operands) → fired_const c o ≢ Nothing → Suits (Const c) o
suits_const c (One Signal) h = (refl, refl)
suits_const c _ h = absurd (h refl)

suits_unary : (a : UnaryOp) (o : Operands) → fired_unary a o ≢ Nothing → Suits (Unary a) o
suits_unary Neg (One (Int n)) h = (refl, refl)
suits_unary Not (One (Truth b)) h = (refl, refl)
suits_unary a _ h = absurd (h refl)

suits_binary : (f : Dyadic) (o : Operands) → fired_binary f o ≢ Nothing → Suits (Binary f) o
suits_binary (class.Arithmetic o) (Two (Int a) (Int b)) h = (refl, refl)
suits_binary (class.Comparison o) (Two (Int a) (Int b)) h = (refl, refl)
suits_binary (class.Truth o) (Two (Truth a) (Truth b)) h = (refl, refl)
suits_binary f _ h = absurd (h refl)

suits_merge : (k : PortKind) (o : Operands) → fired_merge k o ≢ Nothing → Suits (Merge k) o
suits_merge k (One v) h = (passed v k (Out v) h, refl)
suits_merge k (Two v w) h = absurd (h refl)

suits_switch : (k : PortKind) (o : Operands) → fired_switch k o ≢ Nothing → Suits (Switch k) o
suits_switch k (Two (Truth b) v) h = (refl, passed v k (Side b v) h)
suits_switch k _ h = absurd (h refl)

suits_back : (k : PortKind) (o : Operands) → fired_back k o ≢ Nothing → Suits (Back k) o
suits_back k (Two (Continuation u) v) h = (refl, passed v k (Sent u v) h)
suits_back k _ h = absurd (h refl)

suits_enter : (b r : ℕ) (next : Context) (o : Operands) → fired_enter next o ≢ Nothing → Suits (Enter b r) o
suits_enter b r next (One Signal) h = (refl, refl)
suits_enter b r next _ h = absurd (h refl)

suits_send : (k : PortKind) (n : ℕ) (o : Operands) → fired_send k n o ≢ Nothing → Suits (Send k n) o
suits_send k n (Two (Opened c) v) h = (refl, passed v k (Sent (tag_within c n) v) h)
suits_send k n _ h = absurd (h refl)

suits_next : (k : PortKind) (i : ℕ) (o : Operands) → fired_next k i o ≢ Nothing → Suits (Next k) o
suits_next k i (One v) h = (passed v k (Moved (i + 1) v) h, refl)
suits_next k i (Two v w) h = absurd (h refl)

suits_reset : (k : PortKind) (o : Operands) → fired_reset k o ≢ Nothing → Suits (Reset k) o
suits_reset k (One v) h = (passed v k (Moved 0 v) h, refl)
suits_reset k (Two v w) h = absurd (h refl)

suits_alloc : (nested : Bool) (fresh : Fresh) (o : Operands) → fired_alloc nested fresh o ≢ Nothing → Suits (Alloc nested) o
suits_alloc nested fresh (Two (Int lo) (Int hi)) h = (refl, refl)
suits_alloc nested fresh _ h = absurd (h refl)

suits_address : (nested : Bool) (o : Operands) → fired_address nested o ≢ Nothing → Suits (Address nested) o
suits_address nested (Two (Made s) (Int i)) h =
    (ap (λ b. Some (structure_kind b)) (one_from_beq s.nested nested (holds (beq s.nested nested) (address_in s i) h)), refl)
suits_address nested _ h = absurd (h refl)

suits_fetch : (nested : Bool) (r : ℕ) (t : Tag) (o : Operands) → fired_fetch nested r t o ≢ Nothing → Suits (Fetch nested r) o
suits_fetch nested r t (One (At c)) h =
    let b = c.structure.nested in
    (ap (λ x. Some (address_kind x)) (one_from_beq b nested (holds (beq b nested) (Asked c (record { context = t.context; iteration = t.iteration; instr = r })) h)), refl)
suits_fetch nested r t _ h = absurd (h refl)

suits_store : (nested : Bool) (t : Tag) (o : Operands) → fired_store nested t o ≢ Nothing → Suits (Store nested) o
suits_store nested t (Two (At c) v) h =
    let b = c.structure.nested in
    let k = same_kind (kind_of v) (held_kind nested) in
    let e = holds (may_hold nested c v) (Stored c v t) h in
    (ap (λ x. Some (address_kind x)) (one_from_beq b nested (left (beq b nested) k e)), passed_kind v (held_kind nested) (right (beq b nested) k e))
suits_store nested t _ h = absurd (h refl)

pub Suits-from_fires : (op : Op) (t : Tag) (o : Operands) (fresh : Fresh) → fired op t o fresh ≢ Nothing → Suits op o
Suits-from_fires (Const c) t o fresh = suits_const c o
Suits-from_fires (Unary a) t o fresh = suits_unary a o
Suits-from_fires (Binary f) t o fresh = suits_binary f o
Suits-from_fires (Merge k) t o fresh = suits_merge k o
Suits-from_fires (Switch k) t o fresh = suits_switch k o
Suits-from_fires (Back k) t o fresh = suits_back k o
Suits-from_fires (Enter b r) t o fresh = suits_enter b r fresh.context o
Suits-from_fires (Send k n) t o fresh = suits_send k n o
Suits-from_fires (Next k) t o fresh = suits_next k t.iteration o
Suits-from_fires (Reset k) t o fresh = suits_reset k o
Suits-from_fires (Alloc nested) t o fresh = suits_alloc nested fresh o
Suits-from_fires (Address nested) t o fresh = suits_address nested o
Suits-from_fires (Fetch nested r) t o fresh = suits_fetch nested r t o
Suits-from_fires (Store nested) t o fresh = suits_store nested t o

-- ---- what an operator sends is of the kind that is said

kind_number : (op : Op) (x : Outcome) → sends op ≡ Some kind.Int → IsNumberOrFault x → IsOfKind op (fired_by x)
kind_number op (Gives (constant.Int n)) is h = is
kind_number op (Gives (constant.Bool b)) is h = absurd h
kind_number op (Fails k) is h = tt
kind_number op Lacks is h = tt

kind_const : (c : Constant) (o : Operands) → IsOfKind (Const c) (fired_const c o)
kind_const (constant.Int n) (One Signal) = refl
kind_const (constant.Bool b) (One Signal) = refl
kind_const c _ = tt

kind_unary : (a : UnaryOp) (o : Operands) → IsOfKind (Unary a) (fired_unary a o)
kind_unary Neg (One (Int n)) = kind_number (Unary Neg) (whole (neg_ℤ n)) refl (whole-number (neg_ℤ n))
kind_unary Not (One (Truth b)) = refl
kind_unary a _ = tt

kind_binary : (f : Dyadic) (o : Operands) → IsOfKind (Binary f) (fired_binary f o)
kind_binary (class.Arithmetic o) (Two (Int a) (Int b)) = kind_number (Binary (class.Arithmetic o)) (calculated o a b) refl (calculated-number o a b)
kind_binary (class.Comparison o) (Two (Int a) (Int b)) = refl
kind_binary (class.Truth o) (Two (Truth a) (Truth b)) = refl
kind_binary f _ = tt

kind_merge : (k : PortKind) (o : Operands) → IsOfKind (Merge k) (fired_merge k o)
kind_merge k (One v) = of_kind (Merge k) v k (Out v) (λ e. e)
kind_merge k (Two v w) = tt

kind_switch : (k : PortKind) (o : Operands) → IsOfKind (Switch k) (fired_switch k o)
kind_switch k (Two (Truth b) v) = of_kind (Switch k) v k (Side b v) (λ e. (e, refl))
kind_switch k _ = tt

kind_back : (k : PortKind) (o : Operands) → IsOfKind (Back k) (fired_back k o)
kind_back k (Two (Continuation u) v) = of_kind (Back k) v k (Sent u v) (λ e. e)
kind_back k _ = tt

kind_enter : (b r : ℕ) (next : Context) (o : Operands) → IsOfKind (Enter b r) (fired_enter next o)
kind_enter b r next (One Signal) = refl
kind_enter b r next _ = tt

kind_send : (k : PortKind) (n : ℕ) (o : Operands) → IsOfKind (Send k n) (fired_send k n o)
kind_send k n (Two (Opened c) v) = of_kind (Send k n) v k (Sent (tag_within c n) v) (λ e. e)
kind_send k n _ = tt

kind_next : (k : PortKind) (i : ℕ) (o : Operands) → IsOfKind (Next k) (fired_next k i o)
kind_next k i (One v) = of_kind (Next k) v k (Moved (i + 1) v) (λ e. e)
kind_next k i (Two v w) = tt

kind_reset : (k : PortKind) (o : Operands) → IsOfKind (Reset k) (fired_reset k o)
kind_reset k (One v) = of_kind (Reset k) v k (Moved 0 v) (λ e. e)
kind_reset k (Two v w) = tt

kind_structure : (nested : Bool) (fresh : Fresh) (lo hi : ℤ) → IsOfKind (Alloc nested) (structure_in nested fresh lo hi)
kind_structure nested fresh lo hi = at (are_good lo hi)
  where
    at : (b : Bool)
        → IsOfKind (Alloc nested) (cond b (Out (Made (record { element = fresh.element; serial = fresh.structure; low = lo; high = hi; nested = nested }))) (Failed BadBounds))
    at true = refl
    at false = tt

kind_alloc : (nested : Bool) (fresh : Fresh) (o : Operands) → IsOfKind (Alloc nested) (fired_alloc nested fresh o)
kind_alloc nested fresh (Two (Int lo) (Int hi)) = kind_structure nested fresh lo hi
kind_alloc nested fresh _ = tt

kind_index : (nested : Bool) (s : Structure) (i : ℤ) → nested ≡ s.nested → IsOfKind (Address nested) (address_in s i)
kind_index nested s i e = at (is_inside s.low s.high i)
  where
    at : (b : Bool) → IsOfKind (Address nested) (cond b (Out (At (record { structure = s; index = i }))) (Failed OutOfBounds))
    at true = ap (λ x. Some (address_kind x)) e
    at false = tt

kind_address : (nested : Bool) (o : Operands) → IsOfKind (Address nested) (fired_address nested o)
kind_address nested (Two (Made s) (Int i)) =
    kind_where (Address nested) (beq s.nested nested) (address_in s i) (λ e. kind_index nested s i (one_from_beq s.nested nested e))
kind_address nested _ = tt

kind_fetch : (nested : Bool) (r : ℕ) (t : Tag) (o : Operands) → IsOfKind (Fetch nested r) (fired_fetch nested r t o)
kind_fetch nested r t (One (At c)) =
    kind_where (Fetch nested r) (beq c.structure.nested nested) (Asked c (record { context = t.context; iteration = t.iteration; instr = r }))
    (λ e. ap (λ x. Fetch x r) (one_from_beq c.structure.nested nested e))
kind_fetch nested r t _ = tt

-- what is stored is of the kind that the cell holds
kind_stored : (nested : Bool) (t : Tag) (c : Cell) (v : Value) → may_hold nested c v ≡ true → IsOfKind (Store nested) (Stored c v t)
kind_stored nested t c v e =
    let b = c.structure.nested in
    let k = same_kind (kind_of v) (held_kind nested) in
    let is = one_from_beq b nested (left (beq b nested) k e) in
    (ap (λ x. Store x) is, one_from_same_kind (kind_of v) (held_kind nested) (right (beq b nested) k e) ∙ ap held_kind is)

kind_store : (nested : Bool) (t : Tag) (o : Operands) → IsOfKind (Store nested) (fired_store nested t o)
kind_store nested t (Two (At c) v) = kind_where (Store nested) (may_hold nested c v) (Stored c v t) (kind_stored nested t c v)
kind_store nested t _ = tt

pub IsOfKind-fired : (op : Op) (t : Tag) (o : Operands) (fresh : Fresh) → IsOfKind op (fired op t o fresh)
IsOfKind-fired (Const c) t o fresh = kind_const c o
IsOfKind-fired (Unary a) t o fresh = kind_unary a o
IsOfKind-fired (Binary f) t o fresh = kind_binary f o
IsOfKind-fired (Merge k) t o fresh = kind_merge k o
IsOfKind-fired (Switch k) t o fresh = kind_switch k o
IsOfKind-fired (Back k) t o fresh = kind_back k o
IsOfKind-fired (Enter b r) t o fresh = kind_enter b r fresh.context o
IsOfKind-fired (Send k n) t o fresh = kind_send k n o
IsOfKind-fired (Next k) t o fresh = kind_next k t.iteration o
IsOfKind-fired (Reset k) t o fresh = kind_reset k o
IsOfKind-fired (Alloc nested) t o fresh = kind_alloc nested fresh o
IsOfKind-fired (Address nested) t o fresh = kind_address nested o
IsOfKind-fired (Fetch nested r) t o fresh = kind_fetch nested r t o
IsOfKind-fired (Store nested) t o fresh = kind_store nested t o
