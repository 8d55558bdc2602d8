-- What a firing sends fits the graph, where its operands do.
use Rattle.std.proofs.Common.{◌≡◌, ◌≢◌, ◌==◌, ◌||◌, ℕ, ◌+◌, ◌≤◌, ◌<◌, Bool, true, false, cond, Option, Some, None, List}
use Rattle.std.proofs.Common.{[], ◌∷◌, map, refl, sym, ap, subst, ◌∙◌, arith}
use Rattle.std.specs.Prelude.{All, IsSomeAnd, slice_get, option_map, option_and_then, neg_ℤ}
use Rattle.std.proofs.lemmas.List.Elements.{All-nil, All-cons, All-append, All-map, All-weaker}
use Rattle.id_instr.specs.declared.dests.Dest.{Dest}
use Rattle.id_instr.specs.declared.dests.Port.{Port}
use Rattle.id_instr.specs.declared.dests.Port.TheVariants as port
use Rattle.id_instr.specs.declared.instr.Instr.{Instr}
use Rattle.id_value.specs.declared.Constant.{Constant}
use Rattle.id_value.specs.declared.Constant.TheVariants as constant
use Rattle.id_value.specs.declared.UnaryOp.{UnaryOp}
use Rattle.id_value.specs.declared.UnaryOp.TheVariants.{Neg, Not}
use Rattle.id_value.specs.declared.Outcome.{Outcome}
use Rattle.id_value.specs.declared.Outcome.TheVariants.{Gives, Fails, Lacks}
use Rattle.id_value.specs.Results.{calculated, whole}
use Rattle.id_value.proofs.ResultsLemmas.{IsNumberOrFault, calculated-number, whole-number}
use Rattle.id_instr.specs.declared.instr.Dyadic.{Dyadic}
use Rattle.id_instr.specs.declared.instr.Dyadic.TheVariants as class
use Rattle.id_instr.specs.declared.instr.Op.{Op}
use Rattle.id_instr.specs.declared.instr.Op.TheVariants.{Const, Unary, Binary, Merge, Switch, Back, Enter, Send, Next}
use Rattle.id_instr.specs.declared.instr.Op.TheVariants.{Reset, Alloc, Address, Fetch, Store}
use Rattle.id_instr.specs.declared.instr.PortKind.{PortKind}
use Rattle.id_instr.specs.declared.instr.PortKind.TheVariants as kind
use Rattle.id_instr.specs.Held.{address_kind, held_kind, structure_kind}
use Rattle.id_instr.specs.Ports.{outcome_kind, port_kind, sends, two_sides, unary_kind}
use Rattle.id_instr.specs.Graph.{Parts, arcs, arcs_on, kind_at}
use Rattle.id_instr.proofs.GraphLemmas.{All-true_arcs, All-arcs_on}
use Rattle.id_tag.specs.declared.Cell.{Cell}
use Rattle.id_tag.specs.declared.Context.{Context}
use Rattle.id_tag.specs.declared.Tag.{Tag}
use Rattle.id_tag.specs.declared.Value.{Value}
use Rattle.id_tag.specs.declared.Value.TheVariants as value
use Rattle.id_tag.specs.Kinds.{kind_of, same_kind}
use Rattle.id_tag.specs.declared.Payload.{Payload}
use Rattle.id_tag.specs.declared.Payload.TheVariants.{Token}
use Rattle.id_instr.specs.declared.instr.Block.{Block}
use Rattle.std.specs.Bool.{beq}
use Rattle.std.specs.List.{list_any}
use Rattle.std.proofs.lemmas.Bool.Decides.{nat_tests}
use Rattle.id_valid.specs.Roles.{op_at, is_first, is_second}
use Rattle.id_valid.specs.Validator.{IsTaken, IsValid}
use Rattle.id_valid.proofs.ValidatorLemmas.{IsEntered-valid, IsSentTo-valid, IsReply-valid}
use Rattle.id_ops.specs.declared.Operands.{Operands}
use Rattle.id_ops.specs.declared.Operands.TheVariants as operands
use Rattle.id_ops.specs.declared.Fresh.{Fresh}
use Rattle.id_ops.specs.declared.Fired.{Fired}
use Rattle.id_ops.specs.declared.Fired.TheVariants.{Out, Side, Moved, Entered, Sent, Asked, Stored, Failed, Nothing}
use Rattle.id_ops.specs.Operators.{fired, fired_by, fired_const, fired_unary, fired_binary, fired_merge, fired_switch}
use Rattle.id_ops.specs.Operators.{fired_back, fired_enter, tag_within, fired_send, fired_next, fired_reset}
use Rattle.id_ops.specs.Operators.{fired_alloc, address_in, fired_address, fired_fetch, fired_store, may_hold, side_of}
use Rattle.id_ops.specs.Operands.{IsOfKind}
use Rattle.id_ops.proofs.OperandsLemmas.{IsOfKind-fired}
use Rattle.id_value.specs.Bounds.{are_good, is_inside}
use Rattle.id_value.specs.declared.FaultKind.TheVariants.{BadBounds, OutOfBounds}
use Rattle.id_tag.specs.declared.Structure.{Structure}
use Rattle.id_step.specs.Fits.{AddressFits, ContinuationFits, IsCell, PayloadFits, ReadFits, ReplyFits, TokenFits}
use Rattle.id_step.specs.Fits.{WriteFits, held_in}
use Rattle.id_record.specs.Sends.{beside, moved_to, replies, sent, started, token_to}

-- the value is no continuation, and an address in it is that of a cell
abbrev pub IsPlain : Value → Type 0
IsPlain value.Signal = Unit {0}
IsPlain (value.Int n) = Unit {0}
IsPlain (value.Bool b) = Unit {0}
IsPlain (value.Structure s) = Unit {0}
IsPlain (value.Address c) = IsCell c
IsPlain (value.Context c) = Unit {0}
IsPlain (value.Continuation u) = ⊥

-- what fires is of the kind that the operator sends, and no continuation, and goes to a side where there are two, or to
-- an iteration in time; or fits
-- where it goes
abbrev pub FiredFits : Parts → ℕ → Option PortKind → Bool → Fired → Type 0
FiredFits g stamp k two (Out v) = (k ≡ Some (kind_of v)) × IsPlain v
FiredFits g stamp k two (Side b v) = (k ≡ Some (kind_of v)) × IsPlain v × (two ≡ true)
FiredFits g stamp k two (Moved i v) = (k ≡ Some (kind_of v)) × IsPlain v × (i ≤ stamp)
FiredFits g stamp k two (Entered c) = k ≡ Some kind.Context
FiredFits g stamp k two (Sent u v) = TokenFits g stamp u port.Zero v
FiredFits g stamp k two (Asked c r) = ReadFits g stamp c r
FiredFits g stamp k two (Stored c v w) = WriteFits g stamp c v w
FiredFits g stamp k two (Failed f) = Unit {0}
FiredFits g stamp k two Nothing = Unit {0}

-- the operands fit their ports
abbrev pub OperandsFit : Parts → ℕ → Tag → Operands → Type 0
OperandsFit g stamp t (operands.One v) = TokenFits g stamp t port.Zero v
OperandsFit g stamp t (operands.Two v w) = TokenFits g stamp t port.Zero v × TokenFits g stamp t port.One w

const_fits : (g : Parts) (stamp : ℕ) (c : Constant) (o : Operands)
    → FiredFits g stamp (sends (Const c)) false (fired_const c o)
const_fits g stamp (constant.Int n) (operands.One value.Signal) = (refl, tt)
const_fits g stamp (constant.Bool b) (operands.One value.Signal) = (refl, tt)
const_fits g stamp c (operands.One (value.Int n)) = tt
const_fits g stamp c (operands.One (value.Bool b)) = tt
const_fits g stamp c (operands.One (value.Structure s)) = tt
const_fits g stamp c (operands.One (value.Address x)) = tt
const_fits g stamp c (operands.One (value.Context x)) = tt
const_fits g stamp c (operands.One (value.Continuation u)) = tt
const_fits g stamp c (operands.Two v w) = tt

-- a number or a fault fits where numbers are sent
outcome_fits : (g : Parts) (stamp : ℕ) (x : Outcome) → IsNumberOrFault x
    → FiredFits g stamp (Some kind.Int) false (fired_by x)
outcome_fits g stamp (Gives (constant.Int n)) h = (refl, tt)
outcome_fits g stamp (Gives (constant.Bool b)) h = absurd h
outcome_fits g stamp (Fails k) h = tt
outcome_fits g stamp Lacks h = absurd h

unary_fits : (g : Parts) (stamp : ℕ) (a : UnaryOp) (o : Operands)
    → FiredFits g stamp (Some (unary_kind a)) false (fired_unary a o)
unary_fits g stamp Neg (operands.One (value.Int n)) = outcome_fits g stamp (whole (neg_ℤ n)) (whole-number (neg_ℤ n))
unary_fits g stamp Not (operands.One (value.Bool b)) = (refl, tt)
unary_fits g stamp _ _ = tt

binary_fits : (g : Parts) (stamp : ℕ) (a : Dyadic) (o : Operands)
    → FiredFits g stamp (Some (outcome_kind a)) false (fired_binary a o)
binary_fits g stamp (class.Arithmetic o) (operands.Two (value.Int m) (value.Int n)) =
    outcome_fits g stamp (calculated o m n) (calculated-number o m n)
binary_fits g stamp (class.Comparison o) (operands.Two (value.Int m) (value.Int n)) = (refl, tt)
binary_fits g stamp (class.Truth o) (operands.Two (value.Bool b) (value.Bool c)) = (refl, tt)
binary_fits g stamp a _ = tt

-- what comes to an operator other than `back` is no continuation
plain_elsewhere : (g : Parts) (stamp : ℕ) (t : Tag) (op : Op) (v : Value) → op_at g t.instr ≡ Some op
    → ((k : PortKind) → op ≡ Back k → ⊥) → TokenFits g stamp t port.Zero v → IsPlain v
plain_elsewhere g stamp t op value.Signal is other fits = tt
plain_elsewhere g stamp t op (value.Int n) is other fits = tt
plain_elsewhere g stamp t op (value.Bool b) is other fits = tt
plain_elsewhere g stamp t op (value.Structure s) is other fits = tt
plain_elsewhere g stamp t op (value.Address c) is other fits = fits.address
plain_elsewhere g stamp t op (value.Context c) is other fits = tt
plain_elsewhere g stamp t op (value.Continuation u) is other fits =
    let back = fits.continuation.1.1.back in absurd (other fits.continuation.1.0 cc)

-- what comes to port 1 is no continuation
plain_at_one : (g : Parts) (stamp : ℕ) (t : Tag) (v : Value) → TokenFits g stamp t port.One v → IsPlain v
plain_at_one g stamp t value.Signal fits = tt
plain_at_one g stamp t (value.Int n) fits = tt
plain_at_one g stamp t (value.Bool b) fits = tt
plain_at_one g stamp t (value.Structure s) fits = tt
plain_at_one g stamp t (value.Address c) fits = fits.address
plain_at_one g stamp t (value.Context c) fits = tt
plain_at_one g stamp t (value.Continuation u) fits = let zero = fits.continuation.0 in cc

-- a value that is no continuation needs nothing more
plain_fits : (g : Parts) (stamp : ℕ) (t : Tag) (p : Port) (v : Value) → IsPlain v → ContinuationFits g stamp t p v
plain_fits g stamp t p value.Signal h = tt
plain_fits g stamp t p (value.Int n) h = tt
plain_fits g stamp t p (value.Bool b) h = tt
plain_fits g stamp t p (value.Structure s) h = tt
plain_fits g stamp t p (value.Address c) h = tt
plain_fits g stamp t p (value.Context c) h = tt
plain_fits g stamp t p (value.Continuation u) h = absurd h

plain_address : (v : Value) → IsPlain v → AddressFits v
plain_address value.Signal h = tt
plain_address (value.Int n) h = tt
plain_address (value.Bool b) h = tt
plain_address (value.Structure s) h = tt
plain_address (value.Address c) h = h
plain_address (value.Context c) h = tt
plain_address (value.Continuation u) h = tt

-- the kind at a port of an instruction is that of its operator
pub kind_at_op : (g : Parts) (n : ℕ) (p : Port) (op : Op) → op_at g n ≡ Some op
    → kind_at g.instrs (record { instr = n; port = p }) ≡ port_kind op p
kind_at_op g n p op is = at (slice_get g.instrs n) is
  where
    at : (o : Option Instr) → option_map (λ i. i.op) o ≡ Some op
        → option_and_then (λ i. port_kind i.op p) o ≡ port_kind op p
    at None e = cc
    at (Some i) e = let same : i.op ≡ op = cc in ap (λ x. port_kind x p) same

merge_fits : (g : Parts) (stamp : ℕ) (t : Tag) (k : PortKind) (o : Operands) → op_at g t.instr ≡ Some (Merge k)
    → OperandsFit g stamp t o →
    FiredFits g stamp (Some k) false (fired_merge k o)
merge_fits g stamp t k (operands.One v) is fits =
    zero (same_kind (kind_of v) k)
  where
    kinds : Some k ≡ Some (kind_of v)
    kinds = sym (kind_at_op g t.instr port.Zero (Merge k) is) ∙ fits.kind

    zero : (b : Bool) → FiredFits g stamp (Some k) false (cond b (Out v) Nothing)
    zero true = (kinds, plain_elsewhere g stamp t (Merge k) v is (λ j e. cc) fits)
    zero false = tt
merge_fits g stamp t k (operands.Two v w) is fits = tt

-- what moves to an iteration in time fits
moved_fits : (g : Parts) (stamp : ℕ) (t : Tag) (op : Op) (k : PortKind) (i : ℕ) (v : Value) → op_at g t.instr ≡ Some op
    → ((j : PortKind) → op ≡ Back j → ⊥) → port_kind op port.Zero ≡ Some k → i ≤ stamp → TokenFits g stamp t port.Zero v
    →
    FiredFits g stamp (Some k) false (cond (same_kind (kind_of v) k) (Moved i v) Nothing)
moved_fits g stamp t op k i v is other takes in_time fits = zero (same_kind (kind_of v) k)
  where
    kinds : Some k ≡ Some (kind_of v)
    kinds = sym takes ∙ sym (kind_at_op g t.instr port.Zero op is) ∙ fits.kind

    zero : (b : Bool) → FiredFits g stamp (Some k) false (cond b (Moved i v) Nothing)
    zero true = (kinds, plain_elsewhere g stamp t op v is other fits, in_time)
    zero false = tt

next_fits : (g : Parts) (stamp : ℕ) (t : Tag) (k : PortKind) (o : Operands) → op_at g t.instr ≡ Some (Next k)
    → t.iteration < stamp → OperandsFit g stamp t o → FiredFits g stamp (Some k) false (fired_next k t.iteration o)
next_fits g stamp t k (operands.One v) is in_time fits =
    moved_fits g stamp t (Next k) k (t.iteration + 1) v is (λ j e. cc) refl (omega (arith, in_time)) fits
next_fits g stamp t k (operands.Two v w) is in_time fits = tt

reset_fits : (g : Parts) (stamp : ℕ) (t : Tag) (k : PortKind) (o : Operands) → op_at g t.instr ≡ Some (Reset k)
    → OperandsFit g stamp t o → FiredFits g stamp (Some k) false (fired_reset k o)
reset_fits g stamp t k (operands.One v) is fits =
    moved_fits g stamp t (Reset k) k 0 v is (λ j e. cc) refl (omega arith) fits
reset_fits g stamp t k (operands.Two v w) is fits = tt

switch_fits : (g : Parts) (stamp : ℕ) (t : Tag) (k : PortKind) (o : Operands) → op_at g t.instr ≡ Some (Switch k)
    → OperandsFit g stamp t o → FiredFits g stamp (Some k) true (fired_switch k o)
switch_fits g stamp t k (operands.Two (value.Bool b) w) is fits = zero (same_kind (kind_of w) k)
  where
    kinds : Some k ≡ Some (kind_of w)
    kinds = sym (kind_at_op g t.instr port.One (Switch k) is) ∙ fits.1.kind

    zero : (x : Bool) → FiredFits g stamp (Some k) true (cond x (Side b w) Nothing)
    zero true = (kinds, plain_at_one g stamp t w fits.1, refl)
    zero false = tt
switch_fits g stamp t k (operands.Two value.Signal w) is fits = tt
switch_fits g stamp t k (operands.Two (value.Int n) w) is fits = tt
switch_fits g stamp t k (operands.Two (value.Structure s) w) is fits = tt
switch_fits g stamp t k (operands.Two (value.Address c) w) is fits = tt
switch_fits g stamp t k (operands.Two (value.Context c) w) is fits = tt
switch_fits g stamp t k (operands.Two (value.Continuation u) w) is fits = tt
switch_fits g stamp t k (operands.One v) is fits = tt

back_fits : (g : Parts) (stamp : ℕ) (t : Tag) (k : PortKind) (o : Operands) → op_at g t.instr ≡ Some (Back k)
    → OperandsFit g stamp t o →
    FiredFits g stamp None false (fired_back k o)
back_fits g stamp t k (operands.Two (value.Continuation u) w) is fits = zero (same_kind (kind_of w) k)
  where
    sent_fits : TokenFits g stamp u port.Zero w
    sent_fits =
        let here = fits.0.continuation in
        let kinds : Some k ≡ Some (kind_of w) = sym (kind_at_op g t.instr port.One (Back k) is) ∙ fits.1.kind in
        let returns = here.1.1 in
        let at : kind_at g.instrs (record { instr = u.instr; port = port.Zero }) ≡
        Some here.1.0 = kind_at_op g u.instr port.Zero (Merge here.1.0) returns.merge in
        let same : here.1.0 ≡ k = let e = returns.back in cc in
        record {
          kind = at ∙ ap (λ x. Some x) same ∙ kinds;
          in_time = here.2;
          continuation = plain_fits g stamp u port.Zero w (plain_at_one g stamp t w fits.1);
          address = plain_address w (plain_at_one g stamp t w fits.1);
        }

    zero : (b : Bool) → FiredFits g stamp None false (cond b (Sent u w) Nothing)
    zero true = sent_fits
    zero false = tt
back_fits g stamp t k (operands.Two value.Signal w) is fits = tt
back_fits g stamp t k (operands.Two (value.Int n) w) is fits = tt
back_fits g stamp t k (operands.Two (value.Bool b) w) is fits = tt
back_fits g stamp t k (operands.Two (value.Structure s) w) is fits = tt
back_fits g stamp t k (operands.Two (value.Address c) w) is fits = tt
back_fits g stamp t k (operands.Two (value.Context c) w) is fits = tt
back_fits g stamp t k (operands.One v) is fits = tt

enter_fits : (g : Parts) (stamp : ℕ) (next : Context) (o : Operands)
    → FiredFits g stamp (Some kind.Context) false (fired_enter next o)
enter_fits g stamp next (operands.One value.Signal) = refl
enter_fits g stamp next _ = tt

-- a value that is sent into a context fits at the entry
send_fits : (g : Parts) (stamp : ℕ) (t : Tag) (k : PortKind) (n : ℕ) (o : Operands) → IsValid g
    → op_at g t.instr ≡ Some (Send k n) → OperandsFit g stamp t o
    → FiredFits g stamp None false (fired_send k n o)
send_fits g stamp t k n (operands.Two (value.Context c) w) valid is fits = zero (same_kind (kind_of w) k)
  where
    sent_to_entry : TokenFits g stamp (tag_within c n) port.Zero w
    sent_to_entry =
        let entry = IsSentTo-valid g t.instr k n valid is in
        let kinds : Some k ≡ Some (kind_of w) = sym (kind_at_op g t.instr port.One (Send k n) is) ∙ fits.1.kind in
        record {
          kind = kind_at_op g n port.Zero (Merge k) entry.merge ∙ kinds;
          in_time = omega arith;
          continuation = plain_fits g stamp (tag_within c n) port.Zero w (plain_at_one g stamp t w fits.1);
          address = plain_address w (plain_at_one g stamp t w fits.1);
        }

    zero : (b : Bool) → FiredFits g stamp None false (cond b (Sent (tag_within c n) w) Nothing)
    zero true = sent_to_entry
    zero false = tt
send_fits g stamp t k n (operands.Two value.Signal w) valid is fits = tt
send_fits g stamp t k n (operands.Two (value.Int i) w) valid is fits = tt
send_fits g stamp t k n (operands.Two (value.Bool b) w) valid is fits = tt
send_fits g stamp t k n (operands.Two (value.Structure s) w) valid is fits = tt
send_fits g stamp t k n (operands.Two (value.Address c) w) valid is fits = tt
send_fits g stamp t k n (operands.Two (value.Continuation u) w) valid is fits = tt
send_fits g stamp t k n (operands.One v) valid is fits = tt

alloc_fits : (g : Parts) (stamp : ℕ) (nested : Bool) (fresh : Fresh) (o : Operands) →
    FiredFits g stamp (Some (structure_kind nested)) false (fired_alloc nested fresh o)
alloc_fits g stamp nested fresh (operands.Two (value.Int lo) (value.Int hi)) = go (are_good lo hi)
  where
    made : Structure
    made = record { element = fresh.element; serial = fresh.structure; low = lo; high = hi; nested = nested }

    go : (b : Bool)
        → FiredFits g stamp (Some (structure_kind nested)) false
        (cond b (Out (value.Structure made)) (Failed BadBounds))
    go true = (refl, tt)
    go false = tt
alloc_fits g stamp nested fresh _ = tt

-- an address that goes out is that of a cell
address_fits : (g : Parts) (stamp : ℕ) (nested : Bool) (o : Operands)
    → IsOfKind (Address nested) (fired_address nested o) →
    FiredFits g stamp (Some (address_kind nested)) false (fired_address nested o)
address_fits g stamp nested (operands.Two (value.Structure s) (value.Int i)) kinds = same (beq s.nested nested) kinds
  where
    made : Fired
    made = Out (value.Address (record { structure = s; index = i }))

    inside : (b : Bool) → is_inside s.low s.high i ≡ b → IsOfKind (Address nested) (cond b made (Failed OutOfBounds)) →
        FiredFits g stamp (Some (address_kind nested)) false (cond b made (Failed OutOfBounds))
    inside true e kinds = (kinds, e)
    inside false e kinds = tt

    same : (b : Bool) → IsOfKind (Address nested) (cond b (address_in s i) Nothing) →
        FiredFits g stamp (Some (address_kind nested)) false (cond b (address_in s i) Nothing)
    same true kinds = inside (is_inside s.low s.high i) refl kinds
    same false kinds = tt
address_fits g stamp nested _ kinds = tt

-- the reply of a fetch is a merge for what the cell holds
fetch_fits : (g : Parts) (stamp : ℕ) (t : Tag) (nested : Bool) (r : ℕ) (o : Operands) → IsValid g
    → op_at g t.instr ≡ Some (Fetch nested r) → t.iteration ≤ stamp → OperandsFit g stamp t o
    → IsOfKind (Fetch nested r) (fired_fetch nested r t o) → FiredFits g stamp None false (fired_fetch nested r t o)
fetch_fits g stamp t nested r (operands.One (value.Address c)) valid is in_time fits kinds =
    same (beq c.structure.nested nested) kinds
  where
    reply : Tag
    reply = record { context = t.context; iteration = t.iteration; instr = r }

    same : (b : Bool) → IsOfKind (Fetch nested r) (cond b (Asked c reply) Nothing)
        → FiredFits g stamp None false (cond b (Asked c reply) Nothing)
    same true kinds = record {
      cell = fits.address;
      reply = record {
        merge = IsReply-valid g t.instr c.structure.nested r valid (is ∙ ap Some kinds);
        in_time =
            in_time;
      };
    }
    same false kinds = tt
fetch_fits g stamp t nested r _ valid is in_time fits kinds = tt

-- a store writes what the cell holds, from itself
store_fits : (g : Parts) (stamp : ℕ) (t : Tag) (nested : Bool) (o : Operands) → op_at g t.instr ≡ Some (Store nested)
    → t.iteration ≤ stamp → OperandsFit g stamp t o → IsOfKind (Store nested) (fired_store nested t o)
    → FiredFits g stamp None false (fired_store nested t o)
store_fits g stamp t nested (operands.Two (value.Address c) v) is in_time fits kinds = same (may_hold nested c v) kinds
  where
    same : (b : Bool) → IsOfKind (Store nested) (cond b (Stored c v t) Nothing)
        → FiredFits g stamp None false (cond b (Stored c v t) Nothing)
    same true kinds = record { cell = fits.0.address; kind = kinds.1; store = is ∙ ap Some kinds.0; in_time = in_time }
    same false kinds = tt
store_fits g stamp t nested _ is in_time fits kinds = tt

-- what fires fits, where the operands do and the iteration is below the stamp
pub fired_fits : (g : Parts) (stamp : ℕ) (t : Tag) (op : Op) (o : Operands) (fresh : Fresh) → IsValid g
    → op_at g t.instr ≡ Some op → t.iteration < stamp →
    OperandsFit g stamp t o
    → FiredFits g stamp (sends op) (two_sides op) (fired op t o fresh)
fired_fits g stamp t (Const c) o fresh valid is in_time fits = const_fits g stamp c o
fired_fits g stamp t (Unary a) o fresh valid is in_time fits = unary_fits g stamp a o
fired_fits g stamp t (Binary a) o fresh valid is in_time fits = binary_fits g stamp a o
fired_fits g stamp t (Merge k) o fresh valid is in_time fits = merge_fits g stamp t k o is fits
fired_fits g stamp t (Switch k) o fresh valid is in_time fits = switch_fits g stamp t k o is fits
fired_fits g stamp t (Back k) o fresh valid is in_time fits = back_fits g stamp t k o is fits
fired_fits g stamp t (Enter b r) o fresh valid is in_time fits = enter_fits g stamp fresh.context o
fired_fits g stamp t (Send k n) o fresh valid is in_time fits = send_fits g stamp t k n o valid is fits
fired_fits g stamp t (Next k) o fresh valid is in_time fits = next_fits g stamp t k o is in_time fits
fired_fits g stamp t (Reset k) o fresh valid is in_time fits = reset_fits g stamp t k o is fits
fired_fits g stamp t (Alloc nested) o fresh valid is in_time fits = alloc_fits g stamp nested fresh o
fired_fits g stamp t (Address nested) o fresh valid is in_time fits =
    address_fits g stamp nested o (IsOfKind-fired (Address nested) t o fresh)
fired_fits g stamp t (Fetch nested r) o fresh valid is in_time fits =
    fetch_fits g stamp t nested r o valid is (omega (arith, in_time)) fits (IsOfKind-fired (Fetch nested r) t o fresh)
fired_fits g stamp t (Store nested) o fresh valid is in_time fits =
    store_fits g stamp t nested o is (omega (arith, in_time)) fits (IsOfKind-fired (Store nested) t o fresh)

-- ---- what starts a block

same_behind : (m n : ℕ) → (m + 1 == n + 1) ≡ (m == n)
same_behind m n = grind (arith, nat_tests)

-- behind the first instruction of a block is its second
second_behind : (g : Parts) (n : ℕ) → is_first g n ≡ true → is_second g (n + 1) ≡ true
second_behind g n = go g.blocks
  where
    go : (bs : List Block) → list_any (λ b. b.first == n) bs ≡ true → list_any (λ b. b.first + 1 == n + 1) bs ≡ true
    go [] e = cc
    go (b ∷ bs) e =
        let rest = go bs in
        let same : (b.first + 1 == n + 1) ≡ (b.first == n) = same_behind b.first n in
        rw same (elim (b.first == n) as (λ c. (c || list_any (λ x. x.first == n) bs) ≡ true
        → (c || list_any (λ x. x.first + 1 == n + 1) bs) ≡ true) [
          | true ↦ λ h. refl
          | false ↦ λ h. rest h
        ] e)

-- the signal and the continuation that start a block fit there
enter_starts : (g : Parts) (stamp : ℕ) (t : Tag) (c : Context) (b r : ℕ) → IsValid g
    → op_at g t.instr ≡ Some (Enter b r) → t.iteration ≤ stamp
    → All (PayloadFits g stamp) (started (Some (Enter b r)) t c)
enter_starts g stamp t c b r valid is in_time =
    let entered = IsEntered-valid g t.instr b r valid is in
    let trigger = (valid.sound b).roles.first entered.first in
    let signal : PayloadFits g stamp (Token (tag_within c b) port.Zero value.Signal) = record {
      kind = kind_at_op g b port.Zero (Merge kind.Signal) trigger;
      in_time = omega arith;
      continuation = tt;
      address = tt;
    } in
    let back : PayloadFits g stamp (Token (tag_within c (b + 1)) port.Zero (value.Continuation (beside t r))) = record {
      kind = kind_at_op g (b + 1) port.Zero (Back entered.kind) entered.back;
      in_time = omega arith;
      continuation = (
        refl,
        (
          entered.kind,
          record { second = second_behind g b entered.first; back = entered.back; merge = entered.reply },
        ),
        in_time,
      );
      address = tt;
    } in
    let second : Payload = Token (tag_within c (b + 1)) port.Zero (value.Continuation (beside t r)) in
    All-cons (PayloadFits g stamp) _ (second ∷ []) signal
    (All-cons (PayloadFits g stamp) second [] back (All-nil (PayloadFits g stamp)))

starts_fit : (g : Parts) (stamp : ℕ) (t : Tag) (c : Context) (op : Op) → IsValid g → op_at g t.instr ≡ Some op
    → t.iteration ≤ stamp → All (PayloadFits g stamp) (started (Some op) t c)
starts_fit g stamp t c (Enter b r) valid is in_time = enter_starts g stamp t c b r valid is in_time
starts_fit g stamp t c (Const v) valid is in_time = All-nil (PayloadFits g stamp)
starts_fit g stamp t c (Unary f) valid is in_time = All-nil (PayloadFits g stamp)
starts_fit g stamp t c (Binary f) valid is in_time = All-nil (PayloadFits g stamp)
starts_fit g stamp t c (Merge k) valid is in_time = All-nil (PayloadFits g stamp)
starts_fit g stamp t c (Switch k) valid is in_time = All-nil (PayloadFits g stamp)
starts_fit g stamp t c (Back k) valid is in_time = All-nil (PayloadFits g stamp)
starts_fit g stamp t c (Send k n) valid is in_time = All-nil (PayloadFits g stamp)
starts_fit g stamp t c (Next k) valid is in_time = All-nil (PayloadFits g stamp)
starts_fit g stamp t c (Reset k) valid is in_time = All-nil (PayloadFits g stamp)
starts_fit g stamp t c (Alloc nested) valid is in_time = All-nil (PayloadFits g stamp)
starts_fit g stamp t c (Address nested) valid is in_time = All-nil (PayloadFits g stamp)
starts_fit g stamp t c (Fetch nested r) valid is in_time = All-nil (PayloadFits g stamp)
starts_fit g stamp t c (Store nested) valid is in_time = All-nil (PayloadFits g stamp)

-- a token of the kind that the instruction sends fits at each of its destinations
token_fits : (g : Parts) (stamp : ℕ) (t : Tag) (i : Instr) (v : Value) → t.iteration ≤ stamp
    → sends i.op ≡ Some (kind_of v) → IsPlain v → (d : Dest) →
    IsTaken g.instrs i.op d → PayloadFits g stamp (token_to t v d)
token_fits g stamp t i v in_time kinds plain d taken = record {
  kind = let P : Option PortKind → Type 0 = λ k. IsSomeAnd k (λ k. kind_at g.instrs d ≡ Some k) in subst P kinds taken;
  in_time = in_time;
  continuation =
      plain_fits g stamp (record { context = t.context; iteration = t.iteration; instr = d.instr }) d.port v plain;
  address = plain_address v plain;
}

-- tokens of that kind fit at destinations that take it
tokens_fit : (g : Parts) (stamp : ℕ) (t : Tag) (i : Instr) (v : Value) (b : Bool) → t.iteration ≤ stamp
    → sends i.op ≡ Some (kind_of v) → IsPlain v → All (IsTaken g.instrs i.op) (arcs_on b i)
    → All (PayloadFits g stamp) (map (token_to t v) (arcs_on b i))
tokens_fit g stamp t i v b in_time kinds plain taken =
    All-map (PayloadFits g stamp) (token_to t v) (arcs_on b i)
    (All-weaker (IsTaken g.instrs i.op) (λ d. PayloadFits g stamp (token_to t v d))
    (token_fits g stamp t i v in_time kinds plain) (arcs_on b i) taken)

-- what is sent fits
pub sent_fits : (g : Parts) (stamp : ℕ) (t : Tag) (i : Instr) (f : Fired) → IsValid g
    → slice_get g.instrs t.instr ≡ Some i → t.iteration ≤ stamp
    → FiredFits g stamp (sends i.op) (two_sides i.op) f
    → All (PayloadFits g stamp) (sent (Some i.op) (arcs_on (side_of f) i) t f)
sent_fits g stamp t i f valid is in_time = at f
  where
    taken : All (IsTaken g.instrs i.op) (arcs i)
    taken = (valid.sound t.instr).taken i is

    at : (f : Fired) → FiredFits g stamp (sends i.op) (two_sides i.op) f
        → All (PayloadFits g stamp) (sent (Some i.op) (arcs_on (side_of f) i) t f)
    at (Out v) fits =
        tokens_fit g stamp t i v true in_time fits.0 fits.1 (All-true_arcs (IsTaken g.instrs i.op) i taken)
    at (Side b v) fits =
        tokens_fit g stamp t i v b in_time fits.0 fits.1 (All-arcs_on (IsTaken g.instrs i.op) i b fits.2 taken)
    at (Moved j v) fits =
        tokens_fit g stamp (moved_to t j) i v true fits.2 fits.0 fits.1 (All-true_arcs (IsTaken g.instrs i.op) i taken)
    at (Entered c) fits =
        All-append (PayloadFits g stamp) (map (token_to t (value.Context c)) (arcs_on true i)) (started (Some i.op) t c)
        (tokens_fit g stamp t i (value.Context c) true in_time fits tt (All-true_arcs (IsTaken g.instrs i.op) i taken))
        (starts_fit g stamp t c i.op valid (ap (option_map (λ j. j.op)) is) in_time)
    at (Sent u v) fits = All-cons (PayloadFits g stamp) _ [] fits (All-nil (PayloadFits g stamp))
    at (Asked c r) fits = All-cons (PayloadFits g stamp) _ [] fits (All-nil (PayloadFits g stamp))
    at (Stored c v w) fits = All-cons (PayloadFits g stamp) _ [] fits (All-nil (PayloadFits g stamp))
    at (Failed k) fits = All-nil (PayloadFits g stamp)
    at Nothing fits = All-nil (PayloadFits g stamp)

-- ---- replies

addresses_apart : (a b : Bool) → address_kind a ≢ held_kind b
addresses_apart false false e = cc
addresses_apart false true e = cc
addresses_apart true false e = cc
addresses_apart true true e = cc

-- what a cell holds is no continuation and no address
held_plain : (b : Bool) (v : Value) → kind_of v ≡ held_kind b → IsPlain v
held_plain b value.Signal is = tt
held_plain b (value.Int n) is = tt
held_plain b (value.Bool x) is = tt
held_plain b (value.Structure s) is = tt
held_plain b (value.Address c) is = absurd (addresses_apart c.structure.nested b is)
held_plain b (value.Context c) is = tt
held_plain false (value.Continuation u) is = cc
held_plain true (value.Continuation u) is = cc

-- what a cell holds fits at a reply that fits the cell
pub reply_fits : (g : Parts) (stamp : ℕ) (c : Cell) (v : Value) (t : Tag) → kind_of v ≡ held_in c
    → ReplyFits g stamp c t →
    PayloadFits g stamp (Token t port.Zero v)
reply_fits g stamp c v t is fits =
    let plain = held_plain c.structure.nested v is in
    record {
      kind = kind_at_op g t.instr port.Zero (Merge (held_in c)) fits.merge ∙ ap Some (sym is);
      in_time = fits.in_time;
      continuation = plain_fits g stamp t port.Zero v plain;
      address = plain_address v plain;
    }

-- and at all of them
pub replies_fit : (g : Parts) (stamp : ℕ) (c : Cell) (v : Value) (ts : List Tag) → kind_of v ≡ held_in c
    → All (ReplyFits g stamp c) ts →
    All (PayloadFits g stamp) (replies v ts)
replies_fit g stamp c v ts is fit =
    All-map (PayloadFits g stamp) (λ t. Token t port.Zero v) ts
    (All-weaker (ReplyFits g stamp c) (λ t. PayloadFits g stamp (Token t port.Zero v))
    (λ t. reply_fits g stamp c v t is) ts fit)
