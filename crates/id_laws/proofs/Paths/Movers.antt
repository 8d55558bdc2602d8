-- What goes to another iteration: a `next` and a `reset`, and these alone.
use Rattle.std.proofs.Common.{◌≡◌, ℕ, ◌+◌, Bool as Truth, true, false, cond, if◌then◌else◌, refl, sym, ◌∙◌, ap, subst}
use Rattle.std.specs.Bool.{beq}
use Rattle.id_value.specs.Bounds.{are_good, is_inside}
use Rattle.id_value.specs.declared.FaultKind.{FaultKind}
use Rattle.id_value.specs.declared.Outcome.{Outcome}
use Rattle.id_value.specs.declared.Outcome.TheVariants.{Gives, Fails, Lacks}
use Rattle.id_value.specs.declared.Constant.TheVariants as constants
use Rattle.id_value.specs.Results.{result_of_unary, calculated}
use Rattle.id_instr.specs.declared.instr.Dyadic.TheVariants as class
use Rattle.id_instr.specs.declared.instr.Op.{Op}
use Rattle.id_instr.specs.declared.instr.Op.TheVariants as op
use Rattle.id_instr.specs.declared.instr.PortKind.{PortKind}
use Rattle.id_tag.specs.Kinds.{kind_of, same_kind}
use Rattle.id_tag.specs.declared.Context.{Context}
use Rattle.id_tag.specs.declared.Tag.{Tag}
use Rattle.id_tag.specs.declared.Value.{Value}
use Rattle.id_tag.specs.declared.Value.TheVariants as value
use Rattle.id_tag.specs.declared.Value.TheVariants.{Signal, Int, Bool, Context as Opened, Continuation}
use Rattle.id_ops.specs.declared.Operands.{Operands}
use Rattle.id_ops.specs.declared.Operands.TheVariants.{One as Alone, Two}
use Rattle.id_ops.specs.declared.Fresh.{Fresh}
use Rattle.id_ops.specs.declared.Fired.{Fired}
use Rattle.id_ops.specs.declared.Fired.TheVariants.{Out, Side, Sent, Moved, Asked, Stored, Failed, Nothing}
use Rattle.id_ops.specs.Operators.{address_in, fired, fired_by, fired_enter, fired_next, fired_reset, may_hold}
use Rattle.id_check.specs.declared.checked.Checked.{Checked}
use Rattle.id_build.specs.declared.arc.Form.{Form}
use Rattle.id_build.specs.Rows.{node, op_by}
use Rattle.id_laws.proofs.Rows.Arcs.{Does, starts, returns, enters, constant, unary, binary, turns_on, hands, joins}
use Rattle.id_laws.proofs.Rows.Arcs.{opens, passes, gets, names, answers}
use Rattle.id_laws.proofs.Rows.Arcs.{sends_in, gives_back, varies, takes_in, moves_on, moves_name, advances, resets}
use Rattle.id_laws.proofs.Rows.Arcs.{gets_last}
use Rattle.id_laws.proofs.Rows.Arcs.{allocates, addresses, fetches, gets_reply, stores}
use Rattle.id_laws.proofs.Rows.Arcs.{bounds_meet, begins_index, carries, meets_bound, goes_further, hands_index}
use Rattle.id_laws.proofs.Rows.Arcs.{has_one, adds_one}
use Rattle.id_laws.specs.Topics.{of_fetch, of_store}
use Rattle.id_laws.specs.Activations.{of_arms, of_turns, of_call, of_loop}
use Rattle.id_runs.specs.Events.{GivesOn}
use Rattle.id_laws.proofs.Rows.Sources.{is_mover}
use Rattle.id_table.specs.declared.row.Node.{Node}
use Rattle.id_table.specs.declared.row.Node.TheVariants.{Head, LoopHead, Turn, Next, Reset}
use Rattle.id_table.specs.Tables.{begins_block}

tested : (b : Truth) (f : Fired) (k : ℕ) (v : Value) → (f ≡ Moved k v → ⊥) → cond b f Nothing ≡ Moved k v → ⊥
tested true f k v never e = never e
tested false f k v never e = cc

result_moves : (y : Outcome) (k : ℕ) (v : Value) → fired_by y ≡ Moved k v → ⊥
result_moves (Gives c) k v h = cc
result_moves (Fails j) k v h = cc
result_moves Lacks k v h = cc

enter_moves : (c : Context) (ops : Operands) (k : ℕ) (v : Value) → fired_enter c ops ≡ Moved k v → ⊥
enter_moves c (Alone Signal) k v h = cc
enter_moves c _ k v h = cc

-- whether an operator sends to another iteration
abbrev pub moves : Op → Truth
moves (op.Next k) = true
moves (op.Reset k) = true
moves _ = false

-- what makes a structure or an address moves nothing
tested_or : (b : Truth) (u : Value) (j : FaultKind) (k : ℕ) (w : Value) → (if b then Out u else Failed j) ≡ Moved k w
    → ⊥
tested_or true u j k w h = cc
tested_or false u j k w h = cc

pub moving : (o : Op) (t : Tag) (ops : Operands) (f : Fresh) (k : ℕ) (w : Value) → fired o t ops f ≡ Moved k w
    → moves o ≡ true
moving (op.Const c) t (Alone Signal) f k w h = cc
moving (op.Const c) t _ f k w h = cc
moving (op.Unary o) t (Alone (Int n)) f k w h = absurd (result_moves (result_of_unary o (constants.Int n)) k w h)
moving (op.Unary o) t (Alone (Bool b)) f k w h = absurd (result_moves (result_of_unary o (constants.Bool b)) k w h)
moving (op.Unary o) t _ f k w h = cc
moving (op.Binary (class.Arithmetic o)) t (Two (Int a) (Int b)) f k w h = absurd (result_moves (calculated o a b) k w h)
moving (op.Binary (class.Comparison o)) t (Two (Int a) (Int b)) f k w h = cc
moving (op.Binary (class.Truth o)) t (Two (Bool a) (Bool b)) f k w h = cc
moving (op.Binary o) t _ f k w h = cc
moving (op.Merge j) t (Alone v) f k w h = absurd (tested (same_kind (kind_of v) j) (Out v) k w (λ e. cc) h)
moving (op.Merge j) t (Two v x) f k w h = cc
moving (op.Switch j) t (Two (Bool b) v) f k w h = absurd (tested (same_kind (kind_of v) j) (Side b v) k w (λ e. cc) h)
moving (op.Switch j) t _ f k w h = cc
moving (op.Back j) t (Two (Continuation y) v) f k w h =
    absurd (tested (same_kind (kind_of v) j) (Sent y v) k w (λ e. cc) h)
moving (op.Back j) t _ f k w h = cc
moving (op.Enter b r) t ops f k w h = absurd (enter_moves f.context ops k w h)
moving (op.Send j n) t (Two (Opened c) v) f k w h = absurd (tested (same_kind (kind_of v) j) (Sent _ v) k w (λ e. cc) h)
moving (op.Send j n) t _ f k w h = cc
moving (op.Next j) t ops f k w h = refl
moving (op.Reset j) t ops f k w h = refl
moving (op.Alloc nested) t (Two (Int a) (Int b)) f k w h = absurd (tested_or (are_good a b) _ _ k w h)
moving (op.Alloc nested) t _ f k w h = cc
moving (op.Address nested) t (Two (value.Structure s) (Int i)) f k w h =
    absurd (tested (beq s.nested nested) (address_in s i) k w (tested_or (is_inside s.low s.high i) _ _ k w) h)
moving (op.Address nested) t _ f k w h = cc
moving (op.Fetch nested r) t (Alone (value.Address c)) f k w h =
    absurd (tested (beq c.structure.nested nested) (Asked c _) k w (λ e. cc) h)
moving (op.Fetch nested r) t _ f k w h = cc
moving (op.Store nested) t (Two (value.Address c) v) f k w h =
    absurd (tested (may_hold nested c v) (Stored c v t) k w (λ e. cc) h)
moving (op.Store nested) t _ f k w h = cc

-- whether an operator does is decided by the row
pub mover_is : (P : Checked) (number : ℕ → ℕ → ℕ) {n part : ℕ} {o : Form} → Does P n part o
    → moves (op_by number o) ≡ is_mover (node P n)
mover_is P number d = sym (by d)
  where
    by_head : (m : Node) → begins_block m ≡ true → is_mover m ≡ false
    by_head Head e = refl
    by_head (LoopHead s) e = refl
    by_head _ e = cc

    by : {n part : ℕ} {o : Form} → Does P n part o → is_mover (node P n) ≡ moves (op_by number o)
    by {n} (starts is) = by_head (node P n) is
    by (returns is) = ap is_mover is
    by (enters is) = ap is_mover is
    by (constant is) = ap is_mover is
    by (unary is) = ap is_mover is
    by (binary is) = ap is_mover is
    by (turns_on (of_arms is)) = ap is_mover is
    by (turns_on (of_turns is)) = ap is_mover is
    by (hands j (of_arms is) less) = ap is_mover is
    by (hands j (of_turns is) less) = ap is_mover is
    by (joins is) = ap is_mover is
    by (opens (of_call is)) = ap is_mover is
    by (opens (of_loop is)) = ap is_mover is
    by (passes is) = ap is_mover is
    by (gets is) = ap is_mover is
    by (names is) = ap is_mover is
    by (sends_in j q is at) = ap is_mover is
    by (gives_back is) = ap is_mover is
    by (varies is) = ap is_mover is
    by (takes_in j is less) = ap is_mover is
    by (moves_on is) = ap is_mover is
    by (moves_name j is less) = ap is_mover is
    by (advances is) = ap is_mover is
    by (resets is) = ap is_mover is
    by (gets_last is) = ap is_mover is
    by (allocates is) = ap is_mover is
    by (addresses (of_fetch is)) = ap is_mover is
    by (addresses (of_store is)) = ap is_mover is
    by (fetches is) = ap is_mover is
    by (gets_reply is) = ap is_mover is
    by (stores is) = ap is_mover is
    by (bounds_meet is) = ap is_mover is
    by (begins_index is) = ap is_mover is
    by (carries is) = ap is_mover is
    by (meets_bound is) = ap is_mover is
    by (goes_further is) = ap is_mover is
    by (hands_index is) = ap is_mover is
    by (has_one is) = ap is_mover is
    by (adds_one is) = ap is_mover is
    by (answers is) = ap is_mover is

pub moved_by : (P : Checked) (number : ℕ → ℕ → ℕ) {n part : ℕ} {o : Form} → Does P n part o
    → (t : Tag) (ops : Operands) (f : Fresh) {k : ℕ} {v : Value}
    → fired (op_by number o) t ops f ≡ Moved k v → is_mover (node P n) ≡ true
moved_by P number {o = o} d t ops f {k} {v} e = sym (mover_is P number d) ∙ moving (op_by number o) t ops f k v e

-- to which iteration a row of this node sends under one
abbrev pub Steps : Node → ℕ → ℕ → Type 0
Steps Turn i k = k ≡ i + 1
Steps (Next x j o v) i k = k ≡ i + 1
Steps (Reset v) i k = k ≡ 0
Steps _ i k = ⊥

moved_is : {j k : ℕ} {v w : Value} → Moved j v ≡ Moved k w → k ≡ j
moved_is {j} {k} h = let e : j ≡ k = cc in sym e

tested_step : (b : Truth) (j k : ℕ) (v w : Value) → cond b (Moved j v) Nothing ≡ Moved k w → k ≡ j
tested_step true j k v w e = moved_is e
tested_step false j k v w e = absurd (no e)
  where
    no : Nothing ≡ Moved k w → ⊥
    no e = cc

next_step : (j : PortKind) (i : ℕ) (ops : Operands) (k : ℕ) (w : Value) → fired_next j i ops ≡ Moved k w → k ≡ i + 1
next_step j i (Alone v) k w e = tested_step (same_kind (kind_of v) j) (i + 1) k v w e
next_step j i (Two v x) k w e = cc

reset_step : (j : PortKind) (ops : Operands) (k : ℕ) (w : Value) → fired_reset j ops ≡ Moved k w → k ≡ 0
reset_step j (Alone v) k w e = tested_step (same_kind (kind_of v) j) 0 k v w e
reset_step j (Two v x) k w e = cc

false_true : false ≡ true → ⊥
false_true h = cc

pub steps_by : (P : Checked) (number : ℕ → ℕ → ℕ) {n part : ℕ} {o : Form} → Does P n part o
    → (t : Tag) (ops : Operands) (f : Fresh) (k : ℕ) (v : Value)
    → fired (op_by number o) t ops f ≡ Moved k v → Steps (node P n) t.iteration k
steps_by P number {o = o} (starts is) t ops f k v e = absurd (false_true (moving (op_by number o) t ops f k v e))
steps_by P number {o = o} (returns is) t ops f k v e = absurd (false_true (moving (op_by number o) t ops f k v e))
steps_by P number {o = o} (enters is) t ops f k v e = absurd (false_true (moving (op_by number o) t ops f k v e))
steps_by P number {o = o} (constant is) t ops f k v e = absurd (false_true (moving (op_by number o) t ops f k v e))
steps_by P number {o = o} (unary is) t ops f k v e = absurd (false_true (moving (op_by number o) t ops f k v e))
steps_by P number {o = o} (binary is) t ops f k v e = absurd (false_true (moving (op_by number o) t ops f k v e))
steps_by P number {o = o} (turns_on is) t ops f k v e = absurd (false_true (moving (op_by number o) t ops f k v e))
steps_by P number {o = o} (hands j is less) t ops f k v e = absurd (false_true (moving (op_by number o) t ops f k v e))
steps_by P number {o = o} (joins is) t ops f k v e = absurd (false_true (moving (op_by number o) t ops f k v e))
steps_by P number {o = o} (opens is) t ops f k v e = absurd (false_true (moving (op_by number o) t ops f k v e))
steps_by P number {o = o} (passes is) t ops f k v e = absurd (false_true (moving (op_by number o) t ops f k v e))
steps_by P number {o = o} (gets is) t ops f k v e = absurd (false_true (moving (op_by number o) t ops f k v e))
steps_by P number {o = o} (names is) t ops f k v e = absurd (false_true (moving (op_by number o) t ops f k v e))
steps_by P number {o = o} (sends_in j q is at) t ops f k v e =
    absurd (false_true (moving (op_by number o) t ops f k v e))
steps_by P number {o = o} (gives_back is) t ops f k v e = absurd (false_true (moving (op_by number o) t ops f k v e))
steps_by P number {o = o} (varies is) t ops f k v e = absurd (false_true (moving (op_by number o) t ops f k v e))
steps_by P number {o = o} (takes_in j is less) t ops f k v e =
    absurd (false_true (moving (op_by number o) t ops f k v e))
steps_by P number (moves_on is) t ops f k v e =
    subst (λ m. Steps m t.iteration k) (sym is) (next_step _ t.iteration ops k v e)
steps_by P number (moves_name j is less) t ops f k v e =
    subst (λ m. Steps m t.iteration k) (sym is) (next_step _ t.iteration ops k v e)
steps_by P number (advances is) t ops f k v e =
    subst (λ m. Steps m t.iteration k) (sym is) (next_step _ t.iteration ops k v e)
steps_by P number (resets is) t ops f k v e = subst (λ m. Steps m t.iteration k) (sym is) (reset_step _ ops k v e)
steps_by P number {o = o} (gets_last is) t ops f k v e = absurd (false_true (moving (op_by number o) t ops f k v e))
steps_by P number {o = o} (allocates is) t ops f k v e = absurd (false_true (moving (op_by number o) t ops f k v e))
steps_by P number {o = o} (addresses is) t ops f k v e = absurd (false_true (moving (op_by number o) t ops f k v e))
steps_by P number {o = o} (fetches is) t ops f k v e = absurd (false_true (moving (op_by number o) t ops f k v e))
steps_by P number {o = o} (gets_reply is) t ops f k v e = absurd (false_true (moving (op_by number o) t ops f k v e))
steps_by P number {o = o} (stores is) t ops f k v e = absurd (false_true (moving (op_by number o) t ops f k v e))
steps_by P number {o = o} (bounds_meet is) t ops f k v e = absurd (false_true (moving (op_by number o) t ops f k v e))
steps_by P number {o = o} (begins_index is) t ops f k v e = absurd (false_true (moving (op_by number o) t ops f k v e))
steps_by P number {o = o} (carries is) t ops f k v e = absurd (false_true (moving (op_by number o) t ops f k v e))
steps_by P number {o = o} (meets_bound is) t ops f k v e = absurd (false_true (moving (op_by number o) t ops f k v e))
steps_by P number {o = o} (goes_further is) t ops f k v e = absurd (false_true (moving (op_by number o) t ops f k v e))
steps_by P number {o = o} (hands_index is) t ops f k v e = absurd (false_true (moving (op_by number o) t ops f k v e))
steps_by P number {o = o} (has_one is) t ops f k v e = absurd (false_true (moving (op_by number o) t ops f k v e))
steps_by P number {o = o} (adds_one is) t ops f k v e = absurd (false_true (moving (op_by number o) t ops f k v e))
steps_by P number {o = o} (answers is) t ops f k v e = absurd (false_true (moving (op_by number o) t ops f k v e))

-- what goes to another iteration gives nothing under its own tag
tested_gives : (b : Truth) (k : ℕ) (v : Value) (c : Truth) (w : Value) → GivesOn (cond b (Moved k v) Nothing) c w → ⊥
tested_gives true k v c w g = g
tested_gives false k v c w g = g

pub no_gives : (o : Op) (t : Tag) (ops : Operands) (f : Fresh) (c : Truth) (w : Value) → moves o ≡ true
    → GivesOn (fired o t ops f) c w → ⊥
no_gives (op.Next j) t (Alone v) f c w h g = tested_gives (same_kind (kind_of v) j) (t.iteration + 1) v c w g
no_gives (op.Next j) t (Two v x) f c w h g = g
no_gives (op.Reset j) t (Alone v) f c w h g = tested_gives (same_kind (kind_of v) j) 0 v c w g
no_gives (op.Reset j) t (Two v x) f c w h g = g
no_gives _ t ops f c w h g = absurd (false_true h)
