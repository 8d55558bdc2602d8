-- An `enter` alone makes a context.
use Rattle.std.proofs.Common.{◌≡◌, ◌≢◌, ℕ, ℤ, ◌+◌, Bool as Truth, true, false, cond, refl}
use Rattle.std.specs.Bool.{beq}
use Rattle.id_value.specs.declared.FaultKind.TheVariants.{BadBounds, OutOfBounds}
use Rattle.id_value.specs.Bounds.{are_good, is_inside}
use Rattle.id_value.specs.declared.Outcome.{Outcome}
use Rattle.id_value.specs.declared.Outcome.TheVariants.{Gives, Fails, Lacks}
use Rattle.id_value.specs.declared.Constant.TheVariants as constants
use Rattle.id_value.specs.Results.{result_of_unary, calculated}
use Rattle.id_instr.specs.declared.instr.Dyadic.TheVariants as class
use Rattle.id_instr.specs.declared.instr.Op.{Op}
use Rattle.id_instr.specs.declared.instr.Op.TheVariants as op
use Rattle.id_tag.specs.Kinds.{kind_of, same_kind}
use Rattle.id_tag.specs.declared.Context.{Context}
use Rattle.id_tag.specs.declared.Tag.{Tag}
use Rattle.id_tag.specs.declared.Structure.{Structure}
use Rattle.id_tag.specs.declared.Value.TheVariants.{Signal, Int, Bool, Structure as Made, Address as At}
use Rattle.id_tag.specs.declared.Value.TheVariants.{Context as Opened, Continuation}
use Rattle.id_ops.specs.declared.Operands.{Operands}
use Rattle.id_ops.specs.declared.Operands.TheVariants.{One as Alone, Two}
use Rattle.id_ops.specs.declared.Fresh.{Fresh}
use Rattle.id_ops.specs.declared.Fired.{Fired}
use Rattle.id_ops.specs.declared.Fired.TheVariants.{Out, Side, Moved, Entered, Sent, Asked, Stored, Failed, Nothing}
use Rattle.id_ops.specs.Operators.{address_in, fired, fired_by, may_hold, tag_within}

-- what is done where a test holds makes none
tested_enters : (f : Fired) (b : Truth) (c : Context) → f ≢ Entered c → cond b f Nothing ≡ Entered c → ⊥
tested_enters f true c not h = not h
tested_enters f false c not h = cc

bounds_enter : (nested : Truth) (f : Fresh) (lo hi : ℤ) (b : Truth) (c : Context)
    → cond b (Out (Made (record { element = f.element; serial = f.structure; low = lo; high = hi; nested = nested })))
    (Failed BadBounds) ≡ Entered c → ⊥
bounds_enter nested f lo hi true c h = cc
bounds_enter nested f lo hi false c h = cc

index_enters : (s : Structure) (i : ℤ) (b : Truth) (c : Context)
    → cond b (Out (At (record { structure = s; index = i }))) (Failed OutOfBounds) ≡ Entered c → ⊥
index_enters s i true c h = cc
index_enters s i false c h = cc

result_enters : (y : Outcome) (c : Context) → fired_by y ≡ Entered c → ⊥
result_enters (Gives k) c h = cc
result_enters (Fails k) c h = cc
result_enters Lacks c h = cc

-- an `enter` alone makes a context
pub record Enters (o : Op) : Type 0 where
  pub block : ℕ
  pub reply : ℕ
  pub is : o ≡ op.Enter block reply

pub entered_by : (o : Op) (t : Tag) (ops : Operands) (f : Fresh) (c : Context) → fired o t ops f ≡ Entered c → Enters o
entered_by (op.Const k) t (Alone Signal) f c h = cc
entered_by (op.Const k) t _ f c h = cc
entered_by (op.Unary o) t (Alone (Int n)) f c h = absurd (result_enters (result_of_unary o (constants.Int n)) c h)
entered_by (op.Unary o) t (Alone (Bool b)) f c h = absurd (result_enters (result_of_unary o (constants.Bool b)) c h)
entered_by (op.Unary o) t _ f c h = cc
entered_by (op.Binary (class.Arithmetic o)) t (Two (Int a) (Int b)) f c h =
    absurd (result_enters (calculated o a b) c h)
entered_by (op.Binary (class.Comparison o)) t (Two (Int a) (Int b)) f c h = cc
entered_by (op.Binary (class.Truth o)) t (Two (Bool a) (Bool b)) f c h = cc
entered_by (op.Binary o) t _ f c h = cc
entered_by (op.Merge k) t (Alone v) f c h = absurd (tested_enters (Out v) (same_kind (kind_of v) k) c (λ e. cc) h)
entered_by (op.Merge k) t (Two v x) f c h = cc
entered_by (op.Switch k) t (Two (Bool b) v) f c h =
    absurd (tested_enters (Side b v) (same_kind (kind_of v) k) c (λ e. cc) h)
entered_by (op.Switch k) t _ f c h = cc
entered_by (op.Back k) t (Two (Continuation y) v) f c h =
    absurd (tested_enters (Sent y v) (same_kind (kind_of v) k) c (λ e. cc) h)
entered_by (op.Back k) t _ f c h = cc
entered_by (op.Enter b r) t ops f c h = record { block = b; reply = r; is = refl }
entered_by (op.Send k n) t (Two (Opened d) v) f c h =
    absurd (tested_enters (Sent (tag_within d n) v) (same_kind (kind_of v) k) c (λ e. cc) h)
entered_by (op.Send k n) t _ f c h = cc
entered_by (op.Next k) t (Alone v) f c h =
    absurd (tested_enters (Moved (t.iteration + 1) v) (same_kind (kind_of v) k) c (λ e. cc) h)
entered_by (op.Next k) t (Two v x) f c h = cc
entered_by (op.Reset k) t (Alone v) f c h = absurd (tested_enters (Moved 0 v) (same_kind (kind_of v) k) c (λ e. cc) h)
entered_by (op.Reset k) t (Two v x) f c h = cc
entered_by (op.Alloc nested) t (Two (Int a) (Int b)) f c h = absurd (bounds_enter nested f a b (are_good a b) c h)
entered_by (op.Alloc nested) t _ f c h = cc
entered_by (op.Address nested) t (Two (Made s) (Int i)) f c h =
    absurd (tested_enters (address_in s i) (beq s.nested nested) c (index_enters s i (is_inside s.low s.high i) c) h)
entered_by (op.Address nested) t _ f c h = cc
entered_by (op.Fetch nested r) t (Alone (At d)) f c h =
    absurd (tested_enters (Asked d (record { context = t.context; iteration = t.iteration; instr = r }))
    (beq d.structure.nested nested) c (λ e. cc) h)
entered_by (op.Fetch nested r) t _ f c h = cc
entered_by (op.Store nested) t (Two (At d) v) f c h =
    absurd (tested_enters (Stored d v t) (may_hold nested d v) c (λ e. cc) h)
entered_by (op.Store nested) t _ f c h = cc
