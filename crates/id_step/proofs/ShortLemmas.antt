-- The element step on a plain token, and what is small stays small.
use Rattle.std.proofs.Common.{◌≡◌, ◌<◌, ◌≤◌, ◌^◌, arith, ℕ, Bool, true, false, Some, Result, Ok, Err, length, refl}
use Rattle.std.proofs.Common.{subst}
use Rattle.std.specs.Prelude.{◌&&◌, IfOk, IsErr, IsTrue, slice_get}
use Rattle.id_instr.specs.declared.instr.Instr.{Instr}
use Rattle.id_instr.specs.Graph.{Parts}
use Rattle.id_match.specs.Waiting.{Store}
use Rattle.id_ops.specs.Operators.{fired}
use Rattle.id_ops.specs.PlainFired.{fired_of}
use Rattle.id_record.specs.declared.step.Verdict.TheVariants as verdict
use Rattle.id_step.specs.declared.step.PlainOperands.{PlainOperands}
use Rattle.id_ops.specs.declared.plain_fired.PlainFired.{PlainFired}
use Rattle.id_step.specs.Firings.{IsBound, IsFiring, IsPlainFiring, operands_in}
use Rattle.id_step.specs.declared.storage.Storage.{Storage}
use Rattle.id_step.specs.Storage.{IsShort}
use Rattle.id_step.proofs.FiringsLemmas.{IsStepBy, fires_outcome, plain_outcome, short_outcome, step_by}
use Rattle.id_tag.specs.declared.plain.PlainToken.{PlainToken}
use Rattle.id_tag.specs.Plains.{message_of, tag_in}
use Rattle.id_step.specs.Fits.{Fits}
use Rattle.id_step.specs.Steps.{State, fired_verdict, next_numbers}

-- the element step on a plain token at its instruction that fires this in small numbers
pub step_plain : (g : Parts) (e : ℕ) (s : State) (t : PlainToken) (i : Instr) (later : Store) (p : PlainFired)
    → slice_get g.instrs t.instr ≡ Some i → IsPlainFiring i.op s.waiting later t p
    → IsStepBy g e s (message_of t) (plain_outcome i t later s.cells (fired_of (tag_in t) p) verdict.Went)
step_plain g e s t i later p there comes =
    step_by g e s (message_of t) _ (short_outcome g (next_numbers e s) s.waiting later s.cells t i p there comes)

-- and on one that fires these operands
pub step_full : (g : Parts) (e : ℕ) (s : State) (t : PlainToken) (i : Instr) (later : Store) (o : PlainOperands)
    → slice_get g.instrs t.instr ≡ Some i → IsFiring i.op s.waiting later t o
    → (let f = fired i.op (tag_in t) (operands_in o) (next_numbers e s) in
    IsStepBy g e s (message_of t) (plain_outcome i t later s.cells f (fired_verdict f)))
step_full g e s t i later o there comes =
    step_by g e s (message_of t) _ (fires_outcome g (next_numbers e s) s.waiting later s.cells t i o there comes)

-- what an error says nothing of
pub if_err : {A E : Type 0} → (P : A → Type 0) (r : Result A E) → IsErr r → IfOk r P
if_err P (Ok a) is = cc
if_err P (Err e) is = tt

-- the event of a token that fits the graph is short where its stamp, the most and what stands in no graph are small
pub IsShort-bound : (g : Parts) (d : Storage) (most : ℕ) (t : PlainToken) (stamp : ℕ) → IsBound g d.log.element most
    → Fits g (message_of t) → t.stamp < stamp → stamp < 2 ^ 32 → length d.log.events < 2 ^ 32 → most ≤ 256
    → IsShort d most t stamp
IsShort-bound g d most t stamp bound fits above small room few = record {
  stamp_is = small;
  position = room;
  element = bound.element few;
  iteration = omega (arith, fits.in_time, above, small);
  few = few;
}

-- what two tests say that hold at once
pub both_true : (a b : Bool) → IsTrue (a && b) → (a ≡ true) × (b ≡ true)
both_true true true h = (refl, refl)
both_true true false h = cc
both_true false b h = cc
