-- A message's outcome in the two parts that the code computes: what fires, and what the record keeps.
use Rattle.std.specs.Prelude.{◌≡◌, ℕ, ◌+◌, ◌<◌, ◌≤◌, All, length}
use Rattle.id_instr.specs.Graph.{Parts}
use Rattle.id_instr.specs.declared.instr.Instr.{Instr}
use Rattle.id_tag.specs.declared.Tag.{Tag}
use Rattle.id_ops.specs.declared.Fresh.{Fresh}
use Rattle.id_ops.specs.declared.Fired.{Fired}
use Rattle.id_ops.specs.declared.Fired.TheVariants.{Nothing}
use Rattle.id_ops.specs.Operators.{fired}
use Rattle.id_step.specs.declared.step.Arrival.{Arrival}
use Rattle.id_step.specs.declared.step.Arrival.TheVariants.{Fires, Waits, Blocked}
use Rattle.id_record.specs.declared.step.Verdict.{Verdict}
use Rattle.id_record.specs.declared.step.Verdict.TheVariants.{Stuck, Went}
use Rattle.id_tag.specs.Plains.{whole}
use Rattle.id_tag.specs.Plains.{tag_in}
use Rattle.id_tag.specs.declared.plain.PlainToken.{PlainToken}
use Rattle.id_instr.specs.declared.instr.Op.{Op}
use Rattle.id_match.specs.Waiting.{Store, pair_of}
use Rattle.id_match.specs.declared.meeting.Met.{Met}
use Rattle.id_match.specs.declared.meeting.Met.TheVariants.{Kept, Partner, Apart}
use Rattle.id_match.specs.declared.meeting.Offered.TheVariants.{Pair}
use Rattle.id_tag.specs.declared.plain.Plain.{Plain}
use Rattle.id_tag.specs.declared.plain.Plain.TheVariants.{Signal}
use Rattle.id_instr.specs.declared.instr.Op.TheVariants.{Enter}
use Rattle.id_ops.specs.declared.plain_fired.PlainFired.TheVariants as fired
use Rattle.id_ops.specs.declared.Operands.{Operands}
use Rattle.id_ops.specs.declared.Operands.TheVariants.{One, Two}
use Rattle.id_ops.specs.declared.plain_fired.PlainFired.{PlainFired}
use Rattle.id_ops.specs.PlainFired.{MakesNone, fired_of}
use Rattle.id_step.specs.declared.step.PlainOperands.{PlainOperands}
use Rattle.id_step.specs.declared.step.PlainOperands.TheVariants as plain
use Rattle.id_step.specs.Steps.{allocated_by, arrival, fired_verdict, waiting_after}

-- no message at the instruction sends more than this: it sends to each destination on a side, and what starts a block,
-- or one; a sum is asked for more cheaply than the most of both sides
abbrev pub most_sent : Instr → ℕ
most_sent i = length i.dests + length i.others + 3

-- no message at an instruction of the graph sends more than m
abbrev pub IsMost : Parts → ℕ → Type 0
IsMost g m = All (λ i. most_sent i ≤ m) g.instrs

-- no message at an instruction of the graph sends more than m, and where that is 256 at the most, the number of the
-- element e is small
pub record IsBound (g : Parts) (e m : ℕ) : Type 0 where
  pub most : IsMost g m
  pub element : m ≤ 256 → e < 256

-- what the instruction does with what arrived, with the element's next numbers: nothing where the token waits or is
-- blocked
abbrev pub firing_of : Instr → Tag → Fresh → Arrival → Fired
firing_of i t next (Fires operands) = fired i.op t operands next
firing_of i t next Waits = Nothing
firing_of i t next Blocked = Nothing

-- what the record keeps of an event
abbrev pub verdict_of : Arrival → Fired → Verdict
verdict_of (Fires operands) f = fired_verdict f
verdict_of Waits f = fired_verdict f
verdict_of Blocked f = Stuck

-- what becomes of a plain token at an operator where these wait
abbrev pub arrival_in : Op → Store → PlainToken → Arrival
arrival_in op w t = arrival op w (tag_in t) t.port (whole t.value)

-- a plain token fires this in small numbers, which makes and takes no structure, and these wait afterwards
pub record IsPlainFiring (op : Op) (w later : Store) (t : PlainToken) (p : PlainFired) : Type 0 where
  pub fires : (i : Instr) (n : Fresh) → i.op ≡ op
      → firing_of i (tag_in t) n (arrival_in op w t) ≡ fired_of (tag_in t) p
  pub went : verdict_of (arrival_in op w t) (fired_of (tag_in t) p) ≡ Went
  pub waits : later ≡ waiting_after op w (tag_in t) t.port (whole t.value)
  pub makes_none : MakesNone p t.value
  pub takes_none : allocated_by op (fired_of (tag_in t) p) ≡ 0

-- the operands that these plain values are
abbrev pub operands_in : PlainOperands → Operands
operands_in (plain.One v) = One (whole v)
operands_in (plain.Two l r) = Two (whole l) (whole r)

-- a plain token fires the operator with these operands, and these wait afterwards
pub record IsFiring (op : Op) (w later : Store) (t : PlainToken) (o : PlainOperands) : Type 0 where
  pub fires : arrival_in op w t ≡ Fires (operands_in o)
  pub waits : later ≡ waiting_after op w (tag_in t) t.port (whole t.value)

-- what became of a plain token that was offered at an operator of two ports, and these wait afterwards: it waits, or
-- fires the operator with its partner, each at its port, or nothing has changed
abbrev pub IsMet : Op → Store → Store → PlainToken → Met → Type 0
IsMet op w later t Kept = IsPlainFiring op w later t fired.Nothing
IsMet op w later t (Partner v) = (l r : Plain) → Pair (whole l) (whole r) ≡ pair_of t.port (whole t.value) (whole v)
    → IsFiring op w later t (plain.Two l r)
IsMet op w later t Apart = later ≡ w

-- a plain token enters a block: it is a signal, and the operator enters this one, which replies to this instruction
pub record Enters (op : Op) (t : PlainToken) (block reply : ℕ) : Type 0 where
  pub enters : op ≡ Enter block reply
  pub signal : t.value ≡ Signal
