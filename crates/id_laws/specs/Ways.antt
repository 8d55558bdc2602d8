-- How a message comes to a port: one way for each kind of sending, whatever the node (docs/MEANING.md, "Laws").
use Rattle.std.specs.Prelude.{◌≡◌, ◌<◌, ◌+◌, ℕ, suc, List, length, slice_get, Some}
use Rattle.id_table.specs.declared.row.Node.TheVariants.{Arg, Fetch, Start}
use Rattle.id_check.specs.declared.checked.Checked.{Checked}
use Rattle.id_check.specs.Programs.{rows}
use Rattle.id_instr.specs.declared.dests.Port.{Port}
use Rattle.id_instr.specs.declared.dests.Port.TheVariants.{Zero}
use Rattle.id_tag.specs.declared.Context.{Context}
use Rattle.id_tag.specs.declared.Value.{Value}
use Rattle.id_tag.specs.declared.Value.TheVariants.{Signal, Continuation}
use Rattle.id_ops.specs.declared.Fired.TheVariants.{Sent}
use Rattle.id_ops.specs.Operators.{constant_value}
use Rattle.id_value.specs.declared.Constant.{Constant}
use Rattle.id_source.specs.Sources.{Source, IsInput}
use Rattle.id_build.specs.declared.arc.Origin.{Origin}
use Rattle.id_build.specs.Rows.{Entry, answer_row, loop_entries, node, param_of}
use Rattle.id_build.specs.Schemas.{Feeds}
use Rattle.id_runs.specs.Activations.{Activation, at_iteration, main_activation, tag_in}
use Rattle.id_runs.specs.Cells.{Replies}
use Rattle.id_runs.specs.Events.{Event, FiresAs, fired_event}
use Rattle.id_laws.specs.Activations.{Begins, main_head, Opens, Speaks, Moves, ReturnsTo}

-- the part of the row m sends into the context that the row i makes, to this part of a row: an argument to the entry of
-- its parameter, a loop's `Start` to each entry of the loop
pub data SendsTo (P : Checked) (m : ℕ) : ℕ → ℕ → ℕ → ℕ → Type 0 where
  of_argument : {e k v : ℕ} → m < length (rows P) → node P m ≡ Arg e k v → SendsTo P m 0 e (param_of P e k) 0
  of_entry : (k : ℕ) (q : Entry) → m < length (rows P) → node P m ≡ Start
      → slice_get (loop_entries P (m + 1)) k ≡ Some q → SendsTo P m (suc k) m q.row q.part

-- the event has sent the value to the port of the part of the row under the activation
pub data Way (S : Source) (number : ℕ → ℕ → ℕ) (run : List Event) (e : Event)
    : Activation → ℕ → ℕ → Port → Value → Type 0 where
  -- along an arc
  by_arc : (a : Activation) (s : Origin) (n part : ℕ) (p : Port) (v : Value) → Feeds S.checked s n part p
      → (x : Speaks S number run a s v) → fired_event x.fires ≡ e → Way S number run e a n part p v
  -- along an arc, into another iteration
  by_move : (a : Activation) (s : Origin) (k n part : ℕ) (p : Port) (v : Value) → Feeds S.checked s n part p
      → (x : Moves S number run a s k v) → fired_event x.fires ≡ e
      → Way S number run e (at_iteration a.context k) n part p v
  -- an argument, a first value or an import, into the context that was made for it
  by_send : (a : Activation) (c : Context) (m j i n part : ℕ) (v : Value) → SendsTo S.checked m j i n part
      → Opens S number run a i c
      → (x : FiresAs run (tag_in a (number m j)) (Sent (tag_in (at_iteration c 0) (number n part)) v))
      → fired_event x ≡ e → Way S number run e (at_iteration c 0) n part Zero v
  -- the signal of an `Enter` or `Start`, and its way back
  by_enter : (a : Activation) (i h q : ℕ) (c : Context) → i < length (rows S.checked) → Begins S.checked i h q
      → (x : Opens S number run a i c) → fired_event x ≡ e
      → Way S number run e (at_iteration c 0) h 0 Zero Signal
  by_continuation : (a : Activation) (i h q : ℕ) (c : Context) → i < length (rows S.checked)
      → Begins S.checked i h q → (x : Opens S number run a i c) → fired_event x ≡ e
      → Way S number run e (at_iteration c 0) h 1 Zero (Continuation (tag_in a (number q 0)))
  -- what a block gives
  by_back : (c : Context) (h : ℕ) (a : Activation) (n : ℕ) (v : Value) → ReturnsTo S number run c h a n
      → (x : FiresAs run (tag_in (at_iteration c 0) (number h 1)) (Sent (tag_in a (number n 0)) v))
      → fired_event x ≡ e → Way S number run e a n 0 Zero v
  -- the reply to a fetch, from a read that found the value or the write that filled the cell
  by_reply : (a : Activation) (n t i : ℕ) (v : Value) → n < length (rows S.checked)
      → node S.checked n ≡ Fetch t i → Replies run (tag_in a (number n 2)) v e → Way S number run e a n 2 Zero v

-- at the start the value is there for the port of the part of the row, under main's activation: a signal, the way back
-- and the inputs
pub data StartsAt (S : Source) (number : ℕ → ℕ → ℕ) : ℕ → ℕ → Port → Value → Type 0 where
  signal : StartsAt S number (main_head S.checked) 0 Zero Signal
  way_back : StartsAt S number (main_head S.checked) 1 Zero
      (Continuation (tag_in main_activation (number (answer_row S.checked) 0)))
  input : (b : ℕ) (c : Constant) → IsInput S b c → StartsAt S number b 0 Zero (constant_value c)
