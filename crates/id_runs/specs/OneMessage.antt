-- What a graph has to keep so that at most one message of a run has a key.
use Rattle.std.specs.Prelude.{◌≡◌, ◌≤◌, ◌+◌, ℕ, false, Some, List, slice_get, count_by}
use Rattle.id_instr.specs.declared.dests.Port.{Port}
use Rattle.id_instr.specs.declared.dests.Port.TheVariants.{Zero}
use Rattle.id_instr.specs.declared.instr.Instr.{Instr}
use Rattle.id_instr.specs.Graph.{Parts}
use Rattle.id_instr.specs.Ports.{two_ports}
use Rattle.id_tag.specs.declared.Tag.{Tag}
use Rattle.id_tag.specs.declared.Value.{Value}
use Rattle.id_tag.specs.declared.Payload.{Payload}
use Rattle.id_tag.specs.declared.Payload.TheVariants.{Token}
use Rattle.id_core.specs.Machines.{World}
use Rattle.id_value.specs.declared.Constant.{Constant}
use Rattle.id_value.specs.List.{Among}
use Rattle.id_runs.specs.Events.{Event, sends_of, FiresOnce}
use Rattle.id_runs.specs.Keys.{Key, key_of, same_key}
use Rattle.id_runs.specs.Runs.{Reach, handled, flying, starting, Moving}

-- how many of the messages have the key
abbrev pub count_for : Key → List Payload → ℕ
count_for k xs = count_by (λ x. same_key (key_of x) k) xs

-- of what was handled at most one message has a key
abbrev pub Few : List Event → Type 0
Few run = (k : Key) → count_for k (handled run) ≤ 1

-- at most one message in flight or handled has a key
abbrev pub AtMostOne : World → List Event → Type 0
AtMostOne s run = (k : Key) → count_for k (flying s) + count_for k (handled run) ≤ 1

-- in any run one event alone, or the start alone, sends for a key: each may be shown where a key was handled at most
-- once, and a tag fired once
pub record Exclusive (g : Parts) (vs : List Constant) (count : ℕ) : Type 0 where
  -- a token for an operator of one port is for its port 0
  pub first_port : (s : World) (run : List Event) → Reach g vs count s run → FiresOnce run
      → (t : Tag) (p : Port) (v : Value) (i : Instr)
      → Moving s run (Token t p v) → slice_get g.instrs t.instr ≡ Some i → two_ports i.op ≡ false
      → p ≡ Zero
  -- an event sends at most one message for a key, and so does the start
  pub sends_once : (s : World) (run : List Event) → Reach g vs count s run → Few run → FiresOnce run
      → (e : Event) → Among e run → (k : Key)
      → count_for k (sends_of g e) ≤ 1
  pub starts_once : (k : Key) → count_for k (starting g vs) ≤ 1
  -- no event sends for a key of the start
  pub not_at_start : (s : World) (run : List Event) → Reach g vs count s run → Few run → FiresOnce run
      → (e : Event) → Among e run → (x y : Payload)
      → Among x (sends_of g e) → Among y (starting g vs) → key_of x ≡ key_of y → ⊥
  -- two events that send for one key are one event
  pub one_sender : (s : World) (run : List Event) → Reach g vs count s run → Few run → FiresOnce run
      → (e e' : Event) → Among e run → Among e' run
      → (x y : Payload) → Among x (sends_of g e) → Among y (sends_of g e') → key_of x ≡ key_of y → e ≡ e'
