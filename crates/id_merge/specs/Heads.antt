-- A log of which bytes were read that were not given on yet.
use Rattle.std.specs.Prelude.{◌≡◌, ◌<◌, ◌++◌, ◌||◌, ℕ, Bool, List, [], length, nat_le, nat_lt, if◌then◌else◌}
use Rattle.std.specs.Prelude.{Option, Some, None, option_map}
use Rattle.id_log.specs.Logs.{Ahead}
use Rattle.id_merge.specs.Lines.{line_length}
use Rattle.id_merge.specs.Merging.{text_at}

-- these bytes, and behind them what the log has ahead, unless it is over
abbrev pub behind : List ℕ → Bool → Ahead → Ahead
behind bytes over a = record { bytes = bytes ++ (if over then [] else a.bytes); end = a.end }

-- the same, where that is known
abbrev pub told_behind : Option Ahead → List ℕ → Bool → Option Ahead
told_behind a bytes over = option_map (behind bytes over) a

-- what is known is still so
abbrev pub IsStill : {X : Type 0} → Option X → Option X → Type 0
IsStill None new = Unit {0}
IsStill (Some x) new = new ≡ Some x

-- the bytes tell the first line of the log: it ends in them, or is longer than that of any event, or the log is over
abbrev pub are_enough : List ℕ → Bool → Bool
are_enough bytes over = over || (nat_lt (line_length bytes) (length bytes) || nat_le 4096 (length bytes))

-- some bytes were read of the text in the midst of whose line the merged bytes are
abbrev pub IsWithin : Option ℕ → List (List ℕ) → Type 0
IsWithin None texts = ⊥
IsWithin (Some i) texts = 0 < length (text_at texts i)
