use Rattle.std.proofs.Common.{◌≡◌, ◌+◌}
use Rattle.std.specs.List.{count_by}
use Rattle.std.specs.Map.{keys_of}
use Rattle.id_match.specs.Frames.{is_first}
use Rattle.id_match.specs.Rear.{rear_entries}
use Rattle.id_match.proofs.Waiting.firsts_behind.Given as goal

-- the firsts so far and those that come are all
abbrev pub invariant-loop-name : goal.invariant-loop-name
invariant-loop-name l =
    l.firsts + count_by (is_first l.self) (keys_of (rear_entries l.name-iterator l.frames))
    ≡ count_by (is_first l.self) (keys_of (rear_entries l.keys.entries l.frames))
