use Rattle.std.proofs.Common.{◌≡◌, ◌++◌, map}
use Rattle.id_match.specs.Rear.{rear_entries}
use Rattle.id_match.specs.Waiting.{entry_at}
use Rattle.id_match.proofs.rear.listed.Given as goal

-- what is listed and what comes is all
abbrev pub invariant-loop-name : goal.invariant-loop-name
invariant-loop-name l =
    l.entries.items ++ map entry_at (rear_entries l.name-iterator l.frames) ≡ map entry_at (rear_entries l.keys.entries l.frames)
