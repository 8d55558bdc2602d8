use Rattle.std.proofs.Common.{◌≡◌, ◌++◌, take, map}
use Rattle.id_match.specs.Rear.{frame_entries}
use Rattle.id_match.specs.Waiting.{entry_at}
use Rattle.id_match.proofs.rear.list.Given as goal

-- so much of the frame is listed
abbrev pub invariant-loop-i : goal.invariant-loop-i
invariant-loop-i l = l.entries.items ≡ l.fn.entries.items ++ map entry_at (frame_entries l.name (take l.i l.frame.halves.items))
