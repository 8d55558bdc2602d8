use Rattle.std.proofs.Common.{◌≡◌, ◌≤◌, take}
use Rattle.std.specs.List.{count_by}
use Rattle.std.specs.Map.{keys_of}
use Rattle.id_match.specs.Frames.{is_first}
use Rattle.id_match.specs.Rear.{frame_entries}
use Rattle.id_match.proofs.Waiting.firsts_within.Given as goal

abbrev pub invariant-loop-i : goal.invariant-loop-i
invariant-loop-i l = record {
  exact : l.firsts ≡ count_by (is_first l.self) (keys_of (frame_entries l.name (take l.i l.frame.halves.items)));
  most : l.firsts ≤ l.i;
}
