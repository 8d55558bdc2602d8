use Rattle.std.proofs.Common.{◌≡◌, ◌≤◌, ◌*◌, take}
use Rattle.std.specs.List.{count_by}
use Rattle.std.specs.Map.{keys_of}
use Rattle.id_match.specs.Front.{front_entries}
use Rattle.id_match.specs.Frames.{is_first}
use Rattle.id_match.proofs.Waiting.firsts_in_front.Given as goal

abbrev pub invariant-loop-i : goal.invariant-loop-i
invariant-loop-i l = record {
  exact : l.firsts ≡ count_by (is_first l.self) (keys_of (front_entries (take l.i l.front)));
  most : l.firsts ≤ 2 * l.i;
}
