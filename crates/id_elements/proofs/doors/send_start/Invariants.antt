use Rattle.std.proofs.Common.{◌≡◌, [], take, vec_len}
use Rattle.id_elements.specs.Doors.{HaveParts}
use Rattle.id_elements.specs.Gathered.{IsWhole}
use Rattle.id_elements.proofs.doors.send_start.Given as goal

abbrev pub invariant-loop-position : goal.invariant-loop-position
invariant-loop-position g l = record {
  len : vec_len l.doors ≡ vec_len l.fn.doors;
  parts : HaveParts 1024 l.doors.items;
  whole : IsWhole (take l.position l.start.messages) l.doors.items [] [];
}
