use Rattle.std.proofs.Common.{◌≡◌, vec_len}
use Rattle.id_elements.specs.Doors.{AreUnused, HaveParts}
use Rattle.id_elements.proofs.doors.open_all.Given as goal

abbrev pub invariant-loop-number : goal.invariant-loop-number
invariant-loop-number l = record {
  len : vec_len l.doors ≡ l._number;
  parts : HaveParts 1024 l.doors.items;
  unused : AreUnused l.doors.items;
}
