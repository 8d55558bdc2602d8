-- Lists of destinations that are kept behind a box, if there are any.
use Rattle.std.specs.Prelude.{List, [], Option, None, Some, box_value}
use Rattle.std.specs.declared.alloc.Global.{Global}
use Rattle.std.specs.declared.boxed.Box.{Box}
use Rattle.id_instr.specs.declared.dests.Dest.{Dest}

-- the destinations in the box
abbrev pub in_box : Option (Box (List Dest) Global) → List Dest
in_box None = []
in_box (Some list) = box_value list
