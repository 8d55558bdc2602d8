use Rattle.std.proofs.Common.{map, take}
use Rattle.id_match.specs.Front.{HoldsSame, IsMarked, half_entry}
use Rattle.id_match.proofs.front.mark.Given as goal

-- the slots tell of the first entries
abbrev pub invariant-loop-i : goal.invariant-loop-i
invariant-loop-i l =
    record {
      holds : HoldsSame l.fn.front.items l.front.items;
      marked : IsMarked l.front.items (map half_entry (take l.i l.entries));
    }
