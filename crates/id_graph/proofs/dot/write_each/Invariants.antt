use Rattle.std.proofs.Common.{◌≡◌, ◌++◌, take, string_bytes}
use Rattle.std.specs.List.{flat_map}
use Rattle.id_graph.specs.Dot.{arrow_text}
use Rattle.id_graph.proofs.dot.write_each.Given as goal

-- the arrows of the destinations so far are appended
abbrev pub invariant-loop-dest : goal.invariant-loop-dest
invariant-loop-dest l = string_bytes l.out ≡ string_bytes l.initial.out ++ flat_map (arrow_text l.number l.field l.style l.looks) (take l.dest-index l.dests)
