use Rattle.std.proofs.Common.{◌≡◌, ◌++◌, take, string_bytes}
use Rattle.std.specs.List.{flat_map}
use Rattle.id_graph.specs.Listing.{dest_text}
use Rattle.id_graph.proofs.listing.write_dests.Given as goal

-- the destinations so far are appended
abbrev pub invariant-loop-dest : goal.invariant-loop-dest
invariant-loop-dest l = string_bytes l.out ≡ string_bytes l.initial.out ++ flat_map dest_text (take l.dest-index l.dests)
