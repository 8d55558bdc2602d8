use Rattle.std.proofs.Common.{◌≡◌, ◌++◌, drop, string_bytes}
use Rattle.id_graph.specs.Listing.{lines_text}
use Rattle.id_graph.proofs.listing.write_lines.Given as goal

-- with the lines that are left the lines are whole
abbrev pub invariant-loop-number : goal.invariant-loop-number
invariant-loop-number l = string_bytes l.out ++ lines_text l.lines l.number (drop l.number l.instrs) ≡ string_bytes l.initial.out ++
    lines_text l.lines 0 l.instrs
