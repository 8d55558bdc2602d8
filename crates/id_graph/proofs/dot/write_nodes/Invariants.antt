use Rattle.std.proofs.Common.{◌≡◌, ◌++◌, drop, string_bytes}
use Rattle.id_graph.specs.Dot.{nodes_text}
use Rattle.id_graph.proofs.dot.write_nodes.Given as goal

-- with what is left to be drawn the boxes and points are whole
abbrev pub invariant-loop-number : goal.invariant-loop-number
invariant-loop-number l =
    string_bytes l.out ++ nodes_text l.lines l.graph.blocks l.number (drop l.number l.instr-items) ≡ string_bytes l.initial.out ++
    nodes_text l.lines l.graph.blocks 0 l.instr-items
