use Rattle.std.proofs.Common.{◌≡◌, ◌++◌, drop, string_bytes}
use Rattle.id_graph.specs.Dot.{links_text}
use Rattle.id_graph.proofs.dot.write_links.Given as goal

-- with the arrows that are left the arrows are whole
abbrev pub invariant-loop-number : goal.invariant-loop-number
invariant-loop-number l = string_bytes l.out ++ links_text l.number (drop l.number l.instrs) ≡ string_bytes l.initial.out ++ links_text 0 l.instrs
