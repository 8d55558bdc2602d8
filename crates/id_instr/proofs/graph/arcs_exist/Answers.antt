use Rattle.std.proofs.Common.{subst, sym, All, List}
use Rattle.id_instr.specs.declared.dests.Dest.{Dest}
use Rattle.id_instr.specs.Graph.{IsPort}
use Rattle.id_instr.proofs.GraphLemmas.{All-arcs, All-true_arcs, All-false_arcs}
use Rattle.id_instr.proofs.graph.arcs_exist.Goals as goal

-- the destinations on both sides have to be ports
pub returns-then-are_ports : goal.returns-then-are_ports
returns-then-are_ports c =
    let P : Dest → Type 0 = λ d. IsPort c.args.instrs.now d in
    let L : List Dest → Type 0 = λ ds. All P ds in
    let firsts = subst L c.as_slice.ensures (c.are_ports.ensures.0 c.if-are_ports.true) in (
      λ yes. All-arcs P c.args.instr.now firsts (subst L c.false_arcs.ensures (c.are_ports-then-are_ports.ensures.0 yes)),
      λ all. c.are_ports-then-are_ports.ensures.1 (subst L (sym c.false_arcs.ensures) (All-false_arcs P c.args.instr.now all)),
    )

pub returns-else-are_ports : goal.returns-else-are_ports
returns-else-are_ports c =
    let P : Dest → Type 0 = λ d. IsPort c.args.instrs.now d in
    let L : List Dest → Type 0 = λ ds. All P ds in (
      λ yes. absurd (cc yes),
      λ all. c.are_ports.ensures.1 (subst L (sym c.as_slice.ensures) (All-true_arcs P c.args.instr.now all)),
    )
