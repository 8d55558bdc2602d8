use Rattle.std.proofs.Common.{subst, sym, All, List}
use Rattle.id_instr.specs.declared.dests.Dest.{Dest}
use Rattle.id_instr.proofs.GraphLemmas.{All-arcs, All-true_arcs, All-false_arcs}
use Rattle.id_valid.specs.Validator.{IsTaken}
use Rattle.id_valid.proofs.rules.are_taken.Goals as goal

-- the destinations on both sides have to take it
pub returns-then-all_take : goal.returns-then-all_take
returns-then-all_take c =
    let P : Dest → Type 0 = λ d. IsTaken c.args.instrs.now c.args.instr.now.op d in
    let L : List Dest → Type 0 = λ ds. All P ds in
    let firsts = subst L c.as_slice.ensures (c.all_take.ensures.0 c.if-all_take.true) in (
      λ yes. All-arcs P c.args.instr.now firsts (subst L c.false_arcs.ensures (c.all_take-then-all_take.ensures.0 yes)),
      λ all. c.all_take-then-all_take.ensures.1 (subst L (sym c.false_arcs.ensures) (All-false_arcs P c.args.instr.now all)),
    )

pub returns-else-all_take : goal.returns-else-all_take
returns-else-all_take c =
    let P : Dest → Type 0 = λ d. IsTaken c.args.instrs.now c.args.instr.now.op d in
    let L : List Dest → Type 0 = λ ds. All P ds in (
      λ yes. absurd (cc yes),
      λ all. c.all_take.ensures.1 (subst L (sym c.as_slice.ensures) (All-true_arcs P c.args.instr.now all)),
    )
