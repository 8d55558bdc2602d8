use Rattle.std.proofs.Common.{◌≤◌, length, All, arith, subst, refl, List}
use Rattle.std.proofs.lemmas.Grind.{common_steps}
use Rattle.std.proofs.lemmas.List.{take_all}
use Rattle.std.proofs.lemmas.List.Elements.{All-more}
use Rattle.id_instr.specs.declared.instr.Instr.{Instr}
use Rattle.id_instr.specs.Graph.{ArcsExist}
use Rattle.id_instr.proofs.graph.first_bad_arc.Goals as goal

pub loop-number-preserved : goal.loop-number-preserved
loop-number-preserved c =
    let P : Instr → Type 0 = λ i. ArcsExist c.args.instrs.now i
    in All-more P _ _ c.index-instrs-number.result (omega arith) c.loop-number.invariant
    (subst P c.index-instrs-number.is (c.if-not-arcs_exist.ensures.0 refl))

pub returns : goal.returns
returns c =
    let all : length c.args.instrs.now ≤ c.loop-number.number = omega arith
    in let P : List Instr → Type 0 = λ is. All (ArcsExist c.args.instrs.now) is
    in subst P (take_all _ _ all) c.loop-number.invariant

pub loop-number-init : goal.loop-number-init
loop-number-init c = grind (arith, common_steps)

pub offset_bounds-instrs-number : goal.offset_bounds-instrs-number
offset_bounds-instrs-number c = grind (arith, common_steps)

pub bounds-instrs-number : goal.bounds-instrs-number
bounds-instrs-number c = grind (arith, common_steps)

pub overflow_cast-result : goal.overflow_cast-result
overflow_cast-result c = grind (arith, common_steps)
