-- One more switch.
use Rattle.std.proofs.Common.{◌∙◌, ◌++◌, ◌∷◌, [], ap, refl}
use Rattle.id_instr.specs.declared.instr.Op.TheVariants.{Switch}
use Rattle.id_instr.specs.declared.instr.PortKind.TheVariants.{Signal}
use Rattle.id_build.specs.declared.arc.Form.TheVariants.{Plain}
use Rattle.id_build.specs.Rows.{for_each, piece}
use Rattle.id_build.proofs.PushedLemmas.{rest_done}
use Rattle.id_build.proofs.SendsLemmas.{begun, for_each-next}
use Rattle.id_build.proofs.pieces.push_switches.Goals as goal

pub loop-import-init : goal.loop-import-init
loop-import-init c =
    let e = c.args.place in
    begun c.args.pieces.now.items c.push.new.pieces.items (for_each c.args.checked.now Switch e c.args.imports.now)
    (piece (Plain (Switch Signal)) e) c.in_ok-push.ensures

pub loop-import-preserved : goal.loop-import-preserved
loop-import-preserved c =
    let e = c.args.place in
    let xs = c.loop-import.pieces.items in
    let one = c.in_ok-push-2.ensures ∙ ap (λ k. xs ++ piece (Plain (Switch k)) e ∷ []) c.port_at.ensures in
    for_each-next c.args.checked.now Switch e c.loop-import.import-index c.args.imports.now xs
    c.push-in-loop-import.new.pieces.items _ c.loop-import-test.true
    c.loop-import.invariant one

pub returns : goal.returns
returns c =
    rest_done (for_each c.args.checked.now Switch c.args.place) c.loop-import.import-index c.args.imports.now
    c.loop-import.pieces.items _ refl
    c.loop-import-test.false c.loop-import.invariant
