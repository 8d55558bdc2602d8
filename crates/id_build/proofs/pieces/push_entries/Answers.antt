-- One more entry.
use Rattle.std.proofs.Common.{◌∙◌, ◌++◌, ◌∷◌, [], ap, refl}
use Rattle.id_instr.specs.declared.instr.Op.TheVariants.{Merge}
use Rattle.id_build.specs.declared.arc.Form.TheVariants.{Plain}
use Rattle.id_build.specs.Rows.{for_each, piece}
use Rattle.id_build.proofs.PushedLemmas.{rest_done}
use Rattle.id_build.proofs.SendsLemmas.{for_each-next}
use Rattle.id_build.proofs.pieces.push_entries.Goals as goal

pub loop-import-init : goal.loop-import-init
loop-import-init c = refl

pub loop-import-preserved : goal.loop-import-preserved
loop-import-preserved c =
    let e = c.args.place in
    let xs = c.loop-import.pieces.items in
    let one = c.in_ok-push.ensures ∙ ap (λ k. xs ++ piece (Plain (Merge k)) e ∷ []) c.port_at.ensures in
    for_each-next c.args.checked.now Merge e c.loop-import.import-index c.args.imports.now xs c.push.new.pieces.items _
    c.loop-import-test.true
    c.loop-import.invariant one

pub returns : goal.returns
returns c =
    rest_done (for_each c.args.checked.now Merge c.args.place) c.loop-import.import-index c.args.imports.now
    c.loop-import.pieces.items _ refl
    c.loop-import-test.false c.loop-import.invariant
