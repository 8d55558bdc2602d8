-- One more one that hands on.
use Rattle.std.proofs.Common.{◌≡◌, ◌∙◌, ◌++◌, ◌∷◌, [], ◌<◌, length, drop, ap, sym, arith, refl}
use Rattle.std.proofs.lemmas.List.{drop_all}
use Rattle.id_desugar.specs.Regions.{carried}
use Rattle.id_instr.specs.declared.instr.Op.TheVariants.{Next}
use Rattle.id_instr.specs.declared.instr.PortKind.TheVariants.{Signal}
use Rattle.id_build.specs.declared.arc.Form.TheVariants.{Plain}
use Rattle.id_build.specs.Rows.{for_each, piece, port_at}
use Rattle.id_build.proofs.PushedLemmas.{rest_done}
use Rattle.id_build.proofs.LoopsLemmas.{carried_at, carried_inside, rows_half}
use Rattle.id_build.proofs.SendsLemmas.{begun, for_each-before, for_each-next}
use Rattle.id_build.proofs.pieces.push_turn.Goals as goal

pub loop-part-init : goal.loop-part-init
loop-part-init c =
    let e = c.args.place in
    begun c.args.pieces.now.items c.push.new.pieces.items
    (for_each c.args.checked.now Next e (carried c.args.checked.now c.args.head ++ c.args.imports.now))
    (piece (Plain (Next Signal)) e) c.in_ok-push.ensures

pub loop-part-preserved : goal.loop-part-preserved
loop-part-preserved c =
    let P = c.args.checked.now in
    let h = c.args.head in
    let e = c.args.place in
    let i = c.loop-part.part in
    let xs = c.loop-part.pieces.items in
    let low : i < length (carried P h) = omega (arith, c.loop-part-test.true, c.carried_count-part-end.ensures.count) in
    let one = c.in_ok-push-2.ensures ∙ ap (λ k. xs ++ piece (Plain (Next k)) e ∷ []) c.port_at.ensures
    ∙ ap (λ b. xs ++ piece (Plain (Next (port_at P b))) e ∷ []) (sym (carried_at P h i low)) in
    for_each-before P Next e i (carried P h) c.args.imports.now xs c.push-in-loop-part.new.pieces.items _ low
    c.loop-part.invariant one

pub loop-import-init : goal.loop-import-init
loop-import-init c =
    let P = c.args.checked.now in
    let cs = carried P c.args.head in
    let none : drop c.loop-part.part cs ≡ [] =
    drop_all c.loop-part.part cs (omega (arith, c.loop-part-test.false, c.carried_count-part-end.ensures.count)) in
    sym (ap (λ z. c.loop-part.pieces.items ++ for_each P Next c.args.place (z ++ c.args.imports.now)) none)
    ∙ c.loop-part.invariant

pub loop-import-preserved : goal.loop-import-preserved
loop-import-preserved c =
    let e = c.args.place in
    let xs = c.loop-import.pieces.items in
    let one = c.in_ok-push-3.ensures ∙ ap (λ k. xs ++ piece (Plain (Next k)) e ∷ []) c.port_at-in-loop-import.ensures in
    for_each-next c.args.checked.now Next e c.loop-import.import-index c.args.imports.now xs
    c.push-in-loop-import.new.pieces.items _ c.loop-import-test.true
    c.loop-import.invariant one

pub returns : goal.returns
returns c =
    rest_done (for_each c.args.checked.now Next c.args.place) c.loop-import.import-index c.args.imports.now
    c.loop-import.pieces.items _ refl
    c.loop-import-test.false c.loop-import.invariant

pub overflow_add-entry : goal.overflow_add-entry
overflow_add-entry c =
    let P = c.args.checked.now in
    let h = c.args.head in
    let low : c.loop-part.part < length (carried P h) =
    omega (arith, c.loop-part-test.true, c.carried_count-part-end.ensures.count) in
    omega (
      arith,
      carried_inside P h c.loop-part.part low,
      rows_half P,
      c.loop-part-test.true,
      c.carried_count-part-end.ensures.few,
    )
