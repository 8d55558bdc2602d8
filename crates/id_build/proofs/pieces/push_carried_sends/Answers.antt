-- One more send to the entry of what is carried on.
use Rattle.std.proofs.Common.{◌∙◌, ◌++◌, ◌∷◌, [], ◌<◌, length, ap, sym, arith, map, refl}
use Rattle.id_desugar.specs.Regions.{carried}
use Rattle.id_build.specs.Rows.{param_entry, send_to}
use Rattle.id_build.proofs.PushedLemmas.{rest_done}
use Rattle.id_build.proofs.LoopsLemmas.{carried_at, carried_inside, rows_half}
use Rattle.id_build.proofs.SendsLemmas.{carried_entries-next}
use Rattle.id_build.proofs.pieces.push_carried_sends.Goals as goal

pub loop-part-init : goal.loop-part-init
loop-part-init c = refl

pub loop-part-preserved : goal.loop-part-preserved
loop-part-preserved c =
    let P = c.args.checked.now in
    let h = c.args.head in
    let i = c.loop-part.part in
    let xs = c.loop-part.pieces.items in
    let low : i < length (carried P h) = omega (arith, c.loop-part-test.true, c.carried_count-part-end.ensures.count) in
    carried_entries-next (send_to P c.args.place) i (carried P h) xs c.push_send.new.pieces.items _ low
    c.loop-part.invariant
    (c.in_ok-push_send.ensures
    ∙ ap (λ b. xs ++ send_to P c.args.place (param_entry b) ∷ []) (sym (carried_at P h i low)))

pub returns : goal.returns
returns c =
    rest_done (λ z. map (send_to c.args.checked.now c.args.place) (map param_entry z)) c.loop-part.part
    (carried c.args.checked.now c.args.head)
    c.loop-part.pieces.items _ refl (omega (arith, c.loop-part-test.false, c.carried_count-part-end.ensures.count))
    c.loop-part.invariant

pub overflow_add-entry : goal.overflow_add-entry
overflow_add-entry c =
    let P = c.args.checked.now in
    let h = c.args.head in
    let low : c.loop-part.part < length (carried P h) =
    omega (arith, c.loop-part-test.true, c.carried_count-part-end.ensures.count) in
    omega (
      arith,
      carried_inside P h c.loop-part.part low,
      rows_half P,
      c.loop-part-test.true,
      c.carried_count-part-end.ensures.few,
    )
