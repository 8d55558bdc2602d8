-- The count of an instruction's place says whether it alone has the place.
use Rattle.std.proofs.Common.{◌≡◌, ◌==◌, ◌&&◌, Some, refl, sym, ap, map, ◌∙◌}
use Rattle.std.proofs.lemmas.List.{take_all}
use Rattle.std.specs.Prelude.{slice_get}
use Rattle.std.proofs.lemmas.Option.{slice_get_read}
use Rattle.id_observe.specs.Observed.{is_value_merge, is_label_of}
use Rattle.id_observe.proofs.ObservedLemmas.{marks-next}
use Rattle.id_observe.proofs.shown.label_marks.Goals as goal

pub loop-instr-preserved : goal.loop-instr-preserved
loop-instr-preserved c =
    let is = c.instrs-instr-items.result.now in
    let i = c.instr-item.result in
    let at : slice_get is c.loop-instr.instr-index ≡ Some i =
    slice_get_read is _ _ _ refl c.loop-instr-test.true c.instr-item.is in
    let mark : c.is_counted_label.result ≡ is_label_of c.args.graph.now (Some i) =
    c.is_counted_label.ensures ∙ ap (λ n. is_value_merge i.op && (n == 1)) (c.in_ok-counts.ensures i.place) in
    rw (
      c.in_ok-push.ensures.items,
      c.loop-instr.invariant,
    ) (sym (marks-next c.args.graph.now is c.loop-instr.instr-index i c.is_counted_label.result at mark))

pub returns : goal.returns
returns c =
    let g = c.args.graph.now in
    let is = c.instrs-instr-items.result.now in
    c.loop-instr.invariant ∙ ap (map (λ i. is_label_of g (Some i)))
    (take_all c.loop-instr.instr-index is c.loop-instr-test.false ∙ c.instrs-instr-items.ensures.value)
