use Rattle.std.proofs.Common.{◌≡◌, Some, slice_get, sym, ap, ◌∙◌}
use Rattle.id_elements.proofs.FinishLemmas.{free_by, held_by}
use Rattle.id_elements.proofs.finish.is_held_back.Goals as goal

pub returns : goal.returns
returns c =
    let w = c.args.machine.now.world in
    let x = c.message-message.result in
    let there : slice_get w.flight c.args.position ≡ Some x =
    ap (λ l. slice_get l c.args.position) (sym c.in_flight.ensures.value) ∙ c.message-message.ensures in
    record {
      held = λ so. held_by w c.args.machine.now.count c.args.steps c.args.position _ x there c.element_for.ensures
          (c.takes_no_more.ensures.held so);
      free = λ no. free_by w c.args.machine.now.count c.args.steps c.args.position _ x there c.element_for.ensures
          (c.takes_no_more.ensures.some no) (c.takes_no_more.ensures.stamp no);
    }
