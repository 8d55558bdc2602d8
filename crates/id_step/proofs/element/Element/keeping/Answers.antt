-- Nothing was handled, so the empty record replays.
use Rattle.std.proofs.Common.{ap}
use Rattle.id_step.proofs.ReplaysLemmas.{Replays-fresh}
use Rattle.id_step.proofs.element.Element.keeping.Goals as goal

pub invariant_of-result : goal.invariant_of-result
invariant_of-result c = (
  record {
    replays = Replays-fresh _ (ap (λ e. e.state) c.new.ensures);
    valid = rw (ap (λ e. e.graph) c.new.ensures) c.graph.ensures.kept;
    bound = rw (
      ap (λ e. e.graph) c.new.ensures,
      ap (λ e. e.number) c.new.ensures,
      ← c.graph.ensures.value,
    ) c.bound.ensures;
  },
  c.new-2.ensures,
)
