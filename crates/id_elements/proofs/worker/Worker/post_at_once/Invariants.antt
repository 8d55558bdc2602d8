use Rattle.std.proofs.Common.{◌≡◌}
use Rattle.id_elements.specs.Workers.{IsSame}
use Rattle.id_elements.proofs.worker.Worker.post_at_once.Given as goal

abbrev pub invariant-loop-rest : goal.invariant-loop-rest
invariant-loop-rest g l = record {
  same : IsSame l.fn.self l.self;
  state : l.self.element ≡ l.fn.self.element;
  goes : l.self.goes ≡ l.fn.self.goes;
}

abbrev pub decreases-loop-rest : goal.decreases-loop-rest
decreases-loop-rest g l = l.rest
