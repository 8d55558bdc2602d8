use Rattle.std.proofs.Common.{◌≡◌}
use Rattle.id_elements.specs.Workers.{IsSame}
use Rattle.id_elements.proofs.worker.Worker.post_all.Given as goal

abbrev pub invariant-loop-to : goal.invariant-loop-to
invariant-loop-to g l = record {
  same : IsSame l.fn.self l.self;
  state : l.self.element ≡ l.fn.self.element;
  goes : l.self.goes ≡ l.fn.self.goes;
}
