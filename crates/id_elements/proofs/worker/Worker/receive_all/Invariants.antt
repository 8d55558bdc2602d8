use Rattle.std.proofs.Common.{◌≡◌}
use Rattle.id_elements.specs.Workers.{IsSame}
use Rattle.id_elements.proofs.worker.Worker.receive_all.Given as goal

abbrev pub invariant-loop : goal.invariant-loop
invariant-loop g l = record {
  same : IsSame l.fn.self l.self;
  state : l.self.element ≡ l.fn.self.element;
  goes : l.self.goes ≡ l.fn.self.goes;
}
