use Rattle.std.proofs.Common.{IsTrue}
use Rattle.id_elements.specs.Workers.{IsSameWithin}
use Rattle.id_elements.proofs.worker.Worker.burst.Given as goal

abbrev pub invariant-loop : goal.invariant-loop
invariant-loop g l = record {
  within : IsSameWithin l.steps l.fn.self l.self;
  goes : IsTrue l.self.goes;
}
