use Rattle.id_elements.specs.Workers.{IsSameWithin}
use Rattle.id_elements.proofs.worker.Worker.work.Given as goal

abbrev pub invariant-loop : goal.invariant-loop
invariant-loop g l = IsSameWithin l.steps l.fn.self l.self
