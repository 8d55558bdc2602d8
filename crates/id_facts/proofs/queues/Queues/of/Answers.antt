-- What waits in a queue.
use Rattle.std.proofs.Common.{ap, sym, ◌∙◌, arith}
use Rattle.id_facts.proofs.QueuesLemmas.{queue-at, queue-past}
use Rattle.id_facts.proofs.queues.Queues.of.Goals as goal

pub returns-then-number-len : goal.returns-then-number-len
returns-then-number-len c =
    c.as_slice.ensures.value ∙ ap (λ v. v.items) c.index.ensures
    ∙ sym (queue-at c.args.self.now.queues.items c.args.number c.index.result.now (omega arith))

pub returns-else-number-len : goal.returns-else-number-len
returns-else-number-len c = sym (queue-past c.args.self.now.queues.items c.args.number (omega arith))
