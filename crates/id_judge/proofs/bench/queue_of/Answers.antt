-- One message more stands in the queue.
use Rattle.std.proofs.Common.{[], ◌∷◌, ◌++◌, sym, ◌∙◌}
use Rattle.id_observe.proofs.WalksLemmas.{take-next}
use Rattle.id_judge.proofs.bench.queue_of.Goals as goal

pub loop-position-preserved : goal.loop-position-preserved
loop-position-preserved c =
    c.in_ok-push_back.ensures.messages
    ∙ (λ i. c.loop-position.invariant i ++ c.message-message.result ∷ [])
    ∙ sym (take-next c.args.flight.now c.loop-position.position c.message-message.result c.message-message.ensures)
