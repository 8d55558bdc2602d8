-- One more waits in its queue; past the queues none does.
use Rattle.std.proofs.Common.{◌∷◌, ◌++◌, [], refl, arith, ap, sym, ◌∙◌}
use Rattle.id_facts.proofs.QueuesLemmas.{adds-one, queue-at}
use Rattle.id_facts.proofs.queues.Queues.add.Goals as goal

pub returns-in_ok-push : goal.returns-in_ok-push
returns-in_ok-push c =
    let V = c.args.self.now in
    let old =
    ap (λ v. v.items) c.index_mut.ensures.value
    ∙ sym (queue-at V.queues.items c.args.number c.index_mut.result.now (omega arith)) in
    adds-one V _ c.args.number c.args.wait c.push.new.self refl (omega arith) (c.in_ok-push.ensures.items
    ∙ ap (λ xs. xs ++ c.args.wait ∷ []) old)
