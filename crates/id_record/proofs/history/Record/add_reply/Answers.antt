-- One more reply changes no event.
use Rattle.std.proofs.Common.{◌∷◌, [], ap, ◌∙◌}
use Rattle.id_record.proofs.RecordsLemmas.{AreKept-reply, events_from-replies}
use Rattle.id_record.proofs.history.Record.add_reply.Goals as goal

pub invariant_of-self : goal.invariant_of-self
invariant_of-self c =
    let r = c.self.inside in
    rw (c.push.ensures, c.add_reply.ensures)
    (AreKept-reply r.graph.now r.element r.replies r.handled r.kept c.args.reply c.self.invariant)

pub returns-clause-events : goal.returns-clause-events
returns-clause-events c =
    let r = c.self.inside in
    rw c.push.ensures
    (events_from-replies r.graph.now r.element r.replies (c.args.reply ∷ []) 0 r.handled c.self.invariant.there ∙ ap (λ v. v.events) c.self.view_is)
