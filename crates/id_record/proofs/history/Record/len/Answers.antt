-- As many as were handled.
use Rattle.std.proofs.Common.{length, sym, ap, ◌∙◌}
use Rattle.id_record.proofs.RecordsLemmas.{length-events_from}
use Rattle.id_record.proofs.history.Record.len.Goals as goal

pub returns : goal.returns
returns c =
    let r = c.self.inside in
    c.len.ensures ∙ c.self.invariant.len ∙ sym (length-events_from r.graph.now r.element r.replies 0 r.handled)
    ∙ ap (λ v. length v.events) c.self.view_is
