-- Nothing is to be kept of the event, and the record goes on by it.
use Rattle.std.proofs.Common.{◌≡◌, refl, sym, ap, subst, ◌∙◌}
use Rattle.id_record.specs.declared.kept.Keeps.TheVariants.{Tellings}
use Rattle.id_record.specs.Handlings.{AreThere, HasThere}
use Rattle.id_record.specs.CellEvents.{cell_event}
use Rattle.id_record.proofs.RecordsLemmas.{AreKept-pass, pushed}
use Rattle.id_record.proofs.TellingsLemmas.{cell_event-silent}
use Rattle.id_record.proofs.history.Record.push_cell_event.Goals as goal

pub invariant_of-self : goal.invariant_of-self
invariant_of-self c =
    let r = c.self.inside in
    let h = cell_event c.args.event in
    let there : HasThere r.replies h = subst (λ ts. AreThere ts (cell_event c.args.event).replies) (sym (ap (λ v. v.replies) c.self.view_is)) c.requires.replies in
    let little : r.kept.keeps ≡ Tellings = ap (λ v. v.keeps) c.self.view_is ∙ c.keeps_little.ensures c.if-keeps_little.true in
    rw (c.push.ensures, c.cell_handled.ensures, c.pass.ensures)
    (AreKept-pass r.graph.now r.element r.replies r.handled r.kept h c.self.invariant there little (cell_event-silent c.args.event) refl)

pub returns-then-keeps_little : goal.returns-then-keeps_little
returns-then-keeps_little c =
    let r = c.self.inside in
    record {
      element = ap (λ v. v.element) c.self.view_is;
      graph = ap (λ v. v.graph) c.self.view_is;
      keeps = ap (λ k. k.keeps) c.pass.ensures ∙ ap (λ v. v.keeps) c.self.view_is;
      events =
          rw (
            ← ap (λ v. v.events) c.self.view_is,
            ← ap (λ v. v.graph) c.self.view_is,
            ← ap (λ v. v.element) c.self.view_is,
            ← ap (λ v. v.replies) c.self.view_is,
            c.push.ensures,
            c.cell_handled.ensures,
          )
          (pushed r.graph.now r.element r.replies r.handled (cell_event c.args.event));
    }
