-- The record goes on by this event.
use Rattle.std.proofs.Common.{sym, ap, subst, ◌∙◌}
use Rattle.id_record.specs.Handlings.{AreThere}
use Rattle.id_record.proofs.RecordsLemmas.{AreKept-note, pushed}
use Rattle.id_record.proofs.history.Record.note.Goals as goal

pub invariant_of-self : goal.invariant_of-self
invariant_of-self c =
    let r = c.self.inside in
    let h = c.args.event.now in
    let there = subst (λ ts. AreThere ts h.replies) (sym (ap (λ v. v.replies) c.self.view_is)) c.requires.replies in
    rw (c.push.ensures, c.note.ensures, c.graph.ensures.value)
    (AreKept-note r.graph.now r.element r.replies r.handled r.kept h c.self.invariant there)

pub returns : goal.returns
returns c =
    let r = c.self.inside in
    let h = c.args.event.now in
    record {
      element = ap (λ v. v.element) c.self.view_is;
      graph = ap (λ v. v.graph) c.self.view_is;
      keeps = ap (λ k. k.keeps) c.note.ensures ∙ ap (λ v. v.keeps) c.self.view_is;
      events =
          rw (
            ← ap (λ v. v.events) c.self.view_is,
            ← ap (λ v. v.graph) c.self.view_is,
            ← ap (λ v. v.element) c.self.view_is,
            ← ap (λ v. v.replies) c.self.view_is,
            c.push.ensures,
          )
          (pushed r.graph.now r.element r.replies r.handled h);
    }
