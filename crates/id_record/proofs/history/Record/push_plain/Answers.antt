-- Nothing is to be kept of the event, and the record goes on by it.
use Rattle.std.proofs.Common.{◌≡◌, refl, ap, ◌∙◌, arith}
use Rattle.id_record.specs.declared.kept.Keeps.TheVariants.{Tellings}
use Rattle.id_record.specs.Handlings.{HasThere}
use Rattle.id_record.specs.PlainFirings.{plain_firing}
use Rattle.id_record.proofs.RecordsLemmas.{AreKept-pass, pushed}
use Rattle.id_record.proofs.TellingsLemmas.{not_zero, plain-silent}
use Rattle.id_record.proofs.history.Record.push_plain.Goals as goal

pub invariant_of-self : goal.invariant_of-self
invariant_of-self c =
    let r = c.self.inside in
    let h = plain_firing c.args.event in
    let there : HasThere r.replies h = omega arith in
    let little : r.kept.keeps ≡ Tellings = ap (λ v. v.keeps) c.self.view_is ∙ c.keeps_little.ensures c.if-keeps_little.true in
    rw (c.push.ensures, c.plain_handled.ensures, c.pass.ensures)
    (AreKept-pass r.graph.now r.element r.replies r.handled r.kept h c.self.invariant there little (plain-silent c.args.event c.requires.makes_none (not_zero c.args.event.token.now.instr c.if-event-ne0.true)) refl)

pub returns-then-event-ne0 : goal.returns-then-event-ne0
returns-then-event-ne0 c =
    let r = c.self.inside in
    record {
      element = ap (λ v. v.element) c.self.view_is;
      graph = ap (λ v. v.graph) c.self.view_is;
      keeps = ap (λ k. k.keeps) c.pass.ensures ∙ ap (λ v. v.keeps) c.self.view_is;
      events =
          rw (
            ← ap (λ v. v.events) c.self.view_is,
            ← ap (λ v. v.graph) c.self.view_is,
            ← ap (λ v. v.element) c.self.view_is,
            c.push.ensures,
            c.plain_handled.ensures,
          )
          (pushed r.graph.now r.element r.replies r.handled (plain_firing c.args.event));
    }
