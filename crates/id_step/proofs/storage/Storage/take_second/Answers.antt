-- What waited before is what was offered to.
use Rattle.std.proofs.Common.{subst}
use Rattle.id_match.specs.declared.meeting.Met.{Met}
use Rattle.id_step.specs.Firings.{IsMet}
use Rattle.id_step.proofs.storage.Storage.take_second.Goals as goal

pub keep-requires-clause-came : goal.keep-requires-clause-came
keep-requires-clause-came g c =
    let a = c.args in
    let is = c.in-Ok-Kept in (
      a.self.now.waiting,
      subst (λ (m : Met). IsMet a.instr.now.op a.self.now.waiting c.offer.new.waiting a.token.now m) is.field-0-is
          is.ensures.met,
    )

pub take_two-requires-clause-came : goal.take_two-requires-clause-came
take_two-requires-clause-came g c =
    let a = c.args in
    let is = c.in-Ok-Partner in
    let met =
    subst (λ (m : Met). IsMet a.instr.now.op a.self.now.waiting c.offer.new.waiting a.token.now m) is.field-0-is
    is.ensures.met in
    (a.self.now.waiting, met _ _ c.by_port-left.ensures)
