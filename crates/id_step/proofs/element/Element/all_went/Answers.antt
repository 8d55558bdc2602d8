-- No event was a fault or `Stuck`.
use Rattle.std.proofs.Common.{◌≡◌, true, false, None, ap, sym, ◌∙◌, arith}
use Rattle.std.proofs.lemmas.Grind.{common_steps}
use Rattle.id_record.specs.Tellings.{any_stuck, first_fault}
use Rattle.id_step.proofs.EventsLemmas.{no_fault_if, went_if}
use Rattle.id_step.proofs.element.Element.all_went.Goals as goal

pub returns-then-not-is_stuck : goal.returns-then-not-is_stuck
returns-then-not-is_stuck c =
    let es = c.self.inside.storage.log.events in
    let stuck : any_stuck es ≡ false = sym c.is_stuck.ensures ∙ c.if-not-is_stuck.true in
    rw (← ap (λ v. v.state) c.self.view_is) (
      λ none. went_if es stuck (let fault : first_fault es ≡ None = grind (arith, common_steps) in fault),
      λ all. let fault = (no_fault_if es all).1 in grind (arith, common_steps),
    )

pub returns-else-not-is_stuck : goal.returns-else-not-is_stuck
returns-else-not-is_stuck c =
    let es = c.self.inside.storage.log.events in
    let stuck : any_stuck es ≡ true = sym c.is_stuck.ensures ∙ c.if-not-is_stuck.false in
    rw (← ap (λ v. v.state) c.self.view_is) (
      λ none. let no = none in grind (arith, common_steps),
      λ all. let none = (no_fault_if es all).0 in grind (arith, common_steps),
    )
