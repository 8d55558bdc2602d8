-- the loop runs over what the map lists
use Rattle.std.proofs.Common.{◌≡◌, ◌∙◌, ap, sym, subst, IfOk}
use Rattle.std.specs.List.{flat_map}
use Rattle.std.proofs.lemmas.List.Folds.{flat_map-map}
use Rattle.id_bank.specs.Cells.{readers_at, deferred_of}
use Rattle.id_bank.specs.Slots.{held_in}
use Rattle.id_bank.proofs.SlotsLemmas.{deferred_of-none}
use Rattle.std.proofs.lemmas.List.Elements.{recursion_from_All}
use Rattle.id_bank.proofs.Bank.deferred.Goals as goal

pub returns : goal.returns
returns c =
    let all = ap (flat_map (λ e. readers_at (e.0, held_in e.1.now))) c.deref.ensures.value
    ∙ sym (flat_map-map readers_at (λ e. (e.0, held_in e.1.now)) c.in_ok-slots.slots.items)
    ∙ ap (flat_map readers_at) c.in_ok-slots.ensures
    ∙ ap deferred_of c.self.view_is in
    record { items = subst (λ l. IfOk c.waiting.result (λ es. es.items ≡ l)) all c.waiting.ensures }

-- no reply waits
pub returns-then-none_waits : goal.returns-then-none_waits
returns-then-none_waits c =
    let es = c.self.inside.pages.entries in
    let none = deferred_of-none es (recursion_from_All _ _ (c.none_waits.ensures.0 c.if-none_waits.true)) in
    record { items = c.new.ensures.items ∙ sym none ∙ ap deferred_of c.self.view_is }
