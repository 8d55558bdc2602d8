-- The last message stands where one was taken out.
use Rattle.std.proofs.Common.{◌≡◌, ◌<◌, ◌∷◌, List, Some, length, slice_get, sym, subst}
use Rattle.id_tag.specs.declared.Message.{Message}
use Rattle.id_runs.specs.Legal.{InSomeOrder}
use Rattle.id_judge.proofs.OrderLemmas.{taken_first}
use Rattle.id_judge.proofs.SmallLemmas.{small_less}
use Rattle.id_judge.proofs.pool.Pool.take.Goals as goal

pub returns-then-position-len : goal.returns-then-position-len
returns-then-position-len c = λ m at.
    subst (λ (ns : List Message). InSomeOrder c.args.self.now (m ∷ ns)) (sym c.note.ensures)
    (subst (λ (ms : List Message). slice_get ms c.args.position ≡ Some m
    → InSomeOrder ms (m ∷ c.swap_remove-taken.new.self.items))
    c.self.view_is
    (taken_first c.self.inside.messages.items c.swap_remove-taken.new.self.items c.args.position
    c.swap_remove-taken.result m
    c.swap_remove-taken.ensures.value c.swap_remove-taken.ensures.items)
    at)

pub returns-else-position-len : goal.returns-else-position-len
returns-else-position-len c = λ m at.
    subst (λ (ms : List Message). slice_get ms c.args.position ≡ Some m
    → InSomeOrder ms (m ∷ c.swap_remove-taken.new.self.items)) c.self.view_is
    (taken_first c.self.inside.messages.items c.swap_remove-taken.new.self.items c.args.position
    c.swap_remove-taken.result m
    c.swap_remove-taken.ensures.value c.swap_remove-taken.ensures.items)
    at

pub invariant_of-self : goal.invariant_of-self
invariant_of-self c =
    small_less c.self.inside.messages.items c.swap_remove-taken.new.self.items c.args.position
    c.swap_remove-taken.result
    (subst (λ (ms : List Message). c.args.position < length ms) (sym c.self.view_is) c.requires)
    c.swap_remove-taken.ensures.value
    c.swap_remove-taken.ensures.items c.self.invariant

pub invariant_of-self-else-position-len : goal.invariant_of-self-else-position-len
invariant_of-self-else-position-len c =
    small_less c.self.inside.messages.items c.swap_remove-taken.new.self.items c.args.position
    c.swap_remove-taken.result
    (subst (λ (ms : List Message). c.args.position < length ms) (sym c.self.view_is) c.requires)
    c.swap_remove-taken.ensures.value
    c.swap_remove-taken.ensures.items c.self.invariant
