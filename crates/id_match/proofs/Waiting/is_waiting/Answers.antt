-- what waits is in the front or behind
use Rattle.std.proofs.Common.{◌≡◌, ◌∙◌, sym, ap, is_some, arith}
use Rattle.std.proofs.lemmas.Grind.{common_steps}
use Rattle.std.specs.FinMap.{entries}
use Rattle.id_match.specs.Front.{front_half}
use Rattle.id_match.proofs.FramesLemmas.{in_front, not_in_front}
use Rattle.id_match.proofs.Waiting.is_waiting.Goals as goal

pub returns-then-has : goal.returns-then-has
returns-then-has c =
    let front : c.deref.result.now ≡ c.self.inside.front.items = grind (arith, common_steps) in
    c.if-has.true
    ∙ sym (in_front c.self.inside.front.items (entries c.self.inside.rear) c.args.self.now c.self.view_is c.self.invariant c.args.tag
    (ap (λ f. is_some (front_half f c.args.tag)) (sym front) ∙ sym c.has.ensures ∙ c.if-has.true))

pub returns-else-has : goal.returns-else-has
returns-else-has c =
    let front : c.deref.result.now ≡ c.self.inside.front.items = grind (arith, common_steps) in
    c.has-else-has.ensures
    ∙ sym (not_in_front c.self.inside.front.items (entries c.self.inside.rear) c.args.self.now c.self.view_is c.self.invariant c.args.tag
    (ap (λ f. is_some (front_half f c.args.tag)) (sym front) ∙ sym c.has.ensures ∙ c.if-has.false))
