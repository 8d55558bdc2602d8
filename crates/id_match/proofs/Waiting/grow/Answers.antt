-- the larger front has what the smaller had
use Rattle.std.proofs.Common.{◌≡◌, ◌∙◌, ap, arith}
use Rattle.std.proofs.lemmas.Grind.{common_steps}
use Rattle.std.specs.FinMap.{entries}
use Rattle.std.specs.Map.{lookup}
use Rattle.id_tag.specs.Tags.{same_tag}
use Rattle.id_match.specs.Front.{front_entries}
use Rattle.id_match.proofs.FrontLemmas.{moved_kept, moved_same}
use Rattle.id_match.proofs.Waiting.grow.Goals as goal

pub invariant_of-self : goal.invariant_of-self
invariant_of-self c =
    let same : c.deref-then-count-len.result.now ≡ c.self.inside.front.items = grind (arith, common_steps) in
    moved_kept c.self.inside.front.items c.in-Some.front.items (entries c.self.inside.rear) _ c.self.view_is c.self.invariant c.in-Some.ensures.placed
    (λ t. c.in-Some.ensures.same t ∙ ap (λ l. lookup (same_tag t) (front_entries l)) same) c.in-Some.ensures.marked

pub returns-in-Some : goal.returns-in-Some
returns-in-Some c =
    let same : c.deref-then-count-len.result.now ≡ c.self.inside.front.items = grind (arith, common_steps) in
    moved_same c.self.inside.front.items c.in-Some.front.items (entries c.self.inside.rear) _ c.self.view_is c.self.invariant c.in-Some.ensures.placed
    (λ t. c.in-Some.ensures.same t ∙ ap (λ l. lookup (same_tag t) (front_entries l)) same)
