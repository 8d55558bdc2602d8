-- what was listed stands behind the slots
use Rattle.std.proofs.Common.{◌≡◌, ◌∙◌, map, sym, ap, arith}
use Rattle.std.proofs.lemmas.Grind.{common_steps}
use Rattle.std.specs.FinMap.{entries}
use Rattle.std.specs.Map.{lookup}
use Rattle.id_tag.specs.Tags.{same_tag}
use Rattle.id_match.specs.Front.{half_entry}
use Rattle.id_match.proofs.BehindLemmas.{halves_kept}
use Rattle.id_match.proofs.larger_front.Goals as goal

pub returns-in-Ok-clause-marked : goal.returns-in-Ok-clause-marked
returns-in-Ok-clause-marked c =
    let is : c.deref.result.now ≡ c.in-Ok.entries.items = grind (arith, common_steps) in
    halves_kept c.mark.new.front.items (map half_entry c.deref.result.now) (entries c.args.rear.now)
    (λ u. sym (ap (λ l. lookup (same_tag u) (map half_entry l)) is ∙ c.in-Ok.ensures u)) c.mark.ensures.marked
