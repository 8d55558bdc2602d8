-- each call of the closure gives the tag
use Rattle.std.proofs.lemmas.List.Sorted.{answers_always}
use Rattle.std.proofs.Common.{rules}
use Rattle.id_match.proofs.rear.sort_by_tag.Goals as goal

pub returns-clause-sorted : goal.returns-clause-sorted
returns-clause-sorted c = c.sort_unstable_by_key.ensures.sorted (λ e. e.tag) (answers_always _ _ _ (λ f a r g h. search rules))
