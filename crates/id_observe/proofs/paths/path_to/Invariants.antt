use Rattle.std.specs.HashMap.{get}
use Rattle.id_tag.specs.Tags.{same_context}
use Rattle.id_observe.proofs.PathsLemmas.{Walks}
use Rattle.id_observe.proofs.paths.path_to.Given as goal

-- the steps that it has are those passed on the way from the tag to where it is
abbrev pub invariant-loop-taken : goal.invariant-loop-taken
invariant-loop-taken l = Walks l.graph (get same_context l.enters) l.most l.fn.tag l.taken l.at l.steps.items
