-- The records so far have no answer.
use Rattle.std.proofs.Common.{◌≡◌, [], map, take}
use Rattle.id_observe.specs.Paths.{answers, events_of}
use Rattle.id_observe.proofs.answered.first_value.Given as goal

abbrev pub invariant-loop-element : goal.invariant-loop-element
invariant-loop-element l = answers (events_of (map (λ e. e.state) (take l.element-index l.elements))) ≡ []
