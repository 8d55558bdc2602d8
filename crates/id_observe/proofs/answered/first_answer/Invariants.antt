-- What was told so far is no answer.
use Rattle.std.proofs.Common.{◌≡◌, [], take}
use Rattle.std.specs.List.{filter_map}
use Rattle.id_observe.specs.Tellings.{value_told}
use Rattle.id_observe.proofs.answered.first_answer.Given as goal

abbrev pub invariant-loop-position : goal.invariant-loop-position
invariant-loop-position l = filter_map value_told (take l.position l.tellings.items) ≡ []
