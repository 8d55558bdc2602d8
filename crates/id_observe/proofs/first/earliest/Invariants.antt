-- The first fault of the elements so far is found, and each of them replays.
use Rattle.std.proofs.Common.{◌≡◌, map, take}
use Rattle.std.specs.List.{All}
use Rattle.id_step.specs.Replays.{Replays}
use Rattle.id_observe.specs.Firsts.{earliest_in}
use Rattle.id_observe.proofs.first.earliest.Given as goal

abbrev pub invariant-loop-element : goal.invariant-loop-element
invariant-loop-element l = record {
  first : l.first ≡ earliest_in (map (λ e. e.state) (take l.element-index l.elements));
  kept : All Replays (take l.element-index l.elements);
}
