-- The events of the records so far are counted.
use Rattle.std.proofs.Common.{◌≡◌, ◌≤◌, ◌*◌, length, map, take}
use Rattle.id_observe.specs.Paths.{events_of}
use Rattle.id_observe.proofs.paths.count_events.Given as goal

abbrev pub invariant-loop-element : goal.invariant-loop-element
invariant-loop-element l = record {
  counted : l.count ≡ length (events_of (map (λ e. e.state) (take l.element-index l.elements)));
  few : l.count ≤ l.element-index * 18446744073709551615;
}
