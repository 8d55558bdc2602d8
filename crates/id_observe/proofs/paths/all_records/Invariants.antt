-- What the records so far tell is there.
use Rattle.std.proofs.Common.{map, take}
use Rattle.id_observe.specs.Paths.{AreTold, events_of}
use Rattle.id_observe.proofs.paths.all_records.Given as goal

abbrev pub invariant-loop-element : goal.invariant-loop-element
invariant-loop-element l =
    AreTold l.records.graph.now (events_of (map (λ e. e.state) (take l.element-index l.records.elements.now))) l.tables
