-- The names of the records so far are there.
use Rattle.std.proofs.Common.{◌≡◌, map, take}
use Rattle.id_observe.specs.Paths.{events_of, structure_by}
use Rattle.id_observe.specs.Observed.{label_marks, names_of}
use Rattle.id_observe.specs.Paths.{path_by}
use Rattle.id_observe.proofs.shown.all_names.Given as goal

abbrev pub invariant-loop-element : goal.invariant-loop-element
invariant-loop-element l = record {
  names : l.names.items ≡ names_of l.paths.graph.now (path_by l.paths) (structure_by l.paths)
      (events_of (map (λ e. e.state) (take l.element-index l.paths.elements.now)));
  marks : l.marks.items ≡ label_marks l.paths.graph.now;
}
