-- What the records tell names each structure.
use Rattle.std.proofs.Common.{map, refl}
use Rattle.id_observe.specs.declared.records.Paths.{Paths}
use Rattle.id_observe.specs.Paths.{events_of}
use Rattle.id_observe.proofs.PathsLemmas.{path_by-same, structure_by-same}
use Rattle.id_observe.proofs.records.Paths.new.Goals as goal

pub returns-clause-structures : goal.returns-clause-structures
returns-clause-structures c =
    let g = c.args.records.now.graph.now in
    let es = events_of (map (λ e. e.state) c.args.records.now.elements.now) in
    let told = c.in_ok-tables.ensures in
    let p : Paths =
    record {
      graph = c.args.records.now.graph;
      elements = c.args.records.now.elements;
      enters = c.in_ok-tables.tables.enters;
      makers = c.in_ok-tables.tables.makers;
      makings = c.in_ok-tables.tables.makings;
      most = c.count_events-most.result;
      values = c.in_ok-tables.tables.values;
      of = c.args.records.now.of;
    } in
    structure_by-same g es p refl (path_by-same g es p refl told.enters c.count_events-most.ensures) told.makers
