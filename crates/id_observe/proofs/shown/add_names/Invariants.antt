-- The names by what came so far are there.
use Rattle.std.proofs.Common.{◌≡◌, ◌++◌, take}
use Rattle.std.specs.List.{filter_map}
use Rattle.id_observe.specs.Observed.{name_in}
use Rattle.id_observe.specs.Paths.{path_by, structure_by}
use Rattle.id_observe.proofs.shown.add_names.Given as goal

abbrev pub invariant-loop-payload : goal.invariant-loop-payload
invariant-loop-payload l = l.names.items ≡ l.fn.names.items
    ++ filter_map (name_in l.paths.graph.now (path_by l.paths) (structure_by l.paths)) (take l.payload-index l.merged)
