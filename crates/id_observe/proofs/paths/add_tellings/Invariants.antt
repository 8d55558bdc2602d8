-- What was told so far is added.
use Rattle.std.proofs.Common.{take}
use Rattle.id_observe.specs.Tellings.{AddsTold}
use Rattle.id_observe.proofs.paths.add_tellings.Given as goal

abbrev pub invariant-loop-position : goal.invariant-loop-position
invariant-loop-position l = AddsTold l.graph (take l.position l.tellings.items) l.fn.tables l.tables
