-- What is told next is added to what was told.
use Rattle.id_observe.proofs.TellingsLemmas.{AddsTold-next, AddsTold-none}
use Rattle.id_observe.proofs.paths.add_tellings.Goals as goal

pub loop-position-init : goal.loop-position-init
loop-position-init c = AddsTold-none c.args.graph.now c.args.tables.now

pub loop-position-preserved : goal.loop-position-preserved
loop-position-preserved c =
    AddsTold-next c.args.graph.now c.args.tellings.now.items c.loop-position.position _ c.args.tables.now
    c.loop-position.tables _ c.telling.ensures
    c.loop-position.invariant c.in_ok-add_telling.ensures
