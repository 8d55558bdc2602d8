-- One more event adds what its fetch asks for, if it is a read.
use Rattle.std.proofs.Common.{append_assoc}
use Rattle.id_observe.specs.Paths.{path_by, structure_by}
use Rattle.id_observe.proofs.ObservedLemmas.{asks_of-events}
use Rattle.id_observe.proofs.asks.add_handled.Goals as goal

pub loop-position-preserved : goal.loop-position-preserved
loop-position-preserved c =
    let p = c.args.paths.now in
    let next =
    asks_of-events p.graph.now (path_by p) (structure_by p) c.args.events.now c.loop-position.position _
    c.payload-payload.ensures in
    rw (c.in_ok-add_ask.ensures, c.reader_in.ensures, c.loop-position.invariant, next, append_assoc)
