-- One more event adds the fault that it shows, if it shows one.
use Rattle.std.proofs.Common.{append_assoc}
use Rattle.id_observe.specs.Sourced.{fault_of}
use Rattle.id_observe.specs.Paths.{structure_by}
use Rattle.id_observe.specs.Paths.{path_by}
use Rattle.id_observe.proofs.WalksLemmas.{filter_map-next}
use Rattle.id_observe.proofs.faults.add_faults.Goals as goal

pub loop-position-preserved : goal.loop-position-preserved
loop-position-preserved c =
    let next =
    filter_map-next
    (λ e. fault_of c.args.paths.now.graph.now (path_by c.args.paths.now) (structure_by c.args.paths.now) e.step)
    c.args.events.now
    c.loop-position.position _ c.event-event.ensures in
    rw (c.in_ok-add_fault.ensures, c.in_ok-source_fault.ensures, c.loop-position.invariant, next, append_assoc)
