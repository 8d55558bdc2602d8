-- One more reply adds its fetch.
use Rattle.std.proofs.Common.{append_assoc}
use Rattle.id_observe.specs.Observed.{ask_of}
use Rattle.id_observe.specs.Paths.{structure_by}
use Rattle.id_observe.specs.Paths.{path_by}
use Rattle.id_observe.proofs.WalksLemmas.{map-at}
use Rattle.id_observe.proofs.shown.add_asks.Goals as goal

pub loop-reader-preserved : goal.loop-reader-preserved
loop-reader-preserved c =
    let next =
    map-at (ask_of c.args.paths.now.graph.now (path_by c.args.paths.now) (structure_by c.args.paths.now))
    c.args.readers.now
    c.loop-reader.reader-index _ _ c.loop-reader-test.true c.in_ok-ask_of.ensures in
    rw (c.in_ok-push.ensures.items, c.loop-reader.invariant, next, append_assoc)
