-- One more structure is there.
use Rattle.id_observe.specs.Observed.{shape_at}
use Rattle.id_observe.specs.Paths.{path_by}
use Rattle.id_observe.proofs.WalksLemmas.{map-at}
use Rattle.id_observe.proofs.shown.all_structures.Goals as goal

pub loop-making-preserved : goal.loop-making-preserved
loop-making-preserved c =
    let shape = shape_at c.args.paths.now.graph.now (path_by c.args.paths.now) in
    let makings = c.makings-making-items.result.now in
    let next = map-at shape makings c.loop-making.making-index _ _ c.loop-making-test.true c.in_ok-shape_at.ensures in
    rw (c.in_ok-push.ensures.items, c.loop-making.invariant, next)
