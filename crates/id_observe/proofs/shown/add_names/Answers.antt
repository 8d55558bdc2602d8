-- One more token adds the name that it shows, if it shows one.
use Rattle.std.proofs.Common.{append_assoc}
use Rattle.id_observe.specs.Observed.{name_in}
use Rattle.id_observe.specs.Paths.{path_by, structure_by}
use Rattle.id_observe.proofs.WalksLemmas.{filter_map-at}
use Rattle.id_observe.proofs.shown.add_names.Goals as goal

pub loop-payload-preserved : goal.loop-payload-preserved
loop-payload-preserved c =
    let p = c.args.paths.now in
    let next =
    filter_map-at (name_in p.graph.now (path_by p) (structure_by p)) c.args.merged.now c.loop-payload.payload-index _ _
    c.loop-payload-test.true c.in_ok-name_in.ensures in
    rw (c.in_ok-add_name.ensures, c.loop-payload.invariant, next, append_assoc)
