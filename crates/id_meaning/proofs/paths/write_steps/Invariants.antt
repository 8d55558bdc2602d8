-- The steps of the path that is left stand before those that are written.
use Rattle.std.proofs.Common.{length}
use Rattle.id_facts.specs.Depths.{depth_at}
use Rattle.id_meaning.proofs.WrittenLemmas.{AreWritten}
use Rattle.id_meaning.proofs.paths.write_steps.Given as goal

abbrev pub invariant-loop-rest : goal.invariant-loop-rest
invariant-loop-rest l =
    AreWritten l.checked l.tree l.fn.trail l.rest l.start (length l.initial.steps.items) l.steps.items

abbrev pub decreases-loop-rest : goal.decreases-loop-rest
decreases-loop-rest l = depth_at l.tree l.rest
