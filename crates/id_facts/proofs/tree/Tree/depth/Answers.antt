-- The depths of the facts give that of any path.
use Rattle.id_facts.proofs.DepthsLemmas.{depth-known}
use Rattle.id_facts.proofs.tree.Tree.depth.Goals as goal

pub returns-clause-is : goal.returns-clause-is
returns-clause-is c =
    rw c.self.view_is at
    (depth-known c.self.inside.facts c.self.inside.depths.items c.as_slice.result.now c.self.invariant
    c.as_slice.ensures.value c.args.trail
    c.depth_of.result c.depth_of.ensures)

pub returns-clause-kept : goal.returns-clause-kept
returns-clause-kept c = rw c.self.view_is at c.self.invariant.before
