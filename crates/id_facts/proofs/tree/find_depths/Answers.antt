-- The depth of one fact more.
use Rattle.std.proofs.Common.{◌+◌, refl, ap, ◌∙◌}
use Rattle.id_facts.specs.RowFacts.{path_of}
use Rattle.id_facts.specs.Depths.{depth_by}
use Rattle.id_facts.proofs.DepthsLemmas.{depths-more}
use Rattle.id_facts.proofs.tree.find_depths.Goals as goal

pub loop-number-preserved : goal.loop-number-preserved
loop-number-preserved c =
    let n = c.loop-number.number in
    depths-more c.args.facts.now n (n + 1) c.loop-number.depths.items c.push.new.self.items c.depth_of-depth.result
    c.path_of.result c.requires
    c.loop-number.invariant (c.path_of.ensures ∙ ap path_of c.fact.ensures.is)
    (c.depth_of-depth.ensures ∙ ap (λ ds. depth_by ds c.path_of.result) c.as_slice.ensures.value)
    c.in_ok-push.ensures.items refl
