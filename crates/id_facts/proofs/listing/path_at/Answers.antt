-- One step more.
use Rattle.std.proofs.Common.{◌∙◌}
use Rattle.id_facts.proofs.PathsLemmas.{steps-more}
use Rattle.id_source.proofs.TurnsLemmas.{if_err}
use Rattle.id_facts.proofs.listing.path_at.Goals as goal

pub loop-rest-preserved : goal.loop-rest-preserved
loop-rest-preserved c =
    steps-more c.args.checked.now c.args.facts.now c.in-Below.spot c.in-Below.number c.row_of.result c.loop-rest.rest
    c.path_of-rest.result c.fact-began.result
    c.step_at.result c.loop-rest.steps.items c.push.new.self.items c.in-Below.is c.fact-began.ensures.is
    c.fact-began.ensures.kept c.row_of.ensures
    c.path_of-rest.ensures c.step_at.ensures c.in_ok-push.ensures.items ∙ c.loop-rest.invariant

pub returns-in_err-push : goal.returns-in_err-push
returns-in_err-push c = if_err _ c.from_residual.result c.from_residual.ensures.0
