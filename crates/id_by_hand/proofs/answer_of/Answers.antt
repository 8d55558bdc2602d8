use Rattle.std.proofs.Common.{sym, subst}
use Rattle.id_build.specs.Own.{schemas_of}
use Rattle.id_build.specs.Schemas.{Schemas}
use Rattle.id_source.specs.Sources.{source}
use Rattle.id_by_hand.proofs.RunLemmas.{answered}
use Rattle.id_by_hand.proofs.answer_of.Goals as goal

pub returns-in-Ok-last_first : goal.returns-in-Ok-last_first
returns-in-Ok-last_first c =
    answered (source c.args.prepared.now.compiled.checked c.args.prepared.now.inputs.values) c.valid-graph.result.now 4
    c.in-Ok.machine
    c.last_first.new.machine c.quiet_answer.result c.complete.ensures c.args.prepared.now.own
    (subst (Schemas c.args.prepared.now.compiled.checked) (sym c.valid-graph.ensures.value)
    (schemas_of c.valid-graph.ensures.kept)) c.in-Ok.ensures.ok
    c.in-Ok-last_first.ensures c.quiet_answer.ensures.quiet c.quiet_answer.ensures.shown
