use Rattle.id_source.specs.Sources.{Source, source}
use Rattle.id_build.specs.Own.{schemas_of}
use Rattle.id_engine.proofs.RunLemmas.{not_refused}
use Rattle.id_engine.proofs.run.run_for.Goals as goal

pub unreachable-requires : goal.unreachable-requires
unreachable-requires g c =
    let p = c.args.prepared.now in
    let S : Source = source p.compiled.checked p.inputs.values in
    not_refused S p.compiled.graph c.args.settings.elements c.args.settings.steps p.own
    (schemas_of c.valid.ensures.kept) c.never_stuck.ensures _ _
    c.valid.ensures.value c.in-Err-Stuck.field-0-is c.in-Err-Stuck.ensures.refused
