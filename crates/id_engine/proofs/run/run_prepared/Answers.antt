use Rattle.std.proofs.Common.{refl}
use Rattle.id_engine.specs.Reports.{unallowed}
use Rattle.id_engine.proofs.PrintedLemmas.{RunsSo-machine}
use Rattle.id_engine.proofs.run.run_prepared.Goals as goal

pub returns-in-Err : goal.returns-in-Err
returns-in-Err g c = unallowed c.in-Err.error c.in-Err.ensures.refused refl

pub returns-in-Ok : goal.returns-in-Ok
returns-in-Ok g c =
    let p = c.args.prepared.now in
    let s = c.args.settings in
    let e = c.in-Ok.ensures in
    RunsSo-machine p.compiled.checked p.inputs.values p.compiled.text s.elements c.args.asked.trace s.steps s.order
    c.args.asked.names
    p.compiled.graph c.in-Ok.run' c.sound.ensures c.complete.ensures p.own e.own e.allowed e.run e.moves e.positions _ _
    c.print_ended.result
    c.print_ended.ensures
