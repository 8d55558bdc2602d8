use Rattle.std.proofs.Common.{◌≡◌, map, refl}
use Rattle.id_compile.specs.declared.error.EngineError.TheVariants.{Write}
use Rattle.id_compile.specs.Refusals.IsRefusedRun.{by_source}
use Rattle.id_engine.specs.Listening.{Listens}
use Rattle.id_engine.proofs.JudgedLemmas.{Listens-cut, Listens-inside, Listens-refused, Listens-shown, Listens-silent}
use Rattle.id_engine.proofs.JudgedLemmas.{Listens-taken}
use Rattle.id_engine.proofs.judge.judge_log.Goals as goal

pub returns-in-Err : goal.returns-in-Err
returns-in-Err g c = record {
  shown = tt;
  cut = λ e. (let is : c.in-Err.error ≡ Write = cc in absurd (c.in-Err.ensures.not_write is));
  silent = λ h. refl;
  taken = tt;
  refused = by_source c.in-Err.ensures.refused;
  inside = c.in-Err.ensures.inside;
}

pub returns-in-Ok : goal.returns-in-Ok
returns-in-Ok g c =
    let text = c.args.text.now in
    let ws = map (λ w. w.now) c.args.inputs.now in
    let p = c.in-Ok.prepared in
    let P = p.compiled.checked in
    let vs = p.inputs.values in
    let e = c.in-Ok.ensures in
    let so : Listens P vs text (g.L.Log.ahead c.args.log.now) c.args.count c.args.names (g.W.Sink.told c.args.out.now)
    (g.W.Sink.told c.judge_prepared.new.out)
    c.judge_prepared.result = rw e.text at c.judge_prepared.ensures in
    record {
      shown = Listens-shown text ws P e.program e.small vs e.inputs _ c.args.count c.args.names _ _ _ so;
      cut = Listens-cut text ws P e.program e.small vs e.inputs _ c.args.count c.args.names _ _ _ so;
      silent = Listens-silent text ws P e.program e.small vs e.inputs _ c.args.count c.args.names _ _ _ so;
      taken = Listens-taken text ws P e.program e.small vs e.inputs _ c.args.count c.args.names _ _ _ so;
      refused = Listens-refused text ws P e.program e.small vs e.inputs _ c.args.count c.args.names _ _ _ so;
      inside = Listens-inside text ws P e.program e.small vs e.inputs _ c.args.count c.args.names _ _ _ so;
    }
