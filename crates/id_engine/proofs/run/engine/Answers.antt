use Rattle.std.proofs.Common.{◌≡◌, map, refl}
use Rattle.id_compile.specs.declared.error.EngineError.TheVariants.{Write}
use Rattle.id_compile.specs.Refusals.IsRefusedRun.{by_source}
use Rattle.id_engine.specs.Reports.{RunsSo}
use Rattle.id_engine.proofs.ShownLemmas.{RunsSo-cut, RunsSo-front, RunsSo-inside, RunsSo-ran, RunsSo-refused}
use Rattle.id_engine.proofs.ShownLemmas.{RunsSo-shown, RunsSo-silent, RunsSo-taken}
use Rattle.id_engine.proofs.run.engine.Goals as goal

pub returns-in-Err : goal.returns-in-Err
returns-in-Err g c = record {
  shown = tt;
  ran = tt;
  cut = λ e. (let is : c.in-Err.error ≡ Write = cc in absurd (c.in-Err.ensures.not_write is));
  front = λ e. (let is : c.in-Err.error ≡ Write = cc in absurd (c.in-Err.ensures.not_write is));
  silent = λ h. refl;
  taken = tt;
  refused = by_source c.in-Err.ensures.refused;
  inside = c.in-Err.ensures.inside;
}

pub returns-in-Ok : goal.returns-in-Ok
returns-in-Ok g c =
    let text = c.args.text.now in
    let ws = map (λ w. w.now) c.args.inputs.now in
    let s = c.args.settings in
    let t = c.args.trace in
    let b = c.args.names in
    let p = c.in-Ok.prepared in
    let P = p.compiled.checked in
    let vs = p.inputs.values in
    let e = c.in-Ok.ensures in
    let so : RunsSo P vs text s.elements t s.steps s.order b (g.W.Sink.told c.args.out.now)
    (g.W.Sink.told c.run_prepared.new.out) c.run_prepared.result =
    rw e.text at c.run_prepared.ensures in
    record {
      shown = RunsSo-shown text ws P e.program e.small vs e.inputs s.elements t s.steps s.order b _ _ _ so;
      ran = RunsSo-ran text ws P e.program e.small vs e.inputs s.elements t s.steps s.order b _ _ _ so;
      cut = RunsSo-cut text ws P e.program e.small vs e.inputs s.elements t s.steps s.order b _ _ _ so;
      front = RunsSo-front text ws P e.program e.small vs e.inputs s.elements t s.steps s.order b _ _ _ so;
      silent = RunsSo-silent text ws P e.program e.small vs e.inputs s.elements t s.steps s.order b _ _ _ so;
      taken = RunsSo-taken text ws P e.program e.small vs e.inputs s.elements t s.steps s.order b _ _ _ so;
      refused = RunsSo-refused text ws P e.program e.small vs e.inputs s.elements t s.steps s.order b _ _ _ so;
      inside = RunsSo-inside text ws P e.program e.small vs e.inputs s.elements t s.steps s.order b _ _ _ so;
    }
