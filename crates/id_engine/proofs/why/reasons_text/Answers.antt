use Rattle.std.proofs.Common.{ℕ, List, ap, refl}
use Rattle.id_print.specs.Reasons.{reasons_text}
use Rattle.std.proofs.lemmas.Result.{IfOk-from_err}
use Rattle.id_compile.specs.declared.error.EngineError.TheVariants.{Write}
use Rattle.id_compile.proofs.AnsweredLemmas.{err_all, err_from, err_not, err_taken}
use Rattle.id_compile.specs.Refusals.AreRefusedFacts.{by_write}
use Rattle.id_engine.proofs.PrintedLemmas.{Prints-same}
use Rattle.id_engine.proofs.ReasonedLemmas.{HasShown-reasons}
use Rattle.id_engine.proofs.why.reasons_text.Goals as goal

-- an error before the first byte shows nothing
pub returns-in_err-reasoned : goal.returns-in_err-reasoned
returns-in_err-reasoned g c =
    let r = c.from_residual.result in
    let is = c.from_residual.ensures in
    let told = c.in_err-reasoned.ensures in
    record {
      shown = IfOk-from_err r _ is.0;
      cut = err_not r _ Write is.1 told.not_write;
      silent = err_all r _ (λ e k. refl);
      taken = err_taken r _ is.0;
      refused = err_from r _ _ is.1 told.refused;
      inside = err_from r _ _ is.1 told.inside;
    }

pub returns-in-Ok : goal.returns-in-Ok
returns-in-Ok g c = record {
  shown = (let q = c.in_ok-reasoned.reasoned in
      HasShown-reasons c.args.text.now _ c.args.round q.prepared.compiled.checked q.reasons _ _ _
      c.in_ok-reasoned.ensures.reasons
      (Prints-same
      (ap (λ (t : List ℕ). reasons_text (record {
        text = t;
        checked = q.prepared.compiled.checked;
        facts =
            q.reasons.paths;
      }) c.args.round q.reasons)
      c.in_ok-reasoned.ensures.text) c.in-Ok.ensures));
  cut = λ e. absurd cc;
  silent = tt;
  taken = c.in_ok-reasoned.ensures.taken;
  refused = tt;
  inside = tt;
}

pub returns-in-Err : goal.returns-in-Err
returns-in-Err g c = record {
  shown = tt;
  cut = λ _. record {
    status = 0;
    error = c.in-Err.field-0;
    shown = (let q = c.in_ok-reasoned.reasoned in
        HasShown-reasons c.args.text.now _ c.args.round q.prepared.compiled.checked q.reasons _ _ _
        c.in_ok-reasoned.ensures.reasons
        (Prints-same
        (ap (λ (t : List ℕ). reasons_text (record {
          text = t;
          checked = q.prepared.compiled.checked;
          facts =
              q.reasons.paths;
        }) c.args.round q.reasons)
        c.in_ok-reasoned.ensures.text) c.in-Err.ensures));
  };
  silent = λ h. absurd (h refl);
  taken = tt;
  refused = by_write;
  inside = tt;
}
