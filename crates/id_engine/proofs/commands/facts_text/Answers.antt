use Rattle.std.proofs.Common.{refl}
use Rattle.std.proofs.lemmas.Result.{IfOk-from_err}
use Rattle.id_compile.specs.declared.error.EngineError.TheVariants.{Write}
use Rattle.id_compile.proofs.AnsweredLemmas.{err_all, err_from, err_not, err_taken}
use Rattle.id_compile.specs.Refusals.AreRefusedFacts.{by_write}
use Rattle.id_engine.proofs.ShownLemmas.{HasShown-facts}
use Rattle.id_engine.proofs.commands.facts_text.Goals as goal

-- an error before the first byte shows nothing
pub returns-in_err-found : goal.returns-in_err-found
returns-in_err-found g c =
    let r = c.from_residual.result in
    let is = c.from_residual.ensures in
    let told = c.in_err-found.ensures in
    record {
      shown = IfOk-from_err r _ is.0;
      cut = err_not r _ Write is.1 told.not_write;
      silent = err_all r _ (λ e k. refl);
      taken = err_taken r _ is.0;
      refused = err_from r _ _ is.1 told.refused;
      inside = err_from r _ _ is.1 told.inside;
    }

pub returns-in-Ok : goal.returns-in-Ok
returns-in-Ok g c = record {
  shown = HasShown-facts _ _ _ _ _ _ _ c.in_ok-found.ensures.facts (rw c.in_ok-found.ensures.text at c.in-Ok.ensures);
  cut = λ e. absurd cc;
  silent = tt;
  taken = c.in_ok-found.ensures.taken;
  refused = tt;
  inside = tt;
}

pub returns-in-Err : goal.returns-in-Err
returns-in-Err g c = record {
  shown = tt;
  cut = λ _. record {
    status = 0;
    error = c.in-Err.field-0;
    shown = HasShown-facts _ _ _ _ _ _ _ c.in_ok-found.ensures.facts
        (rw c.in_ok-found.ensures.text at c.in-Err.ensures);
  };
  silent = λ h. absurd (h refl);
  taken = tt;
  refused = by_write;
  inside = tt;
}
