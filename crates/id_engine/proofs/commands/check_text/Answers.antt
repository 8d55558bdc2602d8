use Rattle.std.proofs.Common.{refl}
use Rattle.std.proofs.lemmas.Result.{IfOk-from_err}
use Rattle.id_compile.specs.declared.error.EngineError.TheVariants.{Write}
use Rattle.id_compile.proofs.AnsweredLemmas.{err_all, err_from, err_not, err_taken}
use Rattle.id_compile.specs.Refusals.IsRefusedText.{by_write}
use Rattle.id_engine.proofs.ShownLemmas.{HasShown-accepted}
use Rattle.id_engine.proofs.commands.check_text.Goals as goal

-- an error before the first byte shows nothing
pub returns-in_err-accept_text : goal.returns-in_err-accept_text
returns-in_err-accept_text g c =
    let r = c.from_residual.result in
    let is = c.from_residual.ensures in
    let told = c.in_err-accept_text.ensures in
    record {
      shown = IfOk-from_err r _ is.0;
      cut = err_not r _ Write is.1 told.not_write;
      silent = err_all r _ (λ e k. refl);
      taken = err_taken r _ is.0;
      refused = err_from r _ _ is.1 told.refused;
      inside = err_from r _ _ is.1 told.inside;
    }

pub returns-in-Ok : goal.returns-in-Ok
returns-in-Ok g c =
    let told = c.in_ok-accept_text.ensures in
    record {
      shown = HasShown-accepted _ _ _ _ told.program c.in-Ok.ensures;
      cut = λ e. absurd cc;
      silent = tt;
      taken = told.program;
      refused = tt;
      inside = tt;
    }

pub returns-in-Err : goal.returns-in-Err
returns-in-Err g c =
    let told = c.in_ok-accept_text.ensures in
    record {
      shown = tt;
      cut = λ _. record {
        status = 0;
        error = c.in-Err.field-0;
        shown =
            HasShown-accepted _ _ _ _ told.program c.in-Err.ensures;
      };
      silent = λ h. absurd (h refl);
      taken = tt;
      refused = by_write;
      inside = tt;
    }
