use Rattle.std.proofs.Common.{Err, ℕ, List, subst, ◌∙◌, refl}
use Rattle.std.proofs.lemmas.Result.{IfOk-from_err}
use Rattle.id_compile.specs.declared.error.EngineError.TheVariants.{Write}
use Rattle.id_compile.proofs.AnsweredLemmas.{err_all, err_from, err_not, err_taken}
use Rattle.id_sink.specs.Told.{Prints}
use Rattle.id_compile.specs.Refusals.IsRefusedText.{by_write}
use Rattle.id_engine.proofs.ShownLemmas.{HasShown-drawn}
use Rattle.id_engine.proofs.commands.draw_text.Goals as goal

-- an error before the first byte shows nothing
pub returns-in_err-picture : goal.returns-in_err-picture
returns-in_err-picture g c =
    let r = c.from_residual.result in
    let is = c.from_residual.ensures in
    let told = c.in_err-picture.ensures in
    record {
      shown = IfOk-from_err r _ is.0;
      cut = err_not r _ Write is.1 told.not_write;
      silent = err_all r _ (λ e k. refl);
      taken = err_taken r _ is.0;
      refused = err_from r _ _ is.1 told.refused;
      inside = err_from r _ _ is.1 told.inside;
    }

pub returns-in-Ok : goal.returns-in-Ok
returns-in-Ok g c = record {
  shown = HasShown-drawn _ _ _ _ _ c.in_ok-picture.ensures.picture
      (subst (λ (b : List ℕ). Prints (g.W.Sink.told c.args.out.now) (g.W.Sink.told
      c.put.new.sink) b _) (c.as_bytes.ensures.value ∙ c.as_str.ensures.value) c.in-Ok.ensures);
  cut = λ e. absurd cc;
  silent = tt;
  taken = c.in_ok-picture.ensures.program;
  refused = tt;
  inside = tt;
}

pub returns : goal.returns
returns g c = record {
  shown = tt;
  cut = λ _. record {
    status = 0;
    error = c.in-Err.field-0;
    shown = HasShown-drawn _ _ _ _ _ c.in_ok-picture.ensures.picture (subst (λ (b : List ℕ).
        Prints (g.W.Sink.told c.args.out.now) (g.W.Sink.told c.put.new.sink) b (Err c.in-Err.field-0))
        (c.as_bytes.ensures.value ∙
        c.as_str.ensures.value) c.in-Err.ensures);
  };
  silent = λ h. absurd (h refl);
  taken = tt;
  refused = by_write;
  inside = tt;
}
