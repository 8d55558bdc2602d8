use Rattle.std.proofs.Common.{refl}
use Rattle.std.proofs.lemmas.Result.{IfOk-from_err}
use Rattle.id_compile.proofs.AnsweredLemmas.{err_from, err_taken, graph_inside, refused_graph}
use Rattle.id_compile.proofs.compiled.compile.Goals as goal

pub returns : goal.returns
returns c = record {
  text = tt;
  program = tt;
  small = tt;
  within = tt;
  short = tt;
  refused =
      refused_graph c.args.text.now c.in_ok-checked.checked c.in-Err.error c.in_ok-checked.ensures.program
      c.in-Err.ensures.refused;
  inside = graph_inside c.args.text.now c.in_ok-checked.checked c.in-Err.error c.in-Err.ensures.refused;
}

pub returns-in_err-checked : goal.returns-in_err-checked
returns-in_err-checked c =
    let r = c.from_residual.result in
    let is = c.from_residual.ensures in
    let told = c.in_err-checked.ensures in
    record {
      text = IfOk-from_err r _ is.0;
      program = IfOk-from_err r _ is.0;
      small = IfOk-from_err r _ is.0;
      within = IfOk-from_err r _ is.0;
      short = err_taken r _ is.0;
      refused = err_from r _ _ is.1 told.refused;
      inside = err_from r _ _ is.1 told.inside;
    }

pub returns-in-Ok : goal.returns-in-Ok
returns-in-Ok c = record {
  text = refl;
  program = c.in_ok-checked.ensures.program;
  small = c.in-Ok.ensures.small;
  within = c.in_ok-checked.ensures.within;
  short = c.in_ok-checked.ensures.short;
  refused = tt;
  inside = tt;
}
