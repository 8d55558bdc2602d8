use Rattle.id_compile.proofs.AnsweredLemmas.{err_from, err_taken, graph_inside, refused_graph}
use Rattle.id_compile.proofs.compiled.accept.Goals as goal

pub returns : goal.returns
returns c = record {
  program = tt;
  refused =
      refused_graph c.args.text.now c.in_ok-checked.checked c.in-Err.error c.in_ok-checked.ensures.program
      c.in-Err.ensures.refused;
  inside = graph_inside c.args.text.now c.in_ok-checked.checked c.in-Err.error c.in-Err.ensures.refused;
}

pub returns-in-Ok : goal.returns-in-Ok
returns-in-Ok c = record {
  program =
      record {
        program = c.in_ok-checked.checked;
        is_program = c.in_ok-checked.ensures.program;
        small =
            c.in-Ok.ensures.small;
      };
  refused = tt;
  inside = tt;
}

pub returns-in_err-checked : goal.returns-in_err-checked
returns-in_err-checked c =
    let r = c.from_residual.result in
    let is = c.from_residual.ensures in
    let told = c.in_err-checked.ensures in
    record {
      program = err_taken r _ is.0;
      refused = err_from r _ _ is.1 told.refused;
      inside = err_from r _ _ is.1 told.inside;
    }
