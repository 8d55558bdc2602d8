use Rattle.std.proofs.Common.{◌++◌}
use Rattle.id_sink.specs.Texts.{has_brace, iteration_text, place_text}
use Rattle.id_sink.proofs.SinkLemmas.{Prints-stop, Prints-then}
use Rattle.id_sink.proofs.texts.put_step.Goals as goal

pub returns-in_err-put : goal.returns-in_err-put
returns-in_err-put g c =
    let text = c.args.cursor.now in
    let s = c.args.step.now in
    record {
      prints = Prints-stop _ _ _ (place_text text s.place ++ iteration_text (has_brace text s.place) s.number) _ _
          c.in_err-put.ensures c.from_residual.ensures.0;
      same = c.step_line_col-line.ensures.same;
    }

pub returns-in_err-put_line_column : goal.returns-in_err-put_line_column
returns-in_err-put_line_column g c =
    let text = c.args.cursor.now in
    let s = c.args.step.now in
    let at = c.step_line_col-line.ensures in
    record {
      prints = Prints-then _ _ _ _ _ _ _ c.in_ok-put.ensures
          (Prints-stop _ _ _ (iteration_text (has_brace text s.place) s.number) _ _
          (rw (at.line, at.column) at c.in_err-put_line_column.ensures)
          c.from_residual-in_err-put_line_column.ensures.0);
      same = c.step_line_col-line.ensures.same;
    }

pub returns : goal.returns
returns g c =
    let at = c.step_line_col-line.ensures in
    record {
      prints = Prints-then _ _ _ _ _ _ _ c.in_ok-put.ensures
          (Prints-then _ _ _ _ _ _ _ (rw (at.line, at.column) at c.in_ok-put_line_column.ensures)
          (rw (c.has_brace.ensures, at.same) at c.put_iteration.ensures));
      same = c.step_line_col-line.ensures.same;
    }
