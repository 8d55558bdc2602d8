-- One line more.
use Rattle.std.proofs.Common.{◌∙◌}
use Rattle.std.proofs.lemmas.Option.{slice_get-get_or}
use Rattle.id_sink.proofs.TextsLemmas.{Prints-more, Prints-more_stop, same_text}
use Rattle.id_print.proofs.RowsLemmas.{row_text, rows-all, rows-text}
use Rattle.id_print.proofs.rows.put_rows.Goals as goal

pub returns-in_err-put_row : goal.returns-in_err-put_row
returns-in_err-put_row g c =
    let prints = rw c.loop-row.invariant.same at c.in_err-put_row.ensures.prints in
    record {
      prints = same_text _ _ _ _ _ (rows-text c.args.pen.now c.args.rows.now)
          (Prints-more_stop (row_text c.args.pen.now) c.args.rows.now c.loop-row.row-index _ _ _ _ _ _ _
          (slice_get-get_or c.args.rows.now c.loop-row.row-index _ c.loop-row-test.true) c.loop-row.invariant.printed
          prints c.from_residual.ensures.0);
      same = c.in_err-put_row.ensures.same ∙ c.loop-row.invariant.same;
    }

pub loop-row-preserved : goal.loop-row-preserved
loop-row-preserved g c =
    let prints = rw c.loop-row.invariant.same at c.in_ok-put_row.ensures.prints in
    record {
      printed = Prints-more (row_text c.args.pen.now) c.args.rows.now c.loop-row.row-index _ _ _ _ _ _
          (slice_get-get_or c.args.rows.now c.loop-row.row-index _ c.loop-row-test.true) c.loop-row.invariant.printed
          prints;
      same = c.in_ok-put_row.ensures.same ∙ c.loop-row.invariant.same;
    }

pub returns : goal.returns
returns g c = record {
  prints = same_text _ _ _ _ _ (rows-all c.args.pen.now c.args.rows.now c.loop-row.row-index c.loop-row-test.false)
      c.loop-row.invariant.printed;
  same = c.loop-row.invariant.same;
}
