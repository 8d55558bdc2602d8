-- One more.
use Rattle.std.proofs.Common.{◌∙◌}
use Rattle.std.proofs.lemmas.Option.{slice_get-get_or}
use Rattle.id_sink.proofs.TextsLemmas.{Prints-more, Prints-more_stop, same_text}
use Rattle.id_print.specs.Reasons.{asked_text}
use Rattle.id_print.proofs.ReasonsLemmas.{all-of}
use Rattle.id_print.proofs.reasons.put_cells.Goals as goal

pub returns-in_err-put_asked : goal.returns-in_err-put_asked
returns-in_err-put_asked g c =
    let prints = rw c.loop-cell.invariant.same at c.in_err-put_asked.ensures.prints in
    record {
      prints = Prints-more_stop (asked_text c.args.pen.now) c.args.cells.now c.loop-cell.cell-index _ _ _ _ _ _ _
          (slice_get-get_or c.args.cells.now c.loop-cell.cell-index _ c.loop-cell-test.true)
          c.loop-cell.invariant.printed prints c.from_residual.ensures.0;
      same = c.in_err-put_asked.ensures.same ∙ c.loop-cell.invariant.same;
    }

pub loop-cell-preserved : goal.loop-cell-preserved
loop-cell-preserved g c =
    let prints = rw c.loop-cell.invariant.same at c.in_ok-put_asked.ensures.prints in
    record {
      printed = Prints-more (asked_text c.args.pen.now) c.args.cells.now c.loop-cell.cell-index _ _ _ _ _ _
          (slice_get-get_or c.args.cells.now c.loop-cell.cell-index _ c.loop-cell-test.true)
          c.loop-cell.invariant.printed prints;
      same = c.in_ok-put_asked.ensures.same ∙ c.loop-cell.invariant.same;
    }

pub returns : goal.returns
returns g c = record {
  prints = same_text _ _ _ _ _
      (all-of (asked_text c.args.pen.now) c.args.cells.now c.loop-cell.cell-index c.loop-cell-test.false)
      c.loop-cell.invariant.printed;
  same = c.loop-cell.invariant.same;
}
