-- One more.
use Rattle.std.proofs.Common.{refl, ◌∙◌}
use Rattle.std.proofs.lemmas.Option.{slice_get_read}
use Rattle.id_sink.proofs.TextsLemmas.{Prints-more, Prints-more_stop, same_text}
use Rattle.id_print.specs.Reasons.{line_text}
use Rattle.id_print.proofs.ReasonsLemmas.{all-of}
use Rattle.id_print.proofs.reasons.put_lines.Goals as goal

pub returns-in_err-put_line : goal.returns-in_err-put_line
returns-in_err-put_line g c =
    let prints = rw c.loop-line.invariant.same at c.in_err-put_line.ensures.prints in
    record {
      prints = Prints-more_stop (line_text c.args.pen.now) c.args.lines.now c.loop-line.line-index _ _ _ _ _ _ _
          (slice_get_read c.args.lines.now _ c.loop-line.line-index c.line-item.result refl c.loop-line-test.true
          c.line-item.is) c.loop-line.invariant.printed prints c.from_residual.ensures.0;
      same = c.in_err-put_line.ensures.same ∙ c.loop-line.invariant.same;
    }

pub loop-line-preserved : goal.loop-line-preserved
loop-line-preserved g c =
    let prints = rw c.loop-line.invariant.same at c.in_ok-put_line.ensures.prints in
    record {
      printed = Prints-more (line_text c.args.pen.now) c.args.lines.now c.loop-line.line-index _ _ _ _ _ _
          (slice_get_read c.args.lines.now _ c.loop-line.line-index c.line-item.result refl c.loop-line-test.true
          c.line-item.is) c.loop-line.invariant.printed prints;
      same = c.in_ok-put_line.ensures.same ∙ c.loop-line.invariant.same;
    }

pub returns : goal.returns
returns g c = record {
  prints = same_text _ _ _ _ _
      (all-of (line_text c.args.pen.now) c.args.lines.now c.loop-line.line-index c.loop-line-test.false)
      c.loop-line.invariant.printed;
  same = c.loop-line.invariant.same;
}
