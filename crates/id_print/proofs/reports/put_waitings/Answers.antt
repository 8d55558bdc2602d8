use Rattle.std.proofs.Common.{refl, ◌∙◌}
use Rattle.std.proofs.lemmas.Option.{slice_get_read}
use Rattle.id_print.specs.Texts.{waiting_text}
use Rattle.id_sink.proofs.TextsLemmas.{Prints-more, Prints-more_stop}
use Rattle.id_print.proofs.reports.put_waitings.Goals as goal

pub returns-in_err-put_waiting : goal.returns-in_err-put_waiting
returns-in_err-put_waiting g c =
    let asks = c.args.asks.now in
    let at = slice_get_read asks _ c.loop-ask.ask-index c.ask-item.result refl c.loop-ask-test.true c.ask-item.is in
    let prints = rw c.loop-ask.invariant.same at c.in_err-put_waiting.ensures.prints in
    record {
      prints = Prints-more_stop (waiting_text c.args.cursor.now) asks c.loop-ask.ask-index _ _ _ _ _ _ _ at
          c.loop-ask.invariant.printed prints c.from_residual.ensures.0;
      same = c.in_err-put_waiting.ensures.same ∙ c.loop-ask.invariant.same;
    }

pub loop-ask-preserved : goal.loop-ask-preserved
loop-ask-preserved g c =
    let asks = c.args.asks.now in
    let at = slice_get_read asks _ c.loop-ask.ask-index c.ask-item.result refl c.loop-ask-test.true c.ask-item.is in
    let prints = rw c.loop-ask.invariant.same at c.in_ok-put_waiting.ensures.prints in
    record {
      printed =
          Prints-more (waiting_text c.args.cursor.now) asks c.loop-ask.ask-index _ _ _ _ _ _ at
          c.loop-ask.invariant.printed prints;
      same = c.in_ok-put_waiting.ensures.same ∙ c.loop-ask.invariant.same;
    }
