use Rattle.std.proofs.Common.{refl, ◌∙◌}
use Rattle.std.proofs.lemmas.Option.{slice_get_read}
use Rattle.id_print.specs.Texts.{name_text}
use Rattle.id_sink.proofs.TextsLemmas.{Prints-more_at, Prints-more_stop_at}
use Rattle.id_print.proofs.reports.put_names.Goals as goal

pub returns-in_err-put_name : goal.returns-in_err-put_name
returns-in_err-put_name g c =
    let names = c.args.names.now in
    let at = slice_get_read names _ c.loop-name.name-index c.name-item.result refl c.loop-name-test.true
    c.name-item.is in
    record {
      prints = Prints-more_stop_at name_text _ c.args.cursor.now names c.loop-name.name-index c.name-item.result _ _ _ _
          _ _ c.loop-name.invariant.same at
          c.loop-name.invariant.printed c.in_err-put_name.ensures.prints
          c.from_residual.ensures.0;
      same = c.in_err-put_name.ensures.same ∙ c.loop-name.invariant.same;
    }

pub loop-name-preserved : goal.loop-name-preserved
loop-name-preserved g c =
    let names = c.args.names.now in
    let at = slice_get_read names _ c.loop-name.name-index c.name-item.result refl c.loop-name-test.true
    c.name-item.is in
    record {
      printed =
          Prints-more_at name_text _ c.args.cursor.now names c.loop-name.name-index c.name-item.result _ _ _ _ _
          c.loop-name.invariant.same at
          c.loop-name.invariant.printed c.in_ok-put_name.ensures.prints;
      same = c.in_ok-put_name.ensures.same ∙ c.loop-name.invariant.same;
    }
