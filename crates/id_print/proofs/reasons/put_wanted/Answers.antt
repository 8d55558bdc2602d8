-- The cells, where there are some, and the stores that may fill them.
use Rattle.std.proofs.Common.{◌∙◌}
use Rattle.id_sink.proofs.SinkLemmas.{Prints-stop, Prints-then}
use Rattle.id_sink.proofs.TextsLemmas.{same_text}
use Rattle.id_print.specs.Reasons.{stores_text}
use Rattle.id_print.proofs.ReasonsLemmas.{not-empty, wanted-some}
use Rattle.id_print.proofs.reasons.put_wanted.Goals as goal

pub returns-in_err-put_cells : goal.returns-in_err-put_cells
returns-in_err-put_cells g c =
    let cs = c.args.cells.now in
    let ts = c.args.needs.now in
    record {
      prints = same_text _ _ _ _ _
          (wanted-some c.args.pen.now cs ts (not-empty cs c.is_empty.result c.is_empty.ensures c.if-is_empty.false))
          (Prints-stop _ _ _ (stores_text c.args.pen.now ts) _ _ c.in_err-put_cells.ensures.prints
          c.from_residual.ensures.0);
      same = c.in_err-put_cells.ensures.same;
    }

pub returns-in_ok-put_cells : goal.returns-in_ok-put_cells
returns-in_ok-put_cells g c =
    let cs = c.args.cells.now in
    let ts = c.args.needs.now in
    record {
      prints = same_text _ _ _ _ _
          (wanted-some c.args.pen.now cs ts (not-empty cs c.is_empty.result c.is_empty.ensures c.if-is_empty.false))
          (Prints-then _ _ _ _ _ _ _ c.in_ok-put_cells.ensures.prints
          (rw c.in_ok-put_cells.ensures.same at c.put_stores.ensures.prints));
      same = c.put_stores.ensures.same ∙ c.in_ok-put_cells.ensures.same;
    }
