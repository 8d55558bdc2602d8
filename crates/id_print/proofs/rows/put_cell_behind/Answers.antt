use Rattle.std.proofs.Common.{rules, w64, ◌∙◌}
use mir.Val.{SFits}
use Rattle.std.proofs.lemmas.Int.{to_z-of_z}
use Rattle.id_print.proofs.rows.put_cell_behind.Goals as goal

pub returns : goal.returns
returns g c =
    let index_fits : SFits w64 c.args.index = search rules in
    record {
      prints = rw c.turn.ensures at (rw (to_z-of_z w64 c.args.index index_fits) at c.put_cell-done.ensures.prints);
      same = c.turn-2.ensures ∙ c.put_cell-done.ensures.same ∙ c.turn.ensures;
    }
