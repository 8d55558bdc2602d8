use Rattle.std.proofs.Common.{rules, w64, codes, ◌++◌}
use Rattle.std.specs.Fmt.{signed_decimal}
use mir.Val.{SFits}
use Rattle.std.proofs.lemmas.Int.{to_z-of_z}
use Rattle.id_sink.proofs.SinkLemmas.{Prints-stop, Prints-then}
use Rattle.id_trace.proofs.trace.put_cell.Goals as goal

pub returns-in_err-put_structure : goal.returns-in_err-put_structure
returns-in_err-put_structure g c =
    Prints-stop _ _ _ (codes "[" ++ (signed_decimal c.args.cell.index ++ codes "]")) _ _ c.in_err-put_structure.ensures
    c.from_residual.ensures.0

pub returns : goal.returns
returns g c =
    let index_fits : SFits w64 c.args.cell.index = search rules in
    Prints-then _ _ _ _ _ _ _ c.in_ok-put_structure.ensures
    (rw (to_z-of_z w64 c.args.cell.index index_fits) at c.put_index.ensures)
