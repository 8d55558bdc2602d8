-- Past what a number can be there is no row.
use Rattle.std.proofs.Common.{◌+◌, sym, arith}
use Rattle.std.proofs.lemmas.List.{get_or_past}
use Rattle.id_check.specs.Programs.{rows}
use Rattle.id_table.specs.Rows.{no_row}
use Rattle.id_desugar.proofs.access.row_behind.Goals as goal

pub returns-in-None : goal.returns-in-None
returns-in-None c =
    let P = c.args.checked.now in
    sym (get_or_past (rows P) (c.args.n + c.args.count) no_row (omega (arith, c.in-None.ensures, P.table.rows.ok.0)))
