use Rattle.std.proofs.Common.{sym, subst, arith}
use Rattle.id_table.specs.Tables.{AreInBlocks}
use Rattle.id_table.specs.Turns.{IsTable}
use Rattle.id_table.proofs.TableLemmas.{AreInBlocks-table, IsTable-rows_of}
use Rattle.id_table.proofs.rows.Rows.new.Goals as goal

pub invariant_of-result : goal.invariant_of-result
invariant_of-result c =
    let w = c.requires in
    let table = IsTable-rows_of w.0 w.1 in
    record {
      tabled = ∣ subst IsTable (sym w.2) table ∣₁;
      in_blocks = subst AreInBlocks (sym w.2) (AreInBlocks-table w.0 table);
      few = omega (arith, c.if-len-gt-MOST.false, c.len.ensures, c.args.table.now.rows.ok.0);
    }
