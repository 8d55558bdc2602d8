-- The line and column are those of the place that the walk has come to.
use Rattle.std.proofs.Common.{◌≡◌, ◌+◌, ◌≤◌}
use Rattle.id_text.specs.Places.{line_of, column_of}
use Rattle.id_sink.proofs.cursor.spot_after.Given as goal

abbrev pub invariant-loop-i : goal.invariant-loop-i
invariant-loop-i l = record {
  line : l.line ≡ line_of l.text l.i;
  column : l.column ≡ column_of l.text l.i;
  line_fits : l.line ≤ l.i + 1;
  column_fits : l.column ≤ l.i + 1;
}
