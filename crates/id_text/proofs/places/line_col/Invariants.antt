use Rattle.std.proofs.Common.{◌≡◌, ◌+◌, ◌≤◌}
use Rattle.id_text.specs.Places.{line_of, column_of}
use Rattle.id_text.proofs.places.line_col.Given as goal

abbrev pub invariant-loop-b : goal.invariant-loop-b
invariant-loop-b l = record {
  line : l.line ≡ line_of l.b-items l.b-index;
  column : l.column ≡ column_of l.b-items l.b-index;
  line_fits : l.line ≤ l.b-index + 1;
  column_fits : l.column ≤ l.b-index + 1;
}
