use Rattle.std.proofs.Common.{◌≡◌, ◌-◌, length}
use Rattle.id_table.specs.Lent.{list_of}
use Rattle.id_check.specs.Causes.{duplicates}
use Rattle.id_check.specs.Firsts.{IsFirstOf}
use Rattle.id_check.specs.Names.{IsOpen}
use Rattle.id_check.specs.Passing.{HasTaken}
use Rattle.id_check.proofs.scope.find_binders.Given as goal

abbrev pub invariant-loop-scopes : goal.invariant-loop-scopes
invariant-loop-scopes l = record {
  rows : l.scopes.rows.now ≡ l.rows;
  begun : HasTaken l.scopes 0;
  untaken : IsOpen (list_of l.rows) l.scopes.passed l.scopes.passed l.untaken.items;
  first : IsFirstOf l.scopes.first (duplicates (list_of l.rows) l.scopes.passed);
}

abbrev pub decreases-loop-scopes : goal.decreases-loop-scopes
decreases-loop-scopes l = length (list_of l.rows) - l.scopes.passed
