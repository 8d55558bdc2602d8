use Rattle.std.proofs.Common.{get_or}
use Rattle.id_check.specs.Causes.{seconds}
use Rattle.id_check.specs.Firsts.{Notes}
use Rattle.id_check.specs.Passing.{HasTaken, Stays, rows}
use Rattle.id_check.proofs.scope.Scopes.enter.Given as goal

abbrev pub invariant-loop-k : goal.invariant-loop-k
invariant-loop-k l = record {
  stays : Stays l.initial.self l.self;
  taken : HasTaken l.self (get_or l.untaken l.k l.self.passed);
  first : Notes l.initial.self.first
      (seconds (rows l.initial.self) l.initial.self.passed (get_or l.untaken l.k l.initial.self.passed)) l.self.first;
}
