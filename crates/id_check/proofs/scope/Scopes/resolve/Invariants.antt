use Rattle.std.proofs.Common.{◌<◌, ℕ, length}
use Rattle.id_check.specs.Names.{AreWaiting, IsBehind, reach, use_before}
use Rattle.id_check.specs.Passing.{Keeps, keys_of, rows}
use Rattle.id_check.proofs.WaitingLemmas.{ArePassed, IsGiven}
use Rattle.id_check.proofs.scope.Scopes.resolve.Given as goal

abbrev pub invariant-loop-u : goal.invariant-loop-u
invariant-loop-u l = record {
  keeps : Keeps l.initial.self l.self;
  waiting : AreWaiting (rows l.initial.self) l.initial.self.passed (keys_of l.initial.self) l.self.binders.items
      l.self.last.items l.self.earlier.items;
  behind : IsBehind (rows l.initial.self) l.self.binders.items l.initial.self.passed l.key l.behind;
  passed : ArePassed (rows l.initial.self) l.initial.self.passed l.key l.behind l.self.binders.items;
  binders : (i : ℕ) → i < length (rows l.initial.self) →
      IsGiven (rows l.initial.self) l.initial.self.passed l.key l.binder l.initial.self.binders.items
      l.self.binders.items i;
}

abbrev pub decreases-loop-u : goal.decreases-loop-u
decreases-loop-u l = reach (use_before l.self.last.items l.self.earlier.items l.key l.behind)
