use Rattle.std.proofs.Common.{refl, arith}
use Rattle.id_table.specs.Rows.{at}
use Rattle.id_check.specs.Passing.{keys_of, rows}
use Rattle.id_check.proofs.PassingLemmas.{scope_key}
use Rattle.id_check.proofs.TakingLemmas.{taking_next}
use Rattle.id_check.proofs.WaitingLemmas.{waiting_same}
use Rattle.id_check.proofs.scope.Scopes.close.Goals as goal

pub returns-clause-passes : goal.returns-clause-passes
returns-clause-passes c = record { rows = refl; passed = refl }

pub returns-clause-begun : goal.returns-clause-begun
returns-clause-begun c =
    let p = c.args.self.now in
    taking_next (rows p) p.passed p.bound.items p.binders.items c.requires.taken

pub returns-clause-first : goal.returns-clause-first
returns-clause-first c = refl

pub close_rows-requires-clause-inside : goal.close_rows-requires-clause-inside
close_rows-requires-clause-inside c = c.args.self.now.inside

pub close_rows-requires-clause-untaken : goal.close_rows-requires-clause-untaken
close_rows-requires-clause-untaken c = c.requires.untaken

pub close_rows-requires-clause-held : goal.close_rows-requires-clause-held
close_rows-requires-clause-held c = c.args.self.now.closed

pub invariant_of-self : goal.invariant_of-self
invariant_of-self c =
    let p = c.args.self.now in
    record {
      inside = let left = c.requires.left in omega arith;
      closed = c.close_rows.ensures;
      named = p.named;
      waiting = waiting_same (rows p) p.passed (keys_of p) p.binders.items p.last.items p.earlier.items
          (scope_key (at (rows p) p.passed).node c.requires.scope) p.waiting;
    }
