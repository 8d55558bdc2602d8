use Rattle.std.proofs.Common.{◌+◌, sym, ◌∙◌, subst}
use Rattle.id_check.specs.Names.{IsOpen}
use Rattle.id_check.specs.Passing.{rows}
use Rattle.id_check.specs.Scopes.{sees_own}
use Rattle.id_check.proofs.OpenLemmas.{open_more, open_same}
use Rattle.id_check.proofs.PassingLemmas.{by_node}
use Rattle.id_check.proofs.scope.Scopes.pass.Goals as goal

pub take-requires-clause-left : goal.take-requires-clause-left
take-requires-clause-left c = c.requires.left

pub take-requires-clause-begun : goal.take-requires-clause-begun
take-requires-clause-begun c = c.requires.begun

pub take-requires-clause-untaken : goal.take-requires-clause-untaken
take-requires-clause-untaken c = c.requires.untaken

-- the row is yet to be taken
pub returns-in_ok-push : goal.returns-in_ok-push
returns-in_ok-push c =
    let p = c.args.self.now in
    record {
      passes = c.take.ensures.passes;
      begun = c.take.ensures.begun;
      untaken = subst (IsOpen (rows p) (p.passed + 1) (p.passed + 1)) (sym c.in_ok-push.ensures.items)
          (open_more (rows p) p.passed (p.passed + 1) c.take.new.untaken.items c.take.ensures.untaken);
      first = c.take.ensures.first;
    }

pub returns-else-not-sees_own : goal.returns-else-not-sees_own
returns-else-not-sees_own c =
    let p = c.args.self.now in
    record {
      passes = c.take.ensures.passes;
      begun = c.take.ensures.begun;
      untaken = open_same (rows p) p.passed (p.passed + 1) c.take.new.untaken.items
          (by_node sees_own (rows p) p.passed c.at.result c.sees_own-sees_own.result c.at.ensures
          c.sees_own-sees_own.ensures ∙ c.if-not-sees_own.false)
          c.take.ensures.untaken;
      first = c.take.ensures.first;
    }
