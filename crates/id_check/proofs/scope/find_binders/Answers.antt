use Rattle.std.proofs.Common.{◌≡◌, ◌+◌, ◌<◌, ◌≤◌, length, refl, sym, ◌∙◌, subst, add-one, arith}
use Rattle.std.proofs.lemmas.Result.{IfOk-from_err}
use Rattle.id_table.specs.Lent.{list_of}
use Rattle.id_check.specs.Causes.{duplicates, seconds}
use Rattle.id_check.specs.Firsts.{IsFirstOf, Notes}
use Rattle.id_check.specs.Names.{AreBound, IsOpen}
use Rattle.id_check.specs.Passing.{rows}
use Rattle.id_check.proofs.OpenLemmas.{open_none}
use Rattle.id_check.proofs.PassingLemmas.{moved}
use Rattle.id_check.proofs.ScopesLemmas.{binder_at-below}
use Rattle.id_check.proofs.TakingLemmas.{taking_bound}
use Rattle.id_check.proofs.scope.find_binders.Goals as goal
use Rattle.id_check.proofs.scope.find_binders.Goals.{After-loop-scopes}

pub loop-scopes-init : goal.loop-scopes-init
loop-scopes-init c =
    let R = list_of c.args.rows.now in
    let p = c.in_ok-scopes.scopes in
    let e = c.in_ok-scopes.ensures in
    record {
      rows = e.rows;
      begun = e.begun;
      untaken = moved (λ n ps. IsOpen R n n ps) e.passed c.new-untaken.ensures.items (open_none R);
      first = moved (λ n o. IsFirstOf o (duplicates R n)) e.passed e.first refl;
    }

pub pass-requires-clause-left : goal.pass-requires-clause-left
pass-requires-clause-left c =
    let q = c.loop-scopes.scopes in
    subst (λ r. q.passed < length (list_of r)) (sym c.loop-scopes.invariant.rows)
    (subst (λ n. q.passed < n) c.len.ensures c.loop-scopes-test.true)

pub pass-requires-clause-begun : goal.pass-requires-clause-begun
pass-requires-clause-begun c = c.loop-scopes.invariant.begun

pub pass-requires-clause-untaken : goal.pass-requires-clause-untaken
pass-requires-clause-untaken c =
    let q = c.loop-scopes.scopes in
    subst (λ r. IsOpen (list_of r) q.passed q.passed c.loop-scopes.untaken.items) (sym c.loop-scopes.invariant.rows)
    c.loop-scopes.invariant.untaken

pub loop-scopes-preserved : goal.loop-scopes-preserved
loop-scopes-preserved c =
    let R = list_of c.args.rows.now in
    let q = c.loop-scopes.scopes in
    let n = c.pass.new.self in
    let h = c.loop-scopes.invariant in
    let e = c.in_ok-pass.ensures in
    let s = q.passed in
    let noted : Notes q.first (seconds R s s) n.first =
    subst (λ r. Notes q.first (seconds (list_of r) s s) n.first) h.rows e.first in
    let listed : IsOpen R (s + 1) (s + 1) c.pass.new.untaken.items =
    subst (λ r. IsOpen (list_of r) (s + 1) (s + 1) c.pass.new.untaken.items) h.rows e.untaken in
    record {
      rows = e.passes.rows ∙ h.rows;
      begun = e.begun;
      untaken = subst (λ k. IsOpen R k k c.pass.new.untaken.items) (sym e.passes.passed) listed;
      first = subst (λ k. IsFirstOf n.first (duplicates R k)) (sym (e.passes.passed ∙ add-one s))
          (noted (duplicates R s) h.first);
    }

pub loop-scopes-smaller : goal.loop-scopes-smaller
loop-scopes-smaller c =
    let e = c.in_ok-pass.ensures.passes.passed in
    let f = c.len.ensures in
    let g = c.loop-scopes-test.true in
    omega arith

-- all rows are passed
ended : (c : After-loop-scopes) → c.loop-scopes.scopes.passed ≡ length (list_of c.args.rows.now)
ended c =
    let q = c.loop-scopes.scopes in
    let inside = subst (λ r. q.passed ≤ length (list_of r)) c.loop-scopes.invariant.rows q.inside in
    let f = c.len.ensures in
    let g = c.loop-scopes-test.false in
    omega arith

bound : (c : After-loop-scopes)
    → AreBound (list_of c.args.rows.now) (length (list_of c.args.rows.now)) c.loop-scopes.scopes.binders.items
bound c =
    let q = c.loop-scopes.scopes in
    moved (λ r n. AreBound (list_of r) n q.binders.items) (sym c.loop-scopes.invariant.rows) (sym (ended c))
    (taking_bound (rows q) q.passed q.bound.items q.binders.items c.loop-scopes.invariant.begun)

pub returns-clause-long : goal.returns-clause-long
returns-clause-long c = (bound (goal.at.returns-clause-long c).After-loop-scopes).long

pub returns-clause-binders : goal.returns-clause-binders
returns-clause-binders c = record { each = (bound (goal.at.returns-clause-binders c).After-loop-scopes).each }

pub returns-clause-within : goal.returns-clause-within
returns-clause-within c = λ i b less e.
    binder_at-below (list_of c.args.rows.now) _ i b
    (sym ((bound (goal.at.returns-clause-within c).After-loop-scopes).each i less) ∙ e)

pub returns-clause-first : goal.returns-clause-first
returns-clause-first c =
    subst (λ n. IsFirstOf c.loop-scopes.scopes.first (duplicates (list_of c.args.rows.now) n))
    (ended (goal.at.returns-clause-first c).After-loop-scopes)
    c.loop-scopes.invariant.first

pub returns-in_err-scopes : goal.returns-in_err-scopes
returns-in_err-scopes c = record {
  long = IfOk-from_err _ _ c.from_residual.ensures.0;
  binders = IfOk-from_err _ _ c.from_residual.ensures.0;
  within = IfOk-from_err _ _ c.from_residual.ensures.0;
  first = IfOk-from_err _ _ c.from_residual.ensures.0;
}

pub returns-in_err-pass : goal.returns-in_err-pass
returns-in_err-pass c = record {
  long = IfOk-from_err _ _ c.from_residual-in_err-pass.ensures.0;
  binders = IfOk-from_err _ _ c.from_residual-in_err-pass.ensures.0;
  within = IfOk-from_err _ _ c.from_residual-in_err-pass.ensures.0;
  first = IfOk-from_err _ _ c.from_residual-in_err-pass.ensures.0;
}
