-- What they give so far, and what the rest do.
use Rattle.std.proofs.Common.{refl}
use Rattle.id_check.specs.Programs.{rows}
use Rattle.id_table.specs.Rows.{at}
use Rattle.id_meaning.specs.Effects.{all_passed, passed_of}
use Rattle.id_source.proofs.TurnsLemmas.{gathered-all, gathered-more, on_ok}
use Rattle.id_meaning.proofs.rules.Rules.add_all_passed.Goals as goal

pub loop-row-init : goal.loop-row-init
loop-row-init c = refl

pub loop-row-preserved : goal.loop-row-preserved
loop-row-preserved c =
    gathered-more
    (all_passed c.args.self.now.checked.now c.args.lookup.now.cells.now c.args.lookup.now.followed c.args.path
    c.args.call)
    (λ m. passed_of c.args.self.now.checked.now c.args.lookup.now.cells.now c.args.lookup.now.followed c.args.path
    c.args.call (at
    (rows c.args.self.now.checked.now) m).node) (λ _ _. refl)
    c.args.rows.now c.loop-row.row-index _ _ _ _ c.loop-row-test.true (rw c.node_of.ensures at
    c.in_ok-add_passed.ensures) c.loop-row.invariant

pub returns-in_err-add_passed : goal.returns-in_err-add_passed
returns-in_err-add_passed c = on_ok _ c.from_residual.result c.from_residual.ensures.0

pub returns : goal.returns
returns c =
    gathered-all
    (all_passed c.args.self.now.checked.now c.args.lookup.now.cells.now c.args.lookup.now.followed c.args.path
    c.args.call) refl c.args.rows.now c.loop-row.row-index _ _
    c.loop-row-test.false c.loop-row.invariant
