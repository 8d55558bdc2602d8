-- What they give so far, and what the rest do.
use Rattle.std.proofs.Common.{refl}
use Rattle.id_check.specs.Programs.{rows}
use Rattle.id_table.specs.Rows.{at}
use Rattle.id_meaning.specs.Effects.{first_of, firsts}
use Rattle.id_source.proofs.TurnsLemmas.{gathered-all, gathered-more, on_ok}
use Rattle.id_meaning.proofs.rules.Rules.add_firsts.Goals as goal

pub loop-next-init : goal.loop-next-init
loop-next-init c = refl

pub loop-next-preserved : goal.loop-next-preserved
loop-next-preserved c =
    gathered-more
    (firsts c.args.self.now.checked.now c.args.lookup.now.cells.now c.args.lookup.now.followed c.args.point.path
    c.args.point.row
    c.args.head.path c.args.head.row)
    (λ m. first_of c.args.self.now.checked.now c.args.lookup.now.cells.now c.args.lookup.now.followed c.args.point.path
    c.args.point.row
    c.args.head.path c.args.head.row m (at (rows c.args.self.now.checked.now) m).node)
    (λ _ _. refl) c.args.nexts.now c.loop-next.next-index _ _ _ _ c.loop-next-test.true c.in_ok-add_first.ensures
    c.loop-next.invariant

pub returns-in_err-add_first : goal.returns-in_err-add_first
returns-in_err-add_first c = on_ok _ c.from_residual.result c.from_residual.ensures.0

pub returns : goal.returns
returns c =
    gathered-all
    (firsts c.args.self.now.checked.now c.args.lookup.now.cells.now c.args.lookup.now.followed c.args.point.path
    c.args.point.row
    c.args.head.path c.args.head.row) refl c.args.nexts.now
    c.loop-next.next-index _ _ c.loop-next-test.false c.loop-next.invariant
