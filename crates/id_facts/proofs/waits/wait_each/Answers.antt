-- One row more waits.
use Rattle.std.proofs.Common.{◌≡◌, ◌+◌, suc, refl, arith}
use Rattle.id_facts.specs.Cells.{items}
use Rattle.id_facts.proofs.WaitsLemmas.{each-end, each-none, each-step}
use Rattle.id_facts.proofs.waits.wait_each.Goals as goal

pub loop-user-init : goal.loop-user-init
loop-user-init c = each-none c.args.checked.now (items c.args.cells.now) _ c.args.path c.args.row

pub loop-user-preserved : goal.loop-user-preserved
loop-user-preserved c =
    let i = c.loop-user.user-index in
    let more : i + 1 ≡ suc i = omega arith in
    each-step c.args.checked.now (items c.args.cells.now) _ _ _ c.args.path c.args.row c.args.users.now i
    (i + 1) _ _ c.loop-user-test.true more refl c.loop-user.invariant c.in_ok-wait_for.ensures

pub returns : goal.returns
returns c =
    each-end c.args.checked.now (items c.args.cells.now) _ _ c.args.path c.args.row c.args.users.now
    c.loop-user.user-index
    (let h = c.loop-user-test.false in omega arith) c.loop-user.invariant
