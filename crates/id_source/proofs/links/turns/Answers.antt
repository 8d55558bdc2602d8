-- What one row more turns On.
use Rattle.std.proofs.Common.{◌≡◌, ◌+◌, suc, refl, arith}
use Rattle.id_source.proofs.LinksLemmas.{turns-init, turns-step, turns-end}
use Rattle.id_source.proofs.links.turns.Goals as goal

pub loop-n-init : goal.loop-n-init
loop-n-init c =
    let t = turns-init c.args.rows.now c.in_ok-turns.turns c.new-waiting.result.items c.in_ok-turns.ensures
    c.new-waiting.ensures.items in
    record { turns = t.0; waiting = t.1 }

pub loop-n-preserved : goal.loop-n-preserved
loop-n-preserved c =
    let n = c.loop-n.n in
    let next : n + 1 ≡ suc n = omega arith in
    let t = turns-step c.args.rows.now n (n + 1) _ _ _ _ _ _ _ next c.loop-n-test.true refl c.loop-n.invariant.turns
    c.loop-n.invariant.waiting
    c.in_ok-add_parts.ensures c.in_ok-add_next.ensures c.in_ok-add_statements.ensures in
    record { turns = t.0; waiting = t.1 }

pub returns : goal.returns
returns c =
    turns-end c.args.rows.now c.loop-n.n c.loop-n.turns (let h = c.loop-n-test.false in
    omega arith) c.loop-n.invariant.turns
