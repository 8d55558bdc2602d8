-- A row is put before the chain of its block.
use Rattle.std.proofs.Common.{ap, arith}
use Rattle.id_table.specs.declared.row.Row.{Row}
use Rattle.id_desugar.proofs.OrderLemmas.{AreChains-next, block_low}
use Rattle.id_desugar.proofs.order.link.Goals as goal

pub set-requires-clause-below : goal.set-requires-clause-below
set-requires-clause-below c = c.get-next.ensures.below

pub set-requires-2-clause-within : goal.set-requires-2-clause-within
set-requires-2-clause-within c =
    let is = ap (λ (r : Row). r.block) c.row_at-block.ensures in
    let low = block_low c.args.checked.now c.args.row (omega (arith, c.requires.row, c.requires.last)) in
    omega (arith, is, low, c.requires.row, c.requires.last, c.requires.chains.many_firsts)

pub returns : goal.returns
returns c =
    let P = c.args.checked.now in
    let F = c.args.chains.now.firsts in
    let N = c.args.chains.now.nexts in
    let b = c.row_at-block.result.block in
    let is = ap (λ (r : Row). r.block) c.row_at-block.ensures in
    let chains = AreChains-next P c.args.row c.args.last b F N c.requires.row c.requires.last is c.requires.chains in
    rw (c.set-2.ensures, c.set.ensures, c.get-next.ensures.row) chains
