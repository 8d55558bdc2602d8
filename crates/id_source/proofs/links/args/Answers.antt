-- Whose argument one row more is.
use Rattle.std.proofs.Common.{◌≡◌, ◌+◌, suc, arith}
use Rattle.id_source.proofs.LinksLemmas.{args-by}
use Rattle.id_source.proofs.TurnsLemmas.{if_err}
use Rattle.id_source.proofs.links.args.Goals as goal

pub loop-n-preserved : goal.loop-n-preserved
loop-n-preserved c =
    let n = c.loop-n.n in
    let next : n + 1 ≡ suc n = omega arith in
    args-by c.args.checked.now n (n + 1) _ _ c.as_slice-row-items.result.now c.asker_of.result next
    c.as_slice-row-items.ensures.value c.asker_of.ensures
    c.loop-n.invariant c.in_ok-add_read.ensures

pub returns-in_err-args : goal.returns-in_err-args
returns-in_err-args c = if_err _ c.from_residual.result c.from_residual.ensures.0

pub returns-in_err-add_read : goal.returns-in_err-add_read
returns-in_err-add_read c = if_err _ c.from_residual-in_err-add_read.result c.from_residual-in_err-add_read.ensures.0
