-- At first there is no chain.
use Rattle.std.proofs.Common.{ap, ◌∙◌, arith, get_or, ◌≡◌, ◌+◌, ◌-◌, subst}
use Rattle.std.specs.Prelude.{None}
use Rattle.id_desugar.proofs.EndsLemmas.{long-nothing, nothing-at}
use Rattle.id_desugar.proofs.OrderLemmas.{AreChains-none}
use Rattle.id_desugar.specs.Gathering.{AreChains}
use Rattle.id_desugar.proofs.order.find_chains.Goals as goal

pub loop-row-init : goal.loop-row-init
loop-row-init c =
    let n = c.len-count.result in
    let F = c.in_ok-none.field-0 in
    let N = c.in_ok-none-2.field-0 in (
      omega arith,
      AreChains-none c.args.checked.now c.args.last F N (omega (
        arith,
        long-nothing n F c.in_ok-none.ensures,
        c.len-count.ensures,
      ))
          (omega (arith, long-nothing n N c.in_ok-none-2.ensures, c.len-count.ensures))
          (λ h. ap (λ z. get_or z h None) c.in_ok-none.ensures
          ∙ nothing-at n h),
    )

pub link-requires : goal.link-requires
link-requires c =
    let up : c.loop-row.row ≡ c.loop-row.row - 1 + 1 = omega (arith, c.loop-row-test.true) in
    record {
      last = c.requires.last;
      row = omega (arith, c.loop-row.invariant.0, c.loop-row-test.true);
      chains = subst (λ r. AreChains c.args.checked.now r c.args.last c.loop-row.chains.firsts c.loop-row.chains.nexts)
          up c.loop-row.invariant.1;
    }

pub loop-row-preserved : goal.loop-row-preserved
loop-row-preserved c = (omega (arith, c.loop-row.invariant.0), c.link.ensures)

pub returns : goal.returns
returns c =
    let none : c.loop-row.row ≡ 0 = omega (arith, c.loop-row-test.false) in
    subst (λ r. AreChains c.args.checked.now r c.args.last c.loop-row.chains.firsts c.loop-row.chains.nexts) none
    c.loop-row.invariant.1
