-- what a pair keeps is counted
use Rattle.std.proofs.Common.{◌+◌, ◌∙◌, ap, sym, arith}
use Rattle.id_match.proofs.FrontLemmas.{length_more}
use Rattle.id_match.proofs.front.count.Goals as goal

pub loop-i-preserved : goal.loop-i-preserved
loop-i-preserved c = record {
  exact = ap (λ n. n + c.count-count.result) c.loop-i.invariant.exact
      ∙ sym (length_more c.args.front.now c.loop-i.i _ c.loop-i-test.true _ c.count-count.ensures.exact);
  most = omega (arith, c.loop-i.invariant.most, c.count-count.ensures.most);
}
