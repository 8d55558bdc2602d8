use Rattle.std.proofs.Common.{◌≡◌, ◌+◌, ◌∙◌, None, replicate, length, sym, ap, subst, arith, rules}
use Rattle.std.proofs.lemmas.Result.{IfOk-from_err}
use Rattle.id_table.specs.Lent.{list_of}
use Rattle.id_check.specs.Counts.{AreCounts}
use Rattle.id_check.specs.Depths.{AreDepths}
use Rattle.id_check.proofs.CountsLemmas.{counts_none}
use Rattle.id_check.proofs.DepthsLemmas.{depths_more}
use Rattle.id_check.proofs.numbers.find_numbers.Goals as goal

pub loop-i-init : goal.loop-i-init
loop-i-init c = record {
  depths = record { long = ap length c.in_ok-depths.ensures.items; each = λ i less. absurd (omega arith) };
  counts = counts_none (list_of c.args.rows.now) c.in_ok-counts.counts.items
      (c.in_ok-counts.ensures.items_if_clones_equal (λ y h. search rules)
      ∙ ap (λ n. replicate n None) c.len.ensures);
}

pub depth_of-depth-requires : goal.depth_of-depth-requires
depth_of-depth-requires c =
    subst (AreDepths (list_of c.args.rows.now) c.loop-i.i) (sym c.as_slice.ensures.value) c.loop-i.invariant.depths

pub loop-i-preserved : goal.loop-i-preserved
loop-i-preserved c =
    let R = (list_of c.args.rows.now) in
    let i = c.loop-i.i in
    record {
      depths =
          subst (AreDepths R (i + 1)) (sym c.in_ok-push.ensures.items)
          (depths_more R i c.depth_of-depth.result c.loop-i.depths.items c.depth_of-depth.ensures
          c.loop-i.invariant.depths);
      counts = c.in_ok-count_call.ensures;
    }

pub returns-clause-depths : goal.returns-clause-depths
returns-clause-depths c =
    let end : c.loop-i.i ≡ length (list_of c.args.rows.now) = omega (arith, c.loop-i.auto.i-end, c.loop-i-test.false) in
    subst (λ n. AreDepths (list_of c.args.rows.now) n c.loop-i.depths.items) end c.loop-i.invariant.depths

pub returns-clause-counts : goal.returns-clause-counts
returns-clause-counts c =
    let end : c.loop-i.i ≡ length (list_of c.args.rows.now) = omega (arith, c.loop-i.auto.i-end, c.loop-i-test.false) in
    subst (λ n. AreCounts (list_of c.args.rows.now) n c.loop-i.counts.items) end c.loop-i.invariant.counts

pub returns-in_err-counts-clause-depths : goal.returns-in_err-counts-clause-depths
returns-in_err-counts-clause-depths c = IfOk-from_err _ _ c.from_residual.ensures.0

pub returns-in_err-counts-clause-counts : goal.returns-in_err-counts-clause-counts
returns-in_err-counts-clause-counts c = IfOk-from_err _ _ c.from_residual.ensures.0

pub returns-in_err-depths-clause-depths : goal.returns-in_err-depths-clause-depths
returns-in_err-depths-clause-depths c = IfOk-from_err _ _ c.from_residual-in_err-depths.ensures.0

pub returns-in_err-depths-clause-counts : goal.returns-in_err-depths-clause-counts
returns-in_err-depths-clause-counts c = IfOk-from_err _ _ c.from_residual-in_err-depths.ensures.0

pub returns-in_err-count_call-clause-depths : goal.returns-in_err-count_call-clause-depths
returns-in_err-count_call-clause-depths c = IfOk-from_err _ _ c.from_residual-in_err-count_call.ensures.0

pub returns-in_err-count_call-clause-counts : goal.returns-in_err-count_call-clause-counts
returns-in_err-count_call-clause-counts c = IfOk-from_err _ _ c.from_residual-in_err-count_call.ensures.0

pub returns-in_err-push-clause-depths : goal.returns-in_err-push-clause-depths
returns-in_err-push-clause-depths c = IfOk-from_err _ _ c.from_residual-in_err-push.ensures.0

pub returns-in_err-push-clause-counts : goal.returns-in_err-push-clause-counts
returns-in_err-push-clause-counts c = IfOk-from_err _ _ c.from_residual-in_err-push.ensures.0

pub count_call-requires : goal.count_call-requires
count_call-requires c = c.loop-i.invariant.counts
