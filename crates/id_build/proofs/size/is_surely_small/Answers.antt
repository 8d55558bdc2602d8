-- Rows make no more instructions together than are counted.
use Rattle.std.proofs.Common.{◌≡◌, ◌≤◌, arith, length, subst}
use Rattle.id_check.specs.declared.checked.Checked.{Checked}
use Rattle.id_check.specs.Programs.{rows}
use Rattle.id_build.specs.Rows.{made, size_below}
use Rattle.id_build.proofs.SizeLemmas.{size_below-next}
use Rattle.id_build.proofs.size.is_surely_small.Goals as goal

pub loop-n-preserved : goal.loop-n-preserved
loop-n-preserved c =
    let P = c.args.checked.now in
    record {
      most = omega (
        arith,
        c.loop-n.invariant.most,
        subst (λ (Q : Checked). length (made Q c.loop-n.n) ≤ c.most_made-most.result) c.in_ok-ends.ensures
            c.most_made-most.ensures.most,
        size_below-next P c.loop-n.n,
      );
      small = omega (arith, c.if-most-gt1000000.false);
    }

pub returns : goal.returns
returns c =
    let P = c.args.checked.now in
    let end : c.loop-n.n ≡ length (rows P) =
    omega (arith, c.loop-n.auto.n-end, c.loop-n-test.false, c.len-n-end.ensures) in
    let all : size_below P (length (rows P)) ≤ c.loop-n.most =
    subst (λ m. size_below P m ≤ c.loop-n.most) end c.loop-n.invariant.most in
    λ yes. omega (arith, all, c.loop-n.invariant.small)
