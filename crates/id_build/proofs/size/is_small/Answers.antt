-- Rows make no fewer instructions together than some of them.
use Rattle.std.proofs.Common.{◌≡◌, ◌∙◌, ap, arith, length, ◌≤◌}
use Rattle.id_check.specs.Programs.{rows}
use Rattle.id_build.specs.Rows.{size, size_below}
use Rattle.id_build.proofs.SizeLemmas.{size_below-next, size_below-within}
use Rattle.id_build.proofs.size.is_small.Goals as goal

pub loop-n-preserved : goal.loop-n-preserved
loop-n-preserved c =
    let P = c.args.kernel.now.checked.now in
    record {
      is = omega (arith, c.loop-n.invariant.is, c.made_count-size.ensures.count, size_below-next P c.loop-n.n);
      small = omega (arith, c.if-size-gt1000000.false);
    }

pub returns-then-size-gt1000000 : goal.returns-then-size-gt1000000
returns-then-size-gt1000000 c =
    let P = c.args.kernel.now.checked.now in
    let more = size_below-within P c.loop-n.n (omega (arith, c.loop-n-test.true, c.len-n-end.ensures)) in (
      (λ h. cc),
      λ small. (let no : ⊥ =
          omega (
            arith,
            small,
            more,
            c.loop-n.invariant.is,
            c.made_count-size.ensures.count,
            c.if-size-gt1000000.true,
          ) in
          absurd no),
    )

pub returns : goal.returns
returns c =
    let P = c.args.kernel.now.checked.now in
    let end : c.loop-n.n ≡ length (rows P) =
    omega (arith, c.loop-n.auto.n-end, c.loop-n-test.false, c.len-n-end.ensures) in
    let all = c.loop-n.invariant.is ∙ ap (size_below P) end in
    let small : size P ≤ 1000000 = omega (arith, all, c.loop-n.invariant.small) in
    ((λ h. small), λ h. search)
