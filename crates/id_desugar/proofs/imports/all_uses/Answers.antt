-- At first no list is filled, and at last all are.
use Rattle.std.proofs.Common.{arith, ◌≡◌, ◌+◌, length, subst}
use Rattle.id_desugar.proofs.FilledLemmas.{AreFilled-none}
use Rattle.id_check.specs.Programs.{rows}
use Rattle.id_desugar.specs.Gathering.{AreFilled}
use Rattle.id_desugar.proofs.NotesLemmas.{AreBelow-zeros, AreMarks-more}
use Rattle.id_desugar.proofs.imports.all_uses.Goals as goal

pub loop-end-init : goal.loop-end-init
loop-end-init c = (
  AreFilled-none c.args.ends.now.checked.now c.in_ok-lists.lists.items (omega (
    arith,
    c.in_ok-lists.ensures.0,
    c.len-count.ensures,
  )) c.in_ok-lists.ensures.1,
  record {
    many = omega (arith, c.in_ok-marks.ensures.len, c.len-count.ensures);
    below = AreBelow-zeros c.len-count.result c.in_ok-marks.marks.items
        (c.in_ok-marks.ensures.items_if_clones_equal (λ y e. e));
  },
)

pub fill-requires : goal.fill-requires
fill-requires c = record { lists = c.loop-end.invariant.0; marks = c.loop-end.invariant.1 }

pub loop-end-preserved : goal.loop-end-preserved
loop-end-preserved c =
    let n = c.loop-end.end in (
      c.in_ok-fill.ensures.lists,
      AreMarks-more c.args.ends.now.checked.now (n + 2) (n + 1 + 1) c.fill.new.marks.items (omega arith)
          c.in_ok-fill.ensures.marks,
    )

pub returns : goal.returns
returns c =
    let end : c.loop-end.end ≡ length (rows c.args.ends.now.checked.now) =
    omega (arith, c.loop-end-test.false, c.loop-end.auto.end-end, c.len-count.ensures) in
    subst (λ n. AreFilled c.args.ends.now.checked.now n c.loop-end.lists.items) end c.loop-end.invariant.0
