-- At first the lists are those of uses, and at last those of imports.
use Rattle.std.proofs.Common.{refl, arith, length, ◌+◌}
use Rattle.id_check.specs.Programs.{rows}
use Rattle.id_desugar.proofs.FilledLemmas.{AreTurned-none, turned_all}
use Rattle.id_desugar.proofs.NotesLemmas.{AreBelow-zeros, AreMarks-more}
use Rattle.id_desugar.proofs.imports.all_lists.Goals as goal

pub loop-row-init : goal.loop-row-init
loop-row-init c = (
  AreTurned-none c.args.spans.now.ends.checked.now (length (rows c.args.spans.now.ends.checked.now))
      c.in_ok-lists.lists.items refl c.in_ok-lists.ensures,
  record {
    many = omega (arith, c.in_ok-marks.ensures.len, c.len-count.ensures);
    below = AreBelow-zeros c.len-count.result c.in_ok-marks.marks.items
        (c.in_ok-marks.ensures.items_if_clones_equal (λ y e. e));
  },
)

pub returns : goal.returns
returns c =
    turned_all c.args.spans.now.ends.checked.now c.loop-row.row c.loop-row.lists.items
    (omega (arith, c.loop-row-test.false, c.loop-row.auto.row-end, c.len-count.ensures)) c.loop-row.invariant.0

pub turn-requires : goal.turn-requires
turn-requires c = record { lists = c.loop-row.invariant.0; marks = c.loop-row.invariant.1 }

pub loop-row-preserved : goal.loop-row-preserved
loop-row-preserved c =
    let n = c.loop-row.row in (
      c.in_ok-turn.ensures.lists,
      AreMarks-more c.args.spans.now.ends.checked.now (n + 2) (n + 1 + 1) c.turn.new.marks.items (omega arith)
          c.in_ok-turn.ensures.marks,
    )
