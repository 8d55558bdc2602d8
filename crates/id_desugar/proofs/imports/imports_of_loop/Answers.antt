-- In the constructs of a loop each use counts.
use Rattle.std.proofs.Common.{◌+◌, ◌∙◌, ap, arith, refl}
use Rattle.id_check.specs.Programs.{rows}
use Rattle.id_desugar.specs.Regions.{imports, is_loop_head, used}
use Rattle.id_desugar.proofs.EndsLemmas.{end_within, row_inside}
use Rattle.id_desugar.proofs.NotesLemmas.{AreMarks-more}
use Rattle.id_desugar.proofs.OwnLemmas.{loop_counts}
use Rattle.id_desugar.proofs.FilledLemmas.{AreTurned-gathered}
use Rattle.id_desugar.proofs.imports.imports_of_loop.Goals as goal

pub gather-requires : goal.gather-requires
gather-requires c = record {
  within = omega (
    arith,
    end_within c.args.ends.now.checked.now c.args.head
        (row_inside (rows c.args.ends.now.checked.now) c.args.head is_loop_head refl
        c.requires.head),
    c.end_of.ensures,
  );
  lists = AreTurned-gathered c.args.ends.now.checked.now c.args.head c.end_of.result c.args.lists.now c.requires.lists;
  count = loop_counts c.args.ends.now.checked.now c.args.head c.end_of.result;
  marks = record { many = c.requires.marks.many; below = c.requires.marks.below };
}

pub overflow_add-span : goal.overflow_add-span
overflow_add-span c =
    let low = row_inside (rows c.args.ends.now.checked.now) c.args.head is_loop_head refl c.requires.head in
    omega (arith, low, c.args.ends.now.few)

pub overflow_cast-span : goal.overflow_cast-span
overflow_cast-span c =
    let low = row_inside (rows c.args.ends.now.checked.now) c.args.head is_loop_head refl c.requires.head in
    omega (arith, low, c.args.ends.now.few)

pub overflow_add-span-2 : goal.overflow_add-span-2
overflow_add-span-2 c =
    let low = row_inside (rows c.args.ends.now.checked.now) c.args.head is_loop_head refl c.requires.head in
    omega (arith, low, c.args.ends.now.few)

pub returns : goal.returns
returns c =
    let P = c.args.ends.now.checked.now in
    let h = c.args.head in
    record {
      list = c.in_ok-imports.ensures ∙ c.in_ok-list.ensures.list ∙ ap (imports (used P h) (h + 1)) c.end_of.ensures;
      marks = AreMarks-more P (h + 1 + 1) (h + 2) c.gather.new.marks.items (omega arith) c.in_ok-list.ensures.marks;
    }
