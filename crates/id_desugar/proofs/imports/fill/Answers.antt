-- The list of the construct that ends is filled.
use Rattle.std.proofs.Common.{◌∙◌, ◌+◌, sym, subst, refl, arith}
use Rattle.id_desugar.specs.Gathering.{AreGathered}
use Rattle.id_desugar.proofs.FilledLemmas.{AreFilled-gathered, AreFilled-set, AreFilled-same}
use Rattle.id_desugar.proofs.EndsLemmas.{end_begins}
use Rattle.id_desugar.proofs.NotesLemmas.{AreMarks-more}
use Rattle.id_desugar.proofs.imports.fill.Goals as goal

pub gather-requires : goal.gather-requires
gather-requires c = record {
  within = (end_begins c.args.ends.now.checked.now c.in-Some.opening c.args.end c.in-Some.ensures.some.1).0;
  lists = subst (AreGathered c.args.ends.now.checked.now (c.in-Some.opening + 1) c.args.end)
      (sym c.as_slice.ensures.value)
      (AreFilled-gathered c.args.ends.now.checked.now (c.in-Some.opening + 1) c.args.end c.args.lists.now.items
      c.requires.lists);
  count = record { each = λ s e i inner low high. refl };
  marks = record { many = c.requires.marks.many; below = c.requires.marks.below };
}

pub overflow_add-span : goal.overflow_add-span
overflow_add-span c = omega (arith, c.in-Some.ensures.some.0, c.args.ends.now.few)

pub overflow_cast-span : goal.overflow_cast-span
overflow_cast-span c =
    let low = end_begins c.args.ends.now.checked.now c.in-Some.opening c.args.end c.in-Some.ensures.some.1 in
    omega (arith, low.0, c.args.ends.now.few)

pub overflow_add-span-in-Some : goal.overflow_add-span-in-Some
overflow_add-span-in-Some c =
    let low = end_begins c.args.ends.now.checked.now c.in-Some.opening c.args.end c.in-Some.ensures.some.1 in
    omega (arith, low.0, c.args.ends.now.few)

pub index_mut-requires : goal.index_mut-requires
index_mut-requires c = omega (arith, c.in-Some.ensures.some.0, c.requires.lists.many)

pub returns-in_ok-uses : goal.returns-in_ok-uses
returns-in_ok-uses c =
    let s = c.in-Some.opening in
    let some = c.in-Some.ensures.some in
    record {
      lists = AreFilled-set c.args.ends.now.checked.now c.args.end s c.args.lists.now.items c.in_ok-uses.uses
          c.requires.lists some.0 some.1 some.2
          (c.in_ok-uses.ensures ∙ c.in_ok-list.ensures.list);
      marks = AreMarks-more c.args.ends.now.checked.now (c.args.end + 1 + 1) (c.args.end + 2) c.gather.new.marks.items
          (omega arith) c.in_ok-list.ensures.marks;
    }

-- nothing ends that uses names from outside
pub returns-in_default : goal.returns-in_default
returns-in_default c = record {
  lists = AreFilled-same c.args.ends.now.checked.now c.args.end c.args.lists.now.items c.requires.lists
      (c.in_default.ensures.none refl);
  marks = AreMarks-more c.args.ends.now.checked.now (c.args.end + 1) (c.args.end + 2) c.args.marks.now.items
      (omega arith) c.requires.marks;
}
