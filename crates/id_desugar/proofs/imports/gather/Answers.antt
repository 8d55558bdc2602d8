-- At first nothing is noted.
use Rattle.std.proofs.Common.{◌≡◌, ◌-◌, ap, sym, ◌∙◌, subst, arith}
use Rattle.id_desugar.specs.Gathering.{AreMarked, used_in}
use Rattle.id_desugar.specs.Regions.{imports_by}
use Rattle.id_desugar.proofs.NotesLemmas.{AreMarked-none}
use Rattle.id_desugar.proofs.imports.gather.Goals as goal

pub loop-row-init : goal.loop-row-init
loop-row-init c =
    let lo = c.args.span.lo in
    let none : 0 ≡ lo - lo = omega arith in (
      omega arith,
      omega arith,
      record {
        many = c.requires.marks.many;
        marked = subst (AreMarked c.args.span.mark c.args.marks.now.items) (sym c.new-list.ensures.items)
            (AreMarked-none c.args.span.mark c.args.marks.now.items c.requires.marks.below);
        list = c.new-list.ensures.items
            ∙ ap (imports_by (used_in c.args.ends.now.checked.now c.args.span.own) lo c.args.span.hi) none;
      },
    )

pub note_row-requires : goal.note_row-requires
note_row-requires c = record {
  within = c.requires.within;
  row = (c.loop-row.invariant.0, c.loop-row-test.true);
  lists = c.requires.lists;
  count = c.requires.count;
  noted = c.loop-row.invariant.2;
}

pub loop-row-preserved : goal.loop-row-preserved
loop-row-preserved c =
    let row = c.in_ok-row.ensures.row in
    (omega (arith, c.loop-row.invariant.0, row.0), omega (arith, row.1), c.in_ok-row.ensures.noted)

pub returns : goal.returns
returns c =
    let i = c.loop-row.invariant in
    let lo = c.args.span.lo in
    let hi = c.args.span.hi in
    let end : c.loop-row.row - lo ≡ hi - lo = omega (arith, i.0, i.1, c.loop-row-test.false) in
    record {
      list = subst
          (λ k. c.loop-row.list.items ≡ imports_by (used_in c.args.ends.now.checked.now c.args.span.own) lo hi k) end
          i.2.list;
      marks = record { many = i.2.many; below = i.2.marked.below };
    }
