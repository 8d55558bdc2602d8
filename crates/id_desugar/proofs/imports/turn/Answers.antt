-- A row gets its imports.
use Rattle.std.proofs.Common.{◌≡◌, ℕ, ◌+◌, false, refl, ap, sym, ◌∙◌, arith, subst}
use Rattle.id_check.specs.Programs.{rows}
use Rattle.id_table.specs.declared.row.Row.{Row}
use Rattle.id_table.specs.declared.row.Node.{Node}
use Rattle.id_table.specs.declared.row.Node.TheVariants.{LoopHead, Switches}
use Rattle.id_table.specs.Tables.{is_switches}
use Rattle.id_desugar.specs.Regions.{is_loop_head}
use Rattle.id_desugar.proofs.FilledLemmas.{AreTurned-same, AreTurned-set, loop_imports}
use Rattle.id_desugar.proofs.EndsLemmas.{row_inside}
use Rattle.id_desugar.proofs.NotesLemmas.{AreMarks-more}
use Rattle.id_desugar.specs.Gathering.{AreTurned}
use Rattle.id_desugar.proofs.imports.turn.Goals as goal

pub imports_of_loop-requires : goal.imports_of_loop-requires
imports_of_loop-requires c = record {
  head = ap (λ (r : Row). is_loop_head r.node) (sym c.row_at.ensures) ∙ ap is_loop_head c.in-LoopHead.is;
  lists = subst (AreTurned c.args.spans.now.ends.checked.now c.args.row) (sym c.as_slice.ensures.value)
      c.requires.lists;
  marks = c.requires.marks;
}

pub handed_on-requires : goal.handed_on-requires
handed_on-requires c = record {
  lists = subst (AreTurned c.args.spans.now.ends.checked.now c.args.row) (sym c.as_slice-in-Switches.ensures.value)
      c.requires.lists;
  node = ap (λ (r : Row). is_switches r.node) (sym c.row_at.ensures) ∙ ap is_switches c.in-Switches.is;
}

pub index_mut-requires : goal.index_mut-requires
index_mut-requires c =
    let head = ap (λ (r : Row). is_loop_head r.node) (sym c.row_at.ensures) ∙ ap is_loop_head c.in-LoopHead.is in
    omega (
      arith,
      row_inside (rows c.args.spans.now.ends.checked.now) c.args.row is_loop_head refl head,
      c.requires.lists.many,
    )

pub index_mut-requires-in-Switches : goal.index_mut-requires-in-Switches
index_mut-requires-in-Switches c =
    let node = ap (λ (r : Row). is_switches r.node) (sym c.row_at.ensures) ∙ ap is_switches c.in-Switches.is in
    omega (
      arith,
      row_inside (rows c.args.spans.now.ends.checked.now) c.args.row is_switches refl node,
      c.requires.lists.many,
    )

pub returns-in_ok-imports-in-LoopHead : goal.returns-in_ok-imports-in-LoopHead
returns-in_ok-imports-in-LoopHead c =
    let P = c.args.spans.now.ends.checked.now in
    let node = ap (λ (r : Row). r.node) (sym c.row_at.ensures) ∙ c.in-LoopHead.is in
    record {
      lists = AreTurned-set P c.args.row c.args.lists.now.items c.in_ok-imports-in-LoopHead.imports c.requires.lists
          (row_inside (rows P) c.args.row is_loop_head refl (ap is_loop_head node))
          (c.in_ok-imports-in-LoopHead.ensures.list ∙ loop_imports P c.args.row c.in-LoopHead.start node);
      marks = c.in_ok-imports-in-LoopHead.ensures.marks;
    }

pub returns-in_ok-imports-in-Switches : goal.returns-in_ok-imports-in-Switches
returns-in_ok-imports-in-Switches c =
    let P = c.args.spans.now.ends.checked.now in
    let node = ap (λ (r : Row). is_switches r.node) (sym c.row_at.ensures) ∙ ap is_switches c.in-Switches.is in
    record {
      lists = AreTurned-set P c.args.row c.args.lists.now.items c.in_ok-imports-in-Switches.imports c.requires.lists
          (row_inside (rows P) c.args.row is_switches refl node) c.in_ok-imports-in-Switches.ensures;
      marks = AreMarks-more P (c.args.row + 1) (c.args.row + 2) c.args.marks.now.items (omega arith) c.requires.marks;
    }

no_head : (n : Node) → ((s : ℕ) → n ≡ LoopHead s → ⊥) → is_loop_head n ≡ false
no_head (LoopHead s) f = absurd (f s refl)
no_head _ f = refl

no_switches : (n : Node) → ((t : ℕ) → n ≡ Switches t → ⊥) → is_switches n ≡ false
no_switches (Switches t) f = absurd (f t refl)
no_switches _ f = refl

pub returns-in_default : goal.returns-in_default
returns-in_default c =
    let P = c.args.spans.now.ends.checked.now in
    let node = ap (λ (r : Row). r.node) c.row_at.ensures in
    record {
      lists = AreTurned-same P c.args.row c.args.lists.now.items c.requires.lists (sym (ap is_loop_head node)
          ∙ no_head c.row_at.result.node c.in_default.not-LoopHead)
          (sym (ap is_switches node) ∙ no_switches c.row_at.result.node c.in_default.not-Switches);
      marks = AreMarks-more P (c.args.row + 1) (c.args.row + 2) c.args.marks.now.items (omega arith) c.requires.marks;
    }
