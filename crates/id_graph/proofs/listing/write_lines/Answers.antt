use Rattle.std.proofs.Common.{◌≤◌, arith, length, refl, subst, sym}
use Rattle.std.proofs.lemmas.Grind.{common_steps}
use Rattle.std.proofs.lemmas.List.Elements.{All-get_or}
use Rattle.id_instr.specs.declared.instr.Instr.{Instr}
use Rattle.id_graph.specs.Listing.{line_text, lines_text}
use Rattle.id_graph.proofs.PieceLemmas.{walk_done, walk_on}
use Rattle.id_graph.proofs.listing.write_lines.Goals as goal

pub loop-number-init : goal.loop-number-init
loop-number-init c = refl

pub offset_bounds-instrs-number : goal.offset_bounds-instrs-number
offset_bounds-instrs-number c = grind (arith, common_steps)

pub bounds-instrs-number : goal.bounds-instrs-number
bounds-instrs-number c = c.loop-number-test.true

pub write_line-requires : goal.write_line-requires
write_line-requires c =
    let all = All-get_or (λ (i : Instr). i.place ≤ length c.args.lines.now) c.args.instrs.now c.loop-number.number in
    subst (λ (i : Instr). i.place ≤ length c.args.lines.now) (sym c.index-instrs-number.is)
    (all c.index-instrs-number.result c.loop-number-test.true c.requires)

pub loop-number-preserved : goal.loop-number-preserved
loop-number-preserved c =
    let text = c.args.lines.now in
    walk_on (lines_text text) (line_text text) (λ n i is. refl) c.loop-number.number c.args.instrs.now c.index-instrs-number.result _ _ _
    c.loop-number-test.true c.index-instrs-number.is c.loop-number.invariant c.in_ok-write_line.ensures

pub returns : goal.returns
returns c = walk_done (lines_text c.args.lines.now) (λ n. refl) c.loop-number.number c.args.instrs.now _ _ c.loop-number-test.false c.loop-number.invariant
