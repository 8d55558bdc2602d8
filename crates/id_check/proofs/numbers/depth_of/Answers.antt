use Rattle.std.proofs.Common.{rules, ◌≡◌, ◌<◌, ◌+◌, length, suc, get_or, sym, ◌∙◌, ap, add-one, arith}
use Rattle.id_table.specs.declared.row.Row.{Row}
use Rattle.id_table.specs.Lent.{list_of}
use Rattle.id_table.specs.Loops.{depth}
use Rattle.id_table.specs.Rows.{at}
use Rattle.id_check.proofs.DepthsLemmas.{depth_loop, depth_none}
use Rattle.id_check.proofs.numbers.depth_of.Goals as goal
use Rattle.id_check.proofs.numbers.depth_of.Goals.{In-LoopHead}

-- the depth is one more than that of the `Start`, which is known, and not above the number of that
known : (c : In-LoopHead)
    → (c.in-LoopHead.start < c.args.i)
    × (depth (list_of c.args.rows.now) c.args.i ≡ get_or c.args.depths.now c.in-LoopHead.start 0 + 1) ×
    (get_or c.args.depths.now c.in-LoopHead.start 0 < c.args.i)
known c =
    let R = (list_of c.args.rows.now) in
    let s = c.in-LoopHead.start in
    let is = ap (λ b. (at R b).node) (ap (λ (r : Row). r.block) (sym c.at.ensures))
    ∙ (ap (λ (r : Row). r.node) (sym c.at-2.ensures) ∙ c.in-LoopHead.is) in
    let w = depth_loop R c.args.i s c.args.rows.now.in_blocks is in
    let same = c.requires.each s w.0 in (
      w.0,
      w.1 ∙ (ap (λ n. suc n) (sym same) ∙ sym (add-one (get_or c.args.depths.now s 0))),
      omega (arith, same, w.0, w.2),
    )

below : (c : In-LoopHead) → c.in-LoopHead.start < length c.args.depths.now
below c = omega (arith, (known c).0, c.requires.long)

pub bounds-depths-start : goal.bounds-depths-start
bounds-depths-start c = below ((goal.at.bounds-depths-start c).In-LoopHead)

pub offset_bounds-depths-start : goal.offset_bounds-depths-start
offset_bounds-depths-start c = let less = below c in search (rules, less)

pub overflow_add-result : goal.overflow_add-result
overflow_add-result c =
    let d = (goal.at.overflow_add-result c).In-LoopHead in
    omega (arith, (known d).2, c.ranges.i)

pub returns-in-LoopHead : goal.returns-in-LoopHead
returns-in-LoopHead c = sym (known (goal.at.returns-in-LoopHead c).In-LoopHead).1

pub returns-in_default : goal.returns-in_default
returns-in_default c =
    let R = (list_of c.args.rows.now) in
    sym (depth_none R c.args.i (λ s e. c.in_default.not-LoopHead s (ap (λ (r : Row). r.node) c.at-2.ensures
    ∙ (ap (λ b. (at R b).node) (ap (λ (r : Row). r.block) c.at.ensures) ∙ e))))
