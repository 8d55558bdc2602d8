-- The label of a variable is a row.
use Rattle.std.proofs.Common.{◌∙◌, ap, sym, arith}
use Rattle.id_build.proofs.LoopsLemmas.{label_inside, rows_few}
use Rattle.id_build.proofs.loops.label.Goals as goal

pub overflow_add-result : goal.overflow_add-result
overflow_add-result c =
    let P = c.args.checked.now in
    let n = c.in-Next in
    let z = label_inside P c.args.binder n.name n.index n.outer n.value (ap (λ r. r.node) (sym c.row_at-row.ensures)
    ∙ n.is) in
    omega (arith, z.0, rows_few P, ap (λ r. r.block) c.row_at-row.ensures)

pub overflow_add-result-in-Next : goal.overflow_add-result-in-Next
overflow_add-result-in-Next c =
    let P = c.args.checked.now in
    let n = c.in-Next in
    let z = label_inside P c.args.binder n.name n.index n.outer n.value (ap (λ r. r.node) (sym c.row_at-row.ensures)
    ∙ n.is) in
    omega (arith, z.0, rows_few P, ap (λ r. r.block) c.row_at-row.ensures)
