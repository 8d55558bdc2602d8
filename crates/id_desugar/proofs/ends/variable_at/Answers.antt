-- The variable is a row.
use Rattle.std.proofs.Common.{ap, sym, ◌∙◌, arith}
use Rattle.id_table.specs.declared.row.Row.{Row}
use Rattle.id_desugar.proofs.EndsLemmas.{variable_within}
use Rattle.id_desugar.proofs.ends.variable_at.Goals as goal

pub overflow_add-result : goal.overflow_add-result
overflow_add-result c =
    let block = ap (λ (r : Row). r.block) c.row_at-row.ensures in
    let low = variable_within c.args.checked.now c.args.n c.in-Next.name c.in-Next.index c.in-Next.outer c.in-Next.value
    (ap (λ (r : Row). r.node) (sym c.row_at-row.ensures) ∙ c.in-Next.is) in
    omega (arith, block, low, c.args.checked.now.table.rows.ok.0)

pub overflow_add-result-in-Next : goal.overflow_add-result-in-Next
overflow_add-result-in-Next c =
    let block = ap (λ (r : Row). r.block) c.row_at-row.ensures in
    let low = variable_within c.args.checked.now c.args.n c.in-Next.name c.in-Next.index c.in-Next.outer c.in-Next.value
    (ap (λ (r : Row). r.node) (sym c.row_at-row.ensures) ∙ c.in-Next.is) in
    omega (arith, block, low, c.args.checked.now.table.rows.ok.0)
