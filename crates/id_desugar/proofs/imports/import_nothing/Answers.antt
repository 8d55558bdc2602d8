-- One more row imports nothing, and at last none does.
use Rattle.std.proofs.Common.{◌≡◌, ◌∙◌, [], ap, sym, subst, arith, length, replicate}
use Rattle.id_check.specs.Programs.{rows}
use Rattle.id_table.specs.declared.row.Row.{Row}
use Rattle.id_desugar.specs.Gathering.{may_import}
use Rattle.id_desugar.specs.Regions.{imports_below}
use Rattle.id_desugar.proofs.FilledLemmas.{imports_below-none}
use Rattle.id_desugar.proofs.imports.import_nothing.Goals as goal

pub loop-row-preserved : goal.loop-row-preserved
loop-row-preserved c =
    imports_below-none c.args.checked.now c.loop-row.row c.loop-row.invariant
    (ap (λ (r : Row). may_import r.node) (sym c.row_at.ensures) ∙ sym c.may_import.ensures ∙ c.if-may_import.false)

pub returns : goal.returns
returns c =
    let end : c.loop-row.row ≡ length (rows c.args.checked.now) =
    omega (arith, c.loop-row.auto.row-end, c.loop-row-test.false, c.len-row-end.ensures) in
    λ _. subst (λ n. imports_below c.args.checked.now n ≡ replicate n []) end c.loop-row.invariant
