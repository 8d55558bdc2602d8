-- The entries of a loop's imports are a row.
use Rattle.std.proofs.Common.{◌+◌, List, ℕ, ap, arith, length, ◌∙◌}
use Rattle.id_desugar.specs.Regions.{first_variable}
use Rattle.id_build.proofs.LoopsLemmas.{carried_few, head_inside, rows_few}
use Rattle.id_build.proofs.loops.entries_row.Goals as goal

pub overflow_add-result : goal.overflow_add-result
overflow_add-result c =
    let P = c.args.kernel.now.checked.now in
    let h = c.args.head in
    omega (
      arith,
      head_inside P h c.requires,
      rows_few P,
      carried_few P h,
      c.first_variable.ensures,
      c.nexts_at.ensures.few,
    )

pub returns : goal.returns
returns c =
    ap (λ v. v + length c.nexts_at.result.now) c.first_variable.ensures
    ∙ ap (λ (l : List ℕ). first_variable c.args.kernel.now.checked.now c.args.head + length l) c.nexts_at.ensures.nexts
