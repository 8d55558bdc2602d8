-- What begins at the row ends where its column says.
use Rattle.std.proofs.Common.{inl, inr, refl, ap, sym, ◌∙◌}
use Rattle.id_table.specs.declared.row.Row.{Row}
use Rattle.id_check.specs.Programs.{rows}
use Rattle.id_desugar.specs.Gathering.{is_opening}
use Rattle.id_desugar.proofs.EndsLemmas.{row_inside}
use Rattle.id_desugar.proofs.imports.inner_end.Goals as goal

pub returns-then-not-is_opening : goal.returns-then-not-is_opening
returns-then-not-is_opening c = inl refl

pub returns-in-Some : goal.returns-in-Some
returns-in-Some c =
    let P = c.args.ends.now.checked.now in
    let opens =
    sym (c.is_opening.ensures ∙ ap (λ (r : Row). is_opening r.node) c.row_at.ensures) ∙ c.if-not-is_opening.false in
    inr (
      sym (c.args.ends.now.ended.each c.args.row (row_inside (rows P) c.args.row is_opening refl opens))
          ∙ sym c.in-Some.ensures.row,
      opens,
    )

pub returns-in-None : goal.returns-in-None
returns-in-None c = inl refl
