-- Where no construct ends.
use Rattle.std.proofs.Common.{◌≡◌, IsTrue, Bool, true, false, ap, sym, ◌∙◌}
use Rattle.id_desugar.specs.Ends.{begun_at}
use Rattle.id_desugar.proofs.EndsLemmas.{ends_no_opening, ends_nothing}
use Rattle.id_desugar.proofs.imports.opening_ended.Goals as goal

not_both : (t : Bool) → t ≡ false → IsTrue t → ⊥
not_both true e h = cc
not_both false e h = cc

pub returns-in_default-clause-none : goal.returns-in_default-clause-none
returns-in_default-clause-none c _ =
    let begun = sym (c.begun_at-begun.ensures ∙ ap (λ r. begun_at r.node) c.row_at.ensures) ∙ c.in-Some.is in
    ends_no_opening c.args.ends.now.checked.now c.args.end c.in-Some.opening begun
    (λ h. not_both c.is_ended.result c.if-is_ended.false (c.is_ended.ensures.1 h))

pub returns-in_default-2-clause-none : goal.returns-in_default-2-clause-none
returns-in_default-2-clause-none c _ =
    ends_nothing c.args.ends.now.checked.now c.args.end c.begun_at-begun.result (c.begun_at-begun.ensures
    ∙ ap (λ r. begun_at r.node) c.row_at.ensures) c.in_default.is
