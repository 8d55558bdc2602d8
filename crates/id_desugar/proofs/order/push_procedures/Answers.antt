-- One more row.
use Rattle.std.proofs.Common.{◌∷◌, ◌++◌, [], ap, sym, ◌∙◌, append_assoc, ◌≡◌, append-nil, arith, subst}
use Rattle.id_desugar.specs.Regions.{in_procedure, those}
use Rattle.id_desugar.proofs.OrderLemmas.{those-no, those-yes}
use Rattle.id_desugar.proofs.order.push_procedures.Goals.{then-is_in_procedure+in_ok-push, else-is_in_procedure}
use Rattle.id_desugar.proofs.order.push_procedures.Goals as goal

pub loop-row-preserved : goal.loop-row-preserved
loop-row-preserved c =
    let f = in_procedure c.args.checked.now in
    let row = c.loop-row.row in
    let old = c.args.order.now.items in
    elim c.if-is_in_procedure.branch [
      | then-is_in_procedure+in_ok-push w ↦
          ap (λ o. o.items) w.order-is ∙ w.in_ok-push.ensures.items ∙ ap (λ z. z ++ row ∷ []) c.loop-row.invariant
          ∙ append_assoc old (those f row) (row ∷ [])
          ∙ ap (λ z. old ++ z) (sym (those-yes f row (sym c.is_in_procedure.ensures ∙ w.if-is_in_procedure.true)))
      | else-is_in_procedure w ↦
          ap (λ o. o.items) w.order-is ∙ c.loop-row.invariant
          ∙ ap (λ z. old ++ z) (sym (those-no f row (sym c.is_in_procedure.ensures ∙ w.if-is_in_procedure.false)))
    ]

pub loop-row-init : goal.loop-row-init
loop-row-init c = sym (append-nil c.args.order.now.items)

pub returns : goal.returns
returns c =
    let end : c.loop-row.row ≡ c.args.last = omega (arith, c.loop-row-test.false, c.loop-row.auto.row-end) in
    subst (λ n. c.loop-row.order.items ≡ c.args.order.now.items ++ those (in_procedure c.args.checked.now) n) end
    c.loop-row.invariant
