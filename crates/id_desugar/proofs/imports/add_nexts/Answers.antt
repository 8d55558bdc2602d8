-- One more variable, or none.
use Rattle.std.proofs.Common.{◌≡◌, ℕ, List, ◌+◌, ◌-◌, ◌<◌, ◌∷◌, ◌++◌, true, false, [], length, ap, sym, ◌∙◌, arith}
use Rattle.std.proofs.Common.{append_assoc, append-nil}
use Rattle.id_check.specs.declared.checked.Checked.{Checked}
use Rattle.id_check.specs.Programs.{rows}
use Rattle.id_table.specs.declared.row.Row.{Row}
use Rattle.id_table.specs.Rows.{at}
use Rattle.id_table.specs.Tables.{is_variable}
use Rattle.id_desugar.specs.Ends.{next_of}
use Rattle.id_desugar.specs.Regions.{first_variable, nexts_from, nexts_of}
use Rattle.id_desugar.proofs.EndsLemmas.{no_variable, nexts-next, nexts-none}
use Rattle.id_desugar.proofs.imports.add_nexts.Goals as goal

-- all are added where no variable stands at the row
all_added : (P : Checked) (h v n : ℕ) (old new : List ℕ) → is_variable (at (rows P) v).node ≡ false
    → new ++ nexts_from P v n ≡ old ++ nexts_of P h → new ≡ old ++ nexts_of P h
all_added P h v n old new none e = sym (ap (λ z. new ++ z) (nexts-none P v n none) ∙ append-nil new) ∙ e

pub loop-row-preserved : goal.loop-row-preserved
loop-row-preserved c =
    let P = c.args.spans.now.ends.checked.now in
    let row = c.loop-row.row in
    let v = first_variable P c.args.head in
    let n = v + length (rows P) - row in
    let xs = c.loop-row.list.items in
    let low : 0 < n = omega (arith, c.loop-row-test.true, c.len-row-end.ensures) in
    let one : n - 1 ≡ v + length (rows P) - (row + 1) = omega (arith, c.loop-row-test.true, c.len-row-end.ensures) in
    let is : is_variable (at (rows P) row).node ≡ true =
    sym (c.is_variable.ensures ∙ ap (λ (r : Row). is_variable r.node) c.row_at.ensures)
    ∙ c.if-not-is_variable.false in
    let step = nexts-next P row n low is in
    let x = c.next_of.result in
    ap (λ z. z ++ nexts_from P (row + 1) (v + length (rows P) - (row + 1))) c.in_ok-push.ensures.items
    ∙ append_assoc xs (x ∷ []) (nexts_from P (row + 1) (v + length (rows P) - (row + 1)))
    ∙ ap (λ z. xs ++ (z ∷ nexts_from P (row + 1) (v + length (rows P) - (row + 1)))) c.next_of.ensures
    ∙ ap (λ z. xs ++ z) (ap (λ z. next_of P row ∷ nexts_from P (row + 1) z) (sym one) ∙ sym step) ∙ c.loop-row.invariant

pub returns-after-loop-row : goal.returns-after-loop-row
returns-after-loop-row c =
    let P = c.args.spans.now.ends.checked.now in
    let row = c.loop-row.row in
    all_added P c.args.head row (first_variable P c.args.head + length (rows P) - row) c.args.list.now.items
    c.loop-row.list.items
    (no_variable P row (omega (arith, c.loop-row-test.false, c.len-row-end.ensures))) c.loop-row.invariant

pub returns-then-not-is_variable : goal.returns-then-not-is_variable
returns-then-not-is_variable c =
    let P = c.args.spans.now.ends.checked.now in
    let row = c.loop-row.row in
    all_added P c.args.head row (first_variable P c.args.head + length (rows P) - row) c.args.list.now.items
    c.loop-row.list.items
    (sym (c.is_variable.ensures ∙ ap (λ (r : Row). is_variable r.node) c.row_at.ensures) ∙ c.if-not-is_variable.true)
    c.loop-row.invariant

pub loop-row-init : goal.loop-row-init
loop-row-init c =
    let P = c.args.spans.now.ends.checked.now in
    let v = first_variable P c.args.head in
    let all : v + length (rows P) - v ≡ length (rows P) = omega arith in
    let start = c.first_variable-row.ensures in
    ap (λ z. c.args.list.now.items ++ nexts_from P z (v + length (rows P) - z)) start
    ∙ ap (λ z. c.args.list.now.items ++ nexts_from P v z) all
