-- What a loop carries on beside its variables and these stand one behind another, from the row behind its head up to
-- those
-- of its imports.
use Rattle.std.proofs.Common.{◌≡◌, ◌∙◌, ◌+◌, ◌-◌, ◌<◌, ◌≤◌, ◌++◌, ◌∷◌, [], List, ℕ, ap, add-zero, arith, length}
use Rattle.std.proofs.Common.{length-append, map, drop, refl, sym}
use Rattle.id_desugar.specs.Regions.{carried, nexts_of}
use Rattle.id_build.specs.Made.{number_by}
use Rattle.id_build.specs.Rows.{Entry, entries_row, variable_entries}
use Rattle.id_build.proofs.PushedLemmas.{rest_done}
use Rattle.id_build.proofs.SendsLemmas.{variable_entries-next}
use Rattle.id_build.proofs.BlocksLemmas.{carried_entries}
use Rattle.id_build.proofs.program.push_variables.Goals as goal

pub loop-variable-init : goal.loop-variable-init
loop-variable-init c =
    let F = c.args.slots.now.firsts.items in
    let f : Entry → ℕ = λ q. number_by F q.row q.part in
    let h = c.args.head + 1 in
    let none : h - h ≡ 0 = omega arith in
    let old : List ℕ = c.args.entries.now.items in
    let ns = carried c.args.slots.now.kernel.now.checked.now c.args.head
    ++ nexts_of c.args.slots.now.kernel.now.checked.now c.args.head in
    ap (λ k. old ++ map f (variable_entries (h + k) (drop k ns))) none
    ∙ ap (λ v. old ++ map f (variable_entries v ns)) (add-zero h)

pub loop-variable-preserved : goal.loop-variable-preserved
loop-variable-preserved c =
    let P = c.args.slots.now.kernel.now.checked.now in
    let h = c.args.head in
    let F = c.args.slots.now.firsts.items in
    let v = c.loop-variable.variable in
    let i = v - (h + 1) in
    let f : Entry → ℕ = λ q. number_by F q.row q.part in
    let low = c.loop-variable.auto.variable in
    let high : v < entries_row P h = omega (arith, c.loop-variable-test.true, c.requires) in
    let ns = carried P h ++ nexts_of P h in
    let less : i < length ns = omega (arith, low, high, length-append (carried P h) (nexts_of P h)) in
    let up : (v + 1) - (h + 1) ≡ i + 1 = omega (arith, low) in
    let row : h + 1 + i ≡ v = omega (arith, low) in
    let pushed = c.in_ok-push.ensures.items ∙ ap (λ n. c.loop-variable.entries.items ++ n ∷ [])
    (c.number_at.ensures.number ∙ ap (λ k. number_by F k 0) (sym row)) in
    variable_entries-next f (h + 1) i ((v + 1) - (h + 1)) ns c.loop-variable.entries.items c.push.new.self.items
    (c.args.entries.now.items ++ map f (variable_entries (h + 1) ns)) less up c.loop-variable.invariant pushed

pub returns : goal.returns
returns c =
    let P = c.args.slots.now.kernel.now.checked.now in
    let h = c.args.head in
    let f : Entry → ℕ = λ q. number_by c.args.slots.now.firsts.items q.row q.part in
    let i = c.loop-variable.variable - (h + 1) in
    let ns = carried P h ++ nexts_of P h in
    let end : length ns ≤ i =
    omega (arith, c.loop-variable-test.false, c.requires, length-append (carried P h) (nexts_of P h)) in
    rest_done (λ z. map f (variable_entries (h + 1 + i) z)) i ns c.loop-variable.entries.items _ refl end
    c.loop-variable.invariant
    ∙ ap (λ (z : List ℕ). c.args.entries.now.items ++ z) (carried_entries P c.args.slots.now.firsts.items h)

pub overflow_cast-number_at : goal.overflow_cast-number_at
overflow_cast-number_at c = omega (arith, c.number_at.ensures.few)
