-- What was looked at sends no more than the most, and at the end that is all.
use Rattle.std.proofs.Common.{◌≡◌, ◌+◌, ◌<◌, ◌≤◌, ℕ, List, arith, get_or, length, slice_index_or, subst, sym, ◌∙◌}
use Rattle.std.proofs.lemmas.Grind.{common_steps}
use Rattle.std.proofs.lemmas.List.{get_or_default}
use Rattle.id_instr.specs.declared.instr.Instr.{Instr}
use Rattle.id_step.specs.Firings.{most_sent}
use Rattle.id_step.proofs.outcome.greatest.Goals as goal

-- one more is looked at, and the bound does not fall
rises : (is : List Instr) (j m n : ℕ) (x : Instr) → j < length is → x ≡ slice_index_or is j x → m ≤ n → most_sent x ≤ n
    → ((k : ℕ) (d : Instr) → k < j → most_sent (slice_index_or is k d) ≤ m)
    → (k : ℕ) (d : Instr) → k < j + 1 → most_sent (slice_index_or is k d) ≤ n
rises is j m n x inside at below own before k d less =
    let same : get_or is j d ≡ x = get_or_default is j d x inside ∙ sym at in
    let last : most_sent (get_or is j d) ≤ n = subst (λ y. most_sent y ≤ n) (sym same) own in
    let earlier = before k d in
    grind (arith, common_steps, last, earlier)

pub loop-i-init : goal.loop-i-init
loop-i-init c = λ k d less. omega arith

pub loop-i-preserved : goal.loop-i-preserved
loop-i-preserved c = λ k d less.
    rises c.instrs-instrs.result.now c.loop-i.i c.loop-i.most c.if-own-most.most c.index-instrs-i.result
    c.loop-i-test.true c.index-instrs-i.is
    (grind (arith, common_steps)) (grind (arith, common_steps)) c.loop-i.invariant k d less

pub returns : goal.returns
returns c = λ k d less.
    grind (arith, common_steps, c.loop-i.invariant k d)
