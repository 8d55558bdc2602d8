-- A word is refused, or gives its parameter a value.
use Rattle.std.proofs.Common.{◌+◌, ◌<◌, length, map, IfSome, sym, ◌∙◌, subst, arith}
use Rattle.std.proofs.lemmas.List.{length-map}
use Rattle.id_source.proofs.InputsLemmas.{Progress, progress-refused, progress-next, said-all, word_at}
use Rattle.std.proofs.lemmas.Grind.{common_steps}
use Rattle.id_source.proofs.TurnsLemmas.{if_err}
use Rattle.id_source.proofs.inputs.values_said.Goals as goal

pub returns-in-Err-clause-refused : goal.returns-in-Err-clause-refused
returns-in-Err-clause-refused c =
    let inside : c.loop-j.j < length (map (λ w. w.now) c.args.words.now) = rw length-map c.loop-j-test.true in
    progress-refused c.args.params.now _ c.loop-j.j c.loop-j.values.items c.loop-j.invariant inside c.said.result
    c.in-Err.error
    (c.said.ensures.said ∙ sym (word_at c.args.params.now c.args.words.now c.loop-j.j _ c.loop-j-test.true))
    (subst (λ k. IfSome c.said.result (λ x. x.0 < k)) (sym c.loop-j.invariant.size) c.said.ensures.inside)
    c.in-Err.ensures.refused

pub loop-j-preserved : goal.loop-j-preserved
loop-j-preserved c =
    let inside : c.loop-j.j < length (map (λ w. w.now) c.args.words.now) = rw length-map c.loop-j-test.true in
    subst (Progress c.args.params.now (map (λ w. w.now) c.args.words.now) (c.loop-j.j + 1))
    (sym c.in_default.ensures.put)
    (progress-next c.args.params.now _ c.loop-j.j c.loop-j.values.items c.loop-j.invariant inside c.said.result
    (c.said.ensures.said ∙ sym (word_at c.args.params.now c.args.words.now c.loop-j.j _ c.loop-j-test.true))
    (subst (λ k. IfSome c.said.result (λ x. x.0 < k)) (sym c.loop-j.invariant.size) c.said.ensures.inside)
    c.in_default.ensures.taken)

pub returns-in_err-values-clause-said : goal.returns-in_err-values-clause-said
returns-in_err-values-clause-said c = if_err _ c.from_residual.result c.from_residual.ensures.0

pub returns-in_err-values-clause-refused : goal.returns-in_err-values-clause-refused
returns-in_err-values-clause-refused c = grind (arith, common_steps)

pub loop-j-init : goal.loop-j-init
loop-j-init c = grind (arith, common_steps)

pub returns-in-Err-clause-said : goal.returns-in-Err-clause-said
returns-in-Err-clause-said c = tt

pub returns-clause-said : goal.returns-clause-said
returns-clause-said c =
    said-all c.args.params.now (map (λ w. w.now) c.args.words.now) c.loop-j.j c.loop-j.values.items c.loop-j.invariant
    (rw length-map c.loop-j-test.false)

pub returns-clause-refused : goal.returns-clause-refused
returns-clause-refused c = tt
