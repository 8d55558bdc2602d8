-- What is refused is refused in the words or for want of a value.
use Rattle.std.proofs.Common.{map, sym, subst}
use Rattle.std.proofs.lemmas.Grind.{common_steps}
use Rattle.std.proofs.Common.{arith}
use Rattle.std.proofs.lemmas.Result.{IfErr-weaker, IfOk-weaker}
use Rattle.id_source.specs.Reading.{AreSaid}
use Rattle.id_source.proofs.InputsLemmas.{lack-cause, said-given}
use Rattle.id_source.proofs.TurnsLemmas.{if_err}
use Rattle.id_source.proofs.inputs.inputs_for.Goals as goal

pub returns-in_err-values-clause-given : goal.returns-in_err-values-clause-given
returns-in_err-values-clause-given c = if_err _ c.from_residual.result c.from_residual.ensures.0

pub returns-in_err-values-clause-refused : goal.returns-in_err-values-clause-refused
returns-in_err-values-clause-refused c = grind (arith, common_steps)

pub returns-clause-given : goal.returns-clause-given
returns-clause-given c =
    IfOk-weaker c.all_of.result _ _
    (λ v same. said-given c.args.params.now (map (λ w. w.now) c.args.words.now) c.in_ok-values.values.items
    c.as_slice.result.now v.items
    c.in_ok-values.ensures.said c.as_slice.ensures.value same)
    c.all_of.ensures.same

pub returns-clause-refused : goal.returns-clause-refused
returns-clause-refused c =
    IfErr-weaker c.all_of.result _ _
    (λ e lack. lack-cause c.args.params.now (map (λ w. w.now) c.args.words.now) c.as_slice.result.now
    (subst (λ vs. AreSaid c.args.params.now (map (λ w. w.now) c.args.words.now) vs) (sym c.as_slice.ensures.value)
    c.in_ok-values.ensures.said) e lack)
    c.all_of.ensures.lack
