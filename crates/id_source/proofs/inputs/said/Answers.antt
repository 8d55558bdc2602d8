-- A word says what its cut says.
use Rattle.std.proofs.Common.{◌<◌, length, ap, sym, ◌∙◌}
use Rattle.std.specs.Option.{option_and_then}
use Rattle.std.proofs.lemmas.Option.{slice_get-get_or}
use Rattle.id_source.specs.Inputs.{said_by, said_of, value_spelled, Says}
use Rattle.id_source.specs.Reading.{cut_so}
use Rattle.id_source.proofs.inputs.said.Goals as goal

pub returns-in_default-clause-said : goal.returns-in_default-clause-said
returns-in_default-clause-said c = sym (ap (said_by c.args.params.now) (sym c.cut.ensures ∙ ap cut_so c.in_default.is))

pub returns-in_default-number_of-clause-said : goal.returns-in_default-number_of-clause-said
returns-in_default-number_of-clause-said c =
    sym (ap (said_by c.args.params.now) (sym c.cut.ensures ∙ ap cut_so c.in-Some.is)
    ∙ ap (said_of c.args.params.now c.in-Some.value.now) (sym c.number_of.ensures.number ∙ c.in_default-number_of.is))

pub returns-clause-said : goal.returns-clause-said
returns-clause-said c =
    let inside : c.in-Some-number_of.n < length c.args.params.now =
    rw c.in-Some-number_of.is at c.number_of.ensures.inside in
    sym (ap (said_by c.args.params.now) (sym c.cut.ensures ∙ ap cut_so c.in-Some.is)
    ∙ ap (said_of c.args.params.now c.in-Some.value.now) (sym c.number_of.ensures.number ∙ c.in-Some-number_of.is)
    ∙ ap (λ q. Says c.in-Some-number_of.n (option_and_then (λ p. value_spelled p.kind c.in-Some.value.now) q))
    (slice_get-get_or c.args.params.now c.in-Some-number_of.n c.index-params-n.result inside)
    ∙ ap (Says c.in-Some-number_of.n) (sym c.value_spelled.ensures))
