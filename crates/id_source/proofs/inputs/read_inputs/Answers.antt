-- The values are inputs of the program.
use Rattle.std.proofs.Common.{◌≡◌, List, map, sym, ◌∙◌, subst}
use Rattle.id_value.specs.declared.Constant.{Constant}
use Rattle.id_source.specs.Sources.{AreInputs}
use Rattle.id_source.specs.Inputs.{AreInputsOf, wanted}
use Rattle.id_source.proofs.InputsLemmas.{are-inputs-of, are-inputs}
use Rattle.id_source.proofs.inputs.read_inputs.Goals as goal

pub returns-clause-inputs : goal.returns-clause-inputs
returns-clause-inputs c =
    let same : c.as_slice.result.now ≡ wanted c.args.checked.now = c.as_slice.ensures.value ∙ c.in_ok-params.ensures in
    subst (λ (vs : List Constant). AreInputsOf c.args.checked.now (map (λ w. w.now) c.args.words.now) vs)
    (sym c.new.ensures)
    (are-inputs-of c.args.checked.now c.as_slice.result.now _ c.in_ok-values.values.items same
    c.in_ok-values.ensures.given)

pub returns-clause-own : goal.returns-clause-own
returns-clause-own c =
    let same : c.as_slice.result.now ≡ wanted c.args.checked.now = c.as_slice.ensures.value ∙ c.in_ok-params.ensures in
    subst (λ (vs : List Constant). AreInputs c.args.checked.now vs) (sym c.new.ensures)
    (are-inputs c.args.checked.now c.as_slice.result.now (map (λ w. w.now) c.args.words.now) c.in_ok-values.values.items
    same
    c.in_ok-values.ensures.given)
