use Rattle.std.proofs.Common.{map, subst}
use Rattle.id_check.specs.declared.checked.Checked.{Checked}
use Rattle.id_source.specs.Inputs.{AreInputsOf}
use Rattle.id_compile.specs.Refusals.{AreRefusedFor}
use Rattle.id_compile.proofs.prepared.with_inputs.Goals as goal

pub returns-in-Ok-clause-inputs : goal.returns-in-Ok-clause-inputs
returns-in-Ok-clause-inputs c =
    subst (λ (P : Checked). AreInputsOf P (map (λ w. w.now) c.args.words.now) c.in-Ok.inputs.values) c.checked.ensures
    c.in-Ok.ensures.inputs

pub returns-in-Err-clause-refused : goal.returns-in-Err-clause-refused
returns-in-Err-clause-refused c =
    subst (λ (P : Checked). AreRefusedFor P (map (λ w. w.now) c.args.words.now) c.in-Err.error) c.checked.ensures
    c.in-Err.ensures.refused
