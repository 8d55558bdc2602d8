-- What is found is of the text's program, on the inputs that the words give.
use Rattle.std.proofs.Common.{map}
use Rattle.id_source.specs.Sources.{Source, source}
use Rattle.id_compile.specs.Programs.{HasInputs}
use Rattle.id_compile.specs.Refusals.AreRefusedFacts.{by_source}
use Rattle.id_engine.proofs.AnsweredLemmas.{late_rounds, refused_rounds}
use Rattle.id_engine.proofs.why.reasons_of.Goals as goal

pub returns : goal.returns
returns c = record {
  text = tt;
  reasons = tt;
  taken = tt;
  refused = by_source c.in-Err.ensures.refused;
  inside = c.in-Err.ensures.inside;
  not_write = c.in-Err.ensures.not_write;
}

pub returns-in-Ok-reasons_of_prepared : goal.returns-in-Ok-reasons_of_prepared
returns-in-Ok-reasons_of_prepared c =
    let p = c.in-Ok.prepared in
    let e = c.in-Ok.ensures in
    let r = c.in-Ok-reasons_of_prepared.ensures in
    let has : HasInputs c.args.text.now (map (λ w. w.now) c.args.inputs.now) = record {
      program = p.compiled.checked;
      is_program = e.program;
      small = e.small;
      inputs = p.inputs.values;
      are_inputs = e.inputs;
    } in
    record {
      text = e.text;
      reasons = record {
        is_program = e.program;
        inputs = p.inputs.values;
        are_inputs = e.inputs;
        are = r.reasons;
      };
      taken = record { inputs = has; few_rounds = r.few };
      refused = tt;
      inside = tt;
      not_write = tt;
    }

pub returns-in-Ok : goal.returns-in-Ok
returns-in-Ok c =
    let p = c.in-Ok.prepared in
    let e = c.in-Ok.ensures in
    let text = c.args.text.now in
    let ws = map (λ w. w.now) c.args.inputs.now in
    let n = c.args.round in
    let error = c.in-Err-reasons_of_prepared.error in
    let why = c.in-Err-reasons_of_prepared.ensures.refused in
    let S : Source = source p.compiled.checked p.inputs.values in
    let has : HasInputs text ws = record {
      program = p.compiled.checked;
      is_program = e.program;
      small = e.small;
      inputs = p.inputs.values;
      are_inputs = e.inputs;
    } in
    let late = late_rounds text S n error why in
    record {
      text = tt;
      reasons = tt;
      taken = tt;
      refused = refused_rounds text ws n has error why;
      inside = late.0;
      not_write = late.1;
    }
