-- A log in memory has all its bytes, and never breaks off.
use Rattle.std.proofs.Common.{◌≡◌, ap}
use Rattle.std.specs.Prelude.{Err}
use Rattle.id_compile.specs.declared.error.EngineError.TheVariants.{Write}
use Rattle.id_compile.specs.Refusals.IsRefusedRun.{by_source}
use Rattle.id_compile.specs.Refusals.IsRefusedSource.{by_memory}
use Rattle.id_engine.specs.declared.judge.Unjudged.TheVariants.{Refused}
use Rattle.id_engine.proofs.HearLemmas.{hears_all}
use Rattle.id_engine.proofs.judge.judge_text.Goals as goal

pub returns-in-Ok : goal.returns-in-Ok
returns-in-Ok g c = record {
  shown = hears_all c.args.trace.now _ c.in-Ok.ensures.shown;
  cut = λ e. absurd cc;
  silent = tt;
  taken = c.in-Ok.ensures.taken;
  refused = tt;
  inside = tt;
}

pub returns-in-Err-Refused : goal.returns-in-Err-Refused
returns-in-Err-Refused g c = record {
  shown = tt;
  cut = λ e. (let is : c.in-Err-Refused.error ≡ Write = cc in
      hears_all c.args.trace.now _
      (c.in-Err-Refused.ensures.cut (rw c.in-Err-Refused.field-0-is (ap (λ x. Err (Refused x)) is))));
  silent = λ no. rw c.in-Err-Refused.field-0-is at c.in-Err-Refused.ensures.silent (λ e. no cc);
  taken = tt;
  refused = rw c.in-Err-Refused.field-0-is at c.in-Err-Refused.ensures.refused;
  inside = rw c.in-Err-Refused.field-0-is at c.in-Err-Refused.ensures.inside;
}

pub returns-in-Err-Broken : goal.returns-in-Err-Broken
returns-in-Err-Broken g c = record {
  shown = tt;
  cut = λ e. absurd cc;
  silent = λ no. rw c.in-Err-Broken.field-0-is at c.in-Err-Broken.ensures.silent (λ e. absurd cc);
  taken = tt;
  refused = by_source by_memory;
  inside = tt;
}
