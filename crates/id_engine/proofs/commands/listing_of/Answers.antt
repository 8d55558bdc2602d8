use Rattle.std.proofs.Common.{sym, subst}
use Rattle.id_compile.specs.Programs.{HasProgram}
use Rattle.id_compile.specs.Refusals.{IsRefusedText}
use Rattle.id_compile.specs.Refusals.IsRefusedText.{by_text, by_memory}
use Rattle.id_compile.proofs.AnsweredLemmas.{if_err, late_memory, on_ok}
use Rattle.id_engine.proofs.commands.listing_of.Goals as goal

pub returns-in-Err : goal.returns-in-Err
returns-in-Err c = record {
  listing = tt;
  program = tt;
  refused = by_text _ c.in-Err.ensures.refused;
  inside = c.in-Err.ensures.inside;
  not_write = λ h. absurd cc;
}

pub returns-in-Ok : goal.returns-in-Ok
returns-in-Ok c = record {
  listing = rw c.in-Ok.ensures.text at c.list_compiled.ensures.listing;
  program = (let has : HasProgram c.args.text.now = record {
    program = c.in-Ok.compiled.checked;
    is_program = c.in-Ok.ensures.program;
    small =
        c.in-Ok.ensures.small;
  } in
      on_ok c.list_compiled.result (HasProgram c.args.text.now) has);
  refused =
      if_err _ _ _ (λ e h. subst (IsRefusedText c.args.text.now) (sym h) by_memory) c.list_compiled.ensures.memory;
  inside = if_err _ _ _ (λ e h. let l = late_memory c.args.text.now e h in l.0) c.list_compiled.ensures.memory;
  not_write = if_err _ _ _ (λ e h. let l = late_memory c.args.text.now e h in l.1) c.list_compiled.ensures.memory;
}
