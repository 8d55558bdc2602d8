use Rattle.std.proofs.Common.{◌≡◌, ◌∙◌, ℕ, List, ap, sym, subst, string_bytes}
use Rattle.id_graph.specs.Dot.{dot_text}
use Rattle.id_engine.specs.Commands.{IsPictureOf}
use Rattle.id_compile.specs.Programs.{HasProgram}
use Rattle.id_compile.specs.Refusals.{IsRefusedText}
use Rattle.id_compile.specs.Refusals.IsRefusedText.{by_text, by_memory}
use Rattle.id_compile.proofs.AnsweredLemmas.{if_err, if_ok, late_memory, on_ok}
use Rattle.id_engine.proofs.commands.picture_of.Goals as goal

pub returns-in-Err : goal.returns-in-Err
returns-in-Err c = record {
  picture = tt;
  program = tt;
  refused = by_text _ c.in-Err.ensures.refused;
  inside = c.in-Err.ensures.inside;
  not_write = λ h. absurd cc;
}

pub returns-in-Ok : goal.returns-in-Ok
returns-in-Ok c = record {
  picture =
      if_ok c.draw_compiled.result (λ s. string_bytes s ≡ dot_text c.in-Ok.compiled.text c.in-Ok.compiled.graph)
      (λ s. IsPictureOf c.args.text.now (string_bytes s))
      (λ s h. record {
        program = c.in-Ok.compiled.checked;
        is_program = c.in-Ok.ensures.program;
        graph = c.in-Ok.compiled.graph;
        own = c.draw_compiled.ensures.own;
        picture_is = h ∙ ap (λ (t : List ℕ). dot_text t c.in-Ok.compiled.graph) c.in-Ok.ensures.text;
      }) c.draw_compiled.ensures.picture;
  program = (let has : HasProgram c.args.text.now = record {
    program = c.in-Ok.compiled.checked;
    is_program = c.in-Ok.ensures.program;
    small =
        c.in-Ok.ensures.small;
  } in
      on_ok c.draw_compiled.result (HasProgram c.args.text.now) has);
  refused =
      if_err _ _ _ (λ e h. subst (IsRefusedText c.args.text.now) (sym h) by_memory) c.draw_compiled.ensures.memory;
  inside = if_err _ _ _ (λ e h. let l = late_memory c.args.text.now e h in l.0) c.draw_compiled.ensures.memory;
  not_write = if_err _ _ _ (λ e h. let l = late_memory c.args.text.now e h in l.1) c.draw_compiled.ensures.memory;
}
