use Rattle.std.proofs.Common.{List, ℕ, subst}
use Rattle.id_compile.specs.Refusals.{Tells}
use Rattle.id_engine.proofs.ServedLemmas.{told_inside}
use Rattle.id_engine.proofs.program.tell.Goals as goal

pub refuse-requires : goal.refuse-requires
refuse-requires g c = told_inside c.args.text.now _ c.args.error.now _ c.of_engine_error.ensures c.requires

pub returns : goal.returns
returns g c = record {
  refusal = c.of_engine_error.result;
  tells = subst (λ (ws : List (List ℕ)). Tells ws c.args.error.now c.of_engine_error.result) c.words_of.ensures
      c.of_engine_error.ensures;
  printed = c.refuse.ensures.printed;
  status_is = c.refuse.ensures.status;
}
