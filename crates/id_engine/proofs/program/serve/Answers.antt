use Rattle.std.proofs.Common.{Err, ap, refl}
use Rattle.id_engine.specs.Served.{done}
use Rattle.id_engine.proofs.ServedLemmas.{Serves-error}
use Rattle.id_engine.proofs.program.serve.Goals as goal

pub returns-in-Ok : goal.returns-in-Ok
returns-in-Ok g c = done c.in-Ok.ensures.shown c.in-Ok.ensures.taken c.in-Ok.ensures.ran refl

pub returns-in-Err : goal.returns-in-Err
returns-in-Err g c =
    Serves-error _ _ _ _ _ _ _ c.in-Err.error _ (λ e. c.in-Err.ensures.cut (ap (λ x. Err x) e))
    (λ e. c.in-Err.ensures.front (ap (λ x. Err x) e))
    c.in-Err.ensures.silent c.in-Err.ensures.refused c.tell.ensures
