use Rattle.std.proofs.Common.{rules, Ok, Err, refl, sym, ◌∙◌}
use Rattle.id_engine.specs.Settled.{sent}
use Rattle.id_engine.proofs.stream.settle.Goals as goal

pub returns-in-Ok : goal.returns-in-Ok
returns-in-Ok g c = record {
  settled = sent (Ok c.in-Ok.field-0) (λ e. c.if-status.false (e ∙ sym c.status.ensures)) c.in-Ok.ensures (refl, refl);
  bytes = c.in-Ok.ensures.contents;
}

pub returns-in-Err : goal.returns-in-Err
returns-in-Err g c = record {
  settled =
      sent (Err c.in-Err.field-0) (λ e. c.if-status.false (e ∙ sym c.status.ensures)) c.in-Err.ensures (
        search rules,
        search rules,
      );
  bytes = c.in-Err.ensures.contents;
}
