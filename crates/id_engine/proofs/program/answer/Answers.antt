use Rattle.std.proofs.Common.{List, ℕ, refl, sym, subst, ◌∙◌}
use Rattle.id_sink.specs.Told.{Prints}
use Rattle.id_args.specs.declared.request.Unasked.{Unasked}
use Rattle.id_engine.specs.Served.{Answers}
use Rattle.id_engine.proofs.program.answer.Goals as goal

pub returns-in-Refused : goal.returns-in-Refused
returns-in-Refused g c =
    let said =
    subst (λ (b : List ℕ). Prints (g.E.Sink.told c.args.err.now) (g.E.Sink.told c.put.new.sink) b c.put.result)
    (c.as_bytes.ensures.value ∙ c.as_str.ensures.value) c.put.ensures in
    subst (λ (u : Unasked). Answers (g.O.Sink.told c.args.out.now) (g.O.Sink.told c.args.out.now)
    (g.E.Sink.told c.args.err.now)
    (g.E.Sink.told c.put.new.sink) u 4) (sym c.in-Refused.is)
    (refl, record { written = c.put.result; printed = said }, refl)
