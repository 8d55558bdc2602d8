use Rattle.std.proofs.Common.{◌≡◌, ℕ, List, Err, refl, sym, subst}
use Rattle.id_sink.specs.Told.{Prints}
use Rattle.id_engine.specs.Served.{HasHelped, whole}
use Rattle.id_engine.specs.Served.HasHelped.{cut}
use Rattle.id_engine.proofs.program.help.Goals as goal

pub returns-in-Ok : goal.returns-in-Ok
returns-in-Ok g c =
    whole (subst (λ (b : List ℕ). Prints (g.O.Sink.told c.args.out.now) (g.O.Sink.told c.put.new.sink) b _)
    c.as_bytes.ensures.value
    c.in-Ok.ensures) refl

pub returns-in-Err : goal.returns-in-Err
returns-in-Err g c =
    let n : c.refuse_plainly.result ≡ 5 = c.refuse_plainly.ensures.status in
    subst (λ (k : ℕ). HasHelped c.args.text.now (g.O.Sink.told c.args.out.now) (g.O.Sink.told c.put.new.sink)
    (g.E.Sink.told c.args.err.now)
    (g.E.Sink.told c.refuse_plainly.new.err) k) (sym n)
    (cut c.in-Err.field-0
    (subst (λ (b : List ℕ). Prints (g.O.Sink.told c.args.out.now) (g.O.Sink.told c.put.new.sink) b
    (Err c.in-Err.field-0))
    c.as_bytes.ensures.value c.in-Err.ensures)
    c.refuse_plainly.ensures.printed)
