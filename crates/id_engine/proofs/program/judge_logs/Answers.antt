-- One log is judged as it is, and several as they are merged.
use Rattle.id_engine.proofs.ServedLemmas.{logs_ahead-one, logs_ahead-several}
use Rattle.id_engine.proofs.program.judge_logs.Goals as goal

pub returns-then-names-eq1 : goal.returns-then-names-eq1
returns-then-names-eq1 g c =
    let told = g.T.Logs.told c.args.logs.now in
    rw (logs_ahead-one (λ name. name.now) told c.args.names.now _ c.if-names-eq1.true) at
    (c.judge_opened.ensures _ c.open.ensures.opened c.open.ensures.lost)

pub returns-else-names-eq1 : goal.returns-else-names-eq1
returns-else-names-eq1 g c =
    let told = g.T.Logs.told c.args.logs.now in
    rw (logs_ahead-several (λ name. name.now) told c.args.names.now c.if-names-eq1.false) at
    (c.judge_opened-else-names-eq1.ensures _ c.open_merged.ensures.opened c.open_merged.ensures.lost)
