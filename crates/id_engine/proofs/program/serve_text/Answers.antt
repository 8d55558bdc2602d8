use Rattle.std.proofs.Common.{map}
use Rattle.id_engine.proofs.ServedLemmas.{Drives-by, Drives-served, asks_to_judge}
use Rattle.id_engine.proofs.program.serve_text.Goals as goal

pub judge_logs-requires : goal.judge_logs-requires
judge_logs-requires g c =
    asks_to_judge c.args.request.now (map (λ name. name.now) c.in-Some.names.now) (rw c.in-Some.is at c.logs_of.ensures)

pub returns-in-Some : goal.returns-in-Some
returns-in-Some g c = λ told is.
    Drives-by told (g.T.Logs.told c.args.logs.now) c.args.request.now c.args.text.now _ _ _ _ c.judge_logs.result
    (map (λ name. name.now) c.in-Some.names.now)
    (rw c.in-Some.is at c.logs_of.ensures) is c.judge_logs.ensures

pub returns-in-None : goal.returns-in-None
returns-in-None g c = λ told is.
    Drives-served told _ c.args.request.now c.args.text.now _ _ _ _ c.serve.result
    (rw c.in-None.is at c.logs_of.ensures) is c.serve.ensures
