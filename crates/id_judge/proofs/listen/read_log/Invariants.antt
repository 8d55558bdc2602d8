-- So much of the log was read as lines, and behind them these bytes.
use Rattle.id_judge.specs.Judging.{IsReady}
use Rattle.id_judge.proofs.HearLemmas.{Heard}
use Rattle.id_judge.proofs.listen.read_log.Given as goal

abbrev pub invariant-loop : goal.invariant-loop
invariant-loop g l =
    IsReady l.judge × Heard (g.L.Log.ahead l.fn.log) (g.L.Log.ahead l.log) l.fn.judge l.bytes.items l.judge
