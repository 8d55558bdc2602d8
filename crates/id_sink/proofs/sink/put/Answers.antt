use Rattle.std.proofs.Common.{rules}
use Rattle.id_sink.proofs.SinkLemmas.{Going-write}
use Rattle.id_sink.proofs.sink.put.Goals as goal

-- a write took some bytes
pub loop-rest-preserved : goal.loop-rest-preserved
loop-rest-preserved g c = Going-write _ _ _ _ _ c.in-Ok.n c.loop-rest.invariant c.in-Ok.ensures.told (search rules)
