use Rattle.std.proofs.Common.{length}
use Rattle.id_sink.proofs.SinkLemmas.{Going}
use Rattle.id_sink.proofs.sink.put.Given as goal

-- a front of the bytes is out, and the rest is left
abbrev pub invariant-loop-rest : goal.invariant-loop-rest
invariant-loop-rest g l = Going (g.W.Sink.told l.initial.sink) (g.W.Sink.told l.sink) l.bytes l.rest

abbrev pub decreases-loop-rest : goal.decreases-loop-rest
decreases-loop-rest g l = length l.rest
