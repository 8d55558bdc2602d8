-- So many lines of the text were read.
use Rattle.std.proofs.Common.{length}
use Rattle.id_judge.specs.Judging.{IsReady}
use Rattle.id_judge.proofs.JudgeLemmas.{ReadsTo}
use Rattle.id_judge.proofs.listen.read_ready.Given as goal

abbrev pub invariant-loop-judge : goal.invariant-loop-judge
invariant-loop-judge l = IsReady l.judge × ReadsTo l.fn.judge l.fn.text l.rest l.judge

abbrev pub decreases-loop-judge : goal.decreases-loop-judge
decreases-loop-judge l = length l.rest
