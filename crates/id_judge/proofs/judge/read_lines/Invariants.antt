-- So many lines of the text were read.
use Rattle.std.proofs.Common.{length}
use Rattle.id_judge.specs.Judging.{IsReady}
use Rattle.id_judge.proofs.JudgeLemmas.{ReadsTo}
use Rattle.id_judge.proofs.judge.read_lines.Given as goal

abbrev pub invariant-loop-rest : goal.invariant-loop-rest
invariant-loop-rest l = IsReady l.judge × ReadsTo l.fn.judge l.fn.text l.rest l.judge

abbrev pub decreases-loop-rest : goal.decreases-loop-rest
decreases-loop-rest l = length l.rest
