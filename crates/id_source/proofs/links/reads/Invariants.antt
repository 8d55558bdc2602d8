-- What the rows so far read.
use Rattle.id_source.specs.Links.{AreReadsTo}
use Rattle.id_source.proofs.links.reads.Given as goal

abbrev pub invariant-loop-n : goal.invariant-loop-n
invariant-loop-n l = AreReadsTo l.checked l.n l.reads
