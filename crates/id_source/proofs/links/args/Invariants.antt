-- The arguments among the rows so far.
use Rattle.id_source.specs.Links.{AreArgsTo}
use Rattle.id_source.proofs.links.args.Given as goal

abbrev pub invariant-loop-n : goal.invariant-loop-n
invariant-loop-n l = AreArgsTo l.checked l.n l.args
