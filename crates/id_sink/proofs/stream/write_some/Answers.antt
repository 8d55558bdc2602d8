use Rattle.std.proofs.KnownBytes.{Keeps-refl, Keeps-trans}
use Rattle.id_sink.proofs.WritingLemmas.{AreCut-start, AreCut-more}
use Rattle.id_sink.proofs.stream.write_some.Goals as goal

pub loop-cuts-init : goal.loop-cuts-init
loop-cuts-init g c = (AreCut-start _, Keeps-refl _)

-- a write that was cut short is one more
pub loop-cuts-preserved : goal.loop-cuts-preserved
loop-cuts-preserved g c = (
  AreCut-more _ _ _ _ _ c.loop-cuts.invariant.0 c.in-None.ensures.outlook,
  Keeps-trans _ _ _ c.loop-cuts.invariant.1 c.in-None.ensures.bytes,
)
