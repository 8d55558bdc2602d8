use Rattle.id_sink.proofs.ReadingLemmas.{of_front, of_known}
use Rattle.id_sink.proofs.source.read_text.Goals as goal

pub returns-in-Ok : goal.returns-in-Ok
returns-in-Ok g c = record {
  told = of_front _ c.in-Ok.bytes _ c.in-Ok.ensures.told c.text_of.ensures;
  known = of_known _ _ _ c.in-Ok.ensures.known c.text_of.ensures;
  kept = c.in-Ok.ensures.kept;
}
