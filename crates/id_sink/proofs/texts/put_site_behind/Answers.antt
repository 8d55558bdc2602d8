use Rattle.std.proofs.Common.{◌∙◌}
use Rattle.id_sink.proofs.texts.put_site_behind.Goals as goal

pub returns : goal.returns
returns g c = record {
  prints = rw c.turn.ensures at c.put_site-done.ensures.prints;
  same = c.turn-2.ensures ∙ c.put_site-done.ensures.same ∙ c.turn.ensures;
}
