-- Each delivery is an event more, of which there are no more than the paths pay for.
use Rattle.id_laws.proofs.Bounding.RestLemmas.{rest_from}
use Rattle.id_laws.proofs.bounds.comes_to_rest.Goals as goal

pub returns : goal.returns
returns c = rest_from c.bounded.ensures c.sound.ensures c.never_stuck.ensures c.complete.ensures
