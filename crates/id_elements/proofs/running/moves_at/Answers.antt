-- An element notes whether an event came to `Stuck`.
use Rattle.id_elements.proofs.RunsLemmas.{moves_noted}
use Rattle.id_elements.proofs.running.moves_at.Goals as goal

pub returns : goal.returns
returns c = moves_noted c.args.element.now.state.events c.is_stuck.result c.is_stuck.ensures
